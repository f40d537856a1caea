-- Lines that are written one after another.
use Rattle.std.proofs.Common.{ℕ, Bool, true, false, List, [], ◌∷◌, ◌++◌, Option, refl, sym, ◌∙◌}
use Rattle.std.proofs.Common.{append-nil}
use Rattle.std.specs.List.{list_all}
use Rattle.std.proofs.lemmas.List.Folds.{list_all-append}
use Rattle.swim_text.specs.Streams.{Puts, puts_then, puts_less}
use Rattle.swim_config.specs.declared.config_fault.ConfigFault.{ConfigFault}
use Rattle.swim_config.specs.Causes.{AreFound, PutsLines, IsCause, Causes, indented, expected_text}
use Rattle.swim_config.specs.Configuration.{is_printing}
use Rattle.swim_config.specs.Hiding.{IsDetail, hides}
use Rattle.swim_config.specs.Indented.{lines-append}

-- ---- lines of what was found

none_found : AreFound []
none_found = record { lines = []; printing = refl; hiding = refl; is = refl }

line_found : (line : List ℕ) → IsDetail line → AreFound (indented line)
line_found line detail = record {
  lines = line ∷ [];
  printing = rw detail.prints refl;
  hiding = rw detail.hidden refl;
  is = sym (append-nil (indented line));
}

both_found : (a b : List ℕ) → AreFound a → AreFound b → AreFound (a ++ b)
both_found a b p q = record {
  lines = p.lines ++ q.lines;
  printing = list_all-append (λ line. list_all is_printing line) p.lines q.lines ∙ rw (p.printing, q.printing) refl;
  hiding = list_all-append hides p.lines q.lines ∙ rw (p.hiding, q.hiding) refl;
  is = rw (p.is, q.is) (sym (lines-append p.lines q.lines));
}

-- ---- lines that are written

pub nothing_put : (o n : Option (List ℕ)) (done : Bool) → Puts o n [] done → PutsLines o n done
nothing_put o n done p = record { text = []; lines = none_found; puts = p }

pub line_put : (o n : Option (List ℕ)) (line : List ℕ) (done : Bool) → IsDetail line → Puts o n (indented line) done →
    PutsLines o n done
line_put o n line done detail p = record { text = indented line; lines = line_found line detail; puts = p }

pub lines_then : (o m n : Option (List ℕ)) (done : Bool) → PutsLines o m true → PutsLines m n done → PutsLines o n done
lines_then o m n done p q = record {
  text = p.text ++ q.text;
  lines = both_found p.text q.text p.lines q.lines;
  puts = puts_then o m n p.text q.text done p.puts q.puts;
}

-- what was expected, and what was found
is_cause : (fault : ConfigFault) (found : List ℕ) → AreFound found → IsCause fault (expected_text fault ++ found)
is_cause fault found lines = record { found = found; lines = lines; is = refl }

-- what was expected couldn't be written
pub expected_failed : (fault : ConfigFault) (o n : Option (List ℕ)) → Puts o n (expected_text fault) false →
    Causes fault o n false
expected_failed fault o n p = record {
  text = expected_text fault ++ [];
  cause = is_cause fault [] none_found;
  puts = puts_less o n (expected_text fault) [] p;
}

-- it was written, and then what was found
pub both_put : (fault : ConfigFault) (o m n : Option (List ℕ)) (done : Bool) → Puts o m (expected_text fault) true →
    PutsLines m n done → Causes fault o n done
both_put fault o m n done p q = record {
  text = expected_text fault ++ q.text;
  cause = is_cause fault q.text q.lines;
  puts = puts_then o m n (expected_text fault) q.text done p q.puts;
}
