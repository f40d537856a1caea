-- Which calls began a period.
use Rattle.std.proofs.Common.{◌≡◌, ◌+◌, Bool, true, false, [], ◌∷◌, Result, Ok, Err, refl, ap, ◌∙◌, cond, arith}
use Rattle.std.specs.Int.{from_bool}
use Rattle.std.specs.Prelude.{IfOk, IfErr}
use Rattle.std.proofs.lemmas.List.Sums.{sum_by-append}
use Rattle.swim_history.specs.declared.calls.Call.TheVariants.{Tick}
use Rattle.swim_history.specs.declared.seats.Kept.{Kept}
use Rattle.swim_history.specs.Events.{is_starting}
use Rattle.swim_history.specs.Setting.{Setting}
use Rattle.swim_node.specs.declared.receipts.CallFault.{CallFault}
use Rattle.swim_node.specs.declared.receipts.Receipt.{Receipt}
use Rattle.swim_node.specs.Answered.{kept, refused, IsAnswered}
use Rattle.swim_node.specs.Seats.{Seated}
use Rattle.swim_work.specs.Answers.{has_started}
use Rattle.swim_work.specs.Posts.{starts_in}

-- how many calls began a period, with one more
pub started_so : {N : Type 0} (o : Setting) (old new : Seated) (answer : Result (Receipt N) CallFault) →
    IfOk answer (λ r. IsAnswered o old new Tick (kept r.position r.number r.call r.reply) r.news) →
    IfErr answer (λ fault. new ≡ refused fault old) →
    starts_in new.calls ≡ starts_in old.calls + from_bool (has_started answer)
started_so o old new (Ok r) ok err =
    let k = kept r.position r.number r.call r.reply in
    ap starts_in ok.calls
    ∙ (sum_by-append (λ (c : Kept). cond (is_starting c.reply) 1 0) old.calls (k ∷ [])
    ∙ ap (λ n. starts_in old.calls + n) (one (is_starting r.reply)))
  where
    one : (b : Bool) → 0 + cond b 1 0 ≡ from_bool b
    one true = refl
    one false = refl
started_so o old new (Err f) ok err =
    let same : starts_in new.calls ≡ starts_in old.calls = ap (λ (s : Seated). starts_in s.calls) err in
    omega (arith, same)
