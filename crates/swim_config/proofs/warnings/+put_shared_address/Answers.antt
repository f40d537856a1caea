use Rattle.std.proofs.Common.{◌≡◌, ℕ, Bool, true, List, rules, subst, sym, ap, ◌∙◌}
use Rattle.swim_text.specs.Streams.{Puts}
use Rattle.std.proofs.Common.{◌∷◌, if◌then◌else◌}
use Rattle.swim_text.specs.TwoPuts.{first_and_others, others_of}
use Rattle.swim_history.specs.declared.rows.Row.{Row}
use Rattle.swim_config.specs.Warnings.{is_same_address, shared_address_text, shared_line}
use Rattle.swim_config.proofs.warnings.+put_shared_address.Goals as goal

-- the next one is there
at_once : (row other : Row) (others : List Row) → is_same_address row.peer other.peer ≡ true →
    shared_address_text row (other ∷ others) ≡ shared_line row.id other.id row.peer
at_once row other others is =
    ap (λ (b : Bool). if b then shared_line row.id other.id row.peer else shared_address_text row others) is

pub returns-then-is_same_address-clause-bytes : goal.returns-then-is_same_address-clause-bytes
returns-then-is_same_address-clause-bytes g t c =
    let others = others_of c.args.others.now in
    let whole : c.args.others.now ≡ c.other-item.result ∷ others =
    first_and_others c.args.others.now c.other-item.result c.in-len1-up.len_at_least c.other-item.is in
    let same : is_same_address c.args.member.now.peer c.other-item.result.peer ≡ true = search rules in
    let text = ap (shared_address_text c.args.member.now) whole ∙
    at_once c.args.member.now c.other-item.result others same in
    subst (λ (t : List ℕ). Puts (g.W.Sink.written c.args.writer.now) (g.W.Sink.written c.put_shared_line.new.writer) t
    c.put_shared_line.result) (sym text) c.put_shared_line.ensures.bytes
