use Rattle.std.proofs.Common.{◌≡◌, ℕ, List, ◌++◌, codes, decimal, ap, ◌∙◌}
use Rattle.std.proofs.lemmas.List.{append_assoc}
use Rattle.swim_text.specs.TwoPuts.{first_failed, both_put}
use Rattle.swim_script.specs.Texts.{relays_text}
use Rattle.swim_script.proofs.answers.put_asked.Goals as goal

-- the text of an ask, up to the relays
abbrev asked : ℕ → ℕ → List ℕ
asked target number = codes "asked " ++ (decimal target ++ (codes " " ++ (decimal number ++ codes " by ")))

-- with what stands behind it
asked_by : (target number : ℕ) (relays : List ℕ) →
    asked target number ++ relays ≡
    codes "asked " ++ (decimal target ++ (codes " " ++ (decimal number ++ (codes " by " ++ relays))))
asked_by target number relays =
    ap (λ (t : List ℕ). codes "asked " ++ t)
    (append_assoc (decimal target) (codes " " ++ (decimal number ++ codes " by ")) relays
    ∙ ap (λ (t : List ℕ). decimal target ++ (codes " " ++ t)) (append_assoc (decimal number) (codes " by ") relays))

pub returns-then-not-put_pieces-clause-bytes : goal.returns-then-not-put_pieces-clause-bytes
returns-then-not-put_pieces-clause-bytes g c =
    first_failed (g.W.Sink.written c.args.writer.now) (g.W.Sink.written c.put_pieces.new.writer)
    (asked c.args.target c.args.number) (relays_text c.args.relays.now)
    (codes "asked " ++ (decimal c.args.target ++
    (codes " " ++ (decimal c.args.number ++ (codes " by " ++ relays_text c.args.relays.now)))))
    (asked_by c.args.target c.args.number (relays_text c.args.relays.now))
    (rw (c.from.ensures, c.get.ensures.value) at c.if-not-put_pieces.ensures.bytes)

pub returns-clause-bytes : goal.returns-clause-bytes
returns-clause-bytes g c =
    both_put (g.W.Sink.written c.args.writer.now) (g.W.Sink.written c.put_pieces.new.writer)
    (g.W.Sink.written c.put_relays.new.writer) (asked c.args.target c.args.number) (relays_text c.args.relays.now)
    (codes "asked " ++ (decimal c.args.target ++
    (codes " " ++ (decimal c.args.number ++ (codes " by " ++ relays_text c.args.relays.now))))) c.put_relays.result
    (asked_by c.args.target c.args.number (relays_text c.args.relays.now))
    (rw (c.from.ensures, c.get.ensures.value) at c.if-not-put_pieces.ensures.bytes) c.put_relays.ensures.bytes
