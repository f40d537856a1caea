use Rattle.std.proofs.Common.{◌≡◌, ℕ, ◌≤◌, true, List, length, Option, Some, None, sym, ◌∙◌, append-nil}
use Rattle.std.proofs.Math.Seq.{take-append_seam}
use Rattle.std.proofs.lemmas.Bool.{eqb-true}
use Rattle.std.proofs.lemmas.List.{take_all}
use Rattle.std.specs.Io.KnownBytes.{IsAtEnd}
use Rattle.swim_config.specs.Inputs.{IsRead, IsReading}
use Rattle.swim_config.proofs.inputs.read_input.Goals as goal

-- the bytes ended
all_read : (old now : Option (List ℕ)) (items : List ℕ) → IsReading old now items → IsAtEnd now → length items ≤ 65537 →
    IsRead old items true
all_read None now items is ends within = tt
all_read (Some bytes) None items is ends within = absurd is
all_read (Some bytes) (Some rest) items is ends within =
    let whole : bytes ≡ items = is ∙ rw ends (append-nil items) in
    rw whole (sym (take_all 65537 items within))

-- there are as many as are looked at
front_read : (old now : Option (List ℕ)) (items : List ℕ) → IsReading old now items → length items ≡ 65537 →
    IsRead old items true
front_read None now items is full = tt
front_read (Some bytes) None items is full = absurd is
front_read (Some bytes) (Some rest) items is full = rw (is, ← full) (sym (take-append_seam items rest))

pub returns-in-End-clause-bytes : goal.returns-in-End-clause-bytes
returns-in-End-clause-bytes g c =
    all_read (g.S.Source.left c.args.reader.now) (g.S.Source.left c.loop-reader.reader) c.loop-reader.text.items
    c.loop-reader.invariant.reading
    c.in-End.ensures.bytes.0 c.is_full.ensures.fits

pub returns-clause-bytes : goal.returns-clause-bytes
returns-clause-bytes g c =
    front_read (g.S.Source.left c.args.reader.now) (g.S.Source.left c.loop-reader.reader) c.loop-reader.text.items
    c.loop-reader.invariant.reading
    (eqb-true _ _ (sym c.loop-reader-test.ensures.value))
