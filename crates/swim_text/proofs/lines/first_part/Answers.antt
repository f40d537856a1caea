use Rattle.std.proofs.Common.{◌∷◌, [], length, ap, append-nil, length-append, arith}
use Rattle.std.proofs.lemmas.List.{take_all}
use Rattle.swim_text.specs.Parts.{cut_joined, first_free, first_with}
use Rattle.swim_text.proofs.lines.first_part.Goals as goal

pub returns-in-Some : goal.returns-in-Some
returns-in-Some c =
    let bytes = c.args.bytes.now in
    let part = c.in-Some.part.now in
    let joined = cut_joined 10 bytes (part, c.in-Some.field-0-1.now) c.in-Some.ensures in
    record {
      front = first_with 10 bytes (part, c.in-Some.field-0-1.now) c.in-Some.ensures;
      fits = omega (
        arith,
        ap length joined,
        length-append part (10 ∷ []),
        length-append part (10 ∷ c.in-Some.field-0-1.now),
      );
      some = λ _. omega (arith, length-append part (10 ∷ []));
      within = rw c.in-Some.ensures at (first_free 10 bytes);
    }

pub returns-in-None : goal.returns-in-None
returns-in-None c =
    let bytes = c.args.bytes.now in
    record {
      front = rw append-nil (take_all (length bytes) bytes (omega arith));
      fits = omega (arith, length-append bytes []);
      some = λ h. omega (arith, length-append bytes []);
      within = rw c.in-None.ensures at (first_free 10 bytes);
    }
