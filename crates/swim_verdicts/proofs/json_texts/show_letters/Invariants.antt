use Rattle.std.proofs.Common.{◌≡◌, ℕ, List, ◌++◌, flat_map, IsUtf8, chars}
use Rattle.std.specs.Fmt.{HasWritten, IsPlainFormatter}
use Rattle.std.specs.Str.Iter.{chars_rest}
use Rattle.swim_verdicts.specs.JsonTexts.{json_letter}
use Rattle.swim_verdicts.proofs.json_texts.show_letters.Given as goal

-- what was written, and the letters that are left, are all letters
abbrev pub invariant-loop-letter : goal.invariant-loop-letter
invariant-loop-letter g l = IsUtf8 (chars_rest l.letter-iterator)
    × (IsPlainFormatter l.fn.f → (done : List ℕ) × HasWritten g.W.Write.write_str_gives l.fn.f done l.f
    × (done ++ flat_map json_letter (chars (chars_rest l.letter-iterator)) ≡ flat_map json_letter (chars l.fn.text)))
