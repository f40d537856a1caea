use Rattle.std.proofs.Common.{◌≡◌, false, map, take}
use Rattle.std.specs.List.{list_any}
use Rattle.swim_text.specs.Lines.{has_feed}
use Rattle.swim_commands.proofs.ask_words.have_feed.Given as goal

abbrev pub invariant-loop-word : goal.invariant-loop-word
invariant-loop-word l = list_any has_feed (map (λ word. word.now) (take l.word-index l.fn.words)) ≡ false
