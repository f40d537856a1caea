use Rattle.std.proofs.Common.{◌≡◌, List, ◌∷◌, length, reverse, take}
use Rattle.swim_trace.specs.Acts.{Run}
use Rattle.swim_trace.specs.Index.{KeepsWanted, Knows}
use Rattle.swim_trace.proofs.index.ActIndex.note_file.Given as goal

-- what is kept is that of the files before and of the entries so far
abbrev pub invariant-loop-place : goal.invariant-loop-place
invariant-loop-place l =
    let h = reverse (take l.place (reverse l.journal.past)) in
    KeepsWanted l.initial.self l.self × ((runs : List Run) → Knows runs l.initial.self → l.file ≡ length runs →
    Knows (record { me = l.me; past = h } ∷ runs) l.self)
