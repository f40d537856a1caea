use Rattle.std.proofs.Common.{◌≡◌, length}
use Rattle.swim_disk.proofs.backlogs.Backlog.new.Given as goal

-- as many files as were gone over have room
abbrev pub invariant-loop-file : goal.invariant-loop-file
invariant-loop-file l = (length l.spare.items ≡ l._file) × (l.spare.capacity ≡ 4)
