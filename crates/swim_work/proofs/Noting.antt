-- A knock that is noted for the receiver, or isn't, for want of room.
use Rattle.std.proofs.Common.{◌≡◌, Bool, true, false, cond, nat_eq, List, [], ◌∷◌, ◌++◌, length, Some, ap, sym, ◌∙◌}
use Rattle.swim_rejoin.specs.declared.knockers.KnockPing.{KnockPing}
use Rattle.swim_work.specs.Noting.{note_of, noted}
use Rattle.swim_work.specs.declared.tidings.Note.{Note}

abbrev choice : List Note → KnockPing → Bool → List Note
choice notes knock is_full = cond is_full notes (notes ++ note_of knock ∷ [])

pub taken : (notes now : List Note) (knock : KnockPing) → nat_eq (length notes) 64 ≡ false →
    now ≡ notes ++ note_of knock ∷ [] → now ≡ noted notes (Some knock)
taken notes now knock room is = is ∙ sym (ap (choice notes knock) room)

pub too_many : (notes now : List Note) (knock : KnockPing) → nat_eq (length notes) 64 ≡ true → now ≡ notes →
    now ≡ noted notes (Some knock)
too_many notes now knock full is = is ∙ sym (ap (choice notes knock) full)
