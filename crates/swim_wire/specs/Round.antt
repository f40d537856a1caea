-- The two lists of a round (section 4.3 of the SWIM paper), and what changes them.
use Rattle.std.specs.Prelude.{◌≡◌, ◌≢◌, ℕ, ◌-◌, List, [], ◌∷◌, ◌++◌, length, insert, if◌then◌else◌, nat_lt, Option}
use Rattle.std.specs.Prelude.{Some, None, IsPermutation}
use Rattle.swim_wire.specs.Ids.{without}

-- who was probed in this round, in order, and who is to be
pub record Lists : Type 0 where
  pub probed : List ℕ
  pub rest : List ℕ

-- the listed members: those probed, then those to be probed
abbrev pub all_of : Lists → List ℕ
all_of r = r.probed ++ r.rest

-- a member leaves
abbrev pub leave : ℕ → Lists → Lists
leave id r = record { probed = without id r.probed; rest = without id r.rest }

-- the judged member, if any, leaves
abbrev pub leave_judged : Option ℕ → Lists → Lists
leave_judged None r = r
leave_judged (Some id) r = leave id r

-- an order is drawn exactly where nobody is left to be probed and somebody was, and it is one of those probed
abbrev pub MayDraw : Option (List ℕ) → Lists → Type 0
MayDraw None r = r.rest ≡ [] → r.probed ≡ []
MayDraw (Some order) r = (r.rest ≡ []) × (r.probed ≢ []) × IsPermutation r.probed order

-- where an order was drawn, a new round begins in that order
abbrev pub redraw : Option (List ℕ) → Lists → Lists
redraw None r = r
redraw (Some order) r = record { probed = []; rest = order }

-- the head of those to be probed, if any, goes to the end of those probed
abbrev pub advanced : List ℕ → List ℕ → Lists
advanced probed [] = record { probed = probed; rest = [] }
advanced probed (id ∷ rest) = record { probed = probed ++ id ∷ []; rest = rest }

abbrev pub advance : Lists → Lists
advance r = advanced r.probed r.rest

-- a joiner takes a place: among those probed, where it waits for the next round, or among those to be probed
abbrev pub join_at : ℕ → ℕ → Lists → Lists
join_at id place r =
    if nat_lt place (length r.probed)
    then record { probed = insert r.probed place id; rest = r.rest }
    else record { probed = r.probed; rest = insert r.rest (place - length r.probed) id }
