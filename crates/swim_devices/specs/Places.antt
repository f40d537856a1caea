-- What is known of a path at which a socket is to be bound.
use Rattle.std.specs.Prelude.{◌≡◌, ◌⊎◌, ℕ, Bool, true, false, List, [], ◌∷◌, Option}
use Rattle.swim_devices.specs.declared.places.Found.{Found}
use Rattle.swim_devices.specs.declared.places.Found.TheVariants as found
use Rattle.swim_devices.specs.declared.places.Presence.{Presence}
use Rattle.swim_devices.specs.declared.places.Presence.TheVariants as met
use Rattle.swim_devices.specs.declared.places.Sight.{Sight}
use Rattle.swim_devices.specs.declared.places.Sight.TheVariants.{Free, Stale, Served, NoSocket, Unclear}
use Rattle.swim_trail.specs.Growing.{Grows}

-- what a contract sees of a place: what was found there, whether the lock of its folder is held, and whether what was
-- found was
-- removed
pub record Seen : Type 0 where
  pub sight : Sight
  pub is_locked : Bool
  pub is_cleared : Bool

-- a socket alone is asked, and is stale only where nobody answers
abbrev pub sight_of : Found → Presence → Sight
sight_of found.Nothing answer = Free
sight_of found.Other answer = NoSocket
sight_of found.Unknown answer = Unclear
sight_of found.Socket met.Somebody = Served
sight_of found.Socket met.Nobody = Stale
sight_of found.Socket met.Unknown = Unclear

-- a socket that nobody serves was removed at this path, under the lock of its folder, or was to be; or nothing was
abbrev pub Clears : List ℕ → Option (List (List ℕ)) → Option (List (List ℕ)) → Sight → Bool → Bool → Type 0
Clears path old new sight is_locked is_cleared =
    ((new ≡ old) × (is_cleared ≡ false))
    ⊎ (Grows old new (path ∷ []) × (sight ≡ Stale) × (is_locked ≡ true))

-- the same of a path that was taken, with what was found there
abbrev pub Removes : List ℕ → Option (List (List ℕ)) → Option (List (List ℕ)) → Seen → Type 0
Removes path old new seen = Clears path old new seen.sight seen.is_locked seen.is_cleared
