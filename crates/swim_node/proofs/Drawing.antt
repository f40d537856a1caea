-- What is drawn under the lock.
use Rattle.std.proofs.Common.{◌≡◌, ℕ, List, []}
use Rattle.swim_history.specs.declared.entries.Entry.{Entry}
use Rattle.swim_history.specs.Setting.{Setting}
use Rattle.swim_node.specs.Draws.{DrawsAll, IsDrawnSo}

-- nothing was drawn yet
pub drawn_first : {S : Type 0} (orders : S → List ℕ → List ℕ → S → Type 0) (places : S → ℕ → ℕ → S → Type 0)
    (o : Setting)
    (drawn : List Entry → Type 0) (h : List Entry) (start now : S) → h ≡ [] → now ≡ start →
    DrawsAll orders places o start drawn → IsDrawnSo orders places o drawn h now
drawn_first orders places o drawn h start now none same all = record { start = start; is = rw none same; all = all }
