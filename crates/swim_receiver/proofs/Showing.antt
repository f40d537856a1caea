-- What a line was shown, one time after the other.
use Rattle.std.proofs.Common.{◌≡◌, List, [], ◌∷◌, ◌++◌, Option}
use Rattle.std.proofs.lemmas.List.Elements.{All-nil, All-cons, All-append}
use mathlib.Core.List.{IsPrefix}
use Rattle.swim_wire.specs.Address.{Address}
use Rattle.swim_history.specs.declared.rows.Change.{Change}
use Rattle.swim_history.specs.Changes.{table_after}
use Rattle.swim_history.specs.Setting.{Setting}
use Rattle.swim_trail.specs.Growing.{Grows, grows_both, grows_none}
use Rattle.swim_node.proofs.Prefixes.{begins_itself, begins_whole}
use Rattle.swim_receiver.specs.Showing.{AreMembers, AreShown, addresses_in}

pub none_shown : (o : Setting) (seen : List Change) (now : Option (List (List Address))) → AreShown o seen seen now now
none_shown o seen now = record {
  shown = [];
  grows = grows_none now;
  later = begins_itself seen;
  each = All-nil (AreMembers o seen);
}

pub one_shown : (o : Setting) (old_seen new_seen : List Change) (old new : Option (List (List Address)))
    (addresses : List Address) →
    IsPrefix old_seen new_seen → Grows old new (addresses ∷ []) → addresses ≡ addresses_in (table_after o new_seen) →
    AreShown o old_seen new_seen old new
one_shown o old_seen new_seen old new addresses later grows is = record {
  shown = addresses ∷ [];
  grows = grows;
  later = later;
  each = All-cons (AreMembers o new_seen) addresses [] (new_seen, begins_itself new_seen, is)
      (All-nil (AreMembers o new_seen));
}

pub more_shown : (o : Setting) (first mid last : List Change) (old now new : Option (List (List Address))) →
    AreShown o first mid old now → AreShown o mid last now new → AreShown o first last old new
more_shown o first mid last old now new before after = record {
  shown = before.shown ++ after.shown;
  grows = grows_both old now new before.shown after.shown before.grows after.grows;
  later = begins_whole first mid last before.later after.later;
  each = All-append (AreMembers o last) before.shown after.shown
      (λ k d within. let is = before.each k d within in (is.0, begins_whole is.0 mid last is.1 after.later, is.2))
      after.each;
}
