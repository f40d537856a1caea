-- What calls do to the member table, by the replies that fit them.
use Rattle.std.proofs.Common.{ℕ, List, None, refl, sym, ◌∙◌}
use Rattle.std.proofs.lemmas.Bool.{false≢true}
use Rattle.swim_wire.specs.Address.{Address}
use Rattle.swim_history.specs.declared.calls.Call.TheVariants.{Join}
use Rattle.swim_history.specs.declared.replies.Reply.TheVariants.{Joined, Refused}
use Rattle.swim_history.specs.declared.replies.Refusal.{Refusal}
use Rattle.swim_history.specs.declared.replies.Refusal.TheVariants.{Myself, Listed, Full, Unknown, Spent}
use Rattle.swim_history.specs.declared.entries.Choice.TheVariants.{Nothing, Round}
use Rattle.swim_history.specs.declared.entries.Entry.{Entry}
use Rattle.swim_history.specs.Setting.{Setting}
use Rattle.swim_history.specs.Run.{Answers}
use Rattle.swim_detector.specs.Recording.{IsChangeOf}

-- one that is refused changes nothing
pub no_change_refused : (o : Setting) (h : List Entry) (id : ℕ) (peer : Address) (why : Refusal) →
    Answers o h (Join id peer) (Refused why) Nothing → IsChangeOf o h (Join id peer) None
no_change_refused o h id peer Myself r (Joined place) Nothing a = absurd (a.0 r)
no_change_refused o h id peer Listed r (Joined place) Nothing a = absurd (false≢true (sym a.1 ∙ r.1))
no_change_refused o h id peer Full r (Joined place) Nothing a = absurd (a.2 r.1 r.2)
no_change_refused o h id peer Unknown r (Joined place) Nothing a = absurd r
no_change_refused o h id peer Spent r (Joined place) Nothing a = absurd r
no_change_refused o h id peer why r (Joined place) (Round order) a = absurd a
no_change_refused o h id peer why r reply choice a = refl
