-- What became of the calls for a datagram, by what is remembered of members that come back.
use Rattle.std.proofs.Common.{◌≡◌, ℕ, Bool, true, false, List, ◌∷◌, Option, Some, None, refl, sym, subst, ◌∙◌}
use Rattle.swim_wire.specs.Address.{Address}
use Rattle.swim_wire.specs.Messages.{Message}
use Rattle.swim_history.specs.declared.rows.Row.{Row}
use Rattle.swim_history.specs.Setting.{Setting}
use Rattle.swim_receiver.specs.Happenings.Happening.{Rejoined}
use Rattle.swim_work.specs.declared.counts.Why.{Why}
use Rattle.swim_work.specs.Calling.{Hears, IsMessage, Joins}
use Rattle.swim_work.specs.Posts.{AtSender}
use Rattle.swim_receiver.specs.declared.rejoining.Returning.{Returning}
use Rattle.swim_receiver.specs.Happenings.{Happening}
use Rattle.swim_receiver.specs.Rejoining.{HearsAndJoins, IsJoinTold, IsReturning, JoinsAgain, JoinsThen, whom}

-- a member was joined again, and that is remembered
pub joined_again : {O : Type 0} (o : Setting) (limit : ℕ) (row : Row) (before after : Returning) (old : AtSender O)
    (end : Option Why)
    (new : AtSender O) (is_joined : Bool) → Joins o limit row old end new is_joined → is_joined ≡ true →
    ((h : List Happening) → IsReturning before h → IsReturning after (Rejoined row.id ∷ h)) →
    JoinsAgain o limit row before old end new after
joined_again o limit row before after old end new true joins is told =
    (true, joins, λ h returning. (Rejoined row.id ∷ h, told h returning, refl))
joined_again o limit row before after old end new false joins is told = absurd (cc is)

-- it wasn't, and nothing is
pub not_joined : {O : Type 0} (o : Setting) (limit : ℕ) (row : Row) (returning : Returning) (old : AtSender O)
    (end : Option Why)
    (new : AtSender O) (is_joined : Bool) → Joins o limit row old end new is_joined → is_joined ≡ false →
    JoinsAgain o limit row returning old end new returning
not_joined o limit row returning old end new true joins is = absurd (cc is)
not_joined o limit row returning old end new false joins is = (false, joins, λ h was. (h, was, refl))

-- nobody is to be joined again
pub none_joined : {O : Type 0} (o : Setting) (limit me : ℕ) (h : List Happening) (bytes : List ℕ) (source : Address)
    (old : AtSender O) (heard : Option Why) (mid : AtSender O) (message : Option Message) (found : Option Row) →
    Hears o limit bytes source old heard mid → IsMessage o bytes source old heard mid message → found ≡ None →
    found ≡ whom me h source message → HearsAndJoins o limit me h bytes source old heard mid h
none_joined o limit me h bytes source old heard mid message found hears is none found_is = record {
  mid = mid;
  heard = heard;
  hears = hears;
  message = message;
  is = is;
  joins = subst (λ (f : Option Row). JoinsThen o limit f h mid heard heard mid h) (sym none ∙ found_is)
      (refl, refl, refl);
}

-- and a member was joined again
pub one_joined : {O : Type 0} (o : Setting) (limit me : ℕ) (h told : List Happening) (bytes : List ℕ)
    (source : Address)
    (old : AtSender O) (heard : Option Why) (mid : AtSender O) (message : Option Message) (found : Option Row)
    (row : Row)
    (end : Option Why) (new : AtSender O) → Hears o limit bytes source old heard mid →
    IsMessage o bytes source old heard mid message →
    found ≡ Some row → found ≡ whom me h source message → (is_joined : Bool) →
    Joins o limit row mid end new is_joined →
    IsJoinTold row is_joined h told → HearsAndJoins o limit me h bytes source old end new told
one_joined o limit me h told bytes source old heard mid message found row end new hears is some found_is
    is_joined joins is_told = record {
      mid = mid;
      heard = heard;
      hears = hears;
      message = message;
      is = is;
      joins = subst (λ (f : Option Row). JoinsThen o limit f h mid heard end new told) (sym some ∙ found_is)
          (is_joined, joins, is_told);
    }
