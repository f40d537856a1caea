-- Laws of the requests that wait.
use Rattle.std.proofs.Common.{◌≡◌, Bool, true, false, ◌||◌, List, [], ◌∷◌, None, refl}
use Rattle.std.proofs.lemmas.Bool.{or_parts}
use Rattle.swim_wire.specs.declared.messages.Key.{Key}
use Rattle.swim_wire.specs.Probe.{same_key}
use Rattle.swim_wire.specs.Requests.{Request, waits, forget, asker_for}

-- where no request of a probe waits, there is nothing of it to forget
pub forget_none : (key : Key) (rs : List Request) → waits key rs ≡ false → forget key rs ≡ rs
forget_none key [] none = refl
forget_none key (r ∷ rs) none =
    let parts = or_parts (same_key r.key key) (waits key rs) none in
    rw (parts.0, forget_none key rs parts.1) refl

-- where nobody is to get the ack of a probe, no request of it waits
pub waits_none : (key : Key) (rs : List Request) → asker_for key rs ≡ None → waits key rs ≡ false
waits_none key [] none = refl
waits_none key (r ∷ rs) none = by (same_key r.key key) refl (waits_none key rs)
  where
    by : (b : Bool) → same_key r.key key ≡ b → (asker_for key rs ≡ None → waits key rs ≡ false) →
        (same_key r.key key || waits key rs) ≡ false
    by true e again = absurd (cc (rw e at none))
    by false e again = rw (e, again (rw e at none)) refl
