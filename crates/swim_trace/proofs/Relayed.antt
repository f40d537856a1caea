-- The ways of relays, one relay after the other.
use Rattle.std.proofs.Common.{◌≡◌, ℕ, ◌+◌, ◌<◌, List, [], ◌∷◌, ◌++◌, length, get_or, map, take, refl, sym, ap, ◌∙◌}
use Rattle.std.proofs.Common.{append_assoc}
use Rattle.std.proofs.lemmas.List.{take_more}
use Rattle.swim_history.specs.declared.replies.Relay.{Relay}
use Rattle.swim_trace.specs.declared.acts.Act.{Act}
use Rattle.swim_trace.specs.declared.acts.ProbeName.{ProbeName}
use Rattle.swim_trace.specs.Legs.{relay_legs}
use Rattle.swim_trace.specs.Fates.{way, relay_ways}

relay_ways-append : (p : ProbeName) (acts : List Act) (told : List ℕ) (xs ys : List Relay) →
    relay_ways p acts told (xs ++ ys) ≡ relay_ways p acts told xs ++ relay_ways p acts told ys
relay_ways-append p acts told [] ys = refl
relay_ways-append p acts told (x ∷ xs) ys =
    let first = map (way p acts told) (relay_legs p x.id) in
    ap (λ rest. first ++ rest) (relay_ways-append p acts told xs ys)
    ∙ sym (append_assoc first (relay_ways p acts told xs) (relay_ways p acts told ys))

-- the ways of one relay more
pub relay_ways_more : (p : ProbeName) (acts : List Act) (told : List ℕ) (xs : List Relay) (i : ℕ) (d : Relay) →
    i < length xs →
    relay_ways p acts told (take (i + 1) xs)
    ≡ relay_ways p acts told (take i xs) ++ map (way p acts told) (relay_legs p (get_or xs i d).id)
relay_ways_more p acts told xs i d lt =
    ap (relay_ways p acts told) (take_more xs i d lt)
    ∙ relay_ways-append p acts told (take i xs) (get_or xs i d ∷ [])
