-- What the two ends of a connection noted is what passed through them.
use Rattle.std.proofs.Common.{◌≡◌, ℕ, ◌+◌, ◌-◌, ◌<◌, ◌≤◌, List, [], ◌∷◌, ◌++◌, Some, length, take, drop, refl, sym, ap}
use Rattle.std.proofs.Common.{◌∙◌, arith, append_assoc, append-nil, length-take, take-append-drop, false}
use Rattle.std.specs.Prelude.{get_or, slice_range}
use Rattle.std.specs.List.{flat_map}
use Rattle.std.proofs.lemmas.List.{drop-append-le, drop-drop, length-drop, nil_from_length, take-take, take_all}
use Rattle.swim_text.specs.Buffers.{drop_range}
use Rattle.swim_text.specs.Streams.{Puts}
use Rattle.swim_desk.specs.declared.doors.Knock.{Knock}
use Rattle.swim_desk.specs.declared.doors.Knock.TheVariants.{Conn, Idle, Refused, Fault}
use Rattle.swim_desk.specs.Doors.{ComesNew}
use Rattle.swim_devices.specs.Streams.{AtSink, AtSource, IsNew}
use Rattle.swim_devices.specs.Trails.{bytes_in, bytes_more}

-- ---- where lines come from

-- what came was noted, where nothing was ready
pub found_more : {A : Type 0} (old new : List (A × List ℕ)) (a : A) (taken ready came : List ℕ) →
    flat_map bytes_in old ≡ taken ++ ready → length ready ≡ 0 → new ≡ old ++ (a, came) ∷ [] →
    flat_map bytes_in new ≡ taken ++ came
found_more old new a taken ready came was none is =
    bytes_more old new a came is
    ∙ ap (λ t. t ++ came) (was ∙ ap (λ r. taken ++ r) (nil_from_length ready none) ∙ append-nil taken)

-- so many bytes that are ready stand in the buffer
pub within_ready : (xs : List ℕ) (start end count : ℕ) → start ≤ end → count ≤ length (slice_range xs start end) →
    start + count ≤ end
within_ready xs start end count ordered fits = omega (arith, ordered, fits, length-take (end - start) (drop start xs))

-- the first of them
pub take_range : (xs : List ℕ) (start end count : ℕ) → start + count ≤ end →
    slice_range xs start (start + count) ≡ take count (slice_range xs start end)
take_range xs start end count fits =
    let n : (start + count) - start ≡ count = omega arith in
    ap (λ n. take n (drop start xs)) n ∙ sym (take-take count (end - start) (drop start xs) (omega (arith, fits)))

-- they were noted, and the others are ready
pub taken_more : {A : Type 0} (old new : List (A × List ℕ)) (a : A) (xs : List ℕ) (start end count : ℕ) →
    start ≤ end → count ≤ length (slice_range xs start end) →
    new ≡ old ++ (a, slice_range xs start (start + count)) ∷ [] →
    flat_map bytes_in new ≡ flat_map bytes_in old ++ take count (slice_range xs start end)
taken_more old new a xs start end count ordered fits is =
    bytes_more old new a (slice_range xs start (start + count)) is
    ∙ ap (λ t. flat_map bytes_in old ++ t)
    (take_range xs start end count (within_ready xs start end count ordered fits))

pub less_ready : (xs : List ℕ) (start end count : ℕ) → start ≤ end → count ≤ length (slice_range xs start end) →
    slice_range xs (start + count) end ≡ drop count (slice_range xs start end)
less_ready xs start end count ordered fits =
    drop_range xs start end count (within_ready xs start end count ordered fits)

pub still_found : {A : Type 0} (found : List ℕ) (old new : List (A × List ℕ)) (a : A) (xs : List ℕ)
    (start end count : ℕ) → found ≡ flat_map bytes_in old ++ slice_range xs start end → start ≤ end →
    count ≤ length (slice_range xs start end) → new ≡ old ++ (a, slice_range xs start (start + count)) ∷ [] →
    found ≡ flat_map bytes_in new ++ slice_range xs (start + count) end
still_found found old new a xs start end count was ordered fits is =
    let ready = slice_range xs start end in
    was
    ∙ ap (λ t. flat_map bytes_in old ++ t) (sym (take-append-drop count ready))
    ∙ sym (append_assoc (flat_map bytes_in old) (take count ready) (drop count ready))
    ∙ ap (λ t. t ++ drop count ready) (sym (taken_more old new a xs start end count ordered fits is))
    ∙ ap (λ t. flat_map bytes_in new ++ t) (sym (less_ready xs start end count ordered fits))

-- the first byte
first_of : (xs : List ℕ) → 0 < length xs → take 1 xs ≡ get_or xs 0 0 ∷ []
first_of [] some = absurd (omega (arith, some))
first_of (x ∷ xs) some = refl

pub first_taken : (old new shown ready : List ℕ) (b : ℕ) → shown ≡ ready → 0 < length ready → b ≡ get_or shown 0 0 →
    new ≡ old ++ take 1 ready → new ≡ old ++ b ∷ []
first_taken old new shown ready b same some is more =
    more ∙ ap (λ t. old ++ t) (first_of ready some ∙ ap (λ x. x ∷ []) (ap (λ xs. get_or xs 0 0) (sym same) ∙ sym is))

-- ---- where answers go

pub none_put : (old new text : List ℕ) → new ≡ old → Puts (Some old) (Some new) text false
none_put old new text same = record { front = []; unput = text; cut = refl; grows = same ∙ sym (append-nil old) }

-- a text more was put and is held
pub held_more : (held text : List ℕ) (sent : ℕ) → sent ≤ length held →
    drop sent (held ++ text) ≡ drop sent held ++ text
held_more held text sent within = drop-append-le sent held text within

pub put_more : {A B : Type 0} (old new : List (A × List ℕ)) (a : A) (left : List (B × List ℕ))
    (held held' text : List ℕ)
    (sent : ℕ) → flat_map bytes_in old ≡ flat_map bytes_in left ++ drop sent held → sent ≤ length held →
    held' ≡ held ++ text → new ≡ old ++ (a, text) ∷ [] →
    flat_map bytes_in new ≡ flat_map bytes_in left ++ drop sent held'
put_more old new a left held held' text sent was within more is =
    bytes_more old new a text is
    ∙ ap (λ t. t ++ text) was
    ∙ append_assoc (flat_map bytes_in left) (drop sent held) text
    ∙ ap (λ t. flat_map bytes_in left ++ t) (sym (ap (drop sent) more ∙ held_more held text sent within))

-- what is held back, as it is shown
pub rest_of : (held shown : List ℕ) (sent : ℕ) → shown ≡ held → slice_range shown sent (length shown) ≡ drop sent held
rest_of held shown sent same =
    rw same (take_all (length held - sent) (drop sent held) (omega (arith, length-drop sent held)))

-- a front of what is held back has left
pub left_more : {A : Type 0} (put : List ℕ) (old new : List (A × List ℕ)) (a : A) (held : List ℕ) (sent count : ℕ) →
    put ≡ flat_map bytes_in old ++ drop sent held → new ≡ old ++ (a, take count (drop sent held)) ∷ [] →
    put ≡ flat_map bytes_in new ++ drop (sent + count) held
left_more put old new a held sent count was is =
    let rest = drop sent held in
    was
    ∙ ap (λ t. flat_map bytes_in old ++ t) (sym (take-append-drop count rest))
    ∙ sym (append_assoc (flat_map bytes_in old) (take count rest) (drop count rest))
    ∙ ap (λ t. t ++ drop count rest) (sym (bytes_more old new a (take count rest) is))
    ∙ ap (λ t. flat_map bytes_in new ++ t) (drop-drop count sent held)

-- no more than is held
pub within_held : (held : List ℕ) (sent count : ℕ) → sent ≤ length held → count ≤ length (drop sent held) →
    sent + count ≤ length held
within_held held sent count within fits = omega (arith, within, fits, length-drop sent held)

-- all of it has left
pub all_left : {A : Type 0} (put : List ℕ) (old new : List (A × List ℕ)) (a : A) (rest none : List ℕ) →
    put ≡ flat_map bytes_in old ++ rest → new ≡ old ++ (a, rest) ∷ [] → none ≡ [] →
    put ≡ flat_map bytes_in new ++ none
all_left put old new a rest none was is empty =
    was ∙ sym (bytes_more old new a rest is) ∙ sym (append-nil (flat_map bytes_in new))
    ∙ ap (λ t. flat_map bytes_in new ++ t) (sym empty)

-- nothing is held back
pub none_held : (put left rest none : List ℕ) → put ≡ left ++ rest → length rest ≡ 0 → none ≡ [] →
    put ≡ left ++ none
none_held put left rest none was empty is =
    was ∙ ap (λ t. left ++ t) (nil_from_length rest empty ∙ sym is)

-- ---- who comes

-- new ends have given nothing, and nothing was put into them
pub new_comes : (knock : Knock AtSource AtSink) → IsNew knock →
    ComesNew (λ (reader : AtSource). Some reader.taken) (λ (writer : AtSink). Some writer.put) knock
new_comes (Conn reader writer) is =
    (ap (λ (r : AtSource). Some r.taken) is.0, ap (λ (w : AtSink). Some w.put) is.1)
new_comes Idle is = tt
new_comes Refused is = tt
new_comes Fault is = tt
