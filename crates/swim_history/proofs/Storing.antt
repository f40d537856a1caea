-- Stored entries stay what they are as more are stored, and a new one is what was given.
use Rattle.std.proofs.Common.{◌≡◌, ℕ, ◌<◌, ◌≤◌, List, [], ◌∷◌, ◌++◌, length, map, get_or, take, drop, length-append}
use Rattle.std.proofs.Common.{length-drop, take_all, refl, ap, ◌∙◌, arith}
use Rattle.std.proofs.Math.ListN.{get_or-append}
use Rattle.std.proofs.Math.Seq.{get_or-append_seam}
use Rattle.std.proofs.lemmas.List.{drop_at, drop-append-le, take-append-le, map_push}
use Rattle.swim_history.specs.declared.entries.Choice.{Choice}
use Rattle.swim_history.specs.declared.entries.Choice.TheVariants as choices
use Rattle.swim_history.specs.declared.entries.Entry.{Entry}
use Rattle.swim_history.specs.declared.storage.Drawn.{Drawn}
use Rattle.swim_history.specs.declared.storage.Drawn.TheVariants.{Nothing, Round}
use Rattle.swim_history.specs.declared.storage.Slot.{Slot}
use Rattle.swim_history.specs.declared.storage.Slot.TheVariants.{Quiet, Whole}
use Rattle.swim_history.specs.declared.storage.Stored.{Stored}
use Rattle.swim_history.specs.declared.replies.Relay.{Relay}
use Rattle.swim_history.specs.declared.replies.Reply.{Reply}
use Rattle.swim_history.specs.declared.replies.Reply.TheVariants as replies
use Rattle.swim_history.specs.declared.stored_replies.StoredReply.{StoredReply}
use Rattle.swim_history.specs.declared.stored_replies.StoredReply.TheVariants as stored_replies
use Rattle.swim_history.specs.Storing.StoredReplies.{relays_in, reply_at, reply_among, IsAskedWithin}
use Rattle.swim_history.specs.Storing.Storage.{ids_in, drawn_at, choice_among, no_stored, entry_in, IsWithin}
use Rattle.swim_history.specs.Storing.Storage.{IsStoredWithin, AreWithin, IsPlaced, ArePlaced}
use Rattle.swim_history.proofs.Each.{each_at}

-- ids put behind the others are found there
choice_found : (ids : List ℕ) (choice : Choice) →
    choice_among (ids ++ ids_in choice) (drawn_at (length ids) choice) ≡ choice
choice_found ids choices.Nothing = refl
choice_found ids (choices.Round order) =
    ap (λ xs. choices.Round (record { items = xs }))
    (ap (take (length order.items)) (drop_at ids order.items (length ids) refl) ∙
    take_all (length order.items) order.items (omega arith))

-- and those before stay where they are
choice_stays : (ids more : List ℕ) (drawn : Drawn) → IsWithin (length ids) drawn →
    choice_among (ids ++ more) drawn ≡ choice_among ids drawn
choice_stays ids more Nothing within = refl
choice_stays ids more (Round count start) within =
    ap (λ xs. choices.Round (record { items = xs }))
    (ap (take count) (drop-append-le start ids more (omega (arith, within))) ∙
    take-append-le count (drop start ids) more (omega (arith, within, length-drop start ids)))

-- the same of relays
reply_found : (relays : List Relay) (reply : Reply) →
    reply_among (relays ++ relays_in reply) (reply_at (length relays) reply) ≡ reply
reply_found relays (replies.Asked target peer number asked) =
    ap (λ xs. replies.Asked target peer number (record { items = xs }))
    (ap (take (length asked.items)) (drop_at relays asked.items (length relays) refl) ∙
    take_all (length asked.items) asked.items (omega arith))
reply_found relays replies.Quiet = refl
reply_found relays (replies.Started judged probe) = refl
reply_found relays replies.Heard = refl
reply_found relays (replies.Send peer message) = refl
reply_found relays (replies.Dropped reason) = refl
reply_found relays (replies.Joined place) = refl
reply_found relays replies.Removed = refl
reply_found relays (replies.Refused reason) = refl

reply_stays : (relays more : List Relay) (reply : StoredReply) → IsAskedWithin (length relays) reply →
    reply_among (relays ++ more) reply ≡ reply_among relays reply
reply_stays relays more (stored_replies.Asked target peer number count start) within =
    ap (λ xs. replies.Asked target peer number (record { items = xs }))
    (ap (take count) (drop-append-le start relays more (omega (arith, within))) ∙
    take-append-le count (drop start relays) more (omega (arith, within, length-drop start relays)))
reply_stays relays more stored_replies.Quiet within = refl
reply_stays relays more (stored_replies.Started judged probe) within = refl
reply_stays relays more stored_replies.Heard within = refl
reply_stays relays more (stored_replies.Send peer message) within = refl
reply_stays relays more (stored_replies.Dropped reason) within = refl
reply_stays relays more (stored_replies.Joined place) within = refl
reply_stays relays more stored_replies.Removed within = refl
reply_stays relays more (stored_replies.Refused reason) within = refl

-- so an entry stays what it is as more are stored
entry_stays : (ids more : List ℕ) (relays asked : List Relay) (whole others : List Stored) (slot : Slot) →
    IsPlaced (length whole) slot → AreWithin (length ids) (length relays) whole
    → entry_in (ids ++ more) (relays ++ asked) (whole ++ others) slot ≡ entry_in ids relays whole slot
entry_stays ids more relays asked whole others (Quiet seat number) placed within = refl
entry_stays ids more relays asked whole others (Whole seat number place) placed within =
    let there = get_or-append whole others no_stored place placed in
    let is = each_at (IsStoredWithin (length ids) (length relays)) whole place no_stored within placed in
    let choice = choice_stays ids more (get_or whole place no_stored).drawn is.0 in
    let reply = reply_stays relays asked (get_or whole place no_stored).reply is.1 in
    rw (there, choice, reply) refl

pub entries_stay : (ids more : List ℕ) (relays asked : List Relay) (whole others : List Stored) (slots : List Slot) →
    ArePlaced (length whole) slots → AreWithin (length ids) (length relays) whole
    → map (entry_in (ids ++ more) (relays ++ asked) (whole ++ others)) slots ≡ map (entry_in ids relays whole) slots
entries_stay ids more relays asked whole others [] placed within = refl
entries_stay ids more relays asked whole others (slot ∷ slots) placed within =
    let stays = entry_stays ids more relays asked whole others slot placed.0 within in
    let later = entries_stay ids more relays asked whole others slots placed.1 within in
    rw (stays, later) refl

-- how an entry is stored behind so many ids and relays
abbrev pub stored_at : ℕ → ℕ → Entry → Stored
stored_at ids relays e = record { drawn = drawn_at ids e.choice; call = e.call; reply = reply_at relays e.reply }

-- one more entry, stored whole
pub entry_put : (ids : List ℕ) (relays : List Relay) (whole : List Stored) (slots : List Slot) (e : Entry) →
    ArePlaced (length whole) slots → AreWithin (length ids) (length relays) whole
    → map (entry_in (ids ++ ids_in e.choice) (relays ++ relays_in e.reply)
    (whole ++ stored_at (length ids) (length relays) e ∷ [])) (slots ++ Whole e.seat e.number (length whole) ∷ []) ≡
    map (entry_in ids relays whole) slots ++ e ∷ []
entry_put ids relays whole slots e placed within =
    let stored = stored_at (length ids) (length relays) e in
    let last = get_or-append_seam whole stored [] no_stored in
    map_push (entry_in (ids ++ ids_in e.choice) (relays ++ relays_in e.reply) (whole ++ stored ∷ [])) slots
    (Whole e.seat e.number (length whole))
    ∙ (rw (
      entries_stay ids (ids_in e.choice) relays (relays_in e.reply) whole (stored ∷ []) slots placed within,
      last,
      choice_found ids e.choice,
      reply_found relays e.reply,
    ) refl)

-- ---- one more entry stands where it is placed, and its ids where they were drawn

placed_more : (count more : ℕ) (slots : List Slot) → count ≤ more → ArePlaced count slots → ArePlaced more slots
placed_more count more [] le placed = tt
placed_more count more (Quiet seat number ∷ slots) le placed = (tt, placed_more count more slots le placed.1)
placed_more count more (Whole seat number place ∷ slots) le placed =
    (omega (arith, placed.0), placed_more count more slots le placed.1)

placed_behind : (count : ℕ) (slots : List Slot) (slot : Slot) → ArePlaced count slots → IsPlaced count slot →
    ArePlaced count (slots ++ slot ∷ [])
placed_behind count [] slot placed is = (is, tt)
placed_behind count (first ∷ slots) slot placed is = (placed.0, placed_behind count slots slot placed.1 is)

pub placed_then : (whole : List Stored) (stored : Stored) (slots : List Slot) (seat number : ℕ) →
    ArePlaced (length whole) slots →
    ArePlaced (length (whole ++ stored ∷ [])) (slots ++ Whole seat number (length whole) ∷ [])
placed_then whole stored slots seat number placed =
    let more : length whole < length (whole ++ stored ∷ []) = omega (arith, length-append whole (stored ∷ [])) in
    placed_behind (length (whole ++ stored ∷ [])) slots (Whole seat number (length whole))
    (placed_more (length whole) (length (whole ++ stored ∷ [])) slots (omega (arith, more)) placed) more

is_within_more : (ids more : ℕ) (drawn : Drawn) → ids ≤ more → IsWithin ids drawn → IsWithin more drawn
is_within_more ids more Nothing le within = tt
is_within_more ids more (Round count start) le within = (within.0, omega (arith, within.1))

asked_more : (relays more : ℕ) (reply : StoredReply) → relays ≤ more → IsAskedWithin relays reply →
    IsAskedWithin more reply
asked_more relays more (stored_replies.Asked target peer number count start) le within =
    (within.0, omega (arith, within.1))
asked_more relays more stored_replies.Quiet le within = tt
asked_more relays more (stored_replies.Started judged probe) le within = tt
asked_more relays more stored_replies.Heard le within = tt
asked_more relays more (stored_replies.Send peer message) le within = tt
asked_more relays more (stored_replies.Dropped reason) le within = tt
asked_more relays more (stored_replies.Joined place) le within = tt
asked_more relays more stored_replies.Removed le within = tt
asked_more relays more (stored_replies.Refused reason) le within = tt

pub within_then : (ids more relays asked : ℕ) (whole : List Stored) (stored : Stored) → ids ≤ more → relays ≤ asked →
    AreWithin ids relays whole → IsStoredWithin more asked stored → AreWithin more asked (whole ++ stored ∷ [])
within_then ids more relays asked [] stored le least within is = (is, tt)
within_then ids more relays asked (first ∷ whole) stored le least within is = (
  (is_within_more ids more first.drawn le within.0.0, asked_more relays asked first.reply least within.0.1),
  within_then ids more relays asked whole stored le least within.1 is,
)
