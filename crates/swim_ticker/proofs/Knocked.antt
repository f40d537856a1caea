-- What was knocked, start by start.
use Rattle.std.proofs.Common.{◌≡◌, ℕ, suc, ◌+◌, ◌-◌, ◌^◌, ◌≤◌, min, List, [], ◌∷◌, ◌++◌, length, Option, Some, None}
use Rattle.std.proofs.Common.{Bool, not, map, refl, sym, subst, ap, ◌∙◌, arith, append-nil, append_assoc}
use Rattle.std.specs.Prelude.{All}
use Rattle.std.specs.Int.{from_bool}
use Rattle.std.specs.Option.{option_map}
use mathlib.Core.List.{IsPrefix}
use Rattle.std.proofs.lemmas.List.{append_cancel_left, length-append, length-map}
use Rattle.std.proofs.lemmas.List.Elements.{All-pop}
use Rattle.swim_wire.specs.Address.{Address}
use Rattle.swim_wire.specs.Messages.{Message}
use Rattle.swim_wire.specs.Layout.{text_of}
use Rattle.swim_history.specs.declared.rows.Change.{Change}
use Rattle.swim_history.specs.declared.rows.Row.{Row}
use Rattle.swim_history.specs.Changes.{table_after}
use Rattle.swim_history.specs.Setting.{Setting}
use Rattle.swim_trail.specs.Growing.{Grows}
use Rattle.swim_rejoin.specs.declared.knockers.KnockPing.{KnockPing}
use Rattle.swim_rejoin.specs.Knockers.{Kept, Follows, knock_at}
use Rattle.swim_rejoin.specs.Knocking.{Start, at_start, knocked_by}
use Rattle.swim_work.specs.Ends.{both}
use Rattle.swim_work.specs.Noting.{Begins}
use Rattle.swim_work.specs.Posts.{ArePosted, Posted, datagram, handed}
use Rattle.swim_work.proofs.Posting.{none_posted, one_more_posted}
use Rattle.swim_work.proofs.Sent.{are_both}
use Rattle.swim_ticker.specs.Knocking.{AreKnocks, AreLooks, AtKnocking, HasKnocked, IsKnocking, KnocksOn, LooksOn}
use Rattle.swim_ticker.specs.Knocking.{at_knocking}
use Rattle.swim_ticker.specs.Knocking.{knock_of, knocks_of, number_after, rejoins_at, sent_as}
use Rattle.swim_ticker.proofs.Looked.{one_more_shown, still_looks}

-- no period started yet
pub none_knocked : (o : Setting) (k : Kept) (seen : List Change) (table : List Row) (asked : List ℕ)
    (now : Option (List Posted)) → table ≡ table_after o [] →
    k.me ≡ o.me → k.version ≡ o.version → Follows k [] → o.last ≡ min (o.last + 0) (2 ^ 64 - 1) →
    IsKnocking o 0 asked now (at_knocking k seen table o.last asked now 0)
none_knocked o k seen table asked now table_is me version follows within = record {
  shown = [];
  later = (seen, refl);
  table = table_is;
  has = record {
    looks = [];
    each = tt;
    at_starts = refl;
    answers = sym (append-nil asked);
    unsent = 0;
    posted = none_posted now;
    counted = omega arith;
  };
  number = within;
  me = me;
  version = version;
  follows = follows;
}

-- what was knocked by beginnings of some changes was by beginnings of more of them
pub knocked_later : (o : Setting) (starts : ℕ) (saw seen : List Change) (asked answered : List ℕ)
    (before now : Option (List Posted)) (knocks : ℕ) → IsPrefix saw seen →
    HasKnocked o starts saw asked answered before now knocks →
    HasKnocked o starts seen asked answered before now knocks
knocked_later o starts saw seen asked answered before now knocks later has = record {
  looks = has.looks;
  each = still_looks o saw seen has.looks later has.each;
  at_starts = has.at_starts;
  answers = has.answers;
  unsent = has.unsent;
  posted = has.posted;
  counted = has.counted;
}

-- none started since
pub still_knocking : (o : Setting) (at : AtKnocking) → KnocksOn o 0 at at
still_knocking o at = λ starts then asked before is_then is.
    let same : then ≡ starts = omega (arith, is_then) in
    rw same is

-- a knock as the knocker gives it is the one of its definition
sent_is : (o : Setting) (k : Kept) (number : ℕ) (whom : Option Row) → k.me ≡ o.me → k.version ≡ o.version →
    sent_as (option_map (knock_at k.me k.version number) whom) ≡ knock_of o number whom
sent_is o k number None me version = refl
sent_is o k number (Some row) me version = rw (me, version) refl

-- a period more started
pub one_more_knocked : (o : Setting) (old new : Kept) (saw seen : List Change) (was rows : List Row) (number next : ℕ)
    (rejoin : ℕ) (answered answers : List ℕ)
    (knock : Option KnockPing) (posted now : Option (List Posted)) (knocks count more : ℕ) → IsPrefix saw seen →
    LooksOn o saw was seen rows →
    next ≡ min (number + 1) (2 ^ 64 - 1) → answers ≡ answered ++ rejoin ∷ [] → Begins old rejoin rows next knock new →
    AreKnocks (sent_as knock) posted now count → more ≡ min (knocks + count) (2 ^ 64 - 1) →
    KnocksOn o 1 (at_knocking old saw was number answered posted knocks)
    (at_knocking new seen rows next answers now more)
one_more_knocked o old new saw seen was rows number next rejoin answered answers knock posted now knocks count more
    later look next_is answers_is begins sent more_is =
    λ starts then asked before is_then is.
    let has = is.has in
    let looks = has.looks in
    let fewer = knocks_of o looks in
    let so_many : length looks ≡ starts = has.at_starts in
    let ran : number ≡ min (o.last + starts) (2 ^ 64 - 1) = is.number in
    let next_number : next ≡ number_after o (length looks + 1) = omega (arith, ran, next_is, so_many) in
    let one = knock_of o (number_after o (length looks + 1)) (knocked_by rejoin looks rows) in
    let this : sent_as knock ≡ one =
    ap sent_as (begins.due looks is.follows) ∙ (sent_is o old next (knocked_by rejoin looks rows) is.me is.version
    ∙ ap (λ n. knock_of o n (knocked_by rejoin looks rows)) next_number) in
    let all = one_more_shown o saw seen was rejoin rows looks later look
    (record { shown = is.shown; later = is.later; is = is.table; each = has.each }) in
    record {
      shown = all.shown;
      later = all.later;
      table = all.is;
      has = record {
        looks = at_start rejoin rows ∷ looks;
        each = all.each;
        at_starts = (let e : suc (length looks) ≡ then = omega (arith, so_many, is_then) in e);
        answers = answers_is ∙ (ap (λ (l : List ℕ). l ++ rejoin ∷ []) has.answers
            ∙ append_assoc asked (rejoins_at looks) (rejoin ∷ []));
        unsent = has.unsent + sent.0;
        posted = are_both fewer one before posted now has.unsent sent.0 has.posted
            (subst (λ (ms : List (Address × Message)). ArePosted ms posted now sent.0) this sent.1);
        counted =
            (let before_it : knocks ≡ min (length fewer) (2 ^ 64 - 1) = has.counted in
            let is_count : count ≡ length (sent_as knock) = sent.2 in
            let same : length (sent_as knock) ≡ length one = ap (λ (ms : List (Address × Message)). length ms) this in
            omega (arith, before_it, is_count, more_is, same, length-append fewer one));
      };
      number = (let e : next ≡ min (o.last + then) (2 ^ 64 - 1) = omega (arith, ran, next_is, is_then) in e);
      me = begins.me ∙ is.me;
      version = begins.version ∙ is.version;
      follows = begins.follows looks is.follows;
    }

-- ---- a knock is sent, or there is none

pub no_knock : (knock : Option KnockPing) (now : Option (List Posted)) → knock ≡ None →
    AreKnocks (sent_as knock) now now 0
no_knock knock now none = rw none (0, none_posted now, refl)

pub one_knock : (knock : Option KnockPing) (k : KnockPing) (old new : Option (List Posted)) (bytes : List ℕ)
    (is_taken : Bool) →
    knock ≡ Some k → Grows old new (record { bytes = bytes; to = k.peer; is_taken = is_taken } ∷ []) →
    bytes ≡ text_of k.message →
    AreKnocks (sent_as knock) old new 1
one_knock knock k old new bytes is_taken is grows text =
    rw is (
      from_bool (not is_taken),
      one_more_posted ((k.peer, k.message) ∷ []) old old new 0 (from_bool (not is_taken)) 0 (k.peer, k.message) bytes
          is_taken
          (none_posted old) (omega arith) refl grows text (omega arith),
      refl,
    )

-- ---- what was handed over in a life

-- as many as the definition has
so_many_posted : (ms : List (Address × Message)) (posted : List Posted) → map handed posted ≡ map datagram ms →
    length posted ≡ length ms
so_many_posted ms posted each =
    sym (length-map posted handed) ∙ (ap (λ (l : List (Address × List ℕ)). length l) each ∙ length-map ms datagram)

pub all_knocked : (o : Setting) (starts : ℕ) (seen : List Change) (asked answered : List ℕ)
    (before now : Option (List Posted)) (old knocks new : ℕ) →
    HasKnocked o starts seen asked answered before now knocks → new ≡ both old knocks →
    (looks : List Start) × AreLooks o seen looks × (length looks ≡ starts)
    × (answered ≡ asked ++ rejoins_at looks) × (posted : List Posted) × Grows before now posted
    × (map handed posted ≡ map datagram (knocks_of o looks))
    × (new ≡ min (old + length posted) (2 ^ 64 - 1))
all_knocked o starts seen asked answered before now old knocks new has counted =
    let all = knocks_of o has.looks in
    let so_many : length has.posted.posted ≡ length all = so_many_posted all has.posted.posted has.posted.each in
    let are : knocks ≡ min (length all) (2 ^ 64 - 1) = has.counted in (
      has.looks,
      has.each,
      has.at_starts,
      has.answers,
      has.posted.posted,
      has.posted.grows,
      has.posted.each,
      (omega (arith, so_many, are, counted)),
    )

-- with an N of 0 at all of these starts there are none
no_knocks : (o : Setting) (looks : List Start) → All (λ n. n ≡ 0) (rejoins_at looks) → knocks_of o looks ≡ []
no_knocks o [] each = refl
no_knocks o (start ∷ before) each =
    let parts = All-pop (λ n. n ≡ 0) (rejoins_at (start ∷ before)) (rejoins_at before) (Some start.rejoin) refl each in
    let number = number_after o (length before + 1) in
    ap (λ (l : List (Address × Message)). l ++ knock_of o number (knocked_by start.rejoin before start.rows))
    (no_knocks o before parts.0)
    ∙ ap (λ n. knock_of o number (knocked_by n before start.rows)) parts.1

map_to_none : (posted : List Posted) → map handed posted ≡ [] → posted ≡ []
map_to_none [] is = refl
map_to_none (p ∷ posted) is = absurd (cc is)

-- where 0 was answered at each start nobody was knocked at
pub none_knocked_with_0 : (o : Setting) (starts : ℕ) (seen : List Change) (asked answered answers : List ℕ)
    (before now : Option (List Posted)) (old knocks new : ℕ) →
    HasKnocked o starts seen asked answered before now knocks → new ≡ both old knocks →
    answered ≡ asked ++ answers → All (λ n. n ≡ 0) answers → old ≤ 2 ^ 64 - 1 → Grows before now [] × (new ≡ old)
none_knocked_with_0 o starts seen asked answered answers before now old knocks new has counted is each within =
    let these : answers ≡ rejoins_at has.looks =
    append_cancel_left asked answers (rejoins_at has.looks) (sym is ∙ has.answers) in
    let none = no_knocks o has.looks (subst (λ (l : List ℕ). All (λ n. n ≡ 0) l) these each) in
    let handed_none : map handed has.posted.posted ≡ [] =
    has.posted.each ∙ ap (λ (ms : List (Address × Message)). map datagram ms) none in
    let are : knocks ≡ min 0 (2 ^ 64 - 1) =
    has.counted ∙ ap (λ (ms : List (Address × Message)). min (length ms) (2 ^ 64 - 1)) none in (
      subst (λ (l : List Posted). Grows before now l) (map_to_none has.posted.posted handed_none) has.posted.grows,
      (omega (arith, are, counted, within)),
    )
