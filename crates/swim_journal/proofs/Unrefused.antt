-- A call behind which its answer is told, and confirmed, was not refused.
use Rattle.std.proofs.Common.{◌≡◌, ℕ, ◌<◌, ◌+◌, ◌^◌, Bool, true, false, List, [], ◌∷◌, length, map, drop, Option, Some}
use Rattle.std.proofs.Common.{decimal, refl, sym, ap, subst, ◌∙◌, arith}
use Rattle.std.specs.Prelude.{◌==◌}
use Rattle.std.proofs.lemmas.Fmt.{decimal_injective}
use Rattle.std.proofs.lemmas.List.{length-map}
use Rattle.std.proofs.lemmas.Option.{same_Some}
use Rattle.std.proofs.lemmas.Bool.{and_parts}
use Rattle.swim_text.specs.Parts.{cut, cut_at}
use Rattle.swim_text.specs.Without.{number_without}
use Rattle.swim_history.specs.declared.calls.Call.{Call}
use Rattle.swim_history.specs.declared.entries.Entry.{Entry}
use Rattle.swim_history.specs.declared.replies.Reply.{Reply}
use Rattle.swim_script.specs.declared.choosers.Drawer.{Drawer}
use Rattle.swim_script.specs.declared.commands.Command.TheVariants.{Answer}
use Rattle.swim_script.specs.Headers.{Told, said, head_of, limit_in}
use Rattle.swim_script.specs.Texts.{placed_text, newest_text, reply_text}
use Rattle.swim_script.specs.Script.{Turn, lines_of, asked_in, is_full, calls_in, AreConfirmed, IsRunOf}
use Rattle.swim_script.specs.Script.Asked.{Calls}
use Rattle.swim_journal.specs.Seatless.{has_one_seat}
use Rattle.swim_journal.proofs.Tellings.{TellEach, calls_few}

cut_placed : (n : ℕ) (reply : Reply) → cut 32 (placed_text n reply) ≡ Some (decimal n, reply_text reply)
cut_placed n reply = cut_at 32 (decimal n) (reply_text reply) (number_without 32 n (omega arith))

-- a place is known from its text
placed_only : (n m : ℕ) (reply other : Reply) → n < 2 ^ 64 → m < 2 ^ 64 → placed_text n reply ≡ placed_text m other →
    n ≡ m
placed_only n m reply other small small' is =
    let same : ◌≡◌ {A = Option (List ℕ × List ℕ)} (Some (decimal n, reply_text reply))
    (Some (decimal m, reply_text other)) = sym (cut_placed n reply) ∙ ap (cut 32) is ∙ cut_placed m other in
    let both = same_Some (decimal n, reply_text reply) (decimal m, reply_text other) same in
    decimal_injective n m small small' (ap (λ (p : List ℕ × List ℕ). p.0) both)

-- the newest entry of a run, which stands at a place
record IsNewest (run : List Entry) (n : ℕ) : Type 0 where
  pub e : Entry
  pub before : List Entry
  pub is : run ≡ e ∷ before
  pub place : length before ≡ n

newest : (run : List Entry) (n : ℕ) (reply : Reply) → n < 2 ^ 64 → length run < 2 ^ 64 →
    newest_text run ≡ Some (placed_text n reply) → IsNewest run n
newest [] n reply small long is = absurd cc
newest (e ∷ before) n reply small long is =
    let same = same_Some (placed_text (length before) e.reply) (placed_text n reply) is in
    record {
      e = e;
      before = before;
      is = refl;
      place = placed_only (length before) n e.reply reply (omega (arith, long)) small same;
    }

-- a run without its newest entry
pub older : (told : Told) (call : Call) (made : List Call) (e : Entry) (before : List Entry) (after : Drawer) →
    IsRunOf told (call ∷ made) (e ∷ before) after → (between : Drawer) × IsRunOf told made before between
older told call made e before after m = (
  m.drawn.0,
  record {
    legal = m.legal.1;
    drawn = m.drawn.1;
    calls = cc (m.calls);
    one_seat = (and_parts (e.seat == 0) (has_one_seat before) m.one_seat).1;
  },
)

-- a run that such lines tell, all confirmed, is of the calls of these entries
abbrev IsOfCalls : List Turn → List Entry → List Turn → List Entry → Type 0
IsOfCalls base h turns run = (map (λ e. e.call) run ≡ map (λ e. e.call) h) × (calls_in turns ≡ map (λ e. e.call) h)

-- none was refused
pub all_called : (base : List Turn) (h : List Entry) (turns : List Turn) (told : Told) (run : List Entry)
    (after : Drawer) → TellEach base h turns → calls_in base ≡ [] → length h < 2 ^ 64 →
    IsRunOf told (calls_in turns) run after → AreConfirmed turns run → IsOfCalls base h turns run
all_called base [] turns told run after tell none small made confirmed =
    let empty : calls_in turns ≡ [] = ap calls_in tell ∙ none in (made.calls ∙ empty, empty)
all_called base (x ∷ h) turns told run after tell none small made confirmed =
    let rest = tell.0 in
    let asks = tell.1 in
    let tells = tell.2 in
    let long : length run < 2 ^ 64 =
    omega (
      arith,
      small,
      calls_few base (x ∷ h) turns tell none,
      ap length made.calls,
      length-map run (λ e. e.call),
    ) in
    let made : IsRunOf told (calls_in (tells ∷ asks ∷ rest)) run after =
    subst (λ t. IsRunOf told (calls_in t) run after) tell.3 made in
    let confirmed : AreConfirmed (tells ∷ asks ∷ rest) run = subst (λ t. AreConfirmed t run) tell.3 confirmed in
    by rest asks tells long tell.3 tell.4 tell.5 tell.6 made confirmed (all_called base h rest told)
    (is_full (limit_in (head_of (lines_of rest)).told) (length (calls_in rest))) asks.refused refl refl
  where
    by : (rest : List Turn) (asks tells : Turn) → length run < 2 ^ 64 → turns ≡ tells ∷ asks ∷ rest →
        TellEach base h rest → asked_in (lines_of rest) asks.line ≡ Calls x.call →
        said (lines_of (asks ∷ rest)) tells.line ≡ Some (Answer (placed_text (length h) x.reply)) →
        IsRunOf told (calls_in (tells ∷ asks ∷ rest)) run after → AreConfirmed (tells ∷ asks ∷ rest) run →
        ((r : List Entry) (between : Drawer) → TellEach base h rest → calls_in base ≡ [] → length h < 2 ^ 64 →
        IsRunOf told (calls_in rest) r between → AreConfirmed rest r → IsOfCalls base h rest r) →
        (full refused : Bool) → is_full (limit_in (head_of (lines_of rest)).told) (length (calls_in rest)) ≡ full →
        asks.refused ≡ refused → IsOfCalls base (x ∷ h) turns run
    by rest asks tells long is tell asked says made confirmed again full refused is_full_so is_refused_so =
        let here : newest_text run ≡ Some (placed_text (length h) x.reply) = rw says at confirmed.0 in
        let found = newest run (length h) x.reply (omega (arith, small)) long here in
        let quiet : calls_in (tells ∷ asks ∷ rest) ≡ calls_in (asks ∷ rest) = rw says refl in
        let one_more : length run ≡ length h + 1 = ap length found.is ∙ omega (arith, found.place) in
        let made : IsRunOf told (calls_in (asks ∷ rest)) run after = subst (λ c. IsRunOf told c run after) quiet made in
        let confirmed : AreConfirmed (asks ∷ rest) run = rw says at confirmed.1 in
        cases full refused is_full_so is_refused_so found one_more made confirmed
      where
        no : {A : Type 0} → length run ≡ length h + 1 → map (λ e. e.call) run ≡ map (λ e. e.call) h → A
        no one_more same = absurd
            (omega (arith, one_more, ap length same, length-map run (λ e. e.call), length-map h (λ e. e.call)))

        cases : (full refused : Bool) → is_full (limit_in (head_of (lines_of rest)).told) (length (calls_in rest)) ≡
            full → asks.refused ≡ refused → IsNewest run (length h) → length run ≡ length h + 1 →
            IsRunOf told (calls_in (asks ∷ rest)) run after → AreConfirmed (asks ∷ rest) run →
            IsOfCalls base (x ∷ h) turns run
        cases true refused f r found one_more made confirmed =
            let same : calls_in (asks ∷ rest) ≡ calls_in rest = rw (asked, f) refl in
            no one_more (again run after tell none (omega (arith, small))
            (subst (λ c. IsRunOf told c run after) same made) (rw (asked, f) at confirmed.1)).0
        cases false true f r found one_more made confirmed =
            let same : calls_in (asks ∷ rest) ≡ calls_in rest = rw (asked, f, r) refl in
            no one_more (again run after tell none (omega (arith, small))
            (subst (λ c. IsRunOf told c run after) same made) (rw (asked, f, r) at confirmed.1)).0
        cases false false f r found one_more made confirmed =
            let calls : calls_in (asks ∷ rest) ≡ x.call ∷ calls_in rest = rw (asked, f, r) refl in
            let made : IsRunOf told (x.call ∷ calls_in rest) (found.e ∷ found.before) after =
            subst (λ l. IsRunOf told (x.call ∷ calls_in rest) l after) found.is
            (subst (λ c. IsRunOf told c run after) calls made) in
            let left = older told x.call (calls_in rest) found.e found.before after made in
            let short : AreConfirmed rest (drop 1 run) = rw (asked, f, r) at confirmed.1 in
            let short : AreConfirmed rest found.before = rw found.is at short in
            let earlier = again found.before left.0 tell none (omega (arith, small)) left.1 short in
            let quiet : calls_in (tells ∷ asks ∷ rest) ≡ calls_in (asks ∷ rest) = rw says refl in (
              ap (map (λ (e : Entry). e.call)) found.is ∙ made.calls ∙ ap (λ c. x.call ∷ c) earlier.1,
              ap calls_in is ∙ quiet ∙ calls ∙ ap (λ c. x.call ∷ c) earlier.1,
            )
