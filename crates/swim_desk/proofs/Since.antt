-- Which calls a turn of a connection gives its desk, apart from all that desks got before. Calls are counted, and of
-- those from a number on this desk knows what it was asked.
use Rattle.std.proofs.Common.{◌≡◌, ℕ, ◌+◌, ◌≤◌, List, [], ◌∷◌, ◌++◌, Option, Some, None, Result, Ok, Err, refl, sym}
use Rattle.std.proofs.Common.{subst, ap, ◌∙◌, inl, inr, ◌⊎◌, arith}
use Rattle.std.specs.Io.KnownBytes.{Keeps}
use Rattle.std.proofs.lemmas.Option.{same_Some}
use Rattle.swim_text.specs.declared.short_lines.LineEnd.{LineEnd}
use Rattle.swim_text.specs.declared.short_lines.LineEnd.TheVariants as lines
use Rattle.swim_text.specs.Streams.{keeps_self}
use Rattle.swim_control.specs.declared.commands.Said.{Said}
use Rattle.swim_control.specs.declared.commands.Said.TheVariants as saids
use Rattle.swim_control.specs.declared.connections.Close.TheVariants as closes
use Rattle.swim_control.specs.declared.connections.Stand.{Stand}
use Rattle.swim_control.specs.declared.connections.Stand.TheVariants as stands
use Rattle.swim_control.specs.declared.desks.DeskCommand.{DeskCommand}
use Rattle.swim_control.specs.declared.faults.Fault.{Fault}
use Rattle.swim_control.specs.declared.serving.Served.{Served}
use Rattle.swim_control.specs.Commands.{said_by, line_said}
use Rattle.swim_control.specs.Connections.{Answers, ReadsOn, Turns}
use Rattle.swim_control.specs.Desks.{Told}
use Rattle.swim_control.specs.SideBySide.{Called, Leads}
use Rattle.swim_control.specs.Talks.{Talk}
use Rattle.swim_control.specs.Turns.{Asked, Meets}

-- ---- counted calls

-- one call more; from that number on it is the one by which this desk went from one state to the other
abbrev pub Counts : {S : Type 0} → (S → DeskCommand → Told → S → Type 0) → S → S → ℕ → ℕ → DeskCommand → Told → ℕ →
    Type 0
Counts asks desk after since n command told m = (m ≡ n + 1) × (since ≤ n → asks desk command told after)

abbrev pub count_of : List Called → ℕ
count_of [] = 0
count_of (c ∷ log) = count_of log + 1

pub counted_before : {S : Type 0} (asks : S → DeskCommand → Told → S → Type 0) (desk after : S) (since : ℕ)
    (log : List Called) → count_of log ≤ since → Leads (Counts asks desk after since) 0 log (count_of log)
counted_before asks desk after since [] within = refl
counted_before asks desk after since (c ∷ log) within =
    let more : count_of log + 1 ≤ since = within in (
      count_of log,
      (
        counted_before asks desk after since log (omega (arith, more)),
        (refl, λ at. absurd (omega (arith, more, at))),
      ),
    )

count_led : {S : Type 0} (asks : S → DeskCommand → Told → S → Type 0) (desk after : S) (since : ℕ) (log : List Called)
    (m : ℕ) → Leads (Counts asks desk after since) 0 log m → m ≡ count_of log
count_led asks desk after since [] m led = led
count_led asks desk after since (c ∷ log) m (mid, (led, (is, asked))) =
    is ∙ ap (λ n. n + 1) (count_led asks desk after since log mid led)

more_than : (more log : List Called) → count_of log ≤ count_of (more ++ log)
more_than [] log = omega arith
more_than (c ∷ more) log =
    let below : count_of log ≤ count_of (more ++ log) = more_than more log in
    let is : count_of log ≤ count_of (more ++ log) + 1 = omega (arith, below) in is

pub none_more : {S : Type 0} (asks : S → DeskCommand → Told → S → Type 0) (desk after : S) (more log : List Called)
    (m : ℕ) → Leads (Counts asks desk after (count_of log)) 0 (more ++ log) m → m ≡ count_of log → more ≡ []
none_more asks desk after [] log m led same = refl
none_more asks desk after (c ∷ more) log m led same =
    let count : m ≡ count_of (more ++ log) + 1 = count_led asks desk after (count_of log) (c ∷ (more ++ log)) m led in
    let below : count_of log ≤ count_of (more ++ log) = more_than more log in
    absurd (omega (arith, count, below, same))

-- those calls of which there was none before are this desk's
pub since_then : {S : Type 0} (asks : S → DeskCommand → Told → S → Type 0) (desk after : S) (more log : List Called)
    (m : ℕ) → Leads (Counts asks desk after (count_of log)) 0 (more ++ log) m →
    ((m ≡ count_of log) × (after ≡ desk)) ⊎ (m ≡ count_of log + 1) → Leads asks desk more after
since_then asks desk after [] log m led (inl (same, quiet-so)) = quiet-so
since_then asks desk after [] log m led (inr one) =
    let count : m ≡ count_of log = count_led asks desk after (count_of log) log m led in
    absurd (omega (arith, count, one))
since_then asks desk after (c ∷ more) log m led (inl (same, quiet-so)) =
    let count : m ≡ count_of (more ++ log) + 1 = count_led asks desk after (count_of log) (c ∷ (more ++ log)) m led in
    let below : count_of log ≤ count_of (more ++ log) = more_than more log in
    absurd (omega (arith, count, below, same))
since_then asks desk after (c ∷ []) log m (mid, (led, (is, asked))) (inr one) =
    let count : mid ≡ count_of log = count_led asks desk after (count_of log) log mid led in
    (desk, (refl, asked (omega (arith, count))))
since_then asks desk after (c ∷ d ∷ more) log m led (inr one) =
    let count : m ≡ count_of (more ++ log) + 1 + 1 =
    count_led asks desk after (count_of log) (c ∷ d ∷ (more ++ log)) m led in
    let below : count_of log ≤ count_of (more ++ log) = more_than more log in
    absurd (omega (arith, count, below, one))

-- ---- a turn whose calls are counted

-- there was no call, and the desk is as it was; or there was one
abbrev CountsOn : {S : Type 0} → S → S → ℕ → ℕ → Type 0
CountsOn desk after since count = ((count ≡ since) × (after ≡ desk)) ⊎ (count ≡ since + 1)

asked_counted : {S : Type 0} (asks : S → DeskCommand → Told → S → Type 0) (desk after : S) (since : ℕ)
    (read : Result Said Fault) (told : List Told) → Asked asks read desk told after →
    (count : ℕ) × Asked (Counts asks desk after since) read since told count × CountsOn desk after since count
asked_counted asks desk after since (Err fault) [] asked = (since, refl, inl (refl, asked))
asked_counted asks desk after since (Err fault) (x ∷ told) asked = absurd asked
asked_counted asks desk after since (Ok saids.Stop) [] asked = (since, refl, inl (refl, asked))
asked_counted asks desk after since (Ok saids.Stop) (x ∷ told) asked = absurd asked
asked_counted asks desk after since (Ok (saids.Asks command)) [] asked = absurd asked
asked_counted asks desk after since (Ok (saids.Asks command)) (x ∷ []) asked =
    (since + 1, (refl, λ at. asked), inr refl)
asked_counted asks desk after since (Ok (saids.Asks command)) (x ∷ y ∷ told) asked = absurd asked

meets_counted : {S : Type 0} (asks : S → DeskCommand → Told → S → Type 0) (desk after : S) (since : ℕ) (met : LineEnd)
    (line : List ℕ) (old put : Option (List ℕ)) (end : Option Served) → Meets asks met line desk after old put end →
    (count : ℕ) × Meets (Counts asks desk after since) met line since count old put end
    × CountsOn desk after since count
meets_counted asks desk after since lines.Feed line old put end is =
    let x = asked_counted asks desk after since (said_by (line_said line)) is.told is.asked in
    (x.0, record { told = is.told; asked = x.1; done = is.done; put = is.put; is = is.is }, x.2)
meets_counted asks desk after since lines.Long line old put end is = (since, (refl, is.1), inl (refl, is.0))
meets_counted asks desk after since lines.Unended line old put end is = (since, (refl, is.1), inl (refl, is.0))
meets_counted asks desk after since lines.Over line old put end is = (since, (refl, is.1, is.2), inl (refl, is.0))
meets_counted asks desk after since lines.Spent line old put end is = (since, (refl, is.1, is.2), inl (refl, is.0))
meets_counted asks desk after since lines.Failed line old put end is = (since, (refl, is.1, is.2), inl (refl, is.0))
meets_counted asks desk after since lines.Unsent line old put end is = (since, (refl, is.1, is.2), inl (refl, is.0))

answers_counted : {S : Type 0} (asks : S → DeskCommand → Told → S → Type 0) (desk after : S) (since now : ℕ)
    (old new : Talk) (end : Option Served) → Answers asks now old new desk after end →
    (count : ℕ) × Answers (Counts asks desk after since) now old new since count end × CountsOn desk after since count
answers_counted asks desk after since now old new end is =
    let x = meets_counted asks desk after since is.met is.line old.written is.put end is.meets in (
      x.0,
      record {
        serving = is.serving;
        met = is.met;
        line = is.line;
        read = is.read;
        put = is.put;
        meets = x.1;
        sent = is.sent;
        rest = is.rest;
      },
      x.2,
    )

-- nothing was read and nothing was put
abbrev pub IsCalm : Talk → Talk → Type 0
IsCalm old new =
    Keeps old.written new.written × (new ≡ record old { written = new.written; is_taken = new.is_taken })

-- the turn, with its call counted; and if serving the connection has ended with it, or had ended before
pub record Counted {S : Type 0} (asks : S → DeskCommand → Told → S → Type 0) (desk after : S) (since now : ℕ)
    (stand : Stand) (old new : Talk) : Type 0 where
  pub count : ℕ
  pub turn : Turns (Counts asks desk after since) now stand old new since count
  pub on : CountsOn desk after since count
  pub ended : (e : Served) → new.end ≡ Some e → (stand ≡ stands.Ended e) ⊎ ((count ≡ since) × IsCalm old new)

still_serving : (old new : Talk) (e : Served) → ReadsOn old new → new.end ≡ Some e → ⊥
still_serving old new e reads is = cc (sym reads.0.1 ∙ (sym (ap (λ (t : Talk). t.end) reads.3) ∙ is))

same_calm : (old new : Talk) → new ≡ old → IsCalm old new
same_calm old new same = subst (λ (t : Talk). IsCalm old t) (sym same) (keeps_self old.written, refl)

pub turn_counted : {S : Type 0} (asks : S → DeskCommand → Told → S → Type 0) (desk after : S) (since now : ℕ)
    (stand : Stand) (old new : Talk) → Turns asks now stand old new desk after →
    Counted asks desk after since now stand old new
turn_counted asks desk after since now stands.Idle old new (quiet-so, inl hands) = record {
  count = since;
  turn = (refl, inl hands);
  on = inl (refl, quiet-so);
  ended = λ e is. inr (refl, (hands.0.1, hands.0.2));
}
turn_counted asks desk after since now stands.Idle old new (quiet-so, inr reads) = record {
  count = since;
  turn = (refl, inr reads);
  on = inl (refl, quiet-so);
  ended = λ e is. absurd (still_serving old new e reads.0 is);
}
turn_counted asks desk after since now stands.Busy old new (inl (quiet-so, inl hands)) = record {
  count = since;
  turn = inl (refl, inl hands);
  on = inl (refl, quiet-so);
  ended = λ e is. inr (refl, (hands.0.1, hands.0.2));
}
turn_counted asks desk after since now stands.Busy old new (inl (quiet-so, inr reads)) = record {
  count = since;
  turn = inl (refl, inr reads);
  on = inl (refl, quiet-so);
  ended = λ e is. absurd (still_serving old new e reads.0 is);
}
turn_counted asks desk after since now stands.Busy old new (inr a) =
    let x = answers_counted asks desk after since now old new None a in record {
      count = x.0;
      turn = inr x.1;
      on = x.2;
      ended = λ e is. absurd (cc (sym (ap (λ (t : Talk). t.end) a.rest) ∙ is));
    }
turn_counted asks desk after since now (stands.Ended end) old new a =
    let x = answers_counted asks desk after since now old new (Some end) a in record {
      count = x.0;
      turn = x.1;
      on = x.2;
      ended = λ e is. inl (ap (λ (s : Served). stands.Ended s)
          (same_Some end e (sym (ap (λ (t : Talk). t.end) a.rest) ∙ is)));
    }
turn_counted asks desk after since now (stands.Closed (closes.Served end)) old new t = record {
  count = since;
  turn = (refl, t.1, t.2, t.3);
  on = inl (refl, t.0);
  ended = λ e is. inr (refl, same_calm old new t.1);
}
turn_counted asks desk after since now (stands.Closed closes.Silent) old new t = record {
  count = since;
  turn = (refl, t.1, t.2);
  on = inl (refl, t.0);
  ended = λ e is. absurd (still_serving old new e t.1 is);
}
turn_counted asks desk after since now (stands.Closed closes.Untaken) old new t = record {
  count = since;
  turn = (refl, t.1);
  on = inl (refl, t.0);
  ended = λ e is. inr (refl, (t.1.0.1, t.1.0.2));
}
