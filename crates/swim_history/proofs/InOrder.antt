-- Entries at their places, oldest first, and what each begins.
use Rattle.std.proofs.Common.{◌≡◌, ℕ, ◌+◌, ◌^◌, ◌<◌, true, false, List, length, get_or, Some, None, refl, sym, ap}
use Rattle.std.proofs.Common.{arith}
use Rattle.std.proofs.lemmas.Option.{same_Some}
use Rattle.std.proofs.lemmas.List.{get_or_default}
use Rattle.swim_history.specs.declared.calls.Call.TheVariants.{Tick}
use Rattle.swim_history.specs.declared.replies.Reply.{Reply}
use Rattle.swim_history.specs.declared.replies.Reply.TheVariants.{Quiet, Started}
use Rattle.swim_history.specs.declared.entries.Choice.TheVariants.{Nothing}
use Rattle.swim_history.specs.declared.entries.Entry.{Entry}
use Rattle.swim_history.specs.declared.stored_replies.Start.{Start}
use Rattle.swim_history.specs.Setting.{Setting}
use Rattle.swim_history.specs.Events.{is_start, is_starting, judged_in, probe_in}
use Rattle.swim_history.specs.Storing.StoredReplies.{start_in}
use Rattle.swim_history.specs.Clock.{period_number}
use Rattle.swim_history.specs.Run.{Continues}
use Rattle.swim_history.specs.Laws.Run.{begins}

-- the entry at a place, and another where there is none
abbrev pub no_entry : Entry
no_entry = record { seat = 0; number = 0; call = Tick; choice = Nothing; reply = Quiet }

abbrev pub entry_at : List Entry → ℕ → Entry
entry_at entries i = get_or entries i no_entry

pub entry_there : (entries : List Entry) (i : ℕ) → i < length entries →
    entry_at entries i ≡ get_or entries i (entry_at entries i)
entry_there entries i lt = get_or_default entries i _ _ lt

-- a period begins only while numbers are left
pub unspent_at : (o : Setting) (h : List Entry) (e : Entry) → Continues o h e → is_start e ≡ true →
    period_number o h + 1 < 2 ^ 64
unspent_at o h e c starts = let b = begins o h e.call e.reply e.choice c.answer starts in omega (arith, b.fits.unspent)

-- ---- what an entry begins

-- a start
pub record Begins (reply : Reply) (start : Start) : Type 0 where
  pub starts : is_starting reply ≡ true
  pub judged : judged_in reply ≡ start.judged
  pub probe : probe_in reply ≡ start.probe

pub begins_it : (reply : Reply) (start : Start) → Some start ≡ start_in reply → Begins reply start
begins_it (Started judged probe) start is =
    let same = same_Some start (record { judged = judged; probe = probe }) is in
    record {
      starts = refl;
      judged = ap (λ (x : Start). x.judged) (sym same);
      probe = ap (λ (x : Start). x.probe) (sym same);
    }
begins_it reply start is = absurd cc

-- any other entry
pub record BeginsNothing (reply : Reply) : Type 0 where
  pub no_start : is_starting reply ≡ false
  pub no_judged : judged_in reply ≡ None
  pub no_probe : probe_in reply ≡ None

pub begins_nothing : (reply : Reply) → None ≡ start_in reply → BeginsNothing reply
begins_nothing (Started judged probe) is = absurd cc
begins_nothing reply is = record { no_start = refl; no_judged = refl; no_probe = refl }
