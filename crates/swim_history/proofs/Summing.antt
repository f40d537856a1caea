-- What is kept of a history, after one more entry.
use Rattle.std.proofs.Common.{◌≡◌, ℕ, ◌+◌, ◌^◌, ◌<◌, ◌≤◌, Bool, true, false, cond, nat_eq, List, [], ◌∷◌, ◌++◌, length}
use Rattle.std.proofs.Common.{reverse, length-append, Option, Some, None, refl, sym, ap, ◌∙◌, arith}
use Rattle.std.proofs.lemmas.List.{reverse-append, length-reverse}
use Rattle.std.specs.Prelude.{filter, IfSome}
use Rattle.std.specs.Option.{option_to_list}
use Rattle.std.specs.HashMap.{get, spare}
use Rattle.swim_history.specs.declared.replies.Probe.{Probe}
use Rattle.swim_history.specs.declared.entries.Entry.{Entry}
use Rattle.swim_history.specs.Setting.{Setting, IsSetting}
use Rattle.swim_history.specs.Events.{judged_in, probe_in, joins}
use Rattle.swim_history.specs.Clock.{period_number}
use Rattle.swim_history.specs.Changes.{change_by, rows_after, table}
use Rattle.swim_history.specs.Laws.Table.{table_ascends, table_next, table_bound}
use Rattle.swim_history.specs.Judgement.{judgement, judgements}
use Rattle.swim_history.specs.Run.{Continues, IsRun}
use Rattle.swim_history.specs.Laws.Run.{number_then}
use Rattle.swim_history.specs.declared.summaries.Summary.{Summary}
use Rattle.swim_history.specs.Laws.UntilProbed.{length-filter-le}
use Rattle.swim_history.specs.Storing.MemberGaps.{IsOpenTo}
use Rattle.swim_history.specs.Storing.Written.{IsSummary, HasRoomFor, IsNext}
use Rattle.swim_history.proofs.InOrder.{unspent_at}
use Rattle.swim_history.proofs.UpRows.{up_rows}
use Rattle.swim_history.proofs.GapsKept.{kept_next, kept_open}

-- one more judgement, or none
judgement_length : (number : ℕ) (judged : Option ℕ) →
    length (option_to_list (judgement number judged)) ≡ length (option_to_list judged)
judgement_length number None = refl
judgement_length number (Some m) = refl

judgements_next : (o : Setting) (h : List Entry) (e : Entry) →
    length (judgements o (e ∷ h)) ≡ length (judgements o h) + length (option_to_list (judged_in e.reply))
judgements_next o h e =
    length-append (judgements o h) (option_to_list (judgement (period_number o h) (judged_in e.reply)))
    ∙ ap (λ n. length (judgements o h) + n) (judgement_length (period_number o h) (judged_in e.reply))

at_most_one : (judged : Option ℕ) → length (option_to_list judged) ≤ 1
at_most_one None = omega arith
at_most_one (Some m) = omega arith

-- at most one judgement an entry
pub judgements_bound : (o : Setting) (h : List Entry) → length (judgements o h) ≤ length h
judgements_bound o [] = omega arith
judgements_bound o (e ∷ h) = omega (arith, judgements_bound o h, judgements_next o h e, at_most_one (judged_in e.reply))

-- the table has room for the change of an entry that may follow
pub change_fits : (o : Setting) (h : List Entry) (e : Entry) → IsSetting o → IsRun o h → Continues o h e →
    length (rows_after (table o h) (option_to_list (change_by e.call e.reply (period_number o h)))) ≤ 128
change_fits o h e s run follows = rw (← table_next o h e) (table_bound o (e ∷ h) s (follows, run))

-- there is room for what an entry that may follow makes of it
pub has_room : (o : Setting) (h : List Entry) (e : Entry) (s : Summary) → IsSetting o → IsRun o h → Continues o h e →
    length h < 4294967295 → 0 < spare s.gaps → IsSummary o h s → HasRoomFor e.call e.reply s
has_room o h e s setting run follows count room kept = record {
  ascends = rw kept.rows_are (table_ascends o h);
  rows = rw (kept.rows_are, kept.number_is) (change_fits o h e setting run follows);
  number = rw kept.number_is (λ starts. unspent_at o h e follows starts);
  judged = omega (arith, judgements_bound o h, kept.judged_is, count);
  joins = omega (arith, length-filter-le joins h, kept.joins_are, count);
  gap = by (probe_in e.reply) refl;
  member = room;
}
  where
    by : (found : Option Probe) → probe_in e.reply ≡ found →
        IfSome found (λ probe. IsOpenTo s.joins probe.number (get nat_eq s.gaps probe.target))
    by None is = tt
    by (Some probe) is = kept_open o h e s.joins (get nat_eq s.gaps probe.target) probe setting (follows, run) is
        (kept.gaps_are probe.target)

-- what is kept after it
pub summary_next : (o : Setting) (h : List Entry) (e : Entry) (old new : Summary) → IsSetting o → IsRun o h →
    Continues o h e → IsSummary o h old → IsNext e.call e.reply old new → IsSummary o (e ∷ h) new
summary_next o h e old new s run follows kept next = record {
  rows_are = rows;
  number_is = rw (next.number, kept.number_is) (sym (number_then o h e s follows));
  judged_is = rw (next.judged, kept.judged_is) (sym (judgements_next o h e));
  joins_are = rw (next.joins, kept.joins_are) (joins_next (joins e) (filter joins h));
  gaps_are = λ m. rw (next.gaps m, next.joins, rows, up_rows o (e ∷ h) s (follows, run))
      (kept_next o h e old.joins m (get nat_eq old.gaps m) s (follows, run) (kept.gaps_are m));
}
  where
    rows : new.rows.items ≡ table o (e ∷ h)
    rows = rw (next.rows, kept.rows_are, kept.number_is) (sym (table_next o h e))

    joins_next : (joined : Bool) (older : List Entry) →
        cond joined (length older + 1) (length older) ≡ length (cond joined (e ∷ older) older)
    joins_next true older = omega arith
    joins_next false older = refl

-- a journal is still one, of a run one entry longer
pub run_longer : (o : Setting) (entries later : List Entry) (e : Entry) (old new : Summary) → IsSetting o →
    IsRun o (reverse entries) → length (reverse entries) < 4294967295 → IsSummary o (reverse entries) old
    → Continues o (reverse entries) e → IsNext e.call e.reply old new → later ≡ entries ++ e ∷ []
    → IsSetting o × IsRun o (reverse later) × (length later < 2 ^ 32) × IsSummary o (reverse later) new
run_longer o entries later e old new s run count kept follows next is =
    let more : reverse later ≡ e ∷ reverse entries = ap reverse is ∙ reverse-append entries (e ∷ []) in (
      s,
      rw more (follows, run),
      omega (arith, length-reverse later, ap length more, count),
      rw more (summary_next o (reverse entries) e old new s run follows kept next),
    )
