-- What is written of a life, call by call.
use Rattle.std.proofs.Common.{◌≡◌, ℕ, Bool, true, false, List, [], ◌∷◌, ◌++◌, Option, Some, None, refl, sym, subst}
use Rattle.std.proofs.Common.{append-nil}
use Rattle.std.specs.Io.KnownBytes.{Keeps}
use Rattle.swim_text.specs.Streams.{Puts, appends_none, keeps_self, puts_kept, puts_less, puts_then}
use Rattle.swim_history.specs.declared.seats.Kept.{Kept}
use Rattle.swim_node.specs.Cells.{Filing}
use Rattle.swim_journal.specs.Journals.{kept_text, calls_text}
use Rattle.swim_journal.specs.Lines.{IsReadBack}
use Rattle.swim_journal.proofs.More.{back_join, calls_more}
use Rattle.swim_recorder.specs.declared.transcripts.Transcript.{Transcript}
use Rattle.swim_recorder.specs.Transcripts.{AreWritten, HasWritten}

none_put : (page : Option (List ℕ)) (whole : Bool) → Puts page page [] whole
none_put page true = appends_none page page (keeps_self page)
none_put page false = record { front = []; unput = []; cut = refl; grows = appends_none page page (keeps_self page) }

begun : (page : Option (List ℕ)) (whole : Bool) → HasWritten page page whole [] whole
begun page whole = record { text = none_put page whole; back = λ is. tt; cut = λ is. (is, refl) }

-- nothing was read yet
pub none_written : {W : Type 0} (written : W → Option (List ℕ)) (now : Option (Transcript W)) →
    AreWritten written [] now now
none_written written None = tt
none_written written (Some now) = begun (written now.sink) now.is_whole

-- a call more was read, and written
pub call_written : (page o n : Option (List ℕ)) (was : Bool) (read : List Filing) (f : Filing) (k : Kept)
    (whole done : Bool) → whole ≡ true → f.kept ≡ k → Puts o n (kept_text k) done → IsReadBack k.call →
    HasWritten page o was read whole → HasWritten page n was (read ++ f ∷ []) done
call_written page o n was read f k false done is same put back has = absurd (cc is)
call_written page o n was read f k true done is same put back has =
    let put : Puts o n (kept_text f.kept) done = rw same put in
    let back : IsReadBack f.kept.call = rw same back in record {
      text = subst (λ (t : List ℕ). Puts page n t done) (sym (calls_more read f))
          (puts_then page o n (calls_text read) (kept_text f.kept) done has.text put);
      back = λ whole. back_join read (f ∷ []) (has.back refl) (back, tt);
      cut = λ before. absurd (cc ((has.cut before).0));
    }

-- a call more was read, and nothing is written any more
pub call_skipped : (page o : Option (List ℕ)) (was : Bool) (read : List Filing) (f : Filing) (whole : Bool) →
    whole ≡ false → HasWritten page o was read whole → HasWritten page o was (read ++ f ∷ []) whole
call_skipped page o was read f true is has = absurd (cc is)
call_skipped page o was read f false is has = record {
  text = subst (λ (t : List ℕ). Puts page o t false) (sym (calls_more read f))
      (puts_less page o (calls_text read) (kept_text f.kept) has.text);
  back = λ whole. absurd (cc whole);
  cut = has.cut;
}

-- all of a text is a front of it, too
all_put : (page now : Option (List ℕ)) (text : List ℕ) (done : Bool) → Puts page now text true → Puts page now text done
all_put page now text true put = put
all_put page now text false put = record { front = text; unput = []; cut = sym (append-nil text); grows = put }

-- what was held back was handed on, or not
pub flushed : (page o n : Option (List ℕ)) (was : Bool) (read : List Filing) (whole done : Bool) → whole ≡ true →
    Keeps o n → HasWritten page o was read whole → HasWritten page n was read done
flushed page o n was read false done is same has = absurd (cc is)
flushed page o n was read true done is same has = record {
  text = all_put page n (calls_text read) done (puts_kept page o n (calls_text read) true has.text same);
  back = λ whole. has.back refl;
  cut = λ before. absurd (cc ((has.cut before).0));
}

-- the same of a life whose journal is written, or isn't
pub life_written : {W : Type 0} (written : W → Option (List ℕ)) (start old : Option (Transcript W))
    (script new : Transcript W)
    (read more : List Filing) → old ≡ Some script →
    ((page : Option (List ℕ)) (was : Bool) → HasWritten page (written script.sink) was read script.is_whole →
    HasWritten page (written new.sink) was more new.is_whole) →
    AreWritten written read start old → AreWritten written more start (Some new)
life_written written start None script new read more is keeps are = absurd (cc is)
life_written written None (Some old) script new read more is keeps are = absurd are
life_written written (Some start) (Some old) script new read more is keeps are =
    let same : old ≡ script = cc is in keeps (written start.sink) start.is_whole (rw (← same) are)

pub life_unwritten : {W : Type 0} (written : W → Option (List ℕ)) (start old : Option (Transcript W))
    (read more : List Filing) → old ≡ None → AreWritten written read start old → AreWritten written more start old
life_unwritten written None None read more is are = tt
life_unwritten written (Some start) None read more is are = absurd are
life_unwritten written start (Some old) read more is are = absurd (cc is)
