-- Watchers of a history, as bytes are sent.
use Rattle.std.proofs.Common.{ℕ, List, [], ◌++◌, map, take, refl, sym, append-nil}
use Rattle.swim_history.specs.declared.entries.Entry.{Entry}
use Rattle.swim_history.specs.Setting.{Setting}
use Rattle.swim_history.specs.Changes.{changes, table}
use Rattle.swim_events.specs.declared.watchers.WatcherStanding.TheVariants.{Following}
use Rattle.swim_events.specs.Texts.{change_text, table_text}
use Rattle.swim_events.specs.Watchers.{AtWatcher, after_sent}
use Rattle.swim_events.specs.Watched.{IsTold}
use Rattle.swim_events.specs.Telling.{IsTelling}
use Rattle.swim_events.proofs.Streaming.{sent_streams}
use Rattle.swim_events.proofs.Told.{told}

pub telling_begins : (o : Setting) (h : List Entry) →
    IsTelling o h [] (record { pending = table_text (table o h); standing = Following })
telling_begins o h = record {
  newer = [];
  before = h;
  cut = refl;
  later = [];
  goes_on = sym (append-nil (changes o h));
  stream = sym (append-nil (table_text (table o h)));
}

pub telling_sends : (o : Setting) (h : List Entry) (sent : List ℕ) (count : ℕ) (w : AtWatcher) → IsTelling o h sent w →
    IsTelling o h (sent ++ take count w.pending) (after_sent count w)
telling_sends o h sent count w is = record {
  newer = is.newer;
  before = is.before;
  cut = is.cut;
  later = is.later;
  goes_on = is.goes_on;
  stream = sent_streams (table_text (table o is.before)) (map change_text is.later) sent count w is.stream;
}

pub telling_told : (o : Setting) (h : List Entry) (sent : List ℕ) (w : AtWatcher) → IsTelling o h sent w →
    IsTold w.standing o h (sent ++ w.pending)
telling_told o h sent w is = told o h is.newer is.before is.later sent w is.cut is.goes_on is.stream
