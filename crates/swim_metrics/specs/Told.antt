-- The samples that values of the program stand for.
use Rattle.std.specs.Prelude.{List}
use Rattle.swim_metrics.specs.declared.families.Samples.{Samples}
use Rattle.swim_metrics.specs.declared.families.Samples.TheVariants as samples
use Rattle.swim_metrics.specs.declared.samples.Labelled.{Labelled}
use Rattle.swim_metrics.specs.Families.{Sample, ack_samples, dropped_samples, one, one_time, part, state_samples}
use Rattle.swim_metrics.specs.Families.{key_samples, member_samples, odd_samples, version_sample, wait_samples}

abbrev pub samples_of : Samples → List Sample
samples_of (samples.One n) = one n
samples_of (samples.Milliseconds ms) = one_time ms
samples_of (samples.Version text) = version_sample text.now
samples_of (samples.States up failed) = state_samples up failed
samples_of (samples.Acks directly by_relay) = ack_samples directly by_relay
samples_of (samples.Dropped d) = dropped_samples d.now
samples_of (samples.Waits w) = wait_samples w.now
samples_of (samples.OddSenders unlisted own_id elsewhere) = odd_samples unlisted own_id elsewhere
samples_of (samples.Keys fingerprints) = key_samples 0 fingerprints.now.items
samples_of (samples.Members column rows) = member_samples column rows.now

abbrev pub labelled_of : Labelled → Sample
labelled_of l = part l.0.now l.1.now l.2
