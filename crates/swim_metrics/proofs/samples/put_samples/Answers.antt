use Rattle.swim_metrics.proofs.samples.put_samples.Goals as goal

pub returns-in-One-clause-bytes : goal.returns-in-One-clause-bytes
returns-in-One-clause-bytes g c = rw (c.in-One.is) c.put_each.ensures.bytes

pub returns-in-Milliseconds-clause-bytes : goal.returns-in-Milliseconds-clause-bytes
returns-in-Milliseconds-clause-bytes g c = rw (c.in-Milliseconds.is) c.put_time.ensures.bytes

pub returns-in-Version-clause-bytes : goal.returns-in-Version-clause-bytes
returns-in-Version-clause-bytes g c = rw (c.in-Version.is) c.put_version.ensures.bytes

pub returns-in-States-clause-bytes : goal.returns-in-States-clause-bytes
returns-in-States-clause-bytes g c = rw (c.in-States.is) c.put_each-in-States.ensures.bytes

pub returns-in-Acks-clause-bytes : goal.returns-in-Acks-clause-bytes
returns-in-Acks-clause-bytes g c = rw (c.in-Acks.is) c.put_each-in-Acks.ensures.bytes

pub returns-in-Dropped-clause-bytes : goal.returns-in-Dropped-clause-bytes
returns-in-Dropped-clause-bytes g c = rw (c.in-Dropped.is) c.put_dropped.ensures.bytes

pub returns-in-Keys-clause-bytes : goal.returns-in-Keys-clause-bytes
returns-in-Keys-clause-bytes g c = rw (c.in-Keys.is) c.put_keys.ensures.bytes

pub returns-in-Waits-clause-bytes : goal.returns-in-Waits-clause-bytes
returns-in-Waits-clause-bytes g c = rw (c.in-Waits.is) c.put_waits.ensures.bytes

pub returns-in-Members-clause-bytes : goal.returns-in-Members-clause-bytes
returns-in-Members-clause-bytes g c = rw (c.in-Members.is) c.put_members.ensures.bytes

pub returns-in-OddSenders-clause-bytes : goal.returns-in-OddSenders-clause-bytes
returns-in-OddSenders-clause-bytes g c = rw (c.in-OddSenders.is) c.put_odd.ensures.bytes
