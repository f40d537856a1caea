use Rattle.swim_config.proofs.expected.put_form.Goals as goal

pub returns-in-Peer-clause-bytes : goal.returns-in-Peer-clause-bytes
returns-in-Peer-clause-bytes g c = rw c.in-Peer.is c.put_text.ensures.bytes

pub returns-in-Path-clause-bytes : goal.returns-in-Path-clause-bytes
returns-in-Path-clause-bytes g c = rw c.in-Path.is c.put_text-in-Path.ensures.bytes

pub returns-in-Mode-clause-bytes : goal.returns-in-Mode-clause-bytes
returns-in-Mode-clause-bytes g c = rw c.in-Mode.is c.put_text-in-Mode.ensures.bytes

pub returns-in-Seed-clause-bytes : goal.returns-in-Seed-clause-bytes
returns-in-Seed-clause-bytes g c = rw c.in-Seed.is c.put_text-in-Seed.ensures.bytes

pub returns-in-Keys-clause-bytes : goal.returns-in-Keys-clause-bytes
returns-in-Keys-clause-bytes g c = rw c.in-Keys.is c.put_text-in-Keys.ensures.bytes

pub returns-in-Members-clause-bytes : goal.returns-in-Members-clause-bytes
returns-in-Members-clause-bytes g c = rw c.in-Members.is c.put_text-in-Members.ensures.bytes
