use Rattle.swimsim.proofs.verifying.seen_of.Goals as goal

pub returns-in-Ok : goal.returns-in-Ok
returns-in-Ok c = rw c.in-Ok.is (record {
  sound = c.seen.ensures.sound;
  starved = c.seen.ensures.starved;
  header = c.seen.ensures.header;
  whole = c.seen.ensures.whole;
  left = c.seen.ensures.left;
})
