use Rattle.swim_work.proofs.tidings.Tidings.begin.Goals as goal

pub returns-clause-begins : goal.returns-clause-begins
returns-clause-begins c = record {
  me = c.start-knock.ensures.me;
  version = c.start-knock.ensures.version;
  due = c.start-knock.ensures.knock;
  follows = c.start-knock.ensures.follows;
}
