use Rattle.swim_history.proofs.journals.Journal.judgements.Goals as goal

pub returns-clause-rule : goal.returns-clause-rule
returns-clause-rule c = rw (← c.self.view_is) c.collect_judged.ensures.rule
