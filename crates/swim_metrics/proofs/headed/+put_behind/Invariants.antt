use Rattle.swim_metrics.proofs.headed.+put_behind.Given as goal

abbrev pub decreases-put_behind : goal.decreases-put_behind
decreases-put_behind g l = l.most
