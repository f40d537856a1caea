use Rattle.swim_recorder.proofs.guests.let_all_in.Goals as goal

pub returns-then-not-let_in : goal.returns-then-not-let_in
returns-then-not-let_in g c = λ number o guests heard hears read tells.
    c.let_in.ensures number o guests heard hears read (c.loop-newcomer.invariant number o guests heard hears read tells)

pub loop-newcomer-preserved : goal.loop-newcomer-preserved
loop-newcomer-preserved g c = λ number o guests heard hears read tells.
    c.let_in.ensures number o guests heard hears read (c.loop-newcomer.invariant number o guests heard hears read tells)
