use Rattle.swim_recorder.proofs.Told.{sent_told}
use Rattle.swim_recorder.proofs.guests.serve.Goals as goal

pub returns : goal.returns
returns g c = λ number o guests heard hears read tells.
    sent_told number o guests heard hears read c.args.watching.now c.let_all_in.new.gallery c.send.new.self
    c.now-time.result c.send.ensures.exact c.send.ensures.told
    (c.let_all_in.ensures number o guests heard hears read tells)
