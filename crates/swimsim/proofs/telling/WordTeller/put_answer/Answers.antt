use Rattle.swimsim.proofs.Worded.{newest_is}
use Rattle.swimsim.proofs.telling.WordTeller.put_answer.Goals as goal

pub returns-clause-bytes : goal.returns-clause-bytes
returns-clause-bytes g c =
    let t = c.args.self.now in
    let lines = c.put_lines.ensures.bytes in (
      lines.0,
      newest_is t.has_datagrams t.has_reasons c.args.session.now.recorded c.in-Some-Some.opening.now
          c.in-Some-Some.reply.now lines.0 c.in-Some-Some.ensures' c.in-Some-Some.ensures lines.1,
      lines.2,
    )
