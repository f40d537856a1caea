use Rattle.std.proofs.Common.{rules}
use Rattle.swim_reports.proofs.Booking.{call_counted}
use Rattle.swim_reports.proofs.books.Book.count_call.Goals as goal

pub returns-in-Some-clause-counted : goal.returns-in-Some-clause-counted
returns-in-Some-clause-counted c =
    call_counted c.args.self.now.metrics c.in-Some.metrics c.read.new.self c.args.next.now.kept.call
    c.next.inside.kept.call c.args.next.now.kept.reply c.next.inside.kept.reply (search rules) (search rules)
    (search rules) c.read.ensures.follows
