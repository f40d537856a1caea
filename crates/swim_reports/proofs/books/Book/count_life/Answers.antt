use Rattle.std.proofs.Common.{rules}
use Rattle.swim_reports.proofs.Booking.{first_counted, next_counted}
use Rattle.swim_reports.proofs.books.Book.count_life.Goals as goal

pub returns-in-Some-clause-counted : goal.returns-in-Some-clause-counted
returns-in-Some-clause-counted c =
    next_counted c.args.self.now.metrics c.in-Some.metrics c.begins.new.self c.args.opening.now (search rules)
    c.begins.ensures.follows

pub returns-in-None-clause-counted : goal.returns-in-None-clause-counted
returns-in-None-clause-counted c =
    first_counted c.args.self.now.metrics c.new.result c.args.opening.now (search rules) c.new.ensures.follows
