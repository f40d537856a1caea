use Rattle.std.proofs.Common.{◌≡◌, suc, ◌-◌, sym, take-append-drop, arith}
use Rattle.swim_doubles.specs.Texts.{length_ready, take_ready, drop_ready}
use Rattle.swim_doubles.proofs.texts.TextSource.skip.Goals as goal

pub bounds-self-inside-count : goal.bounds-self-inside-count
bounds-self-inside-count c =
    let t = c.self.inside in
    let fits = rw (← c.self.view_is) at c.requires in
    omega (arith, fits, length_ready t.fails_in t.is_in_line t.left.now)

pub split_at-requires : goal.split_at-requires
split_at-requires c =
    let t = c.self.inside in
    let fits = rw (← c.self.view_is) at c.requires in
    omega (arith, fits, length_ready t.fails_in t.is_in_line t.left.now)

pub returns-then-count-gt0-clause-bytes : goal.returns-then-count-gt0-clause-bytes
returns-then-count-gt0-clause-bytes c =
    let t = c.self.inside in
    let fits = rw (← c.self.view_is) at c.requires in
    rw (← c.self.view_is, take_ready t.fails_in t.is_in_line t.left.now c.args.count fits, c.split_at.ensures.back)
    (sym (take-append-drop c.args.count t.left.now))

pub returns-then-count-gt0-clause-ready : goal.returns-then-count-gt0-clause-ready
returns-then-count-gt0-clause-ready c =
    let t = c.self.inside in
    let fits = rw (← c.self.view_is) at c.requires in
    let is : c.args.count ≡ suc (c.args.count - 1) = omega arith in
    rw (← c.self.view_is, c.split_at.ensures.back)
    (drop_ready t.fails_in t.is_in_line t.left.now (c.args.count - 1) c.args.count is fits)
