use Rattle.std.proofs.Common.{◌≡◌, ◌∷◌, ap, sym, ◌∙◌}
use Rattle.std.specs.List.{count_by}
use Rattle.swim_history.specs.declared.replies.DropReason.{DropReason}
use Rattle.swim_history.specs.declared.replies.DropReason.TheVariants.{NotForMe, Borrowed, AboutMe, Unlisted, TableFull}
use Rattle.swim_history.specs.declared.replies.DropReason.TheVariants.{Stray, NoRequest}
use Rattle.swim_metrics.specs.Counting.{capped, dropped_as, is_dropped_as}
use Rattle.swim_metrics.specs.Following.{dropped_for}
use Rattle.swim_metrics.specs.declared.dropped.Dropped.{Dropped}
use Rattle.swim_metrics.proofs.Counted.{counted_if, each_reason}
use Rattle.swim_metrics.proofs.dropped.Dropped.add.Goals as goal

pub returns : goal.returns
returns c = λ h e replies held.
    let now : Dropped = record {
      not_for_me = c.more_if-self.result;
      borrowed = c.more_if-self-2.result;
      about_me = c.more_if-self-3.result;
      unlisted = c.more_if-self-4.result;
      table_full = c.more_if-self-5.result;
      stray = c.more_if-self-6.result;
      no_request = c.more_if-self-7.result;
    } in
    let P : DropReason → Type 0 = λ why. dropped_for why now ≡ capped (count_by (dropped_as why) (e ∷ h)) in
    each_reason P
    (counted_if (dropped_as NotForMe) e h c.args.self.now.not_for_me c.more_if-self.result c.is_dropped_as.result
    (c.is_dropped_as.ensures ∙ ap (is_dropped_as NotForMe) (sym replies)) (held NotForMe) c.more_if-self.ensures)
    (counted_if (dropped_as Borrowed) e h c.args.self.now.borrowed c.more_if-self-2.result c.is_dropped_as-2.result
    (c.is_dropped_as-2.ensures ∙ ap (is_dropped_as Borrowed) (sym replies)) (held Borrowed) c.more_if-self-2.ensures)
    (counted_if (dropped_as AboutMe) e h c.args.self.now.about_me c.more_if-self-3.result c.is_dropped_as-3.result
    (c.is_dropped_as-3.ensures ∙ ap (is_dropped_as AboutMe) (sym replies)) (held AboutMe) c.more_if-self-3.ensures)
    (counted_if (dropped_as Unlisted) e h c.args.self.now.unlisted c.more_if-self-4.result c.is_dropped_as-4.result
    (c.is_dropped_as-4.ensures ∙ ap (is_dropped_as Unlisted) (sym replies)) (held Unlisted) c.more_if-self-4.ensures)
    (counted_if (dropped_as TableFull) e h c.args.self.now.table_full c.more_if-self-5.result c.is_dropped_as-5.result
    (c.is_dropped_as-5.ensures ∙ ap (is_dropped_as TableFull) (sym replies)) (held TableFull) c.more_if-self-5.ensures)
    (counted_if (dropped_as Stray) e h c.args.self.now.stray c.more_if-self-6.result c.is_dropped_as-6.result
    (c.is_dropped_as-6.ensures ∙ ap (is_dropped_as Stray) (sym replies)) (held Stray) c.more_if-self-6.ensures)
    (counted_if (dropped_as NoRequest) e h c.args.self.now.no_request c.more_if-self-7.result c.is_dropped_as-7.result
    (c.is_dropped_as-7.ensures ∙ ap (is_dropped_as NoRequest) (sym replies)) (held NoRequest) c.more_if-self-7.ensures)
