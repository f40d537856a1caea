use Rattle.std.proofs.Common.{◌≡◌, Bool, List, None, ap, sym, subst, ◌∙◌, arith, nat_lt, rules}
use Rattle.std.proofs.lemmas.List.Sorted.{IsPartitionPoint-from_clause, IsPartitionedBy-ltb}
use Rattle.std.specs.List.Sorted.{IsNonDecreasingBy}
use Rattle.std.proofs.lemmas.List.Sums.{prefix_len_is}
use Rattle.std.specs.List.{prefix_len}
use Rattle.swim_trace.specs.declared.beats.Beat.{Beat}
use Rattle.swim_trace.specs.declared.beats.Reach.{Reach}
use Rattle.swim_trace.specs.Beats.{from_member, reaches}
use Rattle.swim_trace.specs.Presence.{beat_at, beat_before, bracketed}
use Rattle.swim_trace.proofs.Reaches.{bracket_found, reaches_rise}
use Rattle.swim_trace.proofs.presences.pings_round.Goals as goal

no_reach : Reach
no_reach = record { beat = record { initiator = 0; number = 0; place = 0; ticks = 0 }; greatest = 0 }

pub returns : goal.returns
returns c = λ beats kept_is.
    let p = c.args.probe.now in
    let kept = c.args.kept.now in
    let test = λ (r : Reach). nat_lt r.greatest p.number in
    let goes : List Reach → Type 0 = λ l. IsNonDecreasingBy (λ (r : Reach). r.greatest) l in
    let rise : goes kept = subst goes (sym kept_is) (reaches_rise 0 (from_member p.initiator beats)) in
    let point = IsPartitionPoint-from_clause test kept _ c.partition_point-place.ensures.partitioned
    (IsPartitionedBy-ltb (λ (r : Reach). r.greatest) kept p.number rise) (λ a r q k. search rules) in
    let place : prefix_len test kept ≡ c.partition_point-place.result =
    prefix_len_is test kept c.partition_point-place.result no_reach c.partition_point-place.ensures.bound
    (λ k l. point.0 k no_reach (omega arith) l) (λ l. point.1 _ no_reach (omega arith) l) in
    rw (c.beat_before.ensures, c.beat_at.ensures, sym place, kept_is) (bracket_found p beats None 0 (omega arith))
