use Rattle.std.proofs.Common.{◌≡◌, ◌<◌, suc, List, [], length, drop, None, sym, ap, ◌∙◌, arith}
use Rattle.std.proofs.lemmas.List.{drop_all}
use Rattle.std.specs.Option.{option_and_then}
use Rattle.swim_history.specs.declared.rows.Row.{Row}
use Rattle.swim_history.specs.declared.rows.RowState.{RowState}
use Rattle.swim_script.proofs.States.{with_state, with_all, next_told, states_are}
use Rattle.swim_script.proofs.openings.with_states.Goals as goal

pub returns-in_err-told : goal.returns-in_err-told
returns-in_err-told c =
    let rows = c.args.rows.now in
    let place = c.loop-row.row-index in
    let row = c.row-item.result in
    let told = c.loop-row.told in
    let rest = option_and_then (with_all (drop (suc place) rows)) in
    let within : place < length rows = omega (arith, c.loop-row-test.true) in
    let none : with_all rows c.args.opening ≡ None =
    sym c.loop-row.invariant ∙ next_told rows place row told within
    ∙ ap (λ (r : Row). rest (with_state r.state r.id told)) (sym c.row-item.is)
    ∙ ap (λ (s : RowState). rest (with_state s row.id told)) c.in-Failed.is
    ∙ ap rest (sym c.in_err-told.ensures) in
    c.from_residual.ensures ∙ sym none ∙ states_are c.args.opening rows c.requires.up c.requires.once

pub returns : goal.returns
returns c =
    let rows = c.args.rows.now in
    let over : drop c.loop-row.row-index rows ≡ [] = drop_all c.loop-row.row-index rows c.loop-row-test.false in
    sym (ap (λ (l : List Row). with_all l c.loop-row.told) over) ∙ c.loop-row.invariant ∙
    states_are c.args.opening rows c.requires.up c.requires.once
