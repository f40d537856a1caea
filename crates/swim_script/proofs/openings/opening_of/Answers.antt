use Rattle.std.proofs.Common.{rules, ◌≡◌, ◌<◌, ◌^◌, ℕ, Bool, false, List, Option, None, refl, sym, ap, ◌∙◌}
use Rattle.swim_wire.specs.Address.{Address}
use Rattle.swim_wire.specs.Ids.{has_twice}
use Rattle.swim_history.specs.Check.{setting_of, rows_up, first_fault}
use Rattle.swim_history.specs.Laws.Check.{is_setting}
use Rattle.swim_history.specs.Setting.{Setting, ids_of}
use Rattle.swim_history.specs.declared.openings.OpeningFault.{OpeningFault}
use Rattle.swim_script.specs.Headers.{setting_by}
use Rattle.swim_script.specs.Script.{are_past, kind_with, members_of}
use Rattle.swim_script.proofs.States.{same_ids, same_fault, not_past}
use Rattle.swim_script.proofs.openings.opening_of.Goals as goal

pub with_states-requires-clause-once : goal.with_states-requires-clause-once
with_states-requires-clause-once c =
    let a = c.args.a in
    let rows = c.args.rows.now in
    let members : c.as_slice.result.now ≡ members_of rows = c.as_slice.ensures.value ∙ c.members_of-members.ensures in
    let last : a.last < 2 ^ 64 = search rules in
    let once = (is_setting a.me a.k a.rtt a.period c.as_slice.result.now a.last c.args.version last
    c.in-Ok.ensures.exact.0).once in
    sym (ap has_twice (ap (λ (m : List (ℕ × Address)). ids_of (rows_up m)) members ∙ same_ids rows)) ∙ once

pub returns-in-Err : goal.returns-in-Err
returns-in-Err c =
    let a = c.args.a in
    let o : Setting = setting_by a c.args.rows.now c.args.version in
    let members : c.as_slice.result.now ≡ members_of c.args.rows.now = c.as_slice.ensures.value ∙
    c.members_of-members.ensures in
    let first = sym (same_fault o c.args.rows.now refl) ∙
    ap (λ (m : List (ℕ × Address)). first_fault (setting_of a.me a.k a.rtt a.period m a.last c.args.version))
    (sym members) ∙ c.in-Err.ensures.exact in
    ap (λ (f : Option OpeningFault). kind_with f (are_past o.last o.rows)) first

pub returns-in-None : goal.returns-in-None
returns-in-None c =
    let a = c.args.a in
    let rows = c.args.rows.now in
    let o : Setting = setting_by a rows c.args.version in
    let members : c.as_slice.result.now ≡ members_of rows = c.as_slice.ensures.value ∙ c.members_of-members.ensures in
    let first = sym (same_fault o rows refl) ∙
    ap (λ (m : List (ℕ × Address)). first_fault (setting_of a.me a.k a.rtt a.period m a.last c.args.version))
    (sym members) ∙ c.in-Ok.ensures.exact.0 in
    let unused : are_past c.in-Ok.opening.last rows ≡ false =
    not_past (are_past c.in-Ok.opening.last rows) (record c.in-Ok.opening { rows = rows })
    (sym c.in-None.ensures) in
    ap (λ (f : Option OpeningFault). kind_with f (are_past o.last o.rows)) first
    ∙ ap (λ (past : Bool). kind_with None past)
    (ap (λ (s : Setting). are_past s.last rows) (sym c.in-Ok.ensures.exact.1) ∙ unused)
