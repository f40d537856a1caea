-- What passes the check is within the limits, and what is within the limits passes.
use Rattle.std.proofs.Common.{◌≡◌, ℕ, ◌*◌, ◌<◌, ◌^◌, true, ◌||◌, nat_lt, nat_eq, List, [], ◌∷◌, length, None, refl}
use Rattle.std.proofs.Common.{arith}
use Rattle.std.proofs.lemmas.Bool.{ltb-false, le-ltb, eqb-false, ne_eqb, or_parts}
use Rattle.std.specs.List.{list_all}
use Rattle.swim_wire.specs.Address.{Address}
use Rattle.swim_wire.specs.First.{find_none}
use Rattle.swim_wire.specs.declared.messages.Version.{Version}
use Rattle.swim_history.specs.Setting.{Setting, IsSetting, is_state_past}
use Rattle.swim_history.specs.Check.{setting_of, rows_up, has_fault, first_fault}
use Rattle.swim_history.specs.declared.openings.OpeningFault.TheVariants.{Relays, Timing, TooManyRows, Myself, Twice}

-- members that are up failed in no period
are_past : (last : ℕ) (members : List (ℕ × Address)) → list_all (λ row. is_state_past last row.state)
    (rows_up members) ≡ true
are_past last [] = refl
are_past last (member ∷ members) = are_past last members

pub is_setting : (me k rtt period : ℕ) (members : List (ℕ × Address)) (last : ℕ) (version : Version) → last < 2 ^ 64 →
    first_fault (setting_of me k rtt period members last version) ≡ None →
    IsSetting (setting_of me k rtt period members last version)
is_setting me k rtt period members last version lt none =
    let rows = rows_up members in
    let test = has_fault (setting_of me k rtt period members last version) in
    let relays = find_none test Relays (Timing ∷ TooManyRows ∷ Myself ∷ Twice ∷ []) none in
    let timing = find_none test Timing (TooManyRows ∷ Myself ∷ Twice ∷ []) relays.1 in
    let many = find_none test TooManyRows (Myself ∷ Twice ∷ []) timing.1 in
    let myself = find_none test Myself (Twice ∷ []) many.1 in
    let twice = find_none test Twice [] myself.1 in
    let long = or_parts (nat_eq rtt 0 || nat_lt period (3 * rtt)) (nat_lt 65535 period) timing.0 in
    let short = or_parts (nat_eq rtt 0) (nat_lt period (3 * rtt)) long.0 in
    record {
      relays = ltb-false 8 k relays.0;
      timing =
          (omega (arith, eqb-false rtt 0 short.0), ltb-false period (3 * rtt) short.1, ltb-false 65535 period long.1);
      rows = ltb-false 128 (length rows) many.0;
      others = myself.0;
      once = twice.0;
      states = are_past last members;
      last = lt;
    }

pub no_fault : (o : Setting) → IsSetting o → first_fault o ≡ None
no_fault o s =
    rw (
      le-ltb 8 o.k s.relays,
      ne_eqb o.rtt 0 (λ e. omega (arith, s.timing.0)),
      le-ltb o.period (3 * o.rtt) s.timing.1,
      le-ltb 65535 o.period s.timing.2,
      le-ltb 128 (length o.rows) s.rows,
      s.others,
      s.once,
    ) refl
