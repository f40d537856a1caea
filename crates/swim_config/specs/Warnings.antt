-- What a configuration allows and can't work, as it is warned of.
use Rattle.std.specs.Prelude.{ℕ, ◌+◌, ◌*◌, ◌-◌, ◌/◌, ◌^◌, min, Bool, true, false, ◌&&◌, ◌==◌, nat_lt, nat_le, List}
use Rattle.std.specs.Prelude.{[], ◌∷◌, ◌++◌, length}
use Rattle.std.specs.Prelude.{slice_index, if◌then◌else◌, codes, decimal}
use Rattle.std.specs.List.{list_all, list_any}
use Rattle.std.specs.Str.{bytes_eq}
use Rattle.swim_wire.specs.Address.{Address, address_text}
use Rattle.swim_wire.specs.declared.messages.Version.{Version}
use Rattle.swim_wire.specs.declared.messages.Version.TheVariants.{One, Two}
use Rattle.swim_history.specs.Setting.{Setting}
use Rattle.swim_history.specs.declared.rows.Row.{Row}
use Rattle.swim_config.specs.declared.config.Config.{Config}

-- the text where it applies
abbrev pub text_if : Bool → List ℕ → List ℕ
text_if applies text = if applies then text else []

-- ---- the journal

-- the entries of three rounds: a round has as many periods as members are listed, each of them its ticks and two
-- entries more,
-- and it has two entries for each other member
abbrev pub three_rounds : Setting → ℕ
three_rounds o = 3 * (length o.rows * (o.period + 2) + 2 * length o.rows)

abbrev pub journal_text : ℕ → ℕ → List ℕ
journal_text journal wanted =
    codes "warning: journal " ++ (decimal journal
    ++ (codes " is shorter than three rounds, which take " ++ (decimal wanted ++ codes " entries\n")))

abbrev pub short_journal_text : ℕ → ℕ → List ℕ
short_journal_text journal wanted = text_if (nat_lt journal wanted) (journal_text journal wanted)

-- how long a period lasts, and how long three rounds do, in milliseconds
abbrev pub period_ms : Config → ℕ
period_ms config = config.opening.period * config.tick_ms

abbrev pub rounds_ms : Config → ℕ
rounds_ms config = 3 * (length config.opening.rows * period_ms config)

-- the entries that so many datagrams a second add within that time; more than 64 bits count is as many as they do
abbrev pub flood_entries : ℕ → ℕ → ℕ
flood_entries rate milliseconds = (min (rate * milliseconds) (2 ^ 64 - 1) + 999) / 1000

abbrev pub flood_text : ℕ → ℕ → ℕ → List ℕ
flood_text journal rate wanted =
    codes "warning: journal " ++ (decimal journal
    ++ (codes " is shorter than what a flood of " ++ (decimal rate
    ++ (codes " datagrams a second adds in three rounds, " ++ (decimal wanted ++ codes " entries\n")))))

abbrev pub short_for_a_flood_text : ℕ → ℕ → ℕ → List ℕ
short_for_a_flood_text journal rate wanted = text_if (nat_lt journal wanted) (flood_text journal rate wanted)

-- of a fence that isn't given nothing is told
abbrev pub floods_text : Config → List ℕ
floods_text config =
    text_if config.is_fence_given
    (short_for_a_flood_text config.journal config.fence (flood_entries config.fence (rounds_ms config)))

-- ---- addresses

abbrev pub is_same_address : Address → Address → Bool
is_same_address a b = bytes_eq a.ip b.ip && a.port == b.port

-- a member is where this member listens
abbrev pub own_line : ℕ → Address → List ℕ
own_line id listen =
    codes "warning: member " ++ (decimal id
    ++ (codes " is at this member's own address, " ++ (address_text listen ++ codes "\n")))

abbrev pub own_address_text : Address → Row → List ℕ
own_address_text listen row = text_if (is_same_address row.peer listen) (own_line row.id listen)

abbrev pub own_addresses_text : Address → List Row → List ℕ
own_addresses_text listen [] = []
own_addresses_text listen (row ∷ rows) = own_address_text listen row ++ own_addresses_text listen rows

-- a member, and the next one at its address
abbrev pub shared_line : ℕ → ℕ → Address → List ℕ
shared_line first second at =
    codes "warning: members " ++ (decimal first
    ++ (codes " and " ++ (decimal second
    ++ (codes " are at one address, " ++ (address_text at ++ codes "\n")))))

abbrev pub shared_address_text : Row → List Row → List ℕ
shared_address_text row [] = []
shared_address_text row (other ∷ others) =
    if is_same_address row.peer other.peer then shared_line row.id other.id row.peer else shared_address_text row others

abbrev pub shared_addresses_text : List Row → List ℕ
shared_addresses_text [] = []
shared_addresses_text (row ∷ rows) = shared_address_text row rows ++ shared_addresses_text rows

-- ---- relays, periods, the seed and the keys

-- so many are asked, and fewer of the members that are listed could relay a ping: all but the one that is probed
abbrev pub has_few_relays : ℕ → ℕ → Bool
has_few_relays relays members = nat_lt 0 members && nat_le members relays

abbrev pub relays_text : ℕ → ℕ → List ℕ
relays_text relays could_relay =
    codes "warning: k " ++ (decimal relays
    ++ (codes " is greater than the members that could relay, " ++ (decimal could_relay ++ codes "\n")))

abbrev pub few_relays_text : ℕ → ℕ → List ℕ
few_relays_text relays members = text_if (has_few_relays relays members) (relays_text relays (members - 1))

abbrev pub period_text : ℕ → List ℕ
period_text milliseconds =
    codes "warning: a period has " ++ (decimal milliseconds ++ codes " milliseconds, which is beyond a day\n")

-- it is one byte again and again
abbrev pub is_plain : List ℕ → Bool
is_plain bytes = list_all (λ byte. byte == slice_index bytes 0) bytes

abbrev pub long_period_text : ℕ → List ℕ
long_period_text milliseconds = text_if (nat_lt 86400000 milliseconds) (period_text milliseconds)

abbrev pub plain_seed_text : List ℕ → List ℕ
plain_seed_text seed =
    text_if (is_plain seed) (codes "warning: seed is one byte again and again, which anybody may guess\n")

-- one of the keys is
abbrev pub plain_keys_text : List (List ℕ) → List ℕ
plain_keys_text keys =
    text_if (list_any is_plain keys)
    (codes "warning: a key of the group is one byte again and again, which anybody may guess\n")

-- of the seed and the keys
abbrev pub guesses_text : Config → List ℕ
guesses_text config = plain_seed_text config.seed ++ plain_keys_text config.keys.items

-- ---- waits

-- how long a direct ack is waited for, in milliseconds
abbrev pub rtt_ms : Config → ℕ
rtt_ms config = config.opening.rtt * config.tick_ms

abbrev pub short_rtt_line : ℕ → List ℕ
short_rtt_line milliseconds =
    codes "warning: rtt has " ++ (decimal milliseconds ++ codes " milliseconds, which is below 10\n")

abbrev pub short_rtt_text : ℕ → List ℕ
short_rtt_text milliseconds = text_if (nat_lt milliseconds 10) (short_rtt_line milliseconds)

abbrev pub one_tick_line : ℕ → List ℕ
one_tick_line tick_ms =
    codes "warning: rtt is one tick of " ++ (decimal tick_ms ++ codes " milliseconds, which is below 20\n")

-- it is waited for a short tick alone, which may begin just before or just behind the ping
abbrev pub one_tick_text : ℕ → ℕ → List ℕ
one_tick_text rtt tick_ms = text_if (rtt == 1 && nat_lt tick_ms 20) (one_tick_line tick_ms)

abbrev pub no_relays_line : ℕ → List ℕ
no_relays_line members =
    codes "warning: k is 0, so that none of " ++ (decimal members ++ codes " members is asked to relay\n")

abbrev pub no_relays_text : ℕ → ℕ → List ℕ
no_relays_text relays members = text_if (relays == 0 && nat_lt 2 members) (no_relays_line members)

abbrev pub ticks_and_relays_text : Config → List ℕ
ticks_and_relays_text config =
    one_tick_text config.opening.rtt config.tick_ms ++ no_relays_text config.opening.k (length config.opening.rows)

abbrev pub waits_text : Config → List ℕ
waits_text config = short_rtt_text (rtt_ms config) ++ ticks_and_relays_text config

-- ---- verdicts

abbrev pub is_first : Version → Bool
is_first One = true
is_first Two = false

-- a ping-req of version 1 names the target by its id alone: a relay that judged it sends no ping
abbrev pub first_wire_text : Version → ℕ → List ℕ
first_wire_text version relays =
    text_if (is_first version && nat_lt 0 relays)
    (codes "warning: wire is 1, so that a relay that judged a member is no path to it\n")

-- members are listed, and none is knocked at
abbrev pub no_return_text : ℕ → ℕ → List ℕ
no_return_text rejoin members =
    text_if (rejoin == 0 && nat_lt 0 members)
    (codes "warning: rejoin is 0, so that only an operator's join brings a failed member back\n")

abbrev pub verdicts_text : Config → List ℕ
verdicts_text config =
    first_wire_text config.opening.version config.opening.k ++ no_return_text config.rejoin (length config.opening.rows)

-- ---- all of them

-- of verdicts, and what follows
abbrev pub verdicts_and_guesses_text : Config → List ℕ
verdicts_and_guesses_text config = verdicts_text config ++ guesses_text config

-- of waits, and what follows
abbrev pub waits_and_guesses_text : Config → List ℕ
waits_and_guesses_text config = waits_text config ++ verdicts_and_guesses_text config

-- of the period, and what follows
abbrev pub times_text : Config → List ℕ
times_text config = long_period_text (period_ms config) ++ waits_and_guesses_text config

-- of the relays, and what follows
abbrev pub relays_and_times_text : Config → List ℕ
relays_and_times_text config = few_relays_text config.opening.k (length config.opening.rows) ++ times_text config

-- of members at one address, and what follows
abbrev pub shared_and_more_text : Config → List ℕ
shared_and_more_text config = shared_addresses_text config.opening.rows ++ relays_and_times_text config

-- of members at this member's own address, and what follows
abbrev pub addresses_and_more_text : Config → List ℕ
addresses_and_more_text config =
    own_addresses_text config.listen config.opening.rows ++ shared_and_more_text config

-- of a flood, and what follows
abbrev pub floods_and_more_text : Config → List ℕ
floods_and_more_text config = floods_text config ++ addresses_and_more_text config

-- the whole, each where it applies, in this order
abbrev pub warnings_text : Config → List ℕ
warnings_text config =
    short_journal_text config.journal (three_rounds config.opening) ++ floods_and_more_text config
