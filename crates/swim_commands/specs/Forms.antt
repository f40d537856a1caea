-- How the answers of a daemon are written.
use Rattle.std.specs.Prelude.{◌==◌, ◌&&◌, ◌||◌, not, ℕ, ◌-◌, Bool, true, false, List, [], ◌∷◌, ◌++◌, length, take}
use Rattle.std.specs.Prelude.{Option, Some, None, is_some, codes, decimal, option_and_then, option_map}
use Rattle.std.specs.Prelude.{if◌then◌else◌}
use Rattle.std.specs.List.{flat_map, starts_with}
use Rattle.std.specs.Option.{option_map_or}
use Rattle.std.specs.Str.{bytes_eq}
use Rattle.swim_text.specs.Words.{words_by, words_of}
use Rattle.swim_wire.specs.Address.{Address, address_of, address_text}
use Rattle.swim_wire.specs.Ids.{id_of}
use Rattle.swim_commands.specs.declared.forms.Form.{Form}
use Rattle.swim_commands.specs.declared.forms.Form.TheVariants.{Plain, Explained, Tables}
use Rattle.swim_commands.specs.Ages.{aged, has_failed, periods_in}
use Rattle.swim_commands.specs.Answers.{is_over, is_refusal}

-- ---- with the name of what an answer tells by its number

-- what a number says, nothing of any other answer
abbrev pub fault_name : List ℕ → List ℕ
fault_name answer =
    if bytes_eq answer (codes "fault 1\n") then codes "the line is too long"
    else if bytes_eq answer (codes "fault 2\n") then codes "unknown word"
    else if bytes_eq answer (codes "fault 3\n") then codes "the id is missing or refused"
    else if bytes_eq answer (codes "fault 4\n") then codes "the address is missing or refused"
    else if bytes_eq answer (codes "fault 5\n") then codes "words are left over"
    else if bytes_eq answer (codes "fault 6\n") then codes "the input ended within the line"
    else []

abbrev pub refusal_name : List ℕ → List ℕ
refusal_name answer =
    if bytes_eq answer (codes "refused 1\n") then codes "myself"
    else if bytes_eq answer (codes "refused 2\n") then codes "listed"
    else if bytes_eq answer (codes "refused 3\n") then codes "full"
    else if bytes_eq answer (codes "refused 4\n") then codes "unknown"
    else if bytes_eq answer (codes "refused 5\n") then codes "the period numbers are used up"
    else []

abbrev pub name_of : List ℕ → List ℕ
name_of answer =
    if starts_with (λ a b. a == b) answer (codes "joined ") then codes "the place in the round"
    else if starts_with (λ a b. a == b) answer (codes "fault ") then fault_name answer
    else refusal_name answer

-- an answer of one line, with a name behind it
abbrev pub named : List ℕ → List ℕ → List ℕ
named answer name = take (length answer - 1) answer ++ (codes " " ++ (name ++ codes "\n"))

-- an answer with the name of what it tells by a number, if it tells anything so
abbrev pub with_name : List ℕ → List ℕ
with_name answer = if length (name_of answer) == 0 then answer else named answer (name_of answer)

-- ---- as the tables of a configuration

-- the id and the address of a row of a member table, nothing of any other line
abbrev pub member_in : List (List ℕ) → Option (ℕ × Address)
member_in (id ∷ peer ∷ state ∷ rest) =
    option_and_then (λ id. option_map (λ peer. (id, peer)) (address_of peer)) (id_of id)
member_in words = None

abbrev pub member_of : List ℕ → Option (ℕ × Address)
member_of line = member_in (words_of line)

-- rows, and then a line with a dot, the last
abbrev pub is_rows_and_dot : List (List ℕ) → Bool
is_rows_and_dot [] = false
is_rows_and_dot (line ∷ rest) =
    if is_some (member_of line) then is_rows_and_dot rest else bytes_eq line (codes ".") && is_over rest

-- the answer is a member table
abbrev pub is_table : List ℕ → Bool
is_table answer = is_rows_and_dot (words_by 10 answer)

abbrev pub table_text : ℕ × Address → List ℕ
table_text member =
    codes "[[member]]\nid = " ++ (decimal member.0 ++ (codes "\nat = \"" ++ (address_text member.1 ++ codes "\"\n")))

-- a table for each row
abbrev pub table_line : List ℕ → List ℕ
table_line line = option_map_or table_text (member_of line) []

abbrev pub tables_text : List ℕ → List ℕ
tables_text answer = flat_map table_line (words_by 10 answer)

-- ---- an answer

-- a member table with the ages of its verdicts, by the daemon's counts, and any other answer with its name
abbrev pub explained : List ℕ → List ℕ → List ℕ
explained counts answer =
    if is_table answer then aged (periods_in counts) answer else with_name answer

-- what is written of it, where the daemon has these counts; of what is no member table no tables are made
abbrev pub shown : Form → List ℕ → List ℕ → List ℕ
shown Plain counts answer = answer
shown Explained counts answer = explained counts answer
shown Tables counts answer = if is_table answer then tables_text answer else answer

-- counts of the daemon are needed to write it: it is a member table with a member that failed
abbrev pub needs_counts : Form → List ℕ → Bool
needs_counts Plain answer = false
needs_counts Explained answer = is_table answer && has_failed (words_by 10 answer)
needs_counts Tables answer = false

-- it says that what was asked was not done, or isn't the table that was asked for
abbrev pub is_unmet : Form → List ℕ → Bool
is_unmet Plain answer = is_refusal answer
is_unmet Explained answer = is_refusal answer
is_unmet Tables answer = not (is_table answer)
