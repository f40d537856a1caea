-- The header of a journal file: its first line, the opening, the version if it isn't the first, the members that are
-- known, and the seed with the life.
use Rattle.std.specs.Prelude.{◌≡◌, ℕ, ◌<◌, ◌^◌, List, [], ◌∷◌, ◌++◌, length, codes, decimal}
use Rattle.hex.specs.Hex.{encode_lower, IsBytes}
use Rattle.swim_wire.specs.Address.{IsAddress, address_text}
use Rattle.swim_wire.specs.declared.messages.Version.{Version}
use Rattle.swim_wire.specs.declared.messages.Version.TheVariants.{One, Two}
use Rattle.swim_history.specs.declared.rows.Row.{Row}
use Rattle.swim_history.specs.declared.rows.RowState.{RowState}
use Rattle.swim_history.specs.declared.rows.RowState.TheVariants.{Up, Failed}
use Rattle.swim_history.specs.Setting.{Setting, IsSetting}
use Rattle.swim_history.specs.Texts.{feed}
use Rattle.swim_journal.specs.Lines.{IsId}

-- the line by which a file is a journal file
abbrev pub mark_line : List ℕ
mark_line = codes "journal 1\n"

-- the opening, and how many entries the journal may have
abbrev pub open_line : Setting → ℕ → List ℕ
open_line o limit =
    codes "open " ++ (decimal o.me ++ (codes " " ++ (decimal o.k ++ (codes " " ++ (decimal o.rtt ++
    (codes " " ++ (decimal o.period ++ (codes " " ++ (decimal o.last ++ (codes " " ++ (decimal limit ++ feed)))))))))))

-- the version of the member's own messages; the first isn't told
abbrev pub wire_text : Version → List ℕ
wire_text One = []
wire_text Two = codes "wire 2\n"

-- the end of a member's line: where it failed, the number of that period stands there
abbrev pub state_end : RowState → List ℕ
state_end Up = feed
state_end (Failed number) = codes " failed " ++ (decimal number ++ feed)

-- a member that is known
abbrev pub row_line : Row → List ℕ
row_line row = codes "row " ++ (decimal row.id ++ (codes " " ++ (address_text row.peer ++ state_end row.state)))

abbrev pub row_lines : List Row → List ℕ
row_lines [] = []
row_lines (row ∷ rows) = row_line row ++ row_lines rows

-- the seed, and the number of the life, whose stream of the seed is drawn from
abbrev pub seed_line : List ℕ → ℕ → List ℕ
seed_line seed life = codes "seed " ++ (encode_lower seed ++ (codes " " ++ (decimal life ++ feed)))

abbrev pub header_text : Setting → ℕ → List ℕ → ℕ → List ℕ
header_text o limit seed life =
    mark_line ++ (open_line o limit ++ (wire_text o.version ++ (row_lines o.rows ++ seed_line seed life)))

-- the number of a period is one of its type
abbrev pub IsState : RowState → Type 0
IsState Up = Unit {0}
IsState (Failed number) = number < 2 ^ 64

-- members have the ids, the addresses and the states of such
abbrev pub AreTellable : List Row → Type 0
AreTellable [] = Unit {0}
AreTellable (row ∷ rows) = IsId row.id × IsAddress row.peer × IsState row.state × AreTellable rows

-- header lines can tell this: it is an opening, and the numbers are those of their types
pub record IsTellable (o : Setting) (limit : ℕ) (seed : List ℕ) (life : ℕ) : Type 0 where
  pub setting : IsSetting o
  pub me : IsId o.me
  pub rows : AreTellable o.rows
  pub numbers : (limit < 2 ^ 32) × (life < 2 ^ 64)
  pub key : (length seed ≡ 32) × IsBytes seed
