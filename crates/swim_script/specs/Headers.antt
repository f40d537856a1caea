-- What the lines of a script tell before the first event line. Lines are lists of bytes with their line feeds; a
-- list of lines is newest first, so that each line stands before the earlier ones.
use Rattle.std.specs.Prelude.{ℕ, ◌+◌, Bool, true, false, ◌||◌, List, [], ◌∷◌, ◌++◌, length, Option, Some, None, Result}
use Rattle.std.specs.Prelude.{Ok, Err, if◌then◌else◌, is_some}
use Rattle.swim_text.specs.Lines.{bare}
use Rattle.swim_wire.specs.declared.messages.Version.{Version}
use Rattle.swim_wire.specs.declared.messages.Version.TheVariants.{One}
use Rattle.swim_history.specs.Setting.{Setting}
use Rattle.swim_history.specs.declared.rows.Row.{Row}
use Rattle.swim_targets.specs.Draws.{of_seed}
use Rattle.swim_script.specs.declared.arguments.OpenArguments.{OpenArguments}
use Rattle.swim_script.specs.declared.arguments.Opened.{Opened}
use Rattle.swim_script.specs.declared.choosers.Drawer.{Drawer}
use Rattle.swim_script.specs.declared.choosers.Drawer.TheVariants as drawers
use Rattle.swim_script.specs.declared.commands.LineFault.{LineFault}
use Rattle.swim_script.specs.declared.commands.Draws.{Draws}
use Rattle.swim_script.specs.declared.commands.Draws.TheVariants.{Unsaid, Scripted, Seeded}
use Rattle.swim_script.specs.declared.commands.Stage.{Stage}
use Rattle.swim_script.specs.declared.commands.Stage.TheVariants.{Blank, Header, Events}
use Rattle.swim_script.specs.declared.commands.Command.{Command}
use Rattle.swim_script.specs.declared.commands.Command.TheVariants.{Open, Row as RowLine, Order, Place, Seed, Wire}
use Rattle.swim_script.specs.declared.commands.Command.TheVariants.{Answer}
use Rattle.swim_script.specs.declared.forms.Form.{Form}
use Rattle.swim_script.specs.Commands.{line_read}
use Rattle.swim_script.specs.Forms.{is_mark, form_of}

-- what header lines tell: the opening, its rows in order, who chooses, of a seed also the life, and the version of the
-- member's own pings and ping-reqs
pub record Told : Type 0 where
  pub opened : Option Opened
  pub rows : List Row
  pub orders : List (List ℕ)
  pub places : List ℕ
  pub seed : Option (List ℕ × ℕ)
  pub wire : Option Version

abbrev pub nothing_told : Told
nothing_told = record { opened = None; rows = []; orders = []; places = []; seed = None; wire = None }

-- after a line that says this; n is its number
abbrev pub told_then : ℕ → Command → Told → Told
told_then n (Open arguments) told = record told { opened = Some (record { line = n; arguments = arguments }) }
told_then n (RowLine row) told = record told { rows = told.rows ++ row ∷ [] }
told_then n (Order order) told = record told { orders = told.orders ++ order.items ∷ [] }
told_then n (Place place) told = record told { places = told.places ++ place ∷ [] }
told_then n (Seed key life) told = record told { seed = Some (key, life) }
told_then n (Wire version) told = record told { wire = Some version }
told_then n command told = told

-- an event line
abbrev pub is_event : Command → Bool
is_event (Open arguments) = false
is_event (RowLine row) = false
is_event (Order order) = false
is_event (Place place) = false
is_event (Seed key life) = false
is_event (Wire version) = false
is_event (Answer text) = false
is_event command = true

-- what lines told, and whether an event line is among them
pub record Head : Type 0 where
  pub told : Told
  pub begun : Bool

-- what was told of who chooses
abbrev pub draws_with : List (List ℕ) → List ℕ → Option (List ℕ × ℕ) → Draws
draws_with orders places (Some seed) = Seeded
draws_with [] [] None = Unsaid
draws_with orders places None = Scripted

-- how far a script has come: an opening stands first, and header lines before event lines
abbrev pub stage_with : Option Opened → Draws → Bool → Stage
stage_with None draws wired = Blank
stage_with (Some opened) draws wired = Header draws wired

abbrev pub stage_told : Told → Stage
stage_told told =
    stage_with told.opened (draws_with told.orders told.places told.seed) (is_some told.wire)

abbrev pub stage_of : Head → Stage
stage_of head = if head.begun then Events else stage_told head.told

-- what a line says that has no fault; nothing where it is skipped
abbrev pub command_in : Result (Option Command) LineFault → Option Command
command_in (Ok said) = said
command_in (Err fault) = None

-- what a line says, after those of a head; nothing where it is the mark of a journal file
abbrev pub read_with : Bool → Form → Head → List ℕ → Result (Option Command) LineFault
read_with mark form head line = if mark then Ok None else line_read form (stage_of head) (bare line)

abbrev pub head_then : ℕ → Option Command → Head → Head
head_then n None head = head
head_then n (Some command) head =
    record { told = told_then n command head.told; begun = is_event command || head.begun }

-- after all these lines
abbrev pub head_of : List (List ℕ) → Head
head_of [] = record { told = nothing_told; begun = false }
head_of (line ∷ before) =
    head_then (length before + 1)
    (command_in (read_with (is_mark (length before) (bare line)) (form_of before) (head_of before) line))
    (head_of before)

-- what a line says after those before it
abbrev pub read_after : List (List ℕ) → List ℕ → Result (Option Command) LineFault
read_after before line = read_with (is_mark (length before) (bare line)) (form_of before) (head_of before) line

abbrev pub said : List (List ℕ) → List ℕ → Option Command
said before line = command_in (read_after before line)

-- ---- what follows from it

-- the opening
abbrev pub setting_by : OpenArguments → List Row → Version → Setting
setting_by a rows version = record {
  me = a.me;
  k = a.k;
  rtt = a.rtt;
  period = a.period;
  rows = rows;
  last = a.last;
  version = version;
}

abbrev pub setting_with : Option Opened → List Row → Version → Setting
setting_with None rows version =
    record { me = 0; k = 0; rtt = 0; period = 0; rows = rows; last = 0; version = version }
setting_with (Some opened) rows version = setting_by opened.arguments rows version

-- the version that was told, or else the first
abbrev pub version_with : Option Version → Version
version_with None = One
version_with (Some version) = version

abbrev pub setting_in : Told → Setting
setting_in told = setting_with told.opened told.rows (version_with told.wire)

-- how many entries the journal may have
abbrev pub limit_with : Option Opened → ℕ
limit_with None = 0
limit_with (Some opened) = opened.arguments.limit

abbrev pub limit_in : Told → ℕ
limit_in told = limit_with told.opened

-- who chooses: the generator of the seed at the start of its life's stream, or else the orders and places that were
-- written down
abbrev pub chooser_with : List (List ℕ) → List ℕ → Option (List ℕ × ℕ) → Drawer
chooser_with orders places (Some seed) = drawers.Seeded (record (of_seed seed.0) { stream = seed.1 })
chooser_with orders places None = drawers.Scripted (record { orders = orders; places = places })

abbrev pub chooser_in : Told → Drawer
chooser_in told = chooser_with told.orders told.places told.seed
