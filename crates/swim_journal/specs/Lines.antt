-- The lines of a call and of what it was answered, as a journal file has them.
use Rattle.std.specs.Prelude.{◌≡◌, ℕ, ◌<◌, ◌≤◌, ◌^◌, List, length, ◌∷◌, ◌++◌, Ok, Some, None, codes, decimal}
use Rattle.hex.specs.Hex.{encode_lower, IsBytes}
use Rattle.swim_wire.specs.Address.{IsAddress, address_text}
use Rattle.swim_wire.specs.Layout.{text_of, decoded}
use Rattle.swim_text.specs.Lines.{pieces, bare}
use Rattle.swim_wire.specs.Messages.{Message}
use Rattle.swim_history.specs.declared.calls.Call.{Call}
use Rattle.swim_history.specs.declared.calls.Call.TheVariants.{Tick, Hear, Join, Remove}
use Rattle.swim_history.specs.declared.replies.Reply.{Reply}
use Rattle.swim_history.specs.Texts.{feed}
use Rattle.swim_script.specs.declared.commands.Command.{Command}
use Rattle.swim_script.specs.declared.commands.Command.TheVariants as commands
use Rattle.swim_script.specs.declared.commands.Stage.{Stage}
use Rattle.swim_script.specs.declared.forms.Form.TheVariants.{Journal}
use Rattle.swim_script.specs.Commands.{fault_of_word, line_read, word_for}
use Rattle.swim_script.specs.Texts.{placed_text}

-- the text of a call
abbrev pub call_text : Call → List ℕ
call_text Tick = codes "tick"
call_text (Hear source m) = codes "hear " ++ (address_text source ++ (codes " " ++ encode_lower (text_of m)))
call_text (Join id peer) = codes "join " ++ (decimal id ++ (codes " " ++ address_text peer))
call_text (Remove id) = codes "remove " ++ decimal id

abbrev pub call_line : Call → List ℕ
call_line call = call_text call ++ feed

-- the text of what was answered, with the place of its entry
abbrev pub answer_text : ℕ → Reply → List ℕ
answer_text place reply = codes "= " ++ placed_text place reply

abbrev pub answer_line : ℕ → Reply → List ℕ
answer_line place reply = answer_text place reply ++ feed

-- what a script's line of a call says
abbrev pub command_of : Call → Command
command_of Tick = commands.Tick
command_of (Hear source m) = commands.Hear source (Ok m)
command_of (Join id peer) = commands.Join id peer
command_of (Remove id) = commands.Remove id

-- the line of a call is one line of every text that it begins, no longer than a line may be, and says the call in a
-- journal file, wherever its word may stand
pub record IsReadBack (call : Call) : Type 0 where
  pub line : (rest : List ℕ) → pieces (call_line call ++ rest) ≡ call_line call ∷ pieces rest
  pub bare : bare (call_line call) ≡ call_text call
  pub short : length (call_text call) ≤ 2048
  pub says : (stage : Stage) → fault_of_word stage (word_for (command_of call)) ≡ None →
      line_read Journal stage (call_text call) ≡ Ok (Some (command_of call))

-- ---- what the types of a call show

abbrev pub IsId : ℕ → Type 0
IsId id = (0 < id) × (id < 2 ^ 32)

-- the message is read from its datagram
abbrev pub IsDecoded : Message → Type 0
IsDecoded m = (decoded (text_of m) ≡ Ok m) × IsBytes (text_of m)

-- its ids, its address and its message are such
abbrev pub IsSpoken : Call → Type 0
IsSpoken Tick = Unit {0}
IsSpoken (Hear source m) = IsDecoded m × IsAddress source
IsSpoken (Join id peer) = IsId id × IsAddress peer
IsSpoken (Remove id) = IsId id
