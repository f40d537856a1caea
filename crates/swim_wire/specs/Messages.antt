-- A message, as contracts see a `Message`, and which messages there are.
use Rattle.std.specs.Prelude.{◌≡◌, ℕ, Bool, true, false, Option, is_some}
use Rattle.swim_wire.specs.Address.{Address}
use Rattle.swim_wire.specs.declared.messages.Kind.{Kind}
use Rattle.swim_wire.specs.declared.messages.Kind.TheVariants.{PingReq}
use Rattle.swim_wire.specs.declared.messages.Version.{Version}
use Rattle.swim_wire.specs.declared.messages.Version.TheVariants.{Two}

-- how it is laid out, what it is, who sent it, who began the probe, who is probed, in which of the initiator's periods,
-- and where the target is, if it says so
pub record Message : Type 0 where
  pub version : Version
  pub kind : Kind
  pub sender : ℕ
  pub initiator : ℕ
  pub target : ℕ
  pub number : ℕ
  pub at : Option Address

-- a message of that version and kind says where its target is
abbrev pub carries : Version → Kind → Bool
carries Two PingReq = true
carries version kind = false

-- it says so exactly where its version and kind do
abbrev pub IsFormed : Message → Type 0
IsFormed m = is_some m.at ≡ carries m.version m.kind
