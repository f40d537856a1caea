-- What is read where memory may be refused.
use Rattle.std.specs.Prelude.{◌≡◌, ◌⊎◌, ℕ, ◌<◌, ◌≤◌, ◌^◌, List, Result, Ok, Err, String, Vec}
use Rattle.std.specs.BTreeMap.{BTreeMap}
use Rattle.std.specs.declared.alloc.Global.{Global}
use Rattle.toml.specs.Data.{Members}
use Rattle.toml.specs.View.{table_view}
use Rattle.toml.specs.declared.value.Value.{Value}
use Rattle.swim_config.specs.declared.config_fault.ConfigFault.{ConfigFault}
use Rattle.swim_config.specs.declared.config_fault.ConfigFault.TheVariants.{NoMemory}
use Rattle.swim_config.specs.declared.keys.ValueForm.{ValueForm}
use Rattle.swim_config.specs.declared.keys.ValueForm.TheVariants.{Number}

-- it is what the format says, or memory was refused
abbrev pub OrNoMemory : {A : Type 0} → Result A ConfigFault → Result A ConfigFault → Type 0
OrNoMemory result said = (result ≡ Err NoMemory) ⊎ (result ≡ said)

-- the same of a list
abbrev pub items_read : {A : Type 0} → Result (Vec A Global) ConfigFault → Result (List A) ConfigFault
items_read (Ok v) = Ok v.items
items_read (Err fault) = Err fault

abbrev pub Reads : {A : Type 0} → Result (Vec A Global) ConfigFault → Result (List A) ConfigFault → Type 0
Reads result said = OrNoMemory (items_read result) said

-- a table that was read
abbrev pub table_read : Result (BTreeMap (String Global) Value) ConfigFault → Result Members ConfigFault
table_read (Ok table) = Ok (table_view table)
table_read (Err fault) = Err fault

-- a number of that form
abbrev pub IsWithin : ValueForm → ℕ → Type 0
IsWithin (Number least most) number = (least ≤ number) × (number ≤ most)
IsWithin form number = Unit {0}

-- its numbers fit 32 bits
abbrev pub IsSmall : ValueForm → Type 0
IsSmall (Number least most) = most < 2 ^ 32
IsSmall form = Unit {0}
