-- What a test of each key, or of each item, says of a table and of an array.
use Rattle.std.proofs.Common.{◌≡◌, ℕ, ◌&&◌, List, [], ◌∷◌, ◌++◌, Result, Ok, Err, string_bytes, is_some}
use Rattle.std.proofs.Common.{refl, sym, ap}
use Rattle.std.proofs.lemmas.List.{append_assoc}
use Rattle.std.specs.List.{list_all}
use Rattle.std.specs.Map.{keys_of}
use Rattle.toml.proofs.Views.{Entry}
use Rattle.toml.specs.Data.{Data, Items, item, as_table}
use Rattle.toml.specs.View.{view, items_view, members_view}
use Rattle.toml.specs.declared.value.Value.{Value}
use Rattle.swim_wire.specs.Address.{Address}
use Rattle.swim_wire.specs.Arguments.{◌>>=◌}
use Rattle.swim_config.specs.declared.config_fault.ConfigFault.{ConfigFault}
use Rattle.swim_config.specs.declared.keys.ConfigKey.{ConfigKey}
use Rattle.swim_config.specs.Configuration.{is_name, has_only, are_tables, member_of, members_of}

pub has_only_view : (known : List ConfigKey) (es : List Entry) →
    has_only known (members_view es) ≡ list_all (λ name. is_name known (string_bytes name)) (keys_of es)
has_only_view known [] = refl
has_only_view known (e ∷ es) = ap (λ b. is_name known (string_bytes e.0) && b) (has_only_view known es)

pub are_tables_view : (vs : List Value) → are_tables (items_view vs) ≡ list_all (λ v. is_some (as_table (view v))) vs
are_tables_view [] = refl
are_tables_view (v ∷ vs) = ap (λ b. is_some (as_table (view v)) && b) (are_tables_view vs)

-- what was read of the first items, and what the others say
abbrev pub after : {A E : Type 0} → List A → Result (List A) E → Result (List A) E
after done (Ok rest) = Ok (done ++ rest)
after done (Err fault) = Err fault

pub after_nothing : {A E : Type 0} (said : Result (List A) E) → said ≡ after [] said
after_nothing (Ok rest) = refl
after_nothing (Err fault) = refl

-- one more was read
pub after_one : {A E : Type 0} (done : List A) (x : A) (said : Result (List A) E) →
    after done (after (x ∷ []) said) ≡ after (done ++ x ∷ []) said
after_one done x (Ok rest) = ap (λ (xs : List _). Ok xs) (sym (append_assoc done (x ∷ []) rest))
after_one done x (Err fault) = refl

-- an item that is a member, before the others
pub first_read : (value : Data) (others : Items) (one : ℕ × Address) → member_of value ≡ Ok one →
    members_of (item value others) ≡ after (one ∷ []) (members_of others)
first_read value others one is = rw is (by (members_of others)) where
  by : (said : Result (List (ℕ × Address)) ConfigFault) →
      (said >>= (λ rest. Ok (one ∷ rest))) ≡ after (one ∷ []) said
  by (Ok rest) = refl
  by (Err fault) = refl

-- an item that is none
pub first_unread : (value : Data) (others : Items) (fault : ConfigFault) → member_of value ≡ Err fault →
    members_of (item value others) ≡ Err fault
first_unread value others fault is = rw is refl
