-- What a test of each item, and a count, say of the keys of a group.
use Rattle.std.proofs.Common.{◌≡◌, ℕ, suc, ◌&&◌, List, [], ◌∷◌, Result, Ok, Err, is_some, length, refl, ap}
use Rattle.std.specs.List.{list_all}
use Rattle.toml.specs.Data.{Data, Items, item, as_str}
use Rattle.toml.specs.View.{view, items_view}
use Rattle.toml.specs.declared.value.Value.{Value}
use Rattle.swim_wire.specs.Arguments.{◌>>=◌}
use Rattle.swim_config.specs.declared.config_fault.ConfigFault.{ConfigFault}
use Rattle.swim_config.specs.GroupKeys.{are_strings, count_of, group_key_of, group_keys_of}
use Rattle.swim_config.proofs.Views.{after}

pub are_strings_view : (vs : List Value) → are_strings (items_view vs) ≡ list_all (λ v. is_some (as_str (view v))) vs
are_strings_view [] = refl
are_strings_view (v ∷ vs) = ap (λ b. is_some (as_str (view v)) && b) (are_strings_view vs)

pub count_view : (vs : List Value) → count_of (items_view vs) ≡ length vs
count_view [] = refl
count_view (v ∷ vs) = ap suc (count_view vs)

-- an item that is a key, before the others
pub first_key_read : (value : Data) (others : Items) (one : List ℕ) → group_key_of value ≡ Ok one →
    group_keys_of (item value others) ≡ after (one ∷ []) (group_keys_of others)
first_key_read value others one is = rw is (by (group_keys_of others)) where
  by : (said : Result (List (List ℕ)) ConfigFault) → (said >>= (λ rest. Ok (one ∷ rest))) ≡ after (one ∷ []) said
  by (Ok rest) = refl
  by (Err fault) = refl

-- an item that is none
pub first_key_unread : (value : Data) (others : Items) (fault : ConfigFault) → group_key_of value ≡ Err fault →
    group_keys_of (item value others) ≡ Err fault
first_key_unread value others fault is = rw is refl
