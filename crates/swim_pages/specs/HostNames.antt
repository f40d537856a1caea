-- The names by which a request may call the host.
use Rattle.std.specs.Prelude.{ℕ, ◌-◌, List, [], ◌∷◌, ◌++◌, length, take, drop, Option, Some, None, codes, decimal}
use Rattle.std.specs.Prelude.{if◌then◌else◌}
use Rattle.std.specs.List.{flat_map}
use Rattle.std.specs.Option.{option_to_list}
use Rattle.std.specs.Str.{bytes_eq}
use Rattle.swim_wire.specs.Address.{Address, address_text}

-- what stands in front of the port that browsers leave out, if a name ends with that
abbrev pub without_port : List ℕ → Option (List ℕ)
without_port name =
    if bytes_eq (drop (length name - 3) name) (codes ":80") then Some (take (length name - 3) name) else None

-- a name, and the same without that port
abbrev pub own_names : List ℕ → List (List ℕ)
own_names name = name ∷ option_to_list (without_port name)

-- what a host is called that listens there
abbrev pub listened : Address → List (List ℕ)
listened a = address_text a ∷ (codes "localhost:" ++ decimal a.port) ∷ []

-- its names, of which these were given
abbrev pub host_names : Address → List (List ℕ) → List (List ℕ)
host_names a given = flat_map own_names (listened a ++ given)
