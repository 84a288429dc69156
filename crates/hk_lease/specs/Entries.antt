-- An entry of a map that is given back.
use Rattle.std.specs.Prelude.{List, Bool, Option, Some, None}
use Rattle.std.specs.Map.{remove_entry, set_value}

-- The value that stood where the key passes is given back; where none stood there, the entry goes.
abbrev pub entry_rolled_back : {K X : Type 0} → (K → Bool) → Option X → List (K × X) → List (K × X)
entry_rolled_back test None entries = remove_entry test entries
entry_rolled_back test (Some value) entries = set_value test entries value
