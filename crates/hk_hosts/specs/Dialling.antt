-- Which addresses a dialer was asked for.
use Rattle.std.specs.Prelude.{◌≡◌, ⊤, List, [], ◌∷◌, ◌++◌, Option, None, Some}
use Rattle.hk_hosts.specs.declared.address.Address.{Address}

-- one more, behind the others, where the dialer tells them
abbrev pub DialsAt : Option (List Address) → Option (List Address) → Address → Type 0
DialsAt None now address = ⊤
DialsAt (Some addresses) now address = now ≡ Some (addresses ++ address ∷ [])
