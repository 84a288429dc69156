-- Which ports a dialer was asked for.
use Rattle.std.specs.Prelude.{◌≡◌, ⊤, ℕ, List, [], ◌∷◌, ◌++◌, Option, None, Some}

-- one more, behind the others, where the dialer tells them
abbrev pub Dials : Option (List ℕ) → Option (List ℕ) → ℕ → Type 0
Dials None now port = ⊤
Dials (Some ports) now port = now ≡ Some (ports ++ port ∷ [])
