-- The nodes of a storm.
use Rattle.std.specs.Prelude.{◌≡◌, ℕ, ◌+◌, List, [], ◌∷◌, ⊤}
use Rattle.hk_worker.specs.Founding.{FoundedState}

-- nodes from this number on
abbrev pub AreFoundedFrom : ℕ → List FoundedState → Type 0
AreFoundedFrom n [] = ⊤
AreFoundedFrom n (f ∷ founded) = (f.node ≡ record { 0 = n }) × AreFoundedFrom (n + 1) founded

abbrev pub AreFounded : List FoundedState → Type 0
AreFounded founded = AreFoundedFrom 0 founded
