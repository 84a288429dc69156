-- What a step adds to the tickets of a key. It is private: no contract of a public call cites it.
use Rattle.std.specs.Prelude.{ℕ, List, [], ◌∷◌, ◌++◌, if◌then◌else◌}
use Rattle.std.specs.Ordering.{is_eq}
use Rattle.hk_copy.specs.Batches.{key_cmp}
use Rattle.hk_node.specs.declared.report.PriorRow.{PriorRow}

-- of the key k, where the row of this one changed
abbrev pub told_to : List ℕ → List ℕ → ℕ → List ℕ
told_to k key ticket = if is_eq (key_cmp key k) then ticket ∷ [] else []

-- where these rows changed
abbrev pub told_by : List ℕ → List PriorRow → ℕ → List ℕ
told_by k [] ticket = []
told_by k (f ∷ rows) ticket = told_to k f.key ticket ++ told_by k rows ticket
