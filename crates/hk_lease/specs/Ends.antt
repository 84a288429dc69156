-- When a node's lease ends, by the ends that managers granted it. All are times on the node's clock.
use Rattle.std.specs.Prelude.{ℕ, ◌*◌, ◌<◌, ◌≤◌, List, [], ◌∷◌, length, Bool, max, nat_le, nat_lt, if◌then◌else◌}
use Rattle.std.specs.List.{count_by}

-- how many managers granted at least this end
abbrev pub granting : List ℕ → ℕ → ℕ
granting ends end = count_by (λ granted. nat_le end granted) ends

-- the greatest end that a majority granted at least
pub record IsNodeEnd (ends : List ℕ) (end : ℕ) : Type 0 where
  pub granted : length ends < 2 * granting ends end
  pub greatest : (later : ℕ) → length ends < 2 * granting ends later → later ≤ end

-- the same end, among those that were granted
abbrev pub greatest_passing : (ℕ → Bool) → List ℕ → ℕ
greatest_passing test [] = 0
greatest_passing test (end ∷ ends) = if test end then max end (greatest_passing test ends) else greatest_passing test ends

abbrev pub granted_end : List ℕ → ℕ
granted_end ends = greatest_passing (λ end. nat_lt (length ends) (2 * granting ends end)) ends
