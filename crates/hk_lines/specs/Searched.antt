-- What of the unread bytes was searched.
use Rattle.std.specs.Prelude.{◌≡◌, ◌+◌, ◌≤◌, ℕ, List, length, take, None}
use Rattle.hk_lines.specs.Cut.{line_end}

-- no line ends in the first n of the bytes, and they are within those in which one may end
pub record IsSearched (n limit : ℕ) (bytes : List ℕ) : Type 0 where
  pub there : n ≤ length bytes
  pub within : n ≤ limit + 2
  pub none : line_end (take n bytes) ≡ None
