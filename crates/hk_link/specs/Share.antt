-- Shares of a right, which can be split without end: a share is a list of pieces, and a piece is how many times the whole right was halved to get it.
use Rattle.std.specs.Prelude.{◌≡◌, ℕ, zero, suc, ◌+◌, ◌^◌, ◌≤◌, List, [], ◌∷◌, map, max}

-- the whole right, in one piece
abbrev pub all : List ℕ
all = 0 ∷ []

-- each piece is halved once more
abbrev pub halved : List ℕ → List ℕ
halved share = map (λ depth. suc depth) share

abbrev pub deepest : List ℕ → ℕ
deepest [] = 0
deepest (depth ∷ share) = max depth (deepest share)

-- how many of 2 ^ scale equal parts of the right a piece has, where it was halved at most `scale` times
abbrev pub size : ℕ → ℕ → ℕ
size scale zero = 2 ^ scale
size zero (suc depth) = 0
size (suc scale) (suc depth) = size scale depth

abbrev pub sizes : ℕ → List ℕ → ℕ
sizes scale [] = 0
sizes scale (depth ∷ share) = size scale depth + sizes scale share

-- its pieces make the whole right
abbrev pub IsWhole : List ℕ → Type 0
IsWhole share = (scale : ℕ) → deepest share ≤ scale → sizes scale share ≡ 2 ^ scale
