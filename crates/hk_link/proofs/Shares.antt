-- The sizes of shares: halved, put together, at one scale and at the next.
use Rattle.std.proofs.Common.{subst, ◌-◌, ◌≡◌, ℕ, zero, suc, ◌+◌, ◌^◌, ◌<◌, ◌≤◌, List, [], ◌∷◌, ◌++◌, length, max, refl, ap, ◌∙◌, arith}
use Rattle.std.proofs.lemmas.Nat.{pow_pos}
use Rattle.hk_link.specs.Share.{halved, deepest, size, sizes, IsWhole}

pow_twice : (n : ℕ) → 2 ^ suc n ≡ 2 ^ n + 2 ^ n
pow_twice n = omega arith

size_twice : (scale depth : ℕ) → depth ≤ scale → size (suc scale) depth ≡ size scale depth + size scale depth
size_twice scale zero h = pow_twice scale
size_twice zero (suc depth) h = absurd (omega arith)
size_twice (suc scale) (suc depth) h = size_twice scale depth (omega arith)

size_some : (scale depth : ℕ) → depth ≤ scale → 0 < size scale depth
size_some scale zero h = pow_pos scale
size_some zero (suc depth) h = absurd (omega arith)
size_some (suc scale) (suc depth) h = size_some scale depth (omega arith)

pub sizes_some : (scale : ℕ) (share : List ℕ) → 0 < length share → deepest share ≤ scale → 0 < sizes scale share
sizes_some scale [] some h = absurd (omega arith)
sizes_some scale (depth ∷ share) some h = let s = size_some scale depth (omega arith) in omega (arith, s)

sizes_halved : (scale : ℕ) (share : List ℕ) → sizes (suc scale) (halved share) ≡ sizes scale share
sizes_halved scale [] = refl
sizes_halved scale (depth ∷ share) = ap (λ n. size scale depth + n) (sizes_halved scale share)

sizes_twice : (scale : ℕ) (share : List ℕ) → deepest share ≤ scale → sizes (suc scale) share ≡ sizes scale share + sizes scale share
sizes_twice scale [] h = refl
sizes_twice scale (depth ∷ share) h = let a = size_twice scale depth (omega arith) in let b = sizes_twice scale share (omega arith) in omega (arith, a, b)

pub sizes_append : (scale : ℕ) (a b : List ℕ) → sizes scale (a ++ b) ≡ sizes scale a + sizes scale b
sizes_append scale [] b = omega arith
sizes_append scale (depth ∷ a) b = let e = sizes_append scale a b in omega (arith, e)

pub deepest_append : (a b : List ℕ) → deepest (a ++ b) ≡ max (deepest a) (deepest b)
deepest_append [] b = omega arith
deepest_append (depth ∷ a) b = let e = deepest_append a b in omega (arith, e)

pub deepest_halved : (share : List ℕ) → deepest share ≤ deepest (halved share)
deepest_halved [] = omega arith
deepest_halved (depth ∷ share) = let e = deepest_halved share in omega (arith, e)

below : (scale : ℕ) (share : List ℕ) → deepest (halved share) ≤ suc scale → deepest share ≤ scale
below scale [] h = omega arith
below scale (depth ∷ share) h = let e = below scale share (omega arith) in omega (arith, e)

pub two_halves : (scale : ℕ) (share : List ℕ) → deepest (halved share) ≤ scale → sizes scale (halved share) + sizes scale (halved share) ≡ sizes scale share
two_halves scale [] h = refl
two_halves zero (depth ∷ share) h = absurd (omega arith)
two_halves (suc scale) (depth ∷ share) h =
    let a = sizes_halved scale (depth ∷ share) in
    let b = sizes_twice scale (depth ∷ share) (below scale (depth ∷ share) h) in omega (arith, a, b)

-- the halves of a whole right make it again
pub whole_again : (share : List ℕ) → IsWhole share → IsWhole (halved share ++ halved share)
whole_again share whole scale h =
    let deep = deepest_append (halved share) (halved share) in
    let here : deepest (halved share) ≤ scale = omega (arith, deep, h) in
    let above = deepest_halved share in
    sizes_append scale (halved share) (halved share) ∙ (two_halves scale share here ∙ whole scale (omega (arith, here, above)))

-- what is whole at one scale is whole at those above it, and the other way round
up : (share : List ℕ) (scale : ℕ) → deepest share ≤ scale → sizes scale share ≡ 2 ^ scale → (more n : ℕ) → n ≡ scale + more → sizes n share ≡ 2 ^ n
up share scale deep whole zero n e = let same : scale ≡ n = omega (arith, e) in subst (λ m. sizes m share ≡ 2 ^ m) same whole
up share scale deep whole (suc more) zero e = absurd (omega arith)
up share scale deep whole (suc more) (suc n) e =
    let below = up share scale deep whole more n (omega arith) in
    let t = sizes_twice n share (omega arith) in
    let p = pow_twice n in omega (arith, below, t, p)

down : (share : List ℕ) (scale : ℕ) → deepest share ≤ scale → (more n : ℕ) → n ≡ scale + more → sizes n share ≡ 2 ^ n → sizes scale share ≡ 2 ^ scale
down share scale deep zero n e whole = let same : n ≡ scale = omega (arith, e) in subst (λ m. sizes m share ≡ 2 ^ m) same whole
down share scale deep (suc more) zero e whole = absurd (omega arith)
down share scale deep (suc more) (suc n) e whole =
    let t = sizes_twice n share (omega arith) in
    let p = pow_twice n in down share scale deep more n (omega arith) (omega (arith, whole, t, p))

-- one scale decides
pub whole_at : (share : List ℕ) (scale : ℕ) → deepest share ≤ scale → sizes scale share ≡ 2 ^ scale → IsWhole share
whole_at share scale deep whole other h =
    let least = down share (deepest share) (omega arith) (scale - deepest share) scale (omega arith) whole in
    up share (deepest share) (omega arith) least (other - deepest share) other (omega arith)
