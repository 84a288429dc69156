-- The rule of a lease cell: each pass has seen an end and a clock that the cell's are not below, and the keeper knows the cell's.
use Rattle.std.specs.Prelude.{◌≡◌, ℕ, ◌+◌, ◌≤◌, List, [], ◌∷◌, true, false, max, slice_index}
use mathlib.Core.Option.{some}
use lib.ListN.{get_elem?}
use Rattle.hk_snap.specs.declared.lease_rule.Known.{Known}

abbrev pub looker : ℕ → ℕ → ℕ → Known
looker end now loads = record { keeps = false; end = end; now = now; loads = loads; claim_end = 0; claim_now = 0 }

abbrev pub keeper : ℕ → ℕ → ℕ → Known
keeper end now loads = record { keeps = true; end = end; now = now; loads = loads; claim_end = 0; claim_now = 0 }

-- what the rule says of one pass, the one at this seat being the keeper's
pub record Fits (seat : ℕ) (words : List ℕ) (by : ℕ) (v : Known) : Type 0 where
  pub end : v.end ≤ slice_index words 0
  pub now : v.now ≤ slice_index words 1
  pub claim_end : v.claim_end ≤ slice_index words 0
  pub claim_now : v.claim_now ≤ slice_index words 1
  pub keeps : v.keeps ≡ true → (by ≡ seat) × (words ≡ v.end ∷ v.now ∷ [])

abbrev pub Kept : List ℕ → List Known → Type 0
Kept words views = (seat : ℕ) × ((by : ℕ) (v : Known) → get_elem? views by ≡ some v → Fits seat words by v)

-- a store: the keeper shows these
abbrev pub Raised : Known → List ℕ → List ℕ → Known → Type 0
Raised v before after w =
    w ≡ record { keeps = v.keeps; end = slice_index after 0; now = slice_index after 1; loads = v.loads; claim_end = v.claim_end; claim_now = v.claim_now }

-- a load: what the cell shows was seen, and is not below what was seen before
abbrev pub LookedAt : Known → List ℕ → List ℕ → Known → Type 0
LookedAt v before after w =
    (w ≡ record { keeps = v.keeps; end = slice_index after 0; now = slice_index after 1; loads = v.loads + 1; claim_end = v.claim_end; claim_now = v.claim_now })
    × (v.end ≤ slice_index after 0) × (v.now ≤ slice_index after 1)

-- a load by the keeper: what was claimed is not above what it knows
abbrev pub Weighed : Known → List ℕ → List ℕ → Known → Type 0
Weighed v before after w = (w ≡ keeper v.end v.now (v.loads + 1)) × (v.claim_end ≤ v.end) × (v.claim_now ≤ v.now)

abbrev pub greater : Known → Known → Known
greater v w = record { keeps = v.keeps; end = max v.end w.end; now = max v.now w.now; loads = v.loads; claim_end = v.claim_end; claim_now = v.claim_now }

abbrev pub claimed : Known → Known → Known
claimed v w = record { keeps = v.keeps; end = v.end; now = v.now; loads = v.loads; claim_end = w.end; claim_now = w.now }

abbrev pub met : Known → Known → Known
met v w = record { keeps = v.keeps; end = w.end; now = w.now; loads = v.loads + 1; claim_end = v.claim_end; claim_now = v.claim_now }
