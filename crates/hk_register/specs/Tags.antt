-- Stamps as numbers.
use Rattle.std.specs.Prelude.{◌≡◌, ◌⊎◌, ◌↔◌, ℕ, ◌<◌, Some}
use Rattle.hk_base.specs.declared.stamp.Kind.{Kind}
use Rattle.hk_base.specs.declared.stamp.Stamp.{Stamp}
use Rattle.hk_base.specs.Stamp.{tag_of, stamp_after}
use Rattle.hk_register.specs.Effects.{step_of, next_stamp}

-- stamps are ordered by version, then by node
abbrev pub IsBefore : Stamp → Stamp → Type 0
IsBefore a b = (a.version < b.version) ⊎ (a.version ≡ b.version) × (a.node < b.node)

-- tags are ordered as their stamps are
abbrev pub TagsOrderStamps : Type 0
TagsOrderStamps = (a b : Stamp) → a.node < 65536 → b.node < 65536 → (tag_of a < tag_of b) ↔ IsBefore a b

-- and tell them apart
abbrev pub TagsTellStamps : Type 0
TagsTellStamps = (a b : Stamp) → a.node < 65536 → b.node < 65536 → tag_of a ≡ tag_of b → a ≡ b

-- the next stamp's tag, where there is a next stamp
abbrev pub NextIsAfter : Type 0
NextIsAfter = (kind : Kind) (a b : Stamp) (node : ℕ) → a.node < 65536 → stamp_after (step_of kind) a node ≡ Some b → tag_of b ≡ next_stamp kind (tag_of a) node
