-- Where the bytes of data stand.
use Rattle.std.specs.Prelude.{ℕ, List}
use Rattle.std.specs.Arc.{arc_value, arc_slice_items}
use Rattle.hk_base.specs.declared.data.Place.{Place}
use Rattle.hk_base.specs.declared.data.Place.TheVariants.{Tiny, Small, Medium, Large}

-- the bytes
abbrev pub stored : Place → List ℕ
stored (Tiny block) = arc_value block
stored (Small block) = arc_value block
stored (Medium block) = arc_value block
stored (Large bytes) = arc_slice_items bytes
