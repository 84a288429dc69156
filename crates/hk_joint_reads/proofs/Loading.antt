-- What one load keeps.
use Rattle.std.proofs.Common.{◌≡◌, ℕ, zero, suc, List, [], ◌∷◌, set, sym, ap, subst, ◌∙◌, refl}
use Rattle.std.proofs.Math.Seq.{map-set_same}
use mathlib.Core.List.{IsPrefix}
use Rattle.hk_snap.specs.Ends.{End, Reader, names, seen_at, Loads, writing_end, no_name}
use Rattle.hk_snap.proofs.Prefixes.{prefix_self}

pub loads_names : (old new : Reader) (cell : ℕ) → Loads old cell new → names new.ends ≡ names old.ends
loads_names old new cell loads = ap (λ (r : Reader). names r.ends) loads.2 ∙ map-set_same (λ (e : End). e.name) old.ends cell _ (writing_end no_name []) refl

seen_set : (ends : List End) (k j : ℕ) (e : End) → IsPrefix (seen_at ends k) e.seen → IsPrefix (seen_at ends j) (seen_at (set ends k e) j)
seen_set [] k j e more = prefix_self _
seen_set (x ∷ ends) zero zero e more = more
seen_set (x ∷ ends) zero (suc j) e more = prefix_self _
seen_set (x ∷ ends) (suc k) zero e more = prefix_self _
seen_set (x ∷ ends) (suc k) (suc j) e more = seen_set ends k j e more

-- what was seen of a cell begins what is seen of it behind a load
pub loads_grow : (old new : Reader) (cell k : ℕ) → Loads old cell new → IsPrefix (seen_at old.ends k) (seen_at new.ends k)
loads_grow old new cell k loads = subst (λ (r : Reader). IsPrefix (seen_at old.ends k) (seen_at r.ends k)) (sym loads.2) (seen_set old.ends cell k _ loads.1)
