use Rattle.std.proofs.Common.{rules, ◌≡◌, ◌∷◌, List, ℕ, replicate, None, sym, subst}
use Rattle.hk_snap.specs.Layout.{Keeps}
use Rattle.hk_snap.proofs.Rooms.{new_keeps}
use Rattle.hk_snap.proofs.room.Room.new.Goals as goal

pub invariant_of-result : goal.invariant_of-result
invariant_of-result c =
    let same : c.in_ok-words.words.items ≡ 9 ∷ replicate 40 0 = search rules in
    subst (λ (l : List ℕ). Keeps l None) (sym same) new_keeps
