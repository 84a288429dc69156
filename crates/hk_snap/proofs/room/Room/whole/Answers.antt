use Rattle.std.proofs.Common.{rules, List, ℕ, sym, subst, ◌∙◌}
use Rattle.hk_snap.specs.Ends.{shown_by}
use Rattle.hk_snap.specs.Layout.{Keeps}
use Rattle.hk_snap.proofs.Rooms.{kept_whole}
use Rattle.hk_snap.proofs.room.Room.whole.Goals as goal

pub returns : goal.returns
returns c =
    let kept = subst (λ (l : List ℕ). Keeps l (shown_by c.self.inside.last)) (sym c.as_slice-words.ensures.value) c.self.invariant in
    let all = kept_whole _ _ kept (search rules) in
    (all.0, all.1 ∙ c.self.view_is)
