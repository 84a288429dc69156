-- A view of one member: an update is complete with no notes.
use Rattle.std.proofs.Common.{◌≡◌, Bool, true, false, ◌||◌, ◌&&◌, ◌==◌, List, [], ◌∷◌, refl, ap, ◌∙◌}
use Rattle.std.specs.List.{list_all}
use Rattle.hk_base.specs.declared.stamp.NodeId.{NodeId}
use Rattle.hk_key.specs.Notes.{all_noted}

or_not : (b : Bool) → b ≡ (b || false)
or_not true = refl
or_not false = refl

pub alone : (me : NodeId) (members : List NodeId) → list_all (λ member. member.0 == me.0) members ≡ all_noted me members []
alone me [] = refl
alone me (member ∷ members) =
    ap (λ (b : Bool). b && list_all (λ other. other.0 == me.0) members) (or_not (member.0 == me.0))
    ∙ ap (λ (b : Bool). (member.0 == me.0 || false) && b) (alone me members)
