-- The notes of a pending update: who acknowledged it in this epoch.
use Rattle.std.specs.Prelude.{List, [], ◌∷◌, Bool, ◌||◌, if◌then◌else◌, ◌==◌}
use Rattle.std.specs.List.{list_any, list_all}
use Rattle.hk_base.specs.declared.stamp.NodeId.{NodeId}
use Rattle.hk_key.specs.declared.acks.Ack.{Ack}

abbrev pub is_of : NodeId → Ack → Bool
is_of node ack = ack.node.0 == node.0

-- whether a note is of this node
abbrev pub is_noted : NodeId → List Ack → Bool
is_noted node acks = list_any (is_of node) acks

-- whether each member but `me` is noted. With no others this holds of no notes at all.
abbrev pub all_noted : NodeId → List NodeId → List Ack → Bool
all_noted me members acks = list_all (λ member. member.0 == me.0 || is_noted member acks) members

-- whether each node that is noted had the update's own stamp
abbrev pub all_exact : List Ack → Bool
all_exact acks = list_all (λ ack. ack.exact) acks

-- The notes after an acknowledgement of this node: its note is exact where this one or an earlier one was.
abbrev pub note_in : NodeId → Bool → List Ack → List Ack
note_in node exact [] = record { node = node; exact = exact } ∷ []
note_in node exact (ack ∷ acks) =
    if is_of node ack then record ack { exact = ack.exact || exact } ∷ acks
    else ack ∷ note_in node exact acks
