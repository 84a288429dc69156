-- The first member, and then the others.
use Rattle.std.proofs.Common.{◌≡◌, ◌<◌, ◌-◌, suc, List, [], ◌∷◌, ◌++◌, length, take, drop, get_or, sym, arith, append_assoc}
use Rattle.std.proofs.Math.Seq.{take-length}
use Rattle.std.proofs.lemmas.Grind.{common_steps}
use Rattle.std.proofs.lemmas.List.{append-nil}
use Rattle.std.specs.Prelude.{decimal}
use Rattle.hk_base.specs.declared.stamp.NodeId.{NodeId}
use Rattle.hk_transcript.specs.Text.{members_text}
use Rattle.hk_transcript.proofs.views.put_members.Goals as goal
use Rattle.hk_transcript.proofs.views.put_members.Invariants.{further_text}

members_text-cons : (id : NodeId) (ids : List NodeId) → members_text (id ∷ ids) ≡ decimal id.0 ++ further_text ids
members_text-cons id [] = sym (append-nil (decimal id.0))
members_text-cons id (next ∷ ids) = rw (members_text-cons next ids) (simp append_assoc)

members_text-front : (ids : List NodeId) (d : NodeId) → 0 < length ids →
    members_text ids ≡ decimal (get_or ids 0 d).0 ++ further_text (take (length ids - 1) (drop 1 ids))
members_text-front [] d some = absurd (omega arith)
members_text-front (id ∷ ids) d some =
    let e : suc (length ids) - 1 ≡ length ids = omega arith in
    rw (e, take-length ids) (members_text-cons id ids)

pub loop-member-init : goal.loop-member-init
loop-member-init c = grind (arith, common_steps, members_text-front)
