-- How a node stands with the manager.
use Rattle.std.specs.Prelude.{ℕ, Bool, false, not, ◌&&◌, ◌==◌, nat_lt, if◌then◌else◌, List, Option, None, Some}
use Rattle.std.specs.List.{list_any, list_all}
use Rattle.hk_base.specs.declared.stamp.NodeId.{NodeId}
use Rattle.hk_base.specs.declared.view.View.{View}
use Rattle.hk_base.specs.View.{is_member}
use Rattle.hk_inside.specs.declared.board.Mark.{Mark}
use Rattle.hk_inside.specs.declared.board.Mark.TheVariants.{Bound, Member, ToLeave, Out}
use Rattle.hk_office.specs.declared.office.Office.{Office}

-- the view gave the number before, and its node is no member
abbrev pub leaves_out : NodeId → Option View → Bool
leaves_out node None = false
leaves_out node (Some v) = nat_lt node.0 v.next && not (is_member node v.members)

-- This manager let a view without the node begin in every shard. Until then the node is told nothing of it, and acknowledges what members send it.
abbrev pub is_out : Office → NodeId → Bool
is_out o node = list_all (leaves_out node) o.begun

-- somebody wanted it to leave, and that was less than a lease ago
abbrev pub is_to_leave : Office → ℕ → NodeId → Bool
is_to_leave o now node = list_any (λ l. (l.node.0 == node.0) && nat_lt now l.end) o.leaves

-- it is a member of a view
abbrev pub is_in_view : List View → NodeId → Bool
is_in_view views node = list_any (λ v. is_member node v.members) views

-- How a process stands that tells a number which is not bound to it here. Whoever had a number that those views gave, and leave out, is out.
abbrev pub mark_unbound : Office → Option NodeId → Mark
mark_unbound o None = Bound
mark_unbound o (Some node) = if is_out o node then Out else Bound

abbrev pub mark_of : Office → ℕ → List View → NodeId → Mark
mark_of o now views node =
    if is_out o node then Out else (
    if is_to_leave o now node then ToLeave else (
    if is_in_view views node then Member else Bound))
