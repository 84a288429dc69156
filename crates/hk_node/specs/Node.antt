-- A node: one replica of the group, with all that it knows.
use Rattle.std.specs.Prelude.{ℕ, List, [], Bool, Option, Some, None, not, ◌&&◌, ◌==◌}
use Rattle.std.specs.List.{filter}
use Rattle.hk_base.specs.declared.stamp.NodeId.{NodeId}
use Rattle.hk_base.specs.declared.view.View.{View}
use Rattle.hk_base.specs.View.{is_member}
use Rattle.hk_node.specs.Rows.{Rows}

pub record NodeState : Type 0 where
  pub id : NodeId
  -- the view that it installed last, if any
  pub view : Option View
  -- it has all rows: it is a founder, or it joined and has copied them
  pub ready : Bool
  -- the last key that it has copied, while it joins
  pub cursor : Option (List ℕ)
  -- the greatest end of a lease that it was granted; its clock; by how much clocks may differ
  pub granted : ℕ
  pub clock : ℕ
  pub skew : ℕ
  -- how many managers the group has, and of each, manager 0 first: the greatest end of a lease that it granted, and the greatest
  -- epoch of which it sent ACTIVATE; 0 where there was none
  pub managers : ℕ
  pub ends : List ℕ
  pub activated : List ℕ
  pub rows : Rows

-- epochs begin at 1: a node with no view is in epoch 0
abbrev pub epoch_in : Option View → ℕ
epoch_in None = 0
epoch_in (Some view) = view.epoch

abbrev pub members_in : Option View → List NodeId
members_in None = []
members_in (Some view) = view.members

abbrev pub epoch_of : NodeState → ℕ
epoch_of node = epoch_in node.view

abbrev pub members_of : NodeState → List NodeId
members_of node = members_in node.view

-- the members but one, in rising order
abbrev pub others : NodeId → List NodeId → List NodeId
others me members = filter (λ member. not (member.0 == me.0)) members

-- another member of the node's view
abbrev pub is_other : NodeState → NodeId → Bool
is_other node from = is_member from (members_of node) && not (from.0 == node.id.0)
