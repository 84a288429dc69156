-- Nodes as they are made.
use Rattle.std.specs.Prelude.{ℕ, [], true, false, Some, None, replicate}
use Rattle.hk_base.specs.declared.stamp.NodeId.{NodeId}
use Rattle.hk_base.specs.declared.view.View.{View}
use Rattle.hk_node.specs.Node.{NodeState}

-- a founder is in the first view, is ready, and has a lease, from every manager if there are any
abbrev pub founder : NodeId → View → ℕ → ℕ → ℕ → NodeState
founder id view lease_end skew managers = record {
  id = id;
  view = Some view;
  ready = true;
  cursor = None;
  granted = lease_end;
  clock = 1;
  skew = skew;
  managers = managers;
  ends = replicate managers lease_end;
  activated = replicate managers 0;
  rows = [];
}

-- a joiner has no view, no rows and no lease, and is not ready
abbrev pub joiner : NodeId → ℕ → ℕ → NodeState
joiner id skew managers = record {
  id = id;
  view = None;
  ready = false;
  cursor = None;
  granted = 0;
  clock = 1;
  skew = skew;
  managers = managers;
  ends = replicate managers 0;
  activated = replicate managers 0;
  rows = [];
}
