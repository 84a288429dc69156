-- A manager, with all that it knows.
use Rattle.std.specs.Prelude.{ℕ, List, Option, unwrap_or}
use Rattle.std.specs.Ordering.{nat_cmp}
use Rattle.std.specs.BTreeMap.{is_at, insert_entry}
use Rattle.std.specs.Map.{lookup}
use Rattle.hk_base.specs.declared.stamp.NodeId.{NodeId}
use Rattle.hk_base.specs.declared.view.View.{View}
use Rattle.hk_paxos.specs.declared.proposer.Proposer.{Proposer}
use Rattle.hk_paxos.specs.Paxos.{acceptor_new}
use Rattle.hk_manager.specs.declared.instance.Instance.{Instance}

pub record ManagerState : Type 0 where
  -- its number, how many managers there are, and the length of a lease
  pub id : ℕ
  pub managers : ℕ
  pub lease : ℕ
  -- the view that it holds: of those that it learned, that of the greatest epoch
  pub held : View
  pub clock : ℕ
  -- the greatest until that it noted for each node
  pub untils : List (NodeId × ℕ)
  -- what it knows of the instances of Paxos, by their epochs
  pub instances : List (ℕ × Instance)
  -- its latest proposal, the only one that it keeps
  pub proposal : Option Proposer

-- an instance of which it knows nothing
abbrev pub fresh : Instance
fresh = record { acceptor = acceptor_new; round = 0 }

abbrev pub instance_at : ℕ → List (ℕ × Instance) → Instance
instance_at epoch instances = unwrap_or (lookup (is_at (nat_cmp epoch)) instances) fresh

abbrev pub with_instance : ManagerState → ℕ → Instance → ManagerState
with_instance m epoch instance = record m { instances = insert_entry nat_cmp m.instances epoch instance }
