-- What every manager keeps, and which events a manager may be given.
use Rattle.std.specs.Prelude.{◌≡◌, ℕ, ◌<◌, ◌≤◌, List, [], All, None, IfSome, ⊤}
use Rattle.std.specs.List.{fold}
use Rattle.std.specs.Map.{values_of}
use Rattle.hk_base.specs.declared.stamp.NodeId.{NodeId}
use Rattle.hk_base.specs.declared.time.TheConstants.{MAX_TIME}
use Rattle.hk_base.specs.declared.view.View.{View}
use Rattle.hk_base.specs.View.{IsView}
use Rattle.hk_base.specs.Range.{IsLetter, IsVote}
use Rattle.hk_paxos.specs.declared.proposer.Proposer.{Proposer}
use Rattle.hk_lease.specs.Grants.{with_grant}
use Rattle.hk_lease.specs.Wait.{wait}
use Rattle.hk_manager.specs.declared.instance.Instance.{Instance}
use Rattle.hk_manager.specs.declared.event.ManagerEvent.{ManagerEvent}
use Rattle.hk_manager.specs.declared.event.ManagerEvent.TheVariants.{Propose, Receive, Activate, Tick}
use Rattle.hk_manager.specs.Manager.{ManagerState}

-- what an acceptor accepted is a view
abbrev pub IsInstance : Instance → Type 0
IsInstance instance = IfSome instance.acceptor.accepted IsVote

-- a proposal of the manager of this number among so many, for a view
pub record IsProposal (id managers : ℕ) (proposer : Proposer) : Type 0 where
  pub own : proposer.ballot.manager ≡ id
  pub among : proposer.managers ≡ managers
  pub view : IsView proposer.own
  pub highest : IfSome proposer.highest IsVote

pub record IsManager (m : ManagerState) : Type 0 where
  pub few : m.managers ≤ 9
  pub number : m.id < m.managers
  pub lease : m.lease ≤ MAX_TIME
  pub held : IsView m.held
  -- clocks begin at 1
  pub clock_runs : 1 ≤ m.clock
  pub clock : m.clock ≤ MAX_TIME
  pub instances : All IsInstance (values_of m.instances)
  pub proposal : IfSome m.proposal (IsProposal m.id m.managers)

-- the until of a first lease is noted for each founder
abbrev pub founding_untils : List NodeId → ℕ → List (NodeId × ℕ)
founding_untils founders lease = fold (λ untils node. with_grant untils node (wait lease)) [] founders

-- a manager as it is made, with the first view
abbrev pub manager_new : ℕ → ℕ → View → ℕ → ManagerState
manager_new id managers view lease = record {
  id = id;
  managers = managers;
  lease = lease;
  held = view;
  clock = 1;
  untils = founding_untils view.members lease;
  instances = [];
  proposal = None;
}

-- letters are in range, and times are within the limit
abbrev pub IsManagerEvent : ManagerEvent → Type 0
IsManagerEvent (Propose base change) = ⊤
IsManagerEvent (Receive letter) = IsLetter letter
IsManagerEvent Activate = ⊤
IsManagerEvent (Tick now) = now ≤ MAX_TIME
