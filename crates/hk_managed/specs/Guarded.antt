-- That with managers a view begins only where the lease of each live node that it leaves out has ended, and that none is renewed.
use Rattle.std.specs.Prelude.{◌≡◌, ◌⊎◌, ◌+◌, ◌<◌, ◌≤◌, ℕ, List, length, Bool, true, false, Some}
use Rattle.hk_base.specs.declared.stamp.NodeId.{NodeId}
use Rattle.hk_base.specs.declared.view.View.{View}
use Rattle.hk_base.specs.declared.letter.Actor.TheVariants.{Node, Manager}
use Rattle.hk_base.specs.declared.letter.Body.TheVariants.{LeaseGive}
use Rattle.hk_base.specs.declared.letter.Letter.{Letter}
use Rattle.hk_node.specs.Node.{NodeState, epoch_of}
use Rattle.hk_earned.specs.Machine.{In, IsMajority}
use Rattle.hk_base.specs.View.{is_member}
use Rattle.hk_event.specs.declared.event.Header.{Header}
use Rattle.hk_event.specs.declared.event.Event.{Event}
use Rattle.hk_world.specs.World.{WorldState, process_at, node_of, numbered}
use Rattle.hk_world.specs.Start.{start}
use Rattle.hk_world.specs.Sound.{IsHeader}
use Rattle.hk_managed.specs.Begun.{MayHaveBegun}
use Rattle.hk_managed.specs.Runs.{IsRun}

-- ENDED: each live node that was a member of a view of lower epoch, and that the view of this epoch leaves out, has no lease any more.
abbrev pub Ended : WorldState → ℕ → Type 0
Ended w epoch =
    (n : NodeId) (x : NodeState) → process_at n w.processes ≡ Some (record { node = x; crashed = false }) →
    (lower : ℕ) (before view : View) → lower < epoch → numbered lower w.views ≡ Some before → numbered epoch w.views ≡ Some view →
    is_member n before.members ≡ true → is_member n view.members ≡ false → x.granted < x.clock + x.skew

-- among the letters ever sent is a grant of the manager to the node, up to this end or later
pub record HasGiven (letters : List Letter) (m : ℕ) (n : NodeId) (end : ℕ) : Type 0 where
  pub given : ℕ
  pub upto : end ≤ given
  pub under : ℕ
  pub sent : In letters (record { epoch = under; from = Manager m; to = Node n; body = LeaseGive given })

-- Each manager granted a member of the first view a lease from the start, up to the lease's length.
pub record HasFirstLease (w : WorldState) (n : NodeId) (end : ℕ) : Type 0 where
  pub view : View
  pub first : numbered 1 w.views ≡ Some view
  pub member : is_member n view.members ≡ true
  pub upto : end ≤ w.lease

-- more than half of the managers granted the node a lease up to this end or later, whether or not it heard of it
pub record IsGranted (w : WorldState) (n : NodeId) (end : ℕ) : Type 0 where
  pub test : ℕ → Bool
  pub many : IsMajority (length w.managers) test
  pub each : (m : ℕ) → test m ≡ true → HasGiven w.letters m n end ⊎ HasFirstLease w n end

-- EXPIRED: and each end that a majority of the managers granted such a node is past, so that it has no lease either where those
-- letters come only now.
abbrev pub Expired : WorldState → ℕ → Type 0
Expired w epoch =
    (n : NodeId) (x : NodeState) → process_at n w.processes ≡ Some (record { node = x; crashed = false }) →
    (lower : ℕ) (before view : View) → lower < epoch → numbered lower w.views ≡ Some before → numbered epoch w.views ≡ Some view →
    is_member n before.members ≡ true → is_member n view.members ≡ false → (end : ℕ) → IsGranted w n end → end < x.clock + x.skew

-- GUARDED, at a moment: each view that may have begun has ended, and expired. Each view that a node has is the one that managers
-- learned for its epoch, and may have begun. What may have begun stays so, since letters are kept.
pub record IsGuarded (w : WorldState) : Type 0 where
  pub ended : (epoch : ℕ) → MayHaveBegun w epoch → Ended w epoch
  pub expired : (epoch : ℕ) → MayHaveBegun w epoch → Expired w epoch
  pub learned : (n : NodeId) (x : NodeState) (view : View) → node_of (process_at n w.processes) ≡ Some x → x.view ≡ Some view → numbered view.epoch w.views ≡ Some view
  pub begun : (n : NodeId) (x : NodeState) → node_of (process_at n w.processes) ≡ Some x → MayHaveBegun w (epoch_of x)

-- With managers, each moment of every run is guarded.
abbrev pub Guarded : Type 0
Guarded = (h : Header) → IsHeader h → 1 ≤ h.managers → (events : List Event) (w : WorldState) → IsRun (start h) events w → IsGuarded w

-- EARNED: so in every run, at each moment and ever after, each view that a node has has ended.
abbrev pub Earned : Type 0
Earned = (h : Header) → IsHeader h → 1 ≤ h.managers → (events later : List Event) (w last : WorldState) → IsRun (start h) events w → IsRun w later last →
    (n : NodeId) (x : NodeState) → node_of (process_at n w.processes) ≡ Some x → Ended last (epoch_of x)

-- And it is the one that managers learned for its epoch, which is said of no other view, nor ever taken back.
abbrev pub ViewsStay : Type 0
ViewsStay = (h : Header) → IsHeader h → 1 ≤ h.managers → (events later : List Event) (w last : WorldState) → IsRun (start h) events w → IsRun w later last →
    (n : NodeId) (x : NodeState) (view : View) → node_of (process_at n w.processes) ≡ Some x → x.view ≡ Some view → numbered view.epoch last.views ≡ Some view
