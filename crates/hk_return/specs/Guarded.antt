-- That a view is installed only where the lease of each live node that it leaves out has ended, also where managers return.
use Rattle.std.specs.Prelude.{◌≡◌, ◌+◌, ◌<◌, ◌≤◌, ℕ, List, Bool, true, false, nat_le}
use Rattle.hk_base.specs.declared.stamp.NodeId.{NodeId}
use Rattle.hk_base.specs.declared.letter.Actor.TheVariants.{Node}
use Rattle.hk_clocks.specs.Paced.{Moment}
use Rattle.hk_earned.specs.Machine.{Setting, In, IsMajority, granted_by, member}
use Rattle.hk_earned.specs.Earned.{NeverReturns}
use Rattle.hk_return.specs.Lives.{Lives, IsPacedForLeases}
use Rattle.hk_return.specs.Machine.{State, Event, every, KeepsSynced, start, IsRun, last_state}

module _ (s : Setting) where
  -- a live node that was a member of a view of lower epoch and is not a member of this one
  pub record IsLeftOut (now : Moment) (epoch : ℕ) (node : NodeId) : Type 0 where
    pub before : ℕ
    pub first : 1 ≤ before
    pub lower : before < epoch
    pub was : member s before node ≡ true
    pub out : member s epoch node ≡ false
    pub live : now.live (Node node) ≡ true

  -- No call is served there: its clock and the skew are past its end, by what it received, and by what a majority granted it.
  pub record HasEnded (now : Moment) (st : State) (node : NodeId) : Type 0 where
    pub received : st.granted node < now.clock (Node node) + s.skew
    pub by_grants : (end : ℕ) → IsMajority s.managers (λ m. nat_le end (granted_by s.lease s.founders st.gives m node)) → end < now.clock (Node node) + s.skew

  -- each view that any node has installed has Ended
  abbrev pub IsGuarded : Moment → State → Type 0
  IsGuarded now st = (epoch : ℕ) (node : NodeId) → In st.installed epoch → IsLeftOut now epoch node → HasEnded now st node

  -- So has each view for which a majority of managers sent ACTIVATE: whoever receives these letters may install it at once.
  abbrev pub MayBegin : State → ℕ → Type 0
  MayBegin st epoch = (sent : ℕ → Bool) × IsMajority s.managers sent × ((m : ℕ) → sent m ≡ true → In st.activates (record { manager = m; epoch = epoch }))

  abbrev pub IsGuardedByLetters : Moment → State → Type 0
  IsGuardedByLetters now st = (epoch : ℕ) (node : NodeId) → MayBegin st epoch → IsLeftOut now epoch node → HasEnded now st node

  -- nodes that have a lease from the start are members of the first view
  abbrev pub FoundersAreMembers : Type 0
  FoundersAreMembers = (node : NodeId) → node.0 < s.founders → member s 1 node ≡ true

  -- what holds of each end of a run over moments whose clocks are paced for leases
  abbrev pub AtEachEnd : (Moment → State → Type 0) → Type 0
  AtEachEnd Holds = 1 ≤ s.managers → NeverReturns s → FoundersAreMembers → (lives : Lives) (events : List Event) → IsRun s lives every KeepsSynced (start s) events →
      IsPacedForLeases s.skew s.founders lives (last_state s lives every (start s) events).now → Holds (lives.at (last_state s lives every (start s) events).now) (last_state s lives every (start s) events)

-- EARNED, WITH MANAGERS THAT RETURN: whatever the run, at its end, and so at each moment, each view that any node has installed has Ended.
abbrev pub GuardedWithReturns : Type 0
GuardedWithReturns = (s : Setting) → AtEachEnd s (IsGuarded s)

abbrev pub GuardedWhereViewsMayBegin : Type 0
GuardedWhereViewsMayBegin = (s : Setting) → AtEachEnd s (IsGuardedByLetters s)
