-- That a view is installed only where the lease of each live node that it leaves out has ended.
use Rattle.std.specs.Prelude.{◌≡◌, ◌+◌, ◌<◌, ◌≤◌, ℕ, List, true, false, nat_le}
use Rattle.hk_base.specs.declared.stamp.NodeId.{NodeId}
use Rattle.hk_base.specs.declared.letter.Actor.TheVariants.{Node}
use Rattle.hk_base.specs.declared.time.TheConstants.{MAX_TIME}
use Rattle.hk_clocks.specs.Clocks.{ClockState}
use Rattle.hk_clocks.specs.Runs.{seen}
use Rattle.hk_earned.specs.Machine.{Setting, State, Event, In, IsMajority, granted_by, member, clock, IsRun, last_state, start}

module _ (s : Setting) where
  -- a live node that was a member of a view of lower epoch and is not a member of this one
  pub record IsLeftOut (c : ClockState) (epoch : ℕ) (node : NodeId) : Type 0 where
    pub before : ℕ
    pub first : 1 ≤ before
    pub lower : before < epoch
    pub was : member s before node ≡ true
    pub out : member s epoch node ≡ false
    pub live : (seen c).live (Node node) ≡ true

  -- No call is served there: its clock and the skew are past its end, by what it received, and by what a majority granted it.
  pub record HasEnded (st : State) (node : NodeId) : Type 0 where
    pub received : st.granted node < clock st (Node node) + s.skew
    pub by_grants : (end : ℕ) → IsMajority s.managers (λ m. nat_le end (granted_by s.lease s.founders st.gives m node)) → end < clock st (Node node) + s.skew

  -- a node that a view leaves out is in no later one
  abbrev pub NeverReturns : Type 0
  NeverReturns = (e f g : ℕ) (n : NodeId) → e ≤ f → f ≤ g → member s e n ≡ true → member s g n ≡ true → member s f n ≡ true

  -- each view that any node has installed has Ended
  abbrev pub IsGuarded : State → Type 0
  IsGuarded st = (epoch : ℕ) (node : NodeId) → In st.installed epoch → IsLeftOut st.clocks epoch node → HasEnded st node

-- EARNED: whatever the run, at its end, and so at each moment, each view that any node has installed has Ended.
abbrev pub Guarded : Type 0
Guarded = (s : Setting) → 1 ≤ s.managers → s.lease ≤ MAX_TIME → s.skew ≤ MAX_TIME → NeverReturns s → (events : List Event) → IsRun s (start s) events →
    IsGuarded s (last_state s (start s) events)
