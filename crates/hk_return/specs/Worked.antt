-- A run in which a manager stops and returns, two that show why it notes untils anew for the members of each view of its log, and one that
-- shows what it can do where the disk lost some of that.
use Rattle.std.specs.Prelude.{◌≡◌, ℕ, zero, suc, List, [], ◌∷◌, ◌++◌, take, Bool, true, false, ◌&&◌, nat_lt, nat_eq, ◌==◌, if◌then◌else◌, ⊤}
use Rattle.hk_base.specs.declared.letter.Actor.{Actor}
use Rattle.hk_base.specs.declared.letter.Actor.TheVariants.{Node, Manager}
use Rattle.hk_clocks.specs.Paced.{Moment}
use Rattle.hk_base.specs.declared.view.View.{View}
use Rattle.hk_earned.specs.Machine.{Setting, In}
use Rattle.hk_earned.specs.Earned.{NeverReturns}
use Rattle.hk_earned.specs.Worked.{first_node, second_node, setting}
use Rattle.hk_return.specs.Lives.{Lives, IsPacedForLeases}
use Rattle.hk_return.specs.Machine.{Part, State, Event, every, KeepsSynced, start, MayHappen, IsRun, last_state}
use Rattle.hk_return.specs.Machine.Event.{Pass, Learn, AskLease, TakeAsk, TakeGive, SendActivate, TakeActivate, Install, Sync, Note, Return}
use Rattle.hk_return.specs.Guarded.{FoundersAreMembers, IsLeftOut, IsGuarded}

-- two founders that run, and one manager that may
abbrev pub runs_then : Bool → Actor → Bool
runs_then up (Node n) = nat_lt n.0 2
runs_then up (Manager m) = nat_eq m 0 && up

abbrev pub reads_then : ℕ → ℕ → Actor → ℕ
reads_then nodes manager (Node n) = nodes
reads_then nodes manager (Manager m) = manager

abbrev pub moment : Bool → ℕ → ℕ → Moment
moment up nodes manager = record { live = runs_then up; clock = reads_then nodes manager }

-- down at the second moment, and in its second life from the third one on
abbrev pub life_at : ℕ → ℕ
life_at zero = 0
life_at (suc zero) = 0
life_at (suc (suc i)) = 1

-- ---- a manager returns
-- When it returns the nodes' clocks read 6 and its own reads 1; they are looked at once more when these read 17 and that reads 13.
abbrev pub at : ℕ → Moment
at zero = moment true 1 1
at (suc zero) = moment false 6 1
at (suc (suc zero)) = moment true 6 1
at (suc (suc (suc i))) = moment true 17 13

abbrev pub lives : Lives
lives = record { at = at; life = λ i m. life_at i }

-- The second node is granted a lease before the stop. What the manager learned then is lost. At its return it notes 12 for both nodes; it
-- grants the second node another lease, to 16 on that node's clock, and learns again of the view that leaves it out. At 13 it lets that begin.
abbrev pub events : List Event
events =
    AskLease second_node 0 ∷ TakeAsk (record { node = second_node; manager = 0; asked = 1 }) ∷ Sync 0 ∷ TakeGive (record { manager = 0; node = second_node; end = 11 }) ∷ Learn 0 2 ∷ Pass
    ∷ AskLease second_node 0 ∷ Pass ∷ Return 0 1 ∷ TakeAsk (record { node = second_node; manager = 0; asked = 6 }) ∷ Learn 0 2 ∷ Sync 0
    ∷ TakeGive (record { manager = 0; node = second_node; end = 16 }) ∷ Pass ∷ SendActivate 0 ∷ Sync 0 ∷ TakeActivate first_node (record { manager = 0; epoch = 2 }) ∷ Install first_node ∷ []

-- It is a run over moments that are paced for leases. At its end the view of epoch 2 is installed and leaves out the second node, which is
-- live, and had a lease of the manager that returned.
pub record WorkedReturn : Type 0 where
  pub runs : IsRun setting lives every KeepsSynced (start setting) events
  pub paced : IsPacedForLeases setting.skew setting.founders lives 3
  pub chain : NeverReturns setting
  pub founders : FoundersAreMembers setting
  pub ends : (last_state setting lives every (start setting) events).now ≡ 3
  pub down : (at 1).live (Manager 0) ≡ false
  pub again : ((last_state setting lives every (start setting) events).manager 0).life ≡ 1
  pub granted : (last_state setting lives every (start setting) events).granted second_node ≡ 16
  pub installed : In (last_state setting lives every (start setting) events).installed 2
  pub left_out : IsLeftOut setting (at 3) 2 second_node

-- ---- what a manager must note
abbrev pub missed_at : ℕ → Moment
missed_at zero = moment true 1 1
missed_at (suc zero) = moment false 2 1
missed_at (suc (suc i)) = moment true 2 1

abbrev pub missed_lives : Lives
missed_lives = record { at = missed_at; life = λ i m. life_at i }

-- The second node is granted a lease to 11, and the manager writes that it holds the view that leaves it out. It stops, returns, and lets
-- that view begin at once.
abbrev pub missed_events : List Event
missed_events =
    AskLease second_node 0 ∷ TakeAsk (record { node = second_node; manager = 0; asked = 1 }) ∷ Learn 0 2 ∷ Sync 0 ∷ TakeGive (record { manager = 0; node = second_node; end = 11 }) ∷ Pass ∷ Pass
    ∷ Return 0 0 ∷ SendActivate 0 ∷ Sync 0 ∷ TakeActivate first_node (record { manager = 0; epoch = 2 }) ∷ Install first_node ∷ []

-- All is as it must be but what it notes; and at the end the view is installed while the second node, whose clock reads 2, has its lease.
pub record IsMissed (noting : List ℕ → List ℕ) : Type 0 where
  pub runs : IsRun setting missed_lives noting KeepsSynced (start setting) missed_events
  pub paced : IsPacedForLeases setting.skew setting.founders missed_lives 2
  pub chain : NeverReturns setting
  pub founders : FoundersAreMembers setting
  pub ends : (last_state setting missed_lives noting (start setting) missed_events).now ≡ 2
  pub unguarded : IsGuarded setting (missed_at 2) (last_state setting missed_lives noting (start setting) missed_events) → ⊥

-- where it notes nothing anew at its return
abbrev pub MissedWithNone : Type 0
MissedWithNone = IsMissed (λ epochs. [])

-- and where it notes the members of the view alone that it holds at the end of its log, and not of those that it held before
abbrev pub MissedWithLatest : Type 0
MissedWithLatest = IsMissed (take 1)

-- ---- where the disk loses what was synced
-- the second node is a member of the view of epoch 2 alone
abbrev pub widened : ℕ → View
widened epoch =
    if epoch == 2 then record { epoch = epoch; members = first_node ∷ second_node ∷ []; next = 2 }
    else record { epoch = epoch; members = first_node ∷ []; next = 2 }

abbrev pub disk_setting : Setting
disk_setting = record { views = widened; managers = 1; lease = 10; skew = 0; founders = 1 }

abbrev pub KeepsNothing : Part → ℕ → Type 0
KeepsNothing p lost = ⊤

-- The second node is granted a lease to 11 as a member of that view, whose record is lost though it was synced. The manager returns with the
-- first view, and learns those of epoch 2 and 3 again.
abbrev pub until_return : List Event
until_return =
    Learn 0 2 ∷ AskLease second_node 0 ∷ TakeAsk (record { node = second_node; manager = 0; asked = 1 }) ∷ Sync 0 ∷ TakeGive (record { manager = 0; node = second_node; end = 11 }) ∷ Pass ∷ Pass
    ∷ Return 0 1 ∷ Learn 0 2 ∷ []

abbrev pub begins : List Event
begins = Learn 0 3 ∷ SendActivate 0 ∷ Sync 0 ∷ TakeActivate first_node (record { manager = 0; epoch = 3 }) ∷ Install first_node ∷ []

abbrev pub disk_last : List Event → State
disk_last more = last_state disk_setting missed_lives every (start disk_setting) (until_return ++ more)

-- The law does not hold there. But where the manager notes the until also for the members of a view that it comes to hold soon after its
-- return, as of that of epoch 2 again, it refuses to let the later view begin.
pub record WorkedDisk : Type 0 where
  pub runs : IsRun disk_setting missed_lives every KeepsNothing (start disk_setting) (until_return ++ begins)
  pub paced : IsPacedForLeases disk_setting.skew disk_setting.founders missed_lives 2
  pub chain : NeverReturns disk_setting
  pub founders : FoundersAreMembers disk_setting
  pub ends : (disk_last begins).now ≡ 2
  pub unguarded : IsGuarded disk_setting (missed_at 2) (disk_last begins) → ⊥
  pub soon : IsRun disk_setting missed_lives every KeepsNothing (start disk_setting) (until_return ++ Note 0 second_node 12 ∷ Learn 0 3 ∷ [])
  pub refused : MayHappen disk_setting missed_lives every KeepsNothing (disk_last (Note 0 second_node 12 ∷ Learn 0 3 ∷ [])) (SendActivate 0) → ⊥
