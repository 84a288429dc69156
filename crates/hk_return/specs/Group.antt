-- Managers that keep logs and return: as others see them, they are a council of managers that never stop.
use Rattle.std.specs.Prelude.{◌≡◌, ◌<◌, ⊤, ℕ, List, [], ◌∷◌, ◌++◌}
use Rattle.hk_base.specs.declared.view.View.{View}
use Rattle.hk_base.specs.declared.letter.Letter.{Letter}
use Rattle.hk_paxos.specs.Run.{In, put}
use Rattle.hk_manager.specs.declared.event.ManagerEvent.{ManagerEvent}
use Rattle.hk_manager.specs.declared.event.ManagerEvent.TheVariants as asked
use Rattle.hk_manager.specs.Manager.{ManagerState}
use Rattle.hk_manager.specs.Sound.{manager_new}
use Rattle.hk_council.specs.Council.{Council, IsNode}
use Rattle.hk_council.specs.Agreed.{IsAgreed}
use Rattle.hk_return.specs.Log.{after, steps_of, logged, Process, LogEvent, but_times, next as next_process, MayHappen as MayHappenThere, start as start_process}
use Rattle.hk_return.specs.Log.LogEvent.{Batch, Sync, Say, Note, Return}

-- Letters that went out, of managers and of nodes, stand in the order in which they did, and are never taken away: one that is lost is
-- not received, and one may be received again.
pub record Group : Type 0 where
  pub process : ℕ → Process
  pub sent : List Letter

pub data GroupEvent : Type 0 where
  At : (manager : ℕ) → (event : LogEvent) → GroupEvent
  Post : (letters : List Letter) → GroupEvent

abbrev pub goes_out : LogEvent → List Letter
goes_out (Batch steps) = []
goes_out Sync = []
goes_out (Say letter) = letter ∷ []
goes_out (Note until) = []
goes_out (Return left) = []

-- a manager may be given any letter that ever went out: those of a batch are taken before its first step
abbrev pub WentOut : List Letter → ManagerEvent → Type 0
WentOut sent (asked.Receive letter) = In sent letter
WentOut sent (asked.Propose base change) = ⊤
WentOut sent asked.Activate = ⊤
WentOut sent (asked.Tick now) = ⊤

abbrev pub IsGiven : List Letter → LogEvent → Type 0
IsGiven sent (Batch steps) = (event : ManagerEvent) → In steps event → WentOut sent event
IsGiven sent Sync = ⊤
IsGiven sent (Say letter) = ⊤
IsGiven sent (Note until) = ⊤
IsGiven sent (Return left) = ⊤

module _ (managers lease : ℕ) (view : View) where
  -- a manager as it is made at the very first
  abbrev pub first : ℕ → ManagerState
  first m = manager_new m managers view lease

  abbrev pub next : Group → GroupEvent → Group
  next g (At m event) = record { process = put m (next_process (first m) (g.process m) event) g.process; sent = g.sent ++ goes_out event }
  next g (Post letters) = record g { sent = g.sent ++ letters }

  abbrev pub MayHappen : Group → GroupEvent → Type 0
  MayHappen g (At m event) = (m < managers) × MayHappenThere (first m) (g.process m) event × IsGiven g.sent event
  MayHappen g (Post letters) = (letter : Letter) → In letters letter → IsNode letter.from

  abbrev pub IsRun : Group → List GroupEvent → Type 0
  IsRun g [] = ⊤
  IsRun g (event ∷ events) = MayHappen g event × IsRun (next g event) events

  abbrev pub last_group : Group → List GroupEvent → Group
  last_group g [] = g
  last_group g (event ∷ events) = last_group (next g event) events

  abbrev pub start : Group
  start = record { process = λ m. start_process (first m); sent = [] }

  -- The council has the managers that run now, or will be made anew, but for their clocks and untils, on which no view that is agreed
  -- depends; it sent each letter that went out; and it learned each view that a manager holds or held by its log.
  pub record IsCouncilOf (g : Group) (c : Council) : Type 0 where
    pub manager : (m : ℕ) → m < managers → but_times (c.manager m) ≡ but_times (g.process m).manager
    pub sent : (letter : Letter) → In g.sent letter → In c.sent letter
    pub views : (m : ℕ) → m < managers → (before later : List ManagerEvent) → steps_of ((g.process m).synced ++ (g.process m).unsynced) ≡ before ++ later → In c.learned (after (first m) (logged before)).held

-- AGREEMENT, WITH RETURNS: whenever managers stop, and whatever their logs lose of what is not synced, there is a council of managers that
-- never stop, which agrees, and has these managers, their views, and each letter that went out.
abbrev pub ReturningManagersAgree : Type 0
ReturningManagersAgree = (managers lease : ℕ) (view : View) (events : List GroupEvent) → view.epoch ≡ 1 → IsRun managers lease view (start managers lease view) events →
    (c : Council) × IsCouncilOf managers lease view (last_group managers lease view (start managers lease view) events) c × IsAgreed managers c
