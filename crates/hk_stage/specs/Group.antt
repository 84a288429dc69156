-- The managers of one group while it is founded, the boards that they told each other, and what two foundings at once come to.
use Rattle.std.specs.Prelude.{◌≡◌, ◌≢◌, ◌<◌, ◌≤◌, ◌+◌, ◌⊎◌, ⊤, ℕ, ◌==◌, if◌then◌else◌, List, [], ◌∷◌}
use Rattle.hk_stage.specs.declared.stage.Stage.TheVariants.{Empty, Founded, Open}
use Rattle.hk_stage.specs.declared.event.Board.{Board}
use Rattle.hk_stage.specs.declared.event.StageEvent.{StageEvent}
use Rattle.hk_stage.specs.declared.event.StageEvent.TheVariants as event
use Rattle.hk_stage.specs.declared.opening.Opening.{Opening}
use Rattle.hk_stage.specs.Opening.{begun, shown, stepped}

-- a board, and whose process of which life asked for it
pub record Sent : Type 0 where
  pub to : ℕ
  pub life : ℕ
  pub board : Board

-- Boards are never taken away: one that is lost is not taken, and one may be taken again.
pub record Group : Type 0 where
  pub manager : ℕ → Opening
  pub clock : ℕ → ℕ
  -- how often its process was started again
  pub life : ℕ → ℕ
  pub boards : List Sent

-- A manager makes an event at a reading. One tells its board to another, which asked for it at some reading before. A process ends, and another one begins with
-- the stage that the log tells, its clock with any reading.
pub data Event : Type 0 where
  Step : (manager now : ℕ) → (happens : StageEvent) → Event
  Tell : (teller asker asked : ℕ) → Event
  Restart : (manager now : ℕ) → Event

abbrev pub put : {X : Type 0} → ℕ → X → (ℕ → X) → ℕ → X
put m x f n = if n == m then x else f n

abbrev pub In : List Sent → Sent → Type 0
In [] s = ⊥
In (t ∷ ts) s = (s ≡ t) ⊎ In ts s

abbrev pub board_of : Group → (teller asker asked : ℕ) → Sent
board_of g teller asker asked =
    record { to = asker; life = g.life asker; board = record { from = teller; stage = shown (g.manager teller) (g.clock teller); asked = asked } }

module _ (managers : ℕ) where
  abbrev pub next : Group → Event → Group
  next g (Step m now happens) = record g { manager = put m (stepped (g.manager m) now happens).opening g.manager; clock = put m now g.clock }
  next g (Tell teller asker asked) = record g { boards = board_of g teller asker asked ∷ g.boards }
  next g (Restart m now) = record g { manager = put m (begun managers m (g.manager m).stage now) g.manager; clock = put m now g.clock; life = put m (g.life m + 1) g.life }

  -- a board that was told in this life
  abbrev pub WasTold : Group → ℕ → StageEvent → Type 0
  WasTold g m (event.Told b) = In g.boards (record { to = m; life = g.life m; board = b })
  WasTold g m (event.Look f) = ⊤
  WasTold g m (event.Found f) = ⊤
  WasTold g m event.Tick = ⊤

  -- Any manager may be asked or founded by anybody, at any moment. Its clock does not go back while its process runs.
  abbrev pub MayHappen : Group → Event → Type 0
  MayHappen g (Step m now happens) = (m < managers) × (g.clock m ≤ now) × WasTold g m happens
  MayHappen g (Tell teller asker asked) = (teller < managers) × (asker < managers) × (teller ≢ asker) × (asked ≤ g.clock asker)
  MayHappen g (Restart m now) = m < managers

  abbrev pub IsRun : Group → List Event → Type 0
  IsRun g [] = ⊤
  IsRun g (e ∷ es) = MayHappen g e × IsRun (next g e) es

  abbrev pub last : Group → List Event → Group
  last g [] = g
  last g (e ∷ es) = last (next g e) es

  -- empty logs, and clocks that show anything
  abbrev pub start : (ℕ → ℕ) → Group
  start clock = record { manager = λ m. begun managers m Empty (clock m); clock = clock; life = λ m. 0; boards = [] }

-- Never are two managers of a group open with different foundings, whoever types `init` and how often, whatever is lost, and whoever stops at whatever moment.
abbrev pub NeverTwo : Type 0
NeverTwo = (managers : ℕ) (clock : ℕ → ℕ) (events : List Event) → managers ≤ 9 → IsRun managers (start managers clock) events →
    (a b f h : ℕ) → a < managers → b < managers →
    ((last managers (start managers clock) events).manager a).stage ≡ Open f → ((last managers (start managers clock) events).manager b).stage ≡ Open h → f ≡ h

-- among the boards is one by which a manager told another that it is founded with f
pub record Vouched (boards : List Sent) (to from f : ℕ) : Type 0 where
  pub sent : Sent
  pub told : In boards sent
  pub asker : sent.to ≡ to
  pub teller : sent.board.from ≡ from
  pub stage : sent.board.stage ≡ Founded f

-- a manager that is open with f, and was told f by each other one
pub record FirstOpen (managers : ℕ) (g : Group) (f : ℕ) : Type 0 where
  pub who : ℕ
  pub known : who < managers
  pub is_open : (g.manager who).stage ≡ Open f
  pub all : (b : ℕ) → b < managers → b ≢ who → Vouched g.boards who b f

-- Where any manager is open with f, all were founded with f, each at some moment.
abbrev pub OpenMeansAllFounded : Type 0
OpenMeansAllFounded = (managers : ℕ) (clock : ℕ → ℕ) (events : List Event) → managers ≤ 9 → IsRun managers (start managers clock) events →
    (a f : ℕ) → a < managers → ((last managers (start managers clock) events).manager a).stage ≡ Open f → FirstOpen managers (last managers (start managers clock) events) f
