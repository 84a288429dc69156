-- What holds of every step of a manager that is founded and opens, and how a founding that was cut short is made again.
use Rattle.std.specs.Prelude.{◌≡◌, ◌≢◌, ◌⊎◌, ◌<◌, ◌≤◌, ◌+◌, ℕ, max, Bool, true, false, List, [], ◌∷◌, ◌++◌, Option, None, Some}
use Rattle.hk_stage.specs.declared.stage.Stage.{Stage}
use Rattle.hk_stage.specs.declared.stage.Stage.TheVariants.{Empty, Founded, Open}
use Rattle.hk_stage.specs.declared.event.Board.{Board}
use Rattle.hk_stage.specs.declared.event.Logged.{Logged}
use Rattle.hk_stage.specs.declared.event.StageEvent.{StageEvent}
use Rattle.hk_stage.specs.declared.event.StageEvent.TheVariants as event
use Rattle.hk_stage.specs.declared.opening.TheConstants.{RESERVED_FOR}
use Rattle.hk_stage.specs.declared.opening.Opening.{Opening}
use Rattle.hk_stage.specs.Stages.{is_open}
use Rattle.hk_stage.specs.Opening.{reserved_for, against, may_open, opens, only_itself, with_told, stepped}

-- A manager that is open stays so with its founding, whatever comes.
abbrev pub OpenForGood : Type 0
OpenForGood = (o : Opening) (f now : ℕ) (happens : StageEvent) → o.stage ≡ Open f → (stepped o now happens).opening ≡ o

-- ---- who opens a manager

-- the board tells the founding f at stage 2; or at stage 1, by an ask that counts, and all others have told it too
abbrev pub OpensBy : Opening → ℕ → Board → Stage → Type 0
OpensBy o f b Empty = ⊥
OpensBy o f b (Founded g) = (g ≡ f) × (o.since < b.asked) × (opens (with_told o b.from) ≡ true)
OpensBy o f b (Open g) = g ≡ f

-- A board of its own founding, while it is reserved for none; FOUND, where there is no other manager; or time, where all had told before.
abbrev pub Opens : Opening → ℕ → ℕ → StageEvent → Type 0
Opens o now f (event.Look g) = ⊥
Opens o now f (event.Found g) = (g ≡ f) × (reserved_for o now ≡ Some f) × (opens (record o { told = only_itself o.place }) ≡ true)
Opens o now f (event.Told b) = (may_open o now ≡ Some f) × OpensBy o f b b.stage
Opens o now f event.Tick = (may_open o now ≡ Some f) × (opens o ≡ true)

-- No board of another founding opens a manager, and none while it is reserved.
abbrev pub OpensByItsOwn : Type 0
OpensByItsOwn = (o : Opening) (f now : ℕ) (happens : StageEvent) → is_open o.stage ≡ false → (stepped o now happens).opening.stage ≡ Open f → Opens o now f happens

-- ---- what is logged

-- A founding is logged only where FOUND tells it, to a manager that is reserved for just this one.
abbrev pub FoundWhileReserved : Type 0
FoundWhileReserved = (o : Opening) (f now : ℕ) (happens : StageEvent) → (stepped o now happens).logged.founded ≡ Some f → (happens ≡ event.Found f) × (reserved_for o now ≡ Some f)

abbrev pub founded_by : Stage → Option ℕ → Stage
founded_by stage None = stage
founded_by stage (Some f) = Founded f

abbrev pub opened_by : Stage → Bool → Stage
opened_by stage false = stage
opened_by Empty true = Empty
opened_by (Founded f) true = Open f
opened_by (Open f) true = Open f

-- what entries of a log make of a stage
abbrev pub logged_stage : Stage → Logged → Stage
logged_stage stage logged = opened_by (founded_by stage logged.founded) logged.opened

-- The log tells the stage: what a step logs makes of the stage before it the one behind it.
abbrev pub LogTellsTheStage : Type 0
LogTellsTheStage = (o : Opening) (now : ℕ) (happens : StageEvent) → (stepped o now happens).opening.stage ≡ logged_stage o.stage (stepped o now happens).logged

-- ---- a founding again

-- events one after the other, each at its reading
abbrev pub after : Opening → List (ℕ × StageEvent) → Opening
after o [] = o
after o (e ∷ es) = after (stepped o e.0 e.1).opening es

abbrev pub told_all : List (ℕ × Board) → List (ℕ × StageEvent)
told_all [] = []
told_all (b ∷ bs) = (b.0, event.Told b.1) ∷ told_all bs

-- one of the boards is of this manager, and tells f at stage 1, by an ask behind the reading
abbrev pub Vouches : ℕ → ℕ → ℕ → List (ℕ × Board) → Type 0
Vouches k f since [] = ⊥
Vouches k f since (b ∷ bs) = ((b.1.from ≡ k) × (b.1.stage ≡ Founded f) × (since < b.1.asked)) ⊎ Vouches k f since bs

-- From whatever a founding that was cut short left at a manager that is not open: once it is reserved for no other one, LOOK f, FOUND f within 10 s, and
-- behind them boards by which each other manager tells f, open it with f. What other boards come between does no harm, whatever they tell.
abbrev pub CanBeFoundedAnew : Type 0
CanBeFoundedAnew = (o : Opening) (f look found tick : ℕ) (boards : List (ℕ × Board)) →
    is_open o.stage ≡ false → o.managers ≤ 9 → against o.stage (reserved_for o look) f ≡ None → found < look + RESERVED_FOR →
    ((k : ℕ) → k < o.managers → k ≢ o.place → Vouches k f (max found o.ready) boards) →
    (after o ((look, event.Look f) ∷ (found, event.Found f) ∷ (told_all boards ++ (tick, event.Tick) ∷ []))).stage ≡ Open f
