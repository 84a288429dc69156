-- The managers of one group, what each has logged, and what they told each other and the processes that want a number.
use Rattle.std.specs.Prelude.{◌≡◌, ◌<◌, ◌+◌, ◌/◌, ◌⊎◌, ⊤, ℕ, zero, suc, Bool, true, ◌==◌, if◌then◌else◌, List, [], ◌∷◌, ◌++◌, length, slice_get, Option, None, Some}
use Rattle.hk_base.specs.declared.stamp.NodeId.{NodeId}
use Rattle.hk_base.specs.declared.letter.Actor.TheVariants.{Node}
use Rattle.hk_base.specs.declared.view.View.{View}
use Rattle.hk_fields.specs.declared.tickets.Ticket.{Ticket}
use Rattle.hk_roll.specs.declared.binding.Binding.{Binding}
use Rattle.hk_roll.specs.declared.binding.Founder.{Founder}
use Rattle.hk_roll.specs.declared.steps.Seating.{Seating}
use Rattle.hk_roll.specs.Rolls.{Entries, bound, with_bound, replayed, founding}
use Rattle.hk_roll.specs.Steps.{claimed, seated}

-- A manager told that it binds the number to the ticket: by a board, or by an answer to this ticket's process.
pub record Told : Type 0 where
  pub from : ℕ
  pub node : NodeId
  pub ticket : Ticket

-- What was told is never taken away: what is lost is not heard, and anything may be heard again, at any later moment.
pub record Group : Type 0 where
  -- what each manager has logged since the founding
  pub log : ℕ → List Binding
  -- what its process has in memory
  pub roll : ℕ → Entries
  pub told : List Told

-- A manager is asked by SEAT, with any views and whatever else it knows; or by CLAIM, with what it heard of boards. One tells what it binds a number to, by a
-- board or an answer. A process ends, and another one begins with what the log tells.
pub data Event : Type 0 where
  Seat : (manager : ℕ) → List View → Seating → Ticket → Event
  Claim : (manager : ℕ) → List View → List (Option Ticket) → NodeId → Ticket → Event
  Tell : (manager : ℕ) → NodeId → Event
  Restart : (manager : ℕ) → Event

abbrev pub put : {X : Type 0} → ℕ → X → (ℕ → X) → ℕ → X
put m x f n = if n == m then x else f n

abbrev pub In : {X : Type 0} → List X → X → Type 0
In [] x = ⊥
In (y ∷ ys) x = (x ≡ y) ⊎ In ys x

-- what a step logs is in the log, and then in the roll
abbrev pub logs : Group → ℕ → Option Binding → Group
logs g m None = g
logs g m (Some b) = record g { log = put m (g.log m ++ b ∷ []) g.log; roll = put m (with_bound (g.roll m) b) g.roll }

abbrev pub tells : Group → ℕ → NodeId → Option Ticket → Group
tells g m node None = g
tells g m node (Some ticket) = record g { told = record { from = m; node = node; ticket = ticket } ∷ g.told }

abbrev pub next : Group → Event → Group
next g (Seat m views seating ticket) = logs g m (seated (g.roll m) views seating ticket).logged
next g (Claim m views boards node ticket) = logs g m (claimed (g.roll m) views boards node ticket).logged
next g (Tell m node) = tells g m node (bound (Node node) (g.roll m))
next g (Restart m) = record g { roll = put m (replayed [] (g.log m)) g.roll }

abbrev pub last : Group → List Event → Group
last g [] = g
last g (e ∷ es) = last (next g e) es

-- all are founded on the same hosts
abbrev pub start : List Founder → Group
start hosts = record { log = λ m. founding 0 hosts; roll = λ m. replayed [] (founding 0 hosts); told = [] }

-- Each board names what its manager told at some moment before, however long ago.
abbrev pub WereTold : Group → NodeId → List (Option Ticket) → Type 0
WereTold g node boards = (from : ℕ) (ticket : Ticket) → slice_get boards from ≡ Some (Some ticket) → In g.told (record { from = from; node = node; ticket = ticket })

module _ (managers : ℕ) where
  abbrev pub MayHappen : Group → Event → Type 0
  MayHappen g (Seat m views seating ticket) = m < managers
  MayHappen g (Claim m views boards node ticket) = (m < managers) × (length boards ≡ managers) × WereTold g node boards
  MayHappen g (Tell m node) = m < managers
  MayHappen g (Restart m) = m < managers

  abbrev pub IsRun : Group → List Event → Type 0
  IsRun g [] = ⊤
  IsRun g (e ∷ es) = MayHappen g e × IsRun (next g e) es

-- ---- majorities

-- how many of the first ones pass
abbrev pub counted : (ℕ → Bool) → ℕ → ℕ
counted who zero = 0
counted who (suc n) = (if who 0 then 1 else 0) + counted (λ m. who (suc m)) n

-- more than half of the managers are so
pub record Most (managers : ℕ) (Is : ℕ → Type 0) : Type 0 where
  pub who : ℕ → Bool
  pub more : managers / 2 < counted who managers
  pub all : (m : ℕ) → m < managers → who m ≡ true → Is m

-- the manager binds the number to the ticket, now
abbrev pub Binds : Group → NodeId → Ticket → ℕ → Type 0
Binds g node ticket m = bound (Node node) (g.roll m) ≡ Some ticket

-- the manager told so, at some moment
abbrev pub HasTold : Group → NodeId → Ticket → ℕ → Type 0
HasTold g node ticket m = In g.told (record { from = m; node = node; ticket = ticket })
