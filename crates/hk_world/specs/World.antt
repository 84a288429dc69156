-- A world: the nodes and managers, their clocks, every letter ever sent, and the views that were agreed.
use Rattle.std.specs.Prelude.{ℕ, zero, suc, List, [], ◌∷◌, Bool, true, false, Option, Some, None, slice_get, slice_set}
use Rattle.std.specs.declared.cmp.Ordering.{Ordering}
use Rattle.std.specs.Ordering.{nat_cmp}
use Rattle.std.specs.BTreeMap.{insert_entry, is_at}
use Rattle.std.specs.Map.{lookup}
use Rattle.hk_base.specs.declared.stamp.NodeId.{NodeId}
use Rattle.hk_base.specs.declared.view.View.{View}
use Rattle.hk_base.specs.declared.letter.Letter.{Letter}
use Rattle.hk_base.specs.declared.letter.Actor.{Actor}
use Rattle.hk_base.specs.declared.letter.Actor.TheVariants.{Node, Manager}
use Rattle.hk_clocks.specs.Clocks.{ClockState, Paces}
use Rattle.hk_clocks.specs.Steps.{ClockEvent, clock_step}
use Rattle.hk_clocks.specs.Runs.{made_or}
use Rattle.hk_node.specs.Node.{NodeState}
use Rattle.hk_world.specs.declared.process.Process.{Process}
use Rattle.hk_world.specs.declared.process.ManagerProcess.{ManagerProcess}

abbrev pub Processes : Type 0
Processes = List (NodeId × Process)

pub record WorldState : Type 0 where
  -- by how much one clock of a live actor may run ahead of another, beside the rate
  pub skew : ℕ
  -- how long a lease is that a manager grants, or that a founder begins with
  pub lease : ℕ
  -- by number, in rising order
  pub processes : Processes
  -- the managers, manager 0 first; with none, views and leases come from outside
  pub managers : List ManagerProcess
  -- the clocks of all live actors, and by how much each has run ahead of each other one
  pub paces : Paces
  -- every letter ever sent, the first one first
  pub letters : List Letter
  -- The views, the first one first. With no managers they are those that were agreed. With managers they are those that managers
  -- learned to be chosen, each where its epoch was the greatest so far.
  pub views : List View
  -- how many calls were made
  pub calls : ℕ

abbrev pub by_number : NodeId → NodeId → Ordering
by_number a b = nat_cmp a.0 b.0

abbrev pub process_at : NodeId → Processes → Option Process
process_at id processes = lookup (is_at (by_number id)) processes

abbrev pub put_process : NodeId → Process → Processes → Processes
put_process id process processes = insert_entry by_number processes id process

abbrev pub node_of : Option Process → Option NodeState
node_of None = None
node_of (Some process) = Some process.node

-- managers are numbered from 0
abbrev pub manager_at : ℕ → List ManagerProcess → Option ManagerProcess
manager_at m managers = slice_get managers m

abbrev pub put_manager : ℕ → ManagerProcess → List ManagerProcess → List ManagerProcess
put_manager m process managers = slice_set managers m process

-- ---- clocks
abbrev pub clocks_of : WorldState → ClockState
clocks_of world = record { skew = world.skew; paces = world.paces }

-- the clocks after an event of clocks; one that is refused changes nothing
abbrev pub paces_by : WorldState → ClockEvent → Paces
paces_by world event = (made_or (clocks_of world) (clock_step (clocks_of world) event)).paces

-- the clock that an actor itself has, if it is there and has not crashed
abbrev pub unless_crashed : Bool → ℕ → Option ℕ
unless_crashed true clock = None
unless_crashed false clock = Some clock

abbrev pub node_clock : Option Process → Option ℕ
node_clock None = None
node_clock (Some process) = unless_crashed process.crashed process.node.clock

abbrev pub manager_clock : Option ManagerProcess → Option ℕ
manager_clock None = None
manager_clock (Some process) = unless_crashed process.crashed process.manager.clock

abbrev pub live_clock : WorldState → Actor → Option ℕ
live_clock world (Node id) = node_clock (process_at id world.processes)
live_clock world (Manager m) = manager_clock (manager_at m world.managers)

-- ---- what is numbered
-- letters are numbered from 1, and so are the epochs of views
abbrev pub numbered : {X : Type 0} → ℕ → List X → Option X
numbered zero xs = None
numbered (suc k) xs = slice_get xs k

-- the last view; there is always one
abbrev pub no_view : View
no_view = record { epoch = 0; members = []; next = 0 }

abbrev pub last_view : List View → View
last_view [] = no_view
last_view (view ∷ []) = view
last_view (view ∷ next ∷ views) = last_view (next ∷ views)
