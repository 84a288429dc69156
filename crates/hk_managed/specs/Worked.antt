-- A run of two founders and three managers. The second node is granted a lease by a majority, and a view without it is agreed on though
-- two managers rival. Its lease runs out, and the first node installs the view.
use Rattle.std.specs.Prelude.{◌≡◌, List, [], ◌∷◌, take, Bool, false, Option, Some}
use Rattle.std.specs.Option.{option_map}
use Rattle.hk_base.specs.declared.stamp.NodeId.{NodeId}
use Rattle.hk_base.specs.declared.view.Change.TheVariants.{Add, Drop}
use Rattle.hk_base.specs.declared.view.View.{View}
use Rattle.hk_base.specs.declared.letter.Actor.TheVariants.{Manager}
use Rattle.hk_base.specs.declared.letter.Body.TheVariants.{Accept}
use Rattle.hk_node.specs.Node.{NodeState, epoch_of}
use Rattle.hk_earned.specs.Machine.{In}
use Rattle.hk_event.specs.declared.event.Header.{Header}
use Rattle.hk_event.specs.declared.event.Event.{Event}
use Rattle.hk_event.specs.declared.event.Event.TheVariants.{Take, TickAll, AskLease, Propose, Activate}
use Rattle.hk_world.specs.World.{WorldState, process_at, node_of, numbered}
use Rattle.hk_world.specs.Start.{start}
use Rattle.hk_world.specs.Steps.{world_step}
use Rattle.hk_managed.specs.Guarded.{IsGranted}
use Rattle.hk_managed.specs.Runs.{after, IsRun}

abbrev pub first_node : NodeId
first_node = record { 0 = 0 }

abbrev pub second_node : NodeId
second_node = record { 0 = 1 }

abbrev pub header : Header
header = record { nodes = 2; managers = 3; lease = 10; skew = 0 }

-- the view without the second node
abbrev pub dropped : View
dropped = record { epoch = 2; members = first_node ∷ []; next = 2 }

-- At 5 the second node asks managers 0 and 1 for a lease, by letters 1 and 2, and is granted one up to 15 by each, by letters 3 and 4.
-- Manager 0 would drop that node, has the promises of managers 0 and 1, and accepts its own view. Manager 1 would add a node, by a
-- higher ballot; it learns of the view by the promise of manager 0 and proposes it in place of its own. Managers 1 and 2 accept it, and
-- manager 2 is told. The untils of managers 1 and 2 are past at 30, and their ACTIVATEs are letters 40 and 41.
abbrev pub events : List Event
events =
    TickAll 5 ∷ AskLease second_node 0 ∷ AskLease second_node 1 ∷ Take 1 ∷ Take 2 ∷ Take 3 ∷ Take 4 ∷
    Propose 0 1 (Drop second_node) ∷ Take 5 ∷ Take 6 ∷ Take 8 ∷ Take 11 ∷ Take 14 ∷
    Propose 1 1 Add ∷ Take 21 ∷ Take 20 ∷ Take 24 ∷ Take 27 ∷ Take 30 ∷ Take 31 ∷ Take 33 ∷ Take 36 ∷ Take 39 ∷
    TickAll 30 ∷ Activate 1 ∷ Activate 2 ∷ Take 40 ∷ Take 41 ∷ []

-- the world at the end of the events
abbrev pub ends : WorldState → List Event → WorldState
ends w [] = w
ends w (event ∷ events) = ends (after w (world_step w event)) events

-- the world once the lease is granted, and at the end
abbrev pub granted : WorldState
granted = ends (start header) (take 7 events)

abbrev pub last : WorldState
last = ends (start header) events

-- what is told of a node, and whether it has crashed
abbrev pub told : {A : Type 0} → WorldState → NodeId → (NodeState → A) → Option A
told w n read = option_map read (node_of (process_at n w.processes))

abbrev pub crashed_at : NodeId → Option Bool
crashed_at n = option_map (λ p. p.crashed) (process_at n last.processes)

-- The second node had a lease, by a majority's grants. Both managers asked for its view to be accepted. At the end it runs, the first
-- node is in the second view, which leaves it out, and its lease is over.
pub record WorkedRun : Type 0 where
  pub run : IsRun (start header) events last
  pub had_lease : told granted second_node (λ x. x.granted) ≡ Some 15
  pub at_the_time : told granted second_node (λ x. x.clock) ≡ Some 5
  pub by_majority : IsGranted last second_node 15
  pub first_asks : In last.letters (record { epoch = 2; from = Manager 0; to = Manager 1; body = Accept (record { round = 1; manager = 0 }) dropped })
  pub rival_asks : In last.letters (record { epoch = 2; from = Manager 1; to = Manager 2; body = Accept (record { round = 2; manager = 1 }) dropped })
  pub installed : told last first_node epoch_of ≡ Some 2
  pub first_view : option_map (λ view. view.members) (numbered 1 last.views) ≡ Some (first_node ∷ second_node ∷ [])
  pub second_view : numbered 2 last.views ≡ Some dropped
  pub runs : crashed_at second_node ≡ Some false
  pub over : told last second_node (λ x. x.clock) ≡ Some 30
