-- The world of founders, and of managers that hold the first view.
use Rattle.std.specs.Prelude.{ℕ, List, [], ◌∷◌, ◌++◌, map, false}
use Rattle.std.specs.List.{range_with_len}
use Rattle.hk_base.specs.declared.stamp.NodeId.{NodeId}
use Rattle.hk_base.specs.declared.view.View.{View}
use Rattle.hk_base.specs.View.{counted, first_view}
use Rattle.hk_base.specs.declared.letter.Actor.{Actor}
use Rattle.hk_base.specs.declared.letter.Actor.TheVariants.{Node, Manager}
use Rattle.hk_clocks.specs.declared.pace.Pace.{Pace}
use Rattle.hk_clocks.specs.Clocks.{Paces}
use Rattle.hk_manager.specs.Sound.{manager_new}
use Rattle.hk_node.specs.Made.{founder}
use Rattle.hk_event.specs.declared.event.Header.{Header}
use Rattle.hk_world.specs.declared.process.Process.{Process}
use Rattle.hk_world.specs.declared.process.ManagerProcess.{ManagerProcess}
use Rattle.hk_world.specs.World.{WorldState}

-- the first view has the founders as its members
abbrev pub founding_view : Header → View
founding_view h = first_view h.nodes

-- each has a lease, from every manager if there are any
abbrev pub founding_process : Header → NodeId → Process
founding_process h id = record { node = founder id (founding_view h) h.lease h.skew h.managers; crashed = false }

-- each manager has noted those leases
abbrev pub founding_manager : Header → ℕ → ManagerProcess
founding_manager h m = record { manager = manager_new m h.managers (founding_view h) h.lease; crashed = false }

-- all clocks read 1, and none has run ahead of another
abbrev pub founding_actors : Header → List Actor
founding_actors h = map (λ id. Node id) (counted 0 h.nodes) ++ map (λ m. Manager m) (range_with_len 0 h.managers)

abbrev pub first_pace : Pace
first_pace = record { clock = 1; leads = [] }

abbrev pub founding_paces : List Actor → Paces
founding_paces actors = map (λ a. (a, first_pace)) actors

abbrev pub start : Header → WorldState
start h = record {
  skew = h.skew;
  lease = h.lease;
  processes = map (λ id. (id, founding_process h id)) (counted 0 h.nodes);
  managers = map (λ m. founding_manager h m) (range_with_len 0 h.managers);
  paces = founding_paces (founding_actors h);
  letters = [];
  views = founding_view h ∷ [];
  calls = 0;
}
