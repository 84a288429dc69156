-- What the code shows of an actor's step, in the words of what the step told.
use Rattle.std.specs.Prelude.{ℕ, List, Option, Some, None}
use Rattle.hk_base.specs.declared.stamp.NodeId.{NodeId}
use Rattle.hk_base.specs.declared.call.CallNo.{CallNo}
use Rattle.hk_base.specs.declared.letter.Letter.{Letter}
use Rattle.hk_manager.specs.declared.out.ManagerOut.{ManagerOut}
use Rattle.hk_manager.specs.Manager.{ManagerState}
use Rattle.hk_node.specs.declared.out.NodeOut.{NodeOut}
use Rattle.hk_node.specs.declared.report.Report.{Report}
use Rattle.hk_node.specs.Node.{NodeState}
use Rattle.hk_world.specs.declared.shown.Shown.{Shown}
use Rattle.hk_world.specs.Steps.{nothing, view_of, installer_of, held_of, chooser_of, first_number}

-- behind the letters that were sent before, at the node after the step
abbrev pub posted : List Letter → NodeId → NodeState → NodeOut → Option CallNo → Shown
posted sent id node out call = record {
  call = call;
  view = view_of out.installed node;
  chosen = None;
  installed = installer_of out.installed id;
  first_letter = first_number sent out.letters;
  letters = out.letters;
  replies = out.replies;
  acted = Some (record { node = id; report = out.report });
}

-- a node that acted and sent nothing
abbrev pub rested : NodeId → Report → Shown
rested id report = record nothing { acted = Some (record { node = id; report = report }) }

-- what is shown of a manager's step
abbrev pub manager_posted : List Letter → ℕ → ManagerState → ManagerOut → Shown
manager_posted sent m manager out = record nothing {
  view = held_of out.chosen manager;
  chosen = chooser_of out.chosen m;
  first_letter = first_number sent out.letters;
  letters = out.letters;
}
