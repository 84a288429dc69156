-- What no step changes of its node: its number, and by how much clocks may differ.
use Rattle.std.proofs.Common.{◌≡◌, ℕ, List, Option, refl}
use Rattle.hk_base.specs.declared.call.CallNo.{CallNo}
use Rattle.hk_base.specs.declared.call.Op.{Op}
use Rattle.hk_node.specs.declared.event.NodeEvent.TheVariants.{Call}
use Rattle.hk_node.specs.Node.{NodeState}
use Rattle.hk_node.specs.Stepped.{Stepped}
use Rattle.hk_node.specs.Laws.{key_of}
use Rattle.hk_node.proofs.StepCases.{CallCases, StepCases, by_call, by_event}
use Rattle.hk_told.specs.Steps.{StepsKeepNumbers}

abbrev Keeps : NodeState → Stepped → Type 0
Keeps node stepped = (stepped.node.id ≡ node.id) × (stepped.node.skew ≡ node.skew)

ways : (node : NodeState) (named : Option (List ℕ)) → StepCases (Keeps node) node named
ways node named = record {
  quiet = λ clock granted ends activated. (refl, refl);
  sends = λ letters within. (refl, refl);
  row = λ k done names acts. (refl, refl);
  takes = λ cursor done items none unready within. (refl, refl);
  installs = λ view activated none acts. (refl, refl);
}

call_ways : (node : NodeState) (call : CallNo) (key : List ℕ) (op : Op) → CallCases (Keeps node) node call key op
call_ways node call key op = record { answered = λ answer. (refl, refl); begins = λ s ready valid next. (refl, refl) }

pub steps_keep_numbers : StepsKeepNumbers
steps_keep_numbers node (Call call key op) ok within = by_call (Keeps node) node call key op ok (call_ways node call key op)
steps_keep_numbers node event ok within = by_event (Keeps node) node ok event within tt (ways node (key_of event))
