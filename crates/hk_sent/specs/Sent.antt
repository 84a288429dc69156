-- What every letter keeps that a node or a manager sends. So each has a frame.
use Rattle.std.specs.List.{AllByRecursion}
use Rattle.hk_base.specs.declared.letter.Letter.{Letter}
use Rattle.hk_base.specs.Range.{IsLetter}
use Rattle.hk_base.specs.Lengths.{IsInRange}
use Rattle.hk_frame.specs.Laws.{KeepsBatchLimit}
use Rattle.hk_frame.specs.Sendable.{IsLetterValue}
use Rattle.hk_manager.specs.declared.event.ManagerEvent.{ManagerEvent}
use Rattle.hk_manager.specs.Manager.{ManagerState}
use Rattle.hk_manager.specs.Steps.{manager_step}
use Rattle.hk_manager.specs.Sound.{IsManager, IsManagerEvent}
use Rattle.hk_manager.specs.Laws.{OfStep}
use Rattle.hk_node.specs.declared.event.NodeEvent.{NodeEvent}
use Rattle.hk_node.specs.Node.{NodeState}
use Rattle.hk_node.specs.Steps.{node_step}
use Rattle.hk_node.specs.Sound.{IsNode, IsNodeEvent}

-- a letter as it is sent: its parts are in range, and the keys and data of a batch are at most 2,097,152 bytes together
pub record IsSent (letter : Letter) : Type 0 where
  pub parts : IsLetter letter
  pub limit : KeepsBatchLimit letter.body

-- Nodes send such letters alone, whatever they are and whatever comes to them.
abbrev pub NodesSend : Type 0
NodesSend = (node : NodeState) (event : NodeEvent) → IsNode node → IsNodeEvent event → AllByRecursion IsSent (node_step node event).letters

-- And so do managers.
abbrev pub ManagersSend : Type 0
ManagersSend = (m : ManagerState) (event : ManagerEvent) → IsManager m → IsManagerEvent event → OfStep (λ stepped. AllByRecursion IsSent stepped.letters) (manager_step m event)

-- A letter that is sent is in range whole: it fits a frame too. How long a key and how long data may be is a matter of their types, and
-- a definition ranges over lists of any length: so what the type of a letter keeps is a premise here, which each letter that there is meets.
abbrev pub SentIsInRange : Type 0
SentIsInRange = (letter : Letter) → IsLetterValue letter → IsSent letter → IsInRange letter
