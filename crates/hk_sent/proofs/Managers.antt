-- The letters of a manager's step keep the limit of a batch, since none is one.
use Rattle.std.proofs.Common.{◌+◌, ◌≤◌, ◌==◌, ◌||◌, ◌&&◌, ℕ, List, [], ◌∷◌, length, map, Bool, true, false, if◌then◌else◌, nat_lt, nat_le, Option, Some, None, Result, Ok, Err}
use Rattle.std.specs.Option.{option_map}
use Rattle.std.specs.List.{AllByRecursion}
use Rattle.hk_base.specs.declared.stamp.NodeId.{NodeId}
use Rattle.hk_base.specs.declared.view.Ballot.{Ballot}
use Rattle.hk_base.specs.declared.view.View.{View}
use Rattle.hk_base.specs.declared.view.Change.{Change}
use Rattle.hk_base.specs.declared.letter.Actor.{Actor}
use Rattle.hk_base.specs.declared.letter.Actor.TheVariants.{Node, Manager}
use Rattle.hk_base.specs.declared.letter.Letter.{Letter}
use Rattle.hk_base.specs.declared.letter.Body.{Body}
use Rattle.hk_base.specs.declared.letter.Body.TheVariants as Body
use Rattle.hk_base.specs.Range.{IsLetter}
use Rattle.hk_frame.specs.Laws.{KeepsBatchLimit}
use Rattle.hk_lease.specs.declared.grants.NotPast.{NotPast as StillRuns}
use Rattle.hk_lease.specs.Past.{past_answer}
use Rattle.hk_base.specs.View.{is_member}
use Rattle.hk_paxos.specs.declared.acceptor.Promise.{Promise}
use Rattle.hk_paxos.specs.declared.proposer.Proposer.{Proposer}
use Rattle.hk_paxos.specs.Paxos.{acceptor_on_prepare, acceptor_on_accept, proposer_on_promise, proposer_on_accepted}
use Rattle.hk_manager.specs.declared.event.ManagerEvent.{ManagerEvent}
use Rattle.hk_manager.specs.declared.event.ManagerEvent.TheVariants.{Propose, Receive, Activate, Tick}
use Rattle.hk_manager.specs.declared.fault.ManagerFault.{ManagerFault}
use Rattle.hk_manager.specs.declared.fault.ManagerFault.TheVariants.{Behind}
use Rattle.hk_manager.specs.declared.instance.TheConstants.{MAX_EPOCH, MAX_ROUND}
use Rattle.hk_manager.specs.Manager.{ManagerState, instance_at}
use Rattle.hk_manager.specs.Changes.{change_fault}
use Rattle.hk_manager.specs.Sends.{told_all}
use Rattle.hk_manager.specs.Steps.{ManagerStepped, sends, idle, learns, promise_body, counts_promise, reports, counts_acceptance, proposal_in, at_proposal, is_too_late, from_node, from_manager, is_addressed, receives_from, begins, begins_unless, proposes, activates_by, manager_step}
use Rattle.hk_manager.specs.Laws.{OfStep, LettersInRange}
use Rattle.hk_sent.specs.Sent.{IsSent, ManagersSend}
use Rattle.hk_sent.proofs.Nodes.{AllKeep, all_sent}

abbrev Keep : ManagerStepped → Type 0
Keep stepped = AllKeep stepped.letters

by_if : (b : Bool) (m : ManagerState) (stepped : ManagerStepped) → Keep stepped → Keep (if b then stepped else idle m)
by_if true m stepped keep = keep
by_if false m stepped keep = tt

by_else : (b : Bool) (m : ManagerState) (stepped : ManagerStepped) → Keep stepped → Keep (if b then idle m else stepped)
by_else true m stepped keep = tt
by_else false m stepped keep = keep

-- the same body to each of some
each_keep : {X : Type 0} (letter : X → Letter) (xs : List X) → ((x : X) → KeepsBatchLimit (letter x).body) → AllKeep (map letter xs)
each_keep letter [] keeps = tt
each_keep letter (x ∷ xs) keeps = (keeps x, each_keep letter xs keeps)

told_keep : {X : Type 0} (m : ManagerState) (epoch : ℕ) (body : X → Body) → ((x : X) → KeepsBatchLimit (body x)) → (o : Option X) → AllKeep (told_all m epoch (option_map body o))
told_keep m epoch body keeps None = tt
told_keep m epoch body keeps (Some x) = each_keep _ _ (λ to. keeps x)

learns_keep : (m : ManagerState) (view : View) (letters : List Letter) → AllKeep letters → Keep (learns m view letters)
learns_keep m view letters keep = at (nat_lt m.held.epoch view.epoch)
  where
    at : (b : Bool) → Keep (if b then record { manager = record m { held = view }; letters = letters; chosen = Some view.epoch } else sends m letters)
    at true = keep
    at false = keep

reports_keep : (m : ManagerState) (answer : Option View) → Keep (reports m answer)
reports_keep m None = tt
reports_keep m (Some view) = learns_keep m view _ (each_keep _ _ (λ to. tt))

at_keep : (o : Option Proposer) (m : ManagerState) (step : Proposer → ManagerStepped) → ((proposer : Proposer) → Keep (step proposer)) → Keep (at_proposal o m step)
at_keep None m step keep = tt
at_keep (Some proposer) m step keep = keep proposer

promised_keep : (proposer : Proposer) (m : ManagerState) (from : ℕ) (promise : Promise) → Keep (counts_promise proposer m from promise)
promised_keep proposer m from promise = told_keep m proposer.epoch (λ view. Body.Accept proposer.ballot view) (λ view. tt) (proposer_on_promise proposer from promise).answer

accepted_keep : (proposer : Proposer) (m : ManagerState) (from : ℕ) (ballot : Ballot) → Keep (counts_acceptance proposer m from ballot)
accepted_keep proposer m from ballot = reports_keep (record m { proposal = Some (proposer_on_accepted proposer from ballot).after }) (proposer_on_accepted proposer from ballot).answer

node_keep : (body : Body) (m : ManagerState) (from : NodeId) → Keep (from_node body m from)
node_keep (Body.LeaseAsk asked) m from = by_if (is_member from m.held.members) m _ (tt, tt)
node_keep (Body.Inv key s kind content) m from = tt
node_keep (Body.Ack key s top) m from = tt
node_keep (Body.Val key s) m from = tt
node_keep (Body.CopyAsk after room) m from = tt
node_keep (Body.CopyGive after done items) m from = tt
node_keep (Body.LeaseGive end) m from = tt
node_keep (Body.Prepare ballot) m from = tt
node_keep (Body.Promise ballot vote) m from = tt
node_keep (Body.Accept ballot view) m from = tt
node_keep (Body.Accepted ballot) m from = tt
node_keep (Body.Chosen view) m from = tt
node_keep (Body.Activate view) m from = tt

manager_keep : (body : Body) (m : ManagerState) (epoch from : ℕ) → Keep (from_manager body m epoch from)
manager_keep (Body.Prepare ballot) m epoch from = by_else (is_too_late ballot) m _
    (told_keep m epoch promise_body (λ promise. tt) (acceptor_on_prepare (instance_at epoch m.instances).acceptor ballot).answer)
manager_keep (Body.Promise ballot vote) m epoch from = at_keep (proposal_in m.proposal epoch) m _ (λ proposer. promised_keep proposer m from (record { ballot = ballot; accepted = vote }))
manager_keep (Body.Accept ballot view) m epoch from = by_else (is_too_late ballot) m _
    (told_keep m epoch (λ at. Body.Accepted at) (λ at. tt) (acceptor_on_accept (instance_at epoch m.instances).acceptor ballot view).answer)
manager_keep (Body.Accepted ballot) m epoch from = at_keep (proposal_in m.proposal epoch) m _ (λ proposer. accepted_keep proposer m from ballot)
manager_keep (Body.Chosen view) m epoch from = learns_keep m view [] tt
manager_keep (Body.LeaseAsk asked) m epoch from = tt
manager_keep (Body.Inv key s kind content) m epoch from = tt
manager_keep (Body.Ack key s top) m epoch from = tt
manager_keep (Body.Val key s) m epoch from = tt
manager_keep (Body.CopyAsk after room) m epoch from = tt
manager_keep (Body.CopyGive after done items) m epoch from = tt
manager_keep (Body.LeaseGive end) m epoch from = tt
manager_keep (Body.Activate view) m epoch from = tt

from_keep : (actor : Actor) (m : ManagerState) (letter : Letter) → Keep (receives_from actor m letter)
from_keep (Node from) m letter = node_keep letter.body m from
from_keep (Manager from) m letter = by_if (nat_lt from m.managers) m _ (manager_keep letter.body m letter.epoch from)

begins_keep : (m : ManagerState) (change : Change) → Keep (begins m change)
begins_keep m change = by_else (nat_lt MAX_EPOCH (m.held.epoch + 1) || nat_lt MAX_ROUND ((instance_at (m.held.epoch + 1) m.instances).round + 1)) m _ (each_keep _ _ (λ to. tt))

unless_keep : (o : Option ManagerFault) (m : ManagerState) (change : Change) → OfStep Keep (begins_unless o m change)
unless_keep (Some fault) m change = tt
unless_keep None m change = begins_keep m change

proposes_keep : (m : ManagerState) (base : ℕ) (change : Change) → OfStep Keep (proposes m base change)
proposes_keep m base change = at (m.held.epoch == base)
  where
    at : (b : Bool) → OfStep Keep (if b then begins_unless (change_fault m.held change) m change else Err (Behind m.held.epoch))
    at true = unless_keep (change_fault m.held change) m change
    at false = tt

activates_keep : (r : Result Unit StillRuns) (m : ManagerState) → OfStep Keep (activates_by r m)
activates_keep (Ok past) m = each_keep _ _ (λ member. tt)
activates_keep (Err running) m = tt

pub step_keep : (m : ManagerState) (event : ManagerEvent) → OfStep Keep (manager_step m event)
step_keep m (Propose base change) = proposes_keep m base change
step_keep m (Receive letter) = by_if (is_addressed m letter.to && nat_le letter.epoch MAX_EPOCH) m _ (from_keep letter.from m letter)
step_keep m Activate = activates_keep (past_answer m.untils m.held m.clock) m
step_keep m (Tick now) = tt

pub managers_send : LettersInRange → ManagersSend
managers_send within m event is may = at (manager_step m event) (within m event is may) (step_keep m event)
  where
    at : (r : Result ManagerStepped ManagerFault) → OfStep (λ stepped. AllByRecursion IsLetter stepped.letters × (length stepped.letters ≤ 16)) r → OfStep Keep r → OfStep (λ stepped. AllByRecursion IsSent stepped.letters) r
    at (Ok stepped) range keep = all_sent stepped.letters range.0 keep
    at (Err fault) range keep = tt
