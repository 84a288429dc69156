-- A step leaves a manager its number, and the length of its leases.
use Rattle.std.proofs.Common.{◌≡◌, ℕ, Bool, true, false, cond, ◌&&◌, ◌==◌, nat_lt, nat_le, Option, Some, None, Result, Ok, Err, List, refl}
use Rattle.hk_base.specs.declared.stamp.NodeId.{NodeId}
use Rattle.hk_base.specs.declared.view.View.{View}
use Rattle.hk_base.specs.declared.view.Change.{Change}
use Rattle.hk_base.specs.declared.view.Ballot.{Ballot}
use Rattle.hk_base.specs.declared.letter.Actor.{Actor}
use Rattle.hk_base.specs.declared.letter.Actor.TheVariants.{Node, Manager}
use Rattle.hk_base.specs.declared.letter.Letter.{Letter}
use Rattle.hk_base.specs.declared.letter.Body.{Body}
use Rattle.hk_base.specs.View.{is_member}
use Rattle.hk_paxos.specs.declared.acceptor.Promise.{Promise}
use Rattle.hk_paxos.specs.declared.proposer.Proposer.{Proposer}
use Rattle.hk_paxos.specs.Paxos.{proposer_on_accepted}
use Rattle.hk_lease.specs.declared.grants.NotPast.{NotPast as StillRuns}
use Rattle.hk_lease.specs.Past.{past_answer}
use Rattle.hk_manager.specs.declared.event.ManagerEvent.{ManagerEvent}
use Rattle.hk_manager.specs.declared.event.ManagerEvent.TheVariants.{Propose, Receive, Activate, Tick}
use Rattle.hk_manager.specs.declared.fault.ManagerFault.{ManagerFault}
use Rattle.hk_manager.specs.declared.fault.ManagerFault.TheVariants.{Behind}
use Rattle.hk_manager.specs.declared.instance.TheConstants.{MAX_EPOCH}
use Rattle.hk_manager.specs.Changes.{change_fault}
use Rattle.hk_manager.specs.Laws.{OfStep}
use Rattle.hk_manager.specs.Manager.{ManagerState}
use Rattle.hk_manager.specs.Steps
use Rattle.hk_durable.proofs.Sound.{first_of, second_of}

module _ (m : ManagerState) where
  abbrev IsAlike : ManagerState → Type 0
  IsAlike n = (n.id ≡ m.id) × (n.lease ≡ m.lease)

  abbrev pub Same : Steps.ManagerStepped → Type 0
  Same stepped = (stepped.manager.id ≡ m.id) × (stepped.manager.lease ≡ m.lease)

  either : (b : Bool) (x y : Steps.ManagerStepped) → Same x → Same y → Same (cond b x y)
  either true x y one other = one
  either false x y one other = other

  learned : (n : ManagerState) (view : View) (letters : List Letter) → IsAlike n → Same (Steps.learns n view letters)
  learned n view letters is = either (nat_lt n.held.epoch view.epoch) (record { manager = record n { held = view }; letters = letters; chosen = Some view.epoch }) (Steps.sends n letters) is is

  reported : (n : ManagerState) (answer : Option View) → IsAlike n → Same (Steps.reports n answer)
  reported n None is = is
  reported n (Some view) is = learned n view _ is

  promised : (p : Option Proposer) (from : ℕ) (promise : Promise) → Same (Steps.at_proposal p m (λ proposer. Steps.counts_promise proposer m from promise))
  promised None from promise = (refl, refl)
  promised (Some proposer) from promise = (refl, refl)

  accepted : (p : Option Proposer) (from : ℕ) (ballot : Ballot) → Same (Steps.at_proposal p m (λ proposer. Steps.counts_acceptance proposer m from ballot))
  accepted None from ballot = (refl, refl)
  accepted (Some proposer) from ballot = reported (record m { proposal = Some (proposer_on_accepted proposer from ballot).after }) (proposer_on_accepted proposer from ballot).answer (refl, refl)

  node_letter : (body : Body) (from : NodeId) → Same (Steps.from_node body m from)
  node_letter (Body.LeaseAsk asked) from = either (is_member from m.held.members) _ (Steps.idle m) (refl, refl) (refl, refl)
  node_letter (Body.Inv key stamp kind content) from = (refl, refl)
  node_letter (Body.Ack key stamp top) from = (refl, refl)
  node_letter (Body.Val key stamp) from = (refl, refl)
  node_letter (Body.CopyAsk behind room) from = (refl, refl)
  node_letter (Body.CopyGive behind done items) from = (refl, refl)
  node_letter (Body.LeaseGive end) from = (refl, refl)
  node_letter (Body.Prepare ballot) from = (refl, refl)
  node_letter (Body.Promise ballot vote) from = (refl, refl)
  node_letter (Body.Accept ballot view) from = (refl, refl)
  node_letter (Body.Accepted ballot) from = (refl, refl)
  node_letter (Body.Chosen view) from = (refl, refl)
  node_letter (Body.Activate view) from = (refl, refl)

  manager_letter : (body : Body) (epoch from : ℕ) → Same (Steps.from_manager body m epoch from)
  manager_letter (Body.Prepare ballot) epoch from = either (Steps.is_too_late ballot) (Steps.idle m) (Steps.prepares m epoch ballot) (refl, refl) (refl, refl)
  manager_letter (Body.Promise ballot vote) epoch from = promised (Steps.proposal_in m.proposal epoch) from (record { ballot = ballot; accepted = vote })
  manager_letter (Body.Accept ballot view) epoch from = either (Steps.is_too_late ballot) (Steps.idle m) (Steps.accepts m epoch ballot view) (refl, refl) (refl, refl)
  manager_letter (Body.Accepted ballot) epoch from = accepted (Steps.proposal_in m.proposal epoch) from ballot
  manager_letter (Body.Chosen view) epoch from = learned m view _ (refl, refl)
  manager_letter (Body.Inv key stamp kind content) epoch from = (refl, refl)
  manager_letter (Body.Ack key stamp top) epoch from = (refl, refl)
  manager_letter (Body.Val key stamp) epoch from = (refl, refl)
  manager_letter (Body.CopyAsk behind room) epoch from = (refl, refl)
  manager_letter (Body.CopyGive behind done items) epoch from = (refl, refl)
  manager_letter (Body.LeaseAsk asked) epoch from = (refl, refl)
  manager_letter (Body.LeaseGive end) epoch from = (refl, refl)
  manager_letter (Body.Activate view) epoch from = (refl, refl)

  letter_of : (from : Actor) (letter : Letter) → Same (Steps.receives_from from m letter)
  letter_of (Node from) letter = node_letter letter.body from
  letter_of (Manager from) letter = either (nat_lt from m.managers) (Steps.from_manager letter.body m letter.epoch from) (Steps.idle m) (manager_letter letter.body letter.epoch from) (refl, refl)

  begun : (fault : Option ManagerFault) (change : Change) → OfStep Same (Steps.begins_unless fault m change)
  begun (Some fault) change = tt
  begun None change = either _ (Steps.idle m) _ (refl, refl) (refl, refl)

  proposed : (b : Bool) (base : ℕ) (change : Change) → OfStep Same (cond b (Steps.begins_unless (change_fault m.held change) m change) (Err (Behind m.held.epoch)))
  proposed true base change = begun (change_fault m.held change) change
  proposed false base change = tt

  activated : (past : Result Unit StillRuns) → OfStep Same (Steps.activates_by past m)
  activated (Ok done) = (refl, refl)
  activated (Err running) = tt

  stays : (event : ManagerEvent) → OfStep Same (Steps.manager_step m event)
  stays (Propose base change) = proposed (m.held.epoch == base) base change
  stays (Receive letter) = either (Steps.is_addressed m letter.to && nat_le letter.epoch MAX_EPOCH) (Steps.receives_from letter.from m letter) (Steps.idle m) (letter_of letter.from letter) (refl, refl)
  stays Activate = activated (past_answer m.untils m.held m.clock)
  stays (Tick now) = (refl, refl)

  -- a manager's number stays, and so does the length of its leases
  pub number_stays : (event : ManagerEvent) → OfStep (λ t. t.manager.id ≡ m.id) (Steps.manager_step m event)
  number_stays event = first_of (λ t. t.manager.id ≡ m.id) (λ t. t.manager.lease ≡ m.lease) (Steps.manager_step m event) (stays event)

  pub lease_stays : (event : ManagerEvent) → OfStep (λ t. t.manager.lease ≡ m.lease) (Steps.manager_step m event)
  lease_stays event = second_of (λ t. t.manager.id ≡ m.id) (λ t. t.manager.lease ≡ m.lease) (Steps.manager_step m event) (stays event)
