-- The step of a manager for each event.
use Rattle.std.specs.Prelude.{ℕ, ◌+◌, List, [], ◌∷◌, max, min, Bool, false, Option, Some, None, Result, Ok, Err, nat_lt, nat_le, ◌&&◌, ◌||◌, ◌==◌, if◌then◌else◌}
use Rattle.std.specs.Option.{option_map}
use Rattle.hk_base.specs.declared.stamp.NodeId.{NodeId}
use Rattle.hk_base.specs.declared.time.TheConstants.{MAX_TIME}
use Rattle.hk_base.specs.declared.view.View.{View}
use Rattle.hk_base.specs.declared.view.Change.{Change}
use Rattle.hk_base.specs.declared.view.Ballot.{Ballot}
use Rattle.hk_base.specs.declared.letter.Actor.{Actor}
use Rattle.hk_base.specs.declared.letter.Actor.TheVariants.{Node, Manager}
use Rattle.hk_base.specs.declared.letter.Letter.{Letter}
use Rattle.hk_base.specs.declared.letter.Body.{Body}
use Rattle.hk_base.specs.declared.letter.Body.TheVariants as Body
use Rattle.hk_paxos.specs.declared.acceptor.Promise.{Promise}
use Rattle.hk_paxos.specs.declared.proposer.Proposer.{Proposer}
use Rattle.hk_paxos.specs.Paxos.{acceptor_on_prepare, acceptor_on_accept, proposer_new, proposer_on_promise, proposer_on_accepted}
use Rattle.hk_lease.specs.declared.grants.NotPast.{NotPast as StillRuns}
use Rattle.hk_lease.specs.Grants.{with_grant}
use Rattle.hk_lease.specs.Past.{past_answer}
use Rattle.hk_base.specs.View.{is_member}
use Rattle.hk_lease.specs.Wait.{wait}
use Rattle.hk_manager.specs.declared.event.ManagerEvent.{ManagerEvent}
use Rattle.hk_manager.specs.declared.event.ManagerEvent.TheVariants.{Propose, Receive, Activate, Tick}
use Rattle.hk_manager.specs.declared.fault.ManagerFault.{ManagerFault}
use Rattle.hk_manager.specs.declared.fault.ManagerFault.TheVariants.{Behind, NotPast}
use Rattle.hk_manager.specs.declared.instance.TheConstants.{MAX_EPOCH, MAX_ROUND}
use Rattle.hk_manager.specs.Manager.{ManagerState, instance_at, with_instance}
use Rattle.hk_manager.specs.Changes.{changed, change_fault}
use Rattle.hk_manager.specs.Sends.{letter_to, to_all, to_others, to_members, told_all}

-- What a step makes: the manager after it, the letters, and the epoch of the view that it holds from then on, where that is
-- another view than before.
pub record ManagerStepped : Type 0 where
  pub manager : ManagerState
  pub letters : List Letter
  pub chosen : Option ℕ

abbrev pub sends : ManagerState → List Letter → ManagerStepped
sends m letters = record { manager = m; letters = letters; chosen = None }

-- nothing happens
abbrev pub idle : ManagerState → ManagerStepped
idle m = sends m []

-- ---- views that are learned
-- it holds the view of the greatest epoch
abbrev pub learns : ManagerState → View → List Letter → ManagerStepped
learns m view letters =
    if nat_lt m.held.epoch view.epoch then record { manager = record m { held = view }; letters = letters; chosen = Some view.epoch }
    else sends m letters

-- ---- as an acceptor
abbrev pub promise_body : Promise → Body
promise_body promise = Body.Promise promise.ballot promise.accepted

-- a Prepare: what the acceptor promises, it tells every manager
abbrev pub prepares : ManagerState → ℕ → Ballot → ManagerStepped
prepares m epoch ballot =
    let instance = instance_at epoch m.instances in
    let step = acceptor_on_prepare instance.acceptor ballot in
    sends (with_instance m epoch (record { acceptor = step.after; round = max instance.round ballot.round })) (told_all m epoch (option_map promise_body step.answer))

-- an Accept: that the acceptor accepted, it tells every manager
abbrev pub accepts : ManagerState → ℕ → Ballot → View → ManagerStepped
accepts m epoch ballot view =
    let instance = instance_at epoch m.instances in
    let step = acceptor_on_accept instance.acceptor ballot view in
    sends (with_instance m epoch (record { acceptor = step.after; round = max instance.round ballot.round })) (told_all m epoch (option_map (λ at. Body.Accepted at) step.answer))

-- ---- as a proposer
-- a Promise, at the latest proposal: with a majority it proposes to every manager
abbrev pub counts_promise : Proposer → ManagerState → ℕ → Promise → ManagerStepped
counts_promise proposer m from promise =
    let step = proposer_on_promise proposer from promise in
    sends (record m { proposal = Some step.after }) (told_all m proposer.epoch (option_map (λ view. Body.Accept proposer.ballot view) step.answer))

-- a view that is chosen it holds, and reports to the others, also where it learned that view before
abbrev pub reports : ManagerState → Option View → ManagerStepped
reports m None = idle m
reports m (Some view) = learns m view (to_others m view.epoch (Body.Chosen view))

-- an Accepted, at the latest proposal
abbrev pub counts_acceptance : Proposer → ManagerState → ℕ → Ballot → ManagerStepped
counts_acceptance proposer m from ballot =
    let step = proposer_on_accepted proposer from ballot in
    reports (record m { proposal = Some step.after }) step.answer

-- only the latest proposal counts answers, and only those of its instance
abbrev pub proposal_in : Option Proposer → ℕ → Option Proposer
proposal_in None epoch = None
proposal_in (Some proposer) epoch = if proposer.epoch == epoch then Some proposer else None

abbrev pub at_proposal : Option Proposer → ManagerState → (Proposer → ManagerStepped) → ManagerStepped
at_proposal None m step = idle m
at_proposal (Some proposer) m step = step proposer

-- ---- leases
-- A member of the view that it holds gets a lease, whose end is on the asker's clock. The until that it notes is on its own.
abbrev pub asks_lease : ManagerState → NodeId → ℕ → ManagerStepped
asks_lease m from asked =
    if is_member from m.held.members
    then sends (record m { untils = with_grant m.untils from (m.clock + wait m.lease) }) (letter_to m m.held.epoch (Body.LeaseGive (min (asked + m.lease) MAX_TIME)) (Node from) ∷ [])
    else idle m

-- ---- letters
abbrev pub is_too_late : Ballot → Bool
is_too_late ballot = nat_lt MAX_ROUND ballot.round

abbrev pub from_node : Body → ManagerState → NodeId → ManagerStepped
from_node (Body.LeaseAsk asked) m from = asks_lease m from asked
from_node body m from = idle m

-- a Prepare or an Accept at a round above the greatest is dropped
abbrev pub from_manager : Body → ManagerState → ℕ → ℕ → ManagerStepped
from_manager (Body.Prepare ballot) m epoch from = if is_too_late ballot then idle m else prepares m epoch ballot
from_manager (Body.Promise ballot vote) m epoch from = at_proposal (proposal_in m.proposal epoch) m (λ proposer. counts_promise proposer m from (record { ballot = ballot; accepted = vote }))
from_manager (Body.Accept ballot view) m epoch from = if is_too_late ballot then idle m else accepts m epoch ballot view
from_manager (Body.Accepted ballot) m epoch from = at_proposal (proposal_in m.proposal epoch) m (λ proposer. counts_acceptance proposer m from ballot)
from_manager (Body.Chosen view) m epoch from = learns m view []
from_manager body m epoch from = idle m

abbrev pub is_addressed : ManagerState → Actor → Bool
is_addressed m (Node to) = false
is_addressed m (Manager to) = to == m.id

-- there is no such manager, or the letter is for its kind of sender
abbrev pub receives_from : Actor → ManagerState → Letter → ManagerStepped
receives_from (Node from) m letter = from_node letter.body m from
receives_from (Manager from) m letter = if nat_lt from m.managers then from_manager letter.body m letter.epoch from else idle m

-- A letter is taken where it is addressed to the manager, its epoch is not above the greatest, and its sender is a node or one
-- of the managers. Every other, and every one that a manager takes from no such sender, is dropped.
abbrev pub receives : ManagerState → Letter → ManagerStepped
receives m letter = if is_addressed m letter.to && nat_le letter.epoch MAX_EPOCH then receives_from letter.from m letter else idle m

-- ---- proposals
-- A round above all that it used itself or saw in the instance. Where the epoch or the round would be above the greatest, nothing
-- happens.
abbrev pub begins : ManagerState → Change → ManagerStepped
begins m change =
    let epoch = m.held.epoch + 1 in
    let instance = instance_at epoch m.instances in
    let ballot : Ballot = record { round = instance.round + 1; manager = m.id } in
    if nat_lt MAX_EPOCH epoch || nat_lt MAX_ROUND ballot.round then idle m
    else sends (record (with_instance m epoch (record instance { round = ballot.round })) { proposal = Some (proposer_new epoch ballot (changed m.held change) m.managers) })
    (to_all m epoch (Body.Prepare ballot))

abbrev pub begins_unless : Option ManagerFault → ManagerState → Change → Result ManagerStepped ManagerFault
begins_unless (Some fault) m change = Err fault
begins_unless None m change = Ok (begins m change)

abbrev pub proposes : ManagerState → ℕ → Change → Result ManagerStepped ManagerFault
proposes m base change = if m.held.epoch == base then begins_unless (change_fault m.held change) m change else Err (Behind m.held.epoch)

-- ---- views that begin
abbrev pub activates_by : Result Unit StillRuns → ManagerState → Result ManagerStepped ManagerFault
activates_by (Ok _) m = Ok (sends m (to_members m m.held.epoch (Body.Activate m.held)))
activates_by (Err running) m = Err (NotPast running.node running.end)

-- its clock must be past every until that it noted for a node outside the view that it holds
abbrev pub activates : ManagerState → Result ManagerStepped ManagerFault
activates m = activates_by (past_answer m.untils m.held m.clock) m

-- a clock only rises
abbrev pub manager_ticks : ManagerState → ℕ → ManagerStepped
manager_ticks m now = idle (record m { clock = max m.clock now })

abbrev pub manager_step : ManagerState → ManagerEvent → Result ManagerStepped ManagerFault
manager_step m (Propose base change) = proposes m base change
manager_step m (Receive letter) = Ok (receives m letter)
manager_step m Activate = activates m
manager_step m (Tick now) = Ok (manager_ticks m now)
