-- A lease is granted to members of the view alone that the manager holds.
use Rattle.std.proofs.Common.{◌≡◌, ◌+◌, ◌&&◌, ◌||◌, ◌==◌, not, ℕ, List, [], ◌∷◌, ◌++◌, take, map, Bool, true, false, cond, nat_lt, nat_le, min, Option, Some, None, Result, Ok, Err, refl, sym, ap, subst, ◌∙◌, inl, inr, append_assoc}
use Rattle.std.specs.List.{filter, range_with_len}
use Rattle.std.specs.Option.{option_map}
use Rattle.hk_base.specs.declared.stamp.NodeId.{NodeId}
use Rattle.hk_base.specs.declared.time.TheConstants.{MAX_TIME}
use Rattle.hk_base.specs.declared.view.View.{View}
use Rattle.hk_base.specs.declared.view.Change.{Change}
use Rattle.hk_base.specs.declared.view.Ballot.{Ballot}
use Rattle.hk_base.specs.declared.letter.Actor.{Actor}
use Rattle.hk_base.specs.declared.letter.Actor.TheVariants.{Node, Manager}
use Rattle.hk_base.specs.declared.letter.Letter.{Letter}
use Rattle.hk_base.specs.declared.letter.Body.{Body}
use Rattle.hk_base.specs.View.{is_member}
use Rattle.hk_paxos.specs.declared.proposer.Proposer.{Proposer}
use Rattle.hk_paxos.specs.Paxos.{acceptor_on_prepare, acceptor_on_accept, proposer_new, proposer_on_promise, proposer_on_accepted}
use Rattle.hk_paxos.specs.Run.{In}
use Rattle.hk_lease.specs.declared.grants.NotPast.{NotPast as StillRuns}
use Rattle.hk_lease.specs.Grants.{with_grant}
use Rattle.hk_lease.specs.Past.{past_answer}
use Rattle.hk_lease.specs.Wait.{wait}
use Rattle.hk_manager.specs.declared.instance.TheConstants.{MAX_EPOCH, MAX_ROUND}
use Rattle.hk_manager.specs.declared.event.ManagerEvent.{ManagerEvent}
use Rattle.hk_manager.specs.declared.event.ManagerEvent.TheVariants.{Propose, Receive, Activate, Tick}
use Rattle.hk_manager.specs.declared.fault.ManagerFault.{ManagerFault}
use Rattle.hk_manager.specs.declared.fault.ManagerFault.TheVariants.{Behind}
use Rattle.hk_manager.specs.Manager.{ManagerState, instance_at, with_instance}
use Rattle.hk_manager.specs.Changes.{changed, change_fault}
use Rattle.hk_manager.specs.Sends.{letter_to, to_all, to_others, told_all}
use Rattle.hk_manager.specs.Steps.{ManagerStepped, sends, idle, learns, promise_body, prepares, accepts, counts_promise, counts_acceptance, reports, proposal_in, at_proposal, asks_lease, is_too_late, from_node, from_manager, is_addressed, receives_from, begins, begins_unless, activates_by, manager_step}
use Rattle.hk_return.specs.Log.{letters_or, after, steps_of, logged, log_of, Process, last_process, start, IsSaidIn, GrantsAreCovered}
use Rattle.hk_return.proofs.Replaying.{logged_more, steps_more, logs_are_replayed}
use Rattle.hk_return.proofs.Noting.{untils_are_noted_anew}

-- a letter that grants the node a lease
pub record Grants (letter : Letter) (node : NodeId) : Type 0 where
  pub to : letter.to ≡ Node node
  pub end : ℕ
  pub body : letter.body ≡ Body.LeaseGive end

-- none of the letters grants a lease, or each does to members of the view alone
abbrev GrantNone : List Letter → Type 0
GrantNone letters = (letter : Letter) (node : NodeId) → In letters letter → Grants letter node → ⊥

abbrev GrantMembers : ManagerState → List Letter → Type 0
GrantMembers m letters = (letter : Letter) (node : NodeId) → In letters letter → Grants letter node → is_member node m.held.members ≡ true

-- letters to managers, and ACTIVATEs
to_managers : (n : ManagerState) (epoch : ℕ) (body : Body) (ks : List ℕ) → GrantNone (map (λ k. letter_to n epoch body (Manager k)) ks)
to_managers n epoch body [] letter node i g = absurd i
to_managers n epoch body (k ∷ ks) letter node (inl e) g = let h : Manager k ≡ Node node = ap (λ (l : Letter). l.to) (sym e) ∙ g.to in absurd cc
to_managers n epoch body (k ∷ ks) letter node (inr i) g = to_managers n epoch body ks letter node i g

activates_none : (n : ManagerState) (epoch : ℕ) (view : View) (nodes : List NodeId) → GrantNone (map (λ member. letter_to n epoch (Body.Activate view) (Node member)) nodes)
activates_none n epoch view [] letter node i g = absurd i
activates_none n epoch view (k ∷ nodes) letter node (inl e) g = let h : Body.Activate view ≡ Body.LeaseGive g.end = ap (λ (l : Letter). l.body) (sym e) ∙ g.body in absurd cc
activates_none n epoch view (k ∷ nodes) letter node (inr i) g = activates_none n epoch view nodes letter node i g

told_none : (n : ManagerState) (epoch : ℕ) (body : Option Body) → GrantNone (told_all n epoch body)
told_none n epoch None letter node i g = absurd i
told_none n epoch (Some body) letter node i g = to_managers n epoch body (range_with_len 0 n.managers) letter node i g

nothing : GrantNone []
nothing letter node i g = absurd i

either_none : (b : Bool) (x y : ManagerStepped) → GrantNone x.letters → GrantNone y.letters → GrantNone (cond b x y).letters
either_none true x y p q = p
either_none false x y p q = q

learns_none : (m : ManagerState) (view : View) (letters : List Letter) → GrantNone letters → GrantNone (learns m view letters).letters
learns_none m view letters h = either_none (nat_lt m.held.epoch view.epoch) (record { manager = record m { held = view }; letters = letters; chosen = Some view.epoch }) (sends m letters) h h

reports_none : (m : ManagerState) (o : Option View) → GrantNone (reports m o).letters
reports_none m None = nothing
reports_none m (Some view) = learns_none m view (to_others m view.epoch (Body.Chosen view)) (to_managers m view.epoch (Body.Chosen view) (filter (λ to. not (to == m.id)) (range_with_len 0 m.managers)))

at_none : (o : Option Proposer) (m : ManagerState) (step : Proposer → ManagerStepped) → ((p : Proposer) → GrantNone (step p).letters) → GrantNone (at_proposal o m step).letters
at_none None m step each = nothing
at_none (Some p) m step each = each p

manager_none : (body : Body) (m : ManagerState) (epoch from : ℕ) → GrantNone (from_manager body m epoch from).letters
manager_none (Body.Prepare ballot) m epoch from = either_none (is_too_late ballot) (idle m) (prepares m epoch ballot) nothing (told_none m epoch (option_map promise_body (acceptor_on_prepare (instance_at epoch m.instances).acceptor ballot).answer))
manager_none (Body.Promise ballot vote) m epoch from = at_none (proposal_in m.proposal epoch) m (λ p. counts_promise p m from (record { ballot = ballot; accepted = vote }))
    (λ p. told_none m p.epoch (option_map (λ view. Body.Accept p.ballot view) (proposer_on_promise p from (record { ballot = ballot; accepted = vote })).answer))
manager_none (Body.Accept ballot view) m epoch from = either_none (is_too_late ballot) (idle m) (accepts m epoch ballot view) nothing (told_none m epoch (option_map (λ at. Body.Accepted at) (acceptor_on_accept (instance_at epoch m.instances).acceptor ballot view).answer))
manager_none (Body.Accepted ballot) m epoch from = at_none (proposal_in m.proposal epoch) m (λ p. counts_acceptance p m from ballot) (λ p. reports_none (record m { proposal = Some (proposer_on_accepted p from ballot).after }) (proposer_on_accepted p from ballot).answer)
manager_none (Body.Chosen view) m epoch from = learns_none m view [] nothing
manager_none (Body.Inv k s kind content) m epoch from = nothing
manager_none (Body.Ack k s top) m epoch from = nothing
manager_none (Body.Val k s) m epoch from = nothing
manager_none (Body.CopyAsk after room) m epoch from = nothing
manager_none (Body.CopyGive after done items) m epoch from = nothing
manager_none (Body.LeaseAsk asked) m epoch from = nothing
manager_none (Body.LeaseGive end) m epoch from = nothing
manager_none (Body.Activate view) m epoch from = nothing

members_of : (m : ManagerState) (letters : List Letter) → GrantNone letters → GrantMembers m letters
members_of m letters none letter node i g = absurd (none letter node i g)

-- a grant goes to a member
grants_members : (m : ManagerState) (from : NodeId) (asked : ℕ) → GrantMembers m (asks_lease m from asked).letters
grants_members m from asked = by_place (is_member from m.held.members) refl
  where
    end : ℕ
    end = min (asked + m.lease) MAX_TIME

    given : ManagerStepped
    given = sends (record m { untils = with_grant m.untils from (m.clock + wait m.lease) }) (letter_to m m.held.epoch (Body.LeaseGive end) (Node from) ∷ [])

    by_place : (b : Bool) → is_member from m.held.members ≡ b → GrantMembers m (cond b given (idle m)).letters
    by_place true is letter node (inl e) g = let h : Node from ≡ Node node = ap (λ (l : Letter). l.to) (sym e) ∙ g.to in let s : from ≡ node = cc in subst (λ (n : NodeId). is_member n m.held.members ≡ true) s is
    by_place true is letter node (inr i) g = absurd i
    by_place false is letter node i g = absurd i

node_members : (body : Body) (m : ManagerState) (n : NodeId) → GrantMembers m (from_node body m n).letters
node_members (Body.LeaseAsk asked) m n = grants_members m n asked
node_members (Body.Inv k s kind content) m n = members_of m [] nothing
node_members (Body.Ack k s top) m n = members_of m [] nothing
node_members (Body.Val k s) m n = members_of m [] nothing
node_members (Body.CopyAsk after room) m n = members_of m [] nothing
node_members (Body.CopyGive after done items) m n = members_of m [] nothing
node_members (Body.LeaseGive end) m n = members_of m [] nothing
node_members (Body.Prepare ballot) m n = members_of m [] nothing
node_members (Body.Promise ballot vote) m n = members_of m [] nothing
node_members (Body.Accept ballot view) m n = members_of m [] nothing
node_members (Body.Accepted ballot) m n = members_of m [] nothing
node_members (Body.Chosen view) m n = members_of m [] nothing
node_members (Body.Activate view) m n = members_of m [] nothing

either_members : (m : ManagerState) (b : Bool) (x y : ManagerStepped) → GrantMembers m x.letters → GrantMembers m y.letters → GrantMembers m (cond b x y).letters
either_members m true x y p q = p
either_members m false x y p q = q

sender_members : (a : Actor) (m : ManagerState) (l : Letter) → GrantMembers m (receives_from a m l).letters
sender_members (Node n) m l = node_members l.body m n
sender_members (Manager k) m l = members_of m (receives_from (Manager k) m l).letters (either_none (nat_lt k m.managers) (from_manager l.body m l.epoch k) (idle m) (manager_none l.body m l.epoch k) nothing)

begins_none : (m : ManagerState) (change : Change) → GrantNone (begins m change).letters
begins_none m change = either_none (nat_lt MAX_EPOCH (m.held.epoch + 1) || nat_lt MAX_ROUND ((instance_at (m.held.epoch + 1) m.instances).round + 1)) (idle m) begun nothing
    (to_managers m (m.held.epoch + 1) (Body.Prepare ballot) (range_with_len 0 m.managers))
  where
    ballot : Ballot
    ballot = record { round = (instance_at (m.held.epoch + 1) m.instances).round + 1; manager = m.id }

    begun : ManagerStepped
    begun = sends (record (with_instance m (m.held.epoch + 1) (record (instance_at (m.held.epoch + 1) m.instances) { round = ballot.round })) { proposal = Some (proposer_new (m.held.epoch + 1) ballot (changed m.held change) m.managers) })
        (to_all m (m.held.epoch + 1) (Body.Prepare ballot))

begun_none : (o : Option ManagerFault) (m : ManagerState) (change : Change) → GrantNone (letters_or (begins_unless o m change))
begun_none None m change = begins_none m change
begun_none (Some fault) m change = nothing

proposed_none : (b : Bool) (m : ManagerState) (change : Change) → GrantNone (letters_or (cond b (begins_unless (change_fault m.held change) m change) (Err (Behind m.held.epoch))))
proposed_none true m change = begun_none (change_fault m.held change) m change
proposed_none false m change = nothing

activated_none : (r : Result Unit StillRuns) (m : ManagerState) → GrantNone (letters_or (activates_by r m))
activated_none (Ok u) m = activates_none m m.held.epoch m.held m.held.members
activated_none (Err running) m = nothing

step_members : (m : ManagerState) (event : ManagerEvent) → GrantMembers m (letters_or (manager_step m event))
step_members m (Propose base change) = members_of m (letters_or (manager_step m (Propose base change))) (proposed_none (m.held.epoch == base) m change)
step_members m (Receive l) = either_members m (is_addressed m l.to && nat_le l.epoch MAX_EPOCH) (receives_from l.from m l) (idle m) (sender_members l.from m l) (members_of m [] nothing)
step_members m Activate = members_of m (letters_or (manager_step m Activate)) (activated_none (past_answer m.untils m.held m.clock) m)
step_members m (Tick now) = members_of m [] nothing

-- a letter of a grant that went out is to a member of a view that the manager came to hold by its log
granted_by_log : (first : ManagerState) (steps : List ManagerEvent) (letter : Letter) (node : NodeId) → Grants letter node → (h : IsSaidIn first steps letter) → is_member node (after first (logged h.before)).held.members ≡ true
granted_by_log first steps letter node g h =
    let said : In (letters_or (manager_step h.manager h.step)) letter = subst (λ (r : Result ManagerStepped ManagerFault). In (letters_or r) letter) (sym h.made) h.said in
    subst (λ (m : ManagerState). is_member node m.held.members ≡ true) h.then (step_members h.manager h.step letter node said g)

pub grants_are_covered : GrantsAreCovered
grants_are_covered first events run letter said node end to body left =
    let p : Process = last_process first (start first) events in
    let h = (logs_are_replayed first events run).stays letter said in
    let later : List ManagerEvent = logged (h.step ∷ h.later) ++ log_of (take left p.unsynced) in
    let front : log_of (p.synced ++ take left p.unsynced) ≡ logged h.before ++ later =
    ap logged (steps_more p.synced (take left p.unsynced)) ∙ logged_more (steps_of p.synced) (steps_of (take left p.unsynced))
    ∙ ap (λ (xs : List ManagerEvent). xs ++ log_of (take left p.unsynced)) (ap logged h.stands ∙ logged_more h.before (h.step ∷ h.later))
    ∙ append_assoc (logged h.before) (logged (h.step ∷ h.later)) (log_of (take left p.unsynced)) in
    (untils_are_noted_anew first (steps_of (p.synced ++ take left p.unsynced))).noted (logged h.before) later node front (granted_by_log first (steps_of p.synced) letter node (record { to = to; end = end; body = body }) h)
