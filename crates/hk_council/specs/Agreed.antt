-- On what the managers agree.
use Rattle.std.specs.Prelude.{◌≡◌, ◌≢◌, ◌<◌, ◌≤◌, ◌+◌, ⊤, ℕ, slice_get, List, Some, None}
use Rattle.hk_base.specs.declared.view.View.{View}
use Rattle.hk_base.specs.declared.view.Voted.{Voted}
use Rattle.hk_base.specs.declared.letter.Actor.TheVariants.{Manager}
use Rattle.hk_base.specs.declared.letter.Body.{Body}
use Rattle.hk_base.specs.declared.letter.Body.TheVariants.{Prepare, Promise, Accept, Accepted, Chosen, Activate}
use Rattle.hk_base.specs.declared.letter.Letter.{Letter}
use Rattle.hk_paxos.specs.declared.proposer.Proposer.{Proposer}
use Rattle.hk_paxos.specs.Run.{PaxosLetter, PaxosEvent, In, IsPaxosRun, last_state, IsChosen, paxos_start}
use Rattle.hk_paxos.specs.Run.PaxosLetter.{PrepareLetter, PromiseLetter, AcceptLetter, AcceptedLetter, ChosenLetter}
use Rattle.hk_manager.specs.Manager.{instance_at}
use Rattle.hk_council.specs.Chain.{IsChain, Follows}
use Rattle.hk_council.specs.Council.{Council, Event, next, IsRun, last_council, start}

-- the manager sent a letter of this epoch with this body
pub record HasSaid (c : Council) (epoch manager : ℕ) (body : Body) : Type 0 where
  pub letter : Letter
  pub ever : In c.sent letter
  pub of_epoch : letter.epoch ≡ epoch
  pub sender : letter.from ≡ Manager manager
  pub says : letter.body ≡ body

-- the view is in the letter of Paxos
abbrev pub Tells : Body → View → Type 0
Tells (Promise ballot None) view = ⊥
Tells (Promise ballot (Some voted)) view = voted.view ≡ view
Tells (Accept ballot proposed) view = proposed ≡ view
Tells (Chosen chosen) view = chosen ≡ view
Tells body view = ⊥

-- a manager's letter is one of these letters of Paxos, if it is one of Paxos; of an acceptance the view stands there too
abbrev pub IsOneOf : List PaxosLetter → ℕ → Body → Type 0
IsOneOf letters m (Prepare ballot) = In letters (PrepareLetter ballot)
IsOneOf letters m (Promise ballot accepted) = In letters (PromiseLetter m (record { ballot = ballot; accepted = accepted }))
IsOneOf letters m (Accept ballot view) = In letters (AcceptLetter ballot view)
IsOneOf letters m (Accepted ballot) = (view : View) × In letters (AcceptedLetter m (record { ballot = ballot; view = view }))
IsOneOf letters m (Chosen view) = In letters (ChosenLetter view)
IsOneOf letters m body = ⊤

-- And a letter of Paxos is one that a manager sent in this epoch: a promise and an acceptance that of the very acceptor. A report of a
-- chosen view stands for itself, since it goes to the other managers alone, if there are any.
abbrev pub IsOfManagers : Council → ℕ → PaxosLetter → Type 0
IsOfManagers c epoch (PrepareLetter ballot) = HasSaid c epoch ballot.manager (Prepare ballot)
IsOfManagers c epoch (PromiseLetter m promise) = HasSaid c epoch m (Promise promise.ballot promise.accepted)
IsOfManagers c epoch (AcceptLetter ballot view) = (m : ℕ) × HasSaid c epoch m (Accept ballot view)
IsOfManagers c epoch (AcceptedLetter m voted) = HasSaid c epoch m (Accepted voted.ballot)
IsOfManagers c epoch (ChosenLetter view) = ⊤

-- In the instance of an epoch the managers make a run of Paxos: there is one that sends the letters of that epoch and no others, in
-- which each manager has the acceptor that it has, and the proposal too, where its latest one is of that instance. Each view that was
-- accepted in it, by however few, is a change of the learned view of the epoch before; and the learned view of its own epoch is chosen
-- in it, but for the first view, on which nobody had to agree. So a majority of the managers sent the acceptances by which it is chosen.
pub record HasPaxosRun (managers : ℕ) (c : Council) (epoch : ℕ) : Type 0 where
  pub events : List PaxosEvent
  pub run : IsPaxosRun epoch managers paxos_start events
  pub letters : (m : ℕ) (body : Body) → HasSaid c epoch m body → IsOneOf (last_state epoch managers paxos_start events).sent m body
  pub sent : (letter : PaxosLetter) → In (last_state epoch managers paxos_start events).sent letter → IsOfManagers c epoch letter
  pub acceptors : (m : ℕ) → m < managers → (last_state epoch managers paxos_start events).acceptor m ≡ (instance_at epoch (c.manager m).instances).acceptor
  pub proposals : (m : ℕ) (proposal : Proposer) → m < managers → (c.manager m).proposal ≡ Some proposal → proposal.epoch ≡ epoch → (last_state epoch managers paxos_start events).proposer m ≡ Some proposal
  pub votes : (m : ℕ) (voted : Voted) → In (last_state epoch managers paxos_start events).sent (AcceptedLetter m voted) → Follows c.learned epoch voted.view
  pub agreed : (view : View) → In c.learned view → view.epoch ≡ epoch → epoch ≢ 1 → IsChosen managers (last_state epoch managers paxos_start events) view

module _ (managers : ℕ) where
  pub record IsAgreed (c : Council) : Type 0 where
    -- the views that were learned are the first one and then one change after the other
    pub chain : IsChain c.learned
    -- with no epoch left out, and one view for each
    pub epochs : (k : ℕ) (view : View) → slice_get c.learned k ≡ Some view → view.epoch ≡ k + 1
    pub one : (v w : View) → In c.learned v → In c.learned w → v.epoch ≡ w.epoch → v ≡ w
    -- a view that a manager holds is the learned one of its epoch
    pub held : (m : ℕ) → m < managers → In c.learned (c.manager m).held
    -- and so is one that it reports as chosen
    pub chosen : (m epoch : ℕ) (view : View) → HasSaid c epoch m (Chosen view) → In c.learned view × (view.epoch ≡ epoch)
    -- and one that it lets begin, which it held then: what it holds is not older
    pub begun : (m epoch : ℕ) (view : View) → HasSaid c epoch m (Activate view) → In c.learned view × (view.epoch ≡ epoch) × (view.epoch ≤ (c.manager m).held.epoch)
    -- Validity: each view in a letter of Paxos is a change of the learned view of the epoch before.
    pub valid : (m epoch : ℕ) (body : Body) (view : View) → HasSaid c epoch m body → Tells body view → Follows c.learned epoch view
    pub instances : (epoch : ℕ) → HasPaxosRun managers c epoch

-- AGREEMENT: so it is at the end of every run, and so at each moment.
abbrev pub Agreement : Type 0
Agreement = (managers lease : ℕ) (first : View) (events : List Event) → first.epoch ≡ 1 → IsRun managers (start managers lease first) events →
    IsAgreed managers (last_council (start managers lease first) events)

-- whatever happens, no manager holds a view of a lower epoch than before
abbrev pub HeldRises : Type 0
HeldRises = (c : Council) (event : Event) (m : ℕ) → (c.manager m).held.epoch ≤ ((next c event).manager m).held.epoch
