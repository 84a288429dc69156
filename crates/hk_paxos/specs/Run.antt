-- Runs of one instance, and when a view is chosen.
use Rattle.std.specs.Prelude.{◌≡◌, ◌⊎◌, ◌<◌, ℕ, ◌*◌, List, [], ◌∷◌, ◌++◌, length, Option, None, Some, Bool, true, false, nat_eq, ◌==◌, if◌then◌else◌, ⊤}
use Rattle.std.specs.List.{IsDistinct}
use Rattle.std.specs.Option.{option_map, option_to_list}
use Rattle.hk_base.specs.declared.view.Ballot.{Ballot}
use Rattle.hk_base.specs.declared.view.View.{View}
use Rattle.hk_base.specs.declared.view.Voted.{Voted}
use Rattle.hk_paxos.specs.declared.acceptor.Promise.{Promise}
use Rattle.hk_paxos.specs.declared.acceptor.Acceptor.{Acceptor}
use Rattle.hk_paxos.specs.declared.proposer.Proposer.{Proposer}
use Rattle.hk_paxos.specs.Paxos.{Step, acceptor_new, acceptor_on_prepare, acceptor_on_accept, proposer_new, proposer_on_promise, proposer_on_accepted}

-- The letters of Paxos, named as the messages of its TLA+: 1a, 1b, 2a and 2b. An acceptance is told by its ballot
-- alone; here the view that was accepted stands with it. `ChosenLetter` is the proposer's report of a chosen view.
pub data PaxosLetter : Type 0 where
  PrepareLetter : (ballot : Ballot) → PaxosLetter
  PromiseLetter : (from : ℕ) → (promise : Promise) → PaxosLetter
  AcceptLetter : (ballot : Ballot) → (view : View) → PaxosLetter
  AcceptedLetter : (from : ℕ) → (voted : Voted) → PaxosLetter
  ChosenLetter : (view : View) → PaxosLetter

-- The managers, and every letter ever sent. A letter is never taken away: one that is lost is one that is not
-- delivered, and one that is delivered may be delivered again.
pub record PaxosState : Type 0 where
  pub acceptor : ℕ → Acceptor
  pub proposer : ℕ → Option Proposer
  pub stopped : ℕ → Bool
  pub sent : List PaxosLetter

-- A manager proposes a view at a round, is delivered a letter, or stops for good.
pub data PaxosEvent : Type 0 where
  Propose : (manager round : ℕ) → (view : View) → PaxosEvent
  Deliver : (manager : ℕ) → (letter : PaxosLetter) → PaxosEvent
  Stop : (manager : ℕ) → PaxosEvent

-- it stands in the list
abbrev pub In : {X : Type 0} → List X → X → Type 0
In [] x = ⊥
In (y ∷ ys) x = (x ≡ y) ⊎ In ys x

-- the function with another value at one place
abbrev pub put : {X : Type 0} → ℕ → X → (ℕ → X) → ℕ → X
put m x f n = if n == m then x else f n

-- what a letter makes of the manager's acceptor, and what it sends
abbrev pub with_acceptor : {Answer : Type 0} → PaxosState → ℕ → Step Acceptor Answer → (Answer → PaxosLetter) → PaxosState
with_acceptor st m s letter = record st { acceptor = put m s.after st.acceptor; sent = option_to_list (option_map letter s.answer) ++ st.sent }

-- what a letter makes of its latest proposal, the only one that it keeps, and what it sends
abbrev pub with_proposer : PaxosState → ℕ → Step Proposer View → (View → PaxosLetter) → PaxosState
with_proposer st m s letter = record st { proposer = put m (Some s.after) st.proposer; sent = option_to_list (option_map letter s.answer) ++ st.sent }

abbrev pub on_promise : PaxosState → ℕ → Option Proposer → ℕ → Promise → PaxosState
on_promise st m None from promise = st
on_promise st m (Some p) from promise = with_proposer st m (proposer_on_promise p from promise) (λ view. AcceptLetter p.ballot view)

abbrev pub on_accepted : PaxosState → ℕ → Option Proposer → ℕ → Ballot → PaxosState
on_accepted st m None from ballot = st
on_accepted st m (Some p) from ballot = with_proposer st m (proposer_on_accepted p from ballot) (λ view. ChosenLetter view)

-- a manager is delivered a letter
abbrev pub delivered : PaxosState → ℕ → PaxosLetter → PaxosState
delivered st m (PrepareLetter ballot) = with_acceptor st m (acceptor_on_prepare (st.acceptor m) ballot) (λ promise. PromiseLetter m promise)
delivered st m (PromiseLetter from promise) = on_promise st m (st.proposer m) from promise
delivered st m (AcceptLetter ballot view) = with_acceptor st m (acceptor_on_accept (st.acceptor m) ballot view) (λ at. AcceptedLetter m (record { ballot = at; view = view }))
delivered st m (AcceptedLetter from voted) = on_accepted st m (st.proposer m) from voted.ballot
delivered st m (ChosenLetter view) = st

module _ (epoch managers : ℕ) where
  -- a proposal takes the place of the manager's proposal before it
  abbrev pub next : PaxosState → PaxosEvent → PaxosState
  next st (Propose m round view) =
      let ballot : Ballot = record { round = round; manager = m } in
      record st { proposer = put m (Some (proposer_new epoch ballot view managers)) st.proposer; sent = PrepareLetter ballot ∷ st.sent }
  next st (Deliver m letter) = delivered st m letter
  next st (Stop m) = record st { stopped = put m true st.stopped }

  -- a manager that did not stop
  pub record IsUp (st : PaxosState) (m : ℕ) : Type 0 where
    pub known : m < managers
    pub running : st.stopped m ≡ false

  -- A manager proposes at a ballot that was not used before. Any letter that was ever sent may be delivered.
  abbrev pub MayHappen : PaxosState → PaxosEvent → Type 0
  MayHappen st (Propose m round view) = IsUp st m × (In st.sent (PrepareLetter (record { round = round; manager = m })) → ⊥)
  MayHappen st (Deliver m letter) = IsUp st m × In st.sent letter
  MayHappen st (Stop m) = IsUp st m

  -- a run is a list of events, each of which may happen where it does
  abbrev pub IsPaxosRun : PaxosState → List PaxosEvent → Type 0
  IsPaxosRun st [] = ⊤
  IsPaxosRun st (event ∷ events) = MayHappen st event × IsPaxosRun (next st event) events

  abbrev pub last_state : PaxosState → List PaxosEvent → PaxosState
  last_state st [] = st
  last_state st (event ∷ events) = last_state (next st event) events

-- more than half of the managers, none of them twice
pub record IsQuorum (managers : ℕ) (quorum : List ℕ) : Type 0 where
  pub distinct : IsDistinct nat_eq quorum
  pub known : (m : ℕ) → In quorum m → m < managers
  pub majority : managers < 2 * length quorum

-- Acceptors of a majority accepted the view at one ballot. It looks at all acceptances ever sent, whoever learned them.
pub record IsChosen (managers : ℕ) (st : PaxosState) (view : View) : Type 0 where
  pub ballot : Ballot
  pub quorum : List ℕ
  pub majority : IsQuorum managers quorum
  pub accepted : (m : ℕ) → In quorum m → In st.sent (AcceptedLetter m (record { ballot = ballot; view = view }))

abbrev pub paxos_start : PaxosState
paxos_start = record { acceptor = λ m. acceptor_new; proposer = λ m. None; stopped = λ m. false; sent = [] }

-- in every run two chosen views are equal, and each view that a proposer reports is chosen
pub record Agrees (managers : ℕ) (st : PaxosState) : Type 0 where
  pub one : (v w : View) → IsChosen managers st v → IsChosen managers st w → v ≡ w
  pub reported : (v : View) → In st.sent (ChosenLetter v) → IsChosen managers st v

abbrev pub Agreement : Type 0
Agreement = (epoch managers : ℕ) (events : List PaxosEvent) → IsPaxosRun epoch managers paxos_start events → Agrees managers (last_state epoch managers paxos_start events)
