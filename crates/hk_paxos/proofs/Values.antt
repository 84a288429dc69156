-- Validity of a run of Paxos: each view in it is one that was proposed.
use Rattle.std.proofs.Common.{◌≡◌, ◌≢◌, ◌⊎◌, ℕ, Bool, true, false, cond, List, [], ◌∷◌, ◌++◌, Option, None, Some, nat_eq, refl, sym, subst, ◌∙◌, inl, inr, ⊎_elim}
use Rattle.std.specs.Option.{option_map, option_to_list}
use Rattle.std.proofs.lemmas.Bool.{eqb-true, eqb-false}
use Rattle.hk_base.specs.declared.view.Ballot.{Ballot}
use Rattle.hk_base.specs.declared.view.View.{View}
use Rattle.hk_base.specs.declared.view.Voted.{Voted}
use Rattle.hk_paxos.specs.declared.acceptor.Promise.{Promise}
use Rattle.hk_paxos.specs.declared.acceptor.Acceptor.{Acceptor}
use Rattle.hk_paxos.specs.declared.proposer.Proposer.{Proposer}
use Rattle.hk_paxos.specs.Paxos.{stays, is_refused, is_higher, value_or, value_of, proposer_new, proposer_on_promise, proposer_on_accepted, has_promises, has_acceptances, counts_promise, counts_acceptance, with_promise, with_acceptance}
use Rattle.hk_paxos.specs.Run.{PaxosLetter, PaxosState, PaxosEvent, In, put, with_acceptor, with_proposer, on_promise, on_accepted, delivered, next, MayHappen, IsPaxosRun, last_state, paxos_start}
use Rattle.hk_paxos.specs.Run.PaxosLetter.{PrepareLetter, PromiseLetter, AcceptLetter, AcceptedLetter, ChosenLetter}
use Rattle.hk_paxos.specs.Run.PaxosEvent.{Propose, Deliver, Stop}
use Rattle.hk_paxos.specs.Validity.{IsVoteFor, Carries, Validity}
use Rattle.hk_paxos.proofs.Quorums.{in_either}

pub put_cases : {X : Type 0} (m : ℕ) (x : X) (f : ℕ → X) (n : ℕ) → ((n ≡ m) × (put m x f n ≡ x)) ⊎ ((n ≢ m) × (put m x f n ≡ f n))
put_cases m x f n = at (nat_eq n m) refl
  where
    at : (t : Bool) → nat_eq n m ≡ t → ((n ≡ m) × (cond t x (f n) ≡ x)) ⊎ ((n ≢ m) × (cond t x (f n) ≡ f n))
    at true e = inl (eqb-true n m e, refl)
    at false e = inr (eqb-false n m e, refl)

module _ (P : View → Type 0) where
  -- what was accepted has it
  abbrev pub OfVote : Option Voted → Type 0
  OfVote vote = (w : Voted) → vote ≡ Some w → P w.view

  abbrev pub OfLetter : PaxosLetter → Type 0
  OfLetter (PrepareLetter ballot) = Unit {0}
  OfLetter (PromiseLetter from promise) = OfVote promise.accepted
  OfLetter (AcceptLetter ballot view) = P view
  OfLetter (AcceptedLetter from voted) = P voted.view
  OfLetter (ChosenLetter view) = P view

  pub record OfProposer (p : Proposer) : Type 0 where
    pub own : P p.own
    pub highest : OfVote p.highest

  -- each view in the run has it
  pub record AllViews (st : PaxosState) : Type 0 where
    pub letters : (l : PaxosLetter) → In st.sent l → OfLetter l
    pub acceptors : (n : ℕ) → OfVote (st.acceptor n).accepted
    pub proposers : (n : ℕ) (p : Proposer) → st.proposer n ≡ Some p → OfProposer p

  pub none_at_start : AllViews paxos_start
  none_at_start = record {
    letters = λ l h. absurd h;
    acceptors = λ n w is. let e : None ≡ Some w = is in absurd cc;
    proposers = λ n p is. let e : None ≡ Some p = is in absurd cc;
  }

  value_has : (p : Proposer) → OfProposer p → P (value_of p)
  value_has p of = at p.highest refl
    where
      at : (o : Option Voted) → p.highest ≡ o → P (value_or o p.own)
      at None e = of.own
      at (Some w) e = of.highest w e

  -- ---- an acceptor's step
  acceptor_step : (st : PaxosState) → AllViews st → (m : ℕ) (x : Acceptor) (ls : List PaxosLetter) → OfVote x.accepted → ((l : PaxosLetter) → In ls l → OfLetter l) →
      AllViews (record st { acceptor = put m x st.acceptor; sent = ls ++ st.sent })
  acceptor_step st all m x ls its news = record {
    letters = λ l h. ⊎_elim (λ (a : In ls l). news l a) (λ (s : In st.sent l). all.letters l s) (in_either ls st.sent l h);
    acceptors = λ n. ⊎_elim
        (λ (e : (n ≡ m) × (put m x st.acceptor n ≡ x)). subst (λ (y : Acceptor). OfVote y.accepted) (sym e.1) its)
        (λ (d : (n ≢ m) × (put m x st.acceptor n ≡ st.acceptor n)). subst (λ (y : Acceptor). OfVote y.accepted) (sym d.1) (all.acceptors n)) (put_cases m x st.acceptor n);
    proposers = all.proposers;
  }

  prepare_step : (st : PaxosState) → AllViews st → (m : ℕ) (ballot : Ballot) → AllViews (delivered st m (PrepareLetter ballot))
  prepare_step st all m ballot = at (is_refused (st.acceptor m).promised ballot)
    where
      at : (b : Bool) → AllViews (with_acceptor st m (cond b (stays (st.acceptor m)) (record { after = record { promised = Some ballot; accepted = (st.acceptor m).accepted }; answer = Some (record { ballot = ballot; accepted = (st.acceptor m).accepted }) })) (λ promise. PromiseLetter m promise))
      at true = acceptor_step st all m (st.acceptor m) [] (all.acceptors m) (λ l h. absurd h)
      at false = acceptor_step st all m (record { promised = Some ballot; accepted = (st.acceptor m).accepted }) (PromiseLetter m (record { ballot = ballot; accepted = (st.acceptor m).accepted }) ∷ []) (all.acceptors m)
          (λ l h. ⊎_elim (λ (e : l ≡ PromiseLetter m (record { ballot = ballot; accepted = (st.acceptor m).accepted })). subst OfLetter (sym e) (all.acceptors m)) (λ (n : ⊥). absurd n) h)

  same_vote : (v w : Voted) → Some v ≡ Some w → P v.view → P w.view
  same_vote v w e h = let s : v ≡ w = cc in subst (λ (x : Voted). P x.view) s h

  accept_step : (st : PaxosState) → AllViews st → (m : ℕ) (ballot : Ballot) (view : View) → P view → AllViews (delivered st m (AcceptLetter ballot view))
  accept_step st all m ballot view has = at (is_refused (st.acceptor m).promised ballot)
    where
      at : (b : Bool) → AllViews (with_acceptor st m (cond b (stays (st.acceptor m)) (record { after = record { promised = Some ballot; accepted = Some (record { ballot = ballot; view = view }) }; answer = Some ballot })) (λ at. AcceptedLetter m (record { ballot = at; view = view })))
      at true = acceptor_step st all m (st.acceptor m) [] (all.acceptors m) (λ l h. absurd h)
      at false = acceptor_step st all m (record { promised = Some ballot; accepted = Some (record { ballot = ballot; view = view }) }) (AcceptedLetter m (record { ballot = ballot; view = view }) ∷ [])
          (λ w e. same_vote (record { ballot = ballot; view = view }) w e has)
          (λ l h. ⊎_elim (λ (e : l ≡ AcceptedLetter m (record { ballot = ballot; view = view })). subst OfLetter (sym e) has) (λ (n : ⊥). absurd n) h)

  -- ---- a proposer's
  proposer_step : (st : PaxosState) → AllViews st → (m : ℕ) (p : Proposer) (ls : List PaxosLetter) → OfProposer p → ((l : PaxosLetter) → In ls l → OfLetter l) →
      AllViews (record st { proposer = put m (Some p) st.proposer; sent = ls ++ st.sent })
  proposer_step st all m p ls its news = record {
    letters = λ l h. ⊎_elim (λ (a : In ls l). news l a) (λ (s : In st.sent l). all.letters l s) (in_either ls st.sent l h);
    acceptors = all.acceptors;
    proposers = λ n q is. ⊎_elim
        (λ (e : (n ≡ m) × (put m (Some p) st.proposer n ≡ Some p)). same_proposer q (sym e.1 ∙ is))
        (λ (d : (n ≢ m) × (put m (Some p) st.proposer n ≡ st.proposer n)). all.proposers n q (sym d.1 ∙ is)) (put_cases m (Some p) st.proposer n);
  }
    where
      same_proposer : (q : Proposer) → Some p ≡ Some q → OfProposer q
      same_proposer q e = let s : p ≡ q = cc in subst OfProposer s its

  higher_has : (told known : Option Voted) → OfVote told → OfVote known → OfVote (cond (is_higher told known) told known)
  higher_has told known a b = at (is_higher told known)
    where
      at : (t : Bool) → OfVote (cond t told known)
      at true = a
      at false = b

  told_once : (answer : Bool) (view : View) (letter : View → PaxosLetter) → ((v : View) → P v → OfLetter (letter v)) → P view → (l : PaxosLetter) → In (option_to_list (option_map letter (cond answer (Some view) None))) l → OfLetter l
  told_once true view letter of has l h = ⊎_elim (λ (e : l ≡ letter view). subst OfLetter (sym e) (of view has)) (λ (n : ⊥). absurd n) h
  told_once false view letter of has l h = absurd h

  promise_step : (st : PaxosState) → AllViews st → (m : ℕ) (p : Proposer) → OfProposer p → (from : ℕ) (promise : Promise) → OfVote promise.accepted →
      AllViews (with_proposer st m (proposer_on_promise p from promise) (λ view. AcceptLetter p.ballot view))
  promise_step st all m p of from promise told = at (counts_promise p from promise.ballot)
    where
      after : Proposer
      after = with_promise p from promise.accepted

      after_has : OfProposer (with_promise p from promise.accepted)
      after_has = record { own = of.own; highest = higher_has promise.accepted p.highest told of.highest }

      at : (t : Bool) → AllViews (with_proposer st m (cond t (record { after = with_promise p from promise.accepted; answer = cond (has_promises (with_promise p from promise.accepted)) (Some (value_of (with_promise p from promise.accepted))) None }) (stays p)) (λ view. AcceptLetter p.ballot view))
      at true = proposer_step st all m (with_promise p from promise.accepted) _ after_has
          (told_once (has_promises (with_promise p from promise.accepted)) (value_of (with_promise p from promise.accepted)) (λ view. AcceptLetter p.ballot view) (λ v h. h) (value_has (with_promise p from promise.accepted) after_has))
      at false = proposer_step st all m p [] of (λ l h. absurd h)

  accepted_step : (st : PaxosState) → AllViews st → (m : ℕ) (p : Proposer) → OfProposer p → (from : ℕ) (ballot : Ballot) →
      AllViews (with_proposer st m (proposer_on_accepted p from ballot) (λ view. ChosenLetter view))
  accepted_step st all m p of from ballot = at (counts_acceptance p from ballot)
    where
      noted_has : OfProposer (with_acceptance p from)
      noted_has = record { own = of.own; highest = of.highest }

      at : (t : Bool) → AllViews (with_proposer st m (cond t (record { after = with_acceptance p from; answer = cond (has_acceptances (with_acceptance p from)) (Some (value_of (with_acceptance p from))) None }) (stays p)) (λ view. ChosenLetter view))
      at true = proposer_step st all m (with_acceptance p from) _ noted_has
          (told_once (has_acceptances (with_acceptance p from)) (value_of (with_acceptance p from)) (λ view. ChosenLetter view) (λ v h. h) (value_has (with_acceptance p from) noted_has))
      at false = proposer_step st all m p [] of (λ l h. absurd h)

  -- ---- an event, that proposes a view that has it, if any
  abbrev pub OfEvent : PaxosEvent → Type 0
  OfEvent (Propose m round view) = P view
  OfEvent (Deliver m letter) = Unit {0}
  OfEvent (Stop m) = Unit {0}

  pub event_keeps : (epoch managers : ℕ) (st : PaxosState) → AllViews st → (event : PaxosEvent) → MayHappen epoch managers st event → OfEvent event → AllViews (next epoch managers st event)
  event_keeps epoch managers st all (Propose m round view) may has =
      proposer_step st all m (proposer_new epoch (record { round = round; manager = m }) view managers) (PrepareLetter (record { round = round; manager = m }) ∷ [])
      (record { own = has; highest = λ w e. absurd cc })
      (λ l h. ⊎_elim (λ (e : l ≡ PrepareLetter (record { round = round; manager = m })). subst OfLetter (sym e) tt) (λ (n : ⊥). absurd n) h)
  event_keeps epoch managers st all (Stop m) may has = record { letters = all.letters; acceptors = all.acceptors; proposers = all.proposers }
  event_keeps epoch managers st all (Deliver m (PrepareLetter ballot)) may has = prepare_step st all m ballot
  event_keeps epoch managers st all (Deliver m (AcceptLetter ballot view)) may has = accept_step st all m ballot view (all.letters (AcceptLetter ballot view) may.1)
  event_keeps epoch managers st all (Deliver m (ChosenLetter view)) may has = all
  event_keeps epoch managers st all (Deliver m (PromiseLetter from promise)) may has = at (st.proposer m) refl
    where
      at : (o : Option Proposer) → st.proposer m ≡ o → AllViews (on_promise st m o from promise)
      at None e = all
      at (Some p) e = promise_step st all m p (all.proposers m p e) from promise (all.letters (PromiseLetter from promise) may.1)
  event_keeps epoch managers st all (Deliver m (AcceptedLetter from voted)) may has = at (st.proposer m) refl
    where
      at : (o : Option Proposer) → st.proposer m ≡ o → AllViews (on_accepted st m o from voted.ballot)
      at None e = all
      at (Some p) e = accepted_step st all m p (all.proposers m p e) from voted.ballot

-- what each view has, it has also where that is weaker
pub all_weaker : (P Q : View → Type 0) → ((v : View) → P v → Q v) → (st : PaxosState) → AllViews P st → AllViews Q st
all_weaker P Q weaker st all = record {
  letters = λ l h. of l (all.letters l h);
  acceptors = λ n w e. weaker w.view (all.acceptors n w e);
  proposers = λ n p e. let o = all.proposers n p e in record { own = weaker p.own o.own; highest = λ w is. weaker w.view (o.highest w is) };
}
  where
    of : (l : PaxosLetter) → OfLetter P l → OfLetter Q l
    of (PrepareLetter ballot) h = tt
    of (PromiseLetter from promise) h = λ w e. weaker w.view (h w e)
    of (AcceptLetter ballot view) h = weaker view h
    of (AcceptedLetter from voted) h = weaker voted.view h
    of (ChosenLetter view) h = weaker view h

-- ---- a run in which each proposal has it
all_run : (P : View → Type 0) (epoch managers : ℕ) (st : PaxosState) → AllViews P st → (events : List PaxosEvent) → ((event : PaxosEvent) → In events event → OfEvent P event) → IsPaxosRun epoch managers st events →
    AllViews P (last_state epoch managers st events)
all_run P epoch managers st all [] each run = all
all_run P epoch managers st all (event ∷ events) each run =
    all_run P epoch managers (next epoch managers st event) (event_keeps P epoch managers st all event run.0 (each event (inl refl))) events (λ e h. each e (inr h)) run.1

-- the view is one that was proposed
abbrev IsProposed : List PaxosEvent → View → Type 0
IsProposed events view = (manager : ℕ) × (round : ℕ) × In events (Propose manager round view)

each_proposed : (events : List PaxosEvent) (event : PaxosEvent) → In events event → OfEvent (IsProposed events) event
each_proposed events (Propose m round view) h = (m, round, h)
each_proposed events (Deliver m letter) h = tt
each_proposed events (Stop m) h = tt

carried : (P : View → Type 0) (letter : PaxosLetter) (view : View) → OfLetter P letter → Carries letter view → P view
carried P (PrepareLetter ballot) view of is = absurd is
carried P (PromiseLetter from promise) view of is = at promise.accepted refl is
  where
    at : (o : Option Voted) → promise.accepted ≡ o → IsVoteFor o view → P view
    at None e k = absurd k
    at (Some w) e k = subst P k (of w e)
carried P (AcceptLetter ballot proposed) view of is = subst P is of
carried P (AcceptedLetter from voted) view of is = subst P is of
carried P (ChosenLetter chosen) view of is = subst P is of

pub validity : Validity
validity epoch managers events run letter view h is =
    carried (IsProposed events) letter view ((all_run (IsProposed events) epoch managers paxos_start (none_at_start (IsProposed events)) events (each_proposed events) run).letters letter h) is
