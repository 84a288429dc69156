-- Every run of a council keeps what holds at each moment, and that is agreement.
use Rattle.std.proofs.Common.{◌≡◌, ℕ, List, [], ◌∷◌, ◌++◌, Option, Some, None, Result, Ok, Err, refl, sym, ap, subst, ◌∙◌, inl, ⊎_elim}
use Rattle.hk_base.specs.declared.view.View.{View}
use Rattle.hk_base.specs.declared.view.Voted.{Voted}
use Rattle.hk_base.specs.declared.letter.Actor.{Actor}
use Rattle.hk_base.specs.declared.letter.Actor.TheVariants.{Node, Manager}
use Rattle.hk_base.specs.declared.letter.Body.{Body}
use Rattle.hk_base.specs.declared.letter.Body.TheVariants.{Inv, Ack, Val, CopyAsk, CopyGive, LeaseAsk, LeaseGive, Prepare, Promise, Accept, Accepted, Chosen, Activate}
use Rattle.hk_base.specs.declared.letter.Letter.{Letter}
use Rattle.hk_paxos.specs.Run.{PaxosLetter, PaxosState, In, IsChosen, paxos_start}
use Rattle.hk_paxos.specs.Run.PaxosLetter.{PrepareLetter, PromiseLetter, AcceptLetter, AcceptedLetter, ChosenLetter}
use Rattle.hk_paxos.proofs.Quorums.{in_either}
use Rattle.hk_manager.specs.declared.fault.ManagerFault.{ManagerFault}
use Rattle.hk_manager.specs.Laws.{OfStep}
use Rattle.hk_manager.specs.Steps.{ManagerStepped, manager_step}
use Rattle.hk_council.specs.Chain.{Follows}
use Rattle.hk_council.specs.Council.{Council, Event, IsNode, stepped_by, next, MayHappen, IsRun, last_council, start}
use Rattle.hk_council.specs.Council.Event.{Step, Post, Stop}
use Rattle.hk_council.specs.Agreed.{HasSaid, Tells, IsOneOf, IsOfManagers, HasPaxosRun, IsAgreed, Agreement}
use Rattle.hk_council.proofs.Chains.{one_view, epoch_at, in_left}
use Rattle.hk_council.proofs.Instances.{IsSaid, IsBacked, backed_on}
use Rattle.hk_paxos.proofs.Values.{none_at_start}
use Rattle.hk_council.proofs.Learning.{Sound, Outcome, outcome_sound, its_epoch}
use Rattle.hk_council.proofs.Handlers.{step_fine}

no_manager : (a : Actor) (n : ℕ) → IsNode a → a ≡ Manager n → ⊥
no_manager (Node node) n is e = absurd cc
no_manager (Manager manager) n is e = is

module _ (managers : ℕ) where
  -- ---- one event
  step_sound : (c : Council) → Sound managers c → (m : ℕ) (result : Result ManagerStepped ManagerFault) → OfStep (Outcome managers c m) result → Sound managers (stepped_by c m result)
  step_sound c sound m (Err fault) fine = sound
  step_sound c sound m (Ok stepped) fine = outcome_sound managers c sound m stepped fine

  pub post_sound : (c : Council) → Sound managers c → (letters : List Letter) → ((letter : Letter) → In letters letter → IsNode letter.from) → Sound managers (record c { sent = c.sent ++ letters })
  post_sound c sound letters nodes = record {
    ids = sound.ids;
    counts = sound.counts;
    chain = sound.chain;
    held = sound.held;
    runs = λ f. let r = sound.runs f in record {
      events = r.events;
      state = r.state;
      run = r.run;
      last = r.last;
      up = r.up;
      acceptors = r.acceptors;
      proposals = r.proposals;
      letters = λ l n h of by. ⊎_elim (λ (was : In c.sent l). r.letters l n was of by) (λ (new : In letters l). absurd (no_manager l.from n (nodes l new) by)) (in_either c.sent letters l h);
      backed = λ p h. backed_on c.sent (c.sent ++ letters) f (in_left c.sent letters) p (r.backed p h);
      rounds = r.rounds;
      views = r.views;
      chosen = r.chosen;
    };
    chosen = λ l n v h by says. ⊎_elim (λ (was : In c.sent l). sound.chosen l n v was by says) (λ (new : In letters l). absurd (no_manager l.from n (nodes l new) by)) (in_either c.sent letters l h);
    begun = λ l n v h by says. ⊎_elim (λ (was : In c.sent l). sound.begun l n v was by says) (λ (new : In letters l). absurd (no_manager l.from n (nodes l new) by)) (in_either c.sent letters l h);
  }

  pub event_sound : (c : Council) → Sound managers c → (event : Event) → MayHappen managers c event → Sound managers (next c event)
  event_sound c sound (Step m event) may = step_sound c sound m (manager_step (c.manager m) event) (step_fine managers c sound m may.0.known event may.1)
  event_sound c sound (Post letters) may = post_sound c sound letters may
  event_sound c sound (Stop m) may = record { ids = sound.ids; counts = sound.counts; chain = sound.chain; held = sound.held; runs = sound.runs; chosen = sound.chosen; begun = sound.begun }

  -- ---- a run
  run_sound : (c : Council) → Sound managers c → (events : List Event) → IsRun managers c events → Sound managers (last_council c events)
  run_sound c sound [] run = sound
  run_sound c sound (event ∷ events) run = run_sound (next c event) (event_sound c sound event run.0) events run.1

  pub start_sound : (lease : ℕ) (first : View) → first.epoch ≡ 1 → Sound managers (start managers lease first)
  start_sound lease first one = record {
    ids = λ n. refl;
    counts = λ n. refl;
    chain = (one, tt);
    held = λ n. inl refl;
    runs = λ f. record {
      events = [];
      state = paxos_start;
      run = tt;
      last = refl;
      up = λ n. refl;
      acceptors = λ n. refl;
      proposals = λ n p is of. let e : None ≡ Some p = is in absurd cc;
      letters = λ l n h of by. absurd h;
      backed = λ p h. absurd h;
      rounds = λ n round h. absurd h;
      views = none_at_start (Follows (first ∷ []) f);
      chosen = λ v h of other. ⊎_elim (λ (is : v ≡ first). absurd (other (sym of ∙ ap (λ (x : View). x.epoch) is ∙ one))) (λ (none : ⊥). absurd none) h;
    };
    chosen = λ l n v h by says. absurd h;
    begun = λ l n v h by says. absurd h;
  }

  -- ---- what is agreed on
  module _ (c : Council) (sound : Sound managers c) where
    one_of : (epoch m : ℕ) (body : Body) (said : HasSaid c epoch m body) → IsOneOf (sound.runs epoch).state.sent m body
    one_of epoch m body said = subst (λ (b : Body). IsOneOf (sound.runs epoch).state.sent m b) said.says ((sound.runs epoch).letters said.letter m said.ever said.of_epoch said.sender)

    voted_in : (epoch : ℕ) (vote : Option Voted) (view : View) → ((w : Voted) → vote ≡ Some w → Follows c.learned epoch w.view) → (w : Voted) → vote ≡ Some w → w.view ≡ view → Follows c.learned epoch view
    voted_in epoch vote view each w is same = subst (λ (v : View). Follows c.learned epoch v) same (each w is)

    valid : (epoch m : ℕ) (body : Body) (view : View) → IsOneOf (sound.runs epoch).state.sent m body → Tells body view → Follows c.learned epoch view
    valid epoch m (Promise ballot (Some voted)) view one same = subst (λ (v : View). Follows c.learned epoch v) same ((sound.runs epoch).views.letters _ one voted refl)
    valid epoch m (Accept ballot proposed) view one same = subst (λ (v : View). Follows c.learned epoch v) same ((sound.runs epoch).views.letters _ one)
    valid epoch m (Chosen chosen) view one same = subst (λ (v : View). Follows c.learned epoch v) same ((sound.runs epoch).views.letters _ one)
    valid epoch m (Promise ballot None) view one same = absurd same
    valid epoch m (Prepare ballot) view one same = absurd same
    valid epoch m (Accepted ballot) view one same = absurd same
    valid epoch m (Inv key s kind content) view one same = absurd same
    valid epoch m (Ack key s top) view one same = absurd same
    valid epoch m (Val key s) view one same = absurd same
    valid epoch m (CopyAsk after room) view one same = absurd same
    valid epoch m (CopyGive after done items) view one same = absurd same
    valid epoch m (LeaseAsk asked) view one same = absurd same
    valid epoch m (LeaseGive end) view one same = absurd same
    valid epoch m (Activate view') view one same = absurd same

    chosen_epoch : (epoch m : ℕ) (view : View) → HasSaid c epoch m (Chosen view) → view.epoch ≡ epoch
    chosen_epoch epoch m view said = its_epoch managers c.manager c.sent c.learned sound.chain sound.runs epoch view (one_of epoch m (Chosen view) said)

    said_in : (epoch m : ℕ) (body : Body) → IsSaid c.sent epoch m body → HasSaid c epoch m body
    said_in epoch m body h = record { letter = h.letter; ever = h.ever; of_epoch = h.of_epoch; sender = h.sender; says = h.says }

    was_sent : (epoch : ℕ) (p : PaxosLetter) → IsBacked c.sent epoch p → IsOfManagers c epoch p
    was_sent epoch (PrepareLetter ballot) h = said_in epoch ballot.manager (Prepare ballot) h
    was_sent epoch (PromiseLetter m promise) h = said_in epoch m (Promise promise.ballot promise.accepted) h
    was_sent epoch (AcceptLetter ballot view) h = (h.0, said_in epoch h.0 (Accept ballot view) h.1)
    was_sent epoch (AcceptedLetter m voted) h = said_in epoch m (Accepted voted.ballot) h
    was_sent epoch (ChosenLetter view) h = tt

    paxos_run : (epoch : ℕ) → HasPaxosRun managers c epoch
    paxos_run epoch = let r = sound.runs epoch in record {
      events = r.events;
      run = r.run;
      letters = λ m body said. subst (λ (st : PaxosState). IsOneOf st.sent m body) (sym r.last) (one_of epoch m body said);
      sent = λ p h. was_sent epoch p (r.backed p (subst (λ (st : PaxosState). In st.sent p) r.last h));
      acceptors = λ m known. ap (λ (st : PaxosState). st.acceptor m) r.last ∙ r.acceptors m;
      proposals = λ m p known is of. ap (λ (st : PaxosState). st.proposer m) r.last ∙ r.proposals m p is of;
      votes = λ m voted h. r.views.letters (AcceptedLetter m voted) (subst (λ (st : PaxosState). In st.sent (AcceptedLetter m voted)) r.last h);
      agreed = λ v h of other. subst (λ (st : PaxosState). IsChosen managers st v) (sym r.last) (r.chosen v h of other);
    }

    pub sound_agreed : IsAgreed managers c
    sound_agreed = record {
      chain = sound.chain;
      epochs = λ k view at. epoch_at c.learned k view sound.chain at;
      one = λ v w h k same. one_view c.learned sound.chain v w h k same;
      held = λ m known. sound.held m;
      chosen = λ m epoch view said. (sound.chosen said.letter m view said.ever said.sender said.says, chosen_epoch epoch m view said);
      begun = λ m epoch view said. let b = sound.begun said.letter m view said.ever said.sender said.says in (b.0, b.1 ∙ said.of_epoch, b.2);
      valid = λ m epoch body view said tells. valid epoch m body view (one_of epoch m body said) tells;
      instances = paxos_run;
    }

pub agreement : Agreement
agreement managers lease first events one run = sound_agreed managers (last_council (start managers lease first) events) (run_sound managers (start managers lease first) (start_sound managers lease first one) events run)
