-- The instances of one epoch, at all managers, are a run of Paxos.
use Rattle.std.proofs.Common.{◌≡◌, ◌≢◌, ◌⊎◌, ℕ, ◌<◌, ◌≤◌, true, false, cond, List, [], ◌∷◌, ◌++◌, Option, Some, unwrap_or, refl, sym, ap, subst, ◌∙◌, ⊎_elim, arith, le_refl, le_trans}
use Rattle.std.specs.declared.cmp.Ordering.{Ordering}
use Rattle.std.specs.declared.cmp.Ordering.TheVariants.{Less, Equal, Greater}
use Rattle.std.specs.Ordering.{nat_cmp, match_ordering, is_eq}
use Rattle.std.specs.BTreeMap.{insert_entry, is_at}
use Rattle.std.specs.Map.{lookup}
use Rattle.std.proofs.lemmas.Bool.{cases_order, cases_eq, lt-ltb, le-ltb, eq-eqb, ne_eqb, false≢true}
use Rattle.hk_base.specs.declared.view.View.{View}
use Rattle.hk_base.specs.declared.letter.Actor.TheVariants.{Manager}
use Rattle.hk_base.specs.declared.letter.Body.{Body}
use Rattle.hk_base.specs.declared.letter.Body.TheVariants.{Inv, Ack, Val, CopyAsk, CopyGive, LeaseAsk, LeaseGive, Prepare, Promise, Accept, Accepted, Chosen, Activate}
use Rattle.hk_base.specs.declared.letter.Letter.{Letter}
use Rattle.hk_paxos.specs.declared.proposer.Proposer.{Proposer}
use Rattle.hk_paxos.specs.Run.{PaxosLetter, PaxosState, PaxosEvent, In, put, next, MayHappen, IsPaxosRun, last_state, IsChosen, Agrees, paxos_start}
use Rattle.hk_paxos.specs.Run.PaxosLetter.{PrepareLetter, PromiseLetter, AcceptLetter, AcceptedLetter, ChosenLetter}
use Rattle.hk_paxos.proofs.Quorums.{in_either, in_right}
use Rattle.hk_paxos.proofs.Runs.{last_with, run_with}
use Rattle.hk_paxos.proofs.Events.{agreement}
use Rattle.hk_manager.specs.declared.instance.Instance.{Instance}
use Rattle.hk_manager.specs.Manager.{ManagerState, fresh, instance_at}
use Rattle.hk_council.specs.Chain.{Follows}
use Rattle.hk_council.specs.Agreed.{IsOneOf}
use Rattle.hk_council.proofs.Chains.{in_left}
use Rattle.hk_paxos.proofs.Values.{put_cases, OfEvent, AllViews, event_keeps, all_weaker}

-- ---- what is known of instances, after one is put
same_at : (x y : ℕ) → x ≡ y → is_eq (nat_cmp x y) ≡ true
same_at x y e = rw (e, le-ltb y y (le_refl y), eq-eqb y y refl) refl

other_at : (x y : ℕ) → x ≢ y → is_eq (nat_cmp x y) ≡ false
other_at x y d = ⊎_elim (λ (e : x ≡ y). absurd (d e))
    (λ (o : (x < y) ⊎ (y < x)). ⊎_elim (λ (l : x < y). rw (lt-ltb x y l) refl) (λ (g : y < x). rw (le-ltb x y (omega arith), ne_eqb x y d) refl) o) (cases_order x y)

equal_numbers : (x y : ℕ) → nat_cmp x y ≡ Equal → x ≡ y
equal_numbers x y h = ⊎_elim (λ (e : x ≡ y). e) (λ (d : x ≢ y). absurd (false≢true (sym (other_at x y d) ∙ ap is_eq h))) (cases_eq x y)

found_same : (es : List (ℕ × Instance)) (k : ℕ) (v : Instance) → lookup (is_at (nat_cmp k)) (insert_entry nat_cmp es k v) ≡ Some v
found_same [] k v = rw (same_at k k refl) refl
found_same (e ∷ es) k v = at (nat_cmp k e.0) refl (found_same es k v)
  where
    at : (o : Ordering) → nat_cmp k e.0 ≡ o → lookup (is_at (nat_cmp k)) (insert_entry nat_cmp es k v) ≡ Some v →
        lookup (is_at (nat_cmp k)) (match_ordering o ((k, v) ∷ e ∷ es) ((e.0, v) ∷ es) (e ∷ insert_entry nat_cmp es k v)) ≡ Some v
    at Less is ih = rw (same_at k k refl) refl
    at Equal is ih = rw is refl
    at Greater is ih = rw is ih

found_other : (es : List (ℕ × Instance)) (k : ℕ) (v : Instance) (f : ℕ) → f ≢ k → lookup (is_at (nat_cmp f)) (insert_entry nat_cmp es k v) ≡ lookup (is_at (nat_cmp f)) es
found_other [] k v f d = rw (other_at f k d) refl
found_other (e ∷ es) k v f d = at (nat_cmp k e.0) refl (found_other es k v f d)
  where
    at : (o : Ordering) → nat_cmp k e.0 ≡ o → lookup (is_at (nat_cmp f)) (insert_entry nat_cmp es k v) ≡ lookup (is_at (nat_cmp f)) es →
        lookup (is_at (nat_cmp f)) (match_ordering o ((k, v) ∷ e ∷ es) ((e.0, v) ∷ es) (e ∷ insert_entry nat_cmp es k v)) ≡ lookup (is_at (nat_cmp f)) (e ∷ es)
    at Less is ih = rw (other_at f k d) refl
    at Equal is ih = let off : f ≢ e.0 = λ s. d (s ∙ sym (equal_numbers k e.0 is)) in rw (other_at f e.0 off) refl
    at Greater is ih = ap (λ (o : Option Instance). cond (is_eq (nat_cmp f e.0)) (Some e.1) o) ih

pub instance_same : (es : List (ℕ × Instance)) (k : ℕ) (v : Instance) → instance_at k (insert_entry nat_cmp es k v) ≡ v
instance_same es k v = ap (λ (o : Option Instance). unwrap_or o fresh) (found_same es k v)

pub instance_other : (es : List (ℕ × Instance)) (k : ℕ) (v : Instance) (f : ℕ) → f ≢ k → instance_at f (insert_entry nat_cmp es k v) ≡ instance_at f es
instance_other es k v f d = ap (λ (o : Option Instance). unwrap_or o fresh) (found_other es k v f d)

-- what was said is said also among more letters
pub one_grows : (old new : List PaxosLetter) (n : ℕ) (body : Body) → ((l : PaxosLetter) → In old l → In new l) → IsOneOf old n body → IsOneOf new n body
one_grows old new n (Prepare ballot) grows h = grows _ h
one_grows old new n (Promise ballot accepted) grows h = grows _ h
one_grows old new n (Accept ballot view) grows h = grows _ h
one_grows old new n (Accepted ballot) grows h = (h.0, grows _ h.1)
one_grows old new n (Chosen view) grows h = grows _ h
one_grows old new n (Inv key s kind content) grows h = tt
one_grows old new n (Ack key s top) grows h = tt
one_grows old new n (Val key s) grows h = tt
one_grows old new n (CopyAsk after room) grows h = tt
one_grows old new n (CopyGive after done items) grows h = tt
one_grows old new n (LeaseAsk asked) grows h = tt
one_grows old new n (LeaseGive end) grows h = tt
one_grows old new n (Activate view) grows h = tt

-- among the letters is one of this epoch in which the manager says this
pub record IsSaid (sent : List Letter) (epoch manager : ℕ) (body : Body) : Type 0 where
  pub letter : Letter
  pub ever : In sent letter
  pub of_epoch : letter.epoch ≡ epoch
  pub sender : letter.from ≡ Manager manager
  pub says : letter.body ≡ body

pub said_on : (sent more : List Letter) (epoch m : ℕ) (body : Body) → ((l : Letter) → In sent l → In more l) → IsSaid sent epoch m body → IsSaid more epoch m body
said_on sent more epoch m body grows h = record { letter = h.letter; ever = grows h.letter h.ever; of_epoch = h.of_epoch; sender = h.sender; says = h.says }

-- a letter of Paxos is one that a manager sent; the report of a chosen view goes to the others alone, if there are any
abbrev pub IsBacked : List Letter → ℕ → PaxosLetter → Type 0
IsBacked sent epoch (PrepareLetter ballot) = IsSaid sent epoch ballot.manager (Prepare ballot)
IsBacked sent epoch (PromiseLetter m promise) = IsSaid sent epoch m (Promise promise.ballot promise.accepted)
IsBacked sent epoch (AcceptLetter ballot view) = (m : ℕ) × IsSaid sent epoch m (Accept ballot view)
IsBacked sent epoch (AcceptedLetter m voted) = IsSaid sent epoch m (Accepted voted.ballot)
IsBacked sent epoch (ChosenLetter view) = Unit

pub backed_on : (sent more : List Letter) (epoch : ℕ) → ((l : Letter) → In sent l → In more l) → (p : PaxosLetter) → IsBacked sent epoch p → IsBacked more epoch p
backed_on sent more epoch grows (PrepareLetter ballot) h = said_on sent more epoch ballot.manager (Prepare ballot) grows h
backed_on sent more epoch grows (PromiseLetter m promise) h = said_on sent more epoch m (Promise promise.ballot promise.accepted) grows h
backed_on sent more epoch grows (AcceptLetter ballot view) h = (h.0, said_on sent more epoch h.0 (Accept ballot view) grows h.1)
backed_on sent more epoch grows (AcceptedLetter m voted) h = said_on sent more epoch m (Accepted voted.ballot) grows h
backed_on sent more epoch grows (ChosenLetter view) h = tt

abbrev pub ballot_of : ℕ → ℕ → PaxosLetter
ballot_of round n = PrepareLetter (record { round = round; manager = n })

module _ (managers : ℕ) where
  pub record InstanceRun (manager : ℕ → ManagerState) (sent : List Letter) (learned : List View) (epoch : ℕ) : Type 0 where
    pub events : List PaxosEvent
    pub state : PaxosState
    pub run : IsPaxosRun epoch managers paxos_start events
    pub last : last_state epoch managers paxos_start events ≡ state
    -- the run stops no manager: one that stopped makes no step any more
    pub up : (n : ℕ) → state.stopped n ≡ false
    pub acceptors : (n : ℕ) → state.acceptor n ≡ (instance_at epoch (manager n).instances).acceptor
    pub proposals : (n : ℕ) (p : Proposer) → (manager n).proposal ≡ Some p → p.epoch ≡ epoch → state.proposer n ≡ Some p
    pub letters : (l : Letter) (n : ℕ) → In sent l → l.epoch ≡ epoch → l.from ≡ Manager n → IsOneOf state.sent n l.body
    pub backed : (p : PaxosLetter) → In state.sent p → IsBacked sent epoch p
    -- a manager's rounds are not above what it noted
    pub rounds : (n round : ℕ) → In state.sent (ballot_of round n) → round ≤ (instance_at epoch (manager n).instances).round
    pub views : AllViews (Follows learned epoch) state
    pub chosen : (v : View) → In learned v → v.epoch ≡ epoch → epoch ≢ 1 → IsChosen managers state v

  -- two views that are chosen in one instance are one, and one that is reported is chosen
  pub agrees : (manager : ℕ → ManagerState) (sent : List Letter) (learned : List View) (epoch : ℕ) (r : InstanceRun manager sent learned epoch) → Agrees managers r.state
  agrees manager sent learned epoch r = subst (λ (st : PaxosState). Agrees managers st) r.last (agreement managers epoch r.events r.run)

  -- a chosen view stays chosen among more letters
  pub still_chosen : (old new : PaxosState) → ((l : PaxosLetter) → In old.sent l → In new.sent l) → (v : View) → IsChosen managers old v → IsChosen managers new v
  still_chosen old new grows v c = record { ballot = c.ballot; quorum = c.quorum; majority = c.majority; accepted = λ m q. grows _ (c.accepted m q) }

  module _ (manager : ℕ → ManagerState) (sent : List Letter) (learned : List View) (m : ℕ) (after : ManagerState) (letters : List Letter) where
    -- an instance of which the step changes nothing
    unfoldable pub kept : (f : ℕ) (r : InstanceRun manager sent learned f) → instance_at f after.instances ≡ instance_at f (manager m).instances →
        ((p : Proposer) → after.proposal ≡ Some p → p.epoch ≡ f → (manager m).proposal ≡ Some p) →
        ((l : Letter) (n : ℕ) → In letters l → l.epoch ≡ f → l.from ≡ Manager n → IsOneOf r.state.sent n l.body) →
        InstanceRun (put m after manager) (sent ++ letters) learned f
    kept f r same proposal said = record {
      events = r.events;
      state = r.state;
      run = r.run;
      last = r.last;
      up = r.up;
      acceptors = λ n. r.acceptors n ∙ sym (ap (λ (i : Instance). i.acceptor) (instances n));
      proposals = λ n p is of. ⊎_elim
          (λ (e : (n ≡ m) × (put m after manager n ≡ after)). rw e.0 (r.proposals m p (proposal p (ap (λ (x : ManagerState). x.proposal) (sym e.1) ∙ is) of) of))
          (λ (d : (n ≢ m) × (put m after manager n ≡ manager n)). r.proposals n p (ap (λ (x : ManagerState). x.proposal) (sym d.1) ∙ is) of) (put_cases m after manager n);
      letters = λ l n h of by. ⊎_elim (λ (was : In sent l). r.letters l n was of by) (λ (new : In letters l). said l n new of by) (in_either sent letters l h);
      backed = λ p h. backed_on sent (sent ++ letters) f (in_left sent letters) p (r.backed p h);
      rounds = λ n round h. rw (instances n) (r.rounds n round h);
      views = r.views;
      chosen = r.chosen;
    }
      where
        instances : (n : ℕ) → instance_at f (put m after manager n).instances ≡ instance_at f (manager n).instances
        instances n = ⊎_elim
            (λ (e : (n ≡ m) × (put m after manager n ≡ after)). ap (λ (x : ManagerState). instance_at f x.instances) e.1 ∙ same ∙ ap (λ (k : ℕ). instance_at f (manager k).instances) (sym e.0))
            (λ (d : (n ≢ m) × (put m after manager n ≡ manager n)). ap (λ (x : ManagerState). instance_at f x.instances) d.1) (put_cases m after manager n)

    -- A step is one of Paxos in the instance of epoch e.
    pub record Moves (e : ℕ) (before : PaxosState) : Type 0 where
      pub event : PaxosEvent
      pub may : MayHappen e managers before event
      pub proposes : OfEvent (Follows learned e) event
      pub state : PaxosState
      pub made : next e managers before event ≡ state
      pub stopped : (n : ℕ) → state.stopped n ≡ before.stopped n
      pub its_acceptor : state.acceptor m ≡ (instance_at e after.instances).acceptor
      pub acceptors : (n : ℕ) → n ≢ m → state.acceptor n ≡ before.acceptor n
      pub its_proposal : (p : Proposer) → after.proposal ≡ Some p → p.epoch ≡ e → state.proposer m ≡ Some p
      pub proposers : (n : ℕ) → n ≢ m → state.proposer n ≡ before.proposer n
      pub grows : (l : PaxosLetter) → In before.sent l → In state.sent l
      pub round : (instance_at e (manager m).instances).round ≤ (instance_at e after.instances).round
      pub prepares : (n round : ℕ) → In state.sent (ballot_of round n) → In before.sent (ballot_of round n) ⊎ ((n ≡ m) × (round ≤ (instance_at e after.instances).round))
      pub said : (l : Letter) (n : ℕ) → In letters l → l.from ≡ Manager n → (l.epoch ≡ e) × IsOneOf state.sent n l.body
      pub backs : (p : PaxosLetter) → In state.sent p → In before.sent p ⊎ IsBacked letters e p
      pub sender : (l : Letter) → In letters l → l.from ≡ Manager m
      -- and nothing of the other instances
      pub instances : (f : ℕ) → f ≢ e → instance_at f after.instances ≡ instance_at f (manager m).instances
      pub proposal : (p : Proposer) → after.proposal ≡ Some p → p.epoch ≢ e → (manager m).proposal ≡ Some p

    moved_at : (e : ℕ) (r : InstanceRun manager sent learned e) → Moves e r.state → InstanceRun (put m after manager) (sent ++ letters) learned e
    moved_at e r moves = record {
      events = r.events ++ moves.event ∷ [];
      state = moves.state;
      run = run_with e managers paxos_start r.events moves.event r.run (subst (λ (st : PaxosState). MayHappen e managers st moves.event) (sym r.last) moves.may);
      last = last_with e managers paxos_start r.events moves.event ∙ ap (λ (st : PaxosState). next e managers st moves.event) r.last ∙ moves.made;
      up = λ n. moves.stopped n ∙ r.up n;
      acceptors = λ n. ⊎_elim
          (λ (i : (n ≡ m) × (put m after manager n ≡ after)). rw (i.1, i.0) moves.its_acceptor)
          (λ (d : (n ≢ m) × (put m after manager n ≡ manager n)). rw d.1 (moves.acceptors n d.0 ∙ r.acceptors n)) (put_cases m after manager n);
      proposals = λ n p is of. ⊎_elim
          (λ (i : (n ≡ m) × (put m after manager n ≡ after)). rw i.0 (moves.its_proposal p (ap (λ (x : ManagerState). x.proposal) (sym i.1) ∙ is) of))
          (λ (d : (n ≢ m) × (put m after manager n ≡ manager n)). moves.proposers n d.0 ∙ r.proposals n p (ap (λ (x : ManagerState). x.proposal) (sym d.1) ∙ is) of) (put_cases m after manager n);
      letters = λ l n h of by. ⊎_elim
          (λ (was : In sent l). one_grows r.state.sent moves.state.sent n l.body moves.grows (r.letters l n was of by))
          (λ (new : In letters l). (moves.said l n new by).1) (in_either sent letters l h);
      backed = λ p h. ⊎_elim
          (λ (was : In r.state.sent p). backed_on sent (sent ++ letters) e (in_left sent letters) p (r.backed p was))
          (λ (new : IsBacked letters e p). backed_on letters (sent ++ letters) e (in_right sent letters) p new) (moves.backs p h);
      rounds = λ n round h. ⊎_elim
          (λ (i : (n ≡ m) × (put m after manager n ≡ after)). ⊎_elim
          (λ (was : In r.state.sent (ballot_of round n)). rw i.1 (le_trans (r.rounds n round was) (rw i.0 moves.round)))
          (λ (new : (n ≡ m) × (round ≤ (instance_at e after.instances).round)). rw i.1 new.1) (moves.prepares n round h))
          (λ (d : (n ≢ m) × (put m after manager n ≡ manager n)). ⊎_elim
          (λ (was : In r.state.sent (ballot_of round n)). rw d.1 (r.rounds n round was))
          (λ (new : (n ≡ m) × (round ≤ (instance_at e after.instances).round)). absurd (d.0 new.0)) (moves.prepares n round h)) (put_cases m after manager n);
      views = subst (λ (st : PaxosState). AllViews (Follows learned e) st) moves.made (event_keeps (Follows learned e) e managers r.state r.views moves.event moves.may moves.proposes);
      chosen = λ v h of not_first. still_chosen r.state moves.state moves.grows v (r.chosen v h of not_first);
    }

    -- so it is at every epoch, where the instance of e moves; what that one sends then is among the letters
    pub record Moved (e : ℕ) (state : PaxosState) (f : ℕ) : Type 0 where
      pub run : InstanceRun (put m after manager) (sent ++ letters) learned f
      pub among : f ≡ e → (l : PaxosLetter) → In state.sent l → In run.state.sent l

    pub moved : (e : ℕ) (runs : (f : ℕ) → InstanceRun manager sent learned f) (moves : Moves e (runs e).state) → (f : ℕ) → Moved e moves.state f
    unfolding moved_at
    moved e runs moves f = ⊎_elim
        (λ (is : f ≡ e). subst (λ (k : ℕ). Moved e moves.state k) (sym is) (record { run = moved_at e (runs e) moves; among = λ same l h. h }))
        (λ (other : f ≢ e). record {
          run = kept f (runs f) (moves.instances f other)
              (λ p is of. moves.proposal p is (λ (same : p.epoch ≡ e). other (sym of ∙ same)))
              (λ l n h of by. absurd (other (sym of ∙ (moves.said l n h by).0)));
          among = λ same. absurd (other same);
        }) (cases_eq f e)

  -- more views are learned
  pub learning : (manager : ℕ → ManagerState) (sent : List Letter) (learned more : List View) (f : ℕ) (r : InstanceRun manager sent learned f) → ((v : View) → In learned v → In more v) →
      ((v : View) → In more v → v.epoch ≡ f → f ≢ 1 → IsChosen managers r.state v) → InstanceRun manager sent more f
  learning manager sent learned more f r keeps chosen = record {
    events = r.events;
    state = r.state;
    run = r.run;
    last = r.last;
    up = r.up;
    acceptors = r.acceptors;
    proposals = r.proposals;
    letters = r.letters;
    backed = r.backed;
    rounds = r.rounds;
    views = all_weaker (Follows learned f) (Follows more f) (λ v h. record { before = h.before; among = keeps h.before h.among; earlier = h.earlier; change = h.change }) r.state r.views;
    chosen = chosen;
  }
