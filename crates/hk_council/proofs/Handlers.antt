-- What is known of the step of each event.
use Rattle.std.proofs.Common.{◌≡◌, ℕ, ◌+◌, ◌<◌, ◌≤◌, ◌||◌, ◌&&◌, ◌==◌, Bool, true, false, cond, List, [], ◌∷◌, ◌++◌, Option, None, Some, max, min, nat_lt, nat_le, Result, Ok, Err, refl, sym, ap, subst, ◌∙◌, inl, inr, ⊎_elim, arith, le_refl, le_of_lt}
use Rattle.std.specs.Option.{option_map, option_to_list}
use Rattle.std.proofs.lemmas.Bool.{ltb-true, ltb-false, eqb-true}
use Rattle.hk_base.specs.declared.stamp.NodeId.{NodeId}
use Rattle.hk_base.specs.declared.time.TheConstants.{MAX_TIME}
use Rattle.hk_base.specs.declared.view.Ballot.{Ballot}
use Rattle.hk_base.specs.declared.view.Change.{Change}
use Rattle.hk_base.specs.declared.view.View.{View}
use Rattle.hk_base.specs.declared.view.Voted.{Voted}
use Rattle.hk_base.specs.declared.letter.Actor.{Actor}
use Rattle.hk_base.specs.declared.letter.Actor.TheVariants.{Node, Manager}
use Rattle.hk_base.specs.declared.letter.Body.{Body}
use Rattle.hk_base.specs.declared.letter.Letter.{Letter}
use Rattle.hk_paxos.specs.declared.acceptor.Promise.{Promise}
use Rattle.hk_paxos.specs.declared.proposer.Proposer.{Proposer}
use Rattle.hk_paxos.specs.Paxos.{stays, acceptor_on_prepare, acceptor_on_accept, proposer_new, proposer_on_promise, proposer_on_accepted, counts_promise, counts_acceptance, with_promise, with_acceptance, has_promises, has_acceptances, value_of}
use Rattle.hk_paxos.specs.Run.{PaxosLetter, PaxosState, In, put, on_promise, on_accepted}
use Rattle.hk_paxos.specs.Run.PaxosLetter.{PrepareLetter, PromiseLetter, AcceptLetter, AcceptedLetter, ChosenLetter}
use Rattle.hk_paxos.specs.Run.PaxosEvent.{Propose as ProposeEvent}
use Rattle.hk_lease.specs.declared.grants.NotPast.{NotPast as StillRuns}
use Rattle.hk_lease.specs.Grants.{with_grant}
use Rattle.hk_lease.specs.Past.{past_answer}
use Rattle.hk_base.specs.View.{is_member}
use Rattle.hk_lease.specs.Wait.{wait}
use Rattle.hk_manager.specs.declared.event.ManagerEvent.{ManagerEvent}
use Rattle.hk_manager.specs.declared.event.ManagerEvent.TheVariants.{Propose, Receive, Activate, Tick}
use Rattle.hk_manager.specs.declared.fault.ManagerFault.{ManagerFault}
use Rattle.hk_manager.specs.declared.fault.ManagerFault.TheVariants.{Behind}
use Rattle.hk_manager.specs.declared.instance.Instance.{Instance}
use Rattle.hk_manager.specs.declared.instance.TheConstants.{MAX_EPOCH, MAX_ROUND}
use Rattle.hk_manager.specs.Manager.{ManagerState, instance_at, with_instance}
use Rattle.hk_manager.specs.Changes.{changed, change_fault}
use Rattle.hk_manager.specs.Laws.{OfStep}
use Rattle.hk_manager.specs.Sends.{letter_to, to_all, to_others, to_members, told_all}
use Rattle.hk_manager.specs.Steps.{ManagerStepped, sends, idle, learns, promise_body, prepares, accepts, counts_promise as takes_promise, reports, counts_acceptance as takes_acceptance, proposal_in, at_proposal, asks_lease, is_too_late, from_node, from_manager, is_addressed, receives_from, receives, begins, begins_unless, proposes, activates_by, manager_step}
use Rattle.hk_council.specs.Council.{Council, WasSent}
use Rattle.hk_council.specs.Agreed.{IsOneOf}
use Rattle.hk_council.proofs.Chains.{change_epoch}
use Rattle.hk_council.proofs.Instances.{IsSaid, IsBacked, ballot_of, instance_same, instance_other, Moves}
use Rattle.hk_council.proofs.Learning.{Sound, Outcome}
use Rattle.hk_council.proofs.Steps.{put_here, put_there, all_hear, told_backs, some_managers, all_say, others_say, members_say, Spoken, spoken_at, one_of, told, quiet, moving, acceptor_outcome, proposed_views, proposer_moves}

-- ---- a proposal keeps its epoch
promise_epoch : (p : Proposer) (from : ℕ) (promise : Promise) → (proposer_on_promise p from promise).after.epoch ≡ p.epoch
promise_epoch p from promise = at (counts_promise p from promise.ballot)
  where
    at : (b : Bool) → (cond b (record { after = with_promise p from promise.accepted; answer = cond (has_promises (with_promise p from promise.accepted)) (Some (value_of (with_promise p from promise.accepted))) None }) (stays p)).after.epoch ≡ p.epoch
    at true = refl
    at false = refl

acceptance_epoch : (p : Proposer) (from : ℕ) (ballot : Ballot) → (proposer_on_accepted p from ballot).after.epoch ≡ p.epoch
acceptance_epoch p from ballot = at (counts_acceptance p from ballot)
  where
    at : (b : Bool) → (cond b (record { after = with_acceptance p from; answer = cond (has_acceptances (with_acceptance p from)) (Some (value_of (with_acceptance p from))) None }) (stays p)).after.epoch ≡ p.epoch
    at true = refl
    at false = refl

no_prepare : (answer : Option View) (letter : View → PaxosLetter) → ((v : View) (ballot : Ballot) → letter v ≡ PrepareLetter ballot → ⊥) → (ballot : Ballot) → In (option_to_list (option_map letter answer)) (PrepareLetter ballot) → ⊥
no_prepare None letter none ballot h = h
no_prepare (Some v) letter none ballot (inl is) = none v ballot (sym is)
no_prepare (Some v) letter none ballot (inr h) = h

same_view : (v w : View) → Body.Chosen v ≡ Body.Chosen w → v ≡ w
same_view v w e = cc

same_prepared : (a b : Ballot) → PrepareLetter a ≡ PrepareLetter b → a ≡ b
same_prepared a b e = cc

same_activated : (v w : View) → Body.Activate v ≡ Body.Activate w → v ≡ w
same_activated v w e = cc

module _ (managers : ℕ) (c : Council) (sound : Sound managers c) (m : ℕ) (known : m < managers) where
  abbrev M : ManagerState
  M = c.manager m

  abbrev Fine : ManagerStepped → Type 0
  Fine stepped = Outcome managers c m stepped

  choice : (b : Bool) (x y : ManagerStepped) → Fine x → Fine y → Fine (cond b x y)
  choice true x y p q = p
  choice false x y p q = q

  silent : (now : ManagerState) → now.id ≡ M.id → now.managers ≡ M.managers → now.instances ≡ M.instances → now.proposal ≡ M.proposal → now.held ≡ M.held → Fine (idle now)
  silent now id count instances proposal held =
      quiet managers c sound m known now [] None id count instances proposal (inl held) (rw held (le_refl M.held.epoch)) (λ l h. absurd h)

  nothing : Fine (idle M)
  nothing = silent M refl refl refl refl refl

  -- ---- letters of Paxos
  prepare_fine : (e : ℕ) (ballot : Ballot) → In (sound.runs e).state.sent (PrepareLetter ballot) → Fine (prepares M e ballot)
  prepare_fine e ballot h =
      acceptor_outcome managers c sound m known e (PrepareLetter ballot) (λ a. acceptor_on_prepare a ballot) (λ promise. PromiseLetter m promise) promise_body ballot.round h
      (λ st. refl) (λ a b is. absurd cc) (λ a sent k. k) (λ a v is. absurd cc) (λ a v is. absurd cc) (λ a sent k. k)

  accept_fine : (e : ℕ) (ballot : Ballot) (view : View) → In (sound.runs e).state.sent (AcceptLetter ballot view) → Fine (accepts M e ballot view)
  accept_fine e ballot view h =
      acceptor_outcome managers c sound m known e (AcceptLetter ballot view) (λ a. acceptor_on_accept a ballot view) (λ at. AcceptedLetter m (record { ballot = at; view = view })) (λ at. Body.Accepted at) ballot.round h
      (λ st. refl) (λ a b is. absurd cc) (λ a sent k. (view, k)) (λ a v is. absurd cc) (λ a v is. absurd cc) (λ a sent k. k)

  module _ (e : ℕ) (p : Proposer) (is : M.proposal ≡ Some p) (of : p.epoch ≡ e) where
    module _ (from : ℕ) (promise : Promise) (sent : In (sound.runs e).state.sent (PromiseLetter from promise)) where
      abbrev offered : List PaxosLetter
      offered = option_to_list (option_map (λ view. AcceptLetter p.ballot view) (proposer_on_promise p from promise).answer)

      abbrev offers : List Letter
      offers = told_all M p.epoch (option_map (λ view. Body.Accept p.ballot view) (proposer_on_promise p from promise).answer)

      offers_spoken : (l : Letter) → In offers l → Spoken e m (offered ++ (sound.runs e).state.sent) l
      offers_spoken l k = subst (λ (x : ℕ). Spoken x m (offered ++ (sound.runs e).state.sent) l) of
          (told M p.epoch m (proposer_on_promise p from promise).answer (λ view. Body.Accept p.ballot view) (λ view. AcceptLetter p.ballot view) (sound.runs e).state.sent (sound.ids m) (λ a sent g. g) (λ a v g. absurd cc) l k)

      offers_none : (answer : Option View) (l : Letter) (v : View) → In (told_all M p.epoch (option_map (λ view. Body.Accept p.ballot view) answer)) l → l.body ≡ Body.Chosen v → ⊥
      offers_none None l v k says = k
      offers_none (Some view) l v k says = let s = all_say M p.epoch (Body.Accept p.ballot view) l k in let b : Body.Accept p.ballot view ≡ Body.Chosen v = ap (λ (x : Letter). x.body) (sym s.1) ∙ says in absurd cc

      offers_backed : (q : PaxosLetter) → In offered q → IsBacked offers e q
      offers_backed q k = subst (λ (x : ℕ). IsBacked offers x q) of
          (told_backs M p.epoch m (proposer_on_promise p from promise).answer (λ view. Body.Accept p.ballot view) (λ view. AcceptLetter p.ballot view) (sound.ids m) (some_managers managers c sound m known) (λ a sent g. (m, g)) q k)

      offer_moves : Moves managers c.manager c.sent c.learned m (record M { proposal = Some (proposer_on_promise p from promise).after }) offers e (sound.runs e).state
      offer_moves =
          proposer_moves managers c sound m known e (PromiseLetter from promise) p (proposer_on_promise p from promise).after offered sent is of (promise_epoch p from promise)
          (ap (λ (o : Option Proposer). on_promise (sound.runs e).state m o from promise) ((sound.runs e).proposals m p is of))
          (no_prepare (proposer_on_promise p from promise).answer (λ view. AcceptLetter p.ballot view) (λ v b k. absurd cc))
          (record M { proposal = Some (proposer_on_promise p from promise).after }) offers refl refl offers_spoken offers_backed

      promise_fine : Fine (takes_promise p M from promise)
      promise_fine =
          moving managers c sound m known (record M { proposal = Some (proposer_on_promise p from promise).after }) offers None e offer_moves
          refl refl (inl refl) (le_refl M.held.epoch) (λ l v k says. absurd (offers_none (proposer_on_promise p from promise).answer l v k says)) (λ l v k says. (offers_spoken l k).starts_none v says)

    module _ (from : ℕ) (voted : Voted) (sent : In (sound.runs e).state.sent (AcceptedLetter from voted)) where
      abbrev now : ManagerState
      now = record M { proposal = Some (proposer_on_accepted p from voted.ballot).after }

      abbrev new : List PaxosLetter
      new = option_to_list (option_map (λ view. ChosenLetter view) (proposer_on_accepted p from voted.ballot).answer)

      asks_none : (ballot : Ballot) → In new (PrepareLetter ballot) → ⊥
      asks_none = no_prepare (proposer_on_accepted p from voted.ballot).answer (λ view. ChosenLetter view) (λ v b k. absurd cc)

      made : on_accepted (sound.runs e).state m ((sound.runs e).state.proposer m) from voted.ballot ≡ on_accepted (sound.runs e).state m (Some p) from voted.ballot
      made = ap (λ (o : Option Proposer). on_accepted (sound.runs e).state m o from voted.ballot) ((sound.runs e).proposals m p is of)

      -- a report stands for itself
      reports_only : (answer : Option View) (letters : List Letter) (q : PaxosLetter) → In (option_to_list (option_map (λ view. ChosenLetter view) answer)) q → IsBacked letters e q
      reports_only None letters q h = absurd h
      reports_only (Some v) letters q (inl says) = subst (λ (x : PaxosLetter). IsBacked letters e x) (sym says) tt
      reports_only (Some v) letters q (inr h) = absurd h

      abbrev moves_to : (then : ManagerState) (letters : List Letter) → then.instances ≡ M.instances → then.proposal ≡ Some (proposer_on_accepted p from voted.ballot).after →
          ((l : Letter) → In letters l → Spoken e m (new ++ (sound.runs e).state.sent) l) → Moves managers c.manager c.sent c.learned m then letters e (sound.runs e).state
      moves_to then letters instances proposal spoken = proposer_moves managers c sound m known e (AcceptedLetter from voted) p (proposer_on_accepted p from voted.ballot).after new sent is of (acceptance_epoch p from voted.ballot) made asks_none
          then letters instances proposal spoken (reports_only (proposer_on_accepted p from voted.ballot).answer letters)

      -- a view that is chosen is reported
      module _ (view : View) (answers : (proposer_on_accepted p from voted.ballot).answer ≡ Some view) where
        there : In (new ++ (sound.runs e).state.sent) (ChosenLetter view)
        there = rw answers (inl refl)

        epoch : view.epoch ≡ e
        epoch =
            let f = (proposed_views managers c sound m known e (AcceptedLetter from voted) p (proposer_on_accepted p from voted.ballot).after new sent is of (acceptance_epoch p from voted.ballot) made asks_none).letters (ChosenLetter view) there in
            change_epoch f.before view f.change ∙ f.earlier

        abbrev letters : List Letter
        letters = to_others now view.epoch (Body.Chosen view)

        spoken : (l : Letter) → In letters l → Spoken e m (new ++ (sound.runs e).state.sent) l
        spoken l k = subst (λ (x : ℕ). Spoken x m (new ++ (sound.runs e).state.sent) l) epoch
            (spoken_at now view.epoch m (new ++ (sound.runs e).state.sent) (Body.Chosen view) l (sound.ids m) (others_say now view.epoch (Body.Chosen view) l k) there (λ v g. absurd cc))

        said : (l : Letter) (v : View) → In letters l → l.body ≡ Body.Chosen v → view ≡ v
        said l v k says = let s = others_say now view.epoch (Body.Chosen view) l k in same_view view v (ap (λ (x : Letter). x.body) (sym s.1) ∙ says)

        report_fine : Fine (learns now view letters)
        report_fine = at (nat_lt M.held.epoch view.epoch) refl
          where
            at : (b : Bool) → nat_lt M.held.epoch view.epoch ≡ b → Fine (cond b (record { manager = record now { held = view }; letters = letters; chosen = Some view.epoch }) (sends now letters))
            at true g =
                moving managers c sound m known (record now { held = view }) letters (Some view.epoch) e (moves_to (record now { held = view }) letters refl refl spoken) refl refl
                (inr there) (le_of_lt (ltb-true M.held.epoch view.epoch g)) (λ l v k says. rw (said l v k says) (le_refl v.epoch)) (λ l v k says. (spoken l k).starts_none v says)
            at false g =
                moving managers c sound m known now letters None e (moves_to now letters refl refl spoken) refl refl
                (inl refl) (le_refl M.held.epoch) (λ l v k says. subst (λ (x : View). x.epoch ≤ M.held.epoch) (said l v k says) (ltb-false M.held.epoch view.epoch g)) (λ l v k says. (spoken l k).starts_none v says)

      acceptance_fine : Fine (takes_acceptance p M from voted.ballot)
      acceptance_fine = at (proposer_on_accepted p from voted.ballot).answer refl
        where
          at : (o : Option View) → (proposer_on_accepted p from voted.ballot).answer ≡ o → Fine (reports now o)
          at None g = moving managers c sound m known now [] None e (moves_to now [] refl refl (λ l k. absurd k)) refl refl (inl refl) (le_refl M.held.epoch) (λ l v k says. absurd k) (λ l v k says. k)
          at (Some view) g = report_fine view g

  at_proposal_fine : (e : ℕ) (step : Proposer → ManagerStepped) → ((p : Proposer) → M.proposal ≡ Some p → p.epoch ≡ e → Fine (step p)) → Fine (at_proposal (proposal_in M.proposal e) M step)
  at_proposal_fine e step each = at M.proposal refl
    where
      at : (o : Option Proposer) → M.proposal ≡ o → Fine (at_proposal (proposal_in o e) M step)
      at None g = nothing
      at (Some p) g = by (p.epoch == e) refl
        where
          by : (b : Bool) → (p.epoch == e) ≡ b → Fine (at_proposal (cond b (Some p) None) M step)
          by true k = each p g (eqb-true p.epoch e k)
          by false k = nothing

  chosen_fine : (e : ℕ) (view : View) → In (sound.runs e).state.sent (ChosenLetter view) → Fine (learns M view [])
  chosen_fine e view h = at (nat_lt M.held.epoch view.epoch) refl
    where
      at : (b : Bool) → nat_lt M.held.epoch view.epoch ≡ b → Fine (cond b (record { manager = record M { held = view }; letters = []; chosen = Some view.epoch }) (sends M []))
      at true g = quiet managers c sound m known (record M { held = view }) [] (Some view.epoch) refl refl refl refl (inr (e, h)) (le_of_lt (ltb-true M.held.epoch view.epoch g)) (λ l k. absurd k)
      at false g = nothing

  -- a manager's letter
  manager_fine : (l : Letter) (from : ℕ) (body : Body) → IsOneOf (sound.runs l.epoch).state.sent from body → Fine (from_manager body M l.epoch from)
  manager_fine l from (Body.Prepare ballot) one = choice (is_too_late ballot) (idle M) (prepares M l.epoch ballot) nothing (prepare_fine l.epoch ballot one)
  manager_fine l from (Body.Promise ballot vote) one =
      at_proposal_fine l.epoch (λ p. takes_promise p M from (record { ballot = ballot; accepted = vote })) (λ p is of. promise_fine l.epoch p is of from (record { ballot = ballot; accepted = vote }) one)
  manager_fine l from (Body.Accept ballot view) one = choice (is_too_late ballot) (idle M) (accepts M l.epoch ballot view) nothing (accept_fine l.epoch ballot view one)
  manager_fine l from (Body.Accepted ballot) one =
      at_proposal_fine l.epoch (λ p. takes_acceptance p M from ballot) (λ p is of. acceptance_fine l.epoch p is of from (record { ballot = ballot; view = one.0 }) one.1)
  manager_fine l from (Body.Chosen view) one = chosen_fine l.epoch view one
  manager_fine l from (Body.LeaseAsk asked) one = nothing
  manager_fine l from (Body.Inv key s kind content) one = nothing
  manager_fine l from (Body.Ack key s top) one = nothing
  manager_fine l from (Body.Val key s) one = nothing
  manager_fine l from (Body.CopyAsk after room) one = nothing
  manager_fine l from (Body.CopyGive after done items) one = nothing
  manager_fine l from (Body.LeaseGive end) one = nothing
  manager_fine l from (Body.Activate view) one = nothing

  -- ---- leases
  ask_fine : (from : NodeId) (asked : ℕ) → Fine (asks_lease M from asked)
  ask_fine from asked = choice (is_member from M.held.members) _ (idle M)
      (quiet managers c sound m known (record M { untils = with_grant M.untils from (M.clock + wait M.lease) }) (letter_to M M.held.epoch (Body.LeaseGive (min (asked + M.lease) MAX_TIME)) (Node from) ∷ []) None
      refl refl refl refl (inl refl) (le_refl M.held.epoch) each) nothing
    where
      each : (l : Letter) → In (letter_to M M.held.epoch (Body.LeaseGive (min (asked + M.lease) MAX_TIME)) (Node from) ∷ []) l →
          (l.from ≡ Manager m) × ((sent : List PaxosLetter) (n : ℕ) → IsOneOf sent n l.body) × ((v : View) → l.body ≡ Body.Activate v → (v ≡ M.held) × (v.epoch ≡ l.epoch))
      each l (inl g) = rw g (ap Manager (sound.ids m), (λ sent n. tt), (λ v says. absurd cc))
      each l (inr h) = absurd h

  node_fine : (body : Body) (from : NodeId) → Fine (from_node body M from)
  node_fine (Body.LeaseAsk asked) from = ask_fine from asked
  node_fine (Body.Inv key s kind content) from = nothing
  node_fine (Body.Ack key s top) from = nothing
  node_fine (Body.Val key s) from = nothing
  node_fine (Body.CopyAsk after room) from = nothing
  node_fine (Body.CopyGive after done items) from = nothing
  node_fine (Body.LeaseGive end) from = nothing
  node_fine (Body.Prepare ballot) from = nothing
  node_fine (Body.Promise ballot vote) from = nothing
  node_fine (Body.Accept ballot view) from = nothing
  node_fine (Body.Accepted ballot) from = nothing
  node_fine (Body.Chosen view) from = nothing
  node_fine (Body.Activate view) from = nothing

  receive_fine : (l : Letter) → In c.sent l → Fine (receives M l)
  receive_fine l h = choice (is_addressed M l.to && nat_le l.epoch MAX_EPOCH) (receives_from l.from M l) (idle M) (by l.from refl) nothing
    where
      by : (a : Actor) → l.from ≡ a → Fine (receives_from a M l)
      by (Node from) g = node_fine l.body from
      by (Manager from) g = choice (nat_lt from M.managers) (from_manager l.body M l.epoch from) (idle M) (manager_fine l from l.body ((sound.runs l.epoch).letters l from h refl g)) nothing

  -- ---- views that begin
  activate_fine : (past : Result Unit StillRuns) → OfStep Fine (activates_by past M)
  activate_fine (Err running) = tt
  activate_fine (Ok past) = quiet managers c sound m known M (to_members M M.held.epoch (Body.Activate M.held)) None refl refl refl refl (inl refl) (le_refl M.held.epoch) each
    where
      each : (l : Letter) → In (to_members M M.held.epoch (Body.Activate M.held)) l →
          (l.from ≡ Manager m) × ((sent : List PaxosLetter) (n : ℕ) → IsOneOf sent n l.body) × ((v : View) → l.body ≡ Body.Activate v → (v ≡ M.held) × (v.epoch ≡ l.epoch))
      each l h =
          let s = members_say M M.held.epoch (Body.Activate M.held) l h in
          rw s.1 (ap Manager (sound.ids m), (λ sent n. tt), (λ v says. (sym (same_activated M.held v says), ap (λ (x : View). x.epoch) (sym (same_activated M.held v says)))))

  -- ---- proposals
  module _ (change : Change) (possible : change_fault M.held change ≡ None) where
    abbrev e : ℕ
    e = M.held.epoch + 1

    abbrev before : Instance
    before = instance_at (M.held.epoch + 1) M.instances

    abbrev instance : Instance
    instance = record (instance_at (M.held.epoch + 1) M.instances) { round = (instance_at (M.held.epoch + 1) M.instances).round + 1 }

    abbrev ballot : Ballot
    ballot = record { round = (instance_at (M.held.epoch + 1) M.instances).round + 1; manager = M.id }

    abbrev proposer : Proposer
    proposer = proposer_new (M.held.epoch + 1) ballot (changed M.held change) M.managers

    abbrev begun : ManagerState
    begun = record (with_instance M (M.held.epoch + 1) instance) { proposal = Some proposer }

    abbrev asks : List Letter
    asks = to_all M (M.held.epoch + 1) (Body.Prepare ballot)

    abbrev st : PaxosState
    st = (sound.runs (M.held.epoch + 1)).state

    abbrev own : Ballot
    own = record { round = (instance_at (M.held.epoch + 1) M.instances).round + 1; manager = m }

    abbrev theirs : Proposer
    theirs = proposer_new (M.held.epoch + 1) own (changed M.held change) managers

    same_ballot : ballot ≡ own
    same_ballot = ap (λ (k : ℕ). record { round = (instance_at (M.held.epoch + 1) M.instances).round + 1; manager = k }) (sound.ids m)

    same_proposer : proposer ≡ theirs
    same_proposer = ap (λ (b : Ballot). proposer_new (M.held.epoch + 1) b (changed M.held change) M.managers) same_ballot ∙ ap (λ (k : ℕ). proposer_new (M.held.epoch + 1) own (changed M.held change) k) (sound.counts m)

    same_some : (x y : Proposer) → Some x ≡ Some y → x ≡ y
    same_some x y h = cc

    asks_spoken : (l : Letter) → In asks l → Spoken e m (PrepareLetter own ∷ st.sent) l
    asks_spoken l k = spoken_at M e m (PrepareLetter own ∷ st.sent) (Body.Prepare ballot) l (sound.ids m) (all_say M e (Body.Prepare ballot) l k) (inl (ap PrepareLetter same_ballot)) (λ v g. absurd cc)

    asks_report_none : (l : Letter) (v : View) → In asks l → l.body ≡ Body.Chosen v → ⊥
    asks_report_none l v k says = let s = all_say M e (Body.Prepare ballot) l k in let b : Body.Prepare ballot ≡ Body.Chosen v = ap (λ (x : Letter). x.body) (sym s.1) ∙ says in absurd cc

    asks_said : IsSaid asks e m (Body.Prepare own)
    asks_said = subst (λ (b : Ballot). IsSaid asks e m (Body.Prepare b)) same_ballot (all_hear M e m (Body.Prepare ballot) (sound.ids m) (some_managers managers c sound m known))

    numbers : (r n k j : ℕ) → ballot_of r n ≡ ballot_of k j → (n ≡ j) × (r ≡ k)
    numbers r n k j h = let b = same_prepared (record { round = r; manager = n }) (record { round = k; manager = j }) h in (ap (λ (x : Ballot). x.manager) b, ap (λ (x : Ballot). x.round) b)

    moves : Moves managers c.manager c.sent c.learned m begun asks e st
    moves = record {
      event = ProposeEvent m own.round (changed M.held change);
      may = (record { known = known; running = (sound.runs e).up m }, λ h. absurd (omega (arith, (sound.runs e).rounds m own.round h)));
      proposes = record { before = M.held; among = sound.held m; earlier = refl; change = record { change = change; possible = possible; made = refl } };
      state = record st { proposer = put m (Some theirs) st.proposer; sent = PrepareLetter own ∷ st.sent };
      made = refl;
      stopped = λ n. refl;
      its_acceptor = (sound.runs e).acceptors m ∙ ap (λ (i : Instance). i.acceptor) (sym (instance_same M.instances e instance));
      acceptors = λ n d. refl;
      its_proposal = λ q h k. put_here m (Some theirs) st.proposer ∙ ap (λ (x : Proposer). Some x) (sym same_proposer) ∙ h;
      proposers = λ n d. put_there m (Some theirs) st.proposer n d;
      grows = λ l h. inr h;
      round = rw (instance_same M.instances e instance) (omega arith);
      prepares = λ n r h. ⊎_elim
          (λ (is : ballot_of r n ≡ PrepareLetter own). let x = numbers r n own.round m is in inr (x.0, rw (instance_same M.instances e instance, x.1) (le_refl own.round)))
          (λ (s : In st.sent (ballot_of r n)). inl s) h;
      said = λ l n h by. one_of e m n (PrepareLetter own ∷ st.sent) l (asks_spoken l h) by;
      backs = λ q h. ⊎_elim (λ (is : q ≡ PrepareLetter own). inr (subst (λ (x : PaxosLetter). IsBacked asks e x) (sym is) asks_said)) (λ (s : In st.sent q). inl s) h;
      sender = λ l h. (asks_spoken l h).sender;
      instances = λ f d. instance_other M.instances e instance f d;
      proposal = λ q h d. absurd (d (ap (λ (x : Proposer). x.epoch) (sym (same_some proposer q h))));
    }

    begin_fine : Fine (begins M change)
    begin_fine = choice (nat_lt MAX_EPOCH (M.held.epoch + 1) || nat_lt MAX_ROUND (before.round + 1)) (idle M) _ nothing
        (moving managers c sound m known begun asks None e moves refl refl (inl refl) (le_refl M.held.epoch) (λ l v k says. absurd (asks_report_none l v k says)) (λ l v k says. (asks_spoken l k).starts_none v says))

  unless_fine : (fault : Option ManagerFault) (change : Change) → change_fault M.held change ≡ fault → OfStep Fine (begins_unless fault M change)
  unless_fine (Some fault) change is = tt
  unless_fine None change is = begin_fine change is

  propose_fine : (base : ℕ) (change : Change) → OfStep Fine (proposes M base change)
  propose_fine base change = at (M.held.epoch == base)
    where
      at : (b : Bool) → OfStep Fine (cond b (begins_unless (change_fault M.held change) M change) (Err (Behind M.held.epoch)))
      at true = unless_fine (change_fault M.held change) change refl
      at false = tt

  pub step_fine : (event : ManagerEvent) → WasSent c event → OfStep Fine (manager_step M event)
  step_fine (Propose base change) was = propose_fine base change
  step_fine (Receive letter) was = receive_fine letter was
  step_fine Activate was = activate_fine (past_answer M.untils M.held M.clock)
  step_fine (Tick time) was = silent (record M { clock = max M.clock time }) refl refl refl refl refl
