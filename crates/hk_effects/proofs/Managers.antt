-- What a manager sends tells nothing of any key.
use Rattle.std.proofs.Common.{◌≡◌, ℕ, Bool, true, false, cond, List, [], ◌∷◌, ◌++◌, map, ◌∙◌, refl, sym, ap, subst, inl, inr, ⊎_elim, min, Option, Some, None, Result, Ok, Err, IfSome, nat_lt, nat_le, nat_eq, ◌&&◌, ◌||◌, ◌+◌}
use Rattle.std.specs.Prelude.{⊤, not, ◌==◌}
use Rattle.std.specs.List.{filter, range_with_len}
use Rattle.std.specs.Option.{option_map}
use Rattle.hk_base.specs.declared.stamp.NodeId.{NodeId}
use Rattle.hk_base.specs.declared.time.TheConstants.{MAX_TIME}
use Rattle.hk_base.specs.declared.view.View.{View}
use Rattle.hk_base.specs.declared.view.Ballot.{Ballot}
use Rattle.hk_base.specs.declared.view.Change.{Change}
use Rattle.hk_base.specs.declared.letter.Actor.{Actor}
use Rattle.hk_base.specs.declared.letter.Actor.TheVariants.{Node, Manager}
use Rattle.hk_base.specs.declared.letter.Body.{Body}
use Rattle.hk_base.specs.declared.letter.Body.TheVariants as Body
use Rattle.hk_base.specs.declared.letter.Letter.{Letter}
use Rattle.hk_register.specs.Machine.{In, Message}
use Rattle.hk_paxos.specs.declared.proposer.Proposer.{Proposer}
use Rattle.hk_paxos.specs.Paxos.{acceptor_on_prepare, acceptor_on_accept, proposer_new, proposer_on_promise, proposer_on_accepted}
use Rattle.hk_lease.specs.declared.grants.NotPast.{NotPast as StillRuns}
use Rattle.hk_lease.specs.Grants.{with_grant}
use Rattle.hk_lease.specs.Wait.{wait}
use Rattle.hk_lease.specs.Past.{past_answer}
use Rattle.hk_base.specs.View.{is_member}
use Rattle.hk_manager.specs.declared.event.ManagerEvent.{ManagerEvent}
use Rattle.hk_manager.specs.declared.event.ManagerEvent.TheVariants.{Propose, Receive, Activate, Tick}
use Rattle.hk_manager.specs.declared.fault.ManagerFault.{ManagerFault}
use Rattle.hk_manager.specs.declared.fault.ManagerFault.TheVariants.{Behind, NotPast}
use Rattle.hk_manager.specs.declared.instance.Instance.{Instance}
use Rattle.hk_manager.specs.declared.instance.TheConstants.{MAX_EPOCH, MAX_ROUND}
use Rattle.hk_manager.specs.Manager.{ManagerState, instance_at, with_instance}
use Rattle.hk_manager.specs.Changes.{changed, change_fault}
use Rattle.hk_manager.specs.Sends.{letter_to, to_all, to_others, to_members, told_all}
use Rattle.hk_manager.specs.Steps.{ManagerStepped, sends, idle, manager_ticks, learns, promise_body, prepares, accepts, counts_promise, reports, counts_acceptance, proposal_in, at_proposal, is_too_late, from_node, from_manager, is_addressed, receives_from, receives, begins, begins_unless, proposes, activates_by, activates, manager_step}
use Rattle.hk_effects.specs.Projection.{letter_of, letters_of}
use Rattle.hk_effects.specs.Own.{IsTold}

-- What a manager says: it tells nothing of any key, and lets only the view begin that it holds.
abbrev pub Says : View → Body → Type 0
Says held (Body.Activate view) = view ≡ held
Says held (Body.Inv k s kind content) = ⊥
Says held (Body.Ack k s top) = ⊥
Says held (Body.Val k s) = ⊥
Says held (Body.CopyAsk after room) = ⊥
Says held (Body.CopyGive after done items) = ⊥
Says held body = ⊤

abbrev pub AreSaid : View → List Letter → Type 0
AreSaid held letters = (l : Letter) → In letters l → Says held l.body

-- one body to any number of actors
each_said : {X : Type 0} (held : View) (m : ManagerState) (epoch : ℕ) (body : Body) → Says held body → (to : X → Actor) (xs : List X) → AreSaid held (map (λ x. letter_to m epoch body (to x)) xs)
each_said held m epoch body says to [] l h = absurd h
each_said held m epoch body says to (x ∷ xs) l (inl is) = subst (λ (k : Letter). Says held k.body) (sym is) says
each_said held m epoch body says to (x ∷ xs) l (inr h) = each_said held m epoch body says to xs l h

told_said : (held : View) (m : ManagerState) (epoch : ℕ) (body : Option Body) → IfSome body (Says held) → AreSaid held (told_all m epoch body)
told_said held m epoch None says l h = absurd h
told_said held m epoch (Some body) says l h = each_said held m epoch body says Manager (range_with_len 0 m.managers) l h

module _ (held : View) where
  abbrev Fine : ManagerStepped → Type 0
  Fine s = AreSaid held s.letters

  choice : (b : Bool) (x y : ManagerStepped) → Fine x → Fine y → Fine (cond b x y)
  choice true x y p q = p
  choice false x y p q = q

  none : (m : ManagerState) → Fine (idle m)
  none m l h = absurd h

  learns_fine : (m : ManagerState) (view : View) (letters : List Letter) → AreSaid held letters → Fine (learns m view letters)
  learns_fine m view letters silent = choice (nat_lt m.held.epoch view.epoch) (record { manager = record m { held = view }; letters = letters; chosen = Some view.epoch }) (sends m letters) silent silent

  -- what is said to every manager, if anything
  said : {X : Type 0} (answer : Option X) (body : X → Body) → ((x : X) → Says held (body x)) → IfSome (option_map body answer) (Says held)
  said None body silent = tt
  said (Some x) body silent = silent x

  reports_fine : (m : ManagerState) (answer : Option View) → Fine (reports m answer)
  reports_fine m None = none m
  reports_fine m (Some view) = learns_fine m view (to_others m view.epoch (Body.Chosen view)) (each_said held m view.epoch (Body.Chosen view) tt Manager (filter (λ to. not (to == m.id)) (range_with_len 0 m.managers)))

  at_proposal_fine : (m : ManagerState) (o : Option Proposer) (step : Proposer → ManagerStepped) → ((p : Proposer) → Fine (step p)) → Fine (at_proposal o m step)
  at_proposal_fine m None step each = none m
  at_proposal_fine m (Some p) step each = each p

  from_manager_fine : (body : Body) (m : ManagerState) (epoch from : ℕ) → Fine (from_manager body m epoch from)
  from_manager_fine (Body.Prepare ballot) m epoch from = choice (is_too_late ballot) (idle m) (prepares m epoch ballot) (none m)
      (told_said held m epoch _ (said (acceptor_on_prepare (instance_at epoch m.instances).acceptor ballot).answer promise_body (λ promise. tt)))
  from_manager_fine (Body.Promise ballot vote) m epoch from = at_proposal_fine m (proposal_in m.proposal epoch) (λ p. counts_promise p m from (record { ballot = ballot; accepted = vote }))
      (λ p. told_said held m p.epoch _ (said (proposer_on_promise p from (record { ballot = ballot; accepted = vote })).answer (λ view. Body.Accept p.ballot view) (λ view. tt)))
  from_manager_fine (Body.Accept ballot view) m epoch from = choice (is_too_late ballot) (idle m) (accepts m epoch ballot view) (none m)
      (told_said held m epoch _ (said (acceptor_on_accept (instance_at epoch m.instances).acceptor ballot view).answer (λ at. Body.Accepted at) (λ at. tt)))
  from_manager_fine (Body.Accepted ballot) m epoch from = at_proposal_fine m (proposal_in m.proposal epoch) (λ p. counts_acceptance p m from ballot)
      (λ p. reports_fine (record m { proposal = Some (proposer_on_accepted p from ballot).after }) (proposer_on_accepted p from ballot).answer)
  from_manager_fine (Body.Chosen view) m epoch from = learns_fine m view [] (λ l h. absurd h)
  from_manager_fine (Body.LeaseAsk asked) m epoch from = none m
  from_manager_fine (Body.LeaseGive end) m epoch from = none m
  from_manager_fine (Body.Activate view) m epoch from = none m
  from_manager_fine (Body.Inv k s kind content) m epoch from = none m
  from_manager_fine (Body.Ack k s top) m epoch from = none m
  from_manager_fine (Body.Val k s) m epoch from = none m
  from_manager_fine (Body.CopyAsk after room) m epoch from = none m
  from_manager_fine (Body.CopyGive after done items) m epoch from = none m

  from_node_fine : (body : Body) (m : ManagerState) (from : NodeId) → Fine (from_node body m from)
  from_node_fine (Body.LeaseAsk asked) m from = choice (is_member from m.held.members) (sends (record m { untils = with_grant m.untils from (m.clock + wait m.lease) }) (give ∷ [])) (idle m) (λ l h. ⊎_elim (λ (is : l ≡ give). subst (λ (k : Letter). Says held k.body) (sym is) tt) (λ (no_more : ⊥). absurd no_more) h) (none m)
    where
      give : Letter
      give = letter_to m m.held.epoch (Body.LeaseGive (min (asked + m.lease) MAX_TIME)) (Node from)
  from_node_fine (Body.Prepare ballot) m from = none m
  from_node_fine (Body.Promise ballot vote) m from = none m
  from_node_fine (Body.Accept ballot view) m from = none m
  from_node_fine (Body.Accepted ballot) m from = none m
  from_node_fine (Body.Chosen view) m from = none m
  from_node_fine (Body.LeaseGive end) m from = none m
  from_node_fine (Body.Activate view) m from = none m
  from_node_fine (Body.Inv k s kind content) m from = none m
  from_node_fine (Body.Ack k s top) m from = none m
  from_node_fine (Body.Val k s) m from = none m
  from_node_fine (Body.CopyAsk after room) m from = none m
  from_node_fine (Body.CopyGive after done items) m from = none m

  receives_fine : (m : ManagerState) (l : Letter) → Fine (receives m l)
  receives_fine m l = choice (is_addressed m l.to && nat_le l.epoch MAX_EPOCH) (receives_from l.from m l) (idle m) (by_from l.from) (none m)
    where
      by_from : (a : Actor) → Fine (receives_from a m l)
      by_from (Node from) = from_node_fine l.body m from
      by_from (Manager from) = choice (nat_lt from m.managers) (from_manager l.body m l.epoch from) (idle m) (from_manager_fine l.body m l.epoch from) (none m)

  abbrev IfMade : Result ManagerStepped ManagerFault → Type 0
  IfMade r = (s : ManagerStepped) → r ≡ Ok s → Fine s

  made : (x : ManagerStepped) → Fine x → IfMade (Ok x)
  made x fine s is = let same : x ≡ s = cc in subst Fine same fine

  not_made : (fault : ManagerFault) → IfMade (Err fault)
  not_made fault s is = cc

  begins_fine : (m : ManagerState) (change : Change) → Fine (begins m change)
  begins_fine m change = choice (nat_lt MAX_EPOCH epoch || nat_lt MAX_ROUND (instance.round + 1)) (idle m)
      (sends (record (with_instance m epoch (record instance { round = instance.round + 1 })) { proposal = Some (proposer_new epoch ballot (changed m.held change) m.managers) }) (to_all m epoch (Body.Prepare ballot))) (none m)
      (each_said held m epoch (Body.Prepare ballot) tt Manager (range_with_len 0 m.managers))
    where
      epoch : ℕ
      epoch = m.held.epoch + 1

      instance : Instance
      instance = instance_at epoch m.instances

      ballot : Ballot
      ballot = record { round = instance.round + 1; manager = m.id }

  proposes_fine : (m : ManagerState) (base : ℕ) (change : Change) → IfMade (proposes m base change)
  proposes_fine m base change = by_base (nat_eq m.held.epoch base)
    where
      by_fault : (o : Option ManagerFault) → IfMade (begins_unless o m change)
      by_fault None = made (begins m change) (begins_fine m change)
      by_fault (Some fault) = not_made fault

      by_base : (b : Bool) → IfMade (cond b (begins_unless (change_fault m.held change) m change) (Err (Behind m.held.epoch)))
      by_base true = by_fault (change_fault m.held change)
      by_base false = not_made (Behind m.held.epoch)

  activates_fine : (m : ManagerState) → m.held ≡ held → IfMade (activates m)
  activates_fine m same = by_past (past_answer m.untils m.held m.clock)
    where
      by_past : (r : Result Unit StillRuns) → IfMade (activates_by r m)
      by_past (Ok _) = made (sends m (to_members m m.held.epoch (Body.Activate m.held))) (each_said held m m.held.epoch (Body.Activate m.held) same Node m.held.members)
      by_past (Err running) = not_made (NotPast running.node running.end)

  step_fine : (m : ManagerState) → m.held ≡ held → (event : ManagerEvent) → IfMade (manager_step m event)
  step_fine m same (Propose base change) = proposes_fine m base change
  step_fine m same (Receive letter) = made (receives m letter) (receives_fine m letter)
  step_fine m same Activate = activates_fine m same
  step_fine m same (Tick now) = made (manager_ticks m now) (λ l h. absurd h)

pub manager_says : (m : ManagerState) (event : ManagerEvent) (s : ManagerStepped) → manager_step m event ≡ Ok s → AreSaid m.held s.letters
manager_says m event s is = step_fine m.held m refl event s is

-- ---- so
says_told : (held : View) (body : Body) → Says held body → IsTold body
says_told held (Body.Activate view) h = tt
says_told held (Body.Ack k s top) h = tt
says_told held (Body.Val k s) h = tt
says_told held (Body.CopyAsk after room) h = tt
says_told held (Body.LeaseAsk asked) h = tt
says_told held (Body.LeaseGive end) h = tt
says_told held (Body.Prepare ballot) h = tt
says_told held (Body.Promise ballot vote) h = tt
says_told held (Body.Accept ballot view) h = tt
says_told held (Body.Accepted ballot) h = tt
says_told held (Body.Chosen view) h = tt
says_told held (Body.Inv k s kind content) h = absurd h
says_told held (Body.CopyGive after done items) h = absurd h

pub managers_told : (held : View) (letters : List Letter) → AreSaid held letters → (l : Letter) → In letters l → IsTold l.body
managers_told held letters said l h = says_told held l.body (said l h)

pub managers_begin : (held : View) (letters : List Letter) → AreSaid held letters → (l : Letter) (v : View) → In letters l → l.body ≡ Body.Activate v → v ≡ held
managers_begin held letters said l v h is = subst (Says held) is (said l h)

says_silent : (held : View) (body : Body) → Says held body → (key : List ℕ) (l : Letter) → letter_of key l body ≡ []
says_silent held (Body.Activate view) h key l = refl
says_silent held (Body.Inv k s kind content) h key l = absurd h
says_silent held (Body.Ack k s top) h key l = absurd h
says_silent held (Body.Val k s) h key l = absurd h
says_silent held (Body.CopyAsk after room) h key l = absurd h
says_silent held (Body.CopyGive after done items) h key l = absurd h
says_silent held (Body.LeaseAsk asked) h key l = refl
says_silent held (Body.LeaseGive end) h key l = refl
says_silent held (Body.Prepare ballot) h key l = refl
says_silent held (Body.Promise ballot vote) h key l = refl
says_silent held (Body.Accept ballot view) h key l = refl
says_silent held (Body.Accepted ballot) h key l = refl
says_silent held (Body.Chosen view) h key l = refl

pub managers_silent : (held : View) (letters : List Letter) → AreSaid held letters → (key : List ℕ) → letters_of key letters ≡ []
managers_silent held [] said key = refl
managers_silent held (l ∷ ls) said key =
    ap (λ (xs : List Message). xs ++ letters_of key ls) (says_silent held l.body (said l (inl refl)) key l) ∙ managers_silent held ls (λ k h. said k (inr h)) key
