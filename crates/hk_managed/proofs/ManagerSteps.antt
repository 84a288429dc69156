-- What a step of a manager makes of the view that it holds and of the untils that it noted, and what of its letters bears on leases.
use Rattle.std.proofs.Common.{◌≡◌, ◌⊎◌, ◌+◌, ◌&&◌, ◌||◌, ◌==◌, not, ◌<◌, ℕ, List, [], ◌∷◌, Bool, true, false, cond, subst, nat_lt, nat_le, min, map, Option, Some, None, Result, Ok, Err, refl, sym, ◌∙◌, inl, inr}
use Rattle.std.specs.List.{filter, range_with_len}
use Rattle.std.specs.Option.{option_map}
use Rattle.std.proofs.lemmas.Bool.{ltb-true}
use Rattle.hk_base.specs.declared.stamp.NodeId.{NodeId}
use Rattle.hk_base.specs.declared.time.TheConstants.{MAX_TIME}
use Rattle.hk_base.specs.declared.view.View.{View}
use Rattle.hk_base.specs.declared.view.Change.{Change}
use Rattle.hk_base.specs.declared.view.Ballot.{Ballot}
use Rattle.hk_base.specs.declared.letter.Actor.{Actor}
use Rattle.hk_base.specs.declared.letter.Actor.TheVariants.{Node, Manager}
use Rattle.hk_base.specs.declared.letter.Letter.{Letter}
use Rattle.hk_base.specs.declared.letter.Body.{Body}
use Rattle.hk_base.specs.declared.letter.Body.TheVariants as Body
use Rattle.hk_paxos.specs.declared.acceptor.Promise.{Promise}
use Rattle.hk_paxos.specs.declared.proposer.Proposer.{Proposer}
use Rattle.hk_paxos.specs.Paxos.{acceptor_on_prepare, acceptor_on_accept, proposer_new, proposer_on_promise, proposer_on_accepted}
use Rattle.hk_lease.specs.Grants.{with_grant}
use Rattle.hk_base.specs.View.{is_member}
use Rattle.hk_lease.specs.Wait.{wait}
use Rattle.hk_manager.specs.declared.instance.TheConstants.{MAX_EPOCH, MAX_ROUND}
use Rattle.hk_manager.specs.declared.fault.ManagerFault.{ManagerFault}
use Rattle.hk_manager.specs.declared.fault.ManagerFault.TheVariants.{Behind}
use Rattle.hk_manager.specs.Manager.{ManagerState, instance_at, with_instance}
use Rattle.hk_manager.specs.Changes.{changed, change_fault}
use Rattle.hk_manager.specs.Sends.{letter_to, to_all, to_others, told_all}
use Rattle.hk_manager.specs.Steps.{ManagerStepped, sends, idle, learns, promise_body, prepares, accepts, counts_promise, counts_acceptance, reports, proposal_in, at_proposal, is_too_late, from_node, from_manager, is_addressed, receives_from, receives, begins, begins_unless, proposes}
use Rattle.hk_managed.proofs.NodeSteps.{IsPlain, ArePlain}

-- it noted no until, and holds what it held or a later view
pub record IsLearned (m : ManagerState) (s : ManagerStepped) : Type 0 where
  pub held : (s.manager.held ≡ m.held) ⊎ (m.held.epoch < s.manager.held.epoch)
  pub untils : s.manager.untils ≡ m.untils
  pub letters : ArePlain s.letters

same_learned : (m : ManagerState) → IsLearned m (idle m)
same_learned m = record { held = inl refl; untils = refl; letters = tt }

-- ---- letters
mapped_plain : (m : ManagerState) (epoch : ℕ) (body : Body) (to : List ℕ) → IsPlain body → ArePlain (map (λ k. letter_to m epoch body (Manager k)) to)
mapped_plain m epoch body [] plain = tt
mapped_plain m epoch body (k ∷ to) plain = (plain, mapped_plain m epoch body to plain)

told_plain : (m : ManagerState) (epoch : ℕ) (body : Option Body) → ((b : Body) → body ≡ Some b → IsPlain b) → ArePlain (told_all m epoch body)
told_plain m epoch None plain = tt
told_plain m epoch (Some b) plain = mapped_plain m epoch b (range_with_len 0 m.managers) (plain b refl)

-- ---- what Paxos makes
view_learned : (m : ManagerState) (view : View) (letters : List Letter) → ArePlain letters → IsLearned m (learns m view letters)
view_learned m view letters plain = at (nat_lt m.held.epoch view.epoch) refl
  where
    at : (b : Bool) → nat_lt m.held.epoch view.epoch ≡ b → IsLearned m (cond b (record { manager = record m { held = view }; letters = letters; chosen = Some view.epoch }) (sends m letters))
    at true e = record { held = inr (ltb-true m.held.epoch view.epoch e); untils = refl; letters = plain }
    at false e = record { held = inl refl; untils = refl; letters = plain }

prepared : (m : ManagerState) (epoch : ℕ) (o : Option Promise) → ArePlain (told_all m epoch (option_map promise_body o))
prepared m epoch None = tt
prepared m epoch (Some promise) = mapped_plain m epoch (promise_body promise) (range_with_len 0 m.managers) tt

module _ (m : ManagerState) (epoch : ℕ) where
  prepares_learned : (ballot : _) → IsLearned m (prepares m epoch ballot)
  prepares_learned ballot = record { held = inl refl; untils = refl; letters = prepared m epoch (acceptor_on_prepare (instance_at epoch m.instances).acceptor ballot).answer }

  accepts_learned : (ballot : _) (view : View) → IsLearned m (accepts m epoch ballot view)
  accepts_learned ballot view = record { held = inl refl; untils = refl; letters = at (acceptor_on_accept (instance_at epoch m.instances).acceptor ballot view).answer }
    where
      at : (o : Option _) → ArePlain (told_all m epoch (option_map (λ b. Body.Accepted b) o))
      at None = tt
      at (Some b) = mapped_plain m epoch (Body.Accepted b) (range_with_len 0 m.managers) tt

promise_learned : (p : Proposer) (m : ManagerState) (from : ℕ) (promise : Promise) → IsLearned m (counts_promise p m from promise)
promise_learned p m from promise = record { held = inl refl; untils = refl; letters = at (proposer_on_promise p from promise).answer }
  where
    at : (o : Option View) → ArePlain (told_all m p.epoch (option_map (λ view. Body.Accept p.ballot view) o))
    at None = tt
    at (Some view) = mapped_plain m p.epoch (Body.Accept p.ballot view) (range_with_len 0 m.managers) tt

acceptance_learned : (p : Proposer) (m : ManagerState) (from : ℕ) (ballot : _) → IsLearned m (counts_acceptance p m from ballot)
acceptance_learned p m from ballot = at (proposer_on_accepted p from ballot).answer
  where
    now : ManagerState
    now = record m { proposal = Some (proposer_on_accepted p from ballot).after }

    at : (o : Option View) → IsLearned m (reports (record m { proposal = Some (proposer_on_accepted p from ballot).after }) o)
    at None = record { held = inl refl; untils = refl; letters = tt }
    at (Some view) =
        let l = view_learned now view (to_others now view.epoch (Body.Chosen view)) (mapped_plain now view.epoch (Body.Chosen view) (filter (λ to. not (to == now.id)) (range_with_len 0 now.managers)) tt) in
        record { held = l.held; untils = l.untils; letters = l.letters }

at_learned : (o : Option Proposer) (m : ManagerState) (step : Proposer → ManagerStepped) → ((p : Proposer) → IsLearned m (step p)) → IsLearned m (at_proposal o m step)
at_learned None m step each = same_learned m
at_learned (Some p) m step each = each p

given_learned : (m : ManagerState) (s : ManagerStepped) (b : Bool) → IsLearned m s → IsLearned m (cond b (idle m) s)
given_learned m s true l = same_learned m
given_learned m s false l = l

by_manager : (body : Body) (m : ManagerState) (epoch from : ℕ) → IsLearned m (from_manager body m epoch from)
by_manager (Body.Prepare ballot) m epoch from = given_learned m (prepares m epoch ballot) (is_too_late ballot) (prepares_learned m epoch ballot)
by_manager (Body.Promise ballot vote) m epoch from = at_learned (proposal_in m.proposal epoch) m (λ p. counts_promise p m from (record { ballot = ballot; accepted = vote })) (λ p. promise_learned p m from (record { ballot = ballot; accepted = vote }))
by_manager (Body.Accept ballot view) m epoch from = given_learned m (accepts m epoch ballot view) (is_too_late ballot) (accepts_learned m epoch ballot view)
by_manager (Body.Accepted ballot) m epoch from = at_learned (proposal_in m.proposal epoch) m (λ p. counts_acceptance p m from ballot) (λ p. acceptance_learned p m from ballot)
by_manager (Body.Chosen view) m epoch from = view_learned m view [] tt
by_manager (Body.Inv k s kind content) m epoch from = same_learned m
by_manager (Body.Ack k s top) m epoch from = same_learned m
by_manager (Body.Val k s) m epoch from = same_learned m
by_manager (Body.CopyAsk after room) m epoch from = same_learned m
by_manager (Body.CopyGive after done items) m epoch from = same_learned m
by_manager (Body.LeaseAsk asked) m epoch from = same_learned m
by_manager (Body.LeaseGive end) m epoch from = same_learned m
by_manager (Body.Activate view) m epoch from = same_learned m

-- ---- leases
-- it granted a lease to a member of the view that it holds, whose letter asked for one
pub record IsGrant (m : ManagerState) (from : Actor) (body : Body) (s : ManagerStepped) : Type 0 where
  pub node : NodeId
  pub asked : ℕ
  pub asks : from ≡ Node node
  pub said : body ≡ Body.LeaseAsk asked
  pub member : is_member node m.held.members ≡ true
  pub is : s ≡ sends (record m { untils = with_grant m.untils node (m.clock + wait m.lease) }) (letter_to m m.held.epoch (Body.LeaseGive (min (asked + m.lease) MAX_TIME)) (Node node) ∷ [])

abbrev pub Ways : ManagerState → Actor → Body → ManagerStepped → Type 0
Ways m from body s = IsLearned m s ⊎ IsGrant m from body s

by_node : (body : Body) (m : ManagerState) (n : NodeId) → Ways m (Node n) body (from_node body m n)
by_node (Body.LeaseAsk asked) m n = at (is_member n m.held.members) refl
  where
    at : (b : Bool) → is_member n m.held.members ≡ b →
        Ways m (Node n) (Body.LeaseAsk asked) (cond b (sends (record m { untils = with_grant m.untils n (m.clock + wait m.lease) }) (letter_to m m.held.epoch (Body.LeaseGive (min (asked + m.lease) MAX_TIME)) (Node n) ∷ [])) (idle m))
    at true e = inr (record { node = n; asked = asked; asks = refl; said = refl; member = e; is = refl })
    at false e = inl (same_learned m)
by_node (Body.Inv k s kind content) m n = inl (same_learned m)
by_node (Body.Ack k s top) m n = inl (same_learned m)
by_node (Body.Val k s) m n = inl (same_learned m)
by_node (Body.CopyAsk after room) m n = inl (same_learned m)
by_node (Body.CopyGive after done items) m n = inl (same_learned m)
by_node (Body.LeaseGive end) m n = inl (same_learned m)
by_node (Body.Prepare ballot) m n = inl (same_learned m)
by_node (Body.Promise ballot vote) m n = inl (same_learned m)
by_node (Body.Accept ballot view) m n = inl (same_learned m)
by_node (Body.Accepted ballot) m n = inl (same_learned m)
by_node (Body.Chosen view) m n = inl (same_learned m)
by_node (Body.Activate view) m n = inl (same_learned m)

pub received : (m : ManagerState) (l : Letter) → Ways m l.from l.body (receives m l)
received m l = by_admitted (is_addressed m l.to && nat_le l.epoch MAX_EPOCH)
  where
    by_among : (b : Bool) (k : ℕ) → Ways m (Manager k) l.body (cond b (from_manager l.body m l.epoch k) (idle m))
    by_among true k = inl (by_manager l.body m l.epoch k)
    by_among false k = inl (same_learned m)

    by_sender : (a : Actor) → Ways m a l.body (receives_from a m l)
    by_sender (Node n) = by_node l.body m n
    by_sender (Manager k) = by_among (nat_lt k m.managers) k

    by_admitted : (b : Bool) → Ways m l.from l.body (cond b (receives_from l.from m l) (idle m))
    by_admitted true = by_sender l.from
    by_admitted false = inl (same_learned m)

-- ---- proposals
begins_learned : (m : ManagerState) (change : Change) → IsLearned m (begins m change)
begins_learned m change = given_learned m begun (nat_lt MAX_EPOCH (m.held.epoch + 1) || nat_lt MAX_ROUND ((instance_at (m.held.epoch + 1) m.instances).round + 1))
    (record { held = inl refl; untils = refl; letters = mapped_plain m (m.held.epoch + 1) (Body.Prepare ballot) (range_with_len 0 m.managers) tt })
  where
    ballot : Ballot
    ballot = record { round = (instance_at (m.held.epoch + 1) m.instances).round + 1; manager = m.id }

    begun : ManagerStepped
    begun = sends (record (with_instance m (m.held.epoch + 1) (record (instance_at (m.held.epoch + 1) m.instances) { round = ballot.round })) { proposal = Some (proposer_new (m.held.epoch + 1) ballot (changed m.held change) m.managers) })
        (to_all m (m.held.epoch + 1) (Body.Prepare ballot))

abbrev made : ManagerStepped → Result ManagerStepped ManagerFault
made s = Ok s

the_made : (r : Result ManagerStepped ManagerFault) (a b : ManagerStepped) → r ≡ Ok a → r ≡ Ok b → a ≡ b
the_made r a b p q = ok_same (sym p ∙ q)
  where
    ok_same : {x y : ManagerStepped} → made x ≡ made y → x ≡ y
    ok_same e = cc

pub proposed : (m : ManagerState) (base : ℕ) (change : Change) (s : ManagerStepped) → proposes m base change ≡ Ok s → IsLearned m s
proposed m base change s e = by_base (m.held.epoch == base) e
  where
    by_fault : (o : Option ManagerFault) → begins_unless o m change ≡ Ok s → IsLearned m s
    by_fault None e = subst (IsLearned m) (the_made (begins_unless None m change) (begins m change) s refl e) (begins_learned m change)
    by_fault (Some fault) e = absurd cc

    by_base : (b : Bool) → cond b (begins_unless (change_fault m.held change) m change) (Err (Behind m.held.epoch)) ≡ Ok s → IsLearned m s
    by_base true e = by_fault (change_fault m.held change) e
    by_base false e = absurd cc
