-- The managers of a world: what a put leaves of them, and that a manager's step keeps who it is and its clock.
use Rattle.std.proofs.Common.{◌≡◌, ◌≢◌, ◌<◌, ◌+◌, ◌++◌, ◌&&◌, ◌||◌, ◌==◌, ℕ, zero, suc, Bool, true, false, cond, List, [], ◌∷◌, map, length, nat_lt, nat_le, Option, Some, None, Result, Ok, Err, get_or, take, drop, refl, sym, subst, ap, ◌∙◌, arith}
use Rattle.std.specs.Prelude.{⊤, slice_set}
use Rattle.std.specs.List.{slice_get}
use Rattle.hk_base.specs.declared.stamp.NodeId.{NodeId}
use Rattle.hk_base.specs.declared.view.View.{View}
use Rattle.hk_base.specs.declared.view.Change.{Change}
use Rattle.hk_base.specs.declared.letter.Actor.{Actor}
use Rattle.hk_base.specs.declared.letter.Actor.TheVariants.{Node, Manager}
use Rattle.hk_base.specs.declared.letter.Letter.{Letter}
use Rattle.hk_base.specs.declared.letter.Body.{Body}
use Rattle.hk_paxos.specs.declared.proposer.Proposer.{Proposer}
use Rattle.hk_paxos.specs.Paxos.{proposer_on_accepted}
use Rattle.hk_lease.specs.declared.grants.NotPast.{NotPast as StillRuns}
use Rattle.hk_lease.specs.Past.{past_answer}
use Rattle.hk_base.specs.View.{is_member}
use Rattle.hk_manager.specs.declared.instance.TheConstants.{MAX_EPOCH, MAX_ROUND}
use Rattle.hk_manager.specs.declared.event.ManagerEvent.{ManagerEvent}
use Rattle.hk_manager.specs.declared.event.ManagerEvent.TheVariants.{Propose, Receive, Activate, Tick}
use Rattle.hk_manager.specs.declared.fault.ManagerFault.{ManagerFault}
use Rattle.hk_manager.specs.declared.fault.ManagerFault.TheVariants.{Behind}
use Rattle.hk_manager.specs.Manager.{ManagerState, instance_at}
use Rattle.hk_manager.specs.Changes.{change_fault}
use Rattle.hk_manager.specs.Steps.{ManagerStepped, idle, learns, reports, counts_promise, counts_acceptance, proposal_in, at_proposal, is_too_late, from_node, from_manager, is_addressed, receives_from, receives, begins, begins_unless, proposes, activates_by, manager_step}

-- ---- a list in which one item is put
module _ {X : Type 0} where
  pub set_length : (k : ℕ) (v : X) (xs : List X) → length (slice_set xs k v) ≡ length xs
  set_length k v [] = refl
  set_length zero v (x ∷ xs) = refl
  set_length (suc k) v (x ∷ xs) = ap suc (set_length k v xs)

  pub set_same : (k : ℕ) (v x : X) (xs : List X) → slice_get xs k ≡ Some x → slice_get (slice_set xs k v) k ≡ Some v
  set_same k v x [] at = absurd cc
  set_same zero v x (y ∷ xs) at = refl
  set_same (suc k) v x (y ∷ xs) at = set_same k v x xs at

  pub set_other : (j k : ℕ) (v : X) (xs : List X) → j ≢ k → slice_get (slice_set xs k v) j ≡ slice_get xs j
  set_other j k v [] ne = refl
  set_other zero zero v (x ∷ xs) ne = absurd (ne refl)
  set_other zero (suc k) v (x ∷ xs) ne = refl
  set_other (suc j) zero v (x ∷ xs) ne = refl
  set_other (suc j) (suc k) v (x ∷ xs) ne = set_other j k v xs (λ e. ne (ap suc e))

  pub set_there : (k : ℕ) (v x : X) (xs : List X) → slice_get xs k ≡ Some x → slice_set xs k v ≡ [] → ⊥
  set_there k v x [] at none = absurd cc
  set_there zero v x (y ∷ xs) at none = absurd cc
  set_there (suc k) v x (y ∷ xs) at none = absurd cc

  -- the item that is there, put again, changes nothing
  pub set_back : (k : ℕ) (x : X) (xs : List X) → slice_get xs k ≡ Some x → slice_set xs k x ≡ xs
  set_back k x [] at = absurd cc
  set_back zero x (y ∷ xs) at = let same : y ≡ x = cc in ap (λ (z : X). z ∷ xs) (sym same)
  set_back (suc k) x (y ∷ xs) at = ap (λ (l : List X). y ∷ l) (set_back k x xs at)

  pub get_mapped : {Y : Type 0} (f : X → Y) (k : ℕ) (y : Y) (xs : List X) → slice_get (map f xs) k ≡ Some y → (x : X) × (slice_get xs k ≡ Some x) × (f x ≡ y)
  get_mapped f k y [] at = absurd cc
  get_mapped f zero y (x ∷ xs) at = (x, refl, cc)
  get_mapped f (suc k) y (x ∷ xs) at = get_mapped f k y xs at

  pub get_found : (k : ℕ) (xs : List X) (x : X) → k < length xs → get_or xs k x ≡ x → slice_get xs k ≡ Some x
  get_found k [] x low e = absurd (omega (arith, low))
  get_found zero (y ∷ xs) x low e = ap (λ (z : X). Some z) e
  get_found (suc k) (y ∷ xs) x low e = get_found k xs x (omega (arith, low)) e

  -- items in turn, of which the first were changed: with one more
  set_step : (f : X → X) (i : ℕ) (old : List X) (x y : X) → i < length old → get_or (map f (take i old) ++ drop i old) i x ≡ x → y ≡ f x →
      slice_set (map f (take i old) ++ drop i old) i y ≡ map f (take (suc i) old) ++ drop (suc i) old
  set_step f zero [] x y low at is = absurd (omega (arith, low))
  set_step f zero (z ∷ zs) x y low at is = ap (λ (v : X). v ∷ zs) (is ∙ ap f (sym at))
  set_step f (suc i) [] x y low at is = absurd (omega (arith, low))
  set_step f (suc i) (z ∷ zs) x y low at is = ap (λ (l : List X). f z ∷ l) (set_step f i zs x y (omega (arith, low)) at is)

  pub one_more : (f : X → X) (i j : ℕ) (old items : List X) (x y : X) → items ≡ map f (take i old) ++ drop i old → i < length old → get_or items i x ≡ x → y ≡ f x → j ≡ suc i →
      slice_set items i y ≡ map f (take j old) ++ drop j old
  one_more f i j old items x y so_far low at is next =
      ap (λ (l : List X). slice_set l i y) so_far
      ∙ set_step f i old x y low (subst (λ (l : List X). get_or l i x ≡ x) so_far at) is
      ∙ ap (λ (k : ℕ). map f (take k old) ++ drop k old) (sym next)

-- ---- a manager's step
pub record IsSteady (m : ManagerState) (stepped : ManagerStepped) : Type 0 where
  pub id : stepped.manager.id ≡ m.id
  pub managers : stepped.manager.managers ≡ m.managers
  pub lease : stepped.manager.lease ≡ m.lease
  pub clock : stepped.manager.clock ≡ m.clock

still : (m : ManagerState) (stepped : ManagerStepped) → stepped.manager.id ≡ m.id → stepped.manager.managers ≡ m.managers → stepped.manager.lease ≡ m.lease → stepped.manager.clock ≡ m.clock → IsSteady m stepped
still m stepped i n l c = record { id = i; managers = n; lease = l; clock = c }

choice : (m : ManagerState) (b : Bool) (x y : ManagerStepped) → IsSteady m x → IsSteady m y → IsSteady m (cond b x y)
choice m true x y p q = p
choice m false x y p q = q

rests : (m : ManagerState) → IsSteady m (idle m)
rests m = still _ _ refl refl refl refl

learns_steady : (m : ManagerState) (view : View) (letters : List Letter) → IsSteady m (learns m view letters)
learns_steady m view letters = choice m (nat_lt m.held.epoch view.epoch) _ _ (still _ _ refl refl refl refl) (still _ _ refl refl refl refl)

acceptance_steady : (m : ManagerState) (proposal : Option Proposer) (o : Option View) → IsSteady m (reports (record m { proposal = proposal }) o)
acceptance_steady m proposal None = still _ _ refl refl refl refl
acceptance_steady m proposal (Some view) = choice m (nat_lt m.held.epoch view.epoch) _ _ (still _ _ refl refl refl refl) (still _ _ refl refl refl refl)

at_proposal_steady : (m : ManagerState) (step : Proposer → ManagerStepped) (o : Option Proposer) → ((p : Proposer) → IsSteady m (step p)) → IsSteady m (at_proposal o m step)
at_proposal_steady m step None each = rests m
at_proposal_steady m step (Some p) each = each p

node_steady : (body : Body) (m : ManagerState) (from : NodeId) → IsSteady m (from_node body m from)
node_steady (Body.LeaseAsk asked) m from = choice m (is_member from m.held.members) _ _ (still _ _ refl refl refl refl) (rests m)
node_steady (Body.Inv key s kind content) m from = rests m
node_steady (Body.Ack key s top) m from = rests m
node_steady (Body.Val key s) m from = rests m
node_steady (Body.CopyAsk after room) m from = rests m
node_steady (Body.CopyGive after done items) m from = rests m
node_steady (Body.LeaseGive end) m from = rests m
node_steady (Body.Prepare ballot) m from = rests m
node_steady (Body.Promise ballot vote) m from = rests m
node_steady (Body.Accept ballot view) m from = rests m
node_steady (Body.Accepted ballot) m from = rests m
node_steady (Body.Chosen view) m from = rests m
node_steady (Body.Activate view) m from = rests m

manager_steady : (body : Body) (m : ManagerState) (epoch from : ℕ) → IsSteady m (from_manager body m epoch from)
manager_steady (Body.Prepare ballot) m epoch from = choice m (is_too_late ballot) _ _ (rests m) (still _ _ refl refl refl refl)
manager_steady (Body.Promise ballot vote) m epoch from = at_proposal_steady m (λ p. counts_promise p m from (record { ballot = ballot; accepted = vote })) (proposal_in m.proposal epoch) (λ p. still _ _ refl refl refl refl)
manager_steady (Body.Accept ballot view) m epoch from = choice m (is_too_late ballot) _ _ (rests m) (still _ _ refl refl refl refl)
manager_steady (Body.Accepted ballot) m epoch from =
    at_proposal_steady m (λ p. counts_acceptance p m from ballot) (proposal_in m.proposal epoch)
    (λ p. acceptance_steady m (Some (proposer_on_accepted p from ballot).after) (proposer_on_accepted p from ballot).answer)
manager_steady (Body.Chosen view) m epoch from = learns_steady m view []
manager_steady (Body.LeaseAsk asked) m epoch from = rests m
manager_steady (Body.Inv key s kind content) m epoch from = rests m
manager_steady (Body.Ack key s top) m epoch from = rests m
manager_steady (Body.Val key s) m epoch from = rests m
manager_steady (Body.CopyAsk after room) m epoch from = rests m
manager_steady (Body.CopyGive after done items) m epoch from = rests m
manager_steady (Body.LeaseGive end) m epoch from = rests m
manager_steady (Body.Activate view) m epoch from = rests m

from_steady : (from : Actor) (m : ManagerState) (letter : Letter) → IsSteady m (receives_from from m letter)
from_steady (Node from) m letter = node_steady letter.body m from
from_steady (Manager from) m letter = choice m (nat_lt from m.managers) _ _ (manager_steady letter.body m letter.epoch from) (rests m)

receives_steady : (m : ManagerState) (letter : Letter) → IsSteady m (receives m letter)
receives_steady m letter = choice m (is_addressed m letter.to && nat_le letter.epoch MAX_EPOCH) _ _ (from_steady letter.from m letter) (rests m)

abbrev pub OfMade : (ManagerStepped → Type 0) → Result ManagerStepped ManagerFault → Type 0
OfMade P (Ok stepped) = P stepped
OfMade P (Err fault) = ⊤

begins_steady : (m : ManagerState) (change : Change) → IsSteady m (begins m change)
begins_steady m change = choice m (nat_lt MAX_EPOCH (m.held.epoch + 1) || nat_lt MAX_ROUND ((instance_at (m.held.epoch + 1) m.instances).round + 1)) _ _ (rests m) (still _ _ refl refl refl refl)

unless_steady : (fault : Option ManagerFault) (m : ManagerState) (change : Change) → OfMade (IsSteady m) (begins_unless fault m change)
unless_steady (Some fault) m change = tt
unless_steady None m change = begins_steady m change

proposes_steady : (m : ManagerState) (base : ℕ) (change : Change) → OfMade (IsSteady m) (proposes m base change)
proposes_steady m base change = at (m.held.epoch == base)
  where
    at : (b : Bool) → OfMade (IsSteady m) (cond b (begins_unless (change_fault m.held change) m change) (Err (Behind m.held.epoch)))
    at true = unless_steady (change_fault m.held change) m change
    at false = tt

activates_steady : (m : ManagerState) (past : Result Unit StillRuns) → OfMade (IsSteady m) (activates_by past m)
activates_steady m (Ok _) = still _ _ refl refl refl refl
activates_steady m (Err running) = tt

-- no event but a tick
abbrev pub IsSilent : ManagerEvent → Type 0
IsSilent (Tick now) = ⊥
IsSilent event = ⊤

pub step_steady : (m : ManagerState) (event : ManagerEvent) → IsSilent event → OfMade (IsSteady m) (manager_step m event)
step_steady m (Propose base change) silent = proposes_steady m base change
step_steady m (Receive letter) silent = receives_steady m letter
step_steady m Activate silent = activates_steady m (past_answer m.untils m.held m.clock)
step_steady m (Tick now) silent = absurd silent
