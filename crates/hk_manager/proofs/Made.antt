-- What the code makes of a step is what the step has.
use Rattle.std.proofs.Common.{◌≡◌, ◌∙◌, ◌+◌, ◌<◌, ◌≤◌, ◌||◌, ℕ, Bool, true, false, cond, List, [], Option, Some, None, nat_lt, refl, sym, ap, subst, arith}
use Rattle.std.specs.Option.{option_map}
use Rattle.std.proofs.lemmas.Bool.{lt-ltb, le-ltb}
use Rattle.std.proofs.lemmas.Option.{none-some}
use Rattle.hk_base.specs.declared.view.Ballot.{Ballot}
use Rattle.hk_base.specs.declared.view.Change.{Change}
use Rattle.hk_base.specs.declared.view.View.{View}
use Rattle.hk_base.specs.declared.letter.Body.{Body}
use Rattle.hk_base.specs.declared.letter.Body.TheVariants.{Prepare, Accept}
use Rattle.hk_base.specs.declared.letter.Letter.{Letter}
use Rattle.hk_paxos.specs.declared.acceptor.Promise.{Promise}
use Rattle.hk_paxos.specs.declared.proposer.Proposer.{Proposer}
use Rattle.hk_paxos.specs.Paxos.{proposer_new, proposer_on_promise, proposer_on_accepted}
use Rattle.hk_manager.specs.declared.instance.Instance.{Instance}
use Rattle.hk_manager.specs.declared.out.Replaced.{Replaced}
use Rattle.hk_manager.specs.declared.instance.TheConstants.{MAX_EPOCH, MAX_ROUND}
use Rattle.hk_manager.specs.Manager.{ManagerState, instance_at, with_instance}
use Rattle.hk_manager.specs.Changes.{changed, change_fault}
use Rattle.hk_manager.specs.Sends.{to_all, told_all}
use Rattle.hk_manager.specs.Steps.{ManagerStepped, sends, idle, learns, begins, counts_promise, counts_acceptance}
use Rattle.hk_manager.specs.Sound.{IsInstance, IsProposal, IsManager}
use Rattle.hk_manager.specs.Outs.{made}
use Rattle.hk_manager.proofs.Parts.{instance_found, new_proposal}
use Rattle.hk_manager.proofs.Views.{changed_view}
use Rattle.hk_manager.proofs.Posts.{first_of, second_of}

-- ---- proposals
-- there is no epoch, or no round
pub begins_late : (m : ManagerState) (change : Change) → MAX_EPOCH ≤ m.held.epoch → idle m ≡ begins m change
begins_late m change late = at (nat_lt MAX_EPOCH (m.held.epoch + 1)) (nat_lt MAX_ROUND ((instance_at (m.held.epoch + 1) m.instances).round + 1)) _ (lt-ltb MAX_EPOCH (m.held.epoch + 1) (omega (arith, late)))
  where
    at : (b d : Bool) (y : ManagerStepped) → b ≡ true → idle m ≡ cond (b || d) (idle m) y
    at true d y h = refl
    at false d y h = first_of false _ _ h

pub begins_last : (m : ManagerState) (epoch : ℕ) (change : Change) (instance : Instance) → epoch ≡ m.held.epoch + 1 → instance ≡ instance_at epoch m.instances → MAX_ROUND ≤ instance.round → idle m ≡ begins m change
begins_last m epoch change instance next known late = at (nat_lt MAX_EPOCH (m.held.epoch + 1)) (nat_lt MAX_ROUND ((instance_at (m.held.epoch + 1) m.instances).round + 1)) _ (lt-ltb MAX_ROUND ((instance_at (m.held.epoch + 1) m.instances).round + 1) (omega (arith, late, rounds)))
  where
    rounds : instance.round ≡ (instance_at (m.held.epoch + 1) m.instances).round
    rounds = ap (λ (i : Instance). i.round) known ∙ ap (λ (e : ℕ). (instance_at e m.instances).round) next

    at : (b d : Bool) (y : ManagerStepped) → d ≡ true → idle m ≡ cond (b || d) (idle m) y
    at true d y h = refl
    at false true y h = refl
    at false false y h = first_of false _ _ h

abbrev begun : ManagerState → Change → ℕ → Instance → ManagerStepped
begun m change epoch instance =
    sends (record (with_instance m epoch (record { acceptor = instance.acceptor; round = instance.round + 1 })) { proposal = Some (proposer_new epoch (record { round = instance.round + 1; manager = m.id }) (changed m.held change) m.managers) })
    (to_all m epoch (Prepare (record { round = instance.round + 1; manager = m.id })))

begins_begun : (m : ManagerState) (change : Change) → m.held.epoch < MAX_EPOCH → (instance_at (m.held.epoch + 1) m.instances).round < MAX_ROUND → begun m change (m.held.epoch + 1) (instance_at (m.held.epoch + 1) m.instances) ≡ begins m change
begins_begun m change early round = at (nat_lt MAX_EPOCH (m.held.epoch + 1)) (nat_lt MAX_ROUND ((instance_at (m.held.epoch + 1) m.instances).round + 1)) _
    (le-ltb MAX_EPOCH (m.held.epoch + 1) (omega (arith, early))) (le-ltb MAX_ROUND ((instance_at (m.held.epoch + 1) m.instances).round + 1) (omega (arith, round)))
  where
    at : (b d : Bool) (y : ManagerStepped) → b ≡ false → d ≡ false → y ≡ cond (b || d) (idle m) y
    at false false y h g = refl
    at true d y h g = second_of true _ _ h
    at false true y h g = second_of true _ _ g

pub begins_made : (m new : ManagerState) (change : Change) (epoch : ℕ) (instance : Instance) (ballot : Ballot) (proposer : Proposer) (letters : List Letter) (replaced : Replaced) →
    epoch ≡ m.held.epoch + 1 → instance ≡ instance_at epoch m.instances → ballot ≡ record { round = instance.round + 1; manager = m.id } → m.held.epoch < MAX_EPOCH → instance.round < MAX_ROUND →
    proposer ≡ proposer_new epoch ballot (changed m.held change) m.managers → letters ≡ to_all m epoch (Prepare ballot) →
    new ≡ record (with_instance m epoch (record { acceptor = instance.acceptor; round = ballot.round })) { proposal = Some proposer } →
    made new (record { letters = letters; chosen = None; replaced = replaced }) ≡ begins m change
begins_made m new change epoch instance ballot proposer letters replaced next known own early round proposing posted put =
    let rounds : instance.round ≡ (instance_at (m.held.epoch + 1) m.instances).round = ap (λ (i : Instance). i.round) known ∙ ap (λ (e : ℕ). (instance_at e m.instances).round) next in
    let all : made new (record { letters = letters; chosen = None; replaced = replaced }) ≡ begun m change epoch instance = rw (put, posted, proposing, own) refl in
    all ∙ ap (λ (i : Instance). begun m change epoch i) known ∙ ap (λ (e : ℕ). begun m change e (instance_at e m.instances)) next ∙ begins_begun m change early (omega (arith, round, rounds))

-- what is known of the instance is kept, and the proposal is one
pub begun_instance : (m : ManagerState) (epoch round : ℕ) (instance : Instance) → IsManager m → instance ≡ instance_at epoch m.instances → IsInstance (record { acceptor = instance.acceptor; round = round })
begun_instance m epoch round instance is known = subst IsInstance (sym known) (instance_found m epoch is)

pub begun_proposal : (m : ManagerState) (change : Change) (epoch round : ℕ) (ballot : Ballot) (proposer : Proposer) → IsManager m → change_fault m.held change ≡ None →
    ballot ≡ record { round = round; manager = m.id } → proposer ≡ proposer_new epoch ballot (changed m.held change) m.managers → IsProposal m.id m.managers proposer
begun_proposal m change epoch round ballot proposer is possible own proposing =
    rw (proposing, own) (new_proposal m.id m.managers epoch round (changed m.held change) (changed_view m.held change is.held possible))

-- ---- answers
pub promise_made : (m : ManagerState) (p after : Proposer) (from : ℕ) (promise : Promise) (epoch : ℕ) (ballot : Ballot) (view : Option View) (body : Option Body) (letters : List Letter) (stepped : ManagerStepped) →
    epoch ≡ p.epoch → ballot ≡ p.ballot → view ≡ (proposer_on_promise p from promise).answer → after ≡ (proposer_on_promise p from promise).after →
    body ≡ option_map (λ v. Accept ballot v) view → letters ≡ told_all m epoch body → stepped ≡ sends (record m { proposal = Some after }) letters →
    stepped ≡ counts_promise p m from promise
promise_made m p after from promise epoch ballot view body letters stepped e b v a o l n = rw (n, l, o, v, a, e, b) refl

pub acceptance_made : (m : ManagerState) (p after : Proposer) (from : ℕ) (ballot : Ballot) (letters : List Letter) (stepped : ManagerStepped) → None ≡ (proposer_on_accepted p from ballot).answer →
    after ≡ (proposer_on_accepted p from ballot).after → letters ≡ [] → stepped ≡ sends (record m { proposal = Some after }) letters → stepped ≡ counts_acceptance p m from ballot
acceptance_made m p after from ballot letters stepped none a l n = rw (n, l, a, ← none) refl

-- ---- a Chosen of a view that is not held
pub chosen_idle : (m new : ManagerState) (view held : View) → held ≡ view → None ≡ cond (nat_lt m.held.epoch held.epoch) (Some m.held) None →
    new ≡ record m { held = cond (nat_lt m.held.epoch held.epoch) held m.held } → idle new ≡ learns m view []
chosen_idle m new view held same none put = subst (λ (v : View). idle new ≡ learns m v []) same (at (nat_lt m.held.epoch held.epoch) refl none put)
  where
    at : (b : Bool) → nat_lt m.held.epoch held.epoch ≡ b → None ≡ cond b (Some m.held) None → new ≡ record m { held = cond b held m.held } →
        idle new ≡ cond b (record { manager = record m { held = held }; letters = []; chosen = Some held.epoch }) (sends m [])
    at true e n p = absurd (none-some m.held n)
    at false e n p = rw p refl
