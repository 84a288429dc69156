-- What a node heard of ACTIVATE stands among the letters, and the view that it has may have begun.
use Rattle.std.proofs.Common.{◌≡◌, ◌≢◌, ◌⊎◌, ◌<◌, ◌≤◌, ◌+◌, ◌*◌, ℕ, List, [], ◌∷◌, ◌++◌, length, Bool, true, false, cond, max, nat_eq, slice_index, slice_set, refl, sym, ap, subst, ◌∙◌, inl, inr, ⊎_elim, arith, Some}
use Rattle.std.specs.List.{count_by}
use Rattle.std.proofs.lemmas.Bool.{cases_lt, cases_eq, ltb-true, eqb-true}
use Rattle.std.proofs.lemmas.List.Sums.{sum_by-cons}
use Rattle.hk_base.specs.declared.view.View.{View}
use Rattle.hk_base.specs.declared.letter.Actor.{Actor}
use Rattle.hk_base.specs.declared.letter.Actor.TheVariants.{Manager}
use Rattle.hk_base.specs.declared.letter.Letter.{Letter}
use Rattle.hk_base.specs.declared.letter.Body.{Body}
use Rattle.hk_base.specs.declared.letter.Body.TheVariants as Body
use Rattle.hk_node.specs.Node.{NodeState, epoch_in, epoch_of}
use Rattle.hk_node.specs.Heard.{raised, has_majority}
use Rattle.hk_node.specs.Stepped.{Stepped}
use Rattle.hk_earned.specs.Machine.{In, count_managers, IsMajority}
use Rattle.hk_managed.specs.Begun.{HasSent, IsActivated}
use Rattle.hk_managed.proofs.Places.{in_left, index_same, index_other}
use Rattle.hk_managed.proofs.NodeSteps.{IsHeard}

-- ---- letters are kept
pub sent_on : (letters more : List Letter) (m epoch : ℕ) → HasSent letters m epoch → HasSent (letters ++ more) m epoch
sent_on letters more m epoch h = record { view = h.view; of = h.of; under = h.under; to = h.to; sent = in_left letters more (record { epoch = h.under; from = Manager m; to = h.to; body = Body.Activate h.view }) h.sent }

pub activated_on : (managers : ℕ) (letters more : List Letter) (epoch : ℕ) → IsActivated managers letters epoch → IsActivated managers (letters ++ more) epoch
activated_on managers letters more epoch h = record { test = h.test; many = h.many; each = λ m t. sent_on letters more m epoch (h.each m t) }

-- an ACTIVATE of a manager, of any addressee
pub has_sent : (letters : List Letter) (l : Letter) (m : ℕ) (view : View) → In letters l → l.from ≡ Manager m → l.body ≡ Body.Activate view → HasSent letters m view.epoch
has_sent letters l m view h from body = record { view = view; of = refl; under = l.epoch; to = l.to; sent = at l.from l.body from body h }
  where
    at : (f : Actor) (b : Body) → f ≡ Manager m → b ≡ Body.Activate view → In letters (record { epoch = l.epoch; from = f; to = l.to; body = b }) → In letters (record { epoch = l.epoch; from = Manager m; to = l.to; body = Body.Activate view })
    at f b p q x = move (rw (p, q) at x)
      where
        move : In letters (record { epoch = l.epoch; from = Manager m; to = l.to; body = Body.Activate view }) → In letters (record { epoch = l.epoch; from = Manager m; to = l.to; body = Body.Activate view })
        move x = x

-- ---- what a node keeps
abbrev pub AreSent : List Letter → List ℕ → Type 0
AreSent letters activated = (m : ℕ) → 1 ≤ slice_index activated m → HasSent letters m (slice_index activated m)

abbrev pub HasBegun : ℕ → List Letter → ℕ → Type 0
HasBegun managers letters epoch = (epoch ≤ 1) ⊎ IsActivated managers letters epoch

pub record HasHeard (managers : ℕ) (letters : List Letter) (x : NodeState) : Type 0 where
  pub long : length x.activated ≡ managers
  pub sent : AreSent letters x.activated
  pub begun : HasBegun managers letters (epoch_of x)

pub begun_on : (managers : ℕ) (letters more : List Letter) (epoch : ℕ) → HasBegun managers letters epoch → HasBegun managers (letters ++ more) epoch
begun_on managers letters more epoch h = ⊎_elim (λ (low : epoch ≤ 1). inl low) (λ (a : IsActivated managers letters epoch). inr (activated_on managers letters more epoch a)) h

pub heard_on : (managers : ℕ) (letters more : List Letter) (x : NodeState) → HasHeard managers letters x → HasHeard managers (letters ++ more) x
heard_on managers letters more x h = record {
  long = h.long;
  sent = λ m some. sent_on letters more m (slice_index x.activated m) (h.sent m some);
  begun = begun_on managers letters more (epoch_of x) h.begun;
}

-- a majority of the kept numbers is a majority of managers
counted : (epoch : ℕ) (xs : List ℕ) → count_by (λ heard. nat_eq heard epoch) xs ≡ count_managers (λ m. nat_eq (slice_index xs m) epoch) (length xs)
counted epoch [] = refl
counted epoch (x ∷ xs) = sum_by-cons (λ (heard : ℕ). cond (nat_eq heard epoch) 1 0) x xs ∙ at (nat_eq x epoch) (counted epoch xs)
  where
    at : (b : Bool) → count_by (λ heard. nat_eq heard epoch) xs ≡ count_managers (λ m. nat_eq (slice_index xs m) epoch) (length xs) →
        cond b 1 0 + count_by (λ heard. nat_eq heard epoch) xs ≡ cond b (1 + count_managers (λ m. nat_eq (slice_index xs m) epoch) (length xs)) (count_managers (λ m. nat_eq (slice_index xs m) epoch) (length xs))
    at true h = omega (arith, h)
    at false h = omega (arith, h)

majority_of : (managers epoch : ℕ) (xs : List ℕ) → length xs ≡ managers → has_majority epoch xs ≡ true → IsMajority managers (λ m. nat_eq (slice_index xs m) epoch)
majority_of managers epoch xs long many =
    let h = ltb-true (length xs) (2 * count_by (λ heard. nat_eq heard epoch) xs) many in
    let c = counted epoch xs in
    let k : length xs < 2 * count_managers (λ m. nat_eq (slice_index xs m) epoch) (length xs) = omega (arith, h, c) in
    subst (λ (n : ℕ). IsMajority n (λ m. nat_eq (slice_index xs m) epoch)) long k

by_majority : (managers epoch : ℕ) (letters : List Letter) (xs : List ℕ) → 1 ≤ epoch → length xs ≡ managers → AreSent letters xs → has_majority epoch xs ≡ true → IsActivated managers letters epoch
by_majority managers epoch letters xs some long sent many = record {
  test = λ m. nat_eq (slice_index xs m) epoch;
  many = majority_of managers epoch xs long many;
  each = λ m t. let e = eqb-true (slice_index xs m) epoch t in subst (HasSent letters m) e (sent m (rw e some));
}

-- one more ACTIVATE is noted
raised_sent : (letters : List Letter) (xs : List ℕ) (m epoch : ℕ) → HasSent letters m epoch → AreSent letters xs → AreSent letters (raised m epoch xs)
raised_sent letters xs m epoch new old j = ⊎_elim here there (cases_eq j m)
  where
    greater : ℕ
    greater = max (slice_index xs m) epoch

    -- of this manager or of an earlier letter of it
    one : 1 ≤ greater → HasSent letters m greater
    one some = ⊎_elim
        (λ (low : slice_index xs m < epoch). let e : epoch ≡ max (slice_index xs m) epoch = omega (arith, low) in subst (HasSent letters m) e new)
        (λ (high : epoch ≤ slice_index xs m). let e : slice_index xs m ≡ max (slice_index xs m) epoch = omega (arith, high) in subst (HasSent letters m) e (old m (omega (arith, e, some)))) (cases_lt (slice_index xs m) epoch)

    found : (slice_index (slice_set xs m greater) m ≡ greater) ⊎ (slice_index (slice_set xs m greater) m ≡ 0) → 1 ≤ slice_index (slice_set xs m greater) m → HasSent letters m (slice_index (slice_set xs m greater) m)
    found (inl e) some = subst (HasSent letters m) (sym e) (one (omega (arith, e, some)))
    found (inr e) some = absurd (omega (arith, e, some))

    here : j ≡ m → 1 ≤ slice_index (raised m epoch xs) j → HasSent letters j (slice_index (raised m epoch xs) j)
    here e = subst (λ (k : ℕ). 1 ≤ slice_index (raised m epoch xs) k → HasSent letters k (slice_index (raised m epoch xs) k)) (sym e) (found (index_same xs m greater))

    there : j ≢ m → 1 ≤ slice_index (raised m epoch xs) j → HasSent letters j (slice_index (raised m epoch xs) j)
    there d some = let e = index_other xs m j greater d in subst (HasSent letters j) (sym e) (old j (omega (arith, e, some)))

-- ---- steps of a node
module _ (managers : ℕ) (letters : List Letter) (x : NodeState) (h : HasHeard managers letters x) (s : Stepped) (long : length s.node.activated ≡ managers) where
  pub quiet_heard : s.node.activated ≡ x.activated → epoch_of s.node ≡ epoch_of x → HasHeard managers (letters ++ s.letters) s.node
  quiet_heard activated epoch = record {
    long = long;
    sent = subst (AreSent (letters ++ s.letters)) (sym activated) (heard_on managers letters s.letters x h).sent;
    begun = subst (HasBegun managers (letters ++ s.letters)) (sym epoch) (begun_on managers letters s.letters (epoch_of x) h.begun);
  }

  pub activate_heard : (m : ℕ) (view : View) → HasSent letters m view.epoch → IsHeard x m view s → HasHeard managers (letters ++ s.letters) s.node
  activate_heard m view new is = record { long = long; sent = λ j some. sent_on letters s.letters j (slice_index s.node.activated j) (sent_now j some); begun = begun_on managers letters s.letters (epoch_of s.node) begun }
    where
      sent_now : AreSent letters s.node.activated
      sent_now = ⊎_elim
          (λ (same : s.node.activated ≡ x.activated). subst (AreSent letters) (sym same) h.sent)
          (λ (more : s.node.activated ≡ raised m view.epoch x.activated). subst (AreSent letters) (sym more) (raised_sent letters x.activated m view.epoch new h.sent)) is.activated

      by_epoch : (view.epoch < 2) ⊎ (2 ≤ view.epoch) → has_majority view.epoch s.node.activated ≡ true → HasBegun managers letters view.epoch
      by_epoch (inl low) many = inl (omega (arith, low))
      by_epoch (inr high) many = inr (by_majority managers view.epoch letters s.node.activated (omega (arith, high)) long sent_now many)

      begun : HasBegun managers letters (epoch_of s.node)
      begun = ⊎_elim
          (λ (same : s.node.view ≡ x.view). subst (HasBegun managers letters) (sym (ap epoch_in same)) h.begun)
          (λ (now : (s.node.view ≡ Some view) × (has_majority view.epoch s.node.activated ≡ true)). subst (HasBegun managers letters) (sym (ap epoch_in now.0)) (by_epoch (cases_lt view.epoch 2) now.1)) is.view_now
