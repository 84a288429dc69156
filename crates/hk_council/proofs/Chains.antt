-- Chains of views: their epochs, and one more view.
use Rattle.std.proofs.Common.{◌≡◌, ℕ, zero, suc, Some, None, slice_get, ◌+◌, ◌<◌, ◌≤◌, Bool, true, false, cond, List, [], ◌∷◌, ◌++◌, nat_lt, refl, sym, ap, ◌∙◌, inl, inr, subst, arith}
use Rattle.std.proofs.lemmas.Bool.{ltb-true, ltb-false, lt-ltb, le-ltb}
use Rattle.hk_base.specs.declared.view.View.{View}
use Rattle.hk_base.specs.declared.view.Change.{Change}
use Rattle.hk_base.specs.declared.view.Change.TheVariants.{Drop, Add}
use Rattle.hk_paxos.specs.Run.{In}
use Rattle.hk_manager.specs.Changes.{changed}
use Rattle.hk_council.specs.Chain.{IsChange, AreChanges, IsChain}
use Rattle.hk_council.specs.Council.{last_epoch, learned_with}

pub in_left : {X : Type 0} (xs ys : List X) (x : X) → In xs x → In (xs ++ ys) x
in_left [] ys x h = absurd h
in_left (y ∷ xs) ys x (inl e) = inl e
in_left (y ∷ xs) ys x (inr h) = inr (in_left xs ys x h)

pub in_end : {X : Type 0} (xs : List X) (y : X) → In (xs ++ y ∷ []) y
in_end [] y = inl refl
in_end (x ∷ xs) y = inr (in_end xs y)

-- a change has the next epoch
changed_epoch : (v : View) (change : Change) → (changed v change).epoch ≡ v.epoch + 1
changed_epoch v (Drop node) = refl
changed_epoch v Add = refl

pub change_epoch : (v w : View) → IsChange v w → w.epoch ≡ v.epoch + 1
change_epoch v w is = ap (λ (u : View). u.epoch) is.made ∙ changed_epoch v is.change

-- the last view is not older than any
first_below : (v : View) (later : List View) → AreChanges v later → v.epoch ≤ last_epoch (v ∷ later)
first_below v [] are = omega arith
first_below v (w ∷ later) are = let e = change_epoch v w are.0 in let rest = first_below w later are.1 in omega (arith, e, rest)

among : (v : View) (later : List View) (w : View) → AreChanges v later → In (v ∷ later) w → (v.epoch ≤ w.epoch) × (w.epoch ≤ last_epoch (v ∷ later))
among v later w are (inl e) = (rw e (omega arith), rw e (first_below v later are))
among v [] w are (inr h) = absurd h
among v (u ∷ later) w are (inr h) = let rest = among u later w are.1 h in let e = change_epoch v u are.0 in (omega (arith, e, rest.0), rest.1)

-- each epoch up to the last has a view
at_epoch : (v : View) (later : List View) (epoch : ℕ) → AreChanges v later → v.epoch ≤ epoch → epoch ≤ last_epoch (v ∷ later) → (w : View) × In (v ∷ later) w × (w.epoch ≡ epoch)
at_epoch v [] epoch are from upto = (v, inl refl, omega (arith, from, upto))
at_epoch v (u ∷ later) epoch are from upto = at (nat_lt v.epoch epoch) refl (λ above. at_epoch u later epoch are.1 above upto)
  where
    at : (b : Bool) → nat_lt v.epoch epoch ≡ b → (u.epoch ≤ epoch → (w : View) × In (u ∷ later) w × (w.epoch ≡ epoch)) → (w : View) × In (v ∷ u ∷ later) w × (w.epoch ≡ epoch)
    at true e more =
        let low = ltb-true v.epoch epoch e in
        let next = change_epoch v u are.0 in
        let rest = more (omega (arith, low, next)) in
        (rest.0, inr rest.1, rest.2)
    at false e more = let high = ltb-false v.epoch epoch e in (v, inl refl, omega (arith, from, high))

-- and but one
one_at : (v : View) (later : List View) (x y : View) → AreChanges v later → In (v ∷ later) x → In (v ∷ later) y → x.epoch ≡ y.epoch → x ≡ y
one_at v later x y are (inl e) (inl f) same = e ∙ sym f
one_at v [] x y are (inl e) (inr h) same = absurd h
one_at v [] x y are (inr h) k same = absurd h
one_at v (u ∷ later) x y are (inl e) (inr h) same =
    let rest = among u later y are.1 h in
    let next = change_epoch v u are.0 in
    let own : x.epoch ≡ v.epoch = ap (λ (w : View). w.epoch) e in
    absurd (omega (arith, rest.0, next, own, same))
one_at v (u ∷ later) x y are (inr h) (inl e) same =
    let rest = among u later x are.1 h in
    let next = change_epoch v u are.0 in
    let own : y.epoch ≡ v.epoch = ap (λ (w : View). w.epoch) e in
    absurd (omega (arith, rest.0, next, own, same))
one_at v (u ∷ later) x y are (inr h) (inr k) same = one_at u later x y are.1 h k same

more : (v : View) (later : List View) (u w : View) → AreChanges v later → In (v ∷ later) u → u.epoch ≡ last_epoch (v ∷ later) → IsChange u w → AreChanges v (later ++ w ∷ [])
more v [] u w are (inl e) last is = (subst (λ (x : View). IsChange x w) e is, tt)
more v [] u w are (inr h) last is = absurd h
more v (x ∷ later) u w are (inl e) last is =
    let next = change_epoch v x are.0 in
    let upto = first_below x later are.1 in
    let own : u.epoch ≡ v.epoch = ap (λ (z : View). z.epoch) e in
    absurd (omega (arith, next, upto, own, last))
more v (x ∷ later) u w are (inr h) last is = (are.0, more x later u w are.1 h last is)

-- ---- the same of a whole chain
pub epoch_within : (views : List View) (w : View) → IsChain views → In views w → (1 ≤ w.epoch) × (w.epoch ≤ last_epoch views)
epoch_within [] w chain h = absurd chain
epoch_within (v ∷ later) w chain h = let rest = among v later w chain.1 h in (omega (arith, chain.0, rest.0), rest.1)

pub view_at : (views : List View) (epoch : ℕ) → IsChain views → 1 ≤ epoch → epoch ≤ last_epoch views → (w : View) × In views w × (w.epoch ≡ epoch)
view_at [] epoch chain from upto = absurd chain
view_at (v ∷ later) epoch chain from upto = at_epoch v later epoch chain.1 (omega (arith, chain.0, from)) upto

pub one_view : (views : List View) → IsChain views → (x y : View) → In views x → In views y → x.epoch ≡ y.epoch → x ≡ y
one_view [] chain x y h k same = absurd chain
one_view (v ∷ later) chain x y h k same = one_at v later x y chain.1 h k same

-- the views stand in the order of their epochs
placed : (v : View) (later : List View) (k : ℕ) (w : View) → AreChanges v later → slice_get (v ∷ later) k ≡ Some w → w.epoch ≡ v.epoch + k
placed v later zero w are at = let same : v ≡ w = cc in rw (sym same) (omega arith)
placed v [] (suc k) w are at = let none : None ≡ Some w = at in absurd cc
placed v (u ∷ later) (suc k) w are at = let next = change_epoch v u are.0 in let rest = placed u later k w are.1 at in omega (arith, next, rest)

pub epoch_at : (views : List View) (k : ℕ) (w : View) → IsChain views → slice_get views k ≡ Some w → w.epoch ≡ k + 1
epoch_at [] k w chain at = absurd chain
epoch_at (v ∷ later) k w chain at = let is = placed v later k w chain.1 at in omega (arith, chain.0, is)

-- the change of the last view goes behind it
pub chain_with : (views : List View) (u w : View) → IsChain views → In views u → u.epoch ≡ last_epoch views → IsChange u w → IsChain (views ++ w ∷ [])
chain_with [] u w chain h last is = absurd chain
chain_with (v ∷ later) u w chain h last is = (chain.0, more v later u w chain.1 h last is)

-- ---- a view that is learned
pub learned_stays : (views : List View) (w : View) → w.epoch ≤ last_epoch views → learned_with views w ≡ views
learned_stays views w upto = rw (le-ltb (last_epoch views) w.epoch upto) refl

pub learned_grows : (views : List View) (w : View) → last_epoch views < w.epoch → learned_with views w ≡ views ++ w ∷ []
learned_grows views w above = rw (lt-ltb (last_epoch views) w.epoch above) refl

pub learned_keeps : (views : List View) (w x : View) → In views x → In (learned_with views w) x
learned_keeps views w x h = at (nat_lt (last_epoch views) w.epoch)
  where
    at : (b : Bool) → In (cond b (views ++ w ∷ []) views) x
    at true = in_left views (w ∷ []) x h
    at false = h
