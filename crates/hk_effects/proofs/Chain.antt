-- Agreed views: with one more, that is made of the last one, they stay a chain.
use Rattle.std.proofs.Common.{◌≡◌, ◌⊎◌, ◌≢◌, ℕ, Bool, true, false, cond, ◌+◌, List, [], ◌∷◌, ◌++◌, ◌<◌, ◌≤◌, ◌∙◌, sym, refl, ap, subst, inl, inr, ⊎_elim, arith, le_refl, suc, Some, slice_get}
use Rattle.std.specs.List.{filter}
use Rattle.std.proofs.lemmas.Bool.{cases_eq, cases_lt}
use Rattle.hk_base.specs.declared.stamp.NodeId.{NodeId}
use Rattle.hk_base.specs.declared.view.View.{View}
use Rattle.hk_base.specs.View.{member_numbers}
use Rattle.hk_register.specs.Machine.{In}
use Rattle.hk_register.proofs.Grow.{in_either, in_left, in_right}
use Rattle.hk_world.specs.World.{numbered, last_view}
use Rattle.hk_effects.specs.Own.{IsDropped, IsAdded, IsChain}

-- a member that is left after one is dropped was one
pub in_dropped : (t : NodeId → Bool) (ms : List NodeId) (m : ℕ) → In (member_numbers (filter t ms)) m → In (member_numbers ms) m
in_dropped t [] m h = h
in_dropped t (k ∷ ms) m h = by_test (t k) (in_dropped t ms m) h
  where
    by_test : (b : Bool) → (In (member_numbers (filter t ms)) m → In (member_numbers ms) m) → In (member_numbers (cond b (k ∷ filter t ms) (filter t ms))) m → In (member_numbers (k ∷ ms)) m
    by_test true more h = ⊎_elim inl (λ (u : In (member_numbers (filter t ms)) m). inr (more u)) h
    by_test false more h = inr (more h)

-- a member after one is added was one, or is that one
pub in_added : (ms : List NodeId) (a : NodeId) (m : ℕ) → In (member_numbers (ms ++ a ∷ [])) m → In (member_numbers ms) m ⊎ (m ≡ a.0)
in_added [] a m h = ⊎_elim inr (λ (none : ⊥). absurd none) h
in_added (k ∷ ms) a m h = ⊎_elim (λ (e : m ≡ k.0). inl (inl e)) (λ (t : In (member_numbers (ms ++ a ∷ [])) m). ⊎_elim (λ (u : In (member_numbers ms) m). inl (inr u)) inr (in_added ms a m t)) h

pub last_added : (vs : List View) (n : View) → last_view (vs ++ n ∷ []) ≡ n
last_added [] n = refl
last_added (v ∷ []) n = refl
last_added (v ∷ u ∷ vs) n = last_added (u ∷ vs) n

-- a view that may follow, by one change: its members are of the last one's, or of the next number
pub record MayFollow (vs : List View) (n : View) : Type 0 where
  pub change : IsDropped (last_view vs) n ⊎ IsAdded (last_view vs) n
  pub epoch : n.epoch ≡ (last_view vs).epoch + 1
  pub from : (m : ℕ) → In (member_numbers n.members) m → In (member_numbers (last_view vs).members) m ⊎ (m ≡ (last_view vs).next)
  pub next : (last_view vs).next ≤ n.next
  pub below : (m : ℕ) → In (member_numbers n.members) m → m < n.next

pub more_views : (vs : List View) (n : View) → IsChain vs → MayFollow vs n → IsChain (vs ++ n ∷ [])
more_views vs n ok f = record {
  last = rw (last_added vs n) (in_right vs (n ∷ []) n (inl refl));
  within = λ v h. rw (last_added vs n) (within v (old_or_new v h));
  each = λ e one top. each e one (rw (last_added vs n) at top);
  one = λ u v h k same. one u v same (old_or_new u h) (old_or_new v k);
  chain = λ u v w hu hv hw low high m in_u in_w. chain u v w low high m in_u in_w (old_or_new u hu) (old_or_new v hv) (old_or_new w hw);
  change = λ u v h k next. change u v next (old_or_new u h) (old_or_new v k);
  below = λ v h m in_v. rw (last_added vs n) (below v m in_v (old_or_new v h));
}
  where
    old_or_new : (v : View) → In (vs ++ n ∷ []) v → In vs v ⊎ (v ≡ n)
    old_or_new v h = ⊎_elim inl (λ (t : In (n ∷ []) v). ⊎_elim inr (λ (none : ⊥). absurd none) t) (in_either vs (n ∷ []) v h)

    old_epoch : (v : View) → In vs v → v.epoch < n.epoch
    old_epoch v h = let w = ok.within v h in let up = f.epoch in omega (arith, w.1)

    within : (v : View) → In vs v ⊎ (v ≡ n) → (1 ≤ v.epoch) × (v.epoch ≤ n.epoch)
    within v (inl h) = let w = ok.within v h in let up = f.epoch in (w.0, omega (arith, w.1))
    within v (inr e) = let up = f.epoch in rw e (omega arith, le_refl n.epoch)

    below_top : (e : ℕ) → e ≤ n.epoch → e ≢ n.epoch → e ≤ (last_view vs).epoch
    below_top e top ne = let up = f.epoch in ⊎_elim (λ (l : e < n.epoch). omega arith) (λ (g : n.epoch ≤ e). absurd (ne (omega arith))) (cases_lt e n.epoch)

    each : (e : ℕ) → 1 ≤ e → e ≤ n.epoch → (v : View) × In (vs ++ n ∷ []) v × (v.epoch ≡ e)
    each e one top = ⊎_elim (λ (same : e ≡ n.epoch). (n, in_right vs (n ∷ []) n (inl refl), sym same)) (λ (ne : e ≢ n.epoch). let v = ok.each e one (below_top e top ne) in (v.0, in_left vs (n ∷ []) v.0 v.1, v.2)) (cases_eq e n.epoch)

    one : (u v : View) → u.epoch ≡ v.epoch → In vs u ⊎ (u ≡ n) → In vs v ⊎ (v ≡ n) → u ≡ v
    one u v same (inl a) (inl b) = ok.one u v a b same
    one u v same (inl a) (inr b) = let o = old_epoch u a in let s = ap (λ (x : View). x.epoch) b in absurd (omega (arith, o, s, same))
    one u v same (inr a) (inl b) = let o = old_epoch v b in let s = ap (λ (x : View). x.epoch) a in absurd (omega (arith, o, s, same))
    one u v same (inr a) (inr b) = a ∙ sym b

    change : (u v : View) → v.epoch ≡ u.epoch + 1 → In vs u ⊎ (u ≡ n) → In vs v ⊎ (v ≡ n) → IsDropped u v ⊎ IsAdded u v
    change u v next (inl a) (inl b) = ok.change u v a b next
    change u v next (inl a) (inr b) =
        let up = f.epoch in
        let s = ap (λ (x : View). x.epoch) b in
        let is : u ≡ last_view vs = ok.one u (last_view vs) a ok.last (omega (arith, up, s, next)) in
        rw (is, b) f.change
    change u v next (inr a) (inl b) = let o = old_epoch v b in let s = ap (λ (x : View). x.epoch) a in absurd (omega (arith, o, s, next))
    change u v next (inr a) (inr b) = let s = ap (λ (x : View). x.epoch) a in let t = ap (λ (x : View). x.epoch) b in absurd (omega (arith, s, t, next))

    chain : (u v w : View) → u.epoch ≤ v.epoch → v.epoch ≤ w.epoch → (m : ℕ) → In (member_numbers u.members) m → In (member_numbers w.members) m → In vs u ⊎ (u ≡ n) → In vs v ⊎ (v ≡ n) → In vs w ⊎ (w ≡ n) → In (member_numbers v.members) m
    chain u v w low high m in_u in_w (inl a) (inl b) (inl c) = ok.chain u v w a b c low high m in_u in_w
    chain u v w low high m in_u in_w (inr a) (inl b) c = let o = old_epoch v b in let s = ap (λ (x : View). x.epoch) a in absurd (omega (arith, o, s, low))
    chain u v w low high m in_u in_w a (inr b) (inl c) = let o = old_epoch w c in let s = ap (λ (x : View). x.epoch) b in absurd (omega (arith, o, s, high))
    chain u v w low high m in_u in_w a (inr b) (inr c) = subst (λ (x : View). In (member_numbers x.members) m) (c ∙ sym b) in_w
    chain u v w low high m in_u in_w (inl a) (inl b) (inr c) =
        let in_n : In (member_numbers n.members) m = subst (λ (x : View). In (member_numbers x.members) m) c in_w in
        ⊎_elim
        (λ (in_h : In (member_numbers (last_view vs).members) m). ok.chain u v (last_view vs) a b ok.last low (ok.within v b).1 m in_u in_h)
        (λ (is : m ≡ (last_view vs).next). let b = ok.below u a m in_u in absurd (omega arith)) (f.from m in_n)

    below : (v : View) → (m : ℕ) → In (member_numbers v.members) m → In vs v ⊎ (v ≡ n) → m < n.next
    below v m in_v (inl h) = let b = ok.below v h m in_v in let up = f.next in omega (arith, b)
    below v m in_v (inr e) = f.below m (subst (λ (x : View). In (member_numbers x.members) m) e in_v)

-- ---- views by their numbers
-- what stands in a list has a number in it
stands_at : {X : Type 0} (xs : List X) (x : X) → In xs x → (k : ℕ) × (slice_get xs k ≡ Some x)
stands_at [] x h = absurd h
stands_at (y ∷ xs) x (inl e) = (0, ap Some (sym e))
stands_at (y ∷ xs) x (inr h) = let rest = stands_at xs x h in (suc rest.0, rest.1)

-- a view has its epoch as its number
pub own_place : (views : List View) → ((e : ℕ) (v : View) → numbered e views ≡ Some v → v.epoch ≡ e) → (v : View) → In views v → numbered v.epoch views ≡ Some v
own_place views epochs v h =
    let at = stands_at views v h in
    let epoch : v.epoch ≡ suc at.0 = epochs (suc at.0) v at.1 in
    subst (λ (e : ℕ). numbered e views ≡ Some v) (sym epoch) at.1
