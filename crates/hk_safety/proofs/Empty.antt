-- Nothing is kept of a key that no call has named.
use Rattle.std.proofs.Common.{◌≡◌, ℕ, Bool, true, false, cond, List, [], ◌∷◌, ◌++◌, ◌≤◌, sym, refl, ap, arith, Some, None, eqb}
use Rattle.std.specs.List.{find}
use Rattle.std.specs.Option.{option_map}
use Rattle.std.proofs.lemmas.Bool.{eq-eqb, false_from_ne_true}
use Rattle.hk_register.specs.Machine.{In, Mark, Update, Item}
use Rattle.hk_register.specs.Machine.Item.{Called, Answered, Dropped, ReadOnly, Rejected}
use Rattle.hk_register.specs.Printed.{events_of}
use Rattle.hk_register.specs.Facts.{Complete}
use Rattle.hk_register.specs.Printed.{is_mark}
use Rattle.hk_register.proofs.Tests.{any_in}
use Rattle.hk_effects.specs.Projection.{Trace, project}
use Rattle.hk_effects.specs.Orders.{family}
use Rattle.hk_safety.specs.Kept.{IsKeyOf, first_key, call_of, update_at, looks_at, covers_in, is_ready_mark, ready_in, AreToldBy}
use Rattle.hk_safety.proofs.Touched.{named_by, ready_by}

-- the trace has nothing but marks of no update
pub record IsEmpty (t : Trace) : Type 0 where
  pub history : t.history ≡ []
  pub begun : t.begun ≡ []
  pub marks : (m : Mark) → In t.marks m → m.stamp ≡ 0

-- so nothing is complete
not_complete : (V : ℕ → List ℕ) (key : List ℕ) (t : Trace) → IsEmpty t → (s : ℕ) → 1 ≤ s → Complete V (project key t) s → ⊥
not_complete V key t none s some (e, c) =
    let r = c.one_ready in
    let zero : r.marked.0.stamp ≡ 0 = none.marks r.marked.0 r.marked.2 in
    absurd (omega (arith, zero, some, r.marked.1.stamp, r.stamp))

nobody_told : (t : Trace) → IsEmpty t → (s : ℕ) → 1 ≤ s → AreToldBy t.marks s []
nobody_told t none s some = record { nodes = λ n e. sym (no_cover n e); ready = λ e. sym (no_ready e) }
  where
    no_cover : (n e : ℕ) → covers_in t.marks s n e ≡ false
    no_cover n e = false_from_ne_true (covers_in t.marks s n e) (λ h.
        let f = any_in (is_mark n e s) t.marks h in
        let zero : f.0.stamp ≡ 0 = none.marks f.0 f.1 in
        absurd (omega (arith, zero, some, (named_by n e s f.0 f.2).stamp)))

    no_ready : (e : ℕ) → ready_in t.marks s e ≡ false
    no_ready e = false_from_ne_true (ready_in t.marks s e) (λ h.
        let f = any_in (is_ready_mark e s) t.marks h in
        let zero : f.0.stamp ≡ 0 = none.marks f.0 f.1 in
        absurd (omega (arith, zero, some, (ready_by e s f.0 f.2).2)))

pub key_of_empty : (key : List ℕ) (t : Trace) → IsEmpty t → IsKeyOf key first_key t
key_of_empty key t none = record {
  items = ap events_of (sym none.history);
  update = λ s. ap (update_at s) (sym none.begun);
  read_only = λ s. ap (looks_at s) (sym none.history);
  known = λ s some. (not_complete (family t.world.views) key t none s some, nobody_told t none s some);
}

-- ---- what is kept of a key tells that its trace has no calls
not_nil : {X : Type 0} (xs : List X) (y : X) (ys : List X) → [] ≡ xs ++ y ∷ ys → ⊥
not_nil [] y ys e = cc
not_nil (x ∷ xs) y ys e = cc

pub no_items : (items : List Item) → [] ≡ events_of items → items ≡ []
no_items [] e = refl
no_items (Called c s op ∷ items) e = absurd (not_nil (events_of items) _ _ e)
no_items (Answered c s a ∷ items) e = absurd (not_nil (events_of items) _ _ e)
no_items (Dropped c s a ∷ items) e = absurd (not_nil (events_of items) _ _ e)
no_items (ReadOnly c s op held a ∷ items) e = absurd (not_nil (events_of items) _ _ e)
no_items (Rejected c op a ∷ items) e = absurd (not_nil (events_of items) _ _ e)

pub no_updates : (us : List Update) → ((s : ℕ) → None ≡ update_at s us) → us ≡ []
no_updates [] none = refl
no_updates (u ∷ us) none = absurd (clash (eqb u.stamp u.stamp) (eq-eqb u.stamp u.stamp refl) (none u.stamp))
  where
    clash : (b : Bool) → b ≡ true → None ≡ option_map call_of (cond b (Some u) (find (λ v. eqb v.stamp u.stamp) us)) → ⊥
    clash true is e = cc
    clash false is e = cc
