-- The keys of a run: each that a call named is named once, and of any other there is nothing.
use Rattle.std.proofs.Common.{◌≡◌, ◌⊎◌, ℕ, Bool, cond, List, [], ◌∷◌, ◌++◌, ◌∙◌, sym, refl, ap, subst, inl, inr, ⊎_elim, append-nil, Ordering, Less, Equal, Greater}
use Rattle.std.specs.Prelude.{⊤}
use Rattle.std.specs.List.{flat_map}
use Rattle.std.specs.Ordering.{match_ordering}
use Rattle.hk_copy.specs.Batches.{key_cmp}
use Rattle.hk_register.specs.Machine.{In, Item, Update, RegisterState}
use Rattle.hk_register.specs.Printed.{Slot}
use Rattle.hk_register.specs.Printed as register
use Rattle.hk_register.proofs.Grow.{in_left}
use Rattle.hk_event.specs.declared.event.Event.{Event}
use Rattle.hk_event.specs.declared.event.Event.TheVariants.{Call}
use Rattle.hk_event.specs.declared.event.Header.{Header}
use Rattle.hk_world.specs.World.{WorldState}
use Rattle.hk_world.specs.Steps.{Accepted, acting_of}
use Rattle.hk_world.specs.Sound.{IsHeader}
use Rattle.hk_effects.specs.Projection.{Trace, project, traced, is_same_key}
use Rattle.hk_effects.specs.Orders.{family}
use Rattle.hk_effects.specs.Runs.{start_trace, Follows, RunsKeepParts}
use Rattle.hk_effects.proofs.Order.{IsBelow, below_trans, below_differs, greater_below, cases_key, same_of, same_not}
use Rattle.hk_effects.proofs.Runs.{world_is}
use Rattle.hk_safety.specs.Run.{RunState, AreAccepted, IsRun, trace_with, trace_from, trace_of, with_key, with_named, named_from, named}
use Rattle.hk_safety.specs.Kept.{IsKeyOf, first_key, called_from}
use Rattle.hk_safety.proofs.Empty.{no_items, no_updates}
use Rattle.hk_safety.proofs.Named.{called_append, called_named}
use Rattle.hk_safety.proofs.Starting.{starts_empty}
use Rattle.hk_safety.proofs.Unnamed.{unnamed_stays}
use Rattle.hk_joint.specs.Joint.{slots}
use Rattle.hk_joint.proofs.Chain.{follows_then}

-- ---- keys in order
abbrev pub Ordered : List (List ℕ) → Type 0
Ordered [] = ⊤
Ordered (k ∷ keys) = ((q : List ℕ) → In keys q → IsBelow k q) × Ordered keys

with_in : (key : List ℕ) (keys : List (List ℕ)) (q : List ℕ) → In (with_key key keys) q → (q ≡ key) ⊎ In keys q
with_in key [] q (inl e) = inl e
with_in key [] q (inr h) = absurd h
with_in key (k ∷ keys) q h = by_order (key_cmp key k) h (with_in key keys q)
  where
    by_order : (o : Ordering) → In (match_ordering o (key ∷ k ∷ keys) (k ∷ keys) (k ∷ with_key key keys)) q → (In (with_key key keys) q → (q ≡ key) ⊎ In keys q) → (q ≡ key) ⊎ In (k ∷ keys) q
    by_order Less (inl e) more = inl e
    by_order Less (inr h) more = inr h
    by_order Equal h more = inr h
    by_order Greater (inl e) more = inr (inl e)
    by_order Greater (inr h) more = ⊎_elim (λ (e : q ≡ key). inl e) (λ (t : In keys q). inr (inr t)) (more h)

with_ordered : (key : List ℕ) (keys : List (List ℕ)) → Ordered keys → Ordered (with_key key keys)
with_ordered key [] ok = (λ q h. absurd h, tt)
with_ordered key (k ∷ keys) ok = by_order (key_cmp key k) refl (with_ordered key keys ok.1)
  where
    by_order : (o : Ordering) → key_cmp key k ≡ o → Ordered (with_key key keys) → Ordered (match_ordering o (key ∷ k ∷ keys) (k ∷ keys) (k ∷ with_key key keys))
    by_order Less e more = (λ q h. ⊎_elim (λ (is : q ≡ k). subst (λ (z : List ℕ). IsBelow key z) (sym is) e) (λ (t : In keys q). below_trans key k q e (ok.0 q t)) h, ok)
    by_order Equal e more = ok
    by_order Greater e more = (
      λ q h. ⊎_elim (λ (is : q ≡ key). subst (λ (z : List ℕ). IsBelow k z) (sym is) (greater_below key k e)) (λ (t : In keys q). ok.0 q t) (with_in key keys q h),
      more,
    )

named_keep : (event : Event) (keys : List (List ℕ)) → Ordered keys → Ordered (with_named event keys)
named_keep (Call id key op) keys ok = with_ordered key keys ok
named_keep event keys ok = ok

named_ordered : (events : List Event) (keys : List (List ℕ)) → Ordered keys → Ordered (named_from keys events)
named_ordered [] keys ok = ok
named_ordered (x ∷ xs) keys ok = named_ordered xs (with_named x keys) (named_keep x keys ok)

pub named_in_order : (run : RunState) → Ordered (named run)
named_in_order run = named_ordered run.events [] tt

pub in_or_not : (key : List ℕ) (keys : List (List ℕ)) → In keys key ⊎ (In keys key → ⊥)
in_or_not key [] = inr (λ h. h)
in_or_not key (k ∷ keys) = ⊎_elim
    (λ (e : key ≡ k). inl (inl e))
    (λ (off : key ≡ k → ⊥).
    ⊎_elim
    (λ (h : In keys key). inl (inr h))
    (λ (none : In keys key → ⊥). inr (λ h. ⊎_elim off none h))
    (in_or_not key keys))
    (cases_key key k)

-- ---- one key among them
module _ {A : Type 0} (key : List ℕ) (ys : List A) where
  abbrev pub only : List ℕ → List A
  only k = cond (is_same_key key k) ys []

  pub only_none : (keys : List (List ℕ)) → (In keys key → ⊥) → flat_map only keys ≡ []
  only_none [] none = refl
  only_none (k ∷ keys) none = ap (λ (b : Bool). cond b ys [] ++ flat_map only keys) (same_not key k (λ e. none (inl e))) ∙ only_none keys (λ h. none (inr h))

  pub only_once : (keys : List (List ℕ)) → Ordered keys → In keys key → flat_map only keys ≡ ys
  only_once [] ok h = absurd h
  only_once (k ∷ keys) ok (inl e) =
      let none : flat_map only keys ≡ [] = only_none keys (λ h. below_differs k key (ok.0 key h) (sym e)) in
      ap (λ (b : Bool). cond b ys [] ++ flat_map only keys) (same_of key k e) ∙ (ap (λ (l : List A). ys ++ l) none ∙ append-nil ys)
  only_once (k ∷ keys) ok (inr h) =
      ap (λ (b : Bool). cond b ys [] ++ flat_map only keys) (same_not key k (λ e. below_differs k key (ok.0 key h) (sym e))) ∙ only_once keys ok.1 h

-- ---- a key that no call named
module _ (runs : RunsKeepParts) (h : Header) (header : IsHeader h) (key : List ℕ) where
  empty_from : (events past : List Event) (t : Trace) → Follows key (start_trace h) past t → AreAccepted t.world events → IsKeyOf key first_key t → (In (called_from events) key → ⊥) →
      IsKeyOf key first_key (trace_from key t events)
  empty_from [] past t f ok k other = k
  empty_from (x ∷ xs) past t f ok k other =
      let a : Accepted = ok.1 in
      let now : Follows key (start_trace h) (past ++ x ∷ []) (traced key t x a) = follows_then key (start_trace h) past t x a f ok.2 ok.0 in
      let split : called_from (x ∷ xs) ≡ called_from (x ∷ []) ++ called_from xs = called_append (x ∷ []) xs in
      let first : In (called_from (x ∷ [])) key → ⊥ = λ m. other (subst (λ (l : List (List ℕ)). In l key) (sym split) (in_left (called_from (x ∷ [])) (called_from xs) key m)) in
      let later : In (called_from xs) key → ⊥ = λ m. other (subst (λ (l : List (List ℕ)). In l key) (sym split) (Rattle.hk_register.proofs.Grow.in_right (called_from (x ∷ [])) (called_from xs) key m)) in
      let stays : IsKeyOf key first_key (traced key t x a) = unnamed_stays key t x a k (runs h header key (past ++ x ∷ []) (traced key t x a) now) first in
      let rest : AreAccepted (traced key t x a).world xs = subst (λ (w : WorldState). AreAccepted w xs) (sym (world_is key t x a (acting_of a))) ok.3 in
      subst (λ (z : Trace). IsKeyOf key first_key (trace_from key z xs)) (sym (ap (trace_with key t x) ok.2)) (empty_from xs (past ++ x ∷ []) (traced key t x a) now rest stays later)

none_printed : (V : ℕ → List ℕ) (st : RegisterState) → st.history ≡ [] → st.begun ≡ [] → register.printed V st ≡ []
none_printed V st history begun = ap (λ (us : List Update). register.sort_slots (register.update_slots V st us ++ register.look_slots st.history)) begun
    ∙ ap (λ (is : List Item). register.sort_slots (register.look_slots is)) history

pub unnamed_nothing : RunsKeepParts → (run : RunState) → IsRun run → (key : List ℕ) → (In (named run) key → ⊥) → slots run key ≡ []
unnamed_nothing runs run ok key off =
    let k : IsKeyOf key first_key (trace_of key run) =
    empty_from runs run.header ok.header key run.events [] (start_trace run.header) refl ok.accepted (starts_empty key run.header) (λ h. off (called_named run.events [] key h)) in
    let last : Trace = trace_of key run in
    none_printed (family last.world.views) (project key last) (no_items last.history k.items) (no_updates last.begun k.update)
