-- An event that is no call on a key adds nothing to a key that no call has named.
use Rattle.std.proofs.Common.{◌≡◌, ℕ, Bool, true, false, cond, ◌+◌, List, [], ◌∷◌, ◌++◌, map, ◌∙◌, sym, refl, ap, subst, inl, inr, ⊎_elim, Option, Some, None, eqb, append-nil}
use Rattle.hk_base.specs.declared.stamp.NodeId.{NodeId}
use Rattle.hk_base.specs.declared.call.Reply.{Reply}
use Rattle.hk_history.specs.History.{is_unsure}
use Rattle.hk_register.specs.Machine.{In, Mark, Node, Update, Item, RegisterState}
use Rattle.hk_register.specs.Machine.Item.{Answered, Dropped}
use Rattle.hk_register.specs.Parts.{Parts, MarkBegun}
use Rattle.hk_register.specs.Calls.{CallItem}
use Rattle.hk_register.proofs.Grow.{in_left}
use Rattle.hk_event.specs.declared.event.Event.{Event}
use Rattle.hk_event.specs.declared.event.Event.TheVariants.{Call}
use Rattle.hk_world.specs.Steps.{Accepted, acting_of}
use Rattle.hk_effects.specs.Projection.{Trace, project, key_node, node_at, told_at, pending_stamp, reply_item, call_items, items_of, updates_of, added, traced, traced_by}
use Rattle.hk_effects.specs.Orders.{family}
use Rattle.hk_effects.specs.Runs.{IsKept}
use Rattle.hk_effects.proofs.Frames.{itself}
use Rattle.hk_effects.proofs.Legality.{own_agrees}
use Rattle.hk_effects.proofs.Order.{same_not}
use Rattle.hk_effects.proofs.Replies.{replies_begin_none}
use Rattle.hk_safety.specs.Kept.{IsKeyOf, first_key, called_from}
use Rattle.hk_safety.proofs.Acting.{IsNoCall}
use Rattle.hk_safety.proofs.Empty.{IsEmpty, key_of_empty, no_items, no_updates}

-- what an event other than a call says are replies
pub replies_said : (key : List ℕ) (event : Event) (call : ℕ) (was x : Node) (rs : List Reply) → IsNoCall event →
    items_of key event call was x rs ≡ map (reply_item (pending_stamp was.phase)) rs
replies_said key (Call id k op) call was x rs no_call = absurd no_call
replies_said key event call was x rs no_call = refl

pub replies_begin : (id : ℕ) (z : Node) (s : ℕ) (rs : List Reply) → updates_of id z (map (reply_item s) rs) ≡ []
replies_begin id z s rs = ap (updates_of id z) (sym (append-nil (map (reply_item s) rs))) ∙ replies_begin_none id z s rs []

-- a reply is that of an update that was begun
pub replied_update : (st : RegisterState) (s : ℕ) (r : Reply) → CallItem st (reply_item s r) → (u : Update) × In st.begun u × (u.call ≡ r.call.0)
replied_update st s r = by_test (is_unsure (Some r.answer))
  where
    by_test : (b : Bool) → CallItem st (cond b (Dropped r.call.0 s r.answer) (Answered r.call.0 s r.answer)) →
        (u : Update) × In st.begun u × (u.call ≡ r.call.0)
    by_test true c = c.0
    by_test false c = (c.0, c.1, c.2)

pub in_map : {X Y : Type 0} (f : X → Y) (xs : List X) (x : X) → In xs x → In (map f xs) (f x)
in_map f [] x h = absurd h
in_map f (y ∷ xs) x (inl e) = inl (ap f e)
in_map f (y ∷ xs) x (inr h) = inr (in_map f xs x h)

pub nil_of : {X : Type 0} (xs : List X) → ((x : X) → In xs x → ⊥) → xs ≡ []
nil_of [] none = refl
nil_of (x ∷ xs) none = absurd (none x (inl refl))

module _ (key : List ℕ) (t : Trace) (event : Event) (a : Accepted) (kept : IsKept key (traced key t event a)) (history : t.history ≡ []) (begun : t.begun ≡ [])
    (other : In (called_from (event ∷ [])) key → ⊥) where
  abbrev St : RegisterState
  St = project key (traced key t event a)

  -- no update is begun, so no mark is of one
  marks_of_none : St.begun ≡ [] → (m : Mark) → In St.marks m → m.stamp ≡ 0
  marks_of_none none m h =
      let V : ℕ → List ℕ = family (traced key t event a).world.views in
      let parts : Parts V St = kept.parts V (own_agrees (traced key t event a).world kept.own) in
      ⊎_elim
      (λ (z : m.stamp ≡ 0). z)
      (λ (b : MarkBegun V St m). let h : In [] b.update = subst (λ (us : List Update). In us b.update) none b.begun in absurd h)
      (parts.marks m (m, itself m, h)).begun

  module _ (id : NodeId) (acts : acting_of a ≡ Some id) where
    abbrev was : Node
    was = key_node key (node_at id.0 t.world.processes)

    abbrev now : Node
    now = key_node key (node_at id.0 a.world.processes)

    abbrev said : Event → List Item
    said e = items_of key e (t.world.calls + 1) was now (told_at key a.told)

    is_added : traced key t event a ≡ added key t event a id.0 was now
    is_added = ap (traced_by key t event a) acts

    begins_none : (e : Event) → (In (called_from (e ∷ [])) key → ⊥) → updates_of id.0 was (said e) ≡ []
    begins_none (Call n k op) off = ap (λ (b : Bool). updates_of id.0 was
        (cond b (call_items (eqb now.stamp was.stamp) (t.world.calls + 1) op was now (told_at key a.told)) [])) (same_not key k (λ e. off (inl e)))
    begins_none e off = replies_begin id.0 was (pending_stamp was.phase) (told_at key a.told)

    begun_now : St.begun ≡ []
    begun_now = ap (λ (z : Trace). z.begun) is_added ∙ (ap (λ (us : List Update). us ++ t.begun) (begins_none event other) ∙ begun)

    none_told : IsNoCall event → told_at key a.told ≡ []
    none_told no_call = nil_of (told_at key a.told) (λ r h.
        let s : ℕ = pending_stamp was.phase in
        let there : In (said event) (reply_item s r) =
        subst (λ (is : List Item). In is (reply_item s r)) (sym (replies_said key event (t.world.calls + 1) was now (told_at key a.told) no_call))
        (in_map (reply_item s) (told_at key a.told) r h) in
        let stands : In St.history (reply_item s r) =
        subst (λ (z : Trace). In z.history (reply_item s r)) (sym is_added) (in_left (said event) t.history (reply_item s r) there) in
        let u = replied_update St s r (kept.calls.items (reply_item s r) stands) in
        subst (λ (us : List Update). In us u.0) begun_now u.1)

    says_none : (e : Event) → (In (called_from (e ∷ [])) key → ⊥) → (IsNoCall e → told_at key a.told ≡ []) → said e ≡ []
    says_none (Call n k op) off none = ap (λ (b : Bool). cond b (call_items (eqb now.stamp was.stamp) (t.world.calls + 1) op was now (told_at key a.told)) [])
        (same_not key k (λ e. off (inl e)))
    says_none e off none = ap (map (reply_item (pending_stamp was.phase))) (none tt)

    history_now : St.history ≡ []
    history_now = ap (λ (z : Trace). z.history) is_added ∙ (ap (λ (is : List Item). is ++ t.history) (says_none event other none_told) ∙ history)

    acts_empty : IsEmpty (traced key t event a)
    acts_empty = record { history = history_now; begun = begun_now; marks = marks_of_none begun_now }

  stays_empty : IsEmpty (traced key t event a)
  stays_empty = by_acting (acting_of a) refl
    where
      by_acting : (acting : Option NodeId) → acting_of a ≡ acting → IsEmpty (traced key t event a)
      by_acting (Some id) acts = acts_empty id acts
      by_acting None acts =
          let is : traced key t event a ≡ traced_by key t event a None = ap (traced_by key t event a) acts in
          let none : St.begun ≡ [] = ap (λ (z : Trace). z.begun) is ∙ begun in
          record { history = ap (λ (z : Trace). z.history) is ∙ history; begun = none; marks = marks_of_none none }

-- a key that no call has named has nothing after the event either
pub unnamed_stays : (key : List ℕ) (t : Trace) (event : Event) (a : Accepted) → IsKeyOf key first_key t → IsKept key (traced key t event a) →
    (In (called_from (event ∷ [])) key → ⊥) → IsKeyOf key first_key (traced key t event a)
unnamed_stays key t event a k kept other =
    key_of_empty key (traced key t event a) (stays_empty key t event a kept (no_items t.history k.items) (no_updates t.begun k.update) other)
