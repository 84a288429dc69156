-- Replies in a history, and the items that they are of.
use Rattle.std.proofs.Common.{◌≡◌, ℕ, true, List, [], ◌∷◌, ◌++◌, ◌∙◌, sym, refl, ap, subst, inl, inr, ⊎_elim, Bool, cond, eqb, false}
use Rattle.std.specs.List.{list_any}
use Rattle.std.proofs.lemmas.Bool.{false≢true, eqb-true, eq-eqb}
use Rattle.hk_base.specs.declared.call.CallNo.{CallNo}
use Rattle.hk_history.specs.declared.event.Event.{Event as HistoryEvent}
use Rattle.hk_history.specs.declared.event.Event.TheVariants as Event
use Rattle.hk_history.specs.History.{is_reply}
use Rattle.hk_register.specs.Machine.{In, Item, call_of}
use Rattle.hk_register.specs.Machine.Item.{Called, Answered, Dropped, ReadOnly, Rejected}
use Rattle.hk_register.specs.Calls.{IsReply, OneReply}
use Rattle.hk_register.specs.Printed.{item_events, events_of}
use Rattle.hk_register.proofs.Grow.{in_left, in_right, in_either}
use Rattle.hk_register.proofs.Tests.{any_in, in_any}
use Rattle.hk_safety.specs.Kept.{looks_at}

-- ---- from replies to items
item_replies : (i : Item) (c : ℕ) (line : HistoryEvent) → In (item_events i) line → is_reply c line ≡ true → IsReply i × (call_of i ≡ c)
item_replies (Called d s op) c line (inl e) r = absurd (false≢true (subst (λ (l : HistoryEvent). is_reply c l ≡ true) e r))
item_replies (Called d s op) c line (inr h) r = absurd h
item_replies (Answered d s a) c line (inl e) r = (tt, eqb-true d c (subst (λ (l : HistoryEvent). is_reply c l ≡ true) e r))
item_replies (Answered d s a) c line (inr h) r = absurd h
item_replies (Dropped d s a) c line (inl e) r = (tt, eqb-true d c (subst (λ (l : HistoryEvent). is_reply c l ≡ true) e r))
item_replies (Dropped d s a) c line (inr h) r = absurd h
item_replies (ReadOnly d s op held a) c line (inl e) r = absurd (false≢true (subst (λ (l : HistoryEvent). is_reply c l ≡ true) e r))
item_replies (ReadOnly d s op held a) c line (inr (inl e)) r = (tt, eqb-true d c (subst (λ (l : HistoryEvent). is_reply c l ≡ true) e r))
item_replies (ReadOnly d s op held a) c line (inr (inr h)) r = absurd h
item_replies (Rejected d op a) c line (inl e) r = absurd (false≢true (subst (λ (l : HistoryEvent). is_reply c l ≡ true) e r))
item_replies (Rejected d op a) c line (inr (inl e)) r = (tt, eqb-true d c (subst (λ (l : HistoryEvent). is_reply c l ≡ true) e r))
item_replies (Rejected d op a) c line (inr (inr h)) r = absurd h

pub record RepliedBy (items : List Item) (c : ℕ) : Type 0 where
  pub item : Item
  pub there : In items item
  pub reply : IsReply item
  pub call : call_of item ≡ c

pub replied_is : (items : List Item) (c : ℕ) → list_any (is_reply c) (events_of items) ≡ true → RepliedBy items c
replied_is items c e = let t = any_in (is_reply c) (events_of items) e in by_items items t.0 t.1 t.2
  where
    by_items : (items : List Item) (line : HistoryEvent) → In (events_of items) line → is_reply c line ≡ true → RepliedBy items c
    by_items [] line h r = absurd h
    by_items (i ∷ items) line h r = ⊎_elim
        (λ (k : In (events_of items) line). let t = by_items items line k r in record { item = t.item; there = inr t.there; reply = t.reply; call = t.call })
        (λ (k : In (item_events i) line). let t = item_replies i c line k r in record { item = i; there = inl refl; reply = t.0; call = t.1 })
        (in_either (events_of items) (item_events i) line h)

-- ---- from items to replies
replies_of : (i : Item) → IsReply i → (line : HistoryEvent) × In (item_events i) line × (is_reply (call_of i) line ≡ true)
replies_of (Called c s op) reply = absurd reply
replies_of (Answered c s a) reply = (Event.Reply (record { 0 = c }) a, inl refl, eq-eqb c c refl)
replies_of (Dropped c s a) reply = (Event.Reply (record { 0 = c }) a, inl refl, eq-eqb c c refl)
replies_of (ReadOnly c s op held a) reply = (Event.Reply (record { 0 = c }) a, inr (inl refl), eq-eqb c c refl)
replies_of (Rejected c op a) reply = (Event.Reply (record { 0 = c }) a, inr (inl refl), eq-eqb c c refl)

pub replied_by : (items : List Item) (i : Item) → In items i → IsReply i → list_any (is_reply (call_of i)) (events_of items) ≡ true
replied_by [] i h reply = absurd h
replied_by (x ∷ items) i (inl e) reply =
    let t = replies_of i reply in
    in_any (is_reply (call_of i)) (events_of items ++ item_events x) t.0 (in_right (events_of items) (item_events x) t.0 (subst (λ (j : Item). In (item_events j) t.0) e t.1)) t.2
replied_by (x ∷ items) i (inr h) reply =
    let t = any_in (is_reply (call_of i)) (events_of items) (replied_by items i h reply) in
    in_any (is_reply (call_of i)) (events_of items ++ item_events x) t.0 (in_left (events_of items) (item_events x) t.0 t.1) t.2

-- a call has one reply
pub not_twice : (newer older : List Item) → OneReply (newer ++ older) → (i j : Item) → In newer i → In older j → IsReply i → IsReply j → call_of j ≡ call_of i → ⊥
not_twice [] older one i j h k ri rj same = h
not_twice (x ∷ newer) older one i j (inl e) k ri rj same = one.0 (subst IsReply e ri) j (in_right newer older j k) rj (same ∙ ap call_of e)
not_twice (x ∷ newer) older one i j (inr h) k ri rj same = not_twice newer older one.1 i j h k ri rj same

-- ---- the calls that found a stamp
further : (i : Item) (items : List Item) (c : ℕ) → RepliedBy items c → RepliedBy (i ∷ items) c
further i items c by = record { item = by.item; there = inr by.there; reply = by.reply; call = by.call }

pub looked_is : (s : ℕ) (items : List Item) (call : CallNo) → In (looks_at s items) call → RepliedBy items call.0
looked_is s [] call h = absurd h
looked_is s (Called c t op ∷ items) call h = further (Called c t op) items call.0 (looked_is s items call h)
looked_is s (Answered c t a ∷ items) call h = further (Answered c t a) items call.0 (looked_is s items call h)
looked_is s (Dropped c t a ∷ items) call h = further (Dropped c t a) items call.0 (looked_is s items call h)
looked_is s (Rejected c op a ∷ items) call h = further (Rejected c op a) items call.0 (looked_is s items call h)
looked_is s (ReadOnly c t op held a ∷ items) call h = ⊎_elim
    (λ (k : In (looks_at s items) call). further (ReadOnly c t op held a) items call.0 (looked_is s items call k))
    (λ (k : In (cond (eqb t s) (record { 0 = c } ∷ []) []) call). record { item = ReadOnly c t op held a; there = inl refl; reply = tt; call = by_test (eqb t s) k })
    (in_either (looks_at s items) (cond (eqb t s) (record { 0 = c } ∷ []) []) call h)
  where
    by_test : (b : Bool) → In (cond b (record { 0 = c } ∷ []) []) call → c ≡ call.0
    by_test true (inl e) = sym (ap (λ (k : CallNo). k.0) e)
    by_test true (inr none) = absurd none
    by_test false none = absurd none
