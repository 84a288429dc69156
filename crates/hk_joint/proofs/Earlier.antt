-- What an earlier state of a key shows, where its history has come to that of a later one: what stands first in the printed order is there first.
use Rattle.std.proofs.Common.{◌≡◌, ◌⊎◌, ℕ, Bool, true, ◌&&◌, ◌+◌, List, [], ◌∷◌, ◌++◌, length, ◌<◌, ◌≤◌, ◌∙◌, sym, refl, ap, subst, inl, inr, ⊎_elim, arith}
use Rattle.std.specs.Prelude.{nat_le}
use Rattle.std.specs.List.{list_any}
use Rattle.std.proofs.lemmas.Bool.{eq-eqb, leb-true, le-leb, and_parts, and_from}
use Rattle.hk_history.specs.declared.event.Event.{Event as HistoryEvent}
use Rattle.hk_history.specs.History.{is_reply}
use Rattle.hk_register.specs.Machine.{In, Update, Item, RegisterState, call_of}
use Rattle.hk_register.specs.Machine.Item.{ReadOnly}
use Rattle.hk_register.specs.Facts.{Complete, Rests}
use Rattle.hk_register.specs.Parts.{Parts}
use Rattle.hk_register.specs.Calls.{IsReply, OneReply, CallParts}
use Rattle.hk_register.specs.Printed.{Slot, Below, StandsAt, is_complete, item_events, events_of}
use Rattle.hk_register.proofs.Grow.{in_left, in_right, in_either}
use Rattle.hk_register.proofs.Helps.{complete_of}
use Rattle.hk_register.proofs.Once.{place_within, one_place}
use Rattle.hk_register.proofs.Folding.{stands_in}
use Rattle.hk_register.proofs.Orders.{the_update}
use Rattle.hk_register.proofs.Tests.{any_in, in_any}
use Rattle.hk_safety.proofs.Complete.{complete_is, is_complete_from}
pub use Rattle.hk_safety.proofs.Replied.{RepliedBy, replied_is}
use Rattle.hk_joint.proofs.Served.{Above}

-- ---- the tests
abbrev pub reached : (ℕ → List ℕ) → ℕ → RegisterState → Bool
reached V s st = list_any (λ u. nat_le s u.stamp && is_complete V st u.stamp) st.begun

abbrev pub replied : ℕ → RegisterState → Bool
replied c st = list_any (is_reply c) (events_of st.history)

pub reached_with : (V : ℕ → List ℕ) (st : RegisterState) (s : ℕ) (u : Update) → In st.begun u → s ≤ u.stamp → Complete V st u.stamp → reached V s st ≡ true
reached_with V st s u h l c = in_any (λ u. nat_le s u.stamp && is_complete V st u.stamp) st.begun u h
    (and_from (nat_le s u.stamp) (is_complete V st u.stamp) (le-leb s u.stamp l) (is_complete_from V st u.stamp c))

pub record IsReachedBy (V : ℕ → List ℕ) (st : RegisterState) (s : ℕ) : Type 0 where
  pub update : Update
  pub begun : In st.begun update
  pub not_below : s ≤ update.stamp
  pub complete : Complete V st update.stamp

pub reached_is : (V : ℕ → List ℕ) (st : RegisterState) (s : ℕ) → reached V s st ≡ true → IsReachedBy V st s
reached_is V st s e =
    let t = any_in (λ u. nat_le s u.stamp && is_complete V st u.stamp) st.begun e in
    let p = and_parts (nat_le s t.0.stamp) (is_complete V st t.0.stamp) t.2 in
    record { update = t.0; begun = t.1; not_below = leb-true s t.0.stamp p.0; complete = complete_is V st t.0.stamp p.1 }

-- what is complete is reached by an update
pub reached_by : (V : ℕ → List ℕ) (st : RegisterState) → Parts V st → (s b : ℕ) → 1 ≤ s → s ≤ b → Complete V st b → reached V s st ≡ true
reached_by V st parts s b one l c = ⊎_elim
    (λ (zero_is : b ≡ 0). absurd (omega (arith, zero_is, one, l)))
    (λ (u : (u : Update) × In st.begun u × (u.stamp ≡ b)). reached_with V st s u.0 u.1 (rw u.2 l) (rw u.2 c))
    (the_update V st parts b c)

abbrev pub look_of : Slot → Item
look_of x = ReadOnly x.call x.stamp x.op x.content x.answer

-- a read-only call's reply is there just where the call is
pub look_replies : (items : List Item) (x : Slot) → In items (look_of x) → list_any (is_reply x.call) (events_of items) ≡ true
look_replies [] x h = absurd h
look_replies (i ∷ items) x (inr h) =
    let t = any_in (is_reply x.call) (events_of items) (look_replies items x h) in
    in_any (is_reply x.call) (events_of items ++ item_events i) t.0 (in_left (events_of items) (item_events i) t.0 t.1) t.2
look_replies (i ∷ items) x (inl e) =
    let reply : HistoryEvent = Rattle.hk_history.specs.declared.event.Event.TheVariants.Reply (record { 0 = x.call }) x.answer in
    let own : In (item_events (look_of x)) reply = inr (inl refl) in
    in_any (is_reply x.call) (events_of items ++ item_events i) reply
    (in_right (events_of items) (item_events i) reply (subst (λ (j : Item). In (item_events j) reply) e own)) (eq-eqb x.call x.call refl)

-- a call has one reply
pub one_reply : (items : List Item) → OneReply items → (i j : Item) → In items i → In items j → IsReply i → IsReply j → call_of i ≡ call_of j → i ≡ j
one_reply [] one i j h k ri rj same = absurd h
one_reply (x ∷ items) one i j (inl e) (inl d) ri rj same = e ∙ sym d
one_reply (x ∷ items) one i j (inr h) (inr k) ri rj same = one_reply items one.1 i j h k ri rj same
one_reply (x ∷ items) one i j (inl e) (inr k) ri rj same = absurd (one.0 (subst IsReply e ri) j k rj (sym same ∙ ap call_of e))
one_reply (x ∷ items) one i j (inr h) (inl d) ri rj same = absurd (one.0 (subst IsReply d rj) i h ri (same ∙ ap call_of d))

-- ---- places
pub at_place : (items : List Item) (i : Item) → In items i → (k : ℕ) × StandsAt items k i
at_place [] i h = absurd h
at_place (x ∷ items) i (inl e) = (length items + 1, inl (e, refl))
at_place (x ∷ items) i (inr h) = let t = at_place items i h in (t.0, inr t.1)

stands_longer : (newer items : List Item) (k : ℕ) (i : Item) → StandsAt items k i → StandsAt (newer ++ items) k i
stands_longer [] items k i h = h
stands_longer (x ∷ newer) items k i h = inr (stands_longer newer items k i h)

stands_older : (newer items : List Item) (k : ℕ) (i : Item) → k ≤ length items → StandsAt (newer ++ items) k i → StandsAt items k i
stands_older [] items k i l h = h
stands_older (x ∷ newer) items k i l (inr h) = stands_older newer items k i l h
stands_older (x ∷ newer) items k i l (inl e) = absurd (let more = longer newer items in omega (arith, e.1, l, more))
  where
    longer : (newer items : List Item) → length items ≤ length (newer ++ items)
    longer [] items = omega arith
    longer (x ∷ newer) items = let more = longer newer items in omega (arith, more)

-- ---- an earlier state
pub record IsEarlier (U : ℕ → List ℕ) (x last : RegisterState) : Type 0 where
  pub parts : Parts U x
  pub newer : List Item
  pub history : last.history ≡ newer ++ x.history
  pub later : (i : Item) → In newer i → Above U x i

module _ (U : ℕ → List ℕ) (x last : RegisterState) (calls : CallParts last) (is : IsEarlier U x last) where
  -- an item of the later history is there already, or is of a call that is served later
  pub there_or_later : (i : Item) → In last.history i → In x.history i ⊎ Above U x i
  there_or_later i h = ⊎_elim (λ (k : In is.newer i). inr (is.later i k)) (λ (k : In x.history i). inl k)
      (in_either is.newer x.history i (subst (λ (l : List Item). In l i) is.history h))

  pub in_last : (i : Item) → In x.history i → In last.history i
  in_last i h = subst (λ (l : List Item). In l i) (sym is.history) (in_right is.newer x.history i h)

  -- the call is there once its reply is
  pub look_there : (b : Slot) → In last.history (look_of b) → replied b.call x ≡ true → In x.history (look_of b)
  look_there b h e =
      let t = replied_is x.history b.call e in
      let same : t.item ≡ look_of b = one_reply last.history calls.replies t.item (look_of b) (in_last t.item t.there) h t.reply tt t.call in
      subst (In x.history) same t.there

  rests_there : (b : Slot) → In x.history (look_of b) → Rests U x b.stamp
  rests_there b h = (is.parts.items (look_of b) h).0

  -- ---- what stands first is there first
  pub change_change : (s r : ℕ) → s ≤ r → reached U r x ≡ true → reached U s x ≡ true
  change_change s r l e =
      let t = reached_is U x r e in
      let up = t.not_below in
      reached_with U x s t.update t.begun (omega (arith, l, up)) t.complete

  pub change_look : (s : ℕ) (b : Slot) → 1 ≤ s → s ≤ b.stamp → In last.history (look_of b) → replied b.call x ≡ true → reached U s x ≡ true
  change_look s b one l h e = ⊎_elim
      (λ (zero_is : b.stamp ≡ 0). absurd (omega (arith, zero_is, one, l)))
      (λ (settled : Rattle.hk_register.specs.Facts.Settled U x b.stamp). reached_by U x is.parts s b.stamp one l (complete_of U x settled))
      (rests_there b (look_there b h e))

  pub look_change : (a : Slot) (r : ℕ) → a.stamp < r → In last.history (look_of a) → reached U r x ≡ true → replied a.call x ≡ true
  look_change a r l h e =
      let t = reached_is U x r e in
      ⊎_elim
      (λ (k : In x.history (look_of a)). look_replies x.history a k)
      (λ (above : Above U x (look_of a)). let up = above t.update.stamp t.complete in let more = t.not_below in absurd (omega (arith, up, more, l)))
      (there_or_later (look_of a) h)

  pub look_look : (a b : Slot) → Below a b → StandsAt last.history a.place (look_of a) → StandsAt last.history b.place (look_of b) →
      replied b.call x ≡ true → replied a.call x ≡ true
  look_look a b below at_a at_b e = look_replies x.history a (by_below below)
    where
      there : In x.history (look_of b)
      there = look_there b (stands_in last.history b.place (look_of b) at_b) e

      by_below : Below a b → In x.history (look_of a)
      by_below (inl l) = ⊎_elim
          (λ (k : In x.history (look_of a)). k)
          (λ (above : Above U x (look_of a)).
          ⊎_elim
          (λ (zero_is : b.stamp ≡ 0). absurd (omega (arith, zero_is, l)))
          (λ (settled : Rattle.hk_register.specs.Facts.Settled U x b.stamp). let up = above b.stamp (complete_of U x settled) in absurd (omega (arith, up, l)))
          (rests_there b there))
          (there_or_later (look_of a) (stands_in last.history a.place (look_of a) at_a))
      by_below (inr l) =
          let p = at_place x.history (look_of b) there in
          let up = place_within x.history p.0 (look_of b) p.1 in
          let here : StandsAt last.history p.0 (look_of b) = subst (λ (l : List Item). StandsAt l p.0 (look_of b)) (sym is.history) (stands_longer is.newer x.history p.0 (look_of b) p.1) in
          let same : p.0 ≡ b.place = one_place last.history calls.starts p.0 b.place (look_of b) tt here at_b in
          let low : a.place ≤ length x.history = omega (arith, l.1, same, up) in
          stands_in x.history a.place (look_of a)
          (stands_older is.newer x.history a.place (look_of a) low (subst (λ (l : List Item). StandsAt l a.place (look_of a)) is.history at_a))
