-- At which events a call begins and is answered, by where its entry stands.
use Rattle.std.proofs.Common.{◌≡◌, ℕ, true, List, [], ◌∷◌, ◌++◌, ◌<◌, ◌∙◌, sym, refl, ap, subst, inl, inr, ⊎_elim, arith, Option, Some}
use Rattle.std.specs.List.{list_any}
use Rattle.std.proofs.lemmas.Bool.{false≢true, eq-eqb}
use Rattle.hk_base.specs.declared.call.Answer.{Answer}
use Rattle.hk_base.specs.declared.call.Op.{Op}
use Rattle.hk_history.specs.declared.event.Event.{Event as HistoryEvent}
use Rattle.hk_history.specs.declared.event.Event.TheVariants as Event
use Rattle.hk_history.specs.History.{answer_of, is_call, is_answered}
use Rattle.hk_register.specs.Machine.{In, Item, RegisterState, call_of}
use Rattle.hk_register.specs.Machine.Item.{Called, Answered, Dropped, ReadOnly, Rejected}
use Rattle.hk_register.specs.Facts.{Complete}
use Rattle.hk_register.specs.Parts.{Parts}
use Rattle.hk_register.specs.Calls.{IsReply, CallParts}
use Rattle.hk_register.specs.Printed.{Slot, IsPrinted, StandsAt, update_slot, item_events, events_of}
use Rattle.hk_register.proofs.Grow.{in_left, in_right}
use Rattle.hk_register.proofs.Folding.{unlike, stands_in}
use Rattle.hk_register.proofs.Histories.{answer_is}
use Rattle.hk_register.proofs.Once.{own_slot, look_slot, answered_not_void}
use Rattle.hk_register.proofs.Tests.{any_in, in_any}
use Rattle.hk_joint.proofs.Earlier.{reached, replied, look_of, replied_is, reached_is, reached_by, IsEarlier, there_or_later, in_last, look_there, at_place}
use Rattle.hk_joint.proofs.Served.{Above}

-- an item that begins a call stands for the call's line
begins_call : (items : List Item) (i : Item) (c : ℕ) (line : HistoryEvent) → In items i → In (item_events i) line → is_call c line ≡ true → list_any (is_call c) (events_of items) ≡ true
begins_call [] i c line h k e = absurd h
begins_call (x ∷ items) i c line (inl is) k e =
    in_any (is_call c) (events_of items ++ item_events x) line (in_right (events_of items) (item_events x) line (subst (λ (j : Item). In (item_events j) line) is k)) e
begins_call (x ∷ items) i c line (inr h) k e =
    let t = any_in (is_call c) (events_of items) (begins_call items i c line h k e) in
    in_any (is_call c) (events_of items ++ item_events x) t.0 (in_left (events_of items) (item_events x) t.0 t.1) t.2

pub called_there : (items : List Item) (c s : ℕ) (op : Op) → In items (Called c s op) → list_any (is_call c) (events_of items) ≡ true
called_there items c s op h = begins_call items (Called c s op) c (Event.Call (record { 0 = c }) op) h (inl refl) (eq-eqb c c refl)

pub looked_there : (items : List Item) (x : Slot) → In items (look_of x) → list_any (is_call x.call) (events_of items) ≡ true
looked_there items x h = begins_call items (look_of x) x.call (Event.Call (record { 0 = x.call }) x.op) h (inl refl) (eq-eqb x.call x.call refl)

module _ (U V : ℕ → List ℕ) (x last : RegisterState) (parts : Parts V last) (calls : CallParts last) (is : IsEarlier U x last) (grows : (s : ℕ) → Complete U x s → Complete V last s)
    (slots : List Slot) (printed : IsPrinted V last slots) where
  -- a change whose call is answered is reached when the reply is there
  pub change_replied : (a : Slot) → In slots a → a.place ≡ 0 → is_answered (answer_of (events_of last.history) a.call) ≡ true → replied a.call x ≡ true → reached U a.stamp x ≡ true
  change_replied a mine zero_is told e = let t = replied_is x.history a.call e in by_item t.item t.there t.reply t.call
    where
      by_item : (i : Item) → In x.history i → IsReply i → call_of i ≡ a.call → reached U a.stamp x ≡ true
      by_item (Called c s op) h reply call = absurd reply
      by_item (Answered c s y) h reply call =
          let there = in_last U x last calls is (Answered c s y) h in
          let w = calls.items (Answered c s y) there in
          let done = (is.parts.items (Answered c s y) h).0 in
          let same : a ≡ update_slot w.0 = own_slot V last parts calls slots printed a (update_slot w.0) mine (printed.updates w.0 w.1 (rw w.3 (grows s done))) (sym call ∙ sym w.2) in
          let stamp : a.stamp ≡ s = ap (λ (z : Slot). z.stamp) same ∙ w.3 in
          subst (λ (r : ℕ). reached U r x ≡ true) (sym stamp)
          (reached_by U x is.parts s s (is.parts.items (Answered c s y) h).1 (omega arith) done)
      by_item (ReadOnly c s op held y) h reply call =
          let there = in_last U x last calls is (ReadOnly c s op held y) h in
          let p = at_place last.history (ReadOnly c s op held y) there in
          let w = printed.looks p.0 c s op held y p.1 in
          let same : a ≡ look_slot p.0 c s op held y = own_slot V last parts calls slots printed a (look_slot p.0 c s op held y) mine w (sym call) in
          let place : a.place ≡ p.0 = ap (λ (z : Slot). z.place) same in
          let pos = positive last.history p.0 (ReadOnly c s op held y) p.1 in
          absurd (omega (arith, place, zero_is, pos))
        where
          positive : (items : List Item) (k : ℕ) (i : Item) → StandsAt items k i → 0 < k
          positive [] k i h = absurd h
          positive (z ∷ items) k i (inl e) = omega (arith, e.1)
          positive (z ∷ items) k i (inr h) = positive items k i h
      by_item (Dropped c s y) h reply call =
          let there = in_last U x last calls is (Dropped c s y) h in
          let says = answer_is last.history calls.replies (Dropped c s y) y there refl in
          let told' : is_answered (Some y) ≡ true = subst (λ (o : Option Answer). is_answered o ≡ true) (subst (λ (n : ℕ). answer_of (events_of last.history) n ≡ Some y) call says) told in
          absurd (unlike y told' (calls.items (Dropped c s y) there).1)
      by_item (Rejected c op y) h reply call =
          let there = in_last U x last calls is (Rejected c op y) h in
          let says = answer_is last.history calls.replies (Rejected c op y) y there refl in
          let told' : is_answered (Some y) ≡ true = subst (λ (o : Option Answer). is_answered o ≡ true) (subst (λ (n : ℕ). answer_of (events_of last.history) n ≡ Some y) call says) told in
          absurd (false≢true (sym (answered_not_void y told') ∙ calls.items (Rejected c op y) there))

  -- where a change is reached, its call was made
  pub change_called : (b : Slot) → In slots b → b.place ≡ 0 → reached U b.stamp x ≡ true → list_any (is_call b.call) (events_of x.history) ≡ true
  change_called b mine zero_is e =
      let f = printed.update b mine zero_is in
      let stamp : b.stamp ≡ f.0.stamp = ap (λ (z : Slot). z.stamp) f.3 in
      let call : b.call ≡ f.0.call = ap (λ (z : Slot). z.call) f.3 in
      let t = reached_is U x b.stamp e in
      subst (λ (n : ℕ). list_any (is_call n) (events_of x.history) ≡ true) (sym call)
      (⊎_elim
      (λ (k : In x.history (Called f.0.call f.0.stamp f.0.op)). called_there x.history f.0.call f.0.stamp f.0.op k)
      (λ (above : Above U x (Called f.0.call f.0.stamp f.0.op)). let up = above t.update.stamp t.complete in let low = t.not_below in absurd (omega (arith, up, low, stamp)))
      (there_or_later U x last calls is (Called f.0.call f.0.stamp f.0.op) (calls.called f.0 f.1)))

  -- where another call is answered, it was made
  pub look_called : (b : Slot) → In slots b → 0 < b.place → replied b.call x ≡ true → list_any (is_call b.call) (events_of x.history) ≡ true
  look_called b mine pos e = looked_there x.history b (look_there U x last calls is b (stands_in last.history b.place (look_of b) (printed.look b mine pos)) e)
