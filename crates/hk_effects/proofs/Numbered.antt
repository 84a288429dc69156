-- What an event adds to a key's trace: marks in its node's epoch, and items of calls of so far.
use Rattle.std.proofs.Common.{◌≡◌, ℕ, Bool, true, false, cond, ◌+◌, List, [], ◌∷◌, ◌++◌, map, ◌≤◌, sym, refl, subst, inl, inr, ⊎_elim, arith, Some, eqb, ltb, leb}
use Rattle.hk_base.specs.declared.call.Op.{Op}
use Rattle.hk_base.specs.declared.call.Reply.{Reply}
use Rattle.hk_history.specs.History.{is_void, is_unsure}
use Rattle.hk_register.specs.Machine.{In, Phase, Node, Message, Mark, Item, call_of}
use Rattle.hk_register.specs.Machine.Item.{Called, Answered, Dropped, ReadOnly, Rejected}
use Rattle.hk_register.specs.Effects.{row_mark, cover_mark}
use Rattle.hk_register.proofs.Grow.{in_either}
use Rattle.hk_event.specs.declared.event.Event.{Event}
use Rattle.hk_event.specs.declared.event.Event.TheVariants.{Call, Take, Tick, TickAll, Crash, Resend, Replay, Copy, Start, Agree, Install, Lease, AskLease, Propose, Activate}
use Rattle.hk_effects.specs.Projection.{is_same_key, pending_marks, moment_marks, install_marks, ack_marks, step_marks, told_at, pending_stamp, reply_item, read_only_item, call_items, items_of}
use Rattle.hk_effects.proofs.NodesKept.{AreAnswered}
use Rattle.hk_effects.proofs.WorldKept.{calls_after}

-- ---- marks
pending_epoch : (id : ℕ) (z : Node) (phase : Phase) (k : Mark) → In (pending_marks id z phase) k → k.epoch ≡ z.epoch
pending_epoch id z Phase.Valid k h = absurd h
pending_epoch id z Phase.Invalid k h = absurd h
pending_epoch id z (Phase.Write p) k h = ⊎_elim (λ (e : k ≡ cover_mark id z p.stamp). rw e refl) (λ (none : ⊥). absurd none) h
pending_epoch id z (Phase.Replay p) k h = ⊎_elim (λ (e : k ≡ cover_mark id z p.stamp). rw e refl) (λ (none : ⊥). absurd none) h
pending_epoch id z (Phase.Trans p) k h = ⊎_elim (λ (e : k ≡ cover_mark id z p.stamp). rw e refl) (λ (none : ⊥). absurd none) h

ack_epoch : (id : ℕ) (z : Node) (ls : List Message) (k : Mark) → In (ack_marks id z ls) k → k.epoch ≡ z.epoch
ack_epoch id z [] k h = absurd h
ack_epoch id z (Message.Ack from epoch s top ∷ ls) k h = ⊎_elim (λ (e : k ≡ cover_mark id z s). rw e refl) (ack_epoch id z ls k) h
ack_epoch id z (Message.Inv from epoch s kind content ∷ ls) k h = ack_epoch id z ls k h
ack_epoch id z (Message.Val from epoch s ∷ ls) k h = ack_epoch id z ls k h
ack_epoch id z (Message.Give from epoch s kind content valid ∷ ls) k h = ack_epoch id z ls k h

-- the epochs of a step's marks are its node's
pub step_epoch : (id : ℕ) (was z : Node) (ls : List Message) (k : Mark) → In (step_marks id was z ls) k → k.epoch ≡ z.epoch
step_epoch id was z ls k h =
    ⊎_elim
    (λ (a : In (moment_marks id z) k). moment (leb 1 z.epoch) a)
    (λ (b : In (install_marks id was z ++ ack_marks id z ls) k).
    ⊎_elim (λ (i : In (install_marks id was z) k). installed (ltb was.epoch z.epoch) i) (ack_epoch id z ls k) (in_either (install_marks id was z) (ack_marks id z ls) k b))
    (in_either (moment_marks id z) (install_marks id was z ++ ack_marks id z ls) k h)
  where
    moment : (b : Bool) → In (cond b (row_mark id z ∷ pending_marks id z z.phase) []) k → k.epoch ≡ z.epoch
    moment true h = ⊎_elim (λ (e : k ≡ row_mark id z). rw e refl) (pending_epoch id z z.phase k) h
    moment false h = absurd h

    installed : (b : Bool) → In (cond b (pending_marks id z was.phase) []) k → k.epoch ≡ z.epoch
    installed true h = pending_epoch id z was.phase k h
    installed false h = absurd h

-- ---- items
abbrev pub RepliesUpTo : ℕ → List Reply → Type 0
RepliesUpTo n rs = (r : Reply) → In rs r → r.call.0 ≤ n

abbrev pub ItemsUpTo : ℕ → List Item → Type 0
ItemsUpTo n items = (i : Item) → In items i → call_of i ≤ n

pub told_upto : (key : List ℕ) (told : List (List ℕ × Reply)) (n : ℕ) → AreAnswered n told → RepliesUpTo n (told_at key told)
told_upto key [] n ok r h = absurd h
told_upto key (t ∷ told) n ok r h = by_test (is_same_key key t.0) h (told_upto key told n (λ k u. ok k (inr u)) r)
  where
    by_test : (b : Bool) → In (cond b (t.1 ∷ told_at key told) (told_at key told)) r → (In (told_at key told) r → r.call.0 ≤ n) → r.call.0 ≤ n
    by_test true h more = ⊎_elim (λ (e : r ≡ t.1). subst (λ (q : Reply). q.call.0 ≤ n) (sym e) (ok t (inl refl))) more h
    by_test false h more = more h

replies_upto : (s n : ℕ) (rs : List Reply) → RepliesUpTo n rs → ItemsUpTo n (map (reply_item s) rs)
replies_upto s n [] ok i h = absurd h
replies_upto s n (r ∷ rs) ok i (inl e) = subst (λ (j : Item). call_of j ≤ n) (sym e) (by_test (is_unsure (Some r.answer)))
  where
    by_test : (b : Bool) → call_of (cond b (Dropped r.call.0 s r.answer) (Answered r.call.0 s r.answer)) ≤ n
    by_test true = ok r (inl refl)
    by_test false = ok r (inl refl)
replies_upto s n (r ∷ rs) ok i (inr h) = replies_upto s n rs (λ q t. ok q (inr t)) i h

looks_upto : (call : ℕ) (op : Op) (was : Node) (n : ℕ) (rs : List Reply) → call ≤ n → ItemsUpTo n (map (read_only_item call op was) rs)
looks_upto call op was n [] low i h = absurd h
looks_upto call op was n (r ∷ rs) low i (inl e) = subst (λ (j : Item). call_of j ≤ n) (sym e) (by_test (is_void (Some r.answer)))
  where
    by_test : (b : Bool) → call_of (cond b (Rejected call op r.answer) (ReadOnly call was.stamp op was.content r.answer)) ≤ n
    by_test true = low
    by_test false = low
looks_upto call op was n (r ∷ rs) low i (inr h) = looks_upto call op was n rs low i h

call_upto : (b : Bool) (call : ℕ) (op : Op) (was z : Node) (n : ℕ) (rs : List Reply) → call ≤ n → RepliesUpTo n rs → ItemsUpTo n (call_items b call op was z rs)
call_upto true call op was z n rs low ok i h = looks_upto call op was n rs low i h
call_upto false call op was z n rs low ok i h = ⊎_elim (replies_upto z.stamp n rs ok i)
    (λ (c : In (Called call z.stamp op ∷ []) i). ⊎_elim (λ (e : i ≡ Called call z.stamp op). subst (λ (j : Item). call_of j ≤ n) (sym e) low) (λ (none : ⊥). absurd none) c)
    (in_either (map (reply_item z.stamp) rs) (Called call z.stamp op ∷ []) i h)

-- the call that an event makes is the last one, and the others that it answers were made before
pub items_upto : (key : List ℕ) (event : Event) (calls n : ℕ) (was z : Node) (rs : List Reply) → n ≡ calls_after event calls → RepliesUpTo n rs → ItemsUpTo n (items_of key event (calls + 1) was z rs)
items_upto key (Call id k op) calls n was z rs next ok = by_key (is_same_key key k)
  where
    by_key : (b : Bool) → ItemsUpTo n (cond b (call_items (eqb z.stamp was.stamp) (calls + 1) op was z rs) [])
    by_key true i h = call_upto (eqb z.stamp was.stamp) (calls + 1) op was z n rs (omega (arith, next)) ok i h
    by_key false i h = absurd h
items_upto key (Take l) calls n was z rs next ok = replies_upto (pending_stamp was.phase) n rs ok
items_upto key (Tick actor to) calls n was z rs next ok = replies_upto (pending_stamp was.phase) n rs ok
items_upto key (TickAll to) calls n was z rs next ok = replies_upto (pending_stamp was.phase) n rs ok
items_upto key (Crash actor) calls n was z rs next ok = replies_upto (pending_stamp was.phase) n rs ok
items_upto key (Resend id k) calls n was z rs next ok = replies_upto (pending_stamp was.phase) n rs ok
items_upto key (Replay id k) calls n was z rs next ok = replies_upto (pending_stamp was.phase) n rs ok
items_upto key (Copy id from room) calls n was z rs next ok = replies_upto (pending_stamp was.phase) n rs ok
items_upto key (Start id) calls n was z rs next ok = replies_upto (pending_stamp was.phase) n rs ok
items_upto key (Agree change) calls n was z rs next ok = replies_upto (pending_stamp was.phase) n rs ok
items_upto key (Install id epoch) calls n was z rs next ok = replies_upto (pending_stamp was.phase) n rs ok
items_upto key (Lease id end) calls n was z rs next ok = replies_upto (pending_stamp was.phase) n rs ok
items_upto key (AskLease id manager) calls n was z rs next ok = replies_upto (pending_stamp was.phase) n rs ok
items_upto key (Propose manager base change) calls n was z rs next ok = replies_upto (pending_stamp was.phase) n rs ok
items_upto key (Activate manager) calls n was z rs next ok = replies_upto (pending_stamp was.phase) n rs ok
