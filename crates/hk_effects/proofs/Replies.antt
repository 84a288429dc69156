-- What replies say in the history of a key.
use Rattle.std.proofs.Common.{◌≡◌, ◌≢◌, ℕ, Bool, true, false, cond, List, [], ◌∷◌, ◌++◌, map, ◌∙◌, refl, ap, Option, Some, None, IfSome, IsTrue}
use Rattle.std.proofs.lemmas.Bool.{false≢true}
use Rattle.hk_base.specs.declared.call.Answer.{Answer}
use Rattle.hk_base.specs.declared.call.Answer.TheVariants.{Found, Missing, Stored, Number, Exists, NotFound, NotNumber, NotStored, Deleted, Busy, Aborted, Exhausted}
use Rattle.hk_base.specs.declared.call.Reply.{Reply}
use Rattle.hk_base.specs.declared.call.Op.{Op}
use Rattle.hk_history.specs.History.{is_void, is_unsure, is_answered}
use Rattle.hk_register.specs.Machine.{Node, Item}
use Rattle.hk_register.specs.Machine.Item.{Answered, Dropped, ReadOnly, Rejected}
use Rattle.hk_register.specs.Effects.{answer_of}
use Rattle.hk_node.specs.Stepped.{told_of}
use Rattle.hk_effects.specs.Projection.{told_at, reply_item, read_only_item, updates_of}
use Rattle.hk_effects.proofs.Order.{same_itself, same_not}

-- what the reply says, if there is one
abbrev pub reply_items : ℕ → Option Reply → List Item
reply_items s None = []
reply_items s (Some r) = reply_item s r ∷ []

pub answered_sure : (a : Answer) → IsTrue (is_answered (Some a)) → is_unsure (Some a) ≡ false
answered_sure (Found c tag) e = refl
answered_sure Missing e = refl
answered_sure Stored e = refl
answered_sure (Number n) e = refl
answered_sure Exists e = refl
answered_sure NotFound e = refl
answered_sure NotNumber e = refl
answered_sure NotStored e = refl
answered_sure Deleted e = refl
answered_sure (Busy why) e = absurd (false≢true e)
answered_sure (Aborted s) e = absurd (false≢true e)
answered_sure (Exhausted s) e = absurd (false≢true e)

pub answered_not_void : (a : Answer) → IsTrue (is_answered (Some a)) → is_void (Some a) ≡ false
answered_not_void (Found c tag) e = refl
answered_not_void Missing e = refl
answered_not_void Stored e = refl
answered_not_void (Number n) e = refl
answered_not_void Exists e = refl
answered_not_void NotFound e = refl
answered_not_void NotNumber e = refl
answered_not_void NotStored e = refl
answered_not_void Deleted e = refl
answered_not_void (Busy why) e = absurd (false≢true e)
answered_not_void (Aborted s) e = absurd (false≢true e)
answered_not_void (Exhausted s) e = absurd (false≢true e)

-- a reply with an answer is the update's answer
pub answer_item : (s : ℕ) (r : Reply) → IsTrue (is_answered (Some r.answer)) → reply_item s r ≡ Answered r.call.0 s r.answer
answer_item s r e = ap (λ (b : Bool). cond b (Dropped r.call.0 s r.answer) (Answered r.call.0 s r.answer)) (answered_sure r.answer e)

pub answers_are : (s : ℕ) (o : Option Reply) → IfSome o (λ r. IsTrue (is_answered (Some r.answer))) → reply_items s o ≡ answer_of o s
answers_are s None e = refl
answers_are s (Some r) e = ap (λ (i : Item). i ∷ []) (answer_item s r e)

-- a read-only call, and one that was refused
pub read_only_item_is : (call : ℕ) (op : Op) (was : Node) (r : Reply) → IsTrue (is_answered (Some r.answer)) → read_only_item call op was r ≡ ReadOnly call was.stamp op was.content r.answer
read_only_item_is call op was r e = ap (λ (b : Bool). cond b (Rejected call op r.answer) (ReadOnly call was.stamp op was.content r.answer)) (answered_not_void r.answer e)

pub rejected_item : (call : ℕ) (op : Op) (was : Node) (r : Reply) → IsTrue (is_void (Some r.answer)) → read_only_item call op was r ≡ Rejected call op r.answer
rejected_item call op was r e = ap (λ (b : Bool). cond b (Rejected call op r.answer) (ReadOnly call was.stamp op was.content r.answer)) e

-- the replies of a row's step, at its key and at another
pub told_own : (key : List ℕ) (s : ℕ) (o : Option Reply) → map (reply_item s) (told_at key (told_of key o)) ≡ reply_items s o
told_own key s None = refl
told_own key s (Some r) = rw (same_itself key) refl

pub told_other : (key k : List ℕ) (o : Option Reply) → key ≢ k → told_at key (told_of k o) ≡ []
told_other key k None ne = refl
told_other key k (Some r) ne = rw (same_not key k ne) refl

-- replies begin nothing
pub replies_begin_none : (id : ℕ) (z : Node) (s : ℕ) (rs : List Reply) (more : List Item) → updates_of id z (map (reply_item s) rs ++ more) ≡ updates_of id z more
replies_begin_none id z s [] more = refl
replies_begin_none id z s (r ∷ rs) more = by_test (is_unsure (Some r.answer)) ∙ replies_begin_none id z s rs more
  where
    by_test : (b : Bool) → updates_of id z (cond b (Dropped r.call.0 s r.answer) (Answered r.call.0 s r.answer) ∷ (map (reply_item s) rs ++ more)) ≡ updates_of id z (map (reply_item s) rs ++ more)
    by_test true = refl
    by_test false = refl

pub reply_begins_none : (id : ℕ) (z : Node) (s : ℕ) (o : Option Reply) (more : List Item) → updates_of id z (reply_items s o ++ more) ≡ updates_of id z more
reply_begins_none id z s None more = refl
reply_begins_none id z s (Some r) more = replies_begin_none id z s (r ∷ []) more

pub reply_alone_begins_none : (id : ℕ) (z : Node) (s : ℕ) (o : Option Reply) → updates_of id z (reply_items s o) ≡ []
reply_alone_begins_none id z s None = refl
reply_alone_begins_none id z s (Some r) = replies_begin_none id z s (r ∷ []) []

pub looks_begin_none : (id : ℕ) (z : Node) (call : ℕ) (op : Op) (was : Node) (rs : List Reply) → updates_of id z (map (read_only_item call op was) rs) ≡ []
looks_begin_none id z call op was [] = refl
looks_begin_none id z call op was (r ∷ rs) = by_test (is_void (Some r.answer)) ∙ looks_begin_none id z call op was rs
  where
    by_test : (b : Bool) → updates_of id z (cond b (Rejected call op r.answer) (ReadOnly call was.stamp op was.content r.answer) ∷ map (read_only_item call op was) rs) ≡ updates_of id z (map (read_only_item call op was) rs)
    by_test true = refl
    by_test false = refl
