-- What a history of items says of a call's number.
use Rattle.std.proofs.Common.{◌≡◌, ◌≢◌, ℕ, Bool, true, false, cond, List, [], ◌∷◌, ◌++◌, ◌∙◌, sym, refl, ap, subst, inl, inr, Option, Some, None, eqb}
use Rattle.std.proofs.lemmas.Bool.{eqb-true, eq-eqb, ne_eqb}
use Rattle.hk_base.specs.declared.call.Op.{Op}
use Rattle.hk_base.specs.declared.call.Answer.{Answer}
use Rattle.hk_history.specs.declared.event.Event.{Event}
use Rattle.hk_history.specs.declared.event.Event.TheVariants.{Call, Reply}
use Rattle.hk_history.specs.History.{op_of, answer_of}
use Rattle.hk_register.specs.Machine.{In, Item, call_of}
use Rattle.hk_register.specs.Machine.Item.{Called, Answered, Dropped, ReadOnly, Rejected}
use Rattle.hk_register.specs.Calls.{IsStart, IsReply, OneStart, OneReply}
use Rattle.hk_register.specs.Printed.{item_events, events_of}

op_none : (xs ys : List Event) (n : ℕ) → op_of xs n ≡ None → op_of (xs ++ ys) n ≡ op_of ys n
op_none [] ys n e = refl
op_none (Reply c a ∷ xs) ys n e = op_none xs ys n e
op_none (Call c op ∷ xs) ys n e = by_test (eqb c.0 n) e (op_none xs ys n)
  where
    by_test : (b : Bool) → cond b (Some op) (op_of xs n) ≡ None → (op_of xs n ≡ None → op_of (xs ++ ys) n ≡ op_of ys n) → cond b (Some op) (op_of (xs ++ ys) n) ≡ op_of ys n
    by_test true e more = cc
    by_test false e more = more e

op_some : (xs ys : List Event) (n : ℕ) (o : Op) → op_of xs n ≡ Some o → op_of (xs ++ ys) n ≡ Some o
op_some [] ys n o e = cc
op_some (Reply c a ∷ xs) ys n o e = op_some xs ys n o e
op_some (Call c op ∷ xs) ys n o e = by_test (eqb c.0 n) e (op_some xs ys n o)
  where
    by_test : (b : Bool) → cond b (Some op) (op_of xs n) ≡ Some o → (op_of xs n ≡ Some o → op_of (xs ++ ys) n ≡ Some o) → cond b (Some op) (op_of (xs ++ ys) n) ≡ Some o
    by_test true e more = e
    by_test false e more = more e

answer_none : (xs ys : List Event) (n : ℕ) → answer_of xs n ≡ None → answer_of (xs ++ ys) n ≡ answer_of ys n
answer_none [] ys n e = refl
answer_none (Call c op ∷ xs) ys n e = answer_none xs ys n e
answer_none (Reply c a ∷ xs) ys n e = by_test (eqb c.0 n) e (answer_none xs ys n)
  where
    by_test : (b : Bool) → cond b (Some a) (answer_of xs n) ≡ None → (answer_of xs n ≡ None → answer_of (xs ++ ys) n ≡ answer_of ys n) → cond b (Some a) (answer_of (xs ++ ys) n) ≡ answer_of ys n
    by_test true e more = cc
    by_test false e more = more e

answer_some : (xs ys : List Event) (n : ℕ) (o : Answer) → answer_of xs n ≡ Some o → answer_of (xs ++ ys) n ≡ Some o
answer_some [] ys n o e = cc
answer_some (Call c op ∷ xs) ys n o e = answer_some xs ys n o e
answer_some (Reply c a ∷ xs) ys n o e = by_test (eqb c.0 n) e (answer_some xs ys n o)
  where
    by_test : (b : Bool) → cond b (Some a) (answer_of xs n) ≡ Some o → (answer_of xs n ≡ Some o → answer_of (xs ++ ys) n ≡ Some o) → cond b (Some a) (answer_of (xs ++ ys) n) ≡ Some o
    by_test true e more = e
    by_test false e more = more e

-- an item of another call says nothing
op_other : (i : Item) (n : ℕ) → call_of i ≢ n → op_of (item_events i) n ≡ None
op_other (Called c s op) n ne = rw (ne_eqb c n ne) refl
op_other (Answered c s a) n ne = refl
op_other (Dropped c s a) n ne = refl
op_other (ReadOnly c s op held a) n ne = rw (ne_eqb c n ne) refl
op_other (Rejected c op a) n ne = rw (ne_eqb c n ne) refl

pub no_op : (items : List Item) (n : ℕ) → ((j : Item) → In items j → IsStart j → call_of j ≢ n) → op_of (events_of items) n ≡ None
no_op [] n none = refl
no_op (i ∷ items) n none = op_none (events_of items) (item_events i) n (no_op items n (λ j h. none j (inr h))) ∙ by_item i (none i (inl refl))
  where
    by_item : (i : Item) → (IsStart i → call_of i ≢ n) → op_of (item_events i) n ≡ None
    by_item (Called c s op) ne = op_other (Called c s op) n (ne tt)
    by_item (Answered c s a) ne = refl
    by_item (Dropped c s a) ne = refl
    by_item (ReadOnly c s op held a) ne = op_other (ReadOnly c s op held a) n (ne tt)
    by_item (Rejected c op a) ne = op_other (Rejected c op a) n (ne tt)

pub no_answer : (items : List Item) (n : ℕ) → ((j : Item) → In items j → IsReply j → call_of j ≢ n) → answer_of (events_of items) n ≡ None
no_answer [] n none = refl
no_answer (i ∷ items) n none = answer_none (events_of items) (item_events i) n (no_answer items n (λ j h. none j (inr h))) ∙ by_item i (none i (inl refl))
  where
    by_item : (i : Item) → (IsReply i → call_of i ≢ n) → answer_of (item_events i) n ≡ None
    by_item (Called c s op) ne = refl
    by_item (Answered c s a) ne = rw (ne_eqb c n (ne tt)) refl
    by_item (Dropped c s a) ne = rw (ne_eqb c n (ne tt)) refl
    by_item (ReadOnly c s op held a) ne = rw (ne_eqb c n (ne tt)) refl
    by_item (Rejected c op a) ne = rw (ne_eqb c n (ne tt)) refl

-- the operation of a start
abbrev pub OpIn : Item → Op → Type 0
OpIn (Called c s op) o = op ≡ o
OpIn (ReadOnly c s op held a) o = op ≡ o
OpIn (Rejected c op a) o = op ≡ o
OpIn (Answered c s a) o = ⊥
OpIn (Dropped c s a) o = ⊥

abbrev pub AnswerIn : Item → Answer → Type 0
AnswerIn (Called c s op) o = ⊥
AnswerIn (ReadOnly c s op held a) o = a ≡ o
AnswerIn (Rejected c op a) o = a ≡ o
AnswerIn (Answered c s a) o = a ≡ o
AnswerIn (Dropped c s a) o = a ≡ o

op_here : (i : Item) (o : Op) → OpIn i o → op_of (item_events i) (call_of i) ≡ Some o
op_here (Called c s op) o e = rw (eq-eqb c c refl) (ap (λ (x : Op). Some x) e)
op_here (ReadOnly c s op held a) o e = rw (eq-eqb c c refl) (ap (λ (x : Op). Some x) e)
op_here (Rejected c op a) o e = rw (eq-eqb c c refl) (ap (λ (x : Op). Some x) e)
op_here (Answered c s a) o e = absurd e
op_here (Dropped c s a) o e = absurd e

start_of_op : (i : Item) (o : Op) → OpIn i o → IsStart i
start_of_op (Called c s op) o e = tt
start_of_op (ReadOnly c s op held a) o e = tt
start_of_op (Rejected c op a) o e = tt
start_of_op (Answered c s a) o e = absurd e
start_of_op (Dropped c s a) o e = absurd e

pub op_is : (items : List Item) → OneStart items → (i : Item) (o : Op) → In items i → OpIn i o → op_of (events_of items) (call_of i) ≡ Some o
op_is [] one i o h e = absurd h
op_is (x ∷ items) one i o (inl is) e =
    let e' : OpIn x o = subst (λ (j : Item). OpIn j o) is e in
    let at_x = op_none (events_of items) (item_events x) (call_of x) (no_op items (call_of x) (λ j h s. one.0 (start_of_op x o e') j h)) ∙ op_here x o e' in
    subst (λ (j : Item). op_of (events_of (x ∷ items)) (call_of j) ≡ Some o) (sym is) at_x
op_is (x ∷ items) one i o (inr h) e = op_some (events_of items) (item_events x) (call_of i) o (op_is items one.1 i o h e)

answer_here : (i : Item) (a : Answer) → AnswerIn i a → answer_of (item_events i) (call_of i) ≡ Some a
answer_here (Called c s op) o e = absurd e
answer_here (ReadOnly c s op held a) o e = rw (eq-eqb c c refl) (ap (λ (x : Answer). Some x) e)
answer_here (Rejected c op a) o e = rw (eq-eqb c c refl) (ap (λ (x : Answer). Some x) e)
answer_here (Answered c s a) o e = rw (eq-eqb c c refl) (ap (λ (x : Answer). Some x) e)
answer_here (Dropped c s a) o e = rw (eq-eqb c c refl) (ap (λ (x : Answer). Some x) e)

reply_of_answer : (i : Item) (a : Answer) → AnswerIn i a → IsReply i
reply_of_answer (Called c s op) o e = absurd e
reply_of_answer (ReadOnly c s op held a) o e = tt
reply_of_answer (Rejected c op a) o e = tt
reply_of_answer (Answered c s a) o e = tt
reply_of_answer (Dropped c s a) o e = tt

pub answer_is : (items : List Item) → OneReply items → (i : Item) (a : Answer) → In items i → AnswerIn i a → answer_of (events_of items) (call_of i) ≡ Some a
answer_is [] one i a h e = absurd h
answer_is (x ∷ items) one i a (inl is) e =
    let e' : AnswerIn x a = subst (λ (j : Item). AnswerIn j a) is e in
    let at_x = answer_none (events_of items) (item_events x) (call_of x) (no_answer items (call_of x) (λ j h r. one.0 (reply_of_answer x a e') j h r)) ∙ answer_here x a e' in
    subst (λ (j : Item). answer_of (events_of (x ∷ items)) (call_of j) ≡ Some a) (sym is) at_x
answer_is (x ∷ items) one i a (inr h) e = answer_some (events_of items) (item_events x) (call_of i) a (answer_is items one.1 i a h e)

-- an answer is some item's
pub record Replier (items : List Item) (n : ℕ) (a : Answer) : Type 0 where
  pub item : Item
  pub there : In items item
  pub call : call_of item ≡ n
  pub answer : AnswerIn item a

abbrev pub MaybeReplier : List Item → ℕ → Option Answer → Type 0
MaybeReplier items n None = Unit {0}
MaybeReplier items n (Some a) = Replier items n a

later : (x : Item) (items : List Item) (n : ℕ) (o : Option Answer) → MaybeReplier items n o → MaybeReplier (x ∷ items) n o
later x items n None r = tt
later x items n (Some a) r = record { item = r.item; there = inr r.there; call = r.call; answer = r.answer }

replier_here : (x : Item) (items : List Item) (n : ℕ) → MaybeReplier (x ∷ items) n (answer_of (item_events x) n)
replier_here (Called c s op) items n = tt
replier_here (Answered c s a) items n = by_test (eqb c n) refl
  where
    by_test : (b : Bool) → eqb c n ≡ b → MaybeReplier (Answered c s a ∷ items) n (cond b (Some a) None)
    by_test true e = record { item = Answered c s a; there = inl refl; call = eqb-true c n e; answer = refl }
    by_test false e = tt
replier_here (Dropped c s a) items n = by_test (eqb c n) refl
  where
    by_test : (b : Bool) → eqb c n ≡ b → MaybeReplier (Dropped c s a ∷ items) n (cond b (Some a) None)
    by_test true e = record { item = Dropped c s a; there = inl refl; call = eqb-true c n e; answer = refl }
    by_test false e = tt
replier_here (ReadOnly c s op held a) items n = by_test (eqb c n) refl
  where
    by_test : (b : Bool) → eqb c n ≡ b → MaybeReplier (ReadOnly c s op held a ∷ items) n (cond b (Some a) None)
    by_test true e = record { item = ReadOnly c s op held a; there = inl refl; call = eqb-true c n e; answer = refl }
    by_test false e = tt
replier_here (Rejected c op a) items n = by_test (eqb c n) refl
  where
    by_test : (b : Bool) → eqb c n ≡ b → MaybeReplier (Rejected c op a ∷ items) n (cond b (Some a) None)
    by_test true e = record { item = Rejected c op a; there = inl refl; call = eqb-true c n e; answer = refl }
    by_test false e = tt

pub replier : (items : List Item) (n : ℕ) → MaybeReplier items n (answer_of (events_of items) n)
replier [] n = tt
replier (x ∷ items) n = by_old (answer_of (events_of items) n) refl (replier items n)
  where
    by_old : (o : Option Answer) → answer_of (events_of items) n ≡ o → MaybeReplier items n o → MaybeReplier (x ∷ items) n (answer_of (events_of items ++ item_events x) n)
    by_old None e r = subst (MaybeReplier (x ∷ items) n) (sym (answer_none (events_of items) (item_events x) n e)) (replier_here x items n)
    by_old (Some a) e r = subst (MaybeReplier (x ∷ items) n) (sym (answer_some (events_of items) (item_events x) n a e)) (later x items n (Some a) r)
