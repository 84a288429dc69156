-- What stands at an actor, what it is that two actors or two tickets are one, and what a roll has of its log.
use Rattle.std.proofs.Common.{◌≡◌, ◌⊎◌, ℕ, ◌&&◌, nat_eq, List, [], ◌∷◌, ◌++◌, Bool, true, false, cond, Option, Some, None, refl, sym, ap, subst, ◌∙◌, inl, inr}
use Rattle.std.specs.declared.cmp.Ordering.{Ordering}
use Rattle.std.specs.declared.cmp.Ordering.TheVariants.{Less, Equal, Greater}
use Rattle.std.specs.Ordering.{match_ordering, is_eq}
use Rattle.std.specs.BTreeMap.{insert_entry, is_at}
use Rattle.std.specs.Map.{lookup}
use Rattle.std.specs.Cmp.Lexicographic.{pointwise}
use Rattle.std.proofs.lemmas.Bool.{false≢true, eqb-true, eq-eqb}
use Rattle.std.proofs.lemmas.Cmp.{nat_cmp_total, tied_itself}
use Rattle.std.proofs.lemmas.Map.Lookups.{exact_unsigned}
use Rattle.hk_base.specs.declared.stamp.NodeId.{NodeId}
use Rattle.hk_base.specs.declared.letter.Actor.{Actor}
use Rattle.hk_base.specs.declared.letter.Actor.TheVariants.{Node, Manager}
use Rattle.hk_fields.specs.declared.tickets.Ticket.{Ticket}
use Rattle.hk_roll.specs.declared.binding.Binding.{Binding}
use Rattle.hk_roll.specs.Rolls.{by_actor, Entries, bound, with_bound, replayed}
use Rattle.hk_roll.specs.Boards.{same_ticket, names}
use Rattle.hk_roll.specs.Group.{In}

-- ---- tickets

both_hold : (a b : Bool) → (a && b) ≡ true → (a ≡ true) × (b ≡ true)
both_hold true b e = (refl, e)
both_hold false b e = absurd cc

same_bytes : (xs ys : List ℕ) → pointwise nat_eq xs ys ≡ true → xs ≡ ys
same_bytes [] [] e = refl
same_bytes [] (y ∷ ys) e = absurd cc
same_bytes (x ∷ xs) [] e = absurd cc
same_bytes (x ∷ xs) (y ∷ ys) e =
    let parts = both_hold (nat_eq x y) (pointwise nat_eq xs ys) e in
    let head : x ≡ y = eqb-true x y parts.0 in
    let tail : xs ≡ ys = same_bytes xs ys parts.1 in
    rw (head, tail) refl

own_bytes : (xs : List ℕ) → pointwise nat_eq xs xs ≡ true
own_bytes [] = refl
own_bytes (x ∷ xs) = let head : nat_eq x x ≡ true = eq-eqb x x refl in rw head (own_bytes xs)

ticket_of : List ℕ → Ticket
ticket_of bytes = record { 0 = bytes }

pub one_ticket : (t u : Ticket) → same_ticket t u ≡ true → t ≡ u
unfolding ticket_of
one_ticket t u e = ap ticket_of (same_bytes t.0 u.0 e)

pub own_ticket : (t : Ticket) → same_ticket t t ≡ true
own_ticket t = own_bytes t.0

pub named_is : (t : Ticket) (x : Option Ticket) → names t x ≡ true → x ≡ Some t
named_is t None e = absurd cc
named_is t (Some u) e = ap Some (sym (one_ticket t u e))

pub is_named : (t : Ticket) (x : Option Ticket) → x ≡ Some t → names t x ≡ true
is_named t x e = rw e (own_ticket t)

-- ---- actors

numbered : ℕ → NodeId
numbered n = record { 0 = n }

pub same_node : (a b : NodeId) → a.0 ≡ b.0 → a ≡ b
unfolding numbered
same_node a b e = ap numbered e

no_equal : Greater ≡ Equal → ⊥
no_equal e = absurd cc

not_less : Less ≡ Equal → ⊥
not_less e = absurd cc

same_actor : (a b : Actor) → by_actor a b ≡ Equal → a ≡ b
same_actor (Node a) (Node b) e = ap Node (same_node a b (exact_unsigned a.0 b.0 e))
same_actor (Node a) (Manager m) e = absurd (not_less e)
same_actor (Manager m) (Node b) e = absurd (no_equal e)
same_actor (Manager m) (Manager k) e = ap Manager (exact_unsigned m k e)

itself : (a : Actor) → by_actor a a ≡ Equal
itself (Node a) = tied_itself nat_cmp_total a.0
itself (Manager m) = tied_itself nat_cmp_total m

pub at_itself : (a : Actor) → is_at (by_actor a) a ≡ true
at_itself a = ap is_eq (itself a)

pub same_at : (a b : Actor) → is_at (by_actor a) b ≡ true → a ≡ b
same_at a b e = at (by_actor a b) refl e
  where
    at : (o : Ordering) → by_actor a b ≡ o → is_eq o ≡ true → a ≡ b
    at Less is h = absurd (false≢true h)
    at Equal is h = same_actor a b is
    at Greater is h = absurd (false≢true h)

-- ---- a binding that is put

put_same : (k : Actor) (v : Ticket) (es : Entries) → lookup (is_at (by_actor k)) (insert_entry by_actor es k v) ≡ Some v
put_same k v [] = rw (at_itself k) refl
put_same k v (e ∷ es) = at (by_actor k e.0) refl (put_same k v es)
  where
    at : (o : Ordering) → by_actor k e.0 ≡ o → lookup (is_at (by_actor k)) (insert_entry by_actor es k v) ≡ Some v →
        lookup (is_at (by_actor k)) (match_ordering o ((k, v) ∷ e ∷ es) ((e.0, v) ∷ es) (e ∷ insert_entry by_actor es k v)) ≡ Some v
    at Less is more = rw (at_itself k) refl
    at Equal is more = ap (λ (o : Ordering). cond (is_eq o) (Some v) (lookup (is_at (by_actor k)) es)) is
    at Greater is more = ap (λ (o : Ordering). cond (is_eq o) (Some e.1) (lookup (is_at (by_actor k)) (insert_entry by_actor es k v))) is ∙ more

put_other : (q k : Actor) (v : Ticket) (es : Entries) → is_at (by_actor q) k ≡ false → lookup (is_at (by_actor q)) (insert_entry by_actor es k v) ≡ lookup (is_at (by_actor q)) es
put_other q k v [] ne = rw ne refl
put_other q k v (e ∷ es) ne = at (by_actor k e.0) refl (put_other q k v es ne)
  where
    at : (o : Ordering) → by_actor k e.0 ≡ o → lookup (is_at (by_actor q)) (insert_entry by_actor es k v) ≡ lookup (is_at (by_actor q)) es →
        lookup (is_at (by_actor q)) (match_ordering o ((k, v) ∷ e ∷ es) ((e.0, v) ∷ es) (e ∷ insert_entry by_actor es k v)) ≡ lookup (is_at (by_actor q)) (e ∷ es)
    at Less is more = rw ne refl
    at Equal is more =
        let other : is_at (by_actor q) e.0 ≡ false = subst (λ (x : Actor). is_at (by_actor q) x ≡ false) (same_actor k e.0 is) ne in
        ap (λ (b : Bool). cond b (Some v) (lookup (is_at (by_actor q)) es)) other ∙ sym (ap (λ (b : Bool). cond b (Some e.1) (lookup (is_at (by_actor q)) es)) other)
    at Greater is more = ap (λ (o : Option Ticket). cond (is_at (by_actor q) e.0) (Some e.1) o) more

pub bound_same : (b : Binding) (roll : Entries) → bound b.actor (with_bound roll b) ≡ Some b.ticket
bound_same b roll = put_same b.actor b.ticket roll

pub bound_other : (a : Actor) (b : Binding) (roll : Entries) → is_at (by_actor a) b.actor ≡ false → bound a (with_bound roll b) ≡ bound a roll
bound_other a b roll ne = put_other a b.actor b.ticket roll ne

-- ---- what a roll has of its log

pub replayed_more : (roll : Entries) (xs ys : List Binding) → replayed roll (xs ++ ys) ≡ replayed (replayed roll xs) ys
replayed_more roll [] ys = refl
replayed_more roll (x ∷ xs) ys = replayed_more (with_bound roll x) xs ys

-- to what a log binds an actor's number first
abbrev pub first : Actor → List Binding → Option Ticket
first a [] = None
first a (b ∷ bs) = cond (is_at (by_actor a) b.actor) (Some b.ticket) (first a bs)

some_not : {G : Type 0} (x : Option Ticket) (t : Ticket) → x ≡ Some t → x ≡ None → G
some_not x t s n = absurd cc

-- what is unbound was never bound
pub never_bound : (a : Actor) (log : List Binding) (roll : Entries) → bound a (replayed roll log) ≡ None → (bound a roll ≡ None) × (first a log ≡ None)
never_bound a [] roll e = (e, refl)
never_bound a (b ∷ bs) roll e = at (is_at (by_actor a) b.actor) refl (never_bound a bs (with_bound roll b) e)
  where
    at : (t : Bool) → is_at (by_actor a) b.actor ≡ t → (bound a (with_bound roll b) ≡ None) × (first a bs ≡ None) → (bound a roll ≡ None) × (cond t (Some b.ticket) (first a bs) ≡ None)
    at true is more =
        let here : bound a (with_bound roll b) ≡ Some b.ticket = subst (λ (x : Actor). bound x (with_bound roll b) ≡ Some b.ticket) (sym (same_at a b.actor is)) (bound_same b roll) in
        some_not (bound a (with_bound roll b)) b.ticket here more.0
    at false is more = (sym (bound_other a b roll is) ∙ more.0, more.1)

binding_of : Actor → Ticket → Binding
binding_of a t = record { actor = a; ticket = t }

pub one_binding : (a : Actor) (t : Ticket) (b : Binding) → a ≡ b.actor → t ≡ b.ticket → record { actor = a; ticket = t } ≡ b
unfolding binding_of
one_binding a t b who ticket = ap (λ (x : Actor). binding_of x t) who ∙ ap (λ (x : Ticket). binding_of b.actor x) ticket

-- what is bound stands in the log
pub was_bound : (a : Actor) (t : Ticket) (log : List Binding) (roll : Entries) → bound a (replayed roll log) ≡ Some t → (bound a roll ≡ Some t) ⊎ In log (record { actor = a; ticket = t })
was_bound a t [] roll e = inl e
was_bound a t (b ∷ bs) roll e = at (was_bound a t bs (with_bound roll b) e)
  where
    at : (bound a (with_bound roll b) ≡ Some t) ⊎ In bs (record { actor = a; ticket = t }) → (bound a roll ≡ Some t) ⊎ In (b ∷ bs) (record { actor = a; ticket = t })
    at (inr there) = inr (inr there)
    at (inl now) = by (is_at (by_actor a) b.actor) refl
      where
        by : (v : Bool) → is_at (by_actor a) b.actor ≡ v → (bound a roll ≡ Some t) ⊎ In (b ∷ bs) (record { actor = a; ticket = t })
        by true is =
            let who = same_at a b.actor is in
            let here : bound a (with_bound roll b) ≡ Some b.ticket = subst (λ (x : Actor). bound x (with_bound roll b) ≡ Some b.ticket) (sym who) (bound_same b roll) in
            let what : Some t ≡ Some b.ticket = sym now ∙ here in
            let ticket : t ≡ b.ticket = cc in
            inr (inl (one_binding a t b who ticket))
        by false is = inl (sym (bound_other a b roll is) ∙ now)
