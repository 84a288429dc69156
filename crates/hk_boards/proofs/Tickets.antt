-- What it is that two tickets are one.
use Rattle.std.proofs.Common.{◌≡◌, ◌&&◌, nat_eq, ℕ, Bool, true, false, List, [], ◌∷◌, Option, None, Some, refl, sym, ap}
use Rattle.std.specs.Cmp.Lexicographic.{pointwise}
use Rattle.std.proofs.lemmas.Bool.{eqb-true, eq-eqb}
use Rattle.hk_fields.specs.declared.tickets.Ticket.{Ticket}
use Rattle.hk_roll.specs.Boards.{same_ticket, names}

pub both_hold : (a b : Bool) → (a && b) ≡ true → (a ≡ true) × (b ≡ true)
both_hold true b e = (refl, e)
both_hold false b e = absurd cc

same_bytes : (xs ys : List ℕ) → pointwise nat_eq xs ys ≡ true → xs ≡ ys
same_bytes [] [] e = refl
same_bytes [] (y ∷ ys) e = absurd cc
same_bytes (x ∷ xs) [] e = absurd cc
same_bytes (x ∷ xs) (y ∷ ys) e =
    let parts = both_hold (nat_eq x y) (pointwise nat_eq xs ys) e in
    let head : x ≡ y = eqb-true x y parts.0 in
    let tail : xs ≡ ys = same_bytes xs ys parts.1 in
    rw (head, tail) refl

ticket_of_bytes : List ℕ → Ticket
ticket_of_bytes bytes = record { 0 = bytes }

pub one_ticket : (t u : Ticket) → same_ticket t u ≡ true → t ≡ u
unfolding ticket_of_bytes
one_ticket t u e = ap ticket_of_bytes (same_bytes t.0 u.0 e)

own_bytes : (xs : List ℕ) → pointwise nat_eq xs xs ≡ true
own_bytes [] = refl
own_bytes (x ∷ xs) = let head : nat_eq x x ≡ true = eq-eqb x x refl in rw head (own_bytes xs)

pub named_is : (t : Ticket) (x : Option Ticket) → names t x ≡ true → x ≡ Some t
named_is t None e = absurd cc
named_is t (Some u) e = ap Some (sym (one_ticket t u e))

pub is_named : (t : Ticket) (x : Option Ticket) → x ≡ Some t → names t x ≡ true
is_named t x e = rw e (own_bytes t.0)
