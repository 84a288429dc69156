-- Who is told by a majority is its holder, and two majorities of one group tell the same.
use Rattle.std.proofs.Common.{◌≡◌, ◌<◌, ◌/◌, ℕ, suc, Bool, true, cond, List, [], ◌∷◌, ◌+◌, length, slice_get, Option, None, Some, refl, sym, ap, ◌∙◌, subst}
use Rattle.std.specs.List.{count_by, position, position_or_len}
use Rattle.std.proofs.lemmas.Bool.{ltb-true}
use Rattle.std.proofs.lemmas.Option.{cond_some}
use Rattle.std.proofs.lemmas.List.Sums.{sum_by-cons}
use Rattle.hk_base.specs.declared.stamp.NodeId.{NodeId}
use Rattle.hk_fields.specs.declared.tickets.Ticket.{Ticket}
use Rattle.hk_roll.specs.Boards.{names, flat}
use Rattle.hk_roll.specs.Laws.{NamesWhomMostTell, OneHolderIsTold}
use Rattle.hk_roll.specs.Group.{Group, last, start, counted, Most, HasTold}
use Rattle.hk_boards.specs.Heard.{ticket_told, tells}
use Rattle.hk_boards.proofs.Tickets.{one_ticket}
use Rattle.hk_boards.specs.Holders.{ByPlaces, tickets_told, holder}
use Rattle.hk_boards.specs.Laws.{HeldByMost, AreOf, OneHolderIsHeard}

-- ---- lists

-- a place that is found is one of the list's
pub position_within : {X : Type 0} (p : X → Bool) (xs : List X) (i : ℕ) → position p xs ≡ Some i → i < length xs
position_within p xs i e =
    let found = cond_some _ (position_or_len p xs) i e in
    let within = ltb-true (position_or_len p xs) (length xs) found.0 in
    subst (λ (n : ℕ). n < length xs) found.1 within

told_long : (founding : ℕ) (node : NodeId) (boards : ByPlaces) → length (tickets_told founding node boards) ≡ length boards
told_long founding node [] = refl
told_long founding node (x ∷ xs) = ap suc (told_long founding node xs)

told_counted : (founding : ℕ) (node : NodeId) (t : Ticket) (boards : ByPlaces) → count_by (names t) (tickets_told founding node boards) ≡ count_by (tells founding node t) boards
told_counted founding node t [] = refl
told_counted founding node t (x ∷ xs) =
    sum_by-cons (λ y. cond (names t y) 1 0) (ticket_told founding node x) (tickets_told founding node xs) ∙
    ap (λ (n : ℕ). cond (tells founding node t x) 1 0 + n) (told_counted founding node t xs) ∙
    sym (sum_by-cons (λ y. cond (tells founding node t y) 1 0) x xs)

-- ---- who is told by a majority

pub held_by_most : NamesWhomMostTell → HeldByMost
held_by_most law founding node t boards = (
  (λ e. subst (λ (n : ℕ). length boards / 2 < n) count (subst (λ (n : ℕ). n / 2 < count_by (names t) told) long ((law told t).0 e))),
  (λ more. (law told t).1 (subst (λ (n : ℕ). n / 2 < count_by (names t) told) (sym long) (subst (λ (n : ℕ). length boards / 2 < n) (sym count) more))),
)
  where
    told : List (Option Ticket)
    told = tickets_told founding node boards

    long : length told ≡ length boards
    long = told_long founding node boards

    count : count_by (names t) told ≡ count_by (tells founding node t) boards
    count = told_counted founding node t boards

-- ---- in a group

places_counted : (t : Ticket) (told : List (Option Ticket)) → counted (λ p. names t (flat (slice_get told p))) (length told) ≡ count_by (names t) told
places_counted t [] = refl
places_counted t (x ∷ xs) = ap (λ (n : ℕ). cond (names t x) 1 0 + n) (places_counted t xs) ∙ sym (sum_by-cons (λ y. cond (names t y) 1 0) x xs)

-- what a manager names stands at its place
stands : (t : Ticket) (x : Option (Option Ticket)) → names t (flat x) ≡ true → x ≡ Some (Some t)
stands t None e = absurd cc
stands t (Some None) e = absurd cc
stands t (Some (Some u)) e = ap (λ (v : Ticket). Some (Some v)) (sym (one_ticket t u e))

-- whom a majority's boards tell, a majority has told
most_told : NamesWhomMostTell → (group : Group) (managers founding : ℕ) (boards : ByPlaces) → length boards ≡ managers → AreOf group founding boards → (node : NodeId) (t : Ticket) →
    holder founding node boards ≡ Some t → Most managers (HasTold group node t)
most_told law group managers founding boards count are node t e = record { who = λ p. names t (flat (slice_get told p)); more = many; all = λ p lt w. are node p t (stands t (slice_get told p) w) }
  where
    told : List (Option Ticket)
    told = tickets_told founding node boards

    long : length told ≡ managers
    long = told_long founding node boards ∙ count

    some : length told / 2 < counted (λ p. names t (flat (slice_get told p))) (length told)
    some = subst (λ (n : ℕ). length told / 2 < n) (sym (places_counted t told)) ((law told t).0 e)

    many : managers / 2 < counted (λ p. names t (flat (slice_get told p))) managers
    many = subst (λ (n : ℕ). n / 2 < counted (λ p. names t (flat (slice_get told p))) n) long some

pub one_is_heard : NamesWhomMostTell → OneHolderIsTold → OneHolderIsHeard
one_is_heard law one_told hosts events run founding one other count more are others node t u first second =
    one_told hosts events run node t u
    (most_told law (last (start hosts) events) (length hosts) founding one count are node t first)
    (most_told law (last (start hosts) events) (length hosts) founding other more others node u second)
