-- Which nodes are gathered from the boards.
use Rattle.std.proofs.Common.{◌≡◌, ◌==◌, ◌&&◌, ◌||◌, ◌++◌, nat_eq, ℕ, Bool, true, false, cond, List, [], ◌∷◌, map, Vec, Option, None, Some, Result, Ok, Err, IfOk, refl, sym, ap, ◌∙◌, subst}
use Rattle.std.specs.List.{find, filter, flat_map, list_any, dedup}
use Rattle.std.specs.List.Sorted.{IsStrictlyIncreasing, IsSorted, IsPermutation}
use Rattle.std.specs.List.Retain.{IsFiltered, DiffersFromLast}
use Rattle.std.specs.Option.{is_some}
use Rattle.std.specs.Ordering.{nat_cmp}
use Rattle.std.proofs.lemmas.Bool.{eqb-true, eq-eqb}
use Rattle.std.proofs.lemmas.List.Folds.{list_any-append}
use Rattle.std.proofs.lemmas.List.Filters.{dedup_is}
use Rattle.std.proofs.lemmas.List.Kept.{IsStrictlyIncreasing-filter}
use Rattle.std.proofs.lemmas.List.Sorted.{list_any-IsPermutation}
use Rattle.std.proofs.lemmas.Map.Keys.{IsStrictlyIncreasing-dedup}
use Rattle.std.proofs.lemmas.Map.Views.{any-filter_same}
use Rattle.std.specs.declared.alloc.Global.{Global}
use Rattle.hk_base.specs.declared.memory.Memory.{Memory}
use Rattle.hk_base.specs.declared.stamp.NodeId.{NodeId}
use Rattle.hk_base.specs.View.{is_member, member_numbers}
use Rattle.hk_fields.specs.declared.tickets.Ticket.{Ticket}
use Rattle.hk_inside.specs.declared.board.Party.{Party}
use Rattle.hk_inside.specs.declared.board.Party.TheVariants as parties
use Rattle.hk_inside.specs.declared.board.BoardLine.{BoardLine}
use Rattle.hk_roll.specs.Boards.{is_by_most, flat}
use Rattle.hk_boards.specs.declared.heard.HeardBoard.{HeardBoard}
use Rattle.hk_boards.specs.Heard.{is_of, is_node, is_left_out, binds, ticket_of, ticket_told, tells_ready}
use Rattle.hk_boards.specs.Holders.{ByPlaces, tickets_told, is_held, AreHeld, AreReady}
use Rattle.hk_boards.specs.Gathering.{numbers_by, numbers_of, numbers_in, numbered, held_among}

-- ---- what a dedup keeps

or_again : (a b : Bool) → (a || (a || b)) ≡ (a || b)
or_again true b = refl
or_again false b = refl

any_from : (test : ℕ → Bool) (k : ℕ) (xs : List ℕ) → list_any test (dedup nat_eq (k ∷ xs)) ≡ (test k || list_any test xs)
any_from test k [] = refl
any_from test k (x ∷ xs) = at (nat_eq x k) refl (any_from test k xs) (any_from test x xs)
  where
    at : (b : Bool) → nat_eq x k ≡ b → list_any test (dedup nat_eq (k ∷ xs)) ≡ (test k || list_any test xs) → list_any test (dedup nat_eq (x ∷ xs)) ≡ (test x || list_any test xs) →
        list_any test (cond b (dedup nat_eq (k ∷ xs)) (k ∷ dedup nat_eq (x ∷ xs))) ≡ (test k || (test x || list_any test xs))
    at true e gone stays =
        let same : x ≡ k = eqb-true x k e in
        gone ∙ sym (ap (λ (y : ℕ). test k || (test y || list_any test xs)) same ∙ or_again (test k) (list_any test xs))
    at false e gone stays = ap (λ (b : Bool). test k || b) stays

any_dedup : (test : ℕ → Bool) (xs : List ℕ) → list_any test (dedup nat_eq xs) ≡ list_any test xs
any_dedup test [] = refl
any_dedup test (x ∷ xs) = any_from test x xs

module _ (numbers sorted left : List ℕ) (filtered : IsFiltered (DiffersFromLast nat_eq) [] sorted left) where
  pub left_rising : IsSorted nat_cmp sorted → IsStrictlyIncreasing left
  left_rising rises = subst (λ (xs : List ℕ). IsStrictlyIncreasing xs) (sym (dedup_is nat_eq sorted left filtered)) (IsStrictlyIncreasing-dedup sorted rises)

  pub left_same : IsPermutation numbers sorted → (test : ℕ → Bool) → list_any test left ≡ list_any test numbers
  left_same all test = ap (λ (xs : List ℕ). list_any test xs) (dedup_is nat_eq sorted left filtered) ∙ any_dedup test sorted ∙ sym (list_any-IsPermutation test numbers sorted all)

-- ---- a holder's number stands on a board

own_number : (n : ℕ) (rest : List ℕ) → list_any (λ k. k == n) (n ∷ rest) ≡ true
own_number n rest = rw (eq-eqb n n refl) refl

or_true : (a b : Bool) → b ≡ true → (a || b) ≡ true
or_true true b e = refl
or_true false b e = e

in_line : (node : NodeId) (line : BoardLine) → binds node line ≡ true → (rest : List ℕ) → list_any (λ k. k == node.0) (numbers_of line ++ rest) ≡ true
in_line node line e rest = by (is_left_out line.mark) line.party e
  where
    by : (out : Bool) (party : Party) → cond out false (is_node node party) ≡ true → list_any (λ k. k == node.0) (numbers_by party ++ rest) ≡ true
    by true party e = absurd cc
    by false (parties.Node other) e = let same : node.0 ≡ other.0 = eqb-true node.0 other.0 e in subst (λ (n : ℕ). list_any (λ k. k == node.0) (n ∷ rest) ≡ true) same (own_number node.0 rest)
    by false (parties.Manager place) e = absurd cc
    by false parties.Neither e = absurd cc

in_lines : (node : NodeId) (lines : List BoardLine) (line : BoardLine) → find (binds node) lines ≡ Some line → list_any (λ k. k == node.0) (flat_map numbers_of lines) ≡ true
in_lines node [] line e = absurd cc
in_lines node (x ∷ xs) line e = at (binds node x) refl e (in_lines node xs line)
  where
    at : (b : Bool) → binds node x ≡ b → cond b (Some x) (find (binds node) xs) ≡ Some line → (find (binds node) xs ≡ Some line → list_any (λ k. k == node.0) (flat_map numbers_of xs) ≡ true) →
        list_any (λ k. k == node.0) (numbers_of x ++ flat_map numbers_of xs) ≡ true
    at true is e later = in_line node x is (flat_map numbers_of xs)
    at false is e later =
        list_any-append (λ k. k == node.0) (numbers_of x) (flat_map numbers_of xs) ∙ or_true (list_any (λ k. k == node.0) (numbers_of x)) (list_any (λ k. k == node.0) (flat_map numbers_of xs)) (later e)

in_board : (founding : ℕ) (node : NodeId) (heard : Option HeardBoard) (t : Ticket) → ticket_told founding node heard ≡ Some t → list_any (λ k. k == node.0) (numbers_in heard) ≡ true
in_board founding node None t e = absurd cc
in_board founding node (Some heard) t e = at (is_of founding heard) e
  where
    by : (x : Option BoardLine) → find (binds node) heard.board.lines ≡ x → ticket_of x ≡ Some t → list_any (λ k. k == node.0) (flat_map numbers_of heard.board.lines) ≡ true
    by None is e = absurd cc
    by (Some line) is e = in_lines node heard.board.lines line is

    at : (b : Bool) → ticket_of (cond b (find (binds node) heard.board.lines) None) ≡ Some t → list_any (λ k. k == node.0) (flat_map numbers_of heard.board.lines) ≡ true
    at true e = by (find (binds node) heard.board.lines) refl e
    at false e = absurd cc

in_boards : (founding : ℕ) (node : NodeId) (test : Option Ticket → Bool) (boards : ByPlaces) (t : Ticket) → find test (tickets_told founding node boards) ≡ Some (Some t) →
    list_any (λ k. k == node.0) (flat_map numbers_in boards) ≡ true
in_boards founding node test [] t e = absurd cc
in_boards founding node test (x ∷ xs) t e = at (test (ticket_told founding node x)) e (in_boards founding node test xs t)
  where
    first : ticket_told founding node x ≡ Some t → list_any (λ k. k == node.0) (numbers_in x ++ flat_map numbers_in xs) ≡ true
    first is =
        list_any-append (λ k. k == node.0) (numbers_in x) (flat_map numbers_in xs) ∙
        ap (λ (b : Bool). b || list_any (λ k. k == node.0) (flat_map numbers_in xs)) (in_board founding node x t is)

    at : (b : Bool) → cond b (Some (ticket_told founding node x)) (find test (tickets_told founding node xs)) ≡ Some (Some t) →
        (find test (tickets_told founding node xs) ≡ Some (Some t) → list_any (λ k. k == node.0) (flat_map numbers_in xs) ≡ true) →
        list_any (λ k. k == node.0) (numbers_in x ++ flat_map numbers_in xs) ≡ true
    at true e later = let is : ticket_told founding node x ≡ Some t = cc in first is
    at false e later =
        list_any-append (λ k. k == node.0) (numbers_in x) (flat_map numbers_in xs) ∙ or_true (list_any (λ k. k == node.0) (numbers_in x)) (list_any (λ k. k == node.0) (flat_map numbers_in xs)) (later e)

stands : (founding : ℕ) (node : NodeId) (boards : ByPlaces) → is_held founding boards node ≡ true → list_any (λ k. k == node.0) (flat_map numbers_in boards) ≡ true
stands founding node boards e = at (find (is_by_most (tickets_told founding node boards)) (tickets_told founding node boards)) refl e
  where
    at : (x : Option (Option Ticket)) → find (is_by_most (tickets_told founding node boards)) (tickets_told founding node boards) ≡ x → is_some (flat x) ≡ true →
        list_any (λ k. k == node.0) (flat_map numbers_in boards) ≡ true
    at None is e = absurd cc
    at (Some None) is e = absurd cc
    at (Some (Some t)) is e = in_boards founding node (is_by_most (tickets_told founding node boards)) boards t is

-- ---- those that are held, of all that stand there

numbers_back : (numbers : List ℕ) → member_numbers (map numbered numbers) ≡ numbers
numbers_back [] = refl
numbers_back (n ∷ ns) = ap (λ (xs : List ℕ). n ∷ xs) (numbers_back ns)

any_numbered : (node : NodeId) (numbers : List ℕ) → is_member node (map numbered numbers) ≡ list_any (λ k. k == node.0) numbers
any_numbered node [] = refl
any_numbered node (n ∷ ns) = ap (λ (b : Bool). (n == node.0) || b) (any_numbered node ns)

and_is : (a b : Bool) → (a ≡ true → b ≡ true) → (a && b) ≡ a
and_is true b imp = imp refl
and_is false b imp = refl

pub are_held : (founding : ℕ) (boards : ByPlaces) (numbers : List ℕ) → IsStrictlyIncreasing numbers →
    ((test : ℕ → Bool) → list_any test numbers ≡ list_any test (flat_map numbers_in boards)) → AreHeld founding boards (held_among founding boards numbers)
are_held founding boards numbers rising same = record {
  rising = subst (λ (xs : List ℕ). IsStrictlyIncreasing xs) (sym (numbers_back (filter held numbers))) (IsStrictlyIncreasing-filter held numbers rising);
  held = λ node. any_numbered node (filter held numbers) ∙ any-filter_same (λ k. k == node.0) held (is_held founding boards node) (alike node) numbers ∙
      and_is (is_held founding boards node) (list_any (λ k. k == node.0) numbers) (λ e. same (λ k. k == node.0) ∙ stands founding node boards e);
}
  where
    held : ℕ → Bool
    held number = is_held founding boards (numbered number)

    alike : (node : NodeId) (k : ℕ) → (k == node.0) ≡ true → held k ≡ is_held founding boards node
    alike node k e = ap (λ (n : ℕ). is_held founding boards (numbered n)) (eqb-true k node.0 e)

pub gathered : (founding : ℕ) (boards : ByPlaces) (numbers : List ℕ) (r : Result (Vec NodeId Global) Memory) → IfOk r (λ nodes. nodes.items ≡ held_among founding boards numbers) →
    AreHeld founding boards (held_among founding boards numbers) → IfOk r (λ nodes. AreHeld founding boards nodes.items)
gathered founding boards numbers (Ok nodes) is held = subst (λ (xs : List NodeId). AreHeld founding boards xs) (sym is) held
gathered founding boards numbers (Err memory) is held = is

-- ---- those that are ready, of all that are held

numbers_left : (test : NodeId → Bool) (nodes : List NodeId) → member_numbers (filter test nodes) ≡ filter (λ k. test (numbered k)) (member_numbers nodes)
numbers_left test [] = refl
numbers_left test (n ∷ ns) = at (test n) refl (numbers_left test ns)
  where
    at : (b : Bool) → test n ≡ b → member_numbers (filter test ns) ≡ filter (λ k. test (numbered k)) (member_numbers ns) →
        member_numbers (cond b (n ∷ filter test ns) (filter test ns)) ≡ cond b (n.0 ∷ filter (λ k. test (numbered k)) (member_numbers ns)) (filter (λ k. test (numbered k)) (member_numbers ns))
    at true is rest = ap (λ (xs : List ℕ). n.0 ∷ xs) rest
    at false is rest = rest

pub are_ready : (founding : ℕ) (boards : ByPlaces) (nodes left : List NodeId) → AreHeld founding boards nodes → left ≡ filter (λ node. list_any (tells_ready founding node) boards) nodes →
    AreReady founding boards left
are_ready founding boards nodes left held is = subst (λ (xs : List NodeId). AreReady founding boards xs) (sym is) (record {
  rising = subst (λ (xs : List ℕ). IsStrictlyIncreasing xs) (sym (numbers_left ready nodes)) (IsStrictlyIncreasing-filter (λ k. ready (numbered k)) (member_numbers nodes) held.rising);
  ready = λ node. any-filter_same (λ n. n.0 == node.0) ready (ready node) (alike node) nodes ∙ ap (λ (b : Bool). ready node && b) (held.held node);
})
  where
    ready : NodeId → Bool
    ready node = list_any (tells_ready founding node) boards

    alike : (node n : NodeId) → (n.0 == node.0) ≡ true → ready n ≡ ready node
    alike node n e = ap (λ (k : ℕ). ready (numbered k)) (eqb-true n.0 node.0 e)
