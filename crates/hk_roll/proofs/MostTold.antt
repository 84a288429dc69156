-- A ticket is named exactly where more than half of the managers told it.
use Rattle.std.proofs.Common.{◌≡◌, ◌<◌, ◌/◌, ℕ, zero, suc, Bool, true, false, cond, List, [], ◌∷◌, length, slice_get, Option, None, Some, refl, sym, ap, ◌∙◌, subst}
use Rattle.std.specs.List.{count_by, find}
use Rattle.std.proofs.lemmas.Bool.{true≢false, ltb-true, lt-ltb}
use Rattle.hk_fields.specs.declared.tickets.Ticket.{Ticket}
use Rattle.hk_roll.specs.Boards.{names, is_by_most, flat, named}
use Rattle.hk_roll.specs.Group.{counted}
use Rattle.hk_roll.specs.Laws.{NamesWhomMostTell}
use Rattle.hk_roll.proofs.Lookups.{named_is}
use Rattle.hk_roll.proofs.Holder.{Meets, meet, halves, boards_counted, find_passes, flat_is, named_by_most}

-- what is not found passes nowhere
none_passes : (test : Option Ticket → Bool) (xs : List (Option Ticket)) → find test xs ≡ None → (p : ℕ) (x : Option Ticket) → slice_get xs p ≡ Some x → test x ≡ false
none_passes test [] none p x e = absurd cc
none_passes test (y ∷ xs) none p x e = at (test y) refl none (none_passes test xs) p e
  where
    at : (b : Bool) → test y ≡ b → cond b (Some y) (find test xs) ≡ None → (find test xs ≡ None → (p : ℕ) (x : Option Ticket) → slice_get xs p ≡ Some x → test x ≡ false) →
        (p : ℕ) → slice_get (y ∷ xs) p ≡ Some x → test x ≡ false
    at true is none later p e = absurd cc
    at false is none later zero e = let same : y ≡ x = cc in subst (λ (z : Option Ticket). test z ≡ false) same is
    at false is none later (suc p) e = later none p x e

module _ (told : List (Option Ticket)) where
  abbrev Tells : Ticket → ℕ → Bool
  Tells t p = names t (flat (slice_get told p))

  many : (t : Ticket) → is_by_most told (Some t) ≡ true → length told / 2 < counted (λ p. names t (flat (slice_get told p))) (length told)
  many t e = subst (λ (n : ℕ). length told / 2 < n) (sym (boards_counted t told)) (ltb-true (length told / 2) (count_by (names t) told) e)

  -- two tickets that a majority tells have a manager in common
  common : (t u : Ticket) → is_by_most told (Some t) ≡ true → is_by_most told (Some u) ≡ true → Meets (λ p. names t (flat (slice_get told p))) (λ p. names u (flat (slice_get told p))) (length told)
  common t u e f = meet (λ p. names t (flat (slice_get told p))) (λ p. names u (flat (slice_get told p))) (length told)
      (halves (length told) (counted (λ p. names t (flat (slice_get told p))) (length told)) (counted (λ p. names u (flat (slice_get told p))) (length told)) (many t e) (many u f))

  told_at : (t : Ticket) (p : ℕ) → names t (flat (slice_get told p)) ≡ true → slice_get told p ≡ Some (Some t)
  told_at t p e = flat_is (slice_get told p) t (named_is t (flat (slice_get told p)) e)

  most_named : (t : Ticket) → is_by_most told (Some t) ≡ true → named told ≡ Some t
  most_named t e = at (find (is_by_most told) told) refl
    where
      one : (u : Ticket) → is_by_most told (Some u) ≡ true → u ≡ t
      one u f = let m = common t u e f in let same : Some (Some t) ≡ Some (Some u) = sym (told_at t m.place m.one) ∙ told_at u m.place m.other in cc

      at : (x : Option (Option Ticket)) → find (is_by_most told) told ≡ x → flat x ≡ Some t
      at None is =
          let m = common t t e e in
          absurd (true≢false (sym e ∙ none_passes (is_by_most told) told is m.place (Some t) (told_at t m.place m.one)))
      at (Some None) is = let passes : false ≡ true = find_passes (is_by_most told) told None is in absurd cc
      at (Some (Some u)) is = ap Some (one u (find_passes (is_by_most told) told (Some u) is))

pub names_whom_most_tell : NamesWhomMostTell
names_whom_most_tell told t = (
  (λ e. ltb-true (length told / 2) (count_by (names t) told) (named_by_most told t e)),
  (λ more. most_named told t (lt-ltb (length told / 2) (count_by (names t) told) more)),
)
