-- The order of ballots, with none below all.
use Rattle.std.proofs.Common.{◌≡◌, ◌⊎◌, ℕ, ◌<◌, Bool, true, false, ◌&&◌, ◌||◌, Option, None, Some, nat_eq, nat_lt, refl, sym, ap, ◌∙◌, inl, inr, ⊎_elim, arith}
use Rattle.std.proofs.lemmas.Bool.{true≢false, false≢true, and_parts, eqb-true, cases_order}
use Rattle.std.proofs.lemmas.Bool.Decides.{nat_tests}
use Rattle.hk_base.specs.declared.view.Ballot.{Ballot}
use Rattle.hk_base.specs.declared.view.Voted.{Voted}
use Rattle.hk_paxos.specs.Paxos.{is_below, is_same, is_refused, is_higher}

abbrev pub level : Option Voted → Option Ballot
level None = None
level (Some v) = Some v.ballot

abbrev pub level_lt : Option Ballot → Option Ballot → Bool
level_lt x None = false
level_lt None (Some b) = true
level_lt (Some a) (Some b) = is_below a b

pub record Le (x y : Option Ballot) : Type 0 where
  pub not_above : level_lt y x ≡ false

pub record Lt (x y : Option Ballot) : Type 0 where
  pub below : level_lt x y ≡ true

below_irrefl : (a b c d : ℕ) → (nat_lt a c || (nat_eq a c && nat_lt b d)) ≡ true → (nat_lt c a || (nat_eq c a && nat_lt d b)) ≡ true → ⊥
below_irrefl a b c d h k = grind (arith, nat_tests)

below_refl : (a b : ℕ) → (nat_lt a a || (nat_eq a a && nat_lt b b)) ≡ false
below_refl a b = grind (arith, nat_tests)

below_le : (a b c d e f : ℕ) → (nat_lt c a || (nat_eq c a && nat_lt d b)) ≡ false → (nat_lt e c || (nat_eq e c && nat_lt f d)) ≡ false → (nat_lt e a || (nat_eq e a && nat_lt f b)) ≡ false
below_le a b c d e f h k = grind (arith, nat_tests)

below_lt_le : (a b c d e f : ℕ) → (nat_lt a c || (nat_eq a c && nat_lt b d)) ≡ true → (nat_lt e c || (nat_eq e c && nat_lt f d)) ≡ false → (nat_lt a e || (nat_eq a e && nat_lt b f)) ≡ true
below_lt_le a b c d e f h k = grind (arith, nat_tests)

not_both : (t : Bool) → t ≡ true → t ≡ false → ⊥
not_both t p q = true≢false (sym p ∙ q)

pub le_same : (x : Option Ballot) → Le x x
le_same None = record { not_above = refl }
le_same (Some a) = record { not_above = below_refl a.round a.manager }

pub le_then : (x y z : Option Ballot) → Le x y → Le y z → Le x z
le_then None y None h k = record { not_above = refl }
le_then None y (Some c) h k = record { not_above = refl }
le_then (Some a) None z h k = absurd (true≢false h.not_above)
le_then (Some a) (Some b) None h k = absurd (true≢false k.not_above)
le_then (Some a) (Some b) (Some c) h k = record { not_above = below_le a.round a.manager b.round b.manager c.round c.manager h.not_above k.not_above }

pub lt_then : (x y z : Option Ballot) → Lt x y → Le y z → Lt x z
lt_then x None z h k = absurd (false≢true h.below)
lt_then x (Some b) None h k = absurd (true≢false k.not_above)
lt_then None (Some b) (Some c) h k = record { below = refl }
lt_then (Some a) (Some b) (Some c) h k = record { below = below_lt_le a.round a.manager b.round b.manager c.round c.manager h.below k.not_above }

pub lt_not_le : (x y : Option Ballot) → Lt x y → Le y x → ⊥
lt_not_le x y h k = not_both (level_lt x y) h.below k.not_above

abbrev ballot_of : ℕ → ℕ → Ballot
ballot_of r m = record { round = r; manager = m }

same_parts : (a b : Ballot) → a.round ≡ b.round → a.manager ≡ b.manager → a ≡ b
same_parts a b e d = ap (λ (r : ℕ). ballot_of r a.manager) e ∙ ap (λ (m : ℕ). ballot_of b.round m) d

pub order : (a b : Ballot) → (a ≡ b) ⊎ (Lt (Some a) (Some b) ⊎ Lt (Some b) (Some a))
order a b = ⊎_elim
    (λ (e : a.round ≡ b.round). ⊎_elim
    (λ (d : a.manager ≡ b.manager). inl (same_parts a b e d))
    (λ (d : (a.manager < b.manager) ⊎ (b.manager < a.manager)). ⊎_elim
    (λ (l : a.manager < b.manager). let t : level_lt (Some a) (Some b) ≡ true = grind (arith, nat_tests) in inr (inl (record { below = t })))
    (λ (l : b.manager < a.manager). let t : level_lt (Some b) (Some a) ≡ true = grind (arith, nat_tests) in inr (inr (record { below = t }))) d) (cases_order a.manager b.manager))
    (λ (d : (a.round < b.round) ⊎ (b.round < a.round)). ⊎_elim
    (λ (l : a.round < b.round). let t : level_lt (Some a) (Some b) ≡ true = grind (arith, nat_tests) in inr (inl (record { below = t })))
    (λ (l : b.round < a.round). let t : level_lt (Some b) (Some a) ≡ true = grind (arith, nat_tests) in inr (inr (record { below = t }))) d) (cases_order a.round b.round)

pub same_ballot : (a b : Ballot) → is_same a b ≡ true → a ≡ b
same_ballot a b h =
    let p = and_parts _ _ h in
    let r = eqb-true a.round b.round p.0 in
    let m = eqb-true a.manager b.manager p.1 in
    same_parts a b r m

-- a ballot that a promise does not forbid is not below it
pub not_refused : (promised : Option Ballot) (b : Ballot) → is_refused promised b ≡ false → Le promised (Some b)
not_refused None b h = record { not_above = refl }
not_refused (Some p) b h = record { not_above = h }

-- the higher of two is above both
pub higher_told : (told known : Option Voted) → is_higher told known ≡ false → Le (level told) (level known)
higher_told None None h = record { not_above = refl }
higher_told None (Some k) h = record { not_above = refl }
higher_told (Some t) None h = absurd (true≢false h)
higher_told (Some t) (Some k) h = record { not_above = h }

below_then_le : (a b c d : ℕ) → (nat_lt a c || (nat_eq a c && nat_lt b d)) ≡ true → (nat_lt c a || (nat_eq c a && nat_lt d b)) ≡ false
below_then_le a b c d h = grind (arith, nat_tests)

pub higher_known : (told known : Option Voted) → is_higher told known ≡ true → Le (level known) (level told)
higher_known None known h = absurd (false≢true h)
higher_known (Some t) None h = record { not_above = refl }
higher_known (Some t) (Some k) h = record { not_above = below_then_le k.ballot.round k.ballot.manager t.ballot.round t.ballot.manager h }
