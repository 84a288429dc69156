-- Items of which each number is single are a history.
use Rattle.std.proofs.Common.{◌≡◌, ◌↔◌, ℕ, ◌<◌, List, [], ◌∷◌, map, Bool, true, false, refl, sym, ap, ◌∙◌, ◌||◌, not, ◌==◌, ◌⊎◌, inl, inr, arith, nat_lt}
use Rattle.std.specs.List.{list_any, list_all, count_by, position_or_len}
use Rattle.std.specs.Bool.{IsTrue}
use Rattle.std.proofs.lemmas.Bool.Decides.{nat_tests}
use Rattle.std.proofs.lemmas.Bool.{cases_lt}
use Rattle.hk_history.specs.declared.event.Event.{Event}
use Rattle.hk_history.specs.declared.event.Event.TheVariants.{Call, Reply}
use Rattle.hk_history.specs.History.{is_call, is_reply, IsHistory}
use Rattle.hk_history.specs.Index.{number_of}
use Rattle.hk_history.specs.Tests.{is_single}
use Rattle.hk_history.proofs.Least.{IsIn}
use Rattle.hk_history.proofs.Standing.{counted_some}
use Rattle.hk_history.proofs.Overtaking.{and_left, and_right, and_both, le_from, to_le}

or_true : (a b : Bool) → a ≡ true → (a || b) ≡ true
or_true true b h = refl
or_true false b h = absurd (cc)

or_more : (a b : Bool) → b ≡ true → (a || b) ≡ true
or_more true b h = refl
or_more false b h = h

or_split : (a b : Bool) → (a || b) ≡ true → (a ≡ true) ⊎ (b ≡ true)
or_split true b h = inl refl
or_split false b h = inr h

-- the number of a call or of a reply is among the numbers
called_in : (h : List Event) (n : ℕ) → list_any (is_call n) h ≡ true → IsIn (map number_of h) n
unfolding number_of
called_in [] n t = absurd (cc)
called_in (Call c op ∷ rest) n t = elim (or_split (c.0 == n) _ t) [ inl e ↦ or_true (c.0 == n) _ e | inr r ↦ or_more (c.0 == n) _ (called_in rest n r) ]
called_in (Reply c answer ∷ rest) n t = or_more (c.0 == n) _ (called_in rest n t)

replied_in : (h : List Event) (n : ℕ) → list_any (is_reply n) h ≡ true → IsIn (map number_of h) n
unfolding number_of
replied_in [] n t = absurd (cc)
replied_in (Call c op ∷ rest) n t = or_more (c.0 == n) _ (replied_in rest n t)
replied_in (Reply c answer ∷ rest) n t = elim (or_split (c.0 == n) _ t) [ inl e ↦ or_true (c.0 == n) _ e | inr r ↦ or_more (c.0 == n) _ (replied_in rest n r) ]

all_at : (p : ℕ → Bool) (xs : List ℕ) (n : ℕ) → list_all p xs ≡ true → IsIn xs n → p n ≡ true
all_at p [] n t i = absurd (cc)
all_at p (x ∷ xs) n t i = elim (or_split (x == n) _ i) [
  | inl e ↦ (let same : x ≡ n = grind (arith, nat_tests, e) in sym (ap p same) ∙ and_left (p x) _ t)
  | inr r ↦ all_at p xs n (and_right (p x) _ t) r
]

all_from : (p : ℕ → Bool) (xs : List ℕ) → ((n : ℕ) → p n ≡ true) → list_all p xs ≡ true
all_from p [] h = refl
all_from p (x ∷ xs) h = and_both (p x) _ (h x) (all_from p xs h)

not_of : (b : Bool) → ¬ (b ≡ true) → not b ≡ true
not_of true h = absurd (h refl)
not_of false h = refl

no_both : (b : Bool) → not b ≡ true → b ≡ true → ⊥
no_both true h g = cc
no_both false h g = cc

history_singles : (h : List Event) → IsHistory h → (n : ℕ) → is_single h n ≡ true
unfolding is_single
history_singles h history n = and_both _ _ (and_both _ _ (to_le _ _ (history.called_once n)) (to_le _ _ (history.replied_once n))) (after (list_any (is_reply n) h) refl)
  where
    to_lt : (a b : ℕ) → a < b → nat_lt a b ≡ true
    to_lt a b g = grind (arith, nat_tests, g)

    after : (b : Bool) → list_any (is_reply n) h ≡ b → (not b || nat_lt (position_or_len (is_call n) h) (position_or_len (is_reply n) h)) ≡ true
    after true e = to_lt _ _ (history.follows n e)
    after false e = refl

singles_history : (h : List Event) → list_all (is_single h) (map number_of h) ≡ true → IsHistory h
unfolding is_single
singles_history h all = record {
  called_once = λ n. elim (cases_lt 1 (count_by (is_call n) h)) [
    | inr le ↦ le
    | inl lt ↦ (let some : 0 < count_by (is_call n) h = omega (arith, lt) in
        le_from _ _ (and_left _ _ (and_left _ _ (all_at (is_single h) (map number_of h) n all (called_in h n (counted_some (is_call n) h some))))))
  ];
  replied_once = λ n. elim (cases_lt 1 (count_by (is_reply n) h)) [
    | inr le ↦ le
    | inl lt ↦ (let some : 0 < count_by (is_reply n) h = omega (arith, lt) in
        le_from _ _ (and_right _ _ (and_left _ _ (all_at (is_single h) (map number_of h) n all (replied_in h n (counted_some (is_reply n) h some))))))
  ];
  follows = λ n replied. elim (or_split (not (list_any (is_reply n) h)) _ (and_right _ _ (all_at (is_single h) (map number_of h) n all (replied_in h n replied)))) [
    | inl none ↦ absurd (no_both (list_any (is_reply n) h) none replied)
    | inr lt ↦ lt_from _ _ lt
  ];
}
  where
    lt_from : (a b : ℕ) → nat_lt a b ≡ true → a < b
    lt_from a b g = grind (arith, nat_tests, g)

pub singles_tell : (h : List Event) (b : Bool) → b ≡ list_all (is_single h) (map number_of h) → IsTrue b ↔ IsHistory h
singles_tell h b e = ((λ t. singles_history h (sym e ∙ t)), (λ history. e ∙ all_from (is_single h) (map number_of h) (history_singles h history)))
