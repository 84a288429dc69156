-- From the least numbers that pass a test to what the check of a rule tells.
use Rattle.std.proofs.Common.{◌≡◌, ℕ, ◌<◌, ◌≤◌, List, map, Option, Some, None, Bool, true, false, refl, sym, ap, ◌∙◌, subst, ◌⊎◌, inl, inr, arith, min, not, nat_lt}
use Rattle.std.specs.Bool.{IsTrue}
use Rattle.std.specs.Option.{is_some}
use Rattle.std.specs.List.{reduce, filter, list_any, count_by}
use Rattle.std.proofs.lemmas.Bool.{cases_lt}
use Rattle.std.proofs.lemmas.Bool.Decides.{nat_tests}
use Rattle.hk_base.specs.declared.call.Op.{Op}
use Rattle.hk_history.specs.declared.event.Event.{Event}
use Rattle.hk_history.specs.declared.event.Entry.{Entry}
use Rattle.hk_history.specs.declared.fault.Rule.{Rule}
use Rattle.hk_history.specs.declared.fault.Rule.TheVariants.{Twice, Void, Lacking, Stranger}
use Rattle.hk_history.specs.History.{op_of, answer_of, is_void, is_answered, is_call, IsHistory}
use Rattle.hk_history.specs.Legal.{is_entry, calls_of, Stands}
use Rattle.hk_history.specs.Breach.{Breaks, IsEarly}
use Rattle.hk_history.specs.Rulings.{RuleGives, at_one}
use Rattle.hk_history.specs.Index.{number_of}
use Rattle.hk_history.specs.Tests.{lacks, is_overtaken, overtakes}
use Rattle.hk_history.proofs.Least.{IsIn, IsLeastIn, least_in}
use Rattle.hk_history.proofs.Standing.{stands_in, counted_some, answered_in}
use Rattle.hk_history.proofs.Found.{is_some-op_of}
use Rattle.hk_history.proofs.Overtaking.{and_left, and_right, and_both, overtaken_has, early_overtaken, overtakes_early, early_overtakes}

least_gives : (rule : Rule) (p : ℕ → Bool) (xs : List ℕ) (h : List Event) (order : List Entry) (r : Option ℕ) → IsLeastIn p xs r
    → ((n : ℕ) → IsIn xs n → p n ≡ true → Breaks rule h order n n)
    → ((a b : ℕ) → Breaks rule h order a b → (a ≡ b) × IsIn xs a × (p a ≡ true))
    → RuleGives rule (at_one rule r) h order
least_gives rule p xs h order None least to from = λ c d broken. let f = from c d broken in least c f.1 f.2
least_gives rule p xs h order (Some m) least to from = (
  refl,
  to m least.0 least.1,
  λ c d broken.
      let f = from c d broken in let le = least.2 c f.1 f.2 in let same = f.0 in
      elim (cases_lt m c) [ inl lt ↦ inl lt | inr ge ↦ inr ((omega (arith, le, ge)), (omega (arith, le, same))) ],
)

none_of : (o : Option Op) → not (is_some o) ≡ true → o ≡ None
none_of None t = refl
none_of (Some op) t = absurd (cc)

pub stranger_gives : (h : List Event) (order : List Entry) (r : Option ℕ) → r ≡ reduce min (filter (λ n. not (is_some (op_of h n))) (calls_of order)) → RuleGives Stranger (at_one Stranger r) h order
stranger_gives h order r e = least_gives Stranger (λ n. not (is_some (op_of h n))) (calls_of order) h order r (least_in _ _ r e)
    (λ n i t. (refl, stands_in order n ∙ i, none_of (op_of h n) t))
    (λ a b broken. (broken.0, sym (stands_in order a) ∙ broken.1, ap (λ (o : Option Op). not (is_some o)) broken.2))

pub twice_gives : (h : List Event) (order : List Entry) (r : Option ℕ) → r ≡ reduce min (filter (λ n. nat_lt 1 (count_by (is_entry n) order)) (calls_of order)) → RuleGives Twice (at_one Twice r) h order
twice_gives h order r e = least_gives Twice (λ n. nat_lt 1 (count_by (is_entry n) order)) (calls_of order) h order r (least_in _ _ r e)
    (λ n i t. (refl, lt_from 1 (count_by (is_entry n) order) t))
    (λ a b broken. (broken.0, sym (stands_in order a) ∙ counted_some (is_entry a) order (some (count_by (is_entry a) order) broken.1), to_lt 1 (count_by (is_entry a) order) broken.1))
  where
    lt_from : (a b : ℕ) → nat_lt a b ≡ true → a < b
    lt_from a b h = grind (arith, nat_tests, h)

    to_lt : (a b : ℕ) → a < b → nat_lt a b ≡ true
    to_lt a b h = grind (arith, nat_tests, h)

    some : (a : ℕ) → 1 < a → 0 < a
    some a h = omega (arith, h)

pub void_gives : (h : List Event) (order : List Entry) (r : Option ℕ) → r ≡ reduce min (filter (λ n. is_void (answer_of h n)) (calls_of order)) → RuleGives Void (at_one Void r) h order
void_gives h order r e = least_gives Void (λ n. is_void (answer_of h n)) (calls_of order) h order r (least_in _ _ r e)
    (λ n i t. (refl, stands_in order n ∙ i, t))
    (λ a b broken. (broken.0, sym (stands_in order a) ∙ broken.1, broken.2))

not_true : (b : Bool) → ¬ (b ≡ true) → not b ≡ true
not_true true h = absurd (h refl)
not_true false h = refl

true_not : (b : Bool) → not b ≡ true → ¬ (b ≡ true)
true_not true h g = cc
true_not false h g = cc

pub lacking_gives : (h : List Event) (order : List Entry) (r : Option ℕ) → r ≡ reduce min (filter (lacks h order) (map number_of h)) → RuleGives Lacking (at_one Lacking r) h order
unfolding lacks
lacking_gives h order r e = least_gives Lacking (lacks h order) (map number_of h) h order r (least_in _ _ r e)
    (λ n i t. (refl, and_left _ _ t, true_not (list_any (is_entry n) order) (and_right (is_answered (answer_of h n)) _ t)))
    (λ a b broken. (broken.0, answered_in h a broken.1, and_both (is_answered (answer_of h a)) _ broken.1 (not_true (list_any (is_entry a) order) broken.2)))

-- each call that stands is one of the history
abbrev pub IsKnown : List Event → List Entry → Type 0
IsKnown h order = (n : ℕ) → Stands order n → IsTrue (is_some (op_of h n))

known_call : (h : List Event) (order : List Entry) (n : ℕ) → IsKnown h order → Stands order n → list_any (is_call n) h ≡ true
known_call h order n known stands = sym (is_some-op_of h n) ∙ known n stands

pub early_none : (h : List Event) (order : List Entry) → IsKnown h order → None ≡ reduce min (filter (is_overtaken h order) (map number_of h)) → (c d : ℕ) → ¬ IsEarly h order c d
early_none h order known e c d early =
    let least : IsLeastIn (is_overtaken h order) (map number_of h) None = least_in _ _ None e in
    least c (answered_in h c early.answered) (early_overtaken h order c d (known_call h order d known early.second_stands) early)

pub early_both : (h : List Event) (order : List Entry) (first : ℕ) → IsHistory h → Some first ≡ reduce min (filter (is_overtaken h order) (map number_of h)) → None ≡ reduce min (filter (overtakes h order first) (calls_of order)) → ⊥
early_both h order first history e f =
    let one : IsLeastIn (is_overtaken h order) (map number_of h) (Some first) = least_in _ _ (Some first) e in
    let two : IsLeastIn (overtakes h order first) (calls_of order) None = least_in _ _ None f in
    let found = overtaken_has h order first history.called_once one.1 in
    two found.0 (sym (stands_in order found.0) ∙ found.1.second_stands) (early_overtakes h order first found.0 found.1)

pub early_some : (h : List Event) (order : List Entry) (first second : ℕ) → IsHistory h → IsKnown h order → Some first ≡ reduce min (filter (is_overtaken h order) (map number_of h)) → Some second ≡ reduce min (filter (overtakes h order first) (calls_of order))
    → IsEarly h order first second × ((c d : ℕ) → IsEarly h order c d → (first < c) ⊎ ((first ≡ c) × (second ≤ d)))
early_some h order first second history known e f =
    let one : IsLeastIn (is_overtaken h order) (map number_of h) (Some first) = least_in _ _ (Some first) e in
    let two : IsLeastIn (overtakes h order first) (calls_of order) (Some second) = least_in _ _ (Some second) f in
    let found = overtaken_has h order first history.called_once one.1 in (
      overtakes_early h order first second found.1.first_stands (stands_in order second ∙ two.0) found.1.answered two.1,
      λ c d early.
          let le = one.2 c (answered_in h c early.answered) (early_overtaken h order c d (known_call h order d known early.second_stands) early) in
          elim (cases_lt first c) [
            | inl lt ↦ inl lt
            | inr ge ↦ (let same : first ≡ c = omega (arith, le, ge) in
                let here : IsEarly h order first d = subst (λ (n : ℕ). IsEarly h order n d) (sym same) early in
                inr (same, two.2 d (sym (stands_in order d) ∙ here.second_stands) (early_overtakes h order first d here)))
          ],
    )
