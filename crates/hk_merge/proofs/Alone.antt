-- There is one merged list at most.
use Rattle.std.proofs.Common.{◌≡◌, ℕ, List, [], ◌∷◌, map, max, Bool, true, false, refl, sym, ap, subst, ◌∙◌, inl, inr, Less, nat_lt, if◌then◌else◌, arith}
use Rattle.std.specs.List.{AllByRecursion}
use Rattle.std.specs.List.Sorted.{IsStrictlySortedBy}
use Rattle.std.proofs.lemmas.Map.Keys.{sorted_head, sorted_tail}
use Rattle.hk_merge.specs.Merged.{Item, In, IsItem, place_of, place_cmp, place_before, place_behind, entry_place}
use Rattle.hk_merge.specs.Single.{MergedIsSingle, EarlyRuleFails}
use Rattle.hk_merge.proofs.Between.{never_both, by_head, same_head, one_above}

module _ (place : Item → List ℕ) where
  abbrev Sorted : List Item → Type 0
  Sorted items = IsStrictlySortedBy place_cmp (map place items)

  above : (p : List ℕ) (items : List Item) (x : Item) → AllByRecursion (λ (q : List ℕ). place_cmp p q ≡ Less) (map place items) → In items x → place_cmp p (place x) ≡ Less
  above p [] x all is = absurd is
  above p (y ∷ items) x all (inl same) = subst (λ (i : Item). place_cmp p (place i) ≡ Less) (sym same) all.0
  above p (y ∷ items) x all (inr more) = above p items x all.1 more

  head_above : (y : Item) (ys : List Item) (x : Item) → Sorted (y ∷ ys) → In ys x → place_cmp (place y) (place x) ≡ Less
  head_above y ys x sorted is = above (place y) ys x (sorted_head place_cmp (place y) (map place ys) sorted) is

  heads : (x y : Item) (xs ys : List Item) → Sorted (x ∷ xs) → Sorted (y ∷ ys) → In (y ∷ ys) x → In (x ∷ xs) y → x ≡ y
  heads x y xs ys sx sy (inl same) back = same
  heads x y xs ys sx sy (inr more) (inl same) = sym same
  heads x y xs ys sx sy (inr more) (inr back) = absurd (never_both (place y) (place x) (head_above y ys x sy more) (head_above x xs y sx back))

  tail_in : (x y : Item) (xs ys : List Item) (z : Item) → Sorted (x ∷ xs) → x ≡ y → In xs z → In (y ∷ ys) z → In ys z
  tail_in x y xs ys z sx same is (inr more) = more
  tail_in x y xs ys z sx same is (inl here) =
      let less : place_cmp (place x) (place z) ≡ Less = head_above x xs z sx is in
      let itself : place_cmp (place z) (place z) ≡ Less = subst (λ (i : Item). place_cmp (place i) (place z) ≡ Less) (same ∙ sym here) less in
      absurd (never_both (place z) (place z) itself itself)

  same_lists : (xs ys : List Item) → Sorted xs → Sorted ys → ((z : Item) → In xs z → In ys z) → ((z : Item) → In ys z → In xs z) → xs ≡ ys
  same_lists [] [] sx sy to from = refl
  same_lists [] (y ∷ ys) sx sy to from = absurd (from y (inl refl))
  same_lists (x ∷ xs) [] sx sy to from = absurd (to x (inl refl))
  same_lists (x ∷ xs) (y ∷ ys) sx sy to from =
      let same : x ≡ y = heads x y xs ys sx sy (to x (inl refl)) (from y (inl refl)) in
      let rest : xs ≡ ys = same_lists xs ys (sorted_tail place_cmp (place x) (map place xs) sx) (sorted_tail place_cmp (place y) (map place ys) sy)
      (λ z is. tail_in x y xs ys z sx same is (to z (inr is))) (λ z is. tail_in y x ys xs z sy (sym same) is (from z (inr is))) in
      ap (λ (i : Item). i ∷ xs) same ∙ ap (λ (l : List Item). y ∷ l) rest

holds : (P : Item → Type 0) (items : List Item) (x : Item) → AllByRecursion P items → In items x → P x
holds P [] x all is = absurd is
holds P (y ∷ items) x all (inl same) = subst P (sym same) all.0
holds P (y ∷ items) x all (inr more) = holds P items x all.1 more

pub merged_is_single : MergedIsSingle
merged_is_single journals notes xs ys mx my = same_lists (place_of journals) xs ys mx.ordered my.ordered
    (λ z is. my.whole z (holds (IsItem journals notes) xs z mx.only is)) (λ z is. mx.whole z (holds (IsItem journals notes) ys z my.only is))

pub early_rule_fails : EarlyRuleFails
early_rule_fails next listed note same = by_test (nat_lt next.ticket (max note.own note.ticket)) (not_less next.ticket (max note.own note.ticket) same)
  where
    not_less : (a b : ℕ) → a ≡ b → nat_lt a b ≡ false
    not_less a b e = grind arith

    by_test : (b : Bool) → b ≡ false → place_cmp (entry_place note.node next) (if b then place_before next.ticket listed note else place_behind (max note.own note.ticket) listed note) ≡ Less
    by_test true e = cc
    by_test false e = same_head next.ticket (max note.own note.ticket) (0 ∷ note.node.0 ∷ 1 ∷ 0 ∷ 0 ∷ []) (1 ∷ note.node.0 ∷ 0 ∷ note.call.0 ∷ listed ∷ []) same
        (by_head 0 1 (note.node.0 ∷ 1 ∷ 0 ∷ 0 ∷ []) (note.node.0 ∷ 0 ∷ note.call.0 ∷ listed ∷ []) (one_above 0))
