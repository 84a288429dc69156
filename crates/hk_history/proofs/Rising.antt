-- Tags that rise, one after the other and as a list.
use Rattle.std.proofs.Common.{ℕ, zero, suc, add-one, ◌<◌, List, [], ◌∷◌, Option, Some, None, arith}
use Rattle.std.specs.List.{filter_map}
use Rattle.std.specs.List.Sorted.{IsStrictlyIncreasing}
use Rattle.std.specs.Option.{option_or}
use Rattle.hk_history.specs.declared.event.Entry.{Entry}
use Rattle.hk_history.specs.Legal.{tags_of}
use Rattle.hk_history.specs.Fold.{Rises, RiseFrom}

inc_cons : (s t : ℕ) (ts : List ℕ) → s < t → IsStrictlyIncreasing (t ∷ ts) → IsStrictlyIncreasing (s ∷ t ∷ ts)
inc_cons s t ts lt h zero g = lt
inc_cons s t ts lt h (suc k) g = simp add-one (simp add-one at (h k (omega (arith, g))))

inc_head : (s t : ℕ) (ts : List ℕ) → IsStrictlyIncreasing (s ∷ t ∷ ts) → s < t
inc_head s t ts h = h 0 (omega arith)

inc_tail : (s t : ℕ) (ts : List ℕ) → IsStrictlyIncreasing (s ∷ t ∷ ts) → IsStrictlyIncreasing (t ∷ ts)
inc_tail s t ts h = λ k g. simp add-one (simp add-one at (h (suc k) (omega (arith, g))))

inc_one : (s : ℕ) → IsStrictlyIncreasing (s ∷ [])
inc_one s = λ k g. absurd (omega (arith, g))

inc_none : IsStrictlyIncreasing []
inc_none = λ k g. absurd (omega (arith, g))

onto : Option ℕ → List ℕ → List ℕ
onto None ts = ts
onto (Some t) ts = t ∷ ts

rise_inc : (last : Option ℕ) (order : List Entry) → RiseFrom last order → IsStrictlyIncreasing (onto last (tags_of order))
unfolding onto
rise_inc None [] h = inc_none
rise_inc (Some s) [] h = inc_one s
rise_inc last (entry ∷ order) h = at last entry.tag h.0 (rise_inc (option_or entry.tag last) order h.1)
  where
    at : (last tag : Option ℕ) → Rises last tag → IsStrictlyIncreasing (onto (option_or tag last) (tags_of order)) → IsStrictlyIncreasing (onto last (Rattle.std.specs.List.cons_option tag (tags_of order)))
    at None None r more = more
    at None (Some t) r more = more
    at (Some s) None r more = more
    at (Some s) (Some t) r more = inc_cons s t (tags_of order) r more

inc_rise : (last : Option ℕ) (order : List Entry) → IsStrictlyIncreasing (onto last (tags_of order)) → RiseFrom last order
unfolding onto
inc_rise last [] h = tt
inc_rise last (entry ∷ order) h = at last entry.tag h (inc_rise (option_or entry.tag last) order)
  where
    at : (last tag : Option ℕ) → IsStrictlyIncreasing (onto last (Rattle.std.specs.List.cons_option tag (tags_of order))) → (IsStrictlyIncreasing (onto (option_or tag last) (tags_of order)) → RiseFrom (option_or tag last) order) → Rises last tag × RiseFrom (option_or tag last) order
    at None None h more = (tt, more h)
    at None (Some t) h more = (tt, more h)
    at (Some s) None h more = (tt, more h)
    at (Some s) (Some t) h more = ((inc_head s t (tags_of order) h), more (inc_tail s t (tags_of order) h))

pub tags_rise : (order : List Entry) → RiseFrom None order → IsStrictlyIncreasing (tags_of order)
unfolding onto
tags_rise order h = rise_inc None order h

pub rising_tags : (order : List Entry) → IsStrictlyIncreasing (tags_of order) → RiseFrom None order
unfolding onto
rising_tags order h = inc_rise None order h
