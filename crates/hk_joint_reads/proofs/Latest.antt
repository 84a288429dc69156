-- A list of publications that shows the same ticket of a key as one that begins it is no longer than that one.
use Rattle.std.proofs.Common.{◌≡◌, ℕ, List, [], ◌∷◌, ◌++◌, inl, inr, Option, Some, None, refl, sym, ap, ◌∙◌, arith}
use Rattle.std.specs.declared.cmp.Ordering.{Ordering}
use Rattle.std.specs.declared.cmp.Ordering.TheVariants.{Less, Greater}
use Rattle.std.specs.Ordering.{nat_cmp, ordering_reverse}
use Rattle.std.specs.Cmp.Lexicographic.{slice_cmp, nat_list_cmp_total}
use Rattle.hk_snap.specs.declared.rule.Publication.{Publication}
use Rattle.hk_snap.specs.declared.snapshot.Snapshot.{Snapshot}
use Rattle.hk_snap.specs.Snapshots.{last_shown, snapshot_of, IsBefore, IsRising}

pub before_trans : (p q u : Publication) → IsBefore p q → IsBefore q u → IsBefore p u
before_trans p q u (inl a) (inl b) = inl (omega (arith, a, b))
before_trans p q u (inl a) (inr b) = (let e = b.0 in inl (omega (arith, a, e)))
before_trans p q u (inr a) (inl b) = (let e = a.0 in inl (omega (arith, e, b)))
before_trans p q u (inr a) (inr b) = inr (a.0 ∙ b.0, nat_list_cmp_total.trans p.key q.key u.key a.1 b.1)

clash : ◌≡◌ {A = Ordering} Less Greater → ⊥
clash e = cc

not_less : (k : List ℕ) → slice_cmp nat_cmp k k ≡ Less → ⊥
not_less k e = clash (sym e ∙ nat_list_cmp_total.antisymm k k ∙ ap ordering_reverse e)

-- a later one has another ticket, or another key
pub not_before : (p u : Publication) → p.key ≡ u.key → p.ticket ≡ u.ticket → IsBefore p u → ⊥
not_before p u key ticket (inl less) = absurd (omega (arith, ticket, less))
not_before p u key ticket (inr less) = not_less p.key (ap (slice_cmp nat_cmp p.key) key ∙ less.1)

pub record Behind (p : Publication) (ps : List Publication) : Type 0 where
  pub last : Publication
  pub shown : last_shown ps ≡ Some (snapshot_of last)
  pub after : IsBefore p last

last_after : (p q : Publication) (ps : List Publication) → IsRising (p ∷ q ∷ ps) → Behind p (q ∷ ps)
last_after p q [] rises = record { last = q; shown = refl; after = rises.0 }
last_after p q (r ∷ ps) rises =
    let rest = last_after q r ps rises.1 in
    record { last = rest.last; shown = rest.shown; after = before_trans p q rest.last rises.0 rest.after }

some_same : (a b : Snapshot) → ◌≡◌ {A = Option Snapshot} (Some a) (Some b) → a ≡ b
some_same a b e = cc

no_some : (a : Snapshot) → ◌≡◌ {A = Option Snapshot} None (Some a) → ⊥
no_some a e = cc

pub none_behind : (xs ys : List Publication) (s t : Snapshot) → IsRising (xs ++ ys) → last_shown xs ≡ Some s → last_shown (xs ++ ys) ≡ Some t → s.key ≡ t.key → s.ticket ≡ t.ticket → ys ≡ []
none_behind [] ys s t rises first last key ticket = absurd (no_some s first)
none_behind (p ∷ []) [] s t rises first last key ticket = refl
none_behind (p ∷ []) (q ∷ ys) s t rises first last key ticket =
    let b = last_after p q ys rises in
    let old : snapshot_of p ≡ s = some_same (snapshot_of p) s first in
    let new : snapshot_of b.last ≡ t = some_same (snapshot_of b.last) t (sym b.shown ∙ last) in
    absurd (not_before p b.last (ap (λ (x : Snapshot). x.key) old ∙ key ∙ sym (ap (λ (x : Snapshot). x.key) new)) (ap (λ (x : Snapshot). x.ticket) old ∙ ticket ∙ sym (ap (λ (x : Snapshot). x.ticket) new)) b.after)
none_behind (p ∷ o ∷ xs) ys s t rises first last key ticket = none_behind (o ∷ xs) ys s t rises.1 first last key ticket
