-- What is published in a list whose tickets rise stands there once.
use Rattle.std.proofs.Common.{◌≡◌, ◌⊎◌, inl, inr, List, [], ◌∷◌, ◌++◌, map, Option, Some, None, refl, sym, ap, subst, ◌∙◌}
use mathlib.Core.List.{IsPrefix}
use Rattle.hk_snap.specs.declared.rule.Publication.{Publication}
use Rattle.hk_snap.specs.declared.snapshot.Snapshot.{Snapshot}
use Rattle.hk_snap.specs.Snapshots.{last_shown, snapshot_of, IsBefore, IsRising}
use Rattle.hk_joint_reads.proofs.Latest.{before_trans, not_before}

-- ---- one of a list
abbrev pub Among : {X : Type 0} → List X → X → Type 0
Among [] x = ⊥
Among (y ∷ xs) x = (x ≡ y) ⊎ Among xs x

pub among_left : {X : Type 0} (xs ys : List X) (x : X) → Among xs x → Among (xs ++ ys) x
among_left [] ys x a = absurd a
among_left (y ∷ xs) ys x (inl e) = inl e
among_left (y ∷ xs) ys x (inr a) = inr (among_left xs ys x a)

pub among_right : {X : Type 0} (xs ys : List X) (x : X) → Among ys x → Among (xs ++ ys) x
among_right [] ys x a = a
among_right (y ∷ xs) ys x a = inr (among_right xs ys x a)

pub among_map : {X Y : Type 0} (f : X → Y) (xs : List X) (x : X) → Among xs x → Among (map f xs) (f x)
among_map f [] x a = absurd a
among_map f (y ∷ xs) x (inl e) = inl (ap f e)
among_map f (y ∷ xs) x (inr a) = inr (among_map f xs x a)

pub among_prefix : {X : Type 0} (xs ys : List X) (x : X) → IsPrefix xs ys → Among xs x → Among ys x
among_prefix xs ys x front a = subst (λ (l : List _). Among l x) front.1 (among_left xs front.0 x a)

-- ---- in a list that rises
rising_tail : (p : Publication) (ps : List Publication) → IsRising (p ∷ ps) → IsRising ps
rising_tail p [] rises = tt
rising_tail p (q ∷ ps) rises = rises.1

all_behind : (p q : Publication) (ps : List Publication) → IsRising (p ∷ ps) → Among ps q → IsBefore p q
all_behind p q [] rises a = absurd a
all_behind p q (r ∷ ps) rises (inl e) = subst (IsBefore p) (sym e) rises.0
all_behind p q (r ∷ ps) rises (inr a) = before_trans p r q rises.0 (all_behind r q ps rises.1 a)

-- what has one ticket and one key is one
pub one_of : (ps : List Publication) (p q : Publication) → IsRising ps → Among ps p → Among ps q → p.key ≡ q.key → p.ticket ≡ q.ticket → p ≡ q
one_of [] p q rises a b key ticket = absurd a
one_of (r ∷ ps) p q rises (inl a) (inl b) key ticket = a ∙ sym b
one_of (r ∷ ps) p q rises (inl a) (inr b) key ticket = absurd (not_before p q key ticket (subst (λ (x : Publication). IsBefore x q) (sym a) (all_behind r q ps rises b)))
one_of (r ∷ ps) p q rises (inr a) (inl b) key ticket = absurd (not_before q p (sym key) (sym ticket) (subst (λ (x : Publication). IsBefore x p) (sym b) (all_behind r p ps rises a)))
one_of (r ∷ ps) p q rises (inr a) (inr b) key ticket = one_of ps p q (rising_tail r ps rises) a b key ticket

-- one of the front stands before one of what is behind it
pub before_across : (xs ys : List Publication) (p q : Publication) → IsRising (xs ++ ys) → Among xs p → Among ys q → IsBefore p q
before_across [] ys p q rises a b = absurd a
before_across (r ∷ xs) ys p q rises (inl e) b = subst (λ (x : Publication). IsBefore x q) (sym e) (all_behind r q (xs ++ ys) rises (among_right xs ys q b))
before_across (r ∷ xs) ys p q rises (inr a) b = before_across xs ys p q (rising_tail r (xs ++ ys) rises) a b

-- ---- what is shown is the last of a list
pub record IsLastOf (seen : List Publication) (shown : Snapshot) : Type 0 where
  pub last : Publication
  pub among : Among seen last
  pub shows : snapshot_of last ≡ shown

some_same : (a b : Snapshot) → ◌≡◌ {A = Option Snapshot} (Some a) (Some b) → a ≡ b
some_same a b e = cc

no_some : (a : Snapshot) → ◌≡◌ {A = Option Snapshot} None (Some a) → ⊥
no_some a e = cc

pub last_of : (seen : List Publication) (shown : Snapshot) → last_shown seen ≡ Some shown → IsLastOf seen shown
last_of [] shown e = absurd (no_some shown e)
last_of (p ∷ []) shown e = record { last = p; among = inl refl; shows = some_same (snapshot_of p) shown e }
last_of (p ∷ q ∷ seen) shown e =
    let rest = last_of (q ∷ seen) shown e in
    record { last = rest.last; among = inr rest.among; shows = rest.shows }
