-- Tags order stamps.
use Rattle.std.proofs.Common.{◌≡◌, ℕ, Bool, true, false, cond, ◌+◌, ◌*◌, ◌<◌, ◌≤◌, Some, None, inl, inr, ⊎_elim, arith, ltb}
use Rattle.std.proofs.lemmas.Bool.{cases_lt}
use Rattle.hk_base.specs.declared.stamp.Kind.{Kind}
use Rattle.hk_base.specs.declared.stamp.Kind.TheVariants as Kind
use Rattle.hk_base.specs.declared.stamp.Stamp.{Stamp}
use Rattle.hk_base.specs.declared.stamp.TheConstants.{MAX_VERSION}
use Rattle.hk_base.specs.Stamp.{tag_of}
use Rattle.hk_register.specs.Effects.{step_of, next_stamp}
use Rattle.hk_register.specs.Tags.{TagsOrderStamps, TagsTellStamps, NextIsAfter}

abbrev stamp : ℕ → ℕ → Stamp
stamp version node = record { version = version; node = node }

none : (b : Stamp) → None ≡ Some b → ⊥
none b e = cc

some : (a b : Stamp) → Some a ≡ Some b → a ≡ b
some a b e = cc

steps : (kind : Kind) (v m n : ℕ) → m < 65536 → (v + step_of kind) * 65536 + n ≡ next_stamp kind (v * 65536 + m) n
steps Kind.Write v m n p = omega arith
steps Kind.Rmw v m n p = omega arith

pub tags_order : TagsOrderStamps
tags_order a b p q = (
  λ below. ⊎_elim
      (λ (l : a.version < b.version). inl l)
      (λ (l : b.version ≤ a.version). inr (omega arith, omega arith)) (cases_lt a.version b.version),
  λ before. ⊎_elim (λ (l : a.version < b.version). omega arith) (λ (l : (a.version ≡ b.version) × (a.node < b.node)). omega (arith, l.0, l.1)) before,
)

pub tags_tell : TagsTellStamps
tags_tell a b p q same =
    let version : a.version ≡ b.version = omega arith in
    let node : a.node ≡ b.node = omega arith in
    stamps a.version b.version a.node b.node version node
  where
    stamps : (v w n m : ℕ) → v ≡ w → n ≡ m → stamp v n ≡ stamp w m
    stamps v w n m e f = cc

pub next_is : NextIsAfter
next_is kind a b node p is = by_test (ltb MAX_VERSION (a.version + step_of kind)) is
  where
    by_test : (t : Bool) → cond t None (Some (stamp (a.version + step_of kind) node)) ≡ Some b → tag_of b ≡ next_stamp kind (tag_of a) node
    by_test true e = absurd (none b e)
    by_test false e = let at : stamp (a.version + step_of kind) node ≡ b = some _ b e in rw (← at) (steps kind a.version a.node node p)
