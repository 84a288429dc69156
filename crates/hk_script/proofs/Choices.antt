-- Tests that had to go one way.
use Rattle.std.proofs.Common.{◌≡◌, ℕ, List, ◌⊎◌, inl, inr, Bool, true, false, ◌&&◌, not, cond, Option, Some, None, is_some, refl, sym, subst, ⊎_elim}
use Rattle.std.specs.Option.{option_and_then, option_map}
use Rattle.std.proofs.lemmas.Bool.{false≢true}
use Rattle.std.proofs.lemmas.Slice.Eq.{bytes_eq-Decides}
use Rattle.hk_script.specs.Parts.{is_text}

-- which way a test went
pub chosen : {A : Type 0} (b : Bool) (x y z : A) → cond b x y ≡ z → ((b ≡ true) × (x ≡ z)) ⊎ ((b ≡ false) × (y ≡ z))
chosen true x y z e = inl (refl, e)
chosen false x y z e = inr (refl, e)

-- a test that had to hold
pub held : {A : Type 0} (b : Bool) (x : Option A) (z : A) → cond b x None ≡ Some z → (b ≡ true) × (x ≡ Some z)
held true x z e = (refl, e)
held false x z e = cc

-- a test that had to fail
pub failed : {A : Type 0} (b : Bool) (x : Option A) (z : A) → cond b None x ≡ Some z → (b ≡ false) × (x ≡ Some z)
failed true x z e = cc
failed false x z e = (refl, e)

pub bind_some : {A B : Type 0} (o : Option A) (f : A → Option B) (z : B) → option_and_then f o ≡ Some z → (x : A) × (o ≡ Some x) × (f x ≡ Some z)
bind_some None f z e = cc
bind_some (Some x) f z e = (x, refl, e)

pub some_same : {A : Type 0} (x y : A) → ◌≡◌ {A = Option A} (Some x) (Some y) → x ≡ y
some_same x y e = cc

pub map_some : {A B : Type 0} (o : Option A) (f : A → B) (z : B) → option_map f o ≡ Some z → (x : A) × (o ≡ Some x) × (f x ≡ z)
map_some None f z e = cc
map_some (Some x) f z e = (x, refl, some_same (f x) z e)

pub both : (a b : Bool) → (a && b) ≡ true → (a ≡ true) × (b ≡ true)
both true b e = (refl, e)
both false b e = absurd (false≢true e)

pub not_false : (b : Bool) → not b ≡ false → b ≡ true
not_false true e = refl
not_false false e = absurd (false≢true (sym e))

pub none_of : {A : Type 0} (o : Option A) → is_some o ≡ false → o ≡ None
none_of None e = refl
none_of (Some x) e = absurd (false≢true (sym e))

pub no_some : {A : Type 0} (x : A) → ◌≡◌ {A = Option A} None (Some x) → ⊥
no_some x e = cc

-- a fault that was not found
pub not_found : {A : Type 0} (b : Bool) (x : A) (o : Option A) → cond b (Some x) o ≡ None → (b ≡ false) × (o ≡ None)
not_found true x o e = absurd (no_some x (sym e))
not_found false x o e = (refl, e)

pub map_none : {A B : Type 0} (f : A → B) (o : Option A) → option_map f o ≡ None → o ≡ None
map_none f None e = refl
map_none f (Some x) e = absurd (no_some (f x) (sym e))

pub text_is : (word text : List ℕ) → is_text word text ≡ true → word ≡ text
text_is word text e = (bytes_eq-Decides word text).0 e

-- a word that is tested by name
pub named : {A : Type 0} (P : List ℕ → Type 0) (word name : List ℕ) (x y : Option A) (z : A) → (x ≡ Some z → P name) → (y ≡ Some z → P word) → cond (is_text word name) x y ≡ Some z → P word
named P word name x y z found other e = ⊎_elim (λ a. subst P (sym (text_is word name a.0)) (found a.1)) (λ b. other b.1) (chosen (is_text word name) x y (Some z) e)
