-- Where bytes stop being a front of a text.
use Rattle.std.specs.Prelude.{◌≡◌, ℕ, suc, List, [], ◌∷◌, ◌++◌, length}

-- some text begins with the bytes
abbrev pub Begins : {A : Type 0} → (A → List ℕ → Type 0) → List ℕ → Type 0
Begins {A} IsText bytes = (value : A) × (more : List ℕ) × IsText value (bytes ++ more)

-- some text begins with what stands in front of a byte, and none with that byte behind it; so many bytes are left,
-- the byte among them
pub record StopsAt {A : Type 0} (IsText : A → List ℕ → Type 0) (bytes : List ℕ) (left : ℕ) : Type 0 where
  pub front : List ℕ
  pub bad : ℕ
  pub back : List ℕ
  pub is : bytes ≡ front ++ bad ∷ back
  pub at : left ≡ suc (length back)
  pub goes : Begins IsText front
  pub ends : Begins IsText (front ++ bad ∷ []) → ⊥
