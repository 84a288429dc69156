-- Cutting a text at its last colon.
use Rattle.std.proofs.Common.{◌≡◌, ℕ, ◌-◌, Bool, true, false, true≢false, List, [], ◌∷◌, ◌++◌, length, take, drop, Some, None, refl, sym, ap, subst, ◌∙◌, arith, inl, inr}
use Rattle.std.specs.Prelude.{◌==◌}
use Rattle.std.specs.Str.{NoCharPasses}
use Rattle.std.specs.Str.Pattern.{RFindsChar}
use Rattle.std.proofs.lemmas.List.{take-append-drop}
use Rattle.std.proofs.lemmas.Str.Pattern.{NoCharPasses-char, drop_at_char}
use Rattle.hk_hosts.specs.Parts.{AreParts}

-- what `ends_char` tells of a bracket
module _ (text : List ℕ) (ends : Bool) (told : (ends ≡ true → text ≡ take (length text - 1) text ++ (93 ∷ [])) × ((front : List ℕ) → text ≡ front ++ (93 ∷ []) → ends ≡ true)) where
  pub bracket : ends ≡ true → AreParts text None text
  bracket is = (refl, inl (take (length text - 1) text, told.0 is))

  pub colon : ends ≡ false → (host behind : List ℕ) (i j : ℕ) → RFindsChar 58 text (Some (i, j)) → host ≡ take i text → behind ≡ drop j text → AreParts host (Some behind) text
  colon f host behind i j finds front back = (
    sym (take-append-drop i text) ∙ ap (λ (z : List ℕ). take i text ++ z) (drop_at_char 58 text i j finds.1 (omega arith)) ∙ ap (λ (z : List ℕ). take i text ++ 58 ∷ z) (sym back) ∙ ap (λ (z : List ℕ). z ++ 58 ∷ behind) (sym front),
    λ k within. NoCharPasses-char 58 behind k (subst (NoCharPasses (λ d. d == 58)) (sym back) finds.0) (omega arith) within,
    λ bracketed. true≢false (sym (told.1 bracketed.0 bracketed.1) ∙ f),
  )

  pub no_colon : ends ≡ false → RFindsChar 58 text None → AreParts text None text
  no_colon f finds = (refl, inr (λ i within. NoCharPasses-char 58 text i finds (omega arith) within))
