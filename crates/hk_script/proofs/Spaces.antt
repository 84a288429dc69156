-- Words without spaces are the fields of their line.
use Rattle.std.proofs.Common.{◌≡◌, ℕ, List, [], ◌∷◌, ◌++◌, true, false, nat_le, refl, ap, ◌∙◌, arith}
use Rattle.std.specs.List.{list_all, join_with_byte, AllByRecursion}
use Rattle.std.specs.Char.{is_ascii_digit}
use Rattle.std.proofs.lemmas.Bool.Decides.{nat_tests}
use Rattle.std.proofs.lemmas.List.Splits.{slice_split_none, slice_split_at}
use Rattle.std.proofs.lemmas.List.Elements.{All-from_recursion}
use Rattle.hk_script.specs.Words.{is_plain}
use Rattle.hk_script.specs.Parts.{fields, is_space}
use Rattle.hk_script.proofs.Choices.{both}

abbrev pub NoSpace : List ℕ → Type 0
NoSpace word = AllByRecursion (λ b. is_space b ≡ false) word

pub plain_not_space : (x : ℕ) → nat_le 33 x ≡ true → is_space x ≡ false
plain_not_space x p = grind (arith, nat_tests, p)

pub plain_no_space : (word : List ℕ) → list_all is_plain word ≡ true → NoSpace word
plain_no_space [] e = tt
plain_no_space (x ∷ word) e = let b = both _ _ e in let p = (both _ _ b.0).0 in (plain_not_space x p, plain_no_space word b.1)

digit_no_space : (x : ℕ) → is_ascii_digit x ≡ true → is_space x ≡ false
digit_no_space x e = grind (arith, nat_tests, e)

pub digits_no_space : (word : List ℕ) → list_all is_ascii_digit word ≡ true → NoSpace word
digits_no_space [] e = tt
digits_no_space (x ∷ word) e = let b = both _ _ e in (digit_no_space x b.0, digits_no_space word b.1)

pub no_space_append : (a b : List ℕ) → NoSpace a → NoSpace b → NoSpace (a ++ b)
no_space_append [] b h k = k
no_space_append (x ∷ a) b h k = (h.0, no_space_append a b h.1 k)

pub fields_of : (first : List ℕ) (words : List (List ℕ)) → AllByRecursion NoSpace (first ∷ words) → fields (join_with_byte 32 (first ∷ words)) ≡ first ∷ words
fields_of first [] all = slice_split_none is_space first (All-from_recursion (λ b. is_space b ≡ false) first all.0)
fields_of first (second ∷ words) all =
    slice_split_at is_space first 32 (join_with_byte 32 (second ∷ words)) (All-from_recursion (λ b. is_space b ≡ false) first all.0) refl
    ∙ ap (λ ws. first ∷ ws) (fields_of second words all.1)
