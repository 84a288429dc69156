-- How the bytes of a word are read one by one.
use Rattle.std.proofs.Common.{◌≡◌, ℕ, suc, ◌<◌, List, [], ◌∷◌, ◌++◌, length, Option, Some, None, refl, sym, ap, append_assoc, append-nil, arith}
use Rattle.std.specs.Option.{option_map}
use Rattle.hk_script.specs.Parts.{unspelled, byte_at}

abbrev pub with_front : List ℕ → Option (List ℕ) → Option (List ℕ)
with_front front o = option_map (λ more. front ++ more) o

one_more : (front : List ℕ) (b : ℕ) (o : Option (List ℕ)) → with_front front (option_map (λ bytes. b ∷ bytes) o) ≡ with_front (front ++ b ∷ []) o
one_more front b (Some more) = ap (λ x. Some x) (sym (append_assoc front (b ∷ []) more))
one_more front b None = refl

pub turn : (n m first b : ℕ) (front longer rest others behind : List ℕ) → n ≡ suc m → rest ≡ first ∷ others → longer ≡ front ++ b ∷ [] → byte_at first others ≡ Some (b, behind) → with_front front (unspelled n rest) ≡ with_front longer (unspelled m behind)
unfolding unspelled
turn n m first b front longer rest others behind e f g h = rw (e, f, g, h) (one_more front b (unspelled m behind))

pub ended : (n : ℕ) (front rest : List ℕ) → length rest ≡ 0 → with_front front (unspelled n rest) ≡ Some front
unfolding unspelled
ended n front [] e = ap (λ x. Some x) (append-nil front)
ended n front (b ∷ rest) e = absurd (grind (arith, e))

pub stuck : (n m first : ℕ) (front rest others : List ℕ) → n ≡ suc m → rest ≡ first ∷ others → byte_at first others ≡ None → with_front front (unspelled n rest) ≡ None
unfolding unspelled
stuck n m first front rest others e f h = rw (e, f, h) refl

pub spent : (n : ℕ) (front rest : List ℕ) → n ≡ 0 → 0 < length rest → with_front front (unspelled n rest) ≡ None
unfolding unspelled
spent n front [] e lt = absurd (grind (arith, lt))
spent n front (b ∷ rest) e lt = rw e refl
