-- How options are gone through one by one.
use Rattle.std.proofs.Common.{◌≡◌, ℕ, suc, ◌+◌, List, [], ◌∷◌, length, map, true, false, if◌then◌else◌, Option, Some, None, refl, ap, ◌∙◌, arith}
use Rattle.std.specs.Option.{option_map}
use Rattle.hk_cli.specs.Options.{Began, option_at, option_count, value_of}
use Rattle.hk_script.specs.Parts.{is_text}

abbrev pub with_count : ℕ → Option ℕ → Option ℕ
with_count count o = option_map (λ m. count + m) o

pub map_none : {X : Type 0} (f : X → List ℕ) (xs : List X) → length xs ≡ 0 → length (map f xs) ≡ 0
map_none f [] e = refl
map_none f (x ∷ xs) e = absurd (grind (arith, e))

pub map_some : {X : Type 0} (f : X → List ℕ) (xs : List X) → (length xs ≡ 0 → ⊥) → length (map f xs) ≡ 0 → ⊥
map_some f [] some e = some refl
map_some f (x ∷ xs) some e = absurd (grind (arith, e))

none_at : (b : Began) → ◌≡◌ {A = Option Began} (option_at []) (Some b) → ⊥
unfolding option_at
none_at b e = cc

more_count : (count : ℕ) (o : Option ℕ) → with_count count (option_map (λ m. 1 + m) o) ≡ with_count (count + 1) o
more_count count None = refl
more_count count (Some m) = ap (λ k. Some k) (omega arith)

pub count_turn : (n m count : ℕ) (rest : List (List ℕ)) (b : Began) → n ≡ suc m → option_at rest ≡ Some b
    → with_count count (option_count n rest) ≡ with_count (count + 1) (option_count m b.1)
unfolding option_count
count_turn n m count [] b e f = absurd (none_at b f)
count_turn n m count (word ∷ rest) b e f = rw (e, f) (more_count count (option_count m b.1))

pub count_ended : (n count : ℕ) (rest : List (List ℕ)) → length rest ≡ 0 → with_count count (option_count n rest) ≡ Some count
unfolding option_count
count_ended n count [] e = ap (λ k. Some k) (omega arith)
count_ended n count (word ∷ rest) e = absurd (grind (arith, e))

pub count_stuck : (n m count : ℕ) (rest : List (List ℕ)) → n ≡ suc m → (length rest ≡ 0 → ⊥) → option_at rest ≡ None → with_count count (option_count n rest) ≡ None
unfolding option_count
count_stuck n m count [] e some f = absurd (some refl)
count_stuck n m count (word ∷ rest) e some f = rw (e, f) refl

pub count_spent : (n count : ℕ) (rest : List (List ℕ)) → n ≡ 0 → (length rest ≡ 0 → ⊥) → with_count count (option_count n rest) ≡ None
unfolding option_count
count_spent n count [] e some = absurd (some refl)
count_spent n count (word ∷ rest) e some = rw e refl

pub value_turn : (name : List ℕ) (n m : ℕ) (rest : List (List ℕ)) (b : Began) → n ≡ suc m → option_at rest ≡ Some b
    → value_of name n rest ≡ (if is_text b.0.name name then Some b.0.amount else value_of name m b.1)
unfolding value_of
value_turn name n m [] b e f = absurd (none_at b f)
value_turn name n m (word ∷ rest) b e f = rw (e, f) refl

pub value_ended : (name : List ℕ) (n : ℕ) (rest : List (List ℕ)) → length rest ≡ 0 → value_of name n rest ≡ None
unfolding value_of
value_ended name n [] e = refl
value_ended name n (word ∷ rest) e = absurd (grind (arith, e))

pub value_stuck : (name : List ℕ) (n m : ℕ) (rest : List (List ℕ)) → n ≡ suc m → option_at rest ≡ None → value_of name n rest ≡ None
unfolding value_of
value_stuck name n m [] e f = refl
value_stuck name n m (word ∷ rest) e f = rw (e, f) refl

pub value_spent : (name : List ℕ) (n : ℕ) (rest : List (List ℕ)) → n ≡ 0 → value_of name n rest ≡ None
unfolding value_of
value_spent name n [] e = refl
value_spent name n (word ∷ rest) e = rw e refl

pub value_found : (name : List ℕ) (n m : ℕ) (rest : List (List ℕ)) (b : Began) → n ≡ suc m → option_at rest ≡ Some b → is_text b.0.name name ≡ true
    → value_of name n rest ≡ Some b.0.amount
value_found name n m rest b e f named = value_turn name n m rest b e f ∙ ap (λ t. if t then Some b.0.amount else value_of name m b.1) named

pub value_passed : (name : List ℕ) (n m : ℕ) (rest : List (List ℕ)) (b : Began) → n ≡ suc m → option_at rest ≡ Some b → is_text b.0.name name ≡ false
    → value_of name n rest ≡ value_of name m b.1
value_passed name n m rest b e f named = value_turn name n m rest b e f ∙ ap (λ t. if t then Some b.0.amount else value_of name m b.1) named
