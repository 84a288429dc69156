-- Options in some order, and what is looked up in them.
use Rattle.std.proofs.Common.{◌≡◌, ℕ, zero, suc, ◌+◌, ◌<◌, ◌≤◌, ◌^◌, List, [], ◌∷◌, ◌++◌, length, Bool, true, false, if◌then◌else◌, Option, Some, None, inl, inr, refl, sym, ap, subst, ◌∙◌, arith, length-append}
use Rattle.std.specs.Bool.{⊤}
use Rattle.std.specs.Option.{option_map}
use Rattle.std.specs.List.{AllByRecursion}
use Rattle.std.proofs.lemmas.Slice.Eq.{bytes_eq-Decides}
use Rattle.hk_cli.specs.Words.{Given, option, BeginsWith, AreOptions, IsOrderOf}
use Rattle.hk_cli.specs.Options.{Began, option_at, option_count, value_of}
use Rattle.hk_script.specs.Parts.{is_text}
use Rattle.hk_script.proofs.Choices.{bind_some, map_some, some_same, no_some, text_is}
use Rattle.hk_cli.proofs.Given.{NoEquals, option_takes, option_again}

-- ---- the first option of a name
abbrev pub first_of : List ℕ → List Given → Option ℕ
first_of name [] = None
first_of name (g ∷ given) = if is_text g.name name then Some g.amount else first_of name given

-- ---- all of some order
front_all : {A : Type 0} (P : A → Type 0) (x : A) (front back : List A) → P x → AllByRecursion P (front ++ back) → AllByRecursion P (front ++ x ∷ back)
front_all P x [] back p all = (p, all)
front_all P x (y ∷ front) back p all = (all.0, front_all P x front back p all.1)

pub order_all : {A : Type 0} (P : A → Type 0) (xs order : List A) → IsOrderOf xs order → AllByRecursion P xs → AllByRecursion P order
order_all P [] order is all = subst (AllByRecursion P) (sym is) tt
order_all P (x ∷ xs) order is all = subst (AllByRecursion P) (sym is.2) (front_all P x is.0 is.1 all.0 (order_all P xs (is.0 ++ is.1) is.3 all.1))

-- ---- names that differ
abbrev pub IsOther : Given → Given → Type 0
IsOther g h = is_text h.name g.name ≡ false

abbrev pub AreApart : List Given → Type 0
AreApart [] = ⊤
AreApart (g ∷ given) = AllByRecursion (λ h. (is_text h.name g.name ≡ false) × (is_text g.name h.name ≡ false)) given × AreApart given

first_other : (name : List ℕ) (x : Given) (front back : List Given) → is_text x.name name ≡ false → first_of name (front ++ x ∷ back) ≡ first_of name (front ++ back)
first_other name x [] back e = rw e refl
first_other name x (y ∷ front) back e = ap (λ o. if is_text y.name name then Some y.amount else o) (first_other name x front back e)

first_here : (x : Given) (front back : List Given) → is_text x.name x.name ≡ true → AllByRecursion (λ h. is_text h.name x.name ≡ false) (front ++ back) → first_of x.name (front ++ x ∷ back) ≡ Some x.amount
first_here x [] back same all = rw same refl
first_here x (y ∷ front) back same all = rw all.0 (first_here x front back same all.1)

pub same_text : (text : List ℕ) → is_text text text ≡ true
same_text text = (bytes_eq-Decides text text).1 refl

-- each of some options is found under its name
abbrev pub AreFound : List Given → List Given → Type 0
AreFound wanted given = AllByRecursion (λ w. first_of w.name given ≡ Some w.amount) wanted

found_behind : (x : Given) (front back wanted : List Given) → AllByRecursion (λ h. (is_text h.name x.name ≡ false) × (is_text x.name h.name ≡ false)) wanted
    → AreFound wanted (front ++ back) → AreFound wanted (front ++ x ∷ back)
found_behind x front back [] apart all = tt
found_behind x front back (w ∷ wanted) apart all =
    (first_other w.name x front back apart.0.1 ∙ all.0, found_behind x front back wanted apart.1 all.1)

all_left : (x : Given) (xs : List Given) → AllByRecursion (λ h. (is_text h.name x.name ≡ false) × (is_text x.name h.name ≡ false)) xs → AllByRecursion (λ h. is_text h.name x.name ≡ false) xs
all_left x [] all = tt
all_left x (y ∷ xs) all = (all.0.0, all_left x xs all.1)

pub order_found : (wanted given : List Given) → AreApart wanted → IsOrderOf wanted given → AreFound wanted given
order_found [] given apart is = tt
order_found (w ∷ wanted) given apart is =
    subst (AreFound (w ∷ wanted)) (sym is.2) (
      first_here w is.0 is.1 (same_text w.name) (order_all (λ h. is_text h.name w.name ≡ false) wanted (is.0 ++ is.1) is.3 (all_left w wanted apart.0)),
      found_behind w is.0 is.1 wanted apart.0 (order_found wanted (is.0 ++ is.1) apart.1 is.3),
    )

pub order_length : {A : Type 0} (xs order : List A) → IsOrderOf xs order → length order ≡ length xs
order_length [] order is = ap (λ (l : List _). length l) is
order_length (x ∷ xs) order is =
    let ih = order_length xs (is.0 ++ is.1) is.3 in
    let a = length-append is.0 is.1 in
    let b = length-append is.0 (x ∷ is.1) in
    ap (λ l. length l) is.2 ∙ omega (arith, ih, a, b)

-- ---- and back
-- an option that stands in a list, between others
pub record Placed (x : Given) (given : List Given) : Type 0 where
  pub front : List Given
  pub back : List Given
  pub is : given ≡ front ++ x ∷ back

placed_in : (b : Bool) (name : List ℕ) (amount : ℕ) (g : Given) (given : List Given) → is_text g.name name ≡ b
    → first_of name (g ∷ given) ≡ Some amount → (first_of name given ≡ Some amount → Placed (option name amount) given) → Placed (option name amount) (g ∷ given)
placed_in true name amount g given e found rest =
    let is : g.name ≡ name = text_is g.name name e in
    let value : g.amount ≡ amount = some_same g.amount amount (sym (ap (λ t. if t then Some g.amount else first_of name given) e) ∙ found) in
    record { front = []; back = given; is = rw (← is, ← value) refl }
placed_in false name amount g given e found rest =
    let p = rest (sym (ap (λ t. if t then Some g.amount else first_of name given) e) ∙ found) in
    record { front = g ∷ p.front; back = p.back; is = ap (λ l. g ∷ l) p.is }

place_of : (name : List ℕ) (amount : ℕ) (given : List Given) → first_of name given ≡ Some amount → Placed (option name amount) given
place_of name amount [] e = absurd (no_some amount e)
place_of name amount (g ∷ given) e = placed_in (is_text g.name name) name amount g given refl e (place_of name amount given)

found_without : (x : Given) (front back wanted : List Given) → AllByRecursion (λ h. (is_text h.name x.name ≡ false) × (is_text x.name h.name ≡ false)) wanted
    → AreFound wanted (front ++ x ∷ back) → AreFound wanted (front ++ back)
found_without x front back [] apart all = tt
found_without x front back (w ∷ wanted) apart all =
    (sym (first_other w.name x front back apart.0.1) ∙ all.0, found_without x front back wanted apart.1 all.1)

pub found_order : (wanted given : List Given) → AreApart wanted → length given ≡ length wanted → AreFound wanted given → IsOrderOf wanted given
found_order [] [] apart e found = refl
found_order [] (g ∷ given) apart e found = absurd (grind (arith, e))
found_order (w ∷ wanted) given apart e found =
    let p = place_of w.name w.amount given found.0 in
    let a = length-append p.front p.back in
    let b = length-append p.front (w ∷ p.back) in
    let c : length given ≡ length (p.front ++ w ∷ p.back) = ap (λ l. length l) p.is in
    let few : length (p.front ++ p.back) ≡ length wanted = omega (arith, a, b, c, e) in
    (p.front, p.back, p.is, found_order wanted (p.front ++ p.back) apart.1 few (found_without w p.front p.back wanted apart.0 (subst (λ l. AreFound wanted l) p.is found.1)))

-- ---- words that are options
-- the options that words are, as they are counted and looked up
pub record AreRead (words : List (List ℕ)) (n k : ℕ) : Type 0 where
  pub given : List Given
  pub are : AreOptions given words
  pub many : length given ≡ k
  pub small : AllByRecursion (λ g. g.amount < 2 ^ 64) given
  pub values : (name : List ℕ) → value_of name n words ≡ first_of name given

none_at : (b : Began) → ◌≡◌ {A = Option Began} (option_at []) (Some b) → ⊥
unfolding option_at
none_at b e = no_some b e

none_found : (n : ℕ) (name : List ℕ) → value_of name n [] ≡ None
unfolding value_of
none_found n name = refl

none_counted : (n : ℕ) → option_count n [] ≡ Some 0
unfolding option_count
none_counted n = refl

value_next : (n : ℕ) (words : List (List ℕ)) (b : Began) (name : List ℕ) → option_at words ≡ Some b
    → value_of name (suc n) words ≡ (if is_text b.0.name name then Some b.0.amount else value_of name n b.1)
unfolding value_of
value_next n [] b name e = absurd (none_at b e)
value_next n (word ∷ rest) b name e = rw e refl

pub are_read : (n : ℕ) (words : List (List ℕ)) (k : ℕ) → option_count n words ≡ Some k → AreRead words n k
unfolding option_count
are_read n [] k e = record { given = []; are = refl; many = some_same 0 k e; small = tt; values = none_found n }
are_read zero (word ∷ rest) k e = absurd (no_some k e)
are_read (suc n) (word ∷ rest) k e =
    let b = bind_some (option_at (word ∷ rest)) (λ b. option_map (λ m. 1 + m) (option_count n b.1)) k e in
    let m = map_some (option_count n b.0.1) (λ m. 1 + m) k b.2 in
    let took = option_takes (word ∷ rest) b.0 b.1 in
    let ih = are_read n b.0.1 m.0 m.1 in
    record {
      given = b.0.0 ∷ ih.given;
      are = (b.0.1, took.0, ih.are);
      many = (let i = ih.many in let j = m.2 in omega (arith, i, j));
      small = (took.1, ih.small);
      values = λ name. value_next n (word ∷ rest) b.0 name b.1 ∙ ap (λ o. if is_text b.0.0.name name then Some b.0.0.amount else o) (ih.values name);
    }

abbrev pub IsNamed : Given → Type 0
IsNamed g = NoEquals g.name × (g.amount < 2 ^ 64)

rest_shorter : (g : Given) (words rest : List (List ℕ)) → BeginsWith g words rest → length rest < length words
rest_shorter g words rest (inl e) = rw e (omega arith)
rest_shorter g words rest (inr e) = rw e (omega arith)

pub record AreAgain (words : List (List ℕ)) (n : ℕ) (given : List Given) : Type 0 where
  pub counted : option_count n words ≡ Some (length given)
  pub values : (name : List ℕ) → value_of name n words ≡ first_of name given

count_next : (n : ℕ) (words : List (List ℕ)) (b : Began) → option_at words ≡ Some b → option_count (suc n) words ≡ option_map (λ m. 1 + m) (option_count n b.1)
unfolding option_count
count_next n [] b e = absurd (none_at b e)
count_next n (word ∷ rest) b e = rw e refl

pub are_again : (n : ℕ) (given : List Given) (words : List (List ℕ)) → length words ≤ n → AllByRecursion IsNamed given → AreOptions given words → AreAgain words n given
are_again n [] words le all are = rw are (record { counted = none_counted n; values = none_found n })
are_again zero (g ∷ given) words le all are = absurd (let s = rest_shorter g words are.0 are.1 in omega (arith, s, le))
are_again (suc n) (g ∷ given) words le all are =
    let at = option_again g words are.0 all.0.0 all.0.1 are.1 in
    let s = rest_shorter g words are.0 are.1 in
    let ih = are_again n given are.0 (omega (arith, s, le)) all.1 are.2 in
    record {
      counted = count_next n words (g, are.0) at ∙ ap (λ o. option_map (λ m. 1 + m) o) ih.counted ∙ ap (λ k. Some k) (omega arith);
      values = λ name. value_next n words (g, are.0) name at ∙ ap (λ o. if is_text g.name name then Some g.amount else o) (ih.values name);
    }
