-- An option that words begin with: what is read stands there, and what stands there is read.
use Rattle.std.proofs.Common.{◌≡◌, ℕ, suc, ◌+◌, ◌<◌, ◌^◌, List, [], ◌∷◌, ◌++◌, length, take, drop, get_or, position, inl, inr, Bool, true, false, cond, nat_lt, Option, Some, None, ◌==◌, codes, decimal, refl, sym, ap, ◌∙◌, arith}
use Rattle.std.specs.Option.{option_map}
use Rattle.std.specs.List.{position_or_len}
use Rattle.std.proofs.lemmas.List.Quantifiers.{position-Some}
use Rattle.std.proofs.lemmas.List.{take-append-drop, drop_more}
use Rattle.std.proofs.lemmas.Bool.{cases_lt}
use Rattle.std.proofs.lemmas.Bool.Decides.{nat_tests}
use Rattle.hk_cli.specs.Words.{Given, option, BeginsWith}
use Rattle.hk_cli.specs.Options.{Began, is_equals, undashed, valued, named_at, option_at}
use Rattle.hk_script.specs.Parts.{number_64}
use Rattle.hk_script.proofs.Choices.{held, bind_some, some_same, no_some}
use Rattle.hk_script.proofs.Spelling.{number_takes, number_again}

abbrev pub NoEquals : List ℕ → Type 0
NoEquals name = position is_equals name ≡ None

-- ---- places of `=`
at_first : (x : ℕ) (xs : List ℕ) → is_equals x ≡ true → position is_equals (x ∷ xs) ≡ Some 0
at_first x xs e = rw e (let t : nat_lt 0 (suc (length xs)) ≡ true = grind (arith, nat_tests) in rw t refl)

abbrev later : Option ℕ → Option ℕ
later o = option_map (λ n. 1 + n) o

less_same : (a b : ℕ) → nat_lt (1 + a) (suc b) ≡ nat_lt a b
less_same a b = elim (cases_lt a b) [
  | inl lt ↦ (let x : nat_lt (1 + a) (suc b) ≡ true = grind (arith, nat_tests) in let y : nat_lt a b ≡ true = grind (arith, nat_tests) in x ∙ sym y)
  | inr ge ↦ (let x : nat_lt (1 + a) (suc b) ≡ false = grind (arith, nat_tests) in let y : nat_lt a b ≡ false = grind (arith, nat_tests) in x ∙ sym y)
]

later_in : (b : Bool) (n : ℕ) → cond b (Some (1 + n)) None ≡ later (cond b (Some n) None)
later_in true n = refl
later_in false n = refl

at_later : (x : ℕ) (xs : List ℕ) → is_equals x ≡ false → position is_equals (x ∷ xs) ≡ later (position is_equals xs)
at_later x xs e = rw e (rw (less_same (position_or_len is_equals xs) (length xs)) (later_in (nat_lt (position_or_len is_equals xs) (length xs)) (position_or_len is_equals xs)))

later_none : (o : Option ℕ) → later o ≡ None → o ≡ None
later_none None e = refl
later_none (Some n) e = absurd (no_some (1 + n) (sym e))

none_tail : (b : Bool) (x : ℕ) (xs : List ℕ) → is_equals x ≡ b → NoEquals (x ∷ xs) → (is_equals x ≡ false) × NoEquals xs
none_tail true x xs e none = absurd (no_some 0 (sym none ∙ at_first x xs e))
none_tail false x xs e none = (e, later_none (position is_equals xs) (sym (at_later x xs e) ∙ none))

equals_behind : (name digits : List ℕ) → NoEquals name → position is_equals (name ++ 61 ∷ digits) ≡ Some (length name)
equals_behind [] digits none = at_first 61 digits refl
equals_behind (x ∷ name) digits none =
    let tail = none_tail (is_equals x) x name refl none in
    at_later x (name ++ 61 ∷ digits) tail.0 ∙ ap later (equals_behind name digits tail.1) ∙ ap (λ n. Some n) (omega arith)

parted : (name : List ℕ) (at : ℕ) → position is_equals name ≡ Some at → name ≡ take at name ++ 61 ∷ drop (at + 1) name
parted name at e =
    let found = position-Some is_equals name at 0 e in
    let is : get_or name at 0 ≡ 61 = (let t = found.1 in grind (arith, nat_tests, t)) in
    sym (take-append-drop at name) ∙ ap (λ l. take at name ++ l) (drop_more name at 0 found.0 ∙ ap (λ b. b ∷ drop (at + 1) name) is)

front_is : (name digits : List ℕ) → take (length name) (name ++ 61 ∷ digits) ≡ name
front_is [] digits = refl
front_is (x ∷ name) digits = ap (λ l. x ∷ l) (front_is name digits)

suc_one : (n : ℕ) → suc n + 1 ≡ suc (n + 1)
suc_one n = omega arith

back_is : (name digits : List ℕ) → drop (length name + 1) (name ++ 61 ∷ digits) ≡ digits
back_is [] digits = refl
back_is (x ∷ name) digits = ap (λ n. drop n (x ∷ (name ++ 61 ∷ digits))) (suc_one (length name)) ∙ back_is name digits

-- ---- what is read
undashed_takes : (word name : List ℕ) → undashed word ≡ Some name → word ≡ codes "--" ++ name
unfolding undashed
undashed_takes (a ∷ b ∷ rest) name e =
    let p = held (a == 45) _ name e in
    let q = held (b == 45) _ name p.1 in
    let first : a ≡ 45 = (let t = p.0 in grind (arith, nat_tests, t)) in
    let second : b ≡ 45 = (let t = q.0 in grind (arith, nat_tests, t)) in
    let same : rest ≡ name = some_same rest name q.1 in
    rw (first, second, same) refl
undashed_takes (a ∷ []) name e = absurd (no_some name e)
undashed_takes [] name e = absurd (no_some name e)

valued_takes : (name digits : List ℕ) (rest : List (List ℕ)) (b : Began) → valued name rest (number_64 digits) ≡ Some b
    → (b.0.amount < 2 ^ 64) × (name ≡ b.0.name) × (digits ≡ decimal b.0.amount) × (rest ≡ b.1)
valued_takes name digits rest b e = at (number_64 digits) refl e
  where
    at : (o : Option ℕ) → number_64 digits ≡ o → valued name rest o ≡ Some b → (b.0.amount < 2 ^ 64) × (name ≡ b.0.name) × (digits ≡ decimal b.0.amount) × (rest ≡ b.1)
    at None is got = absurd (no_some b got)
    at (Some n) is got =
        let same = some_same (option name n, rest) b got in
        let took = number_takes 18446744073709551615 digits n is in
        let amount : n ≡ b.0.amount = ap (λ (r : Began). r.0.amount) same in
        ((let k = took.0 in omega (arith, k, amount)), ap (λ (r : Began). r.0.name) same, took.1 ∙ ap decimal amount, ap (λ (r : Began). r.1) same)

abbrev Found : List (List ℕ) → Began → Type 0
Found words b = BeginsWith b.0 words b.1 × (b.0.amount < 2 ^ 64)

named_takes : (word name : List ℕ) (rest : List (List ℕ)) (o : Option ℕ) (b : Began) → word ≡ codes "--" ++ name → position is_equals name ≡ o → named_at name o rest ≡ Some b → Found (word ∷ rest) b
unfolding named_at
named_takes word name rest (Some at) b e is got =
    let v = valued_takes (take at name) (drop (at + 1) name) rest b got in
    let spelled : name ≡ b.0.name ++ 61 ∷ decimal b.0.amount = parted name at is ∙ ap (λ l. l ++ 61 ∷ drop (at + 1) name) v.1 ∙ ap (λ l. b.0.name ++ 61 ∷ l) v.2 in
    (inr (rw (e, spelled, v.3) refl), v.0)
named_takes word name [] None b e is got = absurd (no_some b got)
named_takes word name (digits ∷ rest) None b e is got =
    let v = valued_takes name digits rest b got in
    (inl (rw (e, v.1, v.2, v.3) refl), v.0)

pub option_takes : (words : List (List ℕ)) (b : Began) → option_at words ≡ Some b → Found words b
unfolding option_at
option_takes [] b e = absurd (no_some b e)
option_takes (word ∷ rest) b e =
    let name = bind_some (undashed word) (λ name. named_at name (position is_equals name) rest) b e in
    named_takes word name.0 rest (position is_equals name.0) b (undashed_takes word name.0 name.1) refl name.2

-- ---- and again
number_read : (n : ℕ) → n < 2 ^ 64 → number_64 (decimal n) ≡ Some n
number_read n lt = number_again 18446744073709551615 n (omega arith) (omega arith)

joined_again : (g : Given) (rest : List (List ℕ)) → NoEquals g.name → g.amount < 2 ^ 64 → option_at ((codes "--" ++ (g.name ++ (codes "=" ++ decimal g.amount))) ∷ rest) ≡ Some (g, rest)
unfolding option_at undashed named_at
joined_again g rest none lt = rw (equals_behind g.name (decimal g.amount) none) (rw (front_is g.name (decimal g.amount), back_is g.name (decimal g.amount), number_read g.amount lt) refl)

two_again : (g : Given) (rest : List (List ℕ)) → NoEquals g.name → g.amount < 2 ^ 64 → option_at ((codes "--" ++ g.name) ∷ decimal g.amount ∷ rest) ≡ Some (g, rest)
unfolding option_at undashed named_at
two_again g rest none lt = rw (none, number_read g.amount lt) refl

pub option_again : (g : Given) (words rest : List (List ℕ)) → NoEquals g.name → g.amount < 2 ^ 64 → BeginsWith g words rest → option_at words ≡ Some (g, rest)
option_again g words rest none lt (inl e) = ap option_at e ∙ two_again g rest none lt
option_again g words rest none lt (inr e) = ap option_at e ∙ joined_again g rest none lt
