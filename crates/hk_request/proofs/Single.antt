-- That the words of a line are read as the grammar has them, each by itself, both ways.
use Rattle.std.proofs.Common.{◌≡◌, ℕ, ◌^◌, ◌<◌, ◌≤◌, List, [], ◌∷◌, length, Bool, true, false, Option, Some, None, refl, arith, nat_lt, nat_le}
use Rattle.std.specs.Prelude.{Result, Ok, Err, ◌==◌, ◌&&◌, not, if◌then◌else◌, nat_eq, position, is_some, codes}
use Rattle.std.specs.List.{list_all}
use Rattle.std.specs.Option.{option_map}
use Rattle.std.specs.Char.{is_ascii_digit}
use Rattle.std.specs.Str.Parse.{digits_value}
use Rattle.std.proofs.lemmas.Bool.Decides.{nat_tests}
use Rattle.hk_base.specs.Key.{IsKey}
use Rattle.hk_base.specs.KeyBytes.{is_bad_byte}
use Rattle.hk_base.specs.KeyFaults.{key_fault}
use Rattle.hk_base.specs.declared.key.KeyFault.TheVariants as key_faults
use Rattle.hk_base.specs.declared.key.TheConstants.{MAX_KEY_LEN}
use Rattle.hk_base.specs.declared.data.TheConstants.{MAX_DATA_LEN}
use Rattle.hk_request.specs.declared.request.RequestCause.{RequestCause}
use Rattle.hk_request.specs.declared.request.RequestCause.TheVariants as cause
use Rattle.hk_request.specs.Words.{is_text, number_of}
use Rattle.hk_request.specs.Fields.{◌>>=◌, key_of, number_at, number_or_fault, never, expiry_of, size_of, noreply_of}
use Rattle.hk_request.specs.Grammar.{IsNumber, small, large}

-- what a step was given, where both steps went well
pub bind_ok : {A B : Type 0} (r : Result A RequestCause) (f : A → Result B RequestCause) (y : B) → (r >>= f) ≡ Ok y → (x : A) × (r ≡ Ok x) × (f x ≡ Ok y)
bind_ok (Ok x) f y h = (x, refl, h)
bind_ok (Err e) f y h = absurd (cc)

-- the same text, the same bytes
pub text_same : (a b : List ℕ) → is_text a b ≡ true → a ≡ b
text_same [] [] h = refl
text_same [] (y ∷ ys) h = absurd (cc)
text_same (x ∷ xs) [] h = absurd (cc)
text_same (x ∷ xs) (y ∷ ys) h = both (nat_eq x y) (is_text xs ys) (λ e. grind (arith, nat_tests, e)) (λ e. text_same xs ys e) h
  where
    both : (s t : Bool) → (s ≡ true → x ≡ y) → (t ≡ true → xs ≡ ys) → (s && t) ≡ true → (x ∷ xs) ≡ (y ∷ ys)
    both true true p q h = rw (p refl, q refl) refl
    both true false p q h = absurd (cc)
    both false t p q h = absurd (cc)

-- keys
tests_pass : (z l : Bool) (n : ℕ) (p : Option ℕ) → is_some (if z then Some key_faults.Empty else (if l then Some (key_faults.TooLong n) else option_map key_faults.BadByte p)) ≡ false → (z ≡ false) × (l ≡ false) × (p ≡ None)
tests_pass true l n p h = absurd (cc)
tests_pass false true n p h = absurd (cc)
tests_pass false false n (Some x) h = absurd (cc)
tests_pass false false n None h = (refl, refl, refl)

pub is_key : (w : List ℕ) → is_some (key_fault w) ≡ false → IsKey w
is_key w h =
    let t = tests_pass (length w == 0) (nat_lt MAX_KEY_LEN (length w)) (length w) (position is_bad_byte w) h in
    let some : (length w == 0) ≡ false = t.0 in
    let short : nat_lt MAX_KEY_LEN (length w) ≡ false = t.1 in
    record { some = grind (arith, nat_tests, some); short = grind (arith, nat_tests, short); clean = t.2 }

key_passes : (w : List ℕ) → IsKey w → is_some (key_fault w) ≡ false
key_passes w k =
    let some : (length w == 0) ≡ false = (let l = k.some in grind (arith, nat_tests, l)) in
    let short : nat_lt MAX_KEY_LEN (length w) ≡ false = (let l = k.short in grind (arith, nat_tests, l)) in
    rw (some, short, k.clean) refl

chosen : {A : Type 0} (b : Bool) (e : RequestCause) (x y : A) → (if b then Err e else Ok x) ≡ Ok y → (b ≡ false) × (x ≡ y)
chosen true e x y h = absurd (cc)
chosen false e x y h = (refl, cc)

pub key_found : (w k : List ℕ) → key_of w ≡ Ok k → IsKey w × (w ≡ k)
key_found w k h = let c = chosen (is_some (key_fault w)) cause.BadKey w k h in (is_key w c.0, c.1)

pub key_read : (w : List ℕ) → IsKey w → key_of w ≡ Ok w
key_read w k = rw (key_passes w k) refl

-- numbers
digits_pass : (z l d s m : Bool) (v n : ℕ) → (if z then None else (if l then None else (if not d then None else (if s then (if m then Some v else None) else None)))) ≡ Some n → (z ≡ false) × (l ≡ false) × (d ≡ true) × (m ≡ true) × (v ≡ n)
digits_pass true l d s m v n h = absurd (cc)
digits_pass false true d s m v n h = absurd (cc)
digits_pass false false false s m v n h = absurd (cc)
digits_pass false false true false m v n h = absurd (cc)
digits_pass false false true true false v n h = absurd (cc)
digits_pass false false true true true v n h = (refl, refl, refl, refl, cc)

number_found_in : (limit : ℕ) (w : List ℕ) (n : ℕ) → number_of limit w ≡ Some n → IsNumber limit w n
unfolding number_of
number_found_in limit w n h =
    let t = digits_pass (length w == 0) (nat_lt 20 (length w)) (list_all is_ascii_digit w) (nat_lt (digits_value 10 w) (2 ^ 64)) (nat_le (digits_value 10 w) limit) (digits_value 10 w) n h in
    let some : (length w == 0) ≡ false = t.0 in
    let few : nat_lt 20 (length w) ≡ false = t.1 in
    let within : nat_le (digits_value 10 w) limit ≡ true = t.3 in
    let value : digits_value 10 w ≡ n = t.4 in
    let below : digits_value 10 w ≤ limit = grind (arith, nat_tests, within) in
    record { some = grind (arith, nat_tests, some); few = grind (arith, nat_tests, few); digits = t.2; value = value; within = rw value at below }

number_read_in : (limit : ℕ) (w : List ℕ) (n : ℕ) → limit < 2 ^ 64 → IsNumber limit w n → number_of limit w ≡ Some n
unfolding number_of
number_read_in limit w n l k =
    let some : (length w == 0) ≡ false = (let a = k.some in grind (arith, nat_tests, a)) in
    let few : nat_lt 20 (length w) ≡ false = (let a = k.few in grind (arith, nat_tests, a)) in
    let within : nat_le n limit ≡ true = (let a = k.within in grind (arith, nat_tests, a)) in
    let below : nat_lt n (2 ^ 64) ≡ true = (let a = k.within in grind (arith, nat_tests, a, l)) in
    rw (some, few, k.digits, k.value, below, within) refl

number_given : (place : ℕ) (o : Option ℕ) (n : ℕ) → number_or_fault place o ≡ Ok n → o ≡ Some n
number_given place None n h = absurd (cc)
number_given place (Some m) n h = cc

pub number_found : (place limit : ℕ) (w : List ℕ) (n : ℕ) → number_at place limit w ≡ Ok n → IsNumber limit w n
number_found place limit w n h = number_found_in limit w n (number_given place (number_of limit w) n h)

pub number_read : (place limit : ℕ) (w : List ℕ) (n : ℕ) → limit < 2 ^ 64 → IsNumber limit w n → number_at place limit w ≡ Ok n
number_read place limit w n l k = rw (number_read_in limit w n l k) refl

-- the time of expiry
never_zero : (n : ℕ) (x : Unit {0}) → never n ≡ Ok x → n ≡ 0
never_zero n x h = at_test (n == 0) (λ e. grind (arith, nat_tests, e)) h
  where
    at_test : (t : Bool) → (t ≡ true → n ≡ 0) → (if t then Ok tt else Err cause.Expiry) ≡ Ok x → n ≡ 0
    at_test true p h = p refl
    at_test false p h = absurd (cc)

pub expiry_found : (w : List ℕ) (x : Unit {0}) → expiry_of w ≡ Ok x → IsNumber large w 0
unfolding expiry_of
expiry_found [] x h =
    let b = bind_ok (number_at 4 large []) never x h in
    rw (never_zero b.0 x b.2) at (number_found 4 large [] b.0 b.1)
expiry_found (c ∷ cs) x h = at_sign (c == 45) h
  where
    at_sign : (t : Bool) → (if t then (number_at 4 large cs >>= λ n. Err cause.Expiry) else (number_at 4 large (c ∷ cs) >>= never)) ≡ Ok x → IsNumber large (c ∷ cs) 0
    at_sign true h = let b = bind_ok (number_at 4 large cs) (λ n. Err cause.Expiry) x h in absurd (let e : Err cause.Expiry ≡ Ok x = b.2 in cc)
    at_sign false h =
        let b = bind_ok (number_at 4 large (c ∷ cs)) never x h in
        rw (never_zero b.0 x b.2) at (number_found 4 large (c ∷ cs) b.0 b.1)

first_digit : (c : ℕ) (cs : List ℕ) → list_all is_ascii_digit (c ∷ cs) ≡ true → (c == 45) ≡ false
first_digit c cs h = at_tests (is_ascii_digit c) (list_all is_ascii_digit cs) (λ e. grind (arith, nat_tests, e)) h
  where
    at_tests : (d r : Bool) → (d ≡ true → (c == 45) ≡ false) → (d && r) ≡ true → (c == 45) ≡ false
    at_tests true r p h = p refl
    at_tests false r p h = absurd (cc)

pub expiry_read : (w : List ℕ) → IsNumber large w 0 → expiry_of w ≡ Ok tt
unfolding expiry_of
expiry_read [] k = absurd (let a = k.some in grind (arith, a))
expiry_read (c ∷ cs) k = rw (first_digit c cs k.digits, number_read 4 large (c ∷ cs) 0 (omega arith) k) refl

-- how long the data is
pub size_found : (w : List ℕ) (n : ℕ) → size_of w ≡ Ok n → IsNumber small w n × (n ≤ MAX_DATA_LEN)
unfolding size_of
size_found w n h =
    let b = bind_ok (number_at 5 small w) (λ n. if nat_lt MAX_DATA_LEN n then Err (cause.TooLarge n) else Ok n) n h in
    let c = chosen (nat_lt MAX_DATA_LEN b.0) (cause.TooLarge b.0) b.0 n b.2 in
    let t : nat_lt MAX_DATA_LEN b.0 ≡ false = c.0 in
    let s : b.0 ≤ MAX_DATA_LEN = grind (arith, nat_tests, t) in
    (rw c.1 at (number_found 5 small w b.0 b.1), rw c.1 at s)

pub size_read : (w : List ℕ) (n : ℕ) → IsNumber small w n → n ≤ MAX_DATA_LEN → size_of w ≡ Ok n
unfolding size_of
size_read w n k l =
    let t : nat_lt MAX_DATA_LEN n ≡ false = grind (arith, nat_tests, l) in
    rw (number_read 5 small w n (omega arith) k, t) refl

-- the last word
pub noreply_found : (w : List ℕ) (b : Bool) → noreply_of w ≡ Ok b → (w ≡ codes "noreply") × (b ≡ true)
noreply_found w b h = at_test (is_text w (codes "noreply")) (λ e. text_same w (codes "noreply") e) h
  where
    at_test : (t : Bool) → (t ≡ true → w ≡ codes "noreply") → (if t then Ok true else Err cause.WrongCount) ≡ Ok b → (w ≡ codes "noreply") × (b ≡ true)
    at_test true p h = (p refl, cc)
    at_test false p h = absurd (cc)
