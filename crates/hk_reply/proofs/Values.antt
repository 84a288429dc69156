-- That numbers, values and lists of values are read exactly, by their texts.
use Rattle.std.proofs.Common.{◌≡◌, ℕ, zero, suc, ◌+◌, ◌-◌, ◌*◌, ◌/◌, ◌%◌, ◌^◌, ◌<◌, ◌≤◌, List, [], ◌∷◌, ◌++◌, length, true, refl, ap, ◌∙◌, sym, arith, append_assoc, append-nil}
use Rattle.std.specs.Prelude.{decimal}
use Rattle.std.specs.Char.{is_ascii_digit}
use Rattle.std.proofs.lemmas.Bool.Decides.{nat_tests}
use Rattle.std.proofs.lemmas.Fmt.{decimal_step, decimal_digit, decimal_by_steps}
use Rattle.hk_reply.specs.declared.scan.Tail.{Tail}
use Rattle.hk_reply.specs.Scans.{ends_at, number_at, key_from, data_at}
use Rattle.hk_reply.proofs.Simple.{IsKeyText, IsLong, data_exact}
use Rattle.hk_reply.proofs.Keys.{key_exact, key_goes}
use Rattle.hk_reply.proofs.Numbers.{Goes, IsDigits, number_exact, end_of, end_of_ends}
use Rattle.hk_reply.proofs.Joining.{IsReader, same_language}

-- digits are the decimal text of what they make
tenth : (v k : ℕ) → k < 10 → (v * 10 + k) / 10 ≡ v
tenth v k l = omega (arith, l)

unit : (v k : ℕ) → k < 10 → (v * 10 + k) % 10 ≡ k
unit v k l = omega (arith, l)

digit_of : (d : ℕ) → is_ascii_digit d ≡ true → (48 ≤ d) × (d - 48 < 10)
digit_of d h = (grind (arith, nat_tests, h), grind (arith, nat_tests, h))

goes_up : (v : ℕ) (ds : List ℕ) (n : ℕ) → Goes v ds n → v ≤ n
goes_up v [] n g = rw g (omega arith)
goes_up v (d ∷ ds) n g = let l = goes_up (v * 10 + (d - 48)) ds n g.2 in omega (arith, l)

goes_text : (v : ℕ) (ds : List ℕ) (n : ℕ) → n < 2 ^ 64 → Goes v ds n → decimal n ≡ decimal v ++ ds
goes_text v [] n l g = rw g (sym (append-nil (decimal v)))
goes_text v (d ∷ ds) n l g =
    let k = digit_of d g.0 in
    let k0 = k.0 in
    let k1 = k.1 in
    let z = g.1 in
    let up = goes_up (v * 10 + (d - 48)) ds n g.2 in
    let step = decimal_step (v * 10 + (d - 48)) (omega (arith, z)) (omega (arith, l, up)) in
    let last : 48 + (v * 10 + (d - 48)) % 10 ≡ d = (let u = unit v (d - 48) k1 in omega (arith, u, k0)) in
    let made : decimal (v * 10 + (d - 48)) ≡ decimal v ++ d ∷ [] = step ∙ ap (λ x. decimal x ++ (48 + (v * 10 + (d - 48)) % 10) ∷ []) (tenth v (d - 48) k1) ∙ ap (λ x. decimal v ++ x ∷ []) last in
    goes_text (v * 10 + (d - 48)) ds n l g.2 ∙ ap (λ x. x ++ ds) made ∙ append_assoc (decimal v) (d ∷ []) ds

pub record HasDigits (n : ℕ) (text : List ℕ) : Type 0 where
  pub first : ℕ
  pub others : List ℕ
  pub is : text ≡ first ∷ others
  pub digit : is_ascii_digit first ≡ true
  pub goes : Goes (first - 48) others n

goes_snoc : (v : ℕ) (ds : List ℕ) (m k : ℕ) → 0 < m → k < 10 → Goes v ds m → Goes v (ds ++ (48 + k) ∷ []) (m * 10 + k)
goes_snoc v [] m k z l g = let e : 48 + k - 48 ≡ k = omega arith in let d : is_ascii_digit (48 + k) ≡ true = grind (arith, nat_tests, l) in (d, rw (sym g) z, rw (e, sym g) refl)
goes_snoc v (d ∷ ds) m k z l g = (g.0, g.1, goes_snoc (v * 10 + (d - 48)) ds m k z l g.2)

pub has_digits : (n : ℕ) → n < 2 ^ 64 → HasDigits n (decimal n)
has_digits n l = decimal_by_steps HasDigits (λ n l. one n l) (λ n ds l p. more n ds l p) n l
  where
    one : (n : ℕ) → n < 10 → HasDigits n ((48 + n) ∷ [])
    one n l = record { first = 48 + n; others = []; is = refl; digit = grind (arith, nat_tests, l); goes = omega arith }

    more : (n : ℕ) (ds : List ℕ) → 10 ≤ n → HasDigits (n / 10) ds → HasDigits n (ds ++ (48 + n % 10) ∷ [])
    more n ds l p =
        let e : n / 10 * 10 + n % 10 ≡ n = omega arith in
        let z : 0 < n / 10 = omega (arith, l) in
        record { first = p.first; others = p.others ++ (48 + n % 10) ∷ []; is = ap (λ x. x ++ (48 + n % 10) ∷ []) p.is; digit = p.digit; goes = rw e at (goes_snoc (p.first - 48) p.others (n / 10) (n % 10) z (omega arith) p.goes) }

-- a number by its text, and the byte behind it
pub record IsNumber (limit : ℕ) (tail : Tail) (x : ℕ × ℕ) (text : List ℕ) : Type 0 where
  pub is : text ≡ decimal x.0 ++ x.1 ∷ []
  pub within : x.0 ≤ limit
  pub ends : ends_at tail x.1 ≡ true

is_number : (limit : ℕ) (tail : Tail) → limit < 2 ^ 64 → (x : ℕ × ℕ) (text : List ℕ) → IsDigits limit tail x text → IsNumber limit tail x text
is_number limit tail l x text q =
    let w = q.rest.within in
    let k = digit_of q.first q.digit in
    let k0 = k.0 in
    let t = goes_text (q.first - 48) q.rest.digits x.0 (omega (arith, w, l)) q.rest.goes in
    let d : decimal (q.first - 48) ≡ q.first ∷ [] = decimal_digit (q.first - 48) k.1 ∙ ap (λ z. z ∷ []) (omega (arith, k0)) in
    record { is = q.is ∙ ap (λ z. q.first ∷ z) q.rest.is ∙ ap (λ z. z ++ x.1 ∷ []) (sym (t ∙ ap (λ z. z ++ q.rest.digits) d)); within = w; ends = q.rest.ends }

are_digits : (limit : ℕ) (tail : Tail) → limit < 2 ^ 64 → (x : ℕ × ℕ) (text : List ℕ) → IsNumber limit tail x text → IsDigits limit tail x text
are_digits limit tail l x text q =
    let w = q.within in
    let h = has_digits x.0 (omega (arith, w, l)) in
    record { first = h.first; others = h.others ++ x.1 ∷ []; is = q.is ∙ ap (λ z. z ++ x.1 ∷ []) h.is; digit = h.digit; rest = record { digits = h.others; is = refl; goes = h.goes; within = w; ends = q.ends } }

pub number_read : (limit : ℕ) (tail : Tail) → 9 ≤ limit → limit < 2 ^ 64 → IsReader (IsNumber limit tail) (number_at limit tail)
number_read limit tail l m = record { exact = digits.exact; lives = digits.lives }
  where
    digits : IsReader (IsNumber limit tail) (number_at limit tail)
    digits = same_language (IsDigits limit tail) (IsNumber limit tail) (number_at limit tail) (is_number limit tail m) (are_digits limit tail m) (record { exact = number_exact limit tail l; lives = ((0, end_of tail), 48 ∷ end_of tail ∷ [], record { first = 48; others = end_of tail ∷ []; is = refl; digit = refl; rest = record { digits = []; is = refl; goes = refl; within = omega arith; ends = end_of_ends tail } }) })

pub key_read : IsReader (IsKeyText 0) (key_from 0)
key_read = record { exact = key_exact; lives = key_goes 0 (omega arith) }

pub data_read : (len : ℕ) → IsReader (IsLong len) (data_at len)
data_read len = record { exact = data_exact len; lives = (let g = data_lives len in (g.0, g.0, (refl, g.1))) }
  where
    data_lives : (len : ℕ) → (d : List ℕ) × (length d ≡ len)
    data_lives zero = ([], refl)
    data_lives (suc n) = let g = data_lives n in (0 ∷ g.0, ap suc g.1)
