-- What a right record is: a record's bytes behind a check.
use Rattle.std.proofs.Common.{true≢false, ◌≡◌, ℕ, ◌+◌, ◌≤◌, Bool, true, false, cond, ltb, List, ◌++◌, length, take, drop, refl, sym, ap, subst, ◌∙◌, append_assoc, arith}
use Rattle.std.specs.Prelude.{bytes_eq}
use Rattle.std.specs.Int.{w32, to_be_bytes}
use Rattle.std.proofs.lemmas.Bool.{ltb-false, le-ltb}
use Rattle.std.proofs.lemmas.List.{take_at, drop_at, take-append-drop, length-append, length-take, length-take-le, length-drop, drop-drop}
use Rattle.std.proofs.lemmas.Slice.Eq.{bytes_eq-Decides}
use Rattle.sha2.proofs.Facts256.{length-sha256}
use Rattle.sha2.specs.Sha256.{sha256}
use Rattle.hk_fields.proofs.Exact.{IsBytes, IsBytes-take, wide32}
use Rattle.hk_log.specs.declared.checks.TheConstants.{MAX_BODY_LEN}
use Rattle.hk_log.specs.Records.{check_of, framed}
use Rattle.hk_log.specs.Logs.{told_length, stands}

pub length_check : (before body : List ℕ) → length (check_of before body) ≡ 8
length_check before body = length-take-le 8 (sha256 (before ++ body)) (omega (arith, length-sha256 (before ++ body)))

pub length_framed : (before body : List ℕ) → length (framed before body) ≡ 12 + length body
length_framed before body = omega (arith, length-append body (check_of before body), length_check before body)

-- a body in range
pub record IsBody (body : List ℕ) : Type 0 where
  pub some : 1 ≤ length body
  pub short : length body ≤ MAX_BODY_LEN

told_is : (len : ℕ) (more : List ℕ) → len ≤ MAX_BODY_LEN → told_length (to_be_bytes w32 len ++ more) ≡ len
told_is len more le = wide32.again len (omega (arith, le))

-- what is told of a length and enough bytes behind
stands_told : (before : List ℕ) (len : ℕ) (more : List ℕ) → 1 ≤ len → len ≤ MAX_BODY_LEN → len + 8 ≤ length more → stands before (to_be_bytes w32 len ++ more) ≡ bytes_eq (take 8 (drop len more)) (check_of before (take len more))
unfolding stands
stands_told before len more some short long =
    let size : length (to_be_bytes w32 len ++ more) ≡ 4 + length more = omega arith in
    let a : ltb (length (to_be_bytes w32 len ++ more)) 13 ≡ false = le-ltb _ _ (omega (arith, size, some, long)) in
    let b : told_length (to_be_bytes w32 len ++ more) ≡ len = told_is len more short in
    let c : ltb len 1 ≡ false = le-ltb _ _ some in
    let d : ltb MAX_BODY_LEN len ≡ false = le-ltb _ _ short in
    let e : ltb (length (to_be_bytes w32 len ++ more)) (12 + len) ≡ false = le-ltb _ _ (omega (arith, size, long)) in
    rw (a, b, c, d, e) refl

framed_parts : (before body rest : List ℕ) → framed before body ++ rest ≡ to_be_bytes w32 (length body) ++ (body ++ (check_of before body ++ rest))
framed_parts before body rest = append_assoc (to_be_bytes w32 (length body)) (body ++ check_of before body) rest ∙ ap (λ (t : List ℕ). to_be_bytes w32 (length body) ++ t) (append_assoc body (check_of before body) rest)

-- a record's bytes are a right record, whatever follows
pub stands_framed : (before body rest : List ℕ) → IsBody body → stands before (framed before body ++ rest) ≡ true
stands_framed before body rest b =
    let check = check_of before body in
    let size : length body + 8 ≤ length (body ++ (check_of before body ++ rest)) = omega (arith, length-append body (check_of before body ++ rest), length-append (check_of before body) rest, length_check before body) in
    let own : take (length body) (body ++ (check_of before body ++ rest)) ≡ body = take_at body (check_of before body ++ rest) (length body) refl in
    let behind : drop (length body) (body ++ (check_of before body ++ rest)) ≡ check_of before body ++ rest = drop_at body (check_of before body ++ rest) (length body) refl in
    let is : take 8 (check_of before body ++ rest) ≡ check_of before body = take_at (check_of before body) rest 8 (length_check before body) in
    let told = stands_told before (length body) (body ++ (check_of before body ++ rest)) b.some b.short size in
    ap (stands before) (framed_parts before body rest) ∙ told ∙ ap (λ (x : List ℕ). bytes_eq (take 8 x) (check_of before (take (length body) (body ++ (check_of before body ++ rest))))) behind
    ∙ ap (λ (x : List ℕ). bytes_eq (take 8 (check_of before body ++ rest)) (check_of before x)) own ∙ ap (λ (x : List ℕ). bytes_eq x (check_of before body)) is ∙ (bytes_eq-Decides (check_of before body) (check_of before body)).1 refl

pub told_framed : (before body rest : List ℕ) → IsBody body → told_length (framed before body ++ rest) ≡ length body
told_framed before body rest b = ap told_length (framed_parts before body rest) ∙ told_is (length body) (body ++ (check_of before body ++ rest)) b.short

pub body_framed : (before body rest : List ℕ) → take (length body) (drop 4 (framed before body ++ rest)) ≡ body
body_framed before body rest = ap (λ (x : List ℕ). take (length body) (drop 4 x)) (framed_parts before body rest) ∙ take_at body (check_of before body ++ rest) (length body) refl

-- ---- and a right record is a record's bytes

pub passes : (b : Bool) (x : Bool) → cond b false x ≡ true → (b ≡ false) × (x ≡ true)
passes true x e = absurd (true≢false (sym e))
passes false x e = (refl, e)

at_end : (len : ℕ) → 4 + (len + 8) ≡ 12 + len
at_end len = omega arith

-- the body that the bytes tell
abbrev pub told_body : List ℕ → List ℕ
told_body bytes = take (told_length bytes) (drop 4 bytes)

pub record IsRight (before bytes : List ℕ) : Type 0 where
  pub long : 12 + told_length bytes ≤ length bytes
  pub len : length (told_body bytes) ≡ told_length bytes
  pub body : IsBody (told_body bytes)
  pub text : bytes ≡ framed before (told_body bytes) ++ drop (12 + told_length bytes) bytes

pub right : (before bytes : List ℕ) → IsBytes bytes → stands before bytes ≡ true → IsRight before bytes
unfolding stands
right before bytes fits h =
    let a = passes (ltb (length bytes) 13) _ h in
    let b = passes (ltb (told_length bytes) 1) _ a.1 in
    let c = passes (ltb MAX_BODY_LEN (told_length bytes)) _ b.1 in
    let d = passes (ltb (length bytes) (12 + told_length bytes)) _ c.1 in
    whole (told_length bytes) refl (ltb-false _ _ b.0) (ltb-false _ _ c.0) (ltb-false _ _ d.0) d.1
  where
    whole : (len : ℕ) → told_length bytes ≡ len → 1 ≤ len → len ≤ MAX_BODY_LEN → 12 + len ≤ length bytes → bytes_eq (take 8 (drop len (drop 4 bytes))) (check_of before (take len (drop 4 bytes))) ≡ true → IsRight before bytes
    whole len e some short long same =
        let size : length (take len (drop 4 bytes)) ≡ len = omega (arith, length-take len (drop 4 bytes), length-drop 4 bytes, long) in
        let is : take 8 (drop len (drop 4 bytes)) ≡ check_of before (take len (drop 4 bytes)) = (bytes_eq-Decides (take 8 (drop len (drop 4 bytes))) (check_of before (take len (drop 4 bytes)))).0 same in
        let head : to_be_bytes w32 (length (take len (drop 4 bytes))) ≡ take 4 bytes = ap (to_be_bytes w32) (size ∙ sym e) ∙ wide32.back (take 4 bytes) (omega (arith, length-take 4 bytes, long)) (IsBytes-take 4 bytes fits) in
        let last : drop 8 (drop len (drop 4 bytes)) ≡ drop (12 + len) bytes = drop-drop 8 len (drop 4 bytes) ∙ drop-drop (len + 8) 4 bytes ∙ ap (λ (n : ℕ). drop n bytes) (at_end len) in
        let behind : check_of before (take len (drop 4 bytes)) ++ drop (12 + len) bytes ≡ drop len (drop 4 bytes) = ap (λ (x : List ℕ). x ++ drop (12 + len) bytes) (sym is) ∙ ap (λ (x : List ℕ). take 8 (drop len (drop 4 bytes)) ++ x) (sym last) ∙ take-append-drop 8 (drop len (drop 4 bytes)) in
        let parts : bytes ≡ framed before (take len (drop 4 bytes)) ++ drop (12 + len) bytes = sym (framed_parts before (take len (drop 4 bytes)) (drop (12 + len) bytes) ∙ ap (λ (x : List ℕ). x ++ (take len (drop 4 bytes) ++ (check_of before (take len (drop 4 bytes)) ++ drop (12 + len) bytes))) head ∙ ap (λ (x : List ℕ). take 4 bytes ++ (take len (drop 4 bytes) ++ x)) behind ∙ ap (λ (x : List ℕ). take 4 bytes ++ x) (take-append-drop len (drop 4 bytes)) ∙ take-append-drop 4 bytes) in
        let all : (12 + len ≤ length bytes) × (length (take len (drop 4 bytes)) ≡ len) × IsBody (take len (drop 4 bytes)) × (bytes ≡ framed before (take len (drop 4 bytes)) ++ drop (12 + len) bytes) = (long, size, record { some = omega (arith, size, some); short = omega (arith, size, short) }, parts) in
        let told = subst (λ (n : ℕ). (12 + n ≤ length bytes) × (length (take n (drop 4 bytes)) ≡ n) × IsBody (take n (drop 4 bytes)) × (bytes ≡ framed before (take n (drop 4 bytes)) ++ drop (12 + n) bytes)) (sym e) all in
        record { long = told.0; len = told.1; body = told.2; text = told.3 }
