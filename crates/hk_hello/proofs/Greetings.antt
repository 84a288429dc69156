-- That challenges and answers are told from their bytes, whatever follows.
use Rattle.std.proofs.Common.{true≢false, ◌≡◌, ℕ, suc, ◌+◌, ◌≤◌, Bool, true, false, ltb, List, [], ◌∷◌, ◌++◌, length, take, drop, Option, Some, None, Result, Ok, Err, refl, sym, ap, ◌∙◌, arith}
use Rattle.std.specs.Prelude.{◌&&◌, ◌==◌, if◌then◌else◌, bytes_eq}
use Rattle.std.proofs.lemmas.Bool.{le-ltb}
use Rattle.std.proofs.lemmas.List.{take_at, take_all, take-append-drop, length-take-le, length-append}
use Rattle.hk_hello.specs.declared.challenge.Challenge.{Challenge}
use Rattle.hk_hello.specs.declared.challenge.TheConstants.{HEADER}
use Rattle.hk_hello.specs.declared.refusal.HelloRefusal.{HelloRefusal}
use Rattle.hk_hello.specs.declared.refusal.HelloRefusal.TheVariants.{AnotherSecret, AnotherGroup, OtherHosts, AnotherLeaseOrSkew, AnotherFounding, NoSuchActor, NumberTaken}
use Rattle.hk_hello.specs.declared.answer.Answer.{Answer}
use Rattle.hk_hello.specs.declared.answer.Answer.TheVariants.{Welcome, Refused}
use Rattle.hk_hello.specs.declared.fault.HelloFault.{HelloFault}
use Rattle.hk_hello.specs.declared.fault.HelloFault.TheVariants.{Memory, NeedMore, Malformed}
use Rattle.hk_hello.specs.Hellos.{challenge_bytes, refusal_code, answer_bytes, IsAnswer}
use Rattle.hk_hello.specs.Told.{IsChallengeRead, is_answer_front, IsAnswerRead}
use Rattle.hk_hello.specs.Laws.{IsReadAs}

pub welcome_is : (bytes rest proof behind : List ℕ) → bytes ≡ 0 ∷ rest → proof ≡ take 32 rest → length behind + 32 ≡ length rest → (length proof ≡ 32) × (bytes ≡ 0 ∷ (proof ++ drop 33 bytes)) × (33 ≡ suc (length proof))
welcome_is bytes rest proof behind e front long =
    let len : length proof ≡ 32 = ap length front ∙ length-take-le 32 rest (omega (arith, long)) in
    let last : drop 33 bytes ≡ drop 32 rest = ap (drop 33) e in
    (len, e ∙ ap (λ (x : List ℕ). 0 ∷ x) (sym (take-append-drop 32 rest) ∙ ap (λ (x : List ℕ). x ++ drop 32 rest) (sym front) ∙ ap (λ (x : List ℕ). proof ++ x) (sym last)), omega (arith, len))

-- as many bytes in front of the same bytes
same_front : (n : ℕ) (xs ys rest others : List ℕ) → length xs ≡ n → length ys ≡ n → xs ++ rest ≡ ys ++ others → xs ≡ ys
same_front n xs ys rest others a b e = sym (take_at xs rest n a) ∙ ap (take n) e ∙ take_at ys others n b

-- ---- challenges

header_stands : (c : Challenge) (rest : List ℕ) → bytes_eq (take 4 (challenge_bytes c ++ rest)) (take (length (challenge_bytes c ++ rest)) HEADER) ≡ true
header_stands c rest =
    let all : take (length (challenge_bytes c ++ rest)) HEADER ≡ HEADER = take_all (length (challenge_bytes c ++ rest)) HEADER (omega arith) in
    ap (λ (x : List ℕ). bytes_eq HEADER x) all

second : (a b : Bool) → a && b ≡ true → b ≡ true
second true b h = h
second false b h = absurd (true≢false (sym h))

pub challenge_again : (c : Challenge) (rest : List ℕ) (result : Result (Challenge × ℕ) HelloFault) → length c.0 ≡ 16 → IsChallengeRead result (challenge_bytes c ++ rest) → IsReadAs result c 20
challenge_again c rest (Ok x) len h =
    let behind : c.0 ++ rest ≡ x.0.0 ++ drop x.1 (challenge_bytes c ++ rest) = ap (drop 4) h.1 in
    let e : c.0 ≡ x.0.0 = same_front 16 c.0 x.0.0 rest (drop x.1 (challenge_bytes c ++ rest)) len h.0 behind in
    (ap (λ (b : List ℕ). record { 0 = b }) (sym e), h.2)
challenge_again c rest (Err Memory) len h = tt
challenge_again c rest (Err NeedMore) len h =
    let short : ltb (length (challenge_bytes c ++ rest)) 20 ≡ true = second (bytes_eq (take 4 (challenge_bytes c ++ rest)) (take (length (challenge_bytes c ++ rest)) HEADER)) (ltb (length (challenge_bytes c ++ rest)) 20) h in
    sym short ∙ le-ltb (length (challenge_bytes c ++ rest)) 20 (omega (arith, len, length-append c.0 rest))
challenge_again c rest (Err Malformed) len h = sym (header_stands c rest) ∙ h

-- ---- answers

abbrev of_code : ℕ → Option HelloRefusal
of_code n =
    if n == 1 then Some AnotherSecret
    else (if n == 2 then Some AnotherGroup
    else (if n == 3 then Some OtherHosts
    else (if n == 4 then Some AnotherLeaseOrSkew
    else (if n == 5 then Some AnotherFounding
    else (if n == 6 then Some NoSuchActor
    else (if n == 7 then Some NumberTaken
    else None))))))

coded : (r : HelloRefusal) → of_code (refusal_code r) ≡ Some r
coded AnotherSecret = refl
coded AnotherGroup = refl
coded OtherHosts = refl
coded AnotherLeaseOrSkew = refl
coded AnotherFounding = refl
coded NoSuchActor = refl
coded NumberTaken = refl

abbrev the_refusal : HelloRefusal → Option HelloRefusal
the_refusal r = Some r

some_is : (r s : HelloRefusal) → the_refusal r ≡ Some s → r ≡ s
some_is r s e = cc

same_code : (r s : HelloRefusal) → refusal_code r ≡ refusal_code s → r ≡ s
same_code r s e = some_is r s (sym (coded r) ∙ ap of_code e ∙ coded s)

coded_above : (r : HelloRefusal) → 1 ≤ refusal_code r
coded_above AnotherSecret = omega arith
coded_above AnotherGroup = omega arith
coded_above OtherHosts = omega arith
coded_above AnotherLeaseOrSkew = omega arith
coded_above AnotherFounding = omega arith
coded_above NoSuchActor = omega arith
coded_above NumberTaken = omega arith

abbrev first_of : List ℕ → ℕ
first_of [] = 0
first_of (x ∷ xs) = x

answers_are_one : (a b : Answer) (rest others : List ℕ) → IsAnswer a → IsAnswer b → answer_bytes a ++ rest ≡ answer_bytes b ++ others → a ≡ b
answers_are_one (Welcome p) (Welcome q) rest others f g e =
    let same : p.0 ≡ q.0 = same_front 32 p.0 q.0 rest others f g (ap (drop 1) e) in
    ap (λ (b : List ℕ). Welcome (record { 0 = b })) same
answers_are_one (Welcome p) (Refused s) rest others f g e = absurd (omega (arith, ap first_of e, coded_above s))
answers_are_one (Refused r) (Welcome q) rest others f g e = absurd (omega (arith, ap first_of e, coded_above r))
answers_are_one (Refused r) (Refused s) rest others f g e = ap Refused (same_code r s (ap first_of e))

no_front : (a : Answer) (rest : List ℕ) → IsAnswer a → is_answer_front (answer_bytes a ++ rest) ≡ false
no_front (Welcome p) rest f = le-ltb (length (p.0 ++ rest)) 32 (omega (arith, f, length-append p.0 rest))
no_front (Refused r) rest f = rw (le-ltb (refusal_code r) 1 (coded_above r)) refl

pub answer_again : (a : Answer) (rest : List ℕ) (result : Result (Answer × ℕ) HelloFault) → IsAnswer a → IsAnswerRead result (answer_bytes a ++ rest) → IsReadAs result a (length (answer_bytes a))
answer_again a rest (Ok x) f h =
    let e : x.0 ≡ a = sym (answers_are_one a x.0 rest (drop x.1 (answer_bytes a ++ rest)) f h.0 h.1) in
    (e, h.2 ∙ ap (λ (b : Answer). length (answer_bytes b)) e)
answer_again a rest (Err Memory) f h = tt
answer_again a rest (Err NeedMore) f h = sym h ∙ no_front a rest f
answer_again a rest (Err Malformed) f h = absurd (h.1 a rest f refl)
