-- That a hello is told from its bytes, whatever follows.
use Rattle.std.proofs.Common.{true≢false, ◌≡◌, ℕ, zero, suc, ◌+◌, ◌≤◌, ◌<◌, true, false, ltb, List, [], ◌∷◌, ◌++◌, length, take, drop, Result, Ok, Err, refl, sym, ap, subst, ◌∙◌, arith, inl, inr}
use Rattle.std.specs.Prelude.{◌≢◌}
use Rattle.std.specs.Int.{w16, to_be_bytes}
use Rattle.std.proofs.lemmas.Bool.{le-ltb, lt-ltb, cases_lt}
use Rattle.std.proofs.lemmas.List.{take_at, length-append, length-take-le, append-nil}
use Rattle.hk_base.specs.declared.letter.Actor.TheVariants.{Node, Manager}
use Rattle.hk_fields.specs.declared.fault.FieldFault.{FieldFault}
use Rattle.hk_fields.specs.declared.fault.FieldFault.TheVariants as fields
use Rattle.hk_fields.specs.Fields.{Fails, IsTicket}
use Rattle.hk_fields.proofs.Exact.{IsBytes, ok_is, wide16}
use Rattle.hk_hello.specs.declared.hello.Hello.{Hello}
use Rattle.hk_hello.specs.declared.hello.SignedHello.{SignedHello}
use Rattle.hk_hello.specs.declared.hello.Party.{Party}
use Rattle.hk_hello.specs.declared.hello.Party.TheVariants as parties
use Rattle.hk_hello.specs.declared.fault.HelloFault.{HelloFault}
use Rattle.hk_hello.specs.declared.fault.HelloFault.TheVariants.{Memory, NeedMore, Malformed}
use Rattle.hk_hello.specs.Hellos.{party_bytes, parties_bytes, home_bytes, terms_bytes, fields_bytes, signed_bytes, IsSigned}
use Rattle.hk_hello.specs.Fields.{signed_at}
use Rattle.hk_hello.specs.Told.{told_length, is_short, body_bytes, IsBodyRead, IsHelloRead}
use Rattle.hk_hello.specs.Laws.{IsReadAs, IsUnfinished}
use Rattle.hk_hello.proofs.Parts.{signed_exact}

-- ---- lengths

length_party : (party : Party) → length (party_bytes party) ≡ 3
length_party (parties.Actor (Node node)) = refl
length_party (parties.Actor (Manager manager)) = refl
length_party parties.Neither = refl

pub length_fields : (h : Hello) → IsTicket h.ticket → length h.hosts.0 ≡ 8 → length (fields_bytes h) ≡ 48 + length h.group
length_fields h ticket hosts =
    let whole = length-append (parties_bytes h) (home_bytes h ++ terms_bytes h) in
    let behind = length-append (home_bytes h) (terms_bytes h) in
    let pair = length-append (party_bytes h.from) (party_bytes h.to) in
    let home = length-append h.ticket.0 h.hosts.0 in
    omega (arith, whole, behind, pair, home, length_party h.from, length_party h.to, ticket, hosts)

pub length_body : (s : SignedHello) → IsSigned s → length (body_bytes s) ≡ 80 + length s.hello.group
length_body s is = omega (arith, length-append (fields_bytes s.hello) s.proof.0, length_fields s.hello is.hello.ticket is.hello.hosts, is.proof)

-- ---- what the bytes of a hello tell

pub record IsThere (s : SignedHello) (bytes : List ℕ) : Type 0 where
  pub low : 81 ≤ told_length bytes
  pub high : told_length bytes ≤ 112
  pub len : told_length bytes ≡ length (body_bytes s)
  pub long : 2 + told_length bytes ≤ length bytes
  pub body : take (told_length bytes) (drop 2 bytes) ≡ body_bytes s

whole : (s : SignedHello) (rest : List ℕ) → signed_bytes s ++ rest ≡ to_be_bytes w16 (length (fields_bytes s.hello) + 32) ++ (body_bytes s ++ rest)
whole s rest = refl

there_at : (s : SignedHello) (rest : List ℕ) → IsSigned s → IsThere s (signed_bytes s ++ rest)
there_at s rest is =
    let n = length (fields_bytes s.hello) + 32 in
    let fields = length_fields s.hello is.hello.ticket is.hello.hosts in
    let some = is.hello.group.some in
    let short = is.hello.group.short in
    let body = length_body s is in
    let told : told_length (signed_bytes s ++ rest) ≡ n = wide16.again n (omega (arith, fields, short)) in
    let len : told_length (signed_bytes s ++ rest) ≡ length (body_bytes s) = omega (arith, told, fields, body) in
    record {
      low = omega (arith, told, fields, some);
      high = omega (arith, told, fields, short);
      len = len;
      long = omega (arith, len, length-append (body_bytes s) rest, ap length (whole s rest));
      body = ap (λ (m : ℕ). take m (body_bytes s ++ rest)) len ∙ take_at (body_bytes s) rest (length (body_bytes s)) refl;
    }

pub there : (s : SignedHello) (bytes rest : List ℕ) → IsSigned s → bytes ≡ signed_bytes s ++ rest → IsThere s bytes
there s bytes rest is e = subst (λ (x : List ℕ). IsThere s x) (sym e) (there_at s rest is)

-- two hellos that begin the same bytes are one
pub one : (s t : SignedHello) (bytes : List ℕ) → IsSigned s → IsSigned t → IsThere s bytes → IsThere t bytes → s ≡ t
one s t bytes is js p q =
    let same : body_bytes s ≡ body_bytes t = sym p.body ∙ q.body in
    let found : Result (SignedHello × List ℕ) FieldFault = Ok (s, []) in
    let e : found ≡ Ok (t, []) = sym (signed_exact.again s [] is) ∙ ap (λ (x : List ℕ). signed_at (x ++ [])) same ∙ signed_exact.again t [] js in
    ap (λ (x : SignedHello × List ℕ). x.0) (ok_is (s, []) (t, []) e)

-- ---- a body

differ : (x : SignedHello × List ℕ) (f : FieldFault) → (r : Result (SignedHello × List ℕ) FieldFault) → r ≡ Ok x → r ≡ Err f → true ≡ false
differ x f r e h =
    let both : Result (SignedHello × List ℕ) FieldFault = Ok x in
    absurd cc

again_is : (s : SignedHello) (body : List ℕ) → IsSigned s → body ≡ body_bytes s → signed_at body ≡ Ok (s, [])
again_is s body is e = ap signed_at (e ∙ sym (append-nil (body_bytes s))) ∙ signed_exact.again s [] is

pub body_stops : (fault : FieldFault) (body : List ℕ) → Fails fault (signed_at body) → IsBodyRead (Err fault) body
body_stops fields.Memory body h = tt
body_stops fields.Malformed body h = λ s is e. absurd (true≢false (differ (s, []) fields.Malformed (signed_at body) (again_is s body is e) h))

pub body_longer : (body : List ℕ) (s : SignedHello) (rest : List ℕ) → signed_at body ≡ Ok (s, rest) → (rest ≡ [] → true ≡ false) → IsBodyRead (Err fields.Malformed) body
body_longer body s rest h some = λ t is e.
    (let same = ok_is (s, rest) (t, []) (sym h ∙ again_is t body is e) in
    absurd (true≢false (some (ap (λ (x : SignedHello × List ℕ). x.1) same))))

nothing : (xs : List ℕ) → length xs ≡ 0 → xs ≡ []
nothing [] e = refl
nothing (x ∷ xs) e = absurd (omega (arith, e))

pub body_is : (body : List ℕ) (s : SignedHello) (rest : List ℕ) → IsBytes body → signed_at body ≡ Ok (s, rest) → length rest ≡ 0 → IsSigned s × (body ≡ body_bytes s)
body_is body s rest fits h none =
    let t = signed_exact.takes body s rest fits h in
    (t.1, t.0.parts ∙ ap (λ (x : List ℕ). body_bytes s ++ x) (nothing rest none) ∙ append-nil (body_bytes s))

-- ---- a hello

pub no_body : (bytes : List ℕ) (len : ℕ) → told_length bytes ≡ len → ((s : SignedHello) → IsSigned s → take len (drop 2 bytes) ≢ body_bytes s) → (s : SignedHello) (rest : List ℕ) → IsSigned s → bytes ≢ signed_bytes s ++ rest
no_body bytes len told none s rest is = λ e.
    (let t = there s bytes rest is e in
    none s is (ap (λ (n : ℕ). take n (drop 2 bytes)) (sym told) ∙ t.body))

pub not_short : (bytes : List ℕ) (len : ℕ) → told_length bytes ≡ len → 81 ≤ len → len ≤ 112 → 2 + len ≤ length bytes → is_short bytes ≡ false
not_short bytes len told low high long =
    rw (le-ltb (length bytes) 2 (omega (arith, low, long)), told, le-ltb len 81 low, le-ltb 112 len high, le-ltb (length bytes) (2 + len) long) refl

-- ---- laws

is_whole : (s : SignedHello) (bytes : List ℕ) → IsThere s bytes → is_short bytes ≡ false
is_whole s bytes t = not_short bytes (told_length bytes) refl t.low t.high t.long

pub read_again : (s : SignedHello) (rest : List ℕ) (result : Result (SignedHello × ℕ) HelloFault) → IsSigned s → IsHelloRead result (signed_bytes s ++ rest) → IsReadAs result s (length (signed_bytes s))
read_again s rest (Ok x) is h =
    let e : x.0 ≡ s = one x.0 s (signed_bytes s ++ rest) h.0 is (there x.0 (signed_bytes s ++ rest) (drop x.1 (signed_bytes s ++ rest)) h.0 h.1) (there_at s rest is) in
    (e, h.2 ∙ ap (λ (t : SignedHello). length (signed_bytes t)) e)
read_again s rest (Err Memory) is h = tt
read_again s rest (Err NeedMore) is h = sym h ∙ is_whole s (signed_bytes s ++ rest) (there_at s rest is)
read_again s rest (Err Malformed) is h = absurd (h.1 s rest is refl)

-- ---- fronts

length_signed : (s : SignedHello) → length (signed_bytes s) ≡ 2 + length (body_bytes s)
length_signed s = omega (arith, ap length (whole s []), length-append (signed_bytes s) [], length-append (body_bytes s) [])

told_front : (s : SignedHello) (n : ℕ) → 2 ≤ n → told_length (take n (signed_bytes s)) ≡ told_length (signed_bytes s ++ [])
told_front s zero le = absurd (omega (arith, le))
told_front s (suc zero) le = absurd (omega (arith, le))
told_front s (suc (suc n)) le = refl

front_is_short : (s : SignedHello) (n : ℕ) → IsSigned s → n < length (signed_bytes s) → is_short (take n (signed_bytes s)) ≡ true
front_is_short s n is lt =
    let size : length (take n (signed_bytes s)) ≡ n = length-take-le n (signed_bytes s) (omega (arith, lt)) in
    elim (cases_lt n 2) [
      | inl few ↦
          (let e : ltb (length (take n (signed_bytes s))) 2 ≡ true = lt-ltb _ _ (omega (arith, size, few)) in
          rw e refl)
      | inr some ↦
          (let t = there_at s [] is in
          let told = told_front s n some in
          let low : 81 ≤ told_length (take n (signed_bytes s)) = omega (arith, told, t.low) in
          let high : told_length (take n (signed_bytes s)) ≤ 112 = omega (arith, told, t.high) in
          let less : length (take n (signed_bytes s)) < 2 + told_length (take n (signed_bytes s)) = omega (arith, size, told, t.len, lt, length_signed s) in
          rw (le-ltb (length (take n (signed_bytes s))) 2 (omega (arith, size, some)), le-ltb (told_length (take n (signed_bytes s))) 81 low, le-ltb 112 (told_length (take n (signed_bytes s))) high, lt-ltb (length (take n (signed_bytes s))) (2 + told_length (take n (signed_bytes s))) less) refl)
    ]

pub fronts : (s : SignedHello) (n : ℕ) (result : Result (SignedHello × ℕ) HelloFault) → IsSigned s → n < length (signed_bytes s) → IsHelloRead result (take n (signed_bytes s)) → IsUnfinished result
fronts s n (Ok x) is lt h =
    let t = there x.0 (take n (signed_bytes s)) (drop x.1 (take n (signed_bytes s))) h.0 h.1 in
    let whole' = is_whole x.0 (take n (signed_bytes s)) t in
    sym (front_is_short s n is lt) ∙ whole'
fronts s n (Err Memory) is lt h = tt
fronts s n (Err NeedMore) is lt h = tt
fronts s n (Err Malformed) is lt h = sym (front_is_short s n is lt) ∙ h.0
