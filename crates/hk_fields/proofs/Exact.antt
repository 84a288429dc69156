-- What it is to read a part exactly: what was read is the part's bytes, and the part's bytes are read again, whatever
-- follows. And that parts, one behind the other, are read exactly where each of them is.
use Rattle.std.proofs.Common.{rules, ◌≡◌, true≢false, ℕ, zero, suc, ◌+◌, ◌^◌, ◌<◌, ◌≤◌, Bool, true, false, cond, ltb, eqb, List, [], ◌∷◌, ◌++◌, length, get_or, take, drop, Result, Ok, Err, refl, sym, ap, subst, ◌∙◌, append_assoc, arith, inl, inr}
use Rattle.std.specs.Prelude.{nat_le, ◌&&◌}
use Rattle.std.specs.Int.{Width, w16, w32, w64, byte_len, from_be_bytes, to_be_bytes}
use Rattle.std.proofs.lemmas.Bool.{cases_lt, ltb-false, le-ltb}
use Rattle.std.proofs.lemmas.List.{take_at, drop_at, take-append-drop, length-append, length-take, get_or-drop, get_or-take, get_or_past}
use Rattle.std.proofs.lemmas.Nat.{be_bytes_2, be_bytes_4, be_bytes_8, from_be_bytes-to_be_bytes_2, from_be_bytes-to_be_bytes_4, from_be_bytes-to_be_bytes_8}
use Rattle.hk_fields.specs.declared.fault.FieldFault.{FieldFault}
use Rattle.hk_fields.specs.declared.fault.FieldFault.TheVariants.{Malformed}
use Rattle.hk_fields.specs.declared.tickets.Ticket.{Ticket}
use Rattle.hk_fields.specs.declared.tickets.TheConstants.{TICKET_LEN}
use Rattle.hk_fields.specs.Fields.{◌>>=◌, both, chain, made, byte_at, number_at, within, bytes_at, text_bytes, text_at, ticket_at, IsTicket, host_bytes, host_at, IsHostValue, actor_bytes, actor_of, actor_at, IsActorField}
use Rattle.hk_base.specs.declared.letter.Actor.{Actor}
use Rattle.hk_base.specs.declared.letter.Actor.TheVariants.{Node, Manager}
use Rattle.std.proofs.lemmas.Bool.{eqb-true}

abbrev pub IsBytes : List ℕ → Type 0
IsBytes bytes = (i : ℕ) → get_or bytes i 0 < 256

pub IsBytes-drop : (n : ℕ) (bytes : List ℕ) → IsBytes bytes → IsBytes (drop n bytes)
IsBytes-drop n bytes h i = rw get_or-drop (h (n + i))

pub IsBytes-take : (n : ℕ) (bytes : List ℕ) → IsBytes bytes → IsBytes (take n bytes)
IsBytes-take n bytes h i =
    elim (cases_lt i n) [
      | inl lt ↦ rw (get_or-take n bytes i 0 lt) (h i)
      | inr le ↦ rw (get_or_past (take n bytes) i 0 (omega (arith, length-take n bytes))) (omega arith)
    ]

IsBytes-rest : (b : ℕ) (bytes : List ℕ) → IsBytes (b ∷ bytes) → IsBytes bytes
IsBytes-rest b bytes h i = h (suc i)

-- the value of a step that did not fail
pub bind_ok : {A B : Type 0} (r : Result A FieldFault) (f : A → Result B FieldFault) (y : B) → (r >>= f) ≡ Ok y → (x : A) × (r ≡ Ok x) × (f x ≡ Ok y)
bind_ok (Ok x) f y e = (x, refl, e)
bind_ok (Err d) f y e = absurd cc

-- a test that did not fail
pub guard_ok : {A : Type 0} (b : Bool) (d : FieldFault) (x y : A) → cond b (Err d) (Ok x) ≡ Ok y → (b ≡ false) × (x ≡ y)
guard_ok true d x y e = absurd cc
guard_ok false d x y e = (refl, cc)

pub passed : {A : Type 0} (b : Bool) (d : FieldFault) (x y : A) → cond b (Ok x) (Err d) ≡ Ok y → (b ≡ true) × (x ≡ y)
passed true d x y e = (refl, cc)
passed false d x y e = absurd cc

abbrev done : {A : Type 0} → A → Result A FieldFault
done x = Ok x

pub ok_is : {A : Type 0} (x y : A) → done x ≡ done y → x ≡ y
ok_is x y e = cc

-- what a reader took from the front
pub record Takes (bytes text rest : List ℕ) : Type 0 where
  pub parts : bytes ≡ text ++ rest
  pub rest_fits : IsBytes rest

pub Takes-then : (a x b y c : List ℕ) → Takes a x b → Takes b y c → Takes a (x ++ y) c
Takes-then a x b y c p q = record { parts = p.parts ∙ ap (λ (t : List ℕ). x ++ t) q.parts ∙ sym (append_assoc x y c); rest_fits = q.rest_fits }

pub record IsExact {A : Type 0} (text : A → List ℕ) (Fits : A → Type 0) (read : List ℕ → Result (A × List ℕ) FieldFault) : Type 0 where
  pub takes : (bytes : List ℕ) (a : A) (rest : List ℕ) → IsBytes bytes → read bytes ≡ Ok (a, rest) → Takes bytes (text a) rest × Fits a
  pub again : (a : A) (rest : List ℕ) → Fits a → read (text a ++ rest) ≡ Ok (a, rest)

-- ---- one part behind another

pub chain_exact : {A B : Type 0} (text : A → List ℕ) (Fits : A → Type 0) (read : List ℕ → Result (A × List ℕ) FieldFault) (text' : A → B → List ℕ) (Fits' : A → B → Type 0) (read' : A → List ℕ → Result (B × List ℕ) FieldFault)
    → IsExact text Fits read → ((a : A) → IsExact (text' a) (Fits' a) (read' a)) → IsExact (λ (p : A × B). text p.0 ++ text' p.0 p.1) (λ (p : A × B). Fits p.0 × Fits' p.0 p.1) (chain read read')
chain_exact {A} {B} text Fits read text' Fits' read' e e' = record {
  takes = λ bytes p rest fits h.
      (let a = bind_ok (read bytes) (λ x. read' x.0 x.1 >>= λ y. Ok ((x.0, y.0), y.1)) (p, rest) h in
      let b = bind_ok (read' a.0.0 a.0.1) (λ y. Ok ((a.0.0, y.0), y.1)) (p, rest) a.2 in
      let t = e.takes bytes a.0.0 a.0.1 fits a.1 in
      let u = (e' a.0.0).takes a.0.1 b.0.0 b.0.1 t.0.rest_fits b.1 in
      let made' : (A × B) × List ℕ = ((a.0.0, b.0.0), b.0.1) in
      subst (λ (y : (A × B) × List ℕ). Takes bytes (text y.0.0 ++ text' y.0.0 y.0.1) y.1 × (Fits y.0.0 × Fits' y.0.0 y.0.1)) (ok_is made' (p, rest) b.2) (Takes-then bytes (text a.0.0) a.0.1 (text' a.0.0 b.0.0) b.0.1 t.0 u.0, (t.1, u.1)));
  again = λ p rest f.
      (ap (chain read read') (append_assoc (text p.0) (text' p.0 p.1) rest) ∙ rw (e.again p.0 (text' p.0 p.1 ++ rest) f.0, (e' p.0).again p.1 rest f.1) refl);
}

pub both_exact : {A B : Type 0} (text : A → List ℕ) (Fits : A → Type 0) (read : List ℕ → Result (A × List ℕ) FieldFault) (text' : B → List ℕ) (Fits' : B → Type 0) (read' : List ℕ → Result (B × List ℕ) FieldFault)
    → IsExact text Fits read → IsExact text' Fits' read' → IsExact (λ (p : A × B). text p.0 ++ text' p.1) (λ (p : A × B). Fits p.0 × Fits' p.1) (both read read')
both_exact text Fits read text' Fits' read' e e' = chain_exact text Fits read (λ a. text') (λ a. Fits') (λ a. read') e (λ a. e')

-- ---- what a part makes

pub made_takes : {A B : Type 0} (make : A → B) (text : A → List ℕ) (Fits : A → Type 0) (read : List ℕ → Result (A × List ℕ) FieldFault) (text' : B → List ℕ) (Fits' : B → Type 0)
    → IsExact text Fits read → ((a : A) → Fits a → (text a ≡ text' (make a)) × Fits' (make a))
    → (bytes : List ℕ) (b : B) (rest : List ℕ) → IsBytes bytes → made make read bytes ≡ Ok (b, rest) → Takes bytes (text' b) rest × Fits' b
made_takes {A} {B} make text Fits read text' Fits' e forth bytes b rest fits h =
    let a = bind_ok (read bytes) (λ x. Ok (make x.0, x.1)) (b, rest) h in
    let t = e.takes bytes a.0.0 a.0.1 fits a.1 in
    let f = forth a.0.0 t.1 in
    let made' : B × List ℕ = (make a.0.0, a.0.1) in
    subst (λ (y : B × List ℕ). Takes bytes (text' y.0) y.1 × Fits' y.0) (ok_is made' (b, rest) a.2) (subst (λ (z : List ℕ). Takes bytes z a.0.1) f.0 t.0, f.1)

pub made_again : {A B : Type 0} (make : A → B) (text : A → List ℕ) (Fits : A → Type 0) (read : List ℕ → Result (A × List ℕ) FieldFault) → IsExact text Fits read
    → (a : A) (rest : List ℕ) → Fits a → made make read (text a ++ rest) ≡ Ok (make a, rest)
made_again make text Fits read e a rest f = rw (e.again a rest f) refl

-- a part that stands for another one: each way, with the same bytes
pub record Stands {A B : Type 0} (make : A → B) (text : A → List ℕ) (Fits : A → Type 0) (text' : B → List ℕ) (Fits' : B → Type 0) : Type 0 where
  pub forth : (a : A) → Fits a → (text a ≡ text' (make a)) × Fits' (make a)
  pub back : (b : B) → Fits' b → (a : A) × Fits a × (make a ≡ b)

pub made_exact : {A B : Type 0} (make : A → B) (text : A → List ℕ) (Fits : A → Type 0) (read : List ℕ → Result (A × List ℕ) FieldFault) (text' : B → List ℕ) (Fits' : B → Type 0)
    → IsExact text Fits read → Stands make text Fits text' Fits' → IsExact text' Fits' (made make read)
made_exact {A} {B} make text Fits read text' Fits' e s = record {
  takes = λ bytes b rest fits h. made_takes make text Fits read text' Fits' e s.forth bytes b rest fits h;
  again = λ b rest f.
      (let w = s.back b f in
      subst (λ (y : B). made make read (text' y ++ rest) ≡ Ok (y, rest)) w.2 (subst (λ (z : List ℕ). made make read (z ++ rest) ≡ Ok (make w.0, rest)) (s.forth w.0 w.1).0 (made_again make text Fits read e w.0 rest w.1)));
}

-- ---- nothing, bytes and numbers

pub nothing_exact : {A : Type 0} (a : A) → IsExact (λ (x : A). []) (λ (x : A). x ≡ a) (λ bytes. Ok (a, bytes))
nothing_exact {A} a = record {
  takes = λ bytes x rest fits h.
      (let e : (a, bytes) ≡ (x, rest) = ok_is (a, bytes) (x, rest) h in
      (record { parts = ap (λ (y : A × List ℕ). y.1) e; rest_fits = subst IsBytes (ap (λ (y : A × List ℕ). y.1) e) fits }, sym (ap (λ (y : A × List ℕ). y.0) e)));
  again = λ x rest f. ap (λ (y : A). done (y, rest)) (sym f);
}

byte_takes : (bytes : List ℕ) (b : ℕ) (rest : List ℕ) → IsBytes bytes → byte_at bytes ≡ Ok (b, rest) → Takes bytes (b ∷ []) rest × (b < 256)
byte_takes [] b rest fits e = absurd cc
byte_takes (c ∷ bytes) b rest fits e =
    subst (λ (x : ℕ × List ℕ). Takes (c ∷ bytes) (x.0 ∷ []) x.1 × (x.0 < 256)) (ok_is (c, bytes) (b, rest) e) (record { parts = refl; rest_fits = IsBytes-rest c bytes fits }, fits 0)

pub byte_exact : IsExact (λ b. b ∷ []) (λ b. b < 256) byte_at
byte_exact = record { takes = byte_takes; again = λ b rest f. refl }

pub record IsWide (w : Width) (limit : ℕ) : Type 0 where
  pub len : (n : ℕ) → length (to_be_bytes w n) ≡ byte_len w
  pub back : (bytes : List ℕ) → length bytes ≡ byte_len w → IsBytes bytes → to_be_bytes w (from_be_bytes w bytes) ≡ bytes
  pub again : (n : ℕ) → n < limit → from_be_bytes w (to_be_bytes w n) ≡ n
  pub below : (bytes : List ℕ) → IsBytes bytes → from_be_bytes w bytes < limit

pub wide16 : IsWide w16 (2 ^ 16)
wide16 = record {
  len = λ n. refl;
  back = λ bytes len fits. be_bytes_2 bytes _ len fits refl;
  again = λ n lt. from_be_bytes-to_be_bytes_2 n lt;
  below = λ bytes fits. omega (arith, fits 0, fits 1);
}

pub wide32 : IsWide w32 (2 ^ 32)
wide32 = record {
  len = λ n. refl;
  back = λ bytes len fits. be_bytes_4 bytes _ len fits refl;
  again = λ n lt. from_be_bytes-to_be_bytes_4 n lt;
  below = λ bytes fits. omega (arith, fits 0, fits 1, fits 2, fits 3);
}

pub wide64 : IsWide w64 (2 ^ 64)
wide64 = record {
  len = λ n. refl;
  back = λ bytes len fits. be_bytes_8 bytes _ len fits refl;
  again = λ n lt. from_be_bytes-to_be_bytes_8 n lt;
  below = λ bytes fits. omega (arith, fits 0, fits 1, fits 2, fits 3, fits 4, fits 5, fits 6, fits 7);
}

number_takes : (w : Width) (limit : ℕ) (wide : IsWide w limit) (bytes : List ℕ) (n : ℕ) (rest : List ℕ) → IsBytes bytes → number_at w bytes ≡ Ok (n, rest) → Takes bytes (to_be_bytes w n) rest × (n < limit)
number_takes w limit wide bytes n rest fits e =
    let g = guard_ok (ltb (length bytes) (byte_len w)) Malformed (from_be_bytes w (take (byte_len w) bytes), drop (byte_len w) bytes) (n, rest) e in
    let long : byte_len w ≤ length bytes = ltb-false _ _ g.0 in
    let n-is : from_be_bytes w (take (byte_len w) bytes) ≡ n = ap (λ (p : ℕ × List ℕ). p.0) g.1 in
    let rest-is : drop (byte_len w) bytes ≡ rest = ap (λ (p : ℕ × List ℕ). p.1) g.1 in
    let front : to_be_bytes w n ≡ take (byte_len w) bytes = rw (← n-is) (wide.back (take (byte_len w) bytes) (omega (arith, length-take (byte_len w) bytes)) (IsBytes-take (byte_len w) bytes fits)) in
    (record { parts = rw (front, ← rest-is) (sym (take-append-drop (byte_len w) bytes)); rest_fits = rw (← rest-is) (IsBytes-drop (byte_len w) bytes fits) }, rw (← n-is) (wide.below (take (byte_len w) bytes) (IsBytes-take (byte_len w) bytes fits)))

number_again : (w : Width) (limit : ℕ) (wide : IsWide w limit) (n : ℕ) (rest : List ℕ) → n < limit → number_at w (to_be_bytes w n ++ rest) ≡ Ok (n, rest)
number_again w limit wide n rest lt =
    let len = wide.len n in
    let long : ltb (length (to_be_bytes w n ++ rest)) (byte_len w) ≡ false = le-ltb _ _ (omega (arith, length-append (to_be_bytes w n) rest)) in
    rw (long, take_at (to_be_bytes w n) rest (byte_len w) len, drop_at (to_be_bytes w n) rest (byte_len w) len, wide.again n lt) refl

pub number_exact : (w : Width) (limit : ℕ) → IsWide w limit → IsExact (to_be_bytes w) (λ n. n < limit) (number_at w)
number_exact w limit wide = record { takes = number_takes w limit wide; again = number_again w limit wide }

-- ---- a number between two others

pub record IsBetween (Fits : ℕ → Type 0) (least most : ℕ) (n : ℕ) : Type 0 where
  pub fits : Fits n
  pub low : least ≤ n
  pub high : n ≤ most

both_true : (a b : Bool) → a && b ≡ true → (a ≡ true) × (b ≡ true)
both_true true b h = (refl, h)
both_true false b h = absurd cc

both_are : (a b : Bool) → a ≡ true → b ≡ true → a && b ≡ true
both_are a b h k = rw (h, k) refl

pub within_exact : (text : ℕ → List ℕ) (Fits : ℕ → Type 0) (least most : ℕ) (read : List ℕ → Result (ℕ × List ℕ) FieldFault) → IsExact text Fits read → IsExact text (IsBetween Fits least most) (within least most read)
within_exact text Fits least most read e = record {
  takes = λ bytes n rest fits h.
      (let a = bind_ok (read bytes) (λ x. cond (nat_le least x.0 && nat_le x.0 most) (Ok x) (Err Malformed)) (n, rest) h in
      let p = passed (nat_le least a.0.0 && nat_le a.0.0 most) Malformed a.0 (n, rest) a.2 in
      let t = e.takes bytes a.0.0 a.0.1 fits a.1 in
      let q = both_true (nat_le least a.0.0) (nat_le a.0.0 most) p.0 in
      let low : least ≤ a.0.0 = search rules in
      let high : a.0.0 ≤ most = search rules in
      subst (λ (y : ℕ × List ℕ). Takes bytes (text y.0) y.1 × IsBetween Fits least most y.0) p.1 (t.0, record { fits = t.1; low = low; high = high }));
  again = λ n rest f.
      (let low : nat_le least n ≡ true = search (rules, f.low) in
      let high : nat_le n most ≡ true = search (rules, f.high) in
      rw (e.again n rest f.fits, both_are (nat_le least n) (nat_le n most) low high) refl);
}

-- ---- so many bytes

bytes_takes : (n : ℕ) (bytes text rest : List ℕ) → IsBytes bytes → bytes_at n bytes ≡ Ok (text, rest) → Takes bytes text rest × (length text ≡ n)
bytes_takes n bytes text rest fits e =
    let g = guard_ok (ltb (length bytes) n) Malformed (take n bytes, drop n bytes) (text, rest) e in
    let long : n ≤ length bytes = ltb-false _ _ g.0 in
    let len : length (take n bytes) ≡ n = omega (arith, length-take n bytes) in
    subst (λ (p : List ℕ × List ℕ). Takes bytes p.0 p.1 × (length p.0 ≡ n)) g.1 (record { parts = sym (take-append-drop n bytes); rest_fits = IsBytes-drop n bytes fits }, len)

bytes_again : (n : ℕ) (text rest : List ℕ) → length text ≡ n → bytes_at n (text ++ rest) ≡ Ok (text, rest)
bytes_again n text rest len =
    let long : ltb (length (text ++ rest)) n ≡ false = le-ltb _ _ (omega (arith, length-append text rest)) in
    rw (long, take_at text rest n len, drop_at text rest n len) refl

pub bytes_exact : (n : ℕ) → IsExact (λ text. text) (λ text. length text ≡ n) (bytes_at n)
bytes_exact n = record { takes = bytes_takes n; again = bytes_again n }

-- ---- a reader in other words, and one that a test chooses

-- a byte, and one in a range
abbrev pub IsByte : ℕ → Type 0
IsByte b = b < 256

abbrev pub byte_text : ℕ → List ℕ
byte_text b = b ∷ []

pub byte_within_exact : (least most : ℕ) → IsExact byte_text (IsBetween IsByte least most) (within least most byte_at)
byte_within_exact least most = within_exact byte_text IsByte least most byte_at byte_exact

abbrev pub IsBelow16 : ℕ → Type 0
IsBelow16 n = n < 2 ^ 16

abbrev pub IsBelow32 : ℕ → Type 0
IsBelow32 n = n < 2 ^ 32

abbrev pub IsBelow64 : ℕ → Type 0
IsBelow64 n = n < 2 ^ 64

pub number16_exact : IsExact (to_be_bytes w16) IsBelow16 (number_at w16)
number16_exact = number_exact w16 (2 ^ 16) wide16

pub number32_exact : IsExact (to_be_bytes w32) IsBelow32 (number_at w32)
number32_exact = number_exact w32 (2 ^ 32) wide32

pub number64_exact : IsExact (to_be_bytes w64) IsBelow64 (number_at w64)
number64_exact = number_exact w64 (2 ^ 64) wide64

-- the same language by other words
pub same_exact : {A : Type 0} (text : A → List ℕ) (Fits : A → Type 0) (text' : A → List ℕ) (Fits' : A → Type 0) (read : List ℕ → Result (A × List ℕ) FieldFault)
    → IsExact text Fits read → ((a : A) → Fits a → (text a ≡ text' a) × Fits' a) → ((a : A) → Fits' a → (text a ≡ text' a) × Fits a) → IsExact text' Fits' read
same_exact {A} text Fits text' Fits' read e there here = record {
  takes = λ bytes a rest fits h.
      (let t = e.takes bytes a rest fits h in
      let f = there a t.1 in
      (subst (λ (z : List ℕ). Takes bytes z rest) f.0 t.0, f.1));
  again = λ a rest f.
      (let g = here a f in
      subst (λ (z : List ℕ). read (z ++ rest) ≡ Ok (a, rest)) g.0 (e.again a rest g.1));
}

pub cond_exact : {A : Type 0} (text : A → List ℕ) (Fits : A → Type 0) (read read' : List ℕ → Result (A × List ℕ) FieldFault) (b : Bool)
    → (b ≡ true → IsExact text Fits read) → (b ≡ false → IsExact text Fits read') → IsExact text Fits (λ bytes. cond b (read bytes) (read' bytes))
cond_exact text Fits read read' true yes' no' = yes' refl
cond_exact text Fits read read' false yes' no' = no' refl

-- ---- texts and tickets

pub record IsTextOf (least most : ℕ) (text : List ℕ) : Type 0 where
  pub low : least ≤ length text
  pub high : length text ≤ most
  pub short : length text < 256

pub text_exact : (least most : ℕ) → IsExact text_bytes (IsTextOf least most) (text_at least most)
unfolding text_at
text_exact least most = made_exact (λ p. p.1) (λ p. byte_text p.0 ++ p.1) (λ p. IsBetween IsByte least most p.0 × (length p.1 ≡ p.0)) (chain (within least most byte_at) bytes_at) text_bytes (IsTextOf least most)
    (chain_exact byte_text (IsBetween IsByte least most) (within least most byte_at) (λ n. λ text. text) (λ n. λ text. length text ≡ n) bytes_at (byte_within_exact least most) bytes_exact)
    (record {
      forth = λ p f. (ap (λ (n : ℕ). n ∷ p.1) (sym f.1), record { low = omega (arith, f.0.low, f.1); high = omega (arith, f.0.high, f.1); short = omega (arith, f.0.fits, f.1) });
      back = λ text f. ((length text, text), (record { fits = f.short; low = f.low; high = f.high }, refl), refl);
    })

pub ticket_exact : IsExact (λ (t : Ticket). t.0) IsTicket ticket_at
unfolding ticket_at
ticket_exact = made_exact (λ b. record { 0 = b }) (λ b. b) (λ b. length b ≡ TICKET_LEN) (bytes_at TICKET_LEN) (λ (t : Ticket). t.0) IsTicket (bytes_exact TICKET_LEN)
    (record { forth = λ b f. (refl, f); back = λ t f. (t.0, f, refl) })

pub host_exact : IsExact host_bytes IsHostValue host_at
unfolding host_at
host_exact = made_exact (λ p. record { manager = p.0; node = p.1 }) (λ p. p.0.0 ++ p.1.0) (λ p. IsTicket p.0 × IsTicket p.1) (both ticket_at ticket_at) host_bytes IsHostValue
    (both_exact (λ (t : Ticket). t.0) IsTicket ticket_at (λ (t : Ticket). t.0) IsTicket ticket_at ticket_exact ticket_exact)
    (record { forth = λ p f. (refl, f); back = λ h f. ((h.manager, h.node), f, refl) })

-- ---- actors

abbrev number_of_actor : Actor → List ℕ
number_of_actor (Node node) = to_be_bytes w16 node.0
number_of_actor (Manager manager) = to_be_bytes w16 manager

abbrev OfClass : ℕ → Actor → Type 0
OfClass class (Node node) = (class ≡ 0) × IsBelow16 node.0
OfClass class (Manager manager) = (eqb class 0 ≡ false) × IsBetween IsBelow16 0 8 manager

node_back : (class : ℕ) → eqb class 0 ≡ true → (actor : Actor) → OfClass class actor → (n : ℕ) × IsBelow16 n × (Node (record { 0 = n }) ≡ actor)
node_back class h (Node node) f = (node.0, f.1, refl)
node_back class h (Manager manager) f = absurd cc

manager_back : (class : ℕ) → eqb class 0 ≡ false → (actor : Actor) → OfClass class actor → (n : ℕ) × IsBetween IsBelow16 0 8 n × (Manager n ≡ actor)
manager_back class h (Node node) f = absurd (true≢false (ap (λ (m : ℕ). eqb m 0) (sym f.0) ∙ h))
manager_back class h (Manager manager) f = (manager, f.1, refl)

actor_of_exact : (class : ℕ) → IsExact number_of_actor (OfClass class) (actor_of class)
unfolding actor_of
actor_of_exact class = cond_exact number_of_actor (OfClass class) (made (λ n. Node (record { 0 = n })) (number_at w16)) (made Manager (within 0 8 (number_at w16))) (eqb class 0)
    (λ h. made_exact (λ n. Node (record { 0 = n })) (to_be_bytes w16) IsBelow16 (number_at w16) number_of_actor (OfClass class) number16_exact (record { forth = λ n f. (refl, (eqb-true class 0 h, f)); back = node_back class h }))
    (λ h. made_exact Manager (to_be_bytes w16) (IsBetween IsBelow16 0 8) (within 0 8 (number_at w16)) number_of_actor (OfClass class) (within_exact (to_be_bytes w16) IsBelow16 0 8 (number_at w16) number16_exact) (record { forth = λ n f. (refl, (h, f)); back = manager_back class h }))

actor_forth : (class : ℕ) (actor : Actor) → class ≤ 1 → OfClass class actor → (class ∷ number_of_actor actor ≡ actor_bytes actor) × IsActorField actor
actor_forth class (Node node) le f = (ap (λ (c : ℕ). c ∷ to_be_bytes w16 node.0) f.0, f.1)
actor_forth zero (Manager manager) le f = absurd (true≢false f.0)
actor_forth (suc zero) (Manager manager) le f = (refl, omega (arith, f.1.high))
actor_forth (suc (suc class)) (Manager manager) le f = absurd (omega (arith, le))

actor_back : (actor : Actor) → IsActorField actor → (p : ℕ × Actor) × (IsBetween IsByte 0 1 p.0 × OfClass p.0 p.1) × (p.1 ≡ actor)
actor_back (Node node) f = ((0, Node node), (record { fits = omega arith; low = omega arith; high = omega arith }, (refl, f)), refl)
actor_back (Manager manager) f = ((1, Manager manager), (record { fits = omega arith; low = omega arith; high = omega arith }, (refl, record { fits = omega (arith, f); low = omega arith; high = omega (arith, f) })), refl)

pub actor_exact : IsExact actor_bytes IsActorField actor_at
unfolding actor_at
actor_exact = made_exact (λ p. p.1) (λ p. byte_text p.0 ++ number_of_actor p.1) (λ p. IsBetween IsByte 0 1 p.0 × OfClass p.0 p.1) (chain (within 0 1 byte_at) actor_of) actor_bytes IsActorField
    (chain_exact byte_text (IsBetween IsByte 0 1) (within 0 1 byte_at) (λ n. number_of_actor) OfClass actor_of (byte_within_exact 0 1) actor_of_exact)
    (record { forth = λ p f. actor_forth p.0 p.1 f.0.high f.1; back = actor_back })
