-- What it is to read a part exactly: what was read is the part's bytes, and the part's bytes are read again, whatever
-- follows. And that parts, one behind the other, are read exactly where each of them is.
use Rattle.std.proofs.Common.{rules, ◌≡◌, ℕ, suc, ◌+◌, ◌^◌, ◌<◌, ◌≤◌, Bool, true, false, cond, ltb, List, [], ◌∷◌, ◌++◌, length, get_or, take, drop, Result, Ok, Err, refl, sym, ap, subst, ◌∙◌, append_assoc, arith, inl, inr}
use Rattle.std.specs.Prelude.{nat_le, ◌&&◌}
use Rattle.std.specs.Int.{Width, w16, w32, w64, byte_len, from_be_bytes, to_be_bytes}
use Rattle.std.proofs.lemmas.Bool.{cases_lt, ltb-false, le-ltb}
use Rattle.std.proofs.lemmas.List.{take_at, drop_at, take-append-drop, length-append, length-take, get_or-drop, get_or-take, get_or_past}
use Rattle.std.proofs.lemmas.Nat.{be_bytes_2, be_bytes_4, be_bytes_8, from_be_bytes-to_be_bytes_2, from_be_bytes-to_be_bytes_4, from_be_bytes-to_be_bytes_8}
use Rattle.hk_frame.specs.declared.fault.Stop.{Stop}
use Rattle.hk_frame.specs.declared.fault.Stop.TheVariants.{Length, Field}
use Rattle.hk_frame.specs.Fields.{◌>>=◌, both, chain, made, out_of_range, byte_at, number_at, within, bytes_at}

abbrev pub IsBytes : List ℕ → Type 0
IsBytes bytes = (i : ℕ) → get_or bytes i 0 < 256

pub IsBytes-drop : (n : ℕ) (bytes : List ℕ) → IsBytes bytes → IsBytes (drop n bytes)
IsBytes-drop n bytes h i = rw get_or-drop (h (n + i))

pub IsBytes-take : (n : ℕ) (bytes : List ℕ) → IsBytes bytes → IsBytes (take n bytes)
IsBytes-take n bytes h i =
    elim (cases_lt i n) [
      | inl lt ↦ rw (get_or-take n bytes i 0 lt) (h i)
      | inr le ↦ rw (get_or_past (take n bytes) i 0 (omega (arith, length-take n bytes))) (omega arith)
    ]

IsBytes-rest : (b : ℕ) (bytes : List ℕ) → IsBytes (b ∷ bytes) → IsBytes bytes
IsBytes-rest b bytes h i = h (suc i)

-- the value of a step that did not fail
pub bind_ok : {A B : Type 0} (r : Result A Stop) (f : A → Result B Stop) (y : B) → (r >>= f) ≡ Ok y → (x : A) × (r ≡ Ok x) × (f x ≡ Ok y)
bind_ok (Ok x) f y e = (x, refl, e)
bind_ok (Err d) f y e = absurd cc

-- a test that did not fail
pub guard_ok : {A : Type 0} (b : Bool) (d : Stop) (x y : A) → cond b (Err d) (Ok x) ≡ Ok y → (b ≡ false) × (x ≡ y)
guard_ok true d x y e = absurd cc
guard_ok false d x y e = (refl, cc)

pub passed : {A : Type 0} (b : Bool) (d : Stop) (x y : A) → cond b (Ok x) (Err d) ≡ Ok y → (b ≡ true) × (x ≡ y)
passed true d x y e = (refl, cc)
passed false d x y e = absurd cc

abbrev done : {A : Type 0} → A → Result A Stop
done x = Ok x

pub ok_is : {A : Type 0} (x y : A) → done x ≡ done y → x ≡ y
ok_is x y e = cc

-- what a reader took from the front
pub record Takes (bytes text rest : List ℕ) : Type 0 where
  pub parts : bytes ≡ text ++ rest
  pub rest_fits : IsBytes rest

pub Takes-then : (a x b y c : List ℕ) → Takes a x b → Takes b y c → Takes a (x ++ y) c
Takes-then a x b y c p q = record { parts = p.parts ∙ ap (λ (t : List ℕ). x ++ t) q.parts ∙ sym (append_assoc x y c); rest_fits = q.rest_fits }

pub record IsExact {A : Type 0} (text : A → List ℕ) (Fits : A → Type 0) (read : List ℕ → Result (A × List ℕ) Stop) : Type 0 where
  pub takes : (bytes : List ℕ) (a : A) (rest : List ℕ) → IsBytes bytes → read bytes ≡ Ok (a, rest) → Takes bytes (text a) rest × Fits a
  pub again : (a : A) (rest : List ℕ) → Fits a → read (text a ++ rest) ≡ Ok (a, rest)

-- ---- one part behind another

pub chain_exact : {A B : Type 0} (text : A → List ℕ) (Fits : A → Type 0) (read : List ℕ → Result (A × List ℕ) Stop) (text' : A → B → List ℕ) (Fits' : A → B → Type 0) (read' : A → List ℕ → Result (B × List ℕ) Stop)
    → IsExact text Fits read → ((a : A) → IsExact (text' a) (Fits' a) (read' a)) → IsExact (λ (p : A × B). text p.0 ++ text' p.0 p.1) (λ (p : A × B). Fits p.0 × Fits' p.0 p.1) (chain read read')
chain_exact {A} {B} text Fits read text' Fits' read' e e' = record {
  takes = λ bytes p rest fits h.
      (let a = bind_ok (read bytes) (λ x. read' x.0 x.1 >>= λ y. Ok ((x.0, y.0), y.1)) (p, rest) h in
      let b = bind_ok (read' a.0.0 a.0.1) (λ y. Ok ((a.0.0, y.0), y.1)) (p, rest) a.2 in
      let t = e.takes bytes a.0.0 a.0.1 fits a.1 in
      let u = (e' a.0.0).takes a.0.1 b.0.0 b.0.1 t.0.rest_fits b.1 in
      let made' : (A × B) × List ℕ = ((a.0.0, b.0.0), b.0.1) in
      subst (λ (y : (A × B) × List ℕ). Takes bytes (text y.0.0 ++ text' y.0.0 y.0.1) y.1 × (Fits y.0.0 × Fits' y.0.0 y.0.1)) (ok_is made' (p, rest) b.2) (Takes-then bytes (text a.0.0) a.0.1 (text' a.0.0 b.0.0) b.0.1 t.0 u.0, (t.1, u.1)));
  again = λ p rest f.
      (ap (chain read read') (append_assoc (text p.0) (text' p.0 p.1) rest) ∙ rw (e.again p.0 (text' p.0 p.1 ++ rest) f.0, (e' p.0).again p.1 rest f.1) refl);
}

pub both_exact : {A B : Type 0} (text : A → List ℕ) (Fits : A → Type 0) (read : List ℕ → Result (A × List ℕ) Stop) (text' : B → List ℕ) (Fits' : B → Type 0) (read' : List ℕ → Result (B × List ℕ) Stop)
    → IsExact text Fits read → IsExact text' Fits' read' → IsExact (λ (p : A × B). text p.0 ++ text' p.1) (λ (p : A × B). Fits p.0 × Fits' p.1) (both read read')
both_exact text Fits read text' Fits' read' e e' = chain_exact text Fits read (λ a. text') (λ a. Fits') (λ a. read') e (λ a. e')

-- ---- what a part makes

pub made_takes : {A B : Type 0} (make : A → B) (text : A → List ℕ) (Fits : A → Type 0) (read : List ℕ → Result (A × List ℕ) Stop) (text' : B → List ℕ) (Fits' : B → Type 0)
    → IsExact text Fits read → ((a : A) → Fits a → (text a ≡ text' (make a)) × Fits' (make a))
    → (bytes : List ℕ) (b : B) (rest : List ℕ) → IsBytes bytes → made make read bytes ≡ Ok (b, rest) → Takes bytes (text' b) rest × Fits' b
made_takes {A} {B} make text Fits read text' Fits' e forth bytes b rest fits h =
    let a = bind_ok (read bytes) (λ x. Ok (make x.0, x.1)) (b, rest) h in
    let t = e.takes bytes a.0.0 a.0.1 fits a.1 in
    let f = forth a.0.0 t.1 in
    let made' : B × List ℕ = (make a.0.0, a.0.1) in
    subst (λ (y : B × List ℕ). Takes bytes (text' y.0) y.1 × Fits' y.0) (ok_is made' (b, rest) a.2) (subst (λ (z : List ℕ). Takes bytes z a.0.1) f.0 t.0, f.1)

pub made_again : {A B : Type 0} (make : A → B) (text : A → List ℕ) (Fits : A → Type 0) (read : List ℕ → Result (A × List ℕ) Stop) → IsExact text Fits read
    → (a : A) (rest : List ℕ) → Fits a → made make read (text a ++ rest) ≡ Ok (make a, rest)
made_again make text Fits read e a rest f = rw (e.again a rest f) refl

-- a part that stands for another one: each way, with the same bytes
pub record Stands {A B : Type 0} (make : A → B) (text : A → List ℕ) (Fits : A → Type 0) (text' : B → List ℕ) (Fits' : B → Type 0) : Type 0 where
  pub forth : (a : A) → Fits a → (text a ≡ text' (make a)) × Fits' (make a)
  pub back : (b : B) → Fits' b → (a : A) × Fits a × (make a ≡ b)

pub made_exact : {A B : Type 0} (make : A → B) (text : A → List ℕ) (Fits : A → Type 0) (read : List ℕ → Result (A × List ℕ) Stop) (text' : B → List ℕ) (Fits' : B → Type 0)
    → IsExact text Fits read → Stands make text Fits text' Fits' → IsExact text' Fits' (made make read)
made_exact {A} {B} make text Fits read text' Fits' e s = record {
  takes = λ bytes b rest fits h. made_takes make text Fits read text' Fits' e s.forth bytes b rest fits h;
  again = λ b rest f.
      (let w = s.back b f in
      subst (λ (y : B). made make read (text' y ++ rest) ≡ Ok (y, rest)) w.2 (subst (λ (z : List ℕ). made make read (z ++ rest) ≡ Ok (make w.0, rest)) (s.forth w.0 w.1).0 (made_again make text Fits read e w.0 rest w.1)));
}

-- ---- nothing, bytes and numbers

pub nothing_exact : {A : Type 0} (a : A) → IsExact (λ (x : A). []) (λ (x : A). x ≡ a) (λ bytes. Ok (a, bytes))
nothing_exact {A} a = record {
  takes = λ bytes x rest fits h.
      (let e : (a, bytes) ≡ (x, rest) = ok_is (a, bytes) (x, rest) h in
      (record { parts = ap (λ (y : A × List ℕ). y.1) e; rest_fits = subst IsBytes (ap (λ (y : A × List ℕ). y.1) e) fits }, sym (ap (λ (y : A × List ℕ). y.0) e)));
  again = λ x rest f. ap (λ (y : A). done (y, rest)) (sym f);
}

byte_takes : (bytes : List ℕ) (b : ℕ) (rest : List ℕ) → IsBytes bytes → byte_at bytes ≡ Ok (b, rest) → Takes bytes (b ∷ []) rest × (b < 256)
byte_takes [] b rest fits e = absurd cc
byte_takes (c ∷ bytes) b rest fits e =
    subst (λ (x : ℕ × List ℕ). Takes (c ∷ bytes) (x.0 ∷ []) x.1 × (x.0 < 256)) (ok_is (c, bytes) (b, rest) e) (record { parts = refl; rest_fits = IsBytes-rest c bytes fits }, fits 0)

pub byte_exact : IsExact (λ b. b ∷ []) (λ b. b < 256) byte_at
byte_exact = record { takes = byte_takes; again = λ b rest f. refl }

pub record IsWide (w : Width) (limit : ℕ) : Type 0 where
  pub len : (n : ℕ) → length (to_be_bytes w n) ≡ byte_len w
  pub back : (bytes : List ℕ) → length bytes ≡ byte_len w → IsBytes bytes → to_be_bytes w (from_be_bytes w bytes) ≡ bytes
  pub again : (n : ℕ) → n < limit → from_be_bytes w (to_be_bytes w n) ≡ n
  pub below : (bytes : List ℕ) → IsBytes bytes → from_be_bytes w bytes < limit

pub wide16 : IsWide w16 (2 ^ 16)
wide16 = record {
  len = λ n. refl;
  back = λ bytes len fits. be_bytes_2 bytes _ len fits refl;
  again = λ n lt. from_be_bytes-to_be_bytes_2 n lt;
  below = λ bytes fits. omega (arith, fits 0, fits 1);
}

pub wide32 : IsWide w32 (2 ^ 32)
wide32 = record {
  len = λ n. refl;
  back = λ bytes len fits. be_bytes_4 bytes _ len fits refl;
  again = λ n lt. from_be_bytes-to_be_bytes_4 n lt;
  below = λ bytes fits. omega (arith, fits 0, fits 1, fits 2, fits 3);
}

pub wide64 : IsWide w64 (2 ^ 64)
wide64 = record {
  len = λ n. refl;
  back = λ bytes len fits. be_bytes_8 bytes _ len fits refl;
  again = λ n lt. from_be_bytes-to_be_bytes_8 n lt;
  below = λ bytes fits. omega (arith, fits 0, fits 1, fits 2, fits 3, fits 4, fits 5, fits 6, fits 7);
}

number_takes : (w : Width) (limit : ℕ) (wide : IsWide w limit) (bytes : List ℕ) (n : ℕ) (rest : List ℕ) → IsBytes bytes → number_at w bytes ≡ Ok (n, rest) → Takes bytes (to_be_bytes w n) rest × (n < limit)
number_takes w limit wide bytes n rest fits e =
    let g = guard_ok (ltb (length bytes) (byte_len w)) Length (from_be_bytes w (take (byte_len w) bytes), drop (byte_len w) bytes) (n, rest) e in
    let long : byte_len w ≤ length bytes = ltb-false _ _ g.0 in
    let n-is : from_be_bytes w (take (byte_len w) bytes) ≡ n = ap (λ (p : ℕ × List ℕ). p.0) g.1 in
    let rest-is : drop (byte_len w) bytes ≡ rest = ap (λ (p : ℕ × List ℕ). p.1) g.1 in
    let front : to_be_bytes w n ≡ take (byte_len w) bytes = rw (← n-is) (wide.back (take (byte_len w) bytes) (omega (arith, length-take (byte_len w) bytes)) (IsBytes-take (byte_len w) bytes fits)) in
    (record { parts = rw (front, ← rest-is) (sym (take-append-drop (byte_len w) bytes)); rest_fits = rw (← rest-is) (IsBytes-drop (byte_len w) bytes fits) }, rw (← n-is) (wide.below (take (byte_len w) bytes) (IsBytes-take (byte_len w) bytes fits)))

number_again : (w : Width) (limit : ℕ) (wide : IsWide w limit) (n : ℕ) (rest : List ℕ) → n < limit → number_at w (to_be_bytes w n ++ rest) ≡ Ok (n, rest)
number_again w limit wide n rest lt =
    let len = wide.len n in
    let long : ltb (length (to_be_bytes w n ++ rest)) (byte_len w) ≡ false = le-ltb _ _ (omega (arith, length-append (to_be_bytes w n) rest)) in
    rw (long, take_at (to_be_bytes w n) rest (byte_len w) len, drop_at (to_be_bytes w n) rest (byte_len w) len, wide.again n lt) refl

pub number_exact : (w : Width) (limit : ℕ) → IsWide w limit → IsExact (to_be_bytes w) (λ n. n < limit) (number_at w)
number_exact w limit wide = record { takes = number_takes w limit wide; again = number_again w limit wide }

-- ---- a number between two others

pub record IsBetween (Fits : ℕ → Type 0) (least most : ℕ) (n : ℕ) : Type 0 where
  pub fits : Fits n
  pub low : least ≤ n
  pub high : n ≤ most

both_true : (a b : Bool) → a && b ≡ true → (a ≡ true) × (b ≡ true)
both_true true b h = (refl, h)
both_true false b h = absurd cc

both_are : (a b : Bool) → a ≡ true → b ≡ true → a && b ≡ true
both_are a b h k = rw (h, k) refl

pub within_exact : (text : ℕ → List ℕ) (Fits : ℕ → Type 0) (least most : ℕ) (read : List ℕ → Result (ℕ × List ℕ) Stop) → IsExact text Fits read → IsExact text (IsBetween Fits least most) (within least most read)
within_exact text Fits least most read e = record {
  takes = λ bytes n rest fits h.
      (let a = bind_ok (read bytes) (λ x. cond (nat_le least x.0 && nat_le x.0 most) (Ok x) (out_of_range bytes)) (n, rest) h in
      let p = passed (nat_le least a.0.0 && nat_le a.0.0 most) (Field (length bytes)) a.0 (n, rest) a.2 in
      let t = e.takes bytes a.0.0 a.0.1 fits a.1 in
      let q = both_true (nat_le least a.0.0) (nat_le a.0.0 most) p.0 in
      let low : least ≤ a.0.0 = search rules in
      let high : a.0.0 ≤ most = search rules in
      subst (λ (y : ℕ × List ℕ). Takes bytes (text y.0) y.1 × IsBetween Fits least most y.0) p.1 (t.0, record { fits = t.1; low = low; high = high }));
  again = λ n rest f.
      (let low : nat_le least n ≡ true = search (rules, f.low) in
      let high : nat_le n most ≡ true = search (rules, f.high) in
      rw (e.again n rest f.fits, both_are (nat_le least n) (nat_le n most) low high) refl);
}

-- ---- so many bytes

bytes_takes : (n : ℕ) (bytes text rest : List ℕ) → IsBytes bytes → bytes_at n bytes ≡ Ok (text, rest) → Takes bytes text rest × (length text ≡ n)
bytes_takes n bytes text rest fits e =
    let g = guard_ok (ltb (length bytes) n) Length (take n bytes, drop n bytes) (text, rest) e in
    let long : n ≤ length bytes = ltb-false _ _ g.0 in
    let len : length (take n bytes) ≡ n = omega (arith, length-take n bytes) in
    subst (λ (p : List ℕ × List ℕ). Takes bytes p.0 p.1 × (length p.0 ≡ n)) g.1 (record { parts = sym (take-append-drop n bytes); rest_fits = IsBytes-drop n bytes fits }, len)

bytes_again : (n : ℕ) (text rest : List ℕ) → length text ≡ n → bytes_at n (text ++ rest) ≡ Ok (text, rest)
bytes_again n text rest len =
    let long : ltb (length (text ++ rest)) n ≡ false = le-ltb _ _ (omega (arith, length-append text rest)) in
    rw (long, take_at text rest n len, drop_at text rest n len) refl

pub bytes_exact : (n : ℕ) → IsExact (λ text. text) (λ text. length text ≡ n) (bytes_at n)
bytes_exact n = record { takes = bytes_takes n; again = bytes_again n }
