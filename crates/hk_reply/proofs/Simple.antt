-- That texts, data and keys are read exactly.
use Rattle.std.proofs.Common.{◌≡◌, ℕ, zero, suc, ◌+◌, ◌-◌, ◌<◌, ◌≤◌, List, [], ◌∷◌, ◌++◌, length, take, drop, Bool, true, false, Some, None, refl, ap, ◌∙◌, sym, arith, length-append}
use Rattle.std.specs.Prelude.{Result, Ok, Err, ◌==◌, ◌&&◌, ◌||◌, not, nat_lt, position, if◌then◌else◌}
use Rattle.std.specs.List.{position_or_len}
use Rattle.std.proofs.lemmas.Bool.Decides.{nat_tests}
use Rattle.std.proofs.lemmas.List.{take-append-drop}
use Rattle.hk_base.specs.KeyBytes.{is_bad_byte}
use Rattle.hk_base.specs.declared.key.TheConstants.{MAX_KEY_LEN}
use Rattle.hk_reply.specs.declared.scan.Stop.{Stop}
use Rattle.hk_reply.specs.declared.scan.Stop.TheVariants.{Need, Bad}
use Rattle.hk_reply.specs.Scans.{bad, literal_at, data_at}
use Rattle.hk_reply.specs.Stops.{Begins, StopsAt}
use Rattle.hk_reply.proofs.Exact.{IsExact}

pub heads : (x y : ℕ) (xs ys : List ℕ) → x ∷ xs ≡ y ∷ ys → x ≡ y
heads x y xs ys h = cc

pub tails : (x y : ℕ) (xs ys : List ℕ) → x ∷ xs ≡ y ∷ ys → xs ≡ ys
tails x y xs ys h = cc

pub bad_left : {A : Type 0} (m n : ℕ) (r : Result A Stop) → r ≡ Err (Bad m) → r ≡ Err (Bad n) → n ≡ m
bad_left m n r h k = cc

pub true_eq : (a b : ℕ) → (a == b) ≡ true → a ≡ b
true_eq a b h = grind (arith, nat_tests)

pub false_ne : (a b : ℕ) → (a == b) ≡ false → a ≡ b → ⊥
false_ne a b h e = grind (arith, nat_tests)

pub pair_of : {A B : Type 0} (p q : A × B) → p ≡ q → (p.0 ≡ q.0) × (p.1 ≡ q.1)
pair_of p q e = (ap (λ x. x.0) e, ap (λ x. x.1) e)

pub ok_same : {A : Type 0} (p q : A) (r : Result A Stop) → r ≡ Ok p → r ≡ Ok q → p ≡ q
ok_same p q r h k = cc

pub both_are : {A : Type 0} (r : Result (A × List ℕ) Stop) (a b : A) (xs ys : List ℕ) → r ≡ Ok (a, xs) → r ≡ Ok (b, ys) → (a ≡ b) × (xs ≡ ys)
both_are r a b xs ys h k = pair_of (a, xs) (b, ys) (ok_same (a, xs) (b, ys) r h k)

both_same : (a b xs ys : List ℕ) → a ≡ b → xs ≡ ys → a ++ xs ≡ b ++ ys
both_same a b xs ys p q = rw (p, q) refl

-- a text
abbrev pub IsThis : List ℕ → Unit {0} → List ℕ → Type 0
IsThis t u text = text ≡ t

literal_found : (t bs : List ℕ) (u : Unit {0}) (rest : List ℕ) → literal_at t bs ≡ Ok (u, rest) → bs ≡ t ++ rest
literal_found [] bs u rest h = (both_are (literal_at [] bs) tt u bs rest refl h).1
literal_found (c ∷ cs) [] u rest h = absurd (cc)
literal_found (c ∷ cs) (b ∷ bs) u rest h = at_test (b == c) (λ e. true_eq b c e) (λ k. literal_found cs bs u rest k) h
  where
    at_test : (t : Bool) → (t ≡ true → b ≡ c) → (literal_at cs bs ≡ Ok (u, rest) → bs ≡ cs ++ rest) → (if t then literal_at cs bs else bad (b ∷ bs)) ≡ Ok (u, rest) → b ∷ bs ≡ c ∷ (cs ++ rest)
    at_test true p ih h = rw (p refl, ih h) refl
    at_test false p ih h = absurd (cc)

literal_need : (t bs : List ℕ) → literal_at t bs ≡ Err Need → (more : List ℕ) × (bs ++ more ≡ t)
literal_need [] bs h = absurd (cc)
literal_need (c ∷ cs) [] h = (c ∷ cs, refl)
literal_need (c ∷ cs) (b ∷ bs) h = at_test (b == c) (λ e. true_eq b c e) (λ k. literal_need cs bs k) h
  where
    at_test : (t : Bool) → (t ≡ true → b ≡ c) → (literal_at cs bs ≡ Err Need → (more : List ℕ) × (bs ++ more ≡ cs)) → (if t then literal_at cs bs else bad (b ∷ bs)) ≡ Err Need → (more : List ℕ) × (b ∷ (bs ++ more) ≡ c ∷ cs)
    at_test true p ih h = let m = ih h in (m.0, rw (p refl, m.1) refl)
    at_test false p ih h = absurd (cc)

literal_bad : (t bs : List ℕ) (left : ℕ) → literal_at t bs ≡ Err (Bad left) → StopsAt (IsThis t) bs left
literal_bad [] bs left h = absurd (cc)
literal_bad (c ∷ cs) [] left h = absurd (cc)
literal_bad (c ∷ cs) (b ∷ bs) left h = at_test (b == c) refl (λ k. literal_bad cs bs left k) h
  where
    at_test : (t : Bool) → (b == c) ≡ t → (literal_at cs bs ≡ Err (Bad left) → StopsAt (IsThis cs) bs left) → (if t then literal_at cs bs else bad (b ∷ bs)) ≡ Err (Bad left) → StopsAt (IsThis (c ∷ cs)) (b ∷ bs) left
    at_test true p ih h =
        let st = ih h in
        let e : b ≡ c = true_eq b c p in
        record { front = b ∷ st.front; bad = st.bad; back = st.back; is = ap (λ x. b ∷ x) st.is; at = st.at; goes = (tt, st.goes.1, rw (e, st.goes.2) refl); ends = λ g. st.ends (tt, g.1, tails b c _ _ g.2) }
    at_test false p ih h = record { front = []; bad = b; back = bs; is = refl; at = (let e : suc (length bs) ≡ left = cc in sym e); goes = (tt, c ∷ cs, refl); ends = λ g. false_ne b c p (heads b c _ _ g.2) }

literal_again : (t rest : List ℕ) → literal_at t (t ++ rest) ≡ Ok (tt, rest)
literal_again [] rest = refl
literal_again (c ∷ cs) rest = let e : (c == c) ≡ true = grind (arith, nat_tests) in rw e (literal_again cs rest)

pub literal_exact : (t : List ℕ) → IsExact (IsThis t) (literal_at t)
literal_exact t n = record {
  found = λ bs a rest lt h. (t, refl, literal_found t bs a rest h);
  need = λ bs lt h. (let m = literal_need t bs h in (tt, m.0, m.1));
  bad = λ bs left lt h. literal_bad t bs left h;
  again = λ a text rest lt q. rw q (literal_again t rest);
}

-- data
abbrev pub IsLong : ℕ → List ℕ → List ℕ → Type 0
IsLong n d text = (text ≡ d) × (length d ≡ n)

zeros : ℕ → List ℕ
zeros zero = []
zeros (suc n) = 0 ∷ zeros n

length_zeros : (n : ℕ) → length (zeros n) ≡ n
unfolding zeros
length_zeros zero = refl
length_zeros (suc n) = ap suc (length_zeros n)

pub take_all : (d rest : List ℕ) → take (length d) (d ++ rest) ≡ d
take_all [] rest = refl
take_all (x ∷ d) rest = ap (λ z. x ∷ z) (take_all d rest)

pub drop_all : (d rest : List ℕ) → drop (length d) (d ++ rest) ≡ rest
drop_all [] rest = refl
drop_all (x ∷ d) rest = drop_all d rest

length_take : (n : ℕ) (bs : List ℕ) → n ≤ length bs → length (take n bs) ≡ n
length_take zero bs l = refl
length_take (suc n) [] l = absurd (grind (arith, l))
length_take (suc n) (b ∷ bs) l = ap suc (length_take n bs (grind (arith, l)))

abbrev data_by : ℕ → List ℕ → Bool → Result (List ℕ × List ℕ) Stop
data_by len bs t = if t then Err Need else Ok (take len bs, drop len bs)

pub data_exact : (len : ℕ) → IsExact (IsLong len) (data_at len)
unfolding data_at
data_exact len n = record {
  found = λ bs d rest lt h. found_at bs d rest (nat_lt (length bs) len) refl h;
  need = λ bs lt h. need_at bs (nat_lt (length bs) len) refl h;
  bad = λ bs left lt h. absurd (bad_at bs left (nat_lt (length bs) len) h);
  again = λ d text rest lt q. again_at d text rest q;
}
  where
    found_at : (bs d rest : List ℕ) (t : Bool) → nat_lt (length bs) len ≡ t → data_by len bs t ≡ Ok (d, rest) → (text : List ℕ) × IsLong len d text × (bs ≡ text ++ rest)
    found_at bs d rest true e h = absurd (cc)
    found_at bs d rest false e h =
        let p = both_are (data_by len bs false) (take len bs) d (drop len bs) rest refl h in
        let l : len ≤ length bs = grind (arith, nat_tests, e) in
        (d, (refl, ap length (sym p.0) ∙ length_take len bs l), sym (take-append-drop len bs) ∙ both_same (take len bs) d (drop len bs) rest p.0 p.1)

    need_at : (bs : List ℕ) (t : Bool) → nat_lt (length bs) len ≡ t → data_by len bs t ≡ Err Need → Begins (IsLong len) bs
    need_at bs true e h = let l : length bs < len = grind (arith, nat_tests, e) in (bs ++ zeros (len - length bs), zeros (len - length bs), (refl, (let z = length_zeros (len - length bs) in grind (arith, length-append, z, l))))
    need_at bs false e h = absurd (cc)

    bad_at : (bs : List ℕ) (left : ℕ) (t : Bool) → data_by len bs t ≡ Err (Bad left) → ⊥
    bad_at bs left true h = cc
    bad_at bs left false h = cc

    again_at : (d text rest : List ℕ) → IsLong len d text → data_by len (text ++ rest) (nat_lt (length (text ++ rest)) len) ≡ Ok (d, rest)
    again_at d text rest q =
        let e : nat_lt (length (d ++ rest)) len ≡ false = (let l = q.1 in grind (arith, nat_tests, length-append, l)) in
        rw (q.0, e, sym q.1, take_all d rest, drop_all d rest) refl

-- keys
none_of : (b : Bool) (x : ℕ) → (if b then Some x else None) ≡ None → b ≡ false
none_of true x h = absurd (cc)
none_of false x h = refl

split_at : (t : Bool) (m l : ℕ) → nat_lt (if not t then 1 + m else 0) (suc l) ≡ false → (t ≡ false) × (nat_lt m l ≡ false)
split_at true m l h = absurd (grind (arith, nat_tests, h))
split_at false m l h = (refl, grind (arith, nat_tests, h))

join_at : (t : Bool) (m l : ℕ) → t ≡ false → nat_lt m l ≡ false → nat_lt (if not t then 1 + m else 0) (suc l) ≡ false
join_at true m l e h = absurd (cc)
join_at false m l e h = grind (arith, nat_tests, h)

pub clean_split : (b : ℕ) (k : List ℕ) → position is_bad_byte (b ∷ k) ≡ None → (is_bad_byte b ≡ false) × (position is_bad_byte k ≡ None)
clean_split b k h =
    let lt = none_of (nat_lt (position_or_len is_bad_byte (b ∷ k)) (length (b ∷ k))) _ h in
    let s = split_at (is_bad_byte b) (position_or_len is_bad_byte k) (length k) lt in
    (s.0, rw s.1 refl)

pub clean_cons : (b : ℕ) (k : List ℕ) → is_bad_byte b ≡ false → position is_bad_byte k ≡ None → position is_bad_byte (b ∷ k) ≡ None
clean_cons b k e h =
    let lt = none_of (nat_lt (position_or_len is_bad_byte k) (length k)) _ h in
    rw (join_at (is_bad_byte b) (position_or_len is_bad_byte k) (length k) e lt) refl

-- a key of which n bytes were read, and the space behind it
pub record IsKeyText (n : ℕ) (k : List ℕ) (text : List ℕ) : Type 0 where
  pub is : text ≡ k ++ 32 ∷ []
  pub clean : position is_bad_byte k ≡ None
  pub some : 1 ≤ n + length k
  pub short : n + length k ≤ MAX_KEY_LEN

abbrev pub ends_key : ℕ → ℕ → Bool
ends_key n b = (b == 32) && nat_lt 0 n

abbrev pub stops_key : ℕ → ℕ → Bool
stops_key n b = is_bad_byte b || (n == MAX_KEY_LEN)

pub ends_is : (n b : ℕ) → ends_key n b ≡ true → (b ≡ 32) × (0 < n)
ends_is n b h = at_tests (b == 32) (nat_lt 0 n) (λ e. true_eq b 32 e) (λ e. grind (arith, nat_tests, e)) h
  where
    at_tests : (s t : Bool) → (s ≡ true → b ≡ 32) → (t ≡ true → 0 < n) → (s && t) ≡ true → (b ≡ 32) × (0 < n)
    at_tests true true p q h = (p refl, q refl)
    at_tests true false p q h = absurd (cc)
    at_tests false t p q h = absurd (cc)

pub ends_not : (n b : ℕ) → ends_key n b ≡ false → b ≡ 32 → 0 < n → ⊥
ends_not n b h e l = let t : ends_key n b ≡ true = grind (arith, nat_tests, e, l) in cc

pub stops_is : (n b : ℕ) → stops_key n b ≡ false → (is_bad_byte b ≡ false) × ((n == MAX_KEY_LEN) ≡ false)
stops_is n b h = at_tests (is_bad_byte b) (n == MAX_KEY_LEN) h
  where
    at_tests : (s t : Bool) → (s || t) ≡ false → (s ≡ false) × (t ≡ false)
    at_tests true t h = absurd (cc)
    at_tests false true h = absurd (cc)
    at_tests false false h = (refl, refl)

pub stops_not : (n b : ℕ) → stops_key n b ≡ true → is_bad_byte b ≡ false → n + 1 ≤ MAX_KEY_LEN → ⊥
stops_not n b h e l = let t : (n == MAX_KEY_LEN) ≡ false = grind (arith, nat_tests, l) in let u : stops_key n b ≡ false = rw (e, t) refl in cc

pub not_bad_not_end : (n b : ℕ) → is_bad_byte b ≡ false → ends_key n b ≡ false
not_bad_not_end n b h = grind (arith, nat_tests, h)
