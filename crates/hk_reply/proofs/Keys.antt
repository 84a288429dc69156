-- That keys are read exactly.
use Rattle.std.proofs.Common.{◌≡◌, ℕ, zero, suc, ◌+◌, ◌<◌, ◌≤◌, List, [], ◌∷◌, ◌++◌, length, Bool, true, false, None, refl, ap, ◌∙◌, sym, arith, subst, inl, inr}
use Rattle.std.specs.Prelude.{Result, Ok, Err, ◌==◌, nat_lt, position, if◌then◌else◌}
use Rattle.std.proofs.lemmas.Bool.Decides.{nat_tests}
use Rattle.hk_base.specs.KeyBytes.{is_bad_byte}
use Rattle.hk_base.specs.declared.key.TheConstants.{MAX_KEY_LEN}
use Rattle.hk_reply.specs.declared.scan.Stop.{Stop}
use Rattle.hk_reply.specs.declared.scan.Stop.TheVariants.{Need, Bad}
use Rattle.hk_reply.specs.Scans.{◌>>=◌, bad, key_from}
use Rattle.hk_reply.specs.Stops.{Begins, StopsAt}
use Rattle.hk_reply.proofs.Exact.{IsExact, bind_ok, bind_err}
use Rattle.hk_reply.proofs.Parts.{key_short}
use Rattle.hk_reply.proofs.Simple.{heads, tails, both_are, IsKeyText, ends_key, stops_key, ends_is, ends_not, stops_is, stops_not, not_bad_not_end, clean_split, clean_cons}

abbrev behind : ℕ → ℕ → List ℕ → Result (List ℕ × List ℕ) Stop
behind n b bs = key_from (n + 1) bs >>= λ k. Ok (b ∷ k.0, k.1)

abbrev key_by : ℕ → ℕ → List ℕ → Bool → Bool → Result (List ℕ × List ℕ) Stop
key_by n b bs e s = if e then Ok ([], bs) else (if s then bad (b ∷ bs) else behind n b bs)

one_more : (n b : ℕ) (k text : List ℕ) → is_bad_byte b ≡ false → IsKeyText (n + 1) k text → IsKeyText n (b ∷ k) (b ∷ text)
one_more n b k text e q = let s = q.short in record { is = ap (λ x. b ∷ x) q.is; clean = clean_cons b k e q.clean; some = grind arith; short = grind (arith, s) }

one_less : (n b c : ℕ) (k text : List ℕ) → IsKeyText n (c ∷ k) (b ∷ text) → (b ≡ c) × (is_bad_byte b ≡ false) × IsKeyText (n + 1) k text
one_less n b c k text q =
    let e = heads b c text (k ++ 32 ∷ []) q.is in
    let p = clean_split c k q.clean in
    let s = q.short in
    (e, rw e p.0, record { is = tails b c text (k ++ 32 ∷ []) q.is; clean = p.1; some = grind arith; short = grind (arith, s) })

no_more : (n b : ℕ) (text : List ℕ) → IsKeyText n [] (b ∷ text) → (b ≡ 32) × (0 < n)
no_more n b text q = let s = q.some in (heads b 32 text [] q.is, grind (arith, s))

key_found : (n : ℕ) (bs k rest : List ℕ) → n ≤ MAX_KEY_LEN → key_from n bs ≡ Ok (k, rest) → (text : List ℕ) × IsKeyText n k text × (bs ≡ text ++ rest)
key_found n [] k rest l h = absurd (cc)
key_found n (b ∷ bs) k rest l h = at_tests (ends_key n b) (stops_key n b) refl refl (λ k rest m h. key_found (n + 1) bs k rest m h) h
  where
    at_tests : (e s : Bool) → ends_key n b ≡ e → stops_key n b ≡ s → ((k rest : List ℕ) → n + 1 ≤ MAX_KEY_LEN → key_from (n + 1) bs ≡ Ok (k, rest) → (text : List ℕ) × IsKeyText (n + 1) k text × (bs ≡ text ++ rest)) → key_by n b bs e s ≡ Ok (k, rest) → (text : List ℕ) × IsKeyText n k text × (b ∷ bs ≡ text ++ rest)
    at_tests true s p q ih h =
        let w = both_are (key_by n b bs true s) [] k bs rest refl h in
        let e = ends_is n b p in
        (32 ∷ [], record { is = rw (sym w.0) refl; clean = rw (sym w.0) refl; some = rw (sym w.0) (let z = e.1 in grind (arith, z)); short = rw (sym w.0) (grind (arith, l)) }, rw (e.0, w.1) refl)
    at_tests false true p q ih h = absurd (cc)
    at_tests false false p q ih h =
        let x = bind_ok (key_from (n + 1) bs) (λ k. Ok (b ∷ k.0, k.1)) (k, rest) h in
        let t = ih x.0.0 x.0.1 (key_short n b q l) x.1 in
        let w = both_are (Ok (b ∷ x.0.0, x.0.1)) (b ∷ x.0.0) k x.0.1 rest refl x.2 in
        (b ∷ t.0, subst (λ z. IsKeyText n z (b ∷ t.0)) w.0 (one_more n b x.0.0 t.0 (stops_is n b q).0 t.1), ap (λ z. b ∷ z) (t.2 ∙ ap (λ z. t.0 ++ z) w.1))

pub key_goes : (n : ℕ) → n ≤ MAX_KEY_LEN → Begins (IsKeyText n) []
key_goes zero l = (107 ∷ [], 107 ∷ 32 ∷ [], record { is = refl; clean = refl; some = omega arith; short = omega arith })
key_goes (suc n) l = ([], 32 ∷ [], record { is = refl; clean = refl; some = grind arith; short = grind (arith, l) })

key_need : (n : ℕ) (bs : List ℕ) → n ≤ MAX_KEY_LEN → key_from n bs ≡ Err Need → Begins (IsKeyText n) bs
key_need n [] l h = key_goes n l
key_need n (b ∷ bs) l h = at_tests (ends_key n b) (stops_key n b) refl (λ m h. key_need (n + 1) bs m h) h
  where
    at_tests : (e s : Bool) → stops_key n b ≡ s → (n + 1 ≤ MAX_KEY_LEN → key_from (n + 1) bs ≡ Err Need → Begins (IsKeyText (n + 1)) bs) → key_by n b bs e s ≡ Err Need → Begins (IsKeyText n) (b ∷ bs)
    at_tests true s q ih h = absurd (cc)
    at_tests false true q ih h = absurd (cc)
    at_tests false false q ih h = elim (bind_err (key_from (n + 1) bs) (λ k. Ok (b ∷ k.0, k.1)) Need h) [ inl e ↦ (let g = ih (key_short n b q l) e in (b ∷ g.0, g.1, one_more n b g.0 (bs ++ g.1) (stops_is n b q).0 g.2)) | inr x ↦ absurd (let z : Ok (b ∷ x.0.0, x.0.1) ≡ Err Need = x.2 in cc) ]

key_ends : (n b : ℕ) (tail : List ℕ) → ends_key n b ≡ false → (Begins (IsKeyText (n + 1)) tail → ⊥) → Begins (IsKeyText n) (b ∷ tail) → ⊥
key_ends n b tail p none g = at_key g.0 g.2
  where
    at_key : (k : List ℕ) → IsKeyText n k (b ∷ (tail ++ g.1)) → ⊥
    at_key [] q = let z = no_more n b (tail ++ g.1) q in ends_not n b p z.0 z.1
    at_key (c ∷ k) q = let z = one_less n b c k (tail ++ g.1) q in none (k, g.1, z.2)

key_stops : (n b : ℕ) (k more : List ℕ) → ends_key n b ≡ false → stops_key n b ≡ true → IsKeyText n k (b ∷ more) → ⊥
key_stops n b [] more p q t = let z = no_more n b more t in ends_not n b p z.0 z.1
key_stops n b (c ∷ k) more p q t = let z = one_less n b c k more t in stops_not n b q z.1 (let s = z.2.short in grind (arith, s))

key_bad : (n : ℕ) (bs : List ℕ) (left : ℕ) → n ≤ MAX_KEY_LEN → key_from n bs ≡ Err (Bad left) → StopsAt (IsKeyText n) bs left
key_bad n [] left l h = absurd (cc)
key_bad n (b ∷ bs) left l h = at_tests (ends_key n b) (stops_key n b) refl refl (λ m h. key_bad (n + 1) bs left m h) h
  where
    at_tests : (e s : Bool) → ends_key n b ≡ e → stops_key n b ≡ s → (n + 1 ≤ MAX_KEY_LEN → key_from (n + 1) bs ≡ Err (Bad left) → StopsAt (IsKeyText (n + 1)) bs left) → key_by n b bs e s ≡ Err (Bad left) → StopsAt (IsKeyText n) (b ∷ bs) left
    at_tests true s p q ih h = absurd (cc)
    at_tests false true p q ih h = record { front = []; bad = b; back = bs; is = refl; at = (let e : suc (length bs) ≡ left = cc in sym e); goes = key_goes n l; ends = λ g. key_stops n b g.0 g.1 p q g.2 }
    at_tests false false p q ih h = elim (bind_err (key_from (n + 1) bs) (λ k. Ok (b ∷ k.0, k.1)) (Bad left) h) [ inl e ↦ (let st = ih (key_short n b q l) e in record { front = b ∷ st.front; bad = st.bad; back = st.back; is = ap (λ z. b ∷ z) st.is; at = st.at; goes = (let g = st.goes in (b ∷ g.0, g.1, one_more n b g.0 (st.front ++ g.1) (stops_is n b q).0 g.2)); ends = λ g. key_ends n b (st.front ++ st.bad ∷ []) p st.ends g }) | inr x ↦ absurd (let z : Ok (b ∷ x.0.0, x.0.1) ≡ Err (Bad left) = x.2 in cc) ]

at_key : (n : ℕ) (k rest : List ℕ) → position is_bad_byte k ≡ None → 1 ≤ n + length k → n + length k ≤ MAX_KEY_LEN → key_from n ((k ++ 32 ∷ []) ++ rest) ≡ Ok (k, rest)
at_key n [] rest c s l = let e : nat_lt 0 n ≡ true = grind (arith, nat_tests, s) in rw e refl
at_key n (b ∷ k) rest c s l =
    let p = clean_split b k c in
    let e : ends_key n b ≡ false = not_bad_not_end n b p.0 in
    let t : (n == MAX_KEY_LEN) ≡ false = grind (arith, nat_tests, l) in
    let ih = at_key (n + 1) k rest p.1 (grind arith) (grind (arith, l)) in
    rw (e, p.0, t, ih) refl

key_again : (n : ℕ) (k text rest : List ℕ) → IsKeyText n k text → key_from n (text ++ rest) ≡ Ok (k, rest)
key_again n k text rest q = rw q.is (at_key n k rest q.clean q.some q.short)

pub key_exact : IsExact (IsKeyText 0) (key_from 0)
key_exact n = record {
  found = λ bs k rest lt h. key_found 0 bs k rest (omega arith) h;
  need = λ bs lt h. key_need 0 bs (omega arith) h;
  bad = λ bs left lt h. key_bad 0 bs left (omega arith) h;
  again = λ k text rest lt q. key_again 0 k text rest q;
}
