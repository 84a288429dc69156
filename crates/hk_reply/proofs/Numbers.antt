-- That numbers are read exactly.
use Rattle.std.proofs.Common.{◌≡◌, ℕ, suc, ◌+◌, ◌-◌, ◌*◌, ◌<◌, ◌≤◌, List, [], ◌∷◌, ◌++◌, length, Bool, true, false, Option, Some, None, refl, ap, sym, arith, subst}
use Rattle.std.specs.Prelude.{Result, Ok, Err, ◌==◌, not, nat_le, if◌then◌else◌}
use Rattle.std.specs.Char.{is_ascii_digit}
use Rattle.std.proofs.lemmas.Bool.Decides.{nat_tests}
use Rattle.hk_reply.specs.declared.scan.Stop.{Stop}
use Rattle.hk_reply.specs.declared.scan.Stop.TheVariants.{Need, Bad}
use Rattle.hk_reply.specs.declared.scan.Tail.{Tail}
use Rattle.hk_reply.specs.declared.scan.Tail.TheVariants.{Space, Return, Either}
use Rattle.hk_reply.specs.Scans.{and_then, bad, longer, ends_at, number_from, number_at}
use Rattle.hk_reply.specs.Stops.{Begins, StopsAt}
use Rattle.hk_reply.proofs.Exact.{IsExact}
use Rattle.hk_reply.proofs.Simple.{heads, tails, both_are}

-- the digits make a number of another
abbrev pub Goes : ℕ → List ℕ → ℕ → Type 0
Goes v [] n = n ≡ v
Goes v (d ∷ ds) n = (is_ascii_digit d ≡ true) × (0 < v) × Goes (v * 10 + (d - 48)) ds n

-- the rest of a number, and the byte behind it
pub record IsRest (limit : ℕ) (tail : Tail) (v : ℕ) (x : ℕ × ℕ) (text : List ℕ) : Type 0 where
  pub digits : List ℕ
  pub is : text ≡ digits ++ x.1 ∷ []
  pub goes : Goes v digits x.0
  pub within : x.0 ≤ limit
  pub ends : ends_at tail x.1 ≡ true

goes_le : (v : ℕ) (ds : List ℕ) (n : ℕ) → Goes v ds n → v ≤ n
goes_le v [] n g = rw g (omega arith)
goes_le v (d ∷ ds) n g = let l = goes_le (v * 10 + (d - 48)) ds n g.2 in omega (arith, l)

digit_not_end : (tail : Tail) (d : ℕ) → is_ascii_digit d ≡ true → ends_at tail d ≡ false
unfolding ends_at
digit_not_end Space d h = grind (arith, nat_tests, h)
digit_not_end Return d h = grind (arith, nat_tests, h)
digit_not_end Either d h = grind (arith, nat_tests, h)

-- what one more digit makes
longer_by : (limit v b : ℕ) (s z l : Bool) (m : ℕ) → (if not s then None else (if z then None else (if l then Some (v * 10 + (b - 48)) else None))) ≡ Some m → (s ≡ true) × (z ≡ false) × (l ≡ true) × (v * 10 + (b - 48) ≡ m)
longer_by limit v b false z l m h = absurd (cc)
longer_by limit v b true true l m h = absurd (cc)
longer_by limit v b true false false m h = absurd (cc)
longer_by limit v b true false true m h = (refl, refl, refl, cc)

longer_is : (limit v b m : ℕ) → longer limit v b ≡ Some m → (is_ascii_digit b ≡ true) × (0 < v) × (v * 10 + (b - 48) ≡ m) × (m ≤ limit)
unfolding longer
longer_is limit v b m h =
    let t = longer_by limit v b (is_ascii_digit b) (v == 0) (nat_le (v * 10 + (b - 48)) limit) m h in
    let z = t.1 in
    let l = t.2 in
    let e = t.3 in
    (t.0, grind (arith, nat_tests, z), e, rw e at (below l))
  where
    below : nat_le (v * 10 + (b - 48)) limit ≡ true → v * 10 + (b - 48) ≤ limit
    below l = grind (arith, nat_tests, l)

is_longer : (limit v b : ℕ) → is_ascii_digit b ≡ true → 0 < v → v * 10 + (b - 48) ≤ limit → longer limit v b ≡ Some (v * 10 + (b - 48))
unfolding longer
is_longer limit v b d z l =
    let e : (v == 0) ≡ false = grind (arith, nat_tests, z) in
    let f : nat_le (v * 10 + (b - 48)) limit ≡ true = grind (arith, nat_tests, l) in
    rw (d, e, f) refl

abbrev number_by : ℕ → Tail → ℕ → ℕ → List ℕ → Bool → Option ℕ → Result ((ℕ × ℕ) × List ℕ) Stop
number_by limit tail v b bs e o = if e then Ok ((v, b), bs) else and_then o (bad (b ∷ bs)) (λ m. number_from limit tail m bs)

rest_more : (limit v b m : ℕ) (tail : Tail) (x : ℕ × ℕ) (text : List ℕ) → longer limit v b ≡ Some m → IsRest limit tail m x text → IsRest limit tail v x (b ∷ text)
rest_more limit v b m tail x text h q = let t = longer_is limit v b m h in record { digits = b ∷ q.digits; is = ap (λ z. b ∷ z) q.is; goes = (t.0, t.1, rw t.2 q.goes); within = q.within; ends = q.ends }

rest_less : (limit v b : ℕ) (tail : Tail) (x : ℕ × ℕ) (text : List ℕ) → ends_at tail b ≡ false → IsRest limit tail v x (b ∷ text) → (longer limit v b ≡ Some (v * 10 + (b - 48))) × IsRest limit tail (v * 10 + (b - 48)) x text
rest_less limit v b tail x text e q = at_digits q.digits q.is q.goes
  where
    at_digits : (ds : List ℕ) → b ∷ text ≡ ds ++ x.1 ∷ [] → Goes v ds x.0 → (longer limit v b ≡ Some (v * 10 + (b - 48))) × IsRest limit tail (v * 10 + (b - 48)) x text
    at_digits [] i g = absurd (let z : b ≡ x.1 = heads b x.1 text [] i in let y : ends_at tail x.1 ≡ false = rw z at e in let w = q.ends in cc)
    at_digits (d ∷ ds) i g =
        let z : d ≡ b = sym (heads b d text (ds ++ x.1 ∷ []) i) in
        let h : (is_ascii_digit b ≡ true) × (0 < v) × Goes (v * 10 + (b - 48)) ds x.0 = subst (λ y. (is_ascii_digit y ≡ true) × (0 < v) × Goes (v * 10 + (y - 48)) ds x.0) z g in
        let l = goes_le (v * 10 + (b - 48)) ds x.0 h.2 in
        let w = q.within in
        (is_longer limit v b h.0 h.1 (omega (arith, l, w)), record { digits = ds; is = tails b d text (ds ++ x.1 ∷ []) i; goes = h.2; within = w; ends = q.ends })

rest_found : (limit : ℕ) (tail : Tail) (v : ℕ) (bs : List ℕ) (x : ℕ × ℕ) (rest : List ℕ) → v ≤ limit → number_from limit tail v bs ≡ Ok (x, rest) → (text : List ℕ) × IsRest limit tail v x text × (bs ≡ text ++ rest)
rest_found limit tail v [] x rest l h = absurd (cc)
rest_found limit tail v (b ∷ bs) x rest l h = at_tests (ends_at tail b) (longer limit v b) refl refl (λ m k h. rest_found limit tail m bs x rest k h) h
  where
    at_tests : (e : Bool) (o : Option ℕ) → ends_at tail b ≡ e → longer limit v b ≡ o → ((m : ℕ) → m ≤ limit → number_from limit tail m bs ≡ Ok (x, rest) → (text : List ℕ) × IsRest limit tail m x text × (bs ≡ text ++ rest)) → number_by limit tail v b bs e o ≡ Ok (x, rest) → (text : List ℕ) × IsRest limit tail v x text × (b ∷ bs ≡ text ++ rest)
    at_tests true o p q ih h =
        let w = both_are (number_by limit tail v b bs true o) (v, b) x bs rest refl h in
        (b ∷ [], subst (λ z. IsRest limit tail v z (b ∷ [])) w.0 (record { digits = []; is = refl; goes = refl; within = l; ends = p }), ap (λ z. b ∷ z) w.1)
    at_tests false None p q ih h = absurd (cc)
    at_tests false (Some m) p q ih h = let t = ih m (longer_is limit v b m q).3 h in (b ∷ t.0, rest_more limit v b m tail x t.0 q t.1, ap (λ z. b ∷ z) t.2)

pub end_of : Tail → ℕ
end_of Space = 32
end_of Return = 13
end_of Either = 32

pub end_of_ends : (tail : Tail) → ends_at tail (end_of tail) ≡ true
unfolding ends_at end_of
end_of_ends Space = refl
end_of_ends Return = refl
end_of_ends Either = refl

rest_goes : (limit : ℕ) (tail : Tail) (v : ℕ) → v ≤ limit → Begins (IsRest limit tail v) []
rest_goes limit tail v l = ((v, end_of tail), end_of tail ∷ [], record { digits = []; is = refl; goes = refl; within = l; ends = end_of_ends tail })

rest_need : (limit : ℕ) (tail : Tail) (v : ℕ) (bs : List ℕ) → v ≤ limit → number_from limit tail v bs ≡ Err Need → Begins (IsRest limit tail v) bs
rest_need limit tail v [] l h = rest_goes limit tail v l
rest_need limit tail v (b ∷ bs) l h = at_tests (ends_at tail b) (longer limit v b) refl (λ m k h. rest_need limit tail m bs k h) h
  where
    at_tests : (e : Bool) (o : Option ℕ) → longer limit v b ≡ o → ((m : ℕ) → m ≤ limit → number_from limit tail m bs ≡ Err Need → Begins (IsRest limit tail m) bs) → number_by limit tail v b bs e o ≡ Err Need → Begins (IsRest limit tail v) (b ∷ bs)
    at_tests true o q ih h = absurd (cc)
    at_tests false None q ih h = absurd (cc)
    at_tests false (Some m) q ih h = let g = ih m (longer_is limit v b m q).3 h in (g.0, g.1, rest_more limit v b m tail g.0 (bs ++ g.1) q g.2)

rest_bad : (limit : ℕ) (tail : Tail) (v : ℕ) (bs : List ℕ) (left : ℕ) → v ≤ limit → number_from limit tail v bs ≡ Err (Bad left) → StopsAt (IsRest limit tail v) bs left
rest_bad limit tail v [] left l h = absurd (cc)
rest_bad limit tail v (b ∷ bs) left l h = at_tests (ends_at tail b) (longer limit v b) refl refl (λ m k h. rest_bad limit tail m bs left k h) h
  where
    stops : (m : ℕ) → longer limit v b ≡ Some m → ends_at tail b ≡ false → (front : List ℕ) → (Begins (IsRest limit tail m) front → ⊥) → Begins (IsRest limit tail v) (b ∷ front) → ⊥
    stops m q p front none g =
        let r = rest_less limit v b tail g.0 (front ++ g.1) p g.2 in
        let e : v * 10 + (b - 48) ≡ m = (longer_is limit v b m q).2 in
        none (g.0, g.1, rw e at r.1)

    at_tests : (e : Bool) (o : Option ℕ) → ends_at tail b ≡ e → longer limit v b ≡ o → ((m : ℕ) → m ≤ limit → number_from limit tail m bs ≡ Err (Bad left) → StopsAt (IsRest limit tail m) bs left) → number_by limit tail v b bs e o ≡ Err (Bad left) → StopsAt (IsRest limit tail v) (b ∷ bs) left
    at_tests true o p q ih h = absurd (cc)
    at_tests false None p q ih h = record { front = []; bad = b; back = bs; is = refl; at = (let e : suc (length bs) ≡ left = cc in sym e); goes = rest_goes limit tail v l; ends = λ g. (let r = rest_less limit v b tail g.0 g.1 p g.2 in let z = r.0 in cc) }
    at_tests false (Some m) p q ih h = let st = ih m (longer_is limit v b m q).3 h in record { front = b ∷ st.front; bad = st.bad; back = st.back; is = ap (λ z. b ∷ z) st.is; at = st.at; goes = (let g = st.goes in (g.0, g.1, rest_more limit v b m tail g.0 (st.front ++ g.1) q g.2)); ends = λ g. stops m q p (st.front ++ st.bad ∷ []) st.ends g }

rest_again : (limit : ℕ) (tail : Tail) (v : ℕ) (x : ℕ × ℕ) (ds rest : List ℕ) → Goes v ds x.0 → x.0 ≤ limit → ends_at tail x.1 ≡ true → number_from limit tail v ((ds ++ x.1 ∷ []) ++ rest) ≡ Ok (x, rest)
rest_again limit tail v x [] rest g w e = rw (e, sym g) refl
rest_again limit tail v x (d ∷ ds) rest g w e =
    let l = goes_le (v * 10 + (d - 48)) ds x.0 g.2 in
    rw (digit_not_end tail d g.0, is_longer limit v d g.0 g.1 (omega (arith, l, w))) (rest_again limit tail (v * 10 + (d - 48)) x ds rest g.2 w e)

-- a number, and the byte behind it
pub record IsDigits (limit : ℕ) (tail : Tail) (x : ℕ × ℕ) (text : List ℕ) : Type 0 where
  pub first : ℕ
  pub others : List ℕ
  pub is : text ≡ first ∷ others
  pub digit : is_ascii_digit first ≡ true
  pub rest : IsRest limit tail (first - 48) x others

small : (b : ℕ) → is_ascii_digit b ≡ true → b - 48 ≤ 9
small b h = grind (arith, nat_tests, h)

abbrev first_by : ℕ → Tail → ℕ → List ℕ → Bool → Result ((ℕ × ℕ) × List ℕ) Stop
first_by limit tail b bs t = if t then number_from limit tail (b - 48) bs else bad (b ∷ bs)

pub number_exact : (limit : ℕ) (tail : Tail) → 9 ≤ limit → IsExact (IsDigits limit tail) (number_at limit tail)
number_exact limit tail l n = record {
  found = λ bs x rest lt h. found_at bs x rest h;
  need = λ bs lt h. need_at bs h;
  bad = λ bs left lt h. bad_at bs left h;
  again = λ x text rest lt q. again_at x text rest q;
}
  where
    low : (b : ℕ) → is_ascii_digit b ≡ true → b - 48 ≤ limit
    low b h = let s = small b h in omega (arith, s, l)

    found_by : (b : ℕ) (bs : List ℕ) (x : ℕ × ℕ) (rest : List ℕ) (t : Bool) → is_ascii_digit b ≡ t → first_by limit tail b bs t ≡ Ok (x, rest) → (text : List ℕ) × IsDigits limit tail x text × (b ∷ bs ≡ text ++ rest)
    found_by b bs x rest true e h = let t = rest_found limit tail (b - 48) bs x rest (low b e) h in (b ∷ t.0, record { first = b; others = t.0; is = refl; digit = e; rest = t.1 }, ap (λ z. b ∷ z) t.2)
    found_by b bs x rest false e h = absurd (cc)

    found_at : (bs : List ℕ) (x : ℕ × ℕ) (rest : List ℕ) → number_at limit tail bs ≡ Ok (x, rest) → (text : List ℕ) × IsDigits limit tail x text × (bs ≡ text ++ rest)
    found_at [] x rest h = absurd (cc)
    found_at (b ∷ bs) x rest h = found_by b bs x rest (is_ascii_digit b) refl h

    need_by : (b : ℕ) (bs : List ℕ) (t : Bool) → is_ascii_digit b ≡ t → first_by limit tail b bs t ≡ Err Need → Begins (IsDigits limit tail) (b ∷ bs)
    need_by b bs true e h = let g = rest_need limit tail (b - 48) bs (low b e) h in (g.0, g.1, record { first = b; others = bs ++ g.1; is = refl; digit = e; rest = g.2 })
    need_by b bs false e h = absurd (cc)

    goes_at : Begins (IsDigits limit tail) []
    goes_at = let g = rest_goes limit tail 0 (omega arith) in (g.0, 48 ∷ g.1, record { first = 48; others = g.1; is = refl; digit = refl; rest = g.2 })

    need_at : (bs : List ℕ) → number_at limit tail bs ≡ Err Need → Begins (IsDigits limit tail) bs
    need_at [] h = goes_at
    need_at (b ∷ bs) h = need_by b bs (is_ascii_digit b) refl h

    inner : (b : ℕ) (text : List ℕ) (x : ℕ × ℕ) → IsDigits limit tail x (b ∷ text) → (is_ascii_digit b ≡ true) × IsRest limit tail (b - 48) x text
    inner b text x q =
        let e : q.first ≡ b = sym (heads b q.first text q.others q.is) in
        let f : q.others ≡ text = sym (tails b q.first text q.others q.is) in
        (rw e at q.digit, subst (λ z. IsRest limit tail (b - 48) x z) f (subst (λ z. IsRest limit tail (z - 48) x q.others) e q.rest))

    bad_by : (b : ℕ) (bs : List ℕ) (left : ℕ) (t : Bool) → is_ascii_digit b ≡ t → first_by limit tail b bs t ≡ Err (Bad left) → StopsAt (IsDigits limit tail) (b ∷ bs) left
    bad_by b bs left true e h = let st = rest_bad limit tail (b - 48) bs left (low b e) h in record { front = b ∷ st.front; bad = st.bad; back = st.back; is = ap (λ z. b ∷ z) st.is; at = st.at; goes = (let g = st.goes in (g.0, g.1, record { first = b; others = st.front ++ g.1; is = refl; digit = e; rest = g.2 })); ends = λ g. st.ends (g.0, g.1, (inner b ((st.front ++ st.bad ∷ []) ++ g.1) g.0 g.2).1) }
    bad_by b bs left false e h = record { front = []; bad = b; back = bs; is = refl; at = (let z : suc (length bs) ≡ left = cc in sym z); goes = goes_at; ends = λ g. (let z = (inner b g.1 g.0 g.2).0 in cc) }

    bad_at : (bs : List ℕ) (left : ℕ) → number_at limit tail bs ≡ Err (Bad left) → StopsAt (IsDigits limit tail) bs left
    bad_at [] left h = absurd (cc)
    bad_at (b ∷ bs) left h = bad_by b bs left (is_ascii_digit b) refl h

    again_at : (x : ℕ × ℕ) (text rest : List ℕ) → IsDigits limit tail x text → number_at limit tail (text ++ rest) ≡ Ok (x, rest)
    again_at x text rest q = rw (q.is, q.digit, q.rest.is) (rest_again limit tail (q.first - 48) x q.rest.digits rest q.rest.goes q.rest.within q.rest.ends)
