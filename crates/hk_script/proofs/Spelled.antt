-- The bytes of a word: what is read is spelled so, and what is spelled so is read.
use Rattle.std.proofs.Common.{◌≡◌, ℕ, zero, suc, ◌+◌, ◌*◌, ◌-◌, ◌/◌, ◌%◌, ◌<◌, ◌≤◌, inl, inr, List, [], ◌∷◌, ◌++◌, length, Bool, true, false, ◌&&◌, Some, nat_lt, nat_le, ◌==◌, refl, sym, ap, subst, ◌∙◌, arith, ⊎_elim, not, length-append}
use Rattle.std.specs.List.{flat_map, AllByRecursion}
use Rattle.std.specs.Option.{option_map}
use Rattle.std.proofs.lemmas.Bool.{cases_lt, false≢true}
use Rattle.std.proofs.lemmas.Bool.Decides.{nat_tests}
use Rattle.hk_script.specs.Words.{is_plain, hexadecimal, spelled}
use Rattle.hk_script.specs.Parts.{digit_of, escape_of, escaped_at, byte_at, unspelled}
use Rattle.hk_script.proofs.Choices.{chosen, held, failed, bind_some, map_some, some_same, both}

abbrev pub AreBytes : List ℕ → Type 0
AreBytes bytes = AllByRecursion (λ b. b < 256) bytes

-- ---- digits
hex_low : (d : ℕ) → d < 10 → hexadecimal d ≡ 48 + d
hex_low d lt = let t : nat_lt d 10 ≡ true = grind (arith, nat_tests) in rw t refl

hex_high : (d : ℕ) → 10 ≤ d → hexadecimal d ≡ 55 + d
hex_high d le = let t : nat_lt d 10 ≡ false = grind (arith, nat_tests) in rw t refl

low_takes : (b d : ℕ) → (nat_le 48 b && nat_le b 57) ≡ true → b - 48 ≡ d → (d < 16) × (b ≡ hexadecimal d)
low_takes b d e same =
    let t = both (nat_le 48 b) (nat_le b 57) e in
    let above : 48 ≤ b = (let p = t.0 in grind (arith, nat_tests, p)) in
    let below : b ≤ 57 = (let p = t.1 in grind (arith, nat_tests, p)) in
    let is : b ≡ 48 + d = omega arith in
    (omega arith, is ∙ sym (hex_low d (omega arith)))

high_takes : (b d : ℕ) → (nat_le 65 b && nat_le b 70) ≡ true → b - 55 ≡ d → (d < 16) × (b ≡ hexadecimal d)
high_takes b d e same =
    let t = both (nat_le 65 b) (nat_le b 70) e in
    let above : 65 ≤ b = (let p = t.0 in grind (arith, nat_tests, p)) in
    let below : b ≤ 70 = (let p = t.1 in grind (arith, nat_tests, p)) in
    let is : b ≡ 55 + d = omega arith in
    (omega arith, is ∙ sym (hex_high d (omega arith)))

pub digit_takes : (b d : ℕ) → digit_of b ≡ Some d → (d < 16) × (b ≡ hexadecimal d)
unfolding digit_of
digit_takes b d e = ⊎_elim
    (λ low. low_takes b d low.0 (some_same (b - 48) d low.1))
    (λ high. let h = held (nat_le 65 b && nat_le b 70) (Some (b - 55)) d high.1 in high_takes b d h.0 (some_same (b - 55) d h.1))
    (chosen (nat_le 48 b && nat_le b 57) _ _ (Some d) e)

low_again : (d : ℕ) → d < 10 → digit_of (48 + d) ≡ Some d
unfolding digit_of
low_again d lt =
    let a : nat_le 48 (48 + d) ≡ true = grind (arith, nat_tests) in
    let b : nat_le (48 + d) 57 ≡ true = grind (arith, nat_tests) in
    let is : 48 + d - 48 ≡ d = omega arith in
    rw (a, b, is) refl

high_again : (d : ℕ) → 10 ≤ d → d < 16 → digit_of (55 + d) ≡ Some d
unfolding digit_of
high_again d le lt =
    let a : nat_le 48 (55 + d) ≡ true = grind (arith, nat_tests) in
    let b : nat_le (55 + d) 57 ≡ false = grind (arith, nat_tests) in
    let c : nat_le 65 (55 + d) ≡ true = grind (arith, nat_tests) in
    let f : nat_le (55 + d) 70 ≡ true = grind (arith, nat_tests) in
    let is : 55 + d - 55 ≡ d = omega arith in
    rw (a, b, c, f, is) refl

pub digit_again : (d : ℕ) → d < 16 → digit_of (hexadecimal d) ≡ Some d
digit_again d lt = elim (cases_lt d 10) [
  | inl low ↦ ap digit_of (hex_low d low) ∙ low_again d low
  | inr high ↦ ap digit_of (hex_high d high) ∙ high_again d high lt
]

-- ---- two digits
pub escape_takes : (h l b : ℕ) → escape_of h l ≡ Some b → (b < 256) × (is_plain b ≡ false) × (h ≡ hexadecimal (b / 16)) × (l ≡ hexadecimal (b % 16))
unfolding escape_of
escape_takes h l b e =
    let high = bind_some (digit_of h) _ b e in
    let low = bind_some (digit_of l) _ b high.2 in
    let p = failed (is_plain (16 * high.0 + low.0)) _ b low.2 in
    let same : 16 * high.0 + low.0 ≡ b = some_same _ _ p.1 in
    let x = digit_takes h high.0 high.1 in
    let y = digit_takes l low.0 low.1 in
    let hi : high.0 ≡ b / 16 = (let s = same in let m = x.0 in let n = y.0 in omega (arith, s, m, n)) in
    let lo : low.0 ≡ b % 16 = (let s = same in let m = x.0 in let n = y.0 in omega (arith, s, m, n)) in
    ((let s = same in let m = x.0 in let n = y.0 in omega (arith, s, m, n)), subst (λ k. is_plain k ≡ false) same p.0, x.1 ∙ ap hexadecimal hi, y.1 ∙ ap hexadecimal lo)

pub escape_again : (b : ℕ) → b < 256 → is_plain b ≡ false → escape_of (hexadecimal (b / 16)) (hexadecimal (b % 16)) ≡ Some b
unfolding escape_of
escape_again b lt p =
    let whole : 16 * (b / 16) + b % 16 ≡ b = omega arith in
    rw (digit_again (b / 16) (omega arith), digit_again (b % 16) (omega arith), whole, p) refl

-- ---- one byte
escape_spelled : (b : ℕ) → is_plain b ≡ false → spelled b ≡ 37 ∷ hexadecimal (b / 16) ∷ hexadecimal (b % 16) ∷ []
escape_spelled b p = rw p refl

plain_spelled : (b : ℕ) → is_plain b ≡ true → spelled b ≡ b ∷ []
plain_spelled b p = rw p refl

plain_small : (b : ℕ) → is_plain b ≡ true → b < 256
plain_small b p = let t = both (nat_le 33 b) _ p in let u = (both (nat_le b 126) _ t.1).0 in grind (arith, nat_tests, u)

plain_other : (b : ℕ) → is_plain b ≡ true → (b == 37) ≡ false
plain_other b p = let t = both (nat_le 33 b) _ p in let u = (both (nat_le b 126) _ t.1).1 in no_percent (b == 37) u
  where
    no_percent : (t : Bool) → not t ≡ true → t ≡ false
    no_percent true e = absurd (false≢true e)
    no_percent false e = refl

pieces : (b h l : ℕ) (rest behind : List ℕ) → is_plain b ≡ false → h ≡ hexadecimal (b / 16) → l ≡ hexadecimal (b % 16) → rest ≡ behind → 37 ∷ h ∷ l ∷ rest ≡ spelled b ++ behind
pieces b h l rest behind p e f g = rw (e, f, g, escape_spelled b p) refl

escaped_takes : (b : ℕ) (rest behind : List ℕ) → escaped_at rest ≡ Some (b, behind) → (b < 256) × (37 ∷ rest ≡ spelled b ++ behind)
unfolding escaped_at
escaped_takes b (h ∷ l ∷ rest) behind e =
    let m = map_some (escape_of h l) _ _ e in
    let x = escape_takes h l m.0 m.1 in
    let is : m.0 ≡ b = ap (λ r. r.0) m.2 in
    let back : rest ≡ behind = ap (λ r. r.1) m.2 in
    (subst (λ k. k < 256) is x.0, pieces m.0 h l rest behind x.1 x.2 x.3 back ∙ ap (λ k. spelled k ++ behind) is)
escaped_takes b (h ∷ []) behind e = cc
escaped_takes b [] behind e = cc

pub byte_takes : (first b : ℕ) (rest behind : List ℕ) → byte_at first rest ≡ Some (b, behind) → (b < 256) × (first ∷ rest ≡ spelled b ++ behind)
unfolding byte_at
byte_takes first b rest behind e = ⊎_elim
    (λ percent. let t = percent.0 in let is : first ≡ 37 = grind (arith, nat_tests, t) in let x = escaped_takes b rest behind percent.1 in (x.0, ap (λ k. k ∷ rest) is ∙ x.1))
    (λ other. let h = held (is_plain first) (Some (first, rest)) (b, behind) other.1 in
    let pair = some_same (first, rest) (b, behind) h.1 in
    let is : first ≡ b = ap (λ r. r.0) pair in
    let back : rest ≡ behind = ap (λ r. r.1) pair in
    let p : is_plain b ≡ true = subst (λ k. is_plain k ≡ true) is h.0 in
    (plain_small b p, rw (is, back, plain_spelled b p) refl))
    (chosen (first == 37) _ _ (Some (b, behind)) e)

-- ---- all bytes
pub unspelled_takes : (n : ℕ) (word bytes : List ℕ) → unspelled n word ≡ Some bytes → AreBytes bytes × (word ≡ flat_map spelled bytes)
unfolding unspelled
unspelled_takes n [] bytes e = let is : [] ≡ bytes = some_same [] bytes e in subst (λ bs. AreBytes bs × ([] ≡ flat_map spelled bs)) is (tt, refl)
unspelled_takes zero (b ∷ rest) bytes e = cc
unspelled_takes (suc n) (b ∷ rest) bytes e =
    let r = bind_some (byte_at b rest) _ bytes e in
    let m = map_some (unspelled n r.0.1) _ bytes r.2 in
    let x = byte_takes b r.0.0 rest r.0.1 r.1 in
    let ih = unspelled_takes n r.0.1 m.0 m.1 in
    subst (λ bs. AreBytes bs × (b ∷ rest ≡ flat_map spelled bs)) m.2 ((x.0, ih.0), x.1 ∙ ap (λ w. spelled r.0.0 ++ w) ih.1)

one_again : (p : Bool) (n b : ℕ) (behind : List ℕ) → is_plain b ≡ p → b < 256 → unspelled (suc n) (spelled b ++ behind) ≡ option_map (λ bytes. b ∷ bytes) (unspelled n behind)
unfolding unspelled byte_at escaped_at
one_again true n b behind p lt = rw (plain_spelled b p) (rw (p, plain_other b p) refl)
one_again false n b behind p lt = rw (escape_spelled b p) (rw (escape_again b lt p) refl)

pub unspelled_again : (n : ℕ) (bytes : List ℕ) → AreBytes bytes → length bytes ≤ n → unspelled n (flat_map spelled bytes) ≡ Some bytes
unfolding unspelled
unspelled_again n [] all le = refl
unspelled_again zero (b ∷ bytes) all le = absurd (grind (arith, le))
unspelled_again (suc n) (b ∷ bytes) all le = one_again (is_plain b) n b (flat_map spelled bytes) refl all.0 ∙ ap (λ o. option_map (λ bs. b ∷ bs) o) (unspelled_again n bytes all.1 (grind (arith, le)))

spelled_some : (p : Bool) (b : ℕ) → is_plain b ≡ p → 1 ≤ length (spelled b)
spelled_some true b p = rw (plain_spelled b p) (omega arith)
spelled_some false b p = rw (escape_spelled b p) (omega arith)

pub spelled_long : (bytes : List ℕ) → length bytes ≤ length (flat_map spelled bytes)
spelled_long [] = omega arith
spelled_long (b ∷ bytes) = let s = spelled_some (is_plain b) b refl in let ih = spelled_long bytes in grind (arith, s, ih, length-append)
