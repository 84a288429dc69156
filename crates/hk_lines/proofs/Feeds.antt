-- Where lines end, by the places of line feeds.
use Rattle.std.proofs.Common.{◌≡◌, ◌≢◌, ℕ, zero, suc, ◌+◌, ◌-◌, ◌<◌, ◌≤◌, List, [], ◌∷◌, length, take, drop, get_or, Bool, true, false, Option, Some, None, refl, ap, ◌∙◌, sym, arith}
use Rattle.std.specs.Prelude.{◌==◌, ◌&&◌, if◌then◌else◌}
use Rattle.std.specs.Option.{option_map}
use Rattle.std.proofs.lemmas.Bool.Decides.{nat_tests}
use Rattle.std.proofs.lemmas.List.{drop-drop}
use Rattle.memchr.specs.Find.{IsFirstByte, is_byte}
use Rattle.hk_lines.specs.Cut.{line_end, begins_with_feed}

-- a place further on
abbrev pub shifted : ℕ → Option ℕ → Option ℕ
shifted at o = option_map (λ n. at + n) o

pub shifted_twice : (a b : ℕ) (o : Option ℕ) → shifted a (shifted b o) ≡ shifted (a + b) o
shifted_twice a b None = refl
shifted_twice a b (Some n) = ap Some (omega arith)

pub shifted_none : (o : Option ℕ) → shifted 0 o ≡ o
shifted_none None = refl
shifted_none (Some n) = ap Some (omega arith)

passes_at : (b : ℕ) (bs : List ℕ) (r f : Bool) → (b == 13) ≡ r → begins_with_feed bs ≡ f → (r && f) ≡ false → line_end (b ∷ bs) ≡ shifted 1 (line_end bs)
passes_at b bs true false h k e = rw (h, k) refl
passes_at b bs true true h k e = cc
passes_at b bs false f h k e = rw h refl

feed_first : (bs : List ℕ) → begins_with_feed bs ≡ true → get_or bs 0 0 ≡ 10
feed_first [] h = cc
feed_first (b ∷ bs) h = grind (arith, nat_tests)

is_13 : (b : ℕ) → (b == 13) ≡ true → b ≡ 13
is_13 b h = grind (arith, nat_tests)

not_both : (b : ℕ) (bs : List ℕ) → (b ≡ 13 → get_or bs 0 0 ≡ 10 → ⊥) → ((b == 13) && begins_with_feed bs) ≡ false
not_both b bs h = not_at (b == 13) (begins_with_feed bs) (λ t. is_13 b t) (λ t. feed_first bs t)
  where
    not_at : (r f : Bool) → (r ≡ true → b ≡ 13) → (f ≡ true → get_or bs 0 0 ≡ 10) → (r && f) ≡ false
    not_at true true p q = absurd (h (p refl) (q refl))
    not_at true false p q = refl
    not_at false f p q = refl

-- no end begins at the first byte
pub passes : (b : ℕ) (bs : List ℕ) → (b ≡ 13 → get_or bs 0 0 ≡ 10 → ⊥) → line_end (b ∷ bs) ≡ shifted 1 (line_end bs)
passes b bs h = passes_at b bs _ _ refl refl (not_both b bs h)

-- no feed, no end
pub no_feed : (xs : List ℕ) → ((k : ℕ) → k < length xs → get_or xs k 0 ≢ 10) → line_end xs ≡ None
no_feed [] h = refl
no_feed (b ∷ []) h = passes b [] (λ e z. absurd (cc))
no_feed (b ∷ c ∷ xs) h = passes b (c ∷ xs) (λ e z. h 1 (grind arith) z) ∙ ap (shifted 1) (no_feed (c ∷ xs) (λ k lt. h (suc k) (grind arith)))

-- the first feed with a return before it is an end
pub found_end : (xs : List ℕ) (k : ℕ) → suc k < length xs → ((j : ℕ) → j < suc k → get_or xs j 0 ≢ 10) → get_or xs (suc k) 0 ≡ 10 → get_or xs k 0 ≡ 13 → line_end xs ≡ Some k
found_end [] k lt h f r = absurd (grind arith)
found_end (b ∷ []) k lt h f r = absurd (grind arith)
found_end (b ∷ c ∷ xs) zero lt h f r = rw (r, f) refl
found_end (b ∷ c ∷ xs) (suc k) lt h f r = passes b (c ∷ xs) (λ e z. h 1 (omega arith) z) ∙ ap (shifted 1) (found_end (c ∷ xs) k (grind arith) (λ j l. h (suc j) (omega arith)) f r) ∙ ap Some (omega arith)

-- the first feed with no return before it is passed over
pub passed_feed : (xs : List ℕ) (k : ℕ) → k < length xs → ((j : ℕ) → j < k → get_or xs j 0 ≢ 10) → get_or xs k 0 ≡ 10 → ((j : ℕ) → suc j ≡ k → get_or xs j 0 ≢ 13) → line_end xs ≡ shifted (k + 1) (line_end (drop (k + 1) xs))
passed_feed [] k lt h f r = absurd (grind arith)
passed_feed (b ∷ xs) zero lt h f r = passes b xs (λ e z. cc)
passed_feed (b ∷ xs) (suc k) lt h f r = passes b xs (first k h r) ∙ ap (shifted 1) (passed_feed xs k (grind arith) (λ j l. h (suc j) (omega arith)) f (λ j e. r (suc j) (ap suc e))) ∙ shifted_twice 1 (k + 1) (line_end (drop (k + 1) xs)) ∙ same
  where
    first : (k : ℕ) → ((j : ℕ) → j < suc k → get_or (b ∷ xs) j 0 ≢ 10) → ((j : ℕ) → suc j ≡ suc k → get_or (b ∷ xs) j 0 ≢ 13) → b ≡ 13 → get_or xs 0 0 ≡ 10 → ⊥
    first zero h r e z = r 0 refl e
    first (suc k) h r e z = h 1 (omega arith) z

    same : shifted (1 + (k + 1)) (line_end (drop (k + 1) xs)) ≡ shifted (suc k + 1) (line_end (drop (suc k + 1) (b ∷ xs)))
    same = let e : suc k + 1 ≡ suc (k + 1) = omega arith in let d : 1 + (k + 1) ≡ suc (k + 1) = omega arith in rw (e, d) refl

eq_true : (a b : ℕ) → a ≡ b → (a == b) ≡ true
eq_true a b h = grind (arith, nat_tests)

true_eq : (a b : ℕ) → (a == b) ≡ true → a ≡ b
true_eq a b h = grind (arith, nat_tests)

pub turn_none : (bytes rest : List ℕ) (at : ℕ) → rest ≡ drop at bytes → line_end bytes ≡ shifted at (line_end (drop at bytes)) → IsFirstByte (is_byte 10) rest None → line_end bytes ≡ None
turn_none bytes rest at e h none = (rw (sym e) at h) ∙ (ap (shifted at) (no_feed rest (λ k lt z. none k (omega arith) lt (eq_true _ _ z))))

found_at : (rest : List ℕ) (at k feed : ℕ) → feed ≡ suc k → IsFirstByte (is_byte 10) rest (Some feed) → get_or rest k 0 ≡ 13 → shifted at (line_end rest) ≡ Some (at + k)
found_at rest at k feed e first r =
    let lt : suc k < length rest = rw e at first.0.high in
    let f : get_or rest (suc k) 0 ≡ 10 = rw e at (true_eq _ _ first.1) in
    ap (shifted at) (found_end rest k lt (λ j l z. first.0.before j (omega arith) (omega (arith, l, e)) (eq_true _ _ z)) f r)

pub turn_found : (bytes rest : List ℕ) (at feed : ℕ) → rest ≡ drop at bytes → line_end bytes ≡ shifted at (line_end (drop at bytes)) → IsFirstByte (is_byte 10) rest (Some feed) → 0 < feed → get_or rest (feed - 1) 0 ≡ 13 → line_end bytes ≡ Some (at + feed - 1)
turn_found bytes rest at feed e h first some r =
    let k : line_end bytes ≡ shifted at (line_end rest) = rw (sym e) at h in
    let same : at + (feed - 1) ≡ at + feed - 1 = omega arith in
    rw same at (k ∙ found_at rest at (feed - 1) feed (omega arith) first r)

passed_at : (rest : List ℕ) (at feed : ℕ) → IsFirstByte (is_byte 10) rest (Some feed) → ((j : ℕ) → suc j ≡ feed → get_or rest j 0 ≢ 13) → shifted at (line_end rest) ≡ shifted (at + (feed + 1)) (line_end (drop (feed + 1) rest))
passed_at rest at feed first r = ap (shifted at) (passed_feed rest feed first.0.high (λ j l z. first.0.before j (omega arith) l (eq_true _ _ z)) (true_eq _ _ first.1) r) ∙ shifted_twice at (feed + 1) _

pub turn_passed : (bytes rest : List ℕ) (at feed : ℕ) → rest ≡ drop at bytes → line_end bytes ≡ shifted at (line_end (drop at bytes)) → IsFirstByte (is_byte 10) rest (Some feed) → ((j : ℕ) → suc j ≡ feed → get_or rest j 0 ≢ 13) → line_end bytes ≡ shifted (at + (feed + 1)) (line_end (drop (at + (feed + 1)) bytes))
turn_passed bytes rest at feed e h first r =
    let k : line_end bytes ≡ shifted at (line_end rest) = rw (sym e) at h in
    let d : drop (feed + 1) rest ≡ drop (at + (feed + 1)) bytes = rw e (drop-drop (feed + 1) at bytes) in
    rw d at (k ∙ passed_at rest at feed first r)

-- an end has its two bytes within the bytes
pub end_within : (xs : List ℕ) (n : ℕ) → line_end xs ≡ Some n → n + 2 ≤ length xs
end_within [] n h = absurd (cc)
end_within (b ∷ bs) n h = within_at ((b == 13) && begins_with_feed bs) (line_end bs) bs refl (λ m e. end_within bs m e) (both_feed (b == 13) bs) n h
  where
    two : (bs : List ℕ) → begins_with_feed bs ≡ true → 1 ≤ length bs
    two [] e = cc
    two (c ∷ cs) e = grind arith

    both_feed : (r : Bool) (bs : List ℕ) → (r && begins_with_feed bs) ≡ true → 1 ≤ length bs
    both_feed true bs e = two bs e
    both_feed false bs e = cc

    within_at : (t : Bool) (o : Option ℕ) (bs : List ℕ) → line_end bs ≡ o → ((m : ℕ) → line_end bs ≡ Some m → m + 2 ≤ length bs) → (t ≡ true → 1 ≤ length bs) → (n : ℕ) → (if t then Some 0 else option_map (λ n. 1 + n) o) ≡ Some n → n + 2 ≤ length (b ∷ bs)
    within_at true o bs e h f n k = let z : 0 ≡ n = cc in let l : 1 ≤ length bs = f refl in grind (arith, z, l)
    within_at false None bs e h f n k = absurd (cc)
    within_at false (Some m) bs e h f n k = let z : 1 + m ≡ n = cc in let l : m + 2 ≤ length bs = h m e in grind (arith, z, l)

-- a byte that is searched with another behind it
passes_within : (b c : ℕ) (cs front : List ℕ) → line_end (b ∷ c ∷ front) ≡ None → (line_end (b ∷ c ∷ cs) ≡ shifted 1 (line_end (c ∷ cs))) × (line_end (c ∷ front) ≡ None)
passes_within b c cs front h = at ((b == 13) && (c == 10)) (line_end (c ∷ front)) refl h
  where
    at : (t : Bool) (o : Option ℕ) → ((b == 13) && (c == 10)) ≡ t → (if t then Some 0 else option_map (λ n. 1 + n) o) ≡ None → ((if t then Some 0 else option_map (λ n. 1 + n) (line_end (c ∷ cs))) ≡ shifted 1 (line_end (c ∷ cs))) × (o ≡ None)
    at true o e h = absurd (cc)
    at false None e h = (refl, refl)
    at false (Some m) e h = absurd (cc)

-- where no line ends in the first bytes, the search may begin at the last of them
pub searched_on : (k : ℕ) (xs : List ℕ) → line_end (take k xs) ≡ None → line_end xs ≡ shifted (k - 1) (line_end (drop (k - 1) xs))
searched_on zero xs h = sym (shifted_none (line_end xs))
searched_on (suc zero) xs h = sym (shifted_none (line_end xs))
searched_on (suc (suc k)) [] h = let e : suc (suc k) - 1 ≡ suc k = omega arith in rw e refl
searched_on (suc (suc k)) (b ∷ []) h = let e : suc (suc k) - 1 ≡ suc k = omega arith in rw e (passes b [] (λ e z. absurd (cc)) ∙ none_left k)
  where
    none_left : (k : ℕ) → shifted 1 (line_end []) ≡ shifted (suc k) (line_end (drop k []))
    none_left zero = refl
    none_left (suc k) = refl
searched_on (suc (suc k)) (b ∷ c ∷ cs) h =
    let p = passes_within b c cs (take k cs) h in
    let e : suc (suc k) - 1 ≡ suc k = omega arith in
    let d : suc k - 1 ≡ k = omega arith in
    let on : line_end (c ∷ cs) ≡ shifted k (line_end (drop k (c ∷ cs))) = rw d at (searched_on (suc k) (c ∷ cs) p.1) in
    rw e (p.0 ∙ ap (shifted 1) on ∙ shifted_twice 1 k (line_end (drop k (c ∷ cs))) ∙ ap (λ n. shifted n (line_end (drop k (c ∷ cs)))) (omega arith))
