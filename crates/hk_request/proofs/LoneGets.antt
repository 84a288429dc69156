-- That a line with one key is read so.
use Rattle.std.proofs.Common.{◌≡◌, ℕ, suc, ◌+◌, ◌-◌, ◌≤◌, slice_index, List, [], ◌∷◌, ◌++◌, length, take, drop, Bool, true, false, Some, None, refl, ap, sym, ◌∙◌, arith}
use Rattle.std.specs.Prelude.{Ok, ◌==◌, ◌||◌, not, nat_lt, position, codes, if◌then◌else◌}
use Rattle.std.specs.List.{position_or_len, slice_split, onto_first}
use Rattle.std.proofs.lemmas.Bool.Decides.{nat_tests}
use Rattle.std.proofs.lemmas.List.{take-append-drop, take_all, length-drop}
use Rattle.std.proofs.lemmas.List.Splits.{slice_split-cons_no}
use Rattle.hk_base.specs.Key.{IsKey}
use Rattle.hk_base.specs.KeyBytes.{is_bad_byte}
use Rattle.hk_base.specs.KeyFaults.{key_fault}
use Rattle.hk_request.specs.declared.request.Request.TheVariants.{Get}
use Rattle.hk_request.specs.declared.request.Head.TheVariants.{Whole}
use Rattle.hk_request.specs.Words.{is_space, is_word, words_of}
use Rattle.hk_request.specs.Reading.{head_of}
use Rattle.hk_request.proofs.Single.{is_key}
use Rattle.hk_request.proofs.Lines.{line_read}

none_of : (b : Bool) (x : ℕ) → (if b then Some x else None) ≡ None → b ≡ false
none_of true x h = absurd (cc)
none_of false x h = refl

split_at : (t : Bool) (m l : ℕ) → nat_lt (if not t then 1 + m else 0) (suc l) ≡ false → (t ≡ false) × (nat_lt m l ≡ false)
split_at true m l h = absurd (grind (arith, nat_tests, h))
split_at false m l h = (refl, grind (arith, nat_tests, h))

clean_split : (b : ℕ) (k : List ℕ) → position is_bad_byte (b ∷ k) ≡ None → (is_bad_byte b ≡ false) × (position is_bad_byte k ≡ None)
clean_split b k h =
    let lt = none_of (nat_lt (position_or_len is_bad_byte (b ∷ k)) (length (b ∷ k))) _ h in
    let s = split_at (is_bad_byte b) (position_or_len is_bad_byte k) (length k) lt in
    (s.0, rw s.1 refl)

-- a byte that a key may have is no space
no_space : (b : ℕ) → is_bad_byte b ≡ false → is_space b ≡ false
no_space b h = at (nat_lt b 33) (b == 127) (λ e. grind (arith, nat_tests, e)) h
  where
    at : (l d : Bool) → (l ≡ false → is_space b ≡ false) → (l || d) ≡ false → is_space b ≡ false
    at true d p h = absurd (cc)
    at false d p h = p refl

-- no space parts a key
one_word : (k : List ℕ) → position is_bad_byte k ≡ None → slice_split is_space k ≡ k ∷ []
one_word [] h = refl
one_word (b ∷ k) h =
    let s = clean_split b k h in
    slice_split-cons_no is_space b k (no_space b s.0) ∙ ap (onto_first b) (one_word k s.1)

kept : (t : Bool) (w k : List ℕ) → t ≡ true → w ∷ (if t then k ∷ [] else []) ≡ w ∷ k ∷ []
kept true w k e = refl
kept false w k e = absurd (cc)

lone_words : (k : List ℕ) → IsKey k → words_of (codes "get " ++ k) ≡ codes "get" ∷ k ∷ []
lone_words k q =
    let some = q.some in
    let word : is_word k ≡ true = grind (arith, nat_tests, some) in
    rw (one_word k q.clean) (kept (is_word k) (codes "get") k word)

front_is : (line : List ℕ) → 4 ≤ length line → slice_index line 0 ≡ 103 → slice_index line 1 ≡ 101 → slice_index line 2 ≡ 116 → slice_index line 3 ≡ 32 → take 4 line ≡ codes "get "
front_is [] le g e t s = absurd (omega (arith, le))
front_is (a ∷ []) le g e t s = absurd (omega (arith, le))
front_is (a ∷ b ∷ []) le g e t s = absurd (omega (arith, le))
front_is (a ∷ b ∷ c ∷ []) le g e t s = absurd (omega (arith, le))
front_is (a ∷ b ∷ c ∷ d ∷ rest) le g e t s = rw (g, e, t, s) refl

pub lone_get : (line word key : List ℕ) (keys : List (List ℕ)) → 4 ≤ length line → slice_index line 0 ≡ 103 → slice_index line 1 ≡ 101 → slice_index line 2 ≡ 116 → slice_index line 3 ≡ 32 → word ≡ take (length line - 4) (drop 4 line) → key_fault word ≡ None → key ≡ word → keys ≡ key ∷ [] → head_of line ≡ Ok (Whole (Get keys false))
lone_get line word key keys le g e t s w h k ks =
    let behind : word ≡ drop 4 line = w ∙ take_all _ (drop 4 line) (rw (length-drop 4 line) (omega arith)) in
    let whole : line ≡ codes "get " ++ word = sym (take-append-drop 4 line) ∙ rw (front_is line le g e t s, behind) refl in
    let is : IsKey word = is_key word (rw h refl) in
    rw (ks, k, whole) (line_read (codes "get " ++ word) (Whole (Get (word ∷ []) false)) (lone_words word is, (λ z. absurd (cc)), (is, tt)))
