-- What a room keeps of the words in use.
use Rattle.std.proofs.Common.{◌≡◌, ℕ, zero, suc, ◌+◌, ◌-◌, ◌<◌, ◌≤◌, min, List, [], ◌∷◌, ◌++◌, length, take, drop, get_or, replicate, Option, Some, None, refl, sym, ap, ◌∙◌, subst, ⊎_elim, arith, length-append, length-drop}
use Rattle.std.proofs.lemmas.List.{take_all, take-take, get_or-take, length-take}
use Rattle.std.proofs.lemmas.Bool.{cases_lt}
use Rattle.std.proofs.lemmas.Grind.{div_ceil_times}
use mathlib.Core.List.{IsPrefix}
use Rattle.hk_seq.specs.Steps.{in_use}
use Rattle.hk_snap.specs.declared.snapshot.Snapshot.{Snapshot}
use Rattle.hk_snap.specs.Packed.{packed, words_for}
use Rattle.hk_snap.specs.Snapshots.{glance_of}
use Rattle.hk_snap.specs.Layout.{head_words, data_in, words_of, no_words, words_at, shown_in, AreFront, AreWords, CanShow, Keeps}
use Rattle.hk_snap.proofs.Packing.{length_packed}
use Rattle.hk_snap.proofs.Using.{own_number, some_words, first_of_front, uses}
use Rattle.hk_snap.proofs.Shows.{front_back, shown_back, glanced_back}

take_past : (front rest : List ℕ) (n : ℕ) → length front ≤ n → take n (front ++ rest) ≡ front ++ take (n - length front) rest
take_past [] rest n below = ap (λ (m : ℕ). take m rest) (omega arith)
take_past (x ∷ front) rest zero below = absurd (omega arith)
take_past (x ∷ front) rest (suc n) below = let e : suc n - suc (length front) ≡ n - length front = omega arith in rw e (ap (λ l. x ∷ l) (take_past front rest n (omega arith)))

few_words : (n : ℕ) → n ≤ 250 → words_for n ≤ 32
few_words n below = let d = (div_ceil_times n 8 (omega arith)).1 in omega (arith, d)

-- so many of a snapshot's words are those of the head and the key, and others
cut : (s : Snapshot) (n : ℕ) → length s.key ≤ 250 → 41 ≤ n → (small : List ℕ) × (take n (words_of s) ≡ (head_words s ++ packed (words_for (length s.key)) s.key) ++ small)
unfolding words_of
cut s n short wide =
    let k : ℕ = words_for (length s.key) in
    let rest : List ℕ = packed (words_for (length (data_in s.shape))) (data_in s.shape) in
    let front : List ℕ = head_words s ++ packed k s.key in
    let long : length front ≡ 9 + k = length-append (head_words s) (packed k s.key) ∙ ap (λ (z : ℕ). 9 + z) (length_packed k s.key) in
    let few : k ≤ 32 = few_words (length s.key) short in
    (take (n - length front) rest, take_past front rest n (omega (arith, long, few)))

nothing_kept : (room : List ℕ) → Keeps room None → IsPrefix no_words room
unfolding no_words
nothing_kept room k = subst (λ (l : List ℕ). IsPrefix l room) (take_all (length room) no_words (omega (arith, k.wide))) k.front

pub kept_front : (shown : Option Snapshot) (room : List ℕ) → Keeps room shown → AreFront room
kept_front None room k = let p = nothing_kept room k in subst AreFront p.1 (shown_back None p.0 tt).1.front
kept_front (Some s) room k =
    let c = cut s (length room) k.able.key k.wide in
    let p = subst (λ (l : List ℕ). IsPrefix l room) c.1 k.front in
    subst AreFront p.1 (front_back s c.0 p.0 k.able)

pub kept_glance : (shown : Option Snapshot) (room key : List ℕ) → Keeps room shown → glance_of (shown_in room) key ≡ glance_of shown key
kept_glance None room key k = let p = nothing_kept room k in ap (λ o. glance_of o key) (ap shown_in (sym p.1) ∙ (shown_back None p.0 tt).0)
kept_glance (Some s) room key k =
    let c = cut s (length room) k.able.key k.wide in
    let p = subst (λ (l : List ℕ). IsPrefix l room) c.1 k.front in
    ap (λ l. glance_of (shown_in l) key) (sym p.1) ∙ glanced_back s.key s.state s.stamp s.ticket s.shape c.0 p.0 key k.able

pub kept_whole : (shown : Option Snapshot) (room : List ℕ) → Keeps room shown → get_or room 0 0 ≤ length room → AreWords room × (shown_in room ≡ shown)
kept_whole shown room k all =
    let words : List ℕ = words_at shown in
    let some : 0 < length words = some_words shown in
    let front : 0 < length (take (length room) words) = omega (arith, length-take (length room) words, some, k.wide) in
    let first : get_or room 0 0 ≡ length words =
    first_of_front (take (length room) words) room front k.front ∙ (get_or-take (length room) words 0 0 (omega (arith, k.wide)) ∙ own_number shown) in
    let p = subst (λ (l : List ℕ). IsPrefix l room) (take_all (length room) words (omega (arith, first, all))) k.front in
    let back = shown_back shown p.0 k.able in
    (subst AreWords p.1 back.1, ap shown_in (sym p.1) ∙ back.0)

-- as much of the words that were loaded as has place
pub keeps : (shown : Option Snapshot) (words room : List ℕ) → length words ≡ 166 → IsPrefix (words_at shown) words → CanShow shown → 41 ≤ length room
    → IsPrefix (take (min (in_use 166 words) (length room)) words) room → Keeps room shown
keeps shown words room long p able wide front =
    let u = uses (words_at shown) words (some_words shown) (own_number shown) long p in
    let m : ℕ = in_use 166 words in
    let n : ℕ = length room in
    let same : take (min m n) words ≡ take n (words_at shown) = ⊎_elim
    (λ (b : n < m). let e : min m n ≡ n = omega arith in ap (λ (z : ℕ). take z words) e ∙ (sym (take-take n m words (omega arith)) ∙ ap (take n) u.1))
    (λ (b : m ≤ n). let e : min m n ≡ m = omega arith in ap (λ (z : ℕ). take z words) e ∙ (u.1 ∙ sym (take_all n (words_at shown) (omega (arith, u.0, b)))))
    (cases_lt n m) in
    record { wide = wide; front = subst (λ (l : List ℕ). IsPrefix l room) same front; able = able }

-- a room in which nothing was loaded
pub new_keeps : Keeps (9 ∷ replicate 40 0) None
unfolding no_words
new_keeps = record { wide = omega arith; front = (replicate 32 0, refl); able = tt }

pub put_long : (words before room : List ℕ) (used : ℕ) → used ≤ length words → room ≡ take (min used (length before)) words ++ drop (min used (length before)) before → length room ≡ length before
put_long words before room used below e =
    let m : ℕ = min used (length before) in
    ap length e ∙ (length-append (take m words) (drop m before) ∙ omega (arith, length-take m words, length-drop m before, below))

-- the words in use are put over those that were there
pub put_keeps : (shown : Option Snapshot) (words before room : List ℕ) (used : ℕ) → used ≡ in_use 166 words → length words ≡ 166 → IsPrefix (words_at shown) words → CanShow shown → 41 ≤ length before
    → room ≡ take (min used (length before)) words ++ drop (min used (length before)) before → Keeps room shown
put_keeps shown words before room used is long p able wide e =
    let m : ℕ = min used (length before) in
    let same : length room ≡ length before = put_long words before room used (omega (arith, is, long)) e in
    keeps shown words room long p able (omega (arith, wide, same))
    (drop m before, (λ i. take (min (sym is i) (same i)) words ++ drop m before) ∙ sym e)
