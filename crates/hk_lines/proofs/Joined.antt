-- That pieces join, and that steps stay.
use Rattle.std.proofs.Common.{◌≡◌, ◌≢◌, ℕ, zero, suc, ◌+◌, ◌-◌, ◌≤◌, List, [], ◌∷◌, ◌++◌, length, take, drop, Bool, true, false, Option, Some, None, refl, ap, ◌∙◌, sym, arith, append_assoc, nat_le, length-append, length-take, length-drop}
use Rattle.std.specs.Prelude.{◌==◌, ◌&&◌, if◌then◌else◌}
use Rattle.std.specs.Option.{option_map}
use Rattle.std.proofs.lemmas.Bool.Decides.{nat_tests}
use Rattle.std.proofs.lemmas.List.{drop-drop, drop-append-le, take-append-le}
use Rattle.hk_lines.specs.Cut.{Cutting, fed, skipped, stepped, step_of, line_end, Stepped, giving, line_step, block_step}
use Rattle.hk_lines.specs.Pieces.{PiecesJoin, SkipCommutes, ExpectCommutes, StepStays}
use Rattle.hk_lines.specs.declared.due.Due.{Due}
use Rattle.hk_lines.specs.declared.due.Due.TheVariants as due
use Rattle.hk_lines.specs.declared.step.Step.TheVariants.{Need}
use Rattle.hk_lines.proofs.Feeds.{end_within}

-- bytes that are dropped from two pieces
pub drop_both : (n : ℕ) (a b : List ℕ) → drop n a ++ drop (n - length a) b ≡ drop n (a ++ b)
drop_both zero a b = grind arith
drop_both (suc n) [] b = let e : suc n - 0 ≡ suc n = omega arith in rw e refl
drop_both (suc n) (x ∷ a) b = let e : suc n - length (x ∷ a) ≡ n - length a = grind arith in rw e (drop_both n a b)

pub pieces_join : PiecesJoin
pieces_join c a b = joined (append_assoc c.unread (drop c.dropping a) (drop (c.dropping - length a) b) ∙ ap (λ xs. c.unread ++ xs) (drop_both c.dropping a b)) (grind (arith, length-append))
  where
    joined : (c.unread ++ drop c.dropping a) ++ drop (c.dropping - length a) b ≡ c.unread ++ drop c.dropping (a ++ b) → c.dropping - length a - length b ≡ c.dropping - length (a ++ b) → fed (fed c a) b ≡ fed c (a ++ b)
    joined h k = rw (h, k) refl

-- bytes that are taken from two pieces
pub take_both : (n : ℕ) (a b : List ℕ) → take n (a ++ b) ≡ take n a ++ take (n - length a) b
take_both zero a b = grind arith
take_both (suc n) [] b = let e : suc n - 0 ≡ suc n = omega arith in rw e refl
take_both (suc n) (x ∷ a) b = let e : suc n - length (x ∷ a) ≡ n - length a = grind arith in rw e (ap (λ xs. x ∷ xs) (take_both n a b))

-- an end stays where it is when more bytes come
pub end_stays : (xs ys : List ℕ) (n : ℕ) → line_end xs ≡ Some n → line_end (xs ++ ys) ≡ Some n
end_stays [] ys n h = absurd (cc)
end_stays (b ∷ []) ys n h = absurd (alone (b == 13) h)
  where
    alone : (t : Bool) → (if t && false then Some 0 else option_map (λ n. 1 + n) (line_end [])) ≡ Some n → ⊥
    alone true h = cc
    alone false h = cc
end_stays (b ∷ c ∷ cs) ys n h = stays_at ((b == 13) && (c == 10)) (line_end (c ∷ cs)) (line_end ((c ∷ cs) ++ ys)) (λ m e. end_stays (c ∷ cs) ys m e) h
  where
    stays_at : (t : Bool) (o p : Option ℕ) → ((m : ℕ) → o ≡ Some m → p ≡ Some m) → (if t then Some 0 else option_map (λ n. 1 + n) o) ≡ Some n → (if t then Some 0 else option_map (λ n. 1 + n) p) ≡ Some n
    stays_at true o p h e = e
    stays_at false None p h e = absurd (cc)
    stays_at false (Some m) p h e = rw (h m refl) e

-- what a step leaves, with more behind it
abbrev pub Follows : Stepped → Stepped → List ℕ → Type 0
Follows s t more = (t.step ≡ s.step) × (t.rest ≡ record (fed s.rest more) { given = s.rest.given })

-- a window onto the front of a list, when the list goes on
pub window_stays : (l : ℕ) (u x : List ℕ) (n : ℕ) → line_end (take l u) ≡ Some n → line_end (take l (u ++ x)) ≡ Some n
window_stays l u x n h = rw (take_both l u x) (end_stays (take l u) (take (l - length u) x) n h)

giving_stays : (c : Cutting) (more : List ℕ) (n gone : ℕ) → n ≤ gone → gone ≤ length c.unread → giving (fed c more) n gone ≡ record (fed (giving c n gone) more) { given = take n c.unread }
giving_stays c more n gone h k =
    let d : drop gone (c.unread ++ drop c.dropping more) ≡ drop gone c.unread ++ drop c.dropping more = drop-append-le gone c.unread (drop c.dropping more) k in
    let t : take n (c.unread ++ drop c.dropping more) ≡ take n c.unread = take-append-le n c.unread (drop c.dropping more) (omega (arith, h, k)) in
    rw (d, t) refl

line_stays : (c : Cutting) (more : List ℕ) (p q : Option ℕ) → ((n : ℕ) → p ≡ Some n → q ≡ Some n) → ((n : ℕ) → p ≡ Some n → n + 2 ≤ length c.unread) → (c.limit + 2 ≤ length c.unread → q ≡ p) → (line_step c p).step ≢ Need → Follows (line_step c p) (line_step (fed c more) q) more
line_stays c more (Some n) q h k l s = rw (h n refl) (refl, giving_stays c more n (n + 2) (omega arith) (k n refl))
line_stays c more None q h k l s = long_stays (nat_le (c.limit + 2) (length c.unread)) refl s
  where
    long_stays : (t : Bool) → nat_le (c.limit + 2) (length c.unread) ≡ t → (line_step c None).step ≢ Need → Follows (line_step c None) (line_step (fed c more) q) more
    long_stays true e s =
        let le : c.limit + 2 ≤ length c.unread = grind (arith, nat_tests, e) in
        let longer : nat_le (c.limit + 2) (length (c.unread ++ drop c.dropping more)) ≡ true = grind (arith, nat_tests, le, length-append) in
        rw (l le, longer, e) (refl, refl)
    long_stays false e s = absurd (s (rw e refl))

block_stays : (c : Cutting) (more : List ℕ) (count : ℕ) → (block_step c count).step ≢ Need → Follows (block_step c count) (block_step (fed c more) count) more
block_stays c more count s = stays_at (nat_le (count + 2) (length c.unread)) refl s
  where
    stays_at : (t : Bool) → nat_le (count + 2) (length c.unread) ≡ t → (block_step c count).step ≢ Need → Follows (block_step c count) (block_step (fed c more) count) more
    stays_at true e s =
        let le : count + 2 ≤ length c.unread = grind (arith, nat_tests, e) in
        let longer : nat_le (count + 2) (length (c.unread ++ drop c.dropping more)) ≡ true = grind (arith, nat_tests, le, length-append) in
        rw (longer, e) (refl, giving_stays c more (count + 2) (count + 2) (omega arith) le)
    stays_at false e s = absurd (s (rw e refl))

pub follows : (d : Due) (c : Cutting) (more : List ℕ) → (step_of d c).step ≢ Need → Follows (step_of d c) (step_of d (fed c more)) more
follows (due.Block count) c more s = block_stays c more count s
follows due.Nothing c more s = (refl, refl)
follows due.Line c more s = line_stays c more _ _ (λ n h. window_stays (c.limit + 2) c.unread (drop c.dropping more) n h) (λ n h. window_within (c.limit + 2) c.unread n (end_within _ n h)) (λ le. ap line_end (take-append-le (c.limit + 2) c.unread (drop c.dropping more) le)) s
  where
    window_within : (l : ℕ) (u : List ℕ) (n : ℕ) → n + 2 ≤ length (take l u) → n + 2 ≤ length u
    window_within l u n h = grind (arith, h, length-take)

pub step_stays : StepStays
unfolding stepped
step_stays c more s = follows c.due c more s

pub drop_nothing : (n : ℕ) → drop {A = ℕ} n [] ≡ []
drop_nothing zero = refl
drop_nothing (suc n) = refl

skipped_same : (c : Cutting) (count : ℕ) (more : List ℕ) → drop count c.unread ++ drop (c.dropping + (count - length c.unread)) more ≡ drop count (c.unread ++ drop c.dropping more) → (c.dropping + (count - length c.unread)) - length more ≡ (c.dropping - length more) + (count - length (c.unread ++ drop c.dropping more)) → fed (skipped c count) more ≡ skipped (fed c more) count
skipped_same c count more h k = rw (h, k) refl

free_same : (u : List ℕ) (d count : ℕ) (more : List ℕ) → d ≡ 0 → (drop count u ++ drop (d + (count - length u)) more ≡ drop count (u ++ drop d more)) × ((d + (count - length u)) - length more ≡ (d - length more) + (count - length (u ++ drop d more)))
free_same u d count more z = let e : 0 + (count - length u) ≡ count - length u = omega arith in rw (z, e) (drop_both count u more, grind (arith, length-append))

busy_same : (u : List ℕ) (d count : ℕ) (more : List ℕ) → u ≡ [] → (drop count u ++ drop (d + (count - length u)) more ≡ drop count (u ++ drop d more)) × ((d + (count - length u)) - length more ≡ (d - length more) + (count - length (u ++ drop d more)))
busy_same u d count more e = rw (e, drop_nothing count) (ap (λ n. drop n more) (omega arith) ∙ sym (drop-drop count d more), grind (arith, length-drop))

pub skip_commutes : SkipCommutes
skip_commutes c free count more = at_dropping c.dropping refl
  where
    at_dropping : (d : ℕ) → c.dropping ≡ d → fed (skipped c count) more ≡ skipped (fed c more) count
    at_dropping zero e = let h = free_same c.unread c.dropping count more e in skipped_same c count more h.0 h.1
    at_dropping (suc d) e = let h = busy_same c.unread c.dropping count more (free (rw e (omega arith))) in skipped_same c count more h.0 h.1

pub expect_commutes : ExpectCommutes
expect_commutes c count more = refl
