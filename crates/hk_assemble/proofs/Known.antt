-- What is kept of letters tells the first copy of each, after more of them were sent.
use Rattle.std.proofs.Common.{◌≡◌, ◌≢◌, ◌⊎◌, ◌<◌, ◌≤◌, ◌+◌, ℕ, zero, suc, List, [], ◌∷◌, ◌++◌, map, length, Bool, true, false, cond, Option, Some, None, refl, sym, subst, ◌∙◌, inl, inr, arith, append_assoc}
use Rattle.std.specs.Option.{option_or}
use Rattle.std.specs.List.{slice_get}
use Rattle.std.proofs.lemmas.List.{append-nil}
use Rattle.std.proofs.lemmas.Option.{slice_get_within}
use Rattle.hk_base.specs.declared.letter.Letter.{Letter}
use Rattle.hk_world.specs.World.{numbered}
use Rattle.hk_merge.specs.Same.{same_letter, SameIsEqual}
use Rattle.hk_assemble.specs.declared.sent.Sent.{Sent}
use Rattle.hk_assemble.specs.SentLetters.{Buckets, found, with_letter, with_letters}
use Rattle.hk_assemble.specs.Known.{IsCopy, IsTold, Knows, LettersStayKnown}
use Rattle.hk_assemble.proofs.Finding.{told, found_after}

-- ---- what is numbered, with more behind it
get_front : {X : Type 0} (xs ys : List X) (i : ℕ) → i < length xs → slice_get (xs ++ ys) i ≡ slice_get xs i
get_front [] ys i within = absurd (omega (arith, within))
get_front (x ∷ xs) ys zero within = refl
get_front (x ∷ xs) ys (suc i) within = get_front xs ys i (omega (arith, within))

get_last : {X : Type 0} (xs : List X) (x : X) → slice_get (xs ++ x ∷ []) (length xs) ≡ Some x
get_last [] x = refl
get_last (y ∷ xs) x = get_last xs x

pub numbered_front : {X : Type 0} (m : ℕ) (xs ys : List X) → m ≤ length xs → numbered m (xs ++ ys) ≡ numbered m xs
numbered_front zero xs ys within = refl
numbered_front (suc k) xs ys within = get_front xs ys k (omega (arith, within))

numbered_within : {X : Type 0} (m : ℕ) (xs : List X) (x : X) → numbered m xs ≡ Some x → m ≤ length xs
numbered_within zero xs x is = omega arith
numbered_within (suc k) xs x is = let w = slice_get_within xs k x is in omega (arith, w)

numbered_last : {X : Type 0} (xs : List X) (x : X) (m : ℕ) → m ≡ length xs + 1 → numbered m (xs ++ x ∷ []) ≡ Some x
numbered_last xs x m is = subst (λ (n : ℕ). numbered n (xs ++ x ∷ []) ≡ Some x) (sym (is ∙ one)) (get_last xs x)
  where
    one : length xs + 1 ≡ suc (length xs)
    one = omega arith

length_one : {X : Type 0} (xs : List X) (x : X) → length (xs ++ x ∷ []) ≡ length xs + 1
length_one [] x = refl
length_one (y ∷ xs) x = let more = length_one xs x in omega (arith, more)

-- ---- one letter more
module _ (letters : List Letter) (tickets : List ℕ) (l : Letter) (ticket number : ℕ) (numbers : number ≡ length letters + 1) (counted : length tickets ≡ length letters) where
  stays : (s : Sent) (x : Letter) → IsCopy s x letters tickets → IsCopy s x (letters ++ l ∷ []) (tickets ++ ticket ∷ [])
  stays s x is =
      let within : s.number ≤ length letters = numbered_within s.number letters x is.there in
      record {
        there = numbered_front s.number letters (l ∷ []) within ∙ is.there;
        first = λ m lower. subst (λ (o : Option Letter). o ≢ Some x) (sym (numbered_front m letters (l ∷ []) (omega (arith, lower, within)))) (is.first m lower);
        drawn = numbered_front s.number tickets (ticket ∷ []) (omega (arith, within, counted)) ∙ is.drawn;
      }

  first_one : IsTold None l letters tickets → IsCopy (record { letter = l; number = number; ticket = ticket }) l (letters ++ l ∷ []) (tickets ++ ticket ∷ [])
  first_one none = record {
    there = numbered_last letters l number numbers;
    first = λ m lower. subst (λ (o : Option Letter). o ≢ Some l) (sym (numbered_front m letters (l ∷ []) (omega (arith, lower, numbers)))) (none m);
    drawn = numbered_last tickets ticket number (omega (arith, numbers, counted));
  }

  still_none : (x : Letter) → l ≢ x → IsTold None x letters tickets → IsTold None x (letters ++ l ∷ []) (tickets ++ ticket ∷ [])
  still_none x other none m is = by_place (place m (length letters))
    where
      place : (a b : ℕ) → (a ≤ b) ⊎ ((a ≡ b + 1) ⊎ (b + 2 ≤ a))
      place a b = grind arith

      by_place : (m ≤ length letters) ⊎ ((m ≡ length letters + 1) ⊎ (length letters + 2 ≤ m)) → ⊥
      by_place (inl low) = none m (sym (numbered_front m letters (l ∷ []) low) ∙ is)
      by_place (inr (inl last)) = other (some_same (sym (numbered_last letters l m last) ∙ is))
        where
          some_same : Some l ≡ Some x → l ≡ x
          some_same e = cc
      by_place (inr (inr above)) = let w = numbered_within m (letters ++ l ∷ []) x is in let n = length_one letters l in omega (arith, above, w, n)

  told_more : SameIsEqual → (x : Letter) (o : Option Sent) → IsTold o x letters tickets →
      IsTold (option_or o (told (record { letter = l; number = number; ticket = ticket }) x)) x (letters ++ l ∷ []) (tickets ++ ticket ∷ [])
  told_more same x (Some s) is = stays s x is
  told_more same x None none = by_test (same_letter l x) refl
    where
      by_test : (b : Bool) → same_letter l x ≡ b → IsTold (cond b (Some (record { letter = l; number = number; ticket = ticket })) None) x (letters ++ l ∷ []) (tickets ++ ticket ∷ [])
      by_test true e =
          let here : l ≡ x = (same l x).0 e in
          subst (λ (y : Letter). IsCopy (record { letter = l; number = number; ticket = ticket }) y (letters ++ l ∷ []) (tickets ++ ticket ∷ [])) here
          (first_one (subst (λ (y : Letter). IsTold None y letters tickets) (sym here) none))
      by_test false e = still_none x (λ s. absurd_true ((same l x).1 s) e) none
        where
          absurd_true : {b : Bool} → b ≡ true → b ≡ false → ⊥
          absurd_true p q = cc

  knows_one : SameIsEqual → (sent : Buckets) → Knows sent letters tickets → Knows (with_letter sent (record { letter = l; number = number; ticket = ticket })) (letters ++ l ∷ []) (tickets ++ ticket ∷ [])
  knows_one same sent knows x =
      subst (λ (o : Option Sent). IsTold o x (letters ++ l ∷ []) (tickets ++ ticket ∷ [])) (sym (found_after same sent (record { letter = l; number = number; ticket = ticket }) x))
      (told_more same x (found sent x) (knows x))

-- ---- the letters of one entry
pub knows_more : SameIsEqual → LettersStayKnown
knows_more same [] sent letters tickets ticket number numbers counted knows =
    subst (λ (ls : List Letter). Knows sent ls (tickets ++ [])) (sym (append-nil letters)) (subst (λ (ts : List ℕ). Knows sent letters ts) (sym (append-nil tickets)) knows)
knows_more same (l ∷ more) sent letters tickets ticket number numbers counted knows =
    let one : Knows (with_letter sent (record { letter = l; number = number; ticket = ticket })) (letters ++ l ∷ []) (tickets ++ ticket ∷ []) = knows_one letters tickets l ticket number numbers counted same sent knows in
    let n : length (letters ++ l ∷ []) ≡ length letters + 1 = length_one letters l in
    let t : length (tickets ++ ticket ∷ []) ≡ length tickets + 1 = length_one tickets ticket in
    let rest = knows_more same more (with_letter sent (record { letter = l; number = number; ticket = ticket })) (letters ++ l ∷ []) (tickets ++ ticket ∷ []) ticket (number + 1) (omega (arith, numbers, n)) (omega (arith, n, t, counted)) one in
    subst (λ (ls : List Letter). Knows (with_letters sent number ticket (l ∷ more)) ls (tickets ++ map (λ (x : Letter). ticket) (l ∷ more))) (append_assoc letters (l ∷ []) more)
    (subst (λ (ts : List ℕ). Knows (with_letters sent number ticket (l ∷ more)) ((letters ++ l ∷ []) ++ more) ts) (append_assoc tickets (ticket ∷ []) (map (λ (x : Letter). ticket) more)) rest)
