-- What stands at the first place at which a test passes.
use Rattle.std.proofs.Common.{◌≡◌, ℕ, ◌+◌, ◌≤◌, List, [], ◌∷◌, length, Option, Some, None, Bool, true, false, if◌then◌else◌, refl, ap, sym, ◌∙◌, nat_lt, ◌==◌, ◌||◌, arith, inl, inr, cond}
use Rattle.std.specs.Option.{is_some, unwrap_or}
use Rattle.std.specs.List.{position_from, position_or_len, find, slice_get, list_any}
use Rattle.std.proofs.lemmas.Iterator.Adapters.{position_from-zero}
use Rattle.std.proofs.lemmas.List.Folds.{find_at}
use Rattle.std.specs.Prelude.{not}
use Rattle.std.proofs.lemmas.List.Sums.{prefix_len-le-length}
use Rattle.std.proofs.lemmas.Bool.{cases_lt}
use Rattle.std.proofs.lemmas.Bool.Decides.{nat_tests}
use Rattle.hk_base.specs.declared.call.Op.{Op}
use Rattle.hk_base.specs.declared.call.Answer.{Answer}
use Rattle.hk_history.specs.declared.event.Event.{Event}
use Rattle.hk_history.specs.declared.event.Event.TheVariants.{Call, Reply}
use Rattle.hk_history.specs.History.{op_of, answer_of, is_call, is_reply}

pub is_some-position_from : {X : Type 0} (p : X → Bool) (i : ℕ) (xs : List X) → is_some (position_from p i xs) ≡ list_any p xs
is_some-position_from p i [] = refl
is_some-position_from p i (x ∷ xs) = placed (p x) _ _ (is_some-position_from p (i + 1) xs)
  where
    placed : (b : Bool) (o : Option ℕ) (rest : Bool) → is_some o ≡ rest → is_some (cond b (Some i) o) ≡ (b || rest)
    placed true o rest h = refl
    placed false o rest h = h

pub is_some-op_of : (h : List Event) (n : ℕ) → is_some (op_of h n) ≡ list_any (is_call n) h
is_some-op_of [] n = refl
is_some-op_of (Call c op ∷ rest) n = held (c.0 == n) _ _ (is_some-op_of rest n)
  where
    held : (b : Bool) (o : Option Op) (r : Bool) → is_some o ≡ r → is_some (if b then Some op else o) ≡ (b || r)
    held true o r h = refl
    held false o r h = h
is_some-op_of (Reply c answer ∷ rest) n = is_some-op_of rest n

abbrev pub op_in : Option Event → Option Op
op_in None = None
op_in (Some (Call c op)) = Some op
op_in (Some (Reply c answer)) = None

abbrev pub answer_in : Option Event → Option Answer
answer_in None = None
answer_in (Some (Call c op)) = None
answer_in (Some (Reply c answer)) = Some answer

pub op_of-find : (h : List Event) (n : ℕ) → op_of h n ≡ op_in (find (is_call n) h)
op_of-find [] n = refl
op_of-find (Call c op ∷ rest) n = held (c.0 == n) _ _ (op_of-find rest n)
  where
    held : (b : Bool) (o : Option Op) (e : Option Event) → o ≡ op_in e → (if b then Some op else o) ≡ op_in (cond b (Some (Call c op)) e)
    held true o e h = refl
    held false o e h = h
op_of-find (Reply c answer ∷ rest) n = op_of-find rest n

pub answer_of-find : (h : List Event) (n : ℕ) → answer_of h n ≡ answer_in (find (is_reply n) h)
answer_of-find [] n = refl
answer_of-find (Call c op ∷ rest) n = answer_of-find rest n
answer_of-find (Reply c answer ∷ rest) n = held (c.0 == n) _ _ (answer_of-find rest n)
  where
    held : (b : Bool) (o : Option Answer) (e : Option Event) → o ≡ answer_in e → (if b then Some answer else o) ≡ answer_in (cond b (Some (Reply c answer)) e)
    held true o e h = refl
    held false o e h = h

within : (k n : ℕ) (o : Option ℕ) → cond (nat_lt k n) (Some k) None ≡ o → k ≤ n → unwrap_or o n ≡ k
within k n o e le = elim (cases_lt k n) [ inl lt ↦ grind (arith, nat_tests, lt, e) | inr ge ↦ grind (arith, nat_tests, ge, e, le) ]

pub unwrap_or-position_from : {X : Type 0} (p : X → Bool) (xs : List X) → unwrap_or (position_from p 0 xs) (length xs) ≡ position_or_len p xs
unwrap_or-position_from p xs = within (position_or_len p xs) (length xs) (position_from p 0 xs) (position_from-zero p xs) (prefix_len-le-length (λ x. not (p x)) xs)

placed_at : (k n i : ℕ) (o : Option ℕ) → cond (nat_lt k n) (Some k) None ≡ o → o ≡ Some i → i ≡ k
placed_at k n i o e at = elim (cases_lt k n) [ inl lt ↦ grind (arith, nat_tests, lt, e, at) | inr ge ↦ grind (arith, nat_tests, ge, e, at) ]

pub found_at : {X : Type 0} (p : X → Bool) (xs : List X) (i : ℕ) → position_from p 0 xs ≡ Some i → slice_get xs i ≡ find p xs
found_at p xs i at = rw (placed_at (position_or_len p xs) (length xs) i _ (position_from-zero p xs) at) (sym (find_at p xs))

none_passes : {X : Type 0} (p : X → Bool) (xs : List X) → list_any p xs ≡ false → find p xs ≡ None
none_passes p [] h = refl
none_passes p (x ∷ xs) h = fails (p x) refl (λ rest. none_passes p xs rest)
  where
    fails : (b : Bool) → p x ≡ b → (list_any p xs ≡ false → find p xs ≡ None) → find p (x ∷ xs) ≡ None
    fails true e more = absurd (grind (arith, e, h))
    fails false e more = rw e (more (rw e at h))

pub found_none : {X : Type 0} (p : X → Bool) (xs : List X) → position_from p 0 xs ≡ None → find p xs ≡ None
found_none p xs at = none_passes p xs (sym (is_some-position_from p 0 xs) ∙ ap is_some at)

pub position_or_len-le : {X : Type 0} (p : X → Bool) (xs : List X) → position_or_len p xs ≤ length xs
position_or_len-le p xs = prefix_len-le-length (λ x. not (p x)) xs
