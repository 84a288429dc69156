-- The drawn calls are compared one after the other.
use Rattle.std.proofs.Common.{◌≡◌, ◌≢◌, ◌⊎◌, ◌<◌, ◌≤◌, ℕ, zero, suc, ◌+◌, List, [], ◌∷◌, length, get_or, Option, Some, None, slice_get, Ok, inl, inr, refl, sym, ap, subst, ◌∙◌, arith}
use Rattle.std.proofs.lemmas.Option.{slice_get_within}
use Rattle.hk_script.specs.Grammar.{IsWritten}
use Rattle.hk_script.specs.Reading.{LinesTellEvents}
use Rattle.hk_storm.specs.declared.calls.StormCall.{StormCall}
use Rattle.hk_storm.specs.declared.compare.Unlike.{Unlike}
use Rattle.hk_storm.specs.Calls.{Stands, IsAsOften, AreAsOften, IsUnlike, AreCompared, AreCounted, IsComparedAt}
use Rattle.hk_storm.specs.Tallied.{Counts, event_of, line_of, count_of, IsTally}
use Rattle.hk_storm.proofs.Tallying.{tells_stands}

module _ (one : LinesTellEvents) (drawn made : Counts) (call : StormCall) (written : IsWritten (event_of call)) (line : List ℕ) (is : line ≡ line_of call) (ds ms : List StormCall) (drawn_tally : IsTally drawn ds) (made_tally : IsTally made ms) where
  pub often : (counts : Counts) (calls : List StormCall) → IsTally counts calls → Stands call calls (count_of line counts)
  often counts calls tally = subst (λ (l : List ℕ). Stands call calls (count_of l counts)) (sym is) (tells_stands one call written counts calls tally)

  pub as_often : count_of line drawn ≡ count_of line made → IsAsOften call ds ms
  as_often e = (count_of line drawn, often drawn ds drawn_tally, subst (Stands call ms) (sym e) (often made ms made_tally))

-- ---- one after the other
at_place : (xs : List StormCall) (i : ℕ) (x : StormCall) → i < length xs → x ≡ get_or xs i x → slice_get xs i ≡ Some x
at_place xs i x within is = subst (λ (y : StormCall). slice_get xs i ≡ Some y) (sym is) (there xs i within)
  where
    there : (ys : List StormCall) (j : ℕ) → j < length ys → slice_get ys j ≡ Some (get_or ys j x)
    there [] j w = absurd (omega (arith, w))
    there (y ∷ ys) zero w = refl
    there (y ∷ ys) (suc j) w = there ys j (omega (arith, w))

some_is : (x y : StormCall) → Some x ≡ Some y → x ≡ y
some_is x y e = cc

pub none_before : (drawn made : List StormCall) → AreAsOften drawn made 0
none_before drawn made i call low at = absurd (omega (arith, low))

pub next_one : (drawn made : List StormCall) (place : ℕ) (call : StormCall) → place < length drawn → call ≡ get_or drawn place call → AreAsOften drawn made place → IsAsOften call drawn made → AreAsOften drawn made (place + 1)
next_one drawn made place call within is before here i c low at = by_place (which i place)
  where
    which : (a b : ℕ) → (a < b) ⊎ ((a ≡ b) ⊎ (b < a))
    which a b = grind arith

    by_place : (i < place) ⊎ ((i ≡ place) ⊎ (place < i)) → IsAsOften c drawn made
    by_place (inl earlier) = before i c earlier at
    by_place (inr (inl same)) =
        let got : slice_get drawn place ≡ Some call = at_place drawn place call within is in
        let one : call ≡ c = some_is call c (sym got ∙ (ap (slice_get drawn) (sym same) ∙ at)) in
        subst (λ (x : StormCall). IsAsOften x drawn made) one here
    by_place (inr (inr later)) = absurd (omega (arith, low, later))

pub first_one : (drawn made : List StormCall) (place : ℕ) (call : StormCall) (unlike : Unlike) → place < length drawn → call ≡ get_or drawn place call → AreAsOften drawn made place →
    (unlike.call ≡ place + 1) × Stands call drawn unlike.drawn × Stands call made unlike.made × (unlike.drawn ≢ unlike.made) → IsUnlike drawn made unlike
first_one drawn made place call unlike within is before told = inl (record {
  place = place;
  call = call;
  there = at_place drawn place call within is;
  number = told.0;
  drawn_times = told.1;
  made_times = told.2;
  differ = told.3;
  before = before;
})

-- what was told of one call
pub told_unlike : (drawn made : List StormCall) (number : ℕ) (call : StormCall) (o : Option Unlike) (unlike : Unlike) → o ≡ Some unlike → IsComparedAt (Ok o) drawn made number call →
    (unlike.call ≡ number) × Stands call drawn unlike.drawn × Stands call made unlike.made × (unlike.drawn ≢ unlike.made)
told_unlike drawn made number call o unlike e is = subst (λ (x : Option Unlike). IsComparedAt (Ok x) drawn made number call) e is

pub told_none : (drawn made : List StormCall) (number : ℕ) (call : StormCall) (o : Option Unlike) → o ≡ None → IsComparedAt (Ok o) drawn made number call → IsAsOften call drawn made
told_none drawn made number call o e is = subst (λ (x : Option Unlike). IsComparedAt (Ok x) drawn made number call) e is

pub all_compared : (o : Option Unlike) (drawn made : List StormCall) (place : ℕ) → length drawn ≤ place → AreAsOften drawn made place → AreCounted o drawn made → AreCompared (Ok o) drawn made
all_compared None drawn made place past before counted = record {
  each = λ i call at. let w = slice_get_within drawn i call at in before i call (omega (arith, w, past)) at;
  all = counted;
}
all_compared (Some unlike) drawn made place past before counted = inr (record {
  each = λ i call at. let w = slice_get_within drawn i call at in before i call (omega (arith, w, past)) at;
  number = counted.0;
  drawn_all = counted.1;
  made_all = counted.2;
  differ = counted.3;
})
