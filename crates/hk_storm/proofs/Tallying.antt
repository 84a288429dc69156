-- What is told of how often a line comes is how often its call stands.
use Rattle.std.proofs.Common.{◌≡◌, ◌≢◌, ◌⊎◌, ◌<◌, ℕ, suc, ◌+◌, List, [], ◌∷◌, ◌++◌, Bool, true, false, cond, Option, Some, None, inl, inr, refl, sym, ap, subst, ◌∙◌, arith}
use Rattle.std.specs.Ordering.{nat_cmp}
use Rattle.std.specs.Cmp.Lexicographic.{slice_cmp}
use Rattle.std.specs.List.{count_by, AllByRecursion}
use Rattle.std.specs.BTreeMap.{is_at}
use Rattle.std.proofs.lemmas.List.Sums.{sum_by-cons, sum_by-append}
use Rattle.hk_event.specs.declared.event.Event.{Event}
use Rattle.hk_event.specs.declared.event.Event.TheVariants.{Call}
use Rattle.hk_script.specs.Grammar.{IsWritten}
use Rattle.hk_script.specs.Reading.{LinesTellEvents}
use Rattle.hk_merge.proofs.Entries.{found_same, found_other, list_equal}
use Rattle.hk_merge.proofs.Settings.{itself, at_is, at_far, set_same, set_other}
use Rattle.hk_storm.specs.declared.calls.StormCall.{StormCall}
use Rattle.hk_storm.specs.Calls.{Stands}
use Rattle.hk_storm.specs.Tallied.{Counts, event_of, line_of, found, count_or, count_of, put_line_at, with_line, has_line, AreBytes, IsTally}

-- ---- one line more
abbrev one_if : Bool → ℕ
one_if b = cond b 1 0

module _ (counts : Counts) (line q : List ℕ) where
  near : (o : Option ℕ) → found line counts ≡ o → count_of line (put_line_at o counts line) ≡ count_or o + 1
  near None is = ap count_or (found_same (slice_cmp nat_cmp) list_equal itself line 1 counts)
  near (Some n) is = ap count_or (set_same line (n + 1) counts n is)

  far : is_at (slice_cmp nat_cmp q) line ≡ false → (o : Option ℕ) → found q (put_line_at o counts line) ≡ found q counts
  far apart None = found_other (slice_cmp nat_cmp) list_equal itself q line 1 counts (at_far q line apart)
  far apart (Some n) = set_other line (n + 1) q apart counts

  counted : count_of q (with_line counts line) ≡ count_of q counts + one_if (is_at (slice_cmp nat_cmp q) line)
  counted = by_test (is_at (slice_cmp nat_cmp q) line) refl
    where
      by_test : (b : Bool) → is_at (slice_cmp nat_cmp q) line ≡ b → count_of q (with_line counts line) ≡ count_of q counts + one_if b
      by_test true e =
          let at : q ≡ line = at_is q line e in
          ap (λ (l : List ℕ). count_of l (with_line counts line)) at ∙ (near (found line counts) refl ∙ ap (λ (l : List ℕ). count_of l counts + 1) (sym at))
      by_test false e = ap count_or (far e (found line counts)) ∙ zero_more (count_of q counts)
        where
          zero_more : (n : ℕ) → n ≡ n + 0
          zero_more n = omega arith

written_more : (calls : List StormCall) (call : StormCall) → AllByRecursion (λ (c : StormCall). IsWritten (event_of c)) calls → IsWritten (event_of call) → AllByRecursion (λ (c : StormCall). IsWritten (event_of c)) (calls ++ call ∷ [])
written_more [] call all one = (one, tt)
written_more (c ∷ calls) call all one = (all.0, written_more calls call all.1 one)

pub tally_more : (before after : Counts) (calls : List StormCall) (call : StormCall) (line : List ℕ) → line ≡ line_of call → IsWritten (event_of call) → after ≡ with_line before line → IsTally before calls → IsTally after (calls ++ call ∷ [])
tally_more before after calls call line is written made tally = record {
  tells = λ q.
      ap (count_of q) made
      ∙ (counted before line q
      ∙ (ap (λ (n : ℕ). n + one_if (is_at (slice_cmp nat_cmp q) line)) (tally.tells q)
      ∙ (ap (λ (l : List ℕ). count_by (has_line q) calls + one_if (is_at (slice_cmp nat_cmp q) l)) is ∙ last q)));
  written = written_more calls call tally.written written;
}
  where
    last : (q : List ℕ) → count_by (has_line q) calls + one_if (has_line q call) ≡ count_by (has_line q) (calls ++ call ∷ [])
    last q =
        let joined = sum_by-append (λ (c : StormCall). cond (has_line q c) 1 0) calls (call ∷ []) in
        let one = sum_by-cons (λ (c : StormCall). cond (has_line q c) 1 0) call [] in
        omega (arith, joined, one)

-- ---- how often a call stands
abbrev pub call_in : StormCall → Event → StormCall
call_in other (Call node key op) = record { node = node; key = key; op = op }
call_in other event = other

call_is : (c d : StormCall) → event_of c ≡ event_of d → c ≡ d
call_is c d e = ap (call_in c) e

pub stands : LinesTellEvents → (call : StormCall) → IsWritten (event_of call) → (calls : List StormCall) → AllByRecursion (λ (c : StormCall). IsWritten (event_of c)) calls → Stands call calls (count_by (has_line (line_of call)) calls)
stands one call is [] all = refl
stands one call is (c ∷ calls) all = by_test (has_line (line_of call) c) refl (stands one call is calls all.1)
  where
    step : count_by (has_line (line_of call)) (c ∷ calls) ≡ one_if (has_line (line_of call) c) + count_by (has_line (line_of call)) calls
    step = sum_by-cons (λ (x : StormCall). cond (has_line (line_of call) x) 1 0) c calls

    by_test : (b : Bool) → has_line (line_of call) c ≡ b → Stands call calls (count_by (has_line (line_of call)) calls) →
        ((c ≡ call) × (m : ℕ) × (count_by (has_line (line_of call)) (c ∷ calls) ≡ m + 1) × Stands call calls m) ⊎ ((c ≢ call) × Stands call calls (count_by (has_line (line_of call)) (c ∷ calls)))
    by_test true e more =
        let lines : line_of call ≡ line_of c = at_is (line_of call) (line_of c) e in
        let same : event_of c ≡ event_of call = one (line_of c) (event_of c) (event_of call) (record { written = all.0; line_is = refl }) (record { written = is; line_is = sym lines }) in
        let t : one_if (has_line (line_of call) c) ≡ 1 = ap one_if e in
        inl (call_is c call same, count_by (has_line (line_of call)) calls, omega (arith, step, t), more)
    by_test false e more =
        let t : one_if (has_line (line_of call) c) ≡ 0 = ap one_if e in
        let n : count_by (has_line (line_of call)) calls ≡ count_by (has_line (line_of call)) (c ∷ calls) = omega (arith, step, t) in
        inr ((λ same. at_far (line_of call) (line_of c) e (ap line_of (sym same))), subst (Stands call calls) n more)

pub tells_stands : LinesTellEvents → (call : StormCall) → IsWritten (event_of call) → (counts : Counts) (calls : List StormCall) → IsTally counts calls → Stands call calls (count_of (line_of call) counts)
tells_stands one call is counts calls tally = subst (Stands call calls) (sym (tally.tells (line_of call))) (stands one call is calls tally.written)

-- ---- bytes
pub all_below : (bytes : List ℕ) → AreBytes bytes → AllByRecursion (λ b. b < 256) bytes
all_below [] below = tt
all_below (byte ∷ bytes) below = (below 0, all_below bytes (λ i. below (suc i)))
