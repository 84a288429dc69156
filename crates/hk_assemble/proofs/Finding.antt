-- What is found of a letter after another one was sent.
use Rattle.std.proofs.Common.{◌≡◌, ℕ, List, [], ◌∷◌, ◌++◌, Bool, true, false, cond, Option, Some, None, refl, sym, ap, subst, ◌∙◌}
use Rattle.std.specs.Ordering.{nat_cmp}
use Rattle.std.specs.Cmp.Lexicographic.{slice_cmp}
use Rattle.std.specs.Option.{option_or}
use Rattle.std.specs.BTreeMap.{is_at}
use Rattle.std.proofs.lemmas.List.Folds.{find-append}
use Rattle.hk_base.specs.declared.letter.Letter.{Letter}
use Rattle.hk_merge.specs.Same.{same_letter, SameIsEqual}
use Rattle.hk_merge.proofs.Entries.{found_same, found_other, list_equal}
use Rattle.hk_merge.proofs.Settings.{itself, at_is, at_far, set_same, set_other}
use Rattle.hk_assemble.specs.declared.sent.Sent.{Sent}
use Rattle.hk_assemble.specs.Marks.{mark_of}
use Rattle.hk_assemble.specs.SentLetters.{Buckets, is_same, found_in, bucket_at, found, put_in, with_sent, kept_or, with_letter}

-- ---- what a letter that was sent tells of another
abbrev pub told : Sent → Letter → Option Sent
told copy x = cond (same_letter copy.letter x) (Some copy) None

or_none : {X : Type 0} (o : Option X) → option_or o None ≡ o
or_none None = refl
or_none (Some x) = refl

module _ (same : SameIsEqual) (sent : Buckets) (copy : Sent) (x : Letter) where
  -- letters with other marks are others
  apart : is_at (slice_cmp nat_cmp (mark_of x)) (mark_of copy.letter) ≡ false → told copy x ≡ None
  apart far = by_test (same_letter copy.letter x) refl
    where
      by_test : (b : Bool) → same_letter copy.letter x ≡ b → cond b (Some copy) None ≡ None
      by_test true e = absurd (at_far (mark_of x) (mark_of copy.letter) far (sym (ap mark_of ((same copy.letter x).0 e))))
      by_test false e = refl

  put_found : found (with_sent sent copy) x ≡ option_or (found sent x) (told copy x)
  put_found = by_place (is_at (slice_cmp nat_cmp (mark_of x)) (mark_of copy.letter)) refl
    where
      -- of the same mark
      near : mark_of x ≡ mark_of copy.letter → (o : Option (List Sent)) → bucket_at (mark_of copy.letter) sent ≡ o → found_in (bucket_at (mark_of copy.letter) (put_in o sent (mark_of copy.letter) copy)) x ≡ option_or (found_in o x) (told copy x)
      near at None is = ap (λ (o : Option (List Sent)). found_in o x) (found_same (slice_cmp nat_cmp) list_equal itself (mark_of copy.letter) (copy ∷ []) sent)
      near at (Some bucket) is =
          ap (λ (o : Option (List Sent)). found_in o x) (set_same (mark_of copy.letter) (bucket ++ copy ∷ []) sent bucket is)
          ∙ find-append (is_same x) bucket (copy ∷ [])

      far_off : is_at (slice_cmp nat_cmp (mark_of x)) (mark_of copy.letter) ≡ false → (o : Option (List Sent)) → bucket_at (mark_of copy.letter) sent ≡ o → bucket_at (mark_of x) (put_in o sent (mark_of copy.letter) copy) ≡ bucket_at (mark_of x) sent
      far_off far None is = found_other (slice_cmp nat_cmp) list_equal itself (mark_of x) (mark_of copy.letter) (copy ∷ []) sent (at_far (mark_of x) (mark_of copy.letter) far)
      far_off far (Some bucket) is = set_other (mark_of copy.letter) (bucket ++ copy ∷ []) (mark_of x) far sent

      by_place : (b : Bool) → is_at (slice_cmp nat_cmp (mark_of x)) (mark_of copy.letter) ≡ b → found (with_sent sent copy) x ≡ option_or (found sent x) (told copy x)
      by_place true e =
          let at : mark_of x ≡ mark_of copy.letter = at_is (mark_of x) (mark_of copy.letter) e in
          ap (λ (m : List ℕ). found_in (bucket_at m (with_sent sent copy)) x) at
          ∙ (near at (bucket_at (mark_of copy.letter) sent) refl ∙ ap (λ (m : List ℕ). option_or (found_in (bucket_at m sent) x) (told copy x)) (sym at))
      by_place false e =
          ap (λ (o : Option (List Sent)). found_in o x) (far_off e (bucket_at (mark_of copy.letter) sent) refl)
          ∙ (sym (or_none (found sent x)) ∙ ap (λ (o : Option Sent). option_or (found sent x) o) (sym (apart e)))

  -- the letter was sent before, or it is kept now
  pub found_after : found (with_letter sent copy) x ≡ option_or (found sent x) (told copy x)
  found_after = by_first (found sent copy.letter) refl
    where
      by_first : (o : Option Sent) → found sent copy.letter ≡ o → found (kept_or o sent copy) x ≡ option_or (found sent x) (told copy x)
      by_first None is = put_found
      by_first (Some first) is = by_test (same_letter copy.letter x) refl
        where
          by_test : (b : Bool) → same_letter copy.letter x ≡ b → found sent x ≡ option_or (found sent x) (cond b (Some copy) None)
          by_test true e =
              let here : found sent x ≡ Some first = subst (λ (l : Letter). found sent l ≡ Some first) ((same copy.letter x).0 e) is in
              here ∙ sym (ap (λ (o : Option Sent). option_or o (Some copy)) here)
          by_test false e = sym (or_none (found sent x))
