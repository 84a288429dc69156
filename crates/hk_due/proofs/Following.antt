-- What becomes of one key where the rows of some keys are looked at.
use Rattle.std.proofs.Common.{◌≡◌, ℕ, List, [], ◌∷◌, map, Bool, true, false, not, ◌||◌, ◌⊎◌, inl, inr, Option, Some, None, unwrap_or, refl, sym, ap, subst, ◌∙◌}
use Rattle.std.specs.Option.{IsSome, is_some}
use Rattle.std.specs.Ordering.{is_eq, nat_cmp}
use Rattle.std.specs.declared.cmp.Ordering.{Ordering}
use Rattle.std.specs.declared.cmp.Ordering.TheVariants.{Less, Equal, Greater}
use Rattle.std.specs.BTreeMap.{is_at}
use Rattle.std.specs.List.{list_any}
use Rattle.std.proofs.lemmas.Bool.{false≢true}
use Rattle.std.proofs.lemmas.Cmp.{nat_list_cmp_total, tied_itself}
use Rattle.std.proofs.lemmas.Map.Lookups.{exact_bytes}
use Rattle.hk_copy.specs.Batches.{key_cmp}
use Rattle.hk_key.specs.Table.{first_row}
use Rattle.hk_node.specs.declared.report.PriorRow.{PriorRow}
use Rattle.hk_node.specs.Rows.{Rows, find_row, row_at}
use Rattle.hk_node.specs.Copies.{is_valid}
use Rattle.hk_node.specs.Report.{AreChanged}
use Rattle.hk_node.specs.Index.{is_open_at}
use Rattle.hk_due.specs.Keys.{OpenState, since_of, IsKept, IsMissed, IsLetGo, IsNotedHere, IsNoted, AreNoted, AreOpen, FollowingKeepsThem, OpenKeysStay}

abbrev Key : Type 0
Key = List ℕ

equal : (o : Ordering) → is_eq o ≡ true → o ≡ Equal
equal Less e = absurd (false≢true e)
equal Equal e = refl
equal Greater e = absurd (false≢true e)

same : (k q : Key) → is_at (key_cmp k) q ≡ true → k ≡ q
same k q e = exact_bytes k q (equal (key_cmp k q) e)

itself : (k : Key) → is_eq (key_cmp k k) ≡ true
itself k = ap is_eq (tied_itself nat_list_cmp_total k)

apart : (k q : Key) → is_at (key_cmp k) q ≡ false → is_eq (key_cmp q k) ≡ false
apart k q other = by (is_eq (key_cmp q k)) refl
  where
    by : (b : Bool) → is_eq (key_cmp q k) ≡ b → b ≡ false
    by false e = refl
    by true e = absurd (false≢true (sym other ∙ (ap (λ (p : Key). is_eq (key_cmp k p)) (same q k e) ∙ itself k)))

-- ---- whether all are there
module _ (rows : Rows) (ticket : ℕ) where
  whole_here : (k : Key) (b : Bool) (before after : OpenState) → IsNotedHere k b ticket before after → after.whole ≡ true → before.whole ≡ true
  whole_here k true before after (inl kept) whole = sym kept.whole ∙ whole
  whole_here k true before after (inr missed) whole = absurd (false≢true (sym missed.whole ∙ whole))
  whole_here k false before after gone whole = sym gone.whole ∙ whole

  whole_before : (changed : List PriorRow) (before after : OpenState) → AreNoted rows ticket (map (λ f. f.key) changed) before after → after.whole ≡ true → before.whole ≡ true
  whole_before [] before after noted whole = ap (λ (o : OpenState). o.whole) (sym noted) ∙ whole
  whole_before (f ∷ changed) before after noted whole = whole_here f.key (is_open_at rows f.key) before noted.0 noted.1.0 (whole_before changed noted.0 after noted.2 whole)

  -- a key is there as its row has it
  record IsSettled (q : Key) (keys : OpenState) : Type 0 where
    open_one : IsSome (since_of q keys) → is_open_at rows q ≡ true
    there : keys.whole ≡ true → is_open_at rows q ≡ true → IsSome (since_of q keys)

  settled_here : (k : Key) (b : Bool) (before after : OpenState) → is_open_at rows k ≡ b → IsNotedHere k b ticket before after → IsSettled k after
  settled_here k true before after e (inl kept) = record { open_one = λ _. e; there = λ _ _. ap is_some kept.there }
  settled_here k true before after e (inr missed) = record { open_one = λ _. e; there = λ whole _. absurd (false≢true (sym missed.whole ∙ whole)) }
  settled_here k false before after e gone = record { open_one = λ there. absurd (false≢true (ap is_some (sym gone.there) ∙ there)); there = λ _ is. absurd (false≢true (sym e ∙ is)) }

  -- it is as it was, or as its row has it
  abbrev IsEither : Key → List PriorRow → OpenState → OpenState → Type 0
  IsEither q changed before after = ((list_any (λ (f : PriorRow). is_eq (key_cmp q f.key)) changed ≡ false) × (since_of q after ≡ since_of q before)) ⊎ IsSettled q after

  either : (q : Key) (changed : List PriorRow) (before after : OpenState) → AreNoted rows ticket (map (λ f. f.key) changed) before after → IsEither q changed before after
  either q [] before after noted = inl (refl, ap (since_of q) noted)
  either q (f ∷ changed) before after (between, noted, more) = at (either q changed between after more)
    where
      at_key : (b : Bool) → is_at (key_cmp f.key) q ≡ b → list_any (λ (g : PriorRow). is_eq (key_cmp q g.key)) changed ≡ false → since_of q after ≡ since_of q between → IsEither q (f ∷ changed) before after
      at_key true e unlisted kept =
          let is : IsSettled f.key between = settled_here f.key (is_open_at rows f.key) before between refl noted.0 in
          let here : IsSettled q between = subst (λ (k : Key). IsSettled k between) (same f.key q e) is in
          inr (record {
            open_one = λ there. here.open_one (ap is_some (sym kept) ∙ there);
            there = λ whole is_open. ap is_some kept ∙ here.there (whole_before changed between after more whole) is_open;
          })
      at_key false e unlisted kept = inl (rw (apart f.key q e) unlisted, kept ∙ noted.1 q e)

      at : IsEither q changed between after → IsEither q (f ∷ changed) before after
      at (inl rest) = at_key (is_at (key_cmp f.key) q) refl rest.0 rest.1
      at (inr settled) = inr settled

  stays : (q : Key) (since : ℕ) (changed : List PriorRow) (before after : OpenState) → AreNoted rows ticket (map (λ f. f.key) changed) before after →
      after.whole ≡ true → is_open_at rows q ≡ true → since_of q before ≡ Some since → since_of q after ≡ Some since
  stays q since [] before after noted whole is was = ap (since_of q) noted ∙ was
  stays q since (f ∷ changed) before after (between, noted, more) whole is was =
      stays q since changed between after more whole is (at_key (is_at (key_cmp f.key) q) refl)
    where
      kept : (k : Key) (b : Bool) → b ≡ true → IsNotedHere k b ticket before between → since_of k before ≡ Some since → since_of k between ≡ Some since
      kept k true e (inl here) was = here.there ∙ ap (λ (o : Option ℕ). Some (unwrap_or o ticket)) was
      kept k true e (inr missed) was = absurd (false≢true (sym missed.whole ∙ whole_before changed between after more whole))
      kept k false e gone was = absurd (false≢true e)

      at_key : (b : Bool) → is_at (key_cmp f.key) q ≡ b → since_of q between ≡ Some since
      at_key true e =
          let k : f.key ≡ q = same f.key q e in
          subst (λ (p : Key). since_of p between ≡ Some since) k
          (kept f.key (is_open_at rows f.key) (ap (is_open_at rows) k ∙ is) noted.0 (ap (λ (p : Key). since_of p before) k ∙ was))
      at_key false e = noted.1 q e ∙ was

pub following_keeps : FollowingKeepsThem
following_keeps changed old new ticket before after are noted was = record {
  open_ones = λ q there. by_one q there (either new ticket q changed before after noted);
  all_open = λ whole q is. by_all whole q is (either new ticket q changed before after noted);
}
  where
    same_row : (q : Key) → list_any (λ (f : PriorRow). is_eq (key_cmp q f.key)) changed ≡ false → is_open_at new q ≡ is_open_at old q
    same_row q unlisted = ap (λ (o : Option _). not (is_valid (unwrap_or o first_row).state)) (are.others q unlisted)

    by_one : (q : Key) → IsSome (since_of q after) → IsEither new ticket q changed before after → is_open_at new q ≡ true
    by_one q there (inl old_one) = same_row q old_one.0 ∙ was.open_ones q (ap is_some (sym old_one.1) ∙ there)
    by_one q there (inr settled) = settled.open_one there

    by_all : after.whole ≡ true → (q : Key) → is_open_at new q ≡ true → IsEither new ticket q changed before after → IsSome (since_of q after)
    by_all whole q is (inl old_one) = ap is_some old_one.1 ∙ was.all_open (whole_before new ticket changed before after noted whole) q (sym (same_row q old_one.0) ∙ is)
    by_all whole q is (inr settled) = settled.there whole is

pub open_keys_stay : OpenKeysStay
open_keys_stay changed old new ticket since key before after noted whole is was = stays new ticket key since changed before after noted whole is was

-- where none is missing, the keys of the open rows tell which they are
pub told_open : (keys : OpenState) (rows : Rows) (key : List ℕ) → AreOpen keys rows → keys.whole ≡ true → is_some (since_of key keys) ≡ is_open_at rows key
told_open keys rows key are whole = by (is_some (since_of key keys)) (is_open_at rows key) refl refl
  where
    by : (b d : Bool) → is_some (since_of key keys) ≡ b → is_open_at rows key ≡ d → b ≡ d
    by true d there is = sym (are.open_ones key there) ∙ is
    by false true gone is = absurd (false≢true (sym gone ∙ are.all_open whole key is))
    by false false gone is = refl
