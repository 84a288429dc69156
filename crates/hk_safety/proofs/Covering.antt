-- Covers, one part after the other.
use Rattle.std.proofs.Common.{◌≡◌, ◌≢◌, ◌⊎◌, ℕ, ◌+◌, ◌<◌, ◌≤◌, List, [], ◌∷◌, ◌++◌, append-nil, append_assoc, take, length, get_or, Bool, ◌&&◌, ◌||◌, true, false, cond, not, Less, Option, Some, None, IfSome, is_some, refl, sym, ap, subst, ◌∙◌, inl, inr, ⊎_elim, arith, eqb}
use Rattle.std.specs.Map.{keys_of}
use Rattle.std.specs.List.{AllByRecursion, find, flat_map}
use Rattle.std.specs.List.Sorted.{IsStrictlySortedBy}
use Rattle.std.specs.Option.{option_map}
use Rattle.std.specs.Ordering.{is_lt}
use Rattle.std.proofs.lemmas.Map.Keys.{sorted_head, sorted_tail}
use Rattle.std.proofs.lemmas.Bool.{false≢true, eqb-true, ne_eqb, and_from}
use Rattle.hk_base.specs.Range.{IsWithin}
use Rattle.hk_base.specs.Stamp.{tag_of}
use Rattle.hk_base.specs.declared.view.View.{View}
use Rattle.hk_copy.specs.Batches.{key_cmp}
use Rattle.hk_base.specs.View.{member_numbers}
use Rattle.hk_key.specs.declared.row.Pending.{Pending}
use Rattle.hk_key.specs.declared.row.Row.{Row}
use Rattle.hk_key.specs.Sound.{IsUpdate}
use Rattle.hk_node.specs.declared.report.PriorRow.{PriorRow}
use Rattle.hk_node.specs.Node.{NodeState, members_of}
use Rattle.hk_node.specs.Rows.{Rows, find_row, row_at}
use Rattle.hk_node.specs.Copies.{is_valid}
use Rattle.hk_node.specs.Open.{is_behind, is_open_behind, next_open}
use Rattle.hk_node.specs.Sound.{IsNode}
use Rattle.hk_node.proofs.Again.{found_sound}
use Rattle.hk_register.specs.Machine.{In, Mark}
use Rattle.hk_register.proofs.Grow.{in_left, in_right}
use Rattle.hk_register.specs.Printed.{is_mark}
use Rattle.hk_register.specs.Runs.{is_in}
use Rattle.hk_effects.specs.Projection.{is_same_key}
use Rattle.hk_effects.proofs.Order.{cases_key, same_of, same_not, row_of_found, row_here, row_next, test_of_below}
use Rattle.hk_safety.specs.declared.evidence.Cover.{Cover}
use Rattle.hk_safety.specs.declared.evidence.Evidence.{Evidence}
use Rattle.hk_safety.specs.declared.key_run.AtStamp.{AtStamp}
use Rattle.hk_safety.specs.Kept.{KeyState, Keys, covers_in, is_ready_mark, ready_in, at_stamp, find_key, key_at}
use Rattle.hk_safety.specs.Grown.{IsKnownBy, IsSinceThen, mark_by, with_mark, stamp_in, IsCoveredAt, IsCovered, Touch, tags_at, AreCovered, wait_touches, row_touches, touches_now, prior_waits, changed_touches, is_open, AreOpenCovered}
use Rattle.hk_safety.proofs.Puts.{IsPutAt, put_stays, put_here, put_others, found_at, not_there, turn}
use Rattle.hk_safety.proofs.Known.{TellSame, same_known, shown_known}
use Rattle.hk_safety.proofs.Since.{since_same, since_both, since_shown}

-- ---- one key
twice : (a b : Bool) → (a || (a || b)) ≡ (a || b)
twice true b = refl
twice false b = refl

tell_twice : (m : Mark) (marks : List Mark) (s : ℕ) → TellSame (m ∷ m ∷ marks) (m ∷ marks) s
tell_twice m marks s = record {
  covers = λ n e. twice (is_mark n e s m) (covers_in marks s n e);
  ready = λ e. twice (is_ready_mark e s m) (ready_in marks s e);
}

module _ (v : View) (c : Cover) where
  pub covered_nothing : (old new : KeyState) (tags : List ℕ) → new ≡ old → ((s : ℕ) → 1 ≤ s → is_in s tags ≡ false) → IsCovered v c old new tags
  covered_nothing old new tags same none = record {
    items = ap (λ (k : KeyState). k.items) same;
    update = λ s. ap (λ (k : KeyState). (at_stamp s k).update) same;
    read_only = λ s. ap (λ (k : KeyState). (at_stamp s k).read_only) same;
    known = λ V fits marks s some k.
        subst (λ (b : Bool). IsKnownBy V (with_mark b (mark_by c v s) marks) s (at_stamp s new).evidence) (sym (none s some))
        (subst (λ (j : KeyState). IsKnownBy V marks s (at_stamp s j).evidence) (sym same) k);
    since = λ s. since_same c.event (at_stamp s old).evidence (at_stamp s new).evidence (ap (λ (k : KeyState). (at_stamp s k).evidence) same);
  }

  with_both : (V : ℕ → List ℕ) (marks : List Mark) (s : ℕ) (ev : Evidence) (a b : Bool) →
      IsKnownBy V (with_mark b (mark_by c v s) (with_mark a (mark_by c v s) marks)) s ev → IsKnownBy V (with_mark (cond a true b) (mark_by c v s) marks) s ev
  with_both V marks s ev true true k = same_known V _ _ s ev (tell_twice (mark_by c v s) marks s) k
  with_both V marks s ev true false k = k
  with_both V marks s ev false b k = k

  in_both : (s : ℕ) (a b : List ℕ) → is_in s (a ++ b) ≡ cond (is_in s a) true (is_in s b)
  in_both s [] b = refl
  in_both s (t ∷ a) b = by_test (eqb s t) (in_both s a b)
    where
      by_test : (x : Bool) → is_in s (a ++ b) ≡ cond (is_in s a) true (is_in s b) →
          cond x true (is_in s (a ++ b)) ≡ cond (cond x true (is_in s a)) true (is_in s b)
      by_test true more = refl
      by_test false more = more

  pub covered_joined : (old mid new : KeyState) (a b : List ℕ) → IsCovered v c old mid a → IsCovered v c mid new b → IsCovered v c old new (a ++ b)
  covered_joined old mid new a b first second = record {
    items = second.items ∙ first.items;
    update = λ s. second.update s ∙ first.update s;
    read_only = λ s. second.read_only s ∙ first.read_only s;
    known = λ V fits marks s some k.
        subst (λ (x : Bool). IsKnownBy V (with_mark x (mark_by c v s) marks) s (at_stamp s new).evidence) (sym (in_both s a b))
        (with_both V marks s (at_stamp s new).evidence (is_in s a) (is_in s b)
        (second.known V fits (with_mark (is_in s a) (mark_by c v s) marks) s some (first.known V fits marks s some k)));
    since = λ s. since_both c.event (at_stamp s old).evidence (at_stamp s mid).evidence (at_stamp s new).evidence (first.since s) (second.since s);
  }

  -- the cover of one stamp
  pub covered_stamp : (old new : KeyState) (s : ℕ) → new.items ≡ old.items → IsCoveredAt old.stamps new.stamps s v c → IsCovered v c old new (s ∷ [])
  covered_stamp old new s items at = record {
    items = items;
    update = λ t. update t (eqb t s) refl;
    read_only = λ t. read_only t (eqb t s) refl;
    known = λ V fits marks t some k. known V fits marks t (eqb t s) refl k;
    since = λ t. since t (eqb t s) refl;
  }
    where
      since : (t : ℕ) (b : Bool) → eqb t s ≡ b → IsSinceThen c.event (at_stamp t old).evidence (at_stamp t new).evidence
      since t true is = subst (λ (u : ℕ). IsSinceThen c.event (stamp_in u old.stamps).evidence (stamp_in u new.stamps).evidence) (sym (eqb-true t s is))
          (since_shown v c (stamp_in s old.stamps).evidence (stamp_in s new.stamps).evidence at.shown)
      since t false is = since_same c.event (at_stamp t old).evidence (at_stamp t new).evidence (ap (λ (a : AtStamp). a.evidence) (at.there t is))

      update : (t : ℕ) (b : Bool) → eqb t s ≡ b → (at_stamp t new).update ≡ (at_stamp t old).update
      update t true is = subst (λ (u : ℕ). (stamp_in u new.stamps).update ≡ (stamp_in u old.stamps).update) (sym (eqb-true t s is)) at.update
      update t false is = ap (λ (a : AtStamp). a.update) (at.there t is)

      read_only : (t : ℕ) (b : Bool) → eqb t s ≡ b → (at_stamp t new).read_only ≡ (at_stamp t old).read_only
      read_only t true is = subst (λ (u : ℕ). (stamp_in u new.stamps).read_only ≡ (stamp_in u old.stamps).read_only) (sym (eqb-true t s is)) at.read_only
      read_only t false is = ap (λ (a : AtStamp). a.read_only) (at.there t is)

      known : (V : ℕ → List ℕ) → member_numbers v.members ≡ V v.epoch → (marks : List Mark) (t : ℕ) (b : Bool) → eqb t s ≡ b →
          IsKnownBy V marks t (at_stamp t old).evidence → IsKnownBy V (with_mark (cond b true false) (mark_by c v t) marks) t (at_stamp t new).evidence
      known V fits marks t true is k =
          let same : t ≡ s = eqb-true t s is in
          subst (λ (u : ℕ). IsKnownBy V (mark_by c v u ∷ marks) u (stamp_in u new.stamps).evidence) (sym same)
          (shown_known V v c fits marks s (stamp_in s old.stamps).evidence (stamp_in s new.stamps).evidence at.shown
          (subst (λ (u : ℕ). IsKnownBy V marks u (stamp_in u old.stamps).evidence) same k))
      known V fits marks t false is k = subst (λ (a : AtStamp). IsKnownBy V marks t a.evidence) (sym (at.there t is)) k

  -- the stamp of no update
  none_in : (s tag : ℕ) → 1 ≤ s → tag ≡ 0 → is_in s (tag ∷ []) ≡ false
  none_in s tag some zero = ap (λ (b : Bool). cond b true false) (ne_eqb s tag (λ (e : s ≡ tag). omega (arith, e, zero, some)))

  -- ---- all keys
  at_both : (key : List ℕ) (a b : List Touch) → tags_at key (a ++ b) ≡ tags_at key a ++ tags_at key b
  at_both key [] b = refl
  at_both key (t ∷ a) b = by_test (is_same_key key t.0) (at_both key a b)
    where
      by_test : (x : Bool) → tags_at key (a ++ b) ≡ tags_at key a ++ tags_at key b →
          cond x (t.1 ∷ tags_at key (a ++ b)) (tags_at key (a ++ b)) ≡ cond x (t.1 ∷ tags_at key a) (tags_at key a) ++ tags_at key b
      by_test true more = ap (λ (l : List ℕ). t.1 ∷ l) more
      by_test false more = more

  pub are_same : (old new : Keys) → new ≡ old → AreCovered v c old new []
  are_same old new same = record {
    keys = ap keys_of same;
    there = λ key. ap (λ (ks : Keys). is_some (find_key key ks)) same;
    each = λ key there. covered_nothing (key_at key old) (key_at key new) [] (ap (key_at key) same) (λ s some. refl);
  }

  pub are_joined : (old mid new : Keys) (a b : List Touch) → AreCovered v c old mid a → AreCovered v c mid new b → AreCovered v c old new (a ++ b)
  are_joined old mid new a b first second = record {
    keys = second.keys ∙ first.keys;
    there = λ key. second.there key ∙ first.there key;
    each = λ key there.
        subst (IsCovered v c (key_at key old) (key_at key new)) (sym (at_both key a b))
        (covered_joined (key_at key old) (key_at key mid) (key_at key new) (tags_at key a) (tags_at key b)
        (first.each key there) (second.each key (first.there key ∙ there)));
  }

  -- one key that is kept, and one that is not
  tags_same : (q key : List ℕ) (tag : ℕ) → q ≡ key → tags_at q ((key, tag) ∷ []) ≡ tag ∷ []
  tags_same q key tag e = ap (λ (b : Bool). cond b (tag ∷ []) []) (same_of q key e)

  tags_other : (q key : List ℕ) (tag : ℕ) → q ≢ key → tags_at q ((key, tag) ∷ []) ≡ []
  tags_other q key tag ne = ap (λ (b : Bool). cond b (tag ∷ []) []) (same_not q key ne)

  pub are_at : (old new : Keys) (key : List ℕ) (tag : ℕ) (k l : KeyState) → find_key key old ≡ Some k → keys_of new ≡ keys_of old →
      IsPutAt old new key l → IsCovered v c k l (tag ∷ []) → AreCovered v c old new ((key, tag) ∷ [])
  are_at old new key tag k l found keys put covered = record {
    keys = keys;
    there = put_stays old new key l put (ap is_some found);
    each = λ q there. ⊎_elim
        (λ (e : q ≡ key).
        let at : IsCovered v c (key_at key old) (key_at key new) (tag ∷ []) =
        subst (λ (x : KeyState). IsCovered v c x (key_at key new) (tag ∷ [])) (sym (found_at key old k found))
        (subst (λ (x : KeyState). IsCovered v c k x (tag ∷ [])) (sym (put_here old new key l put)) covered) in
        subst (IsCovered v c (key_at q old) (key_at q new)) (sym (tags_same q key tag e))
        (subst (λ (j : List ℕ). IsCovered v c (key_at j old) (key_at j new) (tag ∷ [])) (sym e) at))
        (λ (ne : q ≢ key). subst (IsCovered v c (key_at q old) (key_at q new)) (sym (tags_other q key tag ne))
        (covered_nothing (key_at q old) (key_at q new) [] (put_others old new key l put q ne) (λ s some. refl))) (cases_key q key);
  }

  pub are_absent : (old new : Keys) (key : List ℕ) (tag : ℕ) → find_key key old ≡ None → new ≡ old → AreCovered v c old new ((key, tag) ∷ [])
  are_absent old new key tag none same = record {
    keys = ap keys_of same;
    there = λ q. ap (λ (ks : Keys). is_some (find_key q ks)) same;
    each = λ q there.
        let ne : q ≢ key = λ e. not_there (find_key key old) none (subst (λ (j : List ℕ). is_some (find_key j old) ≡ true) e there) in
        subst (IsCovered v c (key_at q old) (key_at q new)) (sym (tags_other q key tag ne))
        (covered_nothing (key_at q old) (key_at q new) [] (ap (key_at q) same) (λ s some. refl));
  }

  -- the stamp of no update, of any key
  pub are_none : (keys : Keys) (key : List ℕ) (tag : ℕ) → tag ≡ 0 → AreCovered v c keys keys ((key, tag) ∷ [])
  are_none keys key tag zero = record {
    keys = refl;
    there = λ q. refl;
    each = λ q there. covered_nothing (key_at q keys) (key_at q keys) (tags_at q ((key, tag) ∷ [])) refl
        (λ s some. ⊎_elim
        (λ (e : q ≡ key). ap (is_in s) (tags_same q key tag e) ∙ none_in s tag some zero)
        (λ (ne : q ≢ key). ap (is_in s) (tags_other q key tag ne)) (cases_key q key));
  }

-- ---- one item more
flat_more : {X Y : Type 0} (f : X → List Y) (xs : List X) (x : X) → flat_map f (xs ++ x ∷ []) ≡ flat_map f xs ++ f x
flat_more f [] x = append-nil (f x)
flat_more f (y ∷ xs) x = ap (λ (l : List _). f y ++ l) (flat_more f xs x) ∙ sym (append_assoc (f y) (flat_map f xs) (f x))

pub covers_turn : {X : Type 0} (v : View) (c : Cover) (f : X → List Touch) (xs : List X) (i : ℕ) (x : X) (old mid new : Keys) → i < length xs →
    x ≡ get_or xs i x → AreCovered v c old mid (flat_map f (take i xs)) → AreCovered v c mid new (f x) →
    AreCovered v c old new (flat_map f (take (i + 1) xs))
covers_turn v c f xs i x old mid new lt is first second =
    subst (AreCovered v c old new) (sym (ap (flat_map f) (turn xs i x lt is) ∙ flat_more f (take i xs) x))
    (are_joined v c old mid new (flat_map f (take i xs)) (f x) first second)

pub covers_more : {X : Type 0} (v : View) (c : Cover) (f : X → List Touch) (xs : List X) (x : X) (old mid new : Keys) →
    AreCovered v c old mid (flat_map f xs) → AreCovered v c mid new (f x) → AreCovered v c old new (flat_map f (xs ++ x ∷ []))
covers_more v c f xs x old mid new first second =
    subst (AreCovered v c old new) (sym (flat_more f xs x)) (are_joined v c old mid new (flat_map f xs) (f x) first second)

-- ---- a row
-- ---- one cover twice
doubled : (s n : ℕ) (b : Bool) → is_in s (cond b (n ∷ cond b (n ∷ []) []) (cond b (n ∷ []) [])) ≡ is_in s (cond b (n ∷ []) [])
doubled s n true = again (eqb s n)
  where
    again : (x : Bool) → cond x true (cond x true false) ≡ cond x true false
    again true = refl
    again false = refl
doubled s n false = refl

module _ (v : View) (c : Cover) where
  covered_alike : (old new : KeyState) (a b : List ℕ) → ((s : ℕ) → is_in s b ≡ is_in s a) → IsCovered v c old new a → IsCovered v c old new b
  covered_alike old new a b alike covered = record {
    items = covered.items;
    update = covered.update;
    read_only = covered.read_only;
    known = λ V fits marks s some k.
        subst (λ (t : Bool). IsKnownBy V (with_mark t (mark_by c v s) marks) s (at_stamp s new).evidence) (sym (alike s)) (covered.known V fits marks s some k);
    since = covered.since;
  }

  pub are_again : (old new : Keys) (t : Touch) → AreCovered v c old new (t ∷ []) → AreCovered v c old new (t ∷ t ∷ [])
  are_again old new t covered = record {
    keys = covered.keys;
    there = covered.there;
    each = λ key there. covered_alike (key_at key old) (key_at key new) (tags_at key (t ∷ [])) (tags_at key (t ∷ t ∷ []))
        (λ s. doubled s t.1 (is_same_key key t.0)) (covered.each key there);
  }

-- what waits has this tag
pub waits_is : (o : Option Pending) (p : Pending) (tag : ℕ) → o ≡ Some p → tag_of p.stamp ≡ tag → (key : List ℕ) → wait_touches key o ≡ (key, tag) ∷ []
waits_is o p tag some is key = ap (wait_touches key) some ∙ ap (λ (t : ℕ). (key, t) ∷ []) is

pub waits_within : (x : NodeState) (key : List ℕ) (row : Row) → IsNode x → find_row key x.rows ≡ Some row → IfSome row.pending (λ p. IsWithin p.stamp)
waits_within x key row ok found = within row.pending (found_sound x key row ok found).update
  where
    within : (o : Option Pending) → IfSome o (IsUpdate x.id (members_of x)) → IfSome o (λ p. IsWithin p.stamp)
    within None h = tt
    within (Some p) h = h.within

module _ (v : View) (c : Cover) (x : NodeState) (key : List ℕ) where
  pub row_found : (row : Row) (tag : ℕ) (old mid new : Keys) → find_row key x.rows ≡ Some row → tag ≡ tag_of row.stamp → AreCovered v c old mid ((key, tag) ∷ []) →
      AreCovered v c mid new (wait_touches key row.pending) → AreCovered v c old new (touches_now x key)
  row_found row tag old mid new found is first second =
      let same : row_at key x.rows ≡ row = row_of_found key x.rows (Some row) found in
      subst (λ (r : Row). AreCovered v c old new (row_touches key r)) (sym same)
      (are_joined v c old mid new ((key, tag_of row.stamp) ∷ []) (wait_touches key row.pending)
      (subst (λ (t : ℕ). AreCovered v c old mid ((key, t) ∷ [])) is first) second)

  -- what waits has the row's own stamp, so that one cover is that of both
  pub row_again : (row : Row) (tag : ℕ) (old new : Keys) → find_row key x.rows ≡ Some row → tag ≡ tag_of row.stamp → AreCovered v c old new ((key, tag) ∷ []) →
      wait_touches key row.pending ≡ (key, tag) ∷ [] → AreCovered v c old new (touches_now x key)
  row_again row tag old new found is covered waits =
      let same : row_at key x.rows ≡ row = row_of_found key x.rows (Some row) found in
      subst (λ (r : Row). AreCovered v c old new (row_touches key r)) (sym same)
      (subst (λ (l : List Touch). AreCovered v c old new ((key, tag_of row.stamp) ∷ l)) (sym waits)
      (subst (λ (t : ℕ). AreCovered v c old new ((key, t) ∷ (key, tag) ∷ [])) is (are_again v c old new (key, tag) covered)))

  -- with no row the key has the stamp of no update
  pub row_missing : (keys : Keys) → find_row key x.rows ≡ None → AreCovered v c keys keys (touches_now x key)
  row_missing keys none = subst (λ (r : Row). AreCovered v c keys keys (row_touches key r)) (sym (row_of_found key x.rows None none)) (are_none v c keys key 0 refl)

pub prior_found : (v : View) (c : Cover) (x : NodeState) (rose : Bool) (f : PriorRow) (row : Row) (old mid new : Keys) → rose ≡ true → f.row ≡ Some row →
    AreCovered v c old mid (touches_now x f.key) → AreCovered v c mid new (wait_touches f.key row.pending) → AreCovered v c old new (changed_touches x rose f)
prior_found v c x rose f row old mid new is found first second =
    let waits : cond rose (prior_waits f.key f.row) [] ≡ wait_touches f.key row.pending =
    ap (λ (b : Bool). cond b (prior_waits f.key f.row) []) is ∙ ap (prior_waits f.key) found in
    subst (λ (l : List Touch). AreCovered v c old new (touches_now x f.key ++ l)) (sym waits) (are_joined v c old mid new _ _ first second)

-- ---- the open rows
closed : (a b : Bool) → (a && b) ≡ false → b ≡ true → a ≡ false
closed true true e h = e
closed true false e h = absurd (false≢true h)
closed false b e h = refl

-- a key with no row is not open
none_open : (after : Option (List ℕ)) (rows : Rows) → find (is_open_behind after) rows ≡ None → (q : List ℕ) → not (is_valid (row_at q rows).state) ≡ true →
    is_behind after q ≡ false
none_open after [] e q opened = absurd (false≢true opened)
none_open after (r ∷ rows) e q opened = by_test (is_open_behind after r) refl e (none_open after rows)
  where
    by_test : (b : Bool) → is_open_behind after r ≡ b → cond b (Some r) (find (is_open_behind after) rows) ≡ None →
        (find (is_open_behind after) rows ≡ None → (q : List ℕ) → not (is_valid (row_at q rows).state) ≡ true → is_behind after q ≡ false) → is_behind after q ≡ false
    by_test true is e more = absurd (false≢true (sym (ap is_some e)))
    by_test false is e more = ⊎_elim
        (λ (same : q ≡ r.0).
        let row : row_at q (r ∷ rows) ≡ r.1 = row_here q r rows same in
        subst (λ (k : List ℕ). is_behind after k ≡ false) (sym same)
        (closed (is_behind after r.0) (not (is_valid r.1.state)) is (subst (λ (w : Row). not (is_valid w.state) ≡ true) row opened)))
        (λ (ne : q ≢ r.0). more e q (subst (λ (w : Row). not (is_valid w.state) ≡ true) (row_next q r rows ne) opened)) (cases_key q r.0)

-- an open key stands among the keys
all_open : (P : List ℕ → Type 0) (rows : Rows) → AllByRecursion P (keys_of rows) → (q : List ℕ) → not (is_valid (row_at q rows).state) ≡ true → P q
all_open P [] all q opened = absurd (false≢true opened)
all_open P (r ∷ rows) all q opened = ⊎_elim
    (λ (same : q ≡ r.0). subst P (sym same) all.0)
    (λ (ne : q ≢ r.0). all_open P rows all.1 q (subst (λ (w : Row). not (is_valid w.state) ≡ true) (row_next q r rows ne) opened)) (cases_key q r.0)

least_open : (after : Option (List ℕ)) (rows : Rows) (key : List ℕ) → IsStrictlySortedBy key_cmp (keys_of rows) →
    option_map (λ r. r.0) (find (is_open_behind after) rows) ≡ Some key → (q : List ℕ) → not (is_valid (row_at q rows).state) ≡ true → is_behind after q ≡ true →
    (q ≡ key) ⊎ (is_behind (Some key) q ≡ true)
least_open after [] key sorted e q opened behind = absurd (false≢true opened)
least_open after (r ∷ rows) key sorted e q opened behind = by_test (is_open_behind after r) refl e
    (λ e. least_open after rows key (sorted_tail key_cmp r.0 (keys_of rows) sorted) e q)
  where
    by_test : (b : Bool) → is_open_behind after r ≡ b → option_map (λ r. r.0) (cond b (Some r) (find (is_open_behind after) rows)) ≡ Some key →
        (option_map (λ r. r.0) (find (is_open_behind after) rows) ≡ Some key → not (is_valid (row_at q rows).state) ≡ true → is_behind after q ≡ true →
        (q ≡ key) ⊎ (is_behind (Some key) q ≡ true)) → (q ≡ key) ⊎ (is_behind (Some key) q ≡ true)
    by_test true is e more =
        let here : r.0 ≡ key = cc in
        ⊎_elim (λ (same : q ≡ r.0). inl (same ∙ here))
        (λ (ne : q ≢ r.0). inr (subst (λ (k : List ℕ). is_lt (key_cmp k q) ≡ true) here (test_of_below r.0 q
        (all_open (λ (k : List ℕ). key_cmp r.0 k ≡ Less) rows (sorted_head key_cmp r.0 (keys_of rows) sorted) q
        (subst (λ (w : Row). not (is_valid w.state) ≡ true) (row_next q r rows ne) opened))))) (cases_key q r.0)
    by_test false is e more = ⊎_elim
        (λ (same : q ≡ r.0).
        let row : row_at q (r ∷ rows) ≡ r.1 = row_here q r rows same in
        let passes : is_open_behind after r ≡ true =
        and_from (is_behind after r.0) _ (subst (λ (k : List ℕ). is_behind after k ≡ true) same behind) (subst (λ (w : Row). not (is_valid w.state) ≡ true) row opened) in
        absurd (false≢true (sym is ∙ passes)))
        (λ (ne : q ≢ r.0). more e (subst (λ (w : Row). not (is_valid w.state) ≡ true) (row_next q r rows ne) opened) behind) (cases_key q r.0)

-- those up to this key, if there is one
pub record AreSeen (v : View) (c : Cover) (old new : Keys) (x : NodeState) (after : Option (List ℕ)) : Type 0 where
  pub seen : List (List ℕ)
  pub covered : AreCovered v c old new (flat_map (touches_now x) seen)
  pub all : (q : List ℕ) → is_open q x ≡ true → is_behind after q ≡ false → In seen q

module _ (v : View) (c : Cover) where
  pub nothing_seen : (keys : Keys) (x : NodeState) → AreSeen v c keys keys x None
  nothing_seen keys x = record { seen = []; covered = are_same v c keys keys refl; all = λ q opened none. absurd (false≢true (sym none)) }

  -- one key more, the next open one
  pub one_seen : (old mid new : Keys) (x : NodeState) (after : Option (List ℕ)) (key : List ℕ) → IsNode x → AreSeen v c old mid x after →
      Some key ≡ next_open after x.rows → AreCovered v c mid new (touches_now x key) → AreSeen v c old new x (Some key)
  one_seen old mid new x after key ok was next covered = record {
    seen = was.seen ++ key ∷ [];
    covered = covers_more v c (touches_now x) was.seen key old mid new was.covered covered;
    all = λ q opened not_behind. by_before q opened not_behind (is_behind after q) refl;
  }
    where
      by_before : (q : List ℕ) → is_open q x ≡ true → is_behind (Some key) q ≡ false → (b : Bool) → is_behind after q ≡ b → In (was.seen ++ key ∷ []) q
      by_before q opened not_behind false e = in_left was.seen (key ∷ []) q (was.all q opened e)
      by_before q opened not_behind true e = ⊎_elim
          (λ (is : q ≡ key). in_right was.seen (key ∷ []) q (inl is))
          (λ (more : is_behind (Some key) q ≡ true). absurd (false≢true (sym not_behind ∙ more)))
          (least_open after x.rows key ok.ordered (sym next) q opened e)

  pub all_seen : (old new : Keys) (x : NodeState) (moved : Bool) (after : Option (List ℕ)) → AreSeen v c old new x after → None ≡ next_open after x.rows →
      AreOpenCovered v c old new x moved
  all_seen old new x moved after was none =
      record { seen = was.seen; all = λ m q opened. was.all q opened (none_open after x.rows (by_found (find (is_open_behind after) x.rows) (sym none)) q opened); covered = was.covered }
    where
      by_found : (o : Option (List ℕ × Row)) → option_map (λ r. r.0) o ≡ None → o ≡ None
      by_found None e = refl
      by_found (Some r) e = cc
