-- Where a batch stands while it is made.
use Rattle.std.proofs.Common.{◌≡◌, ℕ, suc, ◌≤◌, ◌<◌, ◌-◌, ◌+◌, ◌++◌, Bool, true, false, List, [], ◌∷◌, Option, Some, None, IsSome, nat_le, refl, sym, ap, ◌∙◌, arith, subst, is_none, is_some, not, Bor, append_assoc, append-nil}
use Rattle.std.specs.Option.{option_copied}
use Rattle.std.proofs.lemmas.Bool.{false≢true}
use Rattle.std.proofs.lemmas.Bool.Decides.{nat_tests}
use Rattle.hk_base.specs.declared.letter.CopyItem.{CopyItem}
use Rattle.hk_copy.specs.Batches.{IsRising, rows_after, row_at, next_key, is_nil, size_of, Cut, cut, with_taken, nothing_taken}
use Rattle.hk_copy.proofs.Rising.{step_row}

abbrev pub onto : List CopyItem → Cut → Cut
onto items c = record { taken = items ++ c.taken; left = c.left }

-- The items so far, and what is cut of the rows behind a cursor, are the whole.
pub record At (rows : List CopyItem) (whole : Cut) (next : Option (List ℕ)) (items : List CopyItem) (room bytes : ℕ) : Type 0 where
  pub cursor : Option (List ℕ)
  pub rising : IsRising rows
  pub follows : next ≡ next_key (rows_after cursor rows)
  pub rest : onto items (cut room bytes (rows_after cursor rows)) ≡ whole

pub begins : (rows : List CopyItem) (c next : Option (List ℕ)) (items : List CopyItem) (room bytes r : ℕ) → r ≡ room → IsRising rows → next ≡ next_key (rows_after c rows) → items ≡ [] →
    At rows (cut room bytes (rows_after c rows)) next items r bytes
begins rows c next items room bytes r same rising follows empty = record { cursor = c; rising = rising; follows = follows; rest = rw (empty, same) refl }

-- the same with other words for its parts
pub recast : (rows : List CopyItem) (whole : Cut) (next next' : Option (List ℕ)) (items items' : List CopyItem) (room room' bytes bytes' : ℕ) → next ≡ next' → items ≡ items' → room ≡ room' → bytes ≡ bytes' →
    At rows whole next items room bytes → At rows whole next' items' room' bytes'
recast rows whole next next' items items' room room' bytes bytes' n i r b a = record {
  cursor = a.cursor;
  rising = a.rising;
  follows = sym n ∙ a.follows;
  rest = ap (λ (l : List CopyItem). onto l (cut room' bytes' (rows_after a.cursor rows))) (sym i)
      ∙ ap (λ (k : ℕ). onto items (cut k bytes' (rows_after a.cursor rows))) (sym r)
      ∙ ap (λ (k : ℕ). onto items (cut room k (rows_after a.cursor rows))) (sym b) ∙ a.rest;
}

pub one_more : (t r : ℕ) → t < r → r - t ≡ suc (r - suc t)
one_more t r less = omega arith

pub next_room : (t r : ℕ) → r - suc t ≡ r - (t + 1)
next_room t r = omega arith

pub all_taken : (t r : ℕ) → r ≤ t → r - t ≡ 0
all_taken t r h = omega arith

-- the first of the rows that are left
pub record Split (rows behind : List CopyItem) (key : List ℕ) : Type 0 where
  pub item : CopyItem
  pub rest : List CopyItem
  pub is : behind ≡ item ∷ rest
  pub found : row_at key rows ≡ Some item
  pub after : rows_after (Some key) rows ≡ rest

split : (rows : List CopyItem) (c : Option (List ℕ)) (key : List ℕ) → IsRising rows → Some key ≡ next_key (rows_after c rows) → Split rows (rows_after c rows) key
split rows c key rising e = by_list (rows_after c rows) refl e
  where
    by_list : (l : List CopyItem) → rows_after c rows ≡ l → Some key ≡ next_key l → Split rows (rows_after c rows) key
    by_list [] is h = absurd (grind arith)
    by_list (x ∷ xs) is h =
        let same : x.key ≡ key = grind arith in
        let step = step_row c rows x xs rising is in
        record {
          item = x;
          rest = xs;
          is = is;
          found = subst (λ (k : List ℕ). row_at k rows ≡ Some x) same step.0;
          after = subst (λ (k : List ℕ). rows_after (Some k) rows ≡ xs) same step.1;
        }

pub there : (rows : List CopyItem) (whole : Cut) (key : List ℕ) (items : List CopyItem) (room bytes : ℕ) → At rows whole (Some key) items room bytes → IsSome (row_at key rows)
there rows whole key items room bytes a = let s = split rows a.cursor key a.rising a.follows in rw s.found refl

pub record Ends (whole : Cut) (given : List CopyItem) (ended : Bool) : Type 0 where
  pub items : given ≡ whole.taken
  pub done : ended ≡ is_nil whole.left

ends_at : (items behind : List CopyItem) (whole : Cut) → onto items (nothing_taken behind) ≡ whole → Ends whole items (is_nil behind)
ends_at items behind whole e = record { items = sym (append-nil items) ∙ ap (λ (c : Cut). c.taken) e; done = ap (λ (c : Cut). is_nil c.left) e }

cut_none : (bytes : ℕ) (l : List CopyItem) → cut 0 bytes l ≡ nothing_taken l
cut_none bytes [] = refl
cut_none bytes (x ∷ xs) = refl

pub at_end : (rows : List CopyItem) (whole : Cut) (next : Option (List ℕ)) (items : List CopyItem) (room bytes : ℕ) → next ≡ None → At rows whole next items room bytes → Ends whole items true
at_end rows whole next items room bytes none a = by_list (rows_after a.cursor rows) (sym none ∙ a.follows) a.rest
  where
    by_list : (l : List CopyItem) → None ≡ next_key l → onto items (cut room bytes l) ≡ whole → Ends whole items true
    by_list [] h e = ends_at items [] whole e
    by_list (x ∷ xs) h e = absurd (grind arith)

pub at_full : (rows : List CopyItem) (whole : Cut) (next : Option (List ℕ)) (items : List CopyItem) (bytes : ℕ) → At rows whole next items 0 bytes → Ends whole items (is_none next)
at_full rows whole next items bytes a = by_list (rows_after a.cursor rows) a.follows a.rest
  where
    by_list : (l : List CopyItem) → next ≡ next_key l → onto items (cut 0 bytes l) ≡ whole → Ends whole items (is_none next)
    by_list [] h e = rw h (ends_at items [] whole e)
    by_list (x ∷ xs) h e = rw h (ends_at items (x ∷ xs) whole e)

pub at_big : (rows : List CopyItem) (whole : Cut) (key : List ℕ) (item : CopyItem) (items : List CopyItem) (room bytes : ℕ) → bytes < size_of item → row_at key rows ≡ Some item →
    At rows whole (Some key) items (suc room) bytes → Ends whole items false
at_big rows whole key item items room bytes big found a =
    let s = split rows a.cursor key a.rising a.follows in
    let same : s.item ≡ item = some_same s.item item (sym s.found ∙ found) in
    let heavy : nat_le (size_of s.item) bytes ≡ false = rw same (grind (arith, nat_tests)) in
    ends_at items (s.item ∷ s.rest) whole (subst (λ (c : Cut). onto items c ≡ whole) (ap (λ (l : List CopyItem). cut (suc room) bytes l) s.is ∙ not_taken s.item s.rest heavy) a.rest)
  where
    some_same : (x y : CopyItem) → Some x ≡ Some y → x ≡ y
    some_same x y e = grind arith

    not_taken : (x : CopyItem) (xs : List CopyItem) → nat_le (size_of x) bytes ≡ false → cut (suc room) bytes (x ∷ xs) ≡ nothing_taken (x ∷ xs)
    not_taken x xs e = rw e refl

pub goes_on : (rows : List CopyItem) (whole : Cut) (key : List ℕ) (next : Option (List ℕ)) (item : CopyItem) (items : List CopyItem) (room bytes : ℕ) → size_of item ≤ bytes → row_at key rows ≡ Some item →
    next ≡ next_key (rows_after (Some key) rows) → At rows whole (Some key) items (suc room) bytes → At rows whole next (items ++ item ∷ []) room (bytes - size_of item)
goes_on rows whole key next item items room bytes fits found follows a =
    let s = split rows a.cursor key a.rising a.follows in
    let same : s.item ≡ item = some_same s.item item (sym s.found ∙ found) in
    let light : nat_le (size_of item) bytes ≡ true = grind (arith, nat_tests) in
    let one = ap (λ (l : List CopyItem). cut (suc room) bytes l) (s.is ∙ ap (λ (x : CopyItem). x ∷ s.rest) same) ∙ is_taken item s.rest light in
    record {
      cursor = Some key;
      rising = a.rising;
      follows = follows;
      rest = ap (λ (l : List CopyItem). onto (items ++ item ∷ []) (cut room (bytes - size_of item) l)) s.after
          ∙ ap (λ (l : List CopyItem). record { taken = l; left = (cut room (bytes - size_of item) s.rest).left }) (append_assoc items (item ∷ []) (cut room (bytes - size_of item) s.rest).taken)
          ∙ sym (ap (onto items) one) ∙ a.rest;
    }
  where
    some_same : (x y : CopyItem) → Some x ≡ Some y → x ≡ y
    some_same x y e = grind arith

    is_taken : (x : CopyItem) (xs : List CopyItem) → nat_le (size_of x) bytes ≡ true → cut (suc room) bytes (x ∷ xs) ≡ with_taken x (cut room (bytes - size_of x) xs)
    is_taken x xs e = rw e refl

pub none_is : {T : Type 0} (o : Option (Bor T)) (b : Bool) → is_some o ≡ not b → is_none (option_copied o) ≡ b
none_is None true e = refl
none_is None false e = absurd (false≢true e)
none_is (Some x) true e = absurd (false≢true (sym e))
none_is (Some x) false e = refl
