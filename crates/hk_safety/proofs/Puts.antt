-- What is kept of stamps and of keys, after one of them is put.
use Rattle.std.proofs.Common.{◌≡◌, ◌≢◌, ℕ, ◌+◌, ◌<◌, List, [], ◌∷◌, ◌++◌, take, length, get_or, Bool, true, cond, Option, Some, None, unwrap_or, is_some, refl, sym, ap, subst, ◌∙◌, ⊎_elim, Result, Ok, Err, Ordering, Less, Equal, Greater}
use Rattle.std.specs.Ordering.{is_eq, match_ordering}
use Rattle.std.specs.Result.{OnOk}
use Rattle.std.specs.BTreeMap.{BTreeMap, UpdatesBy, insert_entry, is_at}
use Rattle.std.specs.Map.{keys_of, lookup}
use Rattle.std.specs.List.Sorted.{IsStrictlySortedBy}
use Rattle.std.proofs.lemmas.Bool.{false≢true}
use Rattle.std.proofs.lemmas.Cmp.{nat_list_cmp_total}
use Rattle.std.proofs.lemmas.List.{take_more}
use Rattle.std.proofs.lemmas.Map.{lookup-none}
use Rattle.std.proofs.lemmas.Map.Entries.{none_below_head}
use Rattle.std.proofs.lemmas.Map.Keys.{sorted_tail}
use Rattle.hk_copy.specs.Batches.{key_cmp}
use Rattle.hk_effects.specs.Projection.{is_same_key}
use Rattle.hk_effects.proofs.Order.{cases_key, same_of, same_not}
use Rattle.hk_safety.specs.Run.{with_key}
use Rattle.hk_safety.specs.Kept.{KeyState, Keys, first_key, find_key, key_at}

-- a fact on what was done follows from another
pub on_ok : {T E P Q : Type 0} (r : Result T E) → (P → Q) → OnOk r P → OnOk r Q
on_ok (Ok x) f h = f h
on_ok (Err e) f h = h

-- one item more
pub turn : {X : Type 0} (xs : List X) (i : ℕ) (x : X) → i < length xs → x ≡ get_or xs i x → take (i + 1) xs ≡ take i xs ++ x ∷ []
turn xs i x lt is = take_more xs i x lt ∙ ap (λ (y : _). take i xs ++ y ∷ []) (sym is)

-- ---- keys
pub found_at : (key : List ℕ) (keys : Keys) (k : KeyState) → find_key key keys ≡ Some k → key_at key keys ≡ k
found_at key keys k e = ap (λ (o : Option KeyState). unwrap_or o first_key) e

pub absent_at : (key : List ℕ) (keys : Keys) → find_key key keys ≡ None → key_at key keys ≡ first_key
absent_at key keys e = ap (λ (o : Option KeyState). unwrap_or o first_key) e

pub not_there : (o : Option KeyState) → o ≡ None → is_some o ≡ true → ⊥
not_there o e there = false≢true (sym (ap is_some e) ∙ there)

-- only the one key has another state
pub record IsPutAt (m n : Keys) (key : List ℕ) (k : KeyState) : Type 0 where
  pub here : find_key key n ≡ Some k
  pub others : (q : List ℕ) → q ≢ key → find_key q n ≡ find_key q m

pub put_at : (m n : BTreeMap (List ℕ) KeyState) (key : List ℕ) (k : KeyState) → UpdatesBy key_cmp (key_cmp key) m n (Some k) → IsPutAt m.entries n.entries key k
put_at m n key k put = record { here = put.1; others = λ q ne. put.2 q (same_not key q (λ e. ne (sym e))) }

pub put_there : (m n : Keys) (key : List ℕ) (k : KeyState) → IsPutAt m n key k → (q : List ℕ) →
    is_some (find_key q n) ≡ cond (is_same_key q key) true (is_some (find_key q m))
put_there m n key k put q = ⊎_elim
    (λ (e : q ≡ key). ap (λ (j : List ℕ). is_some (find_key j n)) e ∙ ap is_some put.here
    ∙ sym (ap (λ (b : Bool). cond b true (is_some (find_key q m))) (same_of q key e)))
    (λ (ne : q ≢ key). ap is_some (put.others q ne) ∙ sym (ap (λ (b : Bool). cond b true (is_some (find_key q m))) (same_not q key ne))) (cases_key q key)

-- a key that was there
pub put_stays : (m n : Keys) (key : List ℕ) (k : KeyState) → IsPutAt m n key k → is_some (find_key key m) ≡ true → (q : List ℕ) →
    is_some (find_key q n) ≡ is_some (find_key q m)
put_stays m n key k put there q = ⊎_elim
    (λ (e : q ≡ key). ap (λ (j : List ℕ). is_some (find_key j n)) e ∙ ap is_some put.here ∙ sym (ap (λ (j : List ℕ). is_some (find_key j m)) e ∙ there))
    (λ (ne : q ≢ key). ap is_some (put.others q ne)) (cases_key q key)

pub put_here : (m n : Keys) (key : List ℕ) (k : KeyState) → IsPutAt m n key k → key_at key n ≡ k
put_here m n key k put = found_at key n k put.here

pub put_others : (m n : Keys) (key : List ℕ) (k : KeyState) → IsPutAt m n key k → (q : List ℕ) → q ≢ key → key_at q n ≡ key_at q m
put_others m n key k put q ne = ap (λ (o : Option KeyState). unwrap_or o first_key) (put.others q ne)

-- ---- the list of keys
inserted_at : (o : Ordering) (key : List ℕ) (k : KeyState) (e : List ℕ × KeyState) (es more : Keys) (ks : List (List ℕ)) → keys_of more ≡ ks →
    keys_of (match_ordering o ((key, k) ∷ e ∷ es) ((e.0, k) ∷ es) (e ∷ more)) ≡ match_ordering o (key ∷ e.0 ∷ keys_of es) (e.0 ∷ keys_of es) (e.0 ∷ ks)
inserted_at Less key k e es more ks ih = refl
inserted_at Equal key k e es more ks ih = refl
inserted_at Greater key k e es more ks ih = ap (λ (l : List (List ℕ)). e.0 ∷ l) ih

pub keys_inserted : (key : List ℕ) (k : KeyState) (es : Keys) → keys_of (insert_entry key_cmp es key k) ≡ with_key key (keys_of es)
keys_inserted key k [] = refl
keys_inserted key k (e ∷ es) = inserted_at (key_cmp key e.0) key k e es (insert_entry key_cmp es key k) (with_key key (keys_of es)) (keys_inserted key k es)

kept_at : (o : Ordering) (key : List ℕ) (e : List ℕ × KeyState) (es : Keys) → key_cmp key e.0 ≡ o → IsStrictlySortedBy key_cmp (keys_of (e ∷ es)) →
    is_some (find_key key (e ∷ es)) ≡ true →
    (is_some (find_key key es) ≡ true → with_key key (keys_of es) ≡ keys_of es) →
    match_ordering o (key ∷ e.0 ∷ keys_of es) (e.0 ∷ keys_of es) (e.0 ∷ with_key key (keys_of es)) ≡ e.0 ∷ keys_of es
kept_at Less key e es is sorted there ih = absurd (not_there _
    (lookup-none (is_at (key_cmp key)) (e ∷ es) (none_below_head nat_list_cmp_total key e es sorted is)) there)
kept_at Equal key e es is sorted there ih = refl
kept_at Greater key e es is sorted there ih = ap (λ (l : List (List ℕ)). e.0 ∷ l)
    (ih (sym (ap (λ (b : Bool). is_some (cond b (Some e.1) (lookup (is_at (key_cmp key)) es))) (ap is_eq is)) ∙ there))

-- a key that is there stays where it is
pub key_kept : (key : List ℕ) (es : Keys) → IsStrictlySortedBy key_cmp (keys_of es) → is_some (find_key key es) ≡ true → with_key key (keys_of es) ≡ keys_of es
key_kept key [] sorted there = absurd (false≢true there)
key_kept key (e ∷ es) sorted there = kept_at (key_cmp key e.0) key e es refl sorted there (key_kept key es (sorted_tail key_cmp e.0 (keys_of es) sorted))

-- a key that is put where it was not
pub first_put : (m kept n : BTreeMap (List ℕ) KeyState) (key name : List ℕ) (k : KeyState) → kept ≡ m → name ≡ key →
    n.entries ≡ insert_entry key_cmp kept.entries name k → UpdatesBy key_cmp (key_cmp name) kept n (Some k) →
    (keys_of n.entries ≡ with_key key (keys_of m.entries)) × IsPutAt m.entries n.entries key k
first_put m kept n key name k same is entries updates = (
  ap keys_of entries ∙ ap (λ (j : List ℕ). keys_of (insert_entry key_cmp kept.entries j k)) is
      ∙ ap (λ (x : BTreeMap (List ℕ) KeyState). keys_of (insert_entry key_cmp x.entries key k)) same ∙ keys_inserted key k m.entries,
  put_at m n key k (subst (λ (j : List ℕ). UpdatesBy key_cmp (key_cmp j) m n (Some k)) is
      (subst (λ (x : BTreeMap (List ℕ) KeyState). UpdatesBy key_cmp (key_cmp name) x n (Some k)) same updates)),
)
