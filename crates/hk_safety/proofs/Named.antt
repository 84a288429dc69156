-- The calls of a run, and the keys that they named.
use Rattle.std.proofs.Common.{◌≡◌, ℕ, zero, suc, Bool, true, false, cond, List, [], ◌∷◌, ◌++◌, length, ◌∙◌, sym, refl, ap, subst, inl, inr, ⊎_elim, Some, Ordering, Less, Equal, Greater, slice_get}
use Rattle.std.specs.Prelude.{IsSome, is_some}
use Rattle.std.specs.Ordering.{match_ordering, is_eq}
use Rattle.std.specs.BTreeMap.{is_at}
use Rattle.std.specs.Map.{keys_of}
use Rattle.std.proofs.lemmas.Bool.{false≢true}
use Rattle.hk_copy.specs.Batches.{key_cmp}
use Rattle.hk_register.specs.Machine.{In}
use Rattle.hk_event.specs.declared.event.Event.{Event}
use Rattle.hk_event.specs.declared.event.Event.TheVariants.{Call}
use Rattle.hk_world.specs.World.{numbered}
use Rattle.hk_effects.proofs.Order.{equal_keys, key_itself}
use Rattle.hk_safety.specs.Run.{RunState, with_key, with_named, named_from, named}
use Rattle.hk_safety.specs.Kept.{Keys, find_key, called_from}
use Rattle.hk_safety.specs.Push.{with_event}

-- ---- the keys of the calls
pub called_append : (xs ys : List Event) → called_from (xs ++ ys) ≡ called_from xs ++ called_from ys
called_append [] ys = refl
called_append (Call id key op ∷ xs) ys = ap (λ (keys : List (List ℕ)). key ∷ keys) (called_append xs ys)
called_append (event ∷ xs) ys = called_append xs ys

pub named_append : (xs ys : List Event) (keys : List (List ℕ)) → named_from keys (xs ++ ys) ≡ named_from (named_from keys xs) ys
named_append [] ys keys = refl
named_append (x ∷ xs) ys keys = named_append xs ys (with_named x keys)

pub named_then : (run : RunState) (event : Event) → named (with_event run event) ≡ with_named event (named run)
named_then run event = named_append run.events (event ∷ []) []

pub called_then : (run : RunState) (event : Event) → called_from (with_event run event).events ≡ called_from run.events ++ called_from (event ∷ [])
called_then run event = called_append run.events (event ∷ [])

-- ---- a key in its place
pub key_there : (key : List ℕ) (keys : List (List ℕ)) → In (with_key key keys) key
key_there key [] = inl refl
key_there key (k ∷ keys) = by_order (key_cmp key k) refl (key_there key keys)
  where
    by_order : (o : Ordering) → key_cmp key k ≡ o → In (with_key key keys) key → In (match_ordering o (key ∷ k ∷ keys) (k ∷ keys) (k ∷ with_key key keys)) key
    by_order Less e more = inl refl
    by_order Equal e more = inl (equal_keys key k e)
    by_order Greater e more = inr more

pub key_stays : (key : List ℕ) (keys : List (List ℕ)) (other : List ℕ) → In keys other → In (with_key key keys) other
key_stays key [] other h = absurd h
key_stays key (k ∷ keys) other h = by_order (key_cmp key k) (key_stays key keys other)
  where
    by_order : (o : Ordering) → (In keys other → In (with_key key keys) other) → In (match_ordering o (key ∷ k ∷ keys) (k ∷ keys) (k ∷ with_key key keys)) other
    by_order Less more = inr h
    by_order Equal more = h
    by_order Greater more = ⊎_elim (λ (e : other ≡ k). inl e) (λ (t : In keys other). inr (more t)) h

pub named_stays : (event : Event) (keys : List (List ℕ)) (other : List ℕ) → In keys other → In (with_named event keys) other
named_stays (Call id key op) keys other h = key_stays key keys other h
named_stays event keys other h = h

pub stays_from : (events : List Event) (keys : List (List ℕ)) (other : List ℕ) → In keys other → In (named_from keys events) other
stays_from [] keys other h = h
stays_from (event ∷ events) keys other h = stays_from events (with_named event keys) other (named_stays event keys other h)

-- each call's key is named
pub called_named : (events : List Event) (keys : List (List ℕ)) (key : List ℕ) → In (called_from events) key → In (named_from keys events) key
called_named [] keys key h = absurd h
called_named (Call id k op ∷ events) keys key h = ⊎_elim
    (λ (e : key ≡ k). stays_from events (with_key k keys) key (subst (λ (j : List ℕ). In (with_key k keys) j) (sym e) (key_there k keys)))
    (λ (t : In (called_from events) key). called_named events (with_key k keys) key t) h
called_named (event ∷ events) keys key h = called_named events keys key h

-- ---- the keys of a map
pub found_of : (keys : Keys) (key : List ℕ) → In (keys_of keys) key → IsSome (find_key key keys)
found_of [] key h = absurd h
found_of (e ∷ keys) key h = by_test (is_at (key_cmp key) e.0) refl (found_of keys key)
  where
    by_test : (b : Bool) → is_at (key_cmp key) e.0 ≡ b → (In (keys_of keys) key → IsSome (find_key key keys)) →
        is_some (cond b (Some e.1) (find_key key keys)) ≡ true
    by_test true is more = refl
    by_test false is more = ⊎_elim
        (λ (same : key ≡ e.0). absurd (false≢true (sym is ∙ ap is_eq (subst (λ (k : List ℕ). key_cmp key k ≡ Equal) same (key_itself key)))))
        more h

pub of_found : (keys : Keys) (key : List ℕ) → IsSome (find_key key keys) → In (keys_of keys) key
of_found [] key found = absurd (false≢true found)
of_found (e ∷ keys) key found = by_order (key_cmp key e.0) refl (of_found keys key) found
  where
    by_order : (o : Ordering) → key_cmp key e.0 ≡ o → (IsSome (find_key key keys) → In (keys_of keys) key) →
        is_some (cond (is_eq o) (Some e.1) (find_key key keys)) ≡ true → In (keys_of (e ∷ keys)) key
    by_order Less is more found = inr (more found)
    by_order Equal is more found = inl (equal_keys key e.0 is)
    by_order Greater is more found = inr (more found)

-- ---- calls by number
get_append : {X : Type 0} (xs ys : List X) (n : ℕ) (x : X) → slice_get xs n ≡ Some x → slice_get (xs ++ ys) n ≡ Some x
get_append [] ys n x e = cc
get_append (y ∷ xs) ys zero x e = e
get_append (y ∷ xs) ys (suc n) x e = get_append xs ys n x e

pub numbered_append : {X : Type 0} (n : ℕ) (xs ys : List X) (x : X) → numbered n xs ≡ Some x → numbered n (xs ++ ys) ≡ Some x
numbered_append zero xs ys x e = cc
numbered_append (suc n) xs ys x e = get_append xs ys n x e

get_last : {X : Type 0} (xs : List X) (x : X) → slice_get (xs ++ x ∷ []) (length xs) ≡ Some x
get_last [] x = refl
get_last (y ∷ xs) x = get_last xs x

pub numbered_last : {X : Type 0} (xs : List X) (x : X) → numbered (suc (length xs)) (xs ++ x ∷ []) ≡ Some x
numbered_last xs x = get_last xs x
