-- A batch is of Reads of events that follow each other.
use Rattle.std.proofs.Common.{append_assoc, ◌≡◌, ℕ, zero, suc, Bool, true, false, cond, ◌+◌, List, [], ◌∷◌, ◌++◌, map, length, take, get_or, ◌<◌, ◌≤◌, ◌∙◌, sym, refl, ap, subst, inl, inr, ⊎_elim, arith, Option, Some, None, Result, Ok, Err, is_some}
use Rattle.std.specs.Prelude.{nat_lt}
use Rattle.std.proofs.lemmas.Bool.{false≢true}
use Rattle.std.proofs.lemmas.List.{get_or_append_left, get_or-append-add}
use Rattle.hk_base.specs.declared.call.Op.TheVariants.{Read}
use Rattle.hk_base.specs.declared.stamp.NodeId.{NodeId}
use Rattle.hk_register.specs.Machine.{In}
use Rattle.hk_register.proofs.Grow.{in_either}
use Rattle.hk_event.specs.declared.event.Event.{Event}
use Rattle.hk_event.specs.declared.event.Event.TheVariants.{Call}
use Rattle.hk_event.specs.declared.refused.Refused.{Refused}
use Rattle.hk_world.specs.World.{WorldState}
use Rattle.hk_world.specs.Steps.{Accepted, world_step}
use Rattle.hk_safety.specs.Run.{world_with, world_from}
use Rattle.hk_joint.specs.declared.batch.Reading.{Reading}
use Rattle.hk_joint.specs.Batch.{reading_by, reading_at, readings_from, goes_on, closed, batches_from}

pub record IsSegment (all : List (Option Reading)) (batch : List Reading) : Type 0 where
  pub before : List (Option Reading)
  pub after : List (Option Reading)
  pub is : all ≡ before ++ (map Some batch ++ after)

closed_is : (batch b : List Reading) → In (closed batch) b → b ≡ batch
closed_is batch b h = by_test (nat_lt 1 (length batch)) h
  where
    by_test : (t : Bool) → In (cond t (batch ∷ []) []) b → b ≡ batch
    by_test true (inl e) = e
    by_test true (inr none) = absurd none
    by_test false h = absurd h

now : (batch b : List Reading) (rest : List (Option Reading)) → In (closed batch) b → IsSegment (map Some batch ++ rest) b
now batch b rest h = record { before = []; after = rest; is = ap (λ (l : List Reading). map Some l ++ rest) (sym (closed_is batch b h)) }

behind : (front rest : List (Option Reading)) (b : List Reading) → IsSegment rest b → IsSegment (front ++ rest) b
behind front rest b s = record {
  before = front ++ s.before;
  after = s.after;
  is = ap (λ (l : List (Option Reading)). front ++ l) s.is ∙ sym (append_assoc front s.before (map Some b ++ s.after));
}

one_more : (batch : List Reading) (r : Reading) (rest : List (Option Reading)) → map Some (batch ++ r ∷ []) ++ rest ≡ map Some batch ++ Some r ∷ rest
one_more [] r rest = refl
one_more (q ∷ batch) r rest = ap (λ (l : List (Option Reading)). Some q ∷ l) (one_more batch r rest)

pub segments : (rest : List (Option Reading)) (batch b : List Reading) → In (batches_from batch rest) b → IsSegment (map Some batch ++ rest) b
segments [] batch b h = now batch b [] h
segments (None ∷ rest) batch b h = ⊎_elim
    (λ (k : In (closed batch) b). now batch b (None ∷ rest) k)
    (λ (k : In (batches_from [] rest) b). behind (map Some batch) (None ∷ rest) b (behind (None ∷ []) rest b (segments rest [] b k)))
    (in_either (closed batch) (batches_from [] rest) b h)
segments (Some r ∷ rest) batch b h = by_test (goes_on batch r) h (segments rest (batch ++ r ∷ []) b) (segments rest (r ∷ []) b)
  where
    by_test : (t : Bool) → In (cond t (batches_from (batch ++ r ∷ []) rest) (closed batch ++ batches_from (r ∷ []) rest)) b →
        (In (batches_from (batch ++ r ∷ []) rest) b → IsSegment (map Some (batch ++ r ∷ []) ++ rest) b) →
        (In (batches_from (r ∷ []) rest) b → IsSegment (Some r ∷ rest) b) → IsSegment (map Some batch ++ Some r ∷ rest) b
    by_test true h go start = subst (λ (l : List (Option Reading)). IsSegment l b) (one_more batch r rest) (go h)
    by_test false h go start = ⊎_elim
        (λ (k : In (closed batch) b). now batch b (Some r ∷ rest) k)
        (λ (k : In (batches_from (r ∷ []) rest) b). behind (map Some batch) (Some r ∷ rest) b (start k))
        (in_either (closed batch) (batches_from (r ∷ []) rest) b h)

-- ---- places in a batch
pub place_in : (batch : List Reading) (r : Reading) → In batch r → (j : ℕ) × (j < length batch) × (get_or (map Some batch) j None ≡ Some r)
place_in [] r h = absurd h
place_in (q ∷ batch) r (inl e) = (0, omega arith, ap Some (sym e))
place_in (q ∷ batch) r (inr h) = let t = place_in batch r h in let l = t.1 in (suc t.0, omega (arith, l), t.2)

some_at : (batch : List Reading) (j : ℕ) → j < length batch → (r : Reading) × (get_or (map Some batch) j None ≡ Some r)
some_at [] j l = absurd (omega (arith, l))
some_at (q ∷ batch) zero l = (q, refl)
some_at (q ∷ batch) (suc j) l = some_at batch j (omega (arith, l))

long_map : (batch : List Reading) → length {A = Option Reading} (map Some batch) ≡ length batch
long_map [] = refl
long_map (q ∷ batch) = let more = long_map batch in omega (arith, more)

module _ (all : List (Option Reading)) (batch : List Reading) (s : IsSegment all batch) where
  at_place : (j : ℕ) → j < length batch → get_or all (length s.before + j) None ≡ get_or (map Some batch) j None
  at_place j l =
      let long = long_map batch in
      ap (λ (l : List (Option Reading)). get_or l (length s.before + j) None) s.is
      ∙ (get_or-append-add s.before (map Some batch ++ s.after) j None ∙ get_or_append_left (map Some batch) s.after None j (omega (arith, l, long)))

  pub of_batch : (r : Reading) → In batch r → (j : ℕ) × (j < length batch) × (get_or all (length s.before + j) None ≡ Some r)
  of_batch r h = let t = place_in batch r h in (t.0, t.1, at_place t.0 t.1 ∙ t.2)

  -- between the places of two of its Reads stands one
  pub in_batch : (j : ℕ) → j < length batch → (r : Reading) × (get_or all (length s.before + j) None ≡ Some r)
  in_batch j l = let t = some_at batch j l in (t.0, at_place j l ∙ t.1)

-- ---- the event of a Read
pub record IsReadAt (w : WorldState) (events : List Event) (i : ℕ) (r : Reading) : Type 0 where
  pub within : suc i ≤ length events
  pub id : NodeId
  pub key : List ℕ
  pub a : Accepted
  pub next : take (suc i) events ≡ take i events ++ Call id key Read ∷ []
  pub made : world_step (world_from w (take i events)) (Call id key Read) ≡ Ok a
  pub told : reading_by id key a.shown.replies ≡ Some r

record IsReadOf (x : Event) (result : Result Accepted Refused) (r : Reading) : Type 0 where
  id : NodeId
  key : List ℕ
  a : Accepted
  event : x ≡ Call id key Read
  made : result ≡ Ok a
  told : reading_by id key a.shown.replies ≡ Some r

not_some : (r : Reading) → None ≡ Some r → ⊥
not_some r e = absurd (false≢true (ap is_some e))

read_of : (x : Event) (result : Result Accepted Refused) (r : Reading) → reading_at x result ≡ Some r → IsReadOf x result r
read_of (Call id key Read) (Ok a) r e = record { id = id; key = key; a = a; event = refl; made = refl; told = e }
read_of x (Ok a) r e = absurd (not_some r e)
read_of x (Err refused) r e = absurd (not_some r e)

pub read_at : (events : List Event) (w : WorldState) (i : ℕ) (r : Reading) → get_or (readings_from w events) i None ≡ Some r → IsReadAt w events i r
read_at [] w zero r e = absurd (not_some r e)
read_at [] w (suc i) r e = absurd (not_some r e)
read_at (x ∷ xs) w zero r e =
    let t = read_of x (world_step w x) r e in
    record {
      within = omega arith;
      id = t.id;
      key = t.key;
      a = t.a;
      next = ap (λ (y : Event). y ∷ []) t.event;
      made = subst (λ (y : Event). world_step w y ≡ Ok t.a) t.event t.made;
      told = t.told;
    }
read_at (x ∷ xs) w (suc i) r e =
    let t = read_at xs (world_with w (world_step w x)) i r e in
    let l = t.within in
    record {
      within = omega (arith, l);
      id = t.id;
      key = t.key;
      a = t.a;
      next = ap (λ (l : List Event). x ∷ l) t.next;
      made = t.made;
      told = t.told;
    }
