-- What stands at a place after a change: processes by number, managers, kept numbers, views by epoch.
use Rattle.std.proofs.Common.{◌≡◌, ◌≢◌, ◌⊎◌, ◌<◌, ◌≤◌, ℕ, zero, suc, List, [], ◌∷◌, ◌++◌, map, length, true, false, Option, Some, unwrap_or, replicate, slice_get, slice_set, slice_index, refl, sym, ap, ◌∙◌, inl, inr, arith, Ordering, Less, Equal, Greater}
use Rattle.std.specs.Ordering.{is_eq}
use Rattle.std.specs.BTreeMap.{is_at}
use Rattle.std.proofs.lemmas.Cmp.{nat_cmp_total, tied_itself, ranked}
use Rattle.std.proofs.lemmas.Option.{slice_get_within}
use Rattle.hk_base.specs.declared.stamp.NodeId.{NodeId}
use Rattle.hk_base.specs.declared.view.View.{View}
use Rattle.hk_node.specs.Heard.{raised}
use Rattle.hk_earned.specs.Machine.{In, with_end, times}
use Rattle.hk_world.specs.declared.process.Process.{Process}
use Rattle.hk_world.proofs.Processes.{put_other as other_put}
use Rattle.hk_world.proofs.Managing.{set_same as same_set, set_other as other_set, get_mapped}
use Rattle.hk_world.specs.World.{Processes, by_number, process_at, put_process, numbered, no_view, last_view}

-- ---- processes
numbered_node : ℕ → NodeId
numbered_node n = record { 0 = n }

pub equal_numbers : (a b : NodeId) → by_number a b ≡ Equal → a ≡ b
unfolding numbered_node
equal_numbers a b e = ap numbered_node (ranked a.0 b.0 Equal (sym e))

pub at_itself : (k : NodeId) → is_at (by_number k) k ≡ true
at_itself k = ap is_eq (tied_itself nat_cmp_total k.0)

pub at_other : (q k : NodeId) → q ≢ k → is_at (by_number q) k ≡ false
at_other q k ne = by_order (by_number q k) refl
  where
    by_order : (o : Ordering) → by_number q k ≡ o → is_eq o ≡ false
    by_order Less e = refl
    by_order Equal e = absurd (ne (equal_numbers q k e))
    by_order Greater e = refl

pub put_other : (q k : NodeId) (v : Process) (ps : Processes) → q ≢ k → process_at q (put_process k v ps) ≡ process_at q ps
put_other q k v ps ne = other_put q k v ps (at_other q k ne)

-- ---- lists by place
pub set_same : {X : Type 0} (xs : List X) (i : ℕ) (v old : X) → slice_get xs i ≡ Some old → slice_get (slice_set xs i v) i ≡ Some v
set_same xs i v old e = same_set i v old xs e

pub set_other : {X : Type 0} (xs : List X) (i j : ℕ) (v : X) → j ≢ i → slice_get (slice_set xs i v) j ≡ slice_get xs j
set_other xs i j v d = other_set j i v xs d

pub mapped : {X Y : Type 0} (f : X → Y) (xs : List X) (i : ℕ) (y : Y) → slice_get (map f xs) i ≡ Some y → (x : X) × (slice_get xs i ≡ Some x) × (y ≡ f x)
mapped f xs i y e = let x = get_mapped f i y xs e in (x.0, x.1, sym x.2)

-- ---- kept numbers
pub index_other : (xs : List ℕ) (i j v : ℕ) → j ≢ i → slice_index (slice_set xs i v) j ≡ slice_index xs j
index_other [] i j v d = refl
index_other (x ∷ xs) zero zero v d = absurd (d refl)
index_other (x ∷ xs) zero (suc j) v d = refl
index_other (x ∷ xs) (suc i) zero v d = refl
index_other (x ∷ xs) (suc i) (suc j) v d = index_other xs i j v (λ e. d (ap suc e))

-- there, or past the end
pub index_same : (xs : List ℕ) (i v : ℕ) → (slice_index (slice_set xs i v) i ≡ v) ⊎ (slice_index (slice_set xs i v) i ≡ 0)
index_same [] i v = inr refl
index_same (x ∷ xs) zero v = inl refl
index_same (x ∷ xs) (suc i) v = index_same xs i v

pub raised_end : (m end : ℕ) (xs : List ℕ) → with_end m end xs ≡ raised m end xs
raised_end m end [] = refl
raised_end zero end (x ∷ xs) = refl
raised_end (suc m) end (x ∷ xs) = ap (λ (l : List ℕ). x ∷ l) (raised_end m end xs)

pub replicated : (k x : ℕ) → times k x ≡ replicate k x
replicated zero x = refl
replicated (suc k) x = ap (λ (l : List ℕ). x ∷ l) (replicated k x)

pub index_replicated : (k j : ℕ) → slice_index (replicate k 0) j ≡ 0
index_replicated zero j = refl
index_replicated (suc k) zero = refl
index_replicated (suc k) (suc j) = index_replicated k j

pub length_replicated : (k x : ℕ) → length (replicate k x) ≡ k
length_replicated zero x = refl
length_replicated (suc k) x = ap suc (length_replicated k x)

-- ---- views
-- the views of a group by their epochs; the last one stands for those that are not learned yet
abbrev pub view_in : List View → ℕ → View
view_in views zero = no_view
view_in views (suc k) = unwrap_or (slice_get views k) (last_view views)

pub view_at : (views : List View) (e : ℕ) (v : View) → numbered e views ≡ Some v → view_in views e ≡ v
view_at views zero v is = absurd cc
view_at views (suc k) v is = ap (λ (o : Option View). unwrap_or o (last_view views)) is

pub epoch_within : (views : List View) (e : ℕ) (v : View) → numbered e views ≡ Some v → (1 ≤ e) × (e ≤ length views)
epoch_within views zero v is = absurd cc
epoch_within views (suc k) v is = let h = slice_get_within views k v is in (omega arith, omega (arith, h))

pub there_is : {X : Type 0} (xs : List X) (k : ℕ) → k < length xs → (x : X) × (slice_get xs k ≡ Some x)
there_is [] k low = absurd (omega (arith, low))
there_is (x ∷ xs) zero low = (x, refl)
there_is (x ∷ xs) (suc k) low = there_is xs k (omega (arith, low))

added_same : {X : Type 0} (xs ys : List X) (k : ℕ) → k < length xs → slice_get (xs ++ ys) k ≡ slice_get xs k
added_same [] ys k low = absurd (omega (arith, low))
added_same (x ∷ xs) ys zero low = refl
added_same (x ∷ xs) ys (suc k) low = added_same xs ys k (omega (arith, low))

-- views that are added change none that was there
pub view_kept : (views more : List View) (e : ℕ) → e ≤ length views → view_in (views ++ more) e ≡ view_in views e
view_kept views more zero low = refl
view_kept views more (suc k) low =
    let x = there_is views k low in
    view_at (views ++ more) (suc k) x.0 (added_same views more k low ∙ x.1) ∙ sym (view_at views (suc k) x.0 x.1)

pub numbered_kept : (views more : List View) (e : ℕ) (v : View) → numbered e views ≡ Some v → numbered e (views ++ more) ≡ Some v
numbered_kept views more zero v is = absurd cc
numbered_kept views more (suc k) v is = added_same views more k (slice_get_within views k v is) ∙ is

-- ---- lists
pub in_either : {X : Type 0} (xs ys : List X) (x : X) → In (xs ++ ys) x → In xs x ⊎ In ys x
in_either [] ys x h = inr h
in_either (y ∷ xs) ys x (inl e) = inl (inl e)
in_either (y ∷ xs) ys x (inr h) = at (in_either xs ys x h)
  where
    at : In xs x ⊎ In ys x → In (y ∷ xs) x ⊎ In ys x
    at (inl a) = inl (inr a)
    at (inr b) = inr b

pub in_left : {X : Type 0} (xs ys : List X) (x : X) → In xs x → In (xs ++ ys) x
in_left [] ys x h = absurd h
in_left (y ∷ xs) ys x (inl e) = inl e
in_left (y ∷ xs) ys x (inr h) = inr (in_left xs ys x h)

pub in_place : {X : Type 0} (xs : List X) (k : ℕ) (x : X) → slice_get xs k ≡ Some x → In xs x
in_place [] k x e = absurd cc
in_place (y ∷ ys) zero x e = inl cc
in_place (y ∷ ys) (suc k) x e = inr (in_place ys k x e)

pub letter_in : {X : Type 0} (n : ℕ) (xs : List X) (x : X) → numbered n xs ≡ Some x → In xs x
letter_in zero xs x e = absurd cc
letter_in (suc k) xs x e = in_place xs k x e
