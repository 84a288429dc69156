-- A world of founders, and of managers that hold the first view, is sound.
use Rattle.std.proofs.Common.{◌≡◌, ◌++◌, ⊎_elim, ◌+◌, ◌<◌, ◌≤◌, ℕ, zero, suc, Bool, true, false, cond, List, [], ◌∷◌, map, Option, Some, None, refl, sym, ap, subst, ◌∙◌, arith}
use Rattle.std.specs.declared.cmp.Ordering.TheVariants.{Less, Greater}
use Rattle.std.specs.Ordering.{nat_cmp, is_eq}
use Rattle.std.specs.Option.{option_map}
use Rattle.std.specs.BTreeMap.{is_at}
use Rattle.std.specs.List.{AllByRecursion, range_with_len}
use Rattle.std.specs.List.Sorted.{IsStrictlySortedBy}
use Rattle.std.specs.Map.{keys_of}
use Rattle.std.proofs.lemmas.Bool.{lt-ltb, le-ltb, ne_eqb, eq-eqb, or_left, or_right, and_from, cases_lt}
use Rattle.std.proofs.lemmas.List.FromFn.{length-map-range_with_len}
use Rattle.std.proofs.lemmas.List.Elements.{All-from_recursion}
use Rattle.hk_base.specs.declared.stamp.NodeId.{NodeId}
use Rattle.hk_base.specs.declared.view.View.{View}
use Rattle.hk_base.specs.declared.letter.Actor.{Actor}
use Rattle.hk_base.specs.declared.letter.Actor.TheVariants.{Node, Manager}
use Rattle.hk_base.proofs.Counting.{first_is_view}
use Rattle.hk_base.specs.View.{IsView, is_member, counted}
use Rattle.hk_clocks.specs.declared.pace.Pace.{Pace}
use Rattle.hk_clocks.specs.Clocks.{Paces, by_actor, clock_of, pace_of}
use Rattle.hk_clocks.specs.Sound.{IsPace, AreClocks}
use Rattle.hk_clocks.proofs.Entries.{sorted_nil as no_actors, sorted_cons as actor_first, itself}
use Rattle.hk_manager.specs.Sound.{IsInstance, IsManager, manager_new}
use Rattle.hk_node.proofs.Managed.{nothing_heard}
use Rattle.hk_node.specs.Made.{founder}
use Rattle.hk_node.specs.Sound.{IsNode}
use Rattle.hk_event.specs.declared.event.Header.{Header}
use Rattle.hk_world.specs.declared.process.ManagerProcess.{ManagerProcess}
use Rattle.hk_world.specs.World.{by_number, numbered, process_at, manager_at, node_clock, manager_clock, live_clock}
use Rattle.hk_world.specs.Steps.{was_member}
use Rattle.hk_world.specs.Start.{start, founding_view, founding_process, founding_manager, founding_actors, founding_paces, first_pace}
use Rattle.hk_world.specs.Sound.{IsHeader, IsWorld, IsProcess, IsManagerProcess, AreViews}
use Rattle.hk_world.proofs.Viewed.{less_below}

ids_above : (m n k : ℕ) → m < n → AllByRecursion (λ y. by_number (record { 0 = m }) y ≡ Less) (counted n k)
ids_above m n zero less = tt
ids_above m n (suc k) less = (less_below m n less, ids_above m (n + 1) k (omega arith))

ids_sorted : (n k : ℕ) → IsStrictlySortedBy by_number (counted n k)
unfolding IsStrictlySortedBy
ids_sorted n zero = tt
ids_sorted n (suc k) = (ids_above n (n + 1) k (omega arith), ids_sorted (n + 1) k)

pub counted_below : (n k next : ℕ) → n + k ≤ next → AllByRecursion (λ (m : NodeId). m.0 < next) (counted n k)
counted_below n zero next le = tt
counted_below n (suc k) next le = (omega arith, counted_below (n + 1) k next (omega arith))

pub counted_has : (n k : ℕ) (id : NodeId) → n ≤ id.0 → id.0 < n + k → is_member id (counted n k) ≡ true
counted_has n zero id low high = absurd (omega arith)
counted_has n (suc k) id low high = ⊎_elim (λ (l : n < id.0). or_right _ _ (counted_has (n + 1) k id (omega arith) (omega arith))) (λ (g : id.0 ≤ n). or_left _ _ (eq-eqb n id.0 (omega arith))) (cases_lt n id.0)

each_member : (n k total : ℕ) → n + k ≤ total → AllByRecursion (λ (id : NodeId). is_member id (counted 0 total) ≡ true) (counted n k)
each_member n zero total le = tt
each_member n (suc k) total le = (counted_has 0 total (record { 0 = n }) (omega arith) (omega arith), each_member (n + 1) k total (omega arith))

pub founding_is_view : (h : Header) → IsHeader h → IsView (founding_view h)
founding_is_view h is = first_is_view h.nodes is.some is.few

only_one : (v view : View) (e : ℕ) → numbered e (v ∷ []) ≡ Some view → (e ≡ 1) × (view ≡ v)
only_one v view zero at = absurd cc
only_one v view (suc zero) at = (refl, cc)
only_one v view (suc (suc k)) at = absurd cc

founding_views : (h : Header) → IsHeader h → AreViews (founding_view h ∷ [])
founding_views h is = record {
  some = omega arith;
  each = (founding_is_view h is, tt);
  epochs = λ e view at. let o = only_one _ view e at in rw (o.1, o.0) refl;
  rising = λ e f earlier later at to le. let o = only_one _ earlier e at in let p = only_one _ later f to in rw (o.1, p.1) (omega arith);
  given = λ e view at id under. given e view id (only_one _ view e at) under;
}
  where
    given : (e : ℕ) (view : View) (id : NodeId) → (e ≡ 1) × (view ≡ founding_view h) → id.0 < view.next → was_member (founding_view h ∷ []) (e + 1) id ≡ true
    given e view id o under =
        let first : id.0 < h.nodes = subst (λ (v : View). id.0 < v.next) o.1 under in
        let one = o.0 in
        or_left _ _ (and_from _ _ (lt-ltb 1 (e + 1) (omega arith)) (counted_has 0 h.nodes id (omega arith) (omega arith)))

founder_is_node : (h : Header) → IsHeader h → (id : NodeId) → is_member id (counted 0 h.nodes) ≡ true → IsNode (founder id (founding_view h) h.lease h.skew h.managers)
unfolding IsStrictlySortedBy
founder_is_node h is id member = record {
  view = record { is_view = founding_is_view h is; member = member };
  resting = λ e. refl;
  unready = λ e. absurd cc;
  ordered = tt;
  rows = tt;
  touched = tt;
  shadow = λ e. tt;
  clock_runs = omega arith;
  clock = omega arith;
  granted = is.lease;
  skew = is.skew;
  heard = nothing_heard h.managers h.lease is.managers is.lease;
}

founders : (h : Header) → IsHeader h → (ids : List NodeId) → AllByRecursion (λ (id : NodeId). is_member id (counted 0 h.nodes) ≡ true) ids →
    AllByRecursion (IsProcess (start h)) (map (λ id. (id, founding_process h id)) ids)
founders h is [] members = tt
founders h is (id ∷ ids) members = (record { own = refl; same_skew = refl; managed = sym (length-map-range_with_len (λ m. founding_manager h m) 0 h.managers); node = founder_is_node h is id members.0 }, founders h is ids members.1)

pub founder_keys : (h : Header) (ids : List NodeId) → keys_of (map (λ id. (id, founding_process h id)) ids) ≡ ids
founder_keys h [] = refl
founder_keys h (id ∷ ids) = ap (λ (l : List NodeId). id ∷ l) (founder_keys h ids)

-- ---- managers
founding_is_manager : (h : Header) → IsHeader h → (m : ℕ) → m < h.managers → IsManager (manager_new m h.managers (founding_view h) h.lease)
founding_is_manager h is m under = record {
  few = is.managers;
  number = under;
  lease = is.lease;
  held = founding_is_view h is;
  clock_runs = omega arith;
  clock = omega arith;
  instances = All-from_recursion IsInstance [] tt;
  proposal = tt;
}

found_manager : (h : Header) (a k m : ℕ) (p : ManagerProcess) → manager_at m (map (λ n. founding_manager h n) (range_with_len a k)) ≡ Some p → (m < k) × (founding_manager h (a + m) ≡ p)
found_manager h a zero m p at = absurd cc
found_manager h a (suc k) zero p at = let same : a + 0 ≡ a = omega arith in (omega arith, ap (founding_manager h) same ∙ cc)
found_manager h a (suc k) (suc m) p at =
    let more = found_manager h (a + 1) k m p at in
    let low = more.0 in
    let same : a + suc m ≡ a + 1 + m = omega arith in
    (omega (arith, low), ap (founding_manager h) same ∙ more.1)

founding_managers : (h : Header) → IsHeader h → (m : ℕ) (p : ManagerProcess) → manager_at m (start h).managers ≡ Some p → IsManagerProcess (start h) m p
founding_managers h is m p at =
    let found = found_manager h 0 h.managers m p at in
    let same : 0 + m ≡ m = omega arith in
    subst (IsManagerProcess (start h) m) (ap (founding_manager h) (sym same) ∙ found.1) (record {
      own = refl;
      among = sym (length-map-range_with_len (λ n. founding_manager h n) 0 h.managers);
      same_lease = refl;
      manager = founding_is_manager h is m found.0;
    })

-- ---- clocks
abbrev node_actors : List NodeId → List Actor
node_actors ids = map (λ id. Node id) ids

abbrev manager_actors : List ℕ → List Actor
manager_actors ms = map (λ m. Manager m) ms

pub paces_keys : (actors : List Actor) → keys_of (founding_paces actors) ≡ actors
paces_keys [] = refl
paces_keys (a ∷ actors) = ap (λ (l : List Actor). a ∷ l) (paces_keys actors)

managers_above : (m a k : ℕ) → m < a → AllByRecursion (λ y. by_actor (Manager m) y ≡ Less) (manager_actors (range_with_len a k))
managers_above m a zero low = tt
managers_above m a (suc k) low = (less_below m a low, managers_above m (a + 1) k (omega arith))

managers_sorted : (a k : ℕ) → IsStrictlySortedBy by_actor (manager_actors (range_with_len a k))
managers_sorted a zero = no_actors
managers_sorted a (suc k) = actor_first (Manager a) (manager_actors (range_with_len (a + 1) k)) (managers_above a (a + 1) k (omega arith)) (managers_sorted (a + 1) k)

above_nodes : (id : NodeId) (ms : List ℕ) → AllByRecursion (λ y. by_actor (Node id) y ≡ Less) (manager_actors ms)
above_nodes id [] = tt
above_nodes id (m ∷ ms) = (refl, above_nodes id ms)

actors_above : (n a k : ℕ) (ms : List ℕ) → n < a → AllByRecursion (λ y. by_actor (Node (record { 0 = n })) y ≡ Less) (node_actors (counted a k) ++ manager_actors ms)
actors_above n a zero ms low = above_nodes (record { 0 = n }) ms
actors_above n a (suc k) ms low = (less_below n a low, actors_above n (a + 1) k ms (omega arith))

actors_sorted : (a k : ℕ) (ms : List ℕ) → IsStrictlySortedBy by_actor (manager_actors ms) → IsStrictlySortedBy by_actor (node_actors (counted a k) ++ manager_actors ms)
actors_sorted a zero ms sorted = sorted
actors_sorted a (suc k) ms sorted = actor_first (Node (record { 0 = a })) (node_actors (counted (a + 1) k) ++ manager_actors ms) (actors_above a (a + 1) k ms (omega arith)) (actors_sorted (a + 1) k ms sorted)

pub founding_sorted : (h : Header) → IsStrictlySortedBy by_actor (founding_actors h)
founding_sorted h = actors_sorted 0 h.nodes (range_with_len 0 h.managers) (managers_sorted 0 h.managers)

each_pace : (skew : ℕ) (all : Paces) (actors : List Actor) → AllByRecursion (IsPace skew all) (founding_paces actors)
each_pace skew all [] = tt
each_pace skew all (a ∷ actors) = (record { clock = omega arith; ordered = no_actors; leads = tt }, each_pace skew all actors)

founding_clocks : (h : Header) → IsHeader h → AreClocks (record { skew = h.skew; paces = founding_paces (founding_actors h) })
founding_clocks h is = record {
  skew = is.skew;
  ordered = subst (IsStrictlySortedBy by_actor) (sym (paces_keys (founding_actors h))) (founding_sorted h);
  paces = each_pace h.skew (founding_paces (founding_actors h)) (founding_actors h);
}

-- ---- whose clocks they are
no_nodes : (id : NodeId) (ms : List ℕ) → pace_of (founding_paces (manager_actors ms)) (Node id) ≡ None
no_nodes id [] = refl
no_nodes id (m ∷ ms) = no_nodes id ms

node_tied : (h : Header) (id : NodeId) (ids : List NodeId) (ms : List ℕ) →
    clock_of (founding_paces (node_actors ids ++ manager_actors ms)) (Node id) ≡ node_clock (process_at id (map (λ i. (i, founding_process h i)) ids))
node_tied h id [] ms = ap (λ (o : Option Pace). option_map (λ pace. pace.clock) o) (no_nodes id ms)
node_tied h id (i ∷ ids) ms = at (is_at (by_number id) i) (node_tied h id ids ms)
  where
    at : (b : Bool) → clock_of (founding_paces (node_actors ids ++ manager_actors ms)) (Node id) ≡ node_clock (process_at id (map (λ i. (i, founding_process h i)) ids)) →
        option_map (λ pace. pace.clock) (cond b (Some first_pace) (pace_of (founding_paces (node_actors ids ++ manager_actors ms)) (Node id)))
        ≡ node_clock (cond b (Some (founding_process h i)) (process_at id (map (λ i. (i, founding_process h i)) ids)))
    at true ih = refl
    at false ih = ih

manager_at_once : (h : Header) (a k m : ℕ) → clock_of (founding_paces (manager_actors (range_with_len a k))) (Manager (a + m)) ≡ manager_clock (manager_at m (map (λ n. founding_manager h n) (range_with_len a k)))
manager_at_once h a zero m = refl
manager_at_once h a (suc k) zero =
    let same : a + 0 ≡ a = omega arith in
    subst (λ (n : ℕ). clock_of (founding_paces (manager_actors (range_with_len a (suc k)))) (Manager n) ≡ Some 1) (sym same)
    (ap (λ (b : Bool). option_map (λ (pace : Pace). pace.clock) (cond b (Some first_pace) (pace_of (founding_paces (manager_actors (range_with_len (a + 1) k))) (Manager a)))) (ap is_eq (itself (Manager a))))
manager_at_once h a (suc k) (suc m) =
    let apart : nat_cmp (a + suc m) a ≡ Greater = greater (a + suc m) a (omega arith) in
    let same : a + suc m ≡ a + 1 + m = omega arith in
    ap (λ (b : Bool). option_map (λ (pace : Pace). pace.clock) (cond b (Some first_pace) (pace_of (founding_paces (manager_actors (range_with_len (a + 1) k))) (Manager (a + suc m))))) (ap is_eq apart)
    ∙ ap (λ (n : ℕ). clock_of (founding_paces (manager_actors (range_with_len (a + 1) k))) (Manager n)) same
    ∙ manager_at_once h (a + 1) k m
  where
    greater : (x y : ℕ) → y < x → nat_cmp x y ≡ Greater
    greater x y low = rw (le-ltb x y (omega arith), ne_eqb x y (λ e. absurd (omega arith))) refl

managers_tied : (h : Header) (m : ℕ) (ids : List NodeId) →
    clock_of (founding_paces (node_actors ids ++ manager_actors (range_with_len 0 h.managers))) (Manager m) ≡ manager_clock (manager_at m (map (λ n. founding_manager h n) (range_with_len 0 h.managers)))
managers_tied h m [] =
    let same : m ≡ 0 + m = omega arith in
    ap (λ (n : ℕ). clock_of (founding_paces (manager_actors (range_with_len 0 h.managers))) (Manager n)) same ∙ manager_at_once h 0 h.managers m
managers_tied h m (i ∷ ids) = managers_tied h m ids

founding_paced : (h : Header) (a : Actor) → clock_of (start h).paces a ≡ live_clock (start h) a
founding_paced h (Node id) = node_tied h id (counted 0 h.nodes) (range_with_len 0 h.managers)
founding_paced h (Manager m) = managers_tied h m (counted 0 h.nodes)

pub start_sound : (h : Header) → IsHeader h → IsWorld (start h)
start_sound h is = record {
  skew = is.skew;
  lease = is.lease;
  ordered = rw (founder_keys h (counted 0 h.nodes)) (ids_sorted 0 h.nodes);
  processes = founders h is (counted 0 h.nodes) (each_member 0 h.nodes h.nodes (omega arith));
  few = rw (length-map-range_with_len (λ n. founding_manager h n) 0 h.managers) is.managers;
  managers = founding_managers h is;
  clocks = founding_clocks h is;
  paced = founding_paced h;
  letters = tt;
  some = omega arith;
  each = (founding_is_view h is, tt);
  views = λ none. founding_views h is;
}
