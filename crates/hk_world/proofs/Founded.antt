-- Founders, one after the other.
use Rattle.std.proofs.Common.{◌≡◌, ◌+◌, ◌++◌, ◌<◌, ◌≤◌, ℕ, zero, suc, true, false, cond, List, [], ◌∷◌, map, Option, Some, None, Result, Ok, refl, sym, ap, subst, ◌∙◌, arith, append-nil, append_assoc}
use Rattle.std.specs.declared.cmp.Ordering.{Ordering}
use Rattle.std.specs.declared.cmp.Ordering.TheVariants.{Greater}
use Rattle.std.specs.Ordering.{nat_cmp, match_ordering, is_eq}
use Rattle.std.specs.List.{range_with_len}
use Rattle.std.proofs.lemmas.List.FromFn.{map-range_with_len_more}
use Rattle.std.specs.BTreeMap.{insert_entry}
use Rattle.std.specs.Map.{keys_of}
use Rattle.std.specs.List.{AllByRecursion}
use Rattle.std.proofs.lemmas.Bool.{le-ltb, ne_eqb}
use Rattle.hk_base.specs.declared.stamp.NodeId.{NodeId}
use Rattle.hk_base.specs.declared.letter.Actor.{Actor}
use Rattle.hk_base.specs.declared.letter.Actor.TheVariants.{Node, Manager}
use Rattle.hk_clocks.specs.declared.fault.ClockFault.{ClockFault}
use Rattle.hk_clocks.specs.declared.pace.Pace.{Pace}
use Rattle.hk_clocks.specs.Clocks.{ClockState, Paces, by_actor, pace_of}
use Rattle.hk_clocks.specs.Steps.{clock_step, starts}
use Rattle.hk_clocks.specs.Steps.{ClockEvent}
use Rattle.hk_manager.specs.Manager.{ManagerState}
use Rattle.hk_manager.specs.Sound.{manager_new}
use Rattle.hk_event.specs.declared.event.Header.{Header}
use Rattle.hk_world.specs.declared.process.Process.{Process}
use Rattle.hk_world.specs.declared.process.ManagerProcess.{ManagerProcess}
use Rattle.hk_world.specs.World.{Processes, by_number}
use Rattle.hk_world.specs.Start.{founding_view, founding_process, founding_manager, founding_paces, first_pace}
use Rattle.hk_world.specs.Sound.{IsHeader}
use Rattle.hk_base.specs.declared.view.View.{View}
use Rattle.hk_base.specs.View.{IsView, is_member, counted}
use Rattle.hk_node.specs.Node.{NodeState}
use Rattle.hk_node.specs.Made.{founder}
use Rattle.hk_world.proofs.Starting.{counted_below, founder_keys, counted_has, founding_is_view}

counted_suc : (n k : ℕ) → counted n k ++ record { 0 = n + k } ∷ [] ≡ counted n (suc k)
counted_suc n zero = let same : n + 0 ≡ n = omega arith in ap (λ (m : ℕ). record { 0 = m } ∷ []) same
counted_suc n (suc k) =
    let same : n + suc k ≡ n + 1 + k = omega arith in
    ap (λ (m : ℕ). record { 0 = n } ∷ (counted (n + 1) k ++ record { 0 = m } ∷ [])) same ∙ ap (λ (l : List NodeId). record { 0 = n } ∷ l) (counted_suc (n + 1) k)

pub counted_more : (k : ℕ) → counted 0 k ++ record { 0 = k } ∷ [] ≡ counted 0 (k + 1)
counted_more k =
    let same : 0 + k ≡ k = omega arith in
    let next : suc k ≡ k + 1 = omega arith in
    ap (λ (m : ℕ). counted 0 k ++ record { 0 = m } ∷ []) (sym same) ∙ counted_suc 0 k ∙ ap (counted 0) next

above : (a b : NodeId) → b.0 < a.0 → by_number a b ≡ Greater
above a b low = rw (le-ltb a.0 b.0 (omega arith), ne_eqb a.0 b.0 (λ e. absurd (omega arith))) refl

put_last : (id : NodeId) (p : Process) (es : Processes) → AllByRecursion (λ (k : NodeId). k.0 < id.0) (keys_of es) → insert_entry by_number es id p ≡ es ++ (id, p) ∷ []
put_last id p [] all = refl
put_last id p (e ∷ es) all =
    ap (λ (o : _). match_ordering o ((id, p) ∷ e ∷ es) ((e.0, p) ∷ es) (e ∷ insert_entry by_number es id p)) (above id e.0 all.0)
    ∙ ap (λ (l : Processes). e ∷ l) (put_last id p es all.1)

abbrev pub founded : Header → List NodeId → Processes
founded h ids = map (λ id. (id, founding_process h id)) ids

founders_append : (h : Header) (xs : List NodeId) (y : NodeId) → founded h (xs ++ y ∷ []) ≡ founded h xs ++ (y, founding_process h y) ∷ []
founders_append h [] y = refl
founders_append h (x ∷ xs) y = ap (λ (l : Processes). (x, founding_process h x) ∷ l) (founders_append h xs y)

pub founders_more : (h : Header) (k : ℕ) (p : Process) (old new : Processes) → p ≡ founding_process h (record { 0 = k }) → old ≡ founded h (counted 0 k) →
    new ≡ insert_entry by_number old (record { 0 = k }) p → new ≡ founded h (counted 0 (k + 1))
founders_more h k p old new made so_far put =
    let below : AllByRecursion (λ (i : NodeId). i.0 < k) (keys_of (founded h (counted 0 k))) =
    subst (λ (ks : List NodeId). AllByRecursion (λ (i : NodeId). i.0 < k) ks) (sym (founder_keys h (counted 0 k))) (counted_below 0 k k (omega arith)) in
    put ∙ ap (λ (q : Process). insert_entry by_number old (record { 0 = k }) q) made
    ∙ ap (λ (es : Processes). insert_entry by_number es (record { 0 = k }) (founding_process h (record { 0 = k }))) so_far
    ∙ put_last (record { 0 = k }) (founding_process h (record { 0 = k })) (founded h (counted 0 k)) below
    ∙ sym (founders_append h (counted 0 k) (record { 0 = k }))
    ∙ ap (λ (l : List NodeId). founded h l) (counted_more k)

id_of : ℕ → NodeId
id_of n = record { 0 = n }

abbrev process_by : Header → NodeId → View → Process
process_by h id view = record { node = founder id view h.lease h.skew h.managers; crashed = false }

abbrev process_with : NodeState → Process
process_with node = record { node = node; crashed = false }

pub founders_next : (h : Header) (k n : ℕ) (node : NodeState) (view : View) (old new : Processes) → n ≡ k → view ≡ founding_view h → node ≡ founder (record { 0 = n }) view h.lease h.skew h.managers → old ≡ founded h (counted 0 k) →
    new ≡ insert_entry by_number old (record { 0 = n }) (record { node = node; crashed = false }) → new ≡ founded h (counted 0 (k + 1))
unfolding id_of
founders_next h k n node view old new same first made so_far put =
    let process : Process = record { node = node; crashed = false } in
    let process_is : process ≡ founding_process h (id_of k) =
    ap (λ (s : NodeState). process_with s) made ∙ ap (λ (v : View). process_by h (id_of n) v) first ∙ ap (λ (m : ℕ). founding_process h (id_of m)) same in
    founders_more h k process old new process_is so_far (put ∙ ap (λ (m : ℕ). insert_entry by_number old (id_of m) process) same)

pub founder_view : (h : Header) (view : View) → IsHeader h → view ≡ founding_view h → IsView view
founder_view h view is same = subst IsView (sym same) (founding_is_view h is)

pub founder_member : (h : Header) (view : View) (k n : ℕ) → view ≡ founding_view h → n ≡ k → k < h.nodes → is_member (record { 0 = n }) view.members ≡ true
founder_member h view k n same e under = subst (λ (v : View). is_member (record { 0 = n }) v.members ≡ true) (sym same) (counted_has 0 h.nodes (record { 0 = n }) (omega arith) (omega arith))

-- ---- managers
abbrev manager_by : Header → ℕ → View → ManagerProcess
manager_by h n view = record { manager = manager_new n h.managers view h.lease; crashed = false }

abbrev manager_with : ManagerState → ManagerProcess
manager_with manager = record { manager = manager; crashed = false }

pub managers_next : (h : Header) (k : ℕ) (manager : ManagerState) (view : View) (old new : List ManagerProcess) → view ≡ founding_view h → manager ≡ manager_new k h.managers view h.lease →
    old ≡ map (λ m. founding_manager h m) (range_with_len 0 k) → new ≡ old ++ record { manager = manager; crashed = false } ∷ [] → new ≡ map (λ m. founding_manager h m) (range_with_len 0 (k + 1))
managers_next h k manager view old new first made so_far pushed =
    let is : manager_with manager ≡ founding_manager h k = ap manager_with made ∙ ap (manager_by h k) first in
    pushed ∙ ap (λ (l : List ManagerProcess). l ++ manager_with manager ∷ []) so_far ∙ ap (λ (p : ManagerProcess). map (λ m. founding_manager h m) (range_with_len 0 k) ++ p ∷ []) is
    ∙ sym (map-range_with_len_more (λ m. founding_manager h m) 0 k k (omega arith))

-- ---- clocks
abbrev IsBelow : Actor → List Actor → Type 0
IsBelow a actors = AllByRecursion (λ (x : Actor). by_actor a x ≡ Greater) actors

abbrev clocks_with : ℕ → Paces → ClockState
clocks_with skew paces = record { skew = skew; paces = paces }

absent : (a : Actor) (actors : List Actor) → IsBelow a actors → pace_of (founding_paces actors) a ≡ None
absent a [] all = refl
absent a (x ∷ actors) all = ap (λ (o : Ordering). cond (is_eq o) (Some first_pace) (pace_of (founding_paces actors) a)) all.0 ∙ absent a actors all.1

put_pace : (a : Actor) (actors : List Actor) → IsBelow a actors → insert_entry by_actor (founding_paces actors) a first_pace ≡ founding_paces (actors ++ a ∷ [])
put_pace a [] all = refl
put_pace a (x ∷ actors) all =
    ap (λ (o : Ordering). match_ordering o ((a, first_pace) ∷ founding_paces (x ∷ actors)) ((x, first_pace) ∷ founding_paces actors) ((x, first_pace) ∷ insert_entry by_actor (founding_paces actors) a first_pace)) all.0
    ∙ ap (λ (l : Paces). (x, first_pace) ∷ l) (put_pace a actors all.1)

of_ok : (x y : ClockState) → ◌≡◌ {A = Result ClockState ClockFault} (Ok x) (Ok y) → x ≡ y
of_ok x y e = cc

-- one more clock starts
clock_next : (skew : ℕ) (actors : List Actor) (a : Actor) (old new : ClockState) → IsBelow a actors → old ≡ clocks_with skew (founding_paces actors) → clock_step old (ClockEvent.Start a 1) ≡ Ok new → new ≡ clocks_with skew (founding_paces (actors ++ a ∷ []))
clock_next skew actors a old new below so_far is =
    let made : clock_step (clocks_with skew (founding_paces actors)) (ClockEvent.Start a 1) ≡ Ok new = ap (λ (c : ClockState). clock_step c (ClockEvent.Start a 1)) (sym so_far) ∙ is in
    let starting : clock_step (clocks_with skew (founding_paces actors)) (ClockEvent.Start a 1) ≡ Ok (clocks_with skew (insert_entry by_actor (founding_paces actors) a first_pace)) =
    ap (λ (o : Option Pace). starts o (clocks_with skew (founding_paces actors)) a 1) (absent a actors below) in
    of_ok _ _ (sym made ∙ starting) ∙ ap (clocks_with skew) (put_pace a actors below)

mapped_more : {X Y : Type 0} (f : X → Y) (xs : List X) (y : X) → map f (xs ++ y ∷ []) ≡ map f xs ++ f y ∷ []
mapped_more f [] y = refl
mapped_more f (x ∷ xs) y = ap (λ (l : List _). f x ∷ l) (mapped_more f xs y)

nodes_below : (id : NodeId) (ids : List NodeId) → AllByRecursion (λ (k : NodeId). k.0 < id.0) ids → IsBelow (Node id) (map (λ i. Node i) ids)
nodes_below id [] all = tt
nodes_below id (i ∷ ids) all = (above id i all.0, nodes_below id ids all.1)

pub node_clocks_next : (skew k n : ℕ) (old new : ClockState) → n ≡ k → old ≡ record { skew = skew; paces = founding_paces (map (λ id. Node id) (counted 0 k)) } → clock_step old (ClockEvent.Start (Node (record { 0 = n })) 1) ≡ Ok new →
    new ≡ record { skew = skew; paces = founding_paces (map (λ id. Node id) (counted 0 (k + 1))) }
unfolding id_of
node_clocks_next skew k n old new same so_far is =
    let is_k : clock_step old (ClockEvent.Start (Node (id_of k)) 1) ≡ Ok new = ap (λ (m : ℕ). clock_step old (ClockEvent.Start (Node (id_of m)) 1)) (sym same) ∙ is in
    clock_next skew (map (λ id. Node id) (counted 0 k)) (Node (id_of k)) old new (nodes_below (id_of k) (counted 0 k) (counted_below 0 k k (omega arith))) so_far is_k
    ∙ ap (λ (l : List Actor). clocks_with skew (founding_paces l)) (sym (mapped_more (λ id. Node id) (counted 0 k) (id_of k)) ∙ ap (λ (l : List NodeId). map (λ id. Node id) l) (counted_more k))

above_nodes : (m : ℕ) (ids : List NodeId) (rest : List Actor) → IsBelow (Manager m) rest → IsBelow (Manager m) (map (λ i. Node i) ids ++ rest)
above_nodes m [] rest all = all
above_nodes m (i ∷ ids) rest all = (refl, above_nodes m ids rest all)

managers_below : (m a k : ℕ) → a + k ≤ m → IsBelow (Manager m) (map (λ n. Manager n) (range_with_len a k))
managers_below m a zero le = tt
managers_below m a (suc k) le = (greater m a (omega (arith, le)), managers_below m (a + 1) k (omega (arith, le)))
  where
    greater : (x y : ℕ) → y < x → nat_cmp x y ≡ Greater
    greater x y low = rw (le-ltb x y (omega arith), ne_eqb x y (λ e. absurd (omega arith))) refl

pub manager_clocks_begin : (skew : ℕ) (nodes : List Actor) (clocks : ClockState) → clocks ≡ record { skew = skew; paces = founding_paces nodes } → clocks ≡ record { skew = skew; paces = founding_paces (nodes ++ []) }
manager_clocks_begin skew nodes clocks is = is ∙ ap (λ (l : List Actor). clocks_with skew (founding_paces l)) (sym (append-nil nodes))

pub manager_clocks_next : (skew nodes k : ℕ) (old new : ClockState) → old ≡ record { skew = skew; paces = founding_paces (map (λ id. Node id) (counted 0 nodes) ++ map (λ m. Manager m) (range_with_len 0 k)) } →
    clock_step old (ClockEvent.Start (Manager k) 1) ≡ Ok new → new ≡ record { skew = skew; paces = founding_paces (map (λ id. Node id) (counted 0 nodes) ++ map (λ m. Manager m) (range_with_len 0 (k + 1))) }
manager_clocks_next skew nodes k old new so_far is =
    clock_next skew (map (λ id. Node id) (counted 0 nodes) ++ map (λ m. Manager m) (range_with_len 0 k)) (Manager k) old new
    (above_nodes k (counted 0 nodes) (map (λ m. Manager m) (range_with_len 0 k)) (managers_below k 0 k (omega arith))) so_far is
    ∙ ap (λ (l : List Actor). clocks_with skew (founding_paces l))
    (append_assoc (map (λ id. Node id) (counted 0 nodes)) (map (λ m. Manager m) (range_with_len 0 k)) (Manager k ∷ [])
    ∙ ap (λ (l : List Actor). map (λ id. Node id) (counted 0 nodes) ++ l) (sym (map-range_with_len_more (λ m. Manager m) 0 k k (omega arith))))
