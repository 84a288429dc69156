-- How long the lines of a status get.
use Rattle.std.proofs.Common.{◌<◌, ◌≤◌, ◌+◌, ◌++◌, ℕ, zero, suc, Bool, true, false, cond, List, [], ◌∷◌, length, take, Option, None, Some, codes, decimal, arith, length-append}
use Rattle.std.specs.List.{flat_map, list_any, AllByRecursion}
use Rattle.std.specs.Option.{IfSome}
use Rattle.std.proofs.lemmas.Fmt.{length-decimal-le}
use Rattle.std.proofs.lemmas.List.Elements.{recursion_from_All}
use Rattle.hk_base.specs.declared.stamp.NodeId.{NodeId}
use Rattle.hk_base.specs.declared.view.View.{View}
use Rattle.hk_inside.specs.declared.board.Stage.{Stage}
use Rattle.hk_inside.specs.declared.board.Stage.TheVariants as stages
use Rattle.hk_inside.specs.declared.report.Counts.{Counts}
use Rattle.hk_inside.specs.declared.report.ShardsTold.{ShardsTold}
use Rattle.hk_status.specs.declared.status.NodeShown.{NodeShown}
use Rattle.hk_status.specs.declared.status.NodeShown.TheVariants as shown
use Rattle.hk_status.specs.declared.status.ManagerLine.{ManagerLine}
use Rattle.hk_status.specs.declared.status.NodeTold.{NodeTold}
use Rattle.hk_status.specs.declared.status.NodeLine.{NodeLine}
use Rattle.hk_status.specs.declared.status.WaitLine.{WaitLine}
use Rattle.hk_status.specs.declared.status.GroupStatus.{GroupStatus}
use Rattle.hk_status.specs.Words.{field, number_text, known_field, address_text, founding_text, stage_text, shown_text}
use Rattle.hk_status.specs.Views.{same_view, has_at, goes_on, comma, range_part, ranges_from, members_text, view_text, view_line, line_at, lines_from, views_text}
use Rattle.hk_status.specs.Lines.{clocks_text, group_line, up_text, manager_line, shards_text, counts_text, told_text, node_line, wait_line, waiting_line, lost_line, status_text}
use Rattle.hk_status.specs.Limits.{IsNumber, IsAddress, IsSmallManager, IsSmallView, AreSmallShards, AreSmallCounts, IsSmallTold, IsSmallNode, IsSmallWait, IsSmall, SmallStatusesFit}

-- ---- one text behind another

plus : (a b : ℕ) (xs ys : List ℕ) → length xs ≤ a → length ys ≤ b → length (xs ++ ys) ≤ a + b
plus a b xs ys p q = let e = length-append xs ys in omega (arith, e, p, q)

abbrev times : ℕ → ℕ → ℕ
times k zero = 0
times k (suc n) = k + times k n

each : {X : Type 0} (P : X → Type 0) (f : X → List ℕ) (k : ℕ) → ((x : X) → P x → length (f x) ≤ k) → (n : ℕ) (xs : List X) → length xs ≤ n → AllByRecursion P xs → length (flat_map f xs) ≤ times k n
each P f k le n [] few all = omega arith
each P f k le zero (x ∷ xs) few all = absurd (omega (arith, few))
each P f k le (suc n) (x ∷ xs) few all = plus k (times k n) (f x) (flat_map f xs) (le x all.0) (each P f k le n xs (omega (arith, few)) all.1)

-- ---- words

digits : (n : ℕ) → IsNumber n → length (decimal n) ≤ 20
digits n small = length-decimal-le 20 n (omega arith) (omega (arith, small)) small

field_le : (k : ℕ) (name : List ℕ) (n : ℕ) → length name ≤ k → IsNumber n → length (field name n) ≤ k + 20
field_le k name n le small = plus k 20 name (decimal n) le (digits n small)

number_le : (x : Option ℕ) → IfSome x (λ n. IsNumber n) → length (number_text x) ≤ 20
number_le None small = omega arith
number_le (Some n) small = digits n small

known_le : (k : ℕ) (name : List ℕ) (x : Option ℕ) → length name ≤ k → IfSome x (λ n. IsNumber n) → length (known_field name x) ≤ k + 20
known_le k name x le small = plus k 20 name (number_text x) le (number_le x small)

address_le : (a : List ℕ) → IsAddress a → length (address_text a) ≤ 64
address_le [] small = omega arith
address_le (x ∷ xs) small = small

stage_le : (s : Stage) → length (stage_text s) ≤ 14
stage_le stages.Empty = omega arith
stage_le stages.Founded = omega arith
stage_le stages.Open = omega arith

shown_le : (s : NodeShown) → length (shown_text s) ≤ 7
shown_le shown.Seated = omega arith
shown_le shown.Copying = omega arith
shown_le shown.Ready = omega arith
shown_le shown.Leaving = omega arith
shown_le shown.Gone = omega arith

founding_le : (x : Option ℕ) → length (founding_text x) ≤ 26
founding_le None = omega arith
founding_le (Some f) = omega arith

-- ---- the group

clocks_le : (lease skew : ℕ) → IsNumber lease → IsNumber skew → length (clocks_text lease skew) ≤ 54
clocks_le lease skew p q = plus 27 27 (field (codes " lease=") lease) (field (codes " skew=") skew ++ codes "\n") (field_le 7 (codes " lease=") lease (omega arith) p)
    (plus 26 1 (field (codes " skew=") skew) (codes "\n") (field_le 6 (codes " skew=") skew (omega arith) q) (omega arith))

group_le : (s : GroupStatus) → IsSmall s → length (group_line s) ≤ 132
group_le s small = plus 6 126 (codes "group ") (s.group ++ (founding_text s.founding ++ (stage_text s.stage ++ clocks_text s.lease s.skew))) (omega arith)
    (plus 32 94 s.group (founding_text s.founding ++ (stage_text s.stage ++ clocks_text s.lease s.skew)) small.group
    (plus 26 68 (founding_text s.founding) (stage_text s.stage ++ clocks_text s.lease s.skew) (founding_le s.founding)
    (plus 14 54 (stage_text s.stage) (clocks_text s.lease s.skew) (stage_le s.stage) (clocks_le s.lease s.skew small.lease small.skew))))

-- ---- managers

up_le : (b : Bool) → length (up_text b) ≤ 6
up_le true = omega arith
up_le false = omega arith

manager_le : (m : ManagerLine) → IsSmallManager m → length (manager_line m) ≤ 149
manager_le m small =
    let place = field_le 8 (codes "manager ") m.place (omega arith) small.place in
    let age = known_le 6 (up_text m.is_up) m.age (up_le m.is_up) small.age in
    let records = known_le 9 (codes " records=") m.records (omega arith) small.records in
    plus 28 121 (field (codes "manager ") m.place) (codes " " ++ (address_text m.inside ++ (known_field (up_text m.is_up) m.age ++ (known_field (codes " records=") m.records ++ codes "\n")))) place
    (plus 1 120 (codes " ") (address_text m.inside ++ (known_field (up_text m.is_up) m.age ++ (known_field (codes " records=") m.records ++ codes "\n"))) (omega arith)
    (plus 64 56 (address_text m.inside) (known_field (up_text m.is_up) m.age ++ (known_field (codes " records=") m.records ++ codes "\n")) (address_le m.inside small.inside)
    (plus 26 30 (known_field (up_text m.is_up) m.age) (known_field (codes " records=") m.records ++ codes "\n") age
    (plus 29 1 (known_field (codes " records=") m.records) (codes "\n") records (omega arith)))))

-- ---- views

comma_le : (b : Bool) → length (comma b) ≤ 1
comma_le true = omega arith
comma_le false = omega arith

part_le : (views : List View) (view : View) (shard : ℕ) → IsNumber shard → length (range_part views view shard) ≤ 21
part_le views view shard small = at (has_at views view shard) (goes_on views view shard) (has_at views view (shard + 1)) (list_any (same_view view) (take shard views))
  where
    at : (has goes more before : Bool) → length (cond has (cond goes (cond more [] (codes "-" ++ decimal shard)) (comma before ++ decimal shard)) []) ≤ 21
    at false goes more before = omega arith
    at true true true before = omega arith
    at true true false before = plus 1 20 (codes "-") (decimal shard) (omega arith) (digits shard small)
    at true false more before = plus 1 20 (comma before) (decimal shard) (comma_le before) (digits shard small)

ranges_le : (views : List View) (view : View) (shard n : ℕ) (vs : List View) → length vs ≤ n → shard + n < 1000 → length (ranges_from views view shard vs) ≤ times 21 n
ranges_le views view shard n [] few small = omega arith
ranges_le views view shard zero (v ∷ vs) few small = absurd (omega (arith, few))
ranges_le views view shard (suc n) (v ∷ vs) few small =
    plus 21 (times 21 n) (range_part views view shard) (ranges_from views view (shard + 1) vs) (part_le views view shard (omega (arith, small)))
    (ranges_le views view (shard + 1) n vs (omega (arith, few)) (omega (arith, small)))

member_le : (m : NodeId) → IsNumber m.0 → length (codes "," ++ decimal m.0) ≤ 21
member_le m small = plus 1 20 (codes ",") (decimal m.0) (omega arith) (digits m.0 small)

members_le : (ms : List NodeId) → length ms ≤ 16 → AllByRecursion (λ (m : NodeId). IsNumber m.0) ms → length (members_text ms) ≤ 335
members_le [] few all = omega arith
members_le (m ∷ ms) few all = plus 20 315 (decimal m.0) (flat_map (λ (m : NodeId). codes "," ++ decimal m.0) ms) (digits m.0 all.0)
    (each (λ (m : NodeId). IsNumber m.0) (λ (m : NodeId). codes "," ++ decimal m.0) 21 member_le 15 ms (omega (arith, few)) all.1)

view_le : (v : View) → IsSmallView v → length (view_text v) ≤ 398
view_le v small =
    let epoch = field_le 7 (codes " epoch=") v.epoch (omega arith) small.epoch in
    let next = field_le 6 (codes " next=") v.next (omega arith) small.next in
    plus 27 371 (field (codes " epoch=") v.epoch) (codes " members=" ++ (members_text v.members ++ (field (codes " next=") v.next ++ codes "\n"))) epoch
    (plus 9 362 (codes " members=") (members_text v.members ++ (field (codes " next=") v.next ++ codes "\n")) (omega arith)
    (plus 335 27 (members_text v.members) (field (codes " next=") v.next ++ codes "\n") (members_le v.members small.few (recursion_from_All (λ (m : NodeId). IsNumber m.0) v.members small.members))
    (plus 26 1 (field (codes " next=") v.next) (codes "\n") next (omega arith))))

view_line_le : (views : List View) (v : View) → length views ≤ 8 → IsSmallView v → length (view_line views v) ≤ 578
view_line_le views v few small = plus 12 566 (codes "view shards=") (ranges_from views v 0 views ++ view_text v) (omega arith)
    (plus 168 398 (ranges_from views v 0 views) (view_text v) (ranges_le views v 0 8 views few (omega arith)) (view_le v small))

line_le : (views : List View) (shard : ℕ) (v : View) → length views ≤ 8 → IsSmallView v → length (line_at views shard v) ≤ 578
line_le views shard v few small = at (list_any (same_view v) (take shard views))
  where
    at : (b : Bool) → length (cond b [] (view_line views v)) ≤ 578
    at true = omega arith
    at false = view_line_le views v few small

lines_le : (views : List View) (shard n : ℕ) (vs : List View) → length views ≤ 8 → length vs ≤ n → AllByRecursion IsSmallView vs → length (lines_from views shard vs) ≤ times 578 n
lines_le views shard n [] all_few few all = omega arith
lines_le views shard zero (v ∷ vs) all_few few all = absurd (omega (arith, few))
lines_le views shard (suc n) (v ∷ vs) all_few few all = plus 578 (times 578 n) (line_at views shard v) (lines_from views (shard + 1) vs) (line_le views shard v all_few all.0)
    (lines_le views (shard + 1) n vs all_few (omega (arith, few)) all.1)

-- ---- nodes

shards_le : (s : ShardsTold) → AreSmallShards s → length (shards_text s) ≤ 82
shards_le s small =
    plus 28 54 (field (codes " shards=") s.ready) (field (codes " epoch=") s.least_epoch ++ field (codes " lease=") s.least_lease_left) (field_le 8 (codes " shards=") s.ready (omega arith) small.ready)
    (plus 27 27 (field (codes " epoch=") s.least_epoch) (field (codes " lease=") s.least_lease_left) (field_le 7 (codes " epoch=") s.least_epoch (omega arith) small.least_epoch)
    (field_le 7 (codes " lease=") s.least_lease_left (omega arith) small.least_lease_left))

outcomes_le : (c : Counts) → AreSmallCounts c → length (field (codes " busy=") c.busy ++ (field (codes " aborted=") c.aborted ++ field (codes " unknown=") c.unknown)) ≤ 84
outcomes_le c small =
    plus 26 58 (field (codes " busy=") c.busy) (field (codes " aborted=") c.aborted ++ field (codes " unknown=") c.unknown) (field_le 6 (codes " busy=") c.busy (omega arith) small.busy)
    (plus 29 29 (field (codes " aborted=") c.aborted) (field (codes " unknown=") c.unknown) (field_le 9 (codes " aborted=") c.aborted (omega arith) small.aborted)
    (field_le 9 (codes " unknown=") c.unknown (omega arith) small.unknown))

counts_le : (c : Counts) → AreSmallCounts c → length (counts_text c) ≤ 189
counts_le c small =
    let busy = field (codes " busy=") c.busy ++ (field (codes " aborted=") c.aborted ++ field (codes " unknown=") c.unknown) in
    plus 26 163 (field (codes " keys=") c.keys) (field (codes " bytes=") c.bytes ++ (field (codes " gets=") c.gets ++ (field (codes " sets=") c.sets ++ busy))) (field_le 6 (codes " keys=") c.keys (omega arith) small.keys)
    (plus 27 136 (field (codes " bytes=") c.bytes) (field (codes " gets=") c.gets ++ (field (codes " sets=") c.sets ++ busy)) (field_le 7 (codes " bytes=") c.bytes (omega arith) small.bytes)
    (plus 26 110 (field (codes " gets=") c.gets) (field (codes " sets=") c.sets ++ busy) (field_le 6 (codes " gets=") c.gets (omega arith) small.gets)
    (plus 26 84 (field (codes " sets=") c.sets) busy (field_le 6 (codes " sets=") c.sets (omega arith) small.sets) (outcomes_le c small))))

told_le : (t : Option NodeTold) → IfSome t (λ told. IsSmallTold told) → length (told_text t) ≤ 373
told_le None small = omega arith
told_le (Some t) small =
    plus 29 344 (known_field (codes " manager=") t.manager) (codes " clients=" ++ (address_text t.clients ++ (shards_text t.shards ++ counts_text t.counts)))
    (known_le 9 (codes " manager=") t.manager (omega arith) small.manager)
    (plus 9 335 (codes " clients=") (address_text t.clients ++ (shards_text t.shards ++ counts_text t.counts)) (omega arith)
    (plus 64 271 (address_text t.clients) (shards_text t.shards ++ counts_text t.counts) (address_le t.clients small.clients)
    (plus 82 189 (shards_text t.shards) (counts_text t.counts) (shards_le t.shards small.shards) (counts_le t.counts small.counts))))

node_le : (n : NodeLine) → IsSmallNode n → length (node_line n) ≤ 472
node_le n small =
    plus 25 447 (field (codes "node ") n.node.0) (codes " " ++ (address_text n.inside ++ (codes " " ++ (shown_text n.state ++ (told_text n.told ++ codes "\n"))))) (field_le 5 (codes "node ") n.node.0 (omega arith) small.number)
    (plus 1 446 (codes " ") (address_text n.inside ++ (codes " " ++ (shown_text n.state ++ (told_text n.told ++ codes "\n")))) (omega arith)
    (plus 64 382 (address_text n.inside) (codes " " ++ (shown_text n.state ++ (told_text n.told ++ codes "\n"))) (address_le n.inside small.inside)
    (plus 1 381 (codes " ") (shown_text n.state ++ (told_text n.told ++ codes "\n")) (omega arith)
    (plus 7 374 (shown_text n.state) (told_text n.told ++ codes "\n") (shown_le n.state)
    (plus 373 1 (told_text n.told) (codes "\n") (told_le n.told small.told) (omega arith))))))

-- ---- who waits

wait_le : (w : WaitLine) → IsSmallWait w → length (wait_line w) ≤ 76
wait_le w small =
    plus 26 50 (field (codes "waits ") w.node.0) (field (codes " for=") w.other.0 ++ (field (codes " ms=") w.time ++ codes "\n")) (field_le 6 (codes "waits ") w.node.0 (omega arith) small.node)
    (plus 25 25 (field (codes " for=") w.other.0) (field (codes " ms=") w.time ++ codes "\n") (field_le 5 (codes " for=") w.other.0 (omega arith) small.other)
    (plus 24 1 (field (codes " ms=") w.time) (codes "\n") (field_le 4 (codes " ms=") w.time (omega arith) small.time) (omega arith)))

waiting_le : (a : List ℕ) → IsAddress a → length (waiting_line a) ≤ 73
waiting_le a small = plus 8 65 (codes "waiting ") (address_text a ++ codes "\n") (omega arith) (plus 64 1 (address_text a) (codes "\n") (address_le a small) (omega arith))

lost_le : (b : Bool) → length (lost_line b) ≤ 5
lost_le true = omega arith
lost_le false = omega arith

-- ---- all lines

module _ (s : GroupStatus) (small : IsSmall s) where
  managers_le : length (flat_map manager_line s.managers) ≤ 1341
  managers_le = each IsSmallManager manager_line 149 manager_le 9 s.managers small.few_managers (recursion_from_All IsSmallManager s.managers small.managers)

  views_le : length (views_text s.views) ≤ 4624
  views_le = lines_le s.views 0 8 s.views small.few_views small.few_views (recursion_from_All IsSmallView s.views small.views)

  nodes_le : length (flat_map node_line s.nodes) ≤ 30208
  nodes_le = each IsSmallNode node_line 472 node_le 64 s.nodes small.few_nodes (recursion_from_All IsSmallNode s.nodes small.nodes)

  waits_le : length (flat_map wait_line s.waits) ≤ 19456
  waits_le = each IsSmallWait wait_line 76 wait_le 256 s.waits small.few_waits (recursion_from_All IsSmallWait s.waits small.waits)

  newcomers_le : length (flat_map waiting_line s.waiting) ≤ 4672
  newcomers_le = each IsAddress waiting_line 73 waiting_le 64 s.waiting small.few_waiting (recursion_from_All IsAddress s.waiting small.waiting)

  whole_le : length (status_text s) ≤ 60438
  whole_le =
      let newcomers = flat_map waiting_line s.waiting ++ lost_line s.is_lost in
      let waits = flat_map wait_line s.waits ++ newcomers in
      let nodes = flat_map node_line s.nodes ++ waits in
      let views = views_text s.views ++ nodes in
      plus 132 60306 (group_line s) (flat_map manager_line s.managers ++ views) (group_le s small)
      (plus 1341 58965 (flat_map manager_line s.managers) views managers_le
      (plus 4624 54341 (views_text s.views) nodes views_le
      (plus 30208 24133 (flat_map node_line s.nodes) waits nodes_le
      (plus 19456 4677 (flat_map wait_line s.waits) newcomers waits_le
      (plus 4672 5 (flat_map waiting_line s.waiting) (lost_line s.is_lost) newcomers_le (lost_le s.is_lost))))))

pub small_statuses_fit : SmallStatusesFit
small_statuses_fit s small = let le = whole_le s small in omega (arith, le)
