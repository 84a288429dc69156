-- Which nodes are known, and what of a number its last ask is.
use Rattle.std.proofs.Common.{◌≡◌, ◌≢◌, ◌<◌, ◌/◌, ◌==◌, ℕ, zero, suc, max, Bool, true, false, cond, ◌||◌, nat_eq, nat_lt, List, [], ◌∷◌, ◌++◌, length, slice_get, slice_set, slice_index, Option, None, Some}
use Rattle.std.proofs.Common.{refl, sym, ap, subst, ◌∙◌, arith}
use Rattle.std.specs.List.{list_any}
use Rattle.std.proofs.lemmas.Bool.{eqb-true, eq-eqb, lt-ltb}
use Rattle.std.proofs.lemmas.List.{get_or-set_same}
use Rattle.hk_base.specs.declared.stamp.NodeId.{NodeId}
use Rattle.hk_base.specs.declared.view.View.{View}
use Rattle.hk_base.specs.View.{is_member}
use Rattle.hk_keeper.specs.Heard.{is_within}
use Rattle.hk_reports.specs.declared.kept.AskCame.{AskCame}
use Rattle.hk_reports.specs.declared.kept.Came.{Came}
use Rattle.hk_reports.specs.declared.kept.NumberKept.{NumberKept}
use Rattle.hk_reports.specs.Reports.{ReportsState, number_of, with_ask, asked, most_told}
use Rattle.hk_reports.specs.Hearing.{came_ago, last_of_manager, manager_by, asked_by, ask_heard, ask_in, silent_since, with_node, with_nodes, with_members}
use Rattle.hk_reports.specs.Laws.{UpAsTheKeeperSays, LastAskCounts, OtherShardsStay, KnowsBoundAndMembers, AreOnce, KnownOnce, MostRecordsStay}
use Rattle.hk_reports.proofs.Lists.{number_found}

-- ---- managers that are up

up_by : (now own place half : ℕ) (c : Option Came) →
    (((manager_by now place c).place == own) || is_within (manager_by now place c).report half) ≡ ((place == own) || is_within (came_ago now c) half)
up_by now own place half None = refl
up_by now own place half (Some c) = refl

pub up_as_the_keeper_says : UpAsTheKeeperSays
up_as_the_keeper_says s now own managers lease place views bound = up_by now own place (lease / 2) (last_of_manager place s.came)

-- ---- asks

module _ {X : Type 0} where
  get_set_same : (xs : List X) (i : ℕ) (x : X) → i < length xs → slice_get (slice_set xs i x) i ≡ Some x
  get_set_same [] i x there = absurd (omega (arith, there))
  get_set_same (y ∷ ys) zero x there = refl
  get_set_same (y ∷ ys) (suc i) x there = get_set_same ys i x (omega (arith, there))

  get_set_other : (xs : List X) (i j : ℕ) (x : X) → j ≢ i → slice_get (slice_set xs i x) j ≡ slice_get xs j
  get_set_other [] i j x other = refl
  get_set_other (y ∷ ys) zero zero x other = absurd (other refl)
  get_set_other (y ∷ ys) zero (suc j) x other = refl
  get_set_other (y ∷ ys) (suc i) zero x other = refl
  get_set_other (y ∷ ys) (suc i) (suc j) x other = get_set_other ys i j x (λ same. other (ap suc same))

-- what was asked is what is kept of the number
kept_first : (now shard epoch : ℕ) (node : NodeId) (s : ReportsState) →
    number_of node (asked now shard node epoch s).numbers ≡ with_ask shard (record { epoch = epoch; at = now }) (number_of node s.numbers)
kept_first now shard epoch node s = let own : nat_eq (number_of node s.numbers).node.0 node.0 ≡ true = eq-eqb _ _ (number_found node s.numbers) in
    rw own (refl {a = with_ask shard (record { epoch = epoch; at = now }) (number_of node s.numbers)})

pub last_ask_counts : LastAskCounts
last_ask_counts now later shard epoch node s there =
    ap (λ (n : NumberKept). ask_in later s.start n shard) (kept_first now shard epoch node s) ∙
    ap (λ (o : Option (Option AskCame)). ask_heard later (silent_since s.start (number_of node s.numbers).bound) (asked_by o))
    (get_set_same (number_of node s.numbers).asks shard (Some (record { epoch = epoch; at = now })) there)

pub other_shards_stay : OtherShardsStay
other_shards_stay now later shard other epoch node s differs =
    ap (λ (n : NumberKept). ask_in later s.start n other) (kept_first now shard epoch node s) ∙
    ap (λ (o : Option (Option AskCame)). ask_heard later (silent_since s.start (number_of node s.numbers).bound) (asked_by o))
    (get_set_other (number_of node s.numbers).asks shard other (Some (record { epoch = epoch; at = now })) differs)

-- ---- nodes

or_assoc : (a b c : Bool) → ((a || b) || c) ≡ (a || (b || c))
or_assoc true b c = refl
or_assoc false b c = refl

or_none : (a : Bool) → (a || false) ≡ a
or_none true = refl
or_none false = refl

any_joined : {X : Type 0} (test : X → Bool) (xs ys : List X) → list_any test (xs ++ ys) ≡ (list_any test xs || list_any test ys)
any_joined test [] ys = refl
any_joined test (x ∷ xs) ys = ap (λ (b : Bool). test x || b) (any_joined test xs ys) ∙ sym (or_assoc (test x) (list_any test xs) (list_any test ys))

node_numbered : ℕ → NodeId
node_numbered n = record { 0 = n }

same_node : (n m : NodeId) → nat_eq m.0 n.0 ≡ true → m ≡ n
unfolding node_numbered
same_node n m e = ap node_numbered (eqb-true m.0 n.0 e)

-- it is there already, and so it is this one or not
is_there : (n m : NodeId) (nodes : List NodeId) (b : Bool) → nat_eq m.0 n.0 ≡ b → is_member m nodes ≡ true → is_member n nodes ≡ (is_member n nodes || b)
is_there n m nodes true e there = let here : is_member n nodes ≡ true = subst (λ (x : NodeId). is_member x nodes ≡ true) (same_node n m e) there in rw here refl
is_there n m nodes false e there = sym (or_none (is_member n nodes))

with_one : (n m : NodeId) (nodes : List NodeId) → is_member n (with_node m nodes) ≡ (is_member n nodes || nat_eq m.0 n.0)
with_one n m nodes = at (is_member m nodes) refl
  where
    at : (b : Bool) → is_member m nodes ≡ b → is_member n (cond b nodes (nodes ++ m ∷ [])) ≡ (is_member n nodes || nat_eq m.0 n.0)
    at true there = is_there n m nodes (nat_eq m.0 n.0) refl there
    at false away = any_joined (λ x. nat_eq x.0 n.0) nodes (m ∷ []) ∙ ap (λ (b : Bool). is_member n nodes || b) (or_none (nat_eq m.0 n.0))

with_more : (n : NodeId) (nodes more : List NodeId) → is_member n (with_nodes nodes more) ≡ (is_member n nodes || is_member n more)
with_more n nodes [] = sym (or_none (is_member n nodes))
with_more n nodes (m ∷ more) =
    with_more n (with_node m nodes) more ∙ ap (λ (b : Bool). b || is_member n more) (with_one n m nodes) ∙ or_assoc (is_member n nodes) (nat_eq m.0 n.0) (is_member n more)

with_views : (n : NodeId) (nodes : List NodeId) (views : List View) → is_member n (with_members nodes views) ≡ (is_member n nodes || list_any (λ v. is_member n v.members) views)
with_views n nodes [] = sym (or_none (is_member n nodes))
with_views n nodes (v ∷ views) =
    with_views n (with_nodes nodes v.members) views ∙ ap (λ (b : Bool). b || list_any (λ w. is_member n w.members) views) (with_more n nodes v.members) ∙
    or_assoc (is_member n nodes) (is_member n v.members) (list_any (λ w. is_member n w.members) views)

pub knows_bound_and_members : KnowsBoundAndMembers
knows_bound_and_members views bound n =
    with_views n (with_nodes [] bound) views ∙ ap (λ (b : Bool). b || list_any (λ v. is_member n v.members) views) (with_more n [] bound)

or_false : (a b : Bool) → (a || b) ≡ false → (a ≡ false) × (b ≡ false)
or_false true b e = absurd cc
or_false false b e = (refl, e)

apart_too : (n m : ℕ) (b : Bool) → nat_eq n m ≡ false → nat_eq m n ≡ b → b ≡ false
apart_too n m true e f = let same : nat_eq n m ≡ true = eq-eqb n m (sym (eqb-true m n f)) in cc
apart_too n m false e f = refl

once_behind : (nodes : List NodeId) (m : NodeId) → AreOnce nodes → is_member m nodes ≡ false → AreOnce (nodes ++ m ∷ [])
once_behind [] m once away = (refl, tt)
once_behind (n ∷ nodes) m once away =
    let parts = or_false (nat_eq n.0 m.0) (is_member m nodes) away in
    let other : nat_eq m.0 n.0 ≡ false = apart_too n.0 m.0 (nat_eq m.0 n.0) parts.0 refl in
    let first : is_member n (nodes ++ m ∷ []) ≡ false =
    any_joined (λ x. nat_eq x.0 n.0) nodes (m ∷ []) ∙ rw (once.0, other) (refl {a = false}) in
    (first, once_behind nodes m once.1 parts.1)

once_with : (m : NodeId) (nodes : List NodeId) → AreOnce nodes → AreOnce (with_node m nodes)
once_with m nodes once = at (is_member m nodes) refl
  where
    at : (b : Bool) → is_member m nodes ≡ b → AreOnce (cond b nodes (nodes ++ m ∷ []))
    at true there = once
    at false away = once_behind nodes m once away

once_more : (nodes more : List NodeId) → AreOnce nodes → AreOnce (with_nodes nodes more)
once_more nodes [] once = once
once_more nodes (m ∷ more) once = once_more (with_node m nodes) more (once_with m nodes once)

once_views : (nodes : List NodeId) (views : List View) → AreOnce nodes → AreOnce (with_members nodes views)
once_views nodes [] once = once
once_views nodes (v ∷ views) once = once_views (with_nodes nodes v.members) views (once_more nodes v.members once)

pub known_once : KnownOnce
known_once views bound = once_views (with_nodes [] bound) views (once_more [] bound tt)

-- ---- logs

most_set : (xs : List ℕ) (place records : ℕ) → place < length xs → slice_index (slice_set xs place records) place ≡ records
most_set xs place records there = get_or-set_same xs place records 0 there

most_by : (place records : ℕ) (xs : List ℕ) → length xs ≡ 9 → place < 9 →
    cond (nat_lt place 9) (slice_index (most_told (Some place) records xs) place) 0 ≡ max (cond (nat_lt place 9) (slice_index xs place) 0) records
most_by place records xs nine few =
    let low : nat_lt place 9 ≡ true = lt-ltb place 9 few in
    rw low (most_set xs place (max (slice_index xs place) records) (omega (arith, nine, few)))

pub most_records_stay : MostRecordsStay
most_records_stay now place report s nine few is =
    ap (λ (m : Option ℕ). cond (nat_lt place 9) (slice_index (most_told m report.records s.records) place) 0) is ∙ most_by place report.records s.records nine few
