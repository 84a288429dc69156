-- What lists, views and processes give to the events.
use Rattle.std.proofs.Common.{◌≡◌, ℕ, zero, suc, Bool, true, false, cond, List, [], ◌∷◌, ◌++◌, map, ◌≤◌, ◌∙◌, sym, refl, ap, subst, inl, inr, arith, Option, Some, None, unwrap_or, slice_get}
use Rattle.std.specs.List.{AllByRecursion}
use Rattle.std.specs.Ordering.{is_eq}
use Rattle.std.specs.Prelude.{max}
use Rattle.std.specs.BTreeMap.{is_at}
use Rattle.std.proofs.lemmas.Bool.{false≢true}
use Rattle.hk_base.specs.declared.stamp.NodeId.{NodeId}
use Rattle.hk_base.specs.declared.view.View.{View}
use Rattle.hk_base.specs.declared.letter.Letter.{Letter}
use Rattle.hk_copy.specs.Batches.{key_cmp}
use Rattle.hk_key.specs.declared.row.Row.{Row}
use Rattle.hk_key.specs.Sound.{IsSound}
use Rattle.hk_key.specs.Table.{first_row}
use Rattle.hk_key.proofs.Steps.{first_is_sound}
use Rattle.hk_register.specs.Machine.{In, Message}
use Rattle.hk_register.proofs.Grow.{in_left, in_right}
use Rattle.hk_node.specs.Rows.{Rows, find_row, row_at}
use Rattle.hk_node.specs.Node.{NodeState, epoch_of, epoch_in, members_of}
use Rattle.hk_base.specs.View.{is_member}
use Rattle.hk_node.specs.Sound.{IsNode}
use Rattle.hk_world.specs.World.{WorldState, Processes, by_number, process_at, node_of, numbered}
use Rattle.hk_world.specs.Steps.{process_ticked, is_live}
use Rattle.hk_world.specs.Sound.{IsWorld, IsProcess}
use Rattle.hk_effects.specs.Projection.{letter_of, letters_of, key_node, node_at}
use Rattle.hk_effects.specs.Own.{IsChain, IsNodeOf}
use Rattle.hk_effects.proofs.TwoEffects.{append_three}
use Rattle.hk_effects.proofs.Processes.{numbered_node, process_of_node, process_holds}

get_in : {X : Type 0} (ls : List X) (n : ℕ) (l : X) → slice_get ls n ≡ Some l → In ls l
get_in [] n l e = cc
get_in (w ∷ ls) zero l e = let same : w ≡ l = cc in inl (sym same)
get_in (w ∷ ls) (suc k) l e = inr (get_in ls k l e)

-- what is numbered is in the list
pub numbered_in : {X : Type 0} (n : ℕ) (ls : List X) (l : X) → numbered n ls ≡ Some l → In ls l
numbered_in zero ls l e = cc
numbered_in (suc k) ls l e = get_in ls k l e

-- the letters of a letter that was sent
pub letter_sent : (key : List ℕ) (ls : List Letter) (l : Letter) (m : Message) → In ls l → In (letter_of key l l.body) m → In (letters_of key ls) m
letter_sent key [] l m h k = absurd h
letter_sent key (w ∷ ls) l m (inl e) k = in_left (letter_of key w w.body) (letters_of key ls) m (subst (λ (x : Letter). In (letter_of key x x.body) m) e k)
letter_sent key (w ∷ ls) l m (inr h) k = in_right (letter_of key w w.body) (letters_of key ls) m (letter_sent key ls l m h k)

pub letters_append : (key : List ℕ) (a b : List Letter) → letters_of key (a ++ b) ≡ letters_of key a ++ letters_of key b
letters_append key [] b = refl
letters_append key (x ∷ a) b = ap (λ (l : List Message). letter_of key x x.body ++ l) (letters_append key a b) ∙ sym (append_three (letter_of key x x.body) (letters_of key a) (letters_of key b))

-- ---- rows
pub found_row : (key : List ℕ) (rows : Rows) (r : Row) → find_row key rows ≡ Some r → row_at key rows ≡ r
found_row key rows r e = ap (λ (o : Option Row). unwrap_or o first_row) e

-- what holds of each row, and of the row that nothing has touched, holds of the row at a key
pub row_holds : (P : Row → Type 0) (key : List ℕ) (rows : Rows) → AllByRecursion (λ r. P r.1) rows → P first_row → P (row_at key rows)
row_holds P key [] all first = first
row_holds P key (r ∷ rows) all first = by_test (is_at (key_cmp key) r.0) (row_holds P key rows all.1 first)
  where
    by_test : (b : Bool) → P (row_at key rows) → P (unwrap_or (cond b (Some r.1) (find_row key rows)) first_row)
    by_test true more = all.0
    by_test false more = more

pub row_sound : (x : NodeState) → IsNode x → (key : List ℕ) → IsSound x.id (members_of x) (row_at key x.rows)
row_sound x ok key = row_holds (λ (r : Row). IsSound x.id (members_of x) r) key x.rows ok.rows (first_is_sound x.id (members_of x))

-- ---- nodes of a world
pub node_holds : (w : WorldState) → IsWorld w → (n : ℕ) (x : NodeState) → node_at n w.processes ≡ Some x → (x.id ≡ numbered_node n) × IsNode x
node_holds w ok n x at =
    let p = process_of_node n x w.processes at in
    let holds : IsProcess w (numbered_node n, p.0) = process_holds (IsProcess w) (numbered_node n) p.0 w.processes ok.processes p.1 in
    (rw (← p.2) holds.own, rw (← p.2) holds.node)

-- the view of a node that is in an epoch
pub own_view : (views : List View) (calls : ℕ) (x : NodeState) → IsNodeOf views calls x → 1 ≤ epoch_of x → (v : View) × (x.view ≡ Some v) × In views v
own_view views calls x ok some = by_view x.view refl
  where
    by_view : (o : Option View) → x.view ≡ o → (v : View) × (x.view ≡ Some v) × In views v
    by_view None e = let z : epoch_of x ≡ 0 = ap epoch_in e in absurd (omega arith)
    by_view (Some v) e = (v, e, ok.agreed v e)

-- a node with a member of its view is in an epoch
pub in_some : (views : List View) (calls : ℕ) (x : NodeState) → IsNodeOf views calls x → IsChain views → (n : NodeId) → is_member n (members_of x) ≡ true → 1 ≤ epoch_of x
in_some views calls x ok all n h = by_view x.view refl
  where
    by_view : (o : Option View) → x.view ≡ o → 1 ≤ epoch_of x
    by_view None e = let none : is_member n [] ≡ true = rw e at h in absurd (false≢true none)
    by_view (Some v) e = rw e ((all.within v (ok.agreed v e)).0)

-- ---- nodes after all clocks were set
pub ticked_node : (key : List ℕ) (to m : ℕ) (ps : Processes) → key_node key (node_at m (map (process_ticked to) ps)) ≡ key_node key (node_at m ps)
ticked_node key to m [] = refl
ticked_node key to m (p ∷ ps) = by_test (is_eq (by_number (numbered_node m) p.0)) (ticked_node key to m ps)
  where
    by_live : (b : Bool) → key_node key (node_of (Some (cond b (record p.1 { node = record p.1.node { clock = max p.1.node.clock to } }) p.1))) ≡ key_node key (Some p.1.node)
    by_live true = refl
    by_live false = refl

    by_test : (b : Bool) → key_node key (node_at m (map (process_ticked to) ps)) ≡ key_node key (node_at m ps) →
        key_node key (node_of (cond b (Some (process_ticked to p).1) (process_at (numbered_node m) (map (process_ticked to) ps)))) ≡ key_node key (node_of (cond b (Some p.1) (process_at (numbered_node m) ps)))
    by_test true more = by_live (is_live p)
    by_test false more = more
