-- The batch that a node gives is in range: it has no more items than there is room for, and each is a row's copy.
use Rattle.std.proofs.Common.{◌≤◌, ◌-◌, ℕ, zero, suc, List, [], ◌∷◌, length, Bool, true, false, cond, nat_le, Option, arith}
use Rattle.std.specs.List.{AllByRecursion, filter}
use Rattle.std.proofs.lemmas.List.Elements.{All-from_recursion}
use Rattle.hk_base.specs.declared.stamp.NodeId.{NodeId}
use Rattle.hk_base.specs.declared.letter.CopyItem.{CopyItem}
use Rattle.hk_base.specs.Range.{IsWithin, Leaves, IsRoom, IsBatch}
use Rattle.hk_copy.specs.Batches.{cut, size_of, with_taken, nothing_taken, is_after, rows_after}
use Rattle.hk_copy.specs.declared.given.TheConstants.{MAX_BATCH_BYTES}
use Rattle.hk_key.specs.Sound.{IsSound}
use Rattle.hk_node.specs.Rows.{Rows}
use Rattle.hk_node.specs.Node.{NodeState, members_of}
use Rattle.hk_node.specs.Copies.{copies_of, batch_behind}
use Rattle.hk_node.specs.Sound.{IsNode}
use Rattle.hk_node.proofs.Leaving.{touched_above}
use Rattle.hk_node.proofs.Order.{AreTouched}

pub cut_few : (room bytes : ℕ) (rows : List CopyItem) → length (cut room bytes rows).taken ≤ room
cut_few room bytes [] = omega arith
cut_few zero bytes (item ∷ rest) = omega arith
cut_few (suc room) bytes (item ∷ rest) = by_size (nat_le (size_of item) bytes) (cut_few room (bytes - size_of item) rest)
  where
    by_size : (b : Bool) → length (cut room (bytes - size_of item) rest).taken ≤ room →
        length (cond b (with_taken item (cut room (bytes - size_of item) rest)) (nothing_taken (item ∷ rest))).taken ≤ suc room
    by_size true h = omega arith
    by_size false h = omega arith

module _ (P : CopyItem → Type 0) where
  pub cut_all : (room bytes : ℕ) (rows : List CopyItem) → AllByRecursion P rows → AllByRecursion P (cut room bytes rows).taken
  cut_all room bytes [] all = tt
  cut_all zero bytes (item ∷ rest) all = tt
  cut_all (suc room) bytes (item ∷ rest) all = by_size (nat_le (size_of item) bytes) (cut_all room (bytes - size_of item) rest all.1)
    where
      by_size : (b : Bool) → AllByRecursion P (cut room (bytes - size_of item) rest).taken →
          AllByRecursion P (cond b (with_taken item (cut room (bytes - size_of item) rest)) (nothing_taken (item ∷ rest))).taken
      by_size true h = (all.0, h)
      by_size false h = tt

  filter_all : (test : CopyItem → Bool) (rows : List CopyItem) → AllByRecursion P rows → AllByRecursion P (filter test rows)
  filter_all test [] all = tt
  filter_all test (item ∷ rest) all = by_test (test item) (filter_all test rest all.1)
    where
      by_test : (b : Bool) → AllByRecursion P (filter test rest) → AllByRecursion P (cond b (item ∷ filter test rest) (filter test rest))
      by_test true h = (all.0, h)
      by_test false h = h

copies_within : (me : NodeId) (members : List NodeId) (rows : Rows) → AllByRecursion (λ r. IsSound me members r.1) rows → AllByRecursion (λ item. IsWithin item.stamp) (copies_of rows)
copies_within me members [] all = tt
copies_within me members (r ∷ rows) all = (all.0.within, copies_within me members rows all.1)

copies_leave : (me : NodeId) (members : List NodeId) (rows : Rows) → AllByRecursion (λ r. IsSound me members r.1) rows → AreTouched rows →
    AllByRecursion (λ item. Leaves item.kind item.content) (copies_of rows)
copies_leave me members [] all touched = tt
copies_leave me members (r ∷ rows) all touched = (all.0.left.leaves (touched_above r.1.stamp touched.0), copies_leave me members rows all.1 touched.1)

pub batch_within : (node : NodeState) (after : Option (List ℕ)) (room : ℕ) → IsNode node → IsRoom room → IsBatch (batch_behind node after room).taken
batch_within node after room ok fits =
    let few = cut_few room MAX_BATCH_BYTES (rows_after after (copies_of node.rows)) in
    let most = fits.few in
    record {
      few = omega arith;
      within = All-from_recursion (λ item. IsWithin item.stamp) (batch_behind node after room).taken
          (cut_all (λ item. IsWithin item.stamp) room MAX_BATCH_BYTES (rows_after after (copies_of node.rows))
          (filter_all (λ item. IsWithin item.stamp) (is_after after) (copies_of node.rows) (copies_within node.id (members_of node) node.rows ok.rows)));
      leaves = All-from_recursion (λ item. Leaves item.kind item.content) (batch_behind node after room).taken
          (cut_all (λ item. Leaves item.kind item.content) room MAX_BATCH_BYTES (rows_after after (copies_of node.rows))
          (filter_all (λ item. Leaves item.kind item.content) (is_after after) (copies_of node.rows) (copies_leave node.id (members_of node) node.rows ok.rows ok.touched)));
    }
