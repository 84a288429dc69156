-- What eight shards over cells have, as lists.
use Rattle.std.proofs.Common.{ℕ, List, ◌≡◌, ◌∷◌, [], map}
use Rattle.std.specs.List.{AllByRecursion}
use Rattle.hk_snap.specs.Ends.{names}
use Rattle.hk_node.specs.Node.{NodeState}
use Rattle.hk_shard.specs.Shard.{ShardState, CellsState, IsNew}
use Rattle.hk_locked.specs.Places.{ShardNames, NodeNames}
use Rattle.hk_worker.specs.declared.eight.Eight.{Eight}
use Rattle.hk_worker.specs.Founding.{AreOver, IsFoundedShard, IsOver, cells_of, names_of_cells}

abbrev listed : {A : Type 0} → Eight A → List A
listed e = e.of_0 ∷ e.of_1 ∷ e.of_2 ∷ e.of_3 ∷ e.of_4 ∷ e.of_5 ∷ e.of_6 ∷ e.of_7 ∷ []

pub each_founded : (node : NodeState) (skew : ℕ) (cells : Eight CellsState) (s : Eight ShardState) → AreOver node skew cells s → AllByRecursion (IsFoundedShard skew) (listed s)
each_founded node skew cells s over = (over.of_0.founded, (over.of_1.founded, (over.of_2.founded, (over.of_3.founded, (over.of_4.founded, (over.of_5.founded, (over.of_6.founded, (over.of_7.founded, tt))))))))

pub each_new : (node : NodeState) (skew : ℕ) (cells : Eight CellsState) (s : Eight ShardState) → AreOver node skew cells s → AllByRecursion (IsNew node) (listed s)
each_new node skew cells s over = (over.of_0.new, (over.of_1.new, (over.of_2.new, (over.of_3.new, (over.of_4.new, (over.of_5.new, (over.of_6.new, (over.of_7.new, tt))))))))

same_cells : (node : NodeState) (skew : ℕ) (cells : CellsState) (s : ShardState) → IsOver node skew cells s → cells_of s ≡ record { cells = names cells.ends; lease = cells.lease.name }
same_cells node skew cells s over = λ i. record { cells = names (over.ends i); lease = over.lease i }

pub same_names : (node : NodeState) (skew : ℕ) (cells : Eight CellsState) (s : Eight ShardState) → AreOver node skew cells s → record { skew = skew; shards = map cells_of (listed s) } ≡ names_of_cells skew (listed cells)
same_names node skew cells s over = λ i. record { skew = skew; shards = same_cells _ _ _ _ over.of_0 i ∷ same_cells _ _ _ _ over.of_1 i ∷ same_cells _ _ _ _ over.of_2 i ∷ same_cells _ _ _ _ over.of_3 i ∷ same_cells _ _ _ _ over.of_4 i ∷ same_cells _ _ _ _ over.of_5 i ∷ same_cells _ _ _ _ over.of_6 i ∷ same_cells _ _ _ _ over.of_7 i ∷ [] }
