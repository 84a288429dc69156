-- What steps replaced, by which they are undone. A shard keeps it of each step that changed something since its journal began, and its
-- base is its part with all of them undone.
use Rattle.std.specs.Prelude.{◌≡◌, ◌⊎◌, List, [], ◌∷◌, ◌++◌, map}
use Rattle.std.specs.Option.{IsSome}
use Rattle.std.specs.List.{AllByRecursion}
use Rattle.std.specs.List.Sorted.{IsStrictlySortedBy}
use Rattle.hk_copy.specs.Batches.{key_cmp}
use Rattle.hk_node.specs.declared.out.NodeOut.{NodeOut}
use Rattle.hk_node.specs.declared.report.Undo.TheVariants.{Nothing}
use Rattle.hk_node.specs.Rows.{find_row}
use Rattle.hk_node.specs.Report.{rolled_back}
use Rattle.hk_node.specs.Node.{NodeState}
use Rattle.hk_node.specs.Sound.{IsNode}
use Rattle.hk_shard.specs.declared.replaced.Replaced.{Replaced}

-- the node before the steps that replaced these, the last of which led to the node: they are undone from the last to the first
abbrev pub before_all : List Replaced → NodeState → NodeState
before_all [] node = node
before_all (first ∷ replaced) node = rolled_back first.report.rows first.undo (before_all replaced node)

-- what the step that gave this replaced
abbrev pub replaced_of : NodeOut → Replaced
replaced_of out = record { report = out.report; undo = out.undo }

-- It is kept, or it is nothing and may be left out.
abbrev pub AreKept : NodeOut → List Replaced → List Replaced → Type 0
AreKept out before after = (after ≡ before ++ replaced_of out ∷ []) ⊎ ((after ≡ before) × (out.report.rows ≡ []) × (out.undo ≡ Nothing))

-- a step from the old node to the new one replaced this
pub record IsReplaced (old : NodeState) (replaced : Replaced) (new : NodeState) : Type 0 where
  pub node : IsNode old
  pub rising : IsStrictlySortedBy key_cmp (map (λ f. f.key) replaced.report.rows)
  pub there : AllByRecursion (λ f. IsSome (find_row f.key new.rows)) replaced.report.rows
  pub undone : rolled_back replaced.report.rows replaced.undo new ≡ old

-- steps from the old node to the new one, in this order
abbrev pub AreReplaced : NodeState → List Replaced → NodeState → Type 0
AreReplaced old [] new = new ≡ old
AreReplaced old (first ∷ replaced) new = (next : NodeState) × IsReplaced old first next × AreReplaced next replaced new
