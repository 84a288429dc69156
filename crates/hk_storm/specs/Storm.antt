-- What a storm was asked for, and what its threads left.
use Rattle.std.specs.Prelude.{◌≡◌, ◌≤◌, ℕ, List, [], ◌∷◌, length, ⊤}
use Rattle.hk_base.specs.declared.stamp.NodeId.{NodeId}
use Rattle.hk_merge.specs.Merged.{Rises, journal_of}
use Rattle.hk_storm.specs.declared.opts.StormOpts.{StormOpts}
use Rattle.hk_storm.specs.declared.groups.StormGroup.{StormGroup}

pub record IsStorm (opts : StormOpts) : Type 0 where
  pub some_nodes : 1 ≤ opts.nodes
  pub few_nodes : opts.nodes ≤ 8
  pub some_workers : 1 ≤ opts.workers
  pub few_workers : opts.workers ≤ 8
  pub some_calls : 1 ≤ opts.calls
  pub few_calls : opts.calls ≤ 20000

-- each node has a journal, and its tickets rise
pub record IsGroup (nodes : ℕ) (group : StormGroup) : Type 0 where
  pub whole : length group.journals ≡ nodes
  pub rising : (node : NodeId) → Rises (journal_of group.journals node)

abbrev pub AreGroups : ℕ → List StormGroup → Type 0
AreGroups nodes [] = ⊤
AreGroups nodes (group ∷ groups) = IsGroup nodes group × AreGroups nodes groups
