-- What a storm of two calls tells.
use Rattle.std.specs.Prelude.{◌≡◌, List, [], ◌∷◌, ◌++◌, Some, codes, decimal}
use Rattle.hk_base.specs.declared.call.Op.TheVariants.{Read}
use Rattle.hk_outside.specs.declared.status.Status.TheVariants as Status
use Rattle.hk_merge.specs.declared.note.Note.{Note}
use Rattle.hk_storm.specs.declared.opts.StormOpts.{StormOpts}
use Rattle.hk_storm.specs.declared.groups.StormGroup.{StormGroup}
use Rattle.hk_storm.specs.Calls.{drawn_calls}
use Rattle.hk_storm.specs.Storm.{IsStorm, AreGroups}
use Rattle.hk_storm.specs.Concluded.{IsConcluded}
use Rattle.hk_worked.specs.Journals.{first_node, second_node, key, write, journals, note}

-- two nodes with a worker each, and two calls that are drawn from 71
abbrev pub opts : StormOpts
opts = record { start = 71; nodes = 2; workers = 1; calls = 2 }

-- at the other shards nothing happened
abbrev pub idle : StormGroup
idle = record { journals = [] ∷ [] ∷ []; notes = [] }

-- what is left of a storm's eight shards, of which one has the key
abbrev pub left : List Note → List StormGroup
left notes = record { journals = journals; notes = notes } ∷ idle ∷ idle ∷ idle ∷ idle ∷ idle ∷ idle ∷ idle ∷ []

pub record WorkedStorm : Type 0 where
  pub is_storm : IsStorm opts
  pub are_groups : AreGroups 2 (left (note ∷ []))
  -- the write of the key at the first node, and a read of it at the second one
  pub drawn : drawn_calls opts ≡ record { node = first_node; key = key; op = write } ∷ record { node = second_node; key = key; op = Read } ∷ []
  pub told : IsConcluded Status.Done opts (left (note ∷ [])) (Some [])
      (Some ((codes "storm " ++ decimal 2 ++ codes " " ++ decimal 1 ++ codes " " ++ decimal 2 ++ codes "\n") ++
      (codes "answered " ++ decimal 2 ++ codes " busy " ++ decimal 0 ++ codes " aborted " ++ decimal 0 ++ codes " open " ++ decimal 0 ++ codes " legal\n")))
  -- without the note the second call was drawn once, and made no time
  pub unasked : IsConcluded Status.Gap opts (left []) (Some [])
      (Some (codes "gap calls " ++ decimal 2 ++ codes " " ++ decimal 1 ++ codes " " ++ decimal 0 ++ codes "\n"))
