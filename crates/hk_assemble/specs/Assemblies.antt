-- What each turn of the loop tells.
use Rattle.std.specs.Prelude.{◌≡◌, ⊤, List, [], ◌∷◌, ◌++◌, Result, Ok, Err}
use Rattle.hk_base.specs.declared.stamp.NodeId.{NodeId}
use Rattle.hk_journal.specs.declared.step_entry.JournalEntry.{JournalEntry}
use Rattle.hk_event.specs.declared.event.Header.{Header}
use Rattle.hk_merge.specs.Merged.{Item, Step, tickets_of}
use Rattle.hk_safety.specs.Run.{RunState, world_of}
use Rattle.hk_assemble.specs.declared.gap.Gap.{Gap}
use Rattle.hk_assemble.specs.declared.gap.Gap.TheVariants as Gap
use Rattle.hk_assemble.specs.declared.assembly.Assembly.{Assembly}
use Rattle.hk_assemble.specs.Assembly.{IsAssembly}
use Rattle.hk_assemble.specs.Assembled.{FailsAt, FailsFirst}

abbrev pub IsOn : Header → Assembly → List Item → Type 0
IsOn header assembly front = IsAssembly header assembly.run assembly.sent.entries assembly.kept.entries front

-- want of memory tells nothing
abbrev pub OrMemory : Gap → Type 0 → Type 0
OrMemory Gap.Memory P = ⊤
OrMemory (Gap.Letter taken sent) P = P
OrMemory (Gap.Entry node ticket given) P = P
OrMemory (Gap.Note call ticket told kept) P = P

-- the item is an entry that fails where the run has come to
abbrev pub IsFailure : Gap → RunState → List Item → List Item → Item → Type 0
IsFailure gap run items front item = (node : NodeId) × (entry : JournalEntry) × (item ≡ Step node entry) × FailsAt items (world_of run) (tickets_of [] front) node entry gap

-- the assembly is one item further, or the item fails
abbrev pub IsNext : {U : Type 0} → Result U Gap → Assembly → Assembly → Header → List Item → List Item → Item → Type 0
IsNext (Ok done) old new header items front item = IsOn header new (front ++ item ∷ [])
IsNext (Err gap) old new header items front item = OrMemory gap (IsFailure gap old.run items front item)

abbrev pub IsLookTaken : {U E : Type 0} → Result U E → Assembly → Header → List Item → Item → Type 0
IsLookTaken (Ok done) new header front item = IsOn header new (front ++ item ∷ [])
IsLookTaken (Err memory) new header front item = ⊤

abbrev pub IsFollowed : Result Assembly Gap → Header → List Item → Type 0
IsFollowed (Ok assembly) header items = IsOn header assembly items
IsFollowed (Err gap) header items = OrMemory gap (FailsFirst header items gap)
