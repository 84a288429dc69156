-- What a step of the run tells.
use Rattle.std.specs.Prelude.{◌≡◌, ◌≢◌, ◌⊎◌, ⊤, ℕ, List, [], ◌∷◌, Some, Result, Ok, Err}
use Rattle.hk_base.specs.declared.stamp.NodeId.{NodeId}
use Rattle.hk_base.specs.declared.call.Answer.{Answer}
use Rattle.hk_base.specs.declared.call.Op.TheVariants.{Read}
use Rattle.hk_base.specs.declared.call.Reply.{Reply}
use Rattle.hk_base.specs.declared.letter.Letter.{Letter}
use Rattle.hk_journal.specs.declared.step_entry.JournalEntry.{JournalEntry}
use Rattle.hk_event.specs.declared.event.Event.{Event}
use Rattle.hk_event.specs.declared.event.Event.TheVariants.{Call}
use Rattle.hk_world.specs.Steps.{Accepted, world_step}
use Rattle.hk_merge.specs.Merged.{answers_of}
use Rattle.hk_safety.specs.Run.{RunState, world_of}
use Rattle.hk_safety.specs.Push.{with_event}
use Rattle.hk_assemble.specs.declared.gap.Gap.{Gap}
use Rattle.hk_assemble.specs.declared.gap.Gap.TheVariants as Gap

-- the entry has these, or they are told
abbrev pub IsCompared : {U : Type 0} → Result U Gap → List Letter → List Reply → NodeId → JournalEntry → Type 0
IsCompared (Ok done) letters replies node entry = (letters ≡ entry.letters) × (answers_of replies ≡ answers_of entry.replies)
IsCompared (Err (Gap.Entry at ticket (Some given))) letters replies node entry =
    (at ≡ node) × (ticket ≡ entry.ticket) × ((letters ≢ entry.letters) ⊎ (answers_of replies ≢ answers_of entry.replies)) × (given.letters ≡ letters) × (given.replies ≡ replies)
IsCompared (Err gap) letters replies node entry = ⊥

-- the event is accepted, and then the run's last where the entry has what it shows
abbrev pub IsStepMade : {U : Type 0} → Result U Gap → RunState → RunState → Event → NodeId → JournalEntry → Type 0
IsStepMade (Ok done) old new event node entry =
    (a : Accepted) × (world_step (world_of old) event ≡ Ok a) × (new ≡ with_event old event) × (a.shown.letters ≡ entry.letters) × (answers_of a.shown.replies ≡ answers_of entry.replies)
IsStepMade (Err (Gap.Entry at ticket (Some given))) old new event node entry =
    (a : Accepted) × (world_step (world_of old) event ≡ Ok a) × (at ≡ node) × (ticket ≡ entry.ticket) ×
    ((a.shown.letters ≢ entry.letters) ⊎ (answers_of a.shown.replies ≢ answers_of entry.replies)) × (given.letters ≡ a.shown.letters) × (given.replies ≡ a.shown.replies)
IsStepMade (Err Gap.Memory) old new event node entry = ⊤
IsStepMade (Err gap) old new event node entry = ⊥

abbrev pub IsLooked : Answer → RunState → RunState → NodeId → List ℕ → Type 0
IsLooked answer old new node key =
    (a : Accepted) × (world_step (world_of old) (Call node key Read) ≡ Ok a) × (answers_of a.shown.replies ≡ answer ∷ []) × (new ≡ with_event old (Call node key Read))
