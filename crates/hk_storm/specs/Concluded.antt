-- What the journals and notes of a storm come to.
use Rattle.std.specs.Prelude.{◌≡◌, ℕ, ◌+◌, List, [], ◌∷◌, ◌++◌, take, Option, Ok, Err, ⊤}
use Rattle.std.specs.Io.KnownBytes.{Appends}
use Rattle.hk_outside.specs.declared.status.Status.{Status}
use Rattle.hk_outside.specs.declared.status.Status.TheVariants as Status
use Rattle.hk_event.specs.declared.event.Header.{Header}
use Rattle.hk_safety.specs.Run.{RunState, IsRun, AllLegal}
use Rattle.hk_assemble.specs.declared.gap.Gap.{Gap}
use Rattle.hk_assemble.specs.Assembled.{IsAssembled}
use Rattle.hk_assemble.specs.Single.{IsTelling}
use Rattle.hk_script.specs.Drawn.{group_of}
use Rattle.hk_storm.specs.declared.opts.StormOpts.{StormOpts}
use Rattle.hk_storm.specs.declared.groups.StormGroup.{StormGroup}
use Rattle.hk_storm.specs.declared.compare.Unlike.{Unlike}
use Rattle.hk_storm.specs.declared.outcomes.Outcomes.{Outcomes}
use Rattle.hk_storm.specs.declared.report.Report.{Report}
use Rattle.hk_storm.specs.declared.report.Report.TheVariants.{Legal, Unfit, Unasked}
use Rattle.hk_storm.specs.Calls.{drawn_calls, all_calls, AreDrawn, IsUnlike}
use Rattle.hk_storm.specs.Outcomes.{outcomes_of}
use Rattle.hk_storm.specs.Text.{report_text}

-- ---- the runs
-- each group comes to its run
abbrev pub AreAssembled : Header → List StormGroup → List RunState → Type 0
AreAssembled header [] [] = ⊤
AreAssembled header (group ∷ groups) (run ∷ runs) = IsAssembled (Ok run) header group.journals group.notes × AreAssembled header groups runs
AreAssembled header groups runs = ⊥

-- the first group that comes to none, and why
pub record IsFirstUnfit (header : Header) (groups : List StormGroup) (gap : Gap) : Type 0 where
  pub front : List StormGroup
  pub group : StormGroup
  pub back : List StormGroup
  pub split : groups ≡ front ++ group ∷ back
  pub runs : List RunState
  pub came : AreAssembled header front runs
  pub told : IsAssembled (Err gap) header group.journals group.notes

abbrev pub EachRun : List RunState → Type 0
EachRun [] = ⊤
EachRun (run ∷ runs) = IsRun run × EachRun runs

abbrev pub EachLegal : List RunState → Type 0
EachLegal [] = ⊤
EachLegal (run ∷ runs) = AllLegal run × EachLegal runs

-- ---- the cases
-- Each group comes to a run, the runs' calls are the drawn calls, each key's order in each run is legal, and these are the calls by what became of them.
pub record AreLegal (opts : StormOpts) (groups : List StormGroup) (outcomes : Outcomes) : Type 0 where
  pub runs : List RunState
  pub came : AreAssembled (group_of opts.nodes) groups runs
  pub drawn : AreDrawn (drawn_calls opts) (all_calls runs)
  pub legal : EachLegal runs
  pub counted : outcomes ≡ outcomes_of runs
  pub added : outcomes.answered + outcomes.busy + outcomes.aborted + outcomes.unanswered ≡ opts.calls

-- Each group comes to a run, and the runs' calls are not the drawn calls.
pub record AreUnasked (opts : StormOpts) (groups : List StormGroup) (unlike : Unlike) : Type 0 where
  pub runs : List RunState
  pub came : AreAssembled (group_of opts.nodes) groups runs
  pub told : IsUnlike (drawn_calls opts) (all_calls runs) unlike

abbrev pub IsReport : Report → StormOpts → List StormGroup → Type 0
IsReport (Legal outcomes) opts groups = AreLegal opts groups outcomes
IsReport (Unfit gap) opts groups = IsTelling gap × IsFirstUnfit (group_of opts.nodes) groups gap
IsReport (Unasked unlike) opts groups = AreUnasked opts groups unlike

abbrev pub status_of : Report → Status
status_of (Legal outcomes) = Status.Done
status_of (Unfit gap) = Status.Gap
status_of (Unasked unlike) = Status.Gap

-- this is the status of what they come to, and this its text
pub record IsText (status : Status) (text : List ℕ) (opts : StormOpts) (groups : List StormGroup) : Type 0 where
  pub report : Report
  pub is : IsReport report opts groups
  pub status_is : status ≡ status_of report
  pub text_is : text ≡ report_text opts report

-- ---- what is written of them
-- the text of this status, whole
pub record HasTold (status : Status) (opts : StormOpts) (groups : List StormGroup) (held held' : Option (List ℕ)) : Type 0 where
  pub text : List ℕ
  pub is : IsText status text opts groups
  pub told : Appends held held' text

-- or a front of the text of the status that would have been told
pub record HasBegun (opts : StormOpts) (groups : List StormGroup) (held held' : Option (List ℕ)) : Type 0 where
  pub status : Status
  pub text : List ℕ
  pub is : IsText status text opts groups
  pub count : ℕ
  pub front : Appends held held' (take count text)

abbrev pub IsConcluded : Status → StormOpts → List StormGroup → Option (List ℕ) → Option (List ℕ) → Type 0
IsConcluded Status.Done opts groups held held' = HasTold Status.Done opts groups held held'
IsConcluded Status.Gap opts groups held held' = HasTold Status.Gap opts groups held held'
IsConcluded Status.WriteFault opts groups held held' = HasBegun opts groups held held'
IsConcluded Status.Memory opts groups held held' = Appends held held' []
IsConcluded status opts groups held held' = ⊥

-- the statuses with which a storm may end
abbrev pub EndsStorm : Status → Type 0
EndsStorm Status.Done = ⊤
EndsStorm Status.Gap = ⊤
EndsStorm Status.WriteFault = ⊤
EndsStorm Status.Memory = ⊤
EndsStorm status = ⊥
