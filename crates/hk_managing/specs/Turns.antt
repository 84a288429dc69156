-- What a turn of a manager gathers, and what of that its log takes.
use Rattle.std.specs.Prelude.{◌≡◌, List, [], ◌∷◌, ◌++◌, map, take}
use Rattle.hk_base.specs.declared.view.View.{View}
use Rattle.hk_log.specs.declared.entry.Entry.{Entry}
use Rattle.hk_stage.specs.declared.stage.Stage.TheVariants.{Empty}
use Rattle.hk_durable.specs.Batches.{BatchState}
use Rattle.hk_manager.specs.Manager.{ManagerState}
use Rattle.hk_office.specs.declared.office.Office.{Office}
use Rattle.hk_office.specs.Laws.{Logged, with_entries, logged_of}
use Rattle.hk_restore.specs.Laws.{entries_of}

-- ---- the log tells the office

-- what an empty log tells: no group, and nothing bound
abbrev pub nothing_logged : Logged
nothing_logged = record { stage = Empty; roll = [] }

-- These records tell the stage and the roll of the office: a process that begins by them stands by all that this one answered.
abbrev pub LogTells : List (List Entry) → Office → Type 0
LogTells records o = with_entries nothing_logged (entries_of records) ≡ logged_of o

-- Whatever told the office before with the notes that were gathered then, tells it now with those that are gathered now. So no step of the office is without its note.
abbrev pub StayTold : Office → List Entry → Office → List Entry → Type 0
StayTold before had after has = (l : Logged) → with_entries l had ≡ logged_of before → with_entries l has ≡ logged_of after

-- ---- notes for the cores

-- They wait for the next record of the cores, behind what waited, each behind those before it.
abbrev pub all_noted : BatchState → List Entry → BatchState
all_noted b [] = b
all_noted b (n ∷ notes) = all_noted (record b { entries = b.entries ++ n ∷ [] }) notes

-- the views that eight cores hold, by their shards
abbrev pub views_held : List ManagerState → List View
views_held managers = map (λ m. m.held) (take 8 managers)
