-- That what a log gives are the managers that return.
use Rattle.std.specs.Prelude.{◌≡◌, ◌<◌, ℕ, List, [], ◌∷◌, ◌++◌, Some, Ok}
use Rattle.std.specs.List.{slice_get}
use Rattle.hk_base.specs.declared.view.View.{View}
use Rattle.hk_log.specs.declared.entry.Entry.{Entry}
use Rattle.hk_log.specs.declared.entry.Entry.TheVariants as entry
use Rattle.hk_manager.specs.Sound.{manager_new}
use Rattle.hk_return.specs.Log.{returned}
use Rattle.hk_durable.specs.Laws.{steps_in}
use Rattle.hk_restore.specs.declared.group.Terms.{Terms}
use Rattle.hk_restore.specs.declared.group.RestoredGroup.{RestoredGroup}
use Rattle.hk_restore.specs.declared.group.Restored.{Restored}
use Rattle.hk_restore.specs.Restoring.{restored}

-- the entries of all records
abbrev pub entries_of : List (List Entry) → List Entry
entries_of [] = []
entries_of (r ∷ records) = r ++ entries_of records

-- what stands behind the last founding of these entries; where there is none, behind some others
abbrev pub since_founding : List Entry → List Entry → List Entry
since_founding since [] = since
since_founding since (entry.Founded founding ∷ entries) = since_founding [] entries
since_founding since (e ∷ entries) = since_founding (since ++ e ∷ []) entries

-- RESTORED MANAGERS RETURN: the manager of each shard is the one that returns, as new with the first view, by the steps
-- of its shard that stand behind the last founding.
abbrev pub RestoredManagersReturn : Type 0
RestoredManagersReturn = (t : Terms) (view : View) (records : List (List Entry)) (found : Restored) → restored t view records ≡ Ok found → (g : RestoredGroup) → found.group ≡ Some g → (shard : ℕ) → shard < 8 →
    slice_get g.managers shard ≡ Some (returned (manager_new t.place t.managers view t.lease) (steps_in shard (since_founding [] (entries_of records))))
