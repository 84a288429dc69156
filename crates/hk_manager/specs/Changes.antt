-- The view that follows another one: it drops a member, or adds the node of the next number.
use Rattle.std.specs.Prelude.{◌+◌, [], ◌∷◌, ◌++◌, length, Option, Some, None, not, nat_le, ◌==◌, if◌then◌else◌}
use Rattle.std.specs.List.{filter}
use Rattle.hk_base.specs.declared.view.View.{View}
use Rattle.hk_base.specs.declared.view.Change.{Change}
use Rattle.hk_base.specs.declared.view.Change.TheVariants.{Drop, Add}
use Rattle.hk_base.specs.View.{is_member}
use Rattle.hk_manager.specs.declared.fault.ManagerFault.{ManagerFault}
use Rattle.hk_manager.specs.declared.fault.ManagerFault.TheVariants.{NoSuchMember, LastMember, Full, NoNumbers}

-- a number that was given is not given again
abbrev pub changed : View → Change → View
changed view (Drop node) = record { epoch = view.epoch + 1; members = filter (λ member. not (member.0 == node.0)) view.members; next = view.next }
changed view Add = record { epoch = view.epoch + 1; members = view.members ++ record { 0 = view.next } ∷ []; next = view.next + 1 }

-- why a change can't be, if so: a view has 1 to 16 members, and numbers are below 65,536
abbrev pub change_fault : View → Change → Option ManagerFault
change_fault view (Drop node) =
    if is_member node view.members then (if length view.members == 1 then Some LastMember else None) else Some NoSuchMember
change_fault view Add =
    if nat_le 16 (length view.members) then Some Full else (if nat_le 65536 view.next then Some NoNumbers else None)
