-- The view that follows another one, and how many numbers were given before an epoch.
use Rattle.std.specs.Prelude.{◌≡◌, ⊤, ℕ, zero, suc, ◌+◌, List, [], ◌∷◌, ◌++◌, length, Option, Some, None, Result, Ok, Err, not, nat_le, ◌==◌, if◌then◌else◌}
use Rattle.std.specs.List.{filter}
use Rattle.hk_base.specs.declared.stamp.NodeId.{NodeId}
use Rattle.hk_base.specs.declared.view.View.{View}
use Rattle.hk_base.specs.declared.view.Change.{Change}
use Rattle.hk_base.specs.declared.view.Change.TheVariants.{Drop, Add}
use Rattle.hk_base.specs.View.{is_member}
use Rattle.hk_event.specs.declared.refused.Refused.{Refused}
use Rattle.hk_event.specs.declared.refused.Refused.TheVariants.{NoSuchMember, LastMember, Full, NoNumbers}
use Rattle.hk_world.specs.declared.fault.WorldFault.{WorldFault}
use Rattle.hk_world.specs.World.{numbered}

abbrev pub dropped : View → NodeId → View
dropped view id = record { epoch = view.epoch + 1; members = filter (λ m. not (m.0 == id.0)) view.members; next = view.next }

abbrev pub added : View → View
added view = record { epoch = view.epoch + 1; members = view.members ++ record { 0 = view.next } ∷ []; next = view.next + 1 }

abbrev pub next_of : View → Change → Result View Refused
next_of view (Drop id) =
    if is_member id view.members
    then (if length view.members == 1 then Err LastMember else Ok (dropped view id))
    else Err NoSuchMember
next_of view Add =
    if nat_le 16 (length view.members) then Err Full
    else (if nat_le 65536 view.next then Err NoNumbers else Ok (added view))

-- what the code answers for the next view: want of memory says nothing of it
abbrev pub IsNextOf : Result View WorldFault → Result View Refused → Type 0
IsNextOf (Ok view) made = made ≡ Ok view
IsNextOf (Err WorldFault.Memory) made = ⊤
IsNextOf (Err (WorldFault.Refused refused)) made = made ≡ Err refused

abbrev pub next_in : Option View → ℕ
next_in None = 0
next_in (Some view) = view.next

-- how many numbers were given before this epoch: they are those below
abbrev pub given_before : List View → ℕ → ℕ
given_before views zero = 0
given_before views (suc e) = next_in (numbered e views)
