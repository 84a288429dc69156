-- Where snapshots of several keys stood together.
use Rattle.std.specs.Prelude.{◌≡◌, ℕ, List, max, map, not, ◌==◌, Bool, false, Option, None, Some, unwrap_or, Result, Ok, Err, ⊤}
use Rattle.std.specs.List.{find, reduce}
use Rattle.hk_snap.specs.declared.snapshot.Snapshot.{Snapshot}
use Rattle.hk_place.specs.declared.placing.PlaceFault.{PlaceFault}
use Rattle.hk_place.specs.declared.placing.PlaceFault.TheVariants as fault
use Rattle.hk_place.specs.Past.{Past, last_change}

-- the greatest of their tickets: the moment at which all of them had been published
abbrev pub greatest : List Snapshot → ℕ
greatest found = unwrap_or (reduce max (map (λ s. s.ticket) found)) 0

abbrev pub is_ticket : ℕ → Option ℕ → Bool
is_ticket ticket None = false
is_ticket ticket (Some t) = t == ticket

-- the last step up to the moment that changed the row of the key is not the snapshot's
abbrev pub is_displaced : Past → ℕ → Snapshot → Bool
is_displaced past moment s = not (is_ticket s.ticket (last_change past moment s.key))

-- all stand at the moment, or else the first one that does not
abbrev pub placed_by : Past → ℕ → Option Snapshot → Result ℕ PlaceFault
placed_by past moment None = Ok moment
placed_by past moment (Some s) = Err (fault.NoPlace s.key s.ticket (last_change past moment s.key))

-- The snapshots stood together at the greatest of their tickets, if none of their rows had changed again by then.
abbrev pub place_of : Past → List Snapshot → Result ℕ PlaceFault
place_of past found = placed_by past (greatest found) (find (is_displaced past (greatest found)) found)

-- this is told; or memory was wanting
abbrev pub IsPlaced : Result ℕ PlaceFault → Result ℕ PlaceFault → Type 0
IsPlaced (Err fault.Memory) place = ⊤
IsPlaced result place = result ≡ place
