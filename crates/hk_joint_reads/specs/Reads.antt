-- What a read of several keys is told from two loads of each key's cell, the checks in their order.
use Rattle.std.specs.Prelude.{◌≡◌, ℕ, ◌+◌, List, [], ◌∷◌, ◌&&◌, ◌==◌, nat_lt, Option, None, Some, is_some, unwrap_or, if◌then◌else◌, IfSome, ⊤}
use Rattle.std.specs.Option.{option_map, option_or}
use Rattle.std.specs.Str.{bytes_eq}
use Rattle.hk_base.specs.declared.stamp.Stamp.{Stamp}
use Rattle.hk_base.specs.declared.call.State.{State}
use Rattle.hk_base.specs.declared.call.State.TheVariants.{Valid}
use Rattle.hk_base.specs.declared.call.Why.TheVariants as why
use Rattle.hk_snap.specs.declared.rule.Publication.{Publication}
use Rattle.hk_snap.specs.declared.snapshot.Snapshot.{Snapshot}
use Rattle.hk_snap.specs.Snapshots.{cell_of, last_shown, is_large}
use Rattle.hk_snap.specs.Ends.{Reader, seen_at, Loads}
use Rattle.hk_joint_reads.specs.declared.read.Joint.{Joint}
use Rattle.hk_joint_reads.specs.declared.read.Joint.TheVariants.{Found, Elsewhere, Moved, Busy, Large}
use Rattle.hk_joint_reads.specs.declared.look.KeyLoads.{KeyLoads}

-- ---- loads
-- One load of each key's cell, in turn; each list is what was seen of the cell then, and what its load showed is the last of it.
abbrev pub LoadsEach : Reader → List (List ℕ) → List (List Publication) → Reader → Type 0
LoadsEach old [] [] new = new ≡ old
LoadsEach old [] (seen ∷ lists) new = ⊥
LoadsEach old (key ∷ keys) [] new = ⊥
LoadsEach old (key ∷ keys) (seen ∷ lists) new =
    (loaded : Reader) × Loads old (cell_of key) loaded × (seen_at loaded.ends (cell_of key) ≡ seen) × (loaded.shown ≡ last_shown seen) × LoadsEach loaded keys lists new

-- the snapshot that is shown, where it is the key's
abbrev pub shown_of : List ℕ → Option Snapshot → Option Snapshot
shown_of key None = None
shown_of key (Some s) = if bytes_eq s.key key then Some s else None

abbrev pub ticket_of : List ℕ → Option Snapshot → Option ℕ
ticket_of key shown = option_map (λ s. s.ticket) (shown_of key shown)

abbrev pub tickets_of : List (List ℕ) → List (List Publication) → List (Option ℕ)
tickets_of [] lists = []
tickets_of (key ∷ keys) [] = []
tickets_of (key ∷ keys) (seen ∷ lists) = ticket_of key (last_shown seen) ∷ tickets_of keys lists

-- each key with the ticket that its first load showed and the snapshot that its second one showed
abbrev pub looks_of : List (List ℕ) → List (Option ℕ) → List (List Publication) → List KeyLoads
looks_of [] first second = []
looks_of (key ∷ keys) [] second = []
looks_of (key ∷ keys) (t ∷ first) [] = []
looks_of (key ∷ keys) (t ∷ first) (seen ∷ second) = record { key = key; first = t; second = shown_of key (last_shown seen) } ∷ looks_of keys first second

-- ---- checks
-- one of the key's two loads showed another key, or none
abbrev pub elsewhere : KeyLoads → Option Joint
elsewhere l = if is_some l.first && is_some l.second then None else Some (Elsewhere l.key)

-- the two loads showed different tickets
abbrev pub moved_by : List ℕ → Option ℕ → Option Snapshot → Option Joint
moved_by key (Some t) (Some s) = if t == s.ticket then None else Some (Moved key t s.ticket)
moved_by key first second = None

abbrev pub moved : KeyLoads → Option Joint
moved l = moved_by l.key l.first l.second

abbrev pub row_busy : State → Stamp → Option Joint
row_busy Valid stamp = None
row_busy state stamp = Some (Busy (why.Row state stamp))

abbrev pub shown_busy : Option Snapshot → Option Joint
shown_busy None = None
shown_busy (Some s) = row_busy s.state s.stamp

-- the lease may be over, or else the row is not Valid
abbrev pub busy : ℕ → ℕ → ℕ → KeyLoads → Option Joint
busy end now skew l = if nat_lt end (now + skew) then Some (Busy (why.Lease end now)) else shown_busy l.second

abbrev pub large_by : List ℕ → Option Snapshot → Option Joint
large_by key None = None
large_by key (Some s) = if is_large s.shape then Some (Large key) else None

-- the data is more than a cell shows
abbrev pub large : KeyLoads → Option Joint
large l = large_by l.key l.second

-- a check is told at the first key for which it holds
abbrev pub first_told : (KeyLoads → Option Joint) → List KeyLoads → Option Joint
first_told check [] = None
first_told check (l ∷ looks) = option_or (check l) (first_told check looks)

abbrev pub with_shown : Option Snapshot → List Snapshot → List Snapshot
with_shown None rest = rest
with_shown (Some s) rest = s ∷ rest

abbrev pub snapshots : List KeyLoads → List Snapshot
snapshots [] = []
snapshots (l ∷ looks) = with_shown l.second (snapshots looks)

-- Elsewhere, then Moved, then Busy, then Large
abbrev pub unfound : List KeyLoads → ℕ → ℕ → ℕ → Option Joint
unfound looks end now skew = option_or (first_told elsewhere looks) (option_or (first_told moved looks) (option_or (first_told (busy end now skew) looks) (first_told large looks)))

abbrev pub joint_of : List KeyLoads → ℕ → ℕ → ℕ → Joint
joint_of looks end now skew = unwrap_or (unfound looks end now skew) (Found (snapshots looks))

-- ---- a whole read
abbrev pub IsFound : Joint → Type 0
IsFound (Found snapshots) = ⊤
IsFound joint = ⊥

-- Each key's cell was loaded once, in turn, and then each again; and where the answer is Found, each list that was seen at the second load is the one that was
-- seen at the first: no cell moved between its two loads.
pub record IsJointRead (old new : Reader) (keys : List (List ℕ)) (end skew : ℕ) (reading : Option ℕ) (joint : Joint) : Type 0 where
  pub first : List (List Publication)
  pub second : List (List Publication)
  pub between : Reader
  pub loads : LoadsEach old keys first between
  pub again : LoadsEach between keys second new
  pub now : ℕ
  pub clock : IfSome reading (λ time. now ≡ time)
  pub told : joint ≡ joint_of (looks_of keys (tickets_of keys first) second) end now skew
  pub still : IsFound joint → second ≡ first
