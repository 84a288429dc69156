-- Watches by their number, and what a look at one finds and leaves.
use Rattle.std.specs.Prelude.{◌≡◌, ◌≢◌, ℕ, Bool, nat_lt, nat_eq, ◌==◌, if◌then◌else◌, List, Option, Some, None, IsSome, Result, Ok, Err}
use Rattle.std.specs.Map.{lookup}
use Rattle.hk_base.specs.declared.stamp.Stamp.{Stamp}
use Rattle.hk_base.specs.declared.call.State.{State}
use Rattle.hk_base.specs.declared.call.State.TheVariants.{Valid}
use Rattle.hk_snap.specs.declared.snapshot.Glance.{Glance}
use Rattle.hk_snap.specs.Snapshots.{cell_of, glance_of, last_shown}
use Rattle.hk_snap.specs.Ends.{Reader, Loads, seen_at}
use Rattle.hk_watch.specs.declared.look.Look.{Look}
use Rattle.hk_watch.specs.declared.look.Look.TheVariants.{Fired, NoWatch, Elsewhere, Open, Large, Old}
use Rattle.hk_watch.specs.declared.watch.Watch.{Watch}
use Rattle.hk_watch.specs.declared.watches.WatchFault.{WatchFault}
use Rattle.hk_watch.specs.declared.watches.WatchFault.TheVariants as fault

-- stamps are ordered by version, then by node
abbrev pub is_above : Stamp → Stamp → Bool
is_above stamp last = if stamp.version == last.version then nat_lt last.node stamp.node else nat_lt last.version stamp.version

-- a Valid row that is shown whole: told where its stamp is above the last one
abbrev pub look_whole : ℕ → Stamp → Stamp → Look
look_whole watch last stamp = if is_above stamp last then Fired (record { watch = watch; stamp = stamp }) else Old stamp

-- Open where the row is not Valid, then Large, then Old
abbrev pub look_row : ℕ → Stamp → State → Bool → Stamp → Look
look_row watch last Valid is_large stamp = if is_large then Large stamp else look_whole watch last stamp
look_row watch last state is_large stamp = Open stamp

abbrev pub look_at : ℕ → Stamp → Glance → Look
look_at watch last g = look_row watch last g.state g.is_large g.stamp

-- what a look of this watch finds, whose last stamp this is, where the cell shows this of its key, or another key
abbrev pub look_of : ℕ → Stamp → Option Glance → Look
look_of watch last None = Elsewhere
look_of watch last (Some g) = look_at watch last g

module _ {F : Type 0} where
  abbrev pub watch_at : List (ℕ × Watch F) → ℕ → Option (Watch F)
  watch_at watches watch = lookup (nat_eq watch) watches

  -- all other watches are as they were
  abbrev pub AreOthersSame : List (ℕ × Watch F) → List (ℕ × Watch F) → ℕ → Type 0
  AreOthersSame before after watch = (other : ℕ) → other ≢ watch → watch_at after other ≡ watch_at before other

  -- a watch is kept where none of its number was; else the watcher comes back, and nothing has changed
  abbrev pub IsWatch : Result Unit (WatchFault F) → List (ℕ × Watch F) → List (ℕ × Watch F) → ℕ → Watch F → Type 0
  IsWatch (Ok _) before after watch new = (watch_at before watch ≡ None) × (watch_at after watch ≡ Some new) × AreOthersSame before after watch
  IsWatch (Err (fault.Kept back)) before after watch new = (back ≡ new.done) × IsSome (watch_at before watch) × (after ≡ before)
  IsWatch (Err (fault.Memory back)) before after watch new = (back ≡ new.done) × (watch_at before watch ≡ None) × (after ≡ before)

  -- a watch that was told has the stamp as its last one
  abbrev pub after_look : Watch F → Look → Watch F
  after_look kept (Fired notice) = record { key = kept.key; last = notice.stamp; done = kept.done }
  after_look kept look = kept

  -- A look by this number: without a watch nothing is loaded. With one its cell is loaded once, and shows the last of what was seen of it.
  abbrev pub IsLook : Option (Watch F) → ℕ → Look → List (ℕ × Watch F) → Reader → List (ℕ × Watch F) → Reader → Type 0
  IsLook None watch look before reader after read = (look ≡ NoWatch) × (after ≡ before) × (read ≡ reader)
  IsLook (Some kept) watch look before reader after read =
      Loads reader (cell_of kept.key) read × (read.shown ≡ last_shown (seen_at read.ends (cell_of kept.key))) × (look ≡ look_of watch kept.last (glance_of read.shown kept.key))
      × (watch_at after watch ≡ Some (after_look kept look)) × AreOthersSame before after watch
