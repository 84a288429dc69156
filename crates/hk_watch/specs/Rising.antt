-- What watches promise: over every list of calls, the stamps that a watch is told rise.
use Rattle.std.specs.Prelude.{◌≡◌, ◌≢◌, ◌⊎◌, ⊤, ℕ, true, false, ◌==◌, if◌then◌else◌, List, [], ◌∷◌, ◌++◌, Option, Some, None, unwrap_or}
use Rattle.hk_base.specs.declared.stamp.Stamp.{Stamp}
use Rattle.hk_base.specs.declared.call.State.TheVariants.{Valid}
use Rattle.hk_snap.specs.declared.snapshot.Glance.{Glance}
use Rattle.hk_snap.specs.declared.rule.Publication.{Publication}
use Rattle.hk_snap.specs.Snapshots.{cell_of, glance_of, shown_content}
use Rattle.hk_snap.specs.Ends.{Reader, Loads, seen_at}
use Rattle.hk_watch.specs.declared.look.Look.{Look}
use Rattle.hk_watch.specs.declared.look.Look.TheVariants.{Fired}
use Rattle.hk_watch.specs.declared.watch.Watch.{Watch}
use Rattle.hk_watch.specs.declared.watcher.Notice.{Notice}
use Rattle.hk_watch.specs.declared.watcher.Seen.{Seen}
use Rattle.hk_watch.specs.declared.run.WatchCall.{WatchCall}
use Rattle.hk_watch.specs.declared.run.WatchCall.TheVariants as call
use Rattle.hk_watch.specs.Looking.{is_above, watch_at, AreOthersSame, IsLook}

-- ---- one look
abbrev pub Among : List Publication → Publication → Type 0
Among [] q = ⊥
Among (p ∷ ps) q = (p ≡ q) ⊎ Among ps q

-- The reader has seen the key with this stamp, in a Valid row.
pub record IsSeen (reader : Reader) (name : List ℕ) (at : Stamp) : Type 0 where
  pub published : Publication
  pub among : Among (seen_at reader.ends (cell_of name)) published
  pub key : published.key ≡ name
  pub valid : published.row.state ≡ Valid
  pub stamp : published.row.stamp ≡ at

-- where a Valid row of the key is shown whole, its stamp is not above the last one
abbrev pub IsNotBehind : Stamp → Option Glance → Type 0
IsNotBehind last None = ⊤
IsNotBehind last (Some g) = g.state ≡ Valid → g.is_large ≡ false → is_above g.stamp last ≡ false

-- a reader after at most one more load
abbrev pub IsFurther : Reader → Reader → Type 0
IsFurther reader read = (read ≡ reader) ⊎ ((cell : ℕ) × Loads reader cell read)

module _ {F : Type 0} where
  -- a notice has the number of its watch and a stamp above the last one, which was seen of its key
  abbrev pub IsDue : Watch F → ℕ → Look → Reader → Type 0
  IsDue kept watch (Fired notice) reader = (notice.watch ≡ watch) × (is_above notice.stamp kept.last ≡ true) × IsSeen reader kept.key notice.stamp
  IsDue kept watch look reader = ⊤

  abbrev pub IsRisen : Option (Watch F) → ℕ → Look → Reader → Type 0
  IsRisen None watch look reader = ⊤
  IsRisen (Some kept) watch look reader = IsDue kept watch look reader

  -- Where a look fired, the watcher itself was told: of its key, the stamp of the notice, and the content that the cell showed. `Told` is
  -- what a watcher says of its answer.
  abbrev pub IsTold : (F → ℕ → Seen → Notice → Type 0) → Option (Watch F) → ℕ → Look → Reader → Type 0
  IsTold Told (Some kept) watch (Fired notice) reader =
      Told kept.done watch (record { key = kept.key; stamp = notice.stamp; content = shown_content reader.shown }) notice
  IsTold Told kept watch look reader = ⊤

  abbrev pub IsCaughtUp : Option (Watch F) → Option (Watch F) → Reader → Type 0
  IsCaughtUp None after reader = ⊤
  IsCaughtUp (Some kept) None reader = ⊥
  IsCaughtUp (Some kept) (Some now) reader = IsNotBehind now.last (glance_of reader.shown kept.key)

-- ---- calls
abbrev pub notice_of : Look → Option Notice
notice_of (Fired notice) = Some notice
notice_of look = None

abbrev pub with_fired : Option Notice → List Notice → List Notice
with_fired None notices = notices
with_fired (Some notice) notices = notice ∷ notices

module _ {F : Type 0} where
  -- the watch is kept, unless one of its number was
  abbrev pub IsKept : List (ℕ × Watch F) → List (ℕ × Watch F) → ℕ → Watch F → Type 0
  IsKept before after watch new = (watch_at after watch ≡ Some (unwrap_or (watch_at before watch) new)) × AreOthersSame before after watch

-- what the watchers say of their answers
module _ {F : Type 0} (Told : F → ℕ → Seen → Notice → Type 0) where
  -- What a look of this watch does: which answer it gives; what is told is above the last stamp, of a Valid row of the key that the reader has
  -- seen by then; the watcher was told it; and the last stamp is then not below that of a Valid small row that was found.
  pub record Looks (watch : ℕ) (look : Look) (before : List (ℕ × Watch F)) (reader : Reader) (after : List (ℕ × Watch F)) (read : Reader) : Type 0 where
    pub exact : IsLook (watch_at before watch) watch look before reader after read
    pub risen : IsRisen (watch_at before watch) watch look read
    pub told : IsTold Told (watch_at before watch) watch look read
    pub caught_up : IsCaughtUp (watch_at before watch) (watch_at after watch) read

  -- What one call does: a Watch whose number is kept changes nothing.
  abbrev pub Makes : WatchCall F → List (ℕ × Watch F) → Reader → Option Notice → List (ℕ × Watch F) → Reader → Type 0
  Makes (call.Watch watch key from done) before reader fired after read =
      (fired ≡ None) × (read ≡ reader) × IsKept before after watch (record { key = key; last = from; done = done })
  Makes (call.End watch) before reader fired after read = (fired ≡ None) × (read ≡ reader) × (watch_at after watch ≡ None) × AreOthersSame before after watch
  Makes (call.Look watch) before reader fired after read = (look : Look) × (fired ≡ notice_of look) × Looks watch look before reader after read

  -- the calls one after the other, with the notices that they fired, in order
  abbrev pub Runs : List (WatchCall F) → List (ℕ × Watch F) → Reader → List Notice → List (ℕ × Watch F) → Reader → Type 0
  Runs [] before reader notices after read = (notices ≡ []) × (after ≡ before) × (read ≡ reader)
  Runs (c ∷ calls) before reader notices after read =
      (fired : Option Notice) × (next : List (ℕ × Watch F)) × (at : Reader) × (rest : List Notice) × (notices ≡ with_fired fired rest)
      × Makes c before reader fired next at × Runs calls next at rest after read

  -- Memory was wanting: the calls of a front stand, and of the next one at most its load.
  abbrev pub Stops : List (WatchCall F) → List (ℕ × Watch F) → Reader → List (ℕ × Watch F) → Reader → Type 0
  Stops calls before reader after read =
      (front : List (WatchCall F)) × (back : List (WatchCall F)) × (at : Reader) × (notices : List Notice) × (calls ≡ front ++ back)
      × Runs front before reader notices after at × IsFurther at read

-- ---- rising stamps
abbrev pub stamps_of : ℕ → List Notice → List Stamp
stamps_of watch [] = []
stamps_of watch (notice ∷ notices) = if notice.watch == watch then notice.stamp ∷ stamps_of watch notices else stamps_of watch notices

-- each is above the one before, and the first above `from`
abbrev pub Rising : Stamp → List Stamp → Type 0
Rising from [] = ⊤
Rising from (stamp ∷ stamps) = (is_above stamp from ≡ true) × Rising stamp stamps

abbrev pub last_of : Stamp → List Stamp → Stamp
last_of from [] = from
last_of from (stamp ∷ stamps) = last_of stamp stamps

module _ {F : Type 0} where
  abbrev pub NeverEnds : ℕ → List (WatchCall F) → Type 0
  NeverEnds watch [] = ⊤
  NeverEnds watch (call.End other ∷ calls) = (other ≢ watch) × NeverEnds watch calls
  NeverEnds watch (c ∷ calls) = NeverEnds watch calls

-- What became of a watch that was not ended: it is the same watch, its notices rise from its last stamp, and the last of them is now
-- its last stamp.
pub record Rises {F : Type 0} (watch : ℕ) (kept : Watch F) (notices : List Notice) (after : List (ℕ × Watch F)) : Type 0 where
  pub now : Watch F
  pub is_kept : watch_at after watch ≡ Some now
  pub key : now.key ≡ kept.key
  pub done : now.done ≡ kept.done
  pub rising : Rising kept.last (stamps_of watch notices)
  pub last : now.last ≡ last_of kept.last (stamps_of watch notices)

-- Some calls of a run, what was kept and seen before and after them, and their notices. Each watch that was kept, and that they don't end,
-- rises.
pub record Stretch {F : Type 0} (Told : F → ℕ → Seen → Notice → Type 0) (before : List (ℕ × Watch F)) (reader : Reader) (front calls : List (WatchCall F)) (notices : List Notice) : Type 0 where
  pub first : List Notice
  pub fired : List Notice
  pub later : List Notice
  pub parts : notices ≡ first ++ (fired ++ later)
  pub begins : List (ℕ × Watch F)
  pub begin_read : Reader
  pub ends : List (ℕ × Watch F)
  pub end_read : Reader
  pub runs_front : Runs Told front before reader first begins begin_read
  pub runs : Runs Told calls begins begin_read fired ends end_read
  pub rises : (watch : ℕ) (kept : Watch F) → watch_at begins watch ≡ Some kept → NeverEnds watch calls → Rises watch kept fired ends

-- whichever calls of the run are looked at, in each of them the watches rise
abbrev pub AreRising : {F : Type 0} → (F → ℕ → Seen → Notice → Type 0) → List (WatchCall F) → List (ℕ × Watch F) → Reader → List Notice → Type 0
AreRising {F} Told calls before reader notices = (front some back : List (WatchCall F)) → calls ≡ front ++ (some ++ back) → Stretch Told before reader front some notices
