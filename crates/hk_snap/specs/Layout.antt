-- The words in use of a snapshot, with which a cell's words begin. No contract of a public call rests on their layout: what is loaded is said by `last_shown`.
use Rattle.std.specs.Prelude.{⊤, ℕ, ◌+◌, ◌<◌, ◌≤◌, ◌^◌, List, [], ◌∷◌, ◌++◌, length, take, drop, replicate, slice_index, Option, Some, None, ◌==◌, if◌then◌else◌}
use mathlib.Core.List.{IsPrefix}
use Rattle.hk_base.specs.Range.{IsWithin}
use Rattle.hk_base.specs.declared.call.State.{State}
use Rattle.hk_base.specs.declared.call.State.TheVariants.{Valid, Invalid, Write, Replay, Trans}
use Rattle.hk_base.specs.declared.stamp.TheConstants.{MAX_VERSION}
use Rattle.hk_snap.specs.declared.snapshot.Snapshot.{Snapshot}
use Rattle.hk_snap.specs.declared.snapshot.Shape.{Shape}
use Rattle.hk_snap.specs.declared.snapshot.Shape.TheVariants.{Small, Large, Missing}
use Rattle.hk_snap.specs.Packed.{packed, words_for, bytes_in, AreBytes}

abbrev pub state_number : State → ℕ
state_number Valid = 0
state_number Invalid = 1
state_number Write = 2
state_number Replay = 3
state_number Trans = 4

abbrev pub state_numbered : ℕ → State
state_numbered n = if n == 0 then Valid else if n == 1 then Invalid else if n == 2 then Write else if n == 3 then Replay else Trans

-- 0 is the number of no shape: nothing was published
abbrev pub shape_number : Shape → ℕ
shape_number (Small content) = 1
shape_number Large = 2
shape_number Missing = 3

abbrev pub flags_in : Shape → ℕ
flags_in (Small content) = content.flags
flags_in shape = 0

abbrev pub data_in : Shape → List ℕ
data_in (Small content) = content.bytes
data_in shape = []

abbrev pub shape_numbered : ℕ → ℕ → List ℕ → Shape
shape_numbered n flags bytes = if n == 1 then Small (record { flags = flags; bytes = bytes }) else if n == 2 then Large else Missing

-- how many words show a key and data of these lengths
abbrev pub used : ℕ → ℕ → ℕ
used key small = 9 + words_for key + words_for small

-- the first nine words; the first of all tells how many are in use
abbrev pub head_words : Snapshot → List ℕ
head_words s =
    used (length s.key) (length (data_in s.shape)) ∷ shape_number s.shape ∷ state_number s.state ∷ s.stamp.version ∷ s.stamp.node ∷ s.ticket ∷ flags_in s.shape ∷ length s.key ∷ length (data_in s.shape) ∷ []

-- the words that show a snapshot
unfoldable pub words_of : Snapshot → List ℕ
words_of s = head_words s ++ packed (words_for (length s.key)) s.key ++ packed (words_for (length (data_in s.shape))) (data_in s.shape)

-- those of a cell in which nothing was published: a head alone
unfoldable pub no_words : List ℕ
no_words = 9 ∷ replicate 8 0

abbrev pub words_at : Option Snapshot → List ℕ
words_at None = no_words
words_at (Some s) = words_of s

abbrev pub key_in : List ℕ → List ℕ
key_in words = bytes_in (slice_index words 7) (drop 9 words)

abbrev pub small_in : List ℕ → List ℕ
small_in words = bytes_in (slice_index words 8) (drop (9 + words_for (slice_index words 7)) words)

abbrev pub snapshot_in : List ℕ → Snapshot
snapshot_in words = record {
  key = key_in words;
  state = state_numbered (slice_index words 2);
  stamp = record { version = slice_index words 3; node = slice_index words 4 };
  ticket = slice_index words 5;
  shape = shape_numbered (slice_index words 1) (slice_index words 6) (small_in words);
}

-- what words show
unfoldable pub shown_in : List ℕ → Option Snapshot
shown_in words = if slice_index words 1 == 0 then None else Some (snapshot_in words)

-- words can show it: its parts are within the ranges of their types
pub record IsInWords (s : Snapshot) : Type 0 where
  pub key : length s.key ≤ 250
  pub key_bytes : AreBytes s.key
  pub version : IsWithin s.stamp
  pub node : s.stamp.node < 2 ^ 16
  pub flags : flags_in s.shape < 2 ^ 32
  pub small : length (data_in s.shape) ≤ 1000
  pub small_bytes : AreBytes (data_in s.shape)

-- the first words are within the ranges of what they stand for, and those of the key stand behind them
pub record AreFront (words : List ℕ) : Type 0 where
  pub version : slice_index words 3 ≤ MAX_VERSION
  pub node : slice_index words 4 < 2 ^ 16
  pub key : slice_index words 7 ≤ 250
  pub place : 9 + words_for (slice_index words 7) ≤ length words

-- so it is, and with the words of the data
pub record AreWords (words : List ℕ) : Type 0 where
  pub front : AreFront words
  pub flags : slice_index words 6 < 2 ^ 32
  pub small : slice_index words 8 ≤ 1000
  pub wide : used (slice_index words 7) (slice_index words 8) ≤ length words

-- words can show it, where it is anything
abbrev pub CanShow : Option Snapshot → Type 0
CanShow None = ⊤
CanShow (Some s) = IsInWords s

-- What a room keeps of the words in use that show this: those of the head and the key, and of the data's as many as it has place for.
pub record Keeps (room : List ℕ) (shown : Option Snapshot) : Type 0 where
  pub wide : 41 ≤ length room
  pub front : IsPrefix (take (length room) (words_at shown)) room
  pub able : CanShow shown
