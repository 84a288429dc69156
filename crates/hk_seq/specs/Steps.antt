-- Which words of a value are in use, and what the steps tell that the kit's cell does not make.
use Rattle.std.specs.Prelude.{◌≡◌, ℕ, ◌+◌, ◌<◌, ◌≤◌, min, List, ◌++◌, length, take, drop, slice_index}
use Rattle.atomic_table.specs.Table.{Me, Step}
use Rattle.crossbeam_utils.specs.declared.atomic.seq_cell.Doing.{Doing}
use Rattle.crossbeam_utils.specs.declared.atomic.seq_cell.Stage.{Stage}
use Rattle.crossbeam_utils.specs.declared.atomic.seq_cell.Stage.TheVariants.{Writing}
use Rattle.crossbeam_utils.specs.Seq.{IsSameView, Gathered}

-- the first of the n words of a value tells how many of them are in use, itself counted
abbrev pub in_use : ℕ → List ℕ → ℕ
in_use n words = min (slice_index words 0) n

-- the words in use of the new value, and behind them those of the old one
abbrev pub over : ℕ → List ℕ → List ℕ → List ℕ
over n new old = take (in_use n new) new ++ drop (in_use n new) old

-- the room has the words of the value that are in use
abbrev pub HasInUse : ℕ → List ℕ → List ℕ → Type 0
HasInUse n room x = (length x ≡ n) × (take (in_use n x) room ≡ take (in_use n x) x)

-- the words in use were read one after the other
abbrev pub IsGathered : ℕ → List ℕ → Stage (List ℕ) → Stage (List ℕ) → Type 0
IsGathered n room before after =
    (length room ≡ n) × (count : ℕ) × (0 < count) × (in_use n room ≤ count) × Gathered (λ x. x) count room before after

-- one word more is written
abbrev pub bumped : {T : Type 0} → Stage T → Stage T
bumped (Writing at old new k) = Writing at old new (k + 1)
bumped stage = stage

-- the number is the word that the writer is to write next
abbrev pub IsNextWord : {T : Type 0} → (T → List ℕ) → ℕ → Stage T → Type 0
IsNextWord words r (Writing at old new k) = r ≡ slice_index (words new) k
IsNextWord words r stage = ⊥

-- the seat writes this value, with this version, and has written so many words
abbrev pub IsWriting : {T : Type 0} → ℕ → T → ℕ → Stage T → Type 0
IsWriting {T} at new k stage = (old : T) × (stage ≡ Writing at old new k)

module _ {T V : Type 0} where
  -- a word that is already as it is to be counts as written
  abbrev pub matched : (T → List ℕ) → Step T → Me T (Doing T V) → ℕ → Me T (Doing T V) → Type 0
  matched words st m r m' =
      IsSameView m m' × (IsNextWord words r m.0.stage → m'.0.stage ≡ bumped m.0.stage) × (¬ IsNextWord words r m.0.stage → m'.0.stage ≡ m.0.stage)

  -- at some moment the cell had a value, and the caller's step was made at it
  abbrev pub noted : (V → T → T → V → Type 0) → Step T → Me T (Doing T V) → ℕ → Me T (Doing T V) → Type 0
  noted then st m r m' = (x : T) × then m.0.client x x m'.0.client

-- The writer has written so many words of the new value over the old one, and the caller's step is made of that.
abbrev pub published_over : {V : Type 0} → (V → List ℕ → List ℕ → V → Type 0) → Step (List ℕ) → Me (List ℕ) (Doing (List ℕ) V) → ℕ → Me (List ℕ) (Doing (List ℕ) V) → Type 0
published_over then st m r m' =
    (at : ℕ) (old new : List ℕ) (k : ℕ) → m.0.stage ≡ Writing at old new k → then m.0.client old (take k new ++ drop k old) m'.0.client
