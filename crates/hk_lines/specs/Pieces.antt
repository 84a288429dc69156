-- That it makes no difference how the bytes are cut into pieces, and that a line that is too long is the end.
use Rattle.std.specs.Prelude.{◌≡◌, ◌≢◌, ℕ, List, ◌++◌}
use Rattle.hk_lines.specs.Cut.{Cutting, IsCutting, fed, with_room, written, filled, skipped, expecting, stepped}
use Rattle.hk_lines.specs.declared.due.Due.TheVariants as due
use Rattle.hk_lines.specs.declared.step.Step.TheVariants.{Need, TooLong}

-- two pieces do what the one does that they make
abbrev pub PiecesJoin : Type 0
PiecesJoin = (c : Cutting) (a b : List ℕ) → fed (fed c a) b ≡ fed c (a ++ b)

-- bytes may as well be skipped after more came
abbrev pub SkipCommutes : Type 0
SkipCommutes = (c : Cutting) → IsCutting c → (count : ℕ) (more : List ℕ) →
    fed (skipped c count) more ≡ skipped (fed c more) count

-- a block may as well be expected after more came
abbrev pub ExpectCommutes : Type 0
ExpectCommutes = (c : Cutting) (count : ℕ) (more : List ℕ) → fed (expecting c count) more ≡ expecting (fed c more) count

-- A step that is there may as well be taken after more came: it is the same, it gives the same, and what came stands
-- behind what it leaves.
abbrev pub StepStays : Type 0
StepStays = (c : Cutting) (more : List ℕ) → (stepped c).step ≢ Need →
    ((stepped (fed c more)).step ≡ (stepped c).step) × ((stepped (fed c more)).rest ≡ record (fed (stepped c).rest more) { given = (stepped c).rest.given })

-- a call after which nothing is due where nothing was due before it
abbrev pub StaysOver : (Cutting → Cutting) → Type 0
StaysOver call = (c : Cutting) → c.due ≡ due.Nothing → (call c).due ≡ due.Nothing

-- A step that tells TooLong leaves nothing due; each call leaves that so; and where nothing is due each step tells TooLong. So a cutter that
-- told it tells it for ever.
pub record LongStays : Type 0 where
  pub left : (c : Cutting) → (stepped c).step ≡ TooLong → (stepped c).rest.due ≡ due.Nothing
  pub told : (c : Cutting) → c.due ≡ due.Nothing → (stepped c).step ≡ TooLong
  pub next : StaysOver (λ c. (stepped c).rest)
  pub feed : (piece : List ℕ) → StaysOver (λ c. fed c piece)
  pub make_room : (room : List ℕ) → StaysOver (λ c. with_room c room)
  pub write : (bytes : List ℕ) → StaysOver (λ c. written c bytes)
  pub fill : (count : ℕ) → StaysOver (λ c. filled c count)
  pub skip : (count : ℕ) → StaysOver (λ c. skipped c count)
  pub expect_block : (count : ℕ) → StaysOver (λ c. expecting c count)
