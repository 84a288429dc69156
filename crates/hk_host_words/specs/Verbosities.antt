-- How much a process tells, by a word among those of its command.
use Rattle.std.specs.Prelude.{◌≡◌, ℕ, Bool, true, false, List, [], remove, Option, Some, String, string_bytes, codes, slice_get}
use Rattle.std.specs.Option.{option_map}
use Rattle.hk_host_words.specs.declared.verbosity.Verbosity.{Verbosity}
use Rattle.hk_host_words.specs.declared.verbosity.Verbosity.TheVariants.{Quiet, Usual, Verbose}

-- the word that tells it; without one a process tells the usual
abbrev pub word_of : Verbosity → List ℕ
word_of Quiet = codes "-q"
word_of Usual = []
word_of Verbose = codes "-v"

-- no word tells this
abbrev pub is_usual : Verbosity → Bool
is_usual Quiet = false
is_usual Usual = true
is_usual Verbose = false

-- its word stands at this place
abbrev pub Stands : {A : Type 0} → Verbosity → ℕ → List (String A) → Type 0
Stands verbosity place words = option_map (λ w. string_bytes w) (slice_get words place) ≡ Some (word_of verbosity)

-- these words without one that tells it
abbrev pub IsTakenOut : {A : Type 0} → Verbosity → List (String A) → List (String A) → Type 0
IsTakenOut Usual words left = left ≡ words
IsTakenOut Quiet words left = (place : ℕ) × Stands Quiet place words × (left ≡ remove words place)
IsTakenOut Verbose words left = (place : ℕ) × Stands Verbose place words × (left ≡ remove words place)
