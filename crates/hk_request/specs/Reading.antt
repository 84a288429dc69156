-- The tests of a line in their order: what it is, or its first fault.
use Rattle.std.specs.Prelude.{◌≡◌, ◌≤◌, ◌<◌, ℕ, ◌+◌, ◌-◌, ◌^◌, List, [], ◌∷◌, Bool, true, false, Option, None, Some, if◌then◌else◌, Result, Ok, Err}
use Rattle.hk_base.specs.declared.call.Op.TheVariants as op
use Rattle.hk_base.specs.declared.data.TheConstants.{MAX_DATA_LEN}
use Rattle.hk_request.specs.declared.words.Command.{Command}
use Rattle.hk_request.specs.declared.words.Command.TheVariants as command
use Rattle.hk_request.specs.declared.line.Change.{Change}
use Rattle.hk_request.specs.declared.request.Request.{Request}
use Rattle.hk_request.specs.declared.request.Request.TheVariants.{Get, Update, Quit, Version}
use Rattle.hk_request.specs.declared.request.Verb.{Verb}
use Rattle.hk_request.specs.declared.request.Verb.TheVariants as verb
use Rattle.hk_request.specs.declared.request.Head.{Head}
use Rattle.hk_request.specs.declared.request.Head.TheVariants.{Whole, Store}
use Rattle.hk_request.specs.declared.request.RequestCause.{RequestCause}
use Rattle.hk_request.specs.declared.request.RequestCause.TheVariants as cause
use Rattle.hk_request.specs.declared.request.RequestFault.{RequestFault}
use Rattle.hk_request.specs.Words.{words_of, number_of}
use Rattle.hk_request.specs.Commands.{command_of, has_block}
use Rattle.hk_request.specs.Fields.{◌>>=◌, key_of, number_at, expiry_of, size_of, tag_of, noreply_of}

-- a store of the words behind its command, each tested before the next
unfoldable pub store_of : Verb → List ℕ → List ℕ → List ℕ → List ℕ → Option (List ℕ) → Bool → Result Head RequestCause
store_of v k f e b t noreply = do
  key ← key_of k
  flags ← number_at 3 4294967295 f
  never ← expiry_of e
  size ← size_of b
  tag ← tag_of t
  Ok (Store (record { verb = v; key = key; flags = flags; tag = tag; bytes = size; noreply = noreply }))

-- a store without a tag
unfoldable pub untagged_of : Verb → List (List ℕ) → Result Head RequestCause
untagged_of v (k ∷ f ∷ e ∷ b ∷ []) = store_of v k f e b None false
untagged_of v (k ∷ f ∷ e ∷ b ∷ last ∷ []) = noreply_of last >>= λ noreply. store_of v k f e b None noreply
untagged_of v words = Err cause.WrongCount

unfoldable pub cas_of : List (List ℕ) → Result Head RequestCause
cas_of (k ∷ f ∷ e ∷ b ∷ t ∷ []) = store_of verb.Cas k f e b (Some t) false
cas_of (k ∷ f ∷ e ∷ b ∷ t ∷ last ∷ []) = noreply_of last >>= λ noreply. store_of verb.Cas k f e b (Some t) noreply
cas_of words = Err cause.WrongCount

-- what an incr or a decr tells
unfoldable pub step_of : List ℕ → List ℕ → Bool → Result Change RequestCause
step_of k v noreply = do
  key ← key_of k
  by ← number_at 3 (2 ^ 64 - 1) v
  Ok (record { key = key; by = by; noreply = noreply })

unfoldable pub change_of : List (List ℕ) → Result Change RequestCause
change_of (k ∷ v ∷ []) = step_of k v false
change_of (k ∷ v ∷ last ∷ []) = noreply_of last >>= λ noreply. step_of k v noreply
change_of words = Err cause.WrongCount

-- a delete of a key
unfoldable pub deletion_of : List ℕ → Bool → Result Head RequestCause
deletion_of k noreply = key_of k >>= λ key. Ok (Whole (Update key op.Delete noreply))

unfoldable pub delete_of : List (List ℕ) → Result Head RequestCause
delete_of (k ∷ []) = deletion_of k false
delete_of (k ∷ last ∷ []) = noreply_of last >>= λ noreply. deletion_of k noreply
delete_of words = Err cause.WrongCount

-- the keys that words are
abbrev pub keys_of : List (List ℕ) → Result (List (List ℕ)) RequestCause
keys_of [] = Ok []
keys_of (w ∷ ws) = key_of w >>= λ k. keys_of ws >>= λ ks. Ok (k ∷ ks)

unfoldable pub get_of : Bool → List (List ℕ) → Result Head RequestCause
get_of tags [] = Err cause.WrongCount
get_of tags (w ∷ ws) = keys_of (w ∷ ws) >>= λ ks. Ok (Whole (Get ks tags))

abbrev pub alone_of : List (List ℕ) → Request → Result Head RequestCause
alone_of [] request = Ok (Whole request)
alone_of (w ∷ ws) request = Err cause.WrongCount

-- what a command asks for, by the words behind it
unfoldable pub asked_of : Command → List (List ℕ) → Result Head RequestCause
asked_of command.Get words = get_of false words
asked_of command.Gets words = get_of true words
asked_of command.Set words = untagged_of verb.Set words
asked_of command.Cas words = cas_of words
asked_of command.Add words = untagged_of verb.Add words
asked_of command.Replace words = untagged_of verb.Replace words
asked_of command.Incr words = change_of words >>= λ c. Ok (Whole (Update c.key (op.Incr c.by) c.noreply))
asked_of command.Decr words = change_of words >>= λ c. Ok (Whole (Update c.key (op.Decr c.by) c.noreply))
asked_of command.Delete words = delete_of words
asked_of command.Quit words = alone_of words Quit
asked_of command.Version words = alone_of words Version

abbrev pub asked_by : Option Command → List (List ℕ) → Result Head RequestCause
asked_by None words = Err cause.Unknown
asked_by (Some command) words = asked_of command words

-- what words are, the first of which is the command
unfoldable pub head_of_words : List (List ℕ) → Result Head RequestCause
head_of_words [] = Err cause.Unknown
head_of_words (word ∷ words) = asked_by (command_of word) words

-- the length of a refused block with its end, where the fifth word of a store tells it; else nothing
unfoldable pub skip_of : List (List ℕ) → ℕ
skip_of (word ∷ k ∷ f ∷ e ∷ b ∷ words) = if has_block word then length_with_end (number_of 4294967295 b) else 0
  where
    length_with_end : Option ℕ → ℕ
    length_with_end None = 0
    length_with_end (Some n) = n + 2
skip_of words = 0

abbrev pub with_skip : ℕ → Result Head RequestCause → Result Head RequestFault
with_skip skip (Ok h) = Ok h
with_skip skip (Err e) = Err (record { cause = e; skip = skip })

-- what a line is, or its first fault and how much comes behind it
unfoldable pub head_of : List ℕ → Result Head RequestFault
head_of line = with_skip (skip_of (words_of line)) (head_of_words (words_of line))

-- what reading a line gives is that, unless an allocation was refused
abbrev pub FailsHead : RequestCause → RequestFault → Result Head RequestFault → Type 0
FailsHead cause.Memory fault read = Unit {0}
FailsHead e fault read = read ≡ Err fault

abbrev pub ReadsHead : Result Head RequestFault → Result Head RequestFault → Type 0
ReadsHead (Ok h) read = read ≡ Ok h
ReadsHead (Err f) read = FailsHead f.cause f read

-- a head's block is no longer than data, and a skip is below 2 ^ 33
abbrev pub IsWithinHead : Head → Type 0
IsWithinHead (Store h) = h.bytes ≤ MAX_DATA_LEN
IsWithinHead (Whole r) = Unit {0}

abbrev pub IsWithin : Result Head RequestFault → Type 0
IsWithin (Ok h) = IsWithinHead h
IsWithin (Err f) = f.skip < 2 ^ 33
