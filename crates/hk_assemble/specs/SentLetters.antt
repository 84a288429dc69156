-- The letters that were sent, as they are kept by their marks.
use Rattle.std.specs.Prelude.{ℕ, ◌+◌, List, [], ◌∷◌, ◌++◌, Bool, Option, Some, None}
use Rattle.std.specs.List.{find}
use Rattle.std.specs.Ordering.{nat_cmp}
use Rattle.std.specs.Cmp.Lexicographic.{slice_cmp}
use Rattle.std.specs.BTreeMap.{insert_entry, is_at}
use Rattle.std.specs.Map.{lookup, set_value}
use Rattle.hk_base.specs.declared.letter.Letter.{Letter}
use Rattle.hk_merge.specs.Same.{same_letter}
use Rattle.hk_assemble.specs.declared.sent.Sent.{Sent}
use Rattle.hk_assemble.specs.Marks.{mark_of}

abbrev pub Buckets : Type 0
Buckets = List (List ℕ × List Sent)

abbrev pub is_same : Letter → Sent → Bool
is_same letter sent = same_letter sent.letter letter

abbrev pub found_in : Option (List Sent) → Letter → Option Sent
found_in None letter = None
found_in (Some bucket) letter = find (is_same letter) bucket

abbrev pub bucket_at : List ℕ → Buckets → Option (List Sent)
bucket_at mark sent = lookup (is_at (slice_cmp nat_cmp mark)) sent

-- the copy that is kept of a letter
abbrev pub found : Buckets → Letter → Option Sent
found sent letter = found_in (bucket_at (mark_of letter) sent) letter

-- with a letter behind the others of its mark
abbrev pub put_in : Option (List Sent) → Buckets → List ℕ → Sent → Buckets
put_in None sent mark first = insert_entry (slice_cmp nat_cmp) sent mark (first ∷ [])
put_in (Some bucket) sent mark first = set_value (is_at (slice_cmp nat_cmp mark)) sent (bucket ++ first ∷ [])

abbrev pub with_sent : Buckets → Sent → Buckets
with_sent sent first = put_in (bucket_at (mark_of first.letter) sent) sent (mark_of first.letter) first

-- only the first copy is kept
abbrev pub kept_or : Option Sent → Buckets → Sent → Buckets
kept_or (Some first) sent copy = sent
kept_or None sent copy = with_sent sent copy

abbrev pub with_letter : Buckets → Sent → Buckets
with_letter sent copy = kept_or (found sent copy.letter) sent copy

-- the letters of one ticket, of which the first one has that number
abbrev pub with_letters : Buckets → ℕ → ℕ → List Letter → Buckets
with_letters sent number ticket [] = sent
with_letters sent number ticket (letter ∷ letters) = with_letters (with_letter sent (record { letter = letter; number = number; ticket = ticket })) (number + 1) ticket letters
