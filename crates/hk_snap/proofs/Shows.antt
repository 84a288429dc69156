-- A list in which one more is published.
use Rattle.std.proofs.Common.{◌≡◌, ℕ, ◌+◌, ◌≤◌, List, [], ◌∷◌, ◌++◌, length, take, drop, Option, Some, None, Bool, true, false, if◌then◌else◌, nat_lt, refl, ap, ◌∙◌, arith, append_assoc, length-append}
use Rattle.std.specs.List.{AllByRecursion}
use Rattle.std.proofs.lemmas.List.{take_at, drop_at}
use Rattle.hk_base.specs.declared.call.State.{State}
use Rattle.hk_base.specs.declared.call.State.TheVariants.{Valid, Invalid, Write, Replay, Trans}
use Rattle.hk_base.specs.declared.stamp.Stamp.{Stamp}
use Rattle.hk_base.specs.declared.call.Content.{Content}
use Rattle.std.proofs.lemmas.Bool.Decides.{nat_tests}
use Rattle.hk_snap.specs.declared.snapshot.TheConstants.{MAX_SMALL_LEN}
use Rattle.hk_snap.specs.declared.rule.Publication.{Publication}
use Rattle.hk_snap.specs.declared.snapshot.Snapshot.{Snapshot}
use Rattle.hk_snap.specs.declared.snapshot.Shape.{Shape}
use Rattle.hk_snap.specs.declared.snapshot.Shape.TheVariants.{Small, Large, Missing}
use Rattle.hk_snap.specs.Packed.{packed, unpacked, words_for, bytes_in, AreBytes}
use Rattle.hk_snap.specs.Layout.{state_number, state_numbered, data_in, used, head_words, words_of, no_words, words_at, shown_in, IsInWords, AreFront, AreWords, CanShow}
use Rattle.hk_snap.proofs.Packing.{unpacks, length_packed, enough}
use Rattle.hk_snap.proofs.Using.{used_words}
use Rattle.std.specs.Str.{bytes_eq}
use Rattle.hk_snap.specs.Snapshots.{last_shown, snapshot_of, shape_of, glance_of, IsNext, IsRising}
use Rattle.hk_snap.specs.Rule.{IsInRange}

pub last_of_more : (log : List Publication) (p : Publication) → last_shown (log ++ p ∷ []) ≡ Some (snapshot_of p)
last_of_more [] p = refl
last_of_more (x ∷ []) p = refl
last_of_more (x ∷ y ∷ log) p = last_of_more (y ∷ log) p

pub rising_more : (log : List Publication) (p : Publication) → IsRising log → IsNext log p → IsRising (log ++ p ∷ [])
rising_more [] p h next = tt
rising_more (x ∷ []) p h next = (next, tt)
rising_more (x ∷ y ∷ log) p h next = (h.0, rising_more (y ∷ log) p h.1 next)

pub in_range_more : (log : List Publication) (p : Publication) → AllByRecursion IsInRange log → IsInRange p → AllByRecursion IsInRange (log ++ p ∷ [])
in_range_more [] p h is = (is, tt)
in_range_more (x ∷ log) p h is = (h.0, in_range_more log p h.1 is)

-- a beginning of a list in which tickets rise
pub rising_front : (xs ys : List Publication) → IsRising (xs ++ ys) → IsRising xs
rising_front [] ys h = tt
rising_front (x ∷ []) ys h = tt
rising_front (x ∷ y ∷ xs) ys h = (h.0, rising_front (y ∷ xs) ys h.1)

state_back : (state : State) → state_numbered (state_number state) ≡ state
state_back Valid = refl
state_back Invalid = refl
state_back Write = refl
state_back Replay = refl
state_back Trans = refl

-- the key and the data stand one behind the other
key_back : (key small rest : List ℕ) → AreBytes key → bytes_in (length key) ((packed (words_for (length key)) key ++ small) ++ rest) ≡ key
key_back key small rest all =
    let n : ℕ = words_for (length key) in
    ap (λ l. take (length key) (unpacked l)) (ap (take n) (append_assoc (packed n key) small rest) ∙ take_at (packed n key) (small ++ rest) n (length_packed n key))
    ∙ unpacks n key all (enough (length key))

small_back : (front small rest : List ℕ) (n : ℕ) → AreBytes small → length front ≡ n → bytes_in (length small) (drop n ((front ++ packed (words_for (length small)) small) ++ rest)) ≡ small
small_back front small rest n all long =
    let m : ℕ = words_for (length small) in
    let behind : drop n ((front ++ packed m small) ++ rest) ≡ packed m small ++ rest = ap (drop n) (append_assoc front (packed m small) rest) ∙ drop_at front (packed m small ++ rest) n long in
    ap (λ l. take (length small) (unpacked l)) (ap (take m) behind ∙ take_at (packed m small) rest m (length_packed m small))
    ∙ unpacks m small all (enough (length small))

-- words that begin with those of a snapshot show it
snapshot_back : (key : List ℕ) (state : State) (stamp : Stamp) (ticket : ℕ) (shape : Shape) (rest : List ℕ) → let s : Snapshot = record { key = key; state = state; stamp = stamp; ticket = ticket; shape = shape } in
    IsInWords s → shown_in (words_of s ++ rest) ≡ Some s
unfolding words_of shown_in
snapshot_back key state stamp ticket (Small content) rest is =
    let s : Snapshot = record { key = key; state = state; stamp = stamp; ticket = ticket; shape = Small content } in
    let n : ℕ = words_for (length key) in
    let m : ℕ = words_for (length content.bytes) in
    let k = key_back key (packed m content.bytes) rest is.key_bytes in
    let front : length (head_words s ++ packed n key) ≡ 9 + n = length-append (head_words s) (packed n key) ∙ ap (λ (z : ℕ). 9 + z) (length_packed n key) in
    let d = small_back (head_words s ++ packed n key) content.bytes rest (9 + n) is.small_bytes front in
    λ i. Some (record { key = k i; state = state_back state i; stamp = stamp; ticket = ticket; shape = Small (record { flags = content.flags; bytes = d i }) })
snapshot_back key state stamp ticket Large rest is =
    let k = key_back key (packed (words_for 0) []) rest is.key_bytes in
    λ i. Some (record { key = k i; state = state_back state i; stamp = stamp; ticket = ticket; shape = Large })
snapshot_back key state stamp ticket Missing rest is =
    let k = key_back key (packed (words_for 0) []) rest is.key_bytes in
    λ i. Some (record { key = k i; state = state_back state i; stamp = stamp; ticket = ticket; shape = Missing })

small_few : (content : Content) (large : Bool) → large ≡ nat_lt MAX_SMALL_LEN (length content.bytes) → length (data_in (if large then Large else Small content)) ≤ 1000
small_few content true e = omega arith
small_few content false e = grind (arith, nat_tests)

pub few : (content : Option Content) → length (data_in (shape_of content)) ≤ 1000
few None = omega arith
few (Some content) = small_few content _ refl

small_bytes_by : (content : Content) (large : Bool) → AreBytes content.bytes → AreBytes (data_in (if large then Large else Small content))
small_bytes_by content true all i = omega arith
small_bytes_by content false all i = all i

pub small_bytes : (content : Content) → AreBytes content.bytes → AreBytes (data_in (shape_of (Some content)))
small_bytes content all = small_bytes_by content (nat_lt MAX_SMALL_LEN (length content.bytes)) all

wide_back : (s : Snapshot) (rest : List ℕ) → used (length s.key) (length (data_in s.shape)) ≤ length (words_of s ++ rest)
wide_back s rest = let all : length (words_of s ++ rest) ≡ used (length s.key) (length (data_in s.shape)) + length rest = length-append (words_of s) rest ∙ ap (λ (n : ℕ). n + length rest) (used_words s) in omega (arith, all)

pub front_back : (s : Snapshot) (small rest : List ℕ) → IsInWords s → AreFront (((head_words s ++ packed (words_for (length s.key)) s.key) ++ small) ++ rest)
front_back s small rest is =
    let n : ℕ = words_for (length s.key) in
    let front : List ℕ = head_words s ++ packed n s.key in
    let long : length front ≡ 9 + n = length-append (head_words s) (packed n s.key) ∙ ap (λ (z : ℕ). 9 + z) (length_packed n s.key) in
    let all : length ((front ++ small) ++ rest) ≡ length front + length small + length rest = length-append (front ++ small) rest ∙ ap (λ (z : ℕ). z + length rest) (length-append front small) in
    record { version = is.version; node = is.node; key = is.key; place = omega (arith, long, all) }

words_back : (s : Snapshot) (rest : List ℕ) → IsInWords s → AreWords (words_of s ++ rest)
unfolding words_of
words_back s rest is = record { front = front_back s (packed (words_for (length (data_in s.shape))) (data_in s.shape)) rest is; flags = is.flags; small = is.small; wide = wide_back s rest }

nothing_back : (rest : List ℕ) → (shown_in (no_words ++ rest) ≡ None) × AreWords (no_words ++ rest)
unfolding shown_in no_words
nothing_back rest = (
  refl,
  record { front = record { version = omega arith; node = omega arith; key = omega arith; place = omega arith }; flags = omega arith; small = omega arith; wide = omega arith },
)

pub shown_back : (shown : Option Snapshot) (rest : List ℕ) → CanShow shown → (shown_in (words_at shown ++ rest) ≡ shown) × AreWords (words_at shown ++ rest)
shown_back None rest is = nothing_back rest
shown_back (Some s) rest is = (snapshot_back s.key s.state s.stamp s.ticket s.shape rest is, words_back s rest is)

pub last_in_range : (log : List Publication) → AllByRecursion IsInRange log → CanShow (last_shown log)
last_in_range [] all = tt
last_in_range (p ∷ []) all = all.0
last_in_range (p ∷ q ∷ log) all = last_in_range (q ∷ log) all.1

-- ---- where words of the data are wanting, the row is shown beside its content
pub glanced_back : (key : List ℕ) (state : State) (stamp : Stamp) (ticket : ℕ) (shape : Shape) (small rest k : List ℕ) → let s : Snapshot = record { key = key; state = state; stamp = stamp; ticket = ticket; shape = shape } in
    IsInWords s → glance_of (shown_in (((head_words s ++ packed (words_for (length key)) key) ++ small) ++ rest)) k ≡ glance_of (Some s) k
unfolding shown_in
glanced_back key state stamp ticket (Small content) small rest k is =
    let b = key_back key small rest is.key_bytes in
    λ i. if bytes_eq (b i) k then Some (record { state = state_back state i; stamp = stamp; is_large = false }) else None
glanced_back key state stamp ticket Large small rest k is =
    let b = key_back key small rest is.key_bytes in
    λ i. if bytes_eq (b i) k then Some (record { state = state_back state i; stamp = stamp; is_large = true }) else None
glanced_back key state stamp ticket Missing small rest k is =
    let b = key_back key small rest is.key_bytes in
    λ i. if bytes_eq (b i) k then Some (record { state = state_back state i; stamp = stamp; is_large = false }) else None
