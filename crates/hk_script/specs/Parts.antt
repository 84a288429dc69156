-- What each word is read as. That this turns specs/Words.antt around is proved in proofs/Spelling.antt and proofs/Actors.antt.
use Rattle.std.specs.Prelude.{◌≡◌, ℕ, zero, suc, ◌+◌, ◌*◌, ◌-◌, ◌^◌, List, [], ◌∷◌, length, Bool, false, Option, None, Some, is_some, ◌==◌, ◌&&◌, not, nat_lt, nat_le, nat_eq, if◌then◌else◌, codes, option_and_then, slice_index, Result, Ok, Err, ⊤}
use Rattle.std.specs.Option.{option_map}
use Rattle.std.specs.List.{list_all, slice_split}
use Rattle.std.specs.Char.{is_ascii_digit}
use Rattle.std.specs.Str.Parse.{digits_value}
use Rattle.std.specs.Cmp.Lexicographic.{pointwise}
use Rattle.hk_base.specs.declared.letter.Actor.{Actor}
use Rattle.hk_base.specs.declared.letter.Actor.TheVariants.{Node, Manager}
use Rattle.hk_base.specs.declared.stamp.NodeId.{NodeId}
use Rattle.hk_base.specs.declared.time.TheConstants.{MAX_TIME}
use Rattle.hk_base.specs.KeyFaults.{key_fault, data_fault}
use Rattle.hk_script.specs.Words.{is_plain}
use denote.Ref.{Bor}

infixl 10 ◌>>=◌
abbrev pub ◌>>=◌ : {A B : Type 0} → Option A → (A → Option B) → Option B
o >>= f = option_and_then f o

-- what code gives, unless memory ran out
abbrev pub Reads : {A E : Type 0} → Result (Option A) E → Option A → Type 0
Reads (Ok x) read = read ≡ x
Reads (Err e) read = ⊤

abbrev pub is_space : ℕ → Bool
is_space b = b == 32

abbrev pub fields : List ℕ → List (List ℕ)
fields line = slice_split is_space line

abbrev pub is_text : List ℕ → List ℕ → Bool
is_text word text = pointwise nat_eq word text

-- ---- numbers
-- whether the first digit is 0 and others follow
abbrev pub has_spare_zero : List ℕ → Bool
has_spare_zero word = if length word == 1 then false else slice_index word 0 == 48

-- the value of digits with no spare zero, up to a limit
unfoldable pub number_of : ℕ → List ℕ → Option ℕ
number_of limit word =
    if length word == 0 then None
    else (if not (list_all is_ascii_digit word) then None
    else (if has_spare_zero word then None
    else (if nat_lt (digits_value 10 word) (2 ^ 64) then (if nat_le (digits_value 10 word) limit then Some (digits_value 10 word) else None) else None)))

-- ---- bytes
unfoldable pub digit_of : ℕ → Option ℕ
digit_of b =
    if nat_le 48 b && nat_le b 57 then Some (b - 48)
    else (if nat_le 65 b && nat_le b 70 then Some (b - 55) else None)

-- two digits, of a byte that does not stand for itself
unfoldable pub escape_of : ℕ → ℕ → Option ℕ
escape_of h l = do
  high ← digit_of h
  low ← digit_of l
  if is_plain (16 * high + low) then None else Some (16 * high + low)

-- what stands behind a `%`, and what follows it
unfoldable pub escaped_at : List ℕ → Option (ℕ × List ℕ)
escaped_at (h ∷ l ∷ rest) = option_map (λ b. (b, rest)) (escape_of h l)
escaped_at bytes = None

-- the byte that a word begins with, and what follows it
unfoldable pub byte_at : ℕ → List ℕ → Option (ℕ × List ℕ)
byte_at b rest = if b == 37 then escaped_at rest else (if is_plain b then Some (b, rest) else None)

-- the bytes of a word, of which there are at most n
unfoldable pub unspelled : ℕ → List ℕ → Option (List ℕ)
unspelled n [] = Some []
unspelled zero (b ∷ rest) = None
unspelled (suc n) (b ∷ rest) = byte_at b rest >>= λ r. option_map (λ bytes. r.0 ∷ bytes) (unspelled n r.1)

unfoldable pub bytes_of : List ℕ → Option (List ℕ)
bytes_of word =
    if length word == 0 then None
    else (if is_text word (codes "-") then Some []
    else (if is_text word (codes "%2D") then Some (45 ∷ [])
    else unspelled (length word) word))

unfoldable pub key_of : List ℕ → Option (List ℕ)
key_of word = bytes_of word >>= λ bytes. if is_some (key_fault bytes) then None else Some bytes

unfoldable pub data_of : List ℕ → Option (List ℕ)
data_of word = bytes_of word >>= λ bytes. if is_some (data_fault bytes) then None else Some bytes

-- ---- actors, times and rooms
unfoldable pub node_of : List ℕ → Option NodeId
node_of word = option_map (λ n. record { 0 = n }) (number_of 65535 word)

unfoldable pub manager_of : List ℕ → Option ℕ
manager_of [] = None
manager_of (b ∷ digits) = if b == 109 then number_of 8 digits else None

unfoldable pub actor_of : List ℕ → Option Actor
actor_of [] = None
actor_of (b ∷ rest) = if b == 109 then option_map Manager (number_of 8 rest) else option_map Node (node_of (b ∷ rest))

-- an actor, or `all`
abbrev pub actor_or_all : Option Actor → Bool → Option (Option Actor)
actor_or_all (Some actor) all = Some (Some actor)
actor_or_all None all = if all then Some None else None

unfoldable pub target_of : List ℕ → Option (Option Actor)
target_of word = actor_or_all (actor_of word) (is_text word (codes "all"))

abbrev pub number_64 : List ℕ → Option ℕ
number_64 word = number_of 18446744073709551615 word

abbrev pub flags_of : List ℕ → Option ℕ
flags_of word = number_of 4294967295 word

abbrev pub time_of : List ℕ → Option ℕ
time_of word = number_of MAX_TIME word

-- a number from 1 on
unfoldable pub some_of : ℕ → List ℕ → Option ℕ
some_of limit word = number_of limit word >>= λ n. if n == 0 then None else Some n

-- a line, cut at its first space
abbrev pub IsCut : Option (Bor (List ℕ) × Bor (List ℕ)) → List ℕ → Type 0
IsCut None line = fields line ≡ line ∷ []
IsCut (Some r) line = fields line ≡ r.0.now ∷ fields r.1.now
