-- The parts of a reply's text, each read from the front of some bytes: what it is and what comes behind it, or why
-- reading stops.
use Rattle.std.specs.Prelude.{◌≡◌, ℕ, ◌+◌, ◌-◌, ◌*◌, List, [], ◌∷◌, length, take, drop, Bool, ◌==◌, ◌&&◌, ◌||◌, not, nat_lt, nat_le, if◌then◌else◌, Option, None, Some, Result, Ok, Err}
use Rattle.std.specs.Char.{is_ascii_digit}
use Rattle.hk_base.specs.KeyBytes.{is_bad_byte}
use Rattle.hk_base.specs.declared.key.TheConstants.{MAX_KEY_LEN}
use Rattle.hk_reply.specs.declared.scan.Stop.{Stop}
use Rattle.hk_reply.specs.declared.scan.Stop.TheVariants.{Memory, Need, Bad}
use Rattle.hk_reply.specs.declared.scan.Tail.{Tail}
use Rattle.hk_reply.specs.declared.scan.Tail.TheVariants.{Space, Return, Either}

-- one part after the other
infixl 10 ◌>>=◌
abbrev pub ◌>>=◌ : {A B : Type 0} → Result A Stop → (A → Result B Stop) → Result B Stop
(Ok x) >>= f = f x
(Err e) >>= f = Err e

-- what a reader of the code gives is what reading gives, unless an allocation was refused
abbrev pub Fails : {A : Type 0} → Stop → Result A Stop → Type 0
Fails Memory read = Unit {0}
Fails e read = read ≡ Err e

abbrev pub Gives : {A B : Type 0} → (A → B) → Result A Stop → Result B Stop → Type 0
Gives view (Ok x) read = read ≡ Ok (view x)
Gives view (Err e) read = Fails e read

-- the byte at the front is one with which nothing goes on
abbrev pub bad : {A : Type 0} → List ℕ → Result A Stop
bad bytes = Err (Bad (length bytes))

-- this text
abbrev pub literal_at : List ℕ → List ℕ → Result (Unit {0} × List ℕ) Stop
literal_at [] bytes = Ok (tt, bytes)
literal_at (c ∷ cs) [] = Err Need
literal_at (c ∷ cs) (b ∷ bs) = if b == c then literal_at cs bs else bad (b ∷ bs)

-- whether a number may end before this byte
unfoldable pub ends_at : Tail → ℕ → Bool
ends_at Space b = b == 32
ends_at Return b = b == 13
ends_at Either b = (b == 32) || (b == 13)

-- a number with one more digit, where there is no spare zero and the limit is kept
unfoldable pub longer : ℕ → ℕ → ℕ → Option ℕ
longer limit n b =
    if not (is_ascii_digit b) then None
    else (if n == 0 then None
    else (if nat_le (n * 10 + (b - 48)) limit then Some (n * 10 + (b - 48)) else None))

abbrev pub and_then : {A B : Type 0} → Option A → B → (A → B) → B
and_then None none some = none
and_then (Some x) none some = some x

-- the rest of a number, and the byte behind it
abbrev pub number_from : ℕ → Tail → ℕ → List ℕ → Result ((ℕ × ℕ) × List ℕ) Stop
number_from limit tail n [] = Err Need
number_from limit tail n (b ∷ bs) = if ends_at tail b then Ok ((n, b), bs) else and_then (longer limit n b) (bad (b ∷ bs)) (λ more. number_from limit tail more bs)

-- a decimal number with no spare zero, and the byte behind it
abbrev pub number_at : ℕ → Tail → List ℕ → Result ((ℕ × ℕ) × List ℕ) Stop
number_at limit tail [] = Err Need
number_at limit tail (b ∷ bs) = if is_ascii_digit b then number_from limit tail (b - 48) bs else bad (b ∷ bs)

-- the rest of a key of which n bytes were read, and the space behind it
abbrev pub key_from : ℕ → List ℕ → Result (List ℕ × List ℕ) Stop
key_from n [] = Err Need
key_from n (b ∷ bs) =
    if (b == 32) && nat_lt 0 n then Ok ([], bs)
    else (if is_bad_byte b || (n == MAX_KEY_LEN) then bad (b ∷ bs)
    else (key_from (n + 1) bs >>= λ k. Ok (b ∷ k.0, k.1)))

-- so many bytes, whatever they are
unfoldable pub data_at : ℕ → List ℕ → Result (List ℕ × List ℕ) Stop
data_at n bytes = if nat_lt (length bytes) n then Err Need else Ok (take n bytes, drop n bytes)
