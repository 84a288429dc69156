-- What the words behind the command are, each by itself, or why a word is refused.
use Rattle.std.specs.Prelude.{◌≡◌, ℕ, ◌-◌, ◌^◌, List, [], ◌∷◌, Bool, true, Option, None, Some, ◌==◌, nat_lt, is_some, if◌then◌else◌, codes, Result, Ok, Err}
use Rattle.hk_base.specs.KeyFaults.{key_fault}
use Rattle.hk_base.specs.declared.data.TheConstants.{MAX_DATA_LEN}
use Rattle.hk_request.specs.declared.request.RequestCause.{RequestCause}
use Rattle.hk_request.specs.declared.request.RequestCause.TheVariants.{Memory, WrongCount, BadKey, BadNumber, Expiry, TooLarge}
use Rattle.hk_request.specs.Words.{is_text, number_of}

-- one test after the other; the first that fails tells the cause
infixl 10 ◌>>=◌
abbrev pub ◌>>=◌ : {A B : Type 0} → Result A RequestCause → (A → Result B RequestCause) → Result B RequestCause
(Ok x) >>= f = f x
(Err e) >>= f = Err e

-- what a reader of the code gives is what reading gives, unless an allocation was refused
abbrev pub Fails : {A : Type 0} → RequestCause → Result A RequestCause → Type 0
Fails Memory read = Unit {0}
Fails e read = read ≡ Err e

abbrev pub Gives : {A : Type 0} → Result A RequestCause → Result A RequestCause → Type 0
Gives (Ok x) read = read ≡ Ok x
Gives (Err e) read = Fails e read

-- the key that a word is
abbrev pub key_of : List ℕ → Result (List ℕ) RequestCause
key_of word = if is_some (key_fault word) then Err BadKey else Ok word

-- the number that the word at a place is, the command being at place 1
abbrev pub number_or_fault : ℕ → Option ℕ → Result ℕ RequestCause
number_or_fault place None = Err (BadNumber place)
number_or_fault place (Some n) = Ok n

abbrev pub number_at : ℕ → ℕ → List ℕ → Result ℕ RequestCause
number_at place limit word = number_or_fault place (number_of limit word)

-- no time of expiry is kept but 0, which means never
abbrev pub never : ℕ → Result (Unit {0}) RequestCause
never n = if n == 0 then Ok tt else Err Expiry

-- the fourth word of a store, where it is 0; a number may have a minus sign, 45, and is then refused as one
unfoldable pub expiry_of : List ℕ → Result (Unit {0}) RequestCause
expiry_of [] = number_at 4 (2 ^ 64 - 1) [] >>= never
expiry_of (b ∷ bs) = if b == 45 then (number_at 4 (2 ^ 64 - 1) bs >>= λ n. Err Expiry) else (number_at 4 (2 ^ 64 - 1) (b ∷ bs) >>= never)

-- how long the data is, by the fifth word of a store
unfoldable pub size_of : List ℕ → Result ℕ RequestCause
size_of word = number_at 5 4294967295 word >>= λ n. if nat_lt MAX_DATA_LEN n then Err (TooLarge n) else Ok n

-- the tag of a cas, by its sixth word
unfoldable pub tag_of : Option (List ℕ) → Result (Option ℕ) RequestCause
tag_of None = Ok None
tag_of (Some word) = number_at 6 (2 ^ 64 - 1) word >>= λ n. Ok (Some n)

-- the last word, where it may be left out
abbrev pub noreply_of : List ℕ → Result Bool RequestCause
noreply_of word = if is_text word (codes "noreply") then Ok true else Err WrongCount
