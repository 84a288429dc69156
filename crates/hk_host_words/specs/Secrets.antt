-- The secret of a group, as its file holds it.
use Rattle.std.specs.Prelude.{◌≡◌, ◌≤◌, ◌<◌, ⊤, ℕ, ◌==◌, List, length, take, position, Option, None, Some, Result, Ok, Err}
use Rattle.hk_host_words.specs.declared.secret.TheConstants.{MIN_SECRET_LEN, MAX_SECRET_LEN}
use Rattle.hk_host_words.specs.declared.secret.SecretFault.{SecretFault}
use Rattle.hk_host_words.specs.declared.secret.SecretFault.TheVariants.{Memory, Short, Long}

-- so many bytes of a text, or all of it
abbrev pub up_to : Option ℕ → List ℕ → List ℕ
up_to None bytes = bytes
up_to (Some at) bytes = take at bytes

-- what stands before the first line feed
abbrev pub first_line : List ℕ → List ℕ
first_line bytes = up_to (position (λ b. b == 10) bytes) bytes

-- the first line of a file is its secret, or is too short or too long to be one
abbrev pub IsSecretRead : Result (List ℕ) SecretFault → List ℕ → Type 0
IsSecretRead (Ok secret) bytes =
    (secret ≡ first_line bytes) × (MIN_SECRET_LEN ≤ length secret) × (length secret ≤ MAX_SECRET_LEN)
IsSecretRead (Err Short) bytes = length (first_line bytes) < MIN_SECRET_LEN
IsSecretRead (Err Long) bytes = MAX_SECRET_LEN < length (first_line bytes)
IsSecretRead (Err Memory) bytes = ⊤
