-- HMAC with SHA-256, after RFC 2104: a digest of a message that only who knows the key can make. And the digest of a
-- group's hosts.
use Rattle.std.specs.Prelude.{ℕ, ◌-◌, List, [], ◌∷◌, ◌++◌, length, take, map, replicate, nat_lt, bit_xor, if◌then◌else◌}
use Rattle.std.specs.List.{flat_map}
use Rattle.sha2.specs.Sha256.{sha256}
use Rattle.hk_hello.specs.declared.mac.TheConstants.{BLOCK}

-- a key as long as a block of the digest: one that is longer is digested first, and zeros fill the rest
abbrev pub short_key : List ℕ → List ℕ
short_key key = if nat_lt BLOCK (length key) then sha256 key else key

unfoldable pub key_block : List ℕ → List ℕ
key_block key = short_key key ++ replicate (BLOCK - length (short_key key)) 0

-- each byte with the bits of a mask turned over
unfoldable pub masked : ℕ → List ℕ → List ℕ
masked mask bytes = map (λ b. bit_xor b mask) bytes

-- the digest of the key and the message, and the digest of the key and that
unfoldable pub hmac : List ℕ → List ℕ → List ℕ
hmac key message = sha256 (masked 0x5c (key_block key) ++ sha256 (masked 0x36 (key_block key) ++ message))

-- texts with a comma between each two
abbrev pub joined : List (List ℕ) → List ℕ
joined [] = []
joined (host ∷ hosts) = host ++ flat_map (λ h. 44 ∷ h) hosts

-- the first 8 bytes of the SHA-256 of all hosts in their order
abbrev pub hosts_digest : List (List ℕ) → List ℕ
hosts_digest hosts = take 8 (sha256 (joined hosts))
