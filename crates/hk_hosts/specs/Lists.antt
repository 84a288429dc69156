-- Lists of hosts as text.
use Rattle.std.specs.Prelude.{◌≡◌, ◌==◌, ◌||◌, ⊤, ℕ, Bool, true, false, if◌then◌else◌, List, [], ◌∷◌, ◌++◌, length, Result, Ok, Err}
use Rattle.std.specs.List.{slice_split, list_any}
use Rattle.hk_hosts.specs.declared.address.Address.{Address}
use Rattle.hk_hosts.specs.declared.address.AddressFault.{AddressFault}
use Rattle.hk_hosts.specs.declared.address.AddressFault.TheVariants as address
use Rattle.hk_hosts.specs.declared.hosts.HostsFault.{HostsFault}
use Rattle.hk_hosts.specs.declared.hosts.HostsFault.TheVariants.{Memory, Malformed, Count, Twice}
use Rattle.hk_hosts.specs.Addresses.{address_text, IsTextOf, is_same}

-- what stands between commas
abbrev pub entries : List ℕ → List (List ℕ)
entries text = slice_split (λ byte. byte == 44) text

-- each text is one of the address at its place
abbrev pub AreTextsOf : ℕ → List (List ℕ) → List Address → Type 0
AreTextsOf usual [] [] = ⊤
AreTextsOf usual (text ∷ texts) (a ∷ hosts) = IsTextOf usual text a × AreTextsOf usual texts hosts
AreTextsOf usual texts hosts = ⊥

-- so many hosts may a group have
abbrev pub is_count : ℕ → Bool
is_count n = n == 1 || n == 3 || n == 5 || n == 7 || n == 9

-- whether no two are the same
abbrev pub are_different : List Address → Bool
are_different [] = true
are_different (a ∷ hosts) = if list_any (is_same a) hosts then false else are_different hosts

-- the addresses of which these are the texts, or that there are none
abbrev pub AreEntriesRead : Result (List Address) AddressFault → ℕ → List (List ℕ) → Type 0
AreEntriesRead (Ok hosts) usual texts = AreTextsOf usual texts hosts
AreEntriesRead (Err address.Malformed) usual texts = (hosts : List Address) → AreTextsOf usual texts hosts → ⊥
AreEntriesRead (Err address.Memory) usual texts = ⊤

-- the hosts of a text; or, in this order, that an entry is no address, that they are not 1, 3, 5, 7 or 9, or that two are
-- the same
abbrev pub IsHostsRead : Result (List Address) HostsFault → ℕ → List ℕ → Type 0
IsHostsRead (Ok hosts) usual text = AreTextsOf usual (entries text) hosts × (is_count (length hosts) ≡ true) × (are_different hosts ≡ true)
IsHostsRead (Err Malformed) usual text = (hosts : List Address) → AreTextsOf usual (entries text) hosts → ⊥
IsHostsRead (Err Count) usual text = (hosts : List Address) × AreTextsOf usual (entries text) hosts × (is_count (length hosts) ≡ false)
IsHostsRead (Err Twice) usual text = (hosts : List Address) × AreTextsOf usual (entries text) hosts × (is_count (length hosts) ≡ true) × (are_different hosts ≡ false)
IsHostsRead (Err Memory) usual text = ⊤

-- their texts with commas between them
abbrev pub hosts_text : List Address → List ℕ
hosts_text [] = []
hosts_text (a ∷ []) = address_text a
hosts_text (a ∷ b ∷ hosts) = address_text a ++ 44 ∷ hosts_text (b ∷ hosts)

-- one address more, of which this is a text; or that it is of none
abbrev pub IsAdded : Result (Unit {0}) AddressFault → List Address → List Address → ℕ → List ℕ → Type 0
IsAdded (Ok done) old new usual text = (a : Address) × IsTextOf usual text a × (new ≡ old ++ a ∷ [])
IsAdded (Err address.Malformed) old new usual text = (a : Address) → IsTextOf usual text a → ⊥
IsAdded (Err address.Memory) old new usual text = ⊤
