-- Addresses of hosts as text.
use Rattle.std.specs.Prelude.{◌≡◌, ◌≤◌, ◌<◌, ◌^◌, ◌⊎◌, ℕ, Bool, true, false, bytes_eq, List, [], ◌∷◌, ◌++◌, length, decimal, if◌then◌else◌, ◌==◌, ◌||◌, Option, None, Some, Result, Ok, Err, ⊤}
use denote.Ref.{Bor}
use Rattle.std.specs.List.{list_all}
use Rattle.std.specs.Char.{is_ascii_alphanumeric}
use Rattle.std.specs.declared.net.ipv6_addr.Ipv6Addr.{Ipv6Addr}
use Rattle.std.specs.Net.Grammar.{IsIpv6Text}
use Rattle.hk_hosts.specs.declared.address.TheConstants.{MAX_ADDRESS_LEN}
use Rattle.hk_hosts.specs.declared.address.Address.{Address}
use Rattle.hk_hosts.specs.declared.address.AddressFault.{AddressFault}
use Rattle.hk_hosts.specs.declared.address.AddressFault.TheVariants.{Memory, Malformed}

-- a letter, a digit, a dot or a hyphen
abbrev pub is_name_byte : ℕ → Bool
is_name_byte byte = if is_ascii_alphanumeric byte then true else (byte == 46 || byte == 45)

-- a name: one of these or more, and nothing else
abbrev pub is_name : List ℕ → Bool
is_name host = if length host == 0 then false else list_all is_name_byte host

-- an IPv6 address, as RFC 4291 writes it, in brackets
abbrev pub IsBracketed : List ℕ → Type 0
IsBracketed host = (text : List ℕ) × (ip : Ipv6Addr) × (host ≡ 91 ∷ (text ++ 93 ∷ [])) × IsIpv6Text text ip

abbrev pub IsHost : List ℕ → Type 0
IsHost host = (is_name host ≡ true) ⊎ IsBracketed host

abbrev pub IsPort : ℕ → Type 0
IsPort port = (1 ≤ port) × (port < 2 ^ 16)

-- the host, a colon and the port in decimal digits
abbrev pub address_text : Address → List ℕ
address_text a = a.host ++ (58 ∷ decimal a.port)

-- what an address may be
pub record IsAddress (a : Address) : Type 0 where
  pub is_host : IsHost a.host
  pub is_port : IsPort a.port
  pub short : length (address_text a) ≤ MAX_ADDRESS_LEN

-- a text of an address, where a port is the usual one: this is left out, or not
abbrev pub IsTextOf : ℕ → List ℕ → Address → Type 0
IsTextOf usual text a = IsAddress a × ((text ≡ address_text a) ⊎ ((text ≡ a.host) × (a.port ≡ usual)))

-- what reading gives: the address of a text, or that it is one of none
abbrev pub IsAddressRead : Result Address AddressFault → ℕ → List ℕ → Type 0
IsAddressRead (Ok a) usual text = IsTextOf usual text a
IsAddressRead (Err Malformed) usual text = (a : Address) → IsTextOf usual text a → ⊥
IsAddressRead (Err Memory) usual text = ⊤

-- a host and a port of a text, or that it is no address
abbrev pub IsParsed : Option (Bor (List ℕ) × ℕ) → ℕ → List ℕ → Type 0
IsParsed (Some x) usual text = IsTextOf usual text (record { host = x.0.now; port = x.1 })
IsParsed None usual text = (a : Address) → IsTextOf usual text a → ⊥

-- whether two have one host and one port
abbrev pub is_same : Address → Address → Bool
is_same a b = if a.port == b.port then bytes_eq a.host b.host else false
