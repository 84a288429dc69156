-- What reading addresses promises together.
use Rattle.std.specs.Prelude.{◌≡◌, ⊤, ℕ, List, Result, Ok, Err, Decides}
use Rattle.hk_hosts.specs.declared.address.Address.{Address}
use Rattle.hk_hosts.specs.declared.address.AddressFault.{AddressFault}
use Rattle.hk_hosts.specs.declared.address.AddressFault.TheVariants.{Memory, Malformed}
use Rattle.hk_hosts.specs.Addresses.{address_text, IsAddress, IsTextOf, IsAddressRead, is_same}

-- a text is of one address
abbrev pub TextsAreOfOneAddress : Type 0
TextsAreOfOneAddress = (usual : ℕ) (text : List ℕ) (a b : Address) → IsTextOf usual text a → IsTextOf usual text b → a ≡ b

-- this address, or want of memory
abbrev pub IsAgain : Result Address AddressFault → Address → Type 0
IsAgain (Ok b) a = b ≡ a
IsAgain (Err Memory) a = ⊤
IsAgain (Err Malformed) a = ⊥

-- what is printed of an address is read as that address
abbrev pub PrintedAddressesAreRead : Type 0
PrintedAddressesAreRead = (usual : ℕ) (a : Address) (result : Result Address AddressFault) → IsAddress a → IsAddressRead result usual (address_text a) → IsAgain result a

-- two addresses are the same exactly where both parts are
abbrev pub SamenessIsEquality : Type 0
SamenessIsEquality = (a b : Address) → Decides (is_same a b) (a ≡ b)
