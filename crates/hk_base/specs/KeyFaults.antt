-- When bytes are no key or no data, and why.
use Rattle.std.specs.Prelude.{◌≡◌, ℕ, List, length, position, Option, None, Some, nat_lt, ◌==◌, if◌then◌else◌, Result, Ok, Err, ⊤}
use Rattle.std.specs.Option.{option_map}
use Rattle.hk_base.specs.declared.key.KeyFault.{KeyFault}
use Rattle.hk_base.specs.declared.key.KeyFault.TheVariants.{Memory, Empty, TooLong, BadByte}
use Rattle.hk_base.specs.declared.key.TheConstants.{MAX_KEY_LEN}
use Rattle.hk_base.specs.declared.data.DataFault.{DataFault}
use Rattle.hk_base.specs.declared.data.DataFault.TheVariants as of_data
use Rattle.hk_base.specs.declared.data.TheConstants.{MAX_DATA_LEN}
use Rattle.hk_base.specs.KeyBytes.{is_bad_byte}

-- the first test that the bytes fail, if any: no byte, too many, a bad one
abbrev pub key_fault : List ℕ → Option KeyFault
key_fault bytes =
    if length bytes == 0 then Some Empty
    else (if nat_lt MAX_KEY_LEN (length bytes) then Some (TooLong (length bytes))
    else option_map BadByte (position is_bad_byte bytes))

-- a fault that was told is the bytes' fault; want of memory says nothing of them
abbrev pub IsKeyFault : KeyFault → Option KeyFault → Type 0
IsKeyFault Memory fault = ⊤
IsKeyFault told fault = fault ≡ Some told

-- what reading a key gives: a key exactly where the bytes have no fault, and then those bytes; else their fault
abbrev pub IsKeyRead : Result (List ℕ) KeyFault → List ℕ → Type 0
IsKeyRead (Ok key) bytes = (key_fault bytes ≡ None) × (key ≡ bytes)
IsKeyRead (Err told) bytes = IsKeyFault told (key_fault bytes)

-- the one test of data
abbrev pub data_fault : List ℕ → Option DataFault
data_fault bytes = if nat_lt MAX_DATA_LEN (length bytes) then Some (of_data.TooLarge (length bytes)) else None

abbrev pub IsDataFault : DataFault → Option DataFault → Type 0
IsDataFault of_data.Memory fault = ⊤
IsDataFault told fault = fault ≡ Some told

-- what reading data gives
abbrev pub IsDataRead : Result (List ℕ) DataFault → List ℕ → Type 0
IsDataRead (Ok bytes') bytes = (data_fault bytes ≡ None) × (bytes' ≡ bytes)
IsDataRead (Err told) bytes = IsDataFault told (data_fault bytes)
