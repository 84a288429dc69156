-- What reading words gives.
use Rattle.std.specs.Prelude.{◌≡◌, ◌≢◌, ◌/◌, ⊤, ℕ, List, ◌∷◌, ◌++◌, Option, None, Some, Result, Ok, Err, String, string_bytes, map, codes}
use denote.Ref.{Bor}
use Rattle.hk_hosts.specs.Parts.{Lacks}
use Rattle.hk_host_words.specs.declared.fault.WordsFault.{WordsFault}
use Rattle.hk_host_words.specs.declared.fault.WordsFault.TheVariants.{Memory, Mistaken}
use Rattle.hk_host_words.specs.declared.settings.Typed.{Typed}
use Rattle.hk_hosts.specs.declared.address.Address.{Address}
use Rattle.hk_host_words.specs.declared.node.Numbers.{Numbers}
use Rattle.hk_host_words.specs.declared.names.OptionName.TheVariants as option
use Rattle.hk_host_words.specs.Options.{Setting, BeginsWith, value_of}
use Rattle.hk_host_words.specs.declared.names.CommandName.{CommandName}
use Rattle.hk_host_words.specs.declared.words.HostCommand.{HostCommand}
use Rattle.hk_host_words.specs.Words.{IsNumberOf, IsSaid, name_of}

-- the bytes of each word
abbrev pub texts : {A : Type 0} → List (String A) → List (List ℕ)
texts words = map (λ w. string_bytes w) words

-- What words say, as it is made of what was read; or, unless memory was wanting, that they say nothing of the kind.
abbrev pub IsReadAs : {A B : Type 0} → (A → B) → (B → Type 0) → Result A WordsFault → Type 0
IsReadAs made Says (Ok x) = Says (made x)
IsReadAs made Says (Err Memory) = ⊤
IsReadAs made Says (Err (Mistaken mistake)) = (y : _) → Says y → ⊥

abbrev pub IsReading : {A : Type 0} → (A → Type 0) → Result A WordsFault → Type 0
IsReading Says result = IsReadAs (λ x. x) Says result

-- an option as it was typed
abbrev pub setting_of : Typed → Setting
setting_of t = record { name = t.name; value = t.value.now }

abbrev pub settings_of : List Typed → List Setting
settings_of typed = map setting_of typed

-- what stands in a text up to the first `=`, and behind that, if there is one
abbrev pub AreParts : List ℕ → Option (List ℕ) → List ℕ → Type 0
AreParts name None text = (text ≡ name) × Lacks 61 name
AreParts name (Some value) text = (text ≡ name ++ 61 ∷ value) × Lacks 61 name

-- the parts of a word behind its two dashes, or that it begins otherwise
abbrev pub IsUndashed : Option (Bor (List ℕ)) → List ℕ → Type 0
IsUndashed None word = (rest : List ℕ) → word ≢ codes "--" ++ rest
IsUndashed (Some rest) word = word ≡ codes "--" ++ rest.now

-- the option that words begin with, and the words behind it
abbrev pub next_of : {A : Type 0} → Typed × Bor (List (String A)) → Setting × List (List ℕ)
next_of next = (setting_of next.0, texts next.1.now)

abbrev pub Begins : List (List ℕ) → Setting × List (List ℕ) → Type 0
Begins words next = BeginsWith next.0 words next.1

-- the numbers of a process
abbrev pub AreNumbers : List Setting → Numbers → Type 0
AreNumbers settings n =
    IsNumberOf 200 60000 1000 (value_of option.Lease settings) n.lease
    × IsNumberOf 0 (n.lease / 8) 10 (value_of option.Skew settings) n.skew
    × IsNumberOf 1 8 1 (value_of option.Workers settings) n.workers

-- an address of this host and port
abbrev pub IsCopy : List ℕ → ℕ → Address → Type 0
IsCopy host port a = (a.host ≡ host) × (a.port ≡ port)

-- what the options of this command say
abbrev pub IsSaidBy : CommandName → List Setting → HostCommand → Type 0
IsSaidBy name settings said = (name_of said ≡ name) × IsSaid settings said
