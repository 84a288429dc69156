-- Options as they stand in words.
use Rattle.std.specs.Prelude.{◌≡◌, ◌⊎◌, ℕ, Bool, true, false, bytes_eq, if◌then◌else◌, List, [], ◌∷◌, ◌++◌, Option, None, Some, codes}
use Rattle.std.specs.List.{list_all, list_any}
use Rattle.hk_host_words.specs.declared.names.OptionName.{OptionName}
use Rattle.hk_host_words.specs.declared.names.OptionName.TheVariants as option
use Rattle.hk_host_words.specs.declared.names.CommandName.{CommandName}
use Rattle.hk_host_words.specs.declared.names.CommandName.TheVariants as command

-- what is typed behind the two dashes
abbrev pub option_text : OptionName → List ℕ
option_text option.Hosts = codes "hosts"
option_text option.Secret = codes "secret"
option_text option.Group = codes "group"
option_text option.At = codes "at"
option_text option.Inside = codes "inside"
option_text option.Listen = codes "listen"
option_text option.Data = codes "data"
option_text option.Lease = codes "lease"
option_text option.Skew = codes "skew"
option_text option.Workers = codes "workers"
option_text option.Node = codes "node"

-- the first word
abbrev pub command_text : CommandName → List ℕ
command_text command.Node = codes "node"
command_text command.Init = codes "init"
command_text command.Status = codes "status"
command_text command.Leave = codes "leave"

-- which options a command takes
abbrev pub takes : CommandName → OptionName → Bool
takes command option.Hosts = true
takes command option.Secret = true
takes command option.Group = true
takes command.Node option.At = true
takes command.Node option.Inside = true
takes command.Node option.Listen = true
takes command.Node option.Data = true
takes command.Node option.Lease = true
takes command.Node option.Skew = true
takes command.Node option.Workers = true
takes command.Leave option.At = true
takes command.Leave option.Node = true
takes command option = false

-- an option, and the value that it is given
pub record Setting : Type 0 where
  pub name : OptionName
  pub value : List ℕ

-- words that begin with an option and its value, as `--name VALUE`, whatever word the value is, or as `--name=VALUE`; `rest`
-- stands behind them
abbrev pub BeginsWith : Setting → List (List ℕ) → List (List ℕ) → Type 0
BeginsWith s words rest =
    (words ≡ (codes "--" ++ option_text s.name) ∷ s.value ∷ rest)
    ⊎ (words ≡ (codes "--" ++ (option_text s.name ++ 61 ∷ s.value)) ∷ rest)

-- words that are these options, in this order
abbrev pub AreSettings : List Setting → List (List ℕ) → Type 0
AreSettings [] words = words ≡ []
AreSettings (s ∷ settings) words = (rest : List (List ℕ)) × BeginsWith s words rest × AreSettings settings rest

-- whether it is this option that is given
abbrev pub is_of : OptionName → Setting → Bool
is_of name s = bytes_eq (option_text s.name) (option_text name)

-- whether no option is given twice
abbrev pub are_once : List Setting → Bool
are_once [] = true
are_once (s ∷ settings) = if list_any (is_of s.name) settings then false else are_once settings

-- whether the command takes each
abbrev pub are_taken : CommandName → List Setting → Bool
are_taken command settings = list_all (λ s. takes command s.name) settings

-- what an option is given; none where it is not there
abbrev pub value_of : OptionName → List Setting → Option (List ℕ)
value_of name [] = None
value_of name (s ∷ settings) = if is_of name s then Some s.value else value_of name settings
