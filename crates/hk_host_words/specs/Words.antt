-- The words of the commands of a group over hosts.
use Rattle.std.specs.Prelude.{◌≡◌, ⊤, ℕ, ◌<◌, ◌≤◌, ◌^◌, ◌/◌, ◌==◌, ◌||◌, ◌&&◌, Bool, true, nat_le, List, ◌∷◌, ◌++◌, length, slice_get, Option, None, Some, Ok, codes, decimal}
use Rattle.std.specs.List.{list_all}
use Rattle.hk_inside.specs.declared.inquiry.Leaver.{Leaver}
use Rattle.hk_inside.specs.declared.inquiry.Leaver.TheVariants as leaver
use Rattle.hk_hosts.specs.declared.address.TheConstants.{MAX_ADDRESS_LEN}
use Rattle.hk_hosts.specs.declared.address.Address.{Address}
use Rattle.hk_hosts.specs.Addresses.{address_text, IsTextOf}
use Rattle.hk_hosts.specs.Lists.{IsHostsRead}
use Rattle.hk_host_words.specs.declared.words.TheConstants.{INSIDE_PORT, CLIENT_PORT}
use Rattle.hk_host_words.specs.declared.words.GroupWords.{GroupWords}
use Rattle.hk_host_words.specs.declared.words.NodeWords.{NodeWords}
use Rattle.hk_host_words.specs.declared.words.HostCommand.{HostCommand}
use Rattle.hk_host_words.specs.declared.words.HostCommand.TheVariants.{Node, Init, Status, Leave}
use Rattle.hk_host_words.specs.declared.names.OptionName.TheVariants as option
use Rattle.hk_host_words.specs.declared.names.CommandName.{CommandName}
use Rattle.hk_host_words.specs.declared.names.CommandName.TheVariants as command
use Rattle.hk_host_words.specs.Options.{Setting, command_text, AreSettings, are_once, are_taken, value_of}

-- ---- what each option says, by what it is given, if anything
-- a number within limits, in decimal digits with no spare zero; or the usual one
abbrev pub IsNumberOf : ℕ → ℕ → ℕ → Option (List ℕ) → ℕ → Type 0
IsNumberOf least most usual None n = n ≡ usual
IsNumberOf least most usual (Some text) n = (text ≡ decimal n) × (least ≤ n) × (n ≤ most)

-- a name of a file or a folder, of one byte or more; or the usual one
abbrev pub IsPathOf : List ℕ → Option (List ℕ) → List ℕ → Type 0
IsPathOf usual None path = path ≡ usual
IsPathOf usual (Some text) path = (path ≡ text) × (1 ≤ length text)

-- a small letter, a digit or a hyphen
abbrev pub is_group_byte : ℕ → Bool
is_group_byte byte = (nat_le 97 byte && nat_le byte 122) || (nat_le 48 byte && nat_le byte 57) || byte == 45

-- the name of a group: 1 to 32 of these; `hermes` where none is given
abbrev pub IsGroupNameOf : Option (List ℕ) → List ℕ → Type 0
IsGroupNameOf None name = name ≡ codes "hermes"
IsGroupNameOf (Some text) name =
    (name ≡ text) × (1 ≤ length text) × (length text ≤ 32) × (list_all is_group_byte text ≡ true)

-- the hosts of a group, which must be given
abbrev pub AreHostsOf : Option (List ℕ) → List Address → Type 0
AreHostsOf None hosts = ⊥
AreHostsOf (Some text) hosts = IsHostsRead (Ok hosts) INSIDE_PORT text

-- a place among so many
abbrev pub IsPlace : ℕ → List ℕ → ℕ → Type 0
IsPlace count text place = (text ≡ decimal place) × (place < count)

-- the place of this host among so many, if it is one of them
abbrev pub IsPlaceOf : ℕ → Option (List ℕ) → Option ℕ → Type 0
IsPlaceOf count None None = ⊤
IsPlaceOf count (Some text) (Some place) = IsPlace count text place
IsPlaceOf count None (Some place) = ⊥
IsPlaceOf count (Some text) None = ⊥

-- what is given for this address, if anything, says the same
abbrev pub AgreesWith : Option (List ℕ) → Address → Type 0
AgreesWith None a = ⊤
AgreesWith (Some text) a = IsTextOf INSIDE_PORT text a

-- where the other processes reach this one: at its place among the hosts, or, without a place, where it is told
abbrev pub IsInsideOf : List Address → Option ℕ → Option (List ℕ) → Address → Type 0
IsInsideOf hosts (Some place) text a = (slice_get hosts place ≡ Some a) × AgreesWith text a
IsInsideOf hosts None (Some text) a = IsTextOf INSIDE_PORT text a
IsInsideOf hosts None None a = ⊥

-- where clients reach it: on the same host, at the usual port, where nothing else is given
abbrev pub IsListenOf : Address → Option (List ℕ) → Address → Type 0
IsListenOf inside None a =
    (a.host ≡ inside.host) × (a.port ≡ CLIENT_PORT) × (length (address_text a) ≤ MAX_ADDRESS_LEN)
IsListenOf inside (Some text) a = IsTextOf CLIENT_PORT text a

-- who is to leave: the node of one of so many hosts, by `--at`, or the node of a number, by `--node`, and not both
abbrev pub IsLeaverOf : ℕ → Option (List ℕ) → Option (List ℕ) → Leaver → Type 0
IsLeaverOf count (Some text) None (leaver.Host place) = IsPlace count text place
IsLeaverOf count None (Some text) (leaver.Node node) = (text ≡ decimal node.0) × (node.0 < 2 ^ 16)
IsLeaverOf count place number who = ⊥

-- ---- commands
abbrev pub usual_data : List ℕ
usual_data = codes "hermes-data"

-- which group, where its processes keep what is theirs in this folder
pub record IsGroup (folder : List ℕ) (settings : List Setting) (g : GroupWords) : Type 0 where
  pub hosts_are : AreHostsOf (value_of option.Hosts settings) g.hosts
  pub secret_is : IsPathOf (folder ++ codes "/secret") (value_of option.Secret settings) g.secret
  pub name_is : IsGroupNameOf (value_of option.Group settings) g.group

-- a lease of 200 to 60,000 ms, a skew up to an eighth of it, 1 to 8 workers
pub record IsNode (settings : List Setting) (n : NodeWords) : Type 0 where
  pub group_is : IsGroup n.data settings n.group
  pub at_is : IsPlaceOf (length n.group.hosts) (value_of option.At settings) n.at
  pub inside_is : IsInsideOf n.group.hosts n.at (value_of option.Inside settings) n.inside
  pub listen_is : IsListenOf n.inside (value_of option.Listen settings) n.listen
  pub data_is : IsPathOf usual_data (value_of option.Data settings) n.data
  pub lease_is : IsNumberOf 200 60000 1000 (value_of option.Lease settings) n.lease
  pub skew_is : IsNumberOf 0 (n.lease / 8) 10 (value_of option.Skew settings) n.skew
  pub workers_is : IsNumberOf 1 8 1 (value_of option.Workers settings) n.workers

-- what the options say
abbrev pub IsSaid : List Setting → HostCommand → Type 0
IsSaid settings (Node node) = IsNode settings node
IsSaid settings (Init group) = IsGroup usual_data settings group
IsSaid settings (Status group) = IsGroup usual_data settings group
IsSaid settings (Leave group who) =
    IsGroup usual_data settings group
    × IsLeaverOf (length group.hosts) (value_of option.At settings) (value_of option.Node settings) who

abbrev pub name_of : HostCommand → CommandName
name_of (Node node) = command.Node
name_of (Init group) = command.Init
name_of (Status group) = command.Status
name_of (Leave group who) = command.Leave

-- words that begin with the name of a command, whatever stands behind it
abbrev pub Names : CommandName → List (List ℕ) → Type 0
Names name words = (options : List (List ℕ)) × (words ≡ command_text name ∷ options)

-- the words of a command: its name, and options that it takes, each once at most and in any order
pub record IsHostCommand (said : HostCommand) (words : List (List ℕ)) : Type 0 where
  pub options : List (List ℕ)
  pub settings : List Setting
  pub words_are : words ≡ command_text (name_of said) ∷ options
  pub options_are : AreSettings settings options
  pub taken : are_taken (name_of said) settings ≡ true
  pub once : are_once settings ≡ true
  pub is_said : IsSaid settings said

-- no words are two commands
abbrev pub WordsTellHostCommands : Type 0
WordsTellHostCommands =
    (words : List (List ℕ)) (a b : HostCommand) → IsHostCommand a words → IsHostCommand b words → a ≡ b
