-- The words of a command: specs that are read by a person.
use Rattle.std.specs.Prelude.{◌≡◌, ◌⊎◌, ℕ, ◌+◌, ◌<◌, ◌≤◌, ◌^◌, List, [], ◌∷◌, ◌++◌, Option, None, Some, codes, decimal}
use Rattle.hk_base.specs.declared.time.TheConstants.{MAX_TIME}
use Rattle.hk_storm.specs.declared.opts.StormOpts.{StormOpts}
use Rattle.hk_group.specs.declared.group.Group.{Group}
use Rattle.hk_process.specs.declared.process.Process.{Process}
use Rattle.hk_cli.specs.declared.words.Command.{Command}
use Rattle.hk_cli.specs.declared.words.Command.TheVariants.{Drill, Joint, Generate, Storm, Serve, Peer, Watch, JointStorm}

-- ---- options
-- an option and its value
pub record Given : Type 0 where
  pub name : List ℕ
  pub amount : ℕ

-- words that begin with an option and its value, as `--name VALUE` or as `--name=VALUE`; `rest` stands behind them
abbrev pub BeginsWith : Given → List (List ℕ) → List (List ℕ) → Type 0
BeginsWith g words rest =
    (words ≡ (codes "--" ++ g.name) ∷ decimal g.amount ∷ rest)
    ⊎ (words ≡ (codes "--" ++ (g.name ++ (codes "=" ++ decimal g.amount))) ∷ rest)

-- words that are these options, in this order
abbrev pub AreOptions : List Given → List (List ℕ) → Type 0
AreOptions [] words = words ≡ []
AreOptions (g ∷ given) words = (rest : List (List ℕ)) × BeginsWith g words rest × AreOptions given rest

-- some order of a list: its first item stands somewhere, and without it the others are in some order
abbrev pub IsOrderOf : {A : Type 0} → List A → List A → Type 0
IsOrderOf [] order = order ≡ []
IsOrderOf (x ∷ xs) order = (front : List _) × (back : List _) × (order ≡ front ++ x ∷ back) × IsOrderOf xs (front ++ back)

-- words that give each of these options once, in any order, and no other
abbrev pub GiveEach : List Given → List (List ℕ) → Type 0
GiveEach options words = (given : List Given) × IsOrderOf options given × AreOptions given words

-- ---- commands
abbrev pub option : List ℕ → ℕ → Given
option name amount = record { name = name; amount = amount }

-- a number from 0 on, 1 to 100,000 events, 1 to 16 nodes
pub record IsGenerate (start count nodes : ℕ) (words : List (List ℕ)) : Type 0 where
  pub start_fits : start < 2 ^ 64
  pub some_events : 1 ≤ count
  pub few_events : count ≤ 100000
  pub some_nodes : 1 ≤ nodes
  pub few_nodes : nodes ≤ 16
  pub options : GiveEach (option (codes "start") start ∷ option (codes "count") count ∷ option (codes "nodes") nodes ∷ []) words

-- a number from 0 on, 1 to 8 nodes with 1 to 8 workers each, 1 to 20,000 calls
pub record IsStorm (opts : StormOpts) (words : List (List ℕ)) : Type 0 where
  pub start_fits : opts.start < 2 ^ 64
  pub some_nodes : 1 ≤ opts.nodes
  pub few_nodes : opts.nodes ≤ 8
  pub some_workers : 1 ≤ opts.workers
  pub few_workers : opts.workers ≤ 8
  pub some_calls : 1 ≤ opts.calls
  pub few_calls : opts.calls ≤ 20000
  pub options : GiveEach (option (codes "start") opts.start ∷ option (codes "nodes") opts.nodes ∷ option (codes "workers") opts.workers ∷ option (codes "calls") opts.calls ∷ []) words

-- 1 to 16 nodes with 1 to 8 workers each, at most 9 managers; a lease and a skew within the limit of clocks, a port, 1 to 1,000,000 connections
pub record IsServe (g : Group) (words : List (List ℕ)) : Type 0 where
  pub some_nodes : 1 ≤ g.nodes
  pub few_nodes : g.nodes ≤ 16
  pub some_workers : 1 ≤ g.workers
  pub few_workers : g.workers ≤ 8
  pub few_managers : g.managers ≤ 9
  pub lease_fits : g.lease ≤ MAX_TIME
  pub skew_fits : g.skew ≤ MAX_TIME
  pub some_port : 1 ≤ g.port
  pub port_fits : g.port ≤ 65535
  pub some_conns : 1 ≤ g.conns
  pub few_conns : g.conns ≤ 1000000
  pub options : GiveEach (option (codes "nodes") g.nodes ∷ option (codes "workers") g.workers ∷ option (codes "managers") g.managers ∷ option (codes "lease") g.lease
      ∷ option (codes "skew") g.skew ∷ option (codes "port") g.port ∷ option (codes "conns") g.conns ∷ []) words

-- one of 1 to 16 nodes, with 1 to 8 workers; a port for each node, from this one on, and 1 to 1,000,000 connections
pub record IsPeer (p : Process) (words : List (List ℕ)) : Type 0 where
  pub id_below : p.id < p.nodes
  pub few_nodes : p.nodes ≤ 16
  pub some_workers : 1 ≤ p.workers
  pub few_workers : p.workers ≤ 8
  pub some_port : 1 ≤ p.port
  pub ports_fit : p.port + p.nodes ≤ 65536
  pub some_conns : 1 ≤ p.conns
  pub few_conns : p.conns ≤ 1000000
  pub options : GiveEach (option (codes "id") p.id ∷ option (codes "nodes") p.nodes ∷ option (codes "workers") p.workers ∷ option (codes "port") p.port
      ∷ option (codes "conns") p.conns ∷ []) words

-- 1 to 10,000 writes
pub record IsWatch (writes : ℕ) (words : List (List ℕ)) : Type 0 where
  pub some_writes : 1 ≤ writes
  pub few_writes : writes ≤ 10000
  pub options : GiveEach (option (codes "writes") writes ∷ []) words

-- 1 to 8 writers, and 1 to 10,000 reads
pub record IsJointStorm (workers reads : ℕ) (words : List (List ℕ)) : Type 0 where
  pub some_workers : 1 ≤ workers
  pub few_workers : workers ≤ 8
  pub some_reads : 1 ≤ reads
  pub few_reads : reads ≤ 10000
  pub options : GiveEach (option (codes "workers") workers ∷ option (codes "reads") reads ∷ []) words

-- the command comes first
abbrev pub IsCommand : Command → List (List ℕ) → Type 0
IsCommand Drill words = words ≡ codes "drill" ∷ []
IsCommand Joint words = words ≡ codes "joint" ∷ []
IsCommand (Generate start count nodes) words = (options : List (List ℕ)) × (words ≡ codes "generate" ∷ options) × IsGenerate start count nodes options
IsCommand (Storm opts) words = (options : List (List ℕ)) × (words ≡ codes "storm" ∷ options) × IsStorm opts options
IsCommand (Serve group) words = (options : List (List ℕ)) × (words ≡ codes "serve" ∷ options) × IsServe group options
IsCommand (Peer process) words = (options : List (List ℕ)) × (words ≡ codes "peer" ∷ options) × IsPeer process options
IsCommand (Watch writes) words = (options : List (List ℕ)) × (words ≡ codes "watch" ∷ options) × IsWatch writes options
IsCommand (JointStorm workers reads) words = (options : List (List ℕ)) × (words ≡ codes "joint-storm" ∷ options) × IsJointStorm workers reads options

-- what is read: the command that the words are; none where they are no command's
abbrev pub IsCommandRead : Option Command → List (List ℕ) → Type 0
IsCommandRead (Some command) words = IsCommand command words
IsCommandRead None words = (command : Command) → IsCommand command words → ⊥

-- no words are two commands
abbrev pub WordsTellCommands : Type 0
WordsTellCommands = (words : List (List ℕ)) (a b : Command) → IsCommand a words → IsCommand b words → a ≡ b
