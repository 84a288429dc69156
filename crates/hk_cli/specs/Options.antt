-- What the reader makes of options. That this turns specs/Words.antt around is proved in proofs/.
use Rattle.std.specs.Prelude.{ℕ, zero, suc, false, ◌+◌, ◌-◌, ◌==◌, List, [], ◌∷◌, length, Bool, Option, None, Some, nat_le, if◌then◌else◌, option_and_then, codes, take, drop, position}
use Rattle.std.specs.Option.{option_map}
use Rattle.hk_base.specs.declared.time.TheConstants.{MAX_TIME}
use Rattle.hk_cli.specs.Words.{Given, option}
use Rattle.hk_group.specs.declared.group.Group.{Group}
use Rattle.hk_process.specs.declared.process.Process.{Process}
use Rattle.hk_cli.specs.declared.words.Command.{Command}
use Rattle.hk_cli.specs.declared.words.Command.TheVariants.{Drill, Joint, Generate, Storm, Serve, Peer, Watch, JointStorm}
use Rattle.hk_script.specs.Parts.{is_text, number_64}

-- a word behind its two dashes
unfoldable pub undashed : List ℕ → Option (List ℕ)
undashed (a ∷ b ∷ name) = if a == 45 then (if b == 45 then Some name else None) else None
undashed word = None

abbrev pub is_equals : ℕ → Bool
is_equals b = b == 61

-- the option that words begin with, and the words behind it
abbrev pub Began : Type 0
Began = Given × List (List ℕ)

abbrev pub valued : List ℕ → List (List ℕ) → Option ℕ → Option Began
valued name rest None = None
valued name rest (Some n) = Some (option name n, rest)

abbrev pub with_next : List ℕ → List (List ℕ) → Option Began
with_next name [] = None
with_next name (word ∷ rest) = valued name rest (number_64 word)

unfoldable pub named_at : List ℕ → Option ℕ → List (List ℕ) → Option Began
named_at name (Some at) rest = valued (take at name) rest (number_64 (drop (at + 1) name))
named_at name None rest = with_next name rest

unfoldable pub option_at : List (List ℕ) → Option Began
option_at [] = None
option_at (word ∷ rest) = option_and_then (λ name. named_at name (position is_equals name) rest) (undashed word)

-- how many options words are, of which there are at most n
unfoldable pub option_count : ℕ → List (List ℕ) → Option ℕ
option_count n [] = Some 0
option_count zero (word ∷ rest) = None
option_count (suc n) (word ∷ rest) = option_and_then (λ b. option_map (λ m. 1 + m) (option_count n b.1)) (option_at (word ∷ rest))

-- the value of the first option of this name
unfoldable pub value_of : List ℕ → ℕ → List (List ℕ) → Option ℕ
value_of name n [] = None
value_of name zero (word ∷ rest) = None
value_of name (suc n) (word ∷ rest) = option_and_then (λ b. if is_text b.0.name name then Some b.0.amount else value_of name n b.1) (option_at (word ∷ rest))

-- the value of an option, in its range
unfoldable pub ranged : ℕ → ℕ → Option ℕ → Option ℕ
ranged least most None = None
ranged least most (Some n) = if nat_le least n then (if nat_le n most then Some n else None) else None

abbrev pub option_is : ℕ → Option ℕ → Bool
option_is n None = false
option_is n (Some m) = m == n

-- the command with no words behind it
abbrev pub alone : Command → List (List ℕ) → Option Command
alone command [] = Some command
alone command words = None

unfoldable pub generate_of : List (List ℕ) → Option Command
generate_of words =
    if option_is 3 (option_count (length words) words) then
    option_and_then (λ s. option_and_then (λ c. option_and_then (λ n. Some (Generate s c n))
    (ranged 1 16 (value_of (codes "nodes") (length words) words)))
    (ranged 1 100000 (value_of (codes "count") (length words) words)))
    (value_of (codes "start") (length words) words)
    else None

unfoldable pub storm_of : List (List ℕ) → Option Command
storm_of words =
    if option_is 4 (option_count (length words) words) then
    option_and_then (λ s. option_and_then (λ n. option_and_then (λ w. option_and_then (λ c. Some (Storm (record { start = s; nodes = n; workers = w; calls = c })))
    (ranged 1 20000 (value_of (codes "calls") (length words) words)))
    (ranged 1 8 (value_of (codes "workers") (length words) words)))
    (ranged 1 8 (value_of (codes "nodes") (length words) words)))
    (value_of (codes "start") (length words) words)
    else None

abbrev pub group_of : ℕ → ℕ → ℕ → ℕ → ℕ → ℕ → ℕ → Group
group_of n w m l e p c = record { nodes = n; workers = w; managers = m; lease = l; skew = e; port = p; conns = c }

unfoldable pub serve_of : List (List ℕ) → Option Command
serve_of words =
    if option_is 7 (option_count (length words) words) then
    option_and_then (λ n. option_and_then (λ w. option_and_then (λ m. option_and_then (λ l. option_and_then (λ e. option_and_then (λ p. option_and_then (λ c. Some (Serve (group_of n w m l e p c)))
    (ranged 1 1000000 (value_of (codes "conns") (length words) words)))
    (ranged 1 65535 (value_of (codes "port") (length words) words)))
    (ranged 0 MAX_TIME (value_of (codes "skew") (length words) words)))
    (ranged 0 MAX_TIME (value_of (codes "lease") (length words) words)))
    (ranged 0 9 (value_of (codes "managers") (length words) words)))
    (ranged 1 8 (value_of (codes "workers") (length words) words)))
    (ranged 1 16 (value_of (codes "nodes") (length words) words))
    else None

abbrev pub process_of : ℕ → ℕ → ℕ → ℕ → ℕ → Process
process_of i n w p c = record { id = i; nodes = n; workers = w; port = p; conns = c }

unfoldable pub peer_of : List (List ℕ) → Option Command
peer_of words =
    if option_is 5 (option_count (length words) words) then
    option_and_then (λ n. option_and_then (λ i. option_and_then (λ w. option_and_then (λ p. option_and_then (λ c. Some (Peer (process_of i n w p c)))
    (ranged 1 1000000 (value_of (codes "conns") (length words) words)))
    (ranged 1 (65536 - n) (value_of (codes "port") (length words) words)))
    (ranged 1 8 (value_of (codes "workers") (length words) words)))
    (ranged 0 (n - 1) (value_of (codes "id") (length words) words)))
    (ranged 1 16 (value_of (codes "nodes") (length words) words))
    else None

unfoldable pub watch_of : List (List ℕ) → Option Command
watch_of words =
    if option_is 1 (option_count (length words) words) then
    option_and_then (λ w. Some (Watch w))
    (ranged 1 10000 (value_of (codes "writes") (length words) words))
    else None

unfoldable pub joint_storm_of : List (List ℕ) → Option Command
joint_storm_of words =
    if option_is 2 (option_count (length words) words) then
    option_and_then (λ w. option_and_then (λ r. Some (JointStorm w r))
    (ranged 1 10000 (value_of (codes "reads") (length words) words)))
    (ranged 1 8 (value_of (codes "workers") (length words) words))
    else None

unfoldable pub command_of : List (List ℕ) → Option Command
command_of [] = None
command_of (name ∷ words) =
    if is_text name (codes "drill") then alone Drill words
    else (if is_text name (codes "joint") then alone Joint words
    else (if is_text name (codes "generate") then generate_of words
    else (if is_text name (codes "storm") then storm_of words
    else (if is_text name (codes "serve") then serve_of words
    else (if is_text name (codes "peer") then peer_of words
    else (if is_text name (codes "watch") then watch_of words
    else (if is_text name (codes "joint-storm") then joint_storm_of words else None)))))))
