-- What `leave` does, and how it ends.
use Rattle.std.specs.Prelude.{◌≡◌, ◌<◌, ◌⊎◌, ℕ, zero, suc, ◌+◌, Bool, true, false, ◌==◌, ◌&&◌, nat_lt, if◌then◌else◌, codes, decimal, List, [], ◌∷◌, ◌++◌, length, is_none, Option, None, Some, Result, Ok, Err}
use Rattle.std.specs.List.{list_any, list_all}
use Rattle.hk_base.specs.declared.stamp.NodeId.{NodeId}
use Rattle.hk_inside.specs.declared.inquiry.Inquiry.{Inquiry}
use Rattle.hk_inside.specs.declared.inquiry.Inquiry.TheVariants as inquiry
use Rattle.hk_inside.specs.declared.inquiry.Leaver.{Leaver}
use Rattle.hk_inside.specs.declared.inquiry.Leaver.TheVariants.{Node, Host}
use Rattle.hk_inside.specs.declared.response.Response.{Response}
use Rattle.hk_inside.specs.declared.response.Response.TheVariants as response
use Rattle.hk_init.specs.declared.fault.NoAnswer.{NoAnswer}
use Rattle.hk_init.specs.declared.fault.NoAnswer.TheVariants as asks
use Rattle.hk_init.specs.declared.fault.CommandFault.{CommandFault}
use Rattle.hk_init.specs.declared.fault.CommandFault.TheVariants.{Memory, Unreachable, Denied, Refused, UnknownNode, StillMember}
use Rattle.hk_init.specs.declared.leaves.TheConstants.{LEAVE_REST, LEAVE_ROUNDS}
use Rattle.hk_init.specs.Deeds.{Outcome, Deed, Rest, exchanges}
use Rattle.hk_init.specs.HostNodes.{host_node}
use Rattle.hk_init.specs.Init.{Then, Writes, line_where}

-- ---- what a manager answers to LEAVE

-- it has the node leave, which is a member still
abbrev pub has_leave : Response → Bool
has_leave response.Yes = true
has_leave (response.No code text) = false
has_leave (response.Status text) = false
has_leave (response.State state) = false
has_leave (response.Board board) = false
has_leave (response.Seated node) = false

-- it knows no such member: refusal 5
abbrev pub knows_none : Response → Bool
knows_none (response.No code text) = code == 5
knows_none response.Yes = false
knows_none (response.Status text) = false
knows_none (response.State state) = false
knows_none (response.Board board) = false
knows_none (response.Seated node) = false

abbrev pub is_leaving : Outcome → Bool
is_leaving (Ok answer) = has_leave answer
is_leaving (Err fault) = false

abbrev pub is_unknown : Outcome → Bool
is_unknown (Ok answer) = knows_none answer
is_unknown (Err fault) = false

-- what it tells against it
abbrev pub told_against : Response → Option CommandFault
told_against (response.No code text) = Some (Refused text)
told_against response.Yes = None
told_against (response.Status text) = None
told_against (response.State state) = None
told_against (response.Board board) = None
told_against (response.Seated node) = None

-- A host that can't be had tells nothing against it.
abbrev pub denied_by : ℕ → NoAnswer → Option CommandFault
denied_by place asks.Memory = Some Memory
denied_by place asks.Silent = None
denied_by place (asks.Refused reason) = Some (Denied place reason)

abbrev pub against : ℕ → Outcome → Option CommandFault
against place (Ok answer) = told_against answer
against place (Err fault) = denied_by place fault

-- the later one, if there is one
abbrev pub later : Option CommandFault → Option CommandFault → Option CommandFault
later None before = before
later (Some fault) before = Some fault

-- of what these hosts tell against it, from a place on, the last
abbrev pub last_told : (ℕ → Outcome → Option CommandFault) → ℕ → List Outcome → Option CommandFault
last_told tells place [] = None
last_told tells place (outcome ∷ outcomes) = later (last_told tells (place + 1) outcomes) (tells place outcome)

-- Why the node does not leave: what is told against it; else no host can be had.
abbrev pub why_not : Option CommandFault → CommandFault
why_not (Some fault) = fault
why_not None = Unreachable 0

-- ---- rounds

-- LEAVE to each of so many hosts, with outcomes of which this is true
abbrev pub IsRound : Inquiry → ℕ → (List Outcome → Type 0) → List Deed → Type 0
IsRound leave count IsSo deeds = (outcomes : List Outcome) × (deeds ≡ exchanges leave outcomes) × (length outcomes ≡ count) × IsSo outcomes

-- some manager has the node leave
abbrev pub GoesOn : List Outcome → Type 0
GoesOn outcomes = list_any is_leaving outcomes ≡ true

-- How it ends once no manager has it leave: behind some rounds it has left, where one knows no such member. Else it does not, and it is told why.
abbrev pub ended : ℕ → Bool → Option CommandFault → Result (Unit {0}) CommandFault
ended rounds unknown told = if nat_lt 0 rounds && unknown then Ok tt else Err (why_not told)

-- no manager has the node leave, and it ends so behind so many rounds
abbrev pub Ends : ℕ → Result (Unit {0}) CommandFault → List Outcome → Type 0
Ends rounds result outcomes = (list_any is_leaving outcomes ≡ false) × (result ≡ ended rounds (list_any is_unknown outcomes) (last_told against 0 outcomes))

-- so many rounds in which it goes on, one behind the other, and a rest behind each
unfoldable pub GoesOnFor : Inquiry → ℕ → ℕ → List Deed → Type 0
GoesOnFor leave count zero deeds = deeds ≡ []
GoesOnFor leave count (suc rounds) deeds = (before round : List Deed) ×
    (deeds ≡ before ++ (round ++ Rest LEAVE_REST ∷ [])) × GoesOnFor leave count rounds before × IsRound leave count GoesOn round

-- It goes on for some rounds, and ends in the next one.
abbrev pub EndsIn : Inquiry → ℕ → List Deed → Result (Unit {0}) CommandFault → Type 0
EndsIn leave count deeds result = (rounds : ℕ) × (before round : List Deed) ×
    (deeds ≡ before ++ round) × (rounds < LEAVE_ROUNDS) × GoesOnFor leave count rounds before × IsRound leave count (Ends rounds result) round

-- That is so; or the node is a member still behind the last of all rounds.
abbrev pub Leaves : Inquiry → ℕ → List Deed → Result (Unit {0}) CommandFault → Type 0
Leaves leave count deeds result = EndsIn leave count deeds result ⊎ ((result ≡ Err StillMember) × GoesOnFor leave count LEAVE_ROUNDS deeds)

-- ---- which node it is

-- the node of a host that is told in answer to STATUS
abbrev pub node_by : ℕ → Response → Option ℕ
node_by host (response.Status text) = host_node host text
node_by host response.Yes = None
node_by host (response.No code text) = None
node_by host (response.State state) = None
node_by host (response.Board board) = None
node_by host (response.Seated node) = None

abbrev pub node_told : ℕ → Outcome → Option ℕ
node_told host (Ok answer) = node_by host answer
node_told host (Err fault) = None

abbrev pub lacks_node : ℕ → Outcome → Bool
lacks_node host outcome = is_none (node_told host outcome)

-- what is told against it where the node is not
abbrev pub untold_by : ℕ → Response → Option CommandFault
untold_by host (response.Status text) = Some (UnknownNode host)
untold_by host (response.No code text) = Some (Refused text)
untold_by host response.Yes = None
untold_by host (response.State state) = None
untold_by host (response.Board board) = None
untold_by host (response.Seated node) = None

abbrev pub untold : ℕ → ℕ → Outcome → Option CommandFault
untold host place (Ok answer) = untold_by host answer
untold host place (Err fault) = denied_by place fault

-- One host after the other was asked for STATUS, and this one is the first that told the host's node; or none of so many did.
abbrev pub IsLookedUp : ℕ → ℕ → List Deed → Result NodeId CommandFault → Type 0
IsLookedUp host count deeds (Ok node) = (outcomes : List Outcome) × (outcome : Outcome) ×
    (deeds ≡ exchanges inquiry.Status (outcomes ++ outcome ∷ [])) × (length outcomes < count) ×
    (list_all (lacks_node host) outcomes ≡ true) × (node_told host outcome ≡ Some node.0)
IsLookedUp host count deeds (Err fault) = (outcomes : List Outcome) ×
    (deeds ≡ exchanges inquiry.Status outcomes) × (length outcomes ≡ count) ×
    (list_all (lacks_node host) outcomes ≡ true) × (fault ≡ why_not (last_told (untold host) 0 outcomes))

-- The node of that number, of which nothing is asked; or that of the host, as it is looked up, once.
abbrev pub IsNamed : Leaver → ℕ → List Deed → Result NodeId CommandFault → Type 0
IsNamed (Node node) count deeds named = (deeds ≡ []) × (named ≡ Ok node)
IsNamed (Host host) count deeds named = IsLookedUp host count deeds named

-- ---- what is written

-- the number of the node that has left
abbrev pub left_line : ℕ → List ℕ
left_line number = codes "left " ++ decimal number ++ 10 ∷ []

-- The node of this number leaves, by which it is named in each round, and the line is to be written; or why not. Where there was
-- no memory for the line, nothing was done.
abbrev pub NodeLeaves : ℕ → NodeId → List Deed → Result (List ℕ) CommandFault → Type 0
NodeLeaves count node deeds told =
    ((ended : Result (Unit {0}) CommandFault) × Leaves (inquiry.Leave (Node node)) count deeds ended × (told ≡ line_where (left_line node.0) ended))
    ⊎ ((deeds ≡ []) × (told ≡ Err Memory))

-- First it is told which node that is, and then it leaves.
abbrev pub TellsLeft : Leaver → ℕ → List Deed → Result (List ℕ) CommandFault → Type 0
TellsLeft who count = Then (IsNamed who count) (NodeLeaves count)

-- That is written.
abbrev pub LeavesBy : Leaver → ℕ → List Deed → (before now : Option (List ℕ)) → Result (Unit {0}) CommandFault → Type 0
LeavesBy who count deeds before now result = (told : Result (List ℕ) CommandFault) × TellsLeft who count deeds told × Writes told before now result
