-- How the parts of messages are read from the front of some bytes, and whole messages. What comes of it is said by their
-- bytes: these definitions say when there is none.
use Rattle.std.specs.Prelude.{ℕ, List, [], length, Bool, true, false, ◌==◌, nat_lt, if◌then◌else◌, Option, None, Some, Result, Ok, Err}
use Rattle.std.specs.Int.{w16, w32, w64}
use Rattle.hk_base.specs.declared.stamp.NodeId.{NodeId}
use Rattle.hk_base.specs.declared.letter.Actor.{Actor}
use Rattle.hk_base.specs.declared.letter.Actor.TheVariants as actors
use Rattle.hk_fields.specs.declared.tickets.Ticket.{Ticket}
use Rattle.hk_fields.specs.declared.fault.FieldFault.{FieldFault}
use Rattle.hk_fields.specs.declared.fault.FieldFault.TheVariants.{Malformed}
use Rattle.hk_fields.specs.Fields.{◌>>=◌, both, chain, made, within, byte_at, number_at, many, text_at, ticket_at, host_at, actor_at}
use Rattle.hk_inside.specs.declared.report.NodeState.{NodeState}
use Rattle.hk_inside.specs.declared.report.NodeState.TheVariants as states
use Rattle.hk_inside.specs.declared.report.ShardsTold.{ShardsTold}
use Rattle.hk_inside.specs.declared.report.Counts.{Counts}
use Rattle.hk_inside.specs.declared.report.NodeSeen.{NodeSeen}
use Rattle.hk_inside.specs.declared.report.Report.{Report}
use Rattle.hk_inside.specs.declared.board.Stage.{Stage}
use Rattle.hk_inside.specs.declared.board.Stage.TheVariants as stages
use Rattle.hk_inside.specs.declared.board.Party.{Party}
use Rattle.hk_inside.specs.declared.board.Party.TheVariants as parties
use Rattle.hk_inside.specs.declared.board.Mark.{Mark}
use Rattle.hk_inside.specs.declared.board.Mark.TheVariants as marks
use Rattle.hk_inside.specs.declared.board.BoardLine.{BoardLine}
use Rattle.hk_inside.specs.declared.board.Board.{Board}
use Rattle.hk_fields.specs.declared.hosts.HostTickets.{HostTickets}
use Rattle.hk_inside.specs.declared.inquiry.Leaver.{Leaver}
use Rattle.hk_inside.specs.declared.inquiry.Leaver.TheVariants as leavers
use Rattle.hk_inside.specs.declared.inquiry.Inquiry.{Inquiry}
use Rattle.hk_inside.specs.declared.inquiry.Inquiry.TheVariants as asks
use Rattle.hk_inside.specs.declared.response.ManagerState.{ManagerState}
use Rattle.hk_inside.specs.declared.response.Response.{Response}
use Rattle.hk_inside.specs.declared.response.Response.TheVariants as answers

-- ---- what stands in several messages

abbrev pub node_of : ℕ → NodeId
node_of n = record { 0 = n }

unfoldable pub node_at : List ℕ → Result (NodeId × List ℕ) FieldFault
node_at bytes = made node_of (number_at w16) bytes

-- the number of a founding, not 0
unfoldable pub founding_at : List ℕ → Result (ℕ × List ℕ) FieldFault
founding_at bytes = within 1 18446744073709551615 (number_at w64) bytes

-- how many there are, in 1 byte, and each of them
abbrev pub counted_at : {A : Type 0} → ℕ → ℕ → (List ℕ → Result (A × List ℕ) FieldFault) → List ℕ → Result (List A × List ℕ) FieldFault
counted_at least most read bytes = made (λ p. p.1) (chain (within least most byte_at) (many read)) bytes

unfoldable pub stage_of : ℕ → Stage
stage_of n = if n == 0 then stages.Empty else (if n == 1 then stages.Founded else stages.Open)

unfoldable pub stage_at : List ℕ → Result (Stage × List ℕ) FieldFault
stage_at bytes = made stage_of (within 0 2 byte_at) bytes

-- ---- reports

-- 65,535 says that there is no node
unfoldable pub some_node : ℕ → Option NodeId
some_node n = if n == 65535 then None else Some (node_of n)

unfoldable pub node_state_of : ℕ → NodeState
node_state_of n = if n == 0 then states.Waiting else (if n == 1 then states.Seated else (if n == 2 then states.Copying else (if n == 3 then states.Ready else states.Leaving)))

-- 255 says that there is no manager, and managers are 0 to 8
unfoldable pub place_of : ℕ → List ℕ → Result (Option ℕ × List ℕ) FieldFault
place_of n bytes = if n == 255 then Ok (None, bytes) else (if nat_lt 8 n then Err Malformed else Ok (Some n, bytes))

unfoldable pub place_at : List ℕ → Result (Option ℕ × List ℕ) FieldFault
place_at bytes = made (λ p. p.1) (chain byte_at place_of) bytes

-- 4,294,967,295 says that there is no age
unfoldable pub some_age : ℕ → Option ℕ
some_age n = if n == 4294967295 then None else Some n

-- the ticket, the node's number and its state, the manager's place, and its records
abbrev pub Who : Type 0
Who = Ticket × (Option NodeId × (NodeState × (Option ℕ × ℕ)))

unfoldable pub who_at : List ℕ → Result (Who × List ℕ) FieldFault
who_at bytes = both ticket_at (both (made some_node (number_at w16)) (both (made node_state_of (within 0 4 byte_at)) (both place_at (number_at w64)))) bytes

abbrev pub shards_of : ℕ × (ℕ × ℕ) → ShardsTold
shards_of p = record { ready = p.0; least_epoch = p.1.0; least_lease_left = p.1.1 }

unfoldable pub shards_at : List ℕ → Result (ShardsTold × List ℕ) FieldFault
shards_at bytes = made shards_of (both (within 0 8 byte_at) (both (number_at w64) (number_at w32))) bytes

abbrev pub counts_of : ℕ × (ℕ × (ℕ × (ℕ × (ℕ × (ℕ × ℕ))))) → Counts
counts_of p = record { keys = p.0; bytes = p.1.0; gets = p.1.1.0; sets = p.1.1.1.0; busy = p.1.1.1.1.0; aborted = p.1.1.1.1.1.0; unknown = p.1.1.1.1.1.1 }

unfoldable pub counts_at : List ℕ → Result (Counts × List ℕ) FieldFault
counts_at bytes = made counts_of (both (number_at w64) (both (number_at w64) (both (number_at w64) (both (number_at w64) (both (number_at w64) (both (number_at w64) (number_at w64))))))) bytes

abbrev pub seen_of : NodeId × (Option ℕ × ℕ) → NodeSeen
seen_of p = record { node = p.0; age_of_ask = p.1.0; unacknowledged = p.1.1 }

unfoldable pub seen_at : List ℕ → Result (NodeSeen × List ℕ) FieldFault
seen_at bytes = made seen_of (both node_at (both (made some_age (number_at w32)) (number_at w32))) bytes

-- two texts, and the nodes that were seen
abbrev pub Places : Type 0
Places = List ℕ × (List ℕ × List NodeSeen)

unfoldable pub places_at : List ℕ → Result (Places × List ℕ) FieldFault
places_at bytes = both (text_at 0 255) (both (text_at 0 255) (counted_at 0 255 seen_at)) bytes

abbrev pub report_of : Who × (ShardsTold × (Counts × Places)) → Report
report_of p = record { ticket = p.0.0; node = p.0.1.0; state = p.0.1.1.0; manager = p.0.1.1.1.0; records = p.0.1.1.1.1; shards = p.1.0; counts = p.1.1.0; inside = p.1.1.1.0; clients = p.1.1.1.1.0; nodes = p.1.1.1.1.1 }

unfoldable pub report_at : List ℕ → Result (Report × List ℕ) FieldFault
report_at bytes = made report_of (both who_at (both shards_at (both counts_at places_at))) bytes

-- ---- the other inquiries

abbrev pub leaver_of : Actor → Leaver
leaver_of (actors.Node node) = leavers.Node node
leaver_of (actors.Manager place) = leavers.Host place

-- a node and a host stand as an actor does, the host as its manager
unfoldable pub leaver_at : List ℕ → Result (Leaver × List ℕ) FieldFault
leaver_at bytes = made leaver_of actor_at bytes

unfoldable pub claim_at : List ℕ → Result (Inquiry × List ℕ) FieldFault
claim_at bytes = made (λ p. asks.Claim p.0 p.1) (both node_at ticket_at) bytes

unfoldable pub found_at : List ℕ → Result (Inquiry × List ℕ) FieldFault
found_at bytes = made (λ p. asks.Found p.0 p.1) (both founding_at (counted_at 1 9 host_at)) bytes

-- the fields of an inquiry of this kind
unfoldable pub inquiry_of : ℕ → List ℕ → Result (Inquiry × List ℕ) FieldFault
inquiry_of kind bytes =
    if kind == 1 then made asks.Report report_at bytes
    else (if kind == 2 then made asks.Seat ticket_at bytes
    else (if kind == 3 then claim_at bytes
    else (if kind == 4 then made asks.Look founding_at bytes
    else (if kind == 5 then found_at bytes
    else (if kind == 6 then made asks.Leave leaver_at bytes
    else (if kind == 7 then Ok (asks.Status, bytes)
    else Err Malformed))))))

-- ---- responses

unfoldable pub party_of : ℕ → List ℕ → Result (Party × List ℕ) FieldFault
party_of class bytes =
    if class == 0 then made parties.Node node_at bytes
    else (if class == 1 then made parties.Manager (within 0 8 (number_at w16)) bytes
    else made (λ n. parties.Neither) (within 0 0 (number_at w16)) bytes)

unfoldable pub party_at : List ℕ → Result (Party × List ℕ) FieldFault
party_at bytes = made (λ p. p.1) (chain (within 0 2 byte_at) party_of) bytes

unfoldable pub mark_of : ℕ → Mark
mark_of n = if n == 0 then marks.Bound else (if n == 1 then marks.Member else (if n == 2 then marks.ToLeave else marks.Out))

unfoldable pub flag_of : ℕ → Bool
flag_of n = if n == 0 then false else true

abbrev pub line_of : Party × (Ticket × (Mark × (Bool × List ℕ))) → BoardLine
line_of p = record { party = p.0; ticket = p.1.0; mark = p.1.1.0; ready = p.1.1.1.0; inside = p.1.1.1.1 }

unfoldable pub line_at : List ℕ → Result (BoardLine × List ℕ) FieldFault
line_at bytes = made line_of (both party_at (both ticket_at (both (made mark_of (within 0 3 byte_at)) (both (made flag_of (within 0 1 byte_at)) (text_at 0 255))))) bytes

abbrev pub board_of : ℕ × (Stage × (ℕ × (ℕ × List BoardLine))) → Board
board_of p = record { founding = p.0; stage = p.1.0; records = p.1.1.0; managers_up = p.1.1.1.0; lines = p.1.1.1.1 }

unfoldable pub board_at : List ℕ → Result (Board × List ℕ) FieldFault
board_at bytes = made board_of (both (number_at w64) (both stage_at (both (number_at w64) (both (number_at w16) (counted_at 0 255 line_at))))) bytes

abbrev pub state_of : ℕ × (Stage × (ℕ × (HostTickets × (ℕ × ℕ)))) → ManagerState
state_of p = record { founding = p.0; stage = p.1.0; place = p.1.1.0; tickets = p.1.1.1.0; lease = p.1.1.1.1.0; skew = p.1.1.1.1.1 }

unfoldable pub state_at : List ℕ → Result (ManagerState × List ℕ) FieldFault
state_at bytes = made state_of (both (number_at w64) (both stage_at (both (within 0 8 byte_at) (both host_at (both (number_at w32) (number_at w32)))))) bytes

-- all that there is, whatever bytes they are
abbrev pub all_bytes : List ℕ → Result (List ℕ × List ℕ) FieldFault
all_bytes bytes = Ok (bytes, [])

unfoldable pub status_at : List ℕ → Result (Response × List ℕ) FieldFault
status_at bytes = made answers.Status all_bytes bytes

unfoldable pub no_at : List ℕ → Result (Response × List ℕ) FieldFault
no_at bytes = made (λ p. answers.No p.0 p.1) (both (within 1 12 byte_at) all_bytes) bytes

-- the fields of a response of this kind
unfoldable pub response_of : ℕ → List ℕ → Result (Response × List ℕ) FieldFault
response_of kind bytes =
    if kind == 128 then Ok (answers.Yes, bytes)
    else (if kind == 129 then made answers.Board board_at bytes
    else (if kind == 130 then made answers.Seated node_at bytes
    else (if kind == 132 then made answers.State state_at bytes
    else (if kind == 135 then status_at bytes
    else (if kind == 143 then no_at bytes
    else Err Malformed)))))

-- ---- whole messages

-- all of some bytes, and nothing behind
abbrev pub all_of : {A : Type 0} → Result (A × List ℕ) FieldFault → Result A FieldFault
all_of read = read >>= λ x. if length x.1 == 0 then Ok x.0 else Err Malformed

-- the message that the bytes are
unfoldable pub inquiry_at : List ℕ → Result Inquiry FieldFault
inquiry_at bytes = byte_at bytes >>= λ kind. all_of (inquiry_of kind.0 kind.1)

unfoldable pub response_at : List ℕ → Result Response FieldFault
response_at bytes = byte_at bytes >>= λ kind. all_of (response_of kind.0 kind.1)
