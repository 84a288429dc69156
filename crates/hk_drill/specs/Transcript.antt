-- The transcript of a script: its lines, one after the other, the run that they make, and what is written of it.
use Rattle.std.specs.Prelude.{ℕ, ◌+◌, ◌-◌, List, [], ◌∷◌, ◌++◌, length, Bool, true, Option, Some, None, Result, Ok, Err, nat_lt, ◌==◌, if◌then◌else◌, codes, decimal, slice_index, take}
use Rattle.std.specs.List.{slice_split}
use Rattle.hk_outside.specs.declared.status.Status.{Status}
use Rattle.hk_outside.specs.declared.status.Status.TheVariants.{Done, BadLine, TooLong}
use Rattle.hk_event.specs.declared.event.Header.{Header}
use Rattle.hk_event.specs.declared.event.Event.{Event}
use Rattle.hk_event.specs.declared.refused.Refused.{Refused}
use Rattle.hk_world.specs.Steps.{Accepted, world_step}
use Rattle.hk_script.specs.Lines.{event_of, header_of}
use Rattle.hk_safety.specs.Run.{RunState, world_of, history, printed, named}
use Rattle.hk_safety.specs.Push.{with_event}
use Rattle.hk_drill.specs.declared.stop.Stop.{Stop}
use Rattle.hk_drill.specs.declared.stop.Stop.TheVariants.{Bad, Long, Lines, Letters}
use Rattle.hk_drill.specs.declared.line.TheConstants.{MAX_LINE_LEN, MAX_LINES}
use Rattle.hk_drill.specs.declared.drill_state.TheConstants.{MAX_LETTERS}
use Rattle.hk_drill.specs.Keys.{key_text}
use Rattle.hk_drill.specs.Shown.{shown_text}
use Rattle.hk_transcript.specs.Text.{refused_text, end_text}

-- ---- lines
abbrev pub is_feed : ℕ → Bool
is_feed b = b == 10

-- the input without the line feed that ends its last line
abbrev pub without_last_feed : List ℕ → List ℕ
without_last_feed bytes = if slice_index bytes (length bytes - 1) == 10 then take (length bytes - 1) bytes else bytes

-- the lines, where the end of the input ends a last line that is not empty
abbrev pub lines_of : List ℕ → List (List ℕ)
lines_of bytes = if length bytes == 0 then [] else slice_split is_feed (without_last_feed bytes)

-- an empty line, or one that begins with `#`
unfoldable pub is_skipped : List ℕ → Bool
is_skipped line = if length line == 0 then true else slice_index line 0 == 35

-- the limits are looked at before a line is read
unfoldable pub limit_at : ℕ → List ℕ → Option Stop
limit_at n line = if nat_lt MAX_LINES n then Some Lines else (if nat_lt MAX_LINE_LEN (length line) then Some Long else None)

-- ---- events
-- how far a script has come: the run of the events that were accepted, and how many event lines there were
pub record DrillState : Type 0 where
  pub run : RunState
  pub count : ℕ

-- the state behind a line, and what the line told
pub record Next : Type 0 where
  pub state : DrillState
  pub text : List ℕ

-- an event that is refused counts, and is told; one that would send a letter too many is not made
abbrev pub state_with : DrillState → Event → Result Accepted Refused → Result Next Stop
state_with c event (Err refused) = Ok (record { state = record { run = c.run; count = c.count + 1 }; text = refused_text (c.count + 1) refused })
state_with c event (Ok a) =
    if nat_lt MAX_LETTERS (length a.world.letters) then Err Letters
    else Ok (record { state = record { run = with_event c.run event; count = c.count + 1 }; text = shown_text (c.count + 1) a.shown })

abbrev pub event_at : DrillState → Option Event → Result Next Stop
event_at c None = Err Bad
event_at c (Some event) = state_with c event (world_step (world_of c.run) event)

-- a line that says nothing leaves the state, and tells nothing
abbrev pub read_at : DrillState → Option Stop → List ℕ → Result Next Stop
read_at c (Some stop) line = Err stop
read_at c None line = if is_skipped line then Ok (record { state = c; text = [] }) else event_at c (event_of line)

unfoldable pub line_at : ℕ → List ℕ → DrillState → Result Next Stop
line_at n line c = read_at c (limit_at n line) line

-- ---- a whole script
-- how far a script was followed, which is nowhere without a header, what its lines told, and the line at which it stopped, if it did
pub record Outcome : Type 0 where
  pub state : Option DrillState
  pub text : List ℕ
  pub stop : Option (ℕ × Stop)

-- what was told before stands in front
abbrev pub behind : List ℕ → Outcome → Outcome
behind text f = record { state = f.state; text = text ++ f.text; stop = f.stop }

abbrev pub stopped : Option DrillState → ℕ → Stop → Outcome
stopped state n stop = record { state = state; text = []; stop = Some (n, stop) }

-- the lines from line n on
unfoldable pub follow : ℕ → DrillState → List (List ℕ) → Outcome
follow n c [] = record { state = Some c; text = []; stop = None }
follow n c (line ∷ lines) = elim (line_at n line c) [ Ok next ↦ behind next.text (follow (n + 1) next.state lines) | Err stop ↦ stopped (Some c) n stop ]

abbrev pub first_state : Header → DrillState
first_state header = record { run = record { header = header; events = [] }; count = 0 }

abbrev pub follow_under : ℕ → Option Header → List (List ℕ) → Outcome
follow_under n None lines = stopped None n Bad
follow_under n (Some header) lines = follow (n + 1) (first_state header) lines

-- the first line that is not skipped is the header; a script without one is bad at the line behind its last
unfoldable pub script_from : ℕ → List (List ℕ) → Outcome
script_from n [] = stopped None n Bad
script_from n (line ∷ lines) = elim (limit_at n line) [
  | None ↦ (if is_skipped line then script_from (n + 1) lines else follow_under n (header_of line) lines)
  | Some stop ↦ stopped None n stop
]

abbrev pub followed : List ℕ → Outcome
followed bytes = script_from 1 (lines_of bytes)

-- ---- what is written
unfoldable pub stop_text : ℕ → Stop → List ℕ
stop_text n Bad = codes "stop line " ++ decimal n ++ codes " bad\n"
stop_text n Long = codes "stop line " ++ decimal n ++ codes " long\n"
stop_text n Lines = codes "stop line " ++ decimal n ++ codes " lines\n"
stop_text n Letters = codes "stop line " ++ decimal n ++ codes " letters\n"

abbrev pub status_of : Stop → Status
status_of Bad = BadLine
status_of Long = TooLong
status_of Lines = TooLong
status_of Letters = TooLong

-- each key with its history and its order
abbrev pub keys_text : RunState → List (List ℕ) → List ℕ
keys_text run [] = []
keys_text run (key ∷ keys) = key_text key (history run key) (printed run key) ++ keys_text run keys

-- the end line of a state
unfoldable pub counts_text : DrillState → List ℕ
counts_text c = end_text c.count (world_of c.run).calls (length (world_of c.run).letters)

-- what a run that went to its end tells last: each key that a call named, in the order of their bytes, and the end line
unfoldable pub drill_text : DrillState → List ℕ
drill_text c = keys_text c.run (named c.run) ++ counts_text c

abbrev pub last_text : Option DrillState → List ℕ
last_text None = []
last_text (Some c) = drill_text c

-- a status and a text
pub record Transcript : Type 0 where
  pub status : Status
  pub text : List ℕ

-- what the lines told, and behind it the line that tells the stop, or what the run tells last
abbrev pub written : List ℕ → Option (ℕ × Stop) → Option DrillState → Transcript
written text None state = record { status = Done; text = text ++ last_text state }
written text (Some stop) state = record { status = status_of stop.1; text = text ++ stop_text stop.0 stop.1 }

abbrev pub written_of : Outcome → Transcript
written_of f = written f.text f.stop f.state

unfoldable pub transcript : List ℕ → Transcript
transcript bytes = written_of (followed bytes)

-- what the lines of a script tell, its events, as far as they go
abbrev pub events_text : List (List ℕ) → List ℕ
events_text lines = (script_from 1 lines).text
