-- How far a script whose bytes come in pieces has been followed, and what was written of it.
use Rattle.std.specs.Prelude.{◌≡◌, ℕ, ◌+◌, ◌≤◌, ◌<◌, ◌*◌, List, [], ◌∷◌, ◌++◌, length, ◌==◌, if◌then◌else◌, false, Option, Some, None, IfSome, Result, Ok, Err}
use Rattle.std.specs.List.{AllByRecursion}
use Rattle.std.specs.Io.KnownBytes.{Appends, Consumes}
use Rattle.hk_drill.specs.declared.stop.Stop.{Stop}
use Rattle.hk_outside.specs.Records.{Gave}
use Rattle.hk_event.specs.declared.event.Header.{Header}
use Rattle.hk_script.specs.Lines.{header_of}
use Rattle.hk_drill.specs.declared.stop.Stop.TheVariants.{Bad}
use Rattle.hk_drill.specs.declared.line.TheConstants.{MAX_LINE_LEN, MAX_LINES}
use Rattle.hk_drill.specs.Transcript.{DrillState, Outcome, Transcript, is_feed, lines_of, is_skipped, limit_at, behind, first_state, follow, script_from, followed, written_of}

-- ---- lines
-- none of the bytes is a line feed
abbrev pub HasNoFeed : List ℕ → Type 0
HasNoFeed bytes = AllByRecursion (λ b. is_feed b ≡ false) bytes

-- lines, each with the feed that ends it
abbrev pub with_feeds : List (List ℕ) → List ℕ
with_feeds [] = []
with_feeds (line ∷ lines) = line ++ 10 ∷ with_feeds lines

-- the bytes are these lines, each with its feed, and then the part of a line whose feed has not come
pub record AreLines (bytes : List ℕ) (lines : List (List ℕ)) (part : List ℕ) : Type 0 where
  pub same : bytes ≡ with_feeds lines ++ part
  pub whole : AllByRecursion HasNoFeed lines
  pub begun : HasNoFeed part

-- ---- what follows
-- what the lines from line n on tell: the header is looked for until there is one
abbrev pub further : ℕ → Option DrillState → List (List ℕ) → Outcome
further n None lines = script_from n lines
further n (Some c) lines = follow n c lines

-- These bytes have told this: whatever lines come, the script goes on from line n, of which this part has come. No
-- line before was too long.
pub record IsAt (bytes told : List ℕ) (n : ℕ) (part : List ℕ) (state : Option DrillState) : Type 0 where
  pub lines : List (List ℕ)
  pub cut : AreLines bytes lines part
  pub few : length bytes ≤ n * (MAX_LINE_LEN + 1) + length part
  pub goes : (later : List (List ℕ)) → script_from 1 (lines ++ later) ≡ behind told (further n state later)

-- whatever comes behind these bytes, the script has told this and stops at line n
abbrev pub HasStopped : List ℕ → List ℕ → ℕ → Stop → Type 0
HasStopped bytes told n stop = (more : List ℕ) → ((followed (bytes ++ more)).text ≡ told) × ((followed (bytes ++ more)).stop ≡ Some (n, stop))

abbrev pub IsAfter : Option Stop → List ℕ → List ℕ → ℕ → List ℕ → Option DrillState → Type 0
IsAfter None bytes told n part state = IsAt bytes told n part state
IsAfter (Some stop) bytes told n part state = HasStopped bytes told n stop

-- Line n leads from one state to the next and puts what it tells behind what was told before; or the script stops
-- there, and it tells nothing.
abbrev pub IsPassed : Option Stop → ℕ → List ℕ → Option DrillState → Option DrillState → List ℕ → List ℕ → Type 0
IsPassed None n line state next before after =
    (length line ≤ MAX_LINE_LEN) × ((text : List ℕ) × (after ≡ before ++ text) × ((later : List (List ℕ)) → further n state (line ∷ later) ≡ behind text (further (n + 1) next later)))
IsPassed (Some stop) n line state next before after =
    (after ≡ before) × ((later : List (List ℕ)) → ((further n state (line ∷ later)).text ≡ []) × ((further n state (line ∷ later)).stop ≡ Some (n, stop)))

-- a line may be number n, and fewer event lines stood before it
pub record IsCounted (n : ℕ) (state : Option DrillState) : Type 0 where
  pub within : n ≤ MAX_LINES + 1
  pub fewer : IfSome state (λ c. c.count < n)

-- the number of the line behind line n, or of the one at which the script stops
abbrev pub number_after : Option Stop → ℕ → ℕ
number_after None n = n + 1
number_after (Some stop) n = n

-- a part of line n passes a limit where the first of its bytes, or as many as it has, pass it
abbrev pub part_limit : ℕ → List ℕ → Option Stop
part_limit n part = if length part == 0 then None else limit_at n part

-- what the first line that may be the header makes: no state where it says nothing
abbrev pub state_under : Option Header → Result (Option DrillState) Stop
state_under None = Err Bad
state_under (Some header) = Ok (Some (first_state header))

abbrev pub begun_by : List ℕ → Result (Option DrillState) Stop
begun_by line = if is_skipped line then Ok None else state_under (header_of line)

-- this state, or why the script stops
abbrev pub IsBegun : Option Stop → Option DrillState → Result (Option DrillState) Stop → Type 0
IsBegun None next made = made ≡ Ok next
IsBegun (Some stop) next made = made ≡ Err stop

-- what is written where no byte comes behind this part of line n
abbrev pub ending : ℕ → List ℕ → Option DrillState → Transcript
ending n part state = written_of (further n state (lines_of part))

-- the part of line n, if it has a byte, is the last line: it leads on from one state to the next, or the script stops there
abbrev pub IsRest : Option Stop → ℕ → List ℕ → Option DrillState → ℕ → Option DrillState → List ℕ → List ℕ → Type 0
IsRest None n part state m next before after =
    (text : List ℕ) × (after ≡ before ++ text) × (further n state (lines_of part) ≡ behind text (further m next []))
IsRest (Some stop) n part state m next before after =
    (after ≡ before) × (m ≡ n) × ((further n state (lines_of part)).text ≡ []) × ((further n state (lines_of part)).stop ≡ Some (n, stop))

-- ---- what is written
-- These bytes were read: where the source tells what is left, they stood in front of it; where it records what it gives, it gave them.
pub record Came (left left' : Option (List ℕ)) (given given' : Option (List (List ℕ))) (read : List ℕ) : Type 0 where
  pub consumed : Consumes left left' read
  pub recorded : Gave given given' read

-- bytes were read, and what they told was written, up to the line at which the script stops, if it does
pub record HasCome (stop : Option Stop) (left left' : Option (List ℕ)) (given given' : Option (List (List ℕ))) (held held' : Option (List ℕ)) (n : ℕ) (part : List ℕ) (state : Option DrillState) : Type 0 where
  pub read : List ℕ
  pub told : List ℕ
  pub came : Came left left' given given' read
  pub put : Appends held held' told
  pub after : IsAfter stop read told n part state

-- a front of the text was written
pub record HasFront (held held' : Option (List ℕ)) (text : List ℕ) : Type 0 where
  pub front : List ℕ
  pub rest : List ℕ
  pub same : text ≡ front ++ rest
  pub put : Appends held held' front
