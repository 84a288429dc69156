-- What a drill prints of each key is legal.
use Rattle.std.proofs.Common.{◌≡◌, ℕ, ◌+◌, List, [], ◌∷◌, Bool, true, false, Option, Some, None, Result, Ok, Err, IfSome, IfOk, if◌then◌else◌, refl}
use Rattle.hk_event.specs.declared.event.Header.{Header}
use Rattle.hk_world.specs.Sound.{IsHeader}
use Rattle.hk_script.specs.Lines.{header_of}
use Rattle.hk_safety.specs.Run.{RunState, IsRun, RunsAreLegal, AllLegal}
use Rattle.hk_drill.specs.declared.stop.Stop.{Stop}
use Rattle.hk_drill.specs.Transcript.{DrillState, Next, Outcome, line_at, limit_at, is_skipped, first_state, follow, follow_under, script_from, lines_of, followed}
use Rattle.hk_drill.proofs.Reading.{read_header_ok}
use Rattle.hk_drill.proofs.DrillStates.{LeadsOn, line_next}
use Rattle.hk_drill.proofs.Following.{go_on, follow-cons, begin_at, script_from-cons}

-- the run that was followed, if there is one, is a run
abbrev HasRun : Outcome → Type 0
HasRun f = IfSome f.state (λ c. IsRun c.run)

goes_on : (n : ℕ) (c : DrillState) (lines : List (List ℕ)) (made : Result Next Stop) → IfOk made (LeadsOn c) → IsRun c.run
    → ((d : DrillState) → IsRun d.run → HasRun (follow (n + 1) d lines)) → HasRun (go_on n c lines made)
goes_on n c lines (Ok d) next is rest = rest d.state (next.run is)
goes_on n c lines (Err stop) next is rest = is

follow_runs : (lines : List (List ℕ)) (n : ℕ) (c : DrillState) → IsRun c.run → HasRun (follow n c lines)
unfolding follow
follow_runs [] n c is = is
follow_runs (line ∷ lines) n c is = rw follow-cons (goes_on n c lines (line_at n line c) (line_next n line c) is (follow_runs lines (n + 1)))

under_runs : (n : ℕ) (read : Option Header) (lines : List (List ℕ)) → ((h : Header) → read ≡ Some h → IsHeader h) → HasRun (follow_under n read lines)
under_runs n None lines ok = tt
under_runs n (Some header) lines ok = follow_runs lines (n + 1) (first_state header) (record { header = ok header refl; accepted = tt })

begins : (n : ℕ) (line : List ℕ) (lines : List (List ℕ)) (skipped : Bool) → HasRun (script_from (n + 1) lines)
    → HasRun (if skipped then script_from (n + 1) lines else follow_under n (header_of line) lines)
begins n line lines true rest = rest
begins n line lines false rest = under_runs n (header_of line) lines (read_header_ok line)

begins_at : (n : ℕ) (line : List ℕ) (lines : List (List ℕ)) (limit : Option Stop) → HasRun (script_from (n + 1) lines) → HasRun (begin_at n line lines limit)
begins_at n line lines None rest = begins n line lines (is_skipped line) rest
begins_at n line lines (Some stop) rest = tt

script_runs : (lines : List (List ℕ)) (n : ℕ) → HasRun (script_from n lines)
unfolding script_from
script_runs [] n = tt
script_runs (line ∷ lines) n = rw script_from-cons (begins_at n line lines (limit_at n line) (script_runs lines (n + 1)))

course_has : (P : RunState → Type 0) → ((run : RunState) → IsRun run → P run) → (state : Option DrillState) → IfSome state (λ c. IsRun c.run) → IfSome state (λ c. P c.run)
course_has P all None is = tt
course_has P all (Some c) is = all c.run is

-- what all runs have, the run that was followed has
pub told_has : (P : RunState → Type 0) → ((run : RunState) → IsRun run → P run) → (input : List ℕ) → IfSome (followed input).state (λ c. P c.run)
told_has P all input = course_has P all (followed input).state (script_runs (lines_of input) 1)

pub told_legal : RunsAreLegal → (input : List ℕ) → IfSome (followed input).state (λ c. AllLegal c.run)
told_legal legal input = told_has AllLegal legal input
