-- What taking a line keeps of a state, and what the code of one line does.
use Rattle.std.proofs.Common.{◌≡◌, ℕ, ◌+◌, ◌≤◌, List, length, Bool, true, false, Option, Some, None, Result, Ok, Err, IfOk, [], nat_lt, if◌then◌else◌, refl, sym, ap, subst, ◌∙◌, arith}
use Rattle.hk_event.specs.declared.event.Event.{Event}
use Rattle.hk_event.specs.declared.refused.Refused.{Refused}
use Rattle.hk_world.specs.declared.shown.Shown.{Shown}
use Rattle.hk_world.specs.World.{WorldState}
use Rattle.hk_world.specs.Steps.{Accepted, world_step}
use Rattle.hk_world.specs.Sound.{IsEvent}
use Rattle.hk_script.specs.Grammar.{IsEventLine}
use Rattle.hk_script.specs.Lines.{event_of}
use Rattle.hk_script.proofs.Exact.{event_read}
use Rattle.hk_safety.specs.Run.{RunState, world_of, IsRun}
use Rattle.hk_safety.specs.Push.{with_event, IsPushed}
use Rattle.hk_drill.specs.declared.stop.Stop.{Stop}
use Rattle.hk_drill.specs.declared.stop.Stop.TheVariants.{Bad, Letters}
use Rattle.hk_drill.specs.declared.drill_state.TheConstants.{MAX_LETTERS}
use Rattle.hk_drill.specs.Shown.{shown_text}
use Rattle.hk_drill.specs.Transcript.{DrillState, Next, state_with, event_at, read_at, line_at, limit_at, is_skipped}
use Rattle.hk_drill.specs.Taken.{IsTaken, state_shown}
use Rattle.hk_drill.proofs.Reading.{read_event_ok, event_refused}
use Rattle.hk_safety.proofs.Runs.{world_pushed, run_more}

-- what a line makes of a state: a run still, and at most one event line more
pub record IsNext (c d : DrillState) : Type 0 where
  pub run : IsRun c.run → IsRun d.run
  pub count : d.count ≤ c.count + 1

abbrev pub LeadsOn : DrillState → Next → Type 0
LeadsOn c next = IsNext c next.state

within : {X E : Type 0} (test : Bool) (e : E) (x : X) (P : X → Type 0) → P x → IfOk (if test then Err e else Ok x) P
within true e x P p = tt
within false e x P p = p

with_next : (c : DrillState) (event : Event) (made : Result Accepted Refused) → IsEvent event → world_step (world_of c.run) event ≡ made
    → IfOk (state_with c event made) (LeadsOn c)
with_next c event (Err refused) ok is = record { run = λ run. run; count = omega arith }
with_next c event (Ok a) ok is =
    within (nat_lt MAX_LETTERS (length a.world.letters)) Letters _ (LeadsOn c) (record { run = λ run. run_more c.run event a run ok is; count = omega arith })

event_next : (c : DrillState) (read : Option Event) → ((event : Event) → read ≡ Some event → IsEvent event) → IfOk (event_at c read) (LeadsOn c)
event_next c None ok = tt
event_next c (Some event) ok = with_next c event (world_step (world_of c.run) event) (ok event refl) refl

unless_skipped : (c : DrillState) (skipped : Bool) (line : List ℕ) → IfOk (if skipped then Ok (record { state = c; text = [] }) else event_at c (event_of line)) (LeadsOn c)
unless_skipped c true line = record { run = λ run. run; count = omega arith }
unless_skipped c false line = event_next c (event_of line) (read_event_ok line)

pub read_next : (c : DrillState) (limit : Option Stop) (line : List ℕ) → IfOk (read_at c limit line) (LeadsOn c)
read_next c (Some stop) line = tt
read_next c None line = unless_skipped c (is_skipped line) line

pub line_next : (n : ℕ) (line : List ℕ) (c : DrillState) → IfOk (line_at n line c) (LeadsOn c)
unfolding line_at
line_next n line c = read_next c (limit_at n line) line

count_at : (c d : DrillState) (before after : List ℕ) (made : Result Next Stop) → IfOk made (LeadsOn c) → IsTaken None d before after made → d.count ≤ c.count + 1
count_at c d before after (Ok next) leads taken = subst (λ (x : DrillState). x.count ≤ c.count + 1) taken.0 leads.count
count_at c d before after (Err stop) leads taken = absurd taken

pub count_next : (line : List ℕ) (c d : DrillState) (before after : List ℕ) → IsTaken None d before after (read_at c None line) → d.count ≤ c.count + 1
count_next line c d before after taken = count_at c d before after (read_at c None line) (read_next c None line) taken

-- ---- an event that the code's run has made
abbrev within_letters : DrillState → Event → WorldState → Shown → Result Next Stop
within_letters c event world shown =
    if nat_lt MAX_LETTERS (length world.letters) then Err Letters
    else Ok (record { state = record { run = with_event c.run event; count = c.count + 1 }; text = shown_text (c.count + 1) shown })

abbrev pub state_made : DrillState → Event → DrillState
state_made c event = record { run = with_event c.run event; count = c.count }

shown_same : (c : DrillState) (event : Event) (a : Accepted) (shown : Shown) → world_step (world_of c.run) event ≡ Ok a → a.shown ≡ shown
    → state_shown (state_made c event) shown ≡ event_at c (Some event)
shown_same c event a shown is same =
    ap (λ w. within_letters c event w shown) (world_pushed c.run event a is)
    ∙ ap (λ s. within_letters c event a.world s) (sym same)
    ∙ ap (state_with c event) (sym is)

abbrev pub state_of : RunState → ℕ → DrillState
state_of run count = record { run = run; count = count }

abbrev pub AreTaken : {E : Type 0} → Result (Option Stop) E → DrillState → List ℕ → List ℕ → Result Next Stop → Type 0
AreTaken r d before after made = IfOk r (λ stop. IsTaken stop d before after made)

told_taken : {E : Type 0} (r : Result (Option Stop) E) (c d : DrillState) (before after : List ℕ) (event : Event) (run : RunState) (shown : Shown) → IsPushed (Ok shown) c.run run event
    → AreTaken r d before after (state_shown (state_of run c.count) shown) → AreTaken r d before after (event_at c (Some event))
told_taken r c d before after event run shown pushed told =
    let made = subst (λ (x : RunState). AreTaken r d before after (state_shown (state_of x c.count) shown)) pushed.1 told in
    subst (AreTaken r d before after) (shown_same c event pushed.0.0 shown pushed.0.1 pushed.0.2) made

-- what is told of the event is what the definition makes of it
pub made_taken : {E : Type 0} (r : Result (Option Stop) E) (c d : DrillState) (before after : List ℕ) (event : Event) (was run : RunState) (count : ℕ) (shown : Shown) → state_of was count ≡ c
    → IsPushed (Ok shown) was run event → AreTaken r d before after (state_shown (state_of run count) shown)
    → AreTaken r d before after (event_at c (Some event))
made_taken r c d before after event was run count shown same pushed told =
    subst (λ (x : DrillState). AreTaken r d before after (event_at x (Some event))) same (told_taken r (state_of was count) d before after event run shown pushed told)

-- ---- a line that is read
unless_same : (c : DrillState) (line : List ℕ) (skipped : Bool) → is_skipped line ≡ skipped
    → read_at c None line ≡ (if skipped then Ok (record { state = c; text = [] }) else event_at c (event_of line))
unless_same c line skipped e = ap (λ b. if b then Ok (record { state = c; text = [] }) else event_at c (event_of line)) e

pub line_is_bad : (line : List ℕ) (c : DrillState) → is_skipped line ≡ false
    → ((event : Event) → IsEventLine line event → ⊥) → read_at c None line ≡ Err Bad
line_is_bad line c skipped no_event = unless_same c line false skipped ∙ ap (event_at c) (event_refused line no_event)

pub line_taken : {E : Type 0} (r : Result (Option Stop) E) (line : List ℕ) (c d : DrillState) (before after : List ℕ) (event : Event)
    → is_skipped line ≡ false → IsEventLine line event
    → AreTaken r d before after (event_at c (Some event)) → AreTaken r d before after (read_at c None line)
line_taken r line c d before after event skipped is taken =
    let same : event_at c (Some event) ≡ read_at c None line = sym (unless_same c line false skipped ∙ ap (event_at c) (event_read line event is)) in
    subst (AreTaken r d before after) same taken
