-- A run that is drawn is a run.
use Rattle.std.proofs.Common.{◌≡◌, ℕ, zero, suc, ◌≤◌, List, length, Bool, true, false, if◌then◌else◌, nat_lt, ◌==◌, Option, Some, None, Result, Ok, Err, take, refl, sym, ap, subst, ◌∙◌, arith, append-nil}
use Rattle.std.specs.Io.KnownBytes.{Appends}
use Rattle.hk_event.specs.declared.event.Event.{Event}
use Rattle.hk_event.specs.declared.refused.Refused.{Refused}
use Rattle.hk_world.specs.declared.shown.Shown.{Shown}
use Rattle.hk_world.specs.Sound.{IsEvent}
use Rattle.hk_world.specs.Steps.{Accepted, world_step}
use Rattle.hk_script.specs.Drawn.{GeneratorState, draw, call_drawn, take_drawn, resend_drawn, replay_drawn, kind_drawn, event_drawn, generator_step}
use Rattle.hk_safety.specs.Run.{RunState, world_of, IsRun, RunsAreLegal, AllLegal}
use Rattle.hk_safety.specs.Push.{with_event, IsPushed}
use Rattle.hk_generate.specs.Generated.{Counts, Drawing, first_drawing, with_replies, drawing_with, next_drawn, next_drawing, drawn_on, generated}
use Rattle.hk_safety.proofs.Runs.{run_more}

-- ---- an event that is drawn may happen
call_ok : (nodes : ℕ) (g : _) → IsEvent (call_drawn nodes g).0
unfolding call_drawn
call_ok nodes g = tt

take_ok : (letters : ℕ) (g : _) → IsEvent (take_drawn letters g).0
unfolding take_drawn
take_ok letters g = tt

resend_ok : (nodes : ℕ) (g : _) → IsEvent (resend_drawn nodes g).0
unfolding resend_drawn
resend_ok nodes g = tt

replay_ok : (nodes : ℕ) (g : _) → IsEvent (replay_drawn nodes g).0
unfolding replay_drawn
replay_ok nodes g = tt

chosen_ok : {G : Type 0} (b : Bool) (x y : Event × G) → IsEvent x.0 → IsEvent y.0 → IsEvent (if b then x else y).0
chosen_ok true x y p q = p
chosen_ok false x y p q = q

kind_ok : (kind nodes letters : ℕ) (g : _) → IsEvent (kind_drawn kind nodes letters g).0
kind_ok kind nodes letters g =
    chosen_ok (nat_lt kind 4) (call_drawn nodes g) _ (call_ok nodes g)
    (chosen_ok (nat_lt kind 14) _ _ (chosen_ok (letters == 0) (call_drawn nodes g) (take_drawn letters g) (call_ok nodes g) (take_ok letters g))
    (chosen_ok (kind == 14) (resend_drawn nodes g) (replay_drawn nodes g) (resend_ok nodes g) (replay_ok nodes g)))

drawn_ok : (nodes letters : ℕ) (g : _) → IsEvent (event_drawn nodes letters g).0
unfolding event_drawn
drawn_ok nodes letters g = kind_ok (draw 16 g).0 nodes letters (draw 16 g).1

pub event_ok : (s new : GeneratorState) (letters : ℕ) (event : Event) → ◌≡◌ {A = Event × GeneratorState} (event, new) (generator_step s letters) → IsEvent event
event_ok s new letters event e = subst IsEvent (sym (ap (λ (p : Event × GeneratorState). p.0) e)) (drawn_ok s.nodes letters s.numbers)

-- ---- events one by one
pub drawn_turn : (n m : ℕ) (d : Drawing) → n ≡ suc m → drawn_on n d ≡ drawn_on m (next_drawing d)
unfolding drawn_on
drawn_turn n m d e = rw e refl

pub drawn_end : (n : ℕ) (d : Drawing) → n ≡ 0 → drawn_on n d ≡ d
unfolding drawn_on
drawn_end n d e = rw e refl

with_ok : (d : Drawing) (drawn : Event × GeneratorState) (made : Result Accepted Refused) → IsEvent drawn.0 → world_step (world_of d.run) drawn.0 ≡ made
    → IsRun d.run → IsRun (drawing_with d drawn made).run
with_ok d drawn (Err refused) ok e is = is
with_ok d drawn (Ok a) ok e is = run_more d.run drawn.0 a is ok e

next_ok : (d : Drawing) → IsRun d.run → IsRun (next_drawing d).run
next_ok d is =
    with_ok d (next_drawn d) (world_step (world_of d.run) (next_drawn d).0) (drawn_ok d.generator.nodes (length (world_of d.run).letters) d.generator.numbers) refl is

on_ok : (n : ℕ) (d : Drawing) → IsRun d.run → IsRun (drawn_on n d).run
unfolding drawn_on
on_ok zero d is = is
on_ok (suc n) d is = on_ok n (next_drawing d) (next_ok d is)

first_ok : (start nodes : ℕ) → 1 ≤ nodes → nodes ≤ 16 → IsRun (first_drawing start nodes).run
first_ok start nodes some few = record { header = record { some = some; few = few; managers = omega arith; lease = omega arith; skew = omega arith }; accepted = tt }

pub generated_legal : RunsAreLegal → (start count nodes : ℕ) → 1 ≤ nodes → nodes ≤ 16 → AllLegal (generated start count nodes).run
generated_legal legal start count nodes some few = legal (generated start count nodes).run (on_ok count (first_drawing start nodes) (first_ok start nodes some few))

-- ---- what the code makes of an event
abbrev pub drawing_of : RunState → GeneratorState → Counts → Drawing
drawing_of run generator counts = record { run = run; generator = generator; counts = counts }

pub made_next : (d : Drawing) (run after : RunState) (generator next : GeneratorState) (counts more : Counts) (event : Event) (shown : Shown) → drawing_of run generator counts ≡ d
    → ◌≡◌ {A = Event × GeneratorState} (event, next) (generator_step generator (length (world_of run).letters)) → IsPushed (Ok shown) run after event → more ≡ with_replies counts shown.replies
    → drawing_of after next more ≡ next_drawing d
made_next d run after generator next counts more event shown same drawn pushed counted =
    ap (λ r. drawing_of r next more) pushed.1
    ∙ ap (λ c. drawing_of (with_event run event) next c) (counted ∙ ap (λ (s : Shown). with_replies counts s.replies) (sym pushed.0.2))
    ∙ ap (λ r. drawing_with (drawing_of run generator counts) (event, next) r) (sym pushed.0.1)
    ∙ ap (λ (p : Event × GeneratorState). drawing_with (drawing_of run generator counts) p (world_step (world_of run) p.0)) drawn
    ∙ ap next_drawing same

pub refused_next : (d : Drawing) (run after : RunState) (generator next : GeneratorState) (counts : Counts) (event : Event) (refused : Refused) → drawing_of run generator counts ≡ d
    → ◌≡◌ {A = Event × GeneratorState} (event, next) (generator_step generator (length (world_of run).letters)) → world_step (world_of run) event ≡ Err refused → after ≡ run
    → drawing_of after next counts ≡ next_drawing d
refused_next d run after generator next counts event refused same drawn step kept =
    ap (λ r. drawing_of r next counts) kept
    ∙ ap (λ r. drawing_with (drawing_of run generator counts) (event, next) r) (sym step)
    ∙ ap (λ (p : Event × GeneratorState). drawing_with (drawing_of run generator counts) p (world_step (world_of run) p.0)) drawn
    ∙ ap next_drawing same

-- ---- nothing is a front
pub nothing : (o : Option (List ℕ)) (text : List ℕ) → (n : ℕ) × Appends o o (take n text)
nothing None text = (0, tt)
nothing (Some xs) text = (0, sym (append-nil xs))
