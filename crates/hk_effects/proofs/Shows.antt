-- What the worked worlds share: their traces, and how a step of one shows its effects.
use Rattle.std.proofs.Common.{Some, None}
use Rattle.std.proofs.Common.{◌≡◌, ℕ, zero, suc, ◌<◌, ◌≤◌, Bool, true, List, [], ◌∷◌, ◌++◌, Ok, Err, Result, refl, inl, inr, ⊎_elim, arith}
use Rattle.std.specs.Prelude.{take, map}
use Rattle.std.specs.List.{flat_map}
use Rattle.hk_base.specs.declared.time.TheConstants.{MAX_TIME}
use Rattle.hk_base.specs.Range.{IsRoom}
use Rattle.hk_register.specs.Machine.{In, Each, Marked, Weaker, Note, Mark}
use Rattle.hk_register.specs.Effects.{Changes, NotesAfter}
use Rattle.hk_register.specs.Runs.{played, Plays}
use Rattle.hk_register.specs.Worked.{five}
use Rattle.hk_register.proofs.Grow.{in_either}
use Rattle.hk_register.proofs.Worked.{noted_after}
use Rattle.hk_event.specs.declared.event.Event.{Event}
use Rattle.hk_event.specs.declared.refused.Refused.{Refused}
use Rattle.hk_world.specs.Steps.{Accepted, world_step}
use Rattle.hk_world.specs.Sound.{IsEvent}
use Rattle.hk_world.specs.Worked.{managed, key}
use Rattle.hk_effects.specs.Projection.{Trace, project, letters_of, traced}
use Rattle.hk_effects.specs.Runs.{start_trace}
use Rattle.hk_effects.specs.Orders.{family}
use Rattle.hk_effects.specs.Worked.{Step, Shows, all_nodes, sent_by, marked_by, repeated, by_zero, by_one, more_by_zero, more_by_one}

-- the trace after some events
abbrev pub next : Trace → Event → Result Accepted Refused → Trace
next t event (Ok a) = traced key t event a
next t event (Err refused) = t

abbrev pub trace_after : Trace → List Step → Trace
trace_after t [] = t
trace_after t (step ∷ steps) = trace_after (next t step.event (world_step t.world step.event)) steps

-- before the event of this place
abbrev pub trace_with : ℕ → ℕ → List Step → ℕ → Trace
trace_with nodes managers steps k = trace_after (start_trace (managed nodes managers 0)) (take k steps)

abbrev pub trace_at : ℕ → List Step → ℕ → Trace
trace_at nodes steps k = trace_with nodes 0 steps k

pub room_of_one : IsRoom 1
room_of_one = record { some = omega arith; few = omega arith }

pub room_of_nine : IsRoom 9
room_of_nine = record { some = omega arith; few = omega arith }

pub lease_end : 1000 ≤ MAX_TIME
lease_end = omega arith

pub later : 2000 ≤ MAX_TIME
later = omega arith

pub a_manager : 0 < 9
a_manager = omega arith

-- a node with no view is in epoch 0
pub no_view_yet : 1 ≤ 0 → ⊥
no_view_yet h = absurd (omega (arith, h))

pub up_to_two : (P : ℕ → Type 0) → P 1 → P 2 → (e : ℕ) → 1 ≤ e → e ≤ 2 → P e
up_to_two P one two zero low high = absurd (omega (arith, low))
up_to_two P one two (suc zero) low high = one
up_to_two P one two (suc (suc zero)) low high = two
up_to_two P one two (suc (suc (suc e))) low high = absurd (omega (arith, high))

pub up_to_three : (P : ℕ → Type 0) → P 1 → P 2 → P 3 → (e : ℕ) → 1 ≤ e → e ≤ 3 → P e
up_to_three P one two three zero low high = absurd (omega (arith, low))
up_to_three P one two three (suc zero) low high = one
up_to_three P one two three (suc (suc zero)) low high = two
up_to_three P one two three (suc (suc (suc zero))) low high = three
up_to_three P one two three (suc (suc (suc (suc e)))) low high = absurd (omega (arith, high))

pub by_zero_changes : Changes by_zero None
by_zero_changes = record { changed = refl; register = refl; answer = refl; answered = refl }

pub by_one_changes : Changes by_one None
by_one_changes = record { changed = refl; register = refl; answer = refl; answered = refl }

pub more_by_zero_changes : Changes more_by_zero (Some five)
more_by_zero_changes = record { changed = refl; register = refl; answer = refl; answered = refl }

pub more_by_one_changes : Changes more_by_one (Some five)
more_by_one_changes = record { changed = refl; register = refl; answer = refl; answered = refl }

pub shows : {k : List ℕ} {t : Trace} {step : Step} {a : Accepted} → world_step t.world step.event ≡ Ok a → IsEvent step.event →
    Plays (family t.world.views) (project k t) step.effects →
    map (project k (traced k t step.event a)).node all_nodes ≡ map (played (project k t) step.effects).node all_nodes →
    letters_of k a.shown.letters ≡ flat_map (repeated step.copies) (sent_by (project k t) step.effects) →
    Each (Marked (project k (traced k t step.event a))) (marked_by (project k t) step.effects) →
    (traced k t step.event a).begun ≡ (played (project k t) step.effects).begun →
    (traced k t step.event a).history ≡ (played (project k t) step.effects).history → Shows k t step a
shows accepted is_event are_allowed nodes letters marks begun history =
    record {
      accepted = accepted;
      is_event = is_event;
      are_allowed = are_allowed;
      nodes = nodes;
      letters = letters;
      marks = marks;
      begun = begun;
      history = history;
    }

pub itself : (k : Mark) → Weaker k k
itself k = record { who = refl; epoch = refl; stamp = refl; exact = λ e. e; ready = λ e. e }

-- a note behind the old ones
pub noted_behind : (old : List Note) (m s top : ℕ) (exact : Bool) → (exact ≡ true → top ≡ s) →
    NotesAfter old (old ++ (record { who = m; exact = exact } ∷ [])) m s top
noted_behind old m s top exact says k h = ⊎_elim
    (λ (a : In old k). inl a)
    (λ (b : In (record { who = m; exact = exact } ∷ []) k).
    ⊎_elim (λ (none : ⊥). absurd none) (λ (new : (k.who ≡ m) × (k.exact ≡ true → top ≡ s)). inr new) (noted_after [] m s top exact says k b))
    (in_either old (record { who = m; exact = exact } ∷ []) k h)
