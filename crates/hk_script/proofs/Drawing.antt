-- The draws of one event, one after the other.
use Rattle.std.proofs.Common.{◌≡◌, ℕ, ap, ◌∙◌}
use Rattle.hk_event.specs.declared.event.Event.{Event}
use Rattle.rand_pcg.specs.Lcg.{Lcg}
use Rattle.hk_script.specs.Drawn.{GeneratorState, draw, kind_drawn, event_drawn, generator_step}

abbrev generator : ℕ → Lcg → GeneratorState
generator nodes numbers = record { nodes = nodes; numbers = numbers }

pub event_next : (s : GeneratorState) (nodes kind letters : ℕ) (g mid new : Lcg) (event : Event) → generator nodes g ≡ s → ◌≡◌ {A = ℕ × Lcg} (kind, mid) (draw 16 g)
    → ◌≡◌ {A = Event × Lcg} (event, new) (kind_drawn kind nodes letters mid) → ◌≡◌ {A = Event × GeneratorState} (event, generator nodes new) (generator_step s letters)
unfolding event_drawn
event_next s nodes kind letters g mid new event same drawn made =
    ap (λ (p : Event × Lcg). (p.0, generator nodes p.1)) (made ∙ ap (λ (p : ℕ × Lcg). kind_drawn p.0 nodes letters p.1) drawn)
    ∙ ap (λ t. generator_step t letters) same
