use Rattle.std.proofs.Common.{ℕ, Option, sym, ap, ◌∙◌}
use Rattle.hk_shared_state.specs.Seeking.{managers_noted, founding_noted}
use Rattle.hk_shared_state.proofs.standing.Standing.note_founding.Goals as goal

pub returns-in-Some : goal.returns-in-Some
returns-in-Some c =
    c.note_managers.ensures ∙ ap (λ (n : ℕ). managers_noted n c.args.self.now) c.founding_by.ensures ∙
    sym (ap (λ (t : Option ℕ). founding_noted t c.args.self.now) c.in-Some.is)
