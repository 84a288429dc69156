use Rattle.std.proofs.Common.{sym, ap, ◌∙◌}
use Rattle.std.specs.Option.{option_copied}
use Rattle.hk_clocks.proofs.Kept.{bounded_at, not_some, tick_kept, with_paces}
use Rattle.hk_clocks.proofs.InTurn.{made_paces, tick_made}
use Rattle.hk_clocks.proofs.clocks.Clocks.tick.Goals as goal

pub first_behind-requires-clause-bounded : goal.first_behind-requires-clause-bounded
first_behind-requires-clause-bounded c = bounded_at (record { skew = c.self.inside.skew; paces = c.self.inside.paces.entries }) c.self.invariant c.args.actor c.in-Some.pace.now (sym c.pace_of.ensures ∙ ap option_copied c.in-Some.is)

pub leads_after-requires-clause-bounded : goal.leads_after-requires-clause-bounded
leads_after-requires-clause-bounded c = bounded_at (record { skew = c.self.inside.skew; paces = c.self.inside.paces.entries }) c.self.invariant c.args.actor c.in-Some.pace.now (sym c.pace_of.ensures ∙ ap option_copied c.in-Some.is)

pub invariant_of-self : goal.invariant_of-self
invariant_of-self c =
    let its = sym c.pace_of.ensures ∙ ap option_copied c.in-Some.is in
    with_paces c.self.inside.skew _ _
    (made_paces (record { skew = c.self.inside.skew; paces = c.self.inside.paces.entries }) c.self.invariant c.args.actor c.in-Some.pace.now c.args.to c.in_ok-leads.leads c.rise_one.new.paces.entries its c.in_ok-leads.ensures c.rise_one.ensures)
    (tick_kept (record { skew = c.self.inside.skew; paces = c.self.inside.paces.entries }) c.args.actor c.in-Some.pace.now c.args.to c.self.invariant c.requires its
    (not_some (λ q. q.1.clock) _ (λ y e. c.in_default-first_behind.not-Some y (c.first_behind.ensures ∙ e))))

pub returns : goal.returns
returns c =
    let its = sym c.pace_of.ensures ∙ ap option_copied c.in-Some.is in
    rw (sym c.self.view_is)
    (tick_made (record { skew = c.self.inside.skew; paces = c.self.inside.paces.entries }) c.args.actor c.in-Some.pace.now c.args.to c.rise_one.new.paces.entries its c.if-to-clock.false
    (not_some (λ q. q.1.clock) _ (λ y e. c.in_default-first_behind.not-Some y (c.first_behind.ensures ∙ e)))
    (made_paces (record { skew = c.self.inside.skew; paces = c.self.inside.paces.entries }) c.self.invariant c.args.actor c.in-Some.pace.now c.args.to c.in_ok-leads.leads c.rise_one.new.paces.entries its c.in_ok-leads.ensures c.rise_one.ensures))
