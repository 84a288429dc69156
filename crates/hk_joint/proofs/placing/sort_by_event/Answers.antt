use Rattle.std.proofs.Common.{rules, ◌≡◌}
use Rattle.std.proofs.lemmas.Fn.{always_returns_same}
use Rattle.hk_safety.specs.declared.placed.Placed.{Placed}
use Rattle.hk_joint.proofs.ByEvent.{sorted_gathers}
use Rattle.hk_joint.proofs.placing.sort_by_event.Goals as goal

pub returns : goal.returns
returns c = sorted_gathers c.args.placed.now.items c.sort_by_key.new.self.items
    (c.in_ok-sort_by_key.ensures.sorted (λ (p : Placed). p.event) (always_returns_same _ (λ a r. r ≡ a.0.now.event) _ (λ a r q k. search rules)))
    (c.in_ok-sort_by_key.ensures.stable (λ (p : Placed). p.event) (always_returns_same _ (λ a r. r ≡ a.0.now.event) _ (λ a r q k. search rules)))
