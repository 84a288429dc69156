use Rattle.std.proofs.Common.{rules, ◌≡◌, [], refl, subst}
use Rattle.hk_safety.specs.Kept.{KeptState, IsKeptOf}
use Rattle.hk_safety.proofs.Starting.{first_kept, no_events, run_starts, kept_starts}
use Rattle.hk_safety.proofs.live.LiveRun.new.Goals as goal

pub invariant_of-result : goal.invariant_of-result
invariant_of-result c =
    let world : first_kept c.args.header ≡ record { world = c.in_ok-world.world; keys = c.new-3.result.entries; calls = c.new-4.result.items } = search rules in
    let none : [] ≡ c.new-2.result.events = search rules in
    rw (← none) (run_starts c.args.header c.requires, refl, subst (λ (k : KeptState). IsKeptOf k (no_events c.args.header)) world (kept_starts c.args.header))
