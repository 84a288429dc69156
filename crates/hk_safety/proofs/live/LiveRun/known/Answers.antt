use Rattle.std.proofs.Common.{ℕ, List, ◌≡◌, sym, ap, subst, IfOk}
use Rattle.std.specs.Ordering.{is_eq}
use Rattle.hk_effects.proofs.Order.{same_true}
use Rattle.hk_safety.proofs.live.LiveRun.known.Goals as goal

pub returns-in-Some : goal.returns-in-Some
returns-in-Some c =
    let same : c.args.key ≡ c.in-Some.name.now = same_true c.args.key c.in-Some.name.now (ap is_eq c.in-Some.ensures.same_key) in
    subst (λ (k : List ℕ). IfOk c.share.result (λ shared. shared ≡ k)) (sym same) c.share.ensures
