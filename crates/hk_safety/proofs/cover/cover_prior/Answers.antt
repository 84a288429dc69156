use Rattle.hk_safety.proofs.Puts.{on_ok}
use Rattle.hk_safety.proofs.Covering.{prior_found}
use Rattle.hk_safety.proofs.cover.cover_prior.Goals as goal

pub returns-in-Some : goal.returns-in-Some
returns-in-Some c =
    on_ok c.cover_pending.result
    (prior_found c.args.view.now c.args.cover c.args.node.now c.args.rose c.args.prior.now c.in-Some.row c.args.keys.now.entries c.cover_row.new.keys.entries
    c.cover_pending.new.keys.entries c.if-not-rose.false c.in-Some.is c.in_ok-cover_row.ensures) c.cover_pending.ensures
