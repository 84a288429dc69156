use Rattle.std.proofs.Common.{rules, ◌∙◌}
use Rattle.hk_snap.proofs.Keeping.{goes_over, joins}
use Rattle.hk_snap.proofs.steps.join.Goals as goal

pub split_pass-whole-requires : goal.split_pass-whole-requires
split_pass-whole-requires c = (search rules, (search rules, (search rules, (c.requires.cell.1 ∙ c.requires.cell.0, goes_over _ _ c.requires.reads.1))))

pub join_pass-requires : goal.join_pass-requires
join_pass-requires c =
    let s = c.split_pass-whole.ensures in
    (search rules, (search rules, (search rules, ((c.requires.cell.0, s.given.0 ∙ c.requires.cell.1, s.given.2), joins _ _ _ _ c.requires.reads.0))))
