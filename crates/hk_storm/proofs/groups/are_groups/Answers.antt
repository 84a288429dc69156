use Rattle.std.proofs.Common.{rules, ◌≡◌, ◌<◌, length, get_or, not, true}
use Rattle.std.proofs.lemmas.Bool.{false≢true}
use Rattle.hk_storm.proofs.Concluding.{group_at, never_both}
use Rattle.hk_storm.proofs.groups.are_groups.Goals as goal

pub returns-then-not-is_group : goal.returns-then-not-is_group
returns-then-not-is_group c =
    let within : c.loop-group.group-index < length c.args.groups.now = search rules in
    let is : c.group-item.result ≡ get_or c.args.groups.now c.loop-group.group-index c.group-item.result = search rules in
    let none : not c.is_group.result ≡ true = search rules in
    (λ e. absurd (false≢true e), λ all. absurd (never_both c.is_group.result (c.is_group.ensures.1 (group_at c.args.nodes c.args.groups.now c.loop-group.group-index c.group-item.result within is all)) none))
