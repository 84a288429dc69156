use Rattle.std.proofs.Common.{rules, ◌≡◌, ◌<◌, ◌+◌, List, Err, length, get_or, take, sym, subst}
use Rattle.std.specs.Prelude.{IfErr}
use Rattle.hk_safety.specs.Run.{RunState}
use Rattle.hk_assemble.specs.declared.gap.Gap.TheVariants as Gap
use Rattle.hk_storm.specs.Concluded.{AreAssembled, IsFirstUnfit}
use Rattle.hk_storm.proofs.Concluding.{group_at, came_more, first_unfit, first_wanting}
use Rattle.hk_storm.proofs.follow.follow_all.Goals as goal

pub assemble-requires-clause-whole : goal.assemble-requires-clause-whole
assemble-requires-clause-whole c =
    let within : c.loop-group.group-index < length c.args.groups.now = search rules in
    let is : c.group-item.result ≡ get_or c.args.groups.now c.loop-group.group-index c.group-item.result = search rules in
    (group_at c.args.header.nodes c.args.groups.now c.loop-group.group-index c.group-item.result within is c.requires.groups).whole

pub assemble-requires-clause-rising : goal.assemble-requires-clause-rising
assemble-requires-clause-rising c =
    let within : c.loop-group.group-index < length c.args.groups.now = search rules in
    let is : c.group-item.result ≡ get_or c.args.groups.now c.loop-group.group-index c.group-item.result = search rules in
    (group_at c.args.header.nodes c.args.groups.now c.loop-group.group-index c.group-item.result within is c.requires.groups).rising

pub returns-in_err-run-clause-unfit : goal.returns-in_err-run-clause-unfit
returns-in_err-run-clause-unfit c =
    let within : c.loop-group.group-index < length c.args.groups.now = search rules in
    let is : c.group-item.result ≡ get_or c.args.groups.now c.loop-group.group-index c.group-item.result = search rules in
    let told : c.from_residual.result ≡ Err c.in_err-run.field-0.0 = search rules in
    subst (λ r. IfErr r (λ gap. IsFirstUnfit c.args.header c.args.groups.now gap)) (sym told)
    (first_unfit c.args.header c.args.groups.now c.loop-group.group-index c.group-item.result c.loop-group.runs.items within is c.loop-group.invariant c.in_err-run.field-0.0 c.in_err-run.ensures)

pub returns-in_err-put_run-clause-unfit : goal.returns-in_err-put_run-clause-unfit
returns-in_err-put_run-clause-unfit c =
    let within : c.loop-group.group-index < length c.args.groups.now = search rules in
    let is : c.group-item.result ≡ get_or c.args.groups.now c.loop-group.group-index c.group-item.result = search rules in
    let told : c.from_residual-in_err-put_run.result ≡ Err Gap.Memory = search rules in
    subst (λ r. IfErr r (λ gap. IsFirstUnfit c.args.header c.args.groups.now gap)) (sym told)
    (first_wanting c.args.header c.args.groups.now c.loop-group.group-index c.group-item.result c.loop-group.runs.items within is c.loop-group.invariant c.in_ok-run.run' c.in_ok-run.ensures)

pub loop-group-preserved : goal.loop-group-preserved
loop-group-preserved c =
    let within : c.loop-group.group-index < length c.args.groups.now = search rules in
    let is : c.group-item.result ≡ get_or c.args.groups.now c.loop-group.group-index c.group-item.result = search rules in
    subst (λ (l : List RunState). AreAssembled c.args.header (take (c.loop-group.group-index + 1) c.args.groups.now) l) (sym c.in_ok-put_run.ensures)
    (came_more c.args.header c.args.groups.now c.loop-group.group-index c.group-item.result c.loop-group.runs.items within is c.loop-group.invariant c.in_ok-run.run' c.in_ok-run.ensures)
