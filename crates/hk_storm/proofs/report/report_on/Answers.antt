use Rattle.std.proofs.Common.{rules, sym, subst}
use Rattle.hk_event.specs.declared.event.Header.{Header}
use Rattle.hk_script.specs.Drawn.{group_of}
use Rattle.hk_storm.specs.Concluded.{AreAssembled, EachRun}
use Rattle.hk_storm.proofs.Concluding.{group_header, are_runs}
use Rattle.hk_storm.proofs.report.report_on.Goals as goal

pub report_runs-requires-clause-runs : goal.report_runs-requires-clause-runs
report_runs-requires-clause-runs c =
    let told : AreAssembled c.header_of.result c.args.groups.now c.in-Ok.runs.items = search rules in
    let came : AreAssembled (group_of c.args.opts.now.nodes) c.args.groups.now c.in-Ok.runs.items = subst (λ (h : Header). AreAssembled h c.args.groups.now c.in-Ok.runs.items) c.header_of.ensures told in
    subst EachRun (sym c.as_slice.ensures.value) (are_runs (group_of c.args.opts.now.nodes) c.args.groups.now c.in-Ok.runs.items (group_header c.args.opts.now.nodes c.requires.storm.some_nodes c.requires.storm.few_nodes) came)
