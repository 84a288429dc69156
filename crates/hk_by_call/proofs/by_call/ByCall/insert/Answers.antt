use Rattle.std.proofs.Common.{ap, ◌∙◌}
use Rattle.hk_by_call.specs.Kept.{kept_for}
use Rattle.hk_by_call.proofs.Beside.{is_kept, others_kept}
use Rattle.hk_by_call.proofs.by_call.ByCall.insert.Goals as goal

pub returns-in-Ok-clause-kept : goal.returns-in-Ok-clause-kept
returns-in-Ok-clause-kept g c = is_kept c.args.call c.args.value c.settle.new.kept.entries

pub returns-in-Ok-clause-others : goal.returns-in-Ok-clause-others
returns-in-Ok-clause-others g c = λ other apart. others_kept c.args.call c.args.value c.settle.new.kept.entries other apart ∙ ap (λ l. kept_for l other) (c.in-Ok.ensures.put ∙ c.self.view_is)
