use Rattle.std.proofs.Common.{◌∙◌, ap, length}
use Rattle.std.proofs.lemmas.Result.{IfOk-weaker}
use Rattle.hk_group.proofs.member.Member.among_managers.Goals as goal

pub returns-clause-queues : goal.returns-clause-queues
returns-clause-queues g c = IfOk-weaker c.with_queues.result _ _ (λ member is. ap (λ queues. length queues.items) is ∙ c.in_ok-queues.ensures) c.with_queues.ensures.queues
