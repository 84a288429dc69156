use Rattle.hk_generate.proofs.Drawings.{event_ok}
use Rattle.hk_generate.proofs.generate.Drawing.step.Goals as goal

pub push-requires : goal.push-requires
push-requires c = event_ok _ _ _ c.in_ok-event.event c.in_ok-event.ensures.ok
