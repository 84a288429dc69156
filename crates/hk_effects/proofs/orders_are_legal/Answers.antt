use Rattle.hk_effects.proofs.Legality.{orders_legal}
use Rattle.hk_effects.proofs.orders_are_legal.Goals as goal

pub returns : goal.returns
returns c = orders_legal c.runs_keep_parts.ensures c.printed_is_legal.ensures.printed c.printed_is_legal.ensures.slots
