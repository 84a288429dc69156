use Rattle.std.proofs.Common.{map}
use Rattle.hk_merge.specs.Placed.{item_of}
use Rattle.hk_assemble.proofs.Least.{least_is}
use Rattle.hk_assemble.proofs.taking.least_sent.Goals as goal

pub returns : goal.returns
returns c = least_is c.sameness_is_equality.ensures.letter c.args.letter.now (map item_of c.args.slots.now) c.least_in.result c.least_in.ensures
