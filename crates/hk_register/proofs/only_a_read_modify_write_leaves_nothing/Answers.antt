use Rattle.hk_register.proofs.Leaving.{only_rmw_leaves_nothing}
use Rattle.hk_register.proofs.only_a_read_modify_write_leaves_nothing.Goals as goal

pub returns : goal.returns
returns c = only_rmw_leaves_nothing
