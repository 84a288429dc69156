use Rattle.hk_frame.proofs.Sizes.{frame_sized}
use Rattle.hk_frame.proofs.lengths_hold.Goals as goal

pub returns : goal.returns
returns c = frame_sized
