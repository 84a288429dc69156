use Rattle.hk_peer.proofs.Framing.{goes_on, same, frames_more, no_frame_in_part, no_frame_in_bad}
use Rattle.hk_peer.proofs.Waiting.{bad_stays}
use Rattle.hk_peer.proofs.pieces_do_not_matter.Goals as goal

pub returns-clause-one_way : goal.returns-clause-one_way
returns-clause-one_way c = record { goes_on = goes_on; same = same }

pub returns-clause-stay : goal.returns-clause-stay
returns-clause-stay c = record { frames = frames_more; bad = bad_stays; no_frame_in_part = no_frame_in_part; no_frame_in_bad = no_frame_in_bad }
