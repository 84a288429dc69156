use Rattle.hk_conn.proofs.Exchanging.{pieces_and_pauses}
use Rattle.hk_conn.proofs.step.pieces_and_pauses_do_not_matter.Goals as goal

pub returns : goal.returns
returns g c = pieces_and_pauses g.D.Desk.will
