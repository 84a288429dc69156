use Rattle.hk_frame.proofs.Sizes.{printed_frame}
use Rattle.hk_frame.proofs.print.print_letter.Goals as goal

pub returns-else-is_err-clause-printed : goal.returns-else-is_err-clause-printed
returns-else-is_err-clause-printed c = printed_frame c.put_frame-printed.result c.args.out.now.items c.reserve.new.self.items c.put_frame-printed.new.out.items c.frame_length-length.result c.args.shard c.args.letter.now c.reserve.ensures.items c.frame_length-length.ensures c.put_frame-printed.ensures.printed
