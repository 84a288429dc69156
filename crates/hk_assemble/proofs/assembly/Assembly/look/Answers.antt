use Rattle.hk_assemble.proofs.Advancing.{look_done}
use Rattle.hk_assemble.proofs.assembly.Assembly.look.Goals as goal

pub returns : goal.returns
returns c = λ header front on.
    look_done header c.args.self.now.run c.args.self.now.sent.entries c.args.self.now.kept.entries front on c.reads_leave.ensures.read c.args.listed c.args.note.now c.in_ok-answer.answer c.look.new.run
    c.keep.new.kept.entries c.in_ok-answer.ensures c.in_ok-keep.ensures.absent c.in_ok-keep.ensures.kept
