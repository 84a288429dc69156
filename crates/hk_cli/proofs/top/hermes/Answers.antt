use Rattle.std.proofs.Common.{subst}
use Rattle.std.specs.Prelude.{IfSome}
use Rattle.hk_cli.specs.declared.words.Command.TheVariants.{Drill, Joint, Generate, Storm, Serve, Peer, Watch, JointStorm}
use Rattle.hk_cli.specs.Commands.{MayEnd}
use Rattle.hk_cli.proofs.Ending.{read_is, none_is, is_none}
use Rattle.hk_cli.proofs.top.hermes.Goals as goal

pub returns-clause-usage : goal.returns-clause-usage
returns-clause-usage g c = λ e. let u = c.perform.ensures.usage e in (none_is _ _ c.read_command.ensures.read u.0, u.1, u.2)

pub returns-clause-no_command : goal.returns-clause-no_command
returns-clause-no_command g c = λ no. c.perform.ensures.no_command (is_none _ _ c.read_command.ensures.read no)

pub returns-clause-statuses : goal.returns-clause-statuses
returns-clause-statuses g c = λ command is. subst (λ o. IfSome o (λ k. MayEnd k c.perform.result)) (read_is _ _ command c.read_command.ensures.read is) c.perform.ensures.statuses

pub returns-clause-done : goal.returns-clause-done
returns-clause-done g c = λ is. c.perform.ensures.done (read_is _ _ Drill c.read_command.ensures.read is)

pub returns-clause-cut_off : goal.returns-clause-cut_off
returns-clause-cut_off g c = λ is. c.perform.ensures.cut_off (read_is _ _ Drill c.read_command.ensures.read is)

pub returns-clause-bad_line : goal.returns-clause-bad_line
returns-clause-bad_line g c = λ is. c.perform.ensures.bad_line (read_is _ _ Drill c.read_command.ensures.read is)

pub returns-clause-too_long : goal.returns-clause-too_long
returns-clause-too_long g c = λ is. c.perform.ensures.too_long (read_is _ _ Drill c.read_command.ensures.read is)

pub returns-clause-front : goal.returns-clause-front
returns-clause-front g c = λ is. c.perform.ensures.front (read_is _ _ Drill c.read_command.ensures.read is)

pub returns-clause-exact : goal.returns-clause-exact
returns-clause-exact g c = λ is. c.perform.ensures.exact (read_is _ _ Drill c.read_command.ensures.read is)

pub returns-clause-joint_done : goal.returns-clause-joint_done
returns-clause-joint_done g c = λ is. c.perform.ensures.joint_done (read_is _ _ Joint c.read_command.ensures.read is)

pub returns-clause-joint_bad_line : goal.returns-clause-joint_bad_line
returns-clause-joint_bad_line g c = λ is. c.perform.ensures.joint_bad_line (read_is _ _ Joint c.read_command.ensures.read is)

pub returns-clause-joint_too_long : goal.returns-clause-joint_too_long
returns-clause-joint_too_long g c = λ is. c.perform.ensures.joint_too_long (read_is _ _ Joint c.read_command.ensures.read is)

pub returns-clause-joint_cut_off : goal.returns-clause-joint_cut_off
returns-clause-joint_cut_off g c = λ is. c.perform.ensures.joint_cut_off (read_is _ _ Joint c.read_command.ensures.read is)

pub returns-clause-joint_front : goal.returns-clause-joint_front
returns-clause-joint_front g c = λ is. c.perform.ensures.joint_front (read_is _ _ Joint c.read_command.ensures.read is)

pub returns-clause-joint_exact : goal.returns-clause-joint_exact
returns-clause-joint_exact g c = λ is. c.perform.ensures.joint_exact (read_is _ _ Joint c.read_command.ensures.read is)

pub returns-clause-written : goal.returns-clause-written
returns-clause-written g c = λ start count nodes is. c.perform.ensures.written start count nodes (read_is _ _ (Generate start count nodes) c.read_command.ensures.read is)

pub returns-clause-legal : goal.returns-clause-legal
returns-clause-legal g c = λ start count nodes is. c.perform.ensures.legal start count nodes (read_is _ _ (Generate start count nodes) c.read_command.ensures.read is)

pub returns-clause-part : goal.returns-clause-part
returns-clause-part g c = λ start count nodes is. c.perform.ensures.part start count nodes (read_is _ _ (Generate start count nodes) c.read_command.ensures.read is)

pub returns-clause-stormed : goal.returns-clause-stormed
returns-clause-stormed g c = λ opts is. c.perform.ensures.stormed opts (read_is _ _ (Storm opts) c.read_command.ensures.read is)

pub returns-clause-served : goal.returns-clause-served
returns-clause-served g c = λ group is. c.perform.ensures.served group (read_is _ _ (Serve group) c.read_command.ensures.read is)

pub returns-clause-closed : goal.returns-clause-closed
returns-clause-closed g c = λ group is. c.perform.ensures.closed group (read_is _ _ (Serve group) c.read_command.ensures.read is)

pub returns-clause-aside : goal.returns-clause-aside
returns-clause-aside g c = λ group is. c.perform.ensures.aside group (read_is _ _ (Serve group) c.read_command.ensures.read is)

pub returns-clause-watched : goal.returns-clause-watched
returns-clause-watched g c = λ writes is. c.perform.ensures.watched writes (read_is _ _ (Watch writes) c.read_command.ensures.read is)

pub returns-clause-watching : goal.returns-clause-watching
returns-clause-watching g c = λ writes is. c.perform.ensures.watching writes (read_is _ _ (Watch writes) c.read_command.ensures.read is)

pub returns-clause-joint_stormed : goal.returns-clause-joint_stormed
returns-clause-joint_stormed g c = λ workers reads is. c.perform.ensures.joint_stormed workers reads (read_is _ _ (JointStorm workers reads) c.read_command.ensures.read is)

pub returns-clause-met : goal.returns-clause-met
returns-clause-met g c = λ process is. c.perform.ensures.met process (read_is _ _ (Peer process) c.read_command.ensures.read is)

pub returns-clause-met_closed : goal.returns-clause-met_closed
returns-clause-met_closed g c = λ process is. c.perform.ensures.met_closed process (read_is _ _ (Peer process) c.read_command.ensures.read is)

pub returns-clause-met_aside : goal.returns-clause-met_aside
returns-clause-met_aside g c = λ process is. c.perform.ensures.met_aside process (read_is _ _ (Peer process) c.read_command.ensures.read is)
