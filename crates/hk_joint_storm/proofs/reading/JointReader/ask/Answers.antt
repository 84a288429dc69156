use Rattle.hk_joint_storm.proofs.Founds.{read_of_storm}
use Rattle.hk_joint_storm.proofs.reading.JointReader.ask.Goals as goal

pub returns : goal.returns
returns g c = read_of_storm c.read_joint.result _ _ c.args.keys.now _ _ _ c.requires c.read_joint.ensures.read
