-- The joint order of every run is legal.
use Rattle.std.proofs.Common.{◌≡◌, ℕ, List}
use Rattle.hk_history.specs.Legal.{Legal}
use Rattle.hk_effects.specs.Laws.{EventIsEffects}
use Rattle.hk_effects.specs.Runs.{RunsKeepParts}
use Rattle.hk_safety.specs.Run.{RunsAreLegal, history, printed}
use Rattle.hk_joint.specs.Joint.{entries_at, joint_order}
use Rattle.hk_joint.specs.Legal.{JointOrdersAreLegal}
use Rattle.hk_joint.proofs.Fitting.{joint_fits}
use Rattle.hk_joint.proofs.KeyOrder.{key_order}
use Rattle.hk_joint.proofs.Timing.{joint_timely}
use Rattle.hk_joint.proofs.Together.{joint_together}

pub joint_legal : RunsKeepParts → EventIsEffects → RunsAreLegal → JointOrdersAreLegal
joint_legal runs is_effects are_legal run ok =
    let legal : (key : List ℕ) → Legal (history run key) (printed run key) = are_legal run ok in
    let keys : (key : List ℕ) → entries_at key (joint_order run) ≡ printed run key = key_order runs is_effects run ok in
    record {
      fits = joint_fits runs run ok legal keys;
      keys = keys;
      timely = joint_timely runs is_effects run ok legal;
      together = joint_together runs is_effects run ok legal keys;
    }
