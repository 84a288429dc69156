use Rattle.hk_effects.proofs.WorldKept.{own_kept, led_alone}
use Rattle.hk_effects.proofs.event_keeps_own.Goals as goal

pub returns : goal.returns
returns c =
    let keeps = c.worlds_stay_sound.ensures.step in
    record {
      alone = λ w event a is event_ok none own. own_kept keeps w event a is event_ok (led_alone keeps w event a is event_ok none own) own;
      led = own_kept keeps;
    }
