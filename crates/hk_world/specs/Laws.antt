-- What holds of every world.
use Rattle.std.specs.Prelude.{◌≡◌, Ok}
use Rattle.hk_event.specs.declared.event.Header.{Header}
use Rattle.hk_event.specs.declared.event.Event.{Event}
use Rattle.hk_world.specs.World.{WorldState}
use Rattle.hk_world.specs.Start.{start}
use Rattle.hk_world.specs.Steps.{Accepted, world_step}
use Rattle.hk_world.specs.Sound.{IsHeader, IsEvent, IsWorld}

abbrev pub StartIsSound : Type 0
StartIsSound = (h : Header) → IsHeader h → IsWorld (start h)

abbrev pub StepKeepsSound : Type 0
StepKeepsSound = (w : WorldState) (e : Event) (a : Accepted) → IsWorld w → IsEvent e → world_step w e ≡ Ok a → IsWorld a.world
