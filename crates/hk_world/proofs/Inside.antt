-- A world, by what the code keeps of it.
use Rattle.hk_world.specs.declared.world.World.TheInside.{Inside}
use Rattle.hk_world.specs.World.{WorldState}

abbrev pub seen : Inside → WorldState
seen i = record { skew = i.skew; lease = i.lease; processes = i.processes.entries; managers = i.managers.items; paces = i.clocks.paces; letters = i.letters.items; views = i.views.items; calls = i.calls }
