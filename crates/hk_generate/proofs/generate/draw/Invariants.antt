use Rattle.std.proofs.Common.{◌≡◌, ◌-◌}
use Rattle.hk_generate.specs.Generated.{drawn_on, generated}
use Rattle.hk_generate.proofs.generate.draw.Given as goal

-- what the rest gives, the whole gives
abbrev pub invariant-loop-turn : goal.invariant-loop-turn
invariant-loop-turn l = generated l.start l.count l.nodes ≡ drawn_on (l.count - l._turn) l.drawing
