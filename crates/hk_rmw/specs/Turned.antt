-- What a turn says of the register.
use Rattle.std.specs.Prelude.{ℕ}
use Rattle.hk_base.specs.Register.{Register, Acted, leaves, stays}
use Rattle.hk_rmw.specs.declared.outcome.Turn.{Turn}
use Rattle.hk_rmw.specs.declared.outcome.Turn.TheVariants.{Change, Stay}

-- the register changes to the content, or to nothing, and takes the new tag; or it stays as it is
abbrev pub acted_of : Turn → Register → ℕ → Acted
acted_of (Change content answer) register newtag = leaves answer content newtag
acted_of (Stay answer) register newtag = stays answer register
