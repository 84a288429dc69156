-- The register that a fold has come to.
use Rattle.hk_base.specs.Register.{Register}
use Rattle.hk_history.specs.declared.folding.Folding.{Folding}

abbrev pub register_in : Folding → Register
register_in folding = record { content = folding.content; tag = folding.tag }
