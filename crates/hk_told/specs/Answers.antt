-- Which answers tell that an operation left the register, and which that it changed it.
use Rattle.std.specs.Prelude.{Bool, true, false}
use Rattle.hk_base.specs.declared.call.Answer.{Answer}
use Rattle.hk_base.specs.declared.call.Answer.TheVariants.{Found, Missing, Stored, Number, Exists, NotFound, NotNumber, NotStored, Deleted, Busy, Aborted, Exhausted}

abbrev pub tells_stay : Answer → Bool
tells_stay (Found content tag) = true
tells_stay Missing = true
tells_stay Exists = true
tells_stay NotFound = true
tells_stay NotNumber = true
tells_stay NotStored = true
tells_stay Stored = false
tells_stay (Number value) = false
tells_stay Deleted = false
tells_stay (Busy why) = false
tells_stay (Aborted stamp) = false
tells_stay (Exhausted stamp) = false

abbrev pub tells_change : Answer → Bool
tells_change Stored = true
tells_change (Number value) = true
tells_change Deleted = true
tells_change (Found content tag) = false
tells_change Missing = false
tells_change Exists = false
tells_change NotFound = false
tells_change NotNumber = false
tells_change NotStored = false
tells_change (Busy why) = false
tells_change (Aborted stamp) = false
tells_change (Exhausted stamp) = false
