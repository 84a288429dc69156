-- What is kept, once a `&mut` into it has ended.
use Rattle.std.specs.Prelude.{List, Option}
use Rattle.std.specs.Borrow.{Fml, RattleType, MutBor, LendsIf}
use Rattle.hk_base.specs.declared.call.CallNo.{CallNo}
use Rattle.hk_by_call.specs.Kept.{kept_at}
use Rattle.hk_by_call.specs.contracts.by_call.ByCall.{the_row}

-- the call has the last value written through r, and at `None` all is as it was
abbrev pub lends_value : (V : RattleType) → MutBor (List (CallNo × V.Denot)) → CallNo → Option (MutBor V.Denot) → Fml
lends_value V kept call r = LendsIf (the_row V) V kept r (kept_at kept.now call) kept.now
