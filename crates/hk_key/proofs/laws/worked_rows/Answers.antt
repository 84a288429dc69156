use Rattle.std.proofs.Common.{refl}
use Rattle.hk_key.proofs.laws.worked_rows.Goals as goal

pub returns : goal.returns
returns c = record {
  higher = (refl, refl);
  exact = (refl, refl);
  trans = (refl, refl);
  aborted = (refl, refl);
  countered = refl;
  alone = (refl, refl);
  gone = refl;
}
