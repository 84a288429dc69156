-- Values that may be there.
use Rattle.std.proofs.Common.{◌≡◌, ℕ, true, false, Option, Some, None, Result, Ok, Err, unwrap_or, refl}
use Rattle.std.specs.Result.{OnErr}
use Rattle.std.specs.Option.{is_some}

pub some_is_itself : (o : Option ℕ) (d : ℕ) → is_some o ≡ true → o ≡ Some (unwrap_or o d)
some_is_itself (Some x) d there = refl
some_is_itself None d there = absurd cc

pub none_is_none : (o : Option ℕ) → is_some o ≡ false → o ≡ None
none_is_none (Some x) gone = absurd cc
none_is_none None gone = refl

pub on_err : {A E P : Type 0} (r : Result A E) → P → OnErr r P
on_err (Ok x) fact = tt
on_err (Err e) fact = fact
