-- What is told of a row that is put behind others.
use Rattle.std.specs.Prelude.{◌≡◌, true, false, List, Result, Ok, Err}
use Rattle.hk_base.specs.declared.letter.CopyItem.{CopyItem}
use Rattle.hk_copy.specs.declared.memory.PushFault.{PushFault}
use Rattle.hk_copy.specs.declared.memory.PushFault.TheVariants.{Memory, NotBehind}
use Rattle.hk_copy.specs.Batches.{is_after, last_key}

-- It is taken where it is behind the last of them, and refused where it is not. Want of memory may come in place of the first.
abbrev pub IsPushTold : Result (Unit {0}) PushFault → List CopyItem → CopyItem → Type 0
IsPushTold (Ok done) rows item = is_after (last_key rows) item ≡ true
IsPushTold (Err Memory) rows item = is_after (last_key rows) item ≡ true
IsPushTold (Err NotBehind) rows item = is_after (last_key rows) item ≡ false
