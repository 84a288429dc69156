-- What the command that watches writes.
use Rattle.std.specs.Prelude.{ℕ, ◌*◌, ◌++◌, List, codes, decimal, ⊤}
use Rattle.hk_outside.specs.declared.status.Status.{Status}
use Rattle.hk_outside.specs.declared.status.Status.TheVariants as status

-- The one line: how often the key was written, and the last stamp that the watch was told. A write steps the version by two, and node 0
-- makes them all.
abbrev pub watched_line : ℕ → List ℕ
watched_line writes = codes "writes " ++ decimal writes ++ codes " last " ++ decimal (2 * writes) ++ codes ".0 rising\n"

-- the statuses with which it may end
abbrev pub EndsWatch : Status → Type 0
EndsWatch status.Done = ⊤
EndsWatch status.Memory = ⊤
EndsWatch status.WriteFault = ⊤
EndsWatch other = ⊥
