-- The tickets with those of the rows so far.
use Rattle.std.proofs.Common.{◌≡◌, ℕ, List, ◌++◌, take}
use Rattle.hk_place.specs.Past.{tickets_in}
use Rattle.hk_place.specs.Noted.{told_by}
use Rattle.hk_place.proofs.changes.note_all.Given as goal

abbrev pub invariant-loop-prior : goal.invariant-loop-prior
invariant-loop-prior l = (k : List ℕ) → tickets_in l.kept.entries k ≡ tickets_in l.initial.kept.entries k ++ told_by k (take l.prior-index l.rows) l.ticket
