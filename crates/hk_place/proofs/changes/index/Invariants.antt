-- The tickets so far and those of the entries that are left are the journal's.
use Rattle.std.proofs.Common.{drop}
use Rattle.std.specs.List.{AllByRecursion}
use Rattle.hk_node.specs.Sound.{IsNodeEvent}
use Rattle.hk_place.proofs.Noting.{GoesOn}
use Rattle.hk_place.proofs.changes.index.Given as goal

abbrev pub invariant-loop-entry : goal.invariant-loop-entry
invariant-loop-entry l = GoesOn l.base l.journal l.kept.entries l.node (drop l.entry-index l.journal) × AllByRecursion (λ e. IsNodeEvent e.event) (drop l.entry-index l.journal)
