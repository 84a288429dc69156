use Rattle.std.proofs.Common.{◌≡◌, drop}
use Rattle.hk_office.specs.Numbers.{with_numbers}
use Rattle.hk_office.proofs.numbers.note_view.Given as goal

abbrev pub invariant-loop-node : goal.invariant-loop-node
invariant-loop-node l = with_numbers l.numbers.items (drop l.node-index l.node-items) ≡ with_numbers l.fn.numbers.items l.view.members
