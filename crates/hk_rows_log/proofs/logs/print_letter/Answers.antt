use Rattle.std.proofs.Common.{◌≤◌, ◌∷◌, [], arith, refl}
use Rattle.std.specs.List.{AllByRecursion}
use Rattle.std.proofs.lemmas.List.Elements.{All-from_recursion}
use Rattle.hk_base.specs.declared.letter.Letter.{Letter}
use Rattle.hk_base.specs.declared.letter.Actor.TheVariants.{Manager}
use Rattle.hk_base.specs.declared.letter.Body.TheVariants.{Prepare}
use Rattle.hk_base.specs.Lengths.{body_length, FitsFrame}
use Rattle.hk_log.specs.declared.entry.Entry.TheVariants.{Receive}
use Rattle.hk_log.specs.Entries.{IsEntryInRange}
use Rattle.hk_rows_log.proofs.logs.print_letter.Goals as goal

abbrev letter : Letter
letter = record { epoch = 2; from = Manager 0; to = Manager 0; body = Prepare (record { round = 1; manager = 0 }) }

fits : FitsFrame letter
unfolding body_length
fits = omega arith

pub print_record-requires-clause-range : goal.print_record-requires-clause-range
print_record-requires-clause-range c =
    let are : AllByRecursion IsEntryInRange (Receive 0 letter ∷ []) = ((omega arith, record { parts = record { from = omega arith; to = omega arith; body = omega arith }; fits = fits }, refl), tt) in
    All-from_recursion IsEntryInRange (Receive 0 letter ∷ []) are
