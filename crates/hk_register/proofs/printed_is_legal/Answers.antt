use Rattle.hk_register.proofs.Runs.{reached_parts, reached_calls}
use Rattle.hk_register.proofs.Printing.{printed_is}
use Rattle.hk_register.proofs.Folding.{all_fits}
use Rattle.hk_register.proofs.Once.{all_once}
use Rattle.hk_register.proofs.Timeliness.{all_timely}
use Rattle.hk_register.specs.Printed.{printed, SlotsAreLegal}
use Rattle.hk_register.proofs.printed_is_legal.Goals as goal

slots_are_legal : SlotsAreLegal
slots_are_legal V st parts calls slots is = record { fits = all_fits V st parts calls slots is; once = all_once V st parts calls slots is; timely = all_timely V st parts calls slots is }

pub returns-clause-printed : goal.returns-clause-printed
returns-clause-printed c = printed_is

pub returns-clause-slots : goal.returns-clause-slots
returns-clause-slots c = slots_are_legal

pub returns-clause-runs : goal.returns-clause-runs
returns-clause-runs c = λ V st r. slots_are_legal V st (reached_parts V st r) (reached_calls V st r) (printed V st) (printed_is V st (reached_parts V st r))
