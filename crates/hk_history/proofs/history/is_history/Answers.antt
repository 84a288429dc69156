-- The items of the tally are those that were given.
use Rattle.std.proofs.Common.{◌≡◌, ◌∙◌, List, map, subst}
use Rattle.std.specs.List.{list_all}
use Rattle.hk_history.specs.declared.event.Event.{Event}
use Rattle.hk_history.specs.Index.{number_of}
use Rattle.hk_history.specs.Tests.{is_single}
use Rattle.hk_history.proofs.Singles.{singles_tell}
use Rattle.hk_history.proofs.history.is_history.Goals as goal

pub returns : goal.returns
returns c =
    let same : c.in_ok-tally.tally.items.now ≡ c.args.items.now = c.in_ok-tally.ensures.items ∙ c.as_slice.ensures in
    singles_tell c.args.items.now c.all_single.result (subst (λ (h : List Event). c.all_single.result ≡ list_all (is_single h) (map number_of h)) same c.all_single.ensures)
