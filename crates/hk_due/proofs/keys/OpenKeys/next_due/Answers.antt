use Rattle.std.proofs.Common.{ℕ, List, None, option_map, sym, ap, ◌∙◌}
use Rattle.std.specs.List.{find}
use Rattle.std.specs.Option.{option_copied}
use Rattle.hk_due.specs.Keys.{OpenState, is_due, next_due}
use Rattle.hk_due.proofs.Finding.{all_later}
use Rattle.hk_due.proofs.keys.OpenKeys.next_due.Goals as goal

pub returns-in-None : goal.returns-in-None
returns-in-None c =
    c.first_due.ensures
    ∙ ap (λ (l : List (List ℕ × ℕ)). option_map {T = List ℕ × ℕ} (λ e. e.0) (find (is_due c.args.before) l)) (sym (all_later c.self.inside.since.entries))
    ∙ ap (λ (o : OpenState). next_due None c.args.before o) c.self.view_is
    ∙ ap (λ o. next_due (option_copied o) c.args.before c.args.self.now) (sym c.in-None.is)
