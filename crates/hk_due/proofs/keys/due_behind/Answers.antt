use Rattle.std.proofs.Common.{◌≡◌, sym, ap, ◌∙◌}
use Rattle.std.specs.List.{find}
use Rattle.hk_due.specs.Keys.{is_due}
use Rattle.hk_due.proofs.Finding.{later_between}
use Rattle.hk_due.proofs.keys.due_behind.Goals as goal

pub loop-key-init : goal.loop-key-init
loop-key-init c =
    (tt, tt, ap (find (is_due c.args.before)) (later_between c.args.after.now c.args.since.now.entries ∙ (sym (c.range-key-items.ensures.between tt) ∙ sym c.into_iter-key-iterator.ensures.into_iter_gives)))
