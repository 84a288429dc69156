use Rattle.std.proofs.Common.{rules, ◌≡◌, Some}
use Rattle.std.specs.Prelude.{nat_eq}
use Rattle.std.specs.Map.{lookup}
use Rattle.hk_watch.proofs.Running.{same_on_err}
use Rattle.hk_watch.proofs.watches.Watches.look_once.Goals as goal

pub returns-in-Some-clause-err : goal.returns-in-Some-clause-err
returns-in-Some-clause-err g c =
    let found : lookup (nat_eq c.args.watch) c.self.inside.kept.entries ≡ Some c.in-Some.kept.now = search rules in
    same_on_err c.look.result _ _ c.self.inside.kept.entries _ _ _ c.self.view_is found (c.get_mut.follows.holds c.look.new.self).0 c.look.ensures.err
