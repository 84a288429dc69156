use Rattle.std.proofs.Common.{◌≡◌, None, sym, ap, ◌∙◌, rules}
use Rattle.std.specs.BTreeMap.{is_at}
use Rattle.std.specs.Map.{lookup}
use Rattle.hk_clocks.specs.Clocks.{by_actor}
use Rattle.hk_clocks.proofs.InTurn.{set_absent}
use Rattle.hk_clocks.proofs.values.write.Goals as goal

pub returns-in_default : goal.returns-in_default
returns-in_default g c =
    let none : lookup (is_at (by_actor c.args.actor)) c.args.map.now.entries ≡ None = search rules in
    ap (λ m. m.entries) c.get_mut.follows.holds-at-none ∙ sym (set_absent (is_at (by_actor c.args.actor)) c.args.value c.args.map.now.entries none)
