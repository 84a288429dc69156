use Rattle.std.proofs.Common.{◌≡◌, ◌∷◌, true, false, subst, rules}
use Rattle.hk_key.specs.declared.row.Row.{Row}
use Rattle.hk_node.specs.Copies.{is_valid}
use Rattle.hk_node.specs.Index.{is_listed}
use Rattle.hk_node.proofs.Walk.{lists_next, grown_trans}
use Rattle.hk_node.proofs.put.list_rows.Goals as goal

pub loop-key-preserved : goal.loop-key-preserved
loop-key-preserved c =
    let rest : c.loop-key.key-iterator ≡ (c.in-Some.key.now, c.in-Some.row.now) ∷ c.next.new.self = search rules in (
      tt,
      tt,
      lists_next c.loop-key.keys.keys c.list_row.new.keys.keys c.args.rows.now.entries c.loop-key.key-iterator c.next.new.self c.in-Some.key.now c.in-Some.row.now rest
          c.list_row.ensures.grown (subst (λ (r : Row). is_valid r.state ≡ false → is_listed c.in-Some.key.now c.list_row.new.keys.keys ≡ true) c.get.ensures c.in_ok-list_row.ensures.listed) c.loop-key.invariant.2,
      grown_trans c.args.keys.now.keys c.loop-key.keys.keys c.list_row.new.keys.keys c.loop-key.invariant.3 c.list_row.ensures.grown,
    )
