use Rattle.std.proofs.Common.{◌≡◌, ◌∙◌, ◌++◌, ◌∷◌, sym, ap, rules}
use Rattle.hk_key.specs.declared.row.Row.{Row}
use Rattle.hk_node.specs.Rows.{put_row}
use Rattle.hk_node.proofs.Placing.{put_next}
use Rattle.hk_node.proofs.node.copy.copy_rows.Goals as goal

pub loop-key-preserved : goal.loop-key-preserved
loop-key-preserved c =
    let rest : c.loop-key.key-iterator ≡ (c.in-Some.key.now, c.in-Some.row.now) ∷ c.next.new.self = search rules in
    let whole : c.loop-key.same.entries ++ c.loop-key.key-iterator ≡ c.args.rows.now.entries = c.loop-key.invariant.2 in (
      tt,
      tt,
      put_next c.in-Some.key.now c.in-Some.row.now c.loop-key.same.entries c.next.new.self c.args.rows.now.entries c.add_copy.new.rows.entries
          (sym (ap (λ l. c.loop-key.same.entries ++ l) rest) ∙ whole) c.loop-key.invariant.3
          (c.in_ok-add_copy.ensures ∙ ap (λ (r : Row). put_row c.in-Some.key.now r c.loop-key.same.entries) c.get.ensures),
      c.loop-key.invariant.3,
    )
