use Rattle.std.proofs.Common.{◌≡◌, ◌∙◌, true, false, rules, refl, sym, subst, ap}
use Rattle.hk_node.specs.Copies.{is_next}
use Rattle.hk_node.specs.declared.report.Undo.TheVariants.{Cursor}
use Rattle.hk_node.proofs.Finishing.{idle_as}
use Rattle.hk_node.proofs.Parts.{other_seen}
use Rattle.hk_node.proofs.Merged.{quiet_rows}
use Rattle.hk_node.proofs.Taken.{takes_ready, takes_elsewhere, taken_kept, taken_told, seen_inside}
use Rattle.hk_node.specs.Rows.{Rows}
use Rattle.hk_node.specs.Index.{HasOpen}
use Rattle.hk_node.proofs.Reports.{report_as}
use Rattle.hk_node.proofs.Walk.{has_over}
use Rattle.hk_node.proofs.node.Node.take_copy.Goals as goal

pub returns-then-self-clause-out : goal.returns-then-self-clause-out
returns-then-self-clause-out c = idle_as c.idle.result c.args.self.now _ (takes_ready c.args.self.now c.args.after.now c.args.done c.args.items.now (search rules)) c.idle.ensures

pub returns-then-not-is_next-clause-out : goal.returns-then-not-is_next-clause-out
returns-then-not-is_next-clause-out c = idle_as c.idle-then-not-is_next.result c.args.self.now _
    (takes_elsewhere c.args.self.now c.args.after.now c.args.done c.args.items.now (search rules)) c.idle-then-not-is_next.ensures

pub merge-requires-clause-quiet : goal.merge-requires-clause-quiet
merge-requires-clause-quiet c = quiet_rows _ _ c.self.inside.rows.entries c.self.invariant.node.rows c.self.invariant.node.touched (c.self.invariant.node.shadow (search rules))

pub invariant_of-self-2 : goal.invariant_of-self-2
invariant_of-self-2 c =
    let next : is_next c.args.after.now c.self.inside.cursor ≡ true = search rules in
    let unready : c.self.inside.ready ≡ false = search rules in
    record {
      node = taken_kept _ c.args.after.now c.args.done c.args.items.now c.in_ok-changes.changes.entries c.put_all.new.rows.entries c.replace-cursor.new.dest
          c.self.invariant.node (seen_inside _ c.args.self.now c.self.view_is (other_seen c.args.self.now c.args.from c.requires.other)) unready next c.requires.batch c.in_ok-changes.ensures
          (c.replace-cursor.ensures.after ∙ c.in_ok-next.ensures) c.in_ok-prior.ensures.put;
      has = λ w. subst (λ (l : Rows). HasOpen c.list_rows.new.keys.keys l) (sym c.in_ok-prior.ensures.put)
          (has_over c.self.inside.index.keys c.list_rows.new.keys.keys c.in_ok-changes.changes.entries c.self.inside.rows.entries c.in_ok-changes.ensures.rising
          c.list_rows.ensures.grown c.in_ok-list_rows.ensures.listed (c.self.invariant.has w));
    }

pub returns-clause-out : goal.returns-clause-out
returns-clause-out c =
    let next : is_next c.args.after.now c.self.inside.cursor ≡ true = search rules in
    let unready : c.self.inside.ready ≡ false = search rules in
    taken_told _ c.args.self.now c.args.after.now c.args.done c.args.items.now c.in_ok-changes.changes.entries _ c.self.view_is c.self.invariant.node unready next c.in_ok-changes.ensures
    c.new.ensures c.nothing.ensures refl (ap Cursor c.replace-cursor.ensures.value)
    (report_as _ c.args.self.now c.epoch-epoch.result c.args.done c.from_vec.result _ c.self.view_is c.epoch-epoch.ensures (c.from_vec.ensures ∙ c.in_ok-prior.ensures.prior))
