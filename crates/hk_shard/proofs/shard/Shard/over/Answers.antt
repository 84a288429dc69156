use Rattle.std.proofs.Common.{List, refl, sym, ap, ◌∙◌, subst}
use Rattle.hk_node.specs.Sound.{IsNode}
use Rattle.hk_snap.specs.Leases.{Lease, kept_lease}
use Rattle.hk_journal.specs.declared.step_entry.JournalEntry.{JournalEntry}
use Rattle.hk_shard.specs.Shard.{IsShard}
use Rattle.hk_shard.proofs.Undoing.{none_replaced}
use Rattle.hk_shard.proofs.Keeping.{new_kept, base_by, raised_first}
use Rattle.hk_shard.proofs.shard.Shard.over.Goals as goal

pub invariant_of-result : goal.invariant_of-result
invariant_of-result g c =
    let base = c.args.base in
    let ok : IsNode base = subst IsNode c.base.view_is c.base.invariant.node in
    let cells = c.cells.inside in
    let keeper = c.raise.new.self in
    let kept = c.cells.invariant in
    let lease = raised_first keeper cells.keeper c.lease_end-end.result c.now-now.result kept.2 c.raise.ensures
    ∙ (λ i. kept_lease keeper.name (c.lease_end-end.ensures i) (c.now-now.ensures i)) in
    let is = subst (λ (j : List JournalEntry). IsShard (record { base = base; journal = j; part = base; last = 0; ends = cells.writer; lease = keeper })) (sym c.new.ensures)
    (new_kept base base cells.writer keeper ok c.requires refl kept.0 kept.1 lease) in
    let by = base_by base c.new.result base 0 cells.writer keeper c.in_ok-replaced.replaced.items (none_replaced base c.in_ok-replaced.replaced.items c.in_ok-replaced.ensures.items) is in (
      by.0,
      by.1,
      kept.3,
      kept.4 ∙ sym (ap (λ (l : Lease). l.name) c.raise.ensures),
    )
