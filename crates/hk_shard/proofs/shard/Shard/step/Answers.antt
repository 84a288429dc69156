use Rattle.std.proofs.Common.{◌≡◌, ◌<◌, List, sym, ap, ◌∙◌, subst}
use Rattle.std.specs.Option.{IsSome}
use Rattle.std.specs.List.{AllByRecursion}
use Rattle.hk_node.specs.declared.report.PriorRow.{PriorRow}
use Rattle.hk_node.specs.Rows.{find_row}
use Rattle.hk_node.specs.Node.{NodeState}
use Rattle.hk_snap.specs.Leases.{Lease, raised}
use Rattle.hk_shard.specs.Publishing.{publications, with_all, MayBePublished}
use Rattle.hk_shard.specs.Shard.{ShardState, IsApplied}
use Rattle.hk_shard.proofs.Keeping.{part_is_node, next_by, applied_by, applied_kept, base_by, still_unseen}
use Rattle.hk_shard.specs.declared.replaced.Replaced.{Replaced}
use Rattle.hk_shard.specs.Replaced.{before_all, AreKept, AreReplaced}
use Rattle.hk_shard.proofs.Undoing.{back_at_first, kept_more}
use Rattle.hk_shard.proofs.Following.{follows}
use Rattle.hk_shard.proofs.shard.Shard.step.Goals as goal

pub make_noted-requires-clause-node : goal.make_noted-requires-clause-node
make_noted-requires-clause-node g c = part_is_node _ c.self.invariant.0

pub show_rows-requires-clause-there : goal.show_rows-requires-clause-there
show_rows-requires-clause-there g c =
    let there = subst (λ (n : NodeState). AllByRecursion (λ (f : PriorRow). IsSome (find_row f.key n.rows)) c.in_ok-out.out.report.rows) (sym c.in_ok-out.ensures.part)
    c.in_ok-out.ensures.out.changed.there in
    subst (λ (l : List PriorRow). AllByRecursion (λ (f : PriorRow). IsSome (find_row f.key c.make_noted.new.part.rows)) l) (sym c.as_slice-rows.ensures) there

pub show_rows-requires-clause-next : goal.show_rows-requires-clause-next
show_rows-requires-clause-next g c =
    let up : c.self.inside.last < c.args.ticket = subst (λ (s : ShardState). s.last < c.args.ticket) (sym c.self.view_is) c.requires.ticket in
    subst (λ (l : List PriorRow). MayBePublished c.self.inside.writer (publications c.make_noted.new.part.rows c.args.ticket c.call_of-call.result l)) (sym c.as_slice-rows.ensures)
    (next_by _ c.args.ticket c.args.event c.in_ok-out.out c.make_noted.new.part c.call_of-call.result c.self.invariant.0 up c.requires.event c.in_ok-out.ensures.out c.in_ok-out.ensures.part)

pub invariant_of-self-2 : goal.invariant_of-self-2
invariant_of-self-2 g c =
    let up : c.self.inside.last < c.args.ticket = subst (λ (s : ShardState). s.last < c.args.ticket) (sym c.self.view_is) c.requires.ticket in
    let told = c.in_ok-out.ensures in
    let kept : AreKept c.in_ok-out.out c.self.inside.replaced.items c.move_in.new.replaced.items = subst (λ (l : List Replaced). AreKept c.in_ok-out.out l c.move_in.new.replaced.items) c.reserve.ensures.items c.move_in.ensures.kept in
    let more = λ (first : NodeState) (are : AreReplaced first c.self.inside.replaced.items c.self.inside.part).
    kept_more first c.self.inside.part c.make_noted.new.part c.args.event c.in_ok-out.out c.self.inside.replaced.items c.move_in.new.replaced.items (part_is_node _ c.self.invariant.0) told.out told.part kept are in
    let ends = c.show_rows.ensures.shown ∙ ap (λ (l : List PriorRow). with_all c.self.inside.writer (publications c.make_noted.new.part.rows c.args.ticket c.call_of-call.result l)) c.as_slice-rows.ensures in
    let lease = c.raise.ensures ∙ (λ i. raised c.self.inside.keeper (c.lease_end.ensures i) (c.now.ensures i)) in
    let applied = applied_by _ c.args.ticket c.args.event c.in_ok-out.out c.make_noted.new.part c.make_noted.new.journal c.call_of-call.result c.show_rows.new.writer c.raise.new.self
    c.self.invariant.0 c.requires.event told.out told.part told.journal c.call_of-call.ensures ends lease in
    let by = base_by _ c.make_noted.new.journal c.make_noted.new.part c.args.ticket c.show_rows.new.writer c.raise.new.self c.move_in.new.replaced.items (more _ c.self.invariant.1)
    (applied_kept _ _ c.args.ticket c.args.event c.self.invariant.0 up c.requires.event applied) in (
      by.0,
      by.1,
      still_unseen c.self.inside.reader c.self.inside.writer c.show_rows.new.writer applied.names c.self.invariant.2,
      c.self.invariant.3 ∙ sym (ap (λ (l : Lease). l.name) c.raise.ensures),
    )

pub returns-clause-applied : goal.returns-clause-applied
returns-clause-applied g c =
    let told = c.in_ok-out.ensures in
    let kept : AreKept c.in_ok-out.out c.self.inside.replaced.items c.move_in.new.replaced.items = subst (λ (l : List Replaced). AreKept c.in_ok-out.out l c.move_in.new.replaced.items) c.reserve.ensures.items c.move_in.ensures.kept in
    let more = λ (first : NodeState) (are : AreReplaced first c.self.inside.replaced.items c.self.inside.part).
    kept_more first c.self.inside.part c.make_noted.new.part c.args.event c.in_ok-out.out c.self.inside.replaced.items c.move_in.new.replaced.items (part_is_node _ c.self.invariant.0) told.out told.part kept are in
    let ends = c.show_rows.ensures.shown ∙ ap (λ (l : List PriorRow). with_all c.self.inside.writer (publications c.make_noted.new.part.rows c.args.ticket c.call_of-call.result l)) c.as_slice-rows.ensures in
    let lease = c.raise.ensures ∙ (λ i. raised c.self.inside.keeper (c.lease_end.ensures i) (c.now.ensures i)) in
    let new : ShardState = record {
      base = before_all c.self.inside.replaced.items c.self.inside.part;
      journal = c.make_noted.new.journal;
      part = c.make_noted.new.part;
      last = c.args.ticket;
      ends = c.show_rows.new.writer;
      lease = c.raise.new.self;
    } in
    let back : new.base ≡ before_all c.move_in.new.replaced.items c.make_noted.new.part = sym (back_at_first _ c.make_noted.new.part c.move_in.new.replaced.items (more _ c.self.invariant.1)) in
    subst (λ (b : NodeState). IsApplied c.args.self.now c.args.ticket c.args.event (record { base = b; journal = new.journal; part = new.part; last = new.last; ends = new.ends; lease = new.lease })) back
    (subst (λ (s : ShardState). IsApplied s c.args.ticket c.args.event new) c.self.view_is
    (applied_by _ c.args.ticket c.args.event c.in_ok-out.out c.make_noted.new.part c.make_noted.new.journal c.call_of-call.result c.show_rows.new.writer c.raise.new.self
    c.self.invariant.0 c.requires.event told.out told.part told.journal c.call_of-call.ensures ends lease))

pub returns-clause-followed : goal.returns-clause-followed
returns-clause-followed g c =
    follows _ c.args.self.now c.make_noted.new.part c.args.ticket c.args.event c.in_ok-out.out.report.rows c.as_slice-rows.result.now c.args.keys.now c.show_rows.new.keys
    c.self.view_is c.in_ok-out.ensures.out.changed c.in_ok-out.ensures.part c.as_slice-rows.ensures c.show_rows.ensures.noted
