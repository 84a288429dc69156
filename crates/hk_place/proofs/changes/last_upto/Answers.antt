use Rattle.std.proofs.Common.{rules, ◌≡◌, ℕ, leb, sym, ap, ◌∙◌}
use Rattle.std.proofs.lemmas.List.Sorted.{IsPartitionPoint-from_clause, IsPartitionedBy-leb}
use Rattle.hk_place.proofs.Ordered.{last_is, last_none, last_some}
use Rattle.hk_place.proofs.changes.last_upto.Goals as goal

pub returns-then-count-eq0 : goal.returns-then-count-eq0
returns-then-count-eq0 c =
    let parted = IsPartitionedBy-leb (λ (t : ℕ). t) c.args.tickets.now c.args.moment c.requires in
    let point = IsPartitionPoint-from_clause (λ (t : ℕ). leb t c.args.moment) c.args.tickets.now c.partition_point-count.result c.partition_point-count.ensures.partitioned parted (λ a r q k. search rules) in
    let is = last_is c.args.moment c.args.tickets.now c.partition_point-count.result c.partition_point-count.ensures.bound point.0 point.1 in
    let none : c.partition_point-count.result ≡ 0 = search rules in
    last_none c.args.tickets.now c.partition_point-count.result none ∙ sym is

pub returns : goal.returns
returns c =
    let parted = IsPartitionedBy-leb (λ (t : ℕ). t) c.args.tickets.now c.args.moment c.requires in
    let point = IsPartitionPoint-from_clause (λ (t : ℕ). leb t c.args.moment) c.args.tickets.now c.partition_point-count.result c.partition_point-count.ensures.partitioned parted (λ a r q k. search rules) in
    let is = last_is c.args.moment c.args.tickets.now c.partition_point-count.result c.partition_point-count.ensures.bound point.0 point.1 in
    last_some c.args.tickets.now c.partition_point-count.result c.if-count-eq0.false ∙ sym is
