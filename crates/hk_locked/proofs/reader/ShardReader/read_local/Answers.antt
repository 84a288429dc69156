use Rattle.std.proofs.Common.{length, ap, ◌∙◌, le_trans}
use Rattle.std.proofs.lemmas.List.{length-set}
use Rattle.hk_snap.specs.Ends.{Reader}
use Rattle.hk_snap.specs.Snapshots.{cell_of}
use Rattle.hk_locked.proofs.Reading.{met_names, grown_freely, reads_freely}
use Rattle.hk_locked.proofs.reader.ShardReader.read_local.Goals as goal

pub invariant_of-self : goal.invariant_of-self
invariant_of-self g c =
    let loads = c.read_local.ensures.row in (
      record {
        cells = met_names c.self.inside.cells c.read_local.new.reader (cell_of c.args.key.now) loads.0 (ap (λ (r : Reader). r.ends) loads.2) ∙ c.self.invariant.0.cells;
        long = ap (λ (r : Reader). length r.ends) loads.2 ∙ (length-set c.self.inside.cells.ends (cell_of c.args.key.now) _ ∙ c.self.invariant.0.long);
        lease = c.read_local.ensures.lease.name ∙ c.self.invariant.0.lease;
        skew = c.self.invariant.0.skew;
      },
      le_trans c.self.invariant.1 c.read_local.ensures.lease.now,
    )

pub returns-clause-told : goal.returns-clause-told
returns-clause-told g c =
    reads_freely c.args.key.now (record { node = c.self.inside.node; number = c.self.inside.number; skew = c.self.inside.skew; cells = c.self.inside.cells; lease = c.self.inside.lease })
    c.args.self.now c.read_local.new.reader c.read_local.new.lease c.self.view_is c.self.invariant.0.long c.read_local.ensures.row c.read_local.ensures.lease
    (g.C.Clock.reading c.args.clock.now) c.read_local.result c.read_local.ensures.told

pub returns-clause-grown : goal.returns-clause-grown
returns-clause-grown g c =
    grown_freely c.args.key.now (record { node = c.self.inside.node; number = c.self.inside.number; skew = c.self.inside.skew; cells = c.self.inside.cells; lease = c.self.inside.lease })
    c.args.self.now c.read_local.new.reader c.read_local.new.lease c.self.view_is c.self.invariant.0.long c.read_local.ensures.row c.read_local.ensures.lease
