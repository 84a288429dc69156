use Rattle.std.proofs.Common.{rules, IsTrue, length, ap, ◌∙◌}
use Rattle.std.proofs.lemmas.List.{length-set}
use Rattle.hk_snap.specs.Ends.{Reader}
use Rattle.hk_locked.proofs.Reading.{met_names, met_inside}
use Rattle.hk_locked.proofs.locked.LockedShard.meet_cell.Goals as goal

pub invariant_of-reader : goal.invariant_of-reader
invariant_of-reader g c = (
  record {
    cells = met_names c.reader.inside.cells c.see.new.reader c.args.cell _ (ap (λ (r : Reader). r.ends) c.see.ensures.seen) ∙ c.reader.invariant.0.cells;
    long = ap (λ (r : Reader). length r.ends) c.see.ensures.seen ∙ (length-set c.reader.inside.cells.ends c.args.cell _ ∙ c.reader.invariant.0.long);
    lease = c.reader.invariant.0.lease;
    skew = c.reader.invariant.0.skew;
  },
  c.reader.invariant.1,
)

pub returns-clause-met : goal.returns-clause-met
returns-clause-met g c = λ key at.
    let is : IsTrue c.is_read_by.result = search rules in
    let same = c.is_read_by.ensures is in
    met_inside g.P.Places.places
    (record { node = c.self.inside.node; number = c.self.inside.number; skew = c.self.inside.skew; shard = c.self.inside.shard; asks = c.self.inside.asks; open_keys = c.self.inside.open_keys }) c.args.self.now
    (record { node = c.reader.inside.node; number = c.reader.inside.number; skew = c.reader.inside.skew; cells = c.reader.inside.cells; lease = c.reader.inside.lease }) c.args.reader.now
    key c.args.cell c.see.new.reader c.self.view_is c.reader.view_is c.self.invariant c.reader.invariant.0 same.0 same.1
    at c.requires c.keeps.ensures.cells c.see.ensures.seen c.see.ensures.grown
