use Rattle.std.proofs.Common.{ℕ, ◌∙◌, sym, subst}
use Rattle.hk_locked.specs.Locked.{LockedState}
use Rattle.hk_locked.specs.Steps.{MeetsLease, Begins, StartsAt}
use Rattle.hk_locked.specs.Makes.{Stands, MakesCall, CallsAt}
use Rattle.hk_locked.proofs.Reading.{started, grown_met, grown_lease, grown_on}
use Rattle.hk_locked.proofs.Making.{calls_at}
use Rattle.hk_locked.proofs.locked.LockedShard.start.Goals as goal

pub returns-clause-starts : goal.returns-clause-starts
returns-clause-starts g c =
    subst (λ (n : ℕ). StartsAt c.args.reader.now c.meet_cell-2.new.reader c.args.call c.args.key.now n c.args.op.now c.in_ok-started.started.answer) (sym c.in_ok-started.ensures.ticket)
    (started c.args.self.now c.begin.new.self c.args.call c.args.key.now c.args.ticket c.args.op.now c.in_ok-started.started.answer c.args.reader.now c.meet_cell.new.reader c.meet_lease.new.reader c.meet_cell-2.new.reader
    (c.in_ok-meet_cell.ensures.met c.args.key.now c.cell_of-cell.ensures.cell)
    (subst (λ (s : LockedState). MeetsLease s c.meet_cell.new.reader c.meet_lease.new.reader) c.meet_cell.ensures.same c.in_ok-meet_lease.ensures.met)
    (subst (λ (s : LockedState). Begins s c.begin.new.self c.args.call c.args.key.now c.args.ticket c.args.op.now c.in_ok-started.started.answer) (c.meet_lease.ensures.same ∙ c.meet_cell.ensures.same) c.in_ok-started.ensures.begins)
    (c.in_ok-meet_cell-2.ensures.met c.args.key.now c.cell_of-cell.ensures.cell))

pub returns-clause-grown : goal.returns-clause-grown
returns-clause-grown g c =
    grown_on c.args.key.now c.args.reader.now c.meet_lease.new.reader c.meet_cell-2.new.reader
    (grown_on c.args.key.now c.args.reader.now c.meet_cell.new.reader c.meet_lease.new.reader
    (grown_met c.args.self.now c.args.key.now c.args.reader.now c.meet_cell.new.reader (c.in_ok-meet_cell.ensures.met c.args.key.now c.cell_of-cell.ensures.cell))
    (grown_lease c.meet_cell.new.self c.args.key.now c.meet_cell.new.reader c.meet_lease.new.reader c.in_ok-meet_lease.ensures.met))
    (grown_met c.begin.new.self c.args.key.now c.meet_lease.new.reader c.meet_cell-2.new.reader (c.in_ok-meet_cell-2.ensures.met c.args.key.now c.cell_of-cell.ensures.cell))

pub returns-clause-made : goal.returns-clause-made
returns-clause-made g c =
    let same = c.meet_lease.ensures.same ∙ c.meet_cell.ensures.same in
    subst (λ (n : ℕ). CallsAt g.P.Places.places c.args.self.now c.meet_cell-2.new.self c.args.reader.now c.meet_cell-2.new.reader n c.args.call c.args.key.now c.args.op.now c.in_ok-started.started.letters c.in_ok-started.started.answer)
    (sym c.in_ok-started.ensures.ticket)
    (subst (λ (t : LockedState). CallsAt g.P.Places.places c.args.self.now t c.args.reader.now c.meet_cell-2.new.reader c.args.ticket c.args.call c.args.key.now c.args.op.now c.in_ok-started.started.letters c.in_ok-started.started.answer)
    (sym c.meet_cell-2.ensures.same)
    (calls_at g.P.Places.places c.args.self.now c.begin.new.self c.args.reader.now c.meet_cell.new.reader c.meet_lease.new.reader c.meet_cell-2.new.reader c.args.ticket c.args.call c.args.key.now c.args.op.now
    c.in_ok-started.started.letters c.in_ok-started.started.answer
    (subst (Stands g.P.Places.places) same c.in_ok-started.ensures.stood) c.in_ok-started.ensures.stands
    (subst (λ (s : LockedState). MakesCall c.args.ticket c.args.call c.args.key.now c.args.op.now c.in_ok-started.started.letters c.in_ok-started.started.answer s c.begin.new.self) same c.in_ok-started.ensures.made)
    (c.in_ok-meet_cell.ensures.met c.args.key.now c.cell_of-cell.ensures.cell)
    (subst (λ (s : LockedState). MeetsLease s c.meet_cell.new.reader c.meet_lease.new.reader) c.meet_cell.ensures.same c.in_ok-meet_lease.ensures.met)
    (c.in_ok-meet_cell-2.ensures.met c.args.key.now c.cell_of-cell.ensures.cell)))
