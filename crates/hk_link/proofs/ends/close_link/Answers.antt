use Rattle.std.proofs.Common.{rules, List}
use Rattle.hk_link.specs.declared.parcel.Parcel.{Parcel}
use Rattle.hk_link.specs.Ends.{knowing, Moment}
use Rattle.hk_link.proofs.Moves.{prefix_of_moment}
use Rattle.hk_link.proofs.ends.close_link.Goals as goal

pub returns-clause-prefix : goal.returns-clause-prefix
returns-clause-prefix c = λ whole.
    let moment : (held : List Parcel) × Moment (knowing c.args.outlet.known.put c.args.inlet.known.taken) held = search rules in
    prefix_of_moment (knowing c.args.outlet.known.put c.args.inlet.known.taken) moment.0 moment.1 whole
