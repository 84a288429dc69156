use Rattle.std.proofs.Common.{rules, ◌≡◌, ◌≢◌, true, false, map}
use Rattle.hk_base.specs.declared.letter.Actor.TheVariants.{Node}
use Rattle.hk_merge.specs.Placed.{item_of}
use Rattle.hk_assemble.specs.Taking.{is_below}
use Rattle.hk_assemble.proofs.Least.{unsent, elsewhere}
use Rattle.hk_assemble.proofs.taking.not_taken.Goals as goal

pub returns-then-not-is_below : goal.returns-then-not-is_below
returns-then-not-is_below c =
    let below : is_below c.least_sent-sent.result c.args.entry.now.ticket ≡ false = search rules in
    unsent (map item_of c.args.slots.now) c.args.node c.args.entry.now c.args.letter.now c.least_sent-sent.result c.least_sent-sent.ensures below c.requires

pub returns : goal.returns
returns c =
    let below : is_below c.least_sent-sent.result c.args.entry.now.ticket ≡ true = search rules in
    let far : c.args.letter.now.to ≢ Node c.args.node = search rules in
    elsewhere (map item_of c.args.slots.now) c.args.node c.args.entry.now c.args.letter.now c.least_sent-sent.result c.least_sent-sent.ensures below c.requires far
