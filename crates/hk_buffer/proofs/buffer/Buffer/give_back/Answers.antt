use Rattle.std.proofs.Common.{rules, ◌≡◌, take, refl}
use Rattle.hk_buffer.proofs.Parts.{front_of_front}
use Rattle.hk_buffer.proofs.buffer.Buffer.give_back.Goals as goal

pub returns-then-capacity-asked : goal.returns-then-capacity-asked
returns-then-capacity-asked c =
    let left : c.shrink_to.new.self.items ≡ take c.args.asked c.self.inside.bytes.items = search rules in
    let same = front_of_front c.self.inside.bytes.items c.shrink_to.new.self.items c.self.inside.end c.args.asked (search rules) left in
    rw (← c.self.view_is) (rw same refl)
