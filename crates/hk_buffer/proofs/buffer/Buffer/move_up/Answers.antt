use Rattle.std.proofs.Common.{rules, ◌≡◌, drop, refl}
use Rattle.hk_buffer.proofs.Parts.{moved}
use Rattle.hk_buffer.proofs.buffer.Buffer.move_up.Goals as goal

pub returns-then-self-2 : goal.returns-then-self-2
returns-then-self-2 c =
    let left : c.drop-drain.new.self.0.items ≡ drop c.self.inside.start c.self.inside.bytes.items = search rules in
    let same = moved c.self.inside.bytes.items c.drop-drain.new.self.0.items c.self.inside.start c.self.inside.end c.self.invariant.0 left in
    rw (← c.self.view_is) (rw same refl)
