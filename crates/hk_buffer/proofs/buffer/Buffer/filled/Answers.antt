use Rattle.std.proofs.Common.{refl}
use Rattle.std.proofs.lemmas.List.{drop-drop}
use Rattle.hk_buffer.proofs.Parts.{come}
use Rattle.hk_buffer.proofs.buffer.Buffer.filled.Goals as goal

pub returns : goal.returns
returns c =
    let v = c.self.invariant in
    let more = come c.self.inside.bytes.items c.self.inside.start c.self.inside.end c.args.count v.0 v.1 in
    rw (← c.self.view_is) (rw (more, ← drop-drop c.args.count c.self.inside.end c.self.inside.bytes.items) refl)
