use Rattle.std.proofs.Common.{rules, arith, ◌≡◌, ◌≤◌, min, length, take, refl, length-take}
use Rattle.hk_lines.proofs.Dropped.{come, less_dropped}
use Rattle.hk_lines.proofs.cutter.Cutter.filled.Goals as goal

pub returns : goal.returns
returns c =
    let held = c.self.inside.buffer in
    let piece = take c.args.count held.room in
    let there : c.args.count ≤ length held.room = rw (← c.self.view_is) at c.requires in
    let long : length piece ≡ c.args.count = grind (arith, there, length-take) in
    let m : c.min-dropped.result ≡ min c.self.inside.dropping c.args.count = search rules in
    let more = come held.unread piece c.self.inside.dropping c.args.count long c.self.invariant.0 in
    let less = less_dropped c.self.inside.dropping c.args.count piece long in
    rw (← c.self.view_is) (rw (c.skip.ensures, c.filled.ensures, m, more, less) refl)
