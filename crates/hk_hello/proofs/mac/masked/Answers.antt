use Rattle.std.proofs.Common.{rules, ◌≡◌, length, sym, ◌∙◌}
use Rattle.hk_hello.proofs.Macs.{masked_is}
use Rattle.hk_hello.proofs.mac.masked.Goals as goal

pub returns : goal.returns
returns c =
    let len : length c.args.block.now ≡ 64 = search rules in
    let end : c.loop-i.i ≡ 64 = search rules in
    masked_is c.args.mask c.args.block.now c.loop-i.masked (c.loop-i.invariant.0 ∙ sym len) (λ k h. c.loop-i.invariant.1 k (rw (end, ← len) h))
