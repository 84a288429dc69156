use Rattle.std.proofs.Common.{rules, ◌≡◌, ◌≤◌, ℕ, List, length, sym, subst}
use Rattle.hk_inside.specs.Messages.{inquiry_bytes}
use Rattle.hk_inside.proofs.Sizes.{inquiry_short}
use Rattle.hk_inside.proofs.frames.print_inquiry.Goals as goal

pub framed-requires : goal.framed-requires
framed-requires c =
    let e : c.deref.result.now ≡ inquiry_bytes c.args.inquiry.now = search rules in
    subst (λ (z : List ℕ). length z ≤ 65535) (sym e) (inquiry_short c.args.inquiry.now c.inquiry_is_value.ensures c.requires)
