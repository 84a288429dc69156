use Rattle.std.proofs.Common.{◌<◌, ◌^◌}
use Rattle.std.specs.List.{AllWithin}
use Rattle.hk_frame.proofs.values.members_are_values.Given as goal

abbrev pub invariant-loop-member : goal.invariant-loop-member
invariant-loop-member l = AllWithin (λ member. member.0 < 2 ^ 16) l.members 0 l.member-index
