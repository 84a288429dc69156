use Rattle.std.proofs.Common.{◌≡◌, drop}
use Rattle.std.specs.List.{fold}
use Rattle.hk_lease.specs.Grants.{with_grant}
use Rattle.hk_lease.specs.Wait.{wait}
use Rattle.hk_manager.specs.Sound.{founding_untils}
use Rattle.hk_manager.proofs.manager.founding_untils.Given as goal

-- with the founders that are left the untils are those of all
abbrev pub invariant-loop-node : goal.invariant-loop-node
invariant-loop-node l = fold (λ untils node. with_grant untils node (wait l.lease)) l.untils (drop l.node-index l.founders) ≡ founding_untils l.founders l.lease
