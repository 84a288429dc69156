use Rattle.std.proofs.Common.{◌≡◌, ◌+◌, ◌*◌, ◌≤◌, drop}
use Rattle.hk_turns.specs.Requests.{requests_in}
use Rattle.hk_turns.proofs.requests.LeaseRequests.count.Given as goal

-- those so far and those that are left are all
abbrev pub invariant-loop-place : goal.invariant-loop-place
invariant-loop-place l = (l.due + requests_in (drop l.place l.self.left) ≡ requests_in l.self.left) × (l.due ≤ 255 * l.place) × (l.place ≤ 8)
