use Rattle.std.proofs.Common.{rules, ◌≡◌, ◌<◌, ◌≤◌, ◌+◌, ◌*◌, List, ℕ, length, drop, arith, ap, subst, sym}
use Rattle.hk_turns.proofs.Taking.{requests_more, requests_all}
use Rattle.hk_turns.specs.Requests.{RequestState, requests_in}
use Rattle.hk_turns.proofs.requests.LeaseRequests.count.Goals as goal

pub loop-place-preserved : goal.loop-place-preserved
loop-place-preserved c =
    let below : c.loop-place.place < 8 = search rules in
    let long : length c.self.inside.left.items ≡ 8 = c.self.invariant in
    let fits : c.from-due.result ≤ 255 = search rules in
    let same : c.self.inside.left.items ≡ c.args.self.now.left = ap (λ (r : RequestState). r.left) c.self.view_is in
    let bound : c.loop-place.due ≤ 255 * c.loop-place.place = c.loop-place.invariant.1 in (
      subst (λ (xs : List ℕ). c.loop-place.due + c.from-due.result + requests_in (drop (c.loop-place.place + 1) xs) ≡ requests_in xs) same
          (requests_more c.self.inside.left.items c.loop-place.place c.index.result.now c.from-due.result c.loop-place.due (omega (arith, below, long)) c.index.ensures c.from-due.ensures
          (subst (λ (xs : List ℕ). c.loop-place.due + requests_in (drop c.loop-place.place xs) ≡ requests_in xs) (sym same) c.loop-place.invariant.0)),
      omega (arith, fits, bound),
      omega (arith, below),
    )

pub returns : goal.returns
returns c =
    let past : 8 ≤ c.loop-place.place = search rules in
    let long : length c.self.inside.left.items ≡ 8 = c.self.invariant in
    let same : c.self.inside.left.items ≡ c.args.self.now.left = ap (λ (r : RequestState). r.left) c.self.view_is in
    subst (λ (xs : List ℕ). c.loop-place.due ≡ requests_in xs) same
    (requests_all c.self.inside.left.items c.loop-place.place c.loop-place.due (omega (arith, past, long))
    (subst (λ (xs : List ℕ). c.loop-place.due + requests_in (drop c.loop-place.place xs) ≡ requests_in xs) (sym same) c.loop-place.invariant.0))
