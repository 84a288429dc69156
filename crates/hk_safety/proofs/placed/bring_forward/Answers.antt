use Rattle.std.proofs.Common.{rules, ◌≡◌, ℕ, ◌+◌, ◌-◌, ◌<◌, length, true, false, subst, arith, is_some, slice_index_or, slice_set, List}
use Rattle.std.specs.Prelude.{min}
use Rattle.hk_safety.specs.declared.placed.Placed.{Placed}
use Rattle.hk_safety.proofs.Forward.{IsForward, forward_changed, forward_same}
use Rattle.hk_safety.proofs.placed.bring_forward.Goals as goal
use Rattle.hk_safety.proofs.placed.bring_forward.Goals.{then-is_some, else-is_some}

pub loop-turn-preserved : goal.loop-turn-preserved
loop-turn-preserved c =
    let old : List Placed = c.args.placed.now.items in
    let now : List Placed = c.loop-turn.placed.items in
    let i : ℕ = length old - (c.loop-turn.turn + 1) in
    let x : Placed = c.index.result.now in
    let turn : c.loop-turn.turn < c.len-count.result = c.loop-turn-test.true in
    let count : c.len-count.result ≡ length old = omega (arith, c.len-count.ensures, c.args.placed.now.ok.0) in
    let place : c.len-count.result - 1 - c.loop-turn.turn ≡ i = omega (arith, turn, count) in
    let within : i < length old = omega (arith, turn, count) in
    let next : length old - c.loop-turn.turn ≡ i + 1 = omega (arith, turn, count) in
    let was : IsForward c.args.last old now (i + 1) c.loop-turn.least = subst (λ (n : ℕ). IsForward c.args.last old now n c.loop-turn.least) next c.loop-turn.invariant in
    let read : x ≡ slice_index_or now i x = subst (λ (n : ℕ). x ≡ slice_index_or now n x) place (search rules) in
    elim c.if-is_some.branch [
      | then-is_some w ↦ forward_changed c.args.last old now i c.loop-turn.least x within was read c.if-is_some.placed.items c.if-is_some.least
          (search rules) (search rules)
          (subst (λ (n : ℕ). c.if-is_some.placed.items ≡ slice_set now n (record { event = c.if-is_some.least; entry = x.entry })) place (search rules))
      | else-is_some w ↦ forward_same c.args.last old now i c.loop-turn.least x within was read c.if-is_some.placed.items c.if-is_some.least (search rules) (search rules) (search rules)
    ]
