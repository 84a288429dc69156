use Rattle.std.proofs.Common.{rules, arith, ◌≡◌, ◌≤◌, ◌<◌, min, length, refl, sym, ap, ◌∙◌, length-set, get_or-set_other}
use Rattle.crossbeam_utils.proofs.SeqKeeps.{peeks, gathers_none, gathers_one}
use Rattle.hk_seq.specs.Steps.{in_use}
use Rattle.hk_seq.proofs.cell.WordCell+V+P+N+A.gather.Goals as goal

pub load-requires : goal.load-requires
load-requires g c = (search rules, search rules, peeks _ _ _ _ _ _ 0 (search rules))

pub loop-i-init : goal.loop-i-init
loop-i-init g c =
    let some : 0 < length c.args.room.now = search rules in (
      (search rules, search rules, search rules),
      length-set c.args.room.now 0 c.load.result ∙ c.told-room,
      search rules,
      refl,
      gathers_one (λ x. x) c.args.room.now 0 c.load.result _ c.args.pass.now.me.0.stage _ some (gathers_none (λ x. x) c.args.room.now _) c.load.ensures.2.1,
    )

pub load-requires-in-loop-i : goal.load-requires-in-loop-i
load-requires-in-loop-i g c = (search rules, search rules, peeks _ _ _ _ _ _ c.loop-i.i (search rules))

pub loop-i-preserved : goal.loop-i-preserved
loop-i-preserved g c =
    let i = c.loop-i.invariant in
    let behind : 1 ≤ c.loop-i.i = i.2 in
    let inside : c.loop-i.i < length c.loop-i.room = search rules in (
      (search rules, search rules, c.load-in-loop-i.ensures.2.0 ∙ i.0.2),
      length-set c.loop-i.room c.loop-i.i c.load-in-loop-i.result ∙ i.1,
      search rules,
      get_or-set_other c.loop-i.room c.loop-i.i 0 c.load-in-loop-i.result 0 (λ e. omega (arith, behind)) ∙ i.3,
      gathers_one (λ x. x) _ c.loop-i.i _ _ _ _ inside i.4 c.load-in-loop-i.ensures.2.1,
    )

pub returns : goal.returns
returns g c =
    let i = c.loop-i.invariant in
    let behind : 1 ≤ c.loop-i.i = i.2 in
    let same : in_use g.row.N c.loop-i.room ≡ c.in_use-count.result = ap (λ z. min z g.row.N) i.3 ∙ sym c.in_use-count.ensures in
    (i.0, (i.1, c.loop-i.i, omega (arith, behind), omega (arith, same, c.loop-i-test.false), i.4))
