use Rattle.std.proofs.Common.{◌≡◌, ◌∷◌, [], length, refl, sym, ap, subst, ◌∙◌, append_assoc, append-nil, arith}
use Rattle.std.specs.Vec.Iter.{into_iter_items}
use Rattle.hk_watch.specs.Rising.{Runs}
use Rattle.hk_watch.proofs.Running.{runs_on, stopped, on_err, nothing_left}
use Rattle.hk_watch.proofs.run.make_all.Goals as goal

pub loop-call-init : goal.loop-call-init
loop-call-init g c =
    let all = c.into_iter-call-iterator.ensures.into_iter_gives in
    let long = ap length all.0 in
    let kept = c.args.calls.ok.0 in
    let len = all.1 in
    let room = c.requires.room in
    (refl, (c.requires.none, refl, refl), omega (arith, long, kept, len), omega (arith, long, room))

pub put-requires : goal.put-requires
put-requires g c =
    let at = c.loop-call in
    let short = ap length c.in-Some.ensures.steps.0 in
    let room = at.invariant.3 in
    omega (arith, short, room)

pub loop-call-preserved : goal.loop-call-preserved
loop-call-preserved g c =
    let at = c.loop-call in
    let x = c.in-Some.call in
    let steps : into_iter_items at.call-iterator ≡ x ∷ into_iter_items c.next.new.self = c.in-Some.ensures.steps.0 in
    let was = at.invariant.2 in
    let room = at.invariant.3 in
    let gone = c.in-Some.ensures.steps.1 in
    let short = ap length steps in
    let one = c.put.ensures.len in
    let same = c.put.ensures.capacity in (
      append_assoc at.yielded (x ∷ []) _ ∙ rw (← steps) at.invariant.0,
      runs_on g.F.Watcher.told at.yielded x _ _ _ _ _ _ _ _ _ at.invariant.1 c.in_ok-fired.ensures.made c.put.ensures.items,
      omega (arith, was, gone, short),
      omega (arith, room, one, same, short),
    )

pub returns-in_err-fired-clause-err : goal.returns-in_err-fired-clause-err
returns-in_err-fired-clause-err g c =
    let at = c.loop-call in
    on_err c.from_residual.result (stopped g.F.Watcher.told at.yielded (into_iter_items at.call-iterator) _ _ _ _ _ _ _ _ (at.invariant.0 ∙ c.into_iter-call-iterator.ensures.into_iter_gives.0) at.invariant.1
    c.in_err-fired.ensures.err c.in_err-fired.ensures.further)

pub returns-clause-runs : goal.returns-clause-runs
returns-clause-runs g c =
    let at = c.loop-call in
    let none = c.in-None.ensures.steps in
    let empty : into_iter_items at.call-iterator ≡ [] = nothing_left _ (sym at.invariant.2 ∙ none.0) in
    let all = sym (append-nil at.yielded) ∙ rw empty at at.invariant.0 ∙ c.into_iter-call-iterator.ensures.into_iter_gives.0 in
    subst (λ l. Runs g.F.Watcher.told l c.args.watches.now c.args.reader.now at.notices.items at.watches at.reader) all at.invariant.1
