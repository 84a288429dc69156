use Rattle.std.proofs.Common.{rules, ◌≡◌, Err, true, false}
use Rattle.hk_init.specs.Phases.{in_time}
use Rattle.hk_init.proofs.Founding.{found_late, found_fails, found_goes_on}
use Rattle.hk_init.proofs.founds.found_all.Goals as goal

pub returns-then-not-in_time : goal.returns-then-not-in_time
returns-then-not-in_time g c =
    let late : in_time c.args.began c.read_clock-now.result ≡ false = search rules in
    let kept = c.loop-place.invariant in
    found_late c.args.began c.args.count c.args.inquiry.now kept.0 c.loop-place.place c.read_clock-now.result _ _ _ (kept.1, kept.2, kept.3) c.loop-place-test.true c.read_clock-now.ensures late

pub returns-in_err-found : goal.returns-in_err-found
returns-in_err-found g c =
    let early : in_time c.args.began c.read_clock-now.result ≡ true = search rules in
    let is : c.from_residual.result ≡ Err c.in_err-found.field-0.0 = search rules in
    let kept = c.loop-place.invariant in
    found_fails c.args.began c.args.count c.args.inquiry.now kept.0 c.loop-place.place c.read_clock-now.result _ _ _ _ _ _ (kept.1, kept.2, kept.3) c.loop-place-test.true c.read_clock-now.ensures early c.in_err-found.ensures is

pub loop-place-preserved : goal.loop-place-preserved
loop-place-preserved g c =
    let early : in_time c.args.began c.read_clock-now.result ≡ true = search rules in
    let kept = c.loop-place.invariant in
    found_goes_on c.args.began c.args.inquiry.now kept.0 c.loop-place.place c.read_clock-now.result _ _ _ _ _ (kept.1, kept.2, kept.3) c.read_clock-now.ensures early c.in_ok-found.ensures
