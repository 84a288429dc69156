use Rattle.std.proofs.Common.{◌≡◌, ◌++◌, ◌∷◌, [], rules}
use Rattle.std.proofs.lemmas.Result.{err_from_is_err_and}
use Rattle.hk_fields.proofs.Many.{goes_on, stops, ends}
use Rattle.hk_fields.specs.Fields.{many, host_at}
use Rattle.hk_fields.proofs.hosts.many_hosts.Goals as goal

pub returns-in_err-host : goal.returns-in_err-host
returns-in_err-host c =
    let p = err_from_is_err_and c.from_residual.result c.from_residual.ensures.1 in
    rw (p.1, p.2) (stops host_at c.in_err-host.field-0.0 c.loop.hosts c.args.count c.loop.counter c.loop.rest.now (many host_at c.args.count c.args.bytes.now) c.loop-test.true c.in_err-host.ensures c.loop.invariant)

pub loop-preserved : goal.loop-preserved
loop-preserved c =
    let e : c.push.new.self ≡ c.loop.hosts ++ c.in_ok-host.host ∷ [] = search rules in
    rw e (goes_on host_at c.loop.hosts c.args.count c.loop.counter c.loop.rest.now c.in_ok-host.host c.in_ok-host.after.now (many host_at c.args.count c.args.bytes.now) c.loop-test.true c.in_ok-host.ensures c.loop.invariant)

pub returns : goal.returns
returns c = ends host_at c.loop.hosts c.args.count c.loop.counter c.loop.rest.now (many host_at c.args.count c.args.bytes.now) c.loop-test.false c.loop.invariant
