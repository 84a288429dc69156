use Rattle.std.proofs.Common.{rules, ◌≡◌, false, refl}
use Rattle.hk_hosts.proofs.Naming.{no_number, not_printed, no_port}
use Rattle.hk_hosts.proofs.parts.read_port.Goals as goal

pub returns-then-port-eq0 : goal.returns-then-port-eq0
returns-then-port-eq0 c =
    let zero : c.in-Ok.port ≡ 0 = search rules in
    no_port c.args.digits.now c.in-Ok.port c.in-Ok.ensures.value.0 zero

pub returns-then-not-is_printed : goal.returns-then-not-is_printed
returns-then-not-is_printed c = not_printed c.args.digits.now c.in-Ok.port c.in-Ok.ensures.value.0 false c.if-not-is_printed.ensures refl

pub returns-in-Err : goal.returns-in-Err
returns-in-Err c = no_number c.args.digits.now c.in-Err.field-0 c.in-Err.ensures.value.0
