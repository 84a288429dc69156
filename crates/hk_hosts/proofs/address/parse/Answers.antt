use Rattle.std.proofs.Common.{◌<◌, ◌+◌, length, decimal, option_copied, false, refl, arith}
use Rattle.hk_hosts.specs.declared.address.TheConstants.{MAX_ADDRESS_LEN}
use Rattle.hk_hosts.proofs.Reading.{no_host, no_port, too_long}
use Rattle.hk_hosts.proofs.address.parse.Goals as goal

pub returns-then-not-is_host : goal.returns-then-not-is_host
returns-then-not-is_host c = no_host c.args.usual c.args.text.now c.parts.result.0.now (option_copied c.parts.result.1) c.parts.ensures false c.if-not-is_host.ensures refl

pub returns-in_default : goal.returns-in_default
returns-in_default c = no_port c.args.usual c.args.text.now c.parts.result.0.now (option_copied c.parts.result.1) c.parts.ensures c.in_default.ensures

pub returns-then-host-port_len-gt-MAX_ADDRESS_LEN : goal.returns-then-host-port_len-gt-MAX_ADDRESS_LEN
returns-then-host-port_len-gt-MAX_ADDRESS_LEN c =
    let long : MAX_ADDRESS_LEN < length c.parts.result.0.now + 1 + length (decimal c.in-Some.port) = omega (arith, c.port_len.ensures.exact, c.if-host-port_len-gt-MAX_ADDRESS_LEN.true) in
    too_long c.args.usual c.args.text.now c.parts.result.0.now (option_copied c.parts.result.1) c.parts.ensures c.in-Some.port c.in-Some.ensures long
