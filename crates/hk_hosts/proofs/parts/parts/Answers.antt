use Rattle.std.proofs.Common.{arith}
use Rattle.std.proofs.lemmas.Str.Pattern.{ends_char}
use Rattle.hk_hosts.proofs.Colons.{colon, no_colon}
use Rattle.hk_hosts.proofs.parts.parts.Goals as goal

pub returns-in-Some : goal.returns-in-Some
returns-in-Some c =
    let told = ends_char 93 c.args.text.now c.ends_with.result c.ends_with.ensures.cases (omega arith) in
    let cut = c.in-Some.ensures.cases in
    colon c.args.text.now c.ends_with.result told c.if-ends_with.false c.in-Some.host.now c.in-Some.port.now cut.0 cut.1 cut.2 cut.3 cut.4

pub returns-in-None : goal.returns-in-None
returns-in-None c =
    let told = ends_char 93 c.args.text.now c.ends_with.result c.ends_with.ensures.cases (omega arith) in
    no_colon c.args.text.now c.ends_with.result told c.if-ends_with.false c.in-None.ensures.cases
