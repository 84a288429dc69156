use Rattle.std.proofs.Common.{arith, None, Some}
use Rattle.std.proofs.lemmas.Str.Pattern.{strip_prefix_char, strip_suffix_char}
use Rattle.hk_hosts.proofs.Naming.{no_prefix, no_suffix, inside}
use Rattle.hk_hosts.proofs.parts.is_bracketed.Goals as goal

pub returns-in_default : goal.returns-in_default
returns-in_default c = no_prefix c.args.host.now (strip_prefix_char 91 c.args.host.now None c.in_default.ensures.cases (omega arith))

pub returns-in_default-strip_suffix : goal.returns-in_default-strip_suffix
returns-in_default-strip_suffix c =
    no_suffix c.args.host.now c.in-Some.rest.now
    (strip_prefix_char 91 c.args.host.now (Some c.in-Some.rest) c.in-Some.ensures.cases (omega arith))
    (strip_suffix_char 93 c.in-Some.rest.now None c.in_default-strip_suffix.ensures.cases (omega arith))

pub returns : goal.returns
returns c =
    inside c.args.host.now c.in-Some.rest.now c.in-Some-strip_suffix.text.now c.is_ipv6.result
    (strip_prefix_char 91 c.args.host.now (Some c.in-Some.rest) c.in-Some.ensures.cases (omega arith))
    (strip_suffix_char 93 c.in-Some.rest.now (Some c.in-Some-strip_suffix.text) c.in-Some-strip_suffix.ensures.cases (omega arith))
    c.is_ipv6.ensures
