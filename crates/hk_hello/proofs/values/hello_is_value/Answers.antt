use Rattle.std.proofs.Common.{rules}
use Rattle.hk_hello.proofs.values.hello_is_value.Goals as goal

pub returns : goal.returns
returns c = record {
  from = c.party_is_value.ensures;
  to = c.party_is_value-2.ensures;
  founding = search rules;
  ticket = c.home_is_value.ensures.ticket;
  hosts = c.home_is_value.ensures.hosts;
  lease = search rules;
  skew = search rules;
  group = c.requires.group;
}
