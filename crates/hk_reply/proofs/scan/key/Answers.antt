use Rattle.std.proofs.Common.{◌∙◌, sym, rules, length}
use Rattle.hk_reply.proofs.Parts.{key_turn, key_short, drop_turn, rest_turn}
use Rattle.hk_reply.proofs.scan.key.Goals as goal

pub loop-byte-preserved : goal.loop-byte-preserved
loop-byte-preserved c =
    let i = c.loop-byte.invariant in
    let stops = sym c.stops_key.ensures ∙ c.if-stops_key.false in
    record {
      short = key_short c.loop-byte.len c.in-Some.byte.now stops i.short;
      within = rest_turn c.loop-byte.len c.in-Some.byte.now (length c.args.bytes.now) c.loop-byte.rest.now c.in-Some.others.now (search rules) i.within;
      rest = drop_turn c.loop-byte.len c.in-Some.byte.now c.args.bytes.now c.loop-byte.rest.now c.in-Some.others.now (search rules) i.rest;
      read = i.read ∙ key_turn c.loop-byte.len c.in-Some.byte.now c.args.bytes.now c.loop-byte.rest.now c.in-Some.others.now (search rules) i.rest (sym c.ends_key.ensures ∙ c.if-ends_key.false) stops;
    }
