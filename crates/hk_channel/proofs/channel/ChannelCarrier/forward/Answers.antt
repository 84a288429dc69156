use Rattle.std.proofs.Common.{rules, ◌≡◌, None, Ok, true, ap, ◌∙◌}
use Rattle.std.specs.Arc.{arc_value}
use Rattle.hk_peer.specs.Parcels.{frames_of}
use Rattle.hk_greet.specs.Standing.{Standing}
use Rattle.hk_greet.specs.Greeting.{Knocks}
use Rattle.hk_channel.specs.Greeted.{Says, SaysForLetters, IsFresh}
use Rattle.hk_channel.specs.Sending.{Sent}
use Rattle.hk_channel.proofs.Welcomed.{says_letters, welcomed, first_letters}
use Rattle.hk_channel.proofs.channel.ChannelCarrier.forward.Goals as goal

pub returns-then-send_patiently-clause-whole : goal.returns-then-send_patiently-clause-whole
returns-then-send_patiently-clause-whole g c =
    let fresh : IsFresh c.new-conn.result = record {
      no_read_faults = ap (λ (s : Standing). s.read_faults) c.new-conn.ensures ∙ c.in-Ok.ensures.fresh.0;
      no_write_faults = ap (λ (s : Standing). s.write_faults) c.new-conn.ensures ∙ c.in-Ok.ensures.fresh.1;
      none_given = ap (λ (s : Standing). s.gave) c.new-conn.ensures;
      none_came = ap (λ (s : Standing). s.unread) c.new-conn.ensures;
    } in
    let none : c.args.self.now.conn ≡ None = search rules in
    let said : Says (arc_value c.args.self.now.shared).identity c.in-Some-speaker_of.speaker.purpose c.in-Some-speaker_of.speaker.from c.args.self.now.approach.to c.in-Some-begin.call.hello = search rules in
    let knocked : Knocks (Ok tt) (arc_value c.args.self.now.shared).identity.secret c.in-Some-begin.call.hello c.new-conn.result c.greet.new.conn = search rules in
    let sent : Sent true (frames_of c.args.batch.now) c.greet.new.conn.held c.send_patiently-2.new.conn.held = search rules in
    let for_letters = says_letters (arc_value c.args.self.now.shared).identity c.in-Some-speaker_of.speaker.purpose c.in-Some-speaker_of.speaker.from c.args.self.now.from c.args.self.now.approach.to c.in-Some-begin.call.hello c.in-Some-speaker_of.ensures.purpose c.in-Some-speaker_of.ensures.from_actor said in
    let greeted = welcomed (arc_value c.args.self.now.shared).identity.secret (SaysForLetters (arc_value c.args.self.now.shared).identity c.args.self.now.from c.args.self.now.approach.to) c.in-Some-begin.call.hello c.new-conn.result c.greet.new.conn fresh for_letters knocked in
    first_letters (arc_value c.args.self.now.shared).identity.secret (SaysForLetters (arc_value c.args.self.now.shared).identity c.args.self.now.from c.args.self.now.approach.to) (frames_of c.args.batch.now) c.args.self.now.conn c.greet.new.conn c.send_patiently-2.new.conn none greeted sent
