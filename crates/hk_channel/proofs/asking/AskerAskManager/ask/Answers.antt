use Rattle.std.proofs.Common.{rules, ◌≡◌, None, Ok, ap, ◌∙◌}
use Rattle.std.specs.Arc.{arc_value}
use Rattle.hk_greet.specs.Standing.{Standing}
use Rattle.hk_greet.specs.Greeting.{Knocks}
use Rattle.hk_greet.specs.Exchange.{Asks}
use Rattle.hk_channel.specs.Greeted.{Says, SaysForRequests, IsFresh}
use Rattle.hk_channel.proofs.Welcomed.{says_requests, welcomed, first_answer}
use Rattle.hk_channel.proofs.asking.AskerAskManager.ask.Goals as goal

pub returns-clause-asked : goal.returns-clause-asked
returns-clause-asked g c =
    let fresh : IsFresh c.new-conn.result = record {
      no_read_faults = ap (λ (s : Standing). s.read_faults) c.new-conn.ensures ∙ c.in-Ok.ensures.fresh.0;
      no_write_faults = ap (λ (s : Standing). s.write_faults) c.new-conn.ensures ∙ c.in-Ok.ensures.fresh.1;
      none_given = ap (λ (s : Standing). s.gave) c.new-conn.ensures;
      none_came = ap (λ (s : Standing). s.unread) c.new-conn.ensures;
    } in
    let none : c.args.self.now.conn ≡ None = search rules in
    let said : Says (arc_value c.args.self.now.shared).identity c.speaker_of-speaker.result.purpose c.speaker_of-speaker.result.from c.args.self.now.approach.to c.in_ok-call.call.hello = search rules in
    let knocked : Knocks (Ok tt) (arc_value c.args.self.now.shared).identity.secret c.in_ok-call.call.hello c.new-conn.result c.greet.new.conn = search rules in
    let asked : Asks (Ok c.in_ok-answer.answer) c.args.inquiry.now c.greet.new.conn c.answer_on.new.conn = search rules in
    let for_requests = says_requests (arc_value c.args.self.now.shared).identity c.speaker_of-speaker.result.purpose c.speaker_of-speaker.result.from c.args.self.now.approach.to c.in_ok-call.call.hello c.speaker_of-speaker.ensures.purpose said in
    let greeted = welcomed (arc_value c.args.self.now.shared).identity.secret (SaysForRequests (arc_value c.args.self.now.shared).identity c.args.self.now.approach.to) c.in_ok-call.call.hello c.new-conn.result c.greet.new.conn fresh for_requests knocked in
    first_answer (arc_value c.args.self.now.shared).identity.secret (SaysForRequests (arc_value c.args.self.now.shared).identity c.args.self.now.approach.to) c.args.inquiry.now c.in_ok-answer.answer c.args.self.now.conn c.greet.new.conn c.answer_on.new.conn none greeted asked
