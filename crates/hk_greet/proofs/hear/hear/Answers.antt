use Rattle.std.proofs.Common.{rules, ◌≡◌, ◌<◌, [], length, Err, subst, sym}
use Rattle.hk_greet.specs.Hearing.{Hears}
use Rattle.hk_greet.proofs.Passing.{passes_behind}
use Rattle.hk_greet.proofs.Hearings.{fill_fails, fill_ends, fewer_wanting}
use Rattle.hk_greet.proofs.hear.hear.Goals as goal

pub returns-in_err-count : goal.returns-in_err-count
returns-in_err-count g c =
    let same : c.from_residual.result ≡ Err c.in_err-count.field-0.0 = search rules in
    let short : g.M.Message.kind.IsShort c.loop-message.conn.unread = search rules in
    subst (λ r. Hears g.M.Message.kind g.L.Limit.may_end r c.args.conn.now c.fill.new.self) (sym same) (fill_fails g.M.Message.kind g.L.Limit.may_end c.in_err-count.field-0.0 c.args.conn.now c.loop-message.conn c.fill.new.self c.loop-message.invariant short c.in_err-count.ensures)

pub returns-then-count-eq0 : goal.returns-then-count-eq0
returns-then-count-eq0 g c =
    let short : g.M.Message.kind.IsShort c.loop-message.conn.unread = search rules in
    fill_ends g.M.Message.kind g.L.Limit.may_end c.in_ok-count.count c.args.conn.now c.loop-message.conn c.fill.new.self c.loop-message.invariant short c.in_ok-count.ensures c.if-count-eq0.true

pub loop-message-smaller : goal.loop-message-smaller
loop-message-smaller g c =
    let few : length c.loop-message.conn.unread < g.M.Message.most = search rules in
    fewer_wanting g.M.Message.most c.in_ok-count.count (length c.loop-message.conn.unread) (length c.fill.new.self.unread) few c.in_ok-count.ensures.1 c.if-count-eq0.false

pub loop-message-preserved : goal.loop-message-preserved
loop-message-preserved g c = passes_behind c.args.conn.now c.loop-message.conn c.fill.new.self [] [] c.loop-message.invariant c.in_ok-count.ensures.0
