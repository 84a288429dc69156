use Rattle.std.proofs.Common.{arith, ◌≡◌, sym, ◌-◌, suc, ℕ}
use Rattle.hk_conn.specs.Asking.{told}
use Rattle.hk_conn.proofs.Hearings.{hearing_starts, hearing_ends, hearing_goes_on, asks_one}
use Rattle.hk_conn.proofs.hear.hear.Goals as goal

pub loop-more-init : goal.loop-more-init
loop-more-init g c = hearing_starts _ _ _ _

pub returns-then-more-eq0 : goal.returns-then-more-eq0
returns-then-more-eq0 g c = hearing_ends _ c.loop-more.more _ (g.D.Desk.asks c.loop-more.desk) _ _ _ (told c.ask-heard.result) c.loop-more.invariant (asks_one (g.D.Desk.asks c.loop-more.desk) (g.D.Desk.asks c.ask-heard.new.self) c.args.key.now c.args.op.now c.ask-heard.result c.ask-heard.ensures.listed) (λ lt. absurd (omega (arith, lt, c.if-more-eq0.true)))

pub returns-then-not-is_busy : goal.returns-then-not-is_busy
returns-then-not-is_busy g c = hearing_ends _ c.loop-more.more _ (g.D.Desk.asks c.loop-more.desk) _ _ _ (told c.ask-heard.result) c.loop-more.invariant (asks_one (g.D.Desk.asks c.loop-more.desk) (g.D.Desk.asks c.ask-heard.new.self) c.args.key.now c.args.op.now c.ask-heard.result c.ask-heard.ensures.listed) (λ lt. sym c.if-not-is_busy.ensures)

less : (n : ℕ) → (n ≡ 0 → ⊥) → suc (n - 1) ≡ n
less n h = omega (arith, h)

pub loop-more-preserved : goal.loop-more-preserved
loop-more-preserved g c = hearing_goes_on _ c.loop-more.more (c.loop-more.more - 1) _ (g.D.Desk.asks c.loop-more.desk) _ _ _ (told c.ask-heard.result) (less c.loop-more.more c.if-more-eq0.false) c.loop-more.invariant (asks_one (g.D.Desk.asks c.loop-more.desk) (g.D.Desk.asks c.ask-heard.new.self) c.args.key.now c.args.op.now c.ask-heard.result c.ask-heard.ensures.listed) (sym c.if-not-is_busy.ensures)

pub loop-more-preserved-else-not-is_busy-2 : goal.loop-more-preserved-else-not-is_busy-2
loop-more-preserved-else-not-is_busy-2 g c = hearing_goes_on _ c.loop-more.more (c.loop-more.more - 1) _ (g.D.Desk.asks c.loop-more.desk) _ _ _ (told c.ask-heard.result) (less c.loop-more.more c.if-more-eq0.false) c.loop-more.invariant (asks_one (g.D.Desk.asks c.loop-more.desk) (g.D.Desk.asks c.ask-heard.new.self) c.args.key.now c.args.op.now c.ask-heard.result c.ask-heard.ensures.listed) (sym c.if-not-is_busy.ensures)

pub loop-more-preserved-else-not-is_busy-5 : goal.loop-more-preserved-else-not-is_busy-5
loop-more-preserved-else-not-is_busy-5 g c = hearing_goes_on _ c.loop-more.more (c.loop-more.more - 1) _ (g.D.Desk.asks c.loop-more.desk) _ _ _ (told c.ask-heard.result) (less c.loop-more.more c.if-more-eq0.false) c.loop-more.invariant (asks_one (g.D.Desk.asks c.loop-more.desk) (g.D.Desk.asks c.ask-heard.new.self) c.args.key.now c.args.op.now c.ask-heard.result c.ask-heard.ensures.listed) (sym c.if-not-is_busy.ensures)
