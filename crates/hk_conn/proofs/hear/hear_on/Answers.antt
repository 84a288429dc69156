use Rattle.std.proofs.Common.{arith, ◌≡◌, sym, ◌-◌, suc, ℕ, ◌≤◌}
use Rattle.hk_conn.specs.Asking.{told}
use Rattle.hk_conn.proofs.Hearings.{hears_first, hears_again}
use Rattle.hk_conn.proofs.hear.hear_on.Goals as goal

pub returns-then-not-is_busy : goal.returns-then-not-is_busy
returns-then-not-is_busy g c = hears_first (c.args.patience - 1) (g.D.Desk.asks c.args.desk.now) c.args.key.now c.args.op.now (told c.args.first) (λ lt. sym c.if-not-is_busy.ensures)

pub returns-then-patience-eq1 : goal.returns-then-patience-eq1
returns-then-patience-eq1 g c = hears_first (c.args.patience - 1) (g.D.Desk.asks c.args.desk.now) c.args.key.now c.args.op.now (told c.args.first) (λ lt. absurd (omega (arith, lt, c.if-patience-eq1.true)))

less : (n : ℕ) → 1 ≤ n → (n ≡ 1 → ⊥) → suc (n - 1 - 1) ≡ n - 1
less n le h = omega (arith, le, h)

pub returns : goal.returns
returns g c = hears_again (c.args.patience - 1) (c.args.patience - 1 - 1) (g.D.Desk.asks c.args.desk.now) (g.D.Desk.asks c.hear.new.desk) c.args.key.now c.args.op.now (told c.args.first) (told c.hear.result) (less c.args.patience c.requires c.if-patience-eq1.false) (sym c.if-not-is_busy.ensures) c.hear.ensures
