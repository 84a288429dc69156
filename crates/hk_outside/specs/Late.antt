-- What waits at a late desk in memory.
use Rattle.std.specs.Prelude.{◌≡◌, false}
use Rattle.hk_base.specs.declared.call.Op.{Op}
use Rattle.hk_outside.specs.declared.desk.Begun.{Begun}
use Rattle.hk_outside.specs.declared.desk.Begun.TheVariants.{Told, Waits}
use Rattle.hk_outside.specs.declared.desk.DeskReply.{DeskReply}
use Rattle.hk_outside.specs.declared.wait.FakeWait.{FakeWait}
use Rattle.hk_outside.specs.Desk.{is_busy}

-- what it makes of a reply
abbrev pub WaitsOrTold : Op → DeskReply → Begun FakeWait → Type 0
WaitsOrTold op reply (Told told) = told ≡ reply
WaitsOrTold op reply (Waits w) = (w.op ≡ op) × (w.reply ≡ reply) × (is_busy reply ≡ false)
