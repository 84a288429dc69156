-- Reads that are told from a key's row, under the shard's lock.
use Rattle.std.specs.Prelude.{◌≡◌, ℕ, ◌+◌, ◌<◌, ◌≤◌, List, true, Option, Some, None}
use Rattle.hk_base.specs.Stamp.{tag_of}
use Rattle.hk_base.specs.declared.stamp.Stamp.{Stamp}
use Rattle.hk_base.specs.declared.call.CallNo.{CallNo}
use Rattle.hk_base.specs.declared.call.Content.{Content}
use Rattle.hk_base.specs.declared.call.State.{State}
use Rattle.hk_base.specs.declared.call.State.TheVariants.{Valid}
use Rattle.hk_base.specs.declared.call.Op.TheVariants.{Read}
use Rattle.hk_base.specs.declared.call.Answer.{Answer}
use Rattle.hk_base.specs.declared.call.Answer.TheVariants.{Found, Missing}
use Rattle.hk_outside.specs.Desk.{answers}
use Rattle.hk_key.specs.declared.row.Row.{Row}
use Rattle.hk_told.specs.Shown.{TellsShown}
use Rattle.hk_locked.specs.Locked.{ReaderState}
use Rattle.hk_locked.specs.Steps.{end_at}

-- what a read is told of a content
abbrev pub with_content : Stamp → Option Content → Option Answer
with_content stamp None = Some Missing
with_content stamp (Some content) = Some (Found content (tag_of stamp))

-- only a Valid row is told
abbrev pub in_state : State → Stamp → Option Content → Option Answer
in_state Valid stamp content = with_content stamp content
in_state state stamp content = None

-- the key's row, if it has one; a key without a row holds nothing
abbrev pub told_by : Option Row → Option Answer
told_by None = Some Missing
told_by (Some row) = in_state row.state row.stamp row.content

-- The reader has seen, by loads of the key's cell and of the lease, what shows this answer of a read at each reading by which the lease runs that it has seen, and
-- which ends at `until`. It is that of no call.
pub record ReadsRow (key : List ℕ) (old new : ReaderState) (until : ℕ) (answer : Answer) : Type 0 where
  pub end : until ≡ new.lease.end
  pub loads : old.lease.loads < new.lease.loads
  pub suits : answers Read answer ≡ true
  pub shown : (now : ℕ) (call : CallNo) → now + new.skew ≤ new.lease.end
      → TellsShown call key Read new.lease.end now new.skew (end_at key old) (end_at key new) answer
