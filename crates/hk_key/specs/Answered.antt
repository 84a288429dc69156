-- What becomes of the call of a pending update: it waits on with its update, or it is answered.
use Rattle.std.specs.Prelude.{◌≡◌, ◌⊎◌, None, Some}
use Rattle.std.specs.Option.{IsSomeAnd}
use Rattle.hk_base.specs.declared.stamp.Stamp.{Stamp}
use Rattle.hk_base.specs.declared.call.Reply.{Reply}
use Rattle.hk_base.specs.declared.call.Answer.TheVariants.{Aborted}
use Rattle.hk_base.specs.declared.call.State.TheVariants.{Valid, Invalid, Write, Trans}
use Rattle.hk_key.specs.declared.row.Pending.{Pending}
use Rattle.hk_key.specs.declared.row.Row.{Row}
use Rattle.hk_key.specs.Table.{Done}

-- what the call of a kept reply is told: the answer that was kept, or Aborted
pub record IsToldFor (kept told : Reply) : Type 0 where
  pub call : told.call ≡ kept.call
  pub answer : (told.answer ≡ kept.answer) ⊎ ((s : Stamp) × (told.answer ≡ Aborted s))

-- the update is pending still, by its stamp, with its reply, and nothing is answered
pub record GoesOn (p : Pending) (reply : Reply) (done : Done) : Type 0 where
  pub update : IsSomeAnd done.row.pending (λ q. (q.stamp ≡ p.stamp) × (q.reply ≡ Some reply))
  pub state : (done.row.state ≡ Write) ⊎ (done.row.state ≡ Trans)
  pub silent : done.out.reply ≡ None

-- the call of the reply is answered, and no update is pending
pub record IsAnswered (reply : Reply) (done : Done) : Type 0 where
  pub told : IsSomeAnd done.out.reply (λ told. IsToldFor reply told)
  pub gone : done.row.pending ≡ None
  pub state : (done.row.state ≡ Valid) ⊎ (done.row.state ≡ Invalid)

-- one of the two, of a step made where the update p was pending with this reply
abbrev pub GoesOnOrIsAnswered : Pending → Reply → Done → Type 0
GoesOnOrIsAnswered p reply done = GoesOn p reply done ⊎ IsAnswered reply done

-- the row had a pending update whose call is told this
abbrev pub HadWaiting : Row → Reply → Type 0
HadWaiting row told = IsSomeAnd row.pending (λ p. IsSomeAnd p.reply (λ kept. IsToldFor kept told))
