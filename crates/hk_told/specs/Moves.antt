-- What becomes of the call that waits at a row, in a step of that row which is no call.
use Rattle.std.specs.Prelude.{◌≡◌, ◌⊎◌, Option, Some, None}
use Rattle.std.specs.Option.{IsSomeAnd}
use Rattle.hk_base.specs.declared.stamp.Stamp.{Stamp}
use Rattle.hk_base.specs.declared.stamp.Kind.{Kind}
use Rattle.hk_base.specs.declared.stamp.Kind.TheVariants as Kind
use Rattle.hk_base.specs.declared.call.Reply.{Reply}
use Rattle.hk_base.specs.declared.call.Answer.TheVariants.{Aborted}
use Rattle.hk_base.specs.declared.call.State.TheVariants.{Valid, Invalid, Write, Trans}
use Rattle.hk_key.specs.declared.row.Row.{Row}

-- The call of this reply waits at the row for the update of this stamp and kind. A read-modify-write waits in Write alone.
pub record WaitsFor (stamp : Stamp) (kind : Kind) (kept : Reply) (row : Row) : Type 0 where
  pub update : IsSomeAnd row.pending (λ p. (p.stamp ≡ stamp) × (p.kind ≡ kind) × (p.reply ≡ Some kept))
  pub state : ((row.state ≡ Write) × (row.stamp ≡ stamp)) ⊎ ((row.state ≡ Trans) × (kind ≡ Kind.Write))

-- the call is told what was kept for it, and the row is Valid or Invalid; a read-modify-write leaves it at its stamp
pub record Ends (stamp : Stamp) (kind : Kind) (kept : Reply) (row : Row) (told : Option Reply) : Type 0 where
  pub tells : told ≡ Some kept
  pub gone : row.pending ≡ None
  pub state : (row.state ≡ Valid) ⊎ (row.state ≡ Invalid)
  pub own : kind ≡ Kind.Rmw → row.stamp ≡ stamp

-- the call, a read-modify-write's, is given up for the stamp that the row has now
pub record GivesUp (kind : Kind) (kept : Reply) (row : Row) (told : Option Reply) : Type 0 where
  pub tells : told ≡ Some (record { call = kept.call; answer = Aborted row.stamp })
  pub gone : row.pending ≡ None
  pub state : row.state ≡ Invalid
  pub rmw : kind ≡ Kind.Rmw

-- it waits on with nothing told, or ends, or is given up
abbrev pub Goes : Stamp → Kind → Reply → Row → Option Reply → Type 0
Goes stamp kind kept row told = (WaitsFor stamp kind kept row × (told ≡ None)) ⊎ (Ends stamp kind kept row told ⊎ GivesUp kind kept row told)

-- the row's update keeps this reply
abbrev pub HasReply : Reply → Row → Type 0
HasReply kept row = IsSomeAnd row.pending (λ p. p.reply ≡ Some kept)

-- The law of a row's step, from the old row to the new one, in which this was told.
pub record Moves (old : Row) (new : Row) (told : Option Reply) : Type 0 where
  -- a call that waits waits on, is told, or is given up
  pub goes : (stamp : Stamp) (kind : Kind) (kept : Reply) → WaitsFor stamp kind kept old → Goes stamp kind kept new told
  -- a reply that is kept was kept before
  pub waited : (kept : Reply) → HasReply kept new → HasReply kept old
  -- a call that is told had its reply kept
  pub answers : (reply : Reply) → told ≡ Some reply → (kept : Reply) × HasReply kept old × (kept.call ≡ reply.call)
