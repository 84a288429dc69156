-- When a letter may go to a shard. There is one proof at most that it may, so a parcel can carry it.
use Rattle.std.specs.Prelude.{ℕ, ◌<◌, List, Option, Some, None, IfSome}
use Rattle.std.proofs.Props.{props}
use Rattle.hk_base.specs.declared.stamp.Kind.{Kind}
use Rattle.hk_base.specs.declared.call.Content.{Content}
use Rattle.hk_base.specs.declared.view.Voted.{Voted}
use Rattle.hk_base.specs.declared.view.View.{View}
use Rattle.hk_base.specs.declared.letter.Actor.{Actor}
use Rattle.hk_base.specs.declared.letter.Actor.TheVariants.{Node, Manager}
use Rattle.hk_base.specs.declared.letter.CopyItem.{CopyItem}
use Rattle.hk_base.specs.declared.letter.Letter.{Letter}
use Rattle.hk_base.specs.declared.letter.Body.{Body}
use Rattle.hk_base.specs.declared.letter.Body.TheVariants.{Inv, Ack, Val, CopyAsk, CopyGive, LeaseAsk, LeaseGive, Prepare, Promise, Accept, Accepted, Chosen, Activate}
use Rattle.hk_base.specs.View.{IsView}
use Rattle.hk_base.specs.Lengths.{FitsFrame}
use Rattle.hk_base.specs.Range.{Leaves, IsActor, IsRoom, IsBatch, IsVote, IsBody, IsLetter}

-- a node has eight shards, and the letter is in range: its parts are, and it fits a frame
pub record IsParcel (at : ℕ) (sent : Letter) : Type 0 where
  pub shard : at < 8
  pub letter : IsLetter sent
  pub fits : FitsFrame sent

IsActor-prop : (actor : Actor) → IsProp (IsActor actor)
IsActor-prop (Node node) = hlevel props
IsActor-prop (Manager manager) = hlevel props

Leaves-prop : (kind : Kind) (content : Option Content) → IsProp (Leaves kind content)
Leaves-prop kind (Some content) = hlevel props
Leaves-prop kind None = hlevel props

IsView-prop : (view : View) → IsProp (IsView view)
IsView-prop view = hlevel props

IsRoom-prop : (room : ℕ) → IsProp (IsRoom room)
IsRoom-prop room = hlevel props

IsBatch-prop : (items : List CopyItem) → IsProp (IsBatch items)
IsBatch-prop items = hlevel (props, Leaves-prop)

IsVote-prop : (vote : Voted) → IsProp (IsVote vote)
IsVote-prop vote = hlevel (props, IsView-prop)

IfVote-prop : (vote : Option Voted) → IsProp (IfSome vote IsVote)
IfVote-prop None = hlevel props
IfVote-prop (Some vote) = IsVote-prop vote

IsBody-prop : (body : Body) → IsProp (IsBody body)
IsBody-prop (Inv key s kind content) = hlevel (props, Leaves-prop)
IsBody-prop (Ack key s top) = hlevel props
IsBody-prop (Val key s) = hlevel props
IsBody-prop (CopyAsk after room) = IsRoom-prop room
IsBody-prop (CopyGive after done items) = IsBatch-prop items
IsBody-prop (LeaseAsk asked) = hlevel props
IsBody-prop (LeaseGive end) = hlevel props
IsBody-prop (Prepare ballot) = hlevel props
IsBody-prop (Promise ballot vote) = hlevel (props, IfVote-prop)
IsBody-prop (Accept ballot view) = hlevel (props, IsView-prop)
IsBody-prop (Accepted ballot) = hlevel props
IsBody-prop (Chosen view) = IsView-prop view
IsBody-prop (Activate view) = IsView-prop view

pub IsParcel-prop : (at : ℕ) (sent : Letter) → IsProp (IsParcel at sent)
IsParcel-prop at sent = hlevel (props, IsActor-prop, IsBody-prop)
