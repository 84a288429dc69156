-- Which letters have a frame. What the types of a letter's parts keep is said here, since a law ranges over all numbers.
use Rattle.std.specs.Prelude.{ℕ, ◌<◌, ◌^◌, All, IfSome}
use Rattle.hk_base.specs.Key.{IsKey, IsData}
use Rattle.hk_base.specs.Range.{IsLetter}
use Rattle.hk_base.specs.declared.stamp.Stamp.{Stamp}
use Rattle.hk_base.specs.declared.call.Content.{Content}
use Rattle.hk_base.specs.declared.view.Ballot.{Ballot}
use Rattle.hk_base.specs.declared.view.View.{View}
use Rattle.hk_base.specs.declared.view.Voted.{Voted}
use Rattle.hk_base.specs.declared.letter.Actor.{Actor}
use Rattle.hk_base.specs.declared.letter.Actor.TheVariants.{Node, Manager}
use Rattle.hk_base.specs.declared.letter.CopyItem.{CopyItem}
use Rattle.hk_base.specs.declared.letter.Letter.{Letter}
use Rattle.hk_base.specs.declared.letter.Body.{Body}
use Rattle.hk_base.specs.declared.letter.Body.TheVariants.{Inv, Ack, Val, CopyAsk, CopyGive, LeaseAsk, LeaseGive, Prepare, Promise, Accept, Accepted, Chosen, Activate}
use Rattle.hk_base.specs.Lengths.{FitsFrame}

pub record IsStampValue (s : Stamp) : Type 0 where
  pub version : s.version < 2 ^ 64
  pub node : s.node < 2 ^ 16

pub record IsContentValue (content : Content) : Type 0 where
  pub flags : content.flags < 2 ^ 32
  pub bytes : IsData content.bytes

pub record IsItemValue (item : CopyItem) : Type 0 where
  pub key : IsKey item.key
  pub stamp : IsStampValue item.stamp
  pub content : IfSome item.content IsContentValue

pub record IsBallotValue (ballot : Ballot) : Type 0 where
  pub round : ballot.round < 2 ^ 32
  pub manager : ballot.manager < 2 ^ 8

pub record IsViewValue (view : View) : Type 0 where
  pub epoch : view.epoch < 2 ^ 64
  pub members : All (λ member. member.0 < 2 ^ 16) view.members
  pub next : view.next < 2 ^ 32

pub record IsVoteValue (vote : Voted) : Type 0 where
  pub ballot : IsBallotValue vote.ballot
  pub view : IsViewValue vote.view

abbrev pub IsActorValue : Actor → Type 0
IsActorValue (Node node) = node.0 < 2 ^ 16
IsActorValue (Manager manager) = manager < 2 ^ 8

abbrev pub IsBodyValue : Body → Type 0
IsBodyValue (Inv key s kind content) = IsKey key × IsStampValue s × IfSome content IsContentValue
IsBodyValue (Ack key s top) = IsKey key × IsStampValue s × IsStampValue top
IsBodyValue (Val key s) = IsKey key × IsStampValue s
IsBodyValue (CopyAsk after room) = IfSome after IsKey × (room < 2 ^ 8)
IsBodyValue (CopyGive after done items) = IfSome after IsKey × All IsItemValue items
IsBodyValue (LeaseAsk asked) = asked < 2 ^ 64
IsBodyValue (LeaseGive end) = end < 2 ^ 64
IsBodyValue (Prepare ballot) = IsBallotValue ballot
IsBodyValue (Promise ballot vote) = IsBallotValue ballot × IfSome vote IsVoteValue
IsBodyValue (Accept ballot view) = IsBallotValue ballot × IsViewValue view
IsBodyValue (Accepted ballot) = IsBallotValue ballot
IsBodyValue (Chosen view) = IsViewValue view
IsBodyValue (Activate view) = IsViewValue view

-- what the type of letters keeps
pub record IsLetterValue (letter : Letter) : Type 0 where
  pub epoch : letter.epoch < 2 ^ 64
  pub from : IsActorValue letter.from
  pub to : IsActorValue letter.to
  pub body : IsBodyValue letter.body

-- a letter of one of 8 shards that has a frame: it is in range, and fits
pub record IsSendable (shard : ℕ) (letter : Letter) : Type 0 where
  pub low : shard < 8
  pub value : IsLetterValue letter
  pub range : IsLetter letter
  pub fits : FitsFrame letter
