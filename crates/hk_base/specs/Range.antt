-- When a letter is in range: each of its parts is within the limit of its kind. What a part's type keeps is not said again.
use Rattle.std.specs.Prelude.{◌≡◌, ℕ, ◌<◌, ◌≤◌, List, length, All, Option, Some, None, IfSome, ⊤}
use Rattle.hk_base.specs.declared.stamp.Stamp.{Stamp}
use Rattle.hk_base.specs.declared.stamp.Kind.{Kind}
use Rattle.hk_base.specs.declared.stamp.Kind.TheVariants.{Rmw}
use Rattle.hk_base.specs.declared.call.Content.{Content}
use Rattle.hk_base.specs.declared.stamp.TheConstants.{MAX_VERSION}
use Rattle.hk_base.specs.declared.time.TheConstants.{MAX_TIME}
use Rattle.hk_base.specs.declared.view.Ballot.{Ballot}
use Rattle.hk_base.specs.declared.view.Voted.{Voted}
use Rattle.hk_base.specs.declared.letter.Actor.{Actor}
use Rattle.hk_base.specs.declared.letter.Actor.TheVariants.{Node, Manager}
use Rattle.hk_base.specs.declared.letter.CopyItem.{CopyItem}
use Rattle.hk_base.specs.declared.letter.Letter.{Letter}
use Rattle.hk_base.specs.declared.letter.Body.{Body}
use Rattle.hk_base.specs.declared.letter.Body.TheVariants.{Inv, Ack, Val, CopyAsk, CopyGive, LeaseAsk, LeaseGive, Prepare, Promise, Accept, Accepted, Chosen, Activate}
use Rattle.hk_base.specs.View.{IsView}

-- a version of at most 2^48 - 1
abbrev pub IsWithin : Stamp → Type 0
IsWithin s = s.version ≤ MAX_VERSION

-- an update leaves a content, or is a read-modify-write that leaves nothing
abbrev pub Leaves : Kind → Option Content → Type 0
Leaves kind (Some content) = ⊤
Leaves kind None = kind ≡ Rmw

-- managers are 0 to 8
abbrev pub IsBallot : Ballot → Type 0
IsBallot ballot = ballot.manager < 9

abbrev pub IsActor : Actor → Type 0
IsActor (Node node) = ⊤
IsActor (Manager manager) = manager < 9

-- a batch has 1 to 64 items of room, and at most 64 items
pub record IsRoom (room : ℕ) : Type 0 where
  pub some : 1 ≤ room
  pub few : room ≤ 64

pub record IsBatch (items : List CopyItem) : Type 0 where
  pub few : length items ≤ 64
  pub within : All (λ item. IsWithin item.stamp) items
  pub leaves : All (λ item. Leaves item.kind item.content) items

pub record IsVote (vote : Voted) : Type 0 where
  pub ballot : IsBallot vote.ballot
  pub view : IsView vote.view

abbrev pub IsBody : Body → Type 0
IsBody (Inv key s kind content) = IsWithin s × Leaves kind content
IsBody (Ack key s top) = IsWithin s × IsWithin top
IsBody (Val key s) = IsWithin s
IsBody (CopyAsk after room) = IsRoom room
IsBody (CopyGive after done items) = IsBatch items
IsBody (LeaseAsk asked) = asked ≤ MAX_TIME
IsBody (LeaseGive end) = end ≤ MAX_TIME
IsBody (Prepare ballot) = IsBallot ballot
IsBody (Promise ballot vote) = IsBallot ballot × IfSome vote IsVote
IsBody (Accept ballot view) = IsBallot ballot × IsView view
IsBody (Accepted ballot) = IsBallot ballot
IsBody (Chosen view) = IsView view
IsBody (Activate view) = IsView view

pub record IsLetter (letter : Letter) : Type 0 where
  pub from : IsActor letter.from
  pub to : IsActor letter.to
  pub body : IsBody letter.body
