-- The frame of a letter: a length of what follows, in 4 bytes, and behind it the fields, from left to right. Numbers
-- are big-endian.
use Rattle.std.specs.Prelude.{ℕ, List, [], ◌∷◌, ◌++◌, length, Bool, true, false, Option, Some, None}
use Rattle.std.specs.Int.{w16, w32, w64, to_be_bytes}
use Rattle.std.specs.List.{flat_map}
use Rattle.hk_base.specs.declared.stamp.NodeId.{NodeId}
use Rattle.hk_base.specs.declared.stamp.Stamp.{Stamp}
use Rattle.hk_base.specs.declared.stamp.Kind.{Kind}
use Rattle.hk_base.specs.declared.stamp.Kind.TheVariants.{Write, Rmw}
use Rattle.hk_base.specs.declared.call.Content.{Content}
use Rattle.hk_base.specs.declared.view.Ballot.{Ballot}
use Rattle.hk_base.specs.declared.view.View.{View}
use Rattle.hk_base.specs.declared.view.Voted.{Voted}
use Rattle.hk_base.specs.declared.letter.Actor.{Actor}
use Rattle.hk_base.specs.declared.letter.Actor.TheVariants.{Node, Manager}
use Rattle.hk_base.specs.declared.letter.CopyItem.{CopyItem}
use Rattle.hk_base.specs.declared.letter.Letter.{Letter}
use Rattle.hk_base.specs.declared.letter.Body.{Body}
use Rattle.hk_base.specs.declared.letter.Body.TheVariants.{Inv, Ack, Val, CopyAsk, CopyGive, LeaseAsk, LeaseGive, Prepare, Promise, Accept, Accepted, Chosen, Activate}
use Rattle.hk_frame.specs.declared.kind.LetterKind.{LetterKind}
use Rattle.hk_frame.specs.declared.kind.LetterKind.TheVariants as kinds

-- the length of a key, in 1 byte, and its bytes
abbrev pub key_bytes : List ℕ → List ℕ
key_bytes key = length key ∷ key

-- a key; or the length 0, which is the start of all keys
abbrev pub after_bytes : Option (List ℕ) → List ℕ
after_bytes None = 0 ∷ []
after_bytes (Some key) = key_bytes key

-- the version in 8 bytes, and the node in 2
abbrev pub stamp_bytes : Stamp → List ℕ
stamp_bytes s = to_be_bytes w64 s.version ++ to_be_bytes w16 s.node

-- the kind of an update and whether it leaves a content: 0 is a write, 1 a read-modify-write, and 2 a read-modify-write
-- that leaves nothing
abbrev pub update_byte : Kind → Option Content → ℕ
update_byte Write content = 0
update_byte Rmw (Some content) = 1
update_byte Rmw None = 2

-- the length of data, in 4 bytes, and the data
abbrev pub data_bytes : List ℕ → List ℕ
data_bytes bytes = to_be_bytes w32 (length bytes) ++ bytes

-- the flags in 4 bytes, and the data
abbrev pub some_content_bytes : Content → List ℕ
some_content_bytes content = to_be_bytes w32 content.flags ++ data_bytes content.bytes

-- a content; nothing where there is none
abbrev pub content_bytes : Option Content → List ℕ
content_bytes None = []
content_bytes (Some content) = some_content_bytes content

abbrev pub flag_byte : Bool → ℕ
flag_byte false = 0
flag_byte true = 1

abbrev pub item_bytes : CopyItem → List ℕ
item_bytes item = key_bytes item.key ++ (stamp_bytes item.stamp ++ (update_byte item.kind item.content ∷ flag_byte item.valid ∷ content_bytes item.content))

-- how many items there are, in 1 byte, and the items
abbrev pub items_bytes : List CopyItem → List ℕ
items_bytes items = length items ∷ flat_map item_bytes items

-- a class, 0 for a node and 1 for a manager, and the number in 2 bytes
abbrev pub actor_bytes : Actor → List ℕ
actor_bytes (Node node) = 0 ∷ to_be_bytes w16 node.0
actor_bytes (Manager manager) = 1 ∷ to_be_bytes w16 manager

-- the round in 4 bytes, and the manager in 1
abbrev pub ballot_bytes : Ballot → List ℕ
ballot_bytes ballot = to_be_bytes w32 ballot.round ++ (ballot.manager ∷ [])

abbrev pub member_bytes : NodeId → List ℕ
member_bytes member = to_be_bytes w16 member.0

-- how many members there are, in 1 byte, and each in 2
abbrev pub members_bytes : List NodeId → List ℕ
members_bytes members = length members ∷ flat_map member_bytes members

-- the epoch in 8 bytes, the next number in 4, and the members
abbrev pub view_bytes : View → List ℕ
view_bytes view = to_be_bytes w64 view.epoch ++ (to_be_bytes w32 view.next ++ members_bytes view.members)

-- 0; or 1, the ballot and the view
abbrev pub vote_bytes : Option Voted → List ℕ
vote_bytes None = 0 ∷ []
vote_bytes (Some vote) = 1 ∷ (ballot_bytes vote.ballot ++ view_bytes vote.view)

abbrev pub letter_kind : Body → LetterKind
letter_kind (Inv key s kind content) = kinds.Inv
letter_kind (Ack key s top) = kinds.Ack
letter_kind (Val key s) = kinds.Val
letter_kind (CopyAsk after room) = kinds.CopyAsk
letter_kind (CopyGive after done items) = kinds.CopyGive
letter_kind (LeaseAsk asked) = kinds.LeaseAsk
letter_kind (LeaseGive end) = kinds.LeaseGive
letter_kind (Prepare ballot) = kinds.Prepare
letter_kind (Promise ballot vote) = kinds.Promise
letter_kind (Accept ballot view) = kinds.Accept
letter_kind (Accepted ballot) = kinds.Accepted
letter_kind (Chosen view) = kinds.Chosen
letter_kind (Activate view) = kinds.Activate

-- the byte of a kind
abbrev pub kind_byte : LetterKind → ℕ
kind_byte kinds.Inv = 1
kind_byte kinds.Ack = 2
kind_byte kinds.Val = 3
kind_byte kinds.CopyAsk = 4
kind_byte kinds.CopyGive = 5
kind_byte kinds.LeaseAsk = 6
kind_byte kinds.LeaseGive = 7
kind_byte kinds.Prepare = 8
kind_byte kinds.Promise = 9
kind_byte kinds.Accept = 10
kind_byte kinds.Accepted = 11
kind_byte kinds.Chosen = 12
kind_byte kinds.Activate = 13

-- what the letter says, by its kind
unfoldable pub body_bytes : Body → List ℕ
body_bytes (Inv key s kind content) = key_bytes key ++ (stamp_bytes s ++ (update_byte kind content ∷ content_bytes content))
body_bytes (Ack key s top) = key_bytes key ++ (stamp_bytes s ++ stamp_bytes top)
body_bytes (Val key s) = key_bytes key ++ stamp_bytes s
body_bytes (CopyAsk after room) = after_bytes after ++ (room ∷ [])
body_bytes (CopyGive after done items) = after_bytes after ++ (flag_byte done ∷ items_bytes items)
body_bytes (LeaseAsk asked) = to_be_bytes w64 asked
body_bytes (LeaseGive end) = to_be_bytes w64 end
body_bytes (Prepare ballot) = ballot_bytes ballot
body_bytes (Promise ballot vote) = ballot_bytes ballot ++ vote_bytes vote
body_bytes (Accept ballot view) = ballot_bytes ballot ++ view_bytes view
body_bytes (Accepted ballot) = ballot_bytes ballot
body_bytes (Chosen view) = view_bytes view
body_bytes (Activate view) = view_bytes view

-- what stands behind the length: the kind and the shard in 1 byte each, the epoch in 8, the two actors and the body
abbrev pub field_bytes : ℕ → Letter → List ℕ
field_bytes shard letter =
    kind_byte (letter_kind letter.body) ∷ shard ∷ (to_be_bytes w64 letter.epoch ++ (actor_bytes letter.from ++ (actor_bytes letter.to ++ body_bytes letter.body)))

abbrev pub frame : ℕ → Letter → List ℕ
frame shard letter = to_be_bytes w32 (length (field_bytes shard letter)) ++ field_bytes shard letter
