-- How long the frame of a letter is, its form as bytes, and which letters are in range.
use Rattle.std.specs.Prelude.{ℕ, ◌+◌, ◌*◌, ◌≤◌, List, length, Option, Some, None}
use Rattle.std.specs.List.{sum_by}
use Rattle.hk_base.specs.declared.call.Content.{Content}
use Rattle.hk_base.specs.declared.view.View.{View}
use Rattle.hk_base.specs.declared.view.Voted.{Voted}
use Rattle.hk_base.specs.declared.letter.CopyItem.{CopyItem}
use Rattle.hk_base.specs.declared.letter.Letter.{Letter}
use Rattle.hk_base.specs.declared.letter.Body.{Body}
use Rattle.hk_base.specs.declared.letter.Body.TheVariants.{Inv, Ack, Val, CopyAsk, CopyGive, LeaseAsk, LeaseGive, Prepare, Promise, Accept, Accepted, Chosen, Activate}
use Rattle.hk_base.specs.Range.{IsLetter}
use Rattle.hk_base.specs.declared.length.TheConstants.{MAX_FRAME_LEN}

abbrev pub key_length : List ℕ → ℕ
key_length key = 1 + length key

abbrev pub after_length : Option (List ℕ) → ℕ
after_length None = 1
after_length (Some key) = key_length key

-- a stamp takes 10 bytes, and a ballot 5

abbrev pub content_length : Option Content → ℕ
content_length None = 0
content_length (Some content) = 8 + length content.bytes

abbrev pub item_length : CopyItem → ℕ
item_length item = key_length item.key + 12 + content_length item.content

abbrev pub view_length : View → ℕ
view_length view = 13 + 2 * length view.members

abbrev pub vote_length : Option Voted → ℕ
vote_length None = 1
vote_length (Some vote) = 6 + view_length vote.view

unfoldable pub body_length : Body → ℕ
body_length (Inv key s kind content) = key_length key + 11 + content_length content
body_length (Ack key s top) = key_length key + 20
body_length (Val key s) = key_length key + 10
body_length (CopyAsk after room) = after_length after + 1
body_length (CopyGive after done items) = after_length after + 2 + sum_by item_length items
body_length (LeaseAsk asked) = 8
body_length (LeaseGive end) = 8
body_length (Prepare ballot) = 5
body_length (Promise ballot vote) = 5 + vote_length vote
body_length (Accept ballot view) = 5 + view_length view
body_length (Accepted ballot) = 5
body_length (Chosen view) = view_length view
body_length (Activate view) = view_length view

-- the bytes of a letter's frame: 20 before the body, and the body
abbrev pub frame_length : Letter → ℕ
frame_length letter = 20 + body_length letter.body

-- no frame is longer than 2,200,004 bytes
abbrev pub FitsFrame : Letter → Type 0
FitsFrame letter = frame_length letter ≤ MAX_FRAME_LEN

-- a letter in range, as it may be sent: each of its parts is in range, and it fits a frame
pub record IsInRange (letter : Letter) : Type 0 where
  pub parts : IsLetter letter
  pub fits : FitsFrame letter
