-- What frames promise together.
use Rattle.std.specs.Prelude.{◌≡◌, ℕ, ◌+◌, ◌≤◌, List, [], ◌++◌, length, Option, Some, None}
use Rattle.std.specs.List.{sum_by}
use Rattle.hk_base.specs.declared.letter.CopyItem.{CopyItem}
use Rattle.hk_base.specs.declared.letter.Letter.{Letter}
use Rattle.hk_base.specs.declared.letter.Body.{Body}
use Rattle.hk_base.specs.declared.letter.Body.TheVariants.{CopyGive}
use Rattle.hk_base.specs.declared.call.Content.{Content}
use Rattle.hk_base.specs.Range.{IsLetter}
use Rattle.hk_frame.specs.Frames.{frame}
use Rattle.hk_base.specs.Lengths.{frame_length, FitsFrame}
use Rattle.hk_frame.specs.Sendable.{IsLetterValue, IsSendable}

-- where one frame begins another, they are one frame, of one letter of one shard
abbrev pub NoneBegins : Type 0
NoneBegins = (shard : ℕ) (letter : Letter) (other_shard : ℕ) (other : Letter) (more : List ℕ) → IsSendable shard letter → IsSendable other_shard other → frame shard letter ++ more ≡ frame other_shard other
    → (shard ≡ other_shard) × (letter ≡ other) × (more ≡ [])

-- two letters with one frame are one letter, of one shard
abbrev pub OneLetter : Type 0
OneLetter = (shard : ℕ) (letter : Letter) (other_shard : ℕ) (other : Letter) → IsSendable shard letter → IsSendable other_shard other → frame shard letter ≡ frame other_shard other → (shard ≡ other_shard) × (letter ≡ other)

-- a frame is as long as `frame_length` says
abbrev pub LengthsHold : Type 0
LengthsHold = (shard : ℕ) (letter : Letter) → length (frame shard letter) ≡ frame_length letter

-- the bytes of an item's key and data
abbrev pub data_size : Option Content → ℕ
data_size None = 0
data_size (Some content) = length content.bytes

abbrev pub item_size : CopyItem → ℕ
item_size item = length item.key + data_size item.content

-- the keys and data of a batch are at most 2,097,152 bytes together; other bodies have no such limit
abbrev pub KeepsBatchLimit : Body → Type 0
KeepsBatchLimit (CopyGive after done items) = sum_by item_size items ≤ 2097152
KeepsBatchLimit body = Unit {0}

-- Each letter in range fits a frame, where a batch keeps its limit. So every body but a batch always fits.
abbrev pub AllFit : Type 0
AllFit = (letter : Letter) → IsLetterValue letter → IsLetter letter → KeepsBatchLimit letter.body → FitsFrame letter
