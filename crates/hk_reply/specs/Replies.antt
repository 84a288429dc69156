-- What a reply's text tells, and what reading gives.
use Rattle.std.specs.Prelude.{◌≡◌, ◌≢◌, ℕ, ◌+◌, ◌-◌, ◌^◌, ◌<◌, ◌≤◌, List, [], ◌∷◌, ◌++◌, length, take, map, Bool, true, false, Result, Ok, Err}
use Rattle.std.specs.List.{AllByRecursion}
use Rattle.hk_base.specs.Key.{IsKey}
use Rattle.hk_base.specs.declared.data.TheConstants.{MAX_DATA_LEN}
use Rattle.hk_reply.specs.declared.reply.Item.{Item}
use Rattle.hk_reply.specs.declared.reply.Reply.{Reply}
use Rattle.hk_reply.specs.declared.reply.Reply.TheVariants.{Values, Number}
use Rattle.hk_reply.specs.declared.read.ReplyFault.{ReplyFault}
use Rattle.hk_reply.specs.declared.read.ReplyFault.TheVariants.{Memory, Need, Bad}
use Rattle.hk_reply.specs.Texts.{text_of}
use Rattle.hk_reply.specs.Stops.{Begins}

-- a value of which the text tells all: the numbers are in range, and the tag is 0 where tags are not written
pub record IsPlainItem (tags : Bool) (item : Item) : Type 0 where
  pub key : IsKey item.key
  pub flags : item.flags ≤ 4294967295
  pub bytes : length item.bytes ≤ MAX_DATA_LEN
  pub tag : item.tag ≤ 2 ^ 64 - 1
  pub untold : tags ≡ false → item.tag ≡ 0

-- a reply of which the text tells all: without values nothing tells that tags were wanted
abbrev pub IsPlain : Reply → Type 0
IsPlain (Values [] tags) = tags ≡ false
IsPlain (Values (item ∷ items) tags) = AllByRecursion (IsPlainItem tags) (item ∷ items)
IsPlain (Number n) = n ≤ 2 ^ 64 - 1
IsPlain reply = Unit {0}

abbrev pub IsText : Reply → List ℕ → Type 0
IsText reply text = IsPlain reply × (text ≡ text_of reply)

-- what the text of a reply tells of it
abbrev pub untagged : Item → Item
untagged item = record item { tag = 0 }

abbrev pub told : Reply → Reply
told (Values [] tags) = Values [] false
told (Values (item ∷ items) true) = Values (item ∷ items) true
told (Values (item ∷ items) false) = Values (map untagged (item ∷ items)) false
told reply = reply

-- What reading gives: the reply whose text begins the bytes, and its length; Need where the bytes are a proper front
-- of a reply's text; and Bad at the first byte with which no reply's text goes on.
abbrev pub IsFault : ReplyFault → List ℕ → Type 0
IsFault Memory bytes = Unit {0}
IsFault Need bytes = (reply : Reply) × (more : List ℕ) × (more ≢ []) × IsText reply (bytes ++ more)
IsFault (Bad at) bytes = (at < length bytes) × Begins IsText (take at bytes) × (Begins IsText (take (at + 1) bytes) → ⊥)

abbrev pub IsRead : Result (Reply × ℕ) ReplyFault → List ℕ → Type 0
IsRead (Ok x) bytes = (x.1 ≤ length bytes) × IsText x.0 (take x.1 bytes)
IsRead (Err fault) bytes = IsFault fault bytes

-- a reply whose text begins the bytes was read, unless an allocation was refused
abbrev pub IsReadAs : Result (Reply × ℕ) ReplyFault → Reply → Type 0
IsReadAs (Ok x) reply = x ≡ (reply, length (text_of reply))
IsReadAs (Err fault) reply = fault ≡ Memory
