-- That the texts of replies stand apart, and what they tell.
use Rattle.std.specs.Prelude.{◌≡◌, ◌≤◌, ◌-◌, ◌^◌, ℕ, List, [], ◌++◌, true}
use Rattle.std.specs.List.{AllByRecursion}
use Rattle.hk_reply.specs.declared.reply.Reply.{Reply}
use Rattle.hk_reply.specs.declared.reply.Reply.TheVariants.{Values, Number}
use Rattle.hk_reply.specs.Texts.{text_of}
use Rattle.hk_reply.specs.Replies.{IsPlainItem, IsPlain, told}

-- a reply whose keys, data and numbers are in range, as those of every value of its type are
abbrev pub IsInRange : Reply → Type 0
IsInRange (Values items tags) = AllByRecursion (IsPlainItem true) items
IsInRange (Number n) = n ≤ 2 ^ 64 - 1
IsInRange reply = Unit {0}

-- where one text begins another, they are one text, of one reply
abbrev pub NoneBegins : Type 0
NoneBegins = (one other : Reply) (more : List ℕ) → IsPlain one → IsPlain other → text_of one ++ more ≡ text_of other → (one ≡ other) × (more ≡ [])

-- a reply has the text of what its text tells
abbrev pub TextsTell : Type 0
TextsTell = (reply : Reply) → IsInRange reply → IsPlain (told reply) × (text_of (told reply) ≡ text_of reply)
