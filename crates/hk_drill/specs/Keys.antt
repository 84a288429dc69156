-- How a transcript writes a key that a call named: its history, and its order.
use Rattle.std.specs.Prelude.{ℕ, List, [], ◌∷◌, ◌++◌, Option, Some, None, codes, decimal}
use Rattle.hk_history.specs.declared.event.Event.{Event as Item}
use Rattle.hk_history.specs.declared.event.Event.TheVariants as item
use Rattle.hk_history.specs.declared.event.Entry.{Entry}
use Rattle.hk_script.specs.Words.{word_of}

abbrev pub item_text : Item → List ℕ
item_text (item.Call c op) = codes " c" ++ decimal c.0
item_text (item.Reply c answer) = codes " r" ++ decimal c.0

abbrev pub history_text : List Item → List ℕ
history_text [] = []
history_text (i ∷ items) = item_text i ++ history_text items

-- a change has its tag
abbrev pub tag_text : Option ℕ → List ℕ
tag_text None = []
tag_text (Some t) = codes "@" ++ decimal t

abbrev pub entry_text : Entry → List ℕ
entry_text e = codes " " ++ decimal e.call.0 ++ tag_text e.tag

abbrev pub order_text : List Entry → List ℕ
order_text [] = []
order_text (e ∷ es) = entry_text e ++ order_text es

unfoldable pub key_text : List ℕ → List Item → List Entry → List ℕ
key_text key history order = codes "key " ++ word_of key ++ codes "\nhistory" ++ history_text history ++ codes "\norder" ++ order_text order ++ codes "\n"
