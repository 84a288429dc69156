-- How the history of a key is written from the marks of its events.
use Rattle.std.specs.Prelude.{ℕ, List, [], ◌∷◌, ◌++◌, codes, decimal}
use Rattle.hk_history.specs.declared.event.Entry.{Entry}
use Rattle.hk_safety.specs.declared.marked.Mark.{Mark}
use Rattle.hk_safety.specs.declared.marked.Mark.TheVariants as Mark
use Rattle.hk_script.specs.Words.{word_of}
use Rattle.hk_drill.specs.Keys.{order_text}

-- a mark is written as the event that it stands for
abbrev pub mark_text : Mark → List ℕ
mark_text (Mark.Call c) = codes " c" ++ decimal c.0
mark_text (Mark.Reply c) = codes " r" ++ decimal c.0

abbrev pub marks_text : List Mark → List ℕ
marks_text [] = []
marks_text (m ∷ marks) = mark_text m ++ marks_text marks

unfoldable pub marked_text : List ℕ → List Mark → List Entry → List ℕ
marked_text key marks order = codes "key " ++ word_of key ++ codes "\nhistory" ++ marks_text marks ++ codes "\norder" ++ order_text order ++ codes "\n"
