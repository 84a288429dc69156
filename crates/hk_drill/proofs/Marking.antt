-- What is written by marks is what the history is written as.
use Rattle.std.proofs.Common.{◌≡◌, ℕ, List, [], ◌∷◌, ◌++◌, map, codes, decimal, Result, Ok, Err, refl, ap, ◌∙◌}
use Rattle.std.specs.Result.{OnOk}
use Rattle.hk_history.specs.declared.event.Event.{Event as Item}
use Rattle.hk_history.specs.declared.event.Event.TheVariants as item
use Rattle.hk_history.specs.declared.event.Entry.{Entry}
use Rattle.hk_safety.specs.declared.marked.Mark.{Mark}
use Rattle.hk_safety.specs.Marks.{mark_of}
use Rattle.hk_script.specs.Words.{word_of}
use Rattle.hk_drill.specs.Keys.{history_text, order_text, key_text}
use Rattle.hk_drill.specs.Marks.{marks_text, marked_text}

marks_of : (items : List Item) → marks_text (map mark_of items) ≡ history_text items
marks_of [] = refl
marks_of (item.Call c op ∷ items) = ap (λ (rest : List ℕ). codes " c" ++ decimal c.0 ++ rest) (marks_of items)
marks_of (item.Reply c answer ∷ items) = ap (λ (rest : List ℕ). codes " r" ++ decimal c.0 ++ rest) (marks_of items)

pub marked_key : (key : List ℕ) (items : List Item) (order : List Entry) → marked_text key (map mark_of items) order ≡ key_text key items order
unfolding marked_text key_text
marked_key key items order = ap (λ (told : List ℕ). codes "key " ++ word_of key ++ codes "\nhistory" ++ told ++ codes "\norder" ++ order_text order ++ codes "\n") (marks_of items)

-- a key that is written by its marks
pub told_key_of : {E T : Type 0} (r : Result T E) (key : List ℕ) (marks : List Mark) (items : List Item) (order printed : List Entry) (old new : List ℕ) → marks ≡ map mark_of items → order ≡ printed →
    OnOk r (new ≡ old ++ marked_text key marks order) → OnOk r (new ≡ old ++ key_text key items printed)
told_key_of (Ok x) key marks items order printed old new is same told =
    told ∙ ap (λ (ms : List Mark). old ++ marked_text key ms order) is ∙ ap (λ (o : List Entry). old ++ marked_text key (map mark_of items) o) same ∙ ap (λ (text : List ℕ). old ++ text) (marked_key key items printed)
told_key_of (Err e) key marks items order printed old new is same told = told
