-- A line that takes a letter.
use Rattle.std.proofs.Common.{◌≡◌, ℕ, List, [], ◌∷◌, true, Some, codes, sym, ap, subst, ◌∙◌}
use Rattle.std.specs.Option.{option_map}
use Rattle.std.specs.Cmp.Lexicographic.{same_text}
use Rattle.hk_event.specs.declared.event.Event.TheVariants.{Take}
use Rattle.hk_script.specs.Parts.{fields, is_text, number_64}
use Rattle.hk_script.specs.Lines.{one, actor_event_of, event_of_words, event_of}
use Rattle.hk_script.proofs.Spaces.{NoSpace, fields_of}
use Rattle.hk_script.proofs.Actors.{number_64_part}

pub taken_line : (line name word : List ℕ) (n : ℕ) → fields line ≡ name ∷ fields word → true ≡ is_text name (codes "take") → number_64 word ≡ Some n → event_of line ≡ Some (Take n)
unfolding event_of_words actor_event_of one
taken_line line name word n cut is e =
    let number = number_64_part.takes word n e in
    let alone : fields word ≡ word ∷ [] = fields_of word [] (subst NoSpace (sym number.1) (number_64_part.spaceless n number.0), tt) in
    let words : fields line ≡ codes "take" ∷ word ∷ [] = cut ∙ ap (λ (ws : List (List ℕ)). name ∷ ws) alone ∙ ap (λ (w : List ℕ). w ∷ word ∷ []) (same_text name (codes "take") is) in
    ap event_of_words words ∙ ap (option_map Take) e
