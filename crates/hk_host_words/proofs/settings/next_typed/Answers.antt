use Rattle.std.proofs.Common.{rules, ◌≡◌, ◌∷◌, List, ℕ, option_copied, sym, ap, ◌∙◌}
use Rattle.hk_host_words.specs.Reading.{texts}
use Rattle.hk_host_words.proofs.Taking.{no_name}
use Rattle.hk_host_words.proofs.settings.next_typed.Goals as goal

pub returns-in_default-read_option_name : goal.returns-in_default-read_option_name
returns-in_default-read_option_name c =
    let all : c.args.words.now ≡ c.in-Some.word.now ∷ c.in-Some.rest.now = search rules in
    let here : texts c.args.words.now ≡ c.as_str-word.result.now ∷ texts c.in-Some.rest.now =
    ap texts all ∙ ap (λ (w : List ℕ). w ∷ texts c.in-Some.rest.now) (sym c.as_str-word.ensures.value) in
    no_name c.in-Some-undashed.text.now c.parts.result.0.now (option_copied c.parts.result.1) c.as_str-word.result.now (texts c.args.words.now) (texts c.in-Some.rest.now)
    here c.in-Some-undashed.ensures c.parts.ensures c.in_default-read_option_name.ensures
