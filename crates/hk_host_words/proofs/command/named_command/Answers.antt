use Rattle.std.proofs.Common.{rules, ◌≡◌, List, ◌∷◌, ℕ, sym, ap, ◌∙◌}
use Rattle.hk_host_words.specs.Reading.{texts}
use Rattle.hk_host_words.proofs.Commanding.{named}
use Rattle.hk_host_words.proofs.command.named_command.Goals as goal

pub returns : goal.returns
returns c =
    let rest = c.in-Some.field-0-1 in
    let all : c.args.words.now ≡ c.in-Some.first.now ∷ rest.now = search rules in
    let split : texts c.args.words.now ≡ c.as_str.result.now ∷ texts rest.now = ap texts all ∙ ap (λ (w : List ℕ). w ∷ texts rest.now) (sym c.as_str.ensures.value) in
    named (texts c.args.words.now) (texts rest.now) c.as_str.result.now split c.read_command_name.result c.read_command_name.ensures
