use Rattle.std.proofs.Common.{rules, ◌≡◌, List, ◌∷◌, ℕ, Err, subst, sym, ap, ◌∙◌}
use Rattle.hk_host_words.specs.declared.settings.Typed.{Typed}
use Rattle.hk_host_words.specs.Options.{AreSettings}
use Rattle.hk_host_words.specs.Words.{IsHostCommand}
use Rattle.hk_host_words.specs.Reading.{texts, settings_of}
use Rattle.hk_host_words.proofs.Carried.{failed}
use Rattle.hk_host_words.proofs.Checking.{Fit}
use Rattle.hk_host_words.proofs.Commanding.{fit_part, whole}
use Rattle.hk_host_words.proofs.command.read_host_command.Goals as goal

pub returns-in_err-check : goal.returns-in_err-check
returns-in_err-check c =
    let e : c.from_residual-in_err-check.result ≡ Err c.in_err-check.field-0.0 = search rules in
    let all : c.args.words.now ≡ c.in-Some.first.now ∷ c.in-Some.options.now = search rules in
    let split : texts c.args.words.now ≡ c.as_str.result.now ∷ texts c.in-Some.options.now =
    ap texts all ∙ ap (λ (w : List ℕ). w ∷ texts c.in-Some.options.now) (sym c.as_str.ensures.value) in
    let are = subst (λ (l : List Typed). AreSettings (settings_of l) (texts c.in-Some.options.now)) (sym c.as_slice-given.ensures.value) c.in_ok-typed.ensures in
    failed (λ x. x) (λ _. Fit c.in-Some-read_command_name.name (settings_of c.as_slice-given.result.now)) (λ x. x) (λ said. IsHostCommand said (texts c.args.words.now))
    c.from_residual-in_err-check.result c.in_err-check.field-0.0 e c.in_err-check.ensures
    (fit_part (texts c.args.words.now) (texts c.in-Some.options.now) c.as_str.result.now c.in-Some-read_command_name.name (settings_of c.as_slice-given.result.now) split
    c.in-Some-read_command_name.ensures are)

pub returns : goal.returns
returns c =
    let all : c.args.words.now ≡ c.in-Some.first.now ∷ c.in-Some.options.now = search rules in
    let split : texts c.args.words.now ≡ c.as_str.result.now ∷ texts c.in-Some.options.now =
    ap texts all ∙ ap (λ (w : List ℕ). w ∷ texts c.in-Some.options.now) (sym c.as_str.ensures.value) in
    let are = subst (λ (l : List Typed). AreSettings (settings_of l) (texts c.in-Some.options.now)) (sym c.as_slice-given.ensures.value) c.in_ok-typed.ensures in
    whole (texts c.args.words.now) (texts c.in-Some.options.now) c.as_str.result.now c.in-Some-read_command_name.name (settings_of c.as_slice-given.result.now) split
    c.in-Some-read_command_name.ensures are c.in_ok-check.ensures c.read_said.result c.read_said.ensures
