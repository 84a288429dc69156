use Rattle.std.proofs.Common.{rules, ◌≡◌, List, ◌∷◌, true, subst, sym}
use Rattle.hk_host_words.specs.Options.{takes}
use Rattle.hk_host_words.specs.declared.settings.Typed.{Typed}
use Rattle.hk_host_words.specs.Reading.{IsReading, setting_of, settings_of}
use Rattle.hk_host_words.proofs.Checking.{Fit, checked}
use Rattle.hk_host_words.proofs.settings.+check.Goals as goal

pub returns : goal.returns
returns t c =
    let all : c.args.typed.now ≡ c.in-Some.first.now ∷ c.in-Some.rest.now = search rules in
    let takes_it : takes c.args.command c.in-Some.first.now.name ≡ true = search rules in
    subst (λ (l : List Typed). IsReading (λ _. Fit c.args.command (settings_of l)) c.check.result) (sym all)
    (checked c.args.command (setting_of c.in-Some.first.now) (settings_of c.in-Some.rest.now) takes_it (search rules) c.check.result c.check.ensures)
