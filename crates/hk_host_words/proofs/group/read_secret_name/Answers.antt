use Rattle.std.proofs.Common.{option_copied, subst, ◌∙◌}
use Rattle.std.proofs.Common.{List, ℕ}
use Rattle.hk_host_words.specs.Reading.{IsReading}
use Rattle.hk_host_words.specs.Words.{IsPathOf}
use Rattle.hk_host_words.proofs.group.read_secret_name.Goals as goal

pub returns : goal.returns
returns c =
    subst (λ (usual : List ℕ). IsReading (IsPathOf usual (option_copied c.args.text)) c.read_path.result) (c.as_slice.ensures.value ∙ c.in-Ok.ensures) c.read_path.ensures
