-- What is asked of options one by one.
use Rattle.std.proofs.Common.{◌≡◌, Bool, true, false, List, ◌∷◌, Result, sym, ap, ◌∙◌}
use Rattle.std.specs.Prelude.{◌&&◌, if◌then◌else◌}
use Rattle.std.specs.List.{list_any}
use Rattle.hk_host_words.specs.declared.names.CommandName.{CommandName}
use Rattle.hk_host_words.specs.declared.fault.WordsFault.{WordsFault}
use Rattle.hk_host_words.specs.Options.{Setting, takes, is_of, are_once, are_taken}
use Rattle.hk_host_words.specs.Reading.{IsReading}
use Rattle.hk_host_words.proofs.Carried.{same_reading}

abbrev pub Fit : CommandName → List Setting → Type 0
Fit command settings = (are_taken command settings ≡ true) × (are_once settings ≡ true)

pub checked : (command : CommandName) (s : Setting) (rest : List Setting) → takes command s.name ≡ true → list_any (is_of s.name) rest ≡ false
    → (r : Result (Unit {0}) WordsFault) → IsReading (λ _. Fit command rest) r → IsReading (λ _. Fit command (s ∷ rest)) r
checked command s rest t f r is =
    let takes_all : are_taken command (s ∷ rest) ≡ are_taken command rest = ap (λ (b : Bool). b && are_taken command rest) t in
    let all_once : are_once (s ∷ rest) ≡ are_once rest = ap (λ (b : Bool). if b then false else are_once rest) f in
    same_reading (λ _. Fit command rest) (λ _. Fit command (s ∷ rest)) r (λ x p. (takes_all ∙ p.0, all_once ∙ p.1)) (λ x p. (sym takes_all ∙ p.0, sym all_once ∙ p.1)) is
