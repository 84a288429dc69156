-- A command by its name and its options.
use Rattle.std.proofs.Common.{◌≡◌, ◌≢◌, ℕ, true, List, ◌∷◌, Option, Some, None, MatchOption, Result, sym, ap, subst, ◌∙◌}
use Rattle.hk_host_words.specs.declared.fault.WordsFault.{WordsFault}
use Rattle.hk_host_words.specs.declared.names.CommandName.{CommandName}
use Rattle.hk_host_words.specs.declared.words.HostCommand.{HostCommand}
use Rattle.hk_host_words.specs.Options.{Setting, command_text, AreSettings, are_once, are_taken}
use Rattle.hk_host_words.specs.Words.{Names, IsSaid, name_of, IsHostCommand}
use Rattle.hk_host_words.specs.Reading.{IsReading, IsSaidBy}
use Rattle.hk_host_words.proofs.Carried.{same_reading}
use Rattle.hk_host_words.proofs.Checking.{Fit}
use Rattle.hk_host_words.proofs.Coming.{one_list}
use Rattle.hk_host_words.proofs.Single.{parted}
use Rattle.hk_host_words.proofs.Taking.{one_command}

-- what the first word names
pub named : (words options : List (List ℕ)) (first : List ℕ) → words ≡ first ∷ options → (r : Option CommandName) → MatchOption r ((name : CommandName) → first ≢ command_text name) (λ name. first ≡ command_text name)
    → MatchOption r ((name : CommandName) → Names name words → ⊥) (λ name. Names name words)
named words options first e None none = λ name names. none name (parted first (command_text name) options names.0 (sym e ∙ names.1)).0
named words options first e (Some name) is = (options, e ∙ ap (λ (w : List ℕ). w ∷ options) is)

module _ (words options : List (List ℕ)) (first : List ℕ) (name : CommandName) (settings : List Setting) (split : words ≡ first ∷ options) (named : first ≡ command_text name) (are : AreSettings settings options) where
  words_are : words ≡ command_text name ∷ options
  words_are = split ∙ ap (λ (w : List ℕ). w ∷ options) named

  both : (said : HostCommand) (q : IsHostCommand said words) → (command_text (name_of said) ≡ command_text name) × (q.options ≡ options)
  both said q = parted (command_text (name_of said)) (command_text name) q.options options (sym q.words_are ∙ words_are)

  name_same : (said : HostCommand) → IsHostCommand said words → name_of said ≡ name
  name_same said q = one_command (name_of said) name (both said q).0

  settings_same : (said : HostCommand) (q : IsHostCommand said words) → q.settings ≡ settings
  settings_same said q = one_list q.settings settings options (subst (AreSettings q.settings) (both said q).1 q.options_are) are

  -- its options fit it
  pub fit_part : (said : HostCommand) → IsHostCommand said words → (done : Unit {0}) × Fit name settings
  fit_part said q = (
    tt,
    (
      subst (λ (s : List Setting). are_taken name s ≡ true) (settings_same said q) (subst (λ (n : CommandName). are_taken n q.settings ≡ true) (name_same said q) q.taken),
      subst (λ (s : List Setting). are_once s ≡ true) (settings_same said q) q.once,
    ),
  )

  pub whole : Fit name settings → (r : Result HostCommand WordsFault) → IsReading (IsSaidBy name settings) r → IsReading (λ said. IsHostCommand said words) r
  whole fit r is = same_reading (IsSaidBy name settings) (λ said. IsHostCommand said words) r forth back is
    where
      forth : (said : HostCommand) → IsSaidBy name settings said → IsHostCommand said words
      forth said p = record {
        options = options;
        settings = settings;
        words_are = words_are ∙ ap (λ (n : CommandName). command_text n ∷ options) (sym p.0);
        options_are = are;
        taken = subst (λ (n : CommandName). are_taken n settings ≡ true) (sym p.0) fit.0;
        once = fit.1;
        is_said = p.1;
      }

      back : (said : HostCommand) → IsHostCommand said words → IsSaidBy name settings said
      back said q = (name_same said q, subst (λ (s : List Setting). IsSaid s said) (settings_same said q) q.is_said)
