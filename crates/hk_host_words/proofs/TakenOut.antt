-- Words without the one that tells how much a process tells.
use Rattle.std.proofs.Common.{◌≡◌, ℕ, false, true≢false, List, String}
use Rattle.std.specs.Prelude.{remove}
use Rattle.hk_host_words.specs.declared.verbosity.Verbosity.{Verbosity}
use Rattle.hk_host_words.specs.declared.verbosity.Verbosity.TheVariants.{Quiet, Usual, Verbose}
use Rattle.hk_host_words.specs.Verbosities.{is_usual, Stands, IsTakenOut}

pub taken_out : {A : Type 0} (verbosity : Verbosity) (place : ℕ) (words left : List (String A)) → Stands verbosity place words → is_usual verbosity ≡ false → left ≡ remove words place
    → IsTakenOut verbosity words left
taken_out Quiet place words left stands unusual e = (place, stands, e)
taken_out Usual place words left stands unusual e = absurd (true≢false unusual)
taken_out Verbose place words left stands unusual e = (place, stands, e)
