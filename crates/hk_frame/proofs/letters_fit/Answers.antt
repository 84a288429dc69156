use Rattle.hk_frame.proofs.Sizes.{letter_fits}
use Rattle.hk_frame.proofs.letters_fit.Goals as goal

pub returns : goal.returns
returns c = letter_fits
