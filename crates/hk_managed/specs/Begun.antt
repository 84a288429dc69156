-- Which views may have begun: the first one, and each that a majority of the managers let begin.
use Rattle.std.specs.Prelude.{◌≡◌, ◌⊎◌, ◌≤◌, ℕ, List, length, Bool, true}
use Rattle.hk_base.specs.declared.view.View.{View}
use Rattle.hk_base.specs.declared.letter.Actor.{Actor}
use Rattle.hk_base.specs.declared.letter.Actor.TheVariants.{Manager}
use Rattle.hk_base.specs.declared.letter.Body.TheVariants.{Activate}
use Rattle.hk_base.specs.declared.letter.Letter.{Letter}
use Rattle.hk_earned.specs.Machine.{In, IsMajority}
use Rattle.hk_world.specs.World.{WorldState}

-- among the letters ever sent is an ACTIVATE of this manager for a view of the epoch
pub record HasSent (letters : List Letter) (m epoch : ℕ) : Type 0 where
  pub view : View
  pub of : view.epoch ≡ epoch
  pub under : ℕ
  pub to : Actor
  pub sent : In letters (record { epoch = under; from = Manager m; to = to; body = Activate view })

-- more than half of the managers sent ACTIVATE for the epoch
pub record IsActivated (managers : ℕ) (letters : List Letter) (epoch : ℕ) : Type 0 where
  pub test : ℕ → Bool
  pub many : IsMajority managers test
  pub each : (m : ℕ) → test m ≡ true → HasSent letters m epoch

-- founders are in the first view from the start
abbrev pub MayHaveBegun : WorldState → ℕ → Type 0
MayHaveBegun w epoch = (epoch ≤ 1) ⊎ IsActivated (length w.managers) w.letters epoch
