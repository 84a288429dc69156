-- The managers of a program with one number, and the links by which they are reached and reach others.
use Rattle.std.specs.Prelude.{ℕ, List, replicate}
use Rattle.hk_base.specs.declared.letter.Actor.{Actor}
use Rattle.hk_base.specs.declared.view.View.{View}
use Rattle.hk_link.specs.Ends.{End}
use Rattle.hk_manager.specs.Manager.{ManagerState}
use Rattle.hk_manager.specs.Sound.{manager_new}

pub record Overseer : Type 0 where
  -- by their shard numbers, 0 to 7
  pub managers : List ManagerState
  pub inlet : End
  pub outlets : List (Actor × End)

-- each begins with the same view
abbrev pub founding : ℕ → ℕ → View → ℕ → List ManagerState
founding id managers view lease = replicate 8 (manager_new id managers view lease)
