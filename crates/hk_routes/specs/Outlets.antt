-- What becomes of outlets that are split or taken away, each with the actor to whom it leads.
use Rattle.std.specs.Prelude.{not, List}
use Rattle.std.specs.List.{filter}
use Rattle.hk_base.specs.declared.letter.Actor.{Actor}
use Rattle.hk_link.specs.Ends.{End, left_half, right_half, with_known, spent}
use Rattle.hk_overseer.specs.Sends.{is_same}

-- of an outlet that is split, the one that stays
abbrev pub old_half : Actor × End → Actor × End
old_half outlet = (outlet.0, with_known outlet.1 (left_half outlet.1.known))

-- and the new one
abbrev pub new_half : Actor × End → Actor × End
new_half outlet = (outlet.0, with_known outlet.1 (right_half outlet.1.known))

-- to whom an outlet leads, and by which link, whatever it knows of that
abbrev pub way_of : Actor × End → Actor × End
way_of outlet = (outlet.0, with_known outlet.1 spent)

-- those that lead to others than this actor
abbrev pub others : Actor → List (Actor × End) → List (Actor × End)
others to outlets = filter (λ outlet. not (is_same outlet.0 to)) outlets
