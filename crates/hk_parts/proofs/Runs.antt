-- All parts hold in every run.
use Rattle.std.proofs.Common.{ℕ, List, [], ◌∷◌, ◌++◌, sym, append-nil}
use Rattle.hk_event.specs.declared.event.Event.{Event}
use Rattle.hk_effects.specs.Projection.{Trace}
use Rattle.hk_world.specs.Sound.{IsHeader}
use Rattle.hk_effects.specs.Runs.{RunsKeepParts}
use Rattle.hk_parts.specs.Moments.{Run, Ends, with_event}
use Rattle.hk_parts.specs.UpdatePart.{UpdatePart}
use Rattle.hk_parts.specs.RmwPart.{RmwPart}
use Rattle.hk_parts.specs.ViewPart.{ViewPart}
use Rattle.hk_parts.specs.Held.{AllParts, Keeps, RunsHold}
use Rattle.hk_parts.proofs.Updates.{update_part}
use Rattle.hk_parts.proofs.Rmws.{rmw_part}
use Rattle.hk_parts.proofs.Epochs.{view_part}

pub all_parts : RunsKeepParts → (key : List ℕ) (run : Run) → IsHeader run.header → (t : Trace) → Ends key run t → AllParts key run t
all_parts runs key run header t ends = record { updates = update_part runs key run header t ends; rmws = rmw_part runs key run header t ends; views = view_part runs key run header t ends }

pub runs_hold : RunsKeepParts → RunsHold
runs_hold runs run header key t m = all_parts runs key (record { header = run.header; events = m.past }) header t m.follows

-- so each kind of event keeps each part
module _ (hold : RunsHold) (IsKind : Event → Type 0) where
  after : (run : Run) → IsHeader run.header → (event : Event) → (key : List ℕ) (t : Trace) → Ends key (with_event run event) t → AllParts key (with_event run event) t
  after run header event key t ends =
      let events : List Event = run.events ++ event ∷ [] in
      hold (with_event run event) header key t (record { past = events; later = []; split = sym (append-nil events); follows = ends })

  pub updates_kept : Keeps UpdatePart IsKind
  updates_kept run header held event kind key t ends = (after run header event key t ends).updates

  pub rmws_kept : Keeps RmwPart IsKind
  rmws_kept run header held event kind key t ends = (after run header event key t ends).rmws

  pub views_kept : Keeps ViewPart IsKind
  views_kept run header held event kind key t ends = (after run header event key t ends).views
