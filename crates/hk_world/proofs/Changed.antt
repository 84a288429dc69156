-- The view that is agreed next.
use Rattle.std.proofs.Common.{◌≡◌, ◌++◌, Bool, true, false, cond, List, [], ◌∷◌, length, nat_le, nat_eq, Some, Result, Ok, Err, refl, sym, ap, ◌∙◌}
use Rattle.hk_base.specs.declared.view.View.{View}
use Rattle.hk_base.specs.declared.view.Change.{Change}
use Rattle.hk_base.specs.declared.view.Change.TheVariants.{Drop, Add}
use Rattle.hk_base.specs.View.{is_member}
use Rattle.hk_event.specs.declared.event.Event.TheVariants.{Agree}
use Rattle.hk_world.specs.declared.shown.Shown.{Shown}
use Rattle.hk_event.specs.declared.refused.Refused.{Refused}
use Rattle.hk_event.specs.declared.refused.Refused.TheVariants.{LastMember, Full, NoNumbers, NoSuchMember}
use Rattle.hk_world.specs.World.{WorldState, last_view}
use Rattle.hk_world.specs.Steps.{Accepted, world_step, nothing, agrees, agreed_on}
use Rattle.hk_world.specs.Allowed.{is_managed}
use Rattle.hk_world.specs.Views.{next_of, dropped, added}
use Rattle.hk_world.proofs.Allowed.{unmanaged_is}

abbrev agrees_by : WorldState → Result View Refused → Result Accepted Refused
agrees_by w (Ok v) = agreed_on w v
agrees_by w (Err refused) = Err refused

pub agrees_is : (w : WorldState) (change : Change) → agrees w (last_view w.views) change ≡ agrees_by w (next_of (last_view w.views) change)
agrees_is w (Drop id) = at (is_member id (last_view w.views).members) (nat_eq (length (last_view w.views).members) 1)
  where
    at : (b d : Bool) → cond b (cond d (Err LastMember) (agreed_on w (dropped (last_view w.views) id))) (Err NoSuchMember)
        ≡ agrees_by w (cond b (cond d (Err LastMember) (Ok (dropped (last_view w.views) id))) (Err NoSuchMember))
    at true true = refl
    at true false = refl
    at false d = refl
agrees_is w Add = at (nat_le 16 (length (last_view w.views).members)) (nat_le 65536 (last_view w.views).next)
  where
    at : (b d : Bool) → cond b (Err Full) (cond d (Err NoNumbers) (agreed_on w (added (last_view w.views))))
        ≡ agrees_by w (cond b (Err Full) (cond d (Err NoNumbers) (Ok (added (last_view w.views)))))
    at true d = refl
    at false true = refl
    at false false = refl

pub agree_refused : (w : WorldState) (change : Change) (refused : Refused) → is_managed w.managers ≡ false → next_of (last_view w.views) change ≡ Err refused → world_step w (Agree change) ≡ Err refused
agree_refused w change refused none e = unmanaged_is w.managers _ none ∙ agrees_is w change ∙ ap (agrees_by w) e

abbrev pub told_views : WorldState → Shown → List View → Result Accepted Refused
told_views w shown views = Ok (record { world = record w { views = views }; told = []; shown = shown })

pub agree_made : (w : WorldState) (change : Change) (v : View) (views : List View) (shown : Shown) → next_of (last_view w.views) change ≡ Ok v → views ≡ w.views ++ v ∷ [] → shown ≡ record nothing { view = Some v } →
    agrees w (last_view w.views) change ≡ told_views w shown views
agree_made w change v views shown e pushed shows =
    agrees_is w change ∙ ap (agrees_by w) e ∙ ap (told_views w (record nothing { view = Some v })) (sym pushed) ∙ ap (λ (s : Shown). told_views w s views) (sym shows)

pub agree_is : (w : WorldState) (change : Change) (v : View) (views : List View) (shown : Shown) → is_managed w.managers ≡ false → next_of (last_view w.views) change ≡ Ok v → views ≡ w.views ++ v ∷ [] → shown ≡ record nothing { view = Some v } →
    world_step w (Agree change) ≡ told_views w shown views
agree_is w change v views shown none e pushed shows = unmanaged_is w.managers _ none ∙ agree_made w change v views shown e pushed shows
