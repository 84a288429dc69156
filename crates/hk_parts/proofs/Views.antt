-- In every run the first view stays, and what was agreed stays so.
use Rattle.std.proofs.Common.{◌≡◌, ◌⊎◌, ℕ, List, [], ◌∷◌, ◌++◌, ◌∙◌, sym, refl, ap, subst, inl, inr, ⊎_elim, Ok}
use Rattle.hk_base.specs.declared.view.View.{View}
use Rattle.hk_register.specs.Machine.{In}
use Rattle.hk_register.proofs.Grow.{in_left}
use Rattle.hk_event.specs.declared.event.Event.{Event}
use Rattle.hk_event.specs.declared.event.Header.{Header}
use Rattle.hk_world.specs.Start.{founding_view}
use Rattle.hk_world.specs.World.{WorldState}
use Rattle.hk_world.specs.Steps.{acting_of, Accepted, world_step}
use Rattle.hk_world.specs.Sound.{IsEvent}
use Rattle.hk_effects.specs.Projection.{Trace, traced}
use Rattle.hk_effects.specs.Runs.{start_trace, Follows}
use Rattle.hk_parts.proofs.Moments.{world_is, always}
use Rattle.hk_parts.proofs.Cases.{Stepping, OneMore, Beside, event_case}

-- an event leaves the views, or agrees on one more
views_after : (w : WorldState) (event : Event) (a : Accepted) → world_step w event ≡ Ok a → (a.world.views ≡ w.views) ⊎ OneMore w a
views_after w event a e = by_case (event_case w event a e)
  where
    by_case : Stepping w event a ⊎ Beside w a → (a.world.views ≡ w.views) ⊎ OneMore w a
    by_case (inl c) = inl (ap (λ (b : Accepted). b.world.views) c.is)
    by_case (inr b) = b.views

view_stays : (w : WorldState) (event : Event) (a : Accepted) → world_step w event ≡ Ok a → (v : View) → In w.views v → In a.world.views v
view_stays w event a e v h = ⊎_elim
    (λ (same : a.world.views ≡ w.views). rw same h)
    (λ (n : OneMore w a). rw n.views (in_left w.views (n.view ∷ []) v h)) (views_after w event a e)

module _ (key : List ℕ) where
  pub views_stay : (xs : List Event) (s t : Trace) → Follows key s xs t → (v : View) → In s.world.views v → In t.world.views v
  views_stay [] s t same v h = subst (λ (z : Trace). In z.world.views v) same h
  views_stay (x ∷ xs) s t f v h = views_stay xs (traced key s x f.0) t f.3 v (subst (λ (w : WorldState). In w.views v) (sym (world_is key s x f.0 (acting_of f.0))) (view_stays s.world x f.0 f.1 v h))

-- the first view stays the founders'
pub record FirstStays (h : Header) (views : List View) : Type 0 where
  pub rest : List View
  pub first : views ≡ founding_view h ∷ rest

module _ (h : Header) (key : List ℕ) where
  abbrev First : List Event → Trace → Type 0
  First past t = FirstStays h t.world.views

  goes_on : (past : List Event) (t : Trace) (event : Event) (a : Accepted) → Follows key (start_trace h) past t → world_step t.world event ≡ Ok a → IsEvent event → First past t → First (past ++ event ∷ []) (traced key t event a)
  goes_on past t event a f e event_ok stays = subst (λ (w : WorldState). FirstStays h w.views) (sym (world_is key t event a (acting_of a))) (⊎_elim
      (λ (same : a.world.views ≡ t.world.views). subst (FirstStays h) (sym same) stays)
      (λ (n : OneMore t.world a). record { rest = stays.rest ++ n.view ∷ []; first = n.views ∙ ap (λ (vs : List View). vs ++ n.view ∷ []) stays.first }) (views_after t.world event a e))

  pub first_stays : (events : List Event) (last : Trace) → Follows key (start_trace h) events last → FirstStays h last.world.views
  first_stays events last f = always key h First goes_on (record { rest = []; first = refl }) events last f
