-- ACKs in every run, and the stamp of no update, which is settled from the start.
use Rattle.std.proofs.Common.{◌≡◌, ℕ, zero, suc, List, [], ◌∷◌, map, ◌≤◌, refl, ap, inl, inr, arith, le_refl, Ok}
use Rattle.hk_base.specs.declared.stamp.NodeId.{NodeId}
use Rattle.hk_base.specs.View.{member_numbers, counted}
use Rattle.hk_register.specs.Machine.{In, Marked}
use Rattle.hk_register.specs.Facts.{Exact}
use Rattle.hk_register.specs.Effects.{row_mark}
use Rattle.hk_register.specs.Runs.{founder}
use Rattle.hk_event.specs.declared.event.Event.{Event}
use Rattle.hk_event.specs.declared.event.Header.{Header}
use Rattle.hk_world.specs.Steps.{Accepted, world_step}
use Rattle.hk_world.specs.Sound.{IsHeader, IsEvent}
use Rattle.hk_effects.specs.Projection.{Trace, project, traced}
use Rattle.hk_effects.specs.Runs.{start_trace, Follows, IsKept, RunsKeepParts}
use Rattle.hk_effects.proofs.Events.{event_is_effects}
use Rattle.hk_effects.proofs.Frames.{itself}
use Rattle.hk_effects.proofs.Obligations.{all_owed}
use Rattle.hk_parts.specs.Facts.{members_at, IsSettled}
use Rattle.hk_parts.proofs.Moments.{always, marks_kept}
use Rattle.hk_parts.proofs.Acks.{AcksTold, effects_acks}
use Rattle.hk_parts.proofs.Origins.{agreed, parts_at}
use Rattle.hk_parts.proofs.Views.{FirstStays, first_stays}

-- each founder's row is marked
founder_marked : (ids : List NodeId) (n : ℕ) → In (member_numbers ids) n → In (map (λ (id : NodeId). row_mark id.0 founder) ids) (row_mark n founder)
founder_marked [] n h = absurd h
founder_marked (id ∷ ids) n (inl e) = inl (ap (λ (i : ℕ). row_mark i founder) e)
founder_marked (id ∷ ids) n (inr h) = inr (founder_marked ids n h)

some_counted : (k : ℕ) → 1 ≤ k → In (member_numbers (counted 0 k)) 0
some_counted zero one = absurd (omega arith)
some_counted (suc k) one = inl refl

module _ (runs : RunsKeepParts) (key : List ℕ) (h : Header) (header : IsHeader h) where
  acks_kept : (past : List Event) (t : Trace) (event : Event) (a : Accepted) → Follows key (start_trace h) past t → world_step t.world event ≡ Ok a → IsEvent event → AcksTold (project key t) → AcksTold (project key (traced key t event a))
  acks_kept past t event a f e event_ok told =
      let ok : IsKept key t = runs h header key past t f in
      effects_acks (members_at t) (project key t) (project key (traced key t event a)) (parts_at key t ok)
      (event_is_effects all_owed (members_at t) key t event a e event_ok ok.own (agreed key t ok) ok.trace (parts_at key t ok)) told

  pub acks_told : (events : List Event) (last : Trace) → Follows key (start_trace h) events last → AcksTold (project key last)
  acks_told events last f = always key h (λ (past : List Event) (t : Trace). AcksTold (project key t)) acks_kept (λ m e s top none. absurd none) events last f

  pub zero_settled : (events : List Event) (last : Trace) → Follows key (start_trace h) events last → IsSettled key last 0
  zero_settled events last f = (
    1,
    record {
      some_epoch = le_refl 1;
      all = λ n inside. exact n (founders n inside);
      one = 0;
      one_member = rw (stays.first) (some_counted h.nodes header.some);
      one_ready = let m = marked 0 (some_counted h.nodes header.some) in record { mark = row_mark 0 founder; marked = m; who = refl; epoch = refl; stamp = refl; exact = refl; ready = refl };
    },
  )
    where
      stays : FirstStays h last.world.views
      stays = first_stays h key events last f

      founders : (n : ℕ) → In (members_at last 1) n → In (member_numbers (counted 0 h.nodes)) n
      founders n inside = rw stays.first at inside

      marked : (n : ℕ) → In (member_numbers (counted 0 h.nodes)) n → Marked (project key last) (row_mark n founder)
      marked n inside = (row_mark n founder, itself (row_mark n founder), marks_kept key events (start_trace h) last f (row_mark n founder) (founder_marked (counted 0 h.nodes) n inside))

      exact : (n : ℕ) → In (member_numbers (counted 0 h.nodes)) n → Exact (project key last) n 1 0
      exact n inside = record { mark = row_mark n founder; marked = marked n inside; who = refl; epoch = refl; stamp = refl; exact = refl }
