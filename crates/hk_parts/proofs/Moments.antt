-- Moments of a run: one leads to the next, and what is marked stays so.
use Rattle.std.proofs.Common.{◌≡◌, ℕ, List, [], ◌∷◌, ◌++◌, ◌∙◌, sym, refl, subst, append-nil, Option, Some, None, Ok}
use Rattle.hk_base.specs.declared.stamp.NodeId.{NodeId}
use Rattle.hk_register.specs.Machine.{In, Mark, Marked, Update}
use Rattle.hk_register.proofs.Grow.{in_right}
use Rattle.hk_event.specs.declared.event.Event.{Event}
use Rattle.hk_event.specs.declared.event.Header.{Header}
use Rattle.hk_world.specs.Steps.{acting_of, Accepted, world_step}
use Rattle.hk_world.specs.Sound.{IsEvent}
use Rattle.hk_effects.specs.Projection.{Trace, project, traced, traced_by}
use Rattle.hk_effects.specs.Runs.{start_trace, Follows}
use Rattle.hk_effects.proofs.TwoEffects.{append_three}
use Rattle.hk_effects.proofs.Worlds.{the_accepted}
use Rattle.hk_parts.specs.Moments.{Run, Ends, Moment}

module _ (key : List ℕ) where
  pub follows_then : (xs ys : List Event) (s t u : Trace) → Follows key s xs t → Follows key t ys u → Follows key s (xs ++ ys) u
  follows_then [] ys s t u same f = subst (λ (z : Trace). Follows key z ys u) (sym same) f
  follows_then (x ∷ xs) ys s t u f g = (f.0, f.1, f.2, follows_then xs ys (traced key s x f.0) t u f.3 g)

  pub follows_parts : (xs ys : List Event) (s u : Trace) → Follows key s (xs ++ ys) u → (t : Trace) × Follows key s xs t × Follows key t ys u
  follows_parts [] ys s u f = (s, refl, f)
  follows_parts (x ∷ xs) ys s u f = let r = follows_parts xs ys (traced key s x f.0) u f.3 in (r.0, (f.0, f.1, f.2, r.1), r.2)

  -- an event leads to one world
  pub follows_same : (xs : List Event) (s t u : Trace) → Follows key s xs t → Follows key s xs u → t ≡ u
  follows_same [] s t u f g = sym f ∙ g
  follows_same (x ∷ xs) s t u f g =
      let same : f.0 ≡ g.0 = the_accepted f.0 g.0 (world_step s.world x) f.1 g.1 in
      follows_same xs (traced key s x f.0) t u f.3 (subst (λ (a : Accepted). Follows key (traced key s x a) xs u) (sym same) g.3)

  -- ---- what a trace keeps
  pub mark_kept : (t : Trace) (event : Event) (a : Accepted) (acting : Option NodeId) (k : Mark) → In t.marks k → In (traced_by key t event a acting).marks k
  mark_kept t event a None k h = h
  mark_kept t event a (Some id) k h = in_right _ t.marks k h

  pub begun_kept : (t : Trace) (event : Event) (a : Accepted) (acting : Option NodeId) (u : Update) → In t.begun u → In (traced_by key t event a acting).begun u
  begun_kept t event a None u h = h
  begun_kept t event a (Some id) u h = in_right _ t.begun u h

  pub world_is : (t : Trace) (event : Event) (a : Accepted) (acting : Option NodeId) → (traced_by key t event a acting).world ≡ a.world
  world_is t event a None = refl
  world_is t event a (Some id) = refl

  pub marks_kept : (xs : List Event) (s t : Trace) → Follows key s xs t → (k : Mark) → In s.marks k → In t.marks k
  marks_kept [] s t same k h = subst (λ (z : Trace). In z.marks k) same h
  marks_kept (x ∷ xs) s t f k h = marks_kept xs (traced key s x f.0) t f.3 k (mark_kept s x f.0 (acting_of f.0) k h)

  pub still_marked : (s t : Trace) → ((k : Mark) → In s.marks k → In t.marks k) → (k : Mark) → Marked (project key s) k → Marked (project key t) k
  still_marked s t keeps k m = (m.0, m.1, keeps m.0 m.2)

  -- ---- moments of a run
  module _ (run : Run) where
    pub later_of : (p last : Trace) → (m : Moment key run p) → Ends key run last → Follows key p m.later last
    later_of p last m ends =
        let whole : Follows key (start_trace run.header) (m.past ++ m.later) last = subst (λ (xs : List Event). Follows key (start_trace run.header) xs last) m.split ends in
        let r = follows_parts m.past m.later (start_trace run.header) last whole in
        subst (λ (z : Trace). Follows key z m.later last) (follows_same m.past (start_trace run.header) r.0 p r.1 m.follows) r.2

    pub moment_marks_kept : (p last : Trace) → Moment key run p → Ends key run last → (k : Mark) → In p.marks k → In last.marks k
    moment_marks_kept p last m ends = marks_kept m.later p last (later_of p last m ends)

    pub last_moment : (last : Trace) → Ends key run last → Moment key run last
    last_moment last ends = record { past = run.events; later = []; split = sym (append-nil run.events); follows = ends }

  -- what holds at the start, and is kept from each moment to the next, holds at the end
  module _ (h : Header) (Q : List Event → Trace → Type 0) (keeps : (past : List Event) (t : Trace) (event : Event) (a : Accepted) → Follows key (start_trace h) past t → world_step t.world event ≡ Ok a → IsEvent event → Q past t → Q (past ++ event ∷ []) (traced key t event a)) where
    goes_on : (later past : List Event) (t last : Trace) → Follows key (start_trace h) past t → Q past t → Follows key t later last → Q (past ++ later) last
    goes_on [] past t last f q same = subst (λ (xs : List Event). Q xs last) (sym (append-nil past)) (subst (λ (z : Trace). Q past z) same q)
    goes_on (e ∷ later) past t last f q g =
        subst (λ (xs : List Event). Q xs last) (append_three past (e ∷ []) later)
        (goes_on later (past ++ e ∷ []) (traced key t e g.0) last (follows_then past (e ∷ []) (start_trace h) t (traced key t e g.0) f (g.0, g.1, g.2, refl)) (keeps past t e g.0 f g.1 g.2 q) g.3)

    pub always : Q [] (start_trace h) → (events : List Event) (last : Trace) → Follows key (start_trace h) events last → Q events last
    always begins events last f = goes_on events [] (start_trace h) last refl begins f
