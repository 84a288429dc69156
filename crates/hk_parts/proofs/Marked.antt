-- To cover a stamp, and to be exact for it, is what moments of the run show.
use Rattle.std.proofs.Common.{◌≡◌, ℕ, List, [], ◌∷◌, map, ◌≤◌, ◌∙◌, sym, refl, ap, subst, inl, inr, arith, Option, Some, None}
use Rattle.hk_base.specs.declared.stamp.NodeId.{NodeId}
use Rattle.hk_register.specs.Machine.{In, Marked, Mark}
use Rattle.hk_register.specs.Effects.{row_mark, cover_mark}
use Rattle.hk_register.specs.Machine.Message.{Ack}
use Rattle.hk_register.specs.Runs.{founder}
use Rattle.hk_register.proofs.Grow.{in_left}
use Rattle.hk_register.proofs.Helps.{pending_of}
use Rattle.hk_node.specs.Node.{NodeState}
use Rattle.hk_node.specs.Rows.{Rows, row_at}
use Rattle.hk_base.specs.Stamp.{tag_of}
use Rattle.hk_event.specs.declared.event.Event.{Event}
use Rattle.hk_event.specs.declared.event.Header.{Header}
use Rattle.hk_base.specs.View.{counted}
use Rattle.hk_world.specs.Steps.{acting_of, Accepted, world_step}
use Rattle.hk_world.specs.World.{WorldState}
use Rattle.hk_effects.specs.Projection.{Trace, project, traced, traced_by, key_node, node_at, letters_of, step_marks}
use Rattle.hk_world.specs.Sound.{IsHeader}
use Rattle.hk_effects.specs.Runs.{start_trace, Follows, IsKept, RunsKeepParts}
use Rattle.hk_effects.proofs.Frames.{itself}
use Rattle.hk_effects.proofs.Worlds.{the_accepted}
use Rattle.hk_parts.specs.Facts.{members_at, HasCovered, WasExact}
use Rattle.hk_parts.specs.Meaning.{RowWas, InstalledWith, CoverWas, ExactMeans, CoversMean}
use Rattle.hk_parts.specs.Moments.{Run, Ends, Moment}
use Rattle.hk_parts.proofs.Moments.{world_is, marks_kept, moment_marks_kept, later_of, always}
use Rattle.hk_parts.proofs.Meanings.{MarkWas, goes_on}
use Rattle.hk_parts.proofs.Origins.{parts_at}
use Rattle.hk_parts.proofs.RunNotes.{founders}
use Rattle.hk_parts.proofs.Sources.{install_mark}
use Rattle.hk_parts.proofs.Updates.{kept_then}

from_founders : (ids : List NodeId) (k : Mark) → In (map (λ (id : NodeId). row_mark id.0 founder) ids) k → (n : ℕ) × (k ≡ row_mark n founder)
from_founders [] k h = absurd h
from_founders (id ∷ ids) k (inl e) = (id.0, e)
from_founders (id ∷ ids) k (inr h) = from_founders ids k h

module _ (runs : RunsKeepParts) (key : List ℕ) (h : Header) (header : IsHeader h) where
  abbrev Empty : Run
  Empty = record { header = h; events = [] }

  kept : IsKept key (start_trace h)
  kept = runs h header key [] (start_trace h) refl

  -- a founder's row
  bare_row : (n : ℕ) → ((project key (start_trace h)).node n).stamp ≡ 0
  bare_row n = by_node (node_at n (start_trace h).world.processes) refl
    where
      by_node : (o : Option NodeState) → node_at n (start_trace h).world.processes ≡ o → (key_node key o).stamp ≡ 0
      by_node None at = refl
      by_node (Some y) at = ap (λ (rs : Rows). tag_of (row_at key rs).stamp) (founders runs key h header (counted 0 h.nodes) n y at)

  begins : (k : Mark) → In (start_trace h).marks k → MarkWas key (record { header = h; events = [] }) k
  begins k i =
      let f = from_founders (counted 0 h.nodes) k i in
      let m = (parts_at key (start_trace h) kept).marks k (k, itself k, i) in
      let low : 1 ≤ ((project key (start_trace h)).node f.0).epoch = rw f.1 at m.epoch in
      let j = ((parts_at key (start_trace h) kept).nodes f.0).marked low in
      let top : ((project key (start_trace h)).node f.0).epoch ≤ 1 = rw (sym j.1.epoch) at (kept.trace.guarded j.0 j.2).upto in
      let o : RowWas key (record { header = h; events = [] }) f.0 1 0 = record {
        when = start_trace h;
        moment = record { past = []; later = []; split = refl; follows = refl };
        some = omega arith;
        epoch = omega arith;
        stamp = bare_row f.0;
      } in
      rw f.1 (λ exact. o, inl o)

  pub all_meant : (events : List Event) (last : Trace) → Follows key (start_trace h) events last → (k : Mark) → In last.marks k → MarkWas key (record { header = h; events = events }) k
  all_meant events last f = always key h (λ (past : List Event) (t : Trace). (k : Mark) → In t.marks k → MarkWas key (record { header = h; events = past }) k) (λ past t event a f e event_ok was. goes_on runs key h header past t event a f e event_ok was) begins events last f

module _ (runs : RunsKeepParts) (run : Run) (header : IsHeader run.header) (key : List ℕ) (last : Trace) (ends : Ends key run last) (n e s : ℕ) where
  meant : (k : Mark) → In last.marks k → MarkWas key run k
  meant k i = all_meant runs key run.header header run.events last ends k i

  marked_now : (p : Trace) → Moment key run p → (k : Mark) → Marked (project key p) k → Marked (project key last) k
  marked_now p m k there = (there.0, there.1, moment_marks_kept key run p last m ends there.0 there.2)

  row_exact : RowWas key run n e s → WasExact key last n e s
  row_exact o =
      let before = kept_then runs key run header last ends o.when o.moment in
      let x = (project key o.when).node n in
      record { mark = row_mark n x; marked = marked_now o.when o.moment (row_mark n x) (((parts_at key o.when before).nodes n).marked (rw o.epoch o.some)); who = refl; epoch = o.epoch; stamp = o.stamp; exact = refl }

  exact_row : WasExact key last n e s → RowWas key run n e s
  exact_row c =
      let j = c.marked.0 in
      let w = c.marked.1 in
      let o = (meant j c.marked.2).0 (w.exact c.exact) in
      rw (sym c.who ∙ w.who, sym c.epoch ∙ w.epoch, sym c.stamp ∙ w.stamp) o

  covered_was : HasCovered key last n e s → CoverWas key run n e s
  covered_was c =
      let w = c.marked.1 in
      let o = (meant c.marked.0 c.marked.2).1 in
      rw (sym c.who ∙ w.who, sym c.epoch ∙ w.epoch, sym c.stamp ∙ w.stamp) o

  -- the mark that an install made
  installed : InstalledWith key run n e s → HasCovered key last n e s
  installed o =
      let at = o.at in
      let f = later_of key run at.was last (record { past = at.past; later = at.event ∷ at.later; split = at.split; follows = at.follows }) ends in
      let same : f.0 ≡ at.accepted = the_accepted f.0 at.accepted (world_step at.was.world at.event) f.1 at.accepts in
      let rest : Follows key (traced key at.was at.event at.accepted) at.later last = subst (λ (a : Accepted). Follows key (traced key at.was at.event a) at.later last) same f.3 in
      let z = key_node key (node_at n at.accepted.world.processes) in
      let epoch : z.epoch ≡ e = sym (ap (λ (w : WorldState). (key_node key (node_at n w.processes)).epoch) (world_is key at.was at.event at.accepted (acting_of at.accepted))) ∙ o.epoch in
      let k = cover_mark n z o.pending.stamp in
      let made : In (traced_by key at.was at.event at.accepted (Some (record { 0 = n }))).marks k =
      in_left (step_marks n ((project key at.was).node n) z (letters_of key at.accepted.shown.letters)) at.was.marks k (install_mark n ((project key at.was).node n) z (letters_of key at.accepted.shown.letters) o.pending o.has (rw epoch o.before)) in
      let there : In (traced key at.was at.event at.accepted).marks k = subst (λ (i : Option NodeId). In (traced_by key at.was at.event at.accepted i).marks k) (sym o.acts) made in
      record { mark = k; marked = (k, itself k, marks_kept key at.later (traced key at.was at.event at.accepted) last rest k there); who = refl; epoch = epoch; stamp = o.stamp }

  was_covered : CoverWas key run n e s → HasCovered key last n e s
  was_covered (inl o) = let c = row_exact o in record { mark = c.mark; marked = c.marked; who = c.who; epoch = c.epoch; stamp = c.stamp }
  was_covered (inr (inl o)) =
      let before = kept_then runs key run header last ends o.when o.moment in
      let c = (pending_of (members_at o.when) (project key o.when) n ((project key o.when).node n) ((project key o.when).node n).phase o.pending o.has ((parts_at key o.when before).nodes n).phase).covers in
      record { mark = c.mark; marked = marked_now o.when o.moment c.mark c.marked; who = c.who; epoch = c.epoch ∙ o.epoch; stamp = c.stamp ∙ o.stamp }
  was_covered (inr (inr (inl o))) = installed o
  was_covered (inr (inr (inr o))) =
      let before = kept_then runs key run header last ends o.when o.moment in
      let c = ((parts_at key o.when before).letters (Ack n e s o.top) o.sent).0 in
      record { mark = c.mark; marked = marked_now o.when o.moment c.mark c.marked; who = c.who; epoch = c.epoch; stamp = c.stamp }

pub exact_means : RunsKeepParts → ExactMeans
exact_means runs run header key last ends n e s = (exact_row runs run header key last ends n e s, row_exact runs run header key last ends n e s)

pub covers_mean : RunsKeepParts → CoversMean
covers_mean runs run header key last ends n e s = (covered_was runs run header key last ends n e s, was_covered runs run header key last ends n e s)
