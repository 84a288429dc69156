-- In every run each letter was sent by an event of the run, and says what was so.
use Rattle.std.proofs.Common.{◌≡◌, ◌⊎◌, ℕ, List, [], ◌∷◌, ◌++◌, ◌∙◌, sym, refl, ap, subst, inl, inr, ⊎_elim, Some, Ok}
use Rattle.hk_base.specs.declared.stamp.NodeId.{NodeId}
use Rattle.hk_base.specs.declared.letter.Actor.TheVariants as Actor
use Rattle.hk_base.specs.declared.letter.Letter.{Letter}
use Rattle.hk_register.specs.Machine.{In}
use Rattle.hk_register.proofs.Grow.{in_either}
use Rattle.hk_event.specs.declared.event.Event.{Event}
use Rattle.hk_event.specs.declared.event.Header.{Header}
use Rattle.hk_world.specs.World.{WorldState, node_of}
use Rattle.hk_world.specs.Steps.{acting_of, Accepted, world_step}
use Rattle.hk_world.specs.Sound.{IsHeader, IsEvent}
use Rattle.hk_effects.specs.Projection.{Trace, traced, node_at}
use Rattle.hk_effects.specs.Runs.{start_trace, Follows, IsKept, RunsKeepParts}
use Rattle.hk_effects.proofs.Accepting.{alive}
use Rattle.hk_effects.proofs.Frames.{accepted}
use Rattle.hk_effects.proofs.Processes.{node-put_same}
use Rattle.hk_effects.proofs.Rests.{node_holds}
use Rattle.hk_effects.proofs.TwoEffects.{append_three}
use Rattle.hk_parts.specs.Moments.{Run, EventOf, Sent}
use Rattle.hk_parts.proofs.Moments.{follows_then, world_is, always}
use Rattle.hk_parts.proofs.Cases.{Stepping, Beside, event_case}
use Rattle.hk_parts.specs.ViewPart.{IsOfReplicas}
use Rattle.hk_parts.proofs.LettersTell.{Says}
use Rattle.hk_parts.proofs.Steps.{step_said}

-- that it was sent, the moment after, and what it says
pub record Told (key : List ℕ) (run : Run) (l : Letter) : Type 0 where
  pub sent : Sent key run l
  pub after : Follows key (start_trace run.header) (sent.at.past ++ sent.at.event ∷ []) (traced key sent.at.was sent.at.event sent.at.accepted)
  pub says : Says sent.node l

-- an event of a run is one of a longer run
abbrev pub event_later : (key : List ℕ) (h : Header) (past : List Event) (event : Event) → EventOf key (record { header = h; events = past }) → EventOf key (record { header = h; events = past ++ event ∷ [] })
event_later key h past event o = record {
  past = o.past;
  event = o.event;
  later = o.later ++ event ∷ [];
  split = ap (λ (xs : List Event). xs ++ event ∷ []) o.split ∙ append_three o.past (o.event ∷ o.later) (event ∷ []);
  was = o.was;
  follows = o.follows;
  accepted = o.accepted;
  accepts = o.accepts;
}

told_later : (key : List ℕ) (h : Header) (past : List Event) (event : Event) (l : Letter) → Told key (record { header = h; events = past }) l → Told key (record { header = h; events = past ++ event ∷ [] }) l
told_later key h past event l o =
    let s = o.sent in
    record {
      sent = record { at = event_later key h past event s.at; among = s.among; id = s.id; from = s.from; node = s.node; there = s.there; epoch = s.epoch };
      after = o.after;
      says = o.says;
    }

module _ (runs : RunsKeepParts) (key : List ℕ) (h : Header) (header : IsHeader h) where
  abbrev Letters : List Event → Trace → Type 0
  Letters past t = (l : Letter) → In t.world.letters l → IsOfReplicas l.body → Told key (record { header = h; events = past }) l

  module _ (past : List Event) (t : Trace) (event : Event) (a : Accepted) (f : Follows key (start_trace h) past t) (e : world_step t.world event ≡ Ok a) (event_ok : IsEvent event) where
    now : Trace
    now = traced key t event a

    now_follows : Follows key (start_trace h) (past ++ event ∷ []) (traced key t event a)
    now_follows = follows_then key past (event ∷ []) (start_trace h) t (traced key t event a) f (a, e, event_ok, refl)

    before : IsKept key t
    before = runs h header key past t f

    after : IsKept key (traced key t event a)
    after = runs h header key (past ++ event ∷ []) (traced key t event a) now_follows

    -- a letter of the node's step
    fresh : (c : Stepping t.world event a) (l : Letter) → In c.s.letters l → IsOfReplicas l.body → Told key (record { header = h; events = past ++ event ∷ [] }) l
    fresh c l among of =
        let says = step_said c.x (node_holds t.world before.own.sound c.id.0 c.x (ap node_of c.there)).1 t.world event c.s c.how l among of in
        let world : a.world ≡ (accepted t.world c.id c.x c.s c.calls c.paces c.call).world = ap (λ (b : Accepted). b.world) c.is in
        let there : node_at c.id.0 a.world.processes ≡ Some c.s.node = ap (λ (w : WorldState). node_at c.id.0 w.processes) world ∙ node-put_same c.id (alive c.s.node) t.world.processes in
        let there' : node_at c.id.0 (traced key t event a).world.processes ≡ Some c.s.node = ap (λ (w : WorldState). node_at c.id.0 w.processes) (world_is key t event a (acting_of a)) ∙ there in
        let own : c.s.node.id ≡ c.id = (node_holds (traced key t event a).world after.own.sound c.id.0 c.s.node there').0 in
        record {
          sent = record {
            at = record { past = past; event = event; later = []; split = refl; was = t; follows = f; accepted = a; accepts = e };
            among = subst (λ (b : Accepted). In b.shown.letters l) (sym c.is) among;
            id = c.id;
            from = says.from ∙ ap (λ (i : NodeId). Actor.Node i) own;
            node = c.s.node;
            there = there;
            epoch = says.epoch;
          };
          after = now_follows;
          says = says;
        }

    goes_on : Letters past t → Letters (past ++ event ∷ []) (traced key t event a)
    goes_on told l i of = by_case (event_case t.world event a e) (subst (λ (w : WorldState). In w.letters l) (world_is key t event a (acting_of a)) i)
      where
        by_case : Stepping t.world event a ⊎ Beside t.world a → In a.world.letters l → Told key (record { header = h; events = past ++ event ∷ [] }) l
        by_case (inl c) i = ⊎_elim
            (λ (old : In t.world.letters l). told_later key h past event l (told l old of))
            (λ (new : In c.s.letters l). fresh c l new of)
            (in_either t.world.letters c.s.letters l (subst (λ (b : Accepted). In b.world.letters l) c.is i))
        by_case (inr b) i = ⊎_elim
            (λ (old : In t.world.letters l). told_later key h past event l (told l old of))
            (λ (new : In b.letters l). absurd (b.silent l new of))
            (in_either t.world.letters b.letters l (rw b.sent at i))

  pub letters_told : (events : List Event) (last : Trace) → Follows key (start_trace h) events last → Letters events last
  letters_told events last f = always key h Letters goes_on (λ l none. absurd none) events last f
