-- The invariant's part on read-modify-writes.
use Rattle.std.specs.Prelude.{◌≡◌, ℕ, true, List, ◌<◌}
use Rattle.hk_base.specs.declared.stamp.Kind.TheVariants.{Rmw}
use Rattle.hk_register.specs.Machine.{In, Note, WaitingUpdate, Update}
use Rattle.hk_register.specs.Machine.Message.{Ack}
use Rattle.hk_register.specs.Effects.{Has}
use Rattle.hk_effects.specs.Projection.{Trace, project}
use Rattle.hk_parts.specs.Moments.{Run}
use Rattle.hk_parts.specs.Facts.{HasCovered, WasExact, IsComplete}

-- At the moment t of a run, of one key. All of it is of read-modify-writes that were begun.
pub record RmwPart (key : List ℕ) (run : Run) (t : Trace) : Type 0 where
  -- 1. Each ACK of one has top equal to its stamp, and each note on a pending one is exact. A node that covers its stamp is
  -- exact for it.
  pub acks_exact : (u : Update) → In t.begun u → u.kind ≡ Rmw → (m e top : ℕ) → In (project key t).letters (Ack m e u.stamp top) → top ≡ u.stamp
  pub notes_exact : (n : ℕ) (p : WaitingUpdate) → Has ((project key t).node n).phase p → p.kind ≡ Rmw → (k : Note) → In p.notes k → k.exact ≡ true
  pub covers_exact : (u : Update) → In t.begun u → u.kind ≡ Rmw → (n e : ℕ) → HasCovered key t n e u.stamp → WasExact key t n e u.stamp
  -- 2. A pending one has the row's stamp.
  pub pending_at_row : (n : ℕ) (p : WaitingUpdate) → Has ((project key t).node n).phase p → p.kind ≡ Rmw → p.stamp ≡ ((project key t).node n).stamp
  -- 3. Two of one base are not both complete.
  pub one_complete : (u v : Update) → In t.begun u → In t.begun v → u.kind ≡ Rmw → v.kind ≡ Rmw → u.base ≡ v.base → IsComplete key t u.stamp → IsComplete key t v.stamp → u ≡ v
  -- 4. Between a complete one and its base no update is complete.
  pub none_between : (r : Update) → In t.begun r → r.kind ≡ Rmw → IsComplete key t r.stamp →
      (u : Update) → In t.begun u → IsComplete key t u.stamp → r.base < u.stamp → u.stamp < r.stamp → ⊥
