-- Rows, seen as phases: shapes, notes, what an INV displaces, what a completion leaves.
use Rattle.std.proofs.Common.{◌≡◌, ◌⊎◌, ◌≢◌, ℕ, Bool, true, false, cond, ◌||◌, List, [], ◌∷◌, map, ◌∙◌, sym, refl, ap, inl, inr, ⊎_elim, Option, Some, None, eqb}
use Rattle.std.proofs.lemmas.Bool.{false≢true, eqb-true, and_parts, or_cases}
use Rattle.hk_base.specs.declared.stamp.Stamp.{Stamp}
use Rattle.hk_base.specs.declared.stamp.NodeId.{NodeId}
use Rattle.hk_base.specs.declared.stamp.Kind.{Kind}
use Rattle.hk_base.specs.declared.stamp.Kind.TheVariants as Kind
use Rattle.hk_base.specs.declared.call.State.{State}
use Rattle.hk_base.specs.declared.call.State.TheVariants as State
use Rattle.hk_base.specs.declared.call.Reply.{Reply}
use Rattle.hk_base.specs.declared.call.Answer.TheVariants.{Aborted}
use Rattle.hk_base.specs.Stamp.{tag_of}
use Rattle.hk_base.specs.View.{member_numbers}
use Rattle.hk_key.specs.declared.acks.Ack.{Ack}
use Rattle.hk_key.specs.declared.row.Pending.{Pending}
use Rattle.hk_key.specs.declared.row.Row.{Row}
use Rattle.hk_key.specs.Notes.{is_noted, all_noted, all_exact, note_in}
use Rattle.hk_key.specs.Sound.{Holds}
use Rattle.hk_key.specs.Table.{displaced, displaced_write, aborted, given_up, given_up_write, completed_at}
use Rattle.hk_register.specs.Machine.{In, Note, WaitingUpdate, Phase, Item}
use Rattle.hk_register.specs.Machine.Phase.{Valid, Invalid, Write, Replay, Trans}
use Rattle.hk_register.specs.Effects.{Has, IsIdle, Noted, NotesAfter, with_notes, overtaken, drop_of, dropped}
use Rattle.hk_effects.specs.Projection.{note_of, pending_of, phase_of, pending_stamp}
use Rattle.hk_effects.proofs.Replies.{reply_items}

-- Valid and Invalid rows have no pending update, and the others have one
abbrev pub IsShaped : State → Option Pending → Type 0
IsShaped State.Valid o = o ≡ None
IsShaped State.Invalid o = o ≡ None
IsShaped State.Write o = (p : Pending) × (o ≡ Some p)
IsShaped State.Replay o = (p : Pending) × (o ≡ Some p)
IsShaped State.Trans o = (p : Pending) × (o ≡ Some p)

pub shaped_of_holds : (state : State) (o : Option Pending) (s : Stamp) → Holds state o s → IsShaped state o
shaped_of_holds State.Valid o s h = h
shaped_of_holds State.Invalid o s h = h
shaped_of_holds State.Write None s h = absurd h
shaped_of_holds State.Replay None s h = absurd h
shaped_of_holds State.Trans None s h = absurd h
shaped_of_holds State.Write (Some p) s h = (p, refl)
shaped_of_holds State.Replay (Some p) s h = (p, refl)
shaped_of_holds State.Trans (Some p) s h = (p, refl)

no_some : (p : Pending) → Some p ≡ None → ⊥
no_some p e = cc

-- an update stays pending with other notes
pub reshaped : (state : State) (p q : Pending) → IsShaped state (Some p) → IsShaped state (Some q)
reshaped State.Valid p q h = absurd (no_some p h)
reshaped State.Invalid p q h = absurd (no_some p h)
reshaped State.Write p q h = (q, refl)
reshaped State.Replay p q h = (q, refl)
reshaped State.Trans p q h = (q, refl)

-- a shaped row with a pending update has it in its phase
pub shaped_has : (state : State) (p : Pending) → IsShaped state (Some p) → Has (phase_of state (Some p)) (pending_of p)
shaped_has State.Valid p h = absurd (no_some p h)
shaped_has State.Invalid p h = absurd (no_some p h)
shaped_has State.Write p h = refl
shaped_has State.Replay p h = refl
shaped_has State.Trans p h = refl

pub shaped_stamp : (state : State) (p : Pending) → IsShaped state (Some p) → pending_stamp (phase_of state (Some p)) ≡ tag_of p.stamp
shaped_stamp State.Valid p h = absurd (no_some p h)
shaped_stamp State.Invalid p h = absurd (no_some p h)
shaped_stamp State.Write p h = refl
shaped_stamp State.Replay p h = refl
shaped_stamp State.Trans p h = refl

pub renoted : (state : State) (p q : Pending) → pending_of q ≡ record (pending_of p) { notes = map note_of q.acks } → with_notes (phase_of state (Some p)) (map note_of q.acks) ≡ phase_of state (Some q)
renoted State.Valid p q e = refl
renoted State.Invalid p q e = refl
renoted State.Write p q e = ap Write (sym e)
renoted State.Replay p q e = ap Replay (sym e)
renoted State.Trans p q e = ap Trans (sym e)

-- the phase has no other pending update
pub has_is : (state : State) (p : Pending) (q : WaitingUpdate) → Has (phase_of state (Some p)) q → pending_of p ≡ q
has_is State.Valid p q h = absurd h
has_is State.Invalid p q h = absurd h
has_is State.Write p q h = h
has_is State.Replay p q h = h
has_is State.Trans p q h = h

-- a row with none pending has an idle phase
pub idle_phase : (state : State) → IsIdle (phase_of state None)
idle_phase State.Valid = inl refl
idle_phase State.Invalid = inr refl
idle_phase State.Write = inr refl
idle_phase State.Replay = inr refl
idle_phase State.Trans = inr refl

pub none_pending : (state : State) (q : WaitingUpdate) → Has (phase_of state None) q → ⊥
none_pending State.Valid q h = h
none_pending State.Invalid q h = h
none_pending State.Write q h = h
none_pending State.Replay q h = h
none_pending State.Trans q h = h

-- ---- an INV above the row
displaced_write_is : (kind : Kind) (p : Pending) → phase_of (displaced_write kind p).0 (displaced_write kind p).1 ≡ elim kind as (λ _. Phase) [ Kind.Write ↦ Trans (pending_of p) | Kind.Rmw ↦ Invalid ]
displaced_write_is Kind.Write p = refl
displaced_write_is Kind.Rmw p = refl

pub overtaken_is : (state : State) (p : Option Pending) → phase_of (displaced state p).0 (displaced state p).1 ≡ overtaken (phase_of state p)
overtaken_is State.Valid p = refl
overtaken_is State.Invalid p = refl
overtaken_is State.Replay None = refl
overtaken_is State.Replay (Some p) = refl
overtaken_is State.Trans None = refl
overtaken_is State.Trans (Some p) = refl
overtaken_is State.Write None = refl
overtaken_is State.Write (Some p) = displaced_write_is p.kind p

dropped_reply : (r : Option Reply) (n : ℕ) (s : Stamp) → reply_items n (aborted r s) ≡ drop_of r n (Aborted s)
dropped_reply None n s = refl
dropped_reply (Some r) n s = refl

dropped_write_is : (kind : Kind) (p : Pending) (s : Stamp) → reply_items (tag_of p.stamp) (given_up_write kind p.reply s) ≡ elim kind as (λ _. List Item) [ Kind.Write ↦ [] | Kind.Rmw ↦ drop_of p.reply (tag_of p.stamp) (Aborted s) ]
dropped_write_is Kind.Write p s = refl
dropped_write_is Kind.Rmw p s = dropped_reply p.reply (tag_of p.stamp) s

-- the call that it gives up is told so
pub dropped_is : (state : State) (p : Option Pending) (s : Stamp) → reply_items (pending_stamp (phase_of state p)) (given_up state p s) ≡ dropped (phase_of state p) (Aborted s)
dropped_is State.Valid p s = refl
dropped_is State.Invalid p s = refl
dropped_is State.Replay None s = refl
dropped_is State.Replay (Some p) s = refl
dropped_is State.Trans None s = refl
dropped_is State.Trans (Some p) s = refl
dropped_is State.Write None s = refl
dropped_is State.Write (Some p) s = dropped_write_is p.kind p s

-- what an overtaken phase still has pending, it had
pub overtaken_has : (phase : Phase) (p : WaitingUpdate) → Has (overtaken phase) p → Has phase p
overtaken_has Valid p has = has
overtaken_has Invalid p has = has
overtaken_has (Replay q) p has = absurd has
overtaken_has (Trans q) p has = has
overtaken_has (Write q) p has = by_kind q.kind has
  where
    by_kind : (kind : Kind) → Has (elim kind as (λ _. Phase) [ Kind.Write ↦ Trans q | Kind.Rmw ↦ Invalid ]) p → q ≡ p
    by_kind Kind.Write h = h
    by_kind Kind.Rmw h = absurd h

-- ---- notes
noted_true : (m : NodeId) (ks : List Ack) → is_noted m ks ≡ true → Noted (map note_of ks) m.0
noted_true m [] e = absurd (false≢true e)
noted_true m (k ∷ ks) e = ⊎_elim (λ (h : eqb k.node.0 m.0 ≡ true). (note_of k, inl refl, eqb-true k.node.0 m.0 h)) (λ (h : is_noted m ks ≡ true). let t = noted_true m ks h in (t.0, inr t.1, t.2)) (or_cases (eqb k.node.0 m.0) (is_noted m ks) e)

pub all_noted_true : (me : NodeId) (ms : List NodeId) (ks : List Ack) → all_noted me ms ks ≡ true → (m : ℕ) → In (member_numbers ms) m → m ≢ me.0 → Noted (map note_of ks) m
all_noted_true me [] ks e m h ne = absurd h
all_noted_true me (j ∷ ms) ks e m h ne =
    let p = and_parts (eqb j.0 me.0 || is_noted j ks) (all_noted me ms ks) e in
    ⊎_elim
    (λ (is : m ≡ j.0). ⊎_elim (λ (own : eqb j.0 me.0 ≡ true). absurd (ne (is ∙ eqb-true j.0 me.0 own))) (λ (n : is_noted j ks ≡ true). rw is (noted_true j ks n)) (or_cases (eqb j.0 me.0) (is_noted j ks) p.0))
    (λ (later : In (member_numbers ms) m). all_noted_true me ms ks p.1 m later ne) h

pub all_exact_true : (ks : List Ack) → all_exact ks ≡ true → (k : Note) → In (map note_of ks) k → k.exact ≡ true
all_exact_true [] e k h = absurd h
all_exact_true (j ∷ ks) e k h = let p = and_parts j.exact (all_exact ks) e in ⊎_elim (λ (is : k ≡ note_of j). rw is p.0) (λ (later : In (map note_of ks) k). all_exact_true ks p.1 k later) h

-- the notes after an ACK are the old ones, or the sender's
pub notes_after : (from : NodeId) (s t : ℕ) (ex : Bool) → (ex ≡ true → t ≡ s) → (ks : List Ack) → NotesAfter (map note_of ks) (map note_of (note_in from ex ks)) from.0 s t
notes_after from s t ex why [] k h = ⊎_elim (λ (is : k ≡ record { who = from.0; exact = ex }). inr (ap (λ (n : Note). n.who) is, λ e. why (sym (ap (λ (n : Note). n.exact) is) ∙ e))) (λ (none : ⊥). absurd none) h
notes_after from s t ex why (j ∷ ks) k h = by_test (eqb j.node.0 from.0) refl (notes_after from s t ex why ks) h
  where
    by_old : (old : Bool) → j.exact ≡ old → k ≡ record { who = j.node.0; exact = old || ex } → j.node.0 ≡ from.0 → In (map note_of (j ∷ ks)) k ⊎ (k.who ≡ from.0) × (k.exact ≡ true → t ≡ s)
    by_old true e is same = inl (inl (is ∙ rw e refl))
    by_old false e is same = inr (ap (λ (n : Note). n.who) is ∙ same, λ q. why (sym (ap (λ (n : Note). n.exact) is) ∙ q))

    by_test : (b : Bool) → eqb j.node.0 from.0 ≡ b → NotesAfter (map note_of ks) (map note_of (note_in from ex ks)) from.0 s t →
        In (map note_of (cond b (record j { exact = j.exact || ex } ∷ ks) (j ∷ note_in from ex ks))) k → In (map note_of (j ∷ ks)) k ⊎ (k.who ≡ from.0) × (k.exact ≡ true → t ≡ s)
    by_test true e more h = ⊎_elim (λ (is : k ≡ record { who = j.node.0; exact = j.exact || ex }). by_old j.exact refl is (eqb-true j.node.0 from.0 e)) (λ (later : In (map note_of ks) k). inl (inr later)) h
    by_test false e more h = ⊎_elim (λ (is : k ≡ note_of j). inl (inl is)) (λ (later : In (map note_of (note_in from ex ks)) k). ⊎_elim (λ (old : In (map note_of ks) k). inl (inr old)) inr (more k later)) h

-- ---- a completed row has nothing pending, and its stamp
rested : (b : Bool) (q : WaitingUpdate) → Has (phase_of (cond b State.Valid State.Invalid) None) q → ⊥
rested true q h = h
rested false q h = h

pub completed_calm : (b d : Bool) (row : Row) (p : Pending) (q : WaitingUpdate) → Has (phase_of (completed_at b d row p).row.state (completed_at b d row p).row.pending) q → ⊥
completed_calm true true row p q h = h
completed_calm true false row p q h = h
completed_calm false d row p q h = rested row.kept_val q h

pub completed_stamp : (b d : Bool) (row : Row) (p : Pending) → (completed_at b d row p).row.stamp ≡ row.stamp
completed_stamp true true row p = refl
completed_stamp true false row p = refl
completed_stamp false d row p = refl

pub completed_reply : (b d : Bool) (row : Row) (p : Pending) → (completed_at b d row p).out.reply ≡ p.reply
completed_reply true true row p = refl
completed_reply true false row p = refl
completed_reply false d row p = refl

-- whether the row had the update pending before
pub completed_same : (b d : Bool) (row : Row) (q : Pending) → completed_at b d (record row { pending = Some q }) q ≡ completed_at b d row q
completed_same true true row q = refl
completed_same true false row q = refl
completed_same false d row q = refl
