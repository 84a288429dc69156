-- Every step of the table keeps a row sound.
use Rattle.std.proofs.Common.{◌≡◌, ◌≢◌, ℕ, zero, suc, ◌<◌, Bool, true, false, List, [], Option, Some, None, IfSome, if◌then◌else◌, ◌==◌, refl, sym, ap, ◌∙◌, arith, subst}
use Rattle.std.specs.Ordering.{nat_cmp}
use Rattle.std.specs.declared.cmp.Ordering.{Ordering}
use Rattle.std.specs.declared.cmp.Ordering.TheVariants.{Less, Equal, Greater}
use Rattle.std.specs.List.{IsDistinct}
use Rattle.hk_base.specs.declared.stamp.Stamp.{Stamp}
use Rattle.hk_base.specs.declared.stamp.NodeId.{NodeId}
use Rattle.hk_base.specs.declared.stamp.Kind.{Kind}
use Rattle.hk_base.specs.declared.call.State.{State}
use Rattle.hk_base.specs.declared.call.State.TheVariants.{Valid, Invalid, Write, Replay, Trans}
use Rattle.hk_base.specs.Stamp.{tag_of}
use Rattle.hk_base.specs.Range.{IsWithin, Leaves}
use Rattle.hk_key.specs.declared.acks.Ack.{Ack}
use Rattle.hk_key.specs.declared.row.Pending.{Pending}
use Rattle.hk_key.specs.declared.row.Row.{Row}
use Rattle.hk_key.specs.Notes.{all_noted, all_exact, note_in}
use Rattle.hk_key.specs.Sound.{Holds, Waits, AreNotes, IsLeft, IsUpdate, IsSound}
use Rattle.hk_key.specs.Table.{displaced, displaced_write, completed_at, started_at, noted_at, with_acks, unnoted, replay_at, on_inv_at, on_ack_at, on_ack_pending, on_val_at, validated, on_view_at, on_copy_at, copied_same, state_of_copy}
use Rattle.hk_key.specs.Laws.{FirstIsSound, BeginIsSound, ReplayKeepsSound, InvKeepsSound, AckKeepsSound, ValKeepsSound, ViewKeepsSound, CopyKeepsSound}
use Rattle.hk_key.proofs.Sound.{notes_noted}

pub first_is_sound : FirstIsSound
first_is_sound me members = record {
  within = omega arith;
  holds = refl;
  waits = tt;
  left = record { untouched = λ e. refl; leaves = λ above. absurd (omega arith) };
  update = tt;
}

-- a row above `0.0` that holds what its update left
left : (row : Row) → 0 < tag_of row.stamp → Leaves row.kind row.content → IsLeft row
left row above leaves = record { untouched = λ e. absurd (omega arith); leaves = λ up. leaves }

-- a row that is not Valid was touched
pub touched : (row : Row) → IsLeft row → row.state ≢ Valid → 0 < tag_of row.stamp
touched row ok other = by_tag (tag_of row.stamp) refl
  where
    by_tag : (n : ℕ) → tag_of row.stamp ≡ n → 0 < tag_of row.stamp
    by_tag zero e = absurd (other (ap (λ (r : Row). r.state) (ok.untouched e)))
    by_tag (suc n) e = omega arith

-- so was one with a pending update
touched_pending : (state : State) (p : Pending) (s : Stamp) → Holds state (Some p) s → 0 < tag_of p.stamp → 0 < tag_of s
touched_pending Valid p s h above = absurd (none_some h)
  where
    none_some : {X : Type 0} {x : X} → Some x ≡ None → ⊥
    none_some e = grind arith
touched_pending Invalid p s h above = absurd (none_some h)
  where
    none_some : {X : Type 0} {x : X} → Some x ≡ None → ⊥
    none_some e = grind arith
touched_pending Write p s h above = omega arith
touched_pending Replay p s h above = omega arith
touched_pending Trans p s h above = omega arith

module _ (me : NodeId) (members : List NodeId) where
  -- a completed row has no pending update
  completed_sound : (own exact : Bool) (row : Row) (p : Pending) → IsWithin row.stamp → 0 < tag_of row.stamp → Leaves row.kind row.content → IsSound me members (completed_at own exact row p).row
  completed_sound true true row p within above leaves = record { within = within; holds = refl; waits = tt; left = left _ above leaves; update = tt }
  completed_sound true false row p within above leaves = record { within = within; holds = refl; waits = tt; left = left _ above leaves; update = tt }
  completed_sound false exact row p within above leaves = by_val row.kept_val
    where
      by_val : (b : Bool) → IsSound me members (record row { state = if b then Valid else Invalid; pending = None })
      by_val true = record { within = within; holds = refl; waits = tt; left = left _ above leaves; update = tt }
      by_val false = record { within = within; holds = refl; waits = tt; left = left _ above leaves; update = tt }

  started_sound : (alone : Bool) (row : Row) (p : Pending) → IsWithin row.stamp → IsLeft row → Holds row.state (Some p) row.stamp → Waits row.state (Some p) → IsUpdate me members p → IsSound me members (started_at alone row p).row
  started_sound true row p within is_left holds waits ok =
      let above = touched_pending row.state p row.stamp holds ok.above in
      completed_sound (tag_of row.stamp == tag_of p.stamp) (all_exact p.acks) row p within above (is_left.leaves above)
  started_sound false row p within is_left holds waits ok =
      let above = touched_pending row.state p row.stamp holds ok.above in
      record { within = within; holds = holds; waits = waits; left = left _ above (is_left.leaves above); update = ok }

  no_notes : AreNotes me members []
  unfolding IsDistinct
  no_notes = record { distinct = tt; others = tt }

  noted_sound : (last : Bool) (row : Row) (p : Pending) → IsWithin row.stamp → IsLeft row → Holds row.state (Some p) row.stamp → Waits row.state (Some p) → IsUpdate me members p → IsSound me members (noted_at last row p).row
  noted_sound true row p within is_left holds waits ok =
      let above = touched_pending row.state p row.stamp holds ok.above in
      completed_sound (tag_of row.stamp == tag_of p.stamp) (all_exact p.acks) row p within above (is_left.leaves above)
  noted_sound false row p within is_left holds waits ok =
      let above = touched_pending row.state p row.stamp holds ok.above in
      record { within = within; holds = holds; waits = waits; left = left _ above (is_left.leaves above); update = ok }

invalid_valid : Invalid ≡ Valid → ⊥
invalid_valid e = grind arith

trans_valid : Trans ≡ Valid → ⊥
trans_valid e = grind arith

-- that a pending update has other notes does not matter to its row
renoted : (state : State) (p : Pending) (acks : List Ack) (s : Stamp) → Holds state (Some p) s → Holds state (Some (with_acks p acks)) s
renoted Valid p acks s h = absurd (none_some h)
  where
    none_some : {X : Type 0} {x : X} → Some x ≡ None → ⊥
    none_some e = grind arith
renoted Invalid p acks s h = absurd (none_some h)
  where
    none_some : {X : Type 0} {x : X} → Some x ≡ None → ⊥
    none_some e = grind arith
renoted Write p acks s h = h
renoted Replay p acks s h = h
renoted Trans p acks s h = h

still_waits : (state : State) (p : Pending) (acks : List Ack) → Waits state (Some p) → Waits state (Some (with_acks p acks))
still_waits Valid p acks w = w
still_waits Invalid p acks w = w
still_waits Write p acks w = w
still_waits Replay p acks w = w
still_waits Trans p acks w = w

pub begin_is_sound : BeginIsSound
begin_is_sound me members reply s kind content within above leaves =
    started_sound me members (all_noted me members [])
    (record { state = Write; stamp = s; kind = kind; content = content; kept_val = false; pending = None })
    (unnoted (Some reply) s kind content) within (left _ above leaves) refl refl
    (record { within = within; above = above; leaves = leaves; notes = no_notes me members })

pub replay_keeps_sound : ReplayKeepsSound
replay_keeps_sound me members row ok = by_state row.state refl
  where
    by_state : (state : State) → row.state ≡ state → IsSound me members (replay_at state me members row).row
    by_state Valid e = ok
    by_state Write e = ok
    by_state Replay e = ok
    by_state Trans e = ok
    by_state Invalid e =
        let above = touched row ok.left (λ valid. invalid_valid (sym e ∙ valid)) in
        started_sound me members (all_noted me members []) (record row { state = Replay }) (unnoted None row.stamp row.kind row.content)
        ok.within (left _ above (ok.left.leaves above)) refl refl
        (record { within = ok.within; above = above; leaves = ok.left.leaves above; notes = no_notes me members })

pub inv_keeps_sound : InvKeepsSound
inv_keeps_sound me members row from s kind content within leaves ok = by_order (nat_cmp (tag_of row.stamp) (tag_of s)) refl
  where
    -- an INV above the row: by its state and its pending update
    above : (state : State) (o : Option Pending) → tag_of row.stamp < tag_of s → Holds state o row.stamp → Waits state o → IfSome o (λ p. IsUpdate me members p) →
        IsSound me members (record { state = (displaced state o).0; stamp = s; kind = kind; content = content; kept_val = false; pending = (displaced state o).1 })
    above Valid o less h w u = record { within = within; holds = refl; waits = tt; left = left _ (omega arith) leaves; update = tt }
    above Invalid o less h w u = record { within = within; holds = refl; waits = tt; left = left _ (omega arith) leaves; update = tt }
    above Replay o less h w u = record { within = within; holds = refl; waits = tt; left = left _ (omega arith) leaves; update = tt }
    above Trans None less h w u = absurd h
    above Trans (Some p) less h w u = record { within = within; holds = omega arith; waits = w; left = left _ (omega arith) leaves; update = u }
    above Write None less h w u = absurd h
    above Write (Some p) less h w u = by_kind p.kind refl
      where
        by_kind : (k : Kind) → p.kind ≡ k → IsSound me members (record { state = (displaced_write k p).0; stamp = s; kind = kind; content = content; kept_val = false; pending = (displaced_write k p).1 })
        by_kind Kind.Write e = record { within = within; holds = omega arith; waits = (w, e); left = left _ (omega arith) leaves; update = u }
        by_kind Kind.Rmw e = record { within = within; holds = refl; waits = tt; left = left _ (omega arith) leaves; update = tt }

    by_order : (o : Ordering) → nat_cmp (tag_of row.stamp) (tag_of s) ≡ o → IsSound me members (on_inv_at o row from s kind content).row
    by_order Less e = above row.state row.pending (grind arith) ok.holds ok.waits ok.update
    by_order Equal e = ok
    by_order Greater e = by_kind kind
      where
        by_kind : (k : Kind) → IsSound me members (on_inv_at Greater row from s k content).row
        by_kind Kind.Write = ok
        by_kind Kind.Rmw = ok

pub ack_keeps_sound : AckKeepsSound
ack_keeps_sound me members row from s top other ok = by_pending row.pending ok.holds ok.waits ok.update
  where
    by_test : (p : Pending) (own exact : Bool) → Holds row.state (Some p) row.stamp → Waits row.state (Some p) → IsUpdate me members p → IsSound me members (on_ack_at own exact me members row p from).row
    by_test p false exact h w u = ok
    by_test p true exact h w u =
        noted_sound me members (all_noted me members (note_in from exact p.acks)) row (with_acks p (note_in from exact p.acks)) ok.within ok.left
        (renoted row.state p (note_in from exact p.acks) row.stamp h) (still_waits row.state p (note_in from exact p.acks) w)
        (record { within = u.within; above = u.above; leaves = u.leaves; notes = notes_noted me members from exact p.acks other u.notes })

    by_pending : (o : Option Pending) → Holds row.state o row.stamp → Waits row.state o → IfSome o (λ p. IsUpdate me members p) → IsSound me members (on_ack_pending o me members row from s top).row
    by_pending None h w u = ok
    by_pending (Some p) h w u = by_test p (tag_of s == tag_of p.stamp) (tag_of top == tag_of s) h w u

pub val_keeps_sound : ValKeepsSound
val_keeps_sound me members row s ok = by_test (tag_of row.stamp == tag_of s)
  where
    by_state : (state : State) → Holds state row.pending row.stamp → Waits state row.pending → row.state ≡ state → IsSound me members (validated state row)
    by_state Invalid h w e =
        let above = touched row ok.left (λ valid. invalid_valid (sym e ∙ valid)) in
        record { within = ok.within; holds = h; waits = w; left = left _ above (ok.left.leaves above); update = ok.update }
    by_state Trans h w e =
        let above = touched row ok.left (λ valid. trans_valid (sym e ∙ valid)) in
        record { within = ok.within; holds = ok.holds; waits = ok.waits; left = left _ above (ok.left.leaves above); update = ok.update }
    by_state Valid h w e = ok
    by_state Write h w e = ok
    by_state Replay h w e = ok

    by_test : (b : Bool) → IsSound me members (on_val_at b row)
    by_test true = by_state row.state ok.holds ok.waits refl
    by_test false = ok

pub view_keeps_sound : ViewKeepsSound
view_keeps_sound me old members row ok = by_pending row.pending refl ok.holds ok.waits ok.update
  where
    by_pending : (o : Option Pending) → row.pending ≡ o → Holds row.state o row.stamp → Waits row.state o → IfSome o (λ p. IsUpdate me old p) → IsSound me members (on_view_at o me members row).row
    by_pending None e h w u = record { within = ok.within; holds = ok.holds; waits = ok.waits; left = ok.left; update = subst (λ (k : Option Pending). IfSome k (λ p. IsUpdate me members p)) (sym e) tt }
    by_pending (Some p) e h w u = started_sound me members (all_noted me members []) row (with_acks p []) ok.within ok.left
        (renoted row.state p [] row.stamp h) (still_waits row.state p [] w)
        (record { within = u.within; above = u.above; leaves = u.leaves; notes = no_notes me members })

pub copy_keeps_sound : CopyKeepsSound
copy_keeps_sound me members row item within leaves ok = by_order (nat_cmp (tag_of row.stamp) (tag_of item.stamp)) refl
  where
    by_valid : (b : Bool) → 0 < tag_of item.stamp → IsSound me members (record { state = state_of_copy b; stamp = item.stamp; kind = item.kind; content = item.content; kept_val = false; pending = None })
    by_valid true above = record { within = within; holds = refl; waits = tt; left = left _ above leaves; update = tt }
    by_valid false above = record { within = within; holds = refl; waits = tt; left = left _ above leaves; update = tt }

    by_state : (state : State) → Holds state row.pending row.stamp → Waits state row.pending → row.state ≡ state → IsSound me members (copied_same true state row)
    by_state Invalid h w e =
        let above = touched row ok.left (λ valid. invalid_valid (sym e ∙ valid)) in
        record { within = ok.within; holds = h; waits = w; left = left _ above (ok.left.leaves above); update = ok.update }
    by_state Valid h w e = ok
    by_state Write h w e = ok
    by_state Replay h w e = ok
    by_state Trans h w e = ok

    same : (b : Bool) → IsSound me members (copied_same b row.state row)
    same true = by_state row.state ok.holds ok.waits refl
    same false = ok

    by_order : (o : Ordering) → nat_cmp (tag_of row.stamp) (tag_of item.stamp) ≡ o → IsSound me members (on_copy_at o row item)
    by_order Less e = by_valid item.valid (grind arith)
    by_order Equal e = same item.valid
    by_order Greater e = ok
