-- To install a view is an effect of each key, or two where the update that is pending completes at once.
use Rattle.std.proofs.Common.{◌≡◌, ℕ, Bool, true, false, List, [], ◌∷◌, ◌++◌, ◌<◌, sym, refl, ap, subst, inl, inr, ⊎_elim, arith, Option, Some, None, IfSome, IsTrue, eqb, le-leb, append-nil}
use Rattle.std.proofs.lemmas.Bool.{lt-ltb}
use Rattle.hk_base.specs.declared.stamp.Stamp.{Stamp}
use Rattle.hk_base.specs.declared.call.State.{State}
use Rattle.hk_base.specs.declared.call.State.TheVariants as State
use Rattle.hk_base.specs.declared.view.View.{View}
use Rattle.hk_base.specs.declared.letter.Body.TheVariants as Body
use Rattle.hk_base.specs.Stamp.{tag_of}
use Rattle.hk_base.specs.View.{member_numbers}
use Rattle.hk_history.specs.History.{is_answered}
use Rattle.hk_key.specs.declared.row.Pending.{Pending}
use Rattle.hk_key.specs.declared.row.Row.{Row}
use Rattle.hk_key.specs.declared.out.Aim.TheVariants.{Others}
use Rattle.hk_key.specs.Notes.{all_noted}
use Rattle.hk_key.specs.Table.{Done, with_acks, completed_at, started_at, on_view_at}
use Rattle.hk_register.specs.Machine.{In, WaitingUpdate, Phase, Node, Message, Mark, Item, RegisterState}
use Rattle.hk_register.specs.Machine.Phase.{Valid, Invalid, Write, Replay, Trans}
use Rattle.hk_register.specs.Machine.Message.{Inv}
use Rattle.hk_register.specs.Effects.{Change, Has, IsIdle, AllNoted, Between, with_notes, answer_of, row_mark, cover_mark}
use Rattle.hk_register.specs.Effects.Effect.{Install, InstallPending}
use Rattle.hk_register.specs.Parts.{Parts}
use Rattle.hk_register.proofs.Grow.{in_either, in_left, in_right}
use Rattle.hk_node.specs.Node.{NodeState, epoch_of}
use Rattle.hk_node.specs.Sends.{letters_to, addressees, sent}
use Rattle.hk_effects.specs.Projection.{pending_of, phase_of, row_node, letters_of, pending_marks, moment_marks, install_marks, ack_marks, step_marks}
use Rattle.hk_effects.specs.Laws.{OneEffect, Effects}
use Rattle.hk_effects.proofs.Frames.{itself, narrow}
use Rattle.hk_effects.proofs.Marks.{row_first}
use Rattle.hk_effects.proofs.TwoEffects.{mid_state, mid_change}
use Rattle.hk_effects.proofs.Sends.{inv_within, inv_no_acks}
use Rattle.hk_effects.proofs.Shapes.{IsShaped, reshaped, shaped_has, renoted, has_is, idle_phase, none_pending, all_noted_true, completed_calm, completed_stamp}
use Rattle.hk_effects.proofs.Steps.{told, told_completed, completed_acks}
use Rattle.hk_effects.proofs.Starts.{waiting, then_completes}

-- the node in the view
abbrev pub viewing : NodeState → View → NodeState
viewing x v = record x { view = Some v }

-- the update that drops its notes
abbrev pub unacked : Pending → Pending
unacked p = with_acks p []

module _ (V : ℕ → List ℕ) (st : RegisterState) (parts : Parts V st) (key : List ℕ) (x : NodeState) (v : View) (c : Bool) (row : Row) (is : st.node x.id.0 ≡ row_node x c row)
    (later : epoch_of x < v.epoch) (member : In (V v.epoch) x.id.0) (middle : Between V st x.id.0 v.epoch) (members : member_numbers v.members ≡ V v.epoch) where
  -- the marks of an install: of the row, and of the update that was pending
  abbrev marks_at : Node → List Mark
  marks_at z = row_mark x.id.0 z ∷ pending_marks x.id.0 z (phase_of row.state row.pending)

  -- what is pending after it was pending before
  abbrev HadAll : Node → Type 0
  HadAll z = (p : WaitingUpdate) → Has z.phase p → In (pending_marks x.id.0 z (phase_of row.state row.pending)) (cover_mark x.id.0 z p.stamp)

  phase_source : (z : Node) (k : Mark) (ph : Phase) → ((p : WaitingUpdate) → Has ph p → In (pending_marks x.id.0 z (phase_of row.state row.pending)) (cover_mark x.id.0 z p.stamp)) → In (pending_marks x.id.0 z ph) k → In (pending_marks x.id.0 z (phase_of row.state row.pending)) k
  phase_source z k Valid f h = absurd h
  phase_source z k Invalid f h = absurd h
  phase_source z k (Write p) f h = ⊎_elim (λ (e : k ≡ cover_mark x.id.0 z p.stamp). rw e (f p refl)) (λ (none : ⊥). absurd none) h
  phase_source z k (Replay p) f h = ⊎_elim (λ (e : k ≡ cover_mark x.id.0 z p.stamp). rw e (f p refl)) (λ (none : ⊥). absurd none) h
  phase_source z k (Trans p) f h = ⊎_elim (λ (e : k ≡ cover_mark x.id.0 z p.stamp). rw e (f p refl)) (λ (none : ⊥). absurd none) h

  install_source : (z : Node) (ls : List Message) → z.epoch ≡ v.epoch → HadAll z → ack_marks x.id.0 z ls ≡ [] → (k : Mark) → In (step_marks x.id.0 (row_node x c row) z ls) k → In (marks_at z) k
  install_source z ls at_z had none k h =
      ⊎_elim
      (λ (a : In (moment_marks x.id.0 z) k). moment (rw (le-leb 1 z.epoch (rw at_z (omega (arith, later)))) at a))
      (λ (b : In (install_marks x.id.0 (row_node x c row) z ++ ack_marks x.id.0 z ls) k).
      ⊎_elim
      (λ (i : In (install_marks x.id.0 (row_node x c row) z) k). inr (rw (lt-ltb (epoch_of x) z.epoch (rw at_z later)) at i))
      (λ (n : In (ack_marks x.id.0 z ls) k). let none' : In [] k = rw none at n in absurd none')
      (in_either (install_marks x.id.0 (row_node x c row) z) (ack_marks x.id.0 z ls) k b)) (in_either (moment_marks x.id.0 z) (install_marks x.id.0 (row_node x c row) z ++ ack_marks x.id.0 z ls) k h)
    where
      moment : In (row_mark x.id.0 z ∷ pending_marks x.id.0 z z.phase) k → In (row_mark x.id.0 z ∷ pending_marks x.id.0 z (phase_of row.state row.pending)) k
      moment h = ⊎_elim inl (λ (p : In (pending_marks x.id.0 z z.phase) k). inr (phase_source z k z.phase had p)) h

  install_there : (z : Node) (ls : List Message) → z.epoch ≡ v.epoch → (k : Mark) → In (marks_at z) k → In (step_marks x.id.0 (row_node x c row) z ls) k
  install_there z ls at_z k h =
      ⊎_elim
      (λ (e : k ≡ row_mark x.id.0 z). rw e (row_first st x.id.0 z (rw at_z (omega (arith, later))) _))
      (λ (p : In (pending_marks x.id.0 z (phase_of row.state row.pending)) k).
      in_right (moment_marks x.id.0 z) _ k (in_left (install_marks x.id.0 (row_node x c row) z) _ k (rw (lt-ltb (epoch_of x) z.epoch (rw at_z later)) p))) h

  -- the change, with these marks
  view_change : (new : RegisterState) (z : Node) (ls ls' : List Message) (hs : List Item) → z.epoch ≡ v.epoch → HadAll z → ack_marks x.id.0 z ls ≡ [] → ((l : Message) → In ls l → In ls' l) →
      Change st new x.id.0 z ls (step_marks x.id.0 (row_node x c row) z ls) [] hs → Change st new x.id.0 z ls' (marks_at z) [] hs
  view_change new z ls ls' hs at_z had none sub ch =
      narrow st new x.id.0 z ls ls' (step_marks x.id.0 (row_node x c row) z ls) (marks_at z) [] hs sub (install_there z ls at_z) (λ k h. (k, itself k, inl (install_source z ls at_z had none k h))) ch

  pending_marks_at : (z : Node) (p : Pending) (state : State) → IsShaped state (Some p) → pending_marks x.id.0 z (phase_of state (Some p)) ≡ cover_mark x.id.0 z (tag_of p.stamp) ∷ []
  pending_marks_at z p State.Valid h = absurd (clash h)
    where
      clash : Some p ≡ None → ⊥
      clash e = cc
  pending_marks_at z p State.Invalid h = absurd (clash h)
    where
      clash : Some p ≡ None → ⊥
      clash e = cc
  pending_marks_at z p State.Write h = refl
  pending_marks_at z p State.Replay h = refl
  pending_marks_at z p State.Trans h = refl

  marks_of_pending : (z : Node) (p : Pending) → row.pending ≡ Some p → IsShaped row.state (Some p) → pending_marks x.id.0 z (phase_of row.state row.pending) ≡ cover_mark x.id.0 z (tag_of p.stamp) ∷ []
  marks_of_pending z p pending shaped = rw pending (pending_marks_at z p row.state shaped)

  -- what the row's step owes
  abbrev pub OwesView : Done → List Item → Type 0
  OwesView d hs =
      (new : RegisterState) → Change st new x.id.0 (row_node (viewing x v) c d.row) (letters_of key (sent (viewing x v) key d.row d.out.send)) (step_marks x.id.0 (row_node x c row) (row_node (viewing x v) c d.row) (letters_of key (sent (viewing x v) key d.row d.out.send))) [] hs → Effects V st new

  -- nothing is pending
  idle_view : row.pending ≡ None → OwesView (on_view_at None x.id v.members row) []
  idle_view pending new ch =
      let z : Node = row_node (viewing x v) c row in
      let idle : IsIdle (phase_of row.state row.pending) = rw pending (idle_phase row.state) in
      let none : (p : WaitingUpdate) → Has (phase_of row.state row.pending) p → ⊥ = λ p has. none_pending row.state p (rw pending at has) in
      let none_marked : pending_marks x.id.0 z (phase_of row.state row.pending) ≡ [] = ⊎_elim (λ (e : phase_of row.state row.pending ≡ Valid). rw e refl) (λ (e : phase_of row.state row.pending ≡ Invalid). rw e refl) idle in
      let ch1 = view_change new z [] [] [] refl (λ p has. absurd (none p has)) refl (λ l h. h) ch in
      let ch2 = subst (λ (ms : List Mark). Change st new x.id.0 z [] (row_mark x.id.0 z ∷ ms) [] []) none_marked ch1 in
      inl (Install x.id.0 v.epoch, record { allowed = (rw is later, member, middle, rw is idle); change = rw is ch2 })

  -- an update is: it goes out in the new epoch,
  module _ (p : Pending) (pending : row.pending ≡ Some p) (shaped : IsShaped row.state (Some p)) where
    abbrev first_marks : List Mark
    first_marks = row_mark x.id.0 (row_node (viewing x v) c row) ∷ cover_mark x.id.0 (row_node (viewing x v) c row) (tag_of p.stamp) ∷ []

    abbrev first_letters : List Message
    first_letters = Inv x.id.0 v.epoch (tag_of p.stamp) p.kind p.content ∷ []

    goes_out : (to : RegisterState) → Change st to x.id.0 (row_node (viewing x v) c (waiting row (unacked p))) first_letters first_marks [] [] → OneEffect V st to
    goes_out to ch =
        let phase : with_notes (phase_of row.state row.pending) [] ≡ phase_of row.state (Some (unacked p)) = rw pending (renoted row.state p (unacked p) refl) in
        let z : Node = row_node (viewing x v) c (waiting row (unacked p)) in
        let ch' = subst (λ (ph : Phase). Change st to x.id.0 (record z { phase = ph }) first_letters first_marks [] []) (sym phase) ch in
        (InstallPending x.id.0 v.epoch (pending_of p), record { allowed = (rw is later, member, middle, rw (is, pending) (shaped_has row.state p shaped)); change = rw is ch' })

    sends_view : OwesView (started_at false row (unacked p)) []
    sends_view new ch =
        let z : Node = row_node (viewing x v) c (waiting row (unacked p)) in
        let ns = addressees (viewing x v) (waiting row (unacked p)) Others in
        let ls = letters_of key (letters_to (viewing x v) (Body.Inv key p.stamp p.kind p.content) ns) in
        let ch1 = view_change new z ls first_letters [] refl (λ q has. rw (marks_of_pending z p pending shaped, ← has_is row.state (unacked p) q has) (inl refl)) (inv_no_acks key (viewing x v) x.id.0 z p.stamp p.kind p.content ns) (inv_within key (viewing x v) p.stamp p.kind p.content ns) ch in
        inl (goes_out new (subst (λ (ms : List Mark). Change st new x.id.0 z first_letters (row_mark x.id.0 z ∷ ms) [] []) (marks_of_pending z p pending shaped) ch1))

    -- and completes at once where the node is alone
    ends_view : IfSome p.reply (λ r. IsTrue (is_answered (Some r.answer))) → all_noted x.id v.members [] ≡ true → (b : Bool) → eqb (tag_of row.stamp) (tag_of p.stamp) ≡ b →
        OwesView (completed_at b true row (unacked p)) (told V st parts key x c row is (completed_at b true row (unacked p)))
    ends_view answered a b eb new ch =
        let q = unacked p in
        let ended = completed_at b true row q in
        let z : Node = row_node (viewing x v) c ended.row in
        let ls = letters_of key (sent (viewing x v) key ended.row ended.out.send) in
        let answers = answer_of p.reply (tag_of p.stamp) in
        let ms = row_mark x.id.0 z ∷ cover_mark x.id.0 z (tag_of p.stamp) ∷ [] in
        let ch1 = view_change new z ls ls (told V st parts key x c row is ended) refl (λ k has. absurd (completed_calm b true row q k has)) (completed_acks key (viewing x v) x.id.0 z b true row q) (λ l h. h) ch in
        let ch2 = subst (λ (l : List Mark). Change st new x.id.0 z ls (row_mark x.id.0 z ∷ l) [] (told V st parts key x c row is ended)) (marks_of_pending z p pending shaped) ch1 in
        let ch3 : Change st new x.id.0 z ls ms [] answers = subst (λ (hs : List Item). Change st new x.id.0 z ls ms [] hs) (told_completed V st parts key x c row is b true p [] pending shaped answered) ch2 in
        let ch4 : Change st new x.id.0 z ls ms [] (answers ++ []) = subst (λ (hs : List Item). Change st new x.id.0 z ls ms [] hs) (sym (append-nil answers)) ch3 in
        let own : ms ≡ first_marks = ap (λ (t : Stamp). record (row_mark x.id.0 z) { stamp = tag_of t } ∷ cover_mark x.id.0 z (tag_of p.stamp) ∷ []) (completed_stamp b true row q) in
        let noted : AllNoted V v.epoch x.id.0 [] = λ m h other. all_noted_true x.id v.members [] a m (rw members h) other in
        let mid = mid_state st x.id.0 (row_node (viewing x v) c (waiting row q)) first_letters first_marks [] [] in
        inr (
          mid,
          goes_out mid (mid_change st x.id.0 (row_node (viewing x v) c (waiting row q)) first_letters first_marks [] []),
          then_completes V st key (viewing x v) c row q first_letters first_marks ms [] [] refl (reshaped row.state p q shaped) noted b true eb refl new
              (λ k h. subst (λ (l : List Mark). In l k) (sym own) h) (λ k h. subst (λ (l : List Mark). In l k) own h) ch4,
        )

    starts_view : IfSome p.reply (λ r. IsTrue (is_answered (Some r.answer))) → (all : Bool) → all_noted x.id v.members [] ≡ all →
        OwesView (started_at all row (unacked p)) (told V st parts key x c row is (started_at all row (unacked p)))
    starts_view answered false a = sends_view
    starts_view answered true a = ends_view answered a (eqb (tag_of row.stamp) (tag_of p.stamp)) refl

  pub view_step : (o : Option Pending) → row.pending ≡ o → IsShaped row.state o → IfSome o (λ p. IfSome p.reply (λ r. IsTrue (is_answered (Some r.answer)))) →
      OwesView (on_view_at o x.id v.members row) (told V st parts key x c row is (on_view_at o x.id v.members row))
  view_step None pending shaped answered = idle_view pending
  view_step (Some p) pending shaped answered = starts_view p pending shaped answered (all_noted x.id v.members []) refl
