-- The steps of a row are effects on its key.
use Rattle.std.proofs.Common.{◌≡◌, ℕ, Bool, true, false, cond, List, [], ◌∷◌, map, ◌≤◌, ◌∙◌, sym, refl, ap, subst, inl, inr, ⊎_elim, arith, Option, Some, None, eqb, nat_cmp, append-nil, IfSome, IsTrue}
use Rattle.std.proofs.Common.{Ordering, Less, Equal, Greater}
use Rattle.std.proofs.lemmas.Bool.{eqb-true}
use Rattle.std.proofs.lemmas.Cmp.{ranked}
use Rattle.hk_base.specs.declared.stamp.Stamp.{Stamp}
use Rattle.hk_base.specs.declared.stamp.NodeId.{NodeId}
use Rattle.hk_base.specs.declared.stamp.Kind.{Kind}
use Rattle.hk_base.specs.declared.stamp.Kind.TheVariants as Kind
use Rattle.hk_base.specs.declared.call.State.{State}
use Rattle.hk_base.specs.declared.call.State.TheVariants as State
use Rattle.hk_base.specs.declared.call.Content.{Content}
use Rattle.hk_base.specs.declared.call.Answer.TheVariants.{Aborted}
use Rattle.hk_base.specs.declared.letter.Body.{Body}
use Rattle.hk_base.specs.declared.letter.Body.TheVariants as Body
use Rattle.hk_base.specs.Stamp.{tag_of}
use Rattle.hk_base.specs.View.{member_numbers}
use Rattle.hk_history.specs.History.{is_answered}
use Rattle.hk_key.specs.declared.acks.Ack.{Ack}
use Rattle.hk_key.specs.declared.row.Pending.{Pending}
use Rattle.hk_key.specs.declared.row.Row.{Row}
use Rattle.hk_key.specs.declared.out.Aim.TheVariants.{NotAcked}
use Rattle.hk_key.specs.Notes.{all_noted, all_exact, note_in}
use Rattle.hk_key.specs.Table.{Done, still, on_inv_at, validated, on_val_at, resend_at, with_acks, noted_at, completed_at, on_ack_at}
use Rattle.hk_register.specs.Machine.{In, Marked, WaitingUpdate, Phase, Node, Message, Mark, Update, Item, RegisterState}
use Rattle.hk_register.specs.Machine.Phase.{Invalid}
use Rattle.hk_register.specs.Facts.{ReadyCovers}
use Rattle.hk_register.specs.Effects.{Change, Has, AllNoted, overtaken, dropped, with_notes, answer_of, row_mark, cover_mark}
use Rattle.hk_register.specs.Effects.Effect.{TakeInv, AckInv, CounterInv, NoteAck, Settle, FinishValid, FinishInvalid, TakeVal, KeepVal, Resend, Quiet}
use Rattle.hk_register.specs.Parts.{Parts}
use Rattle.hk_node.specs.Node.{NodeState, epoch_of, members_of}
use Rattle.hk_node.specs.Sends.{letters_to, pending_body, addressees, sent}
use Rattle.hk_effects.specs.Projection.{note_of, pending_of, phase_of, row_node, letters_of, pending_stamp, ack_marks, step_marks}
use Rattle.hk_effects.specs.Laws.{OneEffect, Effects}
use Rattle.hk_effects.proofs.Frames.{itself, narrow}
use Rattle.hk_effects.proofs.Marks.{Sourced, row_is_new, acks_are_new, own_pending}
use Rattle.hk_effects.proofs.TwoEffects.{mid_state, at_mid, mid_change, second_change}
use Rattle.hk_effects.proofs.Sends.{ack_is, inv_within, inv_no_acks, val_within, val_no_acks}
use Rattle.hk_effects.proofs.Replies.{reply_items, answers_are}
use Rattle.hk_effects.proofs.Shapes.{IsShaped, reshaped, shaped_has, shaped_stamp, renoted, has_is, overtaken_is, dropped_is, overtaken_has, all_noted_true, all_exact_true, notes_after, completed_calm, completed_stamp, completed_reply, completed_same}

-- The letters of a completion.
abbrev pub ends : NodeState → Pending → List Message
ends x p = Message.Val x.id.0 (epoch_of x) (tag_of p.stamp) ∷ []

pub completed_letters : (key : List ℕ) (x : NodeState) (b d : Bool) (row : Row) (p : Pending) (l : Message) → In (letters_of key (sent x key (completed_at b d row p).row (completed_at b d row p).out.send)) l → In (ends x p) l
completed_letters key x true true row p l h = val_within key x p.stamp _ l h
completed_letters key x true false row p l h = absurd h
completed_letters key x false d row p l h = absurd h

pub completed_acks : (key : List ℕ) (x : NodeState) (id : ℕ) (z : Node) (b d : Bool) (row : Row) (p : Pending) → ack_marks id z (letters_of key (sent x key (completed_at b d row p).row (completed_at b d row p).out.send)) ≡ []
completed_acks key x id z true true row p = val_no_acks key x id z p.stamp _
completed_acks key x id z true false row p = refl
completed_acks key x id z false d row p = refl

fewer_letters : (st new : RegisterState) (n : ℕ) (z : Node) (ls ls' : List Message) (ms : List Mark) (us : List Update) (hs : List Item) → ((l : Message) → In ls l → In ls' l) → Change st new n z ls ms us hs → Change st new n z ls' ms us hs
fewer_letters st new n z ls ls' ms us hs sub ch = narrow st new n z ls ls' ms ms us hs sub (λ k h. h) (λ k h. (k, itself k, inl h)) ch

-- An update completes at a row that has it pending: one effect.
pub complete_effect : (V : ℕ → List ℕ) (st : RegisterState) (x : NodeState) (c : Bool) (key : List ℕ) (row : Row) (p : Pending) → st.node x.id.0 ≡ row_node x c row → row.pending ≡ Some p → IsShaped row.state (Some p) →
    AllNoted V (epoch_of x) x.id.0 (map note_of p.acks) → (b d : Bool) → eqb (tag_of row.stamp) (tag_of p.stamp) ≡ b → all_exact p.acks ≡ d →
    (new : RegisterState) → Change st new x.id.0 (row_node x c (completed_at b d row p).row) (letters_of key (sent x key (completed_at b d row p).row (completed_at b d row p).out.send)) [] [] (answer_of p.reply (tag_of p.stamp)) → OneEffect V st new
complete_effect V st x c key row p is pending shaped noted true true same exact new ch = (
  Settle x.id.0 (pending_of p),
  record {
    allowed = (rw (is, pending) (shaped_has row.state p shaped), rw is noted, rw is (sym (eqb-true (tag_of row.stamp) (tag_of p.stamp) same)), all_exact_true p.acks exact);
    change = rw is (fewer_letters st new x.id.0 (row_node x c (completed_at true true row p).row) _ (ends x p) [] [] (answer_of p.reply (tag_of p.stamp)) (completed_letters key x true true row p) ch);
  },
)
complete_effect V st x c key row p is pending shaped noted true false same exact new ch =
    (FinishInvalid x.id.0 (pending_of p), record { allowed = (rw (is, pending) (shaped_has row.state p shaped), rw is noted); change = rw is ch })
complete_effect V st x c key row p is pending shaped noted false d same exact new ch = by_kept row.kept_val refl ch
  where
    by_kept : (k : Bool) → row.kept_val ≡ k → Change st new x.id.0 (row_node x c (record row { state = cond k State.Valid State.Invalid; pending = None })) [] [] [] (answer_of p.reply (tag_of p.stamp)) → OneEffect V st new
    by_kept true e ch = (FinishValid x.id.0 (pending_of p), record { allowed = (rw (is, pending) (shaped_has row.state p shaped), rw is noted, rw is e); change = rw is ch })
    by_kept false e ch = (FinishInvalid x.id.0 (pending_of p), record { allowed = (rw (is, pending) (shaped_has row.state p shaped), rw is noted); change = rw is ch })

module _ (V : ℕ → List ℕ) (st : RegisterState) (parts : Parts V st) (key : List ℕ) (x : NodeState) (c : Bool) (row : Row) (is : st.node x.id.0 ≡ row_node x c row) where
  abbrev pub nd : Node
  nd = row_node x c row

  -- what a step of the row owes
  abbrev pub Owes : Done → List Update → List Item → Type 0
  Owes d us hs =
      (new : RegisterState) → Change st new x.id.0 (row_node x c d.row) (letters_of key (sent x key d.row d.out.send)) (step_marks x.id.0 nd (row_node x c d.row) (letters_of key (sent x key d.row d.out.send))) us hs → Effects V st new

  -- what it says of the update that was pending
  abbrev pub told : Done → List Item
  told d = reply_items (pending_stamp (phase_of row.state row.pending)) d.out.reply

  pub told_completed : (b d : Bool) (p : Pending) (acks : List Ack) → row.pending ≡ Some p → IsShaped row.state (Some p) → IfSome p.reply (λ r. IsTrue (is_answered (Some r.answer))) →
      told (completed_at b d row (with_acks p acks)) ≡ answer_of p.reply (tag_of p.stamp)
  told_completed b d p acks pending shaped answered =
      let stamp : pending_stamp (phase_of row.state row.pending) ≡ tag_of p.stamp = rw pending (shaped_stamp row.state p shaped) in
      ap (reply_items (pending_stamp (phase_of row.state row.pending))) (completed_reply b d row (with_acks p acks)) ∙ (ap (λ (n : ℕ). reply_items n p.reply) stamp ∙ answers_are (tag_of p.stamp) p.reply answered)

  pub pending_covers : (p : WaitingUpdate) → Has (phase_of row.state row.pending) p → ReadyCovers st x.id.0 (epoch_of x) p.stamp
  pending_covers p has = let w = own_pending V st parts x.id.0 p (rw is has) in rw is at w.covers

  pub sourced : Sourced st x.id.0 nd
  sourced p has = inr (pending_covers p has)

  -- the row's mark is old, where the stamp is
  pub old_row : (r : Row) → r.stamp ≡ row.stamp → 1 ≤ epoch_of x → Marked st (row_mark x.id.0 (row_node x c r))
  old_row r same some =
      let own : row_mark x.id.0 (row_node x c r) ≡ row_mark x.id.0 (st.node x.id.0) = rw (is, same) refl in
      rw own ((parts.nodes x.id.0).marked (rw is some))

  -- nothing but what was there is marked
  pub plain_change : (r : Row) (ls ls' : List Message) (hs : List Item) (new : RegisterState) → r.stamp ≡ row.stamp → Sourced st x.id.0 (row_node x c r) → ack_marks x.id.0 (row_node x c r) ls ≡ [] → ((l : Message) → In ls l → In ls' l) →
      Change st new x.id.0 (row_node x c r) ls (step_marks x.id.0 nd (row_node x c r) ls) [] hs → Change st new x.id.0 (row_node x c r) ls' [] [] hs
  plain_change r ls ls' hs new same ok none sub ch =
      subst (λ (ms : List Mark). Change st new x.id.0 (row_node x c r) ls' ms [] hs) none
      (acks_are_new st x.id.0 (row_node x c r) new nd ls ls ls' [] hs (λ some. old_row r same some) refl ok sub ch)

  pub quiet_step : Owes (still row) [] []
  quiet_step new ch = inl (Quiet x.id.0, record { allowed = tt; change = rw is (plain_change row [] [] [] new refl sourced refl (λ l h. h) ch) })

  -- an ACK to one, and the row as it was
  acked_change : (n : NodeId) (s top : Stamp) (new : RegisterState) → tag_of top ≡ tag_of row.stamp → Change st new x.id.0 nd (letters_of key (letters_to x (Body.Ack key s top) (n ∷ []))) (step_marks x.id.0 nd nd (letters_of key (letters_to x (Body.Ack key s top) (n ∷ [])))) [] [] →
      Change st new x.id.0 nd (Message.Ack x.id.0 (epoch_of x) (tag_of s) (tag_of row.stamp) ∷ []) (cover_mark x.id.0 nd (tag_of s) ∷ []) [] []
  acked_change n s top new same ch =
      let ls = letters_of key (letters_to x (Body.Ack key s top) (n ∷ [])) in
      let ack : ls ≡ Message.Ack x.id.0 (epoch_of x) (tag_of s) (tag_of row.stamp) ∷ [] = ack_is key x s top n ∙ ap (λ (t : ℕ). Message.Ack x.id.0 (epoch_of x) (tag_of s) t ∷ []) same in
      subst (λ (ls : List Message). Change st new x.id.0 nd ls (ack_marks x.id.0 nd ls) [] []) ack
      (acks_are_new st x.id.0 nd new nd ls ls ls [] [] (λ some. old_row row refl some) refl sourced (λ l h. h) ch)

  -- INVs to any
  pub inv_change : (r : Row) (s : Stamp) (kind : Kind) (content : Option Content) (ns : List NodeId) (hs : List Item) (new : RegisterState) → r.stamp ≡ row.stamp → Sourced st x.id.0 (row_node x c r) →
      Change st new x.id.0 (row_node x c r) (letters_of key (letters_to x (Body.Inv key s kind content) ns)) (step_marks x.id.0 nd (row_node x c r) (letters_of key (letters_to x (Body.Inv key s kind content) ns))) [] hs →
      Change st new x.id.0 (row_node x c r) (Message.Inv x.id.0 (epoch_of x) (tag_of s) kind content ∷ []) [] [] hs
  inv_change r s kind content ns hs new same ok ch =
      plain_change r (letters_of key (letters_to x (Body.Inv key s kind content) ns)) (Message.Inv x.id.0 (epoch_of x) (tag_of s) kind content ∷ []) hs new same ok (inv_no_acks key x x.id.0 (row_node x c r) s kind content ns) (inv_within key x s kind content ns) ch

  -- an INV
  pub inv_step : (from : NodeId) (s : Stamp) (kind : Kind) (content : Option Content) (o : Ordering) → o ≡ nat_cmp (tag_of row.stamp) (tag_of s) → 1 ≤ epoch_of x → In st.letters (Message.Inv from.0 (epoch_of x) (tag_of s) kind content) →
      Owes (on_inv_at o row from s kind content) [] (told (on_inv_at o row from s kind content))
  inv_step from s kind content Less rank some sent_so new ch =
      let below = ranked (tag_of row.stamp) (tag_of s) Less rank in
      let r : Row = (on_inv_at Less row from s kind content).row in
      let z : Node = record nd { phase = overtaken (phase_of row.state row.pending); stamp = tag_of s; kind = kind; content = content; kept_val = false } in
      let node : row_node x c r ≡ z = ap (λ (ph : Phase). record z { phase = ph }) (overtaken_is row.state row.pending) in
      let ls = letters_of key (sent x key r (on_inv_at Less row from s kind content).out.send) in
      let hs = told (on_inv_at Less row from s kind content) in
      let acks = Message.Ack x.id.0 (epoch_of x) (tag_of s) (tag_of s) ∷ [] in
      let ack : ls ≡ acks = ack_is key x s s from in
      let ok : Sourced st x.id.0 z = λ p has. inr (pending_covers p (overtaken_has (phase_of row.state row.pending) p has)) in
      let ch1 : Change st new x.id.0 z ls (step_marks x.id.0 nd z ls) [] hs = subst (λ (y : Node). Change st new x.id.0 y ls (step_marks x.id.0 nd y ls) [] hs) node ch in
      let ch2 : Change st new x.id.0 z acks (row_mark x.id.0 z ∷ []) [] hs =
      row_is_new st x.id.0 z new nd ls ls acks [] hs some refl ok (λ l h. rw ack at h)
      (λ k h. let h' : In (ack_marks x.id.0 z acks) k = rw ack at h in ⊎_elim (λ (e : k ≡ cover_mark x.id.0 z (tag_of s)). e) (λ (none : ⊥). absurd none) h') ch1 in
      let ch3 : Change st new x.id.0 z acks (row_mark x.id.0 z ∷ []) [] (dropped (phase_of row.state row.pending) (Aborted s)) =
      subst (λ (hs : List Item). Change st new x.id.0 z acks (row_mark x.id.0 z ∷ []) [] hs) (dropped_is row.state row.pending s) ch2 in
      inl (TakeInv x.id.0 from.0 (tag_of s) kind content (Aborted s), record { allowed = (rw is sent_so, rw is below, rw is some, refl); change = rw is ch3 })
  inv_step from s kind content Equal rank some sent_so new ch =
      let same = ranked (tag_of row.stamp) (tag_of s) Equal rank in
      inl (AckInv x.id.0 from.0 (tag_of s) kind content, record { allowed = (rw is sent_so, rw is (omega (arith, same)), rw is some, inr (rw is (sym same))); change = rw is (acked_change from s s new (sym same) ch) })
  inv_step from s Kind.Write content Greater rank some sent_so new ch =
      let above = ranked (tag_of row.stamp) (tag_of s) Greater rank in
      inl (AckInv x.id.0 from.0 (tag_of s) Kind.Write content, record { allowed = (rw is sent_so, rw is (omega (arith, above)), rw is some, inl refl); change = rw is (acked_change from s row.stamp new refl ch) })
  inv_step from s Kind.Rmw content Greater rank some sent_so new ch =
      let above = ranked (tag_of row.stamp) (tag_of s) Greater rank in
      inl (CounterInv x.id.0 from.0 (tag_of s) Kind.Rmw content, record { allowed = (rw is sent_so, rw is above, rw is some); change = rw is (inv_change row row.stamp row.kind row.content (from ∷ []) [] new refl sourced ch) })

  -- a VAL
  pub val_step : (from : NodeId) (s : Stamp) (b : Bool) → eqb (tag_of row.stamp) (tag_of s) ≡ b → In st.letters (Message.Val from.0 (epoch_of x) (tag_of s)) → Owes (still (on_val_at b row)) [] []
  val_step from s false unlike sent_so new ch = quiet_step new ch
  val_step from s true same sent_so new ch = by_state row.state refl new ch
    where
      at_row : tag_of row.stamp ≡ tag_of s
      at_row = eqb-true (tag_of row.stamp) (tag_of s) same

      by_state : (state : State) → row.state ≡ state → Owes (still (validated state row)) [] []
      by_state State.Valid at new ch = quiet_step new ch
      by_state State.Write at new ch = quiet_step new ch
      by_state State.Replay at new ch = quiet_step new ch
      by_state State.Invalid at new ch =
          let phase : nd.phase ≡ Invalid = rw at refl in
          inl (TakeVal x.id.0 from.0, record { allowed = (rw (is, at_row) sent_so, rw is phase); change = rw is (plain_change (validated State.Invalid row) [] [] [] new refl (λ p no_pending. absurd no_pending) refl (λ l h. h) ch) })
      by_state State.Trans at new ch =
          inl (KeepVal x.id.0 from.0, record { allowed = rw (is, at_row) sent_so; change = rw is (plain_change (validated State.Trans row) [] [] [] new refl sourced refl (λ l h. h) ch) })

  -- a resend
  pub resend_step : (p : Option Pending) → row.pending ≡ p → IsShaped row.state p → Owes (resend_at p row) [] []
  resend_step None pending shaped new ch = quiet_step new ch
  resend_step (Some p) pending shaped new ch =
      let ns = addressees x row NotAcked in
      let ch' = subst (λ (b : Body). Change st new x.id.0 nd (letters_of key (letters_to x b ns)) (step_marks x.id.0 nd nd (letters_of key (letters_to x b ns))) [] []) (ap (pending_body key row) pending) ch in
      inl (Resend x.id.0 (pending_of p), record { allowed = rw (is, pending) (shaped_has row.state p shaped); change = rw is (inv_change row p.stamp p.kind p.content ns [] new refl sourced ch') })

  -- an ACK
  pub ack_step : (from : NodeId) (s top : Stamp) (p : Pending) → row.pending ≡ Some p → IsShaped row.state (Some p) → IfSome p.reply (λ r. IsTrue (is_answered (Some r.answer))) →
      In st.letters (Message.Ack from.0 (epoch_of x) (tag_of s) (tag_of top)) → In (V (epoch_of x)) from.0 → member_numbers (members_of x) ≡ V (epoch_of x) →
      (b : Bool) → eqb (tag_of s) (tag_of p.stamp) ≡ b → (ex : Bool) → eqb (tag_of top) (tag_of s) ≡ ex →
      Owes (on_ack_at b ex x.id (members_of x) row p from) [] (told (on_ack_at b ex x.id (members_of x) row p from))
  ack_step from s top p pending shaped answered sent_so member members false e ex et new ch = quiet_step new ch
  ack_step from s top p pending shaped answered sent_so member members true e ex et new ch = by_all (all_noted x.id (members_of x) (note_in from ex p.acks)) refl new ch
    where
      q : Pending
      q = with_acks p (note_in from ex p.acks)

      same : tag_of s ≡ tag_of p.stamp
      same = eqb-true (tag_of s) (tag_of p.stamp) e

      noted_effect : (to : RegisterState) → Change st to x.id.0 (row_node x c (record row { pending = Some (with_acks p (note_in from ex p.acks)) })) [] [] [] [] → OneEffect V st to
      noted_effect to ch =
          let ns = map note_of (note_in from ex p.acks) in
          let phase : with_notes (phase_of row.state row.pending) ns ≡ phase_of row.state (Some (with_acks p (note_in from ex p.acks))) = rw pending (renoted row.state p (with_acks p (note_in from ex p.acks)) refl) in
          let ch' : Change st to x.id.0 (record nd { phase = with_notes (phase_of row.state row.pending) ns }) [] [] [] [] = subst (λ (ph : Phase). Change st to x.id.0 (record nd { phase = ph }) [] [] [] []) (sym phase) ch in (
            NoteAck x.id.0 from.0 (tag_of top) (pending_of p) ns,
            record {
              allowed = (
                rw (is, ← same) sent_so,
                rw (is, pending) (shaped_has row.state p shaped),
                rw is member,
                rw (← same) (notes_after from (tag_of s) (tag_of top) ex (λ h. eqb-true (tag_of top) (tag_of s) (et ∙ h)) p.acks),
              );
              change = rw is ch';
            },
          )

      by_all : (all : Bool) → all_noted x.id (members_of x) (note_in from ex p.acks) ≡ all →
          Owes (noted_at all row (with_acks p (note_in from ex p.acks))) [] (told (noted_at all row (with_acks p (note_in from ex p.acks))))
      by_all false a new ch =
          inl (noted_effect new (plain_change (record row { pending = Some (with_acks p (note_in from ex p.acks)) }) [] [] [] new refl
          (λ r has. inr (subst (λ (z : WaitingUpdate). ReadyCovers st x.id.0 (epoch_of x) z.stamp) (has_is row.state (with_acks p (note_in from ex p.acks)) r has) (pending_covers (pending_of p) (rw pending (shaped_has row.state p shaped))))) refl (λ l h. h) ch))
      by_all true a new ch = by_tests (eqb (tag_of row.stamp) (tag_of p.stamp)) refl (all_exact (note_in from ex p.acks)) refl ch
        where
          by_tests : (b : Bool) → eqb (tag_of row.stamp) (tag_of p.stamp) ≡ b → (d : Bool) → all_exact (note_in from ex p.acks) ≡ d →
              Change st new x.id.0 (row_node x c (completed_at b d row (with_acks p (note_in from ex p.acks))).row) (letters_of key (sent x key (completed_at b d row (with_acks p (note_in from ex p.acks))).row (completed_at b d row (with_acks p (note_in from ex p.acks))).out.send))
              (step_marks x.id.0 nd (row_node x c (completed_at b d row (with_acks p (note_in from ex p.acks))).row) (letters_of key (sent x key (completed_at b d row (with_acks p (note_in from ex p.acks))).row (completed_at b d row (with_acks p (note_in from ex p.acks))).out.send))) []
              (told (completed_at b d row (with_acks p (note_in from ex p.acks)))) → Effects V st new
          by_tests b eb d ed ch =
              let qq = with_acks p (note_in from ex p.acks) in
              let rq : Row = record row { pending = Some qq } in
              let ended = completed_at b d row qq in
              let answers = answer_of p.reply (tag_of p.stamp) in
              let ls = letters_of key (sent x key ended.row ended.out.send) in
              let whole : Change st new x.id.0 (row_node x c ended.row) ls [] [] answers =
              subst (λ (hs : List Item). Change st new x.id.0 (row_node x c ended.row) ls [] [] hs) (told_completed b d p (note_in from ex p.acks) pending shaped answered)
              (plain_change ended.row _ _ _ new (completed_stamp b d row qq) (λ r has. absurd (completed_calm b d row qq r has)) (completed_acks key x x.id.0 (row_node x c ended.row) b d row qq) (λ l h. h) ch) in
              let mid = mid_state st x.id.0 (row_node x c rq) [] [] [] [] in
              let second = second_change st new x.id.0 (row_node x c rq) (row_node x c ended.row) [] ls [] [] [] [] answers (subst (λ (hs : List Item). Change st new x.id.0 (row_node x c ended.row) ls [] [] hs) (sym (append-nil answers)) whole) (λ k h. absurd h) in
              inr (
                mid,
                noted_effect mid (mid_change st x.id.0 (row_node x c rq) [] [] [] []),
                complete_effect V mid x c key rq qq (at_mid st x.id.0 (row_node x c rq) [] [] [] []) refl (reshaped row.state p qq shaped)
                    (λ m h other. all_noted_true x.id (members_of x) qq.acks a m (rw members h) other) b d eb ed new (subst (λ (w : Done). Change mid new x.id.0 (row_node x c w.row) (letters_of key (sent x key w.row w.out.send)) [] [] answers) (sym (completed_same b d row qq)) second),
              )
