-- To give a batch is an effect of each key that it covers.
use Rattle.std.proofs.Common.{◌≡◌, ℕ, Bool, true, false, cond, List, [], ◌∷◌, refl, subst, inl, Option, Some, None}
use Rattle.std.proofs.lemmas.Bool.{false≢true}
use Rattle.hk_base.specs.declared.stamp.NodeId.{NodeId}
use Rattle.hk_base.specs.declared.call.State.{State}
use Rattle.hk_base.specs.declared.call.State.TheVariants as State
use Rattle.hk_base.specs.declared.letter.Body.TheVariants.{CopyGive}
use Rattle.hk_base.specs.Stamp.{tag_of}
use Rattle.hk_copy.specs.Batches.{is_nil}
use Rattle.hk_key.specs.declared.row.Pending.{Pending}
use Rattle.hk_register.specs.Machine.{Node, Message, RegisterState}
use Rattle.hk_register.specs.Machine.Phase.{Valid}
use Rattle.hk_register.specs.Machine.Message.{Give}
use Rattle.hk_register.specs.Effects.{Change}
use Rattle.hk_register.specs.Effects.Effect.{GiveRow}
use Rattle.hk_register.specs.Parts.{Parts}
use Rattle.hk_node.specs.Rows.{row_at}
use Rattle.hk_node.specs.Node.{NodeState, epoch_of}
use Rattle.hk_node.specs.Sends.{letters_to}
use Rattle.hk_node.specs.Sound.{IsNode}
use Rattle.hk_node.specs.Stepped.{Stepped, idle}
use Rattle.hk_node.specs.Copies.{is_valid, batch_behind, gives_copy}
use Rattle.hk_effects.specs.Projection.{key_node, phase_of, has_copied, covers, letters_of, step_marks}
use Rattle.hk_effects.proofs.Marks.{acks_are_new}
use Rattle.hk_effects.proofs.Steps.{sourced, old_row}
use Rattle.hk_effects.proofs.Nodes.{OwesStep, quiet_node, idle_step}
use Rattle.hk_effects.proofs.Batches.{batch_tells}

valid_phase : (state : State) (p : Option Pending) → is_valid state ≡ true → phase_of state p ≡ Valid
valid_phase State.Valid p e = refl
valid_phase State.Invalid p e = absurd (false≢true e)
valid_phase State.Write p e = absurd (false≢true e)
valid_phase State.Replay p e = absurd (false≢true e)
valid_phase State.Trans p e = absurd (false≢true e)

module _ (V : ℕ → List ℕ) (st : RegisterState) (parts : Parts V st) (key : List ℕ) (x : NodeState) (is : st.node x.id.0 ≡ key_node key (Some x)) where
  -- what a batch sends
  abbrev giving : NodeId → Option (List ℕ) → ℕ → Stepped
  giving to after room = record { node = x; letters = letters_to x (CopyGive after (is_nil (batch_behind x after room).left) (batch_behind x after room).taken) (to ∷ []); told = []; installed = None }

  -- of a key that it covers a batch is one letter, of the giver's row
  gives_row : (to : NodeId) (after : Option (List ℕ)) (room : ℕ) → IsNode x → x.ready ≡ true → (b : Bool) → covers key after (is_nil (batch_behind x after room).left) (batch_behind x after room).taken ≡ b → OwesStep V st parts key x is (giving to after room)
  gives_row to after room ok ready false e new ch = quiet_node V st parts key x is (giving to after room) [] refl (rw e refl) refl new ch
  gives_row to after room ok ready true e new ch =
      let z : Node = key_node key (Some x) in
      let row = row_at key x.rows in
      let tells = batch_tells key x after room ok e in
      let give = Give x.id.0 (epoch_of x) (tag_of row.stamp) row.kind row.content (is_valid row.state) ∷ [] in
      let letters : letters_of key (giving to after room).letters ≡ give = rw (e, tells.stamp, tells.kind, tells.content, tells.valid) refl in
      let ch1 : Change st new x.id.0 z give (step_marks x.id.0 z z give) [] [] = subst (λ (ls : List Message). Change st new x.id.0 z ls (step_marks x.id.0 z z ls) [] []) letters ch in
      let ch2 : Change st new x.id.0 z give [] [] [] = acks_are_new st x.id.0 z new z give give give [] [] (λ some. old_row V st parts key x (has_copied x key) row is row refl some) refl (sourced V st parts key x (has_copied x key) row is) (λ l h. h) ch1 in
      inl (GiveRow x.id.0 (is_valid row.state), record { allowed = (rw is ready, λ v. rw is (valid_phase row.state row.pending v)); change = rw is ch2 })

  -- a node gives a batch, if it is ready
  pub gives_step : (to : NodeId) (after : Option (List ℕ)) (room : ℕ) → IsNode x → OwesStep V st parts key x is (gives_copy x to after room)
  gives_step to after room ok = by_ready x.ready refl
    where
      by_ready : (b : Bool) → x.ready ≡ b → OwesStep V st parts key x is (cond b (record { node = x; letters = letters_to x (CopyGive after (is_nil (batch_behind x after room).left) (batch_behind x after room).taken) (to ∷ []); told = []; installed = None }) (idle x))
      by_ready true ready = gives_row to after room ok ready (covers key after (is_nil (batch_behind x after room).left) (batch_behind x after room).taken) refl
      by_ready false ready = idle_step V st parts key x is
