-- What live nodes of a world owe where they give a batch, take one or install a view.
use Rattle.std.proofs.Common.{◌≡◌, ℕ, Bool, true, false, cond, not, ◌&&◌, List, [], map, ◌≤◌, ◌<◌, ◌∙◌, sym, refl, ap, subst, inl, arith, Option, Some, None, IfSome, IsTrue, ltb}
use Rattle.std.specs.Option.{option_or}
use Rattle.std.proofs.lemmas.Bool.{false≢true, and_parts, lt-ltb}
use Rattle.hk_base.specs.declared.stamp.NodeId.{NodeId}
use Rattle.hk_base.specs.declared.view.View.{View}
use Rattle.hk_base.specs.declared.letter.Actor.TheVariants as Actor
use Rattle.hk_base.specs.declared.letter.Body.TheVariants.{CopyGive}
use Rattle.hk_base.specs.declared.letter.CopyItem.{CopyItem}
use Rattle.hk_base.specs.declared.letter.Letter.{Letter}
use Rattle.hk_base.specs.View.{member_numbers, is_member}
use Rattle.hk_history.specs.History.{is_answered}
use Rattle.hk_copy.specs.Batches.{last_key}
use Rattle.hk_key.specs.declared.row.Pending.{Pending}
use Rattle.hk_key.specs.Table.{on_view}
use Rattle.hk_register.specs.Machine.{In, Node, Message, Update, Item, RegisterState}
use Rattle.hk_register.specs.Effects.{Change, Between}
use Rattle.hk_register.specs.Parts.{Parts}
use Rattle.hk_node.specs.Rows.{row_at}
use Rattle.hk_node.specs.Node.{NodeState, epoch_of, epoch_in, members_of}
use Rattle.hk_node.specs.Sends.{sent}
use Rattle.hk_node.specs.Sound.{IsNode}
use Rattle.hk_node.specs.Stepped.{Stepped, idle}
use Rattle.hk_node.specs.Copies.{is_next, merged}
use Rattle.hk_node.specs.Steps.{installed_in}
use Rattle.hk_effects.specs.Projection.{key_node, row_node, has_copied, pending_stamp, letters_of, told_at, reply_item, updates_of, step_marks, Trace, project}
use Rattle.hk_effects.specs.Own.{IsChain, IsNodeOf, IsPendingOf, IsTold, IsOwn, IsTrace, Agrees}
use Rattle.hk_effects.proofs.Order.{same_true}
use Rattle.hk_effects.proofs.Processes.{in_members}
use Rattle.hk_effects.proofs.Replies.{reply_items, told_own, reply_alone_begins_none}
use Rattle.hk_effects.proofs.Shapes.{IsShaped, shaped_of_holds}
use Rattle.hk_effects.proofs.Nodes.{OwesStep, told_items, idle_step}
use Rattle.hk_effects.proofs.Rests.{letter_sent, row_sound, own_view, in_some}
use Rattle.hk_effects.proofs.Rising.{rows_rise, items_rise}
use Rattle.hk_effects.proofs.Gives.{gives_step}
use Rattle.hk_effects.proofs.Merges.{after_batch, batch_step}
use Rattle.hk_effects.proofs.Viewed.{row-viewed, letters-viewed, told-viewed}
use Rattle.hk_effects.proofs.Installs.{viewing, view_step}
use Rattle.hk_effects.proofs.LiveSteps.{IsLive, here, node_own, node_sound}
use Rattle.hk_effects.proofs.Takes.{Owed, GivesOwed, TakesOwed, InstallsOwed}
use Rattle.hk_effects.proofs.Events.{AreOwed}

-- the batch that is awaited has its bound at the cursor
next_is : (a b : Option (List ℕ)) → is_next a b ≡ true → a ≡ b
next_is None None e = refl
next_is None (Some b) e = absurd (false≢true e)
next_is (Some a) None e = absurd (false≢true e)
next_is (Some a) (Some b) e = ap Some (same_true a b e)

-- A node that had a view is a member of each agreed view between that and one that it is in.
pub between : (V : ℕ → List ℕ) (st : RegisterState) (parts : Parts V st) (key : List ℕ) (x : NodeState) → st.node x.id.0 ≡ key_node key (Some x) → (views : List View) (calls : ℕ) → IsChain views → IsNodeOf views calls x →
    ((v : View) → In views v → member_numbers v.members ≡ V v.epoch) → (v : View) → In views v → In (member_numbers v.members) x.id.0 → Between V st x.id.0 v.epoch
between V st parts key x here views calls chain own agrees v agreed in_v f some low high =
    let some' : 1 ≤ epoch_of x = rw here at some in
    let low' : epoch_of x ≤ f = rw here at low in
    let u = own_view views calls x own some' in
    let own_epoch : u.0.epoch ≡ epoch_of x = sym (ap epoch_in u.1) in
    let top = (chain.within v agreed).1 in
    let w = chain.each f (omega arith) (omega arith) in
    let in_own : In (V (epoch_of x)) x.id.0 = rw here at ((parts.nodes x.id.0).member some) in
    let in_u : In (member_numbers u.0.members) x.id.0 = rw (agrees u.0 u.2, own_epoch) in_own in
    let in_w : In (member_numbers w.0.members) x.id.0 = chain.chain u.0 w.0 v u.2 w.1 agreed (omega (arith, own_epoch, w.2)) (omega (arith, w.2)) x.id.0 in_u in_v in
    let there : In (V w.0.epoch) x.id.0 = rw (← agrees w.0 w.1) in_w in rw w.2 at there

-- the answer kept for a pending update's call is an answer
answers_kept : (calls : ℕ) (o : Option Pending) → IfSome o (IsPendingOf calls) → IfSome o (λ p. IfSome p.reply (λ r. IsTrue (is_answered (Some r.answer))))
answers_kept calls None h = tt
answers_kept calls (Some p) h = h.answer

-- all rows install a view
module _ (V : ℕ → List ℕ) (st : RegisterState) (parts : Parts V st) (key : List ℕ) (x : NodeState) (is : st.node x.id.0 ≡ key_node key (Some x)) (ok : IsNode x) (calls : ℕ) (views : List View) (own : IsNodeOf views calls x) where
  installed_step : (v : View) → epoch_of x < v.epoch → In (V v.epoch) x.id.0 → Between V st x.id.0 v.epoch → member_numbers v.members ≡ V v.epoch → OwesStep V st parts key x is (installed_in (viewing x v) v.epoch)
  installed_step v later member middle members new ch =
      let y = viewing x v in
      let o : Stepped = installed_in y v.epoch in
      let c = has_copied x key in
      let row = row_at key x.rows in
      let d = on_view x.id v.members row in
      let z0 : Node = key_node key (Some x) in
      let n : ℕ = pending_stamp z0.phase in
      let rises = rows_rise x ok in
      let node : key_node key (Some o.node) ≡ row_node y c d.row = ap (row_node y c) (row-viewed y key x.rows) in
      let letters = letters-viewed y None key x.rows rises in
      let said : map (reply_item n) (told_at key o.told) ≡ reply_items n d.out.reply = ap (map (reply_item n)) (told-viewed y None key x.rows rises) ∙ told_own key n d.out.reply in
      let ch1 = subst (λ (z : Node). Change st new x.id.0 z (letters_of key o.letters) (step_marks x.id.0 z0 z (letters_of key o.letters)) (updates_of x.id.0 z0 (told_items V st parts key x is o)) (told_items V st parts key x is o)) node ch in
      let ch2 = subst (λ (l : List Message). Change st new x.id.0 (row_node y c d.row) l (step_marks x.id.0 z0 (row_node y c d.row) l) (updates_of x.id.0 z0 (told_items V st parts key x is o)) (told_items V st parts key x is o)) letters ch1 in
      let hs = reply_items n d.out.reply in
      let ls = letters_of key (sent y key d.row d.out.send) in
      let ms = step_marks x.id.0 z0 (row_node y c d.row) ls in
      let ch3 = subst (λ (h : List Item). Change st new x.id.0 (row_node y c d.row) ls ms (updates_of x.id.0 z0 h) h) said ch2 in
      let ch4 = subst (λ (us : List Update). Change st new x.id.0 (row_node y c d.row) ls ms us hs) (reply_alone_begins_none x.id.0 z0 n d.out.reply) ch3 in
      let shaped : IsShaped row.state row.pending = shaped_of_holds row.state row.pending row.stamp (row_sound x ok key).holds in
      view_step V st parts key x v c row is later member middle members row.pending refl shaped (answers_kept calls row.pending (own.row key).pending) new ch4

-- ---- in a world
module _ (V : ℕ → List ℕ) (key : List ℕ) (t : Trace) (parts : Parts V (project key t)) (own : IsOwn t.world) (agrees : Agrees t.world V) (tok : IsTrace t) where
  pub gives_owed : GivesOwed V key t parts own agrees tok
  gives_owed x alive from after room inside = gives_step V (project key t) parts key x (here V key t parts own agrees tok x alive) from after room (node_sound V key t parts own agrees tok x alive)

  -- A batch that is awaited is one that was sent, so its keys rise behind the cursor.
  takes_next : (x : NodeState) (alive : IsLive V key t parts own agrees tok x) (l : Letter) (from : NodeId) (after : Option (List ℕ)) (done : Bool) (items : List CopyItem) → In t.world.letters l → l.from ≡ Actor.Node from → l.epoch ≡ epoch_of x →
      is_member from (members_of x) ≡ true → l.body ≡ CopyGive after done items → x.ready ≡ false → after ≡ x.cursor → Owed V key t parts own agrees tok x alive (after_batch x done items)
  takes_next x alive l from after done items sent_so sender epoch inside body shadow next =
      let at_cursor : l.body ≡ CopyGive x.cursor done items = subst (λ (a : Option (List ℕ)). l.body ≡ CopyGive a done items) next body in
      let told_so : IsTold (CopyGive x.cursor done items) = subst IsTold at_cursor (own.letter l sent_so) in
      let some = in_some t.world.views t.world.calls x (node_own V key t parts own agrees tok x alive) own.views from inside in
      batch_step V (project key t) parts key x (here V key t parts own agrees tok x alive) some shadow from.0 done items (node_sound V key t parts own agrees tok x alive).touched (items_rise x.cursor items told_so.0 told_so.1)
      (λ covered. letter_sent key t.world.letters l _ sent_so (rw (at_cursor, covered, sender, epoch) (inl refl)))

  pub takes_owed : TakesOwed V key t parts own agrees tok
  takes_owed x alive l from after done items sent_so sender epoch inside body = by_test (not x.ready && is_next after x.cursor) refl
    where
      not_true : (b : Bool) → not b ≡ true → b ≡ false
      not_true true e = absurd (false≢true e)
      not_true false e = refl

      by_test : (b : Bool) → (not x.ready && is_next after x.cursor) ≡ b →
          Owed V key t parts own agrees tok x alive (cond b (record { node = record x { ready = done; cursor = option_or (last_key items) x.cursor; rows = merged items x.rows }; letters = []; told = []; installed = None }) (idle x))
      by_test true e =
          let p = and_parts (not x.ready) (is_next after x.cursor) e in
          takes_next x alive l from after done items sent_so sender epoch inside body (not_true x.ready p.0) (next_is after x.cursor p.1)
      by_test false e = idle_step V (project key t) parts key x (here V key t parts own agrees tok x alive)

  pub installs_owed : InstallsOwed V key t parts own agrees tok
  installs_owed x alive v agreed inside later =
      let in_v : In (member_numbers v.members) x.id.0 = in_members x.id v.members inside in
      let own_x = node_own V key t parts own agrees tok x alive in
      let at_x = here V key t parts own agrees tok x alive in
      let middle = between V (project key t) parts key x at_x t.world.views t.world.calls own.views own_x agrees v agreed in_v in
      let test : (ltb (epoch_of x) v.epoch && is_member x.id v.members) ≡ true = rw (lt-ltb (epoch_of x) v.epoch later) inside in
      let step = installed_step V (project key t) parts key x at_x (node_sound V key t parts own agrees tok x alive) t.world.calls t.world.views own_x v later (rw (← agrees v agreed) in_v) middle (agrees v agreed) in
      subst (λ (b : Bool). Owed V key t parts own agrees tok x alive (cond b (installed_in (viewing x v) v.epoch) (idle x))) (sym test) step

pub all_owed : AreOwed
all_owed = record { gives = gives_owed; takes = takes_owed; installs = installs_owed }
