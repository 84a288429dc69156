-- A letter that is taken is, for each key, an effect or two.
use Rattle.std.proofs.Common.{◌≡◌, ◌≢◌, ℕ, Bool, true, false, cond, not, ◌&&◌, List, [], ◌++◌, append-nil, ◌≤◌, ◌<◌, ◌∙◌, refl, ap, subst, inl, ⊎_elim, Option, Some, None, eqb, ltb, nat_cmp, IfSome, sym}
use Rattle.std.proofs.lemmas.Bool.{eqb-true, ltb-true, and_parts}
use Rattle.hk_base.specs.declared.stamp.Stamp.{Stamp}
use Rattle.hk_base.specs.declared.stamp.NodeId.{NodeId}
use Rattle.hk_base.specs.declared.stamp.Kind.{Kind}
use Rattle.hk_base.specs.declared.call.Content.{Content}
use Rattle.hk_base.specs.declared.view.View.{View}
use Rattle.hk_base.specs.declared.letter.Actor.{Actor}
use Rattle.hk_base.specs.declared.letter.Actor.TheVariants as Actor
use Rattle.hk_base.specs.declared.letter.Body.{Body}
use Rattle.hk_base.specs.declared.letter.Body.TheVariants as Body
use Rattle.hk_base.specs.declared.letter.CopyItem.{CopyItem}
use Rattle.hk_base.specs.declared.letter.Letter.{Letter}
use Rattle.hk_base.specs.Stamp.{tag_of}
use Rattle.hk_key.specs.declared.row.Pending.{Pending}
use Rattle.hk_key.specs.declared.row.Row.{Row}
use Rattle.hk_key.specs.Table.{still, on_inv, on_val, on_ack, on_ack_pending}
use Rattle.hk_key.proofs.Rising.{inv_never_lowers, ack_never_lowers, val_never_lowers}
use Rattle.hk_node.proofs.Acts.{inv_untouched, val_untouched, untouched_stays}
use Rattle.hk_register.specs.Machine.{In, Message}
use Rattle.hk_register.specs.Parts.{Parts}
use Rattle.hk_node.specs.Rows.{find_row, row_at}
use Rattle.hk_node.specs.Node.{NodeState, epoch_of, members_of, is_other}
use Rattle.hk_base.specs.View.{is_member}
use Rattle.hk_node.specs.Stepped.{Stepped, idle, row_step}
use Rattle.hk_node.specs.Heard.{raised, is_greatest, has_majority}
use Rattle.hk_node.specs.Copies.{gives_copy, takes_copy}
use Rattle.hk_node.specs.Steps.{granted_by, heard, received, receives, receives_from, is_addressed, installed_in, installs, installs_by_majority}
use Rattle.hk_event.specs.declared.event.Event.TheVariants.{Take}
use Rattle.hk_world.specs.World.{numbered}
use Rattle.hk_manager.specs.declared.event.ManagerEvent.{ManagerEvent}
use Rattle.hk_manager.specs.declared.event.ManagerEvent.TheVariants as ManagerEvent
use Rattle.hk_manager.specs.Steps.{manager_step}
use Rattle.hk_event.specs.declared.event.Event.{Event}
use Rattle.hk_world.specs.Steps.{Accepted, live_manager, manager_acts, with_manager_step, manager_shown, takes}
use Rattle.hk_effects.specs.Projection.{has_copied, letters_of, Trace, project}
use Rattle.hk_effects.specs.Own.{IsPendingOf, IsOwn, IsTrace, Agrees}
use Rattle.hk_effects.proofs.Order.{cases_key, same_of}
use Rattle.hk_effects.proofs.Processes.{in_members}
use Rattle.hk_effects.proofs.Shapes.{IsShaped, shaped_of_holds}
use Rattle.hk_effects.proofs.Steps.{Owes, told, quiet_step, inv_step, val_step, ack_step}
use Rattle.hk_effects.proofs.Nodes.{OwesStep, quiet_node, idle_step, own_told, other_told, found_step}
use Rattle.hk_effects.proofs.Accepting.{any_takes_step, live_manager_step, makes_manager_step}
use Rattle.hk_effects.proofs.Managers.{manager_says, managers_silent}
use Rattle.hk_effects.proofs.Rests.{numbered_in, letter_sent, letters_append, row_sound, in_some}
use Rattle.hk_effects.proofs.LiveSteps.{accepts, IsEffects, IsLive, here, stepped_effect, aside_effect, lives, node_own, node_sound, members_are}

module _ (V : ℕ → List ℕ) (key : List ℕ) (t : Trace) (parts : Parts V (project key t)) (own : IsOwn t.world) (agrees : Agrees t.world V) (tok : IsTrace t) where
  -- what a live node's step owes, of an event that is no call
  abbrev pub Owed : (x : NodeState) → IsLive V key t parts own agrees tok x → Stepped → Type 0
  Owed x alive o = OwesStep V (project key t) parts key x (here V key t parts own agrees tok x alive) o

  -- What is shown elsewhere: a batch that is given,
  abbrev pub GivesOwed : Type 0
  GivesOwed = (x : NodeState) (alive : IsLive V key t parts own agrees tok x) (from : NodeId) (after : Option (List ℕ)) (room : ℕ) → is_member from (members_of x) ≡ true → Owed x alive (gives_copy x from after room)

  -- a batch that is taken,
  abbrev pub TakesOwed : Type 0
  TakesOwed = (x : NodeState) (alive : IsLive V key t parts own agrees tok x) (l : Letter) (from : NodeId) (after : Option (List ℕ)) (done : Bool) (items : List CopyItem) → In t.world.letters l → l.from ≡ Actor.Node from → l.epoch ≡ epoch_of x →
      is_member from (members_of x) ≡ true → l.body ≡ Body.CopyGive after done items → Owed x alive (takes_copy x after done items)

  -- and a view that is installed.
  abbrev pub InstallsOwed : Type 0
  InstallsOwed = (x : NodeState) (alive : IsLive V key t parts own agrees tok x) (v : View) → In t.world.views v → is_member x.id v.members ≡ true → epoch_of x < v.epoch → Owed x alive (installs x v)

  module _ (x : NodeState) (alive : IsLive V key t parts own agrees tok x) where
    row_shaped : (o : Option Pending) → (row_at key x.rows).pending ≡ o → IsShaped (row_at key x.rows).state o
    row_shaped o e =
        let row = row_at key x.rows in
        rw (← e) (shaped_of_holds row.state row.pending row.stamp (row_sound x (node_sound V key t parts own agrees tok x alive) key).holds)

    row_update : (p : Pending) → (row_at key x.rows).pending ≡ Some p → IsPendingOf t.world.calls p
    row_update p e = let all : IfSome (row_at key x.rows).pending (IsPendingOf t.world.calls) = ((node_own V key t parts own agrees tok x alive).row key).pending in rw e at all

    -- a letter from another member, in its epoch
    module _ (l : Letter) (sent_so : In t.world.letters l) (from : NodeId) (sender : l.from ≡ Actor.Node from) (epoch : l.epoch ≡ epoch_of x) (inside : is_member from (members_of x) ≡ true) where
      some : 1 ≤ epoch_of x
      some = in_some t.world.views t.world.calls x (node_own V key t parts own agrees tok x alive) own.views from inside

      member : In (V (epoch_of x)) from.0
      member = rw (← members_are V key t parts own agrees tok x alive some) (in_members from (members_of x) inside)

      take_inv : (k : List ℕ) (s : Stamp) (kind : Kind) (content : Option Content) → l.body ≡ Body.Inv k s kind content → Owed x alive (row_step x k (on_inv (row_at k x.rows) from s kind content))
      take_inv k s kind content is =
          ⊎_elim
          (λ (same : key ≡ k).
          let row = row_at key x.rows in
          let d = on_inv row from s kind content in
          let letter : In (letters_of key t.world.letters) (Message.Inv from.0 (epoch_of x) (tag_of s) kind content) = letter_sent key t.world.letters l (Message.Inv from.0 (epoch_of x) (tag_of s) kind content) sent_so (rw (is, same_of key k same, sender, epoch) (inl refl)) in
          subst (λ (k : List ℕ). Owed x alive (row_step x k (on_inv (row_at k x.rows) from s kind content))) same
          (own_told V (project key t) parts key x (here V key t parts own agrees tok x alive) d _ (untouched_stays key x.rows d.row (node_sound V key t parts own agrees tok x alive).touched (inv_never_lowers row from s kind content) (λ first none. inv_untouched key row from s kind content none)) refl
          (inv_step V (project key t) parts key x (has_copied x key) row (here V key t parts own agrees tok x alive) from s kind content (nat_cmp (tag_of row.stamp) (tag_of s)) refl some letter)))
          (λ (other : key ≢ k). other_told V (project key t) parts key x (here V key t parts own agrees tok x alive) k (on_inv (row_at k x.rows) from s kind content) other) (cases_key key k)

      take_ack_at : (s top : Stamp) → In (letters_of key t.world.letters) (Message.Ack from.0 (epoch_of x) (tag_of s) (tag_of top)) → (o : Option Pending) → (row_at key x.rows).pending ≡ o →
          Owes V (project key t) parts key x (has_copied x key) (row_at key x.rows) (here V key t parts own agrees tok x alive) (on_ack_pending o x.id (members_of x) (row_at key x.rows) from s top) []
          (told V (project key t) parts key x (has_copied x key) (row_at key x.rows) (here V key t parts own agrees tok x alive) (on_ack_pending o x.id (members_of x) (row_at key x.rows) from s top))
      take_ack_at s top letter None e = quiet_step V (project key t) parts key x (has_copied x key) (row_at key x.rows) (here V key t parts own agrees tok x alive)
      take_ack_at s top letter (Some p) e =
          ack_step V (project key t) parts key x (has_copied x key) (row_at key x.rows) (here V key t parts own agrees tok x alive) from s top p e (row_shaped (Some p) e) (row_update p e).answer letter member
          (members_are V key t parts own agrees tok x alive some) (eqb (tag_of s) (tag_of p.stamp)) refl (eqb (tag_of top) (tag_of s)) refl

      take_ack : (k : List ℕ) (s top : Stamp) → l.body ≡ Body.Ack k s top → (r : Row) → row_at k x.rows ≡ r → Owed x alive (row_step x k (on_ack x.id (members_of x) r from s top))
      take_ack k s top is r at_r =
          ⊎_elim
          (λ (same : key ≡ k).
          let row = row_at key x.rows in
          let letter : In (letters_of key t.world.letters) (Message.Ack from.0 (epoch_of x) (tag_of s) (tag_of top)) = letter_sent key t.world.letters l (Message.Ack from.0 (epoch_of x) (tag_of s) (tag_of top)) sent_so (rw (is, same_of key k same, sender, epoch) (inl refl)) in
          let r_is : row ≡ r = ap (λ (j : List ℕ). row_at j x.rows) same ∙ at_r in
          subst (λ (k : List ℕ). Owed x alive (row_step x k (on_ack x.id (members_of x) r from s top))) same
          (subst (λ (r : Row). Owed x alive (row_step x key (on_ack x.id (members_of x) r from s top))) r_is
          (own_told V (project key t) parts key x (here V key t parts own agrees tok x alive) (on_ack x.id (members_of x) row from s top) _ (untouched_stays key x.rows (on_ack x.id (members_of x) row from s top).row (node_sound V key t parts own agrees tok x alive).touched (ack_never_lowers x.id (members_of x) row from s top) (λ first none. ap (λ (r : Row). (on_ack x.id (members_of x) r from s top).row) first ∙ sym first)) refl (take_ack_at s top letter row.pending refl))))
          (λ (other : key ≢ k). other_told V (project key t) parts key x (here V key t parts own agrees tok x alive) k (on_ack x.id (members_of x) r from s top) other) (cases_key key k)

      take_val : (k : List ℕ) (s : Stamp) → l.body ≡ Body.Val k s → (r : Row) → row_at k x.rows ≡ r → Owed x alive (row_step x k (still (on_val r s)))
      take_val k s is r at_r =
          ⊎_elim
          (λ (same : key ≡ k).
          let row = row_at key x.rows in
          let letter : In (letters_of key t.world.letters) (Message.Val from.0 (epoch_of x) (tag_of s)) = letter_sent key t.world.letters l (Message.Val from.0 (epoch_of x) (tag_of s)) sent_so (rw (is, same_of key k same, sender, epoch) (inl refl)) in
          let r_is : row ≡ r = ap (λ (j : List ℕ). row_at j x.rows) same ∙ at_r in
          subst (λ (k : List ℕ). Owed x alive (row_step x k (still (on_val r s)))) same
          (subst (λ (r : Row). Owed x alive (row_step x key (still (on_val r s)))) r_is
          (own_told V (project key t) parts key x (here V key t parts own agrees tok x alive) (still (on_val row s)) [] (untouched_stays key x.rows (on_val row s) (node_sound V key t parts own agrees tok x alive).touched (val_never_lowers row s) (λ first none. val_untouched key row s first)) refl
          (val_step V (project key t) parts key x (has_copied x key) row (here V key t parts own agrees tok x alive) from s (eqb (tag_of row.stamp) (tag_of s)) refl letter))))
          (λ (other : key ≢ k). other_told V (project key t) parts key x (here V key t parts own agrees tok x alive) k (still (on_val r s)) other) (cases_key key k)

      receive : GivesOwed → TakesOwed → (body : Body) → l.body ≡ body → Owed x alive (received body x from)
      receive gives takes_so (Body.Inv k s kind content) is = take_inv k s kind content is
      receive gives takes_so (Body.Ack k s top) is = found_step V (project key t) parts key x (here V key t parts own agrees tok x alive) k (λ row. on_ack x.id (members_of x) row from s top) (take_ack k s top is) (find_row k x.rows) refl
      receive gives takes_so (Body.Val k s) is = found_step V (project key t) parts key x (here V key t parts own agrees tok x alive) k (λ row. still (on_val row s)) (take_val k s is) (find_row k x.rows) refl
      receive gives takes_so (Body.CopyAsk after room) is = gives x alive from after room inside
      receive gives takes_so (Body.CopyGive after done items) is = takes_so x alive l from after done items sent_so sender epoch inside is
      receive gives takes_so (Body.LeaseAsk asked) is = idle_step V (project key t) parts key x (here V key t parts own agrees tok x alive)
      receive gives takes_so (Body.LeaseGive end) is = idle_step V (project key t) parts key x (here V key t parts own agrees tok x alive)
      receive gives takes_so (Body.Prepare ballot) is = idle_step V (project key t) parts key x (here V key t parts own agrees tok x alive)
      receive gives takes_so (Body.Promise ballot vote) is = idle_step V (project key t) parts key x (here V key t parts own agrees tok x alive)
      receive gives takes_so (Body.Accept ballot v) is = idle_step V (project key t) parts key x (here V key t parts own agrees tok x alive)
      receive gives takes_so (Body.Accepted ballot) is = idle_step V (project key t) parts key x (here V key t parts own agrees tok x alive)
      receive gives takes_so (Body.Chosen v) is = idle_step V (project key t) parts key x (here V key t parts own agrees tok x alive)
      receive gives takes_so (Body.Activate v) is = idle_step V (project key t) parts key x (here V key t parts own agrees tok x alive)

    -- a letter that is admitted, or dropped
    admitted : GivesOwed → TakesOwed → (l : Letter) → In t.world.letters l → (from : NodeId) → l.from ≡ Actor.Node from → (b : Bool) → (is_addressed x l.to && (eqb l.epoch (epoch_of x) && is_other x from)) ≡ b → Owed x alive (cond b (received l.body x from) (idle x))
    admitted gives takes_so l sent_so from sender false e = idle_step V (project key t) parts key x (here V key t parts own agrees tok x alive)
    admitted gives takes_so l sent_so from sender true e =
        let p = and_parts (is_addressed x l.to) (eqb l.epoch (epoch_of x) && is_other x from) e in
        let q = and_parts (eqb l.epoch (epoch_of x)) (is_other x from) p.1 in
        let r = and_parts (is_member from (members_of x)) (not (eqb from.0 x.id.0)) q.1 in
        receive l sent_so from sender (eqb-true l.epoch (epoch_of x) q.0) r.0 gives takes_so l.body refl

    -- a letter of a manager: the lease ends later, or a view is installed
    heard_owed : InstallsOwed → (body : Body) (m : ℕ) → ((v : View) → body ≡ Body.Activate v → In t.world.views v) → Owed x alive (heard body x m)
    heard_owed installs_so (Body.LeaseGive end) m begun = quiet_node V (project key t) parts key x (here V key t parts own agrees tok x alive) (granted_by x m end) [] refl refl refl
    heard_owed installs_so (Body.Activate v) m begun = by_greatest (is_greatest v.epoch x.activated)
      where
        noted : NodeState
        noted = record x { activated = raised m v.epoch x.activated }

        calm : Owed x alive (idle noted)
        calm = quiet_node V (project key t) parts key x (here V key t parts own agrees tok x alive) (idle noted) [] refl refl refl

        by_installed : (b : Bool) → (ltb (epoch_of x) v.epoch && is_member x.id v.members) ≡ b → Owed x alive (cond b (installed_in (record noted { view = Some v }) v.epoch) (idle noted))
        by_installed false e = calm
        by_installed true e =
            let p = and_parts (ltb (epoch_of x) v.epoch) (is_member x.id v.members) e in
            subst (λ (b : Bool). Owed x alive (cond b (installed_in (record x { view = Some v }) v.epoch) (idle x))) e (installs_so x alive v (begun v refl) p.1 (ltb-true (epoch_of x) v.epoch p.0))

        by_majority : (b : Bool) → Owed x alive (cond b (installs noted v) (idle noted))
        by_majority true = by_installed (ltb (epoch_of x) v.epoch && is_member x.id v.members) refl
        by_majority false = calm

        by_greatest : (b : Bool) → Owed x alive (cond b (installs_by_majority noted v) (idle x))
        by_greatest true = by_majority (has_majority v.epoch noted.activated)
        by_greatest false = idle_step V (project key t) parts key x (here V key t parts own agrees tok x alive)
    heard_owed installs_so (Body.Inv k s kind content) m begun = idle_step V (project key t) parts key x (here V key t parts own agrees tok x alive)
    heard_owed installs_so (Body.Ack k s top) m begun = idle_step V (project key t) parts key x (here V key t parts own agrees tok x alive)
    heard_owed installs_so (Body.Val k s) m begun = idle_step V (project key t) parts key x (here V key t parts own agrees tok x alive)
    heard_owed installs_so (Body.CopyAsk after room) m begun = idle_step V (project key t) parts key x (here V key t parts own agrees tok x alive)
    heard_owed installs_so (Body.CopyGive after done items) m begun = idle_step V (project key t) parts key x (here V key t parts own agrees tok x alive)
    heard_owed installs_so (Body.LeaseAsk asked) m begun = idle_step V (project key t) parts key x (here V key t parts own agrees tok x alive)
    heard_owed installs_so (Body.Prepare ballot) m begun = idle_step V (project key t) parts key x (here V key t parts own agrees tok x alive)
    heard_owed installs_so (Body.Promise ballot vote) m begun = idle_step V (project key t) parts key x (here V key t parts own agrees tok x alive)
    heard_owed installs_so (Body.Accept ballot v) m begun = idle_step V (project key t) parts key x (here V key t parts own agrees tok x alive)
    heard_owed installs_so (Body.Accepted ballot) m begun = idle_step V (project key t) parts key x (here V key t parts own agrees tok x alive)
    heard_owed installs_so (Body.Chosen v) m begun = idle_step V (project key t) parts key x (here V key t parts own agrees tok x alive)

    receives_owed : GivesOwed → TakesOwed → InstallsOwed → (l : Letter) → In t.world.letters l → (a : Actor) → l.from ≡ a → Owed x alive (receives_from a x l)
    receives_owed gives takes_so installs_so l sent_so (Actor.Manager m) sender = by_admitted (is_addressed x l.to && ltb m x.managers)
      where
        by_admitted : (b : Bool) → Owed x alive (cond b (heard l.body x m) (idle x))
        by_admitted true = heard_owed installs_so l.body m (λ v is. own.begun l v sent_so is)
        by_admitted false = idle_step V (project key t) parts key x (here V key t parts own agrees tok x alive)
    receives_owed gives takes_so installs_so l sent_so (Actor.Node from) sender = admitted gives takes_so l sent_so from sender (is_addressed x l.to && (eqb l.epoch (epoch_of x) && is_other x from)) refl

  -- a manager's step
  pub manager_effect : (event : Event) (m : ℕ) (step : ManagerEvent) (a : Accepted) → live_manager t.world m (λ x. manager_acts t.world m (manager_step x step)) ≡ accepts a → IsEffects V key t parts own agrees tok event a
  manager_effect event m step a e = live_manager_step (IsEffects V key t parts own agrees tok event a) t.world a m (λ x. manager_acts t.world m (manager_step x step)) (λ x at e.
      makes_manager_step (IsEffects V key t parts own agrees tok event a) t.world a m (manager_step x step) (λ s is e.
      aside_effect V key t parts own agrees tok event (with_manager_step t.world m s) (manager_shown t.world m s) a refl (λ n. refl)
      (letters_append key t.world.letters s.letters ∙ (ap (λ (ls : List Message). letters_of key t.world.letters ++ ls) (managers_silent x.held s.letters (manager_says x step s is) key) ∙ append-nil (letters_of key t.world.letters))) e) e) e

  -- the event
  pub take_effect : GivesOwed → TakesOwed → InstallsOwed → (n : ℕ) (a : Accepted) → takes t.world (numbered n t.world.letters) ≡ accepts a → IsEffects V key t parts own agrees tok (Take n) a
  take_effect gives takes_so installs_so n a e = any_takes_step (IsEffects V key t parts own agrees tok (Take n) a) t.world a n
      (λ l found id x at e.
      let live = lives V key t parts own agrees tok id x at in
      stepped_effect V key t parts own agrees tok (Take n) t.world.calls t.world.paces None id x live.0 live.1 (receives x l) a (receives_owed x live.1 gives takes_so installs_so l (numbered_in n t.world.letters l found) l.from refl) e)
      (λ l found m e. manager_effect (Take n) m (ManagerEvent.Receive l) a e) e
