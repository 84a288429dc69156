-- The part on epochs, leases and copies holds after every run.
use Rattle.std.proofs.Common.{◌≡◌, ℕ, Bool, List, [], ◌∷◌, ◌++◌, ◌≤◌, ◌∙◌, sym, ap, subst, Option, Some, IfSome}
use Rattle.hk_base.specs.declared.stamp.NodeId.{NodeId}
use Rattle.hk_base.specs.declared.letter.Body.{Body}
use Rattle.hk_base.specs.declared.letter.Body.TheVariants.{CopyGive}
use Rattle.hk_base.specs.declared.letter.CopyItem.{CopyItem}
use Rattle.hk_base.specs.declared.letter.Letter.{Letter}
use Rattle.hk_base.specs.declared.view.View.{View}
use Rattle.hk_base.specs.View.{member_numbers}
use Rattle.hk_register.specs.Machine.{In}
use Rattle.hk_node.specs.Copies.{copy_of}
use Rattle.hk_node.specs.Node.{NodeState, epoch_of, members_of}
use Rattle.hk_node.specs.Rows.{row_at}
use Rattle.hk_node.specs.Sound.{IsViewOf}
use Rattle.hk_world.specs.Steps.{acting_of}
use Rattle.hk_world.specs.World.{WorldState}
use Rattle.hk_effects.specs.Projection.{Trace, project, traced, node_at, key_node}
use Rattle.hk_effects.specs.Own.{Ended, Agrees}
use Rattle.hk_world.specs.Sound.{IsHeader}
use Rattle.hk_effects.specs.Runs.{IsKept, RunsKeepParts}
use Rattle.hk_effects.proofs.Processes.{in_members, member_of}
use Rattle.hk_effects.proofs.Rests.{node_holds, in_some}
use Rattle.hk_effects.proofs.TwoEffects.{append_three}
use Rattle.hk_effects.proofs.Worlds.{all_in}
use Rattle.hk_parts.specs.Moments.{Run, Ends, Moment}
use Rattle.hk_parts.specs.Facts.{members_at}
use Rattle.hk_parts.specs.ViewPart.{HasView, IsOfReplicas, SentInEpoch, BatchTells, IsNotBelow, ViewPart}
use Rattle.hk_parts.proofs.Moments.{later_of, moment_marks_kept, world_is}
use Rattle.hk_parts.proofs.Givers.{AllBelow, rows_rest}
use Rattle.hk_parts.proofs.Resting.{Below}
use Rattle.hk_parts.proofs.Origins.{agreed, parts_at, risen}
use Rattle.hk_parts.proofs.LettersTell.{BodyTells}
use Rattle.hk_parts.proofs.Sending.{Told, letters_told}
use Rattle.hk_parts.proofs.Updates.{kept_here, kept_then}
use Rattle.hk_parts.proofs.Views.{views_stay}

module _ (runs : RunsKeepParts) (key : List ℕ) (run : Run) (header : IsHeader run.header) (t : Trace) (ends : Ends key run t) where
  ok : IsKept key t
  ok = kept_here runs key run header t ends

  told : (l : Letter) → In t.world.letters l → IsOfReplicas l.body → Told key run l
  told l h of = letters_told runs key run.header header run.events t ends l h of

  has_view : (n : ℕ) (x : NodeState) → node_at n t.world.processes ≡ Some x → (v : View) → x.view ≡ Some v → HasView t n x v
  has_view n x at v is =
      let own = ok.own.node n x at in
      let holds = node_holds t.world ok.own.sound n x at in
      let is_view : IsViewOf x v = of_view x.view holds.1.view is in
      record {
        agreed = own.agreed v is;
        only = λ u h same. ok.own.views.one u v h (own.agreed v is) same;
        member = subst (λ (i : NodeId). In (member_numbers v.members) i.0) holds.0 (in_members x.id v.members is_view.member);
      }
    where
      of_view : (o : Option View) → IfSome o (λ u. IsViewOf x u) → o ≡ Some v → IsViewOf x v
      of_view o h e = rw e at h

  -- the moment after a letter was sent
  module _ (l : Letter) (o : Told key run l) where
    now : Trace
    now = traced key o.sent.at.was o.sent.at.event o.sent.at.accepted

    abbrev after : Moment key run (traced key o.sent.at.was o.sent.at.event o.sent.at.accepted)
    after = record { past = o.sent.at.past ++ o.sent.at.event ∷ []; later = o.sent.at.later; split = o.sent.at.split ∙ sym (append_three o.sent.at.past (o.sent.at.event ∷ []) o.sent.at.later); follows = o.after }

    kept_after : IsKept key (traced key o.sent.at.was o.sent.at.event o.sent.at.accepted)
    kept_after = kept_then runs key run header t ends (traced key o.sent.at.was o.sent.at.event o.sent.at.accepted) after

    agreed_after : Agrees (traced key o.sent.at.was o.sent.at.event o.sent.at.accepted).world (members_at t)
    agreed_after v h = agreed key t ok v (views_stay key o.sent.at.later (traced key o.sent.at.was o.sent.at.event o.sent.at.accepted) t (later_of key run (traced key o.sent.at.was o.sent.at.event o.sent.at.accepted) t after ends) v h)

    there : node_at o.sent.id.0 (traced key o.sent.at.was o.sent.at.event o.sent.at.accepted).world.processes ≡ Some o.sent.node
    there = ap (λ (w : WorldState). node_at o.sent.id.0 w.processes) (world_is key o.sent.at.was o.sent.at.event o.sent.at.accepted (acting_of o.sent.at.accepted)) ∙ o.sent.there

    in_epoch : 1 ≤ epoch_of o.sent.node
    in_epoch =
        let own = kept_after.own in
        in_some (traced key o.sent.at.was o.sent.at.event o.sent.at.accepted).world.views (traced key o.sent.at.was o.sent.at.event o.sent.at.accepted).world.calls o.sent.node (own.node o.sent.id.0 o.sent.node there) own.views o.says.to
        (member_of o.says.to (members_of o.sent.node) o.says.inside)

    sender : SentInEpoch key run t l
    sender =
        let node_is : ((project key (traced key o.sent.at.was o.sent.at.event o.sent.at.accepted)).node o.sent.id.0).epoch ≡ epoch_of o.sent.node = ap (λ (z : Option NodeState). (key_node key z).epoch) there in
        let member = ((kept_after.parts (members_at t) agreed_after).nodes o.sent.id.0).member (rw node_is in_epoch) in
        record { sent = o.sent; member = subst (λ (e : ℕ). In (members_at t e) o.sent.id.0) (node_is ∙ sym o.sent.epoch) member }

  batch : (l : Letter) (after : Option (List ℕ)) (done : Bool) (items : List CopyItem) → l.body ≡ CopyGive after done items → Told key run l → BatchTells key run l items
  batch l after done items is o =
      let tells : BodyTells o.sent.node (CopyGive after done items) = subst (λ (b : Body). BodyTells o.sent.node b) is o.says.tells in
      record { sent = o.sent; ready = tells.0; row = λ i h. all_in (λ (i : CopyItem). i ≡ copy_of (i.key, row_at i.key o.sent.node.rows)) items i tells.1 h }

  guard : (p : Trace) → Moment key run p → (n : ℕ) → 1 ≤ ((project key p).node n).epoch → Ended t.world ((project key p).node n).epoch
  guard p m n some =
      let before = kept_then runs key run header t ends p m in
      let k = ((parts_at key p before).nodes n).marked some in
      let g = ok.trace.guarded k.0 (moment_marks_kept key run p t m ends k.0 k.2) in
      subst (λ (e : ℕ). Ended t.world e) (sym k.1.epoch) g.ended

  rests : AllBelow key run (members_at t) t
  rests = rows_rest runs key run.header header (members_at t) run.events t ends (agreed key t ok)

  not_below : (e n s : ℕ) → Below key run (members_at t) t e n s → IsNotBelow key run t e n s
  not_below e n s o = record {
    who = o.who;
    member = o.member;
    later = o.later;
    covered = λ f c low h. let top = o.covered h.marked.0 h.marked.2 (sym h.marked.1.who ∙ h.who) (rw (← h.marked.1.epoch, h.epoch) low) in rw (sym h.stamp, h.marked.1.stamp) top;
    givers = o.givers;
    rests = o.rests;
  }

  pub view_part : ViewPart key run t
  view_part =
      let parts = parts_at key t ok in
      record {
        views_change = ok.own.views.change;
        dropped_for_good = λ u v w hu hv hw low high n in_u out_v in_w. out_v (ok.own.views.chain u v w hu hv hw low high n in_u in_w);
        own_view = has_view;
        epochs_rise = λ p m n. (risen key t ok p (kept_then runs key run header t ends p m) (moment_marks_kept key run p t m ends) n).1;
        senders = λ l h of. sender l (told l h of);
        ready_not_below = λ n ready e one below. not_below e n ((project key t).node n).stamp (rests.node n ((parts.nodes n).copied ready) e one below);
        copied_not_below = λ n copied e one below. not_below e n ((project key t).node n).stamp (rests.node n copied e one below);
        given_not_below = λ m f s kind content valid h e one below. not_below e m s (rests.letter m f s kind content valid h e one below);
        batches_tell = λ l after done items h is. batch l after done items is (told l h (subst IsOfReplicas (sym is) tt));
        guarded = guard;
      }
