-- What the parts of a step are worth: its stamps, its sender, its lease, and that no step makes a pending update where none was.
use Rattle.std.proofs.Common.{◌≡◌, ◌≢◌, ◌≤◌, ◌<◌, ◌+◌, ℕ, List, [], ◌∷◌, Bool, true, false, cond, not, ◌==◌, nat_eq, nat_lt, Option, Some, None, refl, sym, ap, ◌∙◌, arith, subst}
use Rattle.std.specs.Ordering.{nat_cmp}
use Rattle.std.specs.declared.cmp.Ordering.{Ordering}
use Rattle.std.specs.declared.cmp.Ordering.TheVariants.{Less, Equal, Greater}
use Rattle.std.specs.List.{list_any}
use Rattle.std.specs.Cmp.{nat_eq_equiv}
use Rattle.std.proofs.lemmas.Bool.{false≢true, and_parts}
use Rattle.std.proofs.lemmas.Bool.Decides.{nat_tests}
use Rattle.std.proofs.lemmas.Option.{none-some}
use Rattle.hk_base.specs.declared.stamp.Stamp.{Stamp}
use Rattle.hk_base.specs.declared.stamp.NodeId.{NodeId}
use Rattle.hk_base.specs.declared.stamp.Kind.{Kind}
use Rattle.hk_base.specs.declared.stamp.TheConstants.{MAX_VERSION}
use Rattle.hk_base.specs.declared.call.State.{State}
use Rattle.hk_base.specs.declared.call.State.TheVariants.{Valid, Invalid, Write, Replay, Trans}
use Rattle.hk_base.specs.declared.call.Content.{Content}
use Rattle.hk_base.specs.declared.letter.CopyItem.{CopyItem}
use Rattle.hk_base.specs.declared.view.View.{View}
use Rattle.hk_base.specs.View.{member_numbers, is_member}
use Rattle.hk_base.specs.Range.{IsWithin}
use Rattle.hk_base.specs.Stamp.{stamp_after, tag_of}
use Rattle.hk_key.specs.declared.row.Pending.{Pending}
use Rattle.hk_key.specs.declared.row.Row.{Row}
use Rattle.hk_key.specs.Sound.{IsOther}
use Rattle.hk_key.specs.Table.{displaced, on_inv, on_inv_at, on_ack, on_ack_pending, on_val, on_val_at, validated, on_view, on_view_at, on_copy, on_copy_at, copied_same}
use Rattle.hk_node.specs.Node.{NodeState, members_of, members_in, is_other}
use Rattle.hk_node.specs.Calls.{next_stamp, lease_end}
use Rattle.hk_node.specs.Sound.{IsNode}

-- ---- the next stamp of an update
pub record IsNext (s t : Stamp) (node : NodeId) : Type 0 where
  pub within : IsWithin t
  pub above : s.version < t.version
  pub own : t.node ≡ node.0

some_same : {X : Type 0} (x y : X) → Some x ≡ Some y → x ≡ y
some_same x y e = grind arith

after_is_next : (step : ℕ) (s : Stamp) (node : NodeId) (t : Stamp) → 0 < step → stamp_after step s node.0 ≡ Some t → IsNext s t node
after_is_next step s node t some e = by_test (nat_lt MAX_VERSION (s.version + step)) refl e
  where
    by_test : (b : Bool) → nat_lt MAX_VERSION (s.version + step) ≡ b → cond b None (Some (record { version = s.version + step; node = node.0 })) ≡ Some t → IsNext s t node
    by_test true at h = absurd (none-some t h)
    by_test false at h =
        let fits : s.version + step ≤ MAX_VERSION = grind (arith, nat_tests) in
        subst (λ (u : Stamp). IsNext s u node) (some_same (record { version = s.version + step; node = node.0 }) t h)
        (record { within = fits; above = omega arith; own = refl })

pub next_is_next : (kind : Kind) (s : Stamp) (node : NodeId) (t : Stamp) → next_stamp kind s node ≡ Some t → IsNext s t node
next_is_next Kind.Write s node t e = after_is_next 2 s node t (omega arith) e
next_is_next Kind.Rmw s node t e = after_is_next 1 s node t (omega arith) e

-- ---- the sender of a letter that is admitted
member_number : (from : NodeId) (members : List NodeId) → list_any (nat_eq from.0) (member_numbers members) ≡ is_member from members
member_number from [] = refl
member_number from (m ∷ members) = rw (nat_eq_equiv.symm from.0 m.0, member_number from members) refl

not_is : (b : Bool) → not b ≡ true → b ≡ false
not_is true e = absurd (false≢true e)
not_is false e = refl

pub other_is : (node : NodeState) (from : NodeId) → is_other node from ≡ true → IsOther node.id (members_of node) from
other_is node from e =
    let both = and_parts (is_member from (members_of node)) (not (from.0 == node.id.0)) e in
    record {
      other = λ same. false≢true (sym (not_is (from.0 == node.id.0) both.1) ∙ subst (λ (k : ℕ). from.0 == k ≡ true) same (nat_eq_equiv.refl from.0));
      member = member_number from (members_of node) ∙ both.0;
    }

-- a node that has another member has a view
pub other_seen : (node : NodeState) (from : NodeId) → is_other node from ≡ true → node.view ≢ None
other_seen node from e none =
    let both = and_parts (is_member from (members_of node)) (not (from.0 == node.id.0)) e in
    false≢true (subst (λ (v : Option View). is_member from (members_in v) ≡ true) none both.0)

-- a node whose lease is not over is ready: clocks are at least 1
pub leased_is_ready : (node : NodeState) → IsNode node → nat_lt (lease_end node) (node.clock + node.skew) ≡ false → node.ready ≡ true
leased_is_ready node ok e = by_ready node.ready refl
  where
    by_ready : (b : Bool) → node.ready ≡ b → node.ready ≡ true
    by_ready true r = r
    by_ready false r =
        let none : lease_end node ≡ 0 = ap (λ (b : Bool). cond b node.granted 0) r in
        let runs = ok.clock_runs in
        let ends : nat_lt 0 (node.clock + node.skew) ≡ false = subst (λ (k : ℕ). nat_lt k (node.clock + node.skew) ≡ false) none e in
        absurd (grind (arith, nat_tests))

pub true_not_false : {X : Type 0} (b : Bool) → b ≡ true → b ≡ false → X
true_not_false b t f = absurd (false≢true (sym f ∙ t))

pub ready_seen : (node : NodeState) → IsNode node → node.ready ≡ true → node.view ≢ None
ready_seen node ok ready none = true_not_false node.ready ready (ok.unready none)

-- ---- where there is no pending update, these steps make none
pub inv_pends_none : (row : Row) (from : NodeId) (s : Stamp) (kind : Kind) (content : Option Content) → row.pending ≡ None → (on_inv row from s kind content).row.pending ≡ None
inv_pends_none row from s kind content e = by_order (nat_cmp (tag_of row.stamp) (tag_of s))
  where
    above : (state : State) → (displaced state None).1 ≡ None
    above Valid = refl
    above Invalid = refl
    above Write = refl
    above Replay = refl
    above Trans = refl

    by_order : (o : Ordering) → (on_inv_at o row from s kind content).row.pending ≡ None
    by_order Less = ap (λ (p : Option Pending). (displaced row.state p).1) e ∙ above row.state
    by_order Equal = e
    by_order Greater = by_kind kind
      where
        by_kind : (k : Kind) → (on_inv_at Greater row from s k content).row.pending ≡ None
        by_kind Kind.Write = e
        by_kind Kind.Rmw = e

pub ack_pends_none : (me : NodeId) (members : List NodeId) (row : Row) (from : NodeId) (s top : Stamp) → row.pending ≡ None → (on_ack me members row from s top).row.pending ≡ None
ack_pends_none me members row from s top e = ap (λ (o : Option Pending). (on_ack_pending o me members row from s top).row.pending) e ∙ e

pub val_pends_none : (row : Row) (s : Stamp) → row.pending ≡ None → (on_val row s).pending ≡ None
val_pends_none row s e = by_test (tag_of row.stamp == tag_of s)
  where
    by_state : (state : State) → (validated state row).pending ≡ None
    by_state Invalid = e
    by_state Trans = e
    by_state Valid = e
    by_state Write = e
    by_state Replay = e

    by_test : (b : Bool) → (on_val_at b row).pending ≡ None
    by_test true = by_state row.state
    by_test false = e

pub view_pends_none : (me : NodeId) (members : List NodeId) (row : Row) → row.pending ≡ None → (on_view me members row).row.pending ≡ None
view_pends_none me members row e = ap (λ (o : Option Pending). (on_view_at o me members row).row.pending) e ∙ e

pub copy_pends_none : (row : Row) (item : CopyItem) → row.pending ≡ None → (on_copy row item).pending ≡ None
copy_pends_none row item e = by_order (nat_cmp (tag_of row.stamp) (tag_of item.stamp))
  where
    by_state : (valid : Bool) (state : State) → (copied_same valid state row).pending ≡ None
    by_state true Invalid = e
    by_state true Valid = e
    by_state true Write = e
    by_state true Replay = e
    by_state true Trans = e
    by_state false state = e

    by_order : (o : Ordering) → (on_copy_at o row item).pending ≡ None
    by_order Less = refl
    by_order Equal = by_state item.valid row.state
    by_order Greater = e
