-- What the step of one row owes to its node, of each step but `begin`.
use Rattle.std.proofs.Common.{◌≡◌, ◌≢◌, ◌≤◌, ℕ, List, [], Bool, true, false, ◌==◌, Option, Some, None, IfSome, nat_lt, refl, sym, ap, ◌∙◌, arith, subst}
use Rattle.std.specs.Ordering.{nat_cmp}
use Rattle.std.specs.declared.cmp.Ordering.{Ordering}
use Rattle.std.specs.declared.cmp.Ordering.TheVariants.{Less, Equal, Greater}
use Rattle.std.proofs.lemmas.Bool.{false≢true}
use Rattle.std.proofs.lemmas.Bool.Decides.{nat_tests}
use Rattle.std.proofs.lemmas.Option.{none-some}
use Rattle.hk_base.specs.declared.stamp.Stamp.{Stamp}
use Rattle.hk_base.specs.declared.stamp.NodeId.{NodeId}
use Rattle.hk_base.specs.declared.stamp.Kind.{Kind}
use Rattle.hk_base.specs.declared.call.Content.{Content}
use Rattle.hk_base.specs.declared.call.Reply.{Reply}
use Rattle.hk_base.specs.declared.call.State.{State}
use Rattle.hk_base.specs.declared.call.State.TheVariants.{Valid, Invalid, Write, Replay, Trans}
use Rattle.hk_base.specs.declared.letter.CopyItem.{CopyItem}
use Rattle.hk_base.specs.Range.{IsWithin, Leaves, IsBody}
use Rattle.hk_base.specs.Stamp.{tag_of}
use Rattle.hk_key.specs.declared.row.Pending.{Pending}
use Rattle.hk_key.specs.declared.row.Row.{Row}
use Rattle.hk_key.specs.Notes.{all_noted, all_exact, note_in}
use Rattle.hk_key.specs.Same.{is_same_row}
use Rattle.hk_key.specs.Sound.{IsLeft, IsSound, IsUpdate}
use Rattle.hk_key.specs.Answered.{GoesOnOrIsAnswered, HadWaiting}
use Rattle.hk_key.specs.Table.{Done, first_row, still, completed_at, started_at, noted_at, with_acks, unnoted, begin, replay, replay_at, on_inv, on_inv_at, on_ack, on_ack_at, on_ack_pending, on_val, on_val_at, on_view, on_view_at, on_copy, on_copy_at, copied_same, resend, resend_at}
use Rattle.hk_key.proofs.Steps.{touched}
use Rattle.hk_key.proofs.SameNotes.{each_is_same}
use Rattle.hk_key.proofs.Unchanged.{same_after_inv, same_after_ack, same_after_val, same_after_view, same_after_replay, resend_keeps_row}
use Rattle.hk_key.proofs.Rising.{inv_never_lowers, ack_never_lowers, val_never_lowers, view_never_lowers, replay_never_lowers, resend_never_lowers}
use Rattle.hk_key.proofs.Waiting.{inv_answers_or_waits, ack_answers_or_waits, val_answers_or_waits, view_answers_or_waits, replay_answers_or_waits, resend_answers_or_waits}
use Rattle.hk_key.proofs.Answers.{inv_answers_waiting, ack_answers_waiting, view_answers_waiting, replay_answers_none, resend_answers_none}
use Rattle.hk_node.specs.Rows.{Rows, row_at, is_touched}
use Rattle.hk_node.specs.Report.{IsMade}
use Rattle.hk_node.specs.Sends.{pending_body, body_of}
use Rattle.hk_node.proofs.Order.{AreTouched, untouched_none}

-- what is sent is in range
abbrev pub SendsWithin : List ℕ → Done → Type 0
SendsWithin key done = IfSome done.out.send (λ sending. IsBody (body_of key done.row sending.what))

-- a row's step: what is sent is in range, the stamp does not fall, the test of sameness tells the truth, a first row that is not
-- touched stays one, a call that waits waits on or is answered, and whatever is told was waited for
pub record Acts (key : List ℕ) (row : Row) (done : Done) : Type 0 where
  pub sends : SendsWithin key done
  pub rises : tag_of row.stamp ≤ tag_of done.row.stamp
  pub same : is_same_row row done.row ≡ true → done.row ≡ row
  pub untouched : row ≡ first_row → is_touched done.row ≡ false → done.row ≡ row
  pub waits : (p : Pending) (reply : Reply) → row.pending ≡ Some p → p.reply ≡ Some reply → GoesOnOrIsAnswered p reply done
  pub told : (q : Reply) → done.out.reply ≡ Some q → HadWaiting row q

-- what is above something is not 0
above_none : (a b : ℕ) → nat_cmp a b ≡ Less → nat_lt 0 b ≡ false → ⊥
above_none a b less none = grind (arith, nat_tests)

-- an update that is in range
abbrev Fits : Pending → Type 0
Fits p = IsWithin p.stamp × Leaves p.kind p.content

-- where nothing is told, nothing is owed
untold : (row : Row) (done : Done) → done.out.reply ≡ None → (q : Reply) → done.out.reply ≡ Some q → HadWaiting row q
untold row done none q e = absurd (none-some q (sym none ∙ e))

invalid_valid : Invalid ≡ Valid → ⊥
invalid_valid e = grind arith

module _ (key : List ℕ) where
  -- ---- what is sent, by the updates in it
  completed_sends : (own exact : Bool) (row : Row) (p : Pending) → IsWithin p.stamp → SendsWithin key (completed_at own exact row p)
  completed_sends true true row p within = within
  completed_sends true false row p within = tt
  completed_sends false exact row p within = tt

  started_sends : (alone : Bool) (row : Row) (p : Pending) → Fits p → SendsWithin key (started_at alone row p)
  started_sends true row p fits = completed_sends (tag_of row.stamp == tag_of p.stamp) (all_exact p.acks) row p fits.0
  started_sends false row p fits = fits

  pub begin_sends : (me : NodeId) (members : List NodeId) (reply : Reply) (s : Stamp) (kind : Kind) (content : Option Content) → IsWithin s → Leaves kind content → SendsWithin key (begin me members reply s kind content)
  begin_sends me members reply s kind content within leaves = started_sends (all_noted me members [])
      (record { state = Write; stamp = s; kind = kind; content = content; kept_val = false; pending = None }) (unnoted (Some reply) s kind content) (within, leaves)

  replay_sends : (me : NodeId) (members : List NodeId) (row : Row) → IsSound me members row → SendsWithin key (replay me members row)
  replay_sends me members row sound = by_state row.state refl
    where
      not_valid : row.state ≡ Invalid → row.state ≢ Valid
      not_valid e valid = invalid_valid (sym e ∙ valid)

      by_state : (state : State) → row.state ≡ state → SendsWithin key (replay_at state me members row)
      by_state Invalid e = started_sends (all_noted me members []) (record row { state = Replay }) (unnoted None row.stamp row.kind row.content)
          (sound.within, sound.left.leaves (touched row sound.left (not_valid e)))
      by_state Valid e = tt
      by_state Write e = tt
      by_state Replay e = tt
      by_state Trans e = tt

  inv_sends : (row : Row) (from : NodeId) (s : Stamp) (kind : Kind) (content : Option Content) → IsWithin s → IsWithin row.stamp → IsLeft row → SendsWithin key (on_inv row from s kind content)
  inv_sends row from s kind content within own left = by_order (nat_cmp (tag_of row.stamp) (tag_of s)) refl
    where
      by_order : (o : Ordering) → nat_cmp (tag_of row.stamp) (tag_of s) ≡ o → SendsWithin key (on_inv_at o row from s kind content)
      by_order Less e = (within, within)
      by_order Equal e = (within, within)
      by_order Greater e = by_kind kind
        where
          by_kind : (k : Kind) → SendsWithin key (on_inv_at Greater row from s k content)
          by_kind Kind.Write = (within, own)
          by_kind Kind.Rmw = (own, left.leaves (grind arith))

  ack_sends : (me : NodeId) (members : List NodeId) (row : Row) (from : NodeId) (s top : Stamp) → IfSome row.pending (λ p. IsWithin p.stamp) → SendsWithin key (on_ack me members row from s top)
  ack_sends me members row from s top within = by_pending row.pending within
    where
      noted : (last : Bool) (p : Pending) → IsWithin p.stamp → SendsWithin key (noted_at last row p)
      noted true p w = completed_sends (tag_of row.stamp == tag_of p.stamp) (all_exact p.acks) row p w
      noted false p w = tt

      by_test : (p : Pending) (own exact : Bool) → IsWithin p.stamp → SendsWithin key (on_ack_at own exact me members row p from)
      by_test p false exact w = tt
      by_test p true exact w = noted (all_noted me members (note_in from exact p.acks)) (with_acks p (note_in from exact p.acks)) w

      by_pending : (o : Option Pending) → IfSome o (λ p. IsWithin p.stamp) → SendsWithin key (on_ack_pending o me members row from s top)
      by_pending None w = tt
      by_pending (Some p) w = by_test p (tag_of s == tag_of p.stamp) (tag_of top == tag_of s) w

  view_sends : (me : NodeId) (members : List NodeId) (row : Row) → IfSome row.pending Fits → SendsWithin key (on_view me members row)
  view_sends me members row fits = by_pending row.pending fits
    where
      by_pending : (o : Option Pending) → IfSome o Fits → SendsWithin key (on_view_at o me members row)
      by_pending None w = tt
      by_pending (Some p) w = started_sends (all_noted me members []) row (with_acks p []) w

  resend_sends : (row : Row) → IfSome row.pending Fits → SendsWithin key (resend row)
  resend_sends row fits = by_pending row.pending refl fits
    where
      by_pending : (o : Option Pending) → row.pending ≡ o → IfSome o Fits → SendsWithin key (resend_at o row)
      by_pending None e w = tt
      by_pending (Some p) e w = subst (λ (o : Option Pending). IsBody (pending_body key row o)) (sym e) w

  -- ---- rows that no update has touched
  pub inv_untouched : (row : Row) (from : NodeId) (s : Stamp) (kind : Kind) (content : Option Content) → is_touched (on_inv row from s kind content).row ≡ false → (on_inv row from s kind content).row ≡ row
  inv_untouched row from s kind content = by_order (nat_cmp (tag_of row.stamp) (tag_of s)) refl
    where
      by_kind : (k : Kind) → (on_inv_at Greater row from s k content).row ≡ row
      by_kind Kind.Write = refl
      by_kind Kind.Rmw = refl

      by_order : (o : Ordering) → nat_cmp (tag_of row.stamp) (tag_of s) ≡ o → is_touched (on_inv_at o row from s kind content).row ≡ false → (on_inv_at o row from s kind content).row ≡ row
      by_order Less at e = absurd (above_none (tag_of row.stamp) (tag_of s) at e)
      by_order Equal at e = refl
      by_order Greater at e = by_kind kind

  pub val_untouched : (row : Row) (s : Stamp) → row ≡ first_row → on_val row s ≡ row
  val_untouched row s first = ap (λ (r : Row). on_val r s) first ∙ by_test (tag_of first_row.stamp == tag_of s) ∙ sym first
    where
      by_test : (b : Bool) → on_val_at b first_row ≡ first_row
      by_test true = refl
      by_test false = refl

  -- ---- the steps
  module _ (me : NodeId) (members : List NodeId) (row : Row) (sound : IsSound me members row) where
    pending_fits : IfSome row.pending Fits
    pending_fits = by_pending row.pending sound.update
      where
        by_pending : (o : Option Pending) → IfSome o (IsUpdate me members) → IfSome o Fits
        by_pending None u = tt
        by_pending (Some p) u = (u.within, u.leaves)

    pending_within : IfSome row.pending (λ p. IsWithin p.stamp)
    pending_within = by_pending row.pending sound.update
      where
        by_pending : (o : Option Pending) → IfSome o (IsUpdate me members) → IfSome o (λ p. IsWithin p.stamp)
        by_pending None u = tt
        by_pending (Some p) u = u.within

    pub inv_acts : (from : NodeId) (s : Stamp) (kind : Kind) (content : Option Content) → IsWithin s → Leaves kind content → Acts key row (on_inv row from s kind content)
    inv_acts from s kind content within leaves = record {
      sends = inv_sends row from s kind content within sound.within sound.left;
      rises = inv_never_lowers row from s kind content;
      same = same_after_inv row from s kind content;
      untouched = λ first e. inv_untouched row from s kind content e;
      waits = λ p reply. inv_answers_or_waits me members row p reply from s kind content sound;
      told = inv_answers_waiting row from s kind content;
    }

    pub ack_acts : (from : NodeId) (s top : Stamp) → Acts key row (on_ack me members row from s top)
    ack_acts from s top = record {
      sends = ack_sends me members row from s top pending_within;
      rises = ack_never_lowers me members row from s top;
      same = same_after_ack me members row from s top;
      untouched = λ first e. ap (λ (r : Row). (on_ack me members r from s top).row) first ∙ sym first;
      waits = λ p reply. ack_answers_or_waits me members row p reply from s top sound;
      told = ack_answers_waiting me members row from s top;
    }

    pub val_acts : (s : Stamp) → Acts key row (still (on_val row s))
    val_acts s = record {
      sends = tt;
      rises = val_never_lowers row s;
      same = same_after_val row s;
      untouched = λ first e. val_untouched row s first;
      waits = λ p reply. val_answers_or_waits me members row p reply s sound;
      told = untold row (still (on_val row s)) refl;
    }

    pub resend_acts : Acts key row (resend row)
    resend_acts = record {
      sends = resend_sends row pending_fits;
      rises = resend_never_lowers row;
      same = λ e. resend_keeps_row row;
      untouched = λ first e. resend_keeps_row row;
      waits = λ p reply. resend_answers_or_waits me members row p reply sound;
      told = untold row (resend row) (resend_answers_none row);
    }

    pub replay_acts : Acts key row (replay me members row)
    replay_acts = record {
      sends = replay_sends me members row sound;
      rises = replay_never_lowers me members row;
      same = same_after_replay me members row;
      untouched = λ first e. ap (λ (r : Row). (replay me members r).row) first ∙ sym first;
      waits = λ p reply. replay_answers_or_waits me members row p reply sound;
      told = untold row (replay me members row) (replay_answers_none me members row);
    }

    -- of a row that is sound in the view before
    pub view_acts : (new : List NodeId) → Acts key row (on_view me new row)
    view_acts new = record {
      sends = view_sends me new row pending_fits;
      rises = view_never_lowers me new row;
      same = same_after_view me new row;
      untouched = λ first e. ap (λ (r : Row). (on_view me new r).row) first ∙ sym first;
      waits = λ p reply. view_answers_or_waits me members new row p reply sound;
      told = view_answers_waiting me new row;
    }

-- ---- what such a step makes
below_none : (a b : ℕ) → a ≤ b → nat_lt 0 b ≡ false → nat_lt 0 a ≡ false
below_none a b le none = grind (arith, nat_tests)

-- a step that leaves a row untouched found none there, and leaves it so
pub untouched_stays : (key : List ℕ) (rows : Rows) (row : Row) → AreTouched rows → tag_of (row_at key rows).stamp ≤ tag_of row.stamp →
    (row_at key rows ≡ first_row → is_touched row ≡ false → row ≡ row_at key rows) → is_touched row ≡ false → row ≡ row_at key rows
untouched_stays key rows row touched rises first e = first (untouched_none key rows touched (below_none (tag_of (row_at key rows).stamp) (tag_of row.stamp) rises e)) e

pub copy_untouched : (row : Row) (item : CopyItem) → row ≡ first_row → is_touched (on_copy row item) ≡ false → on_copy row item ≡ row
copy_untouched row item first e = ap (λ (r : Row). on_copy r item) first ∙ by_order (nat_cmp (tag_of first_row.stamp) (tag_of item.stamp)) refl (subst (λ (r : Row). is_touched (on_copy r item) ≡ false) first e) ∙ sym first
  where
    by_valid : (b : Bool) → copied_same b Valid first_row ≡ first_row
    by_valid true = refl
    by_valid false = refl

    by_order : (o : Ordering) → nat_cmp (tag_of first_row.stamp) (tag_of item.stamp) ≡ o → is_touched (on_copy_at o first_row item) ≡ false → on_copy_at o first_row item ≡ first_row
    by_order Less at none = absurd (above_none (tag_of first_row.stamp) (tag_of item.stamp) at none)
    by_order Equal at none = by_valid item.valid
    by_order Greater at none = refl

pub acts_make : (key : List ℕ) (rows : Rows) (done : Done) → AreTouched rows → Acts key (row_at key rows) done → IsMade rows key done.row
acts_make key rows done touched acts = record {
  same = acts.same;
  touched = λ differs. by_test (is_touched done.row) refl differs;
}
  where
    row : Row
    row = row_at key rows

    by_test : (b : Bool) → is_touched done.row ≡ b → is_same_row row done.row ≡ false → is_touched done.row ≡ true
    by_test true e differs = e
    by_test false e differs =
        let stays : done.row ≡ row = untouched_stays key rows done.row touched acts.rises acts.untouched e in
        absurd (false≢true (sym differs ∙ subst (λ (r : Row). is_same_row row r ≡ true) (sym stays) (each_is_same row)))
