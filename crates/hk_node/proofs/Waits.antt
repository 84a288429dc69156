-- A call waits until it is answered.
use Rattle.std.proofs.Common.{◌≡◌, ◌≢◌, ◌⊎◌, inl, inr, ℕ, List, [], ◌∷◌, Option, Some, None, IfSome, unwrap_or, refl, sym, ap, ◌∙◌, subst, ⊎_elim}
use Rattle.std.specs.Option.{IsSomeAnd, option_map}
use Rattle.std.proofs.lemmas.Option.{none-some}
use Rattle.hk_base.specs.declared.stamp.Stamp.{Stamp}
use Rattle.hk_base.specs.declared.call.CallNo.{CallNo}
use Rattle.hk_base.specs.declared.call.Answer.{Answer}
use Rattle.hk_base.specs.declared.call.Op.{Op}
use Rattle.hk_base.specs.declared.call.Reply.{Reply}
use Rattle.hk_base.specs.declared.call.State.{State}
use Rattle.hk_base.specs.declared.call.State.TheVariants.{Valid, Invalid, Write, Replay, Trans}
use Rattle.hk_base.specs.declared.view.View.{View}
use Rattle.hk_base.specs.Register.{act}
use Rattle.hk_base.specs.Stamp.{tag_of}
use Rattle.hk_key.specs.declared.row.Pending.{Pending}
use Rattle.hk_key.specs.declared.row.Row.{Row}
use Rattle.hk_key.specs.Sound.{Holds, Waits, IsSound}
use Rattle.hk_key.specs.Answered.{IsToldFor, GoesOnOrIsAnswered}
use Rattle.hk_key.specs.Table.{Done, first_row, on_view, unnoted}
use Rattle.hk_key.proofs.Waiting.{begin_answers_or_waits}
use Rattle.hk_node.specs.declared.event.NodeEvent.TheVariants.{Call}
use Rattle.hk_node.specs.Rows.{find_row, row_at, with_row}
use Rattle.hk_node.specs.Node.{NodeState, members_of}
use Rattle.hk_node.specs.Stepped.{Stepped, row_step, told_of}
use Rattle.hk_node.specs.Calls.{kind_of, next_stamp, register_in}
use Rattle.hk_node.specs.Steps.{installed_in}
use Rattle.hk_node.specs.Sound.{IsNode}
use Rattle.hk_node.specs.Laws.{key_of, Tells, IsWaiting, IsToldAt, CallsWaitOrAreAnswered, WaitingIsUntold, IsAnsweredAlone, HasBegun, CallsAreTaken}
use Rattle.hk_node.proofs.Order.{cases_key, row-with_other, row-with_made, row-with_touched}
use Rattle.hk_node.proofs.Keeps.{begun, sound_at, none_pending_at}
use Rattle.hk_node.proofs.Acts.{Acts, acts_make, view_acts}
use Rattle.hk_node.proofs.Stamps.{row_mapped, begun_touched}
use Rattle.hk_node.proofs.Told.{IsSilentAt, tells_row, tells_among, silent_other, silent_among}
use Rattle.hk_node.proofs.StepCases.{CallCases, StepCases, by_call, by_event}

-- a sound row whose pending update has a call's reply is in Write or in Trans
in_write_or_trans : (state : State) (o : Option Pending) (s : Stamp) (p : Pending) (reply : Reply) → Holds state o s → Waits state o → o ≡ Some p →
    p.reply ≡ Some reply → (state ≡ Write) ⊎ (state ≡ Trans)
in_write_or_trans Valid o s p reply h w e own = absurd (none-some p (sym h ∙ e))
in_write_or_trans Invalid o s p reply h w e own = absurd (none-some p (sym h ∙ e))
in_write_or_trans Write o s p reply h w e own = inl refl
in_write_or_trans Trans o s p reply h w e own = inr refl
in_write_or_trans Replay o s p reply h w e own =
    let nobody : p.reply ≡ None = subst (λ (k : Option Pending). IfSome k (λ q. q.reply ≡ None)) e w in
    absurd (none-some reply (sym nobody ∙ own))

-- no update is pending at a Valid row
idle_row : (node : NodeState) (row : Row) → row.state ≡ Valid → IsSound node.id (members_of node) row → row.pending ≡ None
idle_row node row e sound = subst (λ (state : State). Holds state row.pending row.stamp) e sound.holds

module _ (node : NodeState) (ok : IsNode node) (key : List ℕ) (p : Pending) (reply : Reply) (pending : (row_at key node.rows).pending ≡ Some p) (own : p.reply ≡ Some reply) where
  -- it is told, or waits on and nothing is told at its key
  abbrev Goes : Stepped → Type 0
  Goes stepped = (IsWaiting (row_at key stepped.node.rows) p.stamp reply × IsSilentAt key stepped.told) ⊎ IsToldAt stepped key reply

  waiting : IsWaiting (row_at key node.rows) p.stamp reply
  waiting =
      let sound = sound_at node key ok in
      record {
        update = subst (λ (o : Option Pending). IsSomeAnd o (λ q. (q.stamp ≡ p.stamp) × (q.reply ≡ Some reply))) (sym pending) (refl, own);
        state = in_write_or_trans (row_at key node.rows).state (row_at key node.rows).pending (row_at key node.rows).stamp p reply sound.holds sound.waits pending own;
      }

  -- where the row of the key is as it was
  unchanged : (row : Row) → row ≡ row_at key node.rows → IsWaiting row p.stamp reply
  unchanged row e = subst (λ (r : Row). IsWaiting r p.stamp reply) (sym e) waiting

  -- where the row of the key is what a step of it made, and what that answered is told
  stepped_row : (stepped : Stepped) (done : Done) → row_at key stepped.node.rows ≡ done.row → (IsSomeAnd done.out.reply (IsToldFor reply) → Tells key reply stepped.told) →
      (done.out.reply ≡ None → IsSilentAt key stepped.told) → GoesOnOrIsAnswered p reply done → Goes stepped
  stepped_row stepped done e tells silent (inl on) =
      inl (subst (λ (row : Row). IsWaiting row p.stamp reply) (sym e) (record { update = on.update; state = on.state }), silent on.silent)
  stepped_row stepped done e tells silent (inr out) = inr (record {
    told = tells out.told;
    gone = subst (λ (row : Row). row.pending ≡ None) (sym e) out.gone;
    state = subst (λ (row : Row). (row.state ≡ Valid) ⊎ (row.state ≡ Invalid)) (sym e) out.state;
  })

  row_goes : (k : List ℕ) (done : Done) → Acts k (row_at k node.rows) done → Goes (row_step node k done)
  row_goes k done acts = ⊎_elim here
      (λ (ne : key ≢ k). inl (unchanged (row_at key (with_row k done.row node.rows)) (row-with_other key k done.row node.rows ne), silent_other key k done.out.reply ne))
      (cases_key key k)
    where
      here : key ≡ k → Goes (row_step node k done)
      here e =
          let there = subst (λ (q : List ℕ). Acts q (row_at q node.rows) done) (sym e) acts in
          subst (λ (q : List ℕ). Goes (row_step node q done)) e
          (stepped_row (row_step node key done) done (row-with_made key done.row node.rows (acts_make key node.rows done ok.touched there)) (tells_row key reply done)
          (λ none. subst (λ (o : Option Reply). IsSilentAt key (told_of key o)) (sym none) tt) (there.waits p reply pending own))

  found : (o : Option Row) → (unwrap_or o first_row).pending ≡ Some p → (row : Row) × ((o ≡ Some row) × (row.pending ≡ Some p))
  found None e = absurd (none-some p e)
  found (Some row) e = (row, (refl, e))

  view_goes : (view : View) (activated : List ℕ) → Goes (installed_in (record node { view = Some view; activated = activated }) view.epoch)
  view_goes view activated =
      let is = found (find_row key node.rows) pending in
      let row = is.0 in
      let sound = subst (λ (r : Row). IsSound node.id (members_of node) r) (ap (λ (o : Option Row). unwrap_or o first_row) is.1.0) (sound_at node key ok) in
      stepped_row (installed_in (record node { view = Some view; activated = activated }) view.epoch) (on_view node.id view.members row)
      (ap (λ (o : Option Row). unwrap_or o first_row) (row_mapped (λ r. (on_view node.id view.members r).row) key node.rows ∙ ap (option_map (λ r. (on_view node.id view.members r).row)) is.1.0))
      (tells_among (on_view node.id view.members) key reply row node.rows is.1.0)
      (silent_among (on_view node.id view.members) key row node.rows ok.ordered is.1.0)
      ((view_acts key node.id (members_of node) row sound view.members).waits p reply is.1.1 own)

  ways : (named : Option (List ℕ)) → StepCases Goes node named
  ways named = record {
    quiet = λ clock granted ends activated. inl (waiting, tt);
    sends = λ letters within. inl (waiting, tt);
    row = λ k done names acts. row_goes k done acts;
    takes = λ cursor done items none unready within. absurd (none-some p (sym (none_pending_at node key ok unready) ∙ pending));
    installs = λ view activated none acts. view_goes view activated;
  }

  -- a call changes a row only where none is pending
  call_ways : (call : CallNo) (k : List ℕ) (op : Op) → CallCases (λ stepped. IsWaiting (row_at key stepped.node.rows) p.stamp reply) node call k op
  call_ways call k op = record {
    answered = λ answer. waiting;
    begins = λ s ready valid next. ⊎_elim
        (λ (e : key ≡ k). absurd (none-some p (sym (idle_row node (row_at k node.rows) valid (sound_at node k ok)) ∙ subst (λ (q : List ℕ). (row_at q node.rows).pending ≡ Some p) e pending)))
        (λ (ne : key ≢ k). unchanged (row_at key (with_row k (begun node call op (row_at k node.rows) s).row node.rows)) (row-with_other key k (begun node call op (row_at k node.rows) s).row node.rows ne))
        (cases_key key k);
  }

pub waiting_is_untold : WaitingIsUntold
waiting_is_untold node event key p reply ok within other pending own = by_event (Goes node ok key p reply pending own) node ok event within other (ways node ok key p reply pending own (key_of event))

pub calls_wait_or_are_answered : CallsWaitOrAreAnswered
calls_wait_or_are_answered node (Call call k op) key p reply ok within pending own =
    inl (by_call (λ stepped. IsWaiting (row_at key stepped.node.rows) p.stamp reply) node call k op ok (call_ways node ok key p reply pending own call k op))
calls_wait_or_are_answered node event key p reply ok within pending own = less (waiting_is_untold node event key p reply ok within tt pending own)
  where
    less : {A B C : Type 0} → (A × B) ⊎ C → A ⊎ C
    less (inl both) = inl both.0
    less (inr c) = inr c

-- ---- a call is answered at once, or its update waits
abbrev one : List ℕ → Answer → CallNo → List (List ℕ × Reply)
one key answer call = (key, record { call = call; answer = answer }) ∷ []

begun_taken : (node : NodeState) (call : CallNo) (key : List ℕ) (op : Op) (s : Stamp) → next_stamp (kind_of op) (row_at key node.rows).stamp node.id ≡ Some s →
    IsAnsweredAlone key call (row_step node key (begun node call op (row_at key node.rows) s)) ⊎ HasBegun (row_step node key (begun node call op (row_at key node.rows) s)) key call
begun_taken node call key op s next = by_way (begin_answers_or_waits node.id (members_of node) reply s (kind_of op) (act op (register_in (row_at key node.rows)) (tag_of s)).register.content)
  where
    reply : Reply
    reply = record { call = call; answer = (act op (register_in (row_at key node.rows)) (tag_of s)).answer }

    done : Done
    done = begun node call op (row_at key node.rows) s

    update : Pending
    update = unnoted (Some reply) s (kind_of op) (act op (register_in (row_at key node.rows)) (tag_of s)).register.content

    of_call : (o : Option Pending) → IsSomeAnd o (λ q. (q.stamp ≡ s) × (q.reply ≡ Some reply)) → IsSomeAnd o (λ q. IsSomeAnd q.reply (λ kept. kept.call ≡ call))
    of_call None h = h
    of_call (Some q) h = subst (λ (r : Option Reply). IsSomeAnd r (λ kept. kept.call ≡ call)) (sym h.1) refl

    told : (o : Option Reply) → IsSomeAnd o (IsToldFor reply) → (answer : Answer) × (told_of key o ≡ one key answer call)
    told None h = absurd h
    told (Some q) h = (q.answer, ap (one key q.answer) h.call)

    by_way : GoesOnOrIsAnswered update reply done → IsAnsweredAlone key call (row_step node key done) ⊎ HasBegun (row_step node key done) key call
    by_way (inl on) =
        let with_same = row-with_touched key done.row node.rows (begun_touched node call (row_at key node.rows) op s next) in
        inr (record {
          silent = ap (told_of key) on.silent;
          update = subst (λ (row : Row). IsSomeAnd row.pending (λ q. IsSomeAnd q.reply (λ kept. kept.call ≡ call))) (sym with_same) (of_call done.row.pending on.update);
        })
    by_way (inr out) = inl (told done.out.reply out.told)

pub calls_are_taken : CallsAreTaken
calls_are_taken node call key op ok = by_call (λ stepped. IsAnsweredAlone key call stepped ⊎ HasBegun stepped key call) node call key op ok (record {
  answered = λ answer. inl (answer, refl);
  begins = λ s ready valid next. begun_taken node call key op s next;
})
