-- Each step of a node, by the ways that it can go.
use Rattle.std.proofs.Common.{◌≡◌, ◌≢◌, ◌≤◌, ◌<◌, ◌+◌, nat_lt, arith, ◌⊎◌, inl, inr, ℕ, List, [], ◌∷◌, ◌++◌, Bool, true, false, cond, Option, Some, None, unwrap_or, refl, sym, ap, ◌∙◌, subst, ⊎_elim}
use Rattle.std.specs.Option.{IsSomeAnd, option_map}
use Rattle.std.specs.List.{AllByRecursion, flat_map}
use Rattle.std.specs.List.Sorted.{IsStrictlySortedBy}
use Rattle.std.specs.Map.{keys_of}
use Rattle.std.proofs.lemmas.Bool.{false≢true}
use Rattle.std.proofs.lemmas.Option.{none-some}
use Rattle.hk_base.specs.declared.stamp.Stamp.{Stamp}
use Rattle.hk_base.specs.declared.call.Answer.{Answer}
use Rattle.hk_base.specs.declared.call.Answer.TheVariants.{Found, Missing, Stored, Number, Exists, NotFound, NotNumber, NotStored, Deleted, Busy, Aborted, Exhausted}
use Rattle.hk_base.specs.declared.call.Why.TheVariants as Why
use Rattle.hk_base.specs.declared.call.Op.{Op}
use Rattle.hk_base.specs.declared.call.Op.TheVariants.{Read}
use Rattle.hk_base.specs.declared.call.Reply.{Reply}
use Rattle.hk_base.specs.declared.call.State.{State}
use Rattle.hk_base.specs.declared.call.State.TheVariants.{Valid, Invalid, Write, Replay, Trans}
use Rattle.hk_base.specs.declared.letter.CopyItem.{CopyItem}
use Rattle.hk_base.specs.declared.view.View.{View}
use Rattle.hk_base.specs.Register.{act}
use Rattle.hk_base.specs.Stamp.{tag_of}
use Rattle.std.proofs.lemmas.Bool.Decides.{nat_tests}
use Rattle.hk_base.specs.Stamp.{tag_of}
use Rattle.hk_key.specs.declared.row.Pending.{Pending}
use Rattle.hk_key.specs.declared.row.Row.{Row}
use Rattle.std.specs.Ordering.{nat_cmp}
use Rattle.std.specs.declared.cmp.Ordering.{Ordering}
use Rattle.std.specs.declared.cmp.Ordering.TheVariants.{Less, Equal, Greater}
use Rattle.hk_key.specs.Table.{Done, first_row, on_view, on_copy, on_copy_at, copied_same}
use Rattle.hk_key.proofs.Rising.{begin_takes_stamp}
use Rattle.hk_node.specs.Rows.{Rows, find_row, row_at, put_row, is_touched, with_row}
use Rattle.hk_node.specs.Node.{NodeState, members_of}
use Rattle.hk_node.specs.Stepped.{Stepped, row_step, told_of}
use Rattle.hk_node.specs.Calls.{kind_of, next_stamp, register_in, answers, at_limit, at_turn, at_state, at_lease, lease_end}
use Rattle.hk_node.specs.Copies.{merged}
use Rattle.hk_node.specs.Steps.{installed_in}
use Rattle.hk_node.specs.Sound.{IsNode}
use Rattle.hk_node.specs.Laws.{key_of}
use Rattle.hk_node.proofs.Order.{Rising, Lt, same_key, same_true, same_of, same_not, cases_key, row-with_other, row-with_made, find-put_same, lt_ne_back}
use Rattle.hk_node.proofs.Keeps.{begun, none_pending_at}
use Rattle.hk_node.proofs.Acts.{acts_make}
use Rattle.hk_node.proofs.Parts.{next_is_next}
use Rattle.hk_node.proofs.Stamps.{row_mapped, begun_made}
use Rattle.hk_told.specs.Moves.{WaitsFor, Moves}
use Rattle.hk_told.specs.Answers.{tells_stay}
use Rattle.hk_told.specs.Steps.{told_at, StepMoves, AtOnce, Starts, CallsAnswerOrStart, ReadsLeaveNodes}
use Rattle.hk_told.proofs.Moving.{CompletesAtOnce, BeginsAt, unmoved, begin_starts, view_moves}
use Rattle.hk_told.proofs.Acted.{changes_alike, stays_tell, read_stays}
use Rattle.hk_told.proofs.StepCases.{Does, StepCases, by_event}

-- ---- what is told at a key
told_first : (key : List ℕ) (o : Option Reply) (rest : List (List ℕ × Reply)) → told_at key rest ≡ None → told_at key (told_of key o ++ rest) ≡ o
told_first key None rest none = none
told_first key (Some q) rest none = ap (λ (b : Bool). cond b (Some q) (told_at key rest)) (same_of key key refl)

told_next : (key k : List ℕ) (o : Option Reply) (rest : List (List ℕ × Reply)) → key ≢ k → told_at key (told_of k o ++ rest) ≡ told_at key rest
told_next key k None rest ne = refl
told_next key k (Some q) rest ne = ap (λ (b : Bool). cond b (Some q) (told_at key rest)) (same_not key k ne)

told_same : (key : List ℕ) (o : Option Reply) → told_at key (told_of key o) ≡ o
told_same key None = refl
told_same key (Some q) = ap (λ (b : Bool). cond b (Some q) None) (same_of key key refl)

told_other : (key k : List ℕ) (o : Option Reply) → key ≢ k → told_at key (told_of k o) ≡ None
told_other key k None ne = refl
told_other key k (Some q) ne = ap (λ (b : Bool). cond b (Some q) None) (same_not key k ne)

-- what is told at a key where all rows make a step
abbrev told_by : (Row → Done) → Option Row → Option Reply
told_by step None = None
told_by step (Some row) = (step row).out.reply

told_above : (step : Row → Done) (key : List ℕ) (rows : Rows) → AllByRecursion (Lt key) (keys_of rows) → told_at key (flat_map (λ (r : List ℕ × Row). told_of r.0 (step r.1).out.reply) rows) ≡ None
told_above step key [] above = refl
told_above step key (r ∷ rows) above =
    told_next key r.0 (step r.1).out.reply (flat_map (λ (r : List ℕ × Row). told_of r.0 (step r.1).out.reply) rows) (λ e. lt_ne_back key r.0 above.0 (sym e)) ∙ told_above step key rows above.1

told_among : (step : Row → Done) (key : List ℕ) (rows : Rows) → Rising rows → told_at key (flat_map (λ (r : List ℕ × Row). told_of r.0 (step r.1).out.reply) rows) ≡ told_by step (find_row key rows)
unfolding IsStrictlySortedBy
told_among step key [] rising = refl
told_among step key (r ∷ rows) rising = by_test (same_key key r.0) refl rising.0 (told_among step key rows rising.1)
  where
    rest : List (List ℕ × Reply)
    rest = flat_map (λ (r : List ℕ × Row). told_of r.0 (step r.1).out.reply) rows

    by_test : (b : Bool) → same_key key r.0 ≡ b → AllByRecursion (Lt r.0) (keys_of rows) → told_at key rest ≡ told_by step (find_row key rows) →
        told_at key (told_of r.0 (step r.1).out.reply ++ rest) ≡ told_by step (cond b (Some r.1) (find_row key rows))
    by_test true e above more =
        let same : key ≡ r.0 = same_true key r.0 e in
        subst (λ (k : List ℕ). told_at k (told_of r.0 (step r.1).out.reply ++ rest) ≡ (step r.1).out.reply) (sym same) (told_first r.0 (step r.1).out.reply rest (told_above step r.0 rows above))
    by_test false e above more = told_next key r.0 (step r.1).out.reply rest (λ same. false≢true (sym e ∙ same_of key r.0 same)) ∙ more

-- ---- a row that keeps no pending update
none_kept : (old new : Row) → old.pending ≡ None → new.pending ≡ None → Moves old new None
none_kept old new e f = record {
  goes = λ s k kept w. absurd (subst (λ (o : Option Pending). IsSomeAnd o (λ p. (p.stamp ≡ s) × (p.kind ≡ k) × (p.reply ≡ Some kept))) e w.update);
  waited = λ kept h. absurd (subst (λ (o : Option Pending). IsSomeAnd o (λ p. p.reply ≡ Some kept)) f h);
  answers = λ r t. absurd (none-some r t);
}

copy_idle : (row : Row) (item : CopyItem) → row.pending ≡ None → (on_copy row item).pending ≡ None
copy_idle row item e = by_order (nat_cmp (tag_of row.stamp) (tag_of item.stamp))
  where
    same : (valid : Bool) (state : State) → (copied_same valid state row).pending ≡ None
    same true Invalid = e
    same true Valid = e
    same true Write = e
    same true Replay = e
    same true Trans = e
    same false state = e

    by_order : (o : Ordering) → (on_copy_at o row item).pending ≡ None
    by_order Less = refl
    by_order Equal = same item.valid row.state
    by_order Greater = e

-- the rows of a batch keep no pending update
abbrev AllIdle : Rows → Type 0
AllIdle rows = (q : List ℕ) → (row_at q rows).pending ≡ None

put_idle : (key : List ℕ) (row : Row) (rows : Rows) → row.pending ≡ None → AllIdle rows → AllIdle (with_row key row rows)
put_idle key row rows e all q = ⊎_elim here (λ (ne : q ≢ key). ap (λ (r : Row). r.pending) (row-with_other q key row rows ne) ∙ all q) (cases_key q key)
  where
    by_test : (b : Bool) → (row_at key (cond b (put_row key row rows) rows)).pending ≡ None
    by_test true = ap (λ (o : Option Row). (unwrap_or o first_row).pending) (find-put_same key row rows) ∙ e
    by_test false = all key

    here : q ≡ key → (row_at q (with_row key row rows)).pending ≡ None
    here e = subst (λ (k : List ℕ). (row_at k (with_row key row rows)).pending ≡ None) (sym e) (by_test (is_touched row))

merged_idle : (items : List CopyItem) (rows : Rows) → AllIdle rows → AllIdle (merged items rows)
merged_idle [] rows all = all
merged_idle (item ∷ items) rows all = merged_idle items (with_row item.key (on_copy (row_at item.key rows) item) rows)
    (put_idle item.key (on_copy (row_at item.key rows) item) rows (copy_idle (row_at item.key rows) item (all item.key)) all)

module _ (node : NodeState) (ok : IsNode node) (key : List ℕ) where
  abbrev At : Stepped → Type 0
  At stepped = Moves (row_at key node.rows) (row_at key stepped.node.rows) (told_at key stepped.told)

  still_at : At (record { node = node; letters = []; told = []; installed = None })
  still_at = unmoved (row_at key node.rows) (row_at key node.rows) refl

  row_moves : (k : List ℕ) (done : Done) → Does k (row_at k node.rows) done → At (row_step node k done)
  row_moves k done does = ⊎_elim here
      (λ (ne : key ≢ k). subst (Moves (row_at key node.rows) (row_at key (with_row k done.row node.rows))) (sym (told_other key k done.out.reply ne))
      (unmoved (row_at key node.rows) (row_at key (with_row k done.row node.rows)) (row-with_other key k done.row node.rows ne)))
      (cases_key key k)
    where
      here : key ≡ k → At (row_step node k done)
      here e = subst (λ (q : List ℕ). Moves (row_at q node.rows) (row_at q (with_row k done.row node.rows)) (told_at q (told_of k done.out.reply))) (sym e)
          (subst (Moves (row_at k node.rows) (row_at k (with_row k done.row node.rows))) (sym (told_same k done.out.reply))
          (subst (λ (r : Row). Moves (row_at k node.rows) r done.out.reply) (sym (row-with_made k done.row node.rows (acts_make k node.rows done ok.touched does.acts))) does.moves))

  view_moves_at : (view : View) (activated : List ℕ) → At (installed_in (record node { view = Some view; activated = activated }) view.epoch)
  view_moves_at view activated =
      subst (λ (o : Option Row). Moves (row_at key node.rows) (unwrap_or o first_row) (told_at key (installed_in (record node { view = Some view; activated = activated }) view.epoch).told)) (sym (row_mapped (λ r. (step r).row) key node.rows))
      (subst (Moves (row_at key node.rows) (unwrap_or (option_map (λ r. (step r).row) (find_row key node.rows)) first_row)) (sym (told_among step key node.rows ok.ordered)) (by_found (find_row key node.rows)))
    where
      step : Row → Done
      step row = on_view node.id view.members row

      by_found : (o : Option Row) → Moves (unwrap_or o first_row) (unwrap_or (option_map (λ r. (step r).row) o) first_row) (told_by step o)
      by_found None = unmoved first_row first_row refl
      by_found (Some row) = view_moves node.id view.members row

  ways : (named : Option (List ℕ)) → StepCases At node named
  ways named = record {
    quiet = λ clock granted ends activated. still_at;
    sends = λ letters within. still_at;
    row = λ k done names does. row_moves k done does;
    takes = λ cursor done items none unready within. none_kept (row_at key node.rows) (row_at key (merged items node.rows)) (none_pending_at node key ok unready)
        (merged_idle items node.rows (λ q. none_pending_at node q ok unready) key);
    installs = λ view activated none does. view_moves_at view activated;
  }

pub step_moves : StepMoves
step_moves node event key ok within other = by_event (At node ok key) node ok event within other (ways node ok key (key_of event))

-- ---- a call
-- what an operation answers where it leaves the register is told at once
stays_at_once : (end now skew : ℕ) (row : Row) (op : Op) (answer : Answer) → now + skew ≤ end → row.state ≡ Valid → (act op (register_in row) 0).changed ≡ false →
    (act op (register_in row) 0).answer ≡ answer → tells_stay answer ≡ true → AtOnce end now skew row op answer
stays_at_once end now skew row op (Found content tag) runs valid stays is tells = (runs, valid, stays, is)
stays_at_once end now skew row op Missing runs valid stays is tells = (runs, valid, stays, is)
stays_at_once end now skew row op Exists runs valid stays is tells = (runs, valid, stays, is)
stays_at_once end now skew row op NotFound runs valid stays is tells = (runs, valid, stays, is)
stays_at_once end now skew row op NotNumber runs valid stays is tells = (runs, valid, stays, is)
stays_at_once end now skew row op NotStored runs valid stays is tells = (runs, valid, stays, is)
stays_at_once end now skew row op Stored runs valid stays is tells = (runs, valid, stays, is)
stays_at_once end now skew row op (Number value) runs valid stays is tells = (runs, valid, stays, is)
stays_at_once end now skew row op Deleted runs valid stays is tells = (runs, valid, stays, is)
stays_at_once end now skew row op (Busy why) runs valid stays is tells = absurd (false≢true tells)
stays_at_once end now skew row op (Aborted stamp) runs valid stays is tells = absurd (false≢true tells)
stays_at_once end now skew row op (Exhausted stamp) runs valid stays is tells = absurd (false≢true tells)

runs_not : (a b : ℕ) → nat_lt a b ≡ false → b ≤ a
runs_not a b e = grind (arith, nat_tests)

runs_out : (a b : ℕ) → nat_lt a b ≡ true → a < b
runs_out a b e = grind (arith, nat_tests)

pub calls_answer_or_start : CallsAnswerOrStart
calls_answer_or_start node call key op ok = by_lease (nat_lt (lease_end node) (node.clock + node.skew)) refl
  where
    the_row : Row
    the_row = row_at key node.rows

    Way : Stepped → Type 0
    Way stepped = ((answer : Answer) × (stepped ≡ answers node key call answer) × AtOnce (lease_end node) node.clock node.skew the_row op answer) ⊎ Starts node call key op stepped

    starts : (s : Stamp) → the_row.state ≡ Valid → (act op (register_in the_row) 0).changed ≡ true → next_stamp (kind_of op) the_row.stamp node.id ≡ Some s →
        Starts node call key op (row_step node key (begun node call op the_row s))
    starts s valid changes next = record {
      stamp = s;
      answer = reply.answer;
      valid = valid;
      later = (next_is_next (kind_of op) the_row.stamp node.id s next).above;
      changes = changes_alike op the_row.content (tag_of the_row.stamp) (tag_of s) 0 ∙ changes;
      acts = refl;
      content = ap (λ (r : Row). r.content) there ∙ begins.content_of;
      own = ap (λ (r : Row). r.stamp) there ∙ begin_takes_stamp node.id (members_of node) reply s (kind_of op) (act op (register_in the_row) (tag_of s)).register.content;
      kind = ap (λ (r : Row). r.kind) there ∙ begins.kind_of;
      goes = by begins.goes;
    }
      where
        reply : Reply
        reply = record { call = call; answer = (act op (register_in the_row) (tag_of s)).answer }

        done : Done
        done = begun node call op the_row s

        begins : BeginsAt s (kind_of op) (act op (register_in the_row) (tag_of s)).register.content reply done
        begins = begin_starts node.id (members_of node) reply s (kind_of op) (act op (register_in the_row) (tag_of s)).register.content

        there : row_at key (with_row key done.row node.rows) ≡ done.row
        there = row-with_made key done.row node.rows (begun_made node call key op s next)

        by : (WaitsFor s (kind_of op) reply done.row × (done.row.state ≡ Write) × (done.out.reply ≡ None)) ⊎ CompletesAtOnce s reply done.row done.out.reply →
            (WaitsFor s (kind_of op) reply (row_at key (with_row key done.row node.rows)) × ((row_at key (with_row key done.row node.rows)).state ≡ Write) × (told_of key done.out.reply ≡ []))
            ⊎ (((row_at key (with_row key done.row node.rows)).state ≡ Valid) × ((row_at key (with_row key done.row node.rows)).pending ≡ None) × (told_of key done.out.reply ≡ (key, reply) ∷ []))
        by (inl h) = inl (subst (WaitsFor s (kind_of op) reply) (sym there) h.0, ap (λ (r : Row). r.state) there ∙ h.1, ap (told_of key) h.2)
        by (inr h) = inr (ap (λ (r : Row). r.state) there ∙ h.state, ap (λ (r : Row). r.pending) there ∙ h.gone, ap (told_of key) h.tells)

    by_limit : (o : Option Stamp) → node.clock + node.skew ≤ lease_end node → the_row.state ≡ Valid → (act op (register_in the_row) 0).changed ≡ true →
        next_stamp (kind_of op) the_row.stamp node.id ≡ o → Way (at_limit o node call key op the_row)
    by_limit None runs valid changes e = inl (Exhausted the_row.stamp, refl, (runs, valid, refl, changes, (node.id, e)))
    by_limit (Some s) runs valid changes e = inr (starts s valid changes e)

    by_turn : (b : Bool) → node.clock + node.skew ≤ lease_end node → the_row.state ≡ Valid → (act op (register_in the_row) 0).changed ≡ b → Way (at_turn b node call key op the_row)
    by_turn false runs valid e = inl (
      (act op (register_in the_row) 0).answer,
      refl,
      stays_at_once (lease_end node) node.clock node.skew the_row op (act op (register_in the_row) 0).answer runs valid e refl (stays_tell op the_row.content (tag_of the_row.stamp) 0 e),
    )
    by_turn true runs valid e = by_limit (next_stamp (kind_of op) the_row.stamp node.id) runs valid e refl

    not_valid : (state : State) → the_row.state ≡ state → (state ≡ Valid → ⊥) → the_row.state ≢ Valid
    not_valid state e n v = n (sym e ∙ v)

    by_state : (state : State) → node.clock + node.skew ≤ lease_end node → the_row.state ≡ state → Way (at_state state node call key op the_row)
    by_state Valid runs e = by_turn (act op (register_in the_row) 0).changed runs e refl
    by_state Invalid runs e = inl (Busy (Why.Row the_row.state the_row.stamp), refl, (runs, refl, refl, not_valid Invalid e (λ h. grind (arith, h))))
    by_state Write runs e = inl (Busy (Why.Row the_row.state the_row.stamp), refl, (runs, refl, refl, not_valid Write e (λ h. grind (arith, h))))
    by_state Replay runs e = inl (Busy (Why.Row the_row.state the_row.stamp), refl, (runs, refl, refl, not_valid Replay e (λ h. grind (arith, h))))
    by_state Trans runs e = inl (Busy (Why.Row the_row.state the_row.stamp), refl, (runs, refl, refl, not_valid Trans e (λ h. grind (arith, h))))

    by_lease : (b : Bool) → nat_lt (lease_end node) (node.clock + node.skew) ≡ b → Way (at_lease b node call key op)
    by_lease true e = inl (Busy (Why.Lease (lease_end node) node.clock), refl, (refl, refl, runs_out (lease_end node) (node.clock + node.skew) e))
    by_lease false e = by_state the_row.state (runs_not (lease_end node) (node.clock + node.skew) e) refl

-- ---- a read
pub reads_leave_nodes : ReadsLeaveNodes
reads_leave_nodes node call key = by_lease (nat_lt (lease_end node) (node.clock + node.skew))
  where
    the_row : Row
    the_row = row_at key node.rows

    by_turn : (b : Bool) → b ≡ false → (at_turn b node call key Read the_row).node ≡ node
    by_turn false e = refl
    by_turn true e = absurd (false≢true (sym e))

    by_state : (state : State) → (at_state state node call key Read the_row).node ≡ node
    by_state Valid = by_turn (act Read (register_in the_row) 0).changed (read_stays the_row.content (tag_of the_row.stamp) 0)
    by_state Invalid = refl
    by_state Write = refl
    by_state Replay = refl
    by_state Trans = refl

    by_lease : (b : Bool) → (at_lease b node call key Read).node ≡ node
    by_lease true = refl
    by_lease false = by_state the_row.state
