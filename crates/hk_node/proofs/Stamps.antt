-- The stamp of a row never falls, and a call that changes its row raises it.
use Rattle.std.proofs.Common.{◌≡◌, ◌≢◌, ◌≤◌, ◌<◌, ℕ, List, [], ◌∷◌, map, Bool, true, false, cond, nat_lt, Option, Some, None, unwrap_or, refl, sym, ap, arith, subst, ⊎_elim}
use Rattle.std.specs.Option.{option_map}
use Rattle.std.specs.BTreeMap.{is_at}
use Rattle.std.proofs.lemmas.Bool.Decides.{nat_tests}
use Rattle.std.proofs.lemmas.Map.Made.{lookup-map_values}
use Rattle.hk_base.specs.declared.stamp.Stamp.{Stamp}
use Rattle.hk_base.specs.declared.stamp.NodeId.{NodeId}
use Rattle.hk_base.specs.declared.call.CallNo.{CallNo}
use Rattle.hk_base.specs.declared.call.Op.{Op}
use Rattle.hk_base.specs.declared.letter.CopyItem.{CopyItem}
use Rattle.hk_base.specs.Register.{act}
use Rattle.hk_base.specs.Stamp.{tag_of}
use Rattle.hk_copy.specs.Batches.{key_cmp}
use Rattle.hk_key.specs.declared.row.Row.{Row}
use Rattle.hk_key.specs.Table.{first_row, on_copy, on_view}
use Rattle.hk_key.proofs.Rising.{begin_takes_stamp, copy_never_lowers, view_never_lowers}
use Rattle.hk_node.specs.declared.event.NodeEvent.TheVariants.{Call}
use Rattle.hk_node.specs.Rows.{Rows, find_row, row_at, put_row, is_touched, with_row}
use Rattle.hk_node.specs.Node.{NodeState, members_of}
use Rattle.hk_node.specs.Stepped.{Stepped}
use Rattle.hk_node.specs.Calls.{kind_of, next_stamp, register_in}
use Rattle.hk_node.specs.Copies.{merged}
use Rattle.hk_node.specs.Laws.{StampsNeverFall, BeginRaises}
use Rattle.hk_node.specs.Report.{IsMade}
use Rattle.hk_node.proofs.Finishing.{begins_made}
use Rattle.hk_node.proofs.Order.{cases_key, find-put_same, row-with_other, row-with_touched}
use Rattle.hk_node.proofs.Parts.{IsNext, next_is_next}
use Rattle.hk_node.proofs.Keeps.{begun}
use Rattle.hk_node.proofs.StepCases.{CallCases, StepCases, by_call, by_event}

-- the stamp of a row is at least that of another
abbrev pub IsUp : Row → Row → Type 0
IsUp old new = tag_of old.stamp ≤ tag_of new.stamp

up_itself : (row : Row) → IsUp row row
up_itself row = omega arith

up_same : (old new : Row) → new ≡ old → IsUp old new
up_same old new e = subst (IsUp old) (sym e) (up_itself old)

-- the row of the key with another row at some key
pub with_up : (key k : List ℕ) (row : Row) (rows : Rows) → IsUp (row_at k rows) row → IsUp (row_at key rows) (row_at key (with_row k row rows))
with_up key k row rows up = ⊎_elim
    (λ (e : key ≡ k). subst (λ (q : List ℕ). IsUp (row_at q rows) (row_at q (with_row k row rows))) (sym e) (by_touched (is_touched row)))
    (λ (ne : key ≢ k). up_same (row_at key rows) (row_at key (with_row k row rows)) (row-with_other key k row rows ne)) (cases_key key k)
  where
    by_touched : (b : Bool) → IsUp (row_at k rows) (row_at k (cond b (put_row k row rows) rows))
    by_touched true = subst (IsUp (row_at k rows)) (sym (ap (λ (o : Option Row). unwrap_or o first_row) (find-put_same k row rows))) up
    by_touched false = up_itself (row_at k rows)

merged_up : (key : List ℕ) (items : List CopyItem) (rows : Rows) → IsUp (row_at key rows) (row_at key (merged items rows))
merged_up key [] rows = up_itself (row_at key rows)
merged_up key (item ∷ items) rows =
    let one = with_up key item.key (on_copy (row_at item.key rows) item) rows (copy_never_lowers (row_at item.key rows) item) in
    let more = merged_up key items (with_row item.key (on_copy (row_at item.key rows) item) rows) in
    omega arith

-- the row of a key, where each row makes a step
pub row_mapped : (step : Row → Row) (key : List ℕ) (rows : Rows) → find_row key (map (λ (r : List ℕ × Row). (r.0, step r.1)) rows) ≡ option_map step (find_row key rows)
row_mapped step key rows = lookup-map_values step (is_at (key_cmp key)) rows

viewed_up : (me : NodeId) (members : List NodeId) (key : List ℕ) (rows : Rows) → IsUp (row_at key rows) (row_at key (map (λ (r : List ℕ × Row). (r.0, (on_view me members r.1).row)) rows))
viewed_up me members key rows = subst (λ (o : Option Row). IsUp (row_at key rows) (unwrap_or o first_row)) (sym (row_mapped (λ row. (on_view me members row).row) key rows)) (by_found (find_row key rows))
  where
    by_found : (o : Option Row) → IsUp (unwrap_or o first_row) (unwrap_or (option_map (λ row. (on_view me members row).row) o) first_row)
    by_found None = up_itself first_row
    by_found (Some row) = view_never_lowers me members row

-- a stamp at a later version is above one whose node is below 65,536
next_up : (s t : Stamp) (node : NodeId) → s.node < 65536 → IsNext s t node → tag_of s < tag_of t
next_up s t node small next = let above = next.above in omega arith

-- what a call that begins makes of its row
begun_up : (node : NodeState) (call : CallNo) (key : List ℕ) (op : Op) (s : Stamp) → (row_at key node.rows).stamp.node < 65536 →
    next_stamp (kind_of op) (row_at key node.rows).stamp node.id ≡ Some s → tag_of (row_at key node.rows).stamp < tag_of (begun node call op (row_at key node.rows) s).row.stamp
begun_up node call key op s small next =
    let takes = begin_takes_stamp node.id (members_of node) (record { call = call; answer = (act op (register_in (row_at key node.rows)) (tag_of s)).answer }) s (kind_of op)
    (act op (register_in (row_at key node.rows)) (tag_of s)).register.content in
    subst (λ (t : Stamp). tag_of (row_at key node.rows).stamp < tag_of t) (sym takes)
    (next_up (row_at key node.rows).stamp s node.id small (next_is_next (kind_of op) (row_at key node.rows).stamp node.id s next))

-- an update that begins is above `0.0`
pub begun_touched : (node : NodeState) (call : CallNo) (row : Row) (op : Op) (s : Stamp) → next_stamp (kind_of op) row.stamp node.id ≡ Some s → is_touched (begun node call op row s).row ≡ true
begun_touched node call row op s next =
    let takes = begin_takes_stamp node.id (members_of node) (record { call = call; answer = (act op (register_in row) (tag_of s)).answer }) s (kind_of op) (act op (register_in row) (tag_of s)).register.content in
    subst (λ (t : Stamp). nat_lt 0 (tag_of t) ≡ true) (sym takes) (later (next_is_next (kind_of op) row.stamp node.id s next))
  where
    later : IsNext row.stamp s node.id → nat_lt 0 (tag_of s) ≡ true
    later is = let above = is.above in grind (arith, nat_tests)

pub begun_made : (node : NodeState) (call : CallNo) (key : List ℕ) (op : Op) (s : Stamp) → next_stamp (kind_of op) (row_at key node.rows).stamp node.id ≡ Some s →
    IsMade node.rows key (begun node call op (row_at key node.rows) s).row
begun_made node call key op s next = begins_made key node.rows node.id (members_of node) (record { call = call; answer = (act op (register_in (row_at key node.rows)) (tag_of s)).answer }) s (kind_of op)
    (act op (register_in (row_at key node.rows)) (tag_of s)).register.content (next_is_next (kind_of op) (row_at key node.rows).stamp node.id s next).above

module _ (node : NodeState) (key : List ℕ) (small : (row_at key node.rows).stamp.node < 65536) where
  abbrev Up : Stepped → Type 0
  Up stepped = IsUp (row_at key node.rows) (row_at key stepped.node.rows)

  ways : (named : Option (List ℕ)) → StepCases Up node named
  ways named = record {
    quiet = λ clock granted ends activated. up_itself (row_at key node.rows);
    sends = λ letters within. up_itself (row_at key node.rows);
    row = λ k done names acts. with_up key k done.row node.rows acts.rises;
    takes = λ cursor done items none unready within. merged_up key items node.rows;
    installs = λ view activated none acts. viewed_up node.id view.members key node.rows;
  }

  call_ways : (call : CallNo) (k : List ℕ) (op : Op) → CallCases Up node call k op
  call_ways call k op = record {
    answered = λ answer. up_itself (row_at key node.rows);
    begins = λ s ready valid next. ⊎_elim
        (λ (e : key ≡ k).
        let small_there : (row_at k node.rows).stamp.node < 65536 = subst (λ (q : List ℕ). (row_at q node.rows).stamp.node < 65536) e small in
        let up = begun_up node call k op s small_there next in
        with_up key k (begun node call op (row_at k node.rows) s).row node.rows (omega arith))
        (λ (ne : key ≢ k). up_same (row_at key node.rows) (row_at key (with_row k (begun node call op (row_at k node.rows) s).row node.rows))
        (row-with_other key k (begun node call op (row_at k node.rows) s).row node.rows ne)) (cases_key key k);
  }

pub stamps_never_fall : StampsNeverFall
stamps_never_fall node (Call call k op) key ok within small = by_call (Up node key small) node call k op ok (call_ways node key small call k op)
stamps_never_fall node event key ok within small = by_event (Up node key small) node ok event within tt (ways node key small _)

pub begin_raises : BeginRaises
begin_raises node call key op ok small = by_call Raised node call key op ok (record {
  answered = λ answer differs. absurd (differs refl);
  begins = λ s ready valid next differs. subst (λ (row : Row). tag_of (row_at key node.rows).stamp < tag_of row.stamp)
      (sym (row-with_touched key (begun node call op (row_at key node.rows) s).row node.rows (begun_touched node call (row_at key node.rows) op s next)))
      (begun_up node call key op s small next);
})
  where
    Raised : Stepped → Type 0
    Raised stepped = row_at key stepped.node.rows ≢ row_at key node.rows → tag_of (row_at key node.rows).stamp < tag_of (row_at key stepped.node.rows).stamp
