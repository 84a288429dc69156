-- A row that a step made, put where the one before stands.
use Rattle.std.proofs.Common.{◌≡◌, ◌≢◌, List, [], ◌∷◌, ℕ, Bool, true, false, cond, Option, Some, unwrap_or, Result, Ok, Err, OnErr, refl, sym, ap, ◌∙◌, subst, ⊎_elim, arith}
use Rattle.std.specs.Option.{IsSome, is_some}
use Rattle.std.specs.BTreeMap.{is_at}
use Rattle.std.specs.Map.{set_value}
use Rattle.hk_copy.specs.Batches.{key_cmp}
use Rattle.hk_base.specs.declared.view.View.{View}
use Rattle.hk_key.specs.declared.row.Row.{Row}
use Rattle.hk_key.specs.Table.{Done, first_row}
use Rattle.hk_key.specs.Same.{is_same_row}
use Rattle.hk_node.specs.declared.out.NodeOut.{NodeOut}
use Rattle.hk_node.specs.declared.report.PriorRow.{PriorRow}
use Rattle.hk_node.specs.Copies.{is_valid}
use Rattle.hk_node.specs.Rows.{Rows, find_row, row_at, put_row, with_row}
use Rattle.hk_node.specs.Node.{NodeState, epoch_in}
use Rattle.hk_node.specs.Index.{is_listed, HasOpen, IsGrown, IsRelisted, IsIndexed}
use Rattle.hk_node.specs.Stepped.{row_step}
use Rattle.hk_node.specs.Report.{IsMade, rows_report, changed_by, prior_of_row}
use Rattle.hk_node.specs.Outs.{IsOutOf, IsOutOfRow}
use Rattle.hk_node.specs.Sound.{IsNode}
use Rattle.hk_node.proofs.Order.{Key, Rising, put_there, with_made, cases_key, find-put_same, find-put_other}
use Rattle.hk_node.proofs.Placed.{set_is_put}
use Rattle.hk_node.proofs.Outs.{finished}
use Rattle.hk_node.proofs.Walk.{has_grown, kept_rows}
use Rattle.hk_node.proofs.Finishing.{found_now}

found_is_there : (key : Key) (old : Row) (rs : Rows) → find_row key rs ≡ Some old → IsSome (find_row key rs)
found_is_there key old rs found = ap is_some found

row_found : (key : Key) (old : Row) (rs : Rows) → find_row key rs ≡ Some old → row_at key rs ≡ old
row_found key old rs found = ap (λ (o : Option Row). unwrap_or o first_row) found

-- where the row that stands there is written, nothing changes
pub set_itself : (key : Key) (old : Row) (rs : Rows) → Rising rs → find_row key rs ≡ Some old → set_value (is_at (key_cmp key)) rs old ≡ rs
set_itself key old rs rising found = set_is_put key old rs rising (found_is_there key old rs found) ∙ put_there key old rs rising found

-- a row that a step made of one that stands there, where it is put
put_is_with : (key : Key) (old row : Row) (rs : Rows) → Rising rs → find_row key rs ≡ Some old → IsMade rs key row → put_row key row rs ≡ with_row key row rs
put_is_with key old row rs rising found made = by_test (is_same_row (row_at key rs) row) refl ∙ sym (with_made key row rs rising made)
  where
    by_test : (b : Bool) → is_same_row (row_at key rs) row ≡ b → put_row key row rs ≡ cond b rs (put_row key row rs)
    by_test true e = put_there key row rs rising (found ∙ ap Some (sym (made.same e ∙ row_found key old rs found)))
    by_test false e = refl

-- what is needed of the step is that it made the row of the one that stands there
pub made_same : (key : Key) (old row : Row) (rs : Rows) → find_row key rs ≡ Some old → IsMade rs key row → is_same_row old row ≡ true → row ≡ old
made_same key old row rs found made e = made.same (ap (λ (r : Row). is_same_row r row) (row_found key old rs found) ∙ e) ∙ row_found key old rs found

-- an index has the open rows again where the step relisted the key
pub has_stepped : (keys new : List Key) (rows after : Rows) (key : Key) (old row : Row) → after ≡ put_row key row rows → find_row key rows ≡ Some old →
    IsRelisted key old row keys new → HasOpen keys rows → HasOpen new after
has_stepped keys new rows after key old row put found lists has = subst (HasOpen new) (sym put) each
  where
    of_some : (x y : Row) → Some x ≡ Some y → x ≡ y
    of_some x y e = grind arith

    by_state : (b : Bool) → is_valid old.state ≡ b → is_valid row.state ≡ false → is_listed key new ≡ true
    by_state true was opens = lists.opened was opens
    by_state false was opens = lists.still opens (has key old found was)

    each : HasOpen new (put_row key row rows)
    each k r there is_open = ⊎_elim
        (λ (at : k ≡ key).
        let same : row ≡ r = of_some row r (sym (find-put_same key row rows) ∙ ap (λ (q : Key). find_row q (put_row key row rows)) (sym at) ∙ there) in
        subst (λ (q : Key). is_listed q new ≡ true) (sym at) (by_state (is_valid old.state) refl (ap (λ (x : Row). is_valid x.state) same ∙ is_open)))
        (λ (ne : k ≢ key). lists.others k ne (has k r (sym (find-put_other k key row rows ne) ∙ there) is_open))
        (cases_key k key)

-- what is told of a step of the row is told of the node's step
pub told_of_node : (node inside : NodeState) (view : View) (key : Key) (old : Row) (done : Done) (out : NodeOut) → inside ≡ node → inside.view ≡ Some view → IsNode inside →
    find_row key inside.rows ≡ Some old → IsMade inside.rows key done.row → IsOutOfRow inside.id view key old done out → IsOutOf out node (row_step node key done)
told_of_node node inside view key old done out same seen ok found made told =
    finished node inside view key done out same seen ok made told.letters told.replies told.installed told.undo (told.report ∙ reports)
  where
    reports : record { epoch = view.epoch; readied = false; rows = prior_of_row key old done.row } ≡ rows_report inside (changed_by key done.row inside.rows)
    reports = ap (λ (e : ℕ). record { epoch = e; readied = false; rows = prior_of_row key old done.row }) (sym (ap epoch_in seen))
        ∙ ap (λ (l : List PriorRow). rows_report inside l) priors
      where
        priors : prior_of_row key old done.row ≡ changed_by key done.row inside.rows
        priors = ap (λ (r : Row). cond (is_same_row r done.row) [] (record { key = key; row = Some old } ∷ [])) (sym (row_found key old inside.rows found))
            ∙ ap (λ (o : Option Row). cond (is_same_row (row_at key inside.rows) done.row) [] (record { key = key; row = o } ∷ [])) (sym found)

-- the same of a copy of the row that stands there
pub found_copy : (inside node : NodeState) (key : Key) (old copy : Row) → inside ≡ node → Some old ≡ find_row key inside.rows → copy ≡ old → find_row key node.rows ≡ Some copy
found_copy inside node key old copy same found is = found_now inside node key (Some old) same found ∙ ap Some (sym is)

pub on_err : {X E : Type 0} (r : Result X E) (P : Type 0) → P → OnErr r P
on_err (Ok x) P p = tt
on_err (Err e) P p = p

-- ---- the fields of a node, behind a write at the key
module _ (inside node : NodeState) (keys new : List Key) (whole : Bool) (key : Key) (old written : Row) (after : Rows) (same : inside ≡ node) (kept : IsIndexed inside keys whole)
    (found : Some old ≡ find_row key inside.rows) (holds : after ≡ set_value (is_at (key_cmp key)) inside.rows written) where
  module _ (is : written ≡ old) where
    rows_still : after ≡ inside.rows
    rows_still = holds ∙ ap (λ (r : Row). set_value (is_at (key_cmp key)) inside.rows r) is ∙ set_itself key old inside.rows kept.node.ordered (sym found)

    pub node_still : record inside { rows = after } ≡ node
    node_still = ap (λ (l : Rows). record inside { rows = l }) rows_still ∙ same

    pub indexed_still : IsGrown keys new → IsIndexed (record inside { rows = after }) new whole
    indexed_still grown = record {
      node = subst (λ (l : Rows). IsNode (record inside { rows = l })) (sym rows_still) kept.node;
      has = λ w. has_grown keys new after grown (subst (HasOpen keys) (sym rows_still) (kept.has w));
    }

  module _ (row : Row) (is : written ≡ row) (made : IsMade node.rows key row) where
    rows_put : after ≡ put_row key row inside.rows
    rows_put = holds ∙ ap (λ (r : Row). set_value (is_at (key_cmp key)) inside.rows r) is
        ∙ set_is_put key row inside.rows kept.node.ordered (found_is_there key old inside.rows (sym found))

    rows_stepped : after ≡ with_row key row inside.rows
    rows_stepped = rows_put ∙ put_is_with key old row inside.rows kept.node.ordered (sym found) (subst (λ (n : NodeState). IsMade n.rows key row) (sym same) made)

    pub node_stepped : record inside { rows = after } ≡ record node { rows = with_row key row node.rows }
    node_stepped = ap (λ (l : Rows). record inside { rows = l }) rows_stepped ∙ ap (λ (n : NodeState). record n { rows = with_row key row n.rows }) same

    pub indexed_stepped : IsNode (record node { rows = with_row key row node.rows }) → IsRelisted key old row keys new → IsIndexed (record inside { rows = after }) new whole
    indexed_stepped ok lists = record {
      node = kept_rows inside node key row after same ok rows_stepped;
      has = λ w. has_stepped keys new inside.rows after key old row rows_put (sym found) lists (kept.has w);
    }
