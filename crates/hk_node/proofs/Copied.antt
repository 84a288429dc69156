-- The rows as they are copied, and the letters of copies.
use Rattle.std.proofs.Common.{◌≡◌, ℕ, List, [], ◌∷◌, Bool, true, false, cond, Option, Some, None, refl, sym, ap, subst, ◌∙◌, arith, not, ◌&&◌, if◌then◌else◌}
use Rattle.std.specs.Option.{IsSome, is_some}
use Rattle.std.specs.List.{AllByRecursion}
use Rattle.std.specs.List.Sorted.{IsStrictlySortedBy}
use Rattle.std.specs.Map.{keys_of}
use Rattle.hk_base.specs.declared.letter.Body.{Body}
use Rattle.hk_base.specs.declared.stamp.NodeId.{NodeId}
use Rattle.hk_base.specs.declared.view.View.{View}
use Rattle.hk_copy.specs.Batches.{IsRising, is_nil, row_at}
use Rattle.hk_key.specs.declared.row.Row.{Row}
use Rattle.hk_node.specs.Rows.{Rows, find_row}
use Rattle.hk_base.specs.declared.letter.Body.TheVariants.{CopyAsk, CopyGive}
use Rattle.hk_node.specs.declared.out.NodeOut.{NodeOut}
use Rattle.hk_node.specs.declared.report.Undo.TheVariants.{Nothing}
use Rattle.hk_node.specs.Node.{NodeState, is_other}
use Rattle.hk_node.specs.Sends.{letters_to, at_view}
use Rattle.hk_base.specs.declared.call.Content.{Content}
use Rattle.hk_node.specs.Sound.{IsNode}
use Rattle.hk_node.specs.Stepped.{idle}
use Rattle.hk_node.specs.Report.{rows_report}
use Rattle.hk_node.specs.Outs.{IsOutOf}
use Rattle.hk_node.specs.Copies.{copy_of, copies_of, is_valid, told, asks_copy, gives_copy, batch_behind}
use Rattle.hk_node.proofs.Outs.{out_of_still}
use Rattle.std.proofs.lemmas.Bool.{false≢true}
use Rattle.std.proofs.lemmas.Option.{none-some}
use Rattle.hk_node.proofs.Order.{Key, Lt, Rising, same_key, same_true}

above_all : (key : Key) (rows : Rows) → AllByRecursion (λ k. Lt key k) (keys_of rows) → AllByRecursion (λ later. Lt key later.key) (copies_of rows)
above_all key [] all = tt
above_all key (r ∷ rows) all = (all.0, above_all key rows all.1)

pub copies_rise : (rows : Rows) → Rising rows → IsRising (copies_of rows)
unfolding IsStrictlySortedBy
copies_rise [] rising = tt
copies_rise (r ∷ rows) rising = (above_all r.0 rows rising.0, copies_rise rows rising.1)

-- the copy of a row that is there
pub item_is : (key : Key) (rows : Rows) (row : Row) → find_row key rows ≡ Some row → row_at key (copies_of rows) ≡ Some (copy_of (key, row))
item_is key [] row e = absurd (none-some row e)
item_is key (r ∷ rows) row e = by_test (same_key key r.0) refl e (item_is key rows row)
  where
    by_test : (b : Bool) → same_key key r.0 ≡ b → cond b (Some r.1) (find_row key rows) ≡ Some row → (find_row key rows ≡ Some row → row_at key (copies_of rows) ≡ Some (copy_of (key, row))) →
        cond b (Some (copy_of r)) (row_at key (copies_of rows)) ≡ Some (copy_of (key, row))
    by_test true same at more =
        let one : r.1 ≡ row = grind arith in
        ap (λ (k : Key). Some (copy_of (k, r.1))) (sym (same_true key r.0 same)) ∙ ap (λ (x : Row). Some (copy_of (key, x))) one
    by_test false same at more = more at

-- where a row is, so is its copy
pub row_from_item : (key : Key) (rows : Rows) → IsSome (row_at key (copies_of rows)) → IsSome (find_row key rows)
row_from_item key [] there = there
row_from_item key (r ∷ rows) there = by_test (same_key key r.0) there (row_from_item key rows)
  where
    by_test : (b : Bool) → IsSome (cond b (Some (copy_of r)) (row_at key (copies_of rows))) → (IsSome (row_at key (copies_of rows)) → IsSome (find_row key rows)) →
        IsSome (cond b (Some r.1) (find_row key rows))
    by_test true at more = refl
    by_test false at more = more at

-- ---- letters of copies
pub letters_alike : (id : NodeId) (view : View) (node : NodeState) (body : Body) (to : List NodeId) → node.id ≡ id → node.view ≡ Some view → letters_to (at_view id view) body to ≡ letters_to node body to
letters_alike id view node body to same seen = rw (same, seen) refl

pub told_out : (inside node : NodeState) (view : View) (body : Body) (to : NodeId) (out : NodeOut) → inside ≡ node → inside.view ≡ Some view →
    out.letters ≡ letters_to (at_view inside.id view) body (to ∷ []) → out.replies ≡ [] → out.installed ≡ None → out.undo ≡ Nothing → out.report ≡ rows_report inside [] → IsNode inside →
    IsOutOf out node (told node body to)
told_out inside node view body to out same seen letters replies installed undo reports ok = out_of_still node (told node body to) out (subst IsNode same ok) refl
    (letters ∙ letters_alike inside.id view node body (to ∷ []) (sym (ap (λ (n : NodeState). n.id) same)) (sym (ap (λ (n : NodeState). n.view) same) ∙ seen))
    replies installed undo (reports ∙ ap (λ (n : NodeState). rows_report n []) same)

pub asks_told : (node : NodeState) (from : NodeId) (room : ℕ) → node.ready ≡ false → is_other node from ≡ true → asks_copy node from room ≡ told node (CopyAsk node.cursor room) from
asks_told node from room unready other = rw (unready, other) refl

pub asks_ready : (node : NodeState) (from : NodeId) (room : ℕ) → node.ready ≡ true → asks_copy node from room ≡ idle node
asks_ready node from room e = rw e refl

pub asks_stranger : (node : NodeState) (from : NodeId) (room : ℕ) → is_other node from ≡ false → asks_copy node from room ≡ idle node
asks_stranger node from room e = by_ready (not node.ready) (is_other node from) e
  where
    by_ready : (r o : Bool) → o ≡ false → (if r && o then told node (CopyAsk node.cursor room) from else idle node) ≡ idle node
    by_ready r true e = absurd (false≢true (sym e))
    by_ready true false e = refl
    by_ready false false e = refl

pub gives_told : (node : NodeState) (to : NodeId) (after : Option Key) (room : ℕ) → node.ready ≡ true →
    gives_copy node to after room ≡ told node (CopyGive after (is_nil (batch_behind node after room).left) (batch_behind node after room).taken) to
gives_told node to after room ready = rw ready refl

pub gives_none : (node : NodeState) (to : NodeId) (after : Option Key) (room : ℕ) → node.ready ≡ false → gives_copy node to after room ≡ idle node
gives_none node to after room e = rw e refl

-- ---- the rows of a node
pub rise_now : (inside node : NodeState) → IsNode inside → inside ≡ node → IsRising (copies_of node.rows)
rise_now inside node ok same = copies_rise node.rows (subst IsNode same ok).ordered

pub not_there : (key : Key) (rows : Rows) → IsSome (row_at key (copies_of rows)) → find_row key rows ≡ None → ⊥
not_there key rows there none = false≢true (sym (ap is_some none) ∙ row_from_item key rows there)

pub item_made : (key : Key) (rows : Rows) (row : Row) (k : Key) (valid : Bool) (content : Option Content) → find_row key rows ≡ Some row → k ≡ key → valid ≡ is_valid row.state →
    content ≡ row.content → row_at key (copies_of rows) ≡ Some (record { key = k; stamp = row.stamp; kind = row.kind; valid = valid; content = content })
item_made key rows row k valid content found k_is valid_is content_is = rw (k_is, valid_is, content_is) (item_is key rows row found)
