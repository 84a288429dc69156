-- What the end of a row's step needs, and what it comes to.
use Rattle.std.proofs.Common.{◌≡◌, ◌≢◌, ◌<◌, ◌+◌, ◌==◌, nat_lt, arith, ℕ, List, Bool, true, false, Option, Some, None, Result, Ok, Err, IfOk, OnOk, sym, ap, ◌∙◌, subst}
use Rattle.std.proofs.lemmas.Bool.{and_parts}
use Rattle.std.proofs.lemmas.Bool.Decides.{nat_tests}
use Rattle.std.proofs.lemmas.Option.{none-some}
use Rattle.hk_base.specs.declared.stamp.Stamp.{Stamp}
use Rattle.hk_base.specs.declared.stamp.NodeId.{NodeId}
use Rattle.hk_base.specs.declared.stamp.Kind.{Kind}
use Rattle.hk_base.specs.declared.call.CallNo.{CallNo}
use Rattle.hk_base.specs.declared.call.Op.{Op}
use Rattle.hk_base.specs.declared.call.Answer.{Answer}
use Rattle.hk_base.specs.declared.call.Content.{Content}
use Rattle.hk_base.specs.declared.call.Reply.{Reply}
use Rattle.hk_base.specs.declared.memory.Memory.{Memory}
use Rattle.hk_base.specs.declared.view.View.{View}
use Rattle.hk_base.specs.Range.{IsWithin, Leaves}
use Rattle.hk_base.specs.Stamp.{tag_of}
use Rattle.hk_key.specs.declared.row.Row.{Row}
use Rattle.hk_key.specs.declared.out.Out.{Out}
use Rattle.hk_key.specs.Sound.{IsSound}
use Rattle.hk_key.specs.Table.{Done, begin, still}
use Rattle.hk_key.specs.Same.{is_same_stamp}
use Rattle.hk_key.proofs.Steps.{begin_is_sound}
use Rattle.hk_key.proofs.Rising.{begin_takes_stamp}
use Rattle.hk_key.proofs.SameNotes.{parts}
use Rattle.hk_node.specs.declared.out.NodeOut.{NodeOut}
use Rattle.hk_node.specs.Rows.{Rows, find_row, row_at, with_row}
use Rattle.hk_node.specs.Node.{NodeState, members_in, members_of}
use Rattle.hk_node.specs.Stepped.{Stepped, idle, row_step}
use Rattle.hk_node.specs.Calls.{answers, at_lease, called, lease_end}
use Rattle.hk_node.specs.Report.{IsMade}
use Rattle.hk_node.specs.Outs.{IsOutOf}
use Rattle.hk_node.specs.Sound.{IsNode}
use Rattle.hk_node.proofs.Keeps.{row_step_kept}
use Rattle.hk_node.proofs.Leaving.{later_above}
use Rattle.hk_node.proofs.Parts.{true_not_false}

pub done_is : (row : Row) (out : Out) (done : Done) → row ≡ done.row → out ≡ done.out → record { row = row; out = out } ≡ done
done_is row out done is told = ap (λ (r : Row). record { row = r; out = out }) is ∙ ap (λ (o : Out). record { row = done.row; out = o }) told

-- what is known of the step that was made is known of the step that was to be made
pub node_as : (r : Result NodeOut Memory) (new : NodeState) (s t : Stepped) → s ≡ t → OnOk r (new ≡ s.node) → OnOk r (new ≡ t.node)
node_as r new s t same h = subst (λ (u : Stepped). OnOk r (new ≡ u.node)) same h

pub out_as : (r : Result NodeOut Memory) (old : NodeState) (s t : Stepped) → s ≡ t → IfOk r (λ out. IsOutOf out old s) → IfOk r (λ out. IsOutOf out old t)
out_as r old s t same h = subst (λ (u : Stepped). IfOk r (λ out. IsOutOf out old u)) same h

pub seen_of : (inside node : NodeState) (view : View) → inside ≡ node → inside.view ≡ Some view → node.view ≢ None
seen_of inside node view same seen none = none-some view (sym (ap (λ (n : NodeState). n.view) same ∙ none) ∙ seen)

pub members_seen : (inside node : NodeState) (view : View) → inside ≡ node → inside.view ≡ Some view → members_of node ≡ view.members
members_seen inside node view same seen = sym (ap members_of same) ∙ ap members_in seen

-- a node as its fields have it, with its view
pub record Inside (inside node : NodeState) (view : View) : Type 0 where
  pub ok : IsNode inside
  pub same : inside ≡ node
  pub seen : inside.view ≡ Some view

-- what a look-up in the fields finds, the node has
pub found_now : (inside node : NodeState) (key : List ℕ) (o : Option Row) → inside ≡ node → o ≡ find_row key inside.rows → find_row key node.rows ≡ o
found_now inside node key o same e = sym (e ∙ ap (λ (n : NodeState). find_row key n.rows) same)

pub idle_node : (node : NodeState) (s : Stepped) → s ≡ idle node → node ≡ s.node
idle_node node s same = sym (ap (λ (t : Stepped). t.node) same)

-- what is told of a step in which nothing happens
pub idle_as : (out : NodeOut) (node : NodeState) (s : Stepped) → s ≡ idle node → IsOutOf out node (idle node) → IsOutOf out node s
idle_as out node s same h = subst (λ (t : Stepped). IsOutOf out node t) (sym same) h

-- a call that is answered at its row changes nothing
pub answered_now : (r : Result NodeOut Memory) (node : NodeState) (call : CallNo) (key : List ℕ) (op : Op) (answer : Answer) → nat_lt (lease_end node) (node.clock + node.skew) ≡ false →
    answers node key call answer ≡ at_lease false node call key op → OnOk r (node ≡ (called node call key op).node)
answered_now (Ok out) node call key op answer over is = ap (λ (s : Stepped). s.node) (is ∙ ap (λ (b : Bool). at_lease b node call key op) (sym over))
answered_now (Err fault) node call key op answer over is = tt

-- and what is told of it is what the call tells
pub answered_out : (r : Result NodeOut Memory) (node : NodeState) (call : CallNo) (key : List ℕ) (op : Op) (answer : Answer) → nat_lt (lease_end node) (node.clock + node.skew) ≡ false →
    answers node key call answer ≡ at_lease false node call key op → IfOk r (λ out. IsOutOf out node (answers node key call answer)) → IfOk r (λ out. IsOutOf out node (called node call key op))
answered_out r node call key op answer over is h = out_as r node (answers node key call answer) (called node call key op) (is ∙ ap (λ (b : Bool). at_lease b node call key op) (sym over)) h

-- the node after an update that begins
pub begin_kept : (inside node : NodeState) (view : View) (key : List ℕ) (reply : Reply) (s : Stamp) (kind : Kind) (content : Option Content) (row : Row) →
    IsNode inside → inside ≡ node → inside.view ≡ Some view → node.ready ≡ true → IsWithin s → (row_at key node.rows).stamp.version < s.version → Leaves kind content → row ≡ (begin inside.id view.members reply s kind content).row →
    IsNode (record node { rows = with_row key row node.rows })
begin_kept inside node view key reply s kind content row ok same seen ready within later leaves is =
    let sound : IsSound node.id (members_of node) row =
    subst (λ (r : Row). IsSound node.id (members_of node) r) (sym is)
    (subst (λ (n : NodeId). IsSound n (members_of node) (begin inside.id view.members reply s kind content).row) (ap (λ (n : NodeState). n.id) same)
    (rw (members_seen inside node view same seen) (begin_is_sound inside.id view.members reply s kind content within (later_above (row_at key node.rows).stamp s later) leaves))) in
    row_step_kept node key (still row) (subst IsNode same ok) (seen_of inside node view same seen) sound (λ r. true_not_false node.ready ready r)

-- it differs from the row that was there, whose version is lower
pub begins_made : (key : List ℕ) (rows : Rows) (me : NodeId) (members : List NodeId) (reply : Reply) (s : Stamp) (kind : Kind) (content : Option Content) →
    (row_at key rows).stamp.version < s.version → IsMade rows key (begin me members reply s kind content).row
begins_made key rows me members reply s kind content later = record {
  same = λ e. absurd (apart (parts (row_at key rows) (begin me members reply s kind content).row e).stamp);
  touched = λ e. subst (λ (t : Stamp). nat_lt 0 (tag_of t) ≡ true) (sym stamp) above;
}
  where
    stamp : (begin me members reply s kind content).row.stamp ≡ s
    stamp = begin_takes_stamp me members reply s kind content

    above : nat_lt 0 (tag_of s) ≡ true
    above = grind (arith, nat_tests)

    apart : is_same_stamp (row_at key rows).stamp (begin me members reply s kind content).row.stamp ≡ true → ⊥
    apart e =
        let one : is_same_stamp (row_at key rows).stamp s ≡ true = subst (λ (t : Stamp). is_same_stamp (row_at key rows).stamp t ≡ true) stamp e in
        let version = (and_parts ((row_at key rows).stamp.version == s.version) ((row_at key rows).stamp.node == s.node) one).0 in
        grind (arith, nat_tests)

pub begin_put : (me : NodeId) (node : NodeState) (view : View) (key : List ℕ) (reply : Reply) (s : Stamp) (kind : Kind) (content : Option Content) (row : Row) →
    (row_at key node.rows).stamp.version < s.version → row ≡ (begin me view.members reply s kind content).row → IsMade node.rows key row
begin_put me node view key reply s kind content row later is = subst (IsMade node.rows key) (sym is) (begins_made key node.rows me view.members reply s kind content later)

-- and its step
pub begin_made : (inside node : NodeState) (view : View) (key : List ℕ) (reply : Reply) (s : Stamp) (kind : Kind) (content : Option Content) (row : Row) (out : Out) →
    inside ≡ node → inside.view ≡ Some view → row ≡ (begin inside.id view.members reply s kind content).row → out ≡ (begin inside.id view.members reply s kind content).out →
    row_step node key (record { row = row; out = out }) ≡ row_step node key (begin node.id (members_of node) reply s kind content)
begin_made inside node view key reply s kind content row out same seen is told =
    ap (λ (d : Done). row_step node key d) (done_is row out (begin inside.id view.members reply s kind content) is told)
    ∙ ap (λ (n : NodeId). row_step node key (begin n view.members reply s kind content)) (ap (λ (n : NodeState). n.id) same)
    ∙ ap (λ (m : List NodeId). row_step node key (begin node.id m reply s kind content)) (sym (members_seen inside node view same seen))
