-- What a step tells stands in key order.
use Rattle.std.proofs.Common.{ℕ, List, [], ◌∷◌, ◌++◌, Option, Some, None}
use Rattle.std.specs.List.{AllByRecursion, flat_map}
use Rattle.std.specs.List.Sorted.{IsStrictlySortedBy}
use Rattle.std.specs.Map.{keys_of}
use Rattle.hk_base.specs.declared.call.CallNo.{CallNo}
use Rattle.hk_base.specs.declared.call.Op.{Op}
use Rattle.hk_base.specs.declared.call.Reply.{Reply}
use Rattle.hk_copy.specs.Batches.{key_cmp}
use Rattle.hk_key.specs.declared.row.Row.{Row}
use Rattle.hk_key.specs.Table.{Done, on_view}
use Rattle.hk_node.specs.declared.event.NodeEvent.TheVariants.{Call}
use Rattle.hk_node.specs.Rows.{Rows, row_at}
use Rattle.hk_node.specs.Node.{NodeState}
use Rattle.hk_node.specs.Stepped.{told_of}
use Rattle.hk_node.specs.Sound.{IsNode}
use Rattle.hk_node.specs.Laws.{key_of, ToldInOrder}
use Rattle.hk_node.proofs.Order.{Rising, Lt}
use Rattle.hk_node.proofs.Keeps.{begun}
use Rattle.hk_node.proofs.StepCases.{CallCases, StepCases, by_call, by_event}

abbrev Told : Type 0
Told = List (List ℕ × Reply)

abbrev InOrder : Told → Type 0
InOrder told = IsStrictlySortedBy key_cmp (keys_of told)

one_in_order : (key : List ℕ) (o : Option Reply) → InOrder (told_of key o)
unfolding IsStrictlySortedBy
one_in_order key None = tt
one_in_order key (Some q) = (tt, tt)

abbrev told_by : (Row → Done) → Rows → Told
told_by step rows = flat_map (λ (r : List ℕ × Row). told_of r.0 (step r.1).out.reply) rows

-- one more reply before others
above_more : (low key : List ℕ) (o : Option Reply) (told : Told) → Lt low key → AllByRecursion (Lt low) (keys_of told) → AllByRecursion (Lt low) (keys_of (told_of key o ++ told))
above_more low key None told lt all = all
above_more low key (Some q) told lt all = (lt, all)

above_told : (step : Row → Done) (low : List ℕ) (rows : Rows) → AllByRecursion (Lt low) (keys_of rows) → AllByRecursion (Lt low) (keys_of (told_by step rows))
above_told step low [] all = tt
above_told step low (r ∷ rows) all = above_more low r.0 (step r.1).out.reply (told_by step rows) all.0 (above_told step low rows all.1)

more_in_order : (key : List ℕ) (o : Option Reply) (told : Told) → AllByRecursion (Lt key) (keys_of told) → InOrder told → InOrder (told_of key o ++ told)
unfolding IsStrictlySortedBy
more_in_order key None told above rest = rest
more_in_order key (Some q) told above rest = (above, rest)

all_in_order : (step : Row → Done) (rows : Rows) → Rising rows → InOrder (told_by step rows)
unfolding IsStrictlySortedBy
all_in_order step [] rising = tt
all_in_order step (r ∷ rows) rising = more_in_order r.0 (step r.1).out.reply (told_by step rows) (above_told step r.0 rows rising.0) (all_in_order step rows rising.1)

none_in_order : InOrder []
unfolding IsStrictlySortedBy
none_in_order = tt

ways : (node : NodeState) (named : Option (List ℕ)) → IsNode node → StepCases (λ stepped. InOrder stepped.told) node named
ways node named ok = record {
  quiet = λ clock granted ends activated. none_in_order;
  sends = λ letters within. none_in_order;
  row = λ key done names acts. one_in_order key done.out.reply;
  takes = λ cursor done items none unready within. none_in_order;
  installs = λ view activated none acts. all_in_order (on_view node.id view.members) node.rows ok.ordered;
}

call_ways : (node : NodeState) (call : CallNo) (key : List ℕ) (op : Op) → CallCases (λ stepped. InOrder stepped.told) node call key op
call_ways node call key op = record {
  answered = λ answer. one_in_order key (Some (record { call = call; answer = answer }));
  begins = λ s ready valid next. one_in_order key (begun node call op (row_at key node.rows) s).out.reply;
}

pub told_in_order : ToldInOrder
told_in_order node (Call call key op) ok within = by_call (λ stepped. InOrder stepped.told) node call key op ok (call_ways node call key op)
told_in_order node event ok within = by_event (λ stepped. InOrder stepped.told) node ok event within tt (ways node (key_of event) ok)
