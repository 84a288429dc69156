-- All letters of a step are in range.
use Rattle.std.proofs.Common.{ℕ, List, [], ◌∷◌, ◌++◌, Option, Some, None, IfSome}
use Rattle.std.specs.List.{AllByRecursion, flat_map}
use Rattle.hk_base.specs.declared.call.CallNo.{CallNo}
use Rattle.hk_base.specs.declared.call.Op.{Op}
use Rattle.hk_base.specs.Range.{IsBody, IsLetter}
use Rattle.hk_base.specs.Register.{act}
use Rattle.hk_base.specs.Stamp.{tag_of}
use Rattle.hk_key.specs.declared.out.Sending.{Sending}
use Rattle.hk_key.specs.Table.{Done}
use Rattle.hk_node.specs.declared.event.NodeEvent.TheVariants.{Call}
use Rattle.hk_node.specs.Rows.{Rows, row_at}
use Rattle.hk_node.specs.Node.{NodeState, members_of}
use Rattle.hk_node.specs.Sends.{body_of, addressees, sent}
use Rattle.hk_node.specs.Stepped.{Stepped}
use Rattle.hk_node.specs.Calls.{kind_of, register_in}
use Rattle.hk_node.specs.Steps.{viewed}
use Rattle.hk_node.specs.Laws.{LettersInRange}
use Rattle.hk_node.proofs.Leaving.{act_leaves}
use Rattle.hk_node.proofs.Parts.{next_is_next}
use Rattle.hk_node.proofs.Keeps.{begun}
use Rattle.hk_node.proofs.Acts.{SendsWithin, Acts, begin_sends}
use Rattle.hk_node.proofs.StepCases.{CallCases, StepCases, letters_within, by_call, by_event}

sent_within : (node : NodeState) (key : List ℕ) (done : Done) → SendsWithin key done → AllByRecursion IsLetter (sent node key done.row done.out.send)
sent_within node key done h = by_send done.out.send h
  where
    by_send : (o : Option Sending) → IfSome o (λ sending. IsBody (body_of key done.row sending.what)) → AllByRecursion IsLetter (sent node key done.row o)
    by_send None h = tt
    by_send (Some sending) h = letters_within node (body_of key done.row sending.what) (addressees node done.row sending.aim) h

all_append : {X : Type 0} (P : X → Type 0) (xs ys : List X) → AllByRecursion P xs → AllByRecursion P ys → AllByRecursion P (xs ++ ys)
all_append P [] ys all more = more
all_append P (x ∷ xs) ys all more = (all.0, all_append P xs ys all.1 more)

-- what holds of each part of a list that is made of parts
pub all_parts : {X Y : Type 0} (P : Y → Type 0) (f : X → List Y) (xs : List X) → AllByRecursion (λ x. AllByRecursion P (f x)) xs → AllByRecursion P (flat_map f xs)
all_parts P f [] all = tt
all_parts P f (x ∷ xs) all = all_append P (f x) (flat_map f xs) all.0 (all_parts P f xs all.1)

abbrev Within : Stepped → Type 0
Within stepped = AllByRecursion IsLetter stepped.letters

each_view : (new : NodeState) (rows : Rows) → AllByRecursion (λ r. Acts r.0 r.1 (viewed new r)) rows →
    AllByRecursion (λ r. AllByRecursion IsLetter (sent new r.0 (viewed new r).row (viewed new r).out.send)) rows
each_view new [] all = tt
each_view new (r ∷ rows) all = (sent_within new r.0 (viewed new r) all.0.sends, each_view new rows all.1)

ways : (node : NodeState) (named : Option (List ℕ)) → StepCases Within node named
ways node named = record {
  quiet = λ clock granted ends activated. tt;
  sends = λ letters within. within;
  row = λ key done names acts. sent_within node key done acts.sends;
  takes = λ cursor done items none unready within. tt;
  installs = λ view activated none acts. let new = record node { view = Some view; activated = activated } in
      all_parts IsLetter (λ r. sent new r.0 (viewed new r).row (viewed new r).out.send) node.rows (each_view new node.rows acts);
}

call_ways : (node : NodeState) (call : CallNo) (key : List ℕ) (op : Op) → CallCases Within node call key op
call_ways node call key op = record {
  answered = λ answer. tt;
  begins = λ s ready valid next. sent_within node key (begun node call op (row_at key node.rows) s)
      (begin_sends key node.id (members_of node) (record { call = call; answer = (act op (register_in (row_at key node.rows)) (tag_of s)).answer }) s (kind_of op)
      (act op (register_in (row_at key node.rows)) (tag_of s)).register.content (next_is_next (kind_of op) (row_at key node.rows).stamp node.id s next).within
      (act_leaves op (row_at key node.rows).content (tag_of (row_at key node.rows).stamp) (tag_of s)));
}

pub letters_in_range : LettersInRange
letters_in_range node (Call call key op) ok within = by_call Within node call key op ok (call_ways node call key op)
letters_in_range node event ok within = by_event Within node ok event within tt (ways node _)
