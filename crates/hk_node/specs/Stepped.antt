-- What a step of a node makes, and the step of one row at its node.
use Rattle.std.specs.Prelude.{ℕ, List, [], ◌∷◌, map, Option, Some, None}
use Rattle.hk_base.specs.declared.call.Reply.{Reply}
use Rattle.hk_base.specs.declared.letter.Letter.{Letter}
use Rattle.hk_key.specs.Table.{Done}
use Rattle.hk_node.specs.Rows.{with_row}
use Rattle.hk_node.specs.Node.{NodeState}
use Rattle.hk_node.specs.Sends.{sent}

pub record Stepped : Type 0 where
  pub node : NodeState
  -- in the order of their keys, and for one key in rising order of the addressees
  pub letters : List Letter
  -- the calls that are answered, each with its key, in key order
  pub told : List (List ℕ × Reply)
  -- the epoch of the view that is installed
  pub installed : Option ℕ

abbrev pub replies_of : Stepped → List Reply
replies_of stepped = map (λ t. t.1) stepped.told

-- nothing happens
abbrev pub idle : NodeState → Stepped
idle node = record { node = node; letters = []; told = []; installed = None }

abbrev pub told_of : List ℕ → Option Reply → List (List ℕ × Reply)
told_of key None = []
told_of key (Some reply) = (key, reply) ∷ []

-- one row makes a step
abbrev pub row_step : NodeState → List ℕ → Done → Stepped
row_step node key done = record {
  node = record node { rows = with_row key done.row node.rows };
  letters = sent node key done.row done.out.send;
  told = told_of key done.out.reply;
  installed = None;
}
