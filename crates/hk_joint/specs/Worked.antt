-- Runs worked by hand: their joint orders and their batches.
use Rattle.std.specs.Prelude.{◌≡◌, ℕ, List, [], ◌∷◌, None, Some, map}
use Rattle.hk_base.specs.declared.call.Op.TheVariants.{Read, Write}
use Rattle.hk_base.specs.declared.call.Content.{Content}
use Rattle.hk_history.specs.declared.event.Entry.{Entry}
use Rattle.hk_event.specs.declared.event.Event.{Event}
use Rattle.hk_event.specs.declared.event.Event.TheVariants.{Call}
use Rattle.hk_world.specs.Worked.{group, node, take}
use Rattle.hk_safety.specs.Run.{RunState}
use Rattle.hk_safety.specs.Moment.{moment}
use Rattle.hk_joint.specs.Joint.{joint_order, entries_of}
use Rattle.hk_joint.specs.Batch.{calls_of, batches}

abbrev pub content : ℕ → Content
content byte = record { flags = 0; bytes = byte ∷ [] }

abbrev pub key_a : List ℕ
key_a = 97 ∷ []

abbrev pub key_b : List ℕ
key_b = 98 ∷ []

abbrev pub set : List ℕ → ℕ → Event
set key byte = Call (node 0) key (Write (content byte))

abbrev pub get : List ℕ → Event
get key = Call (node 0) key Read

abbrev pub change : ℕ → ℕ → Entry
change call tag = record { call = record { 0 = call }; tag = Some tag }

abbrev pub look : ℕ → Entry
look call = record { call = record { 0 = call }; tag = None }

-- Alone a node writes two keys, reads both, and writes one again: the reads are a batch, and stand together.
abbrev pub batch_run : RunState
batch_run = record { header = group 1 0; events = set key_a 120 ∷ set key_b 121 ∷ get key_a ∷ get key_b ∷ set key_a 122 ∷ [] }

pub record BatchStandsTogether : Type 0 where
  pub order : entries_of (joint_order batch_run) ≡ change 1 131072 ∷ change 2 131072 ∷ look 3 ∷ look 4 ∷ change 5 262144 ∷ []
  pub batches : map calls_of (batches batch_run) ≡ (record { 0 = 3 } ∷ record { 0 = 4 } ∷ []) ∷ []

-- Of two writes that one node begins the other node takes the second one first: it is complete first, and so it stands first.
abbrev pub moments_run : RunState
moments_run = record { header = group 2 0; events = set key_a 120 ∷ set key_b 121 ∷ take 2 ∷ take 1 ∷ [] }

pub record MomentsOrderKeys : Type 0 where
  pub first : moment moments_run key_b 131072 ≡ 3
  pub second : moment moments_run key_a 131072 ≡ 4
  pub order : entries_of (joint_order moments_run) ≡ change 2 131072 ∷ change 1 131072 ∷ []
  pub batches : batches moments_run ≡ []
