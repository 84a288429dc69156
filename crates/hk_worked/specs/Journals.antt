-- Two short journals, and a note of a local read.
use Rattle.std.specs.Prelude.{ℕ, List, [], ◌∷◌, Some, decimal}
use Rattle.hk_base.specs.declared.stamp.NodeId.{NodeId}
use Rattle.hk_base.specs.declared.stamp.Stamp.{Stamp}
use Rattle.hk_base.specs.declared.stamp.Kind.TheVariants as Kind
use Rattle.hk_base.specs.declared.call.CallNo.{CallNo}
use Rattle.hk_base.specs.declared.call.Content.{Content}
use Rattle.hk_base.specs.declared.call.Op.{Op}
use Rattle.hk_base.specs.declared.call.Op.TheVariants.{Write}
use Rattle.hk_base.specs.declared.call.Answer.{Answer}
use Rattle.hk_base.specs.declared.call.Answer.TheVariants.{Found, Stored}
use Rattle.hk_base.specs.declared.call.Reply.{Reply}
use Rattle.hk_base.specs.declared.letter.Actor.TheVariants.{Node}
use Rattle.hk_base.specs.declared.letter.Body.{Body}
use Rattle.hk_base.specs.declared.letter.Body.TheVariants.{Inv, Ack, Val}
use Rattle.hk_base.specs.declared.letter.Letter.{Letter}
use Rattle.hk_node.specs.declared.event.NodeEvent.TheVariants.{Call, Receive}
use Rattle.hk_journal.specs.declared.step_entry.JournalEntry.{JournalEntry}
use Rattle.hk_merge.specs.declared.note.Note.{Note}
use Rattle.hk_merge.specs.Merged.{JournalList}

abbrev pub first_node : NodeId
first_node = record { 0 = 0 }

abbrev pub second_node : NodeId
second_node = record { 0 = 1 }

-- the key `k0`
abbrev pub key : List ℕ
key = 107 ∷ 48 ∷ []

abbrev pub content : Content
content = record { flags = 0; bytes = decimal 55 }

abbrev pub write : Op
write = Write content

-- the first plain write of a key, by the first node, and its tag
abbrev pub stamp : Stamp
stamp = record { version = 2; node = 0 }

abbrev pub tag : ℕ
tag = 131072

-- the first calls of two posts: no run has these numbers, and only answers are compared
abbrev pub first_call : CallNo
first_call = record { 0 = 4294967297 }

abbrev pub second_call : CallNo
second_call = record { 0 = 8589934593 }

-- ---- letters
abbrev pub sent : NodeId → NodeId → Body → Letter
sent from to body = record { epoch = 1; from = Node from; to = Node to; body = body }

abbrev pub invalidation : Letter
invalidation = sent first_node second_node (Inv key stamp Kind.Write (Some content))

abbrev pub acknowledgement : Letter
acknowledgement = sent second_node first_node (Ack key stamp stamp)

abbrev pub validation : Letter
validation = sent first_node second_node (Val key stamp)

-- ---- journals
-- the first node is asked to write the key
abbrev pub writes : JournalEntry
writes = record { ticket = 1; event = Call first_call key write; letters = invalidation ∷ []; replies = [] }

-- the second one acknowledges the update
abbrev pub acknowledges : JournalEntry
acknowledges = record { ticket = 2; event = Receive invalidation; letters = acknowledgement ∷ []; replies = [] }

-- the first one answers
abbrev pub completes : JournalEntry
completes = record { ticket = 3; event = Receive acknowledgement; letters = validation ∷ []; replies = record { call = first_call; answer = Stored } ∷ [] }

-- the second one hears that all have it
abbrev pub validates : JournalEntry
validates = record { ticket = 4; event = Receive validation; letters = []; replies = [] }

abbrev pub journals : JournalList
journals = (writes ∷ completes ∷ []) ∷ (acknowledges ∷ validates ∷ []) ∷ []

-- ---- the note
-- the second node's row was read as the entry of ticket 4 left it, with no lock, and this was told
abbrev pub noted : ℕ → Answer → Note
noted own answer = record { call = second_call; node = second_node; key = key; own = own; answer = answer; ticket = 4 }

abbrev pub note : Note
note = noted 5 (Found content tag)
