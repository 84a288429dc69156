-- When two letters are one: field by field. That the test tells just equal letters is a law.
use Rattle.std.specs.Prelude.{◌≡◌, ◌↔◌, ℕ, List, Bool, true, false, ◌==◌, ◌&&◌, nat_eq}
use Rattle.std.specs.Bool.{beq}
use Rattle.std.specs.Option.{option_eq}
use Rattle.std.specs.Cmp.Lexicographic.{pointwise}
use Rattle.hk_base.specs.declared.stamp.NodeId.{NodeId}
use Rattle.hk_base.specs.declared.stamp.Stamp.{Stamp}
use Rattle.hk_base.specs.declared.stamp.Kind.{Kind}
use Rattle.hk_base.specs.declared.stamp.Kind.TheVariants.{Write, Rmw}
use Rattle.hk_base.specs.declared.call.Content.{Content}
use Rattle.hk_base.specs.declared.call.State.{State}
use Rattle.hk_base.specs.declared.call.State.TheVariants as st
use Rattle.hk_base.specs.declared.call.Why.{Why}
use Rattle.hk_base.specs.declared.call.Why.TheVariants as why
use Rattle.hk_base.specs.declared.call.Answer.{Answer}
use Rattle.hk_base.specs.declared.call.Answer.TheVariants as Answer
use Rattle.hk_base.specs.declared.call.Reply.{Reply}
use Rattle.hk_base.specs.declared.view.Ballot.{Ballot}
use Rattle.hk_base.specs.declared.view.View.{View}
use Rattle.hk_base.specs.declared.view.Voted.{Voted}
use Rattle.hk_base.specs.declared.letter.Actor.{Actor}
use Rattle.hk_base.specs.declared.letter.Actor.TheVariants.{Node, Manager}
use Rattle.hk_base.specs.declared.letter.CopyItem.{CopyItem}
use Rattle.hk_base.specs.declared.letter.Letter.{Letter}
use Rattle.hk_base.specs.declared.letter.Body.{Body}
use Rattle.hk_base.specs.declared.letter.Body.TheVariants.{Inv, Ack, Val, CopyAsk, CopyGive, LeaseAsk, LeaseGive, Prepare, Promise, Accept, Accepted, Chosen, Activate}
use Rattle.hk_merge.specs.Merged.{answers_of}

abbrev pub same_bytes : List ℕ → List ℕ → Bool
same_bytes = pointwise nat_eq

abbrev pub same_stamp : Stamp → Stamp → Bool
same_stamp a b = a.version == b.version && a.node == b.node

abbrev pub same_kind : Kind → Kind → Bool
same_kind Write Write = true
same_kind Rmw Rmw = true
same_kind a b = false

abbrev pub same_content : Content → Content → Bool
same_content a b = a.flags == b.flags && same_bytes a.bytes b.bytes

abbrev pub same_item : CopyItem → CopyItem → Bool
same_item a b = same_bytes a.key b.key && (same_stamp a.stamp b.stamp && (same_kind a.kind b.kind && (beq a.valid b.valid && option_eq same_content a.content b.content)))

abbrev pub same_ballot : Ballot → Ballot → Bool
same_ballot a b = a.round == b.round && a.manager == b.manager

abbrev pub same_member : NodeId → NodeId → Bool
same_member a b = a.0 == b.0

abbrev pub same_view : View → View → Bool
same_view a b = a.epoch == b.epoch && (pointwise same_member a.members b.members && a.next == b.next)

abbrev pub same_vote : Voted → Voted → Bool
same_vote a b = same_ballot a.ballot b.ballot && same_view a.view b.view

abbrev pub same_actor : Actor → Actor → Bool
same_actor (Node a) (Node b) = a.0 == b.0
same_actor (Manager a) (Manager b) = a == b
same_actor a b = false

-- bodies of letters about leases and views
unfoldable pub same_council : Body → Body → Bool
same_council (LeaseAsk a) (LeaseAsk b) = a == b
same_council (LeaseGive a) (LeaseGive b) = a == b
same_council (Prepare a) (Prepare b) = same_ballot a b
same_council (Promise a vote) (Promise b other) = same_ballot a b && option_eq same_vote vote other
same_council (Accept a view) (Accept b other) = same_ballot a b && same_view view other
same_council (Accepted a) (Accepted b) = same_ballot a b
same_council (Chosen view) (Chosen other) = same_view view other
same_council (Activate view) (Activate other) = same_view view other
same_council a b = false

-- these, and bodies of letters that copy rows
unfoldable pub same_copy : Body → Body → Bool
same_copy (CopyAsk after room) (CopyAsk b r) = option_eq same_bytes after b && room == r
same_copy (CopyGive after done items) (CopyGive b d more) = option_eq same_bytes after b && (beq done d && pointwise same_item items more)
same_copy a b = same_council a b

-- bodies of all letters
unfoldable pub same_body : Body → Body → Bool
same_body (Inv key s kind content) (Inv k t d c) = same_bytes key k && (same_stamp s t && (same_kind kind d && option_eq same_content content c))
same_body (Ack key s top) (Ack k t u) = same_bytes key k && (same_stamp s t && same_stamp top u)
same_body (Val key s) (Val k t) = same_bytes key k && same_stamp s t
same_body a b = same_copy a b

abbrev pub same_letter : Letter → Letter → Bool
same_letter a b = a.epoch == b.epoch && (same_actor a.from b.from && (same_actor a.to b.to && same_body a.body b.body))

-- ---- answers
abbrev pub same_state : State → State → Bool
same_state st.Valid st.Valid = true
same_state st.Invalid st.Invalid = true
same_state st.Write st.Write = true
same_state st.Replay st.Replay = true
same_state st.Trans st.Trans = true
same_state a b = false

abbrev pub same_why : Why → Why → Bool
same_why (why.Lease end now) (why.Lease e n) = end == e && now == n
same_why (why.Row state stamp) (why.Row s t) = same_state state s && same_stamp stamp t
same_why a b = false

abbrev pub same_answer : Answer → Answer → Bool
same_answer (Answer.Found c t) (Answer.Found d u) = same_content c d && t == u
same_answer Answer.Missing Answer.Missing = true
same_answer Answer.Stored Answer.Stored = true
same_answer (Answer.Number n) (Answer.Number m) = n == m
same_answer Answer.Exists Answer.Exists = true
same_answer Answer.NotFound Answer.NotFound = true
same_answer Answer.NotNumber Answer.NotNumber = true
same_answer Answer.NotStored Answer.NotStored = true
same_answer Answer.Deleted Answer.Deleted = true
same_answer (Answer.Busy w) (Answer.Busy v) = same_why w v
same_answer (Answer.Aborted s) (Answer.Aborted t) = same_stamp s t
same_answer (Answer.Exhausted s) (Answer.Exhausted t) = same_stamp s t
same_answer a b = false

-- the numbers of the calls are aside
abbrev pub same_reply : Reply → Reply → Bool
same_reply a b = same_answer a.answer b.answer

-- ---- the laws
-- the test tells just equal letters
abbrev pub SameIsEqual : Type 0
SameIsEqual = (a b : Letter) → (same_letter a b ≡ true) ↔ (a ≡ b)

abbrev pub SameListsAreEqual : Type 0
SameListsAreEqual = (a b : List Letter) → (pointwise same_letter a b ≡ true) ↔ (a ≡ b)

-- and replies with just equal answers
abbrev pub SameAnswersAreEqual : Type 0
SameAnswersAreEqual = (a b : List Reply) → (pointwise same_reply a b ≡ true) ↔ (answers_of a ≡ answers_of b)
