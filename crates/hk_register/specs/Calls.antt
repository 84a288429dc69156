-- Calls and replies of one key: the second part of the invariant.
use Rattle.std.specs.Prelude.{◌≡◌, ◌≢◌, ℕ, IsTrue, List, [], ◌∷◌, Some, ⊤}
use Rattle.hk_base.specs.declared.call.Reply.{Reply}
use Rattle.hk_history.specs.History.{is_void, is_unsure, is_answered}
use Rattle.hk_register.specs.Machine.{In, WaitingUpdate, Update, Item, RegisterState, call_of}
use Rattle.hk_register.specs.Machine.Item.{Called, Answered, Dropped, ReadOnly, Rejected}
use Rattle.hk_register.specs.Effects.{Has}

-- the first item of a call
abbrev pub IsStart : Item → Type 0
IsStart (Called c s op) = ⊤
IsStart (ReadOnly c s op held a) = ⊤
IsStart (Rejected c op a) = ⊤
IsStart (Answered c s a) = ⊥
IsStart (Dropped c s a) = ⊥

-- an item that replies
abbrev pub IsReply : Item → Type 0
IsReply (Called c s op) = ⊥
IsReply (ReadOnly c s op held a) = ⊤
IsReply (Rejected c op a) = ⊤
IsReply (Answered c s a) = ⊤
IsReply (Dropped c s a) = ⊤

-- the call of a pending update is that of its own begin, and has no reply yet
pub record PendCall (st : RegisterState) (n : ℕ) (p : WaitingUpdate) (r : Reply) : Type 0 where
  pub update : Update
  pub begun : In st.begun update
  pub stamp : update.stamp ≡ p.stamp
  pub call : update.call ≡ r.call.0
  pub answer : update.answer ≡ r.answer
  pub who : update.who ≡ n
  pub open_so_far : (i : Item) → In st.history i → IsReply i → call_of i ≢ r.call.0

-- the item is of an update that was begun, or its answer is of the kind that its name says
abbrev pub CallItem : RegisterState → Item → Type 0
CallItem st (Called c s op) = (u : Update) × In st.begun u × (u.call ≡ c) × (u.stamp ≡ s) × (u.op ≡ op)
CallItem st (Answered c s a) = (u : Update) × In st.begun u × (u.call ≡ c) × (u.stamp ≡ s) × (u.answer ≡ a)
CallItem st (Dropped c s a) = ((u : Update) × In st.begun u × (u.call ≡ c)) × IsTrue (is_unsure (Some a))
CallItem st (ReadOnly c s op held a) = IsTrue (is_answered (Some a))
CallItem st (Rejected c op a) = IsTrue (is_void (Some a))

-- a call starts once, before all else of it, and has one reply at most
abbrev pub OneStart : List Item → Type 0
OneStart [] = ⊤
OneStart (i ∷ items) = (IsStart i → (j : Item) → In items j → call_of j ≢ call_of i) × OneStart items

abbrev pub OneReply : List Item → Type 0
OneReply [] = ⊤
OneReply (i ∷ items) = (IsReply i → (j : Item) → In items j → IsReply j → call_of j ≢ call_of i) × OneReply items

pub record CallParts (st : RegisterState) : Type 0 where
  pub pend : (n : ℕ) (p : WaitingUpdate) (r : Reply) → Has (st.node n).phase p → p.reply ≡ Some r → PendCall st n p r
  pub called : (u : Update) → In st.begun u → In st.history (Called u.call u.stamp u.op)
  pub items : (i : Item) → In st.history i → CallItem st i
  pub starts : OneStart st.history
  pub replies : OneReply st.history
