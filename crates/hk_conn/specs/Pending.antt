-- Updates that wait at the desk, in the order in which they began, and the replies between them.
use Rattle.std.specs.Prelude.{◌≡◌, ◌⊎◌, ⊤, ℕ, List, [], ◌∷◌, ◌++◌, map, Bool, false, Option, None, Some, Result, Ok, Err, OnOk}
use Rattle.hk_base.specs.declared.call.Op.{Op}
use Rattle.hk_outside.specs.Desk.{Asks}
use Rattle.hk_outside.specs.declared.desk.Asked.{Asked}
use Rattle.hk_outside.specs.declared.desk.DeskReply.{DeskReply}
use Rattle.hk_request.specs.declared.request.Request.TheVariants as request
use Rattle.hk_conn.specs.declared.pending.PendingUpdate.{PendingUpdate}
use Rattle.hk_conn.specs.declared.said.Said.{Said}
use Rattle.hk_conn.specs.declared.said.Said.TheVariants as said
use Rattle.hk_conn.specs.declared.said.Stop.{Stop}
use Rattle.hk_conn.specs.Heard.{AsksMore, told_of, is_busy}
use Rattle.hk_conn.specs.Asking.{told}
use Rattle.hk_conn.specs.Answering.{Answers, Stopped}
use Rattle.hk_conn.specs.Served.{Out, before, replies, update_text}
use Rattle.hk_conn.specs.Serving.{Place, behind_stop, stop_at}

-- the replies to them once they were told this, with those before each
abbrev pub pending_text : {W : Type 0} → List (PendingUpdate W) → List (Option DeskReply) → List ℕ
pending_text [] ts = []
pending_text (l ∷ ls) [] = []
pending_text (l ∷ ls) (t ∷ ts) = l.front.items ++ (update_text l.noreply t ++ pending_text ls ts)

-- each of them may be told this: it is not Busy
abbrev pub Settle : {W : Type 0} → List (PendingUpdate W) → List (Option DeskReply) → Type 0
Settle [] [] = ⊤
Settle [] (t ∷ ts) = ⊥
Settle (l ∷ ls) [] = ⊥
Settle (l ∷ ls) (t ∷ ts) = (is_busy t ≡ false) × Settle ls ts

-- what they will be told, where the desk tells its asks
abbrev pub wills : {W E : Type 0} → (W → Result DeskReply E) → List (PendingUpdate W) → List (Option DeskReply)
wills will [] = []
wills will (l ∷ ls) = told (will l.waits) ∷ wills will ls

-- a fact where the desk tells its asks
abbrev pub IfTells : Option (List Asked) → Type 0 → Type 0
IfTells None P = ⊤
IfTells (Some now) P = P

-- They were told this. That is what they were to be told, and the list of asks is as it was, where the desk tells it.
pub record AreTold {W E : Type 0} (will : W → Result DeskReply E) (asks asks' : Option (List Asked)) (updates : List (PendingUpdate W)) (ts : List (Option DeskReply)) : Type 0 where
  pub settle : Settle updates ts
  pub kept : AsksMore asks asks' []
  pub same : IfTells asks' (ts ≡ wills will updates)

-- all of them are told, and their replies put
abbrev pub FinishesUpdates : {W E F : Type 0} → (W → Result DeskReply E) → Result (Unit {0}) F → Option (List Asked) → Option (List Asked) → List (PendingUpdate W) → List (PendingUpdate W) → List ℕ → List ℕ → Type 0
FinishesUpdates will result asks asks' updates updates' old new = (updates' ≡ []) × (ts : List (Option DeskReply)) × AreTold will asks asks' updates ts × OnOk result (new ≡ old ++ pending_text updates ts)

-- so that they stand before what was put behind them
abbrev pub FinishesAll : {W E F : Type 0} → (W → Result DeskReply E) → Result (Unit {0}) F → Option (List Asked) → Option (List Asked) → List (PendingUpdate W) → List (PendingUpdate W) → List ℕ → List ℕ → Type 0
FinishesAll will result asks asks' updates updates' old new = (updates' ≡ []) × (ts : List (Option DeskReply)) × AreTold will asks asks' updates ts × OnOk result (new ≡ pending_text updates ts ++ old)

-- all of them are told
abbrev pub LetsGo : {W E : Type 0} → (W → Result DeskReply E) → Option (List Asked) → Option (List Asked) → List (PendingUpdate W) → List (PendingUpdate W) → Type 0
LetsGo will asks asks' updates updates' = (updates' ≡ []) × (ts : List (Option DeskReply)) × AreTold will asks asks' updates ts

-- one of them is told
pub record LetsOneGo {W E : Type 0} (will : W → Result DeskReply E) (pending : PendingUpdate W) (asks asks' : Option (List Asked)) : Type 0 where
  pub t : Option DeskReply
  pub settled : is_busy t ≡ false
  pub kept : AsksMore asks asks' []
  pub same : IfTells asks' (t ≡ told (will pending.waits))

-- and its reply put
pub record FinishesOne {W E F : Type 0} (will : W → Result DeskReply E) (pending : PendingUpdate W) (result : Result (Unit {0}) F) (asks asks' : Option (List Asked)) (old new : List ℕ) : Type 0 where
  pub goes : LetsOneGo will pending asks asks'
  pub put : OnOk result (new ≡ old ++ (pending.front.items ++ update_text pending.noreply goes.t))

-- ---- the replies so far, some of which wait
-- The replies between two moments, if those that wait are told this: what was put before, what they are told, and what was put behind them; and the asks that
-- were made. Where the desk tells its asks these are they, if they are told what they will be.
pub record Holds {W E : Type 0} (will : W → Result DeskReply E) (asks asks' : Option (List Asked)) (old out : List ℕ) (updates : List (PendingUpdate W)) (front after : List ℕ → List (Option DeskReply) → Out) (ts : List (Option DeskReply)) : Type 0 where
  pub text : List ℕ
  pub made : List Asked
  pub put : old ++ (pending_text updates ts ++ out) ≡ text
  pub grown : IfTells asks' (ts ≡ wills will updates) → AsksMore asks asks' made
  pub goes : (more : List ℕ) (later : List (Option DeskReply)) → front more (map told_of made ++ later) ≡ before text made (after more later)

-- the same whatever those that wait are told
abbrev pub Holding : {W E : Type 0} → (W → Result DeskReply E) → Option (List Asked) → Option (List Asked) → List ℕ → List ℕ → List (PendingUpdate W) → (List ℕ → List (Option DeskReply) → Out) → (List ℕ → List (Option DeskReply) → Out) → Type 0
Holding will asks asks' old out updates front after = (ts : List (Option DeskReply)) → Settle updates ts → Holds will asks asks' old out updates front after ts

-- the asks that were made are called for, whatever those that wait are told
pub record Parts {W E : Type 0} (will : W → Result DeskReply E) (asks asks' : Option (List Asked)) (updates : List (PendingUpdate W)) (front : List ℕ → List (Option DeskReply) → Out) (ts : List (Option DeskReply)) : Type 0 where
  pub made : List Asked
  pub grown : IfTells asks' (ts ≡ wills will updates) → AsksMore asks asks' made
  pub called : (more : List ℕ) → (front more (map told_of made)).asks ≡ made

abbrev pub Parting : {W E : Type 0} → (W → Result DeskReply E) → Option (List Asked) → Option (List Asked) → List (PendingUpdate W) → (List ℕ → List (Option DeskReply) → Out) → Type 0
Parting will asks asks' updates front = (ts : List (Option DeskReply)) → Settle updates ts → Parts will asks asks' updates front ts

-- an update began, and waits, with the replies before it
pub record Waited {W E : Type 0} (will : W → Result DeskReply E) (asks asks' : Option (List Asked)) (updates updates' : List (PendingUpdate W)) (out out' key : List ℕ) (op : Op) (noreply : Bool) : Type 0 where
  pub pending : PendingUpdate W
  pub added : updates' ≡ updates ++ pending ∷ []
  pub front : pending.front.items ≡ out
  pub rest : out' ≡ []
  pub noreply_is : pending.noreply ≡ noreply
  pub begun : Asks asks asks' key op (will pending.waits)

-- what is said is an update that began, and waits
abbrev pub HasBegun : {W E : Type 0} → (W → Result DeskReply E) → Option (List Asked) → Option (List Asked) → List (PendingUpdate W) → List (PendingUpdate W) → List ℕ → List ℕ → Said → Type 0
HasBegun will asks asks' updates updates' out out' (said.Asked (request.Update key op noreply)) = Waited will asks asks' updates updates' out out' key op noreply
HasBegun will asks asks' updates updates' out out' s = ⊥

-- what is said is answered, or waits
abbrev pub AnswersPending : {W E F : Type 0} → (W → Result DeskReply E) → Result (Unit {0}) F → ℕ → Option (List Asked) → Option (List Asked) → List (PendingUpdate W) → List (PendingUpdate W) → List ℕ → List ℕ → Said → Type 0
AnswersPending {F = F} will (Ok u) more asks asks' updates updates' out out' s = ((updates' ≡ updates) × Answers {E = F} (Ok u) more asks asks' out out' s) ⊎ HasBegun will asks asks' updates updates' out out' s
AnswersPending will (Err e) more asks asks' updates updates' out out' s = (updates' ≡ updates) × Stopped more asks asks' s

-- so the replies go on, to the stop where it is the last
abbrev pub RepliesPending : {W E F : Type 0} → (W → Result DeskReply E) → Result (Option Stop) F → ℕ → Option (List Asked) → Option (List Asked) → List (PendingUpdate W) → List (PendingUpdate W) → List ℕ → List ℕ → Said → Type 0
RepliesPending will (Ok None) m asks asks' updates updates' out out' s = (None ≡ stop_at s)
    × ((a : Option (List Asked)) (old : List ℕ) (front : List ℕ → List (Option DeskReply) → Out) (ss : List ℕ → List Said) →
    Holding will a asks old out updates front (λ more later. replies m (s ∷ ss more) later) → Holding will a asks' old out' updates' front (λ more later. replies m (ss more) later))
RepliesPending will (Ok (Some stop)) m asks asks' updates updates' out out' s = (Some stop ≡ stop_at s)
    × ((a : Option (List Asked)) (old : List ℕ) (front : List ℕ → List (Option DeskReply) → Out) (ss : List ℕ → List Said) (q : Place) →
    Holding will a asks old out updates front (λ more later. replies m (s ∷ ss more) later) → Holding will a asks' old out' updates' front (behind_stop stop m q))
RepliesPending will (Err e) m asks asks' updates updates' out out' s =
    (a : Option (List Asked)) (old : List ℕ) (front : List ℕ → List (Option DeskReply) → Out) (ss : List ℕ → List Said) →
    Holding will a asks old out updates front (λ more later. replies m (s ∷ ss more) later) → Parting will a asks' updates' front
