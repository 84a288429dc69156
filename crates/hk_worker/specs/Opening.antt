-- Asks of a post that begin, and are told later, with others asked between.
use Rattle.std.specs.Prelude.{◌≡◌, ◌⊎◌, ⊤, ℕ, ◌+◌, ◌<◌, ◌==◌, if◌then◌else◌, List, [], ◌∷◌, ◌++◌, Option, Some, None, Result, Ok, Err, Bool, false}
use mathlib.Core.List.{IsPrefix}
use Rattle.hk_base.specs.declared.memory.Memory.{Memory}
use Rattle.hk_base.specs.declared.call.CallNo.{CallNo}
use Rattle.hk_base.specs.declared.call.Op.{Op}
use Rattle.hk_outside.specs.Desk.{BeginSuits}
use Rattle.hk_outside.specs.declared.desk.Begun.{Begun}
use Rattle.hk_outside.specs.declared.desk.Begun.TheVariants as opened
use Rattle.hk_outside.specs.declared.desk.DeskReply.{DeskReply}
use Rattle.hk_outside.specs.declared.desk.DeskReply.TheVariants.{Told, Unknown, Spent}
use Rattle.hk_snap.specs.declared.rule.Publication.{Publication}
use Rattle.hk_told.specs.Shown.{Shown, NotEnded}
use Rattle.hk_locked.specs.Places.{NodeNames}
use Rattle.hk_locked.specs.Locked.{ReaderState}
use Rattle.hk_locked.specs.Steps.{StartsAt, LooksOften}
use Rattle.hk_worker.specs.declared.asking.OpenAsk.{OpenAsk}
use Rattle.hk_worker.specs.Asking.{PostState, Tells, HasAsked, AsksAtPost, call_number, reader_of}
use Rattle.hk_worker.specs.Turns.{IsUnasked, seen_of, IsShownIn, Rise}
use Rattle.hk_worker.specs.Reading.{HasLooked, HasRisen, AsksByClock, IsShownByClock, holds_by_lease}
use Rattle.hk_worker.specs.Sending.{SendsNextCall, SendsByClock}

-- it waits for this call
abbrev pub IsOpen : CallNo → List ℕ → Op → OpenAsk → Type 0
IsOpen call key op w = (w.key ≡ key) × (w.op ≡ op) × (w.call ≡ call)

-- a call is told at once, or its update begins, and waits
abbrev pub OpensAt : CallNo → List ℕ → Op → ReaderState → ReaderState → Begun OpenAsk → Type 0
OpensAt call key op old new (opened.Told (Told answer)) = Tells call key op old new (Told answer)
OpensAt call key op old new (opened.Told reply) = ⊥
OpensAt call key op old new (opened.Waits w) = IsOpen call key op w × StartsAt old new call key w.ticket op None

-- what is told at once suits the operation; what waits is that operation
abbrev pub OpenedSuits : {E : Type 0} → Op → Result (Begun OpenAsk) E → Type 0
OpenedSuits op result = BeginSuits (λ (w : OpenAsk). w.op) op result

-- after looks the update of the ticket was told this, or nothing in all of them
abbrev pub FinishesAt : List ℕ → ℕ → ReaderState → ReaderState → DeskReply → Type 0
FinishesAt key ticket old new (Told answer) = (turns : ℕ) × LooksOften turns key ticket old new (Some answer)
FinishesAt key ticket old new (Unknown turns) = (turns ≡ 100000) × LooksOften 100000 key ticket old new None
FinishesAt key ticket old new (Spent asks) = ⊥

-- ---- at a post
-- what an ask of the post comes to that begins
abbrev pub BeginsAtPost : {E : Type 0} → List ℕ → Op → PostState → PostState → Result (Begun OpenAsk) E → Type 0
BeginsAtPost {E = E} key op old new (Ok (opened.Told reply)) = AsksAtPost {E = E} key op old new (Ok reply)
BeginsAtPost key op old new (Ok (opened.Waits w)) = HasAsked key old new × IsOpen (call_number old.number (old.asks + 1)) key op w
    × StartsAt (reader_of key old) (reader_of key new) (call_number old.number (old.asks + 1)) key w.ticket op None
BeginsAtPost key op old new (Err e) = HasAsked key old new

-- what it sends: just the letters of its call, none where the post has made all its asks; where no memory was found it may be that nothing was sent
abbrev pub BeginSends : {E : Type 0} → List NodeNames → List ℕ → Op → PostState → PostState → Result (Begun OpenAsk) E → Type 0
BeginSends places key op old new (Ok (opened.Told (Spent asks))) = new.outlets ≡ old.outlets
BeginSends places key op old new (Ok (opened.Told reply)) = SendsNextCall places key op old new
BeginSends places key op old new (Ok (opened.Waits w)) = SendsNextCall places key op old new
BeginSends places key op old new (Err e) = SendsNextCall places key op old new ⊎ (new.outlets ≡ old.outlets)

-- what it is told in the end; nothing is sent
abbrev pub FinishesAtPost : {E : Type 0} → OpenAsk → PostState → PostState → Result DeskReply E → Type 0
FinishesAtPost w old new (Ok reply) = HasLooked w.key old new × FinishesAt w.key w.ticket (reader_of w.key old) (reader_of w.key new) reply
FinishesAtPost w old new (Err e) = HasLooked w.key old new

-- ---- asks that overlap
-- what a post was called for: one ask from its beginning to its end, or one by a clock; its beginning alone, or its end; or a look at a key, which asks nothing, as
-- one that begins by a clock makes before
pub data PostEvent : Type 0 where
  Asks : (key : List ℕ) → (op : Op) → (result : Result DeskReply Memory) → PostEvent
  AsksTimed : (reading : Option ℕ) → (key : List ℕ) → (op : Op) → (result : Result DeskReply Memory) → PostEvent
  Looks : (key : List ℕ) → PostEvent
  Begins : (key : List ℕ) → (op : Op) → (result : Result (Begun OpenAsk) Memory) → PostEvent
  Finishes : (waits : OpenAsk) → (result : Result DeskReply Memory) → PostEvent

-- one of these: the post before it, and after it
pub record PostStep : Type 0 where
  pub before : PostState
  pub event : PostEvent
  pub after : PostState

-- those by a clock all by one
abbrev pub Makes : (ReaderState → ℕ → Type 0) → PostEvent → PostState → PostState → Type 0
Makes was_read (PostEvent.Asks key op result) old new = AsksAtPost key op old new result
Makes was_read (PostEvent.AsksTimed reading key op result) old new = AsksByClock was_read reading key op old new result
Makes was_read (PostEvent.Looks key) old new = HasLooked key old new
Makes was_read (PostEvent.Begins key op result) old new = BeginsAtPost key op old new result
Makes was_read (PostEvent.Finishes w result) old new = FinishesAtPost w old new result

-- any of them, one after the other, with ticks between
abbrev pub StepsInTurn : (ReaderState → ℕ → Type 0) → PostState → List PostStep → Type 0
StepsInTurn was_read post [] = ⊤
StepsInTurn was_read post (step ∷ steps) = IsUnasked post step.before × Makes was_read step.event step.before step.after × StepsInTurn was_read step.after steps

abbrev pub post_after_steps : PostState → List PostStep → PostState
post_after_steps post [] = post
post_after_steps post (step ∷ steps) = post_after_steps step.after steps

-- of each key's cell the post sees what it saw before, and more
abbrev pub StepListsGrow : (ReaderState → ℕ → Type 0) → Type 0
StepListsGrow was_read = (post : PostState) (steps : List PostStep) (key : List ℕ) → StepsInTurn was_read post steps → IsPrefix (seen_of key post) (seen_of key (post_after_steps post steps))

-- what a step told at once, of which ask
abbrev pub ToldAtOnce : List ℕ → Op → Result DeskReply Memory → PostEvent → Type 0
ToldAtOnce key op result event = (event ≡ PostEvent.Asks key op result) ⊎ ((reply : DeskReply) × (result ≡ Ok reply) × (event ≡ PostEvent.Begins key op (Ok (opened.Told reply))))

-- What was told at once is shown by what the post has seen of the key's cell in the end.
abbrev pub StepAsksAreShown : (ReaderState → ℕ → Type 0) → Type 0
StepAsksAreShown was_read = (post : PostState) (front back : List PostStep) (step : PostStep) (key : List ℕ) (op : Op) (result : Result DeskReply Memory) → StepsInTurn was_read post (front ++ step ∷ back) → ToldAtOnce key op result step.event
    → IsShownIn (seen_of key (post_after_steps step.after back)) key op step.before step.after result

-- the same of one by a clock
abbrev pub StepTimedAreShown : (ReaderState → ℕ → Type 0) → Type 0
StepTimedAreShown was_read = (post : PostState) (front back : List PostStep) (step : PostStep) (reading : Option ℕ) (key : List ℕ) (op : Op) (result : Result DeskReply Memory) → StepsInTurn was_read post (front ++ step ∷ back)
    → step.event ≡ PostEvent.AsksTimed reading key op result → IsShownByClock was_read (seen_of key (post_after_steps step.after back)) reading key op step.before step.after result

-- What an update that waited was told is shown by what the post has seen of the key's cell in the end: what it had seen before the ask began, what was added until
-- it was finished, and what came later. The end of the lease and the clock are those of a load as it began.
abbrev pub IsShownLate : List Publication → List ℕ → Op → PostState → PostState → Result DeskReply Memory → Type 0
IsShownLate seen key op old begun (Ok (Told answer)) = (grown later : List Publication) × (seen ≡ (seen_of key old ++ grown) ++ later)
    × Shown (seen_of key old) grown (call_number old.number (old.asks + 1)) key op (reader_of key begun).lease.end (reader_of key begun).lease.now (reader_of key begun).skew answer
    × ((reader_of key old).lease.loads < (reader_of key begun).lease.loads)
IsShownLate seen key op old begun (Ok (Unknown turns)) = (turns ≡ 100000) × (grown later : List Publication) × (seen ≡ (seen_of key old ++ grown) ++ later)
    × NotEnded (seen_of key old) grown (call_number old.number (old.asks + 1)) key op
IsShownLate seen key op old begun (Ok (Spent asks)) = ⊥
IsShownLate seen key op old begun (Err e) = ⊤

-- whatever the post was called for between
abbrev pub StepFinishesAreShown : (ReaderState → ℕ → Type 0) → Type 0
StepFinishesAreShown was_read = (post : PostState) (front mid back : List PostStep) (begin finish : PostStep) (key : List ℕ) (op : Op) (w : OpenAsk) (result : Result DeskReply Memory) →
    StepsInTurn was_read post (front ++ begin ∷ (mid ++ finish ∷ back)) → begin.event ≡ PostEvent.Begins key op (Ok (opened.Waits w)) → finish.event ≡ PostEvent.Finishes w result
    → IsShownLate (seen_of key (post_after_steps finish.after back)) key op begin.before begin.after result

-- ---- no two asks of a post have one count
-- which asks of the post these steps began, counted from 1
abbrev pub counts_of_steps : List PostStep → List ℕ
counts_of_steps [] = []
counts_of_steps (step ∷ steps) = if step.after.asks == step.before.asks then counts_of_steps steps else step.after.asks ∷ counts_of_steps steps

abbrev pub StepCountsRise : (ReaderState → ℕ → Type 0) → Type 0
StepCountsRise was_read = (post : PostState) (steps : List PostStep) → StepsInTurn was_read post steps → Rise post.asks (counts_of_steps steps)

-- ---- by a clock
-- what was told holds only while the lease runs
abbrev pub told_by_lease : DeskReply → Bool
told_by_lease (Told answer) = holds_by_lease answer
told_by_lease (Unknown turns) = false
told_by_lease (Spent asks) = false

-- so does what came of an ask that began
abbrev pub begun_by_lease : {E : Type 0} → Result (Begun OpenAsk) E → Bool
begun_by_lease (Ok (opened.Told reply)) = told_by_lease reply
begun_by_lease (Ok (opened.Waits w)) = false
begun_by_lease (Err e) = false

-- What an ask by a clock comes to that begins: it is told as one by a clock, or waits; before that the post looked, and the clock of the key's shard was raised.
abbrev pub BeginsByClock : {E : Type 0} → (ReaderState → ℕ → Type 0) → Option ℕ → List ℕ → Op → PostState → PostState → Result (Begun OpenAsk) E → Type 0
BeginsByClock {E = E} was_read reading key op old new (Ok (opened.Told reply)) = AsksByClock {E = E} was_read reading key op old new (Ok reply)
BeginsByClock {E = E} was_read reading key op old new (Ok (opened.Waits w)) = (mid : PostState) × HasLooked key old mid × HasRisen reading key mid × BeginsAtPost {E = E} key op mid new (Ok (opened.Waits w))
BeginsByClock {E = E} was_read reading key op old new (Err e) = AsksByClock was_read reading key op old new (Err e)

-- what it sends
abbrev pub BeginSendsByClock : {E : Type 0} → List NodeNames → List ℕ → Op → PostState → PostState → Result (Begun OpenAsk) E → Type 0
BeginSendsByClock {E = E} places key op old new (Ok (opened.Told reply)) = SendsByClock {E = E} places key op old new (Ok reply)
BeginSendsByClock places key op old new (Ok (opened.Waits w)) = SendsNextCall places key op old new
BeginSendsByClock {E = E} places key op old new (Err e) = SendsByClock {E = E} places key op old new (Err e)
