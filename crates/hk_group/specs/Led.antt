-- What a desk of a group tells. In a group others come and go: before an ask its post may be led elsewhere. And leases end: what was not begun is asked again.
use Rattle.std.specs.Prelude.{◌≡◌, ℕ, List, [], ◌∷◌, Bool, true, false, Option, Result, Ok, Err}
use Rattle.hk_base.specs.declared.memory.Memory.{Memory}
use Rattle.hk_base.specs.declared.stamp.NodeId.{NodeId}
use Rattle.hk_base.specs.declared.call.Op.{Op}
use Rattle.hk_outside.specs.declared.desk.Begun.{Begun}
use Rattle.hk_outside.specs.declared.desk.Begun.TheVariants as opened
use Rattle.hk_outside.specs.declared.desk.DeskReply.{DeskReply}
use Rattle.hk_outside.specs.declared.desk.DeskReply.TheVariants.{Told}
use Rattle.hk_locked.specs.Locked.{ReaderState}
use Rattle.hk_worker.specs.declared.asking.OpenAsk.{OpenAsk}
use Rattle.hk_worker.specs.Asking.{PostState}
use Rattle.hk_worker.specs.Reading.{AsksByClock, is_out_of_lease}
use Rattle.hk_worker.specs.Opening.{BeginsByClock}

-- The letters of the post may go by other outlets from then on. All else of it stays, so it is asked nothing by that.
pub record IsLed (old new : PostState) : Type 0 where
  pub node : new.node ≡ old.node
  pub lease : new.lease ≡ old.lease
  pub number : new.number ≡ old.number
  pub asks : new.asks ≡ old.asks
  pub ticked : new.ticked ≡ old.ticked
  pub readers : new.readers ≡ old.readers
  pub worker : new.worker ≡ old.worker

-- an ask by a clock of a post that was led before
abbrev pub AsksLed : {E : Type 0} → (ReaderState → ℕ → Type 0) → Option ℕ → List ℕ → Op → PostState → PostState → Result DeskReply E → Type 0
AsksLed was_read reading key op old new result = (led : PostState) × IsLed old led × AsksByClock was_read reading key op led new result

-- one that begins
abbrev pub BeginsLed : {E : Type 0} → (ReaderState → ℕ → Type 0) → Option ℕ → List ℕ → Op → PostState → PostState → Result (Begun OpenAsk) E → Type 0
BeginsLed was_read reading key op old new result = (led : PostState) × IsLed old led × BeginsByClock was_read reading key op led new result

-- ---- asks that are made again
-- it is told that the lease may be over
abbrev pub tells_late : DeskReply → Bool
tells_late (Told answer) = is_out_of_lease answer
tells_late reply = false

abbrev pub is_late : {E : Type 0} → Result DeskReply E → Bool
is_late (Ok reply) = tells_late reply
is_late (Err e) = false

abbrev pub is_late_begun : {W E : Type 0} → Result (Begun W) E → Bool
is_late_begun (Ok (opened.Told reply)) = tells_late reply
is_late_begun result = false

-- One ask came too late for the lease: it is told that the lease may be over.
abbrev pub ComesLate : (ReaderState → ℕ → Type 0) → Option ℕ → List ℕ → Op → PostState → PostState → Type 0
ComesLate was_read reading key op old new = (reply : DeskReply) × (tells_late reply ≡ true) × AsksLed {E = Memory} was_read reading key op old new (Ok reply)

-- One ask after the other did. These are the post behind each.
abbrev pub ComeLate : (ReaderState → ℕ → Type 0) → Option ℕ → List ℕ → Op → PostState → List PostState → PostState → Type 0
ComeLate was_read reading key op old [] new = new ≡ old
ComeLate was_read reading key op old (post ∷ posts) new = ComesLate was_read reading key op old post × ComeLate was_read reading key op post posts new

-- what is told at last
abbrev pub AsksAgain : (ReaderState → ℕ → Type 0) → Option ℕ → List ℕ → Op → PostState → PostState → Result DeskReply Memory → Type 0
AsksAgain was_read reading key op old new result = (late : List PostState) × (last : PostState) × ComeLate was_read reading key op old late last × AsksLed was_read reading key op last new result

abbrev pub BeginsAgain : (ReaderState → ℕ → Type 0) → Option ℕ → List ℕ → Op → PostState → PostState → Result (Begun OpenAsk) Memory → Type 0
BeginsAgain was_read reading key op old new result = (late : List PostState) × (last : PostState) × ComeLate was_read reading key op old late last × BeginsLed was_read reading key op last new result
