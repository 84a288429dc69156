-- Posts that are led elsewhere.
use Rattle.std.proofs.Common.{◌≡◌, ℕ, List, [], ◌∷◌, ◌++◌, true, Option, Result, Ok, Err, refl, subst, sym}
use Rattle.std.proofs.lemmas.Bool.{false≢true}
use Rattle.hk_base.specs.declared.memory.Memory.{Memory}
use Rattle.hk_base.specs.declared.letter.Actor.{Actor}
use Rattle.hk_base.specs.declared.call.Op.{Op}
use Rattle.hk_outside.specs.declared.desk.Begun.{Begun}
use Rattle.hk_outside.specs.declared.desk.Begun.TheVariants as opened
use Rattle.hk_outside.specs.declared.desk.DeskReply.{DeskReply}
use Rattle.hk_link.specs.Ends.{End as LinkEnd}
use Rattle.hk_locked.specs.Locked.{ReaderState}
use Rattle.hk_worker.specs.declared.asking.OpenAsk.{OpenAsk}
use Rattle.hk_worker.specs.Asking.{PostState}
use Rattle.hk_worker.specs.Reading.{AsksByClock}
use Rattle.hk_worker.specs.Opening.{BeginsByClock}
use Rattle.hk_group.specs.Led.{IsLed, AsksLed, BeginsLed, ComesLate, ComeLate, AsksAgain, BeginsAgain, is_late, is_late_begun}

-- by other outlets
pub led_by : (old new : PostState) (outlets : List (Actor × LinkEnd)) → new ≡ record old { outlets = outlets } → IsLed old new
led_by old new outlets is = subst (λ (p : PostState). IsLed old p) (sym is) (record { node = refl; lease = refl; number = refl; asks = refl; ticked = refl; readers = refl; worker = refl })

-- nowhere else
pub led_itself : (post : PostState) → IsLed post post
led_itself post = record { node = refl; lease = refl; number = refl; asks = refl; ticked = refl; readers = refl; worker = refl }

-- nowhere else behind that
pub led_still : (old led new : PostState) → IsLed old led → new ≡ led → IsLed old new
led_still old led new is same = subst (IsLed old) (sym same) is

pub asks_led : {E : Type 0} (was_read : ReaderState → ℕ → Type 0) (reading : Option ℕ) (key : List ℕ) (op : Op) (old led new : PostState) (result : Result DeskReply E)
    → IsLed old led → AsksByClock was_read reading key op led new result → AsksLed was_read reading key op old new result
asks_led was_read reading key op old led new result is told = (led, is, told)

pub begins_led : {E : Type 0} (was_read : ReaderState → ℕ → Type 0) (reading : Option ℕ) (key : List ℕ) (op : Op) (old led new : PostState) (result : Result (Begun OpenAsk) E)
    → IsLed old led → BeginsByClock was_read reading key op led new result → BeginsLed was_read reading key op old new result
begins_led was_read reading key op old led new result is told = (led, is, told)

-- ---- asks that are made again
-- one came late behind those that did
come_later : (was_read : ReaderState → ℕ → Type 0) (reading : Option ℕ) (key : List ℕ) (op : Op) (old : PostState) (late : List PostState) (last new : PostState)
    → ComeLate was_read reading key op old late last → ComesLate was_read reading key op last new → ComeLate was_read reading key op old (late ++ new ∷ []) new
come_later was_read reading key op old [] last new same comes = (subst (λ (p : PostState). ComesLate was_read reading key op p new) same comes, refl)
come_later was_read reading key op old (post ∷ late) last new (first, rest) comes = (first, come_later was_read reading key op post late last new rest comes)

pub asked_once : (was_read : ReaderState → ℕ → Type 0) (reading : Option ℕ) (key : List ℕ) (op : Op) (old new : PostState) (result : Result DeskReply Memory)
    → AsksLed was_read reading key op old new result → AsksAgain was_read reading key op old new result
asked_once was_read reading key op old new result told = ([], old, refl, told)

pub asked_again : (was_read : ReaderState → ℕ → Type 0) (reading : Option ℕ) (key : List ℕ) (op : Op) (old mid new : PostState) (told result : Result DeskReply Memory)
    → AsksAgain was_read reading key op old mid told → is_late told ≡ true → AsksLed was_read reading key op mid new result → AsksAgain was_read reading key op old new result
asked_again was_read reading key op old mid new (Ok reply) result (late, last, come, asks) is more =
    (late ++ mid ∷ [], mid, come_later was_read reading key op old late last mid come (reply, is, asks), more)
asked_again was_read reading key op old mid new (Err e) result (late, last, come, asks) is more = absurd (false≢true is)

-- by a clock that is still the same
pub asked_later : {A : Type 0} (first clock : A) (was_read : A → ReaderState → ℕ → Type 0) (reading : A → Option ℕ) (key : List ℕ) (op : Op) (old mid new : PostState) (told result : Result DeskReply Memory)
    → clock ≡ first → AsksAgain (was_read first) (reading first) key op old mid told → is_late told ≡ true → AsksLed (was_read clock) (reading clock) key op mid new result
    → AsksAgain (was_read first) (reading first) key op old new result
asked_later first clock was_read reading key op old mid new told result same before is more = asked_again (was_read first) (reading first) key op old mid new told result before is
    (subst (λ c. AsksLed (was_read c) (reading c) key op mid new result) same more)

pub begun_once : (was_read : ReaderState → ℕ → Type 0) (reading : Option ℕ) (key : List ℕ) (op : Op) (old new : PostState) (result : Result (Begun OpenAsk) Memory)
    → BeginsLed was_read reading key op old new result → BeginsAgain was_read reading key op old new result
begun_once was_read reading key op old new result told = ([], old, refl, told)

pub begun_again : (was_read : ReaderState → ℕ → Type 0) (reading : Option ℕ) (key : List ℕ) (op : Op) (old mid new : PostState) (told result : Result (Begun OpenAsk) Memory)
    → BeginsAgain was_read reading key op old mid told → is_late_begun told ≡ true → BeginsLed was_read reading key op mid new result → BeginsAgain was_read reading key op old new result
begun_again was_read reading key op old mid new (Ok (opened.Told reply)) result (late, last, come, begins) is more =
    (late ++ mid ∷ [], mid, come_later was_read reading key op old late last mid come (reply, is, begins), more)
begun_again was_read reading key op old mid new (Ok (opened.Waits w)) result (late, last, come, begins) is more = absurd (false≢true is)
begun_again was_read reading key op old mid new (Err e) result (late, last, come, begins) is more = absurd (false≢true is)

-- by a clock that is still the same
pub begun_later : {A : Type 0} (first clock : A) (was_read : A → ReaderState → ℕ → Type 0) (reading : A → Option ℕ) (key : List ℕ) (op : Op) (old mid new : PostState) (told result : Result (Begun OpenAsk) Memory)
    → clock ≡ first → BeginsAgain (was_read first) (reading first) key op old mid told → is_late_begun told ≡ true → BeginsLed (was_read clock) (reading clock) key op mid new result
    → BeginsAgain (was_read first) (reading first) key op old new result
begun_later first clock was_read reading key op old mid new told result same before is more = begun_again (was_read first) (reading first) key op old mid new told result before is
    (subst (λ c. BeginsLed (was_read c) (reading c) key op mid new result) same more)
