-- Answers alone, and as responses.
use Rattle.std.specs.Prelude.{◌≡◌, [], Option, None, Some}
use Rattle.hk_inside.specs.declared.refusal.ManagerRefusal.{ManagerRefusal}
use Rattle.hk_inside.specs.declared.refusal.ManagerRefusal.TheVariants as told
use Rattle.hk_inside.specs.declared.response.Response.{Response}
use Rattle.hk_inside.specs.declared.response.Response.TheVariants as responses
use Rattle.hk_inside.specs.Messages.{refusal_code}
use Rattle.hk_office.specs.declared.refusal.OfficeRefusal.{OfficeRefusal}
use Rattle.hk_office.specs.declared.refusal.OfficeRefusal.TheVariants.{Lives, NoSuchMember, NoOtherIsReady, Taken, Wait, NoMajority, AnotherInit}
use Rattle.hk_office.specs.declared.answer.OfficeAnswer.{OfficeAnswer}
use Rattle.hk_office.specs.declared.answer.OfficeAnswer.TheVariants.{Board, Seated, State, Status, Yes, No}
use Rattle.hk_office.specs.declared.answer.OfficeStep.{OfficeStep}

-- nothing but an answer
abbrev pub answered : OfficeAnswer → OfficeStep
answered answer = record { answer = answer; logged = [] }

abbrev pub refused : OfficeRefusal → OfficeStep
refused refusal = answered (No refusal)

-- a refusal as NO tells it
abbrev pub told_as : OfficeRefusal → ManagerRefusal
told_as (Lives founding) = told.Lives founding
told_as NoSuchMember = told.NoSuchMember
told_as NoOtherIsReady = told.NoOtherIsReady
told_as (Taken number) = told.Taken number
told_as Wait = told.Wait
told_as NoMajority = told.NoMajority
told_as AnotherInit = told.AnotherInit

-- ---- as responses

-- the response is NO with the code of the refusal, whatever its text
abbrev pub IsNo : OfficeRefusal → Response → Type 0
IsNo refusal (responses.Board b) = ⊥
IsNo refusal (responses.Seated node) = ⊥
IsNo refusal (responses.State s) = ⊥
IsNo refusal (responses.Status text) = ⊥
IsNo refusal responses.Yes = ⊥
IsNo refusal (responses.No code text) = code ≡ refusal_code (told_as refusal)

abbrev pub IsSomeNo : OfficeRefusal → Option Response → Type 0
IsSomeNo refusal None = ⊥
IsSomeNo refusal (Some response) = IsNo refusal response

-- The response tells the answer. How the group stands is not told yet.
abbrev pub IsToldAs : OfficeAnswer → Option Response → Type 0
IsToldAs (Board b) response = response ≡ Some (responses.Board b)
IsToldAs (Seated node) response = response ≡ Some (responses.Seated node)
IsToldAs (State s) response = response ≡ Some (responses.State s)
IsToldAs Status response = response ≡ None
IsToldAs Yes response = response ≡ Some responses.Yes
IsToldAs (No refusal) response = IsSomeNo refusal response
