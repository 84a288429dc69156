-- What the commands do, and how each of them ends.
use Rattle.std.specs.Prelude.{◌≡◌, ◌<◌, ◌⊎◌, ℕ, ◌-◌, ◌/◌, Bool, true, false, not, ◌&&◌, nat_eq, nat_lt, if◌then◌else◌, codes, List, [], ◌∷◌, ◌++◌, length, take, is_err, Option, Result, Ok, Err}
use Rattle.std.specs.List.{list_any, list_all, ends_with, sum_by}
use Rattle.std.specs.Io.KnownBytes.{Appends}
use Rattle.hk_fields.specs.declared.hosts.HostTickets.{HostTickets}
use Rattle.hk_inside.specs.declared.inquiry.Inquiry.TheVariants as inquiry
use Rattle.hk_inside.specs.declared.response.ManagerState.{ManagerState}
use Rattle.hk_inside.specs.declared.response.Response.{Response}
use Rattle.hk_inside.specs.declared.response.Response.TheVariants as response
use Rattle.hk_init.specs.declared.fault.NoAnswer.{NoAnswer}
use Rattle.hk_init.specs.declared.fault.NoAnswer.TheVariants as asks
use Rattle.hk_init.specs.declared.fault.CommandFault.{CommandFault}
use Rattle.hk_init.specs.declared.fault.CommandFault.TheVariants.{Memory, WriteFault}
use Rattle.hk_init.specs.Faults.{not_asked}
use Rattle.hk_init.specs.HostNodes.{word_at, is_text}
use Rattle.hk_init.specs.Deeds.{Outcome, Deed, Reading, exchanges}
use Rattle.hk_init.specs.Phases.{Looks, Agrees, Founds, Opens}
use Rattle.hk_init.specs.Lines.{founded_line, open_words}

-- where something was given, what comes next; else nothing is done any more
abbrev pub Goes : {A B : Type 0} → (A → List Deed → Result B CommandFault → Type 0) →
    Result A CommandFault → List Deed → Result B CommandFault → Type 0
Goes next (Ok x) deeds result = next x deeds result
Goes next (Err fault) deeds result = (deeds ≡ []) × (result ≡ Err fault)

-- first this, and then that
abbrev pub Then : {A B : Type 0} → (List Deed → Result A CommandFault → Type 0) →
    (A → List Deed → Result B CommandFault → Type 0) → List Deed → Result B CommandFault → Type 0
Then {A} first next deeds result = (front back : List Deed) × (given : Result A CommandFault) ×
    (deeds ≡ front ++ back) × first front given × Goes next given back result

-- FOUND with these tickets, and then STATUS until all tell the words
abbrev pub IsFounded : List ℕ → ℕ → ℕ → ℕ → List HostTickets → List Deed → Result (Unit {0}) CommandFault → Type 0
IsFounded words count founding began hosts = Then (Founds began count (inquiry.Found founding hosts)) (λ done. Opens words count)

-- with the tickets that these states have, where they agree
abbrev pub IsAgreed : List ℕ → ℕ → ℕ → ℕ → List ManagerState → List Deed → Result (Unit {0}) CommandFault → Type 0
IsAgreed words count founding began states deeds result = (agreed : Result (List HostTickets) CommandFault) ×
    Agrees states agreed × Goes (IsFounded words count founding began) agreed deeds result

-- A reading, then LOOK, and where all managers are reserved, FOUND.
abbrev pub IsFounding : List ℕ → ℕ → ℕ → List Deed → Result (Unit {0}) CommandFault → Type 0
IsFounding words count founding deeds result = (began : ℕ) × (behind : List Deed) ×
    (deeds ≡ Reading began ∷ behind) × Then (Looks count founding) (IsAgreed words count founding began) behind result

-- ---- what is written

-- The text is written; or writing failed, behind a front of it. Where there is none, nothing is.
abbrev pub Writes : Result (List ℕ) CommandFault → (before now : Option (List ℕ)) → Result (Unit {0}) CommandFault → Type 0
Writes (Ok text) before now (Ok done) = Appends before now text
Writes (Ok text) before now (Err fault) = (fault ≡ WriteFault) × (n : ℕ) × Appends before now (take n text)
Writes (Err fault) before now result = (result ≡ Err fault) × (now ≡ before)

-- the line, where all went well
abbrev pub line_where : List ℕ → Result (Unit {0}) CommandFault → Result (List ℕ) CommandFault
line_where line (Ok done) = Ok line
line_where line (Err fault) = Err fault

-- A group was founded, or why not, and the line is written; or there was no memory for the lines, and nothing was done.
abbrev pub Inits : List ℕ → ℕ → ℕ → List Deed → (before now : Option (List ℕ)) → Result (Unit {0}) CommandFault → Type 0
Inits group count founding deeds before now result =
    ((ended : Result (Unit {0}) CommandFault) × IsFounding (open_words group founding) count founding deeds ended ×
    Writes (line_where (founded_line founding) ended) before now result)
    ⊎ ((deeds ≡ []) × (now ≡ before) × (result ≡ Err Memory))

-- ---- STATUS

-- the text that a host answers
abbrev pub status_in : Response → Result (List ℕ) NoAnswer
status_in (response.Status text) = Ok text
status_in response.Yes = Err asks.Silent
status_in (response.No code text) = Err asks.Silent
status_in (response.State state) = Err asks.Silent
status_in (response.Board board) = Err asks.Silent
status_in (response.Seated node) = Err asks.Silent

abbrev pub status_of : Outcome → Result (List ℕ) NoAnswer
status_of (Ok response) = status_in response
status_of (Err fault) = Err fault

abbrev pub lacks_status : Outcome → Bool
lacks_status outcome = is_err (status_of outcome)

abbrev pub fault_or : NoAnswer → Result (List ℕ) NoAnswer → NoAnswer
fault_or usual (Ok text) = usual
fault_or usual (Err fault) = fault

-- why host 0 told nothing
abbrev pub first_fault : List Outcome → NoAnswer
first_fault [] = asks.Silent
first_fault (outcome ∷ outcomes) = fault_or asks.Silent (status_of outcome)

-- One host after the other was asked, and this one is the first that answered; or none of so many did, and it is told why
-- host 0 did not.
abbrev pub FirstAnswers : ℕ → List Deed → Result (List ℕ) CommandFault → Type 0
FirstAnswers count deeds (Ok text) = (outcomes : List Outcome) × (outcome : Outcome) ×
    (deeds ≡ exchanges inquiry.Status (outcomes ++ outcome ∷ [])) × (length outcomes < count) ×
    (list_all lacks_status outcomes ≡ true) × (status_of outcome ≡ Ok text)
FirstAnswers count deeds (Err fault) = (outcomes : List Outcome) ×
    (deeds ≡ exchanges inquiry.Status outcomes) × (length outcomes ≡ count) ×
    (list_all lacks_status outcomes ≡ true) × (fault ≡ not_asked 0 (first_fault outcomes))

-- ---- whether all is lost

-- the last line of a text that tells it, and the end of the line before it
abbrev pub lost_line : List ℕ
lost_line = 10 ∷ 108 ∷ 111 ∷ 115 ∷ 116 ∷ 10 ∷ []

abbrev pub tells_lost : List ℕ → Bool
tells_lost text = ends_with nat_eq text lost_line

abbrev pub without_lost : List ℕ → List ℕ
without_lost text = take (length text - 5) text

-- Its manager knows of no group, as where its disk was lost: `group NAME founding=- ..`. It tells nothing of what became of one.
abbrev pub knows_none : List ℕ → Bool
knows_none text = is_text (word_at text 2) (codes "founding=-")

-- how many hosts answer whose managers know of the group, of one
abbrev pub count_of : Result (List ℕ) NoAnswer → ℕ
count_of (Ok text) = if knows_none text then 0 else 1
count_of (Err fault) = 0

-- such a host answers, and does not tell it
abbrev pub denies_lost : Result (List ℕ) NoAnswer → Bool
denies_lost (Ok text) = not (knows_none text) && not (tells_lost text)
denies_lost (Err fault) = false

abbrev pub is_confirmed : ℕ → ℕ → Bool → Bool
is_confirmed count answered denied = not denied && nat_lt (count / 2) answered

abbrev pub answer_count : Outcome → ℕ
answer_count outcome = count_of (status_of outcome)

abbrev pub is_denied : Outcome → Bool
is_denied outcome = denies_lost (status_of outcome)

-- All hosts were asked. It is confirmed where a majority answers that knows of the group, and all of these tell it.
abbrev pub Confirms : ℕ → List Deed → Bool → Type 0
Confirms count deeds confirmed = (outcomes : List Outcome) × (deeds ≡ exchanges inquiry.Status outcomes) × (length outcomes ≡ count) ×
    (confirmed ≡ is_confirmed count (sum_by answer_count outcomes) (list_any is_denied outcomes))

-- What is told where the first host that answers tells this text. That all is lost is told only where it is confirmed.
abbrev pub ShowsLost : ℕ → List ℕ → List Deed → List ℕ → Type 0
ShowsLost count text deeds shown = (confirmed : Bool) × Confirms count deeds confirmed × (shown ≡ (if confirmed then text else without_lost text))

abbrev pub ShowsIf : Bool → ℕ → List ℕ → List Deed → List ℕ → Type 0
ShowsIf true count text deeds shown = ShowsLost count text deeds shown
ShowsIf false count text deeds shown = (deeds ≡ []) × (shown ≡ text)

abbrev pub Shows : ℕ → List ℕ → List Deed → List ℕ → Type 0
Shows count text deeds shown = ShowsIf (tells_lost text) count text deeds shown

abbrev pub ShowsOk : ℕ → List ℕ → List Deed → Result (List ℕ) CommandFault → Type 0
ShowsOk count text deeds (Ok shown) = Shows count text deeds shown
ShowsOk count text deeds (Err fault) = ⊥

-- what the first host tells that answers, if that is so
abbrev pub TellsOf : ℕ → List Deed → Result (List ℕ) CommandFault → Type 0
TellsOf count = Then (FirstAnswers count) (ShowsOk count)

-- That is written.
abbrev pub TellsStatus : ℕ → List Deed → (before now : Option (List ℕ)) → Result (Unit {0}) CommandFault → Type 0
TellsStatus count deeds before now result = (told : Result (List ℕ) CommandFault) × TellsOf count deeds told × Writes told before now result
