-- What holds of all that `init` does.
use Rattle.std.specs.Prelude.{◌≡◌, ℕ, true, List, [], ◌∷◌, ◌++◌, length, Result, Ok}
use Rattle.hk_fields.specs.declared.hosts.HostTickets.{HostTickets}
use Rattle.hk_inside.specs.declared.inquiry.Inquiry.TheVariants as inquiry
use Rattle.hk_inside.specs.declared.response.ManagerState.{ManagerState}
use Rattle.hk_init.specs.declared.fault.CommandFault.{CommandFault}
use Rattle.hk_init.specs.Deeds.{Outcome, Deed, Exchange, Reading, exchanges}
use Rattle.hk_init.specs.Phases.{stood, Agrees, in_time, AllTell}
use Rattle.hk_init.specs.Init.{IsFounding}

-- What was done before a FOUND with this number and these tickets: a reading, and LOOK of this founding, which each of so
-- many hosts answered by STATE. They agree, and these are the tickets that they told. The last deed is a reading in time.
pub record IsReserved (count founding number : ℕ) (hosts : List HostTickets) (front : List Deed) : Type 0 where
  pub own : number ≡ founding
  pub began : ℕ
  pub states : List ManagerState
  pub between : List Deed
  pub time : ℕ
  pub is : front ≡ Reading began ∷ (exchanges (inquiry.Look founding) (stood states) ++ (between ++ Reading time ∷ []))
  pub all : length states ≡ count
  pub agreed : Agrees states (Ok hosts)
  pub early : in_time began time ≡ true

-- Each FOUND is so, however `init` ends.
abbrev pub FoundsWhatIsReserved : Type 0
FoundsWhatIsReserved = (words : List ℕ) (count founding : ℕ) (deeds : List Deed) (result : Result (Unit {0}) CommandFault) →
    IsFounding words count founding deeds result →
    (front back : List Deed) (place number : ℕ) (hosts : List HostTickets) (outcome : Outcome) →
    deeds ≡ front ++ Exchange place (inquiry.Found number hosts) outcome ∷ back → IsReserved count founding number hosts front

-- Where a group was founded, all of so many hosts told the words in the last round.
abbrev pub FoundedMeansAllOpen : Type 0
FoundedMeansAllOpen = (words : List ℕ) (count founding : ℕ) (deeds : List Deed) (done : Unit {0}) → IsFounding words count founding deeds (Ok done) →
    (front round : List Deed) × (deeds ≡ front ++ round) × AllTell words count round
