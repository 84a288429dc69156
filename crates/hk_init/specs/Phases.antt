-- The parts of `init`, one after the other, and how each of them ends.
use Rattle.std.specs.Prelude.{◌≡◌, ◌<◌, ◌⊎◌, ⊤, ℕ, zero, suc, ◌+◌, ◌-◌, Bool, true, false, not, ◌==◌, ◌&&◌, nat_lt, nat_eq, List, [], ◌∷◌, ◌++◌, map, length, position, Option, None, Some, Result, Ok, Err}
use Rattle.std.specs.List.{list_any, list_all, starts_with}
use Rattle.hk_fields.specs.declared.hosts.HostTickets.{HostTickets}
use Rattle.hk_inside.specs.declared.inquiry.Inquiry.{Inquiry}
use Rattle.hk_inside.specs.declared.inquiry.Inquiry.TheVariants as inquiry
use Rattle.hk_inside.specs.declared.response.ManagerState.{ManagerState}
use Rattle.hk_inside.specs.declared.response.Response.{Response}
use Rattle.hk_inside.specs.declared.response.Response.TheVariants as response
use Rattle.hk_init.specs.declared.fault.CommandFault.{CommandFault}
use Rattle.hk_init.specs.declared.fault.CommandFault.TheVariants.{Memory, Unreachable, Refused, OtherLease, NoNode, Late, NotOpen}
use Rattle.hk_init.specs.declared.founds.TheConstants.{FOUND_WITHIN}
use Rattle.hk_init.specs.declared.opens.TheConstants.{REST, ROUNDS}
use Rattle.hk_init.specs.Faults.{not_asked}
use Rattle.hk_init.specs.Deeds.{Outcome, Deed, Exchange, Reading, Rest, exchanges}

-- ---- LOOK

-- how a manager stands that answers LOOK by STATE, and is reserved now; or why `init` ends
abbrev pub state_of : ℕ → Response → Result ManagerState CommandFault
state_of place (response.State state) = Ok state
state_of place (response.No code text) = Err (Refused text)
state_of place (response.Board board) = Err (Unreachable place)
state_of place (response.Seated node) = Err (Unreachable place)
state_of place (response.Status text) = Err (Unreachable place)
state_of place response.Yes = Err (Unreachable place)

abbrev pub looked : ℕ → Outcome → Result ManagerState CommandFault
looked place (Ok response) = state_of place response
looked place (Err fault) = Err (not_asked place fault)

abbrev pub stood : List ManagerState → List Outcome
stood states = map (λ state. Ok (response.State state)) states

-- Each of so many hosts answered LOOK by STATE; or one did not, and the others were not asked; or memory was wanting.
abbrev pub Looks : ℕ → ℕ → List Deed → Result (List ManagerState) CommandFault → Type 0
Looks count founding deeds (Ok states) = (deeds ≡ exchanges (inquiry.Look founding) (stood states)) × (length states ≡ count)
Looks count founding deeds (Err fault) = (states : List ManagerState) × (outcome : Outcome) ×
    (deeds ≡ exchanges (inquiry.Look founding) (stood states ++ outcome ∷ [])) × (length states < count) ×
    ((looked (length states) outcome ≡ Err fault) ⊎ (fault ≡ Memory))

-- ---- whether they agree

abbrev pub is_alike : ManagerState → ManagerState → Bool
is_alike a b = (a.lease == b.lease) && (a.skew == b.skew)

-- the first host that has another lease or skew than host 0
abbrev pub other_lease : List ManagerState → Option ℕ
other_lease [] = None
other_lease (first ∷ others) = position (λ state. not (is_alike first state)) (first ∷ others)

-- a node waits at the host, since it told a ticket that is not 0
abbrev pub has_node : ManagerState → Bool
has_node state = list_any (λ byte. not (byte == 0)) state.tickets.node.0

-- The tickets of all hosts, where all have one lease and one skew and a node waits; or why not.
abbrev pub Agrees : List ManagerState → Result (List HostTickets) CommandFault → Type 0
Agrees states (Ok hosts) = (other_lease states ≡ None) × (list_any has_node states ≡ true) ×
    (hosts ≡ map (λ state. state.tickets) states)
Agrees states (Err (OtherLease place)) = other_lease states ≡ Some place
Agrees states (Err NoNode) = (other_lease states ≡ None) × (list_any has_node states ≡ false)
Agrees states (Err Memory) = ⊤
Agrees states (Err fault) = ⊥

-- ---- FOUND

-- a manager took FOUND; or why `init` ends
abbrev pub taken_by : ℕ → Response → Result (Unit {0}) CommandFault
taken_by place response.Yes = Ok tt
taken_by place (response.No code text) = Err (Refused text)
taken_by place (response.State state) = Err (Unreachable place)
taken_by place (response.Board board) = Err (Unreachable place)
taken_by place (response.Seated node) = Err (Unreachable place)
taken_by place (response.Status text) = Err (Unreachable place)

abbrev pub taken : ℕ → Outcome → Result (Unit {0}) CommandFault
taken place (Ok response) = taken_by place response
taken place (Err fault) = Err (not_asked place fault)

-- by this reading the managers are still reserved
abbrev pub in_time : (began now : ℕ) → Bool
in_time began now = nat_lt (now - began) FOUND_WITHIN

-- FOUND to one host after the other, from this place on, each behind a reading
abbrev pub founds_from : ℕ → Inquiry → List (ℕ × Outcome) → List Deed
founds_from place found [] = []
founds_from place found (told ∷ more) = Reading told.0 ∷ Exchange place found told.1 ∷ founds_from (place + 1) found more

abbrev pub founds : Inquiry → List (ℕ × Outcome) → List Deed
founds found told = founds_from 0 found told

-- at these readings, and all took it
abbrev pub all_took : List ℕ → List (ℕ × Outcome)
all_took times = map (λ time. (time, Ok response.Yes)) times

-- it was too late for the next host
abbrev pub IsLate : ℕ → ℕ → Inquiry → List Deed → CommandFault → Type 0
IsLate began count found deeds fault = (times : List ℕ) × (late : ℕ) ×
    (deeds ≡ founds found (all_took times) ++ Reading late ∷ []) × (length times < count) ×
    (list_all (in_time began) times ≡ true) × (in_time began late ≡ false) × (fault ≡ Late)

-- the next host did not take it
abbrev pub IsNotTaken : ℕ → ℕ → Inquiry → List Deed → CommandFault → Type 0
IsNotTaken began count found deeds fault = (times : List ℕ) × (time : ℕ) × (outcome : Outcome) ×
    (deeds ≡ founds found (all_took times ++ (time, outcome) ∷ [])) × (length times < count) ×
    (list_all (in_time began) times ≡ true) × (in_time began time ≡ true) × (taken (length times) outcome ≡ Err fault)

-- Each of so many hosts took FOUND, in time; or the first that did not is why it ends.
abbrev pub Founds : ℕ → ℕ → Inquiry → List Deed → Result (Unit {0}) CommandFault → Type 0
Founds began count found deeds (Ok done) = (times : List ℕ) ×
    (deeds ≡ founds found (all_took times)) × (length times ≡ count) × (list_all (in_time began) times ≡ true)
Founds began count found deeds (Err fault) = IsLate began count found deeds fault ⊎ IsNotTaken began count found deeds fault

-- ---- until all are open

-- what STATUS was answered begins with these words
abbrev pub tells_by : List ℕ → Response → Bool
tells_by words (response.Status text) = starts_with nat_eq text words
tells_by words response.Yes = false
tells_by words (response.No code text) = false
tells_by words (response.State state) = false
tells_by words (response.Board board) = false
tells_by words (response.Seated node) = false

abbrev pub tells : List ℕ → Outcome → Bool
tells words (Ok response) = tells_by words response
tells words (Err fault) = false

-- One host after the other told the words, and all of so many did.
abbrev pub AllTell : List ℕ → ℕ → List Deed → Type 0
AllTell words count deeds = (outcomes : List Outcome) ×
    (deeds ≡ exchanges inquiry.Status outcomes) × (length outcomes ≡ count) × (list_all (tells words) outcomes ≡ true)

-- The host of this place is the first that did not.
abbrev pub FirstLacks : List ℕ → ℕ → ℕ → List Deed → Type 0
FirstLacks words count place deeds = (outcomes : List Outcome) × (outcome : Outcome) ×
    (deeds ≡ exchanges inquiry.Status (outcomes ++ outcome ∷ [])) × (length outcomes ≡ place) × (place < count) ×
    (list_all (tells words) outcomes ≡ true) × (tells words outcome ≡ false)

-- So many rounds, one behind the other and with a rest behind each, in which a host did not tell the words; in the last of
-- them it was the host of this place.
unfoldable pub Waits : List ℕ → ℕ → ℕ → ℕ → List Deed → Type 0
Waits words count zero place deeds = deeds ≡ []
Waits words count (suc rounds) place deeds = (before round : List Deed) × (former : ℕ) ×
    (deeds ≡ before ++ (round ++ Rest REST ∷ [])) × Waits words count rounds former before × FirstLacks words count place round

-- Rounds until in one of them all tell the words; or that of this place did not in the last of all rounds.
abbrev pub Opens : List ℕ → ℕ → List Deed → Result (Unit {0}) CommandFault → Type 0
Opens words count deeds (Ok done) = (rounds place : ℕ) × (before round : List Deed) ×
    (deeds ≡ before ++ round) × (rounds < ROUNDS) × Waits words count rounds place before × AllTell words count round
Opens words count deeds (Err (NotOpen place)) = Waits words count ROUNDS place deeds
Opens words count deeds (Err fault) = ⊥
