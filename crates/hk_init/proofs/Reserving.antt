-- Where a FOUND stands among what was done.
use Rattle.std.proofs.Common.{◌≡◌, ℕ, zero, suc, ◌+◌, Bool, true, false, ◌&&◌, List, [], ◌∷◌, ◌++◌, length, Result, Ok, Err, refl, sym, ap, subst, ◌∙◌, inl, inr, append_assoc}
use Rattle.std.proofs.lemmas.Bool.{false≢true}
use Rattle.std.specs.List.{list_all}
use Rattle.std.proofs.lemmas.List.{append-nil}
use Rattle.hk_fields.specs.declared.hosts.HostTickets.{HostTickets}
use Rattle.hk_inside.specs.declared.inquiry.Inquiry.{Inquiry}
use Rattle.hk_inside.specs.declared.inquiry.Inquiry.TheVariants as inquiry
use Rattle.hk_inside.specs.declared.response.ManagerState.{ManagerState}
use Rattle.hk_init.specs.declared.fault.CommandFault.{CommandFault}
use Rattle.hk_init.specs.declared.fault.CommandFault.TheVariants.{Memory, WriteFault, Unreachable, Denied, Refused, OtherLease, NoNode, Late, NotOpen, UnknownNode, StillMember}
use Rattle.hk_init.specs.declared.opens.TheConstants.{REST, ROUNDS}
use Rattle.hk_init.specs.Deeds.{Outcome, Deed, Exchange, Reading, Rest, exchanges_from, exchanges}
use Rattle.hk_init.specs.Phases.{stood, Looks, Agrees, in_time, founds_from, all_took, Founds, AllTell, Waits, Opens}
use Rattle.hk_init.specs.Init.{Goes, Then, IsFounded, IsAgreed}
use Rattle.hk_init.specs.Laws.{IsReserved, FoundsWhatIsReserved, FoundedMeansAllOpen}

abbrev asks_to_found : Inquiry → Bool
asks_to_found (inquiry.Found number hosts) = true
asks_to_found (inquiry.Report report) = false
asks_to_found (inquiry.Seat ticket) = false
asks_to_found (inquiry.Claim node ticket) = false
asks_to_found (inquiry.Look founding) = false
asks_to_found (inquiry.Leave leaver) = false
asks_to_found inquiry.Status = false

abbrev is_found : Deed → Bool
is_found (Exchange place inquiry outcome) = asks_to_found inquiry
is_found (Reading time) = false
is_found (Rest millis) = false

abbrev NoFound : List Deed → Type 0
NoFound [] = Unit {0}
NoFound (deed ∷ deeds) = (is_found deed ≡ false) × NoFound deeds

no_found_append : (front back : List Deed) → NoFound front → NoFound back → NoFound (front ++ back)
no_found_append [] back this that = that
no_found_append (deed ∷ front) back this that = (this.0, no_found_append front back this.1 that)

looks_quiet : (place founding : ℕ) (outcomes : List Outcome) → NoFound (exchanges_from place (inquiry.Look founding) outcomes)
looks_quiet place founding [] = tt
looks_quiet place founding (outcome ∷ outcomes) = (refl, looks_quiet (place + 1) founding outcomes)

status_quiet : (place : ℕ) (outcomes : List Outcome) → NoFound (exchanges_from place inquiry.Status outcomes)
status_quiet place [] = tt
status_quiet place (outcome ∷ outcomes) = (refl, status_quiet (place + 1) outcomes)

along : (these those : List Deed) → those ≡ these → NoFound these → NoFound those
along these those same quiet = let P : List Deed → Type 0 = λ deeds. NoFound deeds in subst P (sym same) quiet

waits_quiet : (words : List ℕ) (count rounds place : ℕ) (deeds : List Deed) → Waits words count rounds place deeds → NoFound deeds
unfolding Waits
waits_quiet words count zero place deeds waits = along [] deeds waits tt
waits_quiet words count (suc rounds) place deeds waits =
    let round : NoFound waits.1 = along (exchanges inquiry.Status (waits.5.0 ++ waits.5.1 ∷ [])) waits.1 waits.5.2 (status_quiet 0 (waits.5.0 ++ waits.5.1 ∷ [])) in
    along (waits.0 ++ (waits.1 ++ Rest REST ∷ [])) deeds waits.3
    (no_found_append waits.0 (waits.1 ++ Rest REST ∷ []) (waits_quiet words count rounds waits.2 waits.0 waits.4)
    (no_found_append waits.1 (Rest REST ∷ []) round (refl, tt)))

opens_quiet : (words : List ℕ) (count : ℕ) (deeds : List Deed) (result : Result (Unit {0}) CommandFault) → Opens words count deeds result → NoFound deeds
opens_quiet words count deeds (Ok done) opens =
    let round : NoFound opens.3 = along (exchanges inquiry.Status opens.7.0) opens.3 opens.7.1 (status_quiet 0 opens.7.0) in
    along (opens.2 ++ opens.3) deeds opens.4 (no_found_append opens.2 opens.3 (waits_quiet words count opens.0 opens.1 opens.2 opens.6) round)
opens_quiet words count deeds (Err (NotOpen place)) opens = waits_quiet words count ROUNDS place deeds opens
opens_quiet words count deeds (Err Memory) opens = absurd opens
opens_quiet words count deeds (Err WriteFault) opens = absurd opens
opens_quiet words count deeds (Err (Unreachable place)) opens = absurd opens
opens_quiet words count deeds (Err (Denied place reason)) opens = absurd opens
opens_quiet words count deeds (Err (Refused text)) opens = absurd opens
opens_quiet words count deeds (Err (OtherLease place)) opens = absurd opens
opens_quiet words count deeds (Err NoNode) opens = absurd opens
opens_quiet words count deeds (Err Late) opens = absurd opens
opens_quiet words count deeds (Err (UnknownNode place)) opens = absurd opens
opens_quiet words count deeds (Err StillMember) opens = absurd opens

-- a deed that is FOUND stands behind all of those that are not
passes : (quiet behind front back : List Deed) (deed : Deed) → NoFound quiet → is_found deed ≡ true → quiet ++ behind ≡ front ++ deed ∷ back →
    (rest : List Deed) × (front ≡ quiet ++ rest) × (behind ≡ rest ++ deed ∷ back)
passes [] behind front back deed none loud e = (front, refl, e)
passes (x ∷ quiet) behind [] back deed none loud e =
    let same : x ≡ deed = cc in
    absurd (false≢true (sym none.0 ∙ (ap (λ d. is_found d) same ∙ loud)))
passes (x ∷ quiet) behind (y ∷ front) back deed none loud e =
    let head : x ≡ y = cc in
    let tail : quiet ++ behind ≡ front ++ deed ∷ back = cc in
    let more = passes quiet behind front back deed none.1 loud tail in
    (more.0, ap (λ l. y ∷ l) more.1 ∙ ap (λ h. h ∷ (quiet ++ more.0)) (sym head), more.2)

none_left : (quiet front back : List Deed) (deed : Deed) → NoFound quiet → is_found deed ≡ true → quiet ≡ front ++ deed ∷ back → ⊥
none_left [] [] back deed none loud e = cc
none_left [] (y ∷ front) back deed none loud e = cc
none_left (x ∷ quiet) [] back deed none loud e =
    let same : x ≡ deed = cc in
    false≢true (sym none.0 ∙ (ap (λ d. is_found d) same ∙ loud))
none_left (x ∷ quiet) (y ∷ front) back deed none loud e =
    let tail : quiet ≡ front ++ deed ∷ back = cc in
    none_left quiet front back deed none.1 loud tail

abbrev AllEarly : ℕ → List (ℕ × Outcome) → Type 0
AllEarly began [] = Unit {0}
AllEarly began (told ∷ more) = (in_time began told.0 ≡ true) × AllEarly began more

-- right behind a reading in time
abbrev Sits : ℕ → Inquiry → List Deed → Inquiry → Type 0
Sits began found front inquiry = (between : List Deed) × (time : ℕ) × (front ≡ between ++ Reading time ∷ []) × (in_time began time ≡ true) × (found ≡ inquiry)

deeper : (began : ℕ) (found : Inquiry) (front : List Deed) (inquiry : Inquiry) (y z : Deed) → Sits began found front inquiry → Sits began found (y ∷ z ∷ front) inquiry
deeper began found front inquiry y z at = (y ∷ z ∷ at.0, at.1, ap (λ l. y ∷ z ∷ l) at.2, at.3, at.4)

sits : (began place : ℕ) (found : Inquiry) (told : List (ℕ × Outcome)) (behind front back : List Deed) (at number : ℕ) (hosts : List HostTickets) (outcome : Outcome) →
    AllEarly began told → NoFound behind → founds_from place found told ++ behind ≡ front ++ Exchange at (inquiry.Found number hosts) outcome ∷ back →
    Sits began found front (inquiry.Found number hosts)
sits began place found [] behind front back at number hosts outcome early none e =
    absurd (none_left behind front back (Exchange at (inquiry.Found number hosts) outcome) none refl e)
sits began place found (told ∷ more) behind [] back at number hosts outcome early none e =
    let differ : Reading told.0 ≡ Exchange at (inquiry.Found number hosts) outcome = cc in
    let no : ⊥ = cc in
    absurd no
sits began place found (told ∷ more) behind (y ∷ []) back at number hosts outcome early none e =
    let head : Reading told.0 ≡ y = cc in
    let second : Exchange place found told.1 ≡ Exchange at (inquiry.Found number hosts) outcome = cc in
    let same : found ≡ inquiry.Found number hosts = cc in
    ([], told.0, ap (λ d. d ∷ []) (sym head), early.0, same)
sits began place found (told ∷ more) behind (y ∷ z ∷ front) back at number hosts outcome early none e =
    let tail : founds_from (place + 1) found more ++ behind ≡ front ++ Exchange at (inquiry.Found number hosts) outcome ∷ back = cc in
    let further = sits began (place + 1) found more behind front back at number hosts outcome early.1 none tail in
    deeper began found front (inquiry.Found number hosts) y z further

and_left : (a b : Bool) → (a && b) ≡ true → a ≡ true
and_left true b both = refl
and_left false b both = both

and_right : (a b : Bool) → (a && b) ≡ true → b ≡ true
and_right true b both = both
and_right false b both = absurd (false≢true both)

early_all : (began : ℕ) (times : List ℕ) → list_all (in_time began) times ≡ true → AllEarly began (all_took times)
early_all began [] all = tt
early_all began (time ∷ times) all = (and_left _ _ all, early_all began times (and_right _ _ all))

early_more : (began : ℕ) (told : List (ℕ × Outcome)) (time : ℕ) (outcome : Outcome) → AllEarly began told → in_time began time ≡ true → AllEarly began (told ++ (time, outcome) ∷ [])
early_more began [] time outcome all one = (one, tt)
early_more began (first ∷ told) time outcome all one = (all.0, early_more began told time outcome all.1 one)

-- FOUND in what sends it
found_part : (words : List ℕ) (count founding began : ℕ) (told : List HostTickets) (deeds : List Deed) (result : Result (Unit {0}) CommandFault) →
    IsFounded words count founding began told deeds result →
    (front back : List Deed) (at number : ℕ) (hosts : List HostTickets) (outcome : Outcome) →
    deeds ≡ front ++ Exchange at (inquiry.Found number hosts) outcome ∷ back → Sits began (inquiry.Found founding told) front (inquiry.Found number hosts)
found_part words count founding began told deeds result founded front back at number hosts outcome e =
    by_given founded.2 founded.0 founded.1 founded.4 founded.5 (sym founded.3 ∙ e)
  where
    by_given : (given : Result (Unit {0}) CommandFault) (sent behind : List Deed) → Founds began count (inquiry.Found founding told) sent given →
        Goes {A = Unit {0}} {B = Unit {0}} (λ done. Opens words count) given behind result → sent ++ behind ≡ front ++ Exchange at (inquiry.Found number hosts) outcome ∷ back →
        Sits began (inquiry.Found founding told) front (inquiry.Found number hosts)
    by_given (Ok done) sent behind founds_ goes e =
        sits began 0 (inquiry.Found founding told) (all_took founds_.0) behind front back at number hosts outcome (early_all began founds_.0 founds_.3)
        (opens_quiet words count behind result goes) (ap (λ l. l ++ behind) (sym founds_.1) ∙ e)
    by_given (Err fault) sent behind (inl late) goes e =
        sits began 0 (inquiry.Found founding told) (all_took late.0) (Reading late.1 ∷ []) front back at number hosts outcome (early_all began late.0 late.4)
        (refl, tt) (sym late.2 ∙ (sym (append-nil sent) ∙ (ap (λ l. sent ++ l) (sym goes.0) ∙ e)))
    by_given (Err fault) sent behind (inr not) goes e =
        sits began 0 (inquiry.Found founding told) (all_took not.0 ++ (not.1, not.2) ∷ []) [] front back at number hosts outcome
        (early_more began (all_took not.0) not.1 not.2 (early_all began not.0 not.5) not.6) tt
        (append-nil _ ∙ (sym not.3 ∙ (sym (append-nil sent) ∙ (ap (λ l. sent ++ l) (sym goes.0) ∙ e))))

-- and in what agrees before
agreed_part : (words : List ℕ) (count founding began : ℕ) (states : List ManagerState) (deeds : List Deed) (result : Result (Unit {0}) CommandFault) →
    IsAgreed words count founding began states deeds result →
    (front back : List Deed) (at number : ℕ) (hosts : List HostTickets) (outcome : Outcome) →
    deeds ≡ front ++ Exchange at (inquiry.Found number hosts) outcome ∷ back →
    (told : List HostTickets) × Agrees states (Ok told) × Sits began (inquiry.Found founding told) front (inquiry.Found number hosts)
agreed_part words count founding began states deeds result agreed front back at number hosts outcome e = by_agreed agreed.0 agreed.1 agreed.2
  where
    by_agreed : (given : Result (List HostTickets) CommandFault) → Agrees states given → Goes (IsFounded words count founding began) given deeds result →
        (told : List HostTickets) × Agrees states (Ok told) × Sits began (inquiry.Found founding told) front (inquiry.Found number hosts)
    by_agreed (Ok told) agrees goes = (told, agrees, found_part words count founding began told deeds result goes front back at number hosts outcome e)
    by_agreed (Err fault) agrees goes = absurd (none_left [] front back (Exchange at (inquiry.Found number hosts) outcome) tt refl (sym goes.0 ∙ e))

-- and in what looks before
looked_part : (words : List ℕ) (count founding began : ℕ) (deeds : List Deed) (result : Result (Unit {0}) CommandFault) →
    Then (Looks count founding) (IsAgreed words count founding began) deeds result →
    (front back : List Deed) (at number : ℕ) (hosts : List HostTickets) (outcome : Outcome) →
    deeds ≡ front ++ Exchange at (inquiry.Found number hosts) outcome ∷ back →
    (states : List ManagerState) × (rest : List Deed) × (front ≡ exchanges (inquiry.Look founding) (stood states) ++ rest) × (length states ≡ count) ×
    ((told : List HostTickets) × Agrees states (Ok told) × Sits began (inquiry.Found founding told) rest (inquiry.Found number hosts))
looked_part words count founding began deeds result looked front back at number hosts outcome e =
    by_given looked.2 looked.0 looked.1 looked.4 looked.5 (sym looked.3 ∙ e)
  where
    by_given : (given : Result (List ManagerState) CommandFault) (looks behind : List Deed) → Looks count founding looks given →
        Goes (IsAgreed words count founding began) given behind result → looks ++ behind ≡ front ++ Exchange at (inquiry.Found number hosts) outcome ∷ back →
        (states : List ManagerState) × (rest : List Deed) × (front ≡ exchanges (inquiry.Look founding) (stood states) ++ rest) × (length states ≡ count) ×
        ((told : List HostTickets) × Agrees states (Ok told) × Sits began (inquiry.Found founding told) rest (inquiry.Found number hosts))
    by_given (Ok states) looks behind are goes e =
        let past = passes (exchanges (inquiry.Look founding) (stood states)) behind front back (Exchange at (inquiry.Found number hosts) outcome)
        (looks_quiet 0 founding (stood states)) refl (ap (λ l. l ++ behind) (sym are.0) ∙ e) in
        (states, past.0, past.1, are.1, agreed_part words count founding began states behind result goes past.0 back at number hosts outcome past.2)
    by_given (Err fault) looks behind are goes e =
        let quiet : NoFound looks = along (exchanges (inquiry.Look founding) (stood are.0 ++ are.1 ∷ [])) looks are.2 (looks_quiet 0 founding (stood are.0 ++ are.1 ∷ [])) in
        absurd (none_left looks front back (Exchange at (inquiry.Found number hosts) outcome) quiet refl (sym (append-nil looks) ∙ (ap (λ l. looks ++ l) (sym goes.0) ∙ e)))

pub reserved : FoundsWhatIsReserved
reserved words count founding deeds result founding_ front back at number hosts outcome e =
    by_front front (sym founding_.2 ∙ e)
  where
    by_front : (front : List Deed) → Reading founding_.0 ∷ founding_.1 ≡ front ++ Exchange at (inquiry.Found number hosts) outcome ∷ back → IsReserved count founding number hosts front
    by_front [] e =
        let differ : Reading founding_.0 ≡ Exchange at (inquiry.Found number hosts) outcome = cc in
        let no : ⊥ = cc in
        absurd no
    by_front (y ∷ front) e =
        let head : Reading founding_.0 ≡ y = cc in
        let tail : founding_.1 ≡ front ++ Exchange at (inquiry.Found number hosts) outcome ∷ back = cc in
        let part = looked_part words count founding founding_.0 founding_.1 result founding_.3 front back at number hosts outcome tail in
        let told : List HostTickets = part.4.0 in
        let sits_ = part.4.2 in
        let same : inquiry.Found founding told ≡ inquiry.Found number hosts = sits_.4 in
        let same_number : number ≡ founding = cc in
        let same_hosts : told ≡ hosts = cc in
        let P : List HostTickets → Type 0 = λ h. Agrees part.0 (Ok h) in
        record {
          own = same_number;
          began = founding_.0;
          states = part.0;
          between = sits_.0;
          time = sits_.1;
          is = ap (λ h. h ∷ front) (sym head) ∙ (ap (λ l. Reading founding_.0 ∷ l) part.2 ∙ ap (λ l. Reading founding_.0 ∷ (exchanges (inquiry.Look founding) (stood part.0) ++ l)) sits_.2);
          all = part.3;
          agreed = subst P same_hosts part.4.1;
          early = sits_.3;
        }

-- ---- that all are open

-- the last of some deeds
abbrev Ends : List ℕ → ℕ → List Deed → Type 0
Ends words count deeds = (front round : List Deed) × (deeds ≡ front ++ round) × AllTell words count round

behind_others : (words : List ℕ) (count : ℕ) (front back deeds : List Deed) → deeds ≡ front ++ back → Ends words count back → Ends words count deeds
behind_others words count front back deeds e ends = (front ++ ends.0, ends.1, e ∙ (ap (λ l. front ++ l) ends.2 ∙ sym (append_assoc front ends.0 ends.1)), ends.3)

founded_ends : (words : List ℕ) (count : ℕ) (given : Result (Unit {0}) CommandFault) (done : Unit {0}) (back : List Deed) →
    Goes {A = Unit {0}} {B = Unit {0}} (λ done. Opens words count) given back (Ok done) → Ends words count back
founded_ends words count (Ok given) done back goes = (goes.2, goes.3, goes.4, goes.7)
founded_ends words count (Err fault) done back goes = let e : Ok done ≡ Err fault = goes.1 in let no : ⊥ = cc in absurd no

agreed_ends : (words : List ℕ) (count founding began : ℕ) (given : Result (List HostTickets) CommandFault) (done : Unit {0}) (back : List Deed) →
    Goes (IsFounded words count founding began) given back (Ok done) → Ends words count back
agreed_ends words count founding began (Ok hosts) done back goes = behind_others words count goes.0 goes.1 back goes.3 (founded_ends words count goes.2 done goes.1 goes.5)
agreed_ends words count founding began (Err fault) done back goes = let e : Ok done ≡ Err fault = goes.1 in let no : ⊥ = cc in absurd no

looked_ends : (words : List ℕ) (count founding began : ℕ) (given : Result (List ManagerState) CommandFault) (done : Unit {0}) (back : List Deed) →
    Goes (IsAgreed words count founding began) given back (Ok done) → Ends words count back
looked_ends words count founding began (Ok states) done back goes = agreed_ends words count founding began goes.0 done back goes.2
looked_ends words count founding began (Err fault) done back goes = let e : Ok done ≡ Err fault = goes.1 in let no : ⊥ = cc in absurd no

pub opened : FoundedMeansAllOpen
opened words count founding deeds done made =
    behind_others words count (Reading made.0 ∷ []) made.1 deeds made.2
    (behind_others words count made.3.0 made.3.1 made.1 made.3.3 (looked_ends words count founding made.0 made.3.2 done made.3.1 made.3.5))
