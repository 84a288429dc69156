-- One part of a command behind the other.
use Rattle.std.proofs.Common.{◌≡◌, ℕ, List, [], ◌∷◌, ◌++◌, length, Option, Result, Ok, Err, refl, sym, ap, subst, ◌∙◌, inl}
use Rattle.std.proofs.lemmas.List.{append-nil, length-map}
use Rattle.hk_fields.specs.declared.hosts.HostTickets.{HostTickets}
use Rattle.hk_inside.specs.declared.response.ManagerState.{ManagerState}
use Rattle.hk_init.specs.declared.fault.CommandFault.{CommandFault}
use Rattle.hk_init.specs.Deeds.{Deed, Reading, Does}
use Rattle.hk_init.specs.Lines.{founded_line, open_words}
use Rattle.hk_init.specs.Phases.{Looks, Agrees}
use Rattle.hk_init.specs.Init.{Then, IsFounded, IsAgreed, IsFounding, Writes, Inits}
use Rattle.hk_init.proofs.Deeds.{does_nothing, does_then}

-- the first part gave nothing
pub then_ends : {A B : Type 0} (first : List Deed → Result A CommandFault → Type 0) (next : A → List Deed → Result B CommandFault → Type 0) (before now : Option (List Deed)) (fault : CommandFault) (r : Result B CommandFault) →
    ((deeds : List Deed) × Does before now deeds × first deeds (Err fault)) → r ≡ Err fault →
    (deeds : List Deed) × Does before now deeds × Then first next deeds r
then_ends first next before now fault r made is = (made.0, made.1, (made.0, [], Err fault, sym (append-nil made.0), made.2, (refl, is)))

-- it gave something, and then the other was done
pub then_goes_on : {A B : Type 0} (first : List Deed → Result A CommandFault → Type 0) (next : A → List Deed → Result B CommandFault → Type 0) (before between now : Option (List Deed)) (x : A) (r : Result B CommandFault) →
    ((deeds : List Deed) × Does before between deeds × first deeds (Ok x)) → ((deeds : List Deed) × Does between now deeds × next x deeds r) →
    (deeds : List Deed) × Does before now deeds × Then first next deeds r
then_goes_on first next before between now x r made more =
    (made.0 ++ more.0, does_then before between now made.0 more.0 made.1 more.1, (made.0, more.0, Ok x, refl, made.2, more.2))

-- they do not agree, and nothing is done
pub agreed_ends : (words : List ℕ) (count founding began : ℕ) (states : List ManagerState) (before : Option (List Deed)) (fault : CommandFault) (r : Result (Unit {0}) CommandFault) →
    Agrees states (Err fault) → r ≡ Err fault → (deeds : List Deed) × Does before before deeds × IsAgreed words count founding began states deeds r
agreed_ends words count founding began states before fault r agrees is = ([], does_nothing before, (Err fault, agrees, (refl, is)))

pub agreed_goes_on : (words : List ℕ) (count founding began : ℕ) (states : List ManagerState) (before now : Option (List Deed)) (hosts : List HostTickets) (r : Result (Unit {0}) CommandFault) →
    Agrees states (Ok hosts) → ((deeds : List Deed) × Does before now deeds × IsFounded words count founding began hosts deeds r) →
    (deeds : List Deed) × Does before now deeds × IsAgreed words count founding began states deeds r
agreed_goes_on words count founding began states before now hosts r agrees made = (made.0, made.1, (Ok hosts, agrees, made.2))

-- as many tickets as hosts
pub agreed_many : (states : List ManagerState) (hosts : List HostTickets) → Agrees states (Ok hosts) → length hosts ≡ length states
agreed_many states hosts agrees = ap length agrees.2 ∙ length-map states (λ state. state.tickets)

-- behind a reading
pub founding_behind : (words : List ℕ) (count founding began : ℕ) (before read now : Option (List Deed)) (r : Result (Unit {0}) CommandFault) →
    Does before read (Reading began ∷ []) → ((deeds : List Deed) × Does read now deeds × Then (Looks count founding) (IsAgreed words count founding began) deeds r) →
    (deeds : List Deed) × Does before now deeds × IsFounding words count founding deeds r
founding_behind words count founding began before read now r reads made =
    (Reading began ∷ made.0, does_then before read now (Reading began ∷ []) made.0 reads made.1, (began, made.0, refl, made.2))

-- the group was not founded, and nothing is written
pub init_ends : (group words : List ℕ) (count founding : ℕ) (before now : Option (List Deed)) (held : Option (List ℕ)) (fault : CommandFault) (r : Result (Unit {0}) CommandFault) →
    words ≡ open_words group founding → ((deeds : List Deed) × Does before now deeds × IsFounding words count founding deeds (Err fault)) → r ≡ Err fault →
    (deeds : List Deed) × Does before now deeds × Inits group count founding deeds held held r
init_ends group words count founding before now held fault r is_words made is =
    let P : List ℕ → Type 0 = λ words. IsFounding words count founding made.0 (Err fault) in
    (made.0, made.1, inl (Err fault, subst P is_words made.2, (is, refl)))

-- it was, and the line is written or not
pub init_goes_on : (group words line : List ℕ) (count founding : ℕ) (before now : Option (List Deed)) (held held' : Option (List ℕ)) (done : Unit {0}) (r : Result (Unit {0}) CommandFault) →
    words ≡ open_words group founding → line ≡ founded_line founding → ((deeds : List Deed) × Does before now deeds × IsFounding words count founding deeds (Ok done)) →
    Writes (Ok line) held held' r →
    (deeds : List Deed) × Does before now deeds × Inits group count founding deeds held held' r
init_goes_on group words line count founding before now held held' done r is_words is_line made writes =
    let P : List ℕ → Type 0 = λ words. IsFounding words count founding made.0 (Ok done) in
    let Q : List ℕ → Type 0 = λ line. Writes (Ok line) held held' r in
    (made.0, made.1, inl (Ok done, subst P is_words made.2, subst Q is_line writes))

-- the same states, as many as there are hosts
pub agreed_by : (words : List ℕ) (count founding began : ℕ) (states shown : List ManagerState) (before now : Option (List Deed)) (r : Result (Unit {0}) CommandFault) →
    shown ≡ states → length states ≡ count →
    ((deeds : List Deed) × Does before now deeds × IsAgreed words (length shown) founding began shown deeds r) →
    (deeds : List Deed) × Does before now deeds × IsAgreed words count founding began states deeds r
agreed_by words count founding began states shown before now r is many made =
    let P : List ManagerState → Type 0 = λ s. IsAgreed words (length s) founding began s made.0 r in
    let Q : ℕ → Type 0 = λ n. IsAgreed words n founding began states made.0 r in
    (made.0, made.1, subst Q many (subst P is made.2))
