-- What an acceptor makes of a hello: a row for each refusal, of which the first that holds is told.
use Rattle.std.specs.Prelude.{ℕ, List, [], ◌∷◌, Bool, true, false, not, ◌&&◌, ◌||◌, ◌==◌, bytes_eq, if◌then◌else◌, Option, None, Some, Result, Ok, Err, ⊤, ◌≡◌}
use Rattle.hk_hello.specs.declared.hello.Hello.{Hello}
use Rattle.hk_hello.specs.declared.hello.SignedHello.{SignedHello}
use Rattle.hk_hello.specs.declared.hello.Party.{Party}
use Rattle.hk_hello.specs.declared.hello.Party.TheVariants as parties
use Rattle.hk_hello.specs.declared.hello.Purpose.{Purpose}
use Rattle.hk_hello.specs.declared.hello.Purpose.TheVariants.{Letters, Requests}
use Rattle.hk_hello.specs.declared.refusal.HelloRefusal.{HelloRefusal}
use Rattle.hk_hello.specs.declared.refusal.HelloRefusal.TheVariants.{AnotherSecret, AnotherGroup, OtherHosts, AnotherLeaseOrSkew, AnotherFounding, NoSuchActor, NumberTaken}
use Rattle.hk_hello.specs.declared.judging.Ours.{Ours}
use Rattle.hk_hello.specs.declared.judging.LookedUp.{LookedUp}
use Rattle.hk_hello.specs.declared.judging.JudgingFault.{JudgingFault}
use Rattle.hk_hello.specs.declared.judging.JudgingFault.TheVariants.{Memory, Refused}

-- lease and skew are not asked of who is neither a node nor a manager
abbrev pub has_terms : Party → Bool
has_terms (parties.Actor actor) = true
has_terms parties.Neither = false

abbrev pub has_other_terms : Ours → Hello → Bool
has_other_terms ours hello = has_terms hello.from && not (hello.lease == ours.lease && hello.skew == ours.skew)

-- 0 is no founding, and differs from none
abbrev pub differ : ℕ → ℕ → Bool
differ a b = not (a == 0) && not (b == 0) && not (a == b)

-- letters come from actors that are bound to their process alone
abbrev pub needs_binding : Purpose → Bool
needs_binding Letters = true
needs_binding Requests = false

abbrev pub lacks_actor : LookedUp → Hello → Bool
lacks_actor looked hello = not looked.to_is_here || (needs_binding hello.purpose && not looked.from_is_bound)

abbrev pub rows : Ours → List ℕ → SignedHello → LookedUp → List (Bool × HelloRefusal)
rows ours right signed looked =
    (not (bytes_eq signed.proof.0 right), AnotherSecret)
    ∷ (not (bytes_eq signed.hello.group ours.group), AnotherGroup)
    ∷ (not (bytes_eq signed.hello.hosts.0 ours.hosts.0), OtherHosts)
    ∷ (has_other_terms ours signed.hello, AnotherLeaseOrSkew)
    ∷ (differ signed.hello.founding looked.founding, AnotherFounding)
    ∷ (lacks_actor looked signed.hello, NoSuchActor)
    ∷ (looked.is_taken, NumberTaken)
    ∷ []

abbrev pub first_row : List (Bool × HelloRefusal) → Option HelloRefusal
first_row [] = None
first_row (row ∷ others) = if row.0 then Some row.1 else first_row others

-- the refusal of a hello whose right proof would be this one, if there is any
unfoldable pub refusal : Ours → List ℕ → SignedHello → LookedUp → Option HelloRefusal
refusal ours right signed looked = first_row (rows ours right signed looked)

-- it is told, or there is none; or memory was wanting
abbrev pub IsJudged : Result ⊤ JudgingFault → Option HelloRefusal → Type 0
IsJudged (Ok x) refused = refused ≡ None
IsJudged (Err Memory) refused = ⊤
IsJudged (Err (Refused refusal')) refused = refused ≡ Some refusal'
