-- Challenges, hellos and answers as bytes, and which hellos there are.
use Rattle.std.specs.Prelude.{◌≡◌, ℕ, ◌+◌, ◌<◌, ◌≤◌, ◌^◌, Bool, true, ◌&&◌, ◌||◌, ◌==◌, nat_le, List, [], ◌∷◌, ◌++◌, length, ⊤, ◌≢◌, Option, None, Some}
use Rattle.std.specs.Int.{w16, w32, w64, to_be_bytes}
use Rattle.std.specs.List.{list_all}
use Rattle.hk_base.specs.declared.letter.Actor.{Actor}
use Rattle.hk_base.specs.declared.letter.Actor.TheVariants.{Node, Manager}
use Rattle.hk_fields.specs.Fields.{text_bytes, actor_bytes, IsTicket, IsActorField}
use Rattle.hk_hello.specs.declared.challenge.Challenge.{Challenge}
use Rattle.hk_hello.specs.declared.challenge.TheConstants.{HEADER}
use Rattle.hk_hello.specs.declared.hello.Hello.{Hello}
use Rattle.hk_hello.specs.declared.hello.SignedHello.{SignedHello}
use Rattle.hk_hello.specs.declared.hello.Party.{Party}
use Rattle.hk_hello.specs.declared.hello.Party.TheVariants as parties
use Rattle.hk_hello.specs.declared.hello.Purpose.{Purpose}
use Rattle.hk_hello.specs.declared.hello.Purpose.TheVariants.{Letters, Requests}
use Rattle.hk_hello.specs.declared.mac.Proof.{Proof}
use Rattle.hk_hello.specs.declared.mac.TheConstants.{PROOF_LEN}
use Rattle.hk_hello.specs.declared.refusal.HelloRefusal.{HelloRefusal}
use Rattle.hk_hello.specs.declared.refusal.HelloRefusal.TheVariants.{AnotherSecret, AnotherGroup, OtherHosts, AnotherLeaseOrSkew, AnotherFounding, NoSuchActor, NumberTaken}
use Rattle.hk_hello.specs.declared.answer.Answer.{Answer}
use Rattle.hk_hello.specs.declared.answer.Answer.TheVariants.{Welcome, Refused}
use Rattle.hk_hello.specs.Mac.{hmac}

-- what an acceptor begins with: the header, and its 16 bytes
abbrev pub challenge_bytes : Challenge → List ℕ
challenge_bytes challenge = HEADER ++ challenge.0

-- ---- a hello

abbrev pub purpose_byte : Purpose → ℕ
purpose_byte Letters = 0
purpose_byte Requests = 1

-- a node or a manager; or 2, and 0 for its number
abbrev pub party_bytes : Party → List ℕ
party_bytes (parties.Actor actor) = actor_bytes actor
party_bytes parties.Neither = 2 ∷ to_be_bytes w16 0

-- who dials whom, and what for
abbrev pub parties_bytes : Hello → List ℕ
parties_bytes h = purpose_byte h.purpose ∷ (party_bytes h.from ++ party_bytes h.to)

-- the founding that the dialler is of, its process, and its hosts
abbrev pub home_bytes : Hello → List ℕ
home_bytes h = to_be_bytes w64 h.founding ++ (h.ticket.0 ++ h.hosts.0)

-- its lease, its skew, and the name of its group
abbrev pub terms_bytes : Hello → List ℕ
terms_bytes h = to_be_bytes w32 h.lease ++ (to_be_bytes w32 h.skew ++ text_bytes h.group)

abbrev pub fields_bytes : Hello → List ℕ
fields_bytes h = parties_bytes h ++ (home_bytes h ++ terms_bytes h)

-- all that a proof is of: the length of what follows, the proof included, and the fields
abbrev pub hello_bytes : Hello → List ℕ
hello_bytes h = to_be_bytes w16 (length (fields_bytes h) + PROOF_LEN) ++ fields_bytes h

-- a hello and its proof
abbrev pub signed_bytes : SignedHello → List ℕ
signed_bytes s = hello_bytes s.hello ++ s.proof.0

-- ---- which hellos there are

-- a letter from a to z, a digit, or a hyphen
abbrev pub is_name_byte : ℕ → Bool
is_name_byte b = (nat_le 97 b && nat_le b 122) || ((nat_le 48 b && nat_le b 57) || b == 45)

-- the name of a group: 1 to 32 of these
pub record IsGroupName (name : List ℕ) : Type 0 where
  pub some : 1 ≤ length name
  pub short : length name ≤ 32
  pub bytes : list_all is_name_byte name ≡ true

-- managers are 0 to 8
abbrev pub IsActorInRange : Actor → Type 0
IsActorInRange (Node node) = ⊤
IsActorInRange (Manager manager) = manager < 9

abbrev pub IsPartyInRange : Party → Type 0
IsPartyInRange (parties.Actor actor) = IsActorInRange actor
IsPartyInRange parties.Neither = ⊤

-- what is asked of a hello that is to be printed
pub record IsHelloInRange (h : Hello) : Type 0 where
  pub from : IsPartyInRange h.from
  pub to : IsPartyInRange h.to
  pub group : IsGroupName h.group

-- and with what its types keep

abbrev pub IsParty : Party → Type 0
IsParty (parties.Actor actor) = IsActorField actor
IsParty parties.Neither = ⊤

pub record IsHello (h : Hello) : Type 0 where
  pub from : IsParty h.from
  pub to : IsParty h.to
  pub founding : h.founding < 2 ^ 64
  pub ticket : IsTicket h.ticket
  pub hosts : length h.hosts.0 ≡ 8
  pub lease : h.lease < 2 ^ 32
  pub skew : h.skew < 2 ^ 32
  pub group : IsGroupName h.group

abbrev pub IsProof : Proof → Type 0
IsProof proof = length proof.0 ≡ PROOF_LEN

pub record IsSigned (s : SignedHello) : Type 0 where
  pub hello : IsHello s.hello
  pub proof : IsProof s.proof

-- ---- proofs

-- that a dialler knows the secret: of the 16 bytes that it was asked by, and all that it says
abbrev pub proof_of : List ℕ → Challenge → Hello → List ℕ
proof_of secret challenge hello = hmac secret (challenge.0 ++ hello_bytes hello)

-- that the acceptor does: of the dialler's proof, and its own 16 bytes
abbrev pub welcome_of : List ℕ → Challenge → Proof → List ℕ
welcome_of secret challenge proof = hmac secret (proof.0 ++ challenge.0)

-- ---- answers

abbrev pub refusal_code : HelloRefusal → ℕ
refusal_code AnotherSecret = 1
refusal_code AnotherGroup = 2
refusal_code OtherHosts = 3
refusal_code AnotherLeaseOrSkew = 4
refusal_code AnotherFounding = 5
refusal_code NoSuchActor = 6
refusal_code NumberTaken = 7

-- the refusal with a code, if there is any
abbrev pub IsOfCode : Option HelloRefusal → ℕ → Type 0
IsOfCode (Some refusal) code = refusal_code refusal ≡ code
IsOfCode None code = (refusal : HelloRefusal) → refusal_code refusal ≢ code

-- 0 and the acceptor's proof; or a code
abbrev pub answer_bytes : Answer → List ℕ
answer_bytes (Welcome proof) = 0 ∷ proof.0
answer_bytes (Refused refusal) = refusal_code refusal ∷ []

abbrev pub IsAnswer : Answer → Type 0
IsAnswer (Welcome proof) = IsProof proof
IsAnswer (Refused refusal) = ⊤
