-- What passes where two processes greet each other, and how it ends.
use Rattle.std.specs.Prelude.{◌≡◌, ◌≢◌, ⊤, ◌⊎◌, ℕ, List, [], ◌++◌, take, Option, Some, None, Result, Ok, Err}
use Rattle.hk_outside.specs.Causes.{Rose}
use Rattle.hk_hello.specs.declared.challenge.Challenge.{Challenge}
use Rattle.hk_hello.specs.declared.hello.Hello.{Hello}
use Rattle.hk_hello.specs.declared.hello.SignedHello.{SignedHello}
use Rattle.hk_hello.specs.declared.mac.Proof.{Proof}
use Rattle.hk_hello.specs.declared.answer.Answer.{Answer}
use Rattle.hk_hello.specs.declared.answer.Answer.TheVariants as answer
use Rattle.hk_hello.specs.declared.refusal.HelloRefusal.{HelloRefusal}
use Rattle.hk_hello.specs.declared.judging.Ours.{Ours}
use Rattle.hk_hello.specs.declared.judging.LookedUp.{LookedUp}
use Rattle.hk_hello.specs.Hellos.{challenge_bytes, signed_bytes, IsSigned, answer_bytes, IsAnswer, proof_of, welcome_of}
use Rattle.hk_hello.specs.Judging.{refusal}
use Rattle.hk_greet.specs.declared.dialler.KnockFault.{KnockFault}
use Rattle.hk_greet.specs.declared.dialler.KnockFault.TheVariants as knock
use Rattle.hk_greet.specs.declared.acceptor.AdmitFault.{AdmitFault}
use Rattle.hk_greet.specs.declared.acceptor.AdmitFault.TheVariants as admit
use Rattle.hk_greet.specs.Standing.{Standing, Passes}
use Rattle.hk_greet.specs.Hearing.{IsChallenge, Hears, challenges, hellos, answers}

-- ---- who dials

-- the hello with the proof that a challenge asks for
abbrev pub signed_by : List ℕ → Challenge → Hello → SignedHello
signed_by secret challenge hello = record { hello = hello; proof = record { 0 = proof_of secret challenge hello } }

-- the proof with which who knows the secret welcomes that hello
abbrev pub right_welcome : List ℕ → Challenge → Hello → List ℕ
right_welcome secret challenge hello = welcome_of secret challenge (record { 0 = proof_of secret challenge hello })

-- A challenge came, the hello was sent by it, and then came this answer: these bytes passed, and no others.
abbrev pub Answered : List ℕ → Hello → Challenge → Answer → Standing → Standing → Type 0
Answered secret hello challenge answer s s' =
    IsChallenge challenge × IsAnswer answer
    × Passes s s' (challenge_bytes challenge ++ answer_bytes answer) (signed_bytes (signed_by secret challenge hello))

-- The acceptor knows the secret and takes the connection. Or it refuses; or it does not know the secret; or there was
-- no answer, or no challenge; or writing failed within the hello; or memory was wanting for it.
abbrev pub Knocks : Result (Unit {0}) KnockFault → List ℕ → Hello → Standing → Standing → Type 0
Knocks (Ok done) secret hello s s' =
    (challenge : Challenge) × (proof : Proof) × (proof.0 ≡ right_welcome secret challenge hello)
    × Answered secret hello challenge (answer.Welcome proof) s s'
Knocks (Err knock.Memory) secret hello s s' =
    (challenge : Challenge) × IsChallenge challenge × Passes s s' (challenge_bytes challenge) []
Knocks (Err knock.WriteFault) secret hello s s' =
    (challenge : Challenge) × IsChallenge challenge × (n : ℕ)
    × Passes s s' (challenge_bytes challenge) (take n (signed_bytes (signed_by secret challenge hello)))
    × Rose s.write_faults s'.write_faults
Knocks (Err (knock.NoChallenge fault)) secret hello s s' = Hears challenges ⊤ (Err fault) s s'
Knocks (Err (knock.NoAnswer fault)) secret hello s s' =
    (challenge : Challenge) × IsChallenge challenge × (asked : Standing)
    × Passes s asked (challenge_bytes challenge) (signed_bytes (signed_by secret challenge hello))
    × Hears answers ⊤ (Err fault) asked s'
Knocks (Err (knock.Refused refusal')) secret hello s s' =
    (challenge : Challenge) × Answered secret hello challenge (answer.Refused refusal') s s'
Knocks (Err knock.Stranger) secret hello s s' =
    (challenge : Challenge) × (proof : Proof) × (proof.0 ≢ right_welcome secret challenge hello)
    × Answered secret hello challenge (answer.Welcome proof) s s'

-- ---- who accepts

-- the answer that a hello gets
abbrev pub answer_by : Option HelloRefusal → List ℕ → Challenge → SignedHello → Answer
answer_by None secret challenge signed = answer.Welcome (record { 0 = welcome_of secret challenge signed.proof })
answer_by (Some refusal') secret challenge signed = answer.Refused refusal'

-- what an acceptor finds wrong with a hello, if anything
abbrev pub refusal_by : Ours → Challenge → SignedHello → LookedUp → Option HelloRefusal
refusal_by ours challenge signed looked = refusal ours (proof_of ours.secret challenge signed.hello) signed looked

module _ (finds : Hello → LookedUp → Type 0) (ours : Ours) (challenge : Challenge) where
  -- A hello came, and this was looked up for it, by which it is refused or not.
  pub record IsJudged (signed : SignedHello) (refused : Option HelloRefusal) : Type 0 where
    pub is : IsSigned signed
    pub looked : LookedUp
    pub found : finds signed.hello looked
    pub judged : refusal_by ours challenge signed looked ≡ refused

  -- what passed where a hello was answered, so many bytes of the answer
  abbrev pub Judges : SignedHello → Option HelloRefusal → List ℕ → Standing → Standing → Type 0
  Judges signed refused said s s' =
      IsJudged signed refused × Passes s s' (signed_bytes signed) (challenge_bytes challenge ++ said)

  -- The hello is taken, and was welcomed. Or it is refused, and was told why; or none came; or writing failed, within
  -- the challenge or within the answer; or memory was wanting, for the challenge or for the answer.
  abbrev pub Admits : Result Hello AdmitFault → Standing → Standing → Type 0
  Admits (Ok hello) s s' =
      (signed : SignedHello) × (signed.hello ≡ hello)
      × Judges signed None (answer_bytes (answer_by None ours.secret challenge signed)) s s'
  Admits (Err (admit.Refused refusal')) s s' =
      (signed : SignedHello) × Judges signed (Some refusal') (answer_bytes (answer.Refused refusal')) s s'
  Admits (Err (admit.NoHello fault)) s s' =
      (asked : Standing) × Passes s asked [] (challenge_bytes challenge) × Hears hellos ⊤ (Err fault) asked s'
  Admits (Err admit.WriteFault) s s' =
      (((n : ℕ) × Passes s s' [] (take n (challenge_bytes challenge)))
      ⊎ ((signed : SignedHello) × (refused : Option HelloRefusal) × (n : ℕ)
      × Judges signed refused (take n (answer_bytes (answer_by refused ours.secret challenge signed))) s s'))
      × Rose s.write_faults s'.write_faults
  Admits (Err admit.Memory) s s' =
      (s' ≡ s)
      ⊎ ((signed : SignedHello) × IsSigned signed × Passes s s' (signed_bytes signed) (challenge_bytes challenge))
