-- The steps of a greeting, each of which is a function of its own: what they write, and what they come to.
use Rattle.std.specs.Prelude.{◌≡◌, ◌≢◌, ℕ, List, [], take, Some, None, Result, Ok, Err}
use Rattle.hk_outside.specs.Causes.{Rose}
use Rattle.hk_hello.specs.declared.challenge.Challenge.{Challenge}
use Rattle.hk_hello.specs.declared.hello.Hello.{Hello}
use Rattle.hk_hello.specs.declared.hello.SignedHello.{SignedHello}
use Rattle.hk_hello.specs.declared.mac.Proof.{Proof}
use Rattle.hk_hello.specs.declared.answer.Answer.{Answer}
use Rattle.hk_hello.specs.declared.answer.Answer.TheVariants as answer
use Rattle.hk_hello.specs.declared.judging.Ours.{Ours}
use Rattle.hk_hello.specs.declared.judging.LookedUp.{LookedUp}
use Rattle.hk_hello.specs.Hellos.{signed_bytes, answer_bytes, proof_of}
use Rattle.hk_greet.specs.declared.dialler.KnockFault.{KnockFault}
use Rattle.hk_greet.specs.declared.dialler.KnockFault.TheVariants as knock
use Rattle.hk_greet.specs.declared.acceptor.AdmitFault.{AdmitFault}
use Rattle.hk_greet.specs.declared.acceptor.AdmitFault.TheVariants as admit
use Rattle.hk_greet.specs.Standing.{Standing, Passes}
use Rattle.hk_greet.specs.Greeting.{signed_by, answer_by, refusal_by}

-- The hello was written, and its proof is this; or a front of it was; or there was no memory for it.
abbrev pub SendsHello : Result Proof KnockFault → List ℕ → Challenge → Hello → Standing → Standing → Type 0
SendsHello (Ok proof) secret challenge hello s s' =
    (proof ≡ record { 0 = proof_of secret challenge hello })
    × Passes s s' [] (signed_bytes (signed_by secret challenge hello))
SendsHello (Err knock.Memory) secret challenge hello s s' = s' ≡ s
SendsHello (Err knock.WriteFault) secret challenge hello s s' =
    (n : ℕ) × Passes s s' [] (take n (signed_bytes (signed_by secret challenge hello)))
    × Rose s.write_faults s'.write_faults
SendsHello (Err fault) secret challenge hello s s' = ⊥

-- what an answer comes to, where this would be the acceptor's proof
abbrev pub IsTaken : Result (Unit {0}) KnockFault → Answer → List ℕ → Type 0
IsTaken (Ok done) (answer.Welcome proof) right = proof.0 ≡ right
IsTaken (Err knock.Stranger) (answer.Welcome proof) right = proof.0 ≢ right
IsTaken (Err (knock.Refused told)) (answer.Refused refusal') right = told ≡ refusal'
IsTaken result answer right = ⊥

-- a text was written, or a front of it; or there was no memory for it
abbrev pub Sends : Result (Unit {0}) AdmitFault → List ℕ → Standing → Standing → Type 0
Sends (Ok done) text s s' = Passes s s' [] text
Sends (Err admit.Memory) text s s' = s' ≡ s
Sends (Err admit.WriteFault) text s s' = (n : ℕ) × Passes s s' [] (take n text) × Rose s.write_faults s'.write_faults
Sends (Err fault) text s s' = ⊥

-- the hello was answered as it is judged
abbrev pub AnswersHello : Result (Unit {0}) AdmitFault → Challenge → Ours → SignedHello → LookedUp → Standing → Standing → Type 0
AnswersHello (Ok done) challenge ours signed looked s s' =
    (refusal_by ours challenge signed looked ≡ None)
    × Passes s s' [] (answer_bytes (answer_by None ours.secret challenge signed))
AnswersHello (Err (admit.Refused told)) challenge ours signed looked s s' =
    (refusal_by ours challenge signed looked ≡ Some told) × Passes s s' [] (answer_bytes (answer.Refused told))
AnswersHello (Err admit.WriteFault) challenge ours signed looked s s' =
    (n : ℕ)
    × Passes s s' [] (take n (answer_bytes (answer_by (refusal_by ours challenge signed looked) ours.secret challenge signed)))
    × Rose s.write_faults s'.write_faults
AnswersHello (Err admit.Memory) challenge ours signed looked s s' = s' ≡ s
AnswersHello (Err (admit.NoHello fault)) challenge ours signed looked s s' = ⊥
