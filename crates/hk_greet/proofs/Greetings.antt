-- The steps of a greeting, one behind the other.
use Rattle.std.proofs.Common.{◌≡◌, ℕ, List, [], ◌++◌, take, Option, Some, None, Result, Ok, Err, refl, sym, ap, subst, ◌∙◌, inr}
use Rattle.std.specs.Prelude.{⊤}
use Rattle.hk_hello.specs.declared.challenge.Challenge.{Challenge}
use Rattle.hk_hello.specs.declared.hello.Hello.{Hello}
use Rattle.hk_hello.specs.declared.hello.SignedHello.{SignedHello}
use Rattle.hk_hello.specs.declared.mac.Proof.{Proof}
use Rattle.hk_hello.specs.declared.answer.Answer.{Answer}
use Rattle.hk_hello.specs.declared.answer.Answer.TheVariants as answer
use Rattle.hk_hello.specs.declared.refusal.HelloRefusal.{HelloRefusal}
use Rattle.hk_hello.specs.declared.judging.Ours.{Ours}
use Rattle.hk_hello.specs.declared.judging.LookedUp.{LookedUp}
use Rattle.hk_hello.specs.Hellos.{challenge_bytes, signed_bytes, answer_bytes, IsAnswer, welcome_of}
use Rattle.hk_greet.specs.declared.fault.HearFault.{HearFault}
use Rattle.hk_greet.specs.declared.dialler.KnockFault.{KnockFault}
use Rattle.hk_greet.specs.declared.dialler.KnockFault.TheVariants as knock
use Rattle.hk_greet.specs.declared.acceptor.AdmitFault.{AdmitFault}
use Rattle.hk_greet.specs.declared.acceptor.AdmitFault.TheVariants as admit
use Rattle.hk_greet.specs.Standing.{Standing, Passes}
use Rattle.hk_greet.specs.Hearing.{IsChallenge, Hears, answers, hellos}
use Rattle.hk_greet.specs.Greeting.{signed_by, right_welcome, Knocks, answer_by, refusal_by, IsJudged, Admits}
use Rattle.hk_greet.specs.Steps.{SendsHello, IsTaken, AnswersHello}
use Rattle.hk_greet.proofs.Passing.{then_heard, then_said, rose_on}

-- ---- who dials

module _ (secret : List ℕ) (hello : Hello) (challenge : Challenge) (a b : Standing) (is : IsChallenge challenge) (asked : Passes a b (challenge_bytes challenge) []) where
  pub unsent : (fault : KnockFault) (c : Standing) → SendsHello (Err fault) secret challenge hello b c → Knocks (Err fault) secret hello a c
  unsent knock.Memory c sends = (challenge, is, subst (λ (s : Standing). Passes a s (challenge_bytes challenge) []) (sym sends) asked)
  unsent knock.WriteFault c sends = (challenge, is, sends.0, then_said a b c (challenge_bytes challenge) [] (take sends.0 (signed_bytes (signed_by secret challenge hello))) asked sends.1, rose_on a.write_faults b.write_faults c.write_faults asked.write_later sends.2)
  unsent (knock.NoChallenge fault) c sends = absurd sends
  unsent (knock.NoAnswer fault) c sends = absurd sends
  unsent (knock.Refused refusal') c sends = absurd sends
  unsent knock.Stranger c sends = absurd sends

  module _ (proof : Proof) (m c : Standing) (sends : SendsHello (Ok proof) secret challenge hello b m) where
    sent : Passes a m (challenge_bytes challenge) (signed_bytes (signed_by secret challenge hello))
    sent = then_said a b m (challenge_bytes challenge) [] (signed_bytes (signed_by secret challenge hello)) asked sends.1

    pub unanswered : (fault : HearFault) → Hears answers ⊤ (Err fault) m c → Knocks (Err (knock.NoAnswer fault)) secret hello a c
    unanswered fault hears = (challenge, is, m, sent, hears)

    pub answered : (result : Result (Unit {0}) KnockFault) (told : Answer) (right : Proof) → IsAnswer told → Passes m c (answer_bytes told) [] → right.0 ≡ welcome_of secret challenge proof → IsTaken result told right.0 → Knocks result secret hello a c
    answered result told right fits heard same taken = at result told fits taken (then_heard a m c (challenge_bytes challenge) (answer_bytes told) (signed_bytes (signed_by secret challenge hello)) sent heard)
      where
        rightly : right.0 ≡ right_welcome secret challenge hello
        rightly = same ∙ ap (welcome_of secret challenge) sends.0

        at : (result : Result (Unit {0}) KnockFault) (told : Answer) → IsAnswer told → IsTaken result told right.0 → Passes a c (challenge_bytes challenge ++ answer_bytes told) (signed_bytes (signed_by secret challenge hello)) → Knocks result secret hello a c
        at (Ok done) (answer.Welcome other) fits taken passes = (challenge, other, taken ∙ rightly, (is, fits, passes))
        at (Ok done) (answer.Refused refusal') fits taken passes = absurd taken
        at (Err knock.Stranger) (answer.Welcome other) fits taken passes = (challenge, other, λ e. taken (e ∙ sym rightly), (is, fits, passes))
        at (Err knock.Stranger) (answer.Refused refusal') fits taken passes = absurd taken
        at (Err (knock.Refused refused)) (answer.Refused refusal') fits taken passes = subst (λ (r : HelloRefusal). Knocks (Err (knock.Refused r)) secret hello a c) (sym taken) (challenge, (is, fits, passes))
        at (Err (knock.Refused refused)) (answer.Welcome other) fits taken passes = absurd taken
        at (Err knock.Memory) (answer.Welcome other) fits taken passes = absurd taken
        at (Err knock.Memory) (answer.Refused refusal') fits taken passes = absurd taken
        at (Err knock.WriteFault) (answer.Welcome other) fits taken passes = absurd taken
        at (Err knock.WriteFault) (answer.Refused refusal') fits taken passes = absurd taken
        at (Err (knock.NoChallenge fault)) (answer.Welcome other) fits taken passes = absurd taken
        at (Err (knock.NoChallenge fault)) (answer.Refused refusal') fits taken passes = absurd taken
        at (Err (knock.NoAnswer fault)) (answer.Welcome other) fits taken passes = absurd taken
        at (Err (knock.NoAnswer fault)) (answer.Refused refusal') fits taken passes = absurd taken

-- ---- who accepts

module _ (finds : Hello → LookedUp → Type 0) (ours : Ours) (challenge : Challenge) (a b m : Standing) (signed : SignedHello) (looked : LookedUp) (asked : Passes a b [] (challenge_bytes challenge)) (heard : Hears hellos ⊤ (Ok signed) b m) (found : finds signed.hello looked) where
  came : Passes a m (signed_bytes signed) (challenge_bytes challenge)
  came = then_heard a b m [] (signed_bytes signed) (challenge_bytes challenge) asked heard.1

  abbrev judged : (refused : Option HelloRefusal) → refusal_by ours challenge signed looked ≡ refused → IsJudged finds ours challenge signed refused
  judged refused e = record { is = heard.0; looked = looked; found = found; judged = e }

  pub refused : (fault : AdmitFault) (c : Standing) → AnswersHello (Err fault) challenge ours signed looked m c → Admits finds ours challenge (Err fault) a c
  refused admit.Memory c answers = inr (signed, heard.0, subst (λ (s : Standing). Passes a s (signed_bytes signed) (challenge_bytes challenge)) (sym answers) came)
  refused admit.WriteFault c answers = (inr (signed, refusal_by ours challenge signed looked, answers.0, (judged (refusal_by ours challenge signed looked) refl, then_said a m c (signed_bytes signed) (challenge_bytes challenge) (take answers.0 (answer_bytes (answer_by (refusal_by ours challenge signed looked) ours.secret challenge signed))) came answers.1)), rose_on a.write_faults m.write_faults c.write_faults came.write_later answers.2)
  refused (admit.NoHello fault) c answers = absurd answers
  refused (admit.Refused told) c answers = (signed, (judged (Some told) answers.0, then_said a m c (signed_bytes signed) (challenge_bytes challenge) (answer_bytes (answer.Refused told)) came answers.1))

  pub admitted : (c : Standing) → AnswersHello (Ok tt) challenge ours signed looked m c → Admits finds ours challenge (Ok signed.hello) a c
  admitted c answers = (signed, refl, (judged None answers.0, then_said a m c (signed_bytes signed) (challenge_bytes challenge) (answer_bytes (answer_by None ours.secret challenge signed)) came answers.1))
