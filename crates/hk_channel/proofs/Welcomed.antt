-- Connections that were dialled, and whose acceptor took a hello.
use Rattle.std.proofs.Common.{◌≡◌, ℕ, List, Option, None, Some, Ok, true, refl, subst, sym}
use Rattle.hk_base.specs.declared.letter.Actor.{Actor}
use Rattle.hk_hello.specs.declared.hello.Hello.{Hello}
use Rattle.hk_hello.specs.declared.hello.Party.{Party}
use Rattle.hk_hello.specs.declared.hello.Party.TheVariants as parties
use Rattle.hk_hello.specs.declared.hello.Purpose.{Purpose}
use Rattle.hk_hello.specs.declared.hello.Purpose.TheVariants.{Letters, Requests}
use Rattle.hk_inside.specs.declared.inquiry.Inquiry.{Inquiry}
use Rattle.hk_inside.specs.declared.response.Response.{Response}
use Rattle.hk_greet.specs.Standing.{Standing}
use Rattle.hk_greet.specs.Greeting.{Knocks}
use Rattle.hk_greet.specs.Exchange.{Asks}
use Rattle.hk_shared_state.specs.declared.identity.Identity.{Identity}
use Rattle.hk_channel.specs.Greeted.{Says, SaysForLetters, SaysForRequests, IsFresh, IsGreeted}
use Rattle.hk_channel.specs.Sending.{Sent, HasWhole}
use Rattle.hk_channel.specs.Asking.{IsAnswered}

pub says_letters : (i : Identity) (purpose : Purpose) (party : Party) (from to : Actor) (hello : Hello) → purpose ≡ Letters → party ≡ parties.Actor from
    → Says i purpose party to hello → SaysForLetters i from to hello
says_letters i purpose party from to hello is_purpose is_party said =
    subst (λ p. Says i p (parties.Actor from) to hello) is_purpose (subst (λ f. Says i purpose f to hello) is_party said)

pub says_requests : (i : Identity) (purpose : Purpose) (party : Party) (to : Actor) (hello : Hello) → purpose ≡ Requests → Says i purpose party to hello
    → SaysForRequests i to hello
says_requests i purpose party to hello is_purpose said = (party, subst (λ p. Says i p party to hello) is_purpose said)

pub welcomed : (secret : List ℕ) (IsSaid : Hello → Type 0) (hello : Hello) (dialled s : Standing) → IsFresh dialled → IsSaid hello
    → Knocks (Ok tt) secret hello dialled s → IsGreeted secret IsSaid s
welcomed secret IsSaid hello dialled s fresh said knocked = record {
  dialled = dialled;
  fresh = fresh;
  hello = hello;
  said = said;
  knocked = knocked;
}

-- letters on a new connection
pub first_letters : (secret : List ℕ) (IsSaid : Hello → Type 0) (frames : List ℕ) (before : Option Standing) (s s' : Standing) → before ≡ None
    → IsGreeted secret IsSaid s → Sent true frames s.held s'.held → HasWhole secret IsSaid frames before (Some s')
first_letters secret IsSaid frames before s s' none greeted sent =
    subst (λ b. HasWhole secret IsSaid frames b (Some s')) (sym none) (record { conn = s; greeted = greeted; whole = sent })

-- an answer on a new connection
pub first_answer : (secret : List ℕ) (IsSaid : Hello → Type 0) (inquiry : Inquiry) (response : Response) (before : Option Standing) (s s' : Standing)
    → before ≡ None → IsGreeted secret IsSaid s → Asks (Ok response) inquiry s s' → IsAnswered secret IsSaid inquiry response before (Some s')
first_answer secret IsSaid inquiry response before s s' none greeted asks =
    subst (λ b. IsAnswered secret IsSaid inquiry response b (Some s')) (sym none) (record { conn = s; ready = greeted; conn' = s'; kept = refl; asked = asks })
