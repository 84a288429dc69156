-- What passes where a manager is asked.
use Rattle.std.specs.Prelude.{◌≡◌, ℕ, List, Ok, Option, None, Some}
use Rattle.hk_hello.specs.declared.hello.Hello.{Hello}
use Rattle.hk_inside.specs.declared.inquiry.Inquiry.{Inquiry}
use Rattle.hk_inside.specs.declared.response.Response.{Response}
use Rattle.hk_greet.specs.Standing.{Standing}
use Rattle.hk_greet.specs.Exchange.{Asks}
use Rattle.hk_channel.specs.Greeted.{IsReady}

-- The inquiry went over the connection that there was, or over one that was greeted, and the answer came on it: the next
-- response that did. That connection is kept.
pub record IsAnswered (secret : List ℕ) (IsSaid : Hello → Type 0) (inquiry : Inquiry) (response : Response) (before after : Option Standing) : Type 0 where
  pub conn : Standing
  pub ready : IsReady secret IsSaid before conn
  pub conn' : Standing
  pub kept : after ≡ Some conn'
  pub asked : Asks (Ok response) inquiry conn conn'

-- Without an answer no connection is kept: one that comes too late is never taken for that of another inquiry.
abbrev pub IsAsked : List ℕ → (Hello → Type 0) → Inquiry → Option Response → Option Standing → Option Standing → Type 0
IsAsked secret IsSaid inquiry (Some response) before after = IsAnswered secret IsSaid inquiry response before after
IsAsked secret IsSaid inquiry None before after = after ≡ None
