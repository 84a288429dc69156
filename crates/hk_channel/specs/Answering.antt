-- What passes where requests are answered, and how that ends.
use Rattle.std.specs.Prelude.{◌≡◌, ℕ, zero, suc, Result, Ok, Err, Some, None}
use Rattle.hk_inside.specs.declared.inquiry.Inquiry.{Inquiry}
use Rattle.hk_inside.specs.declared.response.Response.{Response}
use Rattle.hk_greet.specs.Standing.{Standing}
use Rattle.hk_greet.specs.Exchange.{HearsNext, Responds}
use Rattle.hk_channel.specs.declared.serving.RequestsEnd.{RequestsEnd}
use Rattle.hk_channel.specs.declared.serving.RequestsEnd.TheVariants as ends

-- A request came, and its answer was written. Or no request came, or none was heard; or one came, and nothing was
-- written; or a front of its answer was, or nothing, as its fault tells.
abbrev pub Answers : Result (Unit {0}) RequestsEnd → Standing → Standing → Type 0
Answers (Ok done) s s' =
    (inquiry : Inquiry) × (response : Response) × (asked : Standing)
    × HearsNext (Ok (Some inquiry)) s asked × Responds (Ok tt) response asked s'
Answers (Err ends.Over) s s' = HearsNext (Ok None) s s'
Answers (Err (ends.Unheard fault)) s s' = HearsNext (Err fault) s s'
Answers (Err ends.Unanswered) s s' = (inquiry : Inquiry) × HearsNext (Ok (Some inquiry)) s s'
Answers (Err (ends.Unsent fault)) s s' =
    (inquiry : Inquiry) × (response : Response) × (asked : Standing)
    × HearsNext (Ok (Some inquiry)) s asked × Responds (Err fault) response asked s'

-- so many requests came, each of which was answered before the next one was taken
abbrev pub AreAnswered : ℕ → Standing → Standing → Type 0
AreAnswered zero s s' = s' ≡ s
AreAnswered (suc n) s s' = (between : Standing) × AreAnswered n s between × Answers (Ok tt) between s'

-- behind these it ends
pub record EndsBehind (ended : RequestsEnd) (s s' : Standing) : Type 0 where
  pub count : ℕ
  pub last : Standing
  pub answered : AreAnswered count s last
  pub ends : Answers (Err ended) last s'
