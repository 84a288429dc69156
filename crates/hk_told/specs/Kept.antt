-- Asks by the numbers of their calls, and how one of them stands.
use Rattle.std.specs.Prelude.{◌≡◌, ◌≢◌, ℕ, List, Option, None, Some, Bool, false, is_some, not, ◌==◌, if◌then◌else◌}
use Rattle.std.specs.Option.{IsSomeAnd, option_or}
use Rattle.hk_base.specs.declared.call.CallNo.{CallNo}
use Rattle.hk_base.specs.declared.call.Answer.{Answer}
use Rattle.hk_by_call.specs.Kept.{kept_for, AreOthersSame as AreAllOthersSame}
use Rattle.hk_told.specs.declared.ask.Ask.{Ask}
use Rattle.hk_told.specs.declared.asks.AskState.{AskState}
use Rattle.hk_told.specs.declared.asks.AskState.TheVariants.{Gone, Waits, Told}
use Rattle.hk_told.specs.Held.{Asks}

-- the asks that are kept
abbrev pub asks_in : List (CallNo × Ask) → Asks
asks_in kept call = kept_for kept call

-- the ask once an answer came: what it was told first stays
abbrev pub told_ask : Answer → Ask → Ask
told_ask answer ask = record ask { told = option_or ask.told (Some answer) }

-- the asks of all other calls are as they were
abbrev pub AreOthersSame : CallNo → Asks → Asks → Type 0
AreOthersSame call asks new = AreAllOthersSame call asks new

-- nobody waits for it any more
abbrev pub unwanted_ask : Ask → Ask
unwanted_ask ask = record ask { wanted = false }

-- the ask is kept, and was begun under the ticket
abbrev pub is_of : ℕ → Option Ask → Bool
is_of ticket None = false
is_of ticket (Some ask) = ask.ticket == ticket

-- the ask is kept, and was told something
abbrev pub is_told : Option Ask → Bool
is_told None = false
is_told (Some ask) = is_some ask.told

-- the ask is kept, and nobody waits for it
abbrev pub is_left : Option Ask → Bool
is_left None = false
is_left (Some ask) = not ask.wanted

-- what is left of an ask that is given up: nothing where it was told something, and else that nobody waits for it
abbrev pub given_up : Option Ask → Option Ask
given_up None = None
given_up (Some ask) = if is_some ask.told then None else Some (unwanted_ask ask)

-- what is made of an ask when an answer comes: it is told, or dropped where nobody waits for it
abbrev pub answered : Answer → Option Ask → Option Ask
answered answer None = None
answered answer (Some ask) = if ask.wanted then Some (told_ask answer ask) else None

abbrev pub look_at : Option Answer → AskState
look_at None = Waits
look_at (Some answer) = Told answer

-- How the ask of a call and a ticket stands: there is none, or it was told this, or nothing yet.
abbrev pub LooksAs : ℕ → Option Ask → AskState → Type 0
LooksAs ticket asked Gone = (ask : Ask) → asked ≡ Some ask → ask.ticket ≢ ticket
LooksAs ticket asked Waits = IsSomeAnd asked (λ ask. (ask.ticket ≡ ticket) × (ask.told ≡ None))
LooksAs ticket asked (Told answer) = IsSomeAnd asked (λ ask. (ask.ticket ≡ ticket) × (ask.told ≡ Some answer))

-- What a look leaves: one that was told something is taken out, and nothing else changes.
abbrev pub TakesOut : CallNo → List (CallNo × Ask) → List (CallNo × Ask) → AskState → Type 0
TakesOut call old new Gone = new ≡ old
TakesOut call old new Waits = new ≡ old
TakesOut call old new (Told answer) = (asks_in new call ≡ None) × AreOthersSame call (asks_in old) (asks_in new)
