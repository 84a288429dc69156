-- What is kept of letters tells the first copy of each.
use Rattle.std.specs.Prelude.{◌≡◌, ◌≢◌, ◌+◌, ◌<◌, ℕ, List, ◌++◌, map, length, Option, Some, None}
use Rattle.hk_base.specs.declared.letter.Letter.{Letter}
use Rattle.hk_world.specs.World.{numbered}
use Rattle.hk_assemble.specs.declared.sent.Sent.{Sent}
use Rattle.hk_assemble.specs.SentLetters.{Buckets, found, with_letters}

-- the first copy of the letter among those that were sent, beside which the tickets stand
pub record IsCopy (sent : Sent) (letter : Letter) (letters : List Letter) (tickets : List ℕ) : Type 0 where
  pub there : numbered sent.number letters ≡ Some letter
  pub first : (m : ℕ) → m < sent.number → numbered m letters ≢ Some letter
  pub drawn : numbered sent.number tickets ≡ Some sent.ticket

abbrev pub IsTold : Option Sent → Letter → List Letter → List ℕ → Type 0
IsTold None letter letters tickets = (m : ℕ) → numbered m letters ≢ Some letter
IsTold (Some sent) letter letters tickets = IsCopy sent letter letters tickets

-- what is kept tells the first copy of each letter
abbrev pub Knows : Buckets → List Letter → List ℕ → Type 0
Knows sent letters tickets = (letter : Letter) → IsTold (found sent letter) letter letters tickets

-- and tells it still when an entry has sent more
abbrev pub LettersStayKnown : Type 0
LettersStayKnown = (more : List Letter) (sent : Buckets) (letters : List Letter) (tickets : List ℕ) (ticket number : ℕ) → number ≡ length letters + 1 → length tickets ≡ length letters → Knows sent letters tickets →
    Knows (with_letters sent number ticket more) (letters ++ more) (tickets ++ map (λ (l : Letter). ticket) more)
