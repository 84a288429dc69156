-- What is heard from a desk that is asked again while it is busy.
use Rattle.std.specs.Prelude.{◌≡◌, ℕ, zero, suc, List, [], ◌∷◌, ◌++◌, Bool, true, false, Option, None, Some, ⊤, if◌then◌else◌}
use Rattle.hk_base.specs.declared.call.Op.{Op}
use Rattle.hk_base.specs.declared.call.Answer.TheVariants as answer
use Rattle.hk_outside.specs.declared.desk.Asked.{Asked}
use Rattle.hk_outside.specs.declared.desk.Asked.TheVariants.{Replied, NoMemory}
use Rattle.hk_outside.specs.declared.desk.DeskReply.{DeskReply}
use Rattle.hk_outside.specs.declared.desk.DeskReply.TheVariants.{Told}

-- what a desk told at an ask; nothing, where it found no memory
abbrev pub told_of : Asked → Option DeskReply
told_of (Replied key op reply) = Some reply
told_of NoMemory = None

-- the ask that was told this
abbrev pub ask_of : List ℕ → Op → Option DeskReply → Asked
ask_of key op None = NoMemory
ask_of key op (Some reply) = Replied key op reply

abbrev pub is_busy : Option DeskReply → Bool
is_busy (Some (Told (answer.Busy why))) = true
is_busy told = false

-- What was told last, the asks that it took, and what was told behind them; no `last` where too little was told.
pub record Hearing : Type 0 where
  pub last : Option (Option DeskReply)
  pub asks : List Asked
  pub later : List (Option DeskReply)

abbrev pub with_ask : Asked → Hearing → Hearing
with_ask a h = record h { asks = a ∷ h.asks }

-- An operation on a key is asked once, and while it is busy up to so many times again.
unfoldable pub heard : ℕ → List ℕ → Op → List (Option DeskReply) → Hearing
heard more key op [] = record { last = None; asks = []; later = [] }
heard zero key op (t ∷ told) = record { last = Some t; asks = ask_of key op t ∷ []; later = told }
heard (suc more) key op (t ∷ told) =
    if is_busy t then with_ask (ask_of key op t) (heard more key op told)
    else record { last = Some t; asks = ask_of key op t ∷ []; later = told }

-- The list of asks grows by these, where the desk tells it. A desk that tells the list told it before; it may stop.
abbrev pub AsksMore : Option (List Asked) → Option (List Asked) → List Asked → Type 0
AsksMore before None made = ⊤
AsksMore None (Some now) made = ⊥
AsksMore (Some before) (Some now) made = now ≡ before ++ made
