-- The kinds of events.
use Rattle.std.specs.Prelude.{⊤}
use Rattle.hk_event.specs.declared.event.Event.{Event}
use Rattle.hk_event.specs.declared.event.Event.TheVariants.{Call, Take, Tick, TickAll, Crash, Resend, Replay, Copy, Start, Agree, Install, Lease, AskLease, Propose, Activate}

abbrev pub IsCall : Event → Type 0
IsCall (Call id key op) = ⊤
IsCall event = ⊥

abbrev pub IsTake : Event → Type 0
IsTake (Take letter) = ⊤
IsTake event = ⊥

abbrev pub IsTick : Event → Type 0
IsTick (Tick actor to) = ⊤
IsTick event = ⊥

abbrev pub IsTickAll : Event → Type 0
IsTickAll (TickAll to) = ⊤
IsTickAll event = ⊥

abbrev pub IsCrash : Event → Type 0
IsCrash (Crash actor) = ⊤
IsCrash event = ⊥

abbrev pub IsResend : Event → Type 0
IsResend (Resend id key) = ⊤
IsResend event = ⊥

abbrev pub IsReplay : Event → Type 0
IsReplay (Replay id key) = ⊤
IsReplay event = ⊥

abbrev pub IsCopy : Event → Type 0
IsCopy (Copy id from room) = ⊤
IsCopy event = ⊥

abbrev pub IsStart : Event → Type 0
IsStart (Start id) = ⊤
IsStart event = ⊥

abbrev pub IsAgree : Event → Type 0
IsAgree (Agree change) = ⊤
IsAgree event = ⊥

abbrev pub IsInstall : Event → Type 0
IsInstall (Install id epoch) = ⊤
IsInstall event = ⊥

abbrev pub IsLease : Event → Type 0
IsLease (Lease id end) = ⊤
IsLease event = ⊥

abbrev pub IsAskLease : Event → Type 0
IsAskLease (AskLease id manager) = ⊤
IsAskLease event = ⊥

abbrev pub IsPropose : Event → Type 0
IsPropose (Propose manager base change) = ⊤
IsPropose event = ⊥

abbrev pub IsActivate : Event → Type 0
IsActivate (Activate manager) = ⊤
IsActivate event = ⊥
