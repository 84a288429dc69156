-- The calls of a run are put one after the other.
use Rattle.std.proofs.Common.{◌≡◌, ℕ, ◌+◌, List, ◌++◌, drop, Option, Some, None, sym, ap, ◌∙◌, append_assoc}
use Rattle.hk_event.specs.declared.event.Event.{Event}
use Rattle.hk_world.specs.World.{numbered}
use Rattle.hk_storm.specs.declared.calls.StormCall.{StormCall}
use Rattle.hk_storm.specs.Calls.{called_at, calls_in}
use Rattle.hk_storm.proofs.Lists.{here, ended}

left_is : (events : List Event) (n : ℕ) (o : Option Event) → numbered (n + 1) events ≡ o → calls_in (drop n events) ≡ called_at o ++ calls_in (drop (n + 1) events)
left_is events n None e = ap calls_in (ended n events e)
left_is events n (Some event) e = ap calls_in (here n events event e)

pub calls_more : (before after whole : List StormCall) (events : List Event) (n : ℕ) (o : Option Event) → o ≡ numbered (n + 1) events → before ++ calls_in (drop n events) ≡ whole → after ≡ before ++ called_at o → after ++ calls_in (drop (n + 1) events) ≡ whole
calls_more before after whole events n o e is put =
    ap (λ (l : List StormCall). l ++ calls_in (drop (n + 1) events)) put
    ∙ (append_assoc before (called_at o) (calls_in (drop (n + 1) events))
    ∙ (ap (λ (l : List StormCall). before ++ l) (sym (left_is events n o (sym e))) ∙ is))
