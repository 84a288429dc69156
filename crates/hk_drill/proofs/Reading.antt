-- What a line that is read tells of its event or header.
use Rattle.std.proofs.Common.{◌≡◌, ℕ, List, Option, Some, None, refl}
use Rattle.hk_base.specs.declared.letter.Actor.{Actor}
use Rattle.hk_base.specs.declared.letter.Actor.TheVariants.{Node, Manager}
use Rattle.hk_base.specs.Range.{IsActor}
use Rattle.hk_event.specs.declared.event.Header.{Header}
use Rattle.hk_event.specs.declared.event.Event.{Event}
use Rattle.hk_event.specs.declared.event.Event.TheVariants.{Call, Take, Tick, TickAll, Crash, Resend, Replay, Copy, Start, Agree, Install, Lease, AskLease, Propose, Activate}
use Rattle.hk_world.specs.Sound.{IsHeader, IsEvent}
use Rattle.hk_script.specs.Grammar.{IsActorNo, IsWritten, IsHeaderWritten, IsEventLine, IsHeaderLine}
use Rattle.hk_script.specs.Lines.{event_of, header_of}
use Rattle.hk_script.proofs.Exact.{event_found, header_found}

actor_ok : (actor : Actor) → IsActorNo actor → IsActor actor
actor_ok (Node id) is = tt
actor_ok (Manager m) is = is

pub event_ok : (event : Event) → IsWritten event → IsEvent event
event_ok (Call id key op) is = tt
event_ok (Take letter) is = tt
event_ok (Tick actor to) is = (actor_ok actor is.0, is.1)
event_ok (TickAll to) is = is
event_ok (Crash actor) is = actor_ok actor is
event_ok (Resend id key) is = tt
event_ok (Replay id key) is = tt
event_ok (Copy id from room) is = is.2
event_ok (Start id) is = tt
event_ok (Agree change) is = tt
event_ok (Install id epoch) is = tt
event_ok (Lease id end) is = is.1
event_ok (AskLease id manager) is = is.1
event_ok (Propose manager base change) is = is.0
event_ok (Activate manager) is = is

header_ok : (h : Header) → IsHeaderWritten h → IsHeader h
header_ok h is = record { some = is.some; few = is.few; managers = is.managers; lease = is.lease; skew = is.skew }

-- an event that a line is read as may happen
pub read_event_ok : (line : List ℕ) (event : Event) → event_of line ≡ Some event → IsEvent event
read_event_ok line event e = event_ok event (event_found line event e).written

pub read_header_ok : (line : List ℕ) (h : Header) → header_of line ≡ Some h → IsHeader h
read_header_ok line h e = header_ok h (header_found line h e).written

-- a line that is no event's is read as none
none_unless : {X : Type 0} (o : Option X) → ((x : X) → o ≡ Some x → ⊥) → o ≡ None
none_unless None no_value = refl
none_unless (Some x) no_value = absurd (no_value x refl)

pub event_refused : (line : List ℕ) → ((event : Event) → IsEventLine line event → ⊥) → event_of line ≡ None
event_refused line no_event = none_unless (event_of line) (λ event e. no_event event (event_found line event e))

pub header_refused : (line : List ℕ) → ((h : Header) → IsHeaderLine line h → ⊥) → header_of line ≡ None
header_refused line no_header = none_unless (header_of line) (λ h e. no_header h (header_found line h e))
