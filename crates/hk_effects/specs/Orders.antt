-- The order that is printed of a key after a run of a world, and that it is legal.
use Rattle.std.specs.Prelude.{ℕ, List, [], Option, Some, None}
use Rattle.hk_base.specs.declared.view.View.{View}
use Rattle.hk_base.specs.View.{member_numbers}
use Rattle.hk_history.specs.declared.event.Event.{Event as Item}
use Rattle.hk_history.specs.declared.event.Entry.{Entry}
use Rattle.hk_history.specs.Legal.{Legal}
use Rattle.hk_register.specs.Printed.{events_of, entries, printed}
use Rattle.hk_event.specs.declared.event.Header.{Header}
use Rattle.hk_event.specs.declared.event.Event.{Event}
use Rattle.hk_world.specs.World.{numbered}
use Rattle.hk_effects.specs.Projection.{Trace, project}
use Rattle.hk_world.specs.Sound.{IsHeader}
use Rattle.hk_effects.specs.Runs.{start_trace, Follows}

-- the members of the agreed view of an epoch
abbrev pub members_or_none : Option View → List ℕ
members_or_none None = []
members_or_none (Some v) = member_numbers v.members

abbrev pub family : List View → ℕ → List ℕ
family views epoch = members_or_none (numbered epoch views)

-- the calls on the key and their replies, the first one first
abbrev pub history_of : Trace → List Item
history_of t = events_of t.history

-- the complete updates by stamp, each answered call that changed nothing behind the update that it found
abbrev pub order_of : List ℕ → Trace → List Entry
order_of key t = entries (printed (family t.world.views) (project key t))

-- After every run of a world the order of each key is legal for the key's history.
abbrev pub OrdersAreLegal : Type 0
OrdersAreLegal = (h : Header) → IsHeader h → (key : List ℕ) (events : List Event) (last : Trace) → Follows key (start_trace h) events last →
    Legal (history_of last) (order_of key last)
