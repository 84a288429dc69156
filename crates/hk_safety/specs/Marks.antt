-- The events of a history by their numbers.
use Rattle.hk_history.specs.declared.event.Event.{Event as HistoryEvent}
use Rattle.hk_history.specs.declared.event.Event.TheVariants as Event
use Rattle.hk_safety.specs.declared.marked.Mark.{Mark}
use Rattle.hk_safety.specs.declared.marked.Mark.TheVariants as Mark

-- that a call began, or was answered
abbrev pub mark_of : HistoryEvent → Mark
mark_of (Event.Call c op) = Mark.Call c
mark_of (Event.Reply c answer) = Mark.Reply c
