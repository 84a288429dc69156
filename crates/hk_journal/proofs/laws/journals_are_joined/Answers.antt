use Rattle.hk_journal.proofs.Joined.{replays_are_joined, replays_stay_replays, shown_is_joined, entries_give}
use Rattle.hk_journal.proofs.laws.journals_are_joined.Goals as goal

pub returns-clause-replay : goal.returns-clause-replay
returns-clause-replay c = replays_are_joined

pub returns-clause-replays : goal.returns-clause-replays
returns-clause-replays c = replays_stay_replays

pub returns-clause-shown : goal.returns-clause-shown
returns-clause-shown c = shown_is_joined

pub returns-clause-entry : goal.returns-clause-entry
returns-clause-entry c = entries_give
