-- The event of the run that an entry is, as it is found.
use Rattle.std.specs.Prelude.{◌≡◌, ◌<◌, ⊤, ℕ, List, [], ◌∷◌, min, Bool, false, Option, Some, None, Result, Ok, Err, nat_lt, if◌then◌else◌}
use Rattle.std.specs.List.{list_any}
use Rattle.hk_base.specs.declared.stamp.NodeId.{NodeId}
use Rattle.hk_base.specs.declared.letter.Letter.{Letter}
use Rattle.hk_base.specs.declared.letter.Actor.TheVariants.{Node}
use Rattle.hk_node.specs.declared.event.NodeEvent.{NodeEvent}
use Rattle.hk_node.specs.declared.event.NodeEvent.TheVariants as NodeEvent
use Rattle.hk_journal.specs.declared.step_entry.JournalEntry.{JournalEntry}
use Rattle.hk_event.specs.declared.event.Event.{Event}
use Rattle.hk_event.specs.declared.event.Event.TheVariants.{Call, Take, Resend, Replay}
use Rattle.hk_world.specs.World.{WorldState}
use Rattle.hk_merge.specs.Merged.{Item, Step, LocalRead}
use Rattle.hk_merge.specs.Same.{same_letter}
use Rattle.hk_assemble.specs.declared.gap.Gap.{Gap}
use Rattle.hk_assemble.specs.declared.gap.Gap.TheVariants as Gap
use Rattle.hk_assemble.specs.declared.sent.Sent.{Sent}
use Rattle.hk_assemble.specs.SentLetters.{Buckets, found}
use Rattle.hk_assemble.specs.Assembled.{FailsAt}

-- ---- the least ticket at which a letter was sent
abbrev pub is_copy : Letter → Letter → Bool
is_copy letter copy = same_letter copy letter

abbrev pub ticket_of : Letter → Item → Option ℕ
ticket_of letter (Step node entry) = if list_any (is_copy letter) entry.letters then Some entry.ticket else None
ticket_of letter (LocalRead listed note) = None

abbrev pub lower_of : Option ℕ → Option ℕ → Option ℕ
lower_of (Some a) (Some b) = Some (min a b)
lower_of (Some a) None = Some a
lower_of None b = b

abbrev pub least_from : Letter → Option ℕ → List Item → Option ℕ
least_from letter least [] = least
least_from letter least (item ∷ items) = least_from letter (lower_of least (ticket_of letter item)) items

abbrev pub is_below : Option ℕ → ℕ → Bool
is_below None ticket = false
is_below (Some sent) ticket = nat_lt sent ticket

-- ---- what is told of an entry
-- why it fails, whatever the world is; want of memory tells nothing
abbrev pub IsMarred : Gap → List Item → NodeId → JournalEntry → Type 0
IsMarred Gap.Memory items node entry = ⊤
IsMarred (Gap.Letter taken sent) items node entry = (world : WorldState) (tickets : List ℕ) → FailsAt items world tickets node entry (Gap.Letter taken sent)
IsMarred (Gap.Entry at ticket given) items node entry = (world : WorldState) (tickets : List ℕ) → FailsAt items world tickets node entry (Gap.Entry at ticket given)
IsMarred (Gap.Note call ticket told kept) items node entry = ⊥

-- the event that it is, by what is kept of letters
abbrev pub IsEventBy : Buckets → NodeId → ℕ → NodeEvent → Event → Type 0
IsEventBy sent node ticket (NodeEvent.Call call key op) event = event ≡ Call node key op
IsEventBy sent node ticket (NodeEvent.Receive letter) event = (first : Sent) × (found sent letter ≡ Some first) × (first.ticket < ticket) × (event ≡ Take first.number) × (letter.to ≡ Node node)
IsEventBy sent node ticket (NodeEvent.Resend key) event = event ≡ Resend node key
IsEventBy sent node ticket (NodeEvent.Replay key) event = event ≡ Replay node key
IsEventBy sent node ticket other event = ⊥

abbrev pub IsEventFound : Result Event Gap → List Item → Buckets → NodeId → JournalEntry → Type 0
IsEventFound (Ok event) items sent node entry = IsEventBy sent node entry.ticket entry.event event
IsEventFound (Err gap) items sent node entry = IsMarred gap items node entry
