-- Two journals, one behind the other, and the rows that a step changes.
use Rattle.std.proofs.Common.{◌≡◌, ℕ, List, [], ◌∷◌, ◌++◌, map, Bool, true, false, cond, if◌then◌else◌, refl, sym, ap, ◌∙◌, append_assoc}
use Rattle.std.specs.List.{filter}
use Rattle.hk_key.specs.declared.row.Row.{Row}
use Rattle.hk_node.specs.declared.report.PriorRow.{PriorRow}
use Rattle.hk_node.specs.Rows.{Rows}
use Rattle.hk_node.specs.Report.{is_changed, prior_at, changed_rows}
use Rattle.hk_node.specs.Node.{NodeState}
use Rattle.hk_node.proofs.Exact.{reports_are_exact}
use Rattle.hk_journal.specs.declared.step_entry.JournalEntry.{JournalEntry}
use Rattle.hk_journal.specs.Journal.{after, replay, AreSteps, AreRising, IsBefore, shown_by, changed, published}
use Rattle.hk_journal.specs.Laws.{ReplaysAreJoined, ReplaysStayReplays, ShownIsJoined, EntriesGive, ChangedAreReported, ChangedAreAll}

pub replays_are_joined : ReplaysAreJoined
replays_are_joined base [] back = refl
replays_are_joined base (entry ∷ front) back = replays_are_joined (after base entry) front back

steps_joined : (base : NodeState) (front back : List JournalEntry) → AreSteps base front → AreSteps (replay base front) back → AreSteps base (front ++ back)
steps_joined base [] back f b = b
steps_joined base (entry ∷ front) back f b = (f.0, steps_joined (after base entry) front back f.1 b)

rising_joined : (front back : List JournalEntry) → AreRising front → AreRising back → IsBefore front back → AreRising (front ++ back)
rising_joined [] back f b seam = b
rising_joined (entry ∷ []) back f b seam = (seam, b)
rising_joined (entry ∷ next ∷ front) back f b seam = (f.0, rising_joined (next ∷ front) back f.1 b seam)

pub replays_stay_replays : ReplaysStayReplays
replays_stay_replays base front back f b seam = record { rising = rising_joined front back f.rising b.rising seam; steps = steps_joined base front back f.steps b.steps }

pub shown_is_joined : ShownIsJoined
shown_is_joined chosen base [] back = refl
shown_is_joined chosen base (entry ∷ front) back =
    let first = filter (λ s. chosen s.key) (shown_by base entry) in
    ap (λ l. first ++ l) (shown_is_joined chosen (after base entry) front back)
    ∙ sym (append_assoc first (published chosen (after base entry) front) (published chosen (replay (after base entry) front) back))

pub entries_give : EntriesGive
entries_give node ticket event out is = record { rising = (tt, tt); steps = (record { letters = is.letters; replies = is.replies }, tt) }

keys_by : (old : Rows) (r : List ℕ × Row) (rest : List (List ℕ × Row)) (prior : List PriorRow) (is : Bool) → map (λ q. q.0) rest ≡ map (λ f. f.key) prior
    → map (λ q. q.0) (cond is (r ∷ rest) rest) ≡ map (λ f. f.key) ((if is then prior_at old r.0 ∷ [] else []) ++ prior)
keys_by old r rest prior true e = ap (λ l. r.0 ∷ l) e
keys_by old r rest prior false e = e

pub changed_are_reported : ChangedAreReported
changed_are_reported old [] = refl
changed_are_reported old (r ∷ new) = keys_by old r (changed old new) (changed_rows old new) (is_changed old r) (changed_are_reported old new)

pub changed_are_all : ChangedAreAll
changed_are_all node event key is_node is_event none = (reports_are_exact node event is_node is_event).others key none
