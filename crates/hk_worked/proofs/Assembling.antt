-- The run goes, and where no run goes.
use Rattle.std.proofs.Common.{◌≡◌, ◌≢◌, ◌⊎◌, ◌<◌, ◌≤◌, ℕ, zero, suc, List, [], ◌∷◌, Option, Some, None, Result, Ok, Err, refl, sym, ap, subst, ◌∙◌, inl, inr, arith, slice_get}
use Rattle.hk_base.specs.declared.stamp.NodeId.{NodeId}
use Rattle.hk_base.specs.declared.call.Answer.{Answer}
use Rattle.hk_base.specs.declared.call.Answer.TheVariants.{Found, Missing}
use Rattle.hk_base.specs.declared.call.Op.TheVariants.{Read}
use Rattle.hk_base.specs.declared.letter.Body.{Body}
use Rattle.hk_base.specs.declared.letter.Body.TheVariants.{Inv, Ack, Val}
use Rattle.hk_base.specs.declared.letter.Letter.{Letter}
use Rattle.hk_journal.specs.declared.step_entry.JournalEntry.{JournalEntry}
use Rattle.hk_event.specs.declared.event.Event.{Event}
use Rattle.hk_event.specs.declared.event.Event.TheVariants.{Call, Take}
use Rattle.hk_event.specs.declared.refused.Refused.{Refused}
use Rattle.hk_node.specs.Node.{NodeState}
use Rattle.hk_world.specs.declared.process.Process.{Process}
use Rattle.hk_world.specs.World.{WorldState, process_at, numbered}
use Rattle.hk_world.specs.Start.{start, founding_process}
use Rattle.hk_world.specs.Steps.{Accepted, nothing, world_step}
use Rattle.hk_world.specs.Sound.{IsHeader}
use Rattle.hk_safety.specs.Run.{RunState, world_of, IsRun}
use Rattle.hk_merge.specs.declared.note.Note.{Note}
use Rattle.hk_merge.specs.Merged.{Item, Step, LocalRead, In, Rises, journal_of, JournalList, IsFirst, Goes}
use Rattle.hk_merge.specs.Placed.{MergedAreMerged}
use Rattle.hk_merge.specs.Shows.{IsKeptAt, ReadShows}
use Rattle.hk_assemble.specs.declared.gap.Gap.TheVariants as Gap
use Rattle.hk_assemble.specs.Assembled.{IsSent, IsLeastSent, TakesUnsent, FailsNote, IsAssembled}
use Rattle.hk_worked.specs.Journals.{first_node, second_node, key, content, tag, write, second_call, invalidation, acknowledgement, validation, writes, acknowledges, completes, validates, journals, noted, note}
use Rattle.hk_worked.specs.Merging.{items}
use Rattle.hk_worked.specs.Assembling.{header, events, run, unsent, begun_late, WorkedRun}
use Rattle.hk_worked.proofs.Merging.{rises}

-- ---- the worlds
abbrev pub accepted : WorldState → Result Accepted Refused → Accepted
accepted w (Ok a) = a
accepted w (Err refused) = record { world = w; told = []; shown = nothing }

abbrev pub after : WorldState → Event → Accepted
after w event = accepted w (world_step w event)

abbrev pub asked : Accepted
asked = after (start header) (Call first_node key write)

abbrev pub acknowledged : Accepted
acknowledged = after asked.world (Take 1)

abbrev pub completed : Accepted
completed = after acknowledged.world (Take 2)

abbrev pub validated : Accepted
validated = after completed.world (Take 3)

abbrev pub looked : Accepted
looked = after validated.world (Call second_node key Read)

-- ---- letters
abbrev kind_of_body : Body → ℕ
kind_of_body (Inv k s kind c) = 1
kind_of_body (Ack k s top) = 2
kind_of_body (Val k s) = 3
kind_of_body body = 4

abbrev kind_of : Option Letter → ℕ
kind_of None = 0
kind_of (Some letter) = kind_of_body letter.body

before_one : (m : ℕ) (sent : List Letter) → m < 1 → numbered m sent ≢ Some invalidation
before_one zero sent below same = let e : 0 ≡ 1 = ap kind_of same in absurd (omega (arith, e))
before_one (suc m) sent below same = absurd (omega (arith, below))

before_two : (m : ℕ) → m < 2 → numbered m (invalidation ∷ acknowledgement ∷ []) ≢ Some acknowledgement
before_two zero below same = let e : 0 ≡ 2 = ap kind_of same in absurd (omega (arith, e))
before_two (suc zero) below same = let e : 1 ≡ 2 = ap kind_of same in absurd (omega (arith, e))
before_two (suc (suc m)) below same = absurd (omega (arith, below))

before_three : (m : ℕ) → m < 3 → numbered m (invalidation ∷ acknowledgement ∷ validation ∷ []) ≢ Some validation
before_three zero below same = let e : 0 ≡ 3 = ap kind_of same in absurd (omega (arith, e))
before_three (suc zero) below same = let e : 1 ≡ 3 = ap kind_of same in absurd (omega (arith, e))
before_three (suc (suc zero)) below same = let e : 2 ≡ 3 = ap kind_of same in absurd (omega (arith, e))
before_three (suc (suc (suc m))) below same = absurd (omega (arith, below))

-- ---- the run
abbrev entries : List Item
entries = Step first_node writes ∷ Step second_node acknowledges ∷ Step first_node completes ∷ Step second_node validates ∷ []

abbrev steps : List Event
steps = Call first_node key write ∷ Take 1 ∷ Take 2 ∷ Take 3 ∷ []

-- whatever comes behind the entries goes on from the world that they leave
go_on : (behind : List Item) (more : List Event) (last : WorldState) → Goes validated.world (1 ∷ 2 ∷ 3 ∷ []) behind more last →
    Goes (start header) [] (Step first_node writes ∷ Step second_node acknowledges ∷ Step first_node completes ∷ Step second_node validates ∷ behind)
    (Call first_node key write ∷ Take 1 ∷ Take 2 ∷ Take 3 ∷ more) last
go_on behind more last goes = (
  asked,
  refl,
  (refl, refl, refl),
  (
    acknowledged,
    refl,
    ((1, refl, record { there = refl; first = λ m below. before_one m _ below; lower = omega arith }, refl), refl, refl),
    (
      completed,
      refl,
      ((2, refl, record { there = refl; first = before_two; lower = omega arith }, refl), refl, refl),
      (validated, refl, ((3, refl, record { there = refl; first = before_three; lower = omega arith }, refl), refl, refl), goes),
    ),
  ),
)

goes_whole : (own : ℕ) (answer : Answer) → Goes (start header) [] (Step first_node writes ∷ Step second_node acknowledges ∷ Step first_node completes ∷ Step second_node validates ∷ LocalRead 0 (noted own answer) ∷ []) events (world_of run)
goes_whole own answer = go_on (LocalRead 0 (noted own answer) ∷ []) (Call second_node key Read ∷ []) (world_of run) (looked, refl, refl, refl)

one_note : (a : Note) (b : Note) → Some a ≡ Some b → a ≡ b
one_note a b same = ap or same
  where
    or : Option Note → Note
    or None = a
    or (Some n) = n

told : (listed : ℕ) (n : Note) → slice_get (note ∷ []) listed ≡ Some n → ReadShows (start header) items events listed n.answer
told zero n is = subst (λ (x : Note). ReadShows (start header) items events 0 x.answer) (one_note note n is)
    (asked, refl, (acknowledged, refl, (completed, refl, (validated, refl, (looked, refl, inl (refl, refl))))))
told (suc listed) n is = absurd cc

pub comes : MergedAreMerged → IsAssembled (Ok run) header journals (note ∷ [])
comes merge = (items, merge journals (note ∷ []) rises, record { same = refl; goes = goes_whole 5 (Found content tag); told = told })

pub is_run : IsRun run
is_run = record {
  header = record { some = omega arith; few = omega arith; managers = omega arith; lease = omega arith; skew = omega arith };
  accepted = (tt, asked, refl, (tt, acknowledged, refl, (tt, completed, refl, (tt, validated, refl, (tt, looked, refl, tt)))));
}

-- without the note
abbrev pub unread : RunState
unread = record { header = header; events = Call first_node key write ∷ Take 1 ∷ Take 2 ∷ Take 3 ∷ [] }

pub comes_unread : MergedAreMerged → IsAssembled (Ok unread) header journals []
comes_unread merge = (entries, merge journals [] rises, record { same = refl; goes = go_on [] [] validated.world refl; told = λ listed note is. absurd cc })

-- ---- letters that nobody sent, or sent too late
abbrev entry_or : JournalEntry → Item → JournalEntry
entry_or other (Step node entry) = entry
entry_or other (LocalRead listed n) = other

one_letter : (x y : Letter) → In (y ∷ []) x → x ≡ y
one_letter x y (inl same) = same
one_letter x y (inr never) = absurd never

-- the entry of an item with that letter is not this one, whose letter is an acknowledgement
not_acknowledged : (node : NodeId) (entry : JournalEntry) → Step node entry ≡ Step second_node acknowledges → In entry.letters invalidation → ⊥
not_acknowledged node entry same is =
    let e : entry ≡ acknowledges = ap (entry_or acknowledges) same in
    let l : invalidation ≡ acknowledgement = one_letter invalidation acknowledgement (subst (λ (x : JournalEntry). In x.letters invalidation) e is) in
    let k : 1 ≡ 2 = ap (λ (x : Letter). kind_of_body x.body) l in omega (arith, k)

rises_unsent : (n : NodeId) → Rises (journal_of unsent n)
rises_unsent n = at n.0
  where
    at : (k : ℕ) → Rises (journal_of unsent (record { 0 = k }))
    at zero = tt
    at (suc zero) = (tt, tt)
    at (suc (suc k)) = tt

never_sent : (ticket : ℕ) → IsSent (Step second_node acknowledges ∷ []) invalidation ticket → ⊥
never_sent ticket (node, entry, inl same, is, at) = not_acknowledged node entry same is
never_sent ticket (node, entry, inr never, is, at) = never

pub no_letter : MergedAreMerged → IsAssembled (Err (Gap.Letter 2 None)) header unsent []
no_letter merge = (
  Step second_node acknowledges ∷ [],
  merge unsent [] rises_unsent,
  record {
    front = [];
    node = second_node;
    entry = acknowledges;
    back = [];
    split = refl;
    events = [];
    world = start header;
    goes = refl;
    fails = (invalidation, (refl, λ ticket is. absurd (never_sent ticket is)), refl, never_sent);
  },
)

rises_late : (n : NodeId) → Rises (journal_of begun_late n)
rises_late n = at n.0
  where
    at : (k : ℕ) → Rises (journal_of begun_late (record { 0 = k }))
    at zero = (tt, tt)
    at (suc zero) = (tt, tt)
    at (suc (suc k)) = tt

abbrev late : JournalEntry
late = record writes { ticket = 3 }

abbrev late_items : List Item
late_items = Step second_node acknowledges ∷ Step first_node late ∷ []

sent_late : (ticket : ℕ) → IsSent late_items invalidation ticket → ticket ≡ 3
sent_late ticket (node, entry, inl same, is, at) = absurd (not_acknowledged node entry same is)
sent_late ticket (node, entry, inr (inl same), is, at) =
    let e : entry ≡ late = ap (entry_or late) same in
    at ∙ ap (λ (x : JournalEntry). x.ticket) e
sent_late ticket (node, entry, inr (inr never), is, at) = absurd never

pub late_letter : MergedAreMerged → IsAssembled (Err (Gap.Letter 2 (Some 3))) header begun_late []
late_letter merge = (
  late_items,
  merge begun_late [] rises_late,
  record {
    front = [];
    node = second_node;
    entry = acknowledges;
    back = Step first_node late ∷ [];
    split = refl;
    events = [];
    world = start header;
    goes = refl;
    fails = (
      invalidation,
      (refl, λ ticket is. let e : ticket ≡ 3 = sent_late ticket is in omega (arith, e)),
      refl,
      ((first_node, late, inr (inl refl), inl refl, refl), λ ticket is. let e : ticket ≡ 3 = sent_late ticket is in omega (arith, e)),
    );
  },
)

-- ---- a note that was told something else
abbrev node_or : NodeState → Option Process → NodeState
node_or other None = other
node_or other (Some process) = process.node

abbrev reader : NodeState
reader = node_or (founding_process header second_node).node (process_at second_node validated.world.processes)

abbrev is_found : Option Answer → ℕ
is_found (Some (Found c t)) = 1
is_found other = 0

abbrev wrong_items : List Item
wrong_items = Step first_node writes ∷ Step second_node acknowledges ∷ Step first_node completes ∷ Step second_node validates ∷ LocalRead 0 (noted 5 Missing) ∷ []

kept : IsKeptAt header wrong_items (noted 5 Missing) (Found content tag)
kept = record {
  front = Step first_node writes ∷ Step second_node acknowledges ∷ Step first_node completes ∷ [];
  entry = validates;
  back = LocalRead 0 (noted 5 Missing) ∷ [];
  split = refl;
  snapshot = refl;
  events = steps;
  world = validated.world;
  goes = go_on [] [] validated.world refl;
  node = reader;
  runs = refl;
  is = refl;
}

pub other_answer : MergedAreMerged → IsAssembled (Err (Gap.Note second_call 4 Missing (Some (Found content tag)))) header journals (noted 5 Missing ∷ [])
other_answer merge = (
  wrong_items,
  merge journals (noted 5 Missing ∷ []) rises,
  (
    events,
    world_of run,
    goes_whole 5 Missing,
    0,
    noted 5 Missing,
    refl,
    refl,
    refl,
    record {
      lists = refl;
      kept_is = kept;
      other = λ same. let e : 1 ≡ 0 = ap is_found same in omega (arith, e);
      first = λ i earlier below is. absurd (omega (arith, below));
    },
  ),
)

pub worked_run : MergedAreMerged → WorkedRun
worked_run merge = record { comes = comes merge; no_letter = no_letter merge; late_letter = late_letter merge; other_answer = other_answer merge }
