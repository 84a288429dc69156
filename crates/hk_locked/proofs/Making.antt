-- What is told of a shard as it stands under its lock, and of its steps.
use Rattle.std.proofs.Common.{◌≡◌, ℕ, ◌<◌, List, [], Option, Result, Ok, Err, Bool, true, false, refl, sym, ap, ◌∙◌, subst}
use Rattle.std.specs.Prelude.{not, IsTrue, IfOk, IsSome}
use mathlib.Core.List.{IsPrefix}
use Rattle.hk_base.specs.declared.call.CallNo.{CallNo}
use Rattle.hk_base.specs.declared.call.Op.{Op}
use Rattle.hk_base.specs.declared.call.Answer.{Answer}
use Rattle.hk_base.specs.declared.letter.Letter.{Letter}
use Rattle.hk_node.specs.declared.event.NodeEvent.{NodeEvent}
use Rattle.hk_node.specs.Node.{NodeState}
use Rattle.hk_node.specs.Steps.{node_step}
use Rattle.hk_shard.specs.Shard.{ShardState, IsApplied}
use Rattle.hk_journal.specs.declared.step_entry.JournalEntry.{JournalEntry}
use Rattle.hk_snap.specs.Leases.{Lease}
use Rattle.hk_due.specs.declared.due.Due.{Due}
use Rattle.hk_due.specs.Due.{due_of, due_of_key}
use Rattle.std.proofs.lemmas.Bool.{false≢true}
use Rattle.hk_node.specs.Rows.{Rows}
use Rattle.hk_node.specs.Index.{is_open_at}
use Rattle.hk_due.specs.Keys.{OpenState, AreOpen, Follows, since_of}
use Rattle.hk_told.specs.declared.ask.Ask.{Ask}
use Rattle.hk_locked.specs.Places.{NodeNames}
use Rattle.hk_node.specs.Calls.{lease_end}
use Rattle.hk_locked.specs.Locked.{LockedState, ReaderState, IsLocked}
use Rattle.hk_locked.specs.Steps.{Meets, MeetsLease, end_at, is_short}
use Rattle.hk_locked.specs.Makes.{Stands, Makes, MakesCall, CallsAt, IsQuiet, due_in}

-- a step, as contracts see the shard before it
pub makes : (s now : LockedState) (t : ShardState) (ticket : ℕ) (event : NodeEvent) (asks : List (CallNo × Ask)) (keys : OpenState) (letters : List Letter)
    → s ≡ now → s.shard.last < ticket → IsApplied s.shard ticket event t → letters ≡ (node_step s.shard.part event).letters → Follows ticket s.shard.part.rows t.part.rows s.open_keys keys
    → Makes ticket event letters now (record { node = s.node; number = s.number; skew = s.skew; shard = t; asks = asks; open_keys = keys })
makes s now t ticket event asks keys letters same up applied given follow =
    subst (λ (x : LockedState). Makes ticket event letters x (record { node = s.node; number = s.number; skew = s.skew; shard = t; asks = asks; open_keys = keys })) same (record {
      node = refl;
      number = refl;
      skew = refl;
      drawn = up;
      applied = applied;
      given = given;
      followed = follow;
    })

-- a call between the loads of a reader
pub calls_at : (places : List NodeNames) (s t : LockedState) (old met leased new : ReaderState) (ticket : ℕ) (call : CallNo) (key : List ℕ) (op : Op) (letters : List Letter) (answer : Option Answer)
    → Stands places s → Stands places t → MakesCall ticket call key op letters answer s t → Meets s key old met → MeetsLease s met leased → Meets t key leased new
    → CallsAt places s t old new ticket call key op letters answer
calls_at places s t old met leased new ticket call key op letters answer stood stands made m l n = record {
  stood = stood;
  stands = stands;
  node = m.node;
  number = m.number;
  made = made;
  before = subst (IsPrefix (end_at key old).seen) m.seen m.grown;
  after = n.seen;
  end = ap (λ (x : Lease). x.end) n.lease ∙ l.end;
  clock = ap (λ (x : Lease). x.now) n.lease ∙ l.now;
}

pub not_false : (b : Bool) → not b ≡ false → IsTrue b
not_false true e = refl
not_false false e = absurd (false≢true (sym e))

-- where no key is kept and none is missing, no row is open
none_are_open : (keys : OpenState) (rows : Rows) → AreOpen keys rows → keys.since ≡ [] → keys.whole ≡ true → (key : List ℕ) → is_open_at rows key ≡ false
none_are_open keys rows are none whole key = at_row (is_open_at rows key) refl
  where
    at_row : (b : Bool) → is_open_at rows key ≡ b → b ≡ false
    at_row false is = refl
    at_row true is = absurd (false≢true (subst (λ (k : OpenState). IsSome (since_of key k)) same (are.all_open whole key is)))
      where
        same : keys ≡ record { since = []; whole = keys.whole }
        same = ap (λ l. record { since = l; whole = keys.whole }) none

pub is_quiet : (places : List NodeNames) (s now : LockedState) → s ≡ now → IsLocked places s → s.open_keys.since ≡ [] → s.open_keys.whole ≡ true → IsQuiet now
is_quiet places s now same kept none whole = subst IsQuiet same (none_are_open s.open_keys s.shard.part.rows kept.are_open none whole)

-- of what may have found no memory
pub is_due : {E : Type 0} (s now : LockedState) (part : NodeState) (after : Option (List ℕ)) (before : ℕ) (result : Result (Option Due) E) → s ≡ now → part ≡ s.shard.part
    → IfOk result (λ due. due ≡ due_of after before s.open_keys part.rows) → IfOk result (λ due. due ≡ due_in after before now)
is_due s now part after before (Ok due) same at found =
    found ∙ (ap (λ (n : NodeState). due_of after before s.open_keys n.rows) at ∙ ap (λ (x : LockedState). due_in after before x) same)
is_due s now part after before (Err e) same at found = tt

pub is_owed : {E : Type 0} (s now : LockedState) (part : NodeState) (key : List ℕ) (result : Result (Option Due) E) → s ≡ now → part ≡ s.shard.part
    → IfOk result (λ due. due ≡ due_of_key part.rows key) → IfOk result (λ due. due ≡ due_of_key now.shard.part.rows key)
is_owed s now part key (Ok due) same at found =
    found ∙ (ap (λ (n : NodeState). due_of_key n.rows key) at ∙ ap (λ (x : LockedState). due_of_key x.shard.part.rows key) same)
is_owed s now part key (Err e) same at found = tt

pub is_journal : {E : Type 0} (s now : LockedState) (journal : List JournalEntry) (result : Result (List JournalEntry) E) → s ≡ now → journal ≡ s.shard.journal
    → IfOk result (λ same. same ≡ journal) → IfOk result (λ same. same ≡ now.shard.journal)
is_journal s now journal (Ok copy) same at is = is ∙ (at ∙ ap (λ (x : LockedState). x.shard.journal) same)
is_journal s now journal (Err e) same at is = tt

-- how much is left of a lease, as a reader saw it
pub short_met : (length : ℕ) (s : LockedState) (old new : ReaderState) (short : Bool) → MeetsLease s old new → short ≡ is_short length old.skew (lease_end s.shard.part) s.shard.part.clock
    → short ≡ is_short length new.skew new.lease.end new.lease.now
short_met length s old new short met is =
    is ∙ (sym (ap (λ e. is_short length old.skew e s.shard.part.clock) met.end) ∙ (sym (ap (is_short length old.skew new.lease.end) met.now)
    ∙ sym (ap (λ k. is_short length k new.lease.end new.lease.now) met.skew)))
