-- What holds by the lease is judged by a reading behind all that was seen.
use Rattle.std.proofs.Common.{◌≡◌, ◌≢◌, inl, inr, ℕ, ◌+◌, ◌-◌, ◌<◌, ◌≤◌, List, ◌++◌, length, slice_index_or, slice_set, Bool, true, false, Option, Some, None, is_some, refl, sym, ap, ◌∙◌, subst, arith}
use Rattle.std.proofs.lemmas.Bool.{false≢true}
use Rattle.std.proofs.lemmas.List.{get_or-set_same, get_or_default}
use Rattle.std.specs.Option.{IfSome}
use mathlib.Core.List.{IsPrefix}
use Rattle.hk_base.specs.declared.time.TheConstants.{MAX_TIME}
use Rattle.hk_base.specs.declared.call.CallNo.{CallNo}
use Rattle.hk_base.specs.declared.call.Op.{Op}
use Rattle.hk_base.specs.declared.call.Op.TheVariants.{Read}
use Rattle.hk_base.specs.declared.call.Answer.{Answer}
use Rattle.hk_base.specs.declared.call.Answer.TheVariants as word
use Rattle.hk_base.specs.declared.call.Why.{Why}
use Rattle.hk_base.specs.declared.call.Why.TheVariants as why_of
use Rattle.hk_outside.specs.Desk.{answers}
use Rattle.hk_outside.specs.declared.desk.DeskReply.{DeskReply}
use Rattle.hk_outside.specs.declared.desk.DeskReply.TheVariants.{Told, Unknown, Spent}
use Rattle.hk_key.specs.declared.row.Row.{Row}
use Rattle.hk_snap.specs.declared.rule.Publication.{Publication}
use Rattle.hk_snap.specs.declared.local.Local.{Local}
use Rattle.hk_snap.specs.Ends.{Reader, End, at}
use Rattle.hk_snap.specs.Snapshots.{cell_of}
use Rattle.hk_snap.proofs.Prefixes.{prefix_trans}
use Rattle.hk_shard.specs.Reading.{answer_of}
use Rattle.hk_told.specs.Lists.{row_in}
use Rattle.hk_told.specs.Steps.{AtOnce}
use Rattle.hk_told.specs.Shown.{Shown, TellsShown}
use Rattle.hk_locked.specs.Locked.{ReaderState}
use Rattle.hk_locked.specs.Steps.{end_at, IsGrown, Reads, SeesLease, Ticks}
use Rattle.hk_shard.specs.Shard.{shard_of}
use Rattle.hk_worker.specs.Asking.{PostState, AreReadersBelow, no_reader, reader_of, Tells}
use Rattle.hk_worker.specs.Reading.{IsBehind, TellsRead, TellsBehind, TellsByClock, holds_by_lease, is_out_of_lease}
use Rattle.hk_worker.proofs.Freely.{at_once_shown, reads_suit, grown_ticked}
use Rattle.hk_worker.proofs.Local.{local_is_shown}

-- ---- at another time by which the lease runs
abbrev pub NeedsNone : Answer → Type 0
NeedsNone answer = (end now : ℕ) → answer ≢ word.Busy (why_of.Lease end now)

module _ (end now until later skew : ℕ) (runs : later + skew ≤ until) where
  pub still_at_once : (row : Row) (op : Op) (answer : Answer) → NeedsNone answer → AtOnce end now skew row op answer → AtOnce until later skew row op answer
  still_at_once row op (word.Busy (why_of.Lease e n)) apart a = absurd (apart e n refl)
  still_at_once row op (word.Busy (why_of.Row state stamp)) apart a = (runs, a.1, a.2, a.3)
  still_at_once row op (word.Exhausted stamp) apart a = (runs, a.1, a.2, a.3, a.4)
  still_at_once row op (word.Aborted stamp) apart a = a
  still_at_once row op word.Stored apart a = (runs, a.1, a.2, a.3)
  still_at_once row op (word.Number value) apart a = (runs, a.1, a.2, a.3)
  still_at_once row op word.Deleted apart a = (runs, a.1, a.2, a.3)
  still_at_once row op (word.Found content tag) apart a = (runs, a.1, a.2, a.3)
  still_at_once row op word.Missing apart a = (runs, a.1, a.2, a.3)
  still_at_once row op word.Exists apart a = (runs, a.1, a.2, a.3)
  still_at_once row op word.NotFound apart a = (runs, a.1, a.2, a.3)
  still_at_once row op word.NotNumber apart a = (runs, a.1, a.2, a.3)
  still_at_once row op word.NotStored apart a = (runs, a.1, a.2, a.3)

  still_shown : (old grown : List Publication) (call : CallNo) (key : List ℕ) (op : Op) (answer : Answer) → NeedsNone answer → Shown old grown call key op end now skew answer
      → Shown old grown call key op until later skew answer
  still_shown old grown call key op word.Stored apart s = s
  still_shown old grown call key op (word.Number value) apart s = s
  still_shown old grown call key op word.Deleted apart s = s
  still_shown old grown call key op (word.Aborted stamp) apart s = s
  still_shown old grown call key op (word.Found content tag) apart s = still_at_once (row_in key (old ++ grown)) op (word.Found content tag) apart s
  still_shown old grown call key op word.Missing apart s = still_at_once (row_in key (old ++ grown)) op word.Missing apart s
  still_shown old grown call key op word.Exists apart s = still_at_once (row_in key (old ++ grown)) op word.Exists apart s
  still_shown old grown call key op word.NotFound apart s = still_at_once (row_in key (old ++ grown)) op word.NotFound apart s
  still_shown old grown call key op word.NotNumber apart s = still_at_once (row_in key (old ++ grown)) op word.NotNumber apart s
  still_shown old grown call key op word.NotStored apart s = still_at_once (row_in key (old ++ grown)) op word.NotStored apart s
  still_shown old grown call key op (word.Busy why) apart s = still_at_once (row_in key (old ++ grown)) op (word.Busy why) apart s
  still_shown old grown call key op (word.Exhausted stamp) apart s = still_at_once (row_in key (old ++ grown)) op (word.Exhausted stamp) apart s

holding_needs_none : (answer : Answer) → holds_by_lease answer ≡ true → NeedsNone answer
holding_needs_none answer holds end now is = false≢true (sym (ap holds_by_lease is) ∙ holds)

pub not_out_of_lease : (answer : Answer) → is_out_of_lease answer ≡ false → NeedsNone answer
not_out_of_lease answer within end now is = false≢true (sym within ∙ ap is_out_of_lease is)

-- ---- behind one load more of the lease cell
module _ (was_read : ReaderState → ℕ → Type 0) (seen new : ReaderState) (looked : SeesLease seen new) where
  pub same_end : (key : List ℕ) → end_at key new ≡ end_at key seen
  same_end key = ap (λ (c : Reader). at c.ends (cell_of key)) looked.cells

  pub grown_looked : (key : List ℕ) → IsGrown key seen new
  grown_looked key = grown_ticked key 0 seen new (record { node = looked.node; number = looked.number; skew = looked.skew; cells = looked.cells; looked = looked.looked; clock = omega arith })

  -- ---- what a step told
  module _ (call : CallNo) (key : List ℕ) (op : Op) (old : ReaderState) (answer : Answer) (tells : Tells call key op old seen (Told answer)) where
    -- the same lists show another answer, or this one by another lease
    shows : (now : ℕ) (given : Answer) → Shown (end_at key old).seen tells.0.0 call key op new.lease.end now new.skew given
        → TellsShown call key op new.lease.end now new.skew (end_at key old) (end_at key new) given
    shows now given shown = (
      tells.0.0,
      tells.0.1,
      ap (λ (e : End). e.seen) (same_end key) ∙ tells.0.2,
      ap (λ (e : End). e.loads) (same_end key) ∙ tells.0.3,
      tells.0.4,
      shown,
    )

    later : old.lease.loads < new.lease.loads
    later = let p = tells.1 in let q = looked.looked.loads in omega (arith, p, q)

    pub refused : (why : Why) → (now : ℕ) × IsBehind was_read new now × (why ≡ why_of.Lease new.lease.end now) × (new.lease.end < now + new.skew)
        → TellsByClock was_read call key op old new (Told (word.Busy why))
    refused why over = subst (λ (w : Why). TellsByClock was_read call key op old new (Told (word.Busy w))) (sym over.2)
        (inr (over.0, over.1, shows over.0 (word.Busy (why_of.Lease new.lease.end over.0)) (refl, refl, over.3), later))

    pub given_behind : holds_by_lease answer ≡ true → (now : ℕ) × IsBehind was_read new now × (now + new.skew ≤ new.lease.end)
        → TellsByClock was_read call key op old new (Told answer)
    given_behind holds runs = inr (
      runs.0,
      runs.1,
      shows runs.0 answer
          (still_shown seen.lease.end seen.lease.now new.lease.end runs.0 new.skew runs.2 (end_at key old).seen tells.0.0 call key op answer (holding_needs_none answer holds)
          (subst (λ s. Shown (end_at key old).seen tells.0.0 call key op seen.lease.end seen.lease.now s answer) (sym looked.skew) tells.0.5)),
      later,
    )

  -- ---- what a shard showed
  module _ (key : List ℕ) (old mid : ReaderState) (local : Local) (grown : IsGrown key old mid) (reads : Reads key 0 mid seen local) where
    longer : IsPrefix (end_at key old).seen (end_at key seen).seen
    longer = prefix_trans (end_at key old).seen (end_at key mid).seen (end_at key seen).seen grown.seen reads.seen

    tells_read : (now : ℕ) (answer : Answer) → IsBehind was_read new now → answers Read answer ≡ true → AtOnce new.lease.end now new.skew (row_in key (end_at key seen).seen) Read answer
        → TellsRead was_read key old new answer
    tells_read now answer behind suits at_once = (
      now,
      behind,
      (λ call. (
        longer.0,
        (end_at key seen).loads - (end_at key old).loads,
        ap (λ (e : End). e.seen) (same_end key) ∙ sym longer.1,
        ap (λ (e : End). e.loads) (same_end key) ∙ (let p = grown.loads in let q = reads.loads in omega (arith, p, q)),
        (let p = grown.loads in let q = reads.loads in omega (arith, p, q)),
        at_once_shown (end_at key old).seen longer.0 call key new.lease.end now new.skew answer suits
            (subst (λ (s : List Publication). AtOnce new.lease.end now new.skew (row_in key s) Read answer) (sym longer.1) at_once),
      )),
      (let p = grown.lease.loads in let q = reads.lease.loads in let r = looked.looked.loads in omega (arith, p, q, r)),
    )

    pub read_refused : (why : Why) → (now : ℕ) × IsBehind was_read new now × (why ≡ why_of.Lease new.lease.end now) × (new.lease.end < now + new.skew)
        → TellsRead was_read key old new (word.Busy why)
    read_refused why over = subst (λ (w : Why). TellsRead was_read key old new (word.Busy w)) (sym over.2)
        (tells_read over.0 (word.Busy (why_of.Lease new.lease.end over.0)) over.1 refl (refl, refl, over.3))

    pub read_behind : (answer : Answer) → answer_of local ≡ Some answer → NeedsNone answer → (now : ℕ) × IsBehind was_read new now × (now + new.skew ≤ new.lease.end)
        → TellsRead was_read key old new answer
    read_behind answer is apart runs = tells_read runs.0 answer runs.1 (reads_suit local answer is)
        (still_at_once seen.lease.end 0 new.lease.end runs.0 new.skew runs.2 (row_in key (end_at key seen).seen) Read answer apart
        (subst (λ s. AtOnce seen.lease.end 0 s (row_in key (end_at key seen).seen) Read answer) (sym looked.skew)
        (local_is_shown (end_at key seen).seen key seen.lease.end 0 seen.skew answer (subst (λ (x : Local). answer_of x ≡ Some answer) reads.told_by is))))

-- what needs no lease is told as the step tells it
pub told_as_it_is : (was_read : ReaderState → ℕ → Type 0) (call : CallNo) (key : List ℕ) (op : Op) (old new : ReaderState) (answer : Answer) → holds_by_lease answer ≡ false
    → Tells call key op old new (Told answer) → TellsByClock was_read call key op old new (Told answer)
told_as_it_is was_read call key op old new answer none tells = inl (none, tells)

-- what a look tells before any time has passed
pub reads_at_first : (key : List ℕ) (mid new : ReaderState) (local : Local) → (now : ℕ) × (now ≡ 0) × Reads key now mid new local → Reads key 0 mid new local
reads_at_first key mid new local reads = subst (λ n. Reads key n mid new local) reads.1 reads.2

-- ---- at a post
module _ (was_read : ReaderState → ℕ → Type 0) (key : List ℕ) (old now : PostState) (i : ℕ) (before r : ReaderState) (answer given : Answer) (same : old ≡ now) (is : i ≡ shard_of key) (short : i < 8)
    (are : AreReadersBelow 8 old.node old.readers) (value : before ≡ slice_index_or old.readers i before) where
  below : i < length old.readers
  below = let long = are.long in omega (arith, short, long)

  stood : before ≡ reader_of key now
  stood = subst (λ (p : PostState). before ≡ reader_of key p) same
      (subst (λ j. before ≡ slice_index_or old.readers j no_reader) is (value ∙ get_or_default old.readers i before no_reader below))

  stands : r ≡ reader_of key (record old { readers = slice_set old.readers i r })
  stands = subst (λ j. r ≡ slice_index_or (slice_set old.readers i r) j no_reader) is (sym (get_or-set_same old.readers i r no_reader below))

  pub given_at_post : ((call : CallNo) (k : List ℕ) (op : Op) (first : ReaderState) → Tells call k op first before (Told answer) → TellsByClock was_read call k op first r (Told given))
      → (call : CallNo) (op : Op) (first : ReaderState) → Tells call key op first (reader_of key now) (Told answer)
      → TellsByClock was_read call key op first (reader_of key (record old { readers = slice_set old.readers i r })) (Told given)
  given_at_post gives call op first tells = subst (λ (x : ReaderState). TellsByClock was_read call key op first x (Told given)) stands
      (gives call key op first (subst (λ (x : ReaderState). Tells call key op first x (Told answer)) (sym stood) tells))
