-- What readers see under a shard's lock.
use Rattle.std.proofs.Common.{◌≡◌, ℕ, ◌+◌, ◌/◌, ◌<◌, ◌≤◌, List, [], length, sum, Option, Some, None, Result, Ok, Err, refl, sym, ap, ◌∙◌, subst, arith, le_refl, slice_set}
use Rattle.std.specs.Prelude.{IfOk}
use Rattle.std.specs.Option.{IsSomeAnd, IfSome}
use Rattle.std.proofs.lemmas.Nat.{mod_below}
use Rattle.std.proofs.lemmas.List.{get_or-set_same, get_or-set_other}
use Rattle.std.proofs.Math.Seq.{map-set_same}
use mathlib.Core.List.{IsPrefix}
use Rattle.hk_base.specs.declared.call.CallNo.{CallNo}
use Rattle.hk_base.specs.declared.call.Op.{Op}
use Rattle.hk_base.specs.declared.call.Answer.{Answer}
use Rattle.hk_node.specs.Calls.{lease_end}
use Rattle.hk_snap.specs.declared.rule.Publication.{Publication}
use Rattle.hk_snap.specs.declared.local.Local.{Local}
use Rattle.hk_snap.specs.Locals.{local_of}
use Rattle.hk_snap.specs.Snapshots.{cell_of, last_shown}
use Rattle.hk_snap.specs.Ends.{End, Reader, at, names, seen_at, looked, noted, Loads, writing_end, no_name}
use Rattle.hk_snap.specs.Leases.{Lease, Looks as LooksAtLease}
use Rattle.hk_snap.proofs.Lists.{same_long}
use Rattle.hk_snap.proofs.Prefixes.{prefix_self, prefix_trans}
use Rattle.hk_told.specs.declared.ask.Ask.{Ask}
use Rattle.hk_told.specs.declared.asks.AskState.{AskState}
use Rattle.hk_told.specs.declared.asks.AskState.TheVariants.{Gone, Waits, Told}
use Rattle.hk_told.specs.Held.{IsHeld}
use Rattle.hk_told.specs.Kept.{asks_in, LooksAs}
use Rattle.hk_told.specs.Shown.{BeginsIn, LooksAt, LooksOn}
use Rattle.hk_told.proofs.Telling.{asks_are_shown, looks_are_joined}
use Rattle.hk_locked.specs.Places.{NodeNames, node_names, shard_names}
use Rattle.hk_locked.specs.Locked.{lists_in, LockedState, IsLocked, ReaderState, IsReader}
use Rattle.hk_locked.specs.Steps.{end_at, IsSameBut, IsLaterLease, IsGrown, Meets, MeetsLease, Reads, Begins, replies_with, StartsAt, LooksOnce, LooksFor, LooksOften, LooksOftenFor}

-- ---- the reader stays the same one
pub same_itself : (key : List ℕ) (r : ReaderState) → IsSameBut key r r
same_itself key r = record { node = refl; number = refl; skew = refl; others = λ cell apart. refl }

pub same_on : (key : List ℕ) (old mid new : ReaderState) → IsSameBut key old mid → IsSameBut key mid new → IsSameBut key old new
same_on key old mid new a b = record {
  node = b.node ∙ a.node;
  number = b.number ∙ a.number;
  skew = b.skew ∙ a.skew;
  others = λ cell apart. b.others cell apart ∙ a.others cell apart;
}

lease_itself : (l : Lease) → IsLaterLease l l
lease_itself l = record { name = refl; end = le_refl l.end; now = le_refl l.now; loads = le_refl l.loads }

lease_of : (l m : Lease) → m ≡ l → IsLaterLease l m
lease_of l m is = subst (IsLaterLease l) (sym is) (lease_itself l)

lease_looked : (l m : Lease) → LooksAtLease l m → IsLaterLease l m
lease_looked l m looks = record { name = looks.name; end = looks.end; now = looks.now; loads = let e = looks.loads in omega (arith, e) }

lease_on : (l m n : Lease) → IsLaterLease l m → IsLaterLease m n → IsLaterLease l n
lease_on l m n a b = record {
  name = b.name ∙ a.name;
  end = let p = a.end in let q = b.end in omega (arith, p, q);
  now = let p = a.now in let q = b.now in omega (arith, p, q);
  loads = let p = a.loads in let q = b.loads in omega (arith, p, q);
}

pub grown_itself : (key : List ℕ) (r : ReaderState) → IsGrown key r r
grown_itself key r = record { same = same_itself key r; seen = prefix_self (end_at key r).seen; loads = le_refl (end_at key r).loads; lease = lease_itself r.lease }

pub grown_same : (key : List ℕ) (old new : ReaderState) → new ≡ old → IsGrown key old new
grown_same key old new is = subst (IsGrown key old) (sym is) (grown_itself key old)

pub grown_on : (key : List ℕ) (old mid new : ReaderState) → IsGrown key old mid → IsGrown key mid new → IsGrown key old new
grown_on key old mid new a b = record {
  same = same_on key old mid new a.same b.same;
  seen = prefix_trans (end_at key old).seen (end_at key mid).seen (end_at key new).seen a.seen b.seen;
  loads = let p = a.loads in let q = b.loads in omega (arith, p, q);
  lease = lease_on old.lease mid.lease new.lease a.lease b.lease;
}

pub grown_met : (s : LockedState) (key : List ℕ) (old new : ReaderState) → Meets s key old new → IsGrown key old new
grown_met s key old new m = record {
  same = m.same;
  seen = m.grown;
  loads = let e = m.loads in omega (arith, e);
  lease = lease_of old.lease new.lease m.lease;
}

pub grown_lease : (s : LockedState) (key : List ℕ) (old new : ReaderState) → MeetsLease s old new → IsGrown key old new
grown_lease s key old new m = record {
  same = record { node = m.node; number = m.number; skew = m.skew; others = λ cell apart. ap (λ (c : Reader). at c.ends cell) m.cells };
  seen = subst (λ (c : Reader). IsPrefix (end_at key old).seen (at c.ends (cell_of key)).seen) (sym m.cells) (prefix_self (end_at key old).seen);
  loads = subst (λ (c : Reader). (end_at key old).loads ≤ (at c.ends (cell_of key)).loads) (sym m.cells) (le_refl (end_at key old).loads);
  lease = lease_looked old.lease new.lease m.looked;
}

-- ---- a load
met_at : (xs : List End) (cell k : ℕ) (e : End) → k ≡ cell → k < length xs → at (slice_set xs k e) cell ≡ e
met_at xs cell k e is below = subst (λ j. at (slice_set xs k e) j ≡ e) is (get_or-set_same xs k e (writing_end no_name []) below)

pub met : (s : LockedState) (key : List ℕ) (cell : ℕ) (old : ReaderState) (cells : Reader) → old.node ≡ s.node → old.number ≡ s.number → old.skew ≡ s.skew → cell ≡ cell_of key → cell < 32 → length old.cells.ends ≡ 32
    → cells ≡ noted old.cells cell (seen_at s.shard.ends cell) → IsPrefix (seen_at old.cells.ends cell) (seen_at s.shard.ends cell)
    → Meets s key old (record { node = old.node; number = old.number; skew = old.skew; cells = cells; lease = old.lease })
met s key cell old cells node number skew is below long notes grown = record {
  node = node;
  number = number;
  skew = skew;
  same = record {
    node = refl;
    number = refl;
    skew = refl;
    others = λ other apart. ap (λ (r : Reader). at r.ends other) notes
        ∙ get_or-set_other old.cells.ends cell other _ (writing_end no_name []) (λ e. apart (e ∙ is));
  };
  lease = refl;
  seen = all ∙ ap (seen_at s.shard.ends) is;
  grown = subst (IsPrefix (end_at key old).seen) (sym all) (subst (λ j. IsPrefix (seen_at old.cells.ends j) (seen_at s.shard.ends cell)) is grown);
  loads = ap (λ (r : Reader). (at r.ends (cell_of key)).loads) notes ∙ (ap (λ (e : End). e.loads) (met_at old.cells.ends (cell_of key) cell _ is short)
      ∙ ap (λ j. (at old.cells.ends j).loads + 1) is);
}
  where
    short : cell < length old.cells.ends
    short = omega (arith, below, long)

    all : (at cells.ends (cell_of key)).seen ≡ seen_at s.shard.ends cell
    all = ap (λ (r : Reader). (at r.ends (cell_of key)).seen) notes ∙ ap (λ (e : End). e.seen) (met_at old.cells.ends (cell_of key) cell _ is short)

-- the cells have the same names
pub met_names : (old cells : Reader) (cell : ℕ) (seen : List Publication) → cells.ends ≡ (looked old cell seen).ends → names cells.ends ≡ names old.ends
met_names old cells cell seen is = ap names is ∙ map-set_same (λ (e : End). e.name) old.ends cell _ (writing_end no_name []) refl

-- ---- a call begins
pub started : (s t : LockedState) (call : CallNo) (key : List ℕ) (ticket : ℕ) (op : Op) (answer : Option Answer) (old met leased new : ReaderState)
    → Meets s key old met → MeetsLease s met leased → Begins s t call key ticket op answer → Meets t key leased new → StartsAt old new call key ticket op answer
started s t call key ticket op answer old met leased new m l b n = record {
  same = same_on key old leased new (same_on key old met leased m.same (grown_lease s key met leased l).same) n.same;
  lease = subst (λ x. LooksAtLease x new.lease) m.lease (subst (LooksAtLease met.lease) (sym n.lease) l.looked);
  starts = (
    lists_in s.shard.ends key,
    subst (IsPrefix (end_at key old).seen) m.seen m.grown,
    begins,
    (let p = m.loads in let q = n.loads in
        let r : (end_at key leased).loads ≡ (end_at key met).loads = ap (λ (c : Reader). (at c.ends (cell_of key)).loads) l.cells in omega (arith, p, q, r)),
  );
}
  where
    end : lease_end s.shard.part ≡ new.lease.end
    end = sym (ap (λ x. x.end) n.lease ∙ l.end)

    now : s.shard.part.clock ≡ new.lease.now
    now = sym (ap (λ x. x.now) n.lease ∙ l.now)

    skew : s.skew ≡ new.skew
    skew = sym (n.same.skew ∙ (l.skew ∙ (m.same.skew ∙ m.skew)))

    begins : BeginsIn (lists_in s.shard.ends key) (end_at key new).seen call key ticket op new.lease.end new.lease.now new.skew (replies_with call answer)
    begins = subst (λ e. BeginsIn (lists_in s.shard.ends key) (end_at key new).seen call key ticket op e new.lease.now new.skew (replies_with call answer)) end
        (subst (λ e. BeginsIn (lists_in s.shard.ends key) (end_at key new).seen call key ticket op (lease_end s.shard.part) e new.skew (replies_with call answer)) now
        (subst (λ e. BeginsIn (lists_in s.shard.ends key) (end_at key new).seen call key ticket op (lease_end s.shard.part) s.shard.part.clock e (replies_with call answer)) skew
        (subst (λ e. BeginsIn (lists_in s.shard.ends key) e call key ticket op (lease_end s.shard.part) s.shard.part.clock s.skew (replies_with call answer)) (sym n.seen) b)))

-- ---- a look
looks_when : (s : LockedState) (key : List ℕ) (ticket : ℕ) (call : CallNo) (told : Option Answer) (old new : ReaderState) → Meets s key old new
    → IsHeld s.shard.part.rows (lists_in s.shard.ends) s.shard.last (asks_in s.asks)
    → (ask : Ask) → asks_in s.asks call ≡ Some ask → ask.key ≡ key → ask.ticket ≡ ticket → ask.told ≡ told → LooksOnce key ticket old new told
looks_when s key ticket call told old new m held ask kept of_key of_ticket of_told = record {
  same = m.same;
  lease = m.lease;
  looks = (
    m.grown,
    m.loads,
    subst (λ l. LooksAt l key ticket told) (sym m.seen)
        (subst (λ k. LooksAt (lists_in s.shard.ends k) k ticket told) of_key
        (subst (λ n. LooksAt (lists_in s.shard.ends ask.key) ask.key n told) of_ticket
        (subst (λ w. LooksAt (lists_in s.shard.ends ask.key) ask.key ask.ticket w) of_told
        (asks_are_shown s.shard.part.rows (lists_in s.shard.ends) s.shard.last (asks_in s.asks) call ask held kept)))),
  );
}

pub looks_for : (s : LockedState) (key : List ℕ) (ticket : ℕ) (call : CallNo) (look : AskState) (old new : ReaderState) → Meets s key old new
    → IsHeld s.shard.part.rows (lists_in s.shard.ends) s.shard.last (asks_in s.asks)
    → IsSomeAnd (asks_in s.asks call) (λ ask. ask.key ≡ key) → LooksAs ticket (asks_in s.asks call) look → LooksFor key ticket old new look
looks_for s key ticket call look old new m held is_at stands = at_ask (asks_in s.asks call) look refl is_at stands
  where
    at_ask : (o : Option Ask) (look : AskState) → asks_in s.asks call ≡ o → IsSomeAnd o (λ ask. ask.key ≡ key) → LooksAs ticket o look → LooksFor key ticket old new look
    at_ask o Gone is of_key stands = tt
    at_ask None Waits is of_key stands = absurd of_key
    at_ask (Some ask) Waits is of_key stands = looks_when s key ticket call None old new m held ask is of_key stands.0 stands.1
    at_ask None (Told answer) is of_key stands = absurd of_key
    at_ask (Some ask) (Told answer) is of_key stands = looks_when s key ticket call (Some answer) old new m held ask is of_key stands.0 stands.1

-- a reader of the same shard of the same node has its cells and its skew
pub record IsOfOne (s : LockedState) (r : ReaderState) : Type 0 where
  pub cells : names r.cells.ends ≡ names s.shard.ends
  pub lease : r.lease.name ≡ s.shard.lease.name
  pub skew : r.skew ≡ s.skew

pub of_one_shard : (places : List NodeNames) (s : LockedState) (r : ReaderState) → IsLocked places s → IsReader places r → r.node ≡ s.node → r.number ≡ s.number → IsOfOne s r
of_one_shard places s r locked reads node number = record {
  cells = reads.cells ∙ (subst (λ n. (shard_names places r.node r.number).cells ≡ (shard_names places n s.number).cells) node
      (ap (λ k. (shard_names places r.node k).cells) number) ∙ sym locked.cells);
  lease = reads.lease ∙ (subst (λ n. (shard_names places r.node r.number).lease ≡ (shard_names places n s.number).lease) node
      (ap (λ k. (shard_names places r.node k).lease) number) ∙ sym locked.lease);
  skew = reads.skew ∙ (ap (λ n. (node_names places n).skew) node ∙ sym locked.skew);
}

pub grown_looked : (key : List ℕ) (ticket : ℕ) (told : Option Answer) (old new : ReaderState) → LooksOnce key ticket old new told → IsGrown key old new
grown_looked key ticket told old new l = record {
  same = l.same;
  seen = l.looks.0;
  loads = let e = l.looks.1 in omega (arith, e);
  lease = lease_of old.lease new.lease l.lease;
}

-- ---- loads one after the other
pub record MeetsOn (turns : ℕ) (key : List ℕ) (old new : ReaderState) : Type 0 where
  pub grown : IsGrown key old new
  pub lease : new.lease ≡ old.lease
  pub loads : (end_at key new).loads ≡ (end_at key old).loads + turns

pub meets_none : (key : List ℕ) (r : ReaderState) → MeetsOn 0 key r r
meets_none key r = record { grown = grown_itself key r; lease = refl; loads = omega arith }

pub meets_more : (turns : ℕ) (s : LockedState) (key : List ℕ) (old mid new : ReaderState) → MeetsOn turns key old mid → Meets s key mid new → MeetsOn (turns + 1) key old new
meets_more turns s key old mid new on m = record {
  grown = grown_on key old mid new on.grown (grown_met s key mid new m);
  lease = m.lease ∙ on.lease;
  loads = let p = on.loads in let q = m.loads in omega (arith, p, q);
}

looked_on : (turns looks : ℕ) (key : List ℕ) (ticket : ℕ) (told : Option Answer) (old mid new : ReaderState) → turns + 1 ≡ looks → MeetsOn turns key old mid → LooksOnce key ticket mid new told
    → LooksOften looks key ticket old new told
looked_on turns looks key ticket told old mid new count on l = record {
  same = same_on key old mid new on.grown.same l.same;
  lease = l.lease ∙ on.lease;
  looks = subst (λ n. LooksOn n (end_at key old) (end_at key new) key ticket told) count
      (looks_are_joined turns (end_at key old) (end_at key mid) (end_at key new) key ticket told on.grown.seen on.loads l.looks);
}

-- and a look at the ask behind them
pub looks_on : {E : Type 0} (turns looks : ℕ) (key : List ℕ) (ticket : ℕ) (old mid new : ReaderState) (result : Result AskState E) → turns + 1 ≡ looks → MeetsOn turns key old mid
    → IfOk result (λ look. LooksFor key ticket mid new look) → IfOk result (λ look. LooksOftenFor looks key ticket old new look)
looks_on turns looks key ticket old mid new (Ok Gone) count on l = tt
looks_on turns looks key ticket old mid new (Ok Waits) count on l = looked_on turns looks key ticket None old mid new count on l
looks_on turns looks key ticket old mid new (Ok (Told answer)) count on l = looked_on turns looks key ticket (Some answer) old mid new count on l
looks_on turns looks key ticket old mid new (Err e) count on l = tt

-- a load by a reader of the same shard, as contracts see both
pub met_inside : (places : List NodeNames) (s now : LockedState) (r old : ReaderState) (key : List ℕ) (cell : ℕ) (cells : Reader) → s ≡ now → r ≡ old → IsLocked places s → IsReader places r
    → old.node ≡ now.node → old.number ≡ now.number → cell ≡ cell_of key → cell < 32 → length s.shard.ends ≡ 32
    → cells ≡ noted r.cells cell (seen_at s.shard.ends cell) → IsPrefix (seen_at r.cells.ends cell) (seen_at s.shard.ends cell)
    → Meets now key old (record { node = r.node; number = r.number; skew = r.skew; cells = cells; lease = r.lease })
met_inside places s now r old key cell cells same_shard same_reader locked reads node number is below long notes grown =
    let of_node : r.node ≡ s.node = ap (λ (x : ReaderState). x.node) same_reader ∙ (node ∙ sym (ap (λ (x : LockedState). x.node) same_shard)) in
    let numbered : r.number ≡ s.number = ap (λ (x : ReaderState). x.number) same_reader ∙ (number ∙ sym (ap (λ (x : LockedState). x.number) same_shard)) in
    let one : IsOfOne s r = of_one_shard places s r locked reads of_node numbered in
    subst (λ (x : LockedState). Meets x key old (record { node = r.node; number = r.number; skew = r.skew; cells = cells; lease = r.lease })) same_shard
    (subst (λ (x : ReaderState). Meets s key x (record { node = r.node; number = r.number; skew = r.skew; cells = cells; lease = r.lease })) same_reader
    (met s key cell r cells of_node numbered one.skew is below (same_long r.cells.ends s.shard.ends one.cells ∙ long) notes grown))

-- ---- a read without the lock
module _ (key : List ℕ) (r old : ReaderState) (cells : Reader) (lease : Lease) (same_reader : r ≡ old) (long : length r.cells.ends ≡ 32) (loads : Loads r.cells (cell_of key) cells) (looks : LooksAtLease r.lease lease) where
  abbrev after : ReaderState
  after = record { node = r.node; number = r.number; skew = r.skew; cells = cells; lease = lease }

  below : cell_of key < length r.cells.ends
  below = let short = mod_below (sum key / 8) 32 (omega arith) in omega (arith, short, long)

  here : at cells.ends (cell_of key) ≡ record { name = (at r.cells.ends (cell_of key)).name; seen = loads.0; loads = (at r.cells.ends (cell_of key)).loads + 1 }
  here = ap (λ (c : Reader). at c.ends (cell_of key)) loads.2 ∙ get_or-set_same r.cells.ends (cell_of key) _ (writing_end no_name []) below

  same_but : IsSameBut key r after
  same_but = record {
    node = refl;
    number = refl;
    skew = refl;
    others = λ other apart. ap (λ (c : Reader). at c.ends other) loads.2 ∙ get_or-set_other r.cells.ends (cell_of key) other _ (writing_end no_name []) apart;
  }

  seen_more : IsPrefix (end_at key r).seen (end_at key after).seen
  seen_more = subst (IsPrefix (end_at key r).seen) (sym (ap (λ (e : End). e.seen) here)) loads.1

  once_more : (end_at key after).loads ≡ (end_at key r).loads + 1
  once_more = ap (λ (e : End). e.loads) here

  shows_last : cells.shown ≡ last_shown (end_at key after).seen
  shows_last = ap (λ (c : Reader). c.shown) loads.2 ∙ ap last_shown (sym (ap (λ (e : End). e.seen) here))

  pub grown_freely : IsGrown key old after
  grown_freely = subst (λ (o : ReaderState). IsGrown key o after) same_reader (record {
    same = same_but;
    seen = seen_more;
    loads = let e = once_more in omega (arith, e);
    lease = lease_looked r.lease lease looks;
  })

  pub reads_freely : {E : Type 0} (reading : Option ℕ) (result : Result Local E)
      → IfOk result (λ l. (now : ℕ) × IfSome reading (λ time. now ≡ time) × (l ≡ local_of cells.shown key lease.end now r.skew))
      → IfOk result (λ l. (now : ℕ) × IfSome reading (λ time. now ≡ time) × Reads key now old after l)
  reads_freely reading (Ok l) told = (
    told.0,
    told.1,
    subst (λ (o : ReaderState). Reads key told.0 o after l) same_reader (record {
      same = same_but;
      seen = seen_more;
      loads = once_more;
      lease = looks;
      told_by = told.2 ∙ ap (λ s. local_of s key lease.end told.0 r.skew) shows_last;
    }),
  )
  reads_freely reading (Err e) told = tt
