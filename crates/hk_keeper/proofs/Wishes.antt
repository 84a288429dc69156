-- The laws of wishes.
use Rattle.std.proofs.Common.{◌≡◌, ◌⊎◌, ◌<◌, ◌+◌, ℕ, Bool, true, false, cond, not, ◌&&◌, ◌||◌, nat_lt, List, [], ◌∷◌, length, Option, None, Some, slice_get, refl, ap, inl, inr, subst, arith}
use Rattle.std.specs.List.{find}
use Rattle.std.proofs.lemmas.Bool.{ltb-true}
use Rattle.hk_base.specs.declared.stamp.NodeId.{NodeId}
use Rattle.hk_base.specs.declared.view.Change.{Change}
use Rattle.hk_base.specs.declared.view.Change.TheVariants.{Drop, Add}
use Rattle.hk_lease.specs.Wait.{wait}
use Rattle.hk_keeper.specs.declared.heard.Heard.{Heard}
use Rattle.hk_keeper.specs.declared.heard.ShardHeard.{ShardHeard}
use Rattle.hk_keeper.specs.declared.heard.Proposal.{Proposal}
use Rattle.hk_keeper.specs.declared.heard.Wish.TheVariants.{Nothing, Propose, Activate}
use Rattle.hk_keeper.specs.Heard.{majority_up, has_to_go, one_ready, another_ready, next_may_join, is_behind, all_level}
use Rattle.hk_keeper.specs.Table.{is_overtaken, is_awaited, is_begun, may_propose, can_go, dropped, dropped_or, is_added, patience, proposal, catching_up, proposed, wished, wish_at, wish_in, wish_of}
use Rattle.hk_keeper.specs.Laws.{BeginBehindTheWait, LastReadyStays, NumbersMoveTogether}

both_hold : (a b : Bool) → (a && b) ≡ true → (a ≡ true) × (b ≡ true)
both_hold true b e = (refl, e)
both_hold false b e = absurd cc

either_holds : (a b : Bool) → (a || b) ≡ true → (a ≡ true) ⊎ (b ≡ true)
either_holds true b e = inl refl
either_holds false b e = inr e

-- ---- a view that begins

wished_begins : (p : Option Proposal) (b : Bool) → wished p b ≡ Activate → b ≡ true
wished_begins (Some p) b e = absurd cc
wished_begins None true e = refl
wished_begins None false e = absurd cc

begins : (up : Bool) (p : Option Proposal) (b : Bool) → cond up (wished p b) Nothing ≡ Activate → b ≡ true
begins true p b e = wished_begins p b e
begins false p b e = absurd cc

begins_late : (h : Heard) (shard : ℕ) (x : Option ShardHeard) → wish_in h shard x ≡ Activate → 1 + wait h.lease < h.clock
begins_late h shard None e = absurd cc
begins_late h shard (Some s) e =
    let begun = begins (majority_up h) (proposed h shard s) (is_begun h shard s) e in
    let late = both_hold (is_awaited h shard s) (nat_lt (1 + wait h.lease) h.clock) begun in
    ltb-true (1 + wait h.lease) h.clock late.1

pub begin_behind : BeginBehindTheWait
begin_behind h shard early e = let late = begins_late h shard (slice_get h.shards shard) e in omega (arith, early, late)

-- ---- a change

proposes : (up : Bool) (p : Option Proposal) (b : Bool) (q : Proposal) → cond up (wished p b) Nothing ≡ Propose q → p ≡ Some q
proposes true (Some p) b q e = cc
proposes true None true q e = absurd cc
proposes true None false q e = absurd cc
proposes false p b q e = absurd cc

row : (may over : Bool) (x y : Option Proposal) (q : Proposal) → cond (not may) None (cond over x y) ≡ Some q → (over ≡ true) ⊎ (y ≡ Some q)
row true true x y q e = inl refl
row true false x y q e = inr e
row false over x y q e = absurd cc

-- rows 3 and 4, where the next view was not accepted already
by_row : (h : Heard) (shard : ℕ) (s : ShardHeard) (q : Proposal) → slice_get h.shards shard ≡ Some s → wish_of h shard ≡ Propose q →
    (is_overtaken h shard s ≡ true) ⊎ (dropped_or h s (dropped h s) ≡ Some q)
by_row h shard s q there e =
    let here : wish_at h shard s ≡ Propose q = subst (λ (x : Option ShardHeard). wish_in h shard x ≡ Propose q) there e in
    let is = proposes (majority_up h) (proposed h shard s) (is_begun h shard s) q here in
    row (may_propose h s) (is_overtaken h shard s) (proposal 0 (catching_up s)) (dropped_or h s (dropped h s)) q is

abbrev change_of : Option Proposal → Change
change_of None = Add
change_of (Some p) = p.change

-- ---- a drop

drops : (h : Heard) (s : ShardHeard) (d : Option NodeId) (member : NodeId) (p : ℕ) → dropped_or h s d ≡ Some (record { change = Drop member; patience = p }) → d ≡ Some member
drops h s (Some m) member p e = let same : Drop m ≡ Drop member = ap change_of e in cc
drops h s None member p e = at (is_added h s) e
  where
    at : (b : Bool) → cond b (proposal (patience h) Add) None ≡ Some (record { change = Drop member; patience = p }) → None ≡ Some member
    at true e = let same : Add ≡ Drop member = ap change_of e in absurd cc
    at false e = absurd cc

find_passes : (test : NodeId → Bool) (xs : List NodeId) (x : NodeId) → find test xs ≡ Some x → test x ≡ true
find_passes test [] x e = absurd cc
find_passes test (y ∷ xs) x e = at (test y) refl e (find_passes test xs x)
  where
    at : (b : Bool) → test y ≡ b → cond b (Some y) (find test xs) ≡ Some x → (find test xs ≡ Some x → test x ≡ true) → test x ≡ true
    at true is e later = let same : y ≡ x = cc in subst (λ (z : NodeId). test z ≡ true) same is
    at false is e later = later e

pub last_ready : LastReadyStays
last_ready h shard p s member there e = at (by_row h shard s (record { change = Drop member; patience = p }) there e)
  where
    at : (is_overtaken h shard s ≡ true) ⊎ (dropped_or h s (dropped h s) ≡ Some (record { change = Drop member; patience = p })) →
        (is_overtaken h shard s ≡ true) ⊎ (another_ready h s member ≡ true)
    at (inl over) = inl over
    at (inr is) =
        let passes = find_passes (can_go h s) s.held.members member (drops h s (dropped h s) member p is) in
        inr (both_hold (has_to_go h member) (another_ready h s member) passes).1

-- ---- an add

adds : (h : Heard) (s : ShardHeard) (d : Option NodeId) (p : ℕ) → dropped_or h s d ≡ Some (record { change = Add; patience = p }) → is_added h s ≡ true
adds h s (Some m) p e = let same : Drop m ≡ Add = ap change_of e in absurd cc
adds h s None p e = at (is_added h s) e
  where
    at : (b : Bool) → cond b (proposal (patience h) Add) None ≡ Some (record { change = Add; patience = p }) → b ≡ true
    at true e = refl
    at false e = absurd cc

added_where : (h : Heard) (s : ShardHeard) → is_added h s ≡ true → (is_behind h s ≡ true) ⊎ ((all_level h s ≡ true) × (next_may_join h s ≡ true))
added_where h s e =
    let room = both_hold (nat_lt (length s.held.members) 16) (one_ready h s && (is_behind h s || (all_level h s && next_may_join h s))) e in
    let ready = both_hold (one_ready h s) (is_behind h s || (all_level h s && next_may_join h s)) room.1 in
    at (either_holds (is_behind h s) (all_level h s && next_may_join h s) ready.1)
  where
    at : (is_behind h s ≡ true) ⊎ ((all_level h s && next_may_join h s) ≡ true) → (is_behind h s ≡ true) ⊎ ((all_level h s ≡ true) × (next_may_join h s ≡ true))
    at (inl behind) = inl behind
    at (inr level) = inr (both_hold (all_level h s) (next_may_join h s) level)

pub move_together : NumbersMoveTogether
move_together h shard p s there e = at (by_row h shard s (record { change = Add; patience = p }) there e)
  where
    at : (is_overtaken h shard s ≡ true) ⊎ (dropped_or h s (dropped h s) ≡ Some (record { change = Add; patience = p })) →
        (is_overtaken h shard s ≡ true) ⊎ (is_behind h s ≡ true) ⊎ ((all_level h s ≡ true) × (next_may_join h s ≡ true))
    at (inl over) = inl over
    at (inr is) = inr (added_where h s (adds h s (dropped h s) p is))
