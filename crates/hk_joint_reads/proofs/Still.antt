-- Where all keys are found, no cell moved between the two rounds.
use Rattle.std.proofs.Common.{◌≡◌, ℕ, ◌==◌, List, [], ◌∷◌, ◌++◌, length, Bool, true, false, ◌&&◌, if◌then◌else◌, is_some, Option, Some, None, Result, Ok, Err, IfOk, refl, sym, ap, subst, ◌∙◌, arith, append-nil}
use Rattle.std.specs.Prelude.{IfSome, unwrap_or, ⊤}
use Rattle.std.specs.Option.{option_or, option_map}
use Rattle.std.specs.List.{AllByRecursion}
use Rattle.std.specs.Str.{bytes_eq}
use Rattle.std.proofs.lemmas.Bool.Decides.{nat_tests}
use Rattle.std.proofs.lemmas.Slice.Eq.{bytes_eq-Decides}
use mathlib.Core.List.{IsPrefix}
use Rattle.hk_base.specs.declared.stamp.Stamp.{Stamp}
use Rattle.hk_base.specs.declared.call.State.{State}
use Rattle.hk_base.specs.declared.call.State.TheVariants as of_state
use Rattle.hk_snap.specs.declared.rule.Publication.{Publication}
use Rattle.hk_snap.specs.declared.snapshot.Snapshot.{Snapshot}
use Rattle.hk_snap.specs.Snapshots.{cell_of, last_shown, is_large, IsRising}
use Rattle.hk_snap.specs.Ends.{Reader, seen_at, Loads}
use Rattle.hk_snap.proofs.Prefixes.{prefix_self, prefix_trans}
use Rattle.hk_joint_reads.specs.declared.look.KeyLoads.{KeyLoads}
use Rattle.hk_joint_reads.specs.declared.read.Joint.{Joint}
use Rattle.hk_joint_reads.specs.declared.read.Joint.TheVariants.{Elsewhere, Moved, Large}
use Rattle.hk_joint_reads.specs.Reads.{LoadsEach, shown_of, ticket_of, tickets_of, looks_of, elsewhere, moved, moved_by, row_busy, shown_busy, busy, large_by, large, first_told, unfound, joint_of, IsFound, IsJointRead}
use Rattle.hk_joint_reads.proofs.Loading.{loads_grow}
use Rattle.hk_joint_reads.proofs.Latest.{none_behind}
use Rattle.hk_joint_reads.proofs.Rounds.{each_long}

-- ---- what was seen of a cell begins what is seen later
abbrev pub AreBelow : Reader → List (List ℕ) → List (List Publication) → Type 0
AreBelow r [] lists = ⊤
AreBelow r (key ∷ keys) [] = ⊤
AreBelow r (key ∷ keys) (seen ∷ lists) = IsPrefix seen (seen_at r.ends (cell_of key)) × AreBelow r keys lists

below_load : (r next : Reader) (cell : ℕ) (keys : List (List ℕ)) (lists : List (List Publication)) → Loads r cell next → AreBelow r keys lists → AreBelow next keys lists
below_load r next cell [] lists loads below = tt
below_load r next cell (key ∷ keys) [] loads below = tt
below_load r next cell (key ∷ keys) (seen ∷ lists) loads below =
    (prefix_trans seen (seen_at r.ends (cell_of key)) (seen_at next.ends (cell_of key)) below.0 (loads_grow r next cell (cell_of key) loads), below_load r next cell keys lists loads below.1)

below_each : (r next : Reader) (loaded : List (List ℕ)) (later : List (List Publication)) (keys : List (List ℕ)) (lists : List (List Publication)) → LoadsEach r loaded later next
    → AreBelow r keys lists → AreBelow next keys lists
below_each r next [] [] keys lists each below = subst (λ (x : Reader). AreBelow x keys lists) (sym each) below
below_each r next [] (l ∷ later) keys lists each below = absurd each
below_each r next (k ∷ loaded) [] keys lists each below = absurd each
below_each r next (k ∷ loaded) (l ∷ later) keys lists each below = below_each each.0 next loaded later keys lists each.4 (below_load r each.0 (cell_of k) keys lists each.1 below)

pub each_below : (r next : Reader) (keys : List (List ℕ)) (lists : List (List Publication)) → LoadsEach r keys lists next → AreBelow next keys lists
each_below r next [] lists each = tt
each_below r next (key ∷ keys) [] each = tt
each_below r next (key ∷ keys) (seen ∷ lists) each =
    let here : AreBelow each.0 (key ∷ []) (seen ∷ []) = (subst (λ (l : List Publication). IsPrefix l (seen_at each.0.ends (cell_of key))) each.2 (prefix_self _), tt) in
    ((below_each each.0 next keys lists (key ∷ []) (seen ∷ []) each.4 here).0, each_below each.0 next keys lists each.4)

-- ---- one key
some_none : {A B : Type 0} (x : A) → ◌≡◌ {A = Option A} (Some x) None → B
some_none x e = absurd (cc)

same_latest : (key : List ℕ) (a b : List Publication) (s t : Snapshot) → IsPrefix a b → IsRising b → last_shown a ≡ Some s → last_shown b ≡ Some t → bytes_eq s.key key ≡ true → bytes_eq t.key key ≡ true
    → s.ticket ≡ t.ticket → b ≡ a
same_latest key a b s t front rises first last is_s is_t ticket =
    let rest = front.0 in
    let whole : a ++ rest ≡ b = front.1 in
    let keys : s.key ≡ t.key = (bytes_eq-Decides s.key key).0 is_s ∙ sym ((bytes_eq-Decides t.key key).0 is_t) in
    let none : rest ≡ [] = none_behind a rest s t (subst IsRising (sym whole) rises) first (ap last_shown whole ∙ last) keys ticket in
    sym whole ∙ ap (λ (l : List Publication). a ++ l) none ∙ append-nil a

by_ticket : (same : Bool) (key : List ℕ) (a b : List Publication) (s t : Snapshot) → IsPrefix a b → IsRising b → last_shown a ≡ Some s → last_shown b ≡ Some t → bytes_eq s.key key ≡ true → bytes_eq t.key key ≡ true
    → (s.ticket == t.ticket) ≡ same → (if same then None else Some (Moved key s.ticket t.ticket)) ≡ None → b ≡ a
by_ticket true key a b s t front rises first last is_s is_t e m = same_latest key a b s t front rises first last is_s is_t (grind (arith, nat_tests, e))
by_ticket false key a b s t front rises first last is_s is_t e m = some_none _ m

-- the first load showed a ticket of the key, the second one a snapshot of it
abbrev seen_look : List ℕ → Option Snapshot → Option Snapshot → KeyLoads
seen_look key s t = record { key = key; first = ticket_of key s; second = shown_of key t }

by_second : (is_s is_t : Bool) (key : List ℕ) (a b : List Publication) (s t : Snapshot) → IsPrefix a b → IsRising b → last_shown a ≡ Some s → last_shown b ≡ Some t → bytes_eq s.key key ≡ is_s
    → bytes_eq t.key key ≡ is_t → elsewhere (seen_look key (Some s) (Some t)) ≡ None → moved (seen_look key (Some s) (Some t)) ≡ None → b ≡ a
by_second true true key a b s t front rises first last e f told m =
    by_ticket (s.ticket == t.ticket) key a b s t front rises first last e f refl (rw (e, f) at m)
by_second true false key a b s t front rises first last e f told m = some_none _ (rw (e, f) at told)
by_second false is_t key a b s t front rises first last e f told m = some_none _ (rw e at told)

by_shown : (key : List ℕ) (a b : List Publication) (s t : Option Snapshot) → IsPrefix a b → IsRising b → last_shown a ≡ s → last_shown b ≡ t → elsewhere (seen_look key s t) ≡ None
    → moved (seen_look key s t) ≡ None → b ≡ a
by_shown key a b None t front rises first last told m = some_none _ told
by_shown key a b (Some s) None front rises first last told m = by_key (bytes_eq s.key key) told
  where
    by_key : (is_s : Bool) → elsewhere (record { key = key; first = option_map (λ (x : Snapshot). x.ticket) (if is_s then Some s else None); second = None }) ≡ None → b ≡ a
    by_key true e = some_none _ e
    by_key false e = some_none _ e
by_shown key a b (Some s) (Some t) front rises first last told m = by_second (bytes_eq s.key key) (bytes_eq t.key key) key a b s t front rises first last refl refl told m

-- ---- all keys
pub or_none : (a b : Option Joint) → option_or a b ≡ None → (a ≡ None) × (b ≡ None)
or_none None b e = (refl, e)
or_none (Some j) b e = some_none j e

all_still : (r next : Reader) (keys : List (List ℕ)) (first second : List (List Publication)) → length first ≡ length keys → AreBelow r keys first → LoadsEach r keys second next
    → AllByRecursion IsRising second → first_told elsewhere (looks_of keys (tickets_of keys first) second) ≡ None → first_told moved (looks_of keys (tickets_of keys first) second) ≡ None → second ≡ first
all_still r next [] [] [] long below each rising told m = refl
all_still r next [] [] (b ∷ second) long below each rising told m = absurd each
all_still r next [] (a ∷ first) second long below each rising told m = absurd (omega (arith, long))
all_still r next (key ∷ keys) [] second long below each rising told m = absurd (omega (arith, long))
all_still r next (key ∷ keys) (a ∷ first) [] long below each rising told m = absurd each
all_still r next (key ∷ keys) (a ∷ first) (b ∷ second) long below each rising told m =
    let here = or_none _ _ told in
    let there = or_none _ _ m in
    let more : IsPrefix a b = subst (IsPrefix a) each.2 (prefix_trans a (seen_at r.ends (cell_of key)) (seen_at each.0.ends (cell_of key)) below.0 (loads_grow r each.0 (cell_of key) (cell_of key) each.1)) in
    let one : b ≡ a = by_shown key a b (last_shown a) (last_shown b) more rising.0 refl refl here.0 there.0 in
    let rest : second ≡ first =
    all_still each.0 next keys first second (omega (arith, long)) (below_load r each.0 (cell_of key) keys first each.1 below.1) each.4 rising.1 here.1 there.1 in
    ap (λ (x : List Publication). x ∷ second) one ∙ ap (λ (l : List (List Publication)). a ∷ l) rest

-- ---- none of the checks tells Found
abbrev Other : Option Joint → Type 0
Other told = IfSome told (λ j. IsFound j → ⊥)

unless : (b : Bool) (j : Joint) → (IsFound j → ⊥) → Other (if b then None else Some j)
unless true j other = tt
unless false j other = other

when : (b : Bool) (j : Joint) (o : Option Joint) → (IsFound j → ⊥) → Other o → Other (if b then Some j else o)
when true j o other rest = other
when false j o other rest = rest

other_or : (a b : Option Joint) → Other a → Other b → Other (option_or a b)
other_or None b x y = y
other_or (Some j) b x y = x

other_first : (check : KeyLoads → Option Joint) → ((l : KeyLoads) → Other (check l)) → (looks : List KeyLoads) → Other (first_told check looks)
other_first check other [] = tt
other_first check other (l ∷ looks) = other_or (check l) (first_told check looks) (other l) (other_first check other looks)

other_moved : (key : List ℕ) (first : Option ℕ) (second : Option Snapshot) → Other (moved_by key first second)
other_moved key None second = tt
other_moved key (Some t) None = tt
other_moved key (Some t) (Some s) = unless (t == s.ticket) (Moved key t s.ticket) (λ f. f)

other_row : (state : State) (stamp : Stamp) → Other (row_busy state stamp)
other_row of_state.Valid stamp = tt
other_row of_state.Invalid stamp = λ f. f
other_row of_state.Write stamp = λ f. f
other_row of_state.Replay stamp = λ f. f
other_row of_state.Trans stamp = λ f. f

other_shown : (shown : Option Snapshot) → Other (shown_busy shown)
other_shown None = tt
other_shown (Some s) = other_row s.state s.stamp

other_large : (key : List ℕ) (shown : Option Snapshot) → Other (large_by key shown)
other_large key None = tt
other_large key (Some s) = when (is_large s.shape) (Large key) None (λ f. f) tt

pub other_all : (looks : List KeyLoads) (end now skew : ℕ) → Other (unfound looks end now skew)
other_all looks end now skew =
    other_or (first_told elsewhere looks) _ (other_first elsewhere (λ l. unless (is_some l.first && is_some l.second) (Elsewhere l.key) (λ f. f)) looks)
    (other_or (first_told moved looks) _ (other_first moved (λ l. other_moved l.key l.first l.second) looks)
    (other_or (first_told (busy end now skew) looks) (first_told large looks) (other_first (busy end now skew) (λ l. when _ _ _ (λ f. f) (other_shown l.second)) looks)
    (other_first large (λ l. other_large l.key l.second) looks)))

pub none_told : (o : Option Joint) (x : Joint) → Other o → IsFound (unwrap_or o x) → o ≡ None
none_told None x other found = refl
none_told (Some j) x other found = absurd (other found)

pub found_still : (old between new : Reader) (keys : List (List ℕ)) (first second : List (List Publication)) (end now skew : ℕ) (joint : Joint) → length first ≡ length keys → LoadsEach old keys first between
    → LoadsEach between keys second new → AllByRecursion IsRising second → joint ≡ joint_of (looks_of keys (tickets_of keys first) second) end now skew → IsFound joint → second ≡ first
found_still old between new keys first second end now skew joint long loads again rising told found =
    let looks = looks_of keys (tickets_of keys first) second in
    let none = none_told (unfound looks end now skew) _ (other_all looks end now skew) (subst IsFound told found) in
    let one = or_none (first_told elsewhere looks) _ none in
    let two = or_none (first_told moved looks) _ one.1 in
    all_still between new keys first second long (each_below old between keys first loads) again rising one.0 two.0

-- what the code of a read does
pub joint_read : {E : Type 0} (r : Result Joint E) (old between new : Reader) (keys : List (List ℕ)) (first second : List (List Publication)) (tickets : List (Option ℕ)) (looks : List KeyLoads) (end end' now skew : ℕ)
    (reading : Option ℕ) → LoadsEach old keys first between → tickets ≡ tickets_of keys first → LoadsEach between keys second new → looks ≡ looks_of keys tickets second → AllByRecursion IsRising second
    → IfSome reading (λ time. now ≡ time) → end ≡ end' → IfOk r (λ joint. joint ≡ joint_of looks end now skew) → IfOk r (λ joint. IsJointRead old new keys end' skew reading joint)
joint_read (Err e) old between new keys first second tickets looks end end' now skew reading loads are again seen rising clock same is = tt
joint_read (Ok joint) old between new keys first second tickets looks end end' now skew reading loads are again seen rising clock same is =
    let told : joint ≡ joint_of (looks_of keys (tickets_of keys first) second) end' now skew =
    is ∙ ap (λ (l : List KeyLoads). joint_of l end now skew) (seen ∙ ap (λ (t : List (Option ℕ)). looks_of keys t second) are) ∙ ap (λ (n : ℕ). joint_of (looks_of keys (tickets_of keys first) second) n now skew) same in
    record {
      first = first;
      second = second;
      between = between;
      loads = loads;
      again = again;
      now = now;
      clock = clock;
      told = told;
      still = found_still old between new keys first second end' now skew joint (each_long old between keys first loads) loads again rising told;
    }
