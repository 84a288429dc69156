-- A read that is told from what a shard shows is what its part answers.
use Rattle.std.proofs.Common.{◌≡◌, ◌⊎◌, ◌<◌, ◌≤◌, ◌+◌, ℕ, List, [], ◌∷◌, length, Bool, true, false, cond, Option, Some, None, is_some, unwrap_or, refl, sym, ap, ◌∙◌, subst, inl, inr, ⊎_elim}
use Rattle.std.proofs.lemmas.Bool.{false≢true, ltb-true, ltb-false, lt-ltb, le-ltb}
use Rattle.std.proofs.Math.Nat.{le_trans}
use Rattle.std.specs.Prelude.{nat_lt}
use Rattle.std.specs.Str.{bytes_eq}
use Rattle.std.proofs.lemmas.Slice.Eq.{bytes_eq-Decides}
use Rattle.hk_base.specs.declared.stamp.Stamp.{Stamp}
use Rattle.hk_base.specs.declared.call.CallNo.{CallNo}
use Rattle.hk_base.specs.declared.call.Content.{Content}
use Rattle.hk_base.specs.declared.call.State.{State}
use Rattle.hk_base.specs.declared.call.State.TheVariants.{Valid, Invalid, Write, Replay, Trans}
use Rattle.hk_base.specs.declared.call.Op.TheVariants.{Read}
use Rattle.hk_base.specs.declared.call.Answer.{Answer}
use Rattle.hk_base.specs.declared.call.Answer.TheVariants as told
use Rattle.hk_base.specs.declared.call.Why.TheVariants as Why
use Rattle.hk_base.specs.Register.{act}
use Rattle.hk_base.specs.Stamp.{tag_of}
use Rattle.hk_key.specs.declared.row.Row.{Row}
use Rattle.hk_key.specs.Table.{first_row}
use Rattle.hk_node.specs.Rows.{find_row, row_at}
use Rattle.hk_node.specs.Node.{NodeState}
use Rattle.hk_node.specs.Stepped.{Stepped}
use Rattle.hk_node.specs.Calls.{answers, register_in, at_turn, at_state, at_lease, lease_end}
use Rattle.hk_node.proofs.Order.{same_key, same_of}
use Rattle.hk_snap.specs.declared.rule.Publication.{Publication}
use Rattle.hk_snap.specs.declared.snapshot.Snapshot.{Snapshot}
use Rattle.hk_snap.specs.declared.local.Local.TheVariants as local
use Rattle.hk_snap.specs.Snapshots.{cell_of, last_shown, snapshot_of, shape_of}
use Rattle.hk_snap.specs.declared.snapshot.Shape.TheVariants as Shape
use Rattle.hk_snap.specs.declared.snapshot.TheConstants.{MAX_SMALL_LEN}
use Rattle.hk_snap.specs.Ends.{seen_at}
use Rattle.hk_snap.specs.Locals.{local_of, of_row, of_shape}
use Rattle.hk_shard.specs.Shown.{last_row}
use Rattle.hk_shard.specs.Shard.{ShardState, IsShard}
use Rattle.hk_shard.specs.Reading.{answer_of, at_clock, local_at, ReadAs, LocalReadsAreReads, EarlierLeasesDo}
use Rattle.hk_shard.proofs.Covering.{covers_over}

inside : {A : Type 0} (x y : A) → Some x ≡ Some y → x ≡ y
inside x y e = ap (λ o. unwrap_or o x) e

nothing : {A : Type 0} {P : Type 0} (x : A) → None ≡ Some x → P
nothing x e = absurd (false≢true (ap is_some e))

-- what a cell shows of a key is the row that was published last of it
record IsLast (key : List ℕ) (seen : List Publication) (shown : Snapshot) (row : Option Row) : Type 0 where
  last : Publication
  is : snapshot_of last ≡ shown
  row_is : last_row key seen row ≡ Some last.row

last_is : (key : List ℕ) (seen : List Publication) (shown : Snapshot) (row : Option Row) → last_shown seen ≡ Some shown → shown.key ≡ key → IsLast key seen shown row
last_is key [] shown row is same = nothing shown is
last_is key (p ∷ []) shown row is same =
    let shows : snapshot_of p ≡ shown = inside (snapshot_of p) shown is in
    let here : same_key key p.key ≡ true = same_of key p.key (sym (ap (λ (s : Snapshot). s.key) shows ∙ same)) in
    record { last = p; is = shows; row_is = ap (λ b. cond b (Some p.row) row) here }
last_is key (p ∷ q ∷ seen) shown row is same =
    let more = last_is key (q ∷ seen) shown (cond (same_key key p.key) (Some p.row) row) is same in
    record { last = more.last; is = more.is; row_is = more.row_is }

-- ---- a Valid row
module _ (node : NodeState) (call : CallNo) (key : List ℕ) (answer : Answer) where
  large : (b : Bool) (stamp : Stamp) (ticket : ℕ) (content : Content) → answer_of (of_shape stamp ticket (cond b Shape.Large (Shape.Small content))) ≡ Some answer → told.Found content (tag_of stamp) ≡ answer
  large true stamp ticket content e = nothing answer e
  large false stamp ticket content e = inside (told.Found content (tag_of stamp)) answer e

  held : (content : Option Content) (row : Row) (ticket : ℕ) → row.content ≡ content → answer_of (of_shape row.stamp ticket (shape_of content)) ≡ Some answer
      → at_turn (act Read (register_in row) 0).changed node call key Read row ≡ answers node key call answer
  held None row ticket is e = rw is (ap (answers node key call) (inside told.Missing answer e))
  held (Some content) row ticket is e = rw is (ap (answers node key call) (large (nat_lt MAX_SMALL_LEN (length content.bytes)) row.stamp ticket content e))

  busy : (state : State) (row : Row) → row.state ≡ state → Some (told.Busy (Why.Row state row.stamp)) ≡ Some answer → answers node key call (told.Busy (Why.Row row.state row.stamp)) ≡ answers node key call answer
  busy state row is e = ap (answers node key call) (ap (λ s. told.Busy (Why.Row s row.stamp)) is ∙ inside (told.Busy (Why.Row state row.stamp)) answer e)

  -- ---- a row in any state
  stands : (state : State) (row : Row) (ticket : ℕ) → row.state ≡ state → answer_of (of_row state row.stamp ticket (shape_of row.content)) ≡ Some answer
      → at_state state node call key Read row ≡ answers node key call answer
  stands Valid row ticket is e = held row.content row ticket refl e
  stands Invalid row ticket is e = busy Invalid row is e
  stands Write row ticket is e = busy Write row is e
  stands Replay row ticket is e = busy Replay row is e
  stands Trans row ticket is e = busy Trans row is e

module _ (s : ShardState) (key : List ℕ) (end now : ℕ) (call : CallNo) (answer : Answer) (is : IsShard s) where
  node : NodeState
  node = at_clock now s.part

  abbrev seen : List Publication
  seen = seen_at s.ends (cell_of key)

  shows_row : last_row key seen None ≡ find_row key s.part.rows
  shows_row =
      let shows = is.shows (cell_of key) in
      rw (shows.ends, is.part) (covers_over (cell_of key) shows.front s.base s.journal is.node is.events shows.covers key refl)

  abbrev Told : Type 0
  Told = ((answer ≡ told.Busy (Why.Lease end now)) × (end < now + s.part.skew)) ⊎ ((now + s.part.skew ≤ end) × (at_state (row_at key s.part.rows).state (at_clock now s.part) call key Read (row_at key s.part.rows) ≡ answers (at_clock now s.part) key call answer))

  by_row : (shown : Snapshot) → IsLast key seen shown None → answer_of (of_row shown.state shown.stamp shown.ticket shown.shape) ≡ Some answer
      → at_state (row_at key s.part.rows).state (at_clock now s.part) call key Read (row_at key s.part.rows) ≡ answers (at_clock now s.part) key call answer
  by_row shown last e =
      let row_is : row_at key s.part.rows ≡ last.last.row = ap (λ o. unwrap_or o first_row) (sym shows_row ∙ last.row_is) in
      let shape = subst (λ (t : Snapshot). answer_of (of_row t.state t.stamp t.ticket t.shape) ≡ Some answer) (sym last.is) e in
      subst (λ (row : Row). at_state row.state (at_clock now s.part) call key Read row ≡ answers (at_clock now s.part) key call answer) (sym row_is)
      (stands (at_clock now s.part) call key answer last.last.row.state last.last.row last.last.ticket refl shape)

  by_lease : (over : Bool) (shown : Snapshot) → nat_lt end (now + s.part.skew) ≡ over → IsLast key seen shown None
      → answer_of (cond over (local.Busy (Why.Lease end now)) (of_row shown.state shown.stamp shown.ticket shown.shape)) ≡ Some answer → Told
  by_lease true shown past last e = inl (sym (inside (told.Busy (Why.Lease end now)) answer e), ltb-true end (now + s.part.skew) past)
  by_lease false shown past last e =
      inr (ltb-false end (now + s.part.skew) past, by_row shown last e)

  by_key : (same : Bool) (shown : Snapshot) → bytes_eq shown.key key ≡ same → last_shown seen ≡ Some shown
      → answer_of (cond same (cond (nat_lt end (now + s.part.skew)) (local.Busy (Why.Lease end now)) (of_row shown.state shown.stamp shown.ticket shown.shape)) local.Elsewhere) ≡ Some answer → Told
  by_key true shown same last e = by_lease (nat_lt end (now + s.part.skew)) shown refl (last_is key seen shown None last ((bytes_eq-Decides shown.key key).0 same)) e
  by_key false shown same last e = nothing answer e

  by_shown : (shown : Option Snapshot) → last_shown seen ≡ shown → answer_of (local_of shown key end now s.part.skew) ≡ Some answer → Told
  by_shown None last e = nothing answer e
  by_shown (Some shown) last e = by_key (bytes_eq shown.key key) shown refl last e

  pub told_locally : answer_of (local_at s key end now) ≡ Some answer → Told
  told_locally e = by_shown (last_shown seen) refl e

-- ---- the part's own test of its lease
abbrev asked : ShardState → List ℕ → ℕ → CallNo → Bool → Stepped
asked s key now call over = at_lease over (at_clock now s.part) call key Read

past_lease : (s : ShardState) (key : List ℕ) (now : ℕ) (call : CallNo) (answer : Answer) → answer ≡ told.Busy (Why.Lease (lease_end s.part) now) → lease_end s.part < now + s.part.skew → ReadAs s key now call answer
past_lease s key now call answer busy over =
    ap (asked s key now call) (lt-ltb (lease_end s.part) (now + s.part.skew) over) ∙ ap (answers (at_clock now s.part) key call) (sym busy)

within_lease : (s : ShardState) (key : List ℕ) (now : ℕ) (call : CallNo) (answer : Answer) → now + s.part.skew ≤ lease_end s.part
    → at_state (row_at key s.part.rows).state (at_clock now s.part) call key Read (row_at key s.part.rows) ≡ answers (at_clock now s.part) key call answer → ReadAs s key now call answer
within_lease s key now call answer runs is = ap (asked s key now call) (le-ltb (lease_end s.part) (now + s.part.skew) runs) ∙ is

pub local_reads_are_reads : LocalReadsAreReads
local_reads_are_reads s key now call answer is e =
    ⊎_elim (λ busy. past_lease s key now call answer busy.0 busy.1) (λ row. within_lease s key now call answer row.0 row.1)
    (told_locally s key (lease_end s.part) now call answer is e)

pub earlier_leases_do : EarlierLeasesDo
earlier_leases_do s key end now call answer is below e =
    ⊎_elim (λ busy. inl busy) (λ row. inr (within_lease s key now call answer (le_trans row.0 below) row.1)) (told_locally s key end now call answer is e)
