-- What a read is told from its key's row is shown by the list of its cell.
use Rattle.std.proofs.Common.{◌≡◌, ℕ, ◌+◌, ◌≤◌, List, ◌++◌, true, is_some, Option, Some, None, unwrap_or, refl, sym, ap, ◌∙◌, subst, arith}
use Rattle.std.proofs.lemmas.Bool.{false≢true}
use Rattle.std.specs.Option.{IfSome}
use Rattle.hk_base.specs.declared.stamp.TheConstants.{MAX_VERSION}
use Rattle.hk_base.specs.declared.stamp.Stamp.{Stamp}
use Rattle.hk_base.specs.declared.call.Content.{Content}
use Rattle.hk_base.specs.declared.call.State.{State}
use Rattle.hk_base.specs.declared.call.State.TheVariants.{Valid, Invalid, Write, Replay, Trans}
use Rattle.hk_base.specs.declared.call.Op.TheVariants.{Read}
use Rattle.hk_base.specs.declared.call.CallNo.{CallNo}
use Rattle.hk_base.specs.declared.call.Answer.{Answer}
use Rattle.hk_base.specs.declared.call.Answer.TheVariants as word
use Rattle.hk_base.specs.Stamp.{tag_of}
use Rattle.hk_key.specs.declared.row.Row.{Row}
use Rattle.hk_key.specs.Sound.{IsSound}
use Rattle.hk_key.specs.Table.{first_row}
use Rattle.hk_node.specs.Rows.{find_row, row_at}
use Rattle.hk_node.specs.Node.{members_of}
use Rattle.hk_node.specs.Calls.{lease_end}
use Rattle.hk_node.proofs.Order.{holds_found}
use Rattle.hk_outside.specs.Desk.{answers}
use Rattle.hk_snap.specs.declared.rule.Publication.{Publication}
use Rattle.hk_snap.specs.Snapshots.{cell_of}
use Rattle.hk_snap.specs.Ends.{Reader, at}
use Rattle.hk_shard.specs.Shard.{ShardState, IsShard}
use Rattle.hk_shard.proofs.Keeping.{part_is_node}
use Rattle.hk_told.specs.Lists.{last_row, row_in}
use Rattle.hk_told.specs.Steps.{AtOnce}
use Rattle.hk_told.specs.Shown.{Shown}
use Rattle.hk_locked.specs.Locked.{LockedState, ReaderState}
use Rattle.hk_locked.specs.Steps.{end_at, Meets, MeetsLease}
use Rattle.hk_locked.specs.ByRow.{with_content, in_state, told_by, ReadsRow}
use Rattle.hk_locked.proofs.Keeping.{shows_of}

inside : {A : Type 0} (x y : A) → Some x ≡ Some y → x ≡ y
inside x y e = ap (λ o. unwrap_or o x) e

nothing : {A : Type 0} {P : Type 0} (x : A) → None ≡ Some x → P
nothing x e = absurd (false≢true (ap is_some e))

-- the stamp of a shard's row is within the limit
pub row_in_limit : (s : ShardState) (key : List ℕ) → IsShard s → IfSome (find_row key s.part.rows) (λ row. row.stamp.version ≤ MAX_VERSION)
row_in_limit s key is = within (find_row key s.part.rows) (holds_found (λ row. IsSound s.part.id (members_of s.part) row) key s.part.rows (part_is_node s is).rows)
  where
    within : (found : Option Row) → IfSome found (λ row. IsSound s.part.id (members_of s.part) row) → IfSome found (λ row. row.stamp.version ≤ MAX_VERSION)
    within None sound = tt
    within (Some row) sound = sound.within

-- so is that of the row that a key without one counts as
pub row_at_in_limit : (s : ShardState) (key : List ℕ) → IsShard s → (row_at key s.part.rows).stamp.version ≤ MAX_VERSION
row_at_in_limit s key is = within (find_row key s.part.rows) (row_in_limit s key is)
  where
    within : (found : Option Row) → IfSome found (λ row. row.stamp.version ≤ MAX_VERSION) → (unwrap_or found first_row).stamp.version ≤ MAX_VERSION
    within None limit = omega arith
    within (Some row) limit = limit

-- ---- it suits a read
content_suits : (stamp : Stamp) (content : Option Content) (answer : Answer) → with_content stamp content ≡ Some answer → answers Read answer ≡ true
content_suits stamp None answer e = subst (λ (a : Answer). answers Read a ≡ true) (inside word.Missing answer e) refl
content_suits stamp (Some content) answer e = subst (λ (a : Answer). answers Read a ≡ true) (inside (word.Found content (tag_of stamp)) answer e) refl

state_suits : (state : State) (stamp : Stamp) (content : Option Content) (answer : Answer) → in_state state stamp content ≡ Some answer → answers Read answer ≡ true
state_suits Valid stamp content answer e = content_suits stamp content answer e
state_suits Invalid stamp content answer e = nothing answer e
state_suits Write stamp content answer e = nothing answer e
state_suits Replay stamp content answer e = nothing answer e
state_suits Trans stamp content answer e = nothing answer e

row_suits : (found : Option Row) (answer : Answer) → told_by found ≡ Some answer → answers Read answer ≡ true
row_suits None answer e = subst (λ (a : Answer). answers Read a ≡ true) (inside word.Missing answer e) refl
row_suits (Some row) answer e = state_suits row.state row.stamp row.content answer e

-- ---- what the key's last publication shows is told
module _ (old grown : List Publication) (call : CallNo) (key : List ℕ) (end now skew : ℕ) (runs : now + skew ≤ end) where
  abbrev IsShown : Answer → Type 0
  IsShown answer = Shown old grown call key Read end now skew answer

  held : (row : Row) (content : Option Content) (answer : Answer) → row_in key (old ++ grown) ≡ row → row.state ≡ Valid → row.content ≡ content → with_content row.stamp content ≡ Some answer → IsShown answer
  held row None answer is valid holds e = subst IsShown (inside word.Missing answer e)
      (subst (λ (r : Row). AtOnce end now skew r Read word.Missing) (sym is) (runs, valid, rw holds refl, rw holds refl))
  held row (Some content) answer is valid holds e = subst IsShown (inside (word.Found content (tag_of row.stamp)) answer e)
      (subst (λ (r : Row). AtOnce end now skew r Read (word.Found content (tag_of row.stamp))) (sym is) (runs, valid, rw holds refl, rw holds refl))

  stands : (row : Row) (state : State) (answer : Answer) → row_in key (old ++ grown) ≡ row → row.state ≡ state → in_state state row.stamp row.content ≡ Some answer → IsShown answer
  stands row Valid answer is in_it e = held row row.content answer is in_it refl e
  stands row Invalid answer is in_it e = nothing answer e
  stands row Write answer is in_it e = nothing answer e
  stands row Replay answer is in_it e = nothing answer e
  stands row Trans answer is in_it e = nothing answer e

  by_found : (found : Option Row) (answer : Answer) → last_row key (old ++ grown) None ≡ found → told_by found ≡ Some answer → IsShown answer
  by_found None answer is e = held first_row None answer (ap (λ (o : Option Row). unwrap_or o first_row) is) refl refl e
  by_found (Some row) answer is e = stands row row.state answer (ap (λ (o : Option Row). unwrap_or o first_row) is) refl e

-- a reader met the shard and its lease, and the key's row was told
pub row_is_read : (s : LockedState) (key : List ℕ) (old met new : ReaderState) (until : ℕ) (told : Option Answer) (answer : Answer) → IsShard s.shard → Meets s key old met → MeetsLease s met new
    → until ≡ lease_end s.shard.part → told ≡ told_by (find_row key s.shard.part.rows) → told ≡ Some answer → ReadsRow key old new until answer
row_is_read s key old met new until told answer is m l ends tells some = record {
  end = ends ∙ sym l.end;
  loads = let p = l.looked.loads in let q = ap (λ x. x.loads) m.lease in omega (arith, p, q);
  suits = row_suits (find_row key s.shard.part.rows) answer (sym tells ∙ some);
  shown = λ now call runs. (
    m.grown.0,
    1,
    sym (m.grown.1 ∙ same_seen),
    ap (λ (c : Reader). (at c.ends (cell_of key)).loads) l.cells ∙ m.loads,
    omega arith,
    by_found (end_at key old).seen m.grown.0 call key new.lease.end now new.skew runs (find_row key s.shard.part.rows) answer
        (ap (λ (p : List Publication). last_row key p None) (m.grown.1 ∙ m.seen) ∙ (shows_of s.shard is).covers key) (sym tells ∙ some),
  );
}
  where
    same_seen : (end_at key met).seen ≡ (end_at key new).seen
    same_seen = sym (ap (λ (c : Reader). (at c.ends (cell_of key)).seen) l.cells)
