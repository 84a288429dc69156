-- To take a batch is an effect of each key, or two: a row is taken or passed, and the node becomes ready.
use Rattle.std.proofs.Common.{◌≡◌, ℕ, Bool, true, false, cond, not, ◌||◌, List, [], ◌∷◌, ◌≤◌, ◌∙◌, sym, refl, ap, subst, inl, inr, ⊎_elim, arith, le_of_eq, Some, None, nat_cmp, Ordering, Less, Equal, Greater, if◌then◌else◌}
use Rattle.std.specs.Option.{option_or}
use Rattle.std.proofs.lemmas.Bool.{false≢true, and_parts, and_cases, or_parts, or_cases}
use Rattle.std.proofs.lemmas.Cmp.{ranked}
use Rattle.hk_base.specs.declared.call.State.{State}
use Rattle.hk_base.specs.declared.call.State.TheVariants as State
use Rattle.hk_base.specs.declared.letter.CopyItem.{CopyItem}
use Rattle.hk_base.specs.Stamp.{tag_of}
use Rattle.hk_copy.specs.Batches.{last_key}
use Rattle.hk_key.specs.declared.row.Row.{Row}
use Rattle.hk_key.specs.Table.{state_of_copy, copied_same, on_copy_at, on_copy}
use Rattle.hk_register.specs.Machine.{In, Marked, WaitingUpdate, Phase, Node, Mark, RegisterState}
use Rattle.hk_register.specs.Machine.Phase.{Valid, Invalid, Write, Replay, Trans}
use Rattle.hk_register.specs.Machine.Message.{Give}
use Rattle.hk_register.specs.Effects.{Change, Has, IsIdle, row_mark}
use Rattle.hk_register.specs.Effects.Effect.{CopyRow, PassRow, CopyValid, GetReady}
use Rattle.hk_register.specs.Parts.{Parts}
use Rattle.hk_node.specs.Rows.{row_at}
use Rattle.hk_node.specs.Node.{NodeState, epoch_of}
use Rattle.hk_node.specs.Stepped.{Stepped}
use Rattle.hk_node.specs.Copies.{merged}
use Rattle.hk_effects.specs.Projection.{is_behind, key_node, row_node, phase_of, first_item, item_at, covers, step_marks}
use Rattle.hk_effects.specs.Laws.{OneEffect, Effects}
use Rattle.hk_effects.proofs.Frames.{itself, weaker_trans, narrow}
use Rattle.hk_effects.proofs.Marks.{own_pending, row_is_new}
use Rattle.hk_effects.proofs.TwoEffects.{mid_state, at_mid, mid_change, second_change}
use Rattle.hk_effects.proofs.Nodes.{OwesStep, quiet_node}
use Rattle.hk_effects.proofs.Rising.{RisesBehind, item_keys, next_cursor, behind_last, upto_last}
use Rattle.hk_node.proofs.Order.{AreTouched}
use Rattle.hk_effects.proofs.Batches.{merged_below, merged_past, merged_at}

copied_phase : (v : Bool) → phase_of (state_of_copy v) None ≡ (if v then Valid else Invalid)
copied_phase true = refl
copied_phase false = refl

-- a phase with nothing pending
calm_of : (ph : Phase) → ((p : WaitingUpdate) → Has ph p → ⊥) → IsIdle ph
calm_of Valid none = inl refl
calm_of Invalid none = inr refl
calm_of (Write p) none = absurd (none p refl)
calm_of (Replay p) none = absurd (none p refl)
calm_of (Trans p) none = absurd (none p refl)

-- a row that is copied has nothing pending
still_calm : (v : Bool) (state : State) (r : Row) → ((p : WaitingUpdate) → Has (phase_of r.state r.pending) p → ⊥) → (p : WaitingUpdate) → Has (phase_of (copied_same v state r).state (copied_same v state r).pending) p → ⊥
still_calm false state r none p h = none p h
still_calm true State.Valid r none p h = none p h
still_calm true State.Write r none p h = none p h
still_calm true State.Replay r none p h = none p h
still_calm true State.Trans r none p h = none p h
still_calm true State.Invalid r none p h = h

copy_calm : (o : Ordering) (r : Row) (i : CopyItem) → ((p : WaitingUpdate) → Has (phase_of r.state r.pending) p → ⊥) → (p : WaitingUpdate) → Has (phase_of (on_copy_at o r i).state (on_copy_at o r i).pending) p → ⊥
copy_calm Greater r i none p h = none p h
copy_calm Equal r i none p h = still_calm i.valid r.state r none p h
copy_calm Less r i none p h = by_valid i.valid h
  where
    by_valid : (v : Bool) → Has (phase_of (state_of_copy v) None) p → ⊥
    by_valid true h = h
    by_valid false h = h

-- a mark that is not new
drop_mark : (st new : RegisterState) (n : ℕ) (z : Node) (k : Mark) → Marked st k → Change st new n z [] (k ∷ []) [] [] → Change st new n z [] [] [] []
drop_mark st new n z k marked ch =
    narrow st new n z [] [] (k ∷ []) [] [] [] (λ l h. h) (λ j h. absurd h) (λ j h. ⊎_elim (λ (e : j ≡ k). (k, rw e (itself k), inr marked)) (λ (none : ⊥). absurd none) h) ch

-- the node with a row, ready or not, copied or not
abbrev pub as_copied : NodeState → Bool → Bool → Row → Node
as_copied x ready c r = row_node (record x { ready = ready }) c r

-- what a batch leaves of a node
abbrev pub after_batch : NodeState → Bool → List CopyItem → Stepped
after_batch x done items = record { node = record x { ready = done; cursor = option_or (last_key items) x.cursor; rows = merged items x.rows }; letters = []; told = []; installed = None }

-- The node is not ready, so nothing of it is pending.
module _ (V : ℕ → List ℕ) (st : RegisterState) (parts : Parts V st) (key : List ℕ) (x : NodeState) (is : st.node x.id.0 ≡ key_node key (Some x)) (some : 1 ≤ epoch_of x) (shadow : x.ready ≡ false) where
  here_is : key_node key (Some x) ≡ row_node x (not (is_behind x.cursor key)) (row_at key x.rows)
  here_is = rw shadow refl

  is_shadow : st.node x.id.0 ≡ row_node x (not (is_behind x.cursor key)) (row_at key x.rows)
  is_shadow = is ∙ here_is

  none_waits : (p : WaitingUpdate) → Has (phase_of (row_at key x.rows).state (row_at key x.rows).pending) p → ⊥
  none_waits p has =
      let w = own_pending V st parts x.id.0 p (rw is_shadow has) in
      let r : x.ready ≡ true = rw is_shadow at w.ready in
      false≢true (sym shadow ∙ r)

  old_mark : (c : Bool) (r : Row) → r.stamp ≡ (row_at key x.rows).stamp → Marked st (row_mark x.id.0 (as_copied x false c r))
  old_mark c r same =
      let own : row_mark x.id.0 (as_copied x false c r) ≡ row_mark x.id.0 (st.node x.id.0) = rw (is_shadow, same, shadow) refl in
      rw own ((parts.nodes x.id.0).marked (rw is_shadow some))

  -- the change that takes the key to this row, not ready yet
  abbrev Copied : RegisterState → Row → Type 0
  Copied new r = Change st new x.id.0 (as_copied x false true r) [] (row_mark x.id.0 (as_copied x false true r) ∷ []) [] []

  -- a row that is not above the node's is passed
  passes_row : (new : RegisterState) (from : ℕ) (i : CopyItem) → tag_of i.stamp ≤ tag_of (row_at key x.rows).stamp → In st.letters (Give from (epoch_of x) (tag_of i.stamp) i.kind i.content i.valid) → Copied new (row_at key x.rows) → OneEffect V st new
  passes_row new from i upto sent ch = (
    PassRow x.id.0 from (tag_of i.stamp) i.kind i.content i.valid,
    record {
      allowed = (rw is_shadow sent, rw is_shadow some, rw is_shadow upto);
      change = rw (is_shadow, shadow) (drop_mark st new x.id.0 (as_copied x false true (row_at key x.rows)) (row_mark x.id.0 (as_copied x false true (row_at key x.rows))) (old_mark true (row_at key x.rows) refl) ch);
    },
  )

  -- one of the same stamp makes an Invalid row Valid, where it was Valid there
  copies_same : (new : RegisterState) (from : ℕ) (i : CopyItem) → tag_of (row_at key x.rows).stamp ≡ tag_of i.stamp → In st.letters (Give from (epoch_of x) (tag_of i.stamp) i.kind i.content i.valid) →
      (v : Bool) → i.valid ≡ v → (state : State) → Copied new (copied_same v state (row_at key x.rows)) → OneEffect V st new
  copies_same new from i same sent false e state ch = passes_row new from i (le_of_eq (sym same)) sent ch
  copies_same new from i same sent true e State.Valid ch = passes_row new from i (le_of_eq (sym same)) sent ch
  copies_same new from i same sent true e State.Write ch = passes_row new from i (le_of_eq (sym same)) sent ch
  copies_same new from i same sent true e State.Replay ch = passes_row new from i (le_of_eq (sym same)) sent ch
  copies_same new from i same sent true e State.Trans ch = passes_row new from i (le_of_eq (sym same)) sent ch
  copies_same new from i same sent true e State.Invalid ch =
      let r : Row = record (row_at key x.rows) { state = State.Valid } in
      let ch' = drop_mark st new x.id.0 (as_copied x false true r) (row_mark x.id.0 (as_copied x false true r)) (old_mark true r refl) ch in
      let sent' : In st.letters (Give from (epoch_of x) (tag_of i.stamp) i.kind i.content true) = rw e at sent in
      (CopyValid x.id.0 from (tag_of i.stamp) i.kind i.content, record { allowed = (rw is_shadow sent', rw is_shadow some, rw is_shadow (sym same)); change = rw (is_shadow, shadow) ch' })

  copies_row : (new : RegisterState) (from : ℕ) (i : CopyItem) (o : Ordering) → o ≡ nat_cmp (tag_of (row_at key x.rows).stamp) (tag_of i.stamp) → In st.letters (Give from (epoch_of x) (tag_of i.stamp) i.kind i.content i.valid) →
      Copied new (on_copy_at o (row_at key x.rows) i) → OneEffect V st new
  copies_row new from i Less rank sent ch =
      let above = ranked (tag_of (row_at key x.rows).stamp) (tag_of i.stamp) Less rank in
      let z : Node = record (as_copied x false true (row_at key x.rows)) { phase = if i.valid then Valid else Invalid; stamp = tag_of i.stamp; kind = i.kind; content = i.content; kept_val = false } in
      let ch' : Change st new x.id.0 z [] (row_mark x.id.0 z ∷ []) [] [] = subst (λ (ph : Phase). Change st new x.id.0 (record z { phase = ph }) [] (row_mark x.id.0 z ∷ []) [] []) (copied_phase i.valid) ch in
      (CopyRow x.id.0 from (tag_of i.stamp) i.kind i.content i.valid, record { allowed = (rw is_shadow sent, rw is_shadow some, rw is_shadow above); change = rw (is_shadow, shadow) ch' })
  copies_row new from i Equal rank sent ch = copies_same new from i (ranked (tag_of (row_at key x.rows).stamp) (tag_of i.stamp) Equal rank) sent i.valid refl (row_at key x.rows).state ch
  copies_row new from i Greater rank sent ch =
      let above = ranked (tag_of (row_at key x.rows).stamp) (tag_of i.stamp) Greater rank in
      passes_row new from i (omega (arith, above)) sent ch

  -- ---- a batch
  module _ (from : ℕ) (done : Bool) (items : List CopyItem) (touched : AreTouched x.rows) (rises : RisesBehind x.cursor (item_keys items))
      (sent : covers key x.cursor done items ≡ true → In st.letters (Give from (epoch_of x) (tag_of (item_at key items).stamp) (item_at key items).kind (item_at key items).content (item_at key items).valid)) where
    -- the node afterwards
    now_is : (d : Bool) (r : Row) → done ≡ d → row_at key (merged items x.rows) ≡ r → (c : Bool) → cond d true (not (is_behind (next_cursor x.cursor items) key)) ≡ c → key_node key (Some (after_batch x done items).node) ≡ as_copied x d c r
    now_is d r ed er c ec = rw (er, ed, ec) refl

    -- the change that the event makes
    abbrev Taken : RegisterState → Type 0
    Taken new =
        Change st new x.id.0 (key_node key (Some (after_batch x done items).node)) [] (step_marks x.id.0 (key_node key (Some x)) (key_node key (Some (after_batch x done items).node)) []) [] []

    changed : (new : RegisterState) → Taken new → (d : Bool) (r : Row) (c : Bool) → done ≡ d → row_at key (merged items x.rows) ≡ r → cond d true (not (is_behind (next_cursor x.cursor items) key)) ≡ c → ((p : WaitingUpdate) → Has (phase_of r.state r.pending) p → ⊥) →
        Change st new x.id.0 (as_copied x d c r) [] (row_mark x.id.0 (as_copied x d c r) ∷ []) [] []
    changed new ch d r c ed er ec none =
        row_is_new st x.id.0 (as_copied x d c r) new (key_node key (Some x)) [] [] [] [] [] some refl (λ p has. absurd (none p has)) (λ l h. h) (λ k h. absurd h)
        (subst (λ (y : Node). Change st new x.id.0 y [] (step_marks x.id.0 (key_node key (Some x)) y []) [] []) (now_is d r ed er c ec) ch)

    -- the key's row is r, by this effect
    covered : (new : RegisterState) → Taken new → (d : Bool) (r : Row) → done ≡ d → row_at key (merged items x.rows) ≡ r → (d ≡ false → not (is_behind (next_cursor x.cursor items) key) ≡ true) → ((p : WaitingUpdate) → Has (phase_of r.state r.pending) p → ⊥) →
        ((to : RegisterState) → Copied to r → OneEffect V st to) → Effects V st new
    covered new ch false r ed er upto none effect = inl (effect new (changed new ch false r true ed er (upto refl) none))
    covered new ch true r ed er upto none effect =
        let z = as_copied x true true r in
        let z0 = as_copied x false true r in
        let ks = row_mark x.id.0 z0 ∷ [] in
        let mid : RegisterState = mid_state st x.id.0 z0 [] ks [] [] in
        let here = at_mid st x.id.0 z0 [] ks [] [] in
        let whole = changed new ch true r true ed er refl none in
        let second = second_change st new x.id.0 z0 z [] [] ks (row_mark x.id.0 z ∷ []) [] [] [] whole
        (λ k h. ⊎_elim (λ (e : k ≡ row_mark x.id.0 z0). let i = whole.marks_new (row_mark x.id.0 z) (inl refl) in (i.0, weaker_trans k (row_mark x.id.0 z) i.0 (rw e (record { who = refl; epoch = refl; stamp = refl; exact = λ y. y; ready = λ y. refl })) i.1, i.2)) (λ (no_more : ⊥). absurd no_more) h) in
        let idle : IsIdle z0.phase = calm_of (phase_of r.state r.pending) none in
        inr (mid, effect mid (mid_change st x.id.0 z0 [] ks [] []), (GetReady x.id.0, record { allowed = (rw here some, rw here refl, rw here idle); change = rw here second }))

    -- nothing of the key changes
    as_before : (new : RegisterState) → Taken new → (c : Bool) → done ≡ false → row_at key (merged items x.rows) ≡ row_at key x.rows → not (is_behind x.cursor key) ≡ c → not (is_behind (next_cursor x.cursor items) key) ≡ c → Effects V st new
    as_before new ch c ed same was_c now_c =
        let node : key_node key (Some (after_batch x done items).node) ≡ key_node key (Some x) =
        now_is false (row_at key x.rows) ed same c now_c ∙ (ap (λ (b : Bool). row_node (record x { ready = b }) c (row_at key x.rows)) (sym shadow) ∙ (ap (λ (b : Bool). row_node x b (row_at key x.rows)) (sym was_c) ∙ sym here_is)) in
        quiet_node V st parts key x is (after_batch x done items) [] node refl refl new ch

    -- a key that was copied before: the node may become ready
    passed : (new : RegisterState) → Taken new → (d : Bool) → done ≡ d → is_behind x.cursor key ≡ false → Effects V st new
    passed new ch false ed low = as_before new ch true ed (merged_below x.cursor key items x.rows rises low) (ap not low) (ap not (upto_last x.cursor key items rises low))
    passed new ch true ed low =
        let copied : not (is_behind x.cursor key) ≡ true = ap not low in
        let idle : IsIdle (phase_of (row_at key x.rows).state (row_at key x.rows).pending) = calm_of (phase_of (row_at key x.rows).state (row_at key x.rows).pending) none_waits in
        let whole = changed new ch true (row_at key x.rows) true ed (merged_below x.cursor key items x.rows rises low) refl none_waits in
        inl (GetReady x.id.0, record { allowed = (rw is_shadow some, rw is_shadow copied, rw is_shadow idle); change = rw (is_shadow, copied) whole })

    -- a key behind the last one is not copied yet
    beyond : (new : RegisterState) → Taken new → done ≡ false → is_behind (next_cursor x.cursor items) key ≡ true → Effects V st new
    beyond new ch ed past =
        as_before new ch false ed (merged_past x.cursor key items x.rows rises past) (ap not (behind_last x.cursor key items rises past)) (ap not past)

    pub batch_step : OwesStep V st parts key x is (after_batch x done items)
    batch_step new ch = by_cover (covers key x.cursor done items) refl
      where
        behind_of : (b : Bool) → not b ≡ false → b ≡ true
        behind_of true e = refl
        behind_of false e = absurd (false≢true (sym e))

        by_cover : (b : Bool) → covers key x.cursor done items ≡ b → Effects V st new
        by_cover true e =
            let c = and_parts (is_behind x.cursor key) (done || not (is_behind (next_cursor x.cursor items) key)) e in
            let row = row_at key x.rows in
            let item = item_at key items in
            let upto : done ≡ false → not (is_behind (next_cursor x.cursor items) key) ≡ true = λ f.
            ⊎_elim (λ (t : done ≡ true). absurd (false≢true (sym f ∙ t))) (λ (u : not (is_behind (next_cursor x.cursor items) key) ≡ true). u) (or_cases done (not (is_behind (next_cursor x.cursor items) key)) c.1) in
            ⊎_elim
            (λ (h : row_at key (merged items x.rows) ≡ on_copy row item).
            covered new ch done (on_copy row item) refl h upto (copy_calm (nat_cmp (tag_of row.stamp) (tag_of item.stamp)) row item none_waits) (λ to ch. copies_row to from item (nat_cmp (tag_of row.stamp) (tag_of item.stamp)) refl (sent e) ch))
            (λ (h : (row_at key (merged items x.rows) ≡ row) × (item ≡ first_item)). covered new ch done row refl h.0 upto none_waits (λ to ch. passes_row to from item (rw h.1 (omega arith)) (sent e) ch)) (merged_at x.cursor key items x.rows touched rises)
        by_cover false e = ⊎_elim
            (λ (low : is_behind x.cursor key ≡ false). passed new ch done refl low)
            (λ (f : (done || not (is_behind (next_cursor x.cursor items) key)) ≡ false).
            let both = or_parts done (not (is_behind (next_cursor x.cursor items) key)) f in beyond new ch both.0 (behind_of (is_behind (next_cursor x.cursor items) key) both.1)) (and_cases (is_behind x.cursor key) (done || not (is_behind (next_cursor x.cursor items) key)) e)
