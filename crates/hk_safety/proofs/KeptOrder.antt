-- What is kept of a key gives the order that is printed of it.
use Rattle.std.proofs.Common.{◌≡◌, ◌⊎◌, ℕ, suc, Bool, true, false, cond, ◌+◌, List, [], ◌∷◌, ◌++◌, map, ◌<◌, ◌≤◌, ◌∙◌, sym, refl, ap, ap₂, subst, append-nil}
use Rattle.std.proofs.Common.{inl, inr, ⊎_elim, arith, Option, Some, None, unwrap_or, eqb, length, find, is_some, flat_map, nat_cmp, Ordering, Less}
use Rattle.std.specs.Prelude.{if◌then◌else◌, ◌==◌}
use Rattle.std.specs.Ordering.{MatchOrdering}
use Rattle.std.specs.Option.{option_map}
use Rattle.std.specs.List.{AllByRecursion}
use Rattle.std.specs.List.Sorted.{IsStrictlySortedBy}
use Rattle.std.specs.BTreeMap.{is_at}
use Rattle.std.specs.Map.{lookup, keys_of}
use Rattle.std.specs.Cmp.{ranks, unsigned_ties}
use Rattle.std.proofs.lemmas.Bool.{false≢true, eqb-true, eq-eqb}
use Rattle.std.proofs.lemmas.List.{map-append}
use Rattle.std.proofs.lemmas.Map.Keys.{sorted_head, sorted_tail}
use Rattle.hk_base.specs.declared.call.CallNo.{CallNo}
use Rattle.hk_base.specs.declared.stamp.Kind.{Kind}
use Rattle.hk_base.specs.declared.stamp.Kind.TheVariants as Kind
use Rattle.hk_history.specs.declared.event.Entry.{Entry}
use Rattle.hk_register.specs.Machine.{In, Update, Item, RegisterState}
use Rattle.hk_register.specs.Machine.Item.{Called, Answered, Dropped, ReadOnly, Rejected}
use Rattle.hk_register.specs.Facts.{Complete}
use Rattle.hk_register.specs.Parts.{Parts}
use Rattle.hk_register.specs.Effects.{next_stamp}
use Rattle.hk_register.specs.Printed.{Slot, StandsAt, tag_at, entry_of, entries, printed}
use Rattle.hk_register.proofs.Once.{look_slot}
use Rattle.hk_effects.specs.Projection.{Trace, project}
use Rattle.hk_effects.specs.Runs.{IsKept}
use Rattle.hk_effects.specs.Orders.{family, order_of}
use Rattle.hk_effects.proofs.Legality.{own_agrees}
use Rattle.hk_safety.specs.declared.evidence.Evidence.{Evidence}
use Rattle.hk_safety.specs.declared.evidence.Evidence.TheVariants.{Covers}
use Rattle.hk_safety.specs.declared.evidence.Evidence.TheVariants as Evidence
use Rattle.hk_safety.specs.declared.key_run.AtStamp.{AtStamp}
use Rattle.hk_safety.specs.declared.key_run.ReadOnlyCall.{ReadOnlyCall}
use Rattle.hk_safety.specs.Kept.{KeyState, no_stamp, at_stamp, looks_at, calls_in, call_of, update_at, IsKnown, IsKeyOf}
use Rattle.hk_safety.specs.Kept.{is_complete, update_entry, look_entry, entries_at, kept_order}
use Rattle.hk_safety.proofs.Slots.{look_at, look_of, look_slots_at, looks_have, has_stamp, slot_if, found_is, is_found}
use Rattle.hk_safety.proofs.Slots.{Row, update_part, look_part, row_slots, slots_of, Rising, AreRows, rows_are_printed}

-- ---- what an ordered map has at a stamp
abbrev pub Kept : Type 0
Kept = ℕ × AtStamp

at_true : (s t : ℕ) → is_at (nat_cmp s) t ≡ true → s ≡ t
at_true s t e = eqb-true s t (unsigned_ties s t ∙ e)

at_itself : (s : ℕ) → is_at (nat_cmp s) s ≡ true
at_itself s = sym (unsigned_ties s s) ∙ eq-eqb s s refl

at_other : (s t : ℕ) → (s ≡ t → ⊥) → is_at (nat_cmp s) t ≡ false
at_other s t ne = by_test (is_at (nat_cmp s) t) refl
  where
    by_test : (b : Bool) → is_at (nat_cmp s) t ≡ b → b ≡ false
    by_test true e = absurd (ne (at_true s t e))
    by_test false e = refl

less_is : (s t : ℕ) → nat_cmp s t ≡ Less → s < t
less_is s t e = subst (λ (o : Ordering). MatchOrdering o (s < t) (s ≡ t) (t < s)) e (ranks s t)

abbrev Above : ℕ → List Kept → Type 0
Above s rows = (p : Kept) → In rows p → s < p.0

above_from : (s : ℕ) (rows : List Kept) → AllByRecursion (λ t. nat_cmp s t ≡ Less) (keys_of rows) → Above s rows
above_from s [] all p h = absurd h
above_from s (q ∷ rows) all p (inl is) = let less = less_is s q.0 all.0 in omega (arith, less, ap (λ (p : Kept). p.0) is)
above_from s (q ∷ rows) all p (inr h) = above_from s rows all.1 p h

-- each stamp is below those behind it
abbrev pub Ordered : List Kept → Type 0
Ordered rows = IsStrictlySortedBy nat_cmp (keys_of rows)

pub above_head : (q : Kept) (rows : List Kept) → Ordered (q ∷ rows) → Above q.0 rows
above_head q rows ordered = above_from q.0 rows (sorted_head nat_cmp q.0 (keys_of rows) ordered)

pub ordered_rest : (q : Kept) (rows : List Kept) → Ordered (q ∷ rows) → Ordered rows
ordered_rest q rows ordered = sorted_tail nat_cmp q.0 (keys_of rows) ordered

-- what stands in an ordered map is found
pub found_at : (rows : List Kept) → Ordered rows → (p : Kept) → In rows p → lookup (is_at (nat_cmp p.0)) rows ≡ Some p.1
found_at [] ordered p h = absurd h
found_at (q ∷ rows) ordered p (inl is) =
    let here : lookup (is_at (nat_cmp q.0)) (q ∷ rows) ≡ Some q.1 = rw (at_itself q.0) refl in
    subst (λ (p : Kept). lookup (is_at (nat_cmp p.0)) (q ∷ rows) ≡ Some p.1) (sym is) here
found_at (q ∷ rows) ordered p (inr h) =
    let above : q.0 < p.0 = above_head q rows ordered p h in
    rw (at_other p.0 q.0 (λ e. omega (arith, above, e))) (found_at rows (ordered_rest q rows ordered) p h)

-- what is found stands there
stands_from : (s : ℕ) (rows : List Kept) (a : AtStamp) → lookup (is_at (nat_cmp s)) rows ≡ Some a → In rows (s, a)
stands_from s [] a e = absurd (false≢true (ap is_some e))
stands_from s (q ∷ rows) a e = by_test (is_at (nat_cmp s) q.0) refl e (stands_from s rows a)
  where
    by_test : (b : Bool) → is_at (nat_cmp s) q.0 ≡ b → cond b (Some q.1) (lookup (is_at (nat_cmp s)) rows) ≡ Some a →
        (lookup (is_at (nat_cmp s)) rows ≡ Some a → In rows (s, a)) → In (q ∷ rows) (s, a)
    by_test true t e more = let same : q.1 ≡ a = cc in inl (ap₂ (λ (s : ℕ) (a : AtStamp). (s, a)) (at_true s q.0 t) (sym same))
    by_test false t e more = inr (more e)

-- where something is kept of a stamp, it stands there
pub stands_or_nothing : (k : KeyState) (s : ℕ) → In k.stamps (s, at_stamp s k) ⊎ (at_stamp s k ≡ no_stamp)
stands_or_nothing k s = by_option (lookup (is_at (nat_cmp s)) k.stamps) refl
  where
    by_option : (o : Option AtStamp) → lookup (is_at (nat_cmp s)) k.stamps ≡ o → In k.stamps (s, unwrap_or o no_stamp) ⊎ (unwrap_or o no_stamp ≡ no_stamp)
    by_option None e = inr refl
    by_option (Some a) e = inl (stands_from s k.stamps a e)

-- ---- the rows of the stamps
abbrev row_of : Kept → Row
row_of p = record { stamp = p.0; complete = is_complete p.1.evidence }

abbrev rows_of : List Kept → List Row
rows_of rows = map row_of rows

row_from : (rows : List Kept) (r : Row) → In (rows_of rows) r → (p : Kept) × In rows p × (r ≡ row_of p)
row_from [] r h = absurd h
row_from (q ∷ rows) r (inl is) = (q, inl refl, is)
row_from (q ∷ rows) r (inr h) = let more = row_from rows r h in (more.0, inr more.1, more.2)

row_in : (rows : List Kept) (p : Kept) → In rows p → In (rows_of rows) (row_of p)
row_in [] p h = absurd h
row_in (q ∷ rows) p (inl is) = inl (ap row_of is)
row_in (q ∷ rows) p (inr h) = inr (row_in rows p h)

rows_rise : (rows : List Kept) → Ordered rows → Rising (rows_of rows)
rows_rise [] ordered = tt
rows_rise (q ∷ rows) ordered = (above, rows_rise rows (ordered_rest q rows ordered))
  where
    above : (r : Row) → In (rows_of rows) r → q.0 < r.stamp
    above r h = let from = row_from rows r h in let less = above_head q rows ordered from.0 from.1 in omega (arith, less, ap (λ (r : Row). r.stamp) from.2)

-- ---- their entries
entries_both : (xs ys : List Slot) → entries (xs ++ ys) ≡ entries xs ++ entries ys
entries_both [] ys = refl
entries_both (x ∷ xs) ys = ap (λ (es : List Entry). entry_of x ∷ es) (entries_both xs ys)

-- the entries of two parts
joined : (xs ys : List Slot) (es fs : List Entry) → entries xs ≡ es → entries ys ≡ fs → entries (xs ++ ys) ≡ es ++ fs
joined xs ys es fs e f = entries_both xs ys ∙ ap₂ (λ (x y : List Entry). x ++ y) e f

entry_if : (complete : Bool) (s : ℕ) (o : Option Update) → ((u : Update) → o ≡ Some u → u.stamp ≡ s) →
    entries (slot_if complete o) ≡ update_entry complete s (option_map call_of o)
entry_if complete s None at = refl
entry_if true s (Some u) at = ap (λ (t : ℕ). record { call = call_of u; tag = Some t } ∷ []) (at u refl)
entry_if false s (Some u) at = refl

update_entries : (complete : Bool) (s : ℕ) (us : List Update) → entries (slot_if complete (find (has_stamp s) us)) ≡ update_entry complete s (update_at s us)
update_entries complete s us = entry_if complete s (find (has_stamp s) us) (λ u e. (found_is s us u e).1)

-- a call that found a stamp has no tag
no_tag : (n s : ℕ) → tag_at (n + 1) s ≡ None
no_tag n s = subst (λ (k : ℕ). tag_at k s ≡ None) {x = suc n} {y = n + 1} (omega arith) refl

abbrev call_entry : CallNo → Entry
call_entry call = record { call = call; tag = None }

calls_entries : (read_only : List ReadOnlyCall) → map call_entry (calls_in read_only) ≡ map look_entry read_only
calls_entries [] = refl
calls_entries (l ∷ read_only) = ap (λ (es : List Entry). look_entry l ∷ es) (calls_entries read_only)

look_entries : (s : ℕ) (items : List Item) → entries (look_slots_at s items) ≡ map call_entry (looks_at s items)
look_entries s [] = refl
look_entries s (ReadOnly c t op held a ∷ items) =
    let new : List Slot = look_at s (length items + 1) (ReadOnly c t op held a) in
    let calls : List CallNo = if t == s then record { 0 = c } ∷ [] else [] in
    joined (look_slots_at s items) new (map call_entry (looks_at s items)) (map call_entry calls) (look_entries s items) (by_test (eqb t s))
    ∙ sym (map-append call_entry (looks_at s items) calls)
  where
    by_test : (b : Bool) → entries (cond b (look_slot (length items + 1) c t op held a ∷ []) []) ≡ map call_entry (cond b (record { 0 = c } ∷ []) [])
    by_test true = ap (λ (tag : Option ℕ). record { call = record { 0 = c }; tag = tag } ∷ []) (no_tag (length items) t)
    by_test false = refl
look_entries s (Called c t op ∷ items) = ap entries (append-nil (look_slots_at s items)) ∙ look_entries s items
look_entries s (Answered c t a ∷ items) = ap entries (append-nil (look_slots_at s items)) ∙ look_entries s items
look_entries s (Dropped c t a ∷ items) = ap entries (append-nil (look_slots_at s items)) ∙ look_entries s items
look_entries s (Rejected c op a ∷ items) = ap entries (append-nil (look_slots_at s items)) ∙ look_entries s items

-- a stamp has what the items and the updates tell of it
record Has (us : List Update) (items : List Item) (p : Kept) : Type 0 where
  update : p.1.update ≡ update_at p.0 us
  read_only : calls_in p.1.read_only ≡ looks_at p.0 items

module _ (us : List Update) (items : List Item) where
  row_entries : (p : Kept) → Has us items p → entries (row_slots us items (row_of p)) ≡ entries_at p
  row_entries p has =
      let complete : Bool = is_complete p.1.evidence in
      let update = update_entries complete p.0 us ∙ ap (update_entry complete p.0) (sym has.update) in
      let read_only = look_entries p.0 items ∙ ap (map call_entry) (sym has.read_only) ∙ calls_entries p.1.read_only in
      joined (update_part us (row_of p)) (look_part items (row_of p)) (update_entry complete p.0 p.1.update) (map look_entry p.1.read_only) update read_only

  all_entries : (rows : List Kept) → ((p : Kept) → In rows p → Has us items p) → entries (slots_of us items (rows_of rows)) ≡ flat_map (entries_at) rows
  all_entries [] has = refl
  all_entries (q ∷ rows) has =
      let first = row_entries q (has q (inl refl)) in
      let rest = all_entries rows (λ p h. has p (inr h)) in
      joined (row_slots us items (row_of q)) (slots_of us items (rows_of rows)) (entries_at q) (flat_map (entries_at) rows) first rest

-- ---- the rows of a key's stamps are its rows
pub some_stamp : (kind : Kind) (base n : ℕ) → 1 ≤ next_stamp kind base n
some_stamp Kind.Write base n = omega arith
some_stamp Kind.Rmw base n = omega arith

no_entry : (slots : List Slot) (x : Slot) → entries slots ≡ [] → In slots x → ⊥
no_entry [] x e h = h
no_entry (s ∷ slots) x e h = clash (entry_of s) (entries slots) e
  where
    clash : (a : Entry) (es : List Entry) → a ∷ es ≡ [] → ⊥
    clash a es e = cc

-- what is kept is what the state of the key has
record IsOf (V : ℕ → List ℕ) (k : KeyState) (st : RegisterState) : Type 0 where
  ordered : Ordered k.stamps
  update : (s : ℕ) → (at_stamp s k).update ≡ update_at s st.begun
  read_only : (s : ℕ) → calls_in (at_stamp s k).read_only ≡ looks_at s st.history
  known : (s : ℕ) → 1 ≤ s → IsKnown V st s (at_stamp s k).evidence

complete_of : (V : ℕ → List ℕ) (st : RegisterState) (s : ℕ) (ev : Evidence) → IsKnown V st s ev → is_complete ev ≡ true → Complete V st s
complete_of V st s (Evidence.Complete event) k e = k
complete_of V st s (Covers groups) k e = absurd (false≢true e)

is_complete_by : (V : ℕ → List ℕ) (st : RegisterState) (s : ℕ) (ev : Evidence) → IsKnown V st s ev → Complete V st s → is_complete ev ≡ true
is_complete_by V st s (Evidence.Complete event) k c = refl
is_complete_by V st s (Covers groups) k c = absurd (k.0 c)

module _ (V : ℕ → List ℕ) (st : RegisterState) (parts : Parts V st) (k : KeyState) (is : IsOf V k st) where
  here : (p : Kept) → In k.stamps p → at_stamp p.0 k ≡ p.1
  here p h = ap (λ (o : Option AtStamp). unwrap_or o no_stamp) (found_at k.stamps is.ordered p h)

  has : (p : Kept) → In k.stamps p → Has st.begun st.history p
  has p h =
      let at = here p h in
      record { update = sym (ap (λ (a : AtStamp). a.update) at) ∙ is.update p.0; read_only = sym (ap (λ (a : AtStamp). calls_in a.read_only) at) ∙ is.read_only p.0 }

  some : (u : Update) → In st.begun u → 1 ≤ u.stamp
  some u begun = subst (λ (s : ℕ). 1 ≤ s) (sym (parts.updates u begun).next) (some_stamp u.kind u.base u.who)

  -- what is kept as complete is
  complete_is : (p : Kept) → In k.stamps p → is_complete p.1.evidence ≡ true → (u : Update) → In st.begun u → u.stamp ≡ p.0 → Complete V st u.stamp
  complete_is p h e u begun at =
      let ev : (at_stamp p.0 k).evidence ≡ p.1.evidence = ap (λ (a : AtStamp). a.evidence) (here p h) in
      subst (Complete V st) (sym at) (complete_of V st p.0 (at_stamp p.0 k).evidence (is.known p.0 (subst (λ (s : ℕ). 1 ≤ s) at (some u begun)))
      (ap is_complete ev ∙ e))

  -- and what is complete is kept so
  is_complete_at : (u : Update) → In st.begun u → Complete V st u.stamp → is_complete (at_stamp u.stamp k).evidence ≡ true
  is_complete_at u begun c = is_complete_by V st u.stamp (at_stamp u.stamp k).evidence (is.known u.stamp (some u begun)) c

  update_row : (u : Update) → In st.begun u → Complete V st u.stamp → In (rows_of k.stamps) (record { stamp = u.stamp; complete = true })
  update_row u begun c = ⊎_elim
      (λ (h : In k.stamps (u.stamp, at_stamp u.stamp k)).
      let row = row_in k.stamps (u.stamp, at_stamp u.stamp k) h in
      subst (λ (b : Bool). In (rows_of k.stamps) (record { stamp = u.stamp; complete = b })) (is_complete_at u begun c) row)
      (λ (e : at_stamp u.stamp k ≡ no_stamp).
      let found = is.update u.stamp ∙ ap (option_map call_of) (is_found st.begun u parts.once begun) in
      absurd (false≢true (ap is_some (sym (ap (λ (a : AtStamp). a.update) e) ∙ found))))
      (stands_or_nothing k u.stamp)

  look_row : (x : Slot) → StandsAt st.history x.place (look_of x) → (b : Bool) × In (rows_of k.stamps) (record { stamp = x.stamp; complete = b })
  look_row x stands = ⊎_elim
      (λ (h : In k.stamps (x.stamp, at_stamp x.stamp k)). (is_complete (at_stamp x.stamp k).evidence, row_in k.stamps (x.stamp, at_stamp x.stamp k) h))
      (λ (e : at_stamp x.stamp k ≡ no_stamp).
      let none : looks_at x.stamp st.history ≡ [] = sym (is.read_only x.stamp) ∙ ap (λ (a : AtStamp). calls_in a.read_only) e in
      absurd (no_entry (look_slots_at x.stamp st.history) x (look_entries x.stamp st.history ∙ ap (map call_entry) none) (looks_have st.history x stands)))
      (stands_or_nothing k x.stamp)

  are_rows : AreRows V st (rows_of k.stamps)
  are_rows = record {
    rising = rows_rise k.stamps is.ordered;
    complete = λ r h c u begun e.
        let from = row_from k.stamps r h in
        let stamp : u.stamp ≡ from.0.0 = e ∙ ap (λ (r : Row). r.stamp) from.2 in
        complete_is from.0 from.1 (sym (ap (λ (r : Row). r.complete) from.2) ∙ c) u begun stamp;
    updates = update_row;
    read_only = look_row;
  }

  order_is : kept_order k ≡ entries (printed V st)
  order_is = sym (all_entries st.begun st.history k.stamps has) ∙ ap entries (rows_are_printed V st parts (rows_of k.stamps) are_rows)

-- what is kept of a key gives the order that is printed of it
pub kept_is_printed : (key : List ℕ) (k : KeyState) (t : Trace) → IsKeyOf key k t → IsStrictlySortedBy nat_cmp (keys_of k.stamps) → IsKept key t →
    kept_order k ≡ order_of key t
kept_is_printed key k t is ordered kept =
    let V : ℕ → List ℕ = family t.world.views in
    let parts : Parts V (project key t) = kept.parts V (own_agrees t.world kept.own) in
    order_is V (project key t) parts k (record { ordered = ordered; update = is.update; read_only = is.read_only; known = is.known })
