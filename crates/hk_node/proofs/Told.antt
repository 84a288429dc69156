-- What a step tells, row by row: whatever an event but a call tells was waited for at its key.
use Rattle.std.proofs.Common.{◌≡◌, ◌≢◌, inl, inr, ℕ, List, [], ◌∷◌, ◌++◌, Bool, true, false, cond, Option, Some, None, unwrap_or, refl, sym, ap, ◌∙◌, arith, subst}
use Rattle.std.specs.Option.{IsSomeAnd}
use Rattle.std.specs.List.{AllByRecursion, flat_map}
use Rattle.std.specs.List.Sorted.{IsStrictlySortedBy}
use Rattle.std.specs.Map.{keys_of}
use Rattle.std.proofs.lemmas.Bool.{false≢true}
use Rattle.std.proofs.lemmas.Option.{none-some}
use Rattle.hk_base.specs.declared.call.Reply.{Reply}
use Rattle.hk_key.specs.declared.row.Row.{Row}
use Rattle.hk_key.specs.Table.{Done, first_row}
use Rattle.hk_key.specs.Answered.{IsToldFor, HadWaiting}
use Rattle.hk_node.specs.Rows.{Rows, find_row, row_at}
use Rattle.hk_node.specs.Node.{NodeState}
use Rattle.hk_node.specs.Stepped.{told_of}
use Rattle.hk_node.specs.Steps.{viewed}
use Rattle.hk_node.specs.Laws.{Tells, ToldWereWaiting}
use Rattle.hk_node.proofs.Order.{Rising, Lt, same_key, same_true, same_of, lt_ne_back, find_here, find_next}
use Rattle.hk_node.proofs.Acts.{Acts}
use Rattle.hk_node.proofs.Ranged.{all_parts}
use Rattle.hk_node.proofs.StepCases.{by_event}

-- ---- the rows of a list that rises are those that are found by their keys
abbrev IsFoundIn : Rows → List ℕ × Row → Type 0
IsFoundIn rows r = row_at r.0 rows ≡ r.1

found_behind : (first : List ℕ × Row) (rows behind : Rows) → AllByRecursion (Lt first.0) (keys_of behind) → AllByRecursion (IsFoundIn rows) behind →
    AllByRecursion (IsFoundIn (first ∷ rows)) behind
found_behind first rows [] above all = tt
found_behind first rows (r ∷ behind) above all =
    (ap (λ (o : Option Row). unwrap_or o first_row) (find_next r.0 first rows (lt_ne_back first.0 r.0 above.0)) ∙ all.0, found_behind first rows behind above.1 all.1)

rows_found : (rows : Rows) → Rising rows → AllByRecursion (IsFoundIn rows) rows
unfolding IsStrictlySortedBy
rows_found [] rising = tt
rows_found (r ∷ rows) rising =
    (ap (λ (o : Option Row). unwrap_or o first_row) (find_here r.0 r rows refl), found_behind r rows rows rising.0 (rows_found rows rising.1))

-- ---- what a row's step tells was waited for
abbrev Waited : Rows → List ℕ × Reply → Type 0
Waited rows t = HadWaiting (row_at t.0 rows) t.1

told_waited : (rows : Rows) (key : List ℕ) (row : Row) (done : Done) → Acts key row done → row_at key rows ≡ row → AllByRecursion (Waited rows) (told_of key done.out.reply)
told_waited rows key row done acts e = by_reply done.out.reply (λ q told. subst (λ (r : Row). HadWaiting r q) (sym e) (acts.told q told))
  where
    by_reply : (o : Option Reply) → ((q : Reply) → o ≡ Some q → HadWaiting (row_at key rows) q) → AllByRecursion (Waited rows) (told_of key o)
    by_reply None h = tt
    by_reply (Some q) h = (h q refl, tt)

each_view : (new : NodeState) (all rows : Rows) → AllByRecursion (λ r. Acts r.0 r.1 (viewed new r)) rows → AllByRecursion (IsFoundIn all) rows →
    AllByRecursion (λ r. AllByRecursion (Waited all) (told_of r.0 (viewed new r).out.reply)) rows
each_view new all [] acts found = tt
each_view new all (r ∷ rows) acts found = (told_waited all r.0 r.1 (viewed new r) acts.0 found.0, each_view new all rows acts.1 found.1)

pub told_were_waiting : ToldWereWaiting
told_were_waiting node event ok within other = by_event (λ stepped. AllByRecursion (Waited node.rows) stepped.told) node ok event within other (record {
  quiet = λ clock granted ends activated. tt;
  sends = λ letters within. tt;
  row = λ key done names acts. told_waited node.rows key (row_at key node.rows) done acts refl;
  takes = λ cursor done items none unready within. tt;
  installs = λ view activated none acts. let new = record node { view = Some view; activated = activated } in
      all_parts (Waited node.rows) (λ r. told_of r.0 (viewed new r).out.reply) node.rows (each_view new node.rows node.rows acts (rows_found node.rows ok.ordered));
})

-- ---- where a row's step answers the call of a reply, the step of its node tells it
tells_one : (key : List ℕ) (reply : Reply) (o : Option Reply) → IsSomeAnd o (IsToldFor reply) → Tells key reply (told_of key o)
tells_one key reply None h = absurd h
tells_one key reply (Some q) h = inl (refl, h)

tells_first : (key : List ℕ) (reply : Reply) (xs ys : List (List ℕ × Reply)) → Tells key reply xs → Tells key reply (xs ++ ys)
tells_first key reply [] ys h = absurd h
tells_first key reply (x ∷ xs) ys (inl h) = inl h
tells_first key reply (x ∷ xs) ys (inr h) = inr (tells_first key reply xs ys h)

tells_second : (key : List ℕ) (reply : Reply) (xs ys : List (List ℕ × Reply)) → Tells key reply ys → Tells key reply (xs ++ ys)
tells_second key reply [] ys h = h
tells_second key reply (x ∷ xs) ys h = inr (tells_second key reply xs ys h)

pub tells_row : (key : List ℕ) (reply : Reply) (done : Done) → IsSomeAnd done.out.reply (IsToldFor reply) → Tells key reply (told_of key done.out.reply)
tells_row key reply done h = tells_one key reply done.out.reply h

-- the same where all rows make a step
pub tells_among : (step : Row → Done) (key : List ℕ) (reply : Reply) (row : Row) (rows : Rows) → find_row key rows ≡ Some row → IsSomeAnd (step row).out.reply (IsToldFor reply) →
    Tells key reply (flat_map (λ (r : List ℕ × Row). told_of r.0 (step r.1).out.reply) rows)
tells_among step key reply row [] found h = absurd (none-some row found)
tells_among step key reply row (r ∷ rows) found h = by_test (same_key key r.0) refl found (tells_among step key reply row rows)
  where
    rest : List (List ℕ × Reply)
    rest = flat_map (λ (r : List ℕ × Row). told_of r.0 (step r.1).out.reply) rows

    some_same : (x y : Row) → Some x ≡ Some y → x ≡ y
    some_same x y e = grind arith

    by_test : (b : Bool) → same_key key r.0 ≡ b → cond b (Some r.1) (find_row key rows) ≡ Some row →
        (find_row key rows ≡ Some row → IsSomeAnd (step row).out.reply (IsToldFor reply) → Tells key reply rest) → Tells key reply (told_of r.0 (step r.1).out.reply ++ rest)
    by_test true e found more = tells_first key reply (told_of r.0 (step r.1).out.reply) rest
        (subst (λ (k : List ℕ). Tells key reply (told_of k (step r.1).out.reply)) (same_true key r.0 e)
        (tells_one key reply (step r.1).out.reply (subst (λ (x : Row). IsSomeAnd (step x).out.reply (IsToldFor reply)) (sym (some_same r.1 row found)) h)))
    by_test false e found more = tells_second key reply (told_of r.0 (step r.1).out.reply) rest (more found h)

-- ---- and where it answers nothing, nothing is told at its key
abbrev pub IsSilentAt : List ℕ → List (List ℕ × Reply) → Type 0
IsSilentAt key told = AllByRecursion (λ t. t.0 ≢ key) told

pub silent_other : (key k : List ℕ) (o : Option Reply) → key ≢ k → IsSilentAt key (told_of k o)
silent_other key k None ne = tt
silent_other key k (Some q) ne = ((λ e. ne (sym e)), tt)

silent_above : (step : Row → Done) (key : List ℕ) (rows : Rows) → AllByRecursion (Lt key) (keys_of rows) →
    AllByRecursion (λ r. IsSilentAt key (told_of r.0 (step r.1).out.reply)) rows
silent_above step key [] above = tt
silent_above step key (r ∷ rows) above = (silent_other key r.0 (step r.1).out.reply (λ e. lt_ne_back key r.0 above.0 (sym e)), silent_above step key rows above.1)

silent_parts : (step : Row → Done) (key : List ℕ) (row : Row) (rows : Rows) → Rising rows → find_row key rows ≡ Some row → (step row).out.reply ≡ None →
    AllByRecursion (λ r. IsSilentAt key (told_of r.0 (step r.1).out.reply)) rows
unfolding IsStrictlySortedBy
silent_parts step key row [] rising found none = tt
silent_parts step key row (r ∷ rows) rising found none = by_test (same_key key r.0) refl found rising.0 (λ f. silent_parts step key row rows rising.1 f none)
  where
    some_same : (x y : Row) → Some x ≡ Some y → x ≡ y
    some_same x y e = grind arith

    by_test : (b : Bool) → same_key key r.0 ≡ b → cond b (Some r.1) (find_row key rows) ≡ Some row → AllByRecursion (Lt r.0) (keys_of rows) →
        (find_row key rows ≡ Some row → AllByRecursion (λ q. IsSilentAt key (told_of q.0 (step q.1).out.reply)) rows) →
        AllByRecursion (λ q. IsSilentAt key (told_of q.0 (step q.1).out.reply)) (r ∷ rows)
    by_test true e found above more =
        let untold : (step r.1).out.reply ≡ None = subst (λ (x : Row). (step x).out.reply ≡ None) (sym (some_same r.1 row found)) none in (
          subst (λ (o : Option Reply). IsSilentAt key (told_of r.0 o)) (sym untold) tt,
          silent_above step key rows (subst (λ (k : List ℕ). AllByRecursion (Lt k) (keys_of rows)) (sym (same_true key r.0 e)) above),
        )
    by_test false e found above more = (silent_other key r.0 (step r.1).out.reply (λ same. false≢true (sym e ∙ same_of key r.0 same)), more found)

pub silent_among : (step : Row → Done) (key : List ℕ) (row : Row) (rows : Rows) → Rising rows → find_row key rows ≡ Some row → (step row).out.reply ≡ None →
    IsSilentAt key (flat_map (λ (r : List ℕ × Row). told_of r.0 (step r.1).out.reply) rows)
silent_among step key row rows rising found none = all_parts (λ t. t.0 ≢ key) (λ (r : List ℕ × Row). told_of r.0 (step r.1).out.reply) rows (silent_parts step key row rows rising found none)
