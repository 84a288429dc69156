-- What stands under the lock is kept by each step.
use Rattle.std.proofs.Common.{◌≡◌, ◌≢◌, ◌⊎◌, inl, inr, ℕ, ◌<◌, ◌≤◌, ◌==◌, cond, if◌then◌else◌, List, [], ◌∷◌, ◌++◌, map, Bool, true, false, Option, Some, None, unwrap_or, refl, sym, ap, ◌∙◌, subst, arith, append_assoc}
use Rattle.std.specs.Option.{IsSomeAnd, option_or}
use Rattle.std.specs.List.{AllByRecursion}
use Rattle.std.specs.List.Sorted.{IsStrictlySortedBy}
use Rattle.std.specs.Map.{keys_of}
use Rattle.std.proofs.lemmas.Option.{none-some}
use Rattle.hk_base.specs.declared.stamp.Stamp.{Stamp}
use Rattle.hk_base.specs.declared.stamp.Kind.{Kind}
use Rattle.hk_base.specs.declared.stamp.Kind.TheVariants as Kind
use Rattle.hk_base.specs.declared.call.CallNo.{CallNo}
use Rattle.hk_base.specs.declared.call.Answer.{Answer}
use Rattle.hk_base.specs.declared.call.Answer.TheVariants.{Aborted}
use Rattle.hk_base.specs.declared.call.Reply.{Reply}
use Rattle.hk_base.specs.declared.call.State.{State}
use Rattle.hk_base.specs.declared.call.State.TheVariants.{Valid, Invalid, Write, Trans}
use Rattle.hk_copy.specs.Batches.{key_cmp}
use Rattle.hk_key.specs.declared.row.Pending.{Pending}
use Rattle.hk_key.specs.declared.row.Row.{Row}
use Rattle.hk_key.specs.Table.{first_row}
use Rattle.hk_node.specs.Rows.{Rows, find_row, row_at}
use Rattle.hk_node.proofs.Order.{Lt, same_key, same_not, same_of, lt_ne_back}
use Rattle.hk_snap.specs.declared.rule.Publication.{Publication}
use Rattle.hk_told.specs.declared.ask.Ask.{Ask}
use Rattle.hk_told.specs.Moves.{WaitsFor, HasReply, Ends, GivesUp, Goes, Moves}
use Rattle.hk_told.specs.Steps.{told_at}
use Rattle.hk_told.specs.Lists.{is_open, is_write, next_past}
use Rattle.hk_told.specs.Held.{Open, Done, Dropped, Followed, IsAnother, Fits, Asks, Lists, IsWaitingAt, IsHeld, answer_to, heard, DropsKeepAsks, NoneAreHeld}
use Rattle.hk_told.proofs.Moving.{some_same}
use Rattle.hk_told.proofs.Lists.{NoneOf, OneOf, Adds, next_more_none, next_more_some, next_none, next_stays, next_leaves, all_more, all_only}

-- ---- one ask
-- what is added of a row's key
abbrev pub AddsRow : List ℕ → Row → Row → List Publication → Type 0
AddsRow key old new more = (NoneOf key more × (new ≡ old)) ⊎ ((s : Publication) × OneOf key s more × (s.row ≡ new))

pub rows_add : (key : List ℕ) (old new : Option Row) (ticket : ℕ) (call : Option CallNo) (more : List Publication) → Adds key old new ticket call more →
    AddsRow key (unwrap_or old first_row) (unwrap_or new first_row) more
rows_add key old new ticket call more (inl h) = inl (h.0, ap (λ (o : Option Row). unwrap_or o first_row) h.1)
rows_add key old new ticket call more (inr h) = inr (h.s, h.one, ap (λ (o : Option Row). unwrap_or o first_row) h.row)

-- what was delivered stays shown as the list grows
pub grows : (x : Publication) (later more : List Publication) (kept : Reply) (answer : Answer) → Followed x later kept (Some answer) → Followed x (later ++ more) kept (Some answer)
grows x later more kept answer (inl d) = inl (record { same = d.same; follows = next_more_some _ is_open x.key later more d.follows })
grows x later more kept answer (inr d) = inr (record { rmw = d.rmw; follows = next_more_some _ is_write x.key later more d.follows })

plain_rmw : (k : Kind) → k ≡ Kind.Write → k ≡ Kind.Rmw → ⊥
plain_rmw k a b = grind (arith, a, b)

no_update : (s : Stamp) (k : Kind) (kept : Reply) (row : Row) → row.pending ≡ None → WaitsFor s k kept row → ⊥
no_update s k kept row gone w = subst (λ (o : Option Pending). IsSomeAnd o (λ p. (p.stamp ≡ s) × (p.kind ≡ k) × (p.reply ≡ Some kept))) gone w.update

module _ (x : Publication) (later more : List Publication) (kept : Reply) (old new : Row) (added : AddsRow x.key old new more) (yet : Open x later) where
  opened : ((new.state ≡ Write) × (new.stamp ≡ x.row.stamp)) ⊎ ((new.state ≡ Trans) × (x.row.kind ≡ Kind.Write)) → is_open new.state ≡ true
  opened (inl h) = ap is_open h.0
  opened (inr h) = ap is_open h.0

  writes : x.row.kind ≡ Kind.Rmw → ((new.state ≡ Write) × (new.stamp ≡ x.row.stamp)) ⊎ ((new.state ≡ Trans) × (x.row.kind ≡ Kind.Write)) → is_write new.state ≡ true
  writes rmw (inl h) = ap is_write h.0
  writes rmw (inr h) = absurd (plain_rmw x.row.kind h.1 rmw)

  -- where the row's state is one of these, none past them is added
  none_past : (stays : State → Bool) → stays new.state ≡ true → AddsRow x.key old new more → next_past stays x.key more ≡ None
  none_past stays e (inl h) = next_none stays x.key more h.0
  none_past stays e (inr h) = next_stays stays x.key h.0 more h.1 (ap (λ (r : Row). stays r.state) h.2 ∙ e)

  -- a call that waits on
  pub open_on : WaitsFor x.row.stamp x.row.kind kept new → Open x (later ++ more)
  open_on w = record {
    open_yet = next_more_none is_open x.key later more yet.open_yet ∙ none_past is_open (opened w.state) added;
    written = λ rmw. next_more_none is_write x.key later more (yet.written rmw) ∙ none_past is_write (writes rmw w.state) added;
  }

  -- the row has changed, so it was published
  changed : WaitsFor x.row.stamp x.row.kind kept old → new.pending ≡ None → (s : Publication) × OneOf x.key s more × (s.row ≡ new)
  changed w gone = by added
    where
      by : AddsRow x.key old new more → (s : Publication) × OneOf x.key s more × (s.row ≡ new)
      by (inl h) = absurd (no_update x.row.stamp x.row.kind kept old (ap (λ (r : Row). r.pending) (sym h.1) ∙ gone) w)
      by (inr h) = h

  closed : (new.state ≡ Valid) ⊎ (new.state ≡ Invalid) → is_open new.state ≡ false
  closed (inl h) = ap is_open h
  closed (inr h) = ap is_open h

  pub done_by : (told : Option Reply) → WaitsFor x.row.stamp x.row.kind kept old → Ends x.row.stamp x.row.kind kept new told → Done x (later ++ more) kept kept.answer
  done_by told w e =
      let s = changed w e.gone in record {
        same = refl;
        follows = subst (λ (n : Option Publication). IsSomeAnd n (λ y. x.row.kind ≡ Kind.Rmw → y.row.stamp ≡ x.row.stamp))
            (sym (next_more_none is_open x.key later more yet.open_yet ∙ next_leaves is_open x.key s.0 more s.1 (ap (λ (r : Row). is_open r.state) s.2 ∙ closed e.state)))
            (λ rmw. ap (λ (r : Row). r.stamp) s.2 ∙ e.own rmw);
      }

  pub dropped_by : (told : Option Reply) → WaitsFor x.row.stamp x.row.kind kept old → GivesUp x.row.kind kept new told → Dropped x (later ++ more) (Aborted new.stamp)
  dropped_by told w e =
      let s = changed w e.gone in record {
        rmw = e.rmw;
        follows = subst (λ (n : Option Publication). IsSomeAnd n (λ y. (y.row.state ≡ Invalid) × (Aborted new.stamp ≡ Aborted y.row.stamp)))
            (sym (next_more_none is_write x.key later more (yet.written e.rmw) ∙ next_leaves is_write x.key s.0 more s.1 (ap (λ (r : Row). is_write r.state) s.2 ∙ ap is_write e.state)))
            (ap (λ (r : Row). r.state) s.2 ∙ e.state, ap (λ (r : Row). Aborted r.stamp) (sym s.2));
      }

-- the answer of a call, as the law of its row tells it
abbrev AnswersAs : Option Reply → Option Answer → Type 0
AnswersAs None answer = answer ≡ None
AnswersAs (Some reply) answer = answer ≡ Some reply.answer

-- An ask after a step: its row goes from the old to the new one, the list grows by `more`, and where it waits, it gets this answer.
module _ (list more : List Publication) (old new : Row) (call : CallNo) (ask : Ask) (f : Fits list old call ask) (answer : Option Answer) (told : Option Reply)
    (added : AddsRow ask.key old new more) (another : AllByRecursion (IsAnother ask.key ask.ticket) more)
    (goes : ask.told ≡ None → Goes f.x.row.stamp f.x.row.kind f.kept new told) (answers : ask.told ≡ None → AnswersAs told answer) where
  record Stays (o : Option Answer) : Type 0 where
    follows : Followed f.x (f.later ++ more) f.kept o
    waits : o ≡ None → WaitsFor f.x.row.stamp f.x.row.kind f.kept new

  added_x : AddsRow f.x.key old new more
  added_x = subst (λ (k : List ℕ). AddsRow k old new more) (sym f.key) added

  goes_on : (o : Option Reply) → ask.told ≡ None → Goes f.x.row.stamp f.x.row.kind f.kept new o → AnswersAs o answer → Stays answer
  goes_on o none g a = by g
    where
      yet : Open f.x f.later
      yet = subst (Followed f.x f.later f.kept) none f.follows

      tells : (reply : Reply) → o ≡ Some reply → answer ≡ Some reply.answer
      tells reply e = subst (λ (k : Option Reply). AnswersAs k answer) e a

      ends : (a : Answer) → answer ≡ Some a → Followed f.x (f.later ++ more) f.kept (Some a) → Stays answer
      ends a e h = record { follows = subst (Followed f.x (f.later ++ more) f.kept) (sym e) h; waits = λ n. absurd (none-some a (sym n ∙ e)) }

      by : Goes f.x.row.stamp f.x.row.kind f.kept new o → Stays answer
      by (inl h) =
          let is : answer ≡ None = subst (λ (k : Option Reply). AnswersAs k answer) h.1 a in
          record { follows = subst (Followed f.x (f.later ++ more) f.kept) (sym is) (open_on f.x f.later more f.kept old new added_x yet h.0); waits = λ n. h.0 }
      by (inr (inl e)) = ends f.kept.answer (tells f.kept e.tells) (inl (done_by f.x f.later more f.kept old new added_x yet o (f.waits none) e))
      by (inr (inr e)) =
          ends (Aborted new.stamp) (tells (record { call = f.kept.call; answer = Aborted new.stamp }) e.tells) (inr (dropped_by f.x f.later more f.kept old new added_x yet o (f.waits none) e))

  stays : Stays (option_or ask.told answer)
  stays = by ask.told refl
    where
      by : (o : Option Answer) → ask.told ≡ o → Stays (option_or o answer)
      by None e = goes_on told e (goes e) (answers e)
      by (Some a) e = record { follows = grows f.x f.later more f.kept a (subst (Followed f.x f.later f.kept) e f.follows); waits = λ n. absurd (none-some a (sym n)) }

  pub fits_on : Fits (list ++ more) new call (record ask { told = option_or ask.told answer })
  fits_on = record {
    before = f.before;
    x = f.x;
    later = f.later ++ more;
    kept = f.kept;
    stands = ap (λ (l : List Publication). l ++ more) f.stands ∙ append_assoc f.before (f.x ∷ f.later) more;
    key = f.key;
    ticket = f.ticket;
    number = f.number;
    begins = f.begins;
    follows = stays.follows;
    waits = stays.waits;
    alone_before = f.alone_before;
    alone_behind = all_more (IsAnother ask.key ask.ticket) f.later more f.alone_behind another;
  }

-- ---- what a step publishes is of another key, or has another ticket than one that was drawn before
pub others_none : (key : List ℕ) (ticket : ℕ) (list : List Publication) → NoneOf key list → AllByRecursion (IsAnother key ticket) list
others_none key ticket list none = all_only (λ p. key ≢ p.key) (IsAnother key ticket) list (λ p ne. inl (λ e. ne (sym e))) none

pub others_added : (key : List ℕ) (drawn : ℕ) (old new : Option Row) (ticket : ℕ) (call : Option CallNo) (more : List Publication) → drawn < ticket → Adds key old new ticket call more →
    AllByRecursion (IsAnother key drawn) more
others_added key drawn old new ticket call more less (inl h) = others_none key drawn more h.0
others_added key drawn old new ticket call more less (inr h) =
    subst (AllByRecursion (IsAnother key drawn)) (sym h.one.stands) (all_more (IsAnother key drawn) h.one.front (h.s ∷ h.one.back) (others_none key drawn h.one.front h.one.none_before)
    (inr (λ e. let t = h.ticket_of in omega (arith, less, e, t)), others_none key drawn h.one.back h.one.none_behind))

-- ---- the answer to a call among what is told
pub same_call : (a b : CallNo) → a.0 ≡ b.0 → a ≡ b
same_call a b e = ap (λ (n : ℕ). record { 0 = n }) e

is_call : (a b : CallNo) → (a.0 == b.0) ≡ true → a ≡ b
is_call a b e = same_call a b (grind (arith, e))

is_not_call : (a b : CallNo) → (a.0 == b.0) ≡ false → a ≢ b
is_not_call a b e same = let n : a.0 ≡ b.0 = ap (λ (c : CallNo). c.0) same in grind (arith, e, n)

pub cases_call : (a b : CallNo) → (a ≡ b) ⊎ (a ≢ b)
cases_call a b = at (a.0 == b.0) refl
  where
    at : (t : Bool) → (a.0 == b.0) ≡ t → (a ≡ b) ⊎ (a ≢ b)
    at true e = inl (is_call a b e)
    at false e = inr (is_not_call a b e)

abbrev Told : Type 0
Told = List (List ℕ × Reply)

abbrev replies : Told → List Reply
replies told = map (λ (t : List ℕ × Reply). t.1) told

answer_none : (call : CallNo) (told : Told) → AllByRecursion (λ t. t.1.call ≢ call) told → answer_to call (replies told) ≡ None
answer_none call [] all = refl
answer_none call (t ∷ told) all = at (t.1.call.0 == call.0) refl (answer_none call told all.1)
  where
    at : (b : Bool) → (t.1.call.0 == call.0) ≡ b → answer_to call (replies told) ≡ None → (if b then Some t.1.answer else answer_to call (replies told)) ≡ None
    at true e rest = absurd (all.0 (is_call t.1.call call e))
    at false e rest = rest

answer_one : (call : CallNo) (key : List ℕ) (reply : Reply) (told : Told) → AllByRecursion (λ t. t.1.call ≡ call → t.1 ≡ reply) told → reply.call ≡ call → told_at key told ≡ Some reply →
    answer_to call (replies told) ≡ Some reply.answer
answer_one call key reply [] all own at = absurd (none-some reply at)
answer_one call key reply (t ∷ told) all own there = at (t.1.call.0 == call.0) refl (answer_one call key reply told all.1 own)
  where
    at : (b : Bool) → (t.1.call.0 == call.0) ≡ b → (told_at key told ≡ Some reply → answer_to call (replies told) ≡ Some reply.answer) →
        (if b then Some t.1.answer else answer_to call (replies told)) ≡ Some reply.answer
    at true e rest = ap (λ (r : Reply). Some r.answer) (all.0 (is_call t.1.call call e))
    at false e rest = rest (past (same_key key t.0) there)
      where
        past : (b : Bool) → cond b (Some t.1) (told_at key told) ≡ Some reply → told_at key told ≡ Some reply
        past true h = absurd (is_not_call t.1.call call e (ap (λ (r : Reply). r.call) (some_same t.1 reply h) ∙ own))
        past false h = h

-- each that is told is found by its key
found_behind : (first : List ℕ × Reply) (told behind : Told) → AllByRecursion (Lt first.0) (keys_of behind) → AllByRecursion (λ t. told_at t.0 told ≡ Some t.1) behind →
    AllByRecursion (λ t. told_at t.0 (first ∷ told) ≡ Some t.1) behind
found_behind first told [] above all = tt
found_behind first told (t ∷ behind) above all =
    (ap (λ (b : Bool). cond b (Some first.1) (told_at t.0 told)) (same_not t.0 first.0 (lt_ne_back first.0 t.0 above.0)) ∙ all.0, found_behind first told behind above.1 all.1)

all_found : (told : Told) → IsStrictlySortedBy key_cmp (keys_of told) → AllByRecursion (λ t. told_at t.0 told ≡ Some t.1) told
unfolding IsStrictlySortedBy
all_found [] order = tt
all_found (t ∷ told) order = (ap (λ (b : Bool). cond b (Some t.1) (told_at t.0 told)) (same_of t.0 t.0 refl), found_behind t told told order.0 (all_found told order.1))

each_told : (P Q : List ℕ × Reply → Type 0) (told : Told) → ((t : List ℕ × Reply) → P t → Q t) → AllByRecursion P told → AllByRecursion Q told
each_told P Q [] f all = tt
each_told P Q (t ∷ told) f all = (f t all.0, each_told P Q told f all.1)

-- ---- all asks, over a step that moves each row as the law says
module _ (rows after : Rows) (lists grown more : Lists) (last ticket : ℕ) (number : Option CallNo) (asks new : Asks) (told : Told)
    (less : last < ticket) (grow : (key : List ℕ) → grown key ≡ lists key ++ more key)
    (adds : (key : List ℕ) → Adds key (find_row key rows) (find_row key after) ticket number (more key))
    (law : (key : List ℕ) → Moves (row_at key rows) (row_at key after) (told_at key told)) (order : IsStrictlySortedBy key_cmp (keys_of told))
    (hear : (call : CallNo) → new call ≡ heard call (replies told) (asks call)) (held : IsHeld rows lists last asks) where
  some_is : (o : Option Ask) (ask : Ask) (P : Ask → Type 0) → o ≡ Some ask → IsSomeAnd o P → P ask
  some_is o ask P e h = subst (λ (k : Option Ask). IsSomeAnd k P) e h

  module _ (call : CallNo) (ask : Ask) (is : asks call ≡ Some ask) where
    -- whoever is told under this call's number is told at the ask's key
    at_key : (t : List ℕ × Reply) → told_at t.0 told ≡ Some t.1 → t.1.call ≡ call → told_at ask.key told ≡ Some t.1
    at_key t found own =
        let a = (law t.0).answers t.1 found in
        let w = some_is (asks call) ask (IsWaitingAt t.0) is (subst (λ (c : CallNo). IsSomeAnd (asks c) (IsWaitingAt t.0)) (a.2 ∙ own) (held.kept t.0 a.0 a.1)) in
        subst (λ (k : List ℕ). told_at k told ≡ Some t.1) (sym w.1) found

    all_at_key : AllByRecursion (λ t. t.1.call ≡ call → told_at ask.key told ≡ Some t.1) told
    all_at_key = each_told (λ t. told_at t.0 told ≡ Some t.1) (λ t. t.1.call ≡ call → told_at ask.key told ≡ Some t.1) told at_key (all_found told order)

    fit : Fits (lists ask.key) (row_at ask.key rows) call ask
    fit = held.fit call ask is

    goes : ask.told ≡ None → Goes fit.x.row.stamp fit.x.row.kind fit.kept (row_at ask.key after) (told_at ask.key told)
    goes none = (law ask.key).goes fit.x.row.stamp fit.x.row.kind fit.kept (fit.waits none)

    own_call : (reply : Reply) → told_at ask.key told ≡ Some reply → ask.told ≡ None → reply.call ≡ call
    own_call reply e none = by (goes none)
      where
        by : Goes fit.x.row.stamp fit.x.row.kind fit.kept (row_at ask.key after) (told_at ask.key told) → reply.call ≡ call
        by (inl h) = absurd (none-some reply (sym h.1 ∙ e))
        by (inr (inl h)) = ap (λ (r : Reply). r.call) (some_same reply fit.kept (sym e ∙ h.tells)) ∙ fit.number
        by (inr (inr h)) = ap (λ (r : Reply). r.call) (some_same reply (record { call = fit.kept.call; answer = Aborted (row_at ask.key after).stamp }) (sym e ∙ h.tells)) ∙ fit.number

    answers : ask.told ≡ None → AnswersAs (told_at ask.key told) (answer_to call (replies told))
    answers none = by (told_at ask.key told) refl
      where
        by : (o : Option Reply) → told_at ask.key told ≡ o → AnswersAs o (answer_to call (replies told))
        by None e = answer_none call told (each_told (λ t. t.1.call ≡ call → told_at ask.key told ≡ Some t.1) (λ t. t.1.call ≢ call) told
            (λ t h own. none-some t.1 (sym e ∙ h own)) all_at_key)
        by (Some reply) e = answer_one call ask.key reply told (each_told (λ t. t.1.call ≡ call → told_at ask.key told ≡ Some t.1) (λ t. t.1.call ≡ call → t.1 ≡ reply) told
            (λ t h own. some_same t.1 reply (sym (h own) ∙ e)) all_at_key) (own_call reply e none) e

    one : Fits (grown ask.key) (row_at ask.key after) call (record ask { told = option_or ask.told (answer_to call (replies told)) })
    one = let drawn = held.drawn call ask is in
        subst (λ (l : List Publication). Fits l (row_at ask.key after) call (record ask { told = option_or ask.told (answer_to call (replies told)) })) (sym (grow ask.key))
        (fits_on (lists ask.key) (more ask.key) (row_at ask.key rows) (row_at ask.key after) call ask fit (answer_to call (replies told)) (told_at ask.key told)
        (rows_add ask.key (find_row ask.key rows) (find_row ask.key after) ticket number (more ask.key) (adds ask.key))
        (others_added ask.key ask.ticket (find_row ask.key rows) (find_row ask.key after) ticket number (more ask.key) (omega arith) (adds ask.key)) goes answers)

    -- a call whose reply the row keeps is told nothing
    silent : (reply : Reply) → ask.told ≡ None → HasReply reply (row_at ask.key after) → answer_to call (replies told) ≡ None
    silent reply none has = by (goes none)
      where
        gone : (row_at ask.key after).pending ≡ None → ⊥
        gone e = subst (λ (o : Option Pending). IsSomeAnd o (λ p. p.reply ≡ Some reply)) e has

        by : Goes fit.x.row.stamp fit.x.row.kind fit.kept (row_at ask.key after) (told_at ask.key told) → answer_to call (replies told) ≡ None
        by (inl h) = subst (λ (o : Option Reply). AnswersAs o (answer_to call (replies told))) h.1 (answers none)
        by (inr (inl h)) = absurd (gone h.gone)
        by (inr (inr h)) = absurd (gone h.gone)

  fit_all : (call : CallNo) (ask : Ask) → new call ≡ Some ask → Fits (grown ask.key) (row_at ask.key after) call ask × (ask.ticket ≤ ticket)
  fit_all call ask e = by (asks call) refl (sym (hear call) ∙ e)
    where
      by : (o : Option Ask) → asks call ≡ o → heard call (replies told) o ≡ Some ask → Fits (grown ask.key) (row_at ask.key after) call ask × (ask.ticket ≤ ticket)
      by None is h = absurd (none-some ask h)
      by (Some old) is h =
          let drawn = held.drawn call old is in
          subst (λ (a : Ask). Fits (grown a.key) (row_at a.key after) call a × (a.ticket ≤ ticket))
          (some_same (record old { told = option_or old.told (answer_to call (replies told)) }) ask h) (one call old is, omega arith)

  kept_all : (key : List ℕ) (reply : Reply) → HasReply reply (row_at key after) → IsSomeAnd (new reply.call) (IsWaitingAt key)
  kept_all key reply has = by (asks reply.call) refl (held.kept key reply ((law key).waited reply has))
    where
      by : (o : Option Ask) → asks reply.call ≡ o → IsSomeAnd o (IsWaitingAt key) → IsSomeAnd (new reply.call) (IsWaitingAt key)
      by None is w = absurd w
      by (Some ask) is w =
          let none = silent reply.call ask is reply w.0 (subst (λ (k : List ℕ). HasReply reply (row_at k after)) (sym w.1) has) in
          subst (λ (o : Option Ask). IsSomeAnd o (IsWaitingAt key)) (sym (hear reply.call ∙ ap (heard reply.call (replies told)) is))
          (ap (λ (o : Option Answer). option_or o (answer_to reply.call (replies told))) w.0 ∙ none, w.1)

  pub moved_held : IsHeld after grown ticket new
  moved_held = record { fit = λ call ask e. (fit_all call ask e).0; drawn = λ call ask e. (fit_all call ask e).1; kept = kept_all }

-- ---- asks are dropped
pub drops_keep_asks : DropsKeepAsks
drops_keep_asks rows lists last asks new fewer held = record { fit = λ call ask e. (one call ask e).0; drawn = λ call ask e. (one call ask e).1; kept = kept }
  where
    one : (call : CallNo) (ask : Ask) → new call ≡ Some ask → Fits (lists ask.key) (row_at ask.key rows) call ask × (ask.ticket ≤ last)
    one call ask e = by (asks call) refl (fewer.had call ask e)
      where
        by : (o : Option Ask) → asks call ≡ o → IsSomeAnd o (λ old. (old.key ≡ ask.key) × (old.ticket ≡ ask.ticket) × (old.told ≡ ask.told)) →
            Fits (lists ask.key) (row_at ask.key rows) call ask × (ask.ticket ≤ last)
        by None is h = absurd h
        by (Some old) is h = (
          subst (λ (k : List ℕ). Fits (lists k) (row_at k rows) call ask) h.0 (record {
            before = f.before;
            x = f.x;
            later = f.later;
            kept = f.kept;
            stands = f.stands;
            key = f.key ∙ h.0;
            ticket = f.ticket ∙ h.1;
            number = f.number;
            begins = f.begins;
            follows = subst (Followed f.x f.later f.kept) h.2 f.follows;
            waits = λ none. f.waits (h.2 ∙ none);
            alone_before = subst (λ (k : List ℕ). AllByRecursion (IsAnother k ask.ticket) f.before) h.0 (subst (λ (t : ℕ). AllByRecursion (IsAnother old.key t) f.before) h.1 f.alone_before);
            alone_behind = subst (λ (k : List ℕ). AllByRecursion (IsAnother k ask.ticket) f.later) h.0 (subst (λ (t : ℕ). AllByRecursion (IsAnother old.key t) f.later) h.1 f.alone_behind);
          }),
          subst (λ (t : ℕ). t ≤ last) h.1 (held.drawn call old is),
        )
          where
            f : Fits (lists old.key) (row_at old.key rows) call old
            f = held.fit call old is

    kept : (key : List ℕ) (reply : Reply) → HasReply reply (row_at key rows) → IsSomeAnd (new reply.call) (IsWaitingAt key)
    kept key reply has = by (asks reply.call) refl (held.kept key reply has)
      where
        by : (o : Option Ask) → asks reply.call ≡ o → IsSomeAnd o (IsWaitingAt key) → IsSomeAnd (new reply.call) (IsWaitingAt key)
        by None is w = absurd w
        by (Some ask) is w = subst (λ (k : List ℕ). IsSomeAnd (new reply.call) (IsWaitingAt k)) w.1 (fewer.waits reply.call ask is w.0)

-- ---- none are kept
pub none_are_held : NoneAreHeld
none_are_held rows lists last asks idle none = record {
  fit = λ call ask e. absurd (none-some ask (sym (none call) ∙ e));
  drawn = λ call ask e. absurd (none-some ask (sym (none call) ∙ e));
  kept = λ key reply has. absurd (subst (λ (o : Option Pending). IsSomeAnd o (λ p. p.reply ≡ Some reply)) (idle key) has);
}
