-- From what stands under a shard's lock to what a desk tells.
use Rattle.std.proofs.Common.{◌≡◌, ◌⊎◌, inl, inr, ⊎_elim, ℕ, ◌+◌, List, [], ◌∷◌, ◌++◌, map, Bool, true, if◌then◌else◌, Option, Some, None, unwrap_or, refl, sym, ap, ◌∙◌, subst, arith, append_assoc}
use Rattle.std.specs.Option.{IsSomeAnd}
use mathlib.Core.List.{IsPrefix}
use Rattle.std.proofs.lemmas.Bool.{false≢true}
use Rattle.hk_base.specs.declared.stamp.Kind.{Kind}
use Rattle.hk_base.specs.declared.stamp.Kind.TheVariants as Kind
use Rattle.hk_base.specs.declared.stamp.Stamp.{Stamp}
use Rattle.hk_base.specs.declared.call.CallNo.{CallNo}
use Rattle.hk_base.specs.declared.call.Op.{Op}
use Rattle.hk_base.specs.declared.call.Op.TheVariants as Op
use Rattle.hk_base.specs.declared.call.Answer.{Answer}
use Rattle.hk_base.specs.declared.call.Answer.TheVariants.{Found, Missing, Stored, Number, Exists, NotFound, NotNumber, NotStored, Deleted, Busy, Aborted, Exhausted}
use Rattle.hk_base.specs.declared.call.Why.{Why}
use Rattle.hk_base.specs.declared.call.Why.TheVariants as Why
use Rattle.hk_base.specs.declared.call.Reply.{Reply}
use Rattle.hk_base.specs.declared.call.State.TheVariants.{Valid, Invalid, Write}
use Rattle.hk_base.specs.Register.{Register, Acted, act}
use Rattle.hk_base.specs.Stamp.{tag_of}
use Rattle.hk_key.specs.declared.row.Pending.{Pending}
use Rattle.hk_key.specs.declared.row.Row.{Row}
use Rattle.hk_key.specs.Table.{first_row}
use Rattle.hk_node.specs.declared.event.NodeEvent.TheVariants.{Call}
use Rattle.hk_node.specs.Rows.{find_row, row_at}
use Rattle.hk_node.specs.Node.{NodeState}
use Rattle.hk_node.specs.Calls.{kind_of, register_in, answers as answers_of, lease_end}
use Rattle.hk_node.specs.Stepped.{Stepped, replies_of}
use Rattle.hk_node.specs.Steps.{node_step}
use Rattle.hk_node.specs.Sound.{IsNode}
use Rattle.hk_node.proofs.Order.{same_of}
use Rattle.hk_outside.specs.Desk.{answers, is_update}
use Rattle.hk_outside.proofs.Suited.{suited}
use Rattle.hk_snap.specs.declared.rule.Publication.{Publication}
use Rattle.hk_snap.specs.Ends.{End}
use Rattle.hk_journal.specs.declared.step_entry.JournalEntry.{JournalEntry}
use Rattle.hk_journal.specs.Journal.{after, call_of}
use Rattle.hk_told.specs.Answers.{tells_stay, tells_change}
use Rattle.hk_told.specs.Moves.{WaitsFor}
use Rattle.hk_told.specs.Lists.{is_open, is_write, next_past, last_row, row_in, register_of}
use Rattle.hk_told.specs.Steps.{AtOnce, Starts as CallStarts}
use Rattle.hk_told.specs.Held.{Begins, Followed, IsAnother, Lists, shown_at, Grow, Show}
use Rattle.hk_told.specs.Shown.{acted_on, Begun, Ended, Changed, Shown, Started, BeginsIn, CallsBeginInLists, LooksAt, AsksAreShown, Starts, LooksAreJoined, AtOnceIsShown, AfterLooksIsShown, UnknownIsShown, ShownSuits, UnknownSuits}
use Rattle.hk_told.proofs.Moving.{some_same}
use Rattle.hk_told.proofs.Acted.{stays_tell, changes_tell, read_stays}
use Rattle.hk_told.proofs.Lists.{OneOf, Shows, Adds, last_more, last_none, one_place}
use Rattle.hk_told.proofs.Added.{adds}
use Rattle.hk_told.proofs.Calling.{within, call_way, published_at}

-- ---- what the list shows once it has grown
shows_one : (key : List ℕ) (s : Publication) (more : List Publication) (row : Option Row) → OneOf key s more → last_row key more row ≡ Some s.row
shows_one key s more row one =
    ap (λ (l : List Publication). last_row key l row) one.stands ∙ last_more key row one.front (s ∷ one.back)
    ∙ ap (λ (b : Bool). last_row key one.back (if b then Some s.row else last_row key one.front row)) (same_of key s.key one.key_of) ∙ last_none key (Some s.row) one.back one.none_behind

pub covers_more : (key : List ℕ) (old new : Option Row) (ticket : ℕ) (call : Option CallNo) (list more : List Publication) → Adds key old new ticket call more → last_row key list None ≡ old →
    last_row key (list ++ more) None ≡ new
covers_more key old new ticket call list more (inl h) e = last_more key None list more ∙ last_none key (last_row key list None) more h.0 ∙ e ∙ sym h.1
covers_more key old new ticket call list more (inr h) e = last_more key None list more ∙ shows_one key h.s more (last_row key list None) h.one ∙ h.row

-- ---- which row of the table
at_once_shown : (old grown : List Publication) (call : CallNo) (key : List ℕ) (op : Op) (end now skew : ℕ) (answer : Answer) → AtOnce end now skew (row_in key (old ++ grown)) op answer →
    Shown old grown call key op end now skew answer
at_once_shown old grown call key op end now skew answer h = by answer h
  where
    by : (a : Answer) → AtOnce end now skew (row_in key (old ++ grown)) op a → Shown old grown call key op end now skew a
    by Stored h = absurd (false≢true (subst (λ (a : Answer). tells_stay a ≡ true) h.3 (stays_tell op (row_in key (old ++ grown)).content (tag_of (row_in key (old ++ grown)).stamp) 0 h.2)))
    by (Number value) h = absurd (false≢true (subst (λ (a : Answer). tells_stay a ≡ true) h.3 (stays_tell op (row_in key (old ++ grown)).content (tag_of (row_in key (old ++ grown)).stamp) 0 h.2)))
    by Deleted h = absurd (false≢true (subst (λ (a : Answer). tells_stay a ≡ true) h.3 (stays_tell op (row_in key (old ++ grown)).content (tag_of (row_in key (old ++ grown)).stamp) 0 h.2)))
    by (Aborted stamp) h = absurd h
    by (Found content tag) h = h
    by Missing h = h
    by Exists h = h
    by NotFound h = h
    by NotNumber h = h
    by NotStored h = h
    by (Busy (Why.Lease e n)) h = h
    by (Busy (Why.Row state stamp)) h = h
    by (Exhausted stamp) h = h

changed_shown : (old grown : List Publication) (call : CallNo) (key : List ℕ) (op : Op) (end now skew : ℕ) (answer : Answer) (b : Begun old grown call key op) → b.answer ≡ answer →
    Ended (kind_of op) b.x b.later → Shown old grown call key op end now skew answer
changed_shown old grown call key op end now skew answer b e ended =
    let row = row_in key (old ++ b.before) in
    by answer e (subst (λ (a : Answer). tells_change a ≡ true) (b.acts ∙ e) (changes_tell op row.content (tag_of row.stamp) (tag_of b.x.row.stamp) b.changes))
  where
    by : (a : Answer) → b.answer ≡ a → tells_change a ≡ true → Shown old grown call key op end now skew a
    by Stored e t = (b, e, ended)
    by (Number value) e t = (b, e, ended)
    by Deleted e t = (b, e, ended)
    by (Aborted stamp) e t = absurd (false≢true t)
    by (Found content tag) e t = absurd (false≢true t)
    by Missing e t = absurd (false≢true t)
    by Exists e t = absurd (false≢true t)
    by NotFound e t = absurd (false≢true t)
    by NotNumber e t = absurd (false≢true t)
    by NotStored e t = absurd (false≢true t)
    by (Busy why) e t = absurd (false≢true t)
    by (Exhausted stamp) e t = absurd (false≢true t)

-- ---- the step of a call
module _ (node : NodeState) (entry : JournalEntry) (call : CallNo) (key : List ℕ) (op : Op) (lists grown : Lists) (last : ℕ) (ok : IsNode node) (is : entry.event ≡ Call call key op)
    (grow : Grow lists grown node entry) (show : Show node.rows lists last) where
  abbrev more : List Publication
  more = shown_at key node entry

  abbrev new_row : Row
  new_row = row_at key (after node entry).rows

  abbrev reply_is : Answer → Reply
  reply_is answer = record { call = call; answer = answer }

  added : Adds key (find_row key node.rows) (find_row key (after node entry).rows) entry.ticket (call_of entry.event) more
  added = adds node entry key ok (within node entry call key op ok is)

  row_shown : row_in key (lists key) ≡ row_at key node.rows
  row_shown = ap (λ (o : Option Row). unwrap_or o first_row) (show.covers key)

  new_shown : row_in key (lists key ++ more) ≡ new_row
  new_shown = ap (λ (o : Option Row). unwrap_or o first_row)
      (covers_more key (find_row key node.rows) (find_row key (after node entry).rows) entry.ticket (call_of entry.event) (lists key) more added (show.covers key))

  module _ (starts : CallStarts node call key op (node_step node entry.event)) (shows : Shows key (find_row key (after node entry).rows) entry.ticket (call_of entry.event) more) where
    is_row : shows.s.row ≡ new_row
    is_row = ap (λ (o : Option Row). unwrap_or o first_row) shows.row

    is_stamp : shows.s.row.stamp ≡ starts.stamp
    is_stamp = ap (λ (r : Row). r.stamp) is_row ∙ starts.own

    -- what the key held before
    held_before : register_of key (lists key ++ shows.one.front) ≡ register_in (row_at key node.rows)
    held_before = ap (λ (o : Option Row). register_in (unwrap_or o first_row)) (last_more key None (lists key) shows.one.front ∙ last_none key (last_row key (lists key) None) shows.one.front shows.one.none_before)
        ∙ ap register_in row_shown

    acted_same : acted_on op key (lists key ++ shows.one.front) shows.s ≡ act op (register_in (row_at key node.rows)) (tag_of starts.stamp)
    acted_same = ap (λ (r : Register). act op r (tag_of shows.s.row.stamp)) held_before ∙ ap (λ (s : Stamp). act op (register_in (row_at key node.rows)) (tag_of s)) is_stamp

    grown_is : lists key ++ more ≡ lists key ++ (shows.one.front ++ shows.s ∷ shows.one.back)
    grown_is = ap (λ (l : List Publication). lists key ++ l) shows.one.stands

    abbrev begun : Begun (lists key) more call key op
    begun = record {
      before = shows.one.front;
      x = shows.s;
      later = shows.one.back;
      answer = starts.answer;
      stands = shows.one.stands;
      of_key = sym shows.one.key_of;
      number = shows.call_of ∙ ap call_of is;
      changes = ap (λ (a : Acted). a.changed) acted_same ∙ starts.changes;
      acts = ap (λ (a : Acted). a.answer) acted_same ∙ starts.acts;
      content = ap (λ (r : Row). r.content) is_row ∙ starts.content ∙ ap (λ (a : Acted). a.register.content) (sym acted_same);
    }

    started : WaitsFor starts.stamp (kind_of op) (reply_is starts.answer) new_row → new_row.state ≡ Write → Started (lists key) (grown key) call key entry.ticket op
    started waits writes = record {
      front = shows.one.front;
      x = shows.s;
      back = shows.one.back;
      kept = reply_is starts.answer;
      grown = grow key ∙ grown_is;
      of_key = sym shows.one.key_of;
      at_ticket = shows.ticket_of;
      begins = record {
        number = begun.number;
        writes = ap (λ (r : Row). r.state) is_row ∙ writes;
        waits = subst (λ (r : Row). WaitsFor r.stamp r.kind (reply_is starts.answer) r) (sym is_row)
            (subst (λ (s : Stamp). WaitsFor s new_row.kind (reply_is starts.answer) new_row) (sym starts.own) (subst (λ (k : Kind). WaitsFor starts.stamp k (reply_is starts.answer) new_row) (sym starts.kind) waits));
      };
      number = refl;
      kind = ap (λ (r : Row). r.kind) is_row ∙ starts.kind;
      changes = begun.changes;
      acts = begun.acts;
      content = begun.content;
    }

  begins_in : BeginsIn (lists key) (grown key) call key entry.ticket op (lease_end node) node.clock node.skew (replies_of (node_step node entry.event))
  begins_in = by (call_way node entry call key op ok is)
    where
      Result : List Reply → Type 0
      Result replies = BeginsIn (lists key) (grown key) call key entry.ticket op (lease_end node) node.clock node.skew replies

      at_once : (answer : Answer) → node_step node entry.event ≡ answers_of node key call answer → AtOnce (lease_end node) node.clock node.skew (row_at key node.rows) op answer →
          BeginsIn (lists key) (grown key) call key entry.ticket op (lease_end node) node.clock node.skew (reply_is answer ∷ [])
      at_once answer e h = (
        refl,
        refl,
        (
          more,
          grow key,
          at_once_shown (lists key) more call key op (lease_end node) node.clock node.skew answer
              (subst (λ (r : Row). AtOnce (lease_end node) node.clock node.skew r op answer) (sym (new_shown ∙ ap (λ (s : Stepped). row_at key s.node.rows) e)) h),
        ),
      )

      ends : (starts : CallStarts node call key op (node_step node entry.event)) → new_row.state ≡ Valid →
          BeginsIn (lists key) (grown key) call key entry.ticket op (lease_end node) node.clock node.skew (reply_is starts.answer ∷ [])
      ends starts valid =
          let shows = published_at node entry call key op ok is starts in (
            refl,
            refl,
            (
              more,
              grow key,
              changed_shown (lists key) more call key op (lease_end node) node.clock node.skew starts.answer (begun starts shows) refl
                  (inl (ap (λ (r : Row). r.state) (is_row starts shows) ∙ valid)),
            ),
          )

      by : ((answer : Answer) × (node_step node entry.event ≡ answers_of node key call answer) × AtOnce (lease_end node) node.clock node.skew (row_at key node.rows) op answer)
          ⊎ CallStarts node call key op (node_step node entry.event) → Result (replies_of (node_step node entry.event))
      by (inl a) = subst Result (ap replies_of (sym a.1)) (at_once a.0 a.1 a.2)
      by (inr s) = ⊎_elim
          (λ w. subst Result (ap (map (λ (t : List ℕ × Reply). t.1)) (sym w.2)) (started s (published_at node entry call key op ok is s) w.0 w.1))
          (λ e. subst Result (ap (map (λ (t : List ℕ × Reply). t.1)) (sym e.2)) (ends s e.0)) s.goes

pub calls_begin_in_lists : CallsBeginInLists
calls_begin_in_lists node entry call key op lists grown last ok is grow show = begins_in node entry call key op lists grown last ok is grow show

-- ---- looking
kept_same : (x : Publication) (a b : Reply) → Begins x a → Begins x b → a ≡ b
kept_same x a b h k = at x.row.pending h.waits.update k.waits.update
  where
    at : (o : Option Pending) → IsSomeAnd o (λ p. (p.stamp ≡ x.row.stamp) × (p.kind ≡ x.row.kind) × (p.reply ≡ Some a)) →
        IsSomeAnd o (λ p. (p.stamp ≡ x.row.stamp) × (p.kind ≡ x.row.kind) × (p.reply ≡ Some b)) → a ≡ b
    at None s t = absurd s
    at (Some p) s t = some_same a b (sym s.2 ∙ t.2)

not_another : (key : List ℕ) (ticket : ℕ) (p : Publication) → p.key ≡ key → p.ticket ≡ ticket → IsAnother key ticket p → ⊥
not_another key ticket p k t (inl ne) = ne k
not_another key ticket p k t (inr ne) = ne t

pub asks_are_shown : AsksAreShown
asks_are_shown rows lists last asks call ask held e front more x kept is of_key at_ticket begins =
    let f = held.fit call ask e in
    let one = one_place (IsAnother ask.key ask.ticket) front f.before x f.x more f.later (sym is ∙ f.stands) f.alone_before f.alone_behind
    (not_another ask.key ask.ticket x of_key at_ticket) (not_another ask.key ask.ticket f.x f.key f.ticket) in
    let k : f.kept ≡ kept = kept_same f.x f.kept kept f.begins (subst (λ (w : Publication). Begins w kept) one.0 begins) in
    subst (λ (w : Reply). Followed x more w ask.told) k
    (subst (λ (w : Publication). Followed w more f.kept ask.told) (sym one.0) (subst (λ (l : List Publication). Followed f.x l f.kept ask.told) (sym one.1) f.follows))

prefix_trans : (xs ys zs : List Publication) → IsPrefix xs ys → IsPrefix ys zs → IsPrefix xs zs
prefix_trans xs ys zs p q = (p.0 ++ q.0, sym (append_assoc xs p.0 q.0) ∙ (ap (λ w. w ++ q.0) p.1 ∙ q.1))

pub looks_are_joined : LooksAreJoined
looks_are_joined turns old mid new key ticket told pre loads l = let a = l.1 in (prefix_trans old.seen mid.seen new.seen pre l.0, omega (arith, a, loads), l.2)

-- ---- telling
-- what was begun after `first` is begun after `old`, which is shorter
abbrev begun_from : (old g first grown : List Publication) (call : CallNo) (key : List ℕ) (op : Op) → old ++ g ≡ first → (b : Begun first grown call key op) →
    (c : Begun old (g ++ grown) call key op) × (c.answer ≡ b.answer) × (c.x ≡ b.x) × (c.later ≡ b.later)
begun_from old g first grown call key op e b = (
  record {
    before = g ++ b.before;
    x = b.x;
    later = b.later;
    answer = b.answer;
    stands = ap (λ (l : List Publication). g ++ l) b.stands ∙ sym (append_assoc g b.before (b.x ∷ b.later));
    of_key = b.of_key;
    number = b.number;
    changes = subst (λ (l : List Publication). (acted_on op key l b.x).changed ≡ true) whole b.changes;
    acts = subst (λ (l : List Publication). (acted_on op key l b.x).answer ≡ b.answer) whole b.acts;
    content = subst (λ (l : List Publication). b.x.row.content ≡ (acted_on op key l b.x).register.content) whole b.content;
  },
  refl,
  refl,
  refl,
)
  where
    whole : first ++ b.before ≡ old ++ (g ++ b.before)
    whole = ap (λ (l : List Publication). l ++ b.before) (sym e) ∙ append_assoc old g b.before

shown_from : (old g first grown : List Publication) (call : CallNo) (key : List ℕ) (op : Op) (end now skew : ℕ) (answer : Answer) → old ++ g ≡ first →
    Shown first grown call key op end now skew answer → Shown old (g ++ grown) call key op end now skew answer
shown_from old g first grown call key op end now skew answer e h = by answer h
  where
    at_once : (a : Answer) → AtOnce end now skew (row_in key (first ++ grown)) op a → AtOnce end now skew (row_in key (old ++ (g ++ grown))) op a
    at_once a r = subst (λ (l : List Publication). AtOnce end now skew (row_in key l) op a) (ap (λ (l : List Publication). l ++ grown) (sym e) ∙ append_assoc old g grown) r

    changed : (a : Answer) → Changed first grown call key op a → Changed old (g ++ grown) call key op a
    changed a r = let c = begun_from old g first grown call key op e r.0 in (c.0, r.1, r.2)

    by : (a : Answer) → Shown first grown call key op end now skew a → Shown old (g ++ grown) call key op end now skew a
    by Stored r = changed Stored r
    by (Number value) r = changed (Number value) r
    by Deleted r = changed Deleted r
    by (Aborted stamp) r = let c = begun_from old g first grown call key op e r.0 in (c.0, r.1, r.2, r.3)
    by (Found content tag) r = at_once (Found content tag) r
    by Missing r = at_once Missing r
    by Exists r = at_once Exists r
    by NotFound r = at_once NotFound r
    by NotNumber r = at_once NotNumber r
    by NotStored r = at_once NotStored r
    by (Busy (Why.Lease a n)) r = at_once (Busy (Why.Lease a n)) r
    by (Busy (Why.Row state stamp)) r = at_once (Busy (Why.Row state stamp)) r
    by (Exhausted stamp) r = at_once (Exhausted stamp) r

pub at_once_is_shown : AtOnceIsShown
at_once_is_shown call key ticket op end now skew old new reply starts =
    let m : new.loads ≡ old.loads + 2 = starts.3 in
    let first = starts.0 in
    let g = starts.1.0 in
    let grown = starts.2.2.0 in (
      g ++ grown,
      2,
      starts.2.2.1 ∙ (ap (λ (l : List Publication). l ++ grown) (sym starts.1.1) ∙ append_assoc old.seen g grown),
      m,
      omega arith,
      shown_from old.seen g first grown call key op end now skew reply.answer starts.1.1 starts.2.2.2,
    )

-- the update that began stands in what was added
record Standing (call : CallNo) (key : List ℕ) (op : Op) (old new : End) (told : Option Answer) : Type 0 where
  grown : List Publication
  is_grown : new.seen ≡ old.seen ++ grown
  b : Begun old.seen grown call key op
  kept : Reply
  same : b.answer ≡ kept.answer
  kind : b.x.row.kind ≡ kind_of op
  writes : b.x.row.state ≡ Write
  follows : Followed b.x b.later kept told

standing : (call : CallNo) (key : List ℕ) (ticket : ℕ) (op : Op) (end now skew : ℕ) (old mid new : End) (told : Option Answer) → Starts old mid call key ticket op end now skew [] →
    IsPrefix mid.seen new.seen → LooksAt new.seen key ticket told → Standing call key op old new told
standing call key ticket op end now skew old mid new told starts pre looks = record {
  grown = starts.1.0 ++ (s.front ++ s.x ∷ (s.back ++ pre.0));
  is_grown = whole;
  b = c.0;
  kept = s.kept;
  same = refl;
  kind = s.kind;
  writes = s.begins.writes;
  follows = looks (starts.0 ++ s.front) (s.back ++ pre.0) s.x s.kept middle s.of_key s.at_ticket s.begins;
}
  where
    s : Started (starts.0) mid.seen call key ticket op
    s = starts.2

    joined : new.seen ≡ starts.0 ++ (s.front ++ s.x ∷ (s.back ++ pre.0))
    joined = sym pre.1 ∙ (ap (λ l. l ++ pre.0) s.grown ∙ (append_assoc starts.0 (s.front ++ s.x ∷ s.back) pre.0 ∙ ap (λ l. starts.0 ++ l) (append_assoc s.front (s.x ∷ s.back) pre.0)))

    middle : new.seen ≡ (starts.0 ++ s.front) ++ s.x ∷ (s.back ++ pre.0)
    middle = joined ∙ sym (append_assoc starts.0 s.front (s.x ∷ (s.back ++ pre.0)))

    whole : new.seen ≡ old.seen ++ (starts.1.0 ++ (s.front ++ s.x ∷ (s.back ++ pre.0)))
    whole = joined ∙ (ap (λ l. l ++ (s.front ++ s.x ∷ (s.back ++ pre.0))) (sym starts.1.1) ∙ append_assoc old.seen starts.1.0 (s.front ++ s.x ∷ (s.back ++ pre.0)))

    c : (c : Begun old.seen (starts.1.0 ++ (s.front ++ s.x ∷ (s.back ++ pre.0))) call key op) × (c.answer ≡ s.kept.answer) × (c.x ≡ s.x) × (c.later ≡ s.back ++ pre.0)
    c = begun_from old.seen starts.1.0 starts.0 (s.front ++ s.x ∷ (s.back ++ pre.0)) call key op starts.1.1 (record {
      before = s.front;
      x = s.x;
      later = s.back ++ pre.0;
      answer = s.kept.answer;
      stands = refl;
      of_key = s.of_key;
      number = s.begins.number ∙ ap Some s.number;
      changes = s.changes;
      acts = s.acts;
      content = s.content;
    })

pub after_looks_is_shown : AfterLooksIsShown
after_looks_is_shown call key ticket op end now skew turns old mid new answer starts w =
    let n : new.loads ≡ mid.loads + turns = w.1 in
    let m : mid.loads ≡ old.loads + 2 = starts.3 in
    (t.grown, turns + 2, t.is_grown, omega (arith, n, m), omega arith, by t.follows)
  where
    t : Standing call key op old new (Some answer)
    t = standing call key ticket op end now skew old mid new (Some answer) starts w.0 w.2

    given_up : t.b.x.row.kind ≡ Kind.Rmw → (o : Option Publication) → IsSomeAnd o (λ y. (y.row.state ≡ Invalid) × (answer ≡ Aborted y.row.stamp)) → next_past is_write t.b.x.key t.b.later ≡ o →
        Shown old.seen t.grown call key op end now skew answer
    given_up rmw None h e = absurd h
    given_up rmw (Some y) h e = subst (Shown old.seen t.grown call key op end now skew) (sym h.1)
        (t.b, sym t.kind ∙ rmw, t.writes, subst (λ (o : Option Publication). IsSomeAnd o (λ z. (z.row.state ≡ Invalid) × (z.row.stamp ≡ y.row.stamp))) (sym e) (h.0, refl))

    by : Followed t.b.x t.b.later t.kept (Some answer) → Shown old.seen t.grown call key op end now skew answer
    by (inl d) = changed_shown old.seen t.grown call key op end now skew answer t.b (t.same ∙ sym d.same)
        (inr (t.writes, subst (λ (k : Kind). IsSomeAnd (next_past is_open t.b.x.key t.b.later) (λ y. k ≡ Kind.Rmw → y.row.stamp ≡ t.b.x.row.stamp)) t.kind d.follows))
    by (inr d) = given_up d.rmw (next_past is_write t.b.x.key t.b.later) d.follows refl

pub unknown_is_shown : UnknownIsShown
unknown_is_shown call key ticket op end now skew turns old mid new starts w =
    let n : new.loads ≡ mid.loads + turns = w.1 in
    let m : mid.loads ≡ old.loads + 2 = starts.3 in
    (t.grown, turns + 2, t.is_grown, omega (arith, n, m), omega arith, (t.b, t.writes, t.follows.open_yet))
  where
    t : Standing call key op old new None
    t = standing call key ticket op end now skew old mid new None starts w.0 w.2

-- ---- what is shown suits its operation
acted_suits : (op : Op) (r : Register) (tag : ℕ) (answer : Answer) → (act op r tag).answer ≡ answer → answers op answer ≡ true
acted_suits op r tag answer e = subst (λ (a : Answer). answers op a ≡ true) e (suited op r tag)

-- a read changes nothing
no_read : (row : Row) (tag : ℕ) → (act Op.Read (register_in row) tag).changed ≡ true → ⊥
no_read row tag e = absurd (false≢true (sym (read_stays row.content (tag_of row.stamp) tag) ∙ e))

plain_rmw : Kind.Write ≡ Kind.Rmw → ⊥
plain_rmw e = grind (arith, e)

exhausts : (op : Op) (stamp : Stamp) (row : Row) (tag : ℕ) → (act op (register_in row) tag).changed ≡ true → answers op (Exhausted stamp) ≡ true
exhausts Op.Read stamp row tag e = absurd (no_read row tag e)
exhausts (Op.Write c) stamp row tag e = refl
exhausts (Op.Cas t c) stamp row tag e = refl
exhausts (Op.Incr n) stamp row tag e = refl
exhausts (Op.Decr n) stamp row tag e = refl
exhausts (Op.Add c) stamp row tag e = refl
exhausts (Op.Replace c) stamp row tag e = refl
exhausts Op.Delete stamp row tag e = refl

aborts : (op : Op) (stamp : Stamp) (row : Row) (tag : ℕ) → (act op (register_in row) tag).changed ≡ true → kind_of op ≡ Kind.Rmw → answers op (Aborted stamp) ≡ true
aborts Op.Read stamp row tag e rmw = absurd (no_read row tag e)
aborts (Op.Write c) stamp row tag e rmw = absurd (plain_rmw rmw)
aborts (Op.Cas t c) stamp row tag e rmw = refl
aborts (Op.Incr n) stamp row tag e rmw = refl
aborts (Op.Decr n) stamp row tag e rmw = refl
aborts (Op.Add c) stamp row tag e rmw = refl
aborts (Op.Replace c) stamp row tag e rmw = refl
aborts Op.Delete stamp row tag e rmw = refl

updates : (op : Op) (row : Row) (tag : ℕ) → (act op (register_in row) tag).changed ≡ true → is_update op ≡ true
updates Op.Read row tag e = absurd (no_read row tag e)
updates (Op.Write c) row tag e = refl
updates (Op.Cas t c) row tag e = refl
updates (Op.Incr n) row tag e = refl
updates (Op.Decr n) row tag e = refl
updates (Op.Add c) row tag e = refl
updates (Op.Replace c) row tag e = refl
updates Op.Delete row tag e = refl

busy_suits : (op : Op) (why : Why) → answers op (Busy why) ≡ true
busy_suits op why = refl

pub shown_suits : ShownSuits
shown_suits old grown call key op end now skew answer h = by answer h
  where
    changed : (a : Answer) → Changed old grown call key op a → answers op a ≡ true
    changed a c = acted_suits op (register_of key (old ++ c.0.before)) (tag_of c.0.x.row.stamp) a (c.0.acts ∙ c.1)

    by : (a : Answer) → Shown old grown call key op end now skew a → answers op a ≡ true
    by Stored c = changed Stored c
    by (Number value) c = changed (Number value) c
    by Deleted c = changed Deleted c
    by (Aborted stamp) c = aborts op stamp (row_in key (old ++ c.0.before)) (tag_of c.0.x.row.stamp) c.0.changes c.1
    by (Found content tag) c = acted_suits op (register_in (row_in key (old ++ grown))) 0 (Found content tag) c.3
    by Missing c = acted_suits op (register_in (row_in key (old ++ grown))) 0 Missing c.3
    by Exists c = acted_suits op (register_in (row_in key (old ++ grown))) 0 Exists c.3
    by NotFound c = acted_suits op (register_in (row_in key (old ++ grown))) 0 NotFound c.3
    by NotNumber c = acted_suits op (register_in (row_in key (old ++ grown))) 0 NotNumber c.3
    by NotStored c = acted_suits op (register_in (row_in key (old ++ grown))) 0 NotStored c.3
    by (Busy (Why.Lease a n)) c = busy_suits op (Why.Lease a n)
    by (Busy (Why.Row state stamp)) c = busy_suits op (Why.Row state stamp)
    by (Exhausted stamp) c = exhausts op stamp (row_in key (old ++ grown)) 0 c.3

pub unknown_suits : UnknownSuits
unknown_suits old grown call key op h = updates op (row_in key (old ++ h.0.before)) (tag_of h.0.x.row.stamp) h.0.changes
