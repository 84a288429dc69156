-- Each step of a node keeps what stands under its lock: one that is no call, and a call.
use Rattle.std.proofs.Common.{◌≡◌, ◌≢◌, ◌⊎◌, inl, inr, ⊎_elim, ℕ, ◌<◌, ◌≤◌, List, [], ◌∷◌, ◌++◌, length, map, Option, Some, None, is_some, unwrap_or, refl, sym, ap, ◌∙◌, subst, arith, append_assoc}
use Rattle.std.specs.Option.{IsSome, IsSomeAnd, option_or}
use Rattle.std.specs.List.{AllByRecursion}
use Rattle.std.proofs.lemmas.Bool.{false≢true}
use Rattle.std.proofs.lemmas.Option.{none-some}
use Rattle.std.specs.List.Sorted.{IsStrictlySortedBy}
use Rattle.std.specs.Map.{keys_of}
use Rattle.hk_base.specs.declared.stamp.Stamp.{Stamp}
use Rattle.hk_base.specs.declared.stamp.Kind.{Kind}
use Rattle.hk_base.specs.declared.call.CallNo.{CallNo}
use Rattle.hk_base.specs.declared.call.Op.{Op}
use Rattle.hk_base.specs.declared.call.Answer.{Answer}
use Rattle.hk_base.specs.declared.call.Reply.{Reply}
use Rattle.hk_base.specs.declared.call.State.TheVariants.{Valid, Write}
use Rattle.hk_copy.specs.Batches.{key_cmp}
use Rattle.hk_key.specs.declared.row.Pending.{Pending}
use Rattle.hk_key.specs.declared.row.Row.{Row}
use Rattle.hk_key.specs.Table.{first_row}
use Rattle.hk_node.specs.declared.event.NodeEvent.{NodeEvent}
use Rattle.hk_node.specs.declared.event.NodeEvent.TheVariants.{Call}
use Rattle.hk_node.specs.Rows.{find_row, row_at}
use Rattle.hk_node.specs.Node.{NodeState}
use Rattle.hk_node.specs.Calls.{kind_of, answers, lease_end}
use Rattle.hk_node.specs.Stepped.{Stepped, replies_of}
use Rattle.hk_node.specs.Steps.{node_step}
use Rattle.hk_node.specs.Sound.{IsNode, IsNodeEvent}
use Rattle.hk_node.proofs.Order.{cases_key}
use Rattle.hk_node.proofs.InOrder.{told_in_order}
use Rattle.hk_snap.specs.declared.rule.Publication.{Publication}
use Rattle.hk_journal.specs.declared.step_entry.JournalEntry.{JournalEntry}
use Rattle.hk_journal.specs.Journal.{after, call_of}
use Rattle.hk_told.specs.declared.ask.Ask.{Ask}
use Rattle.hk_told.specs.Moves.{WaitsFor, HasReply, Goes, Moves}
use Rattle.hk_told.specs.Steps.{AtOnce, Starts}
use Rattle.hk_told.specs.Lists.{is_open, is_write}
use Rattle.hk_told.specs.Held.{Begins, IsAnother, Fits, Asks, Lists, IsWaitingAt, IsHeld, heard, shown_at, Grow, Show, IsNewAsk, IsWith, StepsKeepAsks, CallsKeepAsks}
use Rattle.hk_told.proofs.Moving.{some_same, unmoved, silent, waits_not}
use Rattle.hk_told.proofs.Steps.{step_moves, calls_answer_or_start}
use Rattle.hk_told.proofs.OneKey.{key_events_change_one_row}
use Rattle.hk_told.proofs.Lists.{NoneOf, Shows, Adds, next_none, all_more, all_only}
use Rattle.hk_told.proofs.Added.{adds}
use Rattle.hk_told.proofs.Holding.{rows_add, fits_on, others_none, others_added, cases_call, drops_keep_asks, moved_held}

-- ---- a step that is no call
untold_some : (ask : Ask) → ask.told ≡ None → IsSome ask.told → ⊥
untold_some ask none some = absurd (false≢true (ap is_some (sym none) ∙ some))

pub steps_keep_asks : StepsKeepAsks
steps_keep_asks node entry lists grown last asks new ok within other less grow delivers held =
    drops_keep_asks (after node entry).rows grown entry.ticket told new (record { had = had; waits = waits })
    (moved_held node.rows (after node entry).rows lists grown (λ key. shown_at key node entry) last entry.ticket (call_of entry.event) asks told (node_step node entry.event).told less grow
    (λ key. adds node entry key ok within) (λ key. step_moves node entry.event key ok within other) (told_in_order node entry.event ok within) (λ call. refl) held)
  where
    told : Asks
    told call = heard call (replies_of (node_step node entry.event)) (asks call)

    had : (call : CallNo) (ask : Ask) → new call ≡ Some ask →
        IsSomeAnd (heard call (replies_of (node_step node entry.event)) (asks call)) (λ old. (old.key ≡ ask.key) × (old.ticket ≡ ask.ticket) × (old.told ≡ ask.told))
    had call ask e = ⊎_elim
        (λ same. subst (λ (o : Option Ask). IsSomeAnd o (λ old. (old.key ≡ ask.key) × (old.ticket ≡ ask.ticket) × (old.told ≡ ask.told))) (sym e ∙ same) (refl, refl, refl))
        (λ gone. absurd (none-some ask (sym gone.0 ∙ e))) (delivers call)

    waits : (call : CallNo) (ask : Ask) → heard call (replies_of (node_step node entry.event)) (asks call) ≡ Some ask → ask.told ≡ None → IsSomeAnd (new call) (IsWaitingAt ask.key)
    waits call ask e none = ⊎_elim (λ same. subst (λ (o : Option Ask). IsSomeAnd o (IsWaitingAt ask.key)) (sym (same ∙ e)) (none, refl))
        (λ gone. absurd (untold_some ask none (subst (λ (o : Option Ask). IsSomeAnd o (λ a. IsSome a.told)) e gone.1))) (delivers call)

-- ---- a call
abbrev untold : List (List ℕ × Reply)
untold = []

none_in_order : IsStrictlySortedBy key_cmp (keys_of untold)
unfolding IsStrictlySortedBy
none_in_order = tt

nothing_more : (o : Option Answer) → option_or o None ≡ o
nothing_more None = refl
nothing_more (Some a) = refl

heard_nothing : (call : CallNo) (o : Option Ask) → heard call [] o ≡ o
heard_nothing call None = refl
heard_nothing call (Some ask) = ap (λ (t : Option Answer). Some (record ask { told = t })) (nothing_more ask.told)

no_reply : (r : Reply) (rs : List Reply) → [] ≡ r ∷ rs → ⊥
no_reply r rs e = let n : 0 ≡ length (r ∷ rs) = ap length e in absurd (omega (arith, n))

pub valid_waits_not : (row : Row) → row.state ≡ Valid → (s : Stamp) (k : Kind) (kept : Reply) → WaitsFor s k kept row → ⊥
valid_waits_not row v = waits_not row Valid v (λ h. grind (arith, h)) (λ h. grind (arith, h))

-- the step of a call's entry
module _ (node : NodeState) (entry : JournalEntry) (call : CallNo) (key : List ℕ) (op : Op) (ok : IsNode node) (is : entry.event ≡ Call call key op) where
  abbrev stepped : Stepped
  stepped = node_step node entry.event

  pub within : IsNodeEvent entry.event
  within = subst IsNodeEvent (sym is) tt

  pub call_way : ((answer : Answer) × (stepped ≡ answers node key call answer) × AtOnce (lease_end node) node.clock node.skew (row_at key node.rows) op answer) ⊎ Starts node call key op stepped
  call_way = subst (λ (e : NodeEvent). ((answer : Answer) × (node_step node e ≡ answers node key call answer) × AtOnce (lease_end node) node.clock node.skew (row_at key node.rows) op answer)
      ⊎ Starts node call key op (node_step node e)) (sym is) (calls_answer_or_start node call key op ok)

  pub others_stay : (k : List ℕ) → k ≢ key → row_at k (after node entry).rows ≡ row_at k node.rows
  others_stay k ne = ap (λ (o : Option Row). unwrap_or o first_row)
      (subst (λ (e : NodeEvent). find_row k (node_step node e).node.rows ≡ find_row k node.rows) (sym is) ((key_events_change_one_row node (Call call key op) key refl).1 k ne))

  -- an update that begins is published, since its row has another stamp
  pub published_at : Starts node call key op stepped → Shows key (find_row key (after node entry).rows) entry.ticket (call_of entry.event) (shown_at key node entry)
  published_at starts = by (adds node entry key ok within)
    where
      by : Adds key (find_row key node.rows) (find_row key (after node entry).rows) entry.ticket (call_of entry.event) (shown_at key node entry) →
          Shows key (find_row key (after node entry).rows) entry.ticket (call_of entry.event) (shown_at key node entry)
      by (inl h) =
          let same : (row_at key node.rows).stamp.version ≡ starts.stamp.version =
          ap (λ (o : Option Row). (unwrap_or o first_row).stamp.version) (sym h.1) ∙ ap (λ (s : Stamp). s.version) starts.own in
          let later = starts.later in
          absurd (omega (arith, same, later))
      by (inr h) = h

  module _ (lists grown : Lists) (last : ℕ) (asks new : Asks) (less : last < entry.ticket) (grow : Grow lists grown node entry) (held : IsHeld node.rows lists last asks) where
    -- no ask is more or less, and none is told
    quiet : ((k : List ℕ) → Moves (row_at k node.rows) (row_at k (after node entry).rows) None) → ((other : CallNo) → new other ≡ asks other) → IsHeld (after node entry).rows grown entry.ticket new
    quiet law same =
        moved_held node.rows (after node entry).rows lists grown (λ k. shown_at k node entry) last entry.ticket (call_of entry.event) asks new untold less grow
        (λ k. adds node entry k ok within) law none_in_order (λ other. same other ∙ sym (heard_nothing other (asks other))) held

    -- the row is Valid before, and no update is pending behind
    ended : (row_at key node.rows).state ≡ Valid → (row_at key (after node entry).rows).pending ≡ None → (k : List ℕ) → Moves (row_at k node.rows) (row_at k (after node entry).rows) None
    ended valid gone k = ⊎_elim
        (λ (e : k ≡ key). subst (λ (q : List ℕ). Moves (row_at q node.rows) (row_at q (after node entry).rows) None) (sym e)
        (silent (row_at key node.rows) (row_at key (after node entry).rows) (valid_waits_not (row_at key node.rows) valid)
        (λ kept h. subst (λ (o : Option Pending). IsSomeAnd o (λ p. p.reply ≡ Some kept)) gone h)))
        (λ (ne : k ≢ key). unmoved (row_at k node.rows) (row_at k (after node entry).rows) (others_stay k ne)) (cases_key k key)

    -- an update that waits
    module _ (none : asks call ≡ None) (show : Show node.rows lists last) (ask : Ask) (fresh : IsNewAsk key entry.ticket ask) (with_ask : IsWith call ask asks new)
        (starts : Starts node call key op stepped) (waits : WaitsFor starts.stamp (kind_of op) (record { call = call; answer = starts.answer }) (row_at key (after node entry).rows))
        (writes : (row_at key (after node entry).rows).state ≡ Write) where
      abbrev kept : Reply
      kept = record { call = call; answer = starts.answer }

      abbrev row : Row
      row = row_at key (after node entry).rows

      abbrev shows : Shows key (find_row key (after node entry).rows) entry.ticket (call_of entry.event) (shown_at key node entry)
      shows = published_at starts

      is_row : shows.s.row ≡ row
      is_row = ap (λ (o : Option Row). unwrap_or o first_row) shows.row

      row_waits : WaitsFor row.stamp row.kind kept row
      row_waits = subst (λ (s : Stamp). WaitsFor s row.kind kept row) (sym starts.own) (subst (λ (k : Kind). WaitsFor starts.stamp k kept row) (sym starts.kind) waits)

      begins : Begins shows.s kept
      begins = record {
        number = shows.call_of ∙ ap call_of is;
        writes = ap (λ (r : Row). r.state) is_row ∙ writes;
        waits = subst (λ (r : Row). WaitsFor r.stamp r.kind kept r) (sym is_row) row_waits;
      }

      older : AllByRecursion (IsAnother key entry.ticket) (lists key)
      older = all_only (λ p. p.ticket ≤ last) (IsAnother key entry.ticket) (lists key) (λ p le. inr (λ e. omega (arith, le, less, e))) (show.below key)

      own_fits : Fits (grown key) row call (record ask { key = key; ticket = entry.ticket; told = None })
      own_fits = record {
        before = lists key ++ shows.one.front;
        x = shows.s;
        later = shows.one.back;
        kept = kept;
        stands = grow key ∙ ap (λ (l : List Publication). lists key ++ l) shows.one.stands ∙ sym (append_assoc (lists key) shows.one.front (shows.s ∷ shows.one.back));
        key = sym shows.one.key_of;
        ticket = shows.ticket_of;
        number = refl;
        begins = begins;
        follows = record { open_yet = next_none is_open shows.s.key shows.one.back none_behind; written = λ rmw. next_none is_write shows.s.key shows.one.back none_behind };
        waits = λ n. subst (λ (r : Row). WaitsFor r.stamp r.kind kept row) (sym is_row) row_waits;
        alone_before = all_more (IsAnother key entry.ticket) (lists key) shows.one.front older (others_none key entry.ticket shows.one.front shows.one.none_before);
        alone_behind = others_none key entry.ticket shows.one.back shows.one.none_behind;
      }
        where
          none_behind : NoneOf shows.s.key shows.one.back
          none_behind = subst (λ (k : List ℕ). NoneOf k shows.one.back) shows.one.key_of shows.one.none_behind

      other_fits : (c : CallNo) (a : Ask) → asks c ≡ Some a → Fits (grown a.key) (row_at a.key (after node entry).rows) c a × (a.ticket ≤ entry.ticket)
      other_fits c a e =
          let drawn = held.drawn c a e in (
            subst (λ (t : Option Answer). Fits (grown a.key) (row_at a.key (after node entry).rows) c (record a { told = t })) (nothing_more a.told)
                (subst (λ (l : List Publication). Fits l (row_at a.key (after node entry).rows) c (record a { told = option_or a.told None })) (sym (grow a.key))
                (fits_on (lists a.key) (shown_at a.key node entry) (row_at a.key node.rows) (row_at a.key (after node entry).rows) c a f None None
                (rows_add a.key (find_row a.key node.rows) (find_row a.key (after node entry).rows) entry.ticket (call_of entry.event) (shown_at a.key node entry) (adds node entry a.key ok within))
                (others_added a.key a.ticket (find_row a.key node.rows) (find_row a.key (after node entry).rows) entry.ticket (call_of entry.event) (shown_at a.key node entry) (omega arith)
                (adds node entry a.key ok within)) goes (λ n. refl))),
            omega arith,
          )
        where
          f : Fits (lists a.key) (row_at a.key node.rows) c a
          f = held.fit c a e

          goes : a.told ≡ None → Goes f.x.row.stamp f.x.row.kind f.kept (row_at a.key (after node entry).rows) None
          goes n = ⊎_elim
              (λ (same : a.key ≡ key). absurd (valid_waits_not (row_at key node.rows) starts.valid f.x.row.stamp f.x.row.kind f.kept
              (subst (λ (q : List ℕ). WaitsFor f.x.row.stamp f.x.row.kind f.kept (row_at q node.rows)) same (f.waits n))))
              (λ (ne : a.key ≢ key). inl (subst (WaitsFor f.x.row.stamp f.x.row.kind f.kept) (sym (others_stay a.key ne)) (f.waits n), refl)) (cases_key a.key key)

      fit_all : (c : CallNo) (a : Ask) → new c ≡ Some a → Fits (grown a.key) (row_at a.key (after node entry).rows) c a × (a.ticket ≤ entry.ticket)
      fit_all c a e = ⊎_elim mine (λ (ne : c ≢ call). other_fits c a (sym (with_ask.1 c ne) ∙ e)) (cases_call c call)
        where
          as_made : record ask { key = key; ticket = entry.ticket; told = None } ≡ ask
          as_made = λ i. record ask { key = sym fresh.0 i; ticket = sym fresh.1 i; told = sym fresh.2 i }

          mine : c ≡ call → Fits (grown a.key) (row_at a.key (after node entry).rows) c a × (a.ticket ≤ entry.ticket)
          mine same =
              let own : ask ≡ a = some_same ask a (sym with_ask.0 ∙ (ap new (sym same) ∙ e)) in
              subst (λ (b : Ask). Fits (grown b.key) (row_at b.key (after node entry).rows) c b × (b.ticket ≤ entry.ticket)) (as_made ∙ own)
              (subst (λ (d : CallNo). Fits (grown key) row d (record ask { key = key; ticket = entry.ticket; told = None })) (sym same) own_fits, omega arith)

      kept_all : (k : List ℕ) (reply : Reply) → HasReply reply (row_at k (after node entry).rows) → IsSomeAnd (new reply.call) (IsWaitingAt k)
      kept_all k reply has = ⊎_elim here there (cases_key k key)
        where
          mine : (o : Option Pending) → IsSomeAnd o (λ p. (p.stamp ≡ starts.stamp) × (p.kind ≡ kind_of op) × (p.reply ≡ Some kept)) → IsSomeAnd o (λ p. p.reply ≡ Some reply) → kept ≡ reply
          mine None a b = absurd b
          mine (Some p) a b = some_same kept reply (sym a.2 ∙ b)

          here : k ≡ key → IsSomeAnd (new reply.call) (IsWaitingAt k)
          here e =
              let own : kept ≡ reply = mine row.pending waits.update (subst (λ (q : List ℕ). HasReply reply (row_at q (after node entry).rows)) e has) in
              subst (λ (c : CallNo). IsSomeAnd (new c) (IsWaitingAt k)) (ap (λ (r : Reply). r.call) own)
              (subst (λ (o : Option Ask). IsSomeAnd o (IsWaitingAt k)) (sym with_ask.0) (fresh.2, fresh.0 ∙ sym e))

          there : k ≢ key → IsSomeAnd (new reply.call) (IsWaitingAt k)
          there ne =
              let w = held.kept k reply (subst (HasReply reply) (others_stay k ne) has) in
              let other : reply.call ≢ call = (λ e. subst (λ (o : Option Ask). IsSomeAnd o (IsWaitingAt k)) (ap asks e ∙ none) w) in
              subst (λ (o : Option Ask). IsSomeAnd o (IsWaitingAt k)) (sym (with_ask.1 reply.call other)) w

      pub begun_held : IsHeld (after node entry).rows grown entry.ticket new
      begun_held = record { fit = λ c a e. (fit_all c a e).0; drawn = λ c a e. (fit_all c a e).1; kept = kept_all }

pub calls_keep_asks : CallsKeepAsks
calls_keep_asks node entry call key op lists grown last asks new ok is none less grow show how held = by (call_way node entry call key op ok is) how
  where
    Result : Type 0
    Result = IsHeld (after node entry).rows grown entry.ticket new

    by : ((answer : Answer) × (node_step node entry.event ≡ answers node key call answer) × AtOnce (lease_end node) node.clock node.skew (row_at key node.rows) op answer)
        ⊎ Starts node call key op (node_step node entry.event) →
        (((reply : Reply) × (replies_of (node_step node entry.event) ≡ reply ∷ [])) × ((other : CallNo) → new other ≡ asks other))
        ⊎ ((replies_of (node_step node entry.event) ≡ []) × ((ask : Ask) × IsNewAsk key entry.ticket ask × IsWith call ask asks new)) → Result
    by (inl a) (inl h) = quiet node entry call key op ok is lists grown last asks new less grow held
        (λ k. unmoved (row_at k node.rows) (row_at k (after node entry).rows) (ap (λ (s : Stepped). row_at k s.node.rows) a.1)) h.1
    by (inl a) (inr h) = absurd (no_reply (record { call = call; answer = a.0 }) [] (sym h.0 ∙ ap replies_of a.1))
    by (inr s) (inl h) = ⊎_elim
        (λ w. absurd (no_reply h.0.0 [] (ap (map (λ (t : List ℕ × Reply). t.1)) (sym w.2) ∙ h.0.1)))
        (λ e. quiet node entry call key op ok is lists grown last asks new less grow held (ended node entry call key op ok is lists grown last asks new less grow held s.valid e.1) h.1) s.goes
    by (inr s) (inr h) = ⊎_elim
        (λ w. begun_held node entry call key op ok is lists grown last asks new less grow held none show h.1.0 h.1.1 h.1.2 s w.0 w.1)
        (λ e. absurd (no_reply (record { call = call; answer = s.answer }) [] (sym h.0 ∙ ap (map (λ (t : List ℕ × Reply). t.1)) e.2))) s.goes
