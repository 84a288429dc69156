-- What stands under a shard's lock is kept by each step.
use Rattle.std.proofs.Common.{◌≡◌, ◌≢◌, ◌⊎◌, inl, inr, ⊎_elim, ℕ, ◌<◌, List, [], ◌∷◌, ◌++◌, map, drop, slice_index_or, Bool, true, false, is_some, if◌then◌else◌, Option, Some, None, refl, sym, ap, ◌∙◌, subst}
use Rattle.std.proofs.lemmas.Bool.{false≢true}
use Rattle.std.specs.Option.{option_or, IfSome}
use Rattle.hk_base.specs.declared.stamp.NodeId.{NodeId}
use Rattle.hk_base.specs.declared.call.CallNo.{CallNo}
use Rattle.hk_base.specs.declared.call.Op.{Op}
use Rattle.hk_base.specs.declared.call.Answer.{Answer}
use Rattle.hk_base.specs.declared.call.Reply.{Reply}
use Rattle.hk_key.specs.declared.row.Row.{Row}
use Rattle.hk_node.specs.declared.event.NodeEvent.{NodeEvent}
use Rattle.hk_node.specs.declared.event.NodeEvent.TheVariants.{Call}
use Rattle.hk_node.specs.Rows.{Rows, row_at}
use Rattle.hk_node.specs.Node.{NodeState}
use Rattle.hk_node.specs.Calls.{lease_end}
use Rattle.hk_node.specs.Stepped.{replies_of}
use Rattle.hk_node.specs.Steps.{node_step}
use Rattle.hk_node.specs.Sound.{IsNode, IsNodeEvent}
use Rattle.hk_node.specs.Laws.{IsNoCall}
use Rattle.hk_snap.specs.declared.rule.Publication.{Publication}
use Rattle.hk_snap.specs.Snapshots.{cell_of}
use Rattle.hk_snap.specs.Ends.{names, seen_at}
use Rattle.hk_shard.specs.Shown.{last_row as last_shown_row}
use Rattle.hk_shard.specs.Shard.{ShardState, IsShard, IsApplied, step_entry}
use Rattle.hk_shard.proofs.Covering.{covers_over}
use Rattle.hk_shard.proofs.Keeping.{part_is_node}
use Rattle.std.specs.List.{AllByRecursion}
use Rattle.hk_base.specs.Range.{IsLetter}
use Rattle.hk_base.specs.declared.letter.Letter.{Letter}
use Rattle.hk_node.proofs.Ranged.{letters_in_range}
use Rattle.hk_due.specs.Keys.{OpenState, AreOpen, Follows}
use Rattle.hk_due.proofs.Following.{following_keeps}
use Rattle.hk_told.specs.declared.ask.Ask.{Ask}
use Rattle.hk_told.specs.Lists.{last_row}
use Rattle.hk_told.specs.Held.{Asks, IsHeld, Delivers, heard, Grow, Show, AreFewer, IsNewAsk, IsWith}
use Rattle.hk_told.specs.Kept.{asks_in, given_up, unwanted_ask, AreOthersSame}
use Rattle.hk_told.proofs.Apart.{fewer_itself}
use Rattle.hk_told.proofs.Calling.{steps_keep_asks, calls_keep_asks}
use Rattle.hk_told.proofs.Holding.{drops_keep_asks, none_are_held, cases_call}
use Rattle.hk_told.proofs.Staying.{steps_keep_numbers}
use Rattle.hk_told.proofs.Steps.{calls_answer_or_start}
use Rattle.hk_told.specs.Steps.{AtOnce, Starts as StartsAtNode}
use Rattle.hk_node.specs.Calls.{answers}
use Rattle.hk_told.proofs.Telling.{calls_begin_in_lists}
use Rattle.hk_locked.specs.Places.{NodeNames, node_names, shard_names}
use Rattle.hk_told.specs.Shown.{BeginsIn}
use Rattle.hk_locked.specs.Locked.{lists_in, LockedState, IsLocked}
use Rattle.hk_locked.specs.Steps.{GivesUp, IsLeft, AreOneOrNone, HasCalled, Begins, replies_with}

-- ---- a shard's lists show its rows
same_last : (key : List ℕ) (list : List Publication) (row : Option Row) → last_row key list row ≡ last_shown_row key list row
same_last key [] row = refl
same_last key (p ∷ list) row = same_last key list _

pub shows_of : (s : ShardState) → IsShard s → Show s.part.rows (lists_in s.ends) s.last
shows_of s is = record {
  covers = λ key.
      let shows = is.shows (cell_of key) in
      same_last key (seen_at s.ends (cell_of key)) None
      ∙ rw (shows.ends, is.part) (covers_over (cell_of key) shows.front s.base s.journal is.node is.events shows.covers key refl);
  below = λ key. is.shown_tickets (cell_of key);
}

pub grows_by : (s t : ShardState) (ticket : ℕ) (event : NodeEvent) → IsApplied s ticket event t → Grow (lists_in s.ends) (lists_in t.ends) s.part (step_entry ticket s.part event)
grows_by s t ticket event applied = λ key. applied.shown (cell_of key)

is_empty : List Reply → Bool
is_empty [] = true
is_empty (x ∷ xs) = false

is_none : Option Answer → Bool
is_none None = true
is_none (Some a) = false

-- ---- replies
pub heard_nothing : (asks : Asks) → Delivers [] asks asks
heard_nothing asks = λ call. inl (at_call call (asks call))
  where
    at_call : (call : CallNo) (o : Option Ask) → o ≡ heard call [] o
    at_call call None = refl
    at_call call (Some ask) = ap Some (told_same ask ask.told refl)
      where
        told_same : (ask : Ask) (told : Option Answer) → ask.told ≡ told → ask ≡ record ask { told = option_or ask.told None }
        told_same ask None is = ap (λ t. record ask { told = t }) (is ∙ sym (ap (λ t. option_or t None) is))
        told_same ask (Some answer) is = ap (λ t. record ask { told = t }) (is ∙ sym (ap (λ t. option_or t None) is))

-- the step of a call gives its reply alone, or none
pub one_reply : (node : NodeState) (call : CallNo) (key : List ℕ) (op : Op) → IsNode node → AreOneOrNone call (replies_of (node_step node (Call call key op)))
one_reply node call key op is = at_case (calls_answer_or_start node call key op is)
  where
    at_case : ((answer : Answer) × (node_step node (Call call key op) ≡ answers node key call answer) × AtOnce (lease_end node) node.clock node.skew (row_at key node.rows) op answer)
        ⊎ StartsAtNode node call key op (node_step node (Call call key op)) → AreOneOrNone call (replies_of (node_step node (Call call key op)))
    at_case (inl h) = inr (h.0, ap replies_of h.1)
    at_case (inr s) = at_goes (node_step node (Call call key op)).told _ _ _ _ s.answer s.goes
      where
        at_goes : (told : List (List ℕ × Reply)) (A B C D : Type 0) (answer : Answer) → (A × B × (told ≡ [])) ⊎ (C × D × (told ≡ (key, record { call = call; answer = answer }) ∷ []))
            → AreOneOrNone call (map (λ t. t.1) told)
        at_goes told A B C D answer (inl g) = inl (ap (map (λ (t : List ℕ × Reply). t.1)) g.2)
        at_goes told A B C D answer (inr g) = inr (answer, ap (map (λ (t : List ℕ × Reply). t.1)) g.2)

-- the last of the replies is the one, if there is any
no_last : (rest : List Reply) (reply : Reply) → [] ≡ rest ++ reply ∷ [] → ⊥
unfolding is_empty
no_last [] reply is = false≢true (sym (ap is_empty is))
no_last (x ∷ rest) reply is = false≢true (sym (ap is_empty is))

last_is : (rest : List Reply) (one reply : Reply) → one ∷ [] ≡ rest ++ reply ∷ [] → one ≡ reply
last_is [] one reply is = ap (λ l. slice_index_or l 0 one) is
last_is (x ∷ rest) one reply is = absurd (no_last rest reply (ap (drop 1) is))

pub last_told : (call : CallNo) (replies rest : List Reply) (reply : Reply) → replies ≡ rest ++ reply ∷ [] → AreOneOrNone call replies → replies ≡ replies_with call (Some reply.answer)
last_told call replies rest reply is (inl none) = absurd (no_last rest reply (sym none ∙ is))
last_told call replies rest reply is (inr one) =
    one.1 ∙ ap (λ (r : Reply). record { call = call; answer = r.answer } ∷ []) (last_is rest (record { call = call; answer = one.0 }) reply (sym one.1 ∙ is))

some_none : (a : Answer) → Some a ≡ None → ⊥
unfolding is_none
some_none a is = false≢true (ap is_none is)

-- ---- the step of a call
pub one_given : (s : ShardState) (call : CallNo) (key : List ℕ) (op : Op) (event : NodeEvent) (replies : List Reply) → IsShard s → event ≡ Call call key op
    → replies ≡ replies_of (node_step s.part event) → AreOneOrNone call replies
one_given s call key op event replies is same given =
    subst (AreOneOrNone call) (sym (given ∙ ap (λ (e : NodeEvent). replies_of (node_step s.part e)) same)) (one_reply s.part call key op (part_is_node s is))

-- an ask that was kept and then dropped leaves the asks as they were
back_again : (call : CallNo) (ask : Ask) (asks kept new : Asks) → asks call ≡ None → IsWith call ask asks kept → new call ≡ None → AreOthersSame call kept new
    → (other : CallNo) → new other ≡ asks other
back_again call ask asks kept new unasked kept_it gone others other = ⊎_elim
    (λ (e : other ≡ call). subst (λ (o : CallNo). new o ≡ asks o) (sym e) (gone ∙ sym unasked))
    (λ (ne : other ≢ call). others other ne ∙ kept_it.1 other ne) (cases_call other call)

pub called_waits : (s t : ShardState) (ticket : ℕ) (call : CallNo) (key : List ℕ) (op : Op) (event : NodeEvent) (replies : List Reply) (ask : Ask) (asks kept : Asks)
    → event ≡ Call call key op → asks call ≡ None → IsNewAsk key ticket ask → IsWith call ask asks kept → IsApplied s ticket event t
    → replies ≡ replies_of (node_step s.part event) → replies ≡ replies_with call None → HasCalled s asks ticket call key op t kept None
called_waits s t ticket call key op event replies ask asks kept same unasked fresh kept_it applied given told = record {
  unasked = unasked;
  applied = subst (λ (e : NodeEvent). IsApplied s ticket e t) same applied;
  told = sym (given ∙ ap (λ (e : NodeEvent). replies_of (node_step s.part e)) same) ∙ told;
  asked = inr (refl, (ask, fresh, kept_it));
}

pub called_at_once : (s t : ShardState) (ticket : ℕ) (call : CallNo) (key : List ℕ) (op : Op) (event : NodeEvent) (replies : List Reply) (ask : Ask) (asks kept new : Asks) (answer : Answer)
    → event ≡ Call call key op → asks call ≡ None → IsWith call ask asks kept → IsApplied s ticket event t
    → replies ≡ replies_of (node_step s.part event) → replies ≡ replies_with call (Some answer) → new call ≡ None → AreOthersSame call kept new
    → HasCalled s asks ticket call key op t new (Some answer)
called_at_once s t ticket call key op event replies ask asks kept new answer same unasked kept_it applied given told gone others = record {
  unasked = unasked;
  applied = subst (λ (e : NodeEvent). IsApplied s ticket e t) same applied;
  told = sym (given ∙ ap (λ (e : NodeEvent). replies_of (node_step s.part e)) same) ∙ told;
  asked = inl (some_none answer, back_again call ask asks kept new unasked kept_it gone others);
}

-- the letters of a step of a call
pub called_letters : (s : ShardState) (call : CallNo) (key : List ℕ) (op : Op) (event : NodeEvent) (letters : List Letter) → IsShard s → event ≡ Call call key op
    → letters ≡ (node_step s.part event).letters → AllByRecursion IsLetter letters
called_letters s call key op event letters is same given =
    subst (AllByRecursion IsLetter) (sym given) (letters_in_range s.part event (part_is_node s is) (subst IsNodeEvent (sym same) tt))

-- ---- the keys of open rows
-- a step is followed, and they are those of the open rows again
still_open : (ticket : ℕ) (old new : Rows) (before after : OpenState) → Follows ticket old new before after → AreOpen before old → AreOpen after new
still_open ticket old new before after follow = following_keeps follow.changed old new ticket before after follow.differ follow.noted

none_open : AreOpen (record { since = []; whole = true }) []
none_open = record { open_ones = λ key there. absurd (false≢true there); all_open = λ whole key is. absurd (false≢true is) }

-- ---- what stands under the lock
module _ (places : List NodeNames) (node : NodeId) (number skew : ℕ) where
  abbrev locked : ShardState → List (CallNo × Ask) → OpenState → LockedState
  locked shard asks keys = record { node = node; number = number; skew = skew; shard = shard; asks = asks; open_keys = keys }

  moved : (s t : ShardState) (ticket : ℕ) (event : NodeEvent) (asks new : List (CallNo × Ask)) (keys followed : OpenState) → IsShard s → IsNodeEvent event → IsApplied s ticket event t
      → IsLocked places (locked s asks keys) → Follows ticket s.part.rows t.part.rows keys followed → IsHeld t.part.rows (lists_in t.ends) t.last (asks_in new)
      → IsLocked places (locked t new followed)
  moved s t ticket event asks new keys followed is within applied old follow held = record {
    cells = applied.names ∙ old.cells;
    lease = ap (λ l. l.name) applied.lease ∙ old.lease;
    skew = old.skew;
    part = ap (λ p. p.skew) applied.part ∙ ((steps_keep_numbers s.part event (part_is_node s is) within).1 ∙ old.part);
    held = held;
    are_open = still_open ticket s.part.rows t.part.rows keys followed follow old.are_open;
  }

  -- a step that is no call
  pub applied_locked : (s t : ShardState) (ticket : ℕ) (event : NodeEvent) (asks new : List (CallNo × Ask)) (keys followed : OpenState) → IsShard s → s.last < ticket → IsNodeEvent event
      → IsNoCall event → IsApplied s ticket event t → Delivers (replies_of (node_step s.part event)) (asks_in asks) (asks_in new) → Follows ticket s.part.rows t.part.rows keys followed
      → IsLocked places (locked s asks keys) → IsLocked places (locked t new followed)
  applied_locked s t ticket event asks new keys followed is up within no_call applied delivered follow old =
      moved s t ticket event asks new keys followed is within applied old follow
      (rw (applied.part, applied.last) (steps_keep_asks s.part (step_entry ticket s.part event) (lists_in s.ends) (lists_in t.ends) s.last (asks_in asks) (asks_in new)
      (part_is_node s is) within no_call up (grows_by s t ticket event applied) delivered old.held))

  -- a call
  pub called_locked : (s t : ShardState) (ticket : ℕ) (call : CallNo) (key : List ℕ) (op : Op) (answer : Option Answer) (asks new : List (CallNo × Ask)) (keys followed : OpenState) → IsShard s
      → s.last < ticket → HasCalled s (asks_in asks) ticket call key op t (asks_in new) answer → Follows ticket s.part.rows t.part.rows keys followed
      → IsLocked places (locked s asks keys) → IsLocked places (locked t new followed)
  called_locked s t ticket call key op answer asks new keys followed is up called follow old =
      moved s t ticket (Call call key op) asks new keys followed is tt called.applied old follow
      (rw (called.applied.part, called.applied.last) (calls_keep_asks s.part (step_entry ticket s.part (Call call key op)) call key op (lists_in s.ends) (lists_in t.ends) s.last (asks_in asks) (asks_in new)
      (part_is_node s is) refl called.unasked up (grows_by s t ticket (Call call key op) called.applied) (shows_of s is) (at_answer answer called.told called.asked) old.held))
    where
      Asked : Option Answer → Type 0
      Asked a = ((a ≢ None) × ((other : CallNo) → asks_in new other ≡ asks_in asks other)) ⊎ ((a ≡ None) × ((ask : Ask) × IsNewAsk key ticket ask × IsWith call ask (asks_in asks) (asks_in new)))

      Kept : Type 0
      Kept = (((reply : Reply) × (replies_of (node_step s.part (Call call key op)) ≡ reply ∷ [])) × ((other : CallNo) → asks_in new other ≡ asks_in asks other))
          ⊎ ((replies_of (node_step s.part (Call call key op)) ≡ []) × ((ask : Ask) × IsNewAsk key ticket ask × IsWith call ask (asks_in asks) (asks_in new)))

      at_answer : (a : Option Answer) → replies_of (node_step s.part (Call call key op)) ≡ replies_with call a → Asked a → Kept
      at_answer None none (inl h) = absurd (h.0 refl)
      at_answer None none (inr h) = inr (none, h.1)
      at_answer (Some a) one (inl h) = inl ((record { call = call; answer = a }, one), h.1)
      at_answer (Some a) one (inr h) = absurd (some_none a h.0)

  -- and what it makes of its key's list
  pub begins : (s t : ShardState) (ticket : ℕ) (call : CallNo) (key : List ℕ) (op : Op) (answer : Option Answer) (asks new : List (CallNo × Ask)) (keys followed : OpenState) → IsShard s
      → HasCalled s (asks_in asks) ticket call key op t (asks_in new) answer → IsLocked places (locked s asks keys) → Begins (locked s asks keys) (locked t new followed) call key ticket op answer
  begins s t ticket call key op answer asks new keys followed is called old =
      subst (λ n. BeginsIn (lists_in s.ends key) (lists_in t.ends key) call key ticket op (lease_end s.part) s.part.clock n (replies_with call answer)) old.part
      (subst (λ l. BeginsIn (lists_in s.ends key) (lists_in t.ends key) call key ticket op (lease_end s.part) s.part.clock s.part.skew l) called.told
      (calls_begin_in_lists s.part (step_entry ticket s.part (Call call key op)) call key op (lists_in s.ends) (lists_in t.ends) s.last (part_is_node s is) refl
      (grows_by s t ticket (Call call key op) called.applied) (shows_of s is)))

  -- asks that were told something may be dropped
  pub dropped_locked : (s : ShardState) (asks new : List (CallNo × Ask)) (keys : OpenState) → AreFewer (asks_in asks) (asks_in new) → IsLocked places (locked s asks keys)
      → IsLocked places (locked s new keys)
  dropped_locked s asks new keys fewer old = record {
    cells = old.cells;
    lease = old.lease;
    skew = old.skew;
    part = old.part;
    held = drops_keep_asks s.part.rows (lists_in s.ends) s.last (asks_in asks) (asks_in new) fewer old.held;
    are_open = old.are_open;
  }

  -- the asks are the same ones
  pub same_locked : (s : ShardState) (asks new : List (CallNo × Ask)) (keys : OpenState) → ((call : CallNo) → asks_in new call ≡ asks_in asks call) → IsLocked places (locked s asks keys)
      → IsLocked places (locked s new keys)
  same_locked s asks new keys same old = dropped_locked s asks new keys (subst (AreFewer (asks_in asks)) (sym (λ i call. same call i)) (fewer_itself (asks_in asks))) old

  -- a shard that begins
  pub new_locked : (s : ShardState) (asks : List (CallNo × Ask)) (keys : OpenState) → asks ≡ [] → keys ≡ record { since = []; whole = true } → s.part.rows ≡ [] → s.part.skew ≡ skew
      → names s.ends ≡ (shard_names places node number).cells → s.lease.name ≡ (shard_names places node number).lease
      → skew ≡ (node_names places node).skew → IsLocked places (locked s asks keys)
  new_locked s asks keys none no_keys no_rows part cells lease same = record {
    cells = cells;
    lease = lease;
    skew = same;
    part = part;
    held = none_are_held s.part.rows (lists_in s.ends) s.last (asks_in asks) (λ key. rw no_rows refl) (λ call. rw none refl);
    are_open = subst (λ (k : OpenState). AreOpen k s.part.rows) (sym no_keys) (subst (AreOpen (record { since = []; whole = true })) (sym no_rows) none_open);
  }

-- ---- an ask that is given up
left_of : (o : Option Ask) → IfSome (given_up o) (λ ask. ask.wanted ≡ false)
left_of None = tt
left_of (Some ask) = by ask.told
  where
    by : (told : Option Answer) → IfSome (if is_some told then None else Some (unwanted_ask ask)) (λ ask. ask.wanted ≡ false)
    by None = refl
    by (Some answer) = tt

-- nobody waits for what its call is told
pub given_up_is_left : (call : CallNo) (old new : LockedState) → GivesUp call old new → IsLeft call new
given_up_is_left call old new g = subst (λ (o : Option Ask). IfSome o (λ ask. ask.wanted ≡ false)) (sym g.left) (left_of (asks_in old.asks call))
