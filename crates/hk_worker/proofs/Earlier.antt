-- What an ask tells is told too from before a look that came first.
use Rattle.std.proofs.Common.{◌≡◌, inl, inr, ℕ, ◌+◌, ◌-◌, ◌≤◌, min, List, ◌∷◌, ◌++◌, Option, Some, None, true, false, Result, Ok, Err, refl, sym, ap, ◌∙◌, subst, arith, append_assoc, le_refl, le_trans}
use Rattle.std.specs.Option.{IfSome}
use mathlib.Core.List.{IsPrefix}
use Rattle.hk_base.specs.declared.time.TheConstants.{MAX_TIME}
use Rattle.hk_base.specs.declared.call.CallNo.{CallNo}
use Rattle.hk_base.specs.declared.call.Op.{Op}
use Rattle.hk_base.specs.declared.call.Op.TheVariants.{Read}
use Rattle.hk_base.specs.declared.call.Answer.{Answer}
use Rattle.hk_base.specs.declared.call.Answer.TheVariants as word
use Rattle.hk_outside.specs.declared.desk.DeskReply.{DeskReply}
use Rattle.hk_outside.specs.declared.desk.DeskReply.TheVariants.{Told, Unknown, Spent}
use Rattle.hk_snap.specs.declared.rule.Publication.{Publication}
use Rattle.hk_snap.specs.Ends.{End}
use Rattle.hk_told.specs.Lists.{row_in}
use Rattle.hk_told.specs.Steps.{AtOnce}
use Rattle.hk_told.specs.Shown.{Begun, Shown, NotEnded, TellsShown, TellsUnknown, acted_on}
use Rattle.hk_locked.specs.Locked.{ReaderState}
use Rattle.hk_locked.specs.Steps.{end_at, IsGrown}
use Rattle.hk_locked.proofs.Reading.{grown_on}
use Rattle.hk_worker.specs.Asking.{PostState, Tells, HasAsked, AsksAtPost, call_number, reader_of}
use Rattle.hk_worker.specs.Reading.{HasLooked, HasRisen, TellsByClock, TellsRead, AsksByClock}
use Rattle.hk_worker.proofs.Freely.{looked_itself, looked_on}
use Rattle.hk_base.specs.declared.memory.Memory.{Memory}
use Rattle.hk_outside.specs.declared.desk.Begun.{Begun as DeskBegun}
use Rattle.hk_worker.specs.declared.asking.OpenAsk.{OpenAsk}
use Rattle.hk_outside.specs.declared.desk.Begun.TheVariants as opened
use Rattle.hk_worker.specs.Opening.{BeginsAtPost, BeginsByClock, begun_by_lease}

-- ---- what is shown
module _ (old first grown : List Publication) (call : CallNo) (key : List ℕ) (op : Op) where
  abbrev begun_from : Begun (old ++ first) grown call key op → Begun old (first ++ grown) call key op
  begun_from b = record {
    before = first ++ b.before;
    x = b.x;
    later = b.later;
    answer = b.answer;
    stands = ap (λ (l : List Publication). first ++ l) b.stands ∙ sym (append_assoc first b.before (b.x ∷ b.later));
    of_key = b.of_key;
    number = b.number;
    changes = subst (λ (l : List Publication). (acted_on op key l b.x).changed ≡ true) (append_assoc old first b.before) b.changes;
    acts = subst (λ (l : List Publication). (acted_on op key l b.x).answer ≡ b.answer) (append_assoc old first b.before) b.acts;
    content = subst (λ (l : List Publication). b.x.row.content ≡ (acted_on op key l b.x).register.content) (append_assoc old first b.before) b.content;
  }

  not_ended_from : NotEnded (old ++ first) grown call key op → NotEnded old (first ++ grown) call key op
  not_ended_from s = (begun_from s.0, s.1, s.2)

  module _ (end now skew : ℕ) where
    at_once_from : (answer : Answer) → AtOnce end now skew (row_in key ((old ++ first) ++ grown)) op answer → AtOnce end now skew (row_in key (old ++ (first ++ grown))) op answer
    at_once_from answer s = subst (λ (l : List Publication). AtOnce end now skew (row_in key l) op answer) (append_assoc old first grown) s

    shown_from : (answer : Answer) → Shown (old ++ first) grown call key op end now skew answer → Shown old (first ++ grown) call key op end now skew answer
    shown_from word.Stored s = (begun_from s.0, s.1, s.2)
    shown_from (word.Number value) s = (begun_from s.0, s.1, s.2)
    shown_from word.Deleted s = (begun_from s.0, s.1, s.2)
    shown_from (word.Aborted stamp) s = (begun_from s.0, s.1, s.2, s.3)
    shown_from (word.Found content tag) s = at_once_from (word.Found content tag) s
    shown_from word.Missing s = at_once_from word.Missing s
    shown_from word.Exists s = at_once_from word.Exists s
    shown_from word.NotFound s = at_once_from word.NotFound s
    shown_from word.NotNumber s = at_once_from word.NotNumber s
    shown_from word.NotStored s = at_once_from word.NotStored s
    shown_from (word.Busy why) s = at_once_from (word.Busy why) s
    shown_from (word.Exhausted stamp) s = at_once_from (word.Exhausted stamp) s

-- ---- what an ask tells
module _ (call : CallNo) (key : List ℕ) (op : Op) (old mid new : End) (more : IsPrefix old.seen mid.seen) (loads : old.loads ≤ mid.loads) where
  joined : (grown : List Publication) → new.seen ≡ mid.seen ++ grown → new.seen ≡ old.seen ++ (more.0 ++ grown)
  joined grown is = is ∙ (ap (λ (l : List Publication). l ++ grown) (sym more.1) ∙ append_assoc old.seen more.0 grown)

  pub tells_from : (end now skew : ℕ) (answer : Answer) → TellsShown call key op end now skew mid new answer → TellsShown call key op end now skew old new answer
  tells_from end now skew answer t = (
    more.0 ++ t.0,
    (mid.loads - old.loads) + t.1,
    joined t.0 t.2,
    (let e = t.3 in omega (arith, e, loads)),
    (let e = t.4 in omega (arith, e)),
    shown_from old.seen more.0 t.0 call key op end now skew answer
        (subst (λ (l : List Publication). Shown l t.0 call key op end now skew answer) (sym more.1) t.5),
  )

  unknown_from : (turns : ℕ) → TellsUnknown call key op turns mid new → TellsUnknown call key op turns old new
  unknown_from turns t = (
    more.0 ++ t.0,
    (mid.loads - old.loads) + t.1,
    joined t.0 t.2,
    (let e = t.3 in omega (arith, e, loads)),
    (let e = t.4 in omega (arith, e)),
    not_ended_from old.seen more.0 t.0 call key op (subst (λ (l : List Publication). NotEnded l t.0 call key op) (sym more.1) t.5),
  )

pub tells_earlier : (call : CallNo) (key : List ℕ) (op : Op) (old mid new : ReaderState) (reply : DeskReply) → IsGrown key old mid → Tells call key op mid new reply → Tells call key op old new reply
tells_earlier call key op old mid new (Told answer) grown t = (
  tells_from call key op (end_at key old) (end_at key mid) (end_at key new) grown.seen grown.loads new.lease.end new.lease.now new.skew answer t.0,
  (let p = grown.lease.loads in let q = t.1 in omega (arith, p, q)),
)
tells_earlier call key op old mid new (Unknown turns) grown t =
    (unknown_from call key op (end_at key old) (end_at key mid) (end_at key new) grown.seen grown.loads turns t.0, t.1)
tells_earlier call key op old mid new (Spent asks) grown t = t

-- so is what a clock tells
by_clock_earlier : (was_read : ReaderState → ℕ → Type 0) (call : CallNo) (key : List ℕ) (op : Op) (old mid new : ReaderState) (reply : DeskReply) → IsGrown key old mid
    → TellsByClock was_read call key op mid new reply → TellsByClock was_read call key op old new reply
by_clock_earlier was_read call key op old mid new (Told answer) grown (inl t) = inl (t.0, tells_earlier call key op old mid new (Told answer) grown t.1)
by_clock_earlier was_read call key op old mid new (Told answer) grown (inr t) = inr (
  t.0,
  t.1,
  tells_from call key op (end_at key old) (end_at key mid) (end_at key new) grown.seen grown.loads new.lease.end t.0 new.skew answer t.2,
  (let p = grown.lease.loads in let q = t.3 in omega (arith, p, q)),
)
by_clock_earlier was_read call key op old mid new (Unknown turns) grown t = tells_earlier call key op old mid new (Unknown turns) grown t
by_clock_earlier was_read call key op old mid new (Spent asks) grown t = t

pub read_earlier : (was_read : ReaderState → ℕ → Type 0) (key : List ℕ) (old mid new : ReaderState) (answer : Answer) → IsGrown key old mid → TellsRead was_read key mid new answer
    → TellsRead was_read key old new answer
read_earlier was_read key old mid new answer grown t = (
  t.0,
  t.1,
  (λ call. tells_from call key Read (end_at key old) (end_at key mid) (end_at key new) grown.seen grown.loads new.lease.end t.0 new.skew answer (t.2 call)),
  (let p = grown.lease.loads in let q = t.3 in omega (arith, p, q)),
)

-- ---- at a post
asked_earlier : (key : List ℕ) (old mid new : PostState) → HasLooked key old mid → HasAsked key mid new → HasAsked key old new
asked_earlier key old mid new l a = record {
  may = (let p = l.asks in let q = a.may in omega (arith, p, q));
  asks = a.asks ∙ ap (λ n. n + 1) l.asks;
  node = a.node ∙ l.node;
  lease = a.lease ∙ l.lease;
  number = a.number ∙ l.number;
  ticked = a.ticked ∙ l.ticked;
  worker = a.worker ∙ l.worker;
  grown = grown_on key (reader_of key old) (reader_of key mid) (reader_of key new) l.grown a.grown;
  others = λ shard apart. a.others shard apart ∙ l.others shard apart;
}

asked_later : (key : List ℕ) (old mid new : PostState) → HasAsked key old mid → HasLooked key mid new → HasAsked key old new
asked_later key old mid new a l = record {
  may = a.may;
  asks = l.asks ∙ a.asks;
  node = l.node ∙ a.node;
  lease = l.lease ∙ a.lease;
  number = l.number ∙ a.number;
  ticked = l.ticked ∙ a.ticked;
  worker = l.worker ∙ a.worker;
  grown = grown_on key (reader_of key old) (reader_of key mid) (reader_of key new) a.grown l.grown;
  others = λ shard apart. l.others shard apart ∙ a.others shard apart;
}

pub number_earlier : (key : List ℕ) (old mid : PostState) → HasLooked key old mid → call_number mid.number (mid.asks + 1) ≡ call_number old.number (old.asks + 1)
number_earlier key old mid l = ap (λ n. call_number n (mid.asks + 1)) l.number ∙ ap (λ n. call_number old.number (n + 1)) l.asks

risen : (reading : Option ℕ) (value a b : ℕ) → IfSome reading (λ time. value ≡ time) → min value MAX_TIME ≤ a → a ≤ b → IfSome reading (λ time. min time MAX_TIME ≤ b)
risen None value a b told above later = tt
risen (Some time) value a b told above later = subst (λ t. min t MAX_TIME ≤ b) told (le_trans above later)

still_risen : (reading : Option ℕ) (a b : ℕ) → IfSome reading (λ time. min time MAX_TIME ≤ a) → a ≤ b → IfSome reading (λ time. min time MAX_TIME ≤ b)
still_risen None a b above later = tt
still_risen (Some time) a b above later = le_trans above later

-- a reply that an ask was told is given by a reading behind it
module _ (was_read : ReaderState → ℕ → Type 0) (reading : Option ℕ) (key : List ℕ) (op : Op) (before asked new : PostState) (l : HasLooked key asked new) (rose : HasRisen reading key asked) where
  still : HasRisen reading key new
  still = still_risen reading (reader_of key asked).lease.now (reader_of key new).lease.now rose l.grown.lease.now

  pub gives_answer : (answer given : Answer)
      → ((call : CallNo) (op : Op) (old : ReaderState) → Tells call key op old (reader_of key asked) (Told answer) → TellsByClock was_read call key op old (reader_of key new) (Told given))
      → AsksAtPost {E = Memory} key op before asked (Ok (Told answer)) → AsksByClock {E = Memory} was_read reading key op before new (Ok (Told given))
  gives_answer answer given gives h =
      inr (asked_later key before asked new h.0 l, still, gives (call_number before.number (before.asks + 1)) op (reader_of key before) h.1)

-- any other reply is given as it is
module _ (was_read : ReaderState → ℕ → Type 0) (reading : Option ℕ) (key : List ℕ) (op : Op) (before asked : PostState) (reply : DeskReply) where
  pub gives_unknown : (turns : ℕ) → reply ≡ Unknown turns → HasRisen reading key asked → AsksAtPost {E = Memory} key op before asked (Ok reply)
      → AsksByClock {E = Memory} was_read reading key op before asked (Ok (Unknown turns))
  gives_unknown turns is rose h = let a = subst (λ (r : DeskReply). AsksAtPost {E = Memory} key op before asked (Ok r)) is h in (a.0, rose, a.1)

  pub gives_spent : (asks : ℕ) → reply ≡ Spent asks → AsksAtPost {E = Memory} key op before asked (Ok reply) → AsksByClock {E = Memory} was_read reading key op before asked (Ok (Spent asks))
  gives_spent asks is h =
      let a = subst (λ (r : DeskReply). AsksAtPost {E = Memory} key op before asked (Ok r)) is h in
      (a.0, a.1, subst (HasLooked key before) (sym a.2) (looked_itself key before))

-- what was asked behind a look was asked before it
module _ (was_read : ReaderState → ℕ → Type 0) (reading : Option ℕ) (key : List ℕ) (op : Op) (old mid new : PostState) (l : HasLooked key old mid) where
  by_clock : (reply : DeskReply) → HasAsked key mid new → HasRisen reading key new → TellsByClock was_read (call_number mid.number (mid.asks + 1)) key op (reader_of key mid) (reader_of key new) reply
      → HasAsked key old new × HasRisen reading key new × TellsByClock was_read (call_number old.number (old.asks + 1)) key op (reader_of key old) (reader_of key new) reply
  by_clock reply a rose t = (
    asked_earlier key old mid new l a,
    rose,
    subst (λ n. TellsByClock was_read n key op (reader_of key old) (reader_of key new) reply) (number_earlier key old mid l)
        (by_clock_earlier was_read (call_number mid.number (mid.asks + 1)) key op (reader_of key old) (reader_of key mid) (reader_of key new) reply l.grown t),
  )

  pub asks_earlier : {E : Type 0} (result : Result DeskReply E) → AsksByClock was_read reading key op mid new result → AsksByClock was_read reading key op old new result
  asks_earlier (Ok (Told answer)) (inl h) =
      inl (h.0, looked_on key old mid new l h.1, read_earlier was_read key (reader_of key old) (reader_of key mid) (reader_of key new) answer l.grown h.2)
  asks_earlier (Ok (Told answer)) (inr h) = inr (by_clock (Told answer) h.0 h.1 h.2)
  asks_earlier (Ok (Unknown turns)) h = by_clock (Unknown turns) h.0 h.1 h.2
  asks_earlier (Ok (Spent asks)) h = (sym l.asks ∙ h.0, h.1, looked_on key old mid new l h.2)
  asks_earlier (Err e) (inl h) = inl (looked_on key old mid new l h)
  asks_earlier (Err e) (inr h) = inr (asked_earlier key old mid new l h)

-- of a post that asked behind a tick
module _ (reading : Option ℕ) (value : ℕ) (key : List ℕ) (mid : PostState) (told : IfSome reading (λ time. value ≡ time)) (above : min value MAX_TIME ≤ (reader_of key mid).lease.now) where
  pub risen_at : HasRisen reading key mid
  risen_at = risen reading value (reader_of key mid).lease.now (reader_of key mid).lease.now told above (le_refl (reader_of key mid).lease.now)

  pub risen_asked : {E : Type 0} (op : Op) (new : PostState) (result : Result DeskReply E) → AsksAtPost key op mid new result → HasRisen reading key new
  risen_asked op new (Ok (Told answer)) h = risen reading value (reader_of key mid).lease.now (reader_of key new).lease.now told above h.0.grown.lease.now
  risen_asked op new (Ok (Unknown turns)) h = risen reading value (reader_of key mid).lease.now (reader_of key new).lease.now told above h.0.grown.lease.now
  risen_asked op new (Ok (Spent asks)) h = subst (HasRisen reading key) (sym h.2) risen_at
  risen_asked op new (Err e) h = risen reading value (reader_of key mid).lease.now (reader_of key new).lease.now told above h.grown.lease.now

  pub risen_begun : (op : Op) (new : PostState) (begun : DeskBegun OpenAsk) → BeginsAtPost {E = Memory} key op mid new (Ok begun) → HasRisen reading key new
  risen_begun op new (opened.Told reply) h = risen_asked {E = Memory} op new (Ok reply) h
  risen_begun op new (opened.Waits w) h = risen reading value (reader_of key mid).lease.now (reader_of key new).lease.now told above h.0.grown.lease.now

-- what needs no lease is given as it is
begun_as_it_is_at : (was_read : ReaderState → ℕ → Type 0) (reading : Option ℕ) (key : List ℕ) (op : Op) (old mid new : PostState) → HasLooked key old mid → HasRisen reading key mid → (begun : Result (DeskBegun OpenAsk) Memory)
    → begun_by_lease begun ≡ false → ((b : DeskBegun OpenAsk) → BeginsAtPost {E = Memory} key op mid new (Ok b) → HasRisen reading key new) → BeginsAtPost key op mid new begun → BeginsByClock was_read reading key op old new begun
begun_as_it_is_at was_read reading key op old mid new l rose (Ok (opened.Told (Told answer))) none later h =
    asks_earlier was_read reading key op old mid new l {E = Memory} (Ok (Told answer)) (gives_answer was_read reading key op mid new new (looked_itself key new) (later (opened.Told (Told answer)) h) answer answer
    (λ call o first tells. inl (none, tells)) h)
begun_as_it_is_at was_read reading key op old mid new l rose (Ok (opened.Told (Unknown turns))) none later h =
    asks_earlier was_read reading key op old mid new l {E = Memory} (Ok (Unknown turns)) (gives_unknown was_read reading key op mid new (Unknown turns) turns refl (later (opened.Told (Unknown turns)) h) h)
begun_as_it_is_at was_read reading key op old mid new l rose (Ok (opened.Told (Spent asks))) none later h =
    asks_earlier was_read reading key op old mid new l {E = Memory} (Ok (Spent asks)) (gives_spent was_read reading key op mid new (Spent asks) asks refl h)
begun_as_it_is_at was_read reading key op old mid new l rose (Ok (opened.Waits w)) none later h = (mid, l, rose, h)
begun_as_it_is_at was_read reading key op old mid new l rose (Err e) none later h = inr (asked_earlier key old mid new l h)

pub begun_as_it_is : (was_read : ReaderState → ℕ → Type 0) (reading : Option ℕ) (value : ℕ) (key : List ℕ) (op : Op) (old mid new : PostState) → IfSome reading (λ time. value ≡ time) → min value MAX_TIME ≤ (reader_of key mid).lease.now
    → HasLooked key old mid → (begun : Result (DeskBegun OpenAsk) Memory) → begun_by_lease begun ≡ false → BeginsAtPost key op mid new begun → BeginsByClock was_read reading key op old new begun
begun_as_it_is was_read reading value key op old mid new told above l begun none h =
    begun_as_it_is_at was_read reading key op old mid new l (risen_at reading value key mid told above) begun none (λ b began. risen_begun reading value key mid told above op new b began) h

-- where no memory was found for the tick, or for the ask
pub fails_by_clock : {E : Type 0} (was_read : ReaderState → ℕ → Type 0) (reading : Option ℕ) (key : List ℕ) (op : Op) (old new : PostState) (fault : E) (result : Result DeskReply E) → result ≡ Err fault
    → HasLooked key old new → AsksByClock was_read reading key op old new result
fails_by_clock was_read reading key op old new fault result is looked = subst (AsksByClock was_read reading key op old new) (sym is) (inl looked)

pub ask_fails_by_clock : {E : Type 0} (was_read : ReaderState → ℕ → Type 0) (reading : Option ℕ) (key : List ℕ) (op : Op) (old mid new : PostState) (fault : E) (result : Result DeskReply E) → result ≡ Err fault
    → HasLooked key old mid → HasAsked key mid new → AsksByClock was_read reading key op old new result
ask_fails_by_clock was_read reading key op old mid new fault result is l a = subst (AsksByClock was_read reading key op old new) (sym is) (inr (asked_earlier key old mid new l a))

pub begin_fails_by_clock : {E : Type 0} (was_read : ReaderState → ℕ → Type 0) (reading : Option ℕ) (key : List ℕ) (op : Op) (old new : PostState) (fault : E) (result : Result (DeskBegun OpenAsk) E)
    → result ≡ Err fault → HasLooked key old new → BeginsByClock was_read reading key op old new result
begin_fails_by_clock was_read reading key op old new fault result is looked = subst (BeginsByClock was_read reading key op old new) (sym is) (inl looked)

-- what waits does so by the call behind the tick
pub waits_by_clock : (was_read : ReaderState → ℕ → Type 0) (reading : Option ℕ) (key : List ℕ) (op : Op) (old mid new : PostState) (begun : DeskBegun OpenAsk) (w : OpenAsk) → begun ≡ opened.Waits w
    → HasLooked key old mid → HasRisen reading key mid → BeginsAtPost {E = Memory} key op mid new (Ok begun) → BeginsByClock {E = Memory} was_read reading key op old new (Ok (opened.Waits w))
waits_by_clock was_read reading key op old mid new begun w is l rose h = (mid, l, rose, subst (λ (b : DeskBegun OpenAsk). BeginsAtPost {E = Memory} key op mid new (Ok b)) is h)
