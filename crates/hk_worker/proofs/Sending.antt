-- Which letters an ask sends.
use Rattle.std.proofs.Common.{◌≡◌, inl, inr, ℕ, ◌+◌, ◌<◌, List, length, Result, Ok, Err, sym, ◌∙◌, subst, arith, slice_index_or, slice_set}
use Rattle.std.proofs.lemmas.List.{get_or_default, get_or-set_same}
use Rattle.std.specs.Prelude.{IfOk}
use Rattle.hk_base.specs.declared.letter.Actor.{Actor}
use Rattle.hk_base.specs.declared.letter.Letter.{Letter}
use Rattle.hk_base.specs.declared.stamp.NodeId.{NodeId}
use Rattle.hk_base.specs.declared.call.CallNo.{CallNo}
use Rattle.hk_base.specs.declared.call.Op.{Op}
use Rattle.hk_base.specs.declared.call.Answer.{Answer}
use Rattle.hk_base.specs.declared.memory.Memory.{Memory}
use Rattle.hk_outside.specs.declared.desk.DeskReply.{DeskReply}
use Rattle.hk_outside.specs.declared.desk.DeskReply.TheVariants.{Told, Unknown, Spent}
use Rattle.hk_link.specs.Ends.{End as LinkEnd}
use Rattle.hk_overseer.specs.Sends.{AreSent}
use Rattle.hk_shard.specs.Shard.{shard_of}
use Rattle.hk_locked.specs.Places.{NodeNames}
use Rattle.hk_locked.specs.Locked.{ReaderState}
use Rattle.hk_locked.specs.Steps.{IsGrown}
use Rattle.hk_locked.proofs.Reading.{grown_on}
use Rattle.hk_worker.specs.Moments.{WasCalled}
use Rattle.hk_worker.specs.Asking.{Tells, PostState, no_reader, reader_of, IsReaderOf, AreReadersBelow, call_number}
use Rattle.hk_worker.specs.Reading.{HasLooked}
use Rattle.hk_outside.specs.declared.desk.Begun.{Begun}
use Rattle.hk_worker.specs.declared.asking.OpenAsk.{OpenAsk}
use Rattle.hk_outside.specs.declared.desk.Begun.TheVariants as opened
use Rattle.hk_worker.specs.Opening.{OpensAt, BeginSends, BeginSendsByClock}
use Rattle.hk_worker.specs.Sending.{SendsCall, SendsOrFails, SendsNextCall, Sends, SendsByClock}
use Rattle.hk_worker.proofs.Earlier.{number_earlier}
use Rattle.hk_worker.proofs.Placed.{called_earlier}

-- the letters of the step went out for the reader's shard
pub sends_call : (places : List NodeNames) (shard : ℕ) (call : CallNo) (key : List ℕ) (op : Op) (letters : List Letter) (old mid new : ReaderState) (before after : List (Actor × LinkEnd))
    → shard ≡ old.number → WasCalled places old.node old.number call key op letters old mid → IsGrown key mid new → AreSent shard letters before after
    → SendsCall places old.node old.number call key op old new before after
sends_call places shard call key op letters old mid new before after is was later sent = record {
  letters = letters;
  mid = mid;
  called = was;
  later = later;
  sent = subst (λ n. AreSent n letters before after) is sent;
}

-- also where no memory was found behind
pub failed_sends_call : {A E : Type 0} (places : List NodeNames) (call : CallNo) (key : List ℕ) (op : Op) (old new : ReaderState) (before after : List (Actor × LinkEnd)) (fault : E)
    (result : Result A E) → result ≡ Err fault → SendsCall places old.node old.number call key op old new before after
    → SendsOrFails places old.node old.number call key op old new before after result
failed_sends_call places call key op old new before after fault result is sends = subst (SendsOrFails places old.node old.number call key op old new before after) (sym is) (inl sends)

-- whatever came of it
pub sends_or_fails : {A E : Type 0} (places : List NodeNames) (call : CallNo) (key : List ℕ) (op : Op) (old new : ReaderState) (before after : List (Actor × LinkEnd)) (result : Result A E)
    → SendsCall places old.node old.number call key op old new before after → SendsOrFails places old.node old.number call key op old new before after result
sends_or_fails places call key op old new before after (Ok reply) sends = sends
sends_or_fails places call key op old new before after (Err e) sends = inl sends

-- ---- at a post
module _ (places : List NodeNames) (key : List ℕ) (op : Op) (call : CallNo) (old : PostState) (i : ℕ) (before r : ReaderState) (is : i ≡ shard_of key) (short : i < 8)
    (readers : AreReadersBelow 8 old.node old.readers) (value : before ≡ slice_index_or old.readers i before) (number : call ≡ call_number old.number (old.asks + 1)) where
  below : i < length old.readers
  below = let long = readers.long in omega (arith, short, long)

  stands : before ≡ slice_index_or old.readers i no_reader
  stands = value ∙ get_or_default old.readers i before no_reader below

  of_shard : IsReaderOf old.node i before
  of_shard = subst (IsReaderOf old.node i) (sym stands) (readers.each i short)

  old_reader : before ≡ reader_of key old
  old_reader = subst (λ j. before ≡ slice_index_or old.readers j no_reader) is stands

  new_reader : (new : PostState) → new.readers ≡ slice_set old.readers i r → r ≡ reader_of key new
  new_reader new made = subst (λ j. r ≡ slice_index_or new.readers j no_reader) is
      (subst (λ l. r ≡ slice_index_or l i no_reader) (sym made) (sym (get_or-set_same old.readers i r no_reader below)))

  next : (new : PostState) → new.readers ≡ slice_set old.readers i r → SendsCall places before.node before.number call key op before r old.outlets new.outlets → SendsNextCall places key op old new
  next new made s = subst (λ (x : ReaderState). SendsCall places old.node (shard_of key) (call_number old.number (old.asks + 1)) key op (reader_of key old) x old.outlets new.outlets) (new_reader new made)
      (subst (λ (x : ReaderState). SendsCall places old.node (shard_of key) (call_number old.number (old.asks + 1)) key op x r old.outlets new.outlets) old_reader
      (subst (λ (n : CallNo). SendsCall places old.node (shard_of key) n key op before r old.outlets new.outlets) number
      (subst (λ k. SendsCall places old.node k call key op before r old.outlets new.outlets) (of_shard.1 ∙ is)
      (subst (λ (n : NodeId). SendsCall places n before.number call key op before r old.outlets new.outlets) of_shard.0 s))))

  at_reply : {E : Type 0} (new : PostState) (result : Result DeskReply E) → new.readers ≡ slice_set old.readers i r → IfOk result (λ reply. Tells call key op before r reply)
      → SendsOrFails places before.node before.number call key op before r old.outlets new.outlets result → Sends places key op old new result
  at_reply new (Ok (Told answer)) made t s = next new made s
  at_reply new (Ok (Unknown turns)) made t s = next new made s
  at_reply new (Ok (Spent asks)) made t s = absurd t
  at_reply new (Err e) made t (inl s) = inl (next new made s)
  at_reply new (Err e) made t (inr same) = inr same

  pub sends_at_post : {E : Type 0} (now new : PostState) (result : Result DeskReply E) → old ≡ now → new.readers ≡ slice_set old.readers i r → IfOk result (λ reply. Tells call key op before r reply)
      → SendsOrFails places before.node before.number call key op before r old.outlets new.outlets result → Sends places key op now new result
  sends_at_post now new result same made tells sends = subst (λ (p : PostState). Sends places key op p new result) same (at_reply new result made tells sends)

  at_opened : {E : Type 0} (new : PostState) (result : Result (Begun OpenAsk) E) → new.readers ≡ slice_set old.readers i r → IfOk result (λ o. OpensAt call key op before r o)
      → SendsOrFails places before.node before.number call key op before r old.outlets new.outlets result → BeginSends places key op old new result
  at_opened new (Ok (opened.Told (Told answer))) made t s = next new made s
  at_opened new (Ok (opened.Told (Unknown turns))) made t s = absurd t
  at_opened new (Ok (opened.Told (Spent asks))) made t s = absurd t
  at_opened new (Ok (opened.Waits w)) made t s = next new made s
  at_opened new (Err e) made t (inl s) = inl (next new made s)
  at_opened new (Err e) made t (inr same) = inr same

  pub begin_sends_at_post : {E : Type 0} (now new : PostState) (result : Result (Begun OpenAsk) E) → old ≡ now → new.readers ≡ slice_set old.readers i r → IfOk result (λ o. OpensAt call key op before r o)
      → SendsOrFails places before.node before.number call key op before r old.outlets new.outlets result → BeginSends places key op now new result
  begin_sends_at_post now new result same made opens sends = subst (λ (p : PostState). BeginSends places key op p new result) same (at_opened new result made opens sends)

-- ---- by a clock
module _ (places : List NodeNames) (key : List ℕ) (op : Op) (old mid new : PostState) (l : HasLooked key old mid) where
  from_first : (shard : ℕ) (call : CallNo) → SendsCall places old.node shard call key op (reader_of key mid) (reader_of key new) old.outlets new.outlets
      → SendsCall places old.node shard call key op (reader_of key old) (reader_of key new) old.outlets new.outlets
  from_first shard call s = record {
    letters = s.letters;
    mid = s.mid;
    called = called_earlier places old.node shard call key op s.letters (reader_of key old) (reader_of key mid) s.mid l.grown s.called;
    later = s.later;
    sent = s.sent;
  }

  earlier : SendsNextCall places key op mid new → SendsNextCall places key op old new
  earlier s = from_first (shard_of key) (call_number old.number (old.asks + 1))
      (subst (λ (o : List (Actor × LinkEnd)). SendsCall places old.node (shard_of key) (call_number old.number (old.asks + 1)) key op (reader_of key mid) (reader_of key new) o new.outlets) l.outlets
      (subst (λ (n : CallNo). SendsCall places old.node (shard_of key) n key op (reader_of key mid) (reader_of key new) mid.outlets new.outlets) (number_earlier key old mid l)
      (subst (λ (n : NodeId). SendsCall places n (shard_of key) (call_number mid.number (mid.asks + 1)) key op (reader_of key mid) (reader_of key new) mid.outlets new.outlets) l.node s)))

  pub sends_by_clock : {E : Type 0} (result : Result DeskReply E) → Sends places key op mid new result → SendsByClock places key op old new result
  sends_by_clock (Ok (Told answer)) s = inl (earlier s)
  sends_by_clock (Ok (Unknown turns)) s = earlier s
  sends_by_clock (Ok (Spent asks)) same = same ∙ l.outlets
  sends_by_clock (Err e) (inl s) = inl (earlier s)
  sends_by_clock (Err e) (inr same) = inr (same ∙ l.outlets)

  pub begin_sends_by_clock : {E : Type 0} (result : Result (Begun OpenAsk) E) → BeginSends places key op mid new result → BeginSendsByClock places key op old new result
  begin_sends_by_clock (Ok (opened.Told (Told answer))) s = inl (earlier s)
  begin_sends_by_clock (Ok (opened.Told (Unknown turns))) s = earlier s
  begin_sends_by_clock (Ok (opened.Told (Spent asks))) same = same ∙ l.outlets
  begin_sends_by_clock (Ok (opened.Waits w)) s = earlier s
  begin_sends_by_clock (Err e) (inl s) = inl (earlier s)
  begin_sends_by_clock (Err e) (inr same) = inr (same ∙ l.outlets)

  pub failed_sends_by_clock : {E : Type 0} (fault : E) (result : Result DeskReply E) → result ≡ Err fault → Sends places key op mid new (Err fault) → SendsByClock places key op old new result
  failed_sends_by_clock fault result is s = subst (SendsByClock places key op old new) (sym is) (sends_by_clock (Err fault) s)

-- what begins and is told at once sends as an ask does
pub begins_as_ask : (places : List NodeNames) (key : List ℕ) (op : Op) (old new : PostState) (reply : DeskReply) → BeginSends {E = Memory} places key op old new (Ok (opened.Told reply))
    → Sends {E = Memory} places key op old new (Ok reply)
begins_as_ask places key op old new (Told answer) s = s
begins_as_ask places key op old new (Unknown turns) s = s
begins_as_ask places key op old new (Spent asks) s = s

pub ask_as_begins : (places : List NodeNames) (key : List ℕ) (op : Op) (old new : PostState) (reply : DeskReply) → Sends {E = Memory} places key op old new (Ok reply)
    → BeginSends {E = Memory} places key op old new (Ok (opened.Told reply))
ask_as_begins places key op old new (Told answer) s = s
ask_as_begins places key op old new (Unknown turns) s = s
ask_as_begins places key op old new (Spent asks) s = s

-- nothing is sent by a look behind the ask
pub sends_later : (places : List NodeNames) (key : List ℕ) (op : Op) (before asked new : PostState) → HasLooked key asked new → (reply : DeskReply) (answer given : Answer) → reply ≡ Told answer
    → Sends {E = Memory} places key op before asked (Ok reply) → Sends {E = Memory} places key op before new (Ok (Told given))
sends_later places key op before asked new l reply answer given is s =
    let t = subst (λ (r : DeskReply). Sends {E = Memory} places key op before asked (Ok r)) is s in
    record {
      letters = t.letters;
      mid = t.mid;
      called = t.called;
      later = grown_on key t.mid (reader_of key asked) (reader_of key new) t.later l.grown;
      sent = subst (λ (o : List (Actor × LinkEnd)). AreSent (shard_of key) t.letters before.outlets o) (sym l.outlets) t.sent;
    }

-- what was looked at only sends nothing
pub failed_sends_nothing : {E : Type 0} (places : List NodeNames) (key : List ℕ) (op : Op) (old new : PostState) (fault : E) (result : Result DeskReply E) → result ≡ Err fault → HasLooked key old new
    → SendsByClock places key op old new result
failed_sends_nothing places key op old new fault result is l = subst (SendsByClock places key op old new) (sym is) (inr l.outlets)

pub failed_begin_sends_nothing : {E : Type 0} (places : List NodeNames) (key : List ℕ) (op : Op) (old new : PostState) (fault : E) (result : Result (Begun OpenAsk) E) → result ≡ Err fault → HasLooked key old new
    → BeginSendsByClock places key op old new result
failed_begin_sends_nothing places key op old new fault result is l = subst (BeginSendsByClock places key op old new) (sym is) (inr l.outlets)
