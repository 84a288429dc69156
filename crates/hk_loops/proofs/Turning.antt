-- Turns, one behind the other.
use Rattle.std.proofs.Common.{◌≡◌, ◌≤◌, ℕ, List, [], ◌∷◌, ◌++◌, length, take, Option, Some, None, refl, sym, append_assoc, append-nil}
use Rattle.std.specs.Prelude.{Result, Ok}
use Rattle.std.specs.Io.KnownBytes.{Appends, Consumes, Keeps}
use Rattle.std.proofs.lemmas.List.{length-take-le}
use Rattle.hk_base.specs.declared.memory.Memory.{Memory}
use Rattle.hk_outside.specs.declared.desk.Asked.{Asked}
use Rattle.hk_outside.specs.declared.desk.DeskReply.{DeskReply}
use Rattle.hk_conn.specs.declared.exchange.Exchange.{Exchange}
use Rattle.hk_conn.specs.Calls.{Call, Runs, all_given, all_written}
use Rattle.hk_conn.specs.Calls.Call.{Gave, Stepped, Heard, Wrote}
use Rattle.hk_conn.specs.Exchange.{Gives, Steps, HearsNext, Writes, unwritten}
use Rattle.hk_conn.proofs.Exchanging.{pieces_and_pauses}
use Rattle.hk_conn.proofs.Streams.{appends_more, consumes_more}
use Rattle.hk_loops.specs.Turns.{TakesTurn, Exchanges, Answers, AreOneTurn, TurnsServe}

-- ---- nothing was read or written
pub keeps_itself : (known : Option (List ℕ)) → Keeps known known
keeps_itself None = tt
keeps_itself (Some xs) = refl

keeps_same : (old new : Option (List ℕ)) → new ≡ old → Keeps old new
keeps_same old new e = rw e (keeps_itself old)

none_read : (old new : Option (List ℕ)) → Keeps old new → Consumes old new []
none_read None new k = tt
none_read (Some xs) None k = absurd k
none_read (Some xs) (Some ys) k = sym k

none_written : (old new : Option (List ℕ)) → Keeps old new → Appends old new []
none_written None new k = tt
none_written (Some xs) None k = absurd k
none_written (Some xs) (Some ys) k = rw k (sym (append-nil xs))

-- ---- lists of calls
given_more : (cs ds : List Call) → all_given (cs ++ ds) ≡ all_given cs ++ all_given ds
given_more [] ds = refl
given_more (Gave bytes ∷ cs) ds = rw (given_more cs ds) (sym (append_assoc bytes (all_given cs) (all_given ds)))
given_more (Stepped ∷ cs) ds = given_more cs ds
given_more (Heard ∷ cs) ds = given_more cs ds
given_more (Wrote text ∷ cs) ds = given_more cs ds

written_more : (cs ds : List Call) → all_written (cs ++ ds) ≡ all_written cs ++ all_written ds
written_more [] ds = refl
written_more (Gave bytes ∷ cs) ds = written_more cs ds
written_more (Stepped ∷ cs) ds = written_more cs ds
written_more (Heard ∷ cs) ds = written_more cs ds
written_more (Wrote text ∷ cs) ds = rw (written_more cs ds) (sym (append_assoc text (all_written cs) (all_written ds)))

runs_more : {W : Type 0} (will : W → Result DeskReply Memory) (m : ℕ) (a b c : Option (List Asked)) (e f g : Exchange W) (cs ds : List Call) → Runs will m a b e f cs → Runs will m b c f g ds → Runs will m a c e g (cs ++ ds)
runs_more will m a b c e f g [] ds h k = rw (h.0, h.1) at k
runs_more will m a b c e f g (x ∷ cs) ds h k = (h.0, h.1, h.2, runs_more will m h.1 b c h.0 f g cs ds h.3 k)

module _ {W : Type 0} where
  -- two turns, one behind the other, are one
  pub turn_more : {will : W → Result DeskReply Memory} {m : ℕ} {a b c : Option (List Asked)} {l l' l'' h h' h'' : Option (List ℕ)} {e f g : Exchange W} → TakesTurn will m a b l l' h h' e f → TakesTurn will m b c l' l'' h' h'' f g → TakesTurn will m a c l l'' h h'' e g
  turn_more {will} {m} {a} {b} {c} {l} {l'} {l''} {h} {h'} {h''} {e} {f} {g} t u = record {
    calls = t.calls ++ u.calls;
    runs = runs_more will m a b c e f g t.calls u.calls t.runs u.runs;
    read = rw (given_more t.calls u.calls) (consumes_more l l' l'' (all_given t.calls) (all_given u.calls) t.read u.read);
    wrote = rw (written_more t.calls u.calls) (appends_more h h' h'' (all_written t.calls) (all_written u.calls) t.wrote u.wrote);
  }

  -- a turn may do nothing
  pub turn_idle : (l l' h h' : Option (List ℕ)) (e : Exchange W) → Keeps l l' → Keeps h h' → Exchanges l l' h h' e e
  turn_idle l l' h h' e k j will m a = record { calls = []; runs = (refl, refl); read = none_read l l' k; wrote = none_written h h' j }

  pub turn_same : (l h : Option (List ℕ)) (e : Exchange W) → Exchanges l l h h e e
  turn_same l h e = turn_idle l l h h e (keeps_itself l) (keeps_itself h)

  -- bytes were read
  pub turn_read : (l l' h h' : Option (List ℕ)) (e f : Exchange W) (bytes : List ℕ) → Consumes l l' bytes → h' ≡ h → Gives bytes e f → Exchanges l l' h h' e f
  turn_read l l' h h' e f bytes c k g will m a = record {
    calls = Gave bytes ∷ [];
    runs = (f, a, (g, refl), (refl, refl));
    read = rw (append-nil bytes) c;
    wrote = none_written h h' (keeps_same h h' k);
  }

  pub turn_read_none : (l l' h h' : Option (List ℕ)) (e : Exchange W) → Keeps l l' → h' ≡ h → Exchanges l l' h h' e e
  turn_read_none l l' h h' e k j = turn_idle l l' h h' e k (keeps_same h h' j)

  pub turn_read_end : (l l' h h' : Option (List ℕ)) (e : Exchange W) → Consumes l l' [] → h' ≡ h → Exchanges l l' h h' e e
  turn_read_end l l' h h' e c j will m a = record { calls = []; runs = (refl, refl); read = c; wrote = none_written h h' (keeps_same h h' j) }

  -- text was written
  wrote_text : (l l' h h' : Option (List ℕ)) (e f : Exchange W) (text : List ℕ) → 1 ≤ length text → length text ≤ length (unwritten e) → text ≡ take (length text) (unwritten e) → l' ≡ l → Appends h h' text → Writes (length text) e f → Exchanges l l' h h' e f
  wrote_text l l' h h' e f text some le front k w x will m a = record {
    calls = Wrote text ∷ [];
    runs = (f, a, (some, le, front, x, refl), (refl, refl));
    read = none_read l l' (keeps_same l l' k);
    wrote = rw (append-nil text) w;
  }

  pub turn_wrote : (l l' h h' : Option (List ℕ)) (e f : Exchange W) (count : ℕ) → 1 ≤ count → count ≤ length (unwritten e) → l' ≡ l → Appends h h' (take count (unwritten e)) → Writes count e f → Exchanges l l' h h' e f
  turn_wrote l l' h h' e f count some le k w x =
      let same : length (take count (unwritten e)) ≡ count = length-take-le count (unwritten e) le in
      wrote_text l l' h h' e f (take count (unwritten e)) (rw same some) (rw same le) (rw same refl) k w (rw same x)

  pub turn_wrote_none : (l l' h h' : Option (List ℕ)) (e : Exchange W) → Keeps h h' → l' ≡ l → Exchanges l l' h h' e e
  turn_wrote_none l l' h h' e k j = turn_idle l l' h h' e (keeps_same l l' j) k

  -- a step was taken, or one that waits was told
  pub turn_stepped : (will : W → Result DeskReply Memory) (m : ℕ) (a b : Option (List Asked)) (e f : Exchange W) → Steps will m a b e f → Answers will m a b e f
  turn_stepped will m a b e f s l h = record { calls = Stepped ∷ []; runs = (f, b, s, (refl, refl)); read = none_read l l (keeps_itself l); wrote = none_written h h (keeps_itself h) }

  pub turn_heard : (will : W → Result DeskReply Memory) (m : ℕ) (a b : Option (List Asked)) (e f : Exchange W) → HearsNext {F = Memory} will (Ok tt) a b e f → Answers will m a b e f
  turn_heard will m a b e f s l h = record { calls = Heard ∷ []; runs = (f, b, s, (refl, refl)); read = none_read l l (keeps_itself l); wrote = none_written h h (keeps_itself h) }

  pub answers_none : (will : W → Result DeskReply Memory) (m : ℕ) (a : Option (List Asked)) (e : Exchange W) → Answers will m a a e e
  answers_none will m a e l h = turn_same l h e will m a

  pub answers_more : (will : W → Result DeskReply Memory) (m : ℕ) (a b c : Option (List Asked)) (e f g : Exchange W) → Answers will m a b e f → Answers will m b c f g → Answers will m a c e g
  answers_more will m a b c e f g t u l h = turn_more (t l h) (u l h)

  pub exchanges_more : {l l' l'' h h' h'' : Option (List ℕ)} {e f g : Exchange W} → Exchanges l l' h h' e f → Exchanges l' l'' h' h'' f g → Exchanges l l'' h h'' e g
  exchanges_more t u will m a = turn_more (t will m a) (u will m a)

  -- what the client takes and what it sent, what is answered, and what it takes of that
  pub turn_whole : {will : W → Result DeskReply Memory} {m : ℕ} {a b : Option (List Asked)} {l l' l'' h h' h'' : Option (List ℕ)} {e f g i : Exchange W} → Exchanges l l' h h' e f → Answers will m a b f g → Exchanges l' l'' h' h'' g i → TakesTurn will m a b l l'' h h'' e i
  turn_whole {will} {m} {a} {b} {l} {l'} {l''} {h} {h'} {h''} t u v = turn_more (turn_more (t will m a) (u l' h')) (v will m b)

  -- ---- the laws
  pub are_one_turn : (will : W → Result DeskReply Memory) → AreOneTurn will
  are_one_turn will = record { none = λ m asks left held e. turn_same left held e will m asks; more = λ m a b c l l' l'' h h' h'' e f g t u. turn_more t u }

  pub turns_serve : (will : W → Result DeskReply Memory) → TurnsServe will
  turns_serve will patience asks asks' left left' held held' e e' new t rest = record {
    bytes = all_given t.calls;
    text = all_written t.calls;
    read = t.read;
    wrote = t.wrote;
    served = pieces_and_pauses will patience asks asks' e e' t.calls new t.runs rest;
  }
