-- Calls of an exchange, one after the other.
use Rattle.std.proofs.Common.{◌≡◌, ◌≤◌, inl, inr, ℕ, zero, suc, ◌+◌, ◌-◌, length, List, [], ◌∷◌, ◌++◌, map, take, drop, true, false, Option, Some, None, refl, ap, ◌∙◌, sym, arith, append_assoc, append-nil}
use Rattle.std.specs.Prelude.{◌⊎◌, Bool, Result, Ok, nat_lt, ◌==◌, is_some, if◌then◌else◌}
use Rattle.std.proofs.Math.Seq.{take-add}
use Rattle.std.proofs.lemmas.List.{take_all}
use Rattle.hk_base.specs.declared.memory.Memory.{Memory}
use Rattle.hk_lines.specs.Cut.{Cutting, fed}
use Rattle.hk_outside.specs.declared.desk.Asked.{Asked}
use Rattle.hk_outside.specs.declared.desk.DeskReply.{DeskReply}
use Rattle.hk_request.specs.declared.request.StoreHead.{StoreHead}
use Rattle.hk_conn.specs.declared.exchange.Exchange.{Exchange}
use Rattle.hk_conn.specs.declared.exchange.Owed.TheVariants as owes
use Rattle.hk_conn.specs.declared.pending.PendingUpdate.{PendingUpdate}
use Rattle.hk_conn.specs.declared.said.Said.{Said}
use Rattle.hk_conn.specs.declared.said.Stop.{Stop}
use Rattle.hk_conn.specs.declared.said.Stop.TheVariants as stop
use Rattle.hk_conn.specs.Calls.{Call, Runs, all_given, all_written, IsNew, IsAtRest, AreServed, PiecesAndPauses}
use Rattle.hk_conn.specs.Calls.Call.{Gave, Stepped, Heard, Wrote}
use Rattle.hk_conn.specs.Exchange.{behind, place_in, more_came, owed_then, unwritten, Stands, IsExchange, Gives, Steps, HearsNext, Writes}
use Rattle.hk_conn.specs.Heard.{told_of}
use Rattle.hk_conn.specs.Pending.{Holding}
use Rattle.hk_conn.specs.Said.{said_in, is_last}
use Rattle.hk_conn.specs.Served.{Out, before, replies, served}
use Rattle.hk_conn.specs.Serving.{Place}
use Rattle.hk_conn.specs.Turns.{ahead, IsReader}
use Rattle.hk_conn.proofs.Connected.{fed_ahead, no_replies}
use Rattle.hk_conn.proofs.Sound.{given_sound, stepped_sound, heard_sound, wrote_sound, some_wait, unwritten_now}
use Rattle.hk_conn.proofs.Holding.{holding_starts, holding_moves, if_tells}

abbrev all_said : ℕ → List ℕ → List ℕ → List (Option DeskReply) → Out
all_said m read more later = replies m (said_in (read ++ more)) later

-- what was read, asked and written so far, at an exchange that goes on so
record Running {W : Type 0} (will : W → Result DeskReply Memory) (m : ℕ) (asks asks' : Option (List Asked)) (read text : List ℕ) (e : Exchange W) : Type 0 where
  pub sound : IsExchange e
  pub base : List ℕ
  pub written : text ≡ base ++ take e.at e.out.items
  pub goes : Holding will asks asks' (base ++ e.told.items) e.out.items e.updates.items (all_said m read) (behind e.stop e.held m (place_in e))

-- ---- bytes came
cut_ahead : (c c' : Cutting) (h h' : Option StoreHead) (piece more : List ℕ) → c' ≡ fed c piece → h' ≡ h → ahead h' c' more ≡ ahead h c (piece ++ more)
cut_ahead c c' h h' piece more e f = rw (e, f) (fed_ahead h c piece more)

fed_behind : (s : Stop) (held : Option Said) (m : ℕ) (p p' : Place) (piece more : List ℕ) (later : List (Option DeskReply)) → ahead p'.pending p'.cutting more ≡ ahead p.pending p.cutting (piece ++ more) → behind s held m p (piece ++ more) later ≡ behind (more_came s) held m p' more later
fed_behind stop.Need None m p p' piece more later e = ap (λ ss. replies m ss later) (sym e)
fed_behind stop.Full None m p p' piece more later e = ap (λ ss. replies m ss later) (sym e)
fed_behind stop.Quit None m p p' piece more later e = refl
fed_behind stop.TooLong None m p p' piece more later e = refl
fed_behind s (Some it) m p p' piece more later e = ap (λ ss. replies m (it ∷ (if is_last it then [] else ss)) later) (sym e)

behind_kept : (s s' : Stop) (held held' : Option Said) (m : ℕ) (p : Place) (more : List ℕ) (later : List (Option DeskReply)) → s' ≡ s → held' ≡ held → behind s held m p more later ≡ behind s' held' m p more later
behind_kept s s' held held' m p more later e h = rw (e, h) refl

-- the same replies, of more bytes
holding_given : {W : Type 0} (will : W → Result DeskReply Memory) (m : ℕ) (a b : Option (List Asked)) (old out : List ℕ) (updates : List (PendingUpdate W)) (read piece : List ℕ) (f g : List ℕ → List (Option DeskReply) → Out) → Holding will a b old out updates (all_said m read) f
    → ((more : List ℕ) (later : List (Option DeskReply)) → f (piece ++ more) later ≡ g more later) → Holding will a b old out updates (all_said m (read ++ piece)) g
holding_given will m a b old out updates read piece f g h e ts s = let k = h ts s in record {
  text = k.text;
  made = k.made;
  put = k.put;
  grown = k.grown;
  goes = λ more later. rw (append_assoc read piece more, k.goes (piece ++ more) later) (ap (λ o. before k.text k.made o) (e more later));
}

module _ {W : Type 0} (will : W → Result DeskReply Memory) (m : ℕ) (a b c : Option (List Asked)) (read text : List ℕ) (e e' : Exchange W) where
  running_given : (piece : List ℕ) → Running will m a b read text e → Gives piece e e' → c ≡ b → Running will m a c (read ++ piece) text e'
  running_given piece r g n =
      let same_at : e'.at ≡ e.at = g.keeps.at in
      let out : e'.out.items ≡ e.out.items = ap (λ x. x.items) g.keeps.out in
      let updates : e'.updates.items ≡ e.updates.items = ap (λ x. x.items) g.keeps.updates in
      let told : e'.told.items ≡ e.told.items = ap (λ x. x.items) g.keeps.told in
      record {
        sound = given_sound e e' piece r.sound g;
        base = r.base;
        written = rw (same_at, out) r.written;
        goes = rw (n, told, out, updates)
            (holding_given will m a b (r.base ++ e.told.items) e.out.items e.updates.items read piece (behind e.stop e.held m (place_in e)) (behind e'.stop e'.held m (place_in e')) r.goes
            (λ more later. fed_behind e.stop e.held m (place_in e) (place_in e') piece more later (cut_ahead e.reader.cutter e'.reader.cutter e.reader.pending e'.reader.pending piece more g.cutter g.pending) ∙ behind_kept (more_came e.stop) e'.stop e.held e'.held m (place_in e') more later g.stops g.keeps.held));
      }

  running_stepped : Running will m a b read text e → Steps will m b c e e' → Running will m a c read text e'
  running_stepped r y =
      let told : e'.told.items ≡ e.told.items = ap (λ x. x.items) y.told in
      record {
        sound = stepped_sound e e' will m b c r.sound y;
        base = r.base;
        written = r.written ∙ ap (λ x. r.base ++ x) (by_at e.at refl y.at);
        goes = rw told (y.goes a (r.base ++ e.told.items) (all_said m read) r.goes);
      }
    where
      by_at : (n : ℕ) → e.at ≡ n → e'.at ≡ e.at → take e.at e.out.items ≡ take e'.at e'.out.items
      by_at zero z s = rw (s, z) refl
      by_at (suc n) z s =
          let out : e'.out.items ≡ e.out.items = ap (λ x. x.items) (y.kept (omega (arith, z))).0 in
          rw (s, out) refl

  running_heard : Running will m a b read text e → HearsNext {F = Memory} will (Ok tt) b c e e' → Running will m a c read text e'
  running_heard r y = record {
    sound = heard_sound e e' will b c r.sound y;
    base = r.base;
    written = r.written ∙ ap (λ x. r.base ++ x) (by_at e.at refl);
    goes = holding_moves will a c (r.base ++ e'.told.items) e'.out.items e'.updates.items (all_said m read) (behind e.stop e.held m (place_in e)) (behind e'.stop e'.held m (place_in e')) (y.holding a r.base (all_said m read) (behind e.stop e.held m (place_in e)) r.goes) (λ more later. rw (y.kept.0, y.kept.1, y.kept.2) refl);
  }
    where
      by_at : (n : ℕ) → e.at ≡ n → take e.at e.out.items ≡ take e'.at e'.out.items
      by_at zero z = rw (y.kept.3, z) refl
      by_at (suc n) z =
          let out : e'.out.items ≡ e.out.items = ap (λ x. x.items) (y.none (r.sound.alone (omega (arith, z)))) in
          rw (y.kept.3, out) refl

-- ---- text was written
holding_gone : {W : Type 0} (will : W → Result DeskReply Memory) (a b : Option (List Asked)) (base told out : List ℕ) (updates : List (PendingUpdate W)) (front after : List ℕ → List (Option DeskReply) → Out) → updates ≡ [] → told ≡ [] → Holding will a b (base ++ told) out updates front after
    → Holding will a b ((base ++ out) ++ told) [] updates front after
holding_gone will a b base told out updates front after u t h = rw (u, t) (at (rw (u, t) at h))
  where
    at : Holding will a b (base ++ []) out [] front after → Holding will a b ((base ++ out) ++ []) [] [] front after
    at h [] s = let k = h [] s in record { text = k.text; made = k.made; put = append-nil ((base ++ out) ++ []) ∙ append-nil (base ++ out) ∙ ap (λ x. x ++ out) (sym (append-nil base)) ∙ k.put; grown = k.grown; goes = k.goes }
    at h (t ∷ ts) s = absurd s

module _ {W : Type 0} (will : W → Result DeskReply Memory) (m : ℕ) (a b c : Option (List Asked)) (read text : List ℕ) (e e' : Exchange W) where
  running_wrote : (more : List ℕ) → Running will m a b read text e → 1 ≤ length more → length more ≤ length (unwritten e) → more ≡ take (length more) (unwritten e) → Writes (length more) e e' → c ≡ b → Running will m a c read (text ++ more) e'
  running_wrote more r some le front w same = at (e.at + length more == length e.out.items) refl
    where
      now : (e.updates.items ≡ []) × (length more ≤ length (drop e.at e.out.items)) × (unwritten e ≡ drop e.at e.out.items)
      now = unwritten_now e.updates.items e.out.items e.at (length more) some le

      none_told : e'.told.items ≡ []
      none_told = ap (λ x. x.items) w.told ∙ r.sound.none_told now.0

      none_waits : e'.updates.items ≡ []
      none_waits = ap (λ x. x.items) w.updates ∙ now.0

      text_now : text ++ more ≡ r.base ++ take (e.at + length more) e.out.items
      text_now = ap (λ x. x ++ more) r.written ∙ append_assoc r.base (take e.at e.out.items) more ∙ ap (λ x. r.base ++ x) (ap (λ x. take e.at e.out.items ++ x) (front ∙ ap (λ x. take (length more) x) now.2) ∙ sym (take-add e.at (length more) e.out.items))

      on : Holding will a c (r.base ++ e'.told.items) e.out.items e'.updates.items (all_said m read) (behind e'.stop e'.held m (place_in e'))
      on = holding_moves will a c (r.base ++ e'.told.items) e.out.items e'.updates.items (all_said m read) (behind e.stop e.held m (place_in e)) (behind e'.stop e'.held m (place_in e')) (rw (same, w.told, w.updates) r.goes) (λ more later. rw (w.reader, w.held, w.stops) refl)

      at : (all : Bool) → (e.at + length more == length e.out.items) ≡ all → Running will m a c read (text ++ more) e'
      at true is =
          let out : e'.out.items ≡ [] = rw is at w.out in
          let zero_at : e'.at ≡ 0 = rw is at w.at in
          let whole : e.at + length more ≡ length e.out.items = grind (arith, is) in
          record {
            sound = wrote_sound e e' (length more) r.sound some le w;
            base = r.base ++ e.out.items;
            written = text_now ∙ ap (λ x. r.base ++ x) (ap (λ n. take n e.out.items) whole ∙ take_all (length e.out.items) e.out.items (omega arith)) ∙ sym (rw (zero_at, append-nil (r.base ++ e.out.items)) refl);
            goes = rw out (holding_gone will a c r.base e'.told.items e.out.items e'.updates.items (all_said m read) (behind e'.stop e'.held m (place_in e')) none_waits none_told on);
          }
      at false is =
          let out : e'.out.items ≡ e.out.items = rw is at w.out in
          let further : e'.at ≡ e.at + length more = rw is at w.at in
          record {
            sound = wrote_sound e e' (length more) r.sound some le w;
            base = r.base;
            written = text_now ∙ sym (rw (further, out) refl);
            goes = rw out on;
          }

-- ---- all of them
runs_on : {W : Type 0} (will : W → Result DeskReply Memory) (m : ℕ) (a b c : Option (List Asked)) (read text : List ℕ) (e e' : Exchange W) (calls : List Call) → Running will m a b read text e → Runs will m b c e e' calls → Running will m a c (read ++ all_given calls) (text ++ all_written calls) e'
runs_on will m a b c read text e e' [] r k = rw (append-nil read, append-nil text, k.0, k.1) r
runs_on will m a b c read text e e' (Gave bytes ∷ cs) r k =
    rw (sym (append_assoc read bytes (all_given cs))) (runs_on will m a k.1 c (read ++ bytes) text k.0 e' cs (running_given will m a b k.1 read text e k.0 bytes r k.2.0 k.2.1) k.3)
runs_on will m a b c read text e e' (Stepped ∷ cs) r k = runs_on will m a k.1 c read text k.0 e' cs (running_stepped will m a b k.1 read text e k.0 r k.2) k.3
runs_on will m a b c read text e e' (Heard ∷ cs) r k = runs_on will m a k.1 c read text k.0 e' cs (running_heard will m a b k.1 read text e k.0 r k.2) k.3
runs_on will m a b c read text e e' (Wrote more ∷ cs) r k =
    rw (sym (append_assoc text more (all_written cs))) (runs_on will m a k.1 c read (text ++ more) k.0 e' cs (running_wrote will m a b k.1 read text e k.0 more r k.2.0 k.2.1 k.2.2 k.2.3 k.2.4) k.3)

running_starts : {W : Type 0} (will : W → Result DeskReply Memory) (m : ℕ) (a : Option (List Asked)) (e : Exchange W) → IsNew e → Running will m a a [] [] e
running_starts will m a e n = record {
  sound = n.sound;
  base = [];
  written = rw (n.idle.none_written) refl;
  goes = rw (n.idle.none_told, n.idle.none_out, n.idle.none_waits) (holding_moves will a a [] [] [] (all_said m []) (all_said m []) (behind e.stop e.held m (place_in e)) (holding_starts will a (all_said m [])) (λ more later. rw (n.need, n.idle.none_held, n.cutter, n.pending) refl));
}

-- ---- at a rest
rest_bytes : {A : Type 0} (us : List A) (held : Option Said) (b : Bool) (s : Stop) → (if nat_lt 0 (length us) then owes.Hear else owed_then (is_some held) b s) ≡ owes.Bytes → (us ≡ []) × (held ≡ None) × (b ≡ false) × (s ≡ stop.Need)
rest_bytes (u ∷ us) held b s e = absurd (by_test (nat_lt 0 (length (u ∷ us))) refl e)
  where
    by_test : (w : Bool) → nat_lt 0 (length (u ∷ us)) ≡ w → (if w then owes.Hear else owed_then (is_some held) b s) ≡ owes.Bytes → ⊥
    by_test true is z = absurd (cc)
    by_test false is z = absurd (some_wait u us is)
rest_bytes [] (Some it) b s e = absurd (cc)
rest_bytes [] None true s e = absurd (cc)
rest_bytes [] None false stop.Need e = (refl, refl, refl, refl)
rest_bytes [] None false stop.Full e = absurd (cc)
rest_bytes [] None false stop.Quit e = absurd (cc)
rest_bytes [] None false stop.TooLong e = absurd (cc)

rest_over : {A : Type 0} (us : List A) (held : Option Said) (b : Bool) (s : Stop) → (if nat_lt 0 (length us) then owes.Hear else owed_then (is_some held) b s) ≡ owes.Over → (us ≡ []) × (held ≡ None) × (b ≡ false) × ((s ≡ stop.Quit) ⊎ (s ≡ stop.TooLong))
rest_over (u ∷ us) held b s e = absurd (by_test (nat_lt 0 (length (u ∷ us))) refl e)
  where
    by_test : (w : Bool) → nat_lt 0 (length (u ∷ us)) ≡ w → (if w then owes.Hear else owed_then (is_some held) b s) ≡ owes.Over → ⊥
    by_test true is z = absurd (cc)
    by_test false is z = absurd (some_wait u us is)
rest_over [] (Some it) b s e = absurd (cc)
rest_over [] None true s e = absurd (cc)
rest_over [] None false stop.Need e = absurd (cc)
rest_over [] None false stop.Full e = absurd (cc)
rest_over [] None false stop.Quit e = (refl, refl, refl, inl refl)
rest_over [] None false stop.TooLong e = (refl, refl, refl, inr refl)

-- nothing is said behind it
pub record Ends (o : Out) : Type 0 where
  pub text : o.text ≡ []
  pub asks : o.asks ≡ []
  pub later : o.later ≡ Some []

ends_need : (s : Stop) (held : Option Said) (m : ℕ) (p : Place) → s ≡ stop.Need → held ≡ None → Stands s held p → Ends (behind s held m p [] [])
ends_need s held m p e h k = rw (e, h) (at (rw (e, h) at k))
  where
    at : IsReader p.cutting p.pending × (ahead p.pending p.cutting [] ≡ []) → Ends (replies m (ahead p.pending p.cutting []) [])
    at k = rw (k.1, no_replies m) (record { text = refl; asks = refl; later = refl })

ends_over : (s : Stop) (held : Option Said) (m : ℕ) (p : Place) → (s ≡ stop.Quit) ⊎ (s ≡ stop.TooLong) → held ≡ None → Ends (behind s held m p [] [])
ends_over s held m p (inl e) h = rw (e, h) (record { text = refl; asks = refl; later = refl })
ends_over s held m p (inr e) h = rw (e, h) (record { text = refl; asks = refl; later = refl })

served_rest : {W : Type 0} (will : W → Result DeskReply Memory) (patience : ℕ) (a b : Option (List Asked)) (read text : List ℕ) (e : Exchange W) → Running will (patience - 1) a b read text e → e.updates.items ≡ [] → nat_lt e.at (length e.out.items) ≡ false → Ends (behind e.stop e.held (patience - 1) (place_in e) [] [])
    → AreServed patience a b read text
served_rest {W} will patience a b read text e r none all ends =
    let here : Holding will a b (r.base ++ e.told.items) e.out.items [] (all_said (patience - 1) read) (behind e.stop e.held (patience - 1) (place_in e)) = rw none at r.goes in
    let k = here [] tt in
    let o = behind e.stop e.held (patience - 1) (place_in e) [] [] in
    let out : served read patience (map told_of k.made) ≡ before k.text k.made o = rw (append-nil read, append-nil (map told_of k.made)) at (k.goes [] []) in
    let le : length e.out.items ≤ e.at = grind (arith, all) in
    let whole : text ≡ r.base ++ e.out.items = r.written ∙ ap (λ x. r.base ++ x) (take_all e.at e.out.items le) in
    let told : e.told.items ≡ [] = r.sound.none_told none in
    let put : k.text ≡ r.base ++ e.out.items = sym k.put ∙ ap (λ x. (r.base ++ x) ++ e.out.items) told ∙ ap (λ x. x ++ e.out.items) (append-nil r.base) in
    record {
      made = k.made;
      asked = k.grown (if_tells b ([] ≡ []) refl);
      called = ap (λ x. x.asks) out ∙ ap (λ x. k.made ++ x) ends.asks ∙ append-nil k.made;
      put = ap (λ x. x.text) out ∙ ap (λ x. k.text ++ x) ends.text ∙ append-nil k.text ∙ put ∙ sym whole;
      whole = ap (λ x. x.later) out ∙ ends.later;
    }

pub pieces_and_pauses : {W : Type 0} (will : W → Result DeskReply Memory) → PiecesAndPauses will
pieces_and_pauses will patience asks asks' e e' calls new runs rest =
    at rest (runs_on will (patience - 1) asks asks asks' [] [] e e' calls (running_starts will (patience - 1) asks e new) runs)
  where
    at : IsAtRest e' → Running will (patience - 1) asks asks' (all_given calls) (all_written calls) e' → AreServed patience asks asks' (all_given calls) (all_written calls)
    at (inl b) r = let x = rest_bytes e'.updates.items e'.held (nat_lt e'.at (length e'.out.items)) e'.stop b in served_rest will patience asks asks' (all_given calls) (all_written calls) e' r x.0 x.2 (ends_need e'.stop e'.held (patience - 1) (place_in e') x.3 x.1 r.sound.stands)
    at (inr o) r = let x = rest_over e'.updates.items e'.held (nat_lt e'.at (length e'.out.items)) e'.stop o in served_rest will patience asks asks' (all_given calls) (all_written calls) e' r x.0 x.2 (ends_over e'.stop e'.held (patience - 1) (place_in e') x.3 x.1)
