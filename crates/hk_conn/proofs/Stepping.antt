-- Steps of an exchange.
use Rattle.std.proofs.Common.{◌≡◌, ◌≢◌, ◌≤◌, ◌<◌, inl, inr, ℕ, length, List, [], ◌∷◌, ◌++◌, false, Option, Some, None, refl, ap, ◌∙◌, sym, arith, append_assoc, drop}
use Rattle.std.specs.Prelude.{◌⊎◌, Bool, Result, Ok, Err, IsSome, if◌then◌else◌}
use Rattle.hk_outside.specs.declared.desk.Asked.{Asked}
use Rattle.hk_outside.specs.declared.desk.DeskReply.{DeskReply}
use Rattle.hk_conn.specs.declared.exchange.Exchange.{Exchange}
use Rattle.hk_conn.specs.declared.pending.PendingUpdate.{PendingUpdate}
use Rattle.hk_conn.specs.declared.said.ReaderStep.TheVariants as turn
use Rattle.hk_conn.specs.declared.said.Said.{Said}
use Rattle.hk_conn.specs.declared.said.Said.TheVariants as said
use Rattle.hk_conn.specs.declared.said.Stop.{Stop}
use Rattle.hk_conn.specs.declared.said.Stop.TheVariants as stop
use Rattle.hk_conn.specs.Exchange.{behind, place_in, Stands, CanStep, Steps, TakesStep, IsIdle, IsAnswered, Joins, HearsNext}
use Rattle.hk_conn.specs.Pending.{Holding, Parting, RepliesPending, FinishesAll, LetsGo, LetsOneGo}
use Rattle.hk_conn.specs.Said.{is_last}
use Rattle.hk_conn.specs.Served.{Out, replies, update_text}
use Rattle.hk_conn.specs.Serving.{Place, place_of, replies_from, behind_stop, stop_at, Idles, Passes, Breaks}
use Rattle.hk_conn.specs.Turns.{ahead, IsReader, Turns, GoesOn}
use Rattle.hk_conn.proofs.Passing.{goes_on}
use Rattle.hk_conn.proofs.Holding.{holding_starts, holding_moves, holding_need, holding_head, holding_said, holding_stops, parting_now, parting_said, said_next, no_stop, no_long_head, holding_finished, holding_breaks, holding_done, breaks, holding_heard, parting_heard, holding_joined}

-- ---- what is behind
behind_due : (s : Stop) (held : Option Said) (m : ℕ) (p : Place) (more : List ℕ) (later : List (Option DeskReply)) → s ≡ stop.Full → held ≡ None → behind s held m p more later ≡ replies_from m p more later
behind_due s held m p more later e h = rw (h, e) refl

due_behind : (s : Stop) (held : Option Said) (m : ℕ) (p : Place) (more : List ℕ) (later : List (Option DeskReply)) → s ≡ stop.Full → held ≡ None → replies_from m p more later ≡ behind s held m p more later
due_behind s held m p more later e h = rw (h, e) refl

behind_none : (s : Stop) (held : Option Said) (m : ℕ) (p : Place) (more : List ℕ) (later : List (Option DeskReply)) → held ≡ None → behind_stop s m p more later ≡ behind s held m p more later
behind_none s held m p more later h = rw h refl

none_behind : (s : Stop) (held : Option Said) (m : ℕ) (p : Place) (more : List ℕ) (later : List (Option DeskReply)) → held ≡ None → behind s held m p more later ≡ behind_stop s m p more later
none_behind s held m p more later h = rw h refl

behind_some : (s : Stop) (held : Option Said) (it : Said) (m : ℕ) (p : Place) (more : List ℕ) (later : List (Option DeskReply)) → held ≡ Some it → behind s held m p more later ≡ replies m (it ∷ (if is_last it then [] else ahead p.pending p.cutting more)) later
behind_some s held it m p more later h = rw h refl

some_behind : (s : Stop) (held : Option Said) (it : Said) (m : ℕ) (p : Place) (more : List ℕ) (later : List (Option DeskReply)) → held ≡ Some it → replies m (it ∷ (if is_last it then [] else ahead p.pending p.cutting more)) later ≡ behind s held m p more later
some_behind s held it m p more later h = rw h refl

not_last_on : (l : Bool) (m : ℕ) (ss : List Said) (later : List (Option DeskReply)) → l ≡ false → replies m (if l then [] else ss) later ≡ replies m ss later
not_last_on l m ss later e = rw e refl

-- ---- the reader
pub stands_reader : (s : Stop) (held : Option Said) (p : Place) → s ≡ stop.Full → held ≡ None → Stands s held p → IsReader p.cutting p.pending
stands_reader s held p e h k = rw (e, h) at k

pub stands_need : (s : Stop) (held : Option Said) (p : Place) → s ≡ stop.Need → held ≡ None → Stands s held p → IsReader p.cutting p.pending × (ahead p.pending p.cutting [] ≡ [])
stands_need s held p e h k = rw (e, h) at k

stands_none : (s : Stop) (held : Option Said) (p : Place) → held ≡ None → Stands s None p → Stands s held p
stands_none s held p h k = rw h k

stands_held : (s : Stop) (held : Option Said) (it : Said) (p : Place) → s ≡ stop.Full → held ≡ Some it → IsReader p.cutting p.pending → is_last it ≡ false → Stands s held p
stands_held s held it p e h r n = rw (h, e) (r, n)

stands_full : (s : Stop) (held : Option Said) (p : Place) → s ≡ stop.Full → held ≡ None → IsReader p.cutting p.pending → Stands s held p
stands_full s held p e h r = rw (h, e) r

-- what is held, and that the step is not at its end
pub held_full : (s : Stop) (held : Option Said) (it : Said) (p : Place) → held ≡ Some it → Stands s held p → (s ≡ stop.Full) × IsReader p.cutting p.pending × (is_last it ≡ false)
held_full s held it p h k = at s (rw h at k)
  where
    at : (s : Stop) → Stands s (Some it) p → (s ≡ stop.Full) × IsReader p.cutting p.pending × (is_last it ≡ false)
    at stop.Need k = absurd k
    at stop.Full k = (refl, k.0, k.1)
    at stop.Quit k = absurd k
    at stop.TooLong k = absurd k

pub stands_some : (s : Stop) (held : Option Said) (p : Place) → (held ≡ None → ⊥) → Stands s held p → s ≡ stop.Full
stands_some s None p n k = absurd (n refl)
stands_some stop.Need (Some it) p n k = absurd k
stands_some stop.Full (Some it) p n k = refl
stands_some stop.Quit (Some it) p n k = absurd k
stands_some stop.TooLong (Some it) p n k = absurd k

stands_stop : (o : Stop) (p q : Place) → Idles o p q → Stands o None q
stands_stop stop.Need p q i = i
stands_stop stop.Full p q i = i.0
stands_stop stop.Quit p q i = tt
stands_stop stop.TooLong p q i = tt

not_last_stop : (s : Said) → is_last s ≡ false → None ≡ stop_at s
not_last_stop (said.Asked q) e = refl
not_last_stop (said.Refused c) e = refl
not_last_stop (said.BadEnd n) e = refl
not_last_stop said.LongLine e = absurd (cc)
not_last_stop said.Left e = absurd (cc)

pub not_long : (s : Said) → is_last s ≡ false → turn.Says s ≢ turn.Says said.LongLine
not_long s e = goes_on (turn.Says s) s refl (not_last_stop s e)

stop_no_full : (s : Said) (o : Stop) → Some o ≡ stop_at s → o ≡ stop.Full → ⊥
stop_no_full (said.Asked q) o e f = absurd (cc)
stop_no_full (said.Refused c) o e f = absurd (cc)
stop_no_full (said.BadEnd n) o e f = absurd (cc)
stop_no_full said.LongLine o e f = absurd (let g : o ≡ stop.TooLong = cc in let h : stop.TooLong ≡ stop.Full = sym g ∙ f in cc)
stop_no_full said.Left o e f = absurd (let g : o ≡ stop.Quit = cc in let h : stop.Quit ≡ stop.Full = sym g ∙ f in cc)

stop_not_last : (s : Said) (o : Stop) → Some o ≡ stop_at s → is_last s ≡ false → ⊥
stop_not_last s o e n = absurd (let z : Some o ≡ None = e ∙ sym (not_last_stop s n) in cc)

need_full : stop.Need ≡ stop.Full → ⊥
need_full e = absurd (cc)

not_both : (n : ℕ) → n ≡ 0 → 0 < n → ⊥
not_both n z lt = absurd (omega (arith, z, lt))

-- ---- in the midst of a step
pub record Midway {W E : Type 0} (will : W → Result DeskReply E) (m : ℕ) (b c : Option (List Asked)) (e e1 : Exchange W) : Type 0 where
  pub reader : IsReader e1.reader.cutter e1.reader.pending
  pub held : e1.held ≡ None
  pub full : e1.stop ≡ stop.Full
  pub waits : e1.updates.items ≡ [] → e.updates.items ≡ []
  pub told : e1.told ≡ e.told
  pub at : e1.at ≡ e.at
  pub less : length e1.reader.cutter.unread ≤ length e.reader.cutter.unread
  pub goes : (a : Option (List Asked)) (old : List ℕ) (front : List ℕ → List (Option DeskReply) → Out) →
      Holding will a b old e.out.items e.updates.items front (replies_from m (place_in e)) → Holding will a c old e1.out.items e1.updates.items front (replies_from m (place_in e1))

pub midway_starts : {W E : Type 0} (will : W → Result DeskReply E) (m : ℕ) (b : Option (List Asked)) (e : Exchange W) → IsReader e.reader.cutter e.reader.pending → e.held ≡ None → e.stop ≡ stop.Full → Midway will m b b e e
midway_starts will m b e r h s = record { reader = r; held = h; full = s; waits = λ n. n; told = refl; at = refl; less = omega arith; goes = λ a old front k. k }

module _ {W E : Type 0} (will : W → Result DeskReply E) (m : ℕ) (b c : Option (List Asked)) (e e1 e' : Exchange W) where
  pub steps_need : Midway will m b c e e1 → e.stop ≡ stop.Full → e.held ≡ None → e.at ≡ 0 → Turns turn.Need e1.reader.pending e1.reader.cutter e'.reader.pending e'.reader.cutter → IsReader e'.reader.cutter e'.reader.pending
      → e'.stop ≡ stop.Need → e'.held ≡ e1.held → e'.out.items ≡ e1.out.items → e'.updates.items ≡ e1.updates.items → e'.told ≡ e1.told → e'.at ≡ e1.at → Steps will m b c e e'
  steps_need w s h z t r s' h' o u d a' = record {
    goes = λ a old front k.
        let due = holding_moves will a b old e.out.items e.updates.items front (behind e.stop e.held m (place_in e)) (replies_from m (place_in e)) k (λ more later. behind_due e.stop e.held m (place_in e) more later s h) in
        let on = (holding_need will m a c old e1.out.items e1.updates.items front (place_in e) e1.reader.pending e'.reader.pending e1.reader.cutter e'.reader.cutter (w.goes a old front due) t r).0 in
        rw (o, u) (holding_moves will a c old e1.out.items e1.updates.items front (behind_stop stop.Need m (place_in e')) (behind e'.stop e'.held m (place_in e')) on (λ more later. need_behind e'.stop e'.held m (place_in e') more later s' (h' ∙ w.held)));
    stands = need_stands e'.stop e'.held (place_in e') s' (h' ∙ w.held) (r, t.need refl);
    waits = λ n. w.waits (sym u ∙ n);
    told = d ∙ w.told;
    at = a' ∙ w.at;
    kept = λ lt. absurd (not_both e.at z lt);
    less = λ can full. absurd (need_full (sym s' ∙ full));
  }
    where
      need_behind : (s : Stop) (held : Option Said) (m : ℕ) (p : Place) (more : List ℕ) (later : List (Option DeskReply)) → s ≡ stop.Need → held ≡ None → behind_stop stop.Need m p more later ≡ behind s held m p more later
      need_behind s held m p more later e h = rw (h, e) refl

      need_stands : (s : Stop) (held : Option Said) (p : Place) → s ≡ stop.Need → held ≡ None → IsReader p.cutting p.pending × (ahead p.pending p.cutting [] ≡ []) → Stands s held p
      need_stands s held p e h k = rw (h, e) k

  -- nothing is held, and some of what was said is answered
  pub steps_midway : Midway will m b c e e' → e.stop ≡ stop.Full → e.held ≡ None → e.at ≡ 0 → length e'.reader.cutter.unread < length e.reader.cutter.unread → Steps will m b c e e'
  steps_midway w s h z less = record {
    goes = λ a old front k.
        let due = holding_moves will a b old e.out.items e.updates.items front (behind e.stop e.held m (place_in e)) (replies_from m (place_in e)) k (λ more later. behind_due e.stop e.held m (place_in e) more later s h) in
        holding_moves will a c old e'.out.items e'.updates.items front (replies_from m (place_in e')) (behind e'.stop e'.held m (place_in e')) (w.goes a old front due) (λ more later. due_behind e'.stop e'.held m (place_in e') more later w.full w.held);
    stands = stands_full e'.stop e'.held (place_in e') w.full w.held w.reader;
    waits = w.waits;
    told = w.told;
    at = w.at;
    kept = λ lt. absurd (not_both e.at z lt);
    less = λ can full. less;
  }

  pub midway_head : Midway will m b c e e1 → Turns turn.Head e1.reader.pending e1.reader.cutter e'.reader.pending e'.reader.cutter → IsReader e'.reader.cutter e'.reader.pending → e'.stop ≡ e1.stop → e'.held ≡ e1.held → e'.out ≡ e1.out → e'.updates ≡ e1.updates → e'.told ≡ e1.told → e'.at ≡ e1.at → Midway will m b c e e'
  midway_head w t r s h o u d a' = record {
    reader = r;
    held = h ∙ w.held;
    full = s ∙ w.full;
    waits = λ n. w.waits (ap (λ x. x.items) (sym u) ∙ n);
    told = d ∙ w.told;
    at = a' ∙ w.at;
    less = (let less = t.less in omega (arith, less, w.less));
    goes = λ a old front k. rw (o, u) (holding_head will m a c old e1.out.items e1.updates.items front (place_in e) e1.reader.pending e'.reader.pending e1.reader.cutter e'.reader.cutter (w.goes a old front k) t);
  }

  module _ (s : Said) (t : Turns (turn.Says s) e1.reader.pending e1.reader.cutter e'.reader.pending e'.reader.cutter) where
    pub said_less : Midway will m b c e e1 → is_last s ≡ false → length e'.reader.cutter.unread < length e.reader.cutter.unread
    said_less w n = let less = t.less n in omega (arith, less, w.less)

    pub midway_said : (d : Option (List Asked)) → Midway will m b c e e1 → RepliesPending {F = E} will (Ok None) m c d e1.updates.items e'.updates.items e1.out.items e'.out.items s → GoesOn (turn.Says s) e'.reader.cutter e'.reader.pending → (e'.updates.items ≡ [] → e1.updates.items ≡ [])
        → e'.stop ≡ e1.stop → e'.held ≡ e1.held → e'.told ≡ e1.told → e'.at ≡ e1.at → Midway will m b d e e'
    midway_said d w r g u st h to a' = record {
      reader = g (not_long s (no_stop s r.0));
      held = h ∙ w.held;
      full = st ∙ w.full;
      waits = λ n. w.waits (u n);
      told = to ∙ w.told;
      at = a' ∙ w.at;
      less = (let less = t.less (no_stop s r.0) in omega (arith, less, w.less));
      goes = λ a old front k. (holding_said will m a c old e1.out.items e1.updates.items front (place_in e) e1.reader.pending e'.reader.pending e1.reader.cutter e'.reader.cutter s t d e'.out.items e'.updates.items (w.goes a old front k) r (no_stop s r.0)).0;
    }

    pub steps_held : Midway will m b c e e1 → e.stop ≡ stop.Full → e.held ≡ None → e.at ≡ 0 → GoesOn (turn.Says s) e'.reader.cutter e'.reader.pending → is_last s ≡ false → e'.stop ≡ e1.stop → e'.held ≡ Some s → e'.out ≡ e1.out → e'.updates ≡ e1.updates → e'.told ≡ e1.told → e'.at ≡ e1.at → Steps will m b c e e'
    steps_held w st h z g n s' h' o u d a' = record {
      goes = λ a old front k.
          let due = holding_moves will a b old e.out.items e.updates.items front (behind e.stop e.held m (place_in e)) (replies_from m (place_in e)) k (λ more later. behind_due e.stop e.held m (place_in e) more later st h) in
          let on = said_next will m a c old e1.out.items e1.updates.items front (place_in e) e1.reader.pending e'.reader.pending e1.reader.cutter e'.reader.cutter s t (w.goes a old front due) in
          rw (o, u) (holding_moves will a c old e1.out.items e1.updates.items front _ (behind e'.stop e'.held m (place_in e')) on (λ more later. some_behind e'.stop e'.held s m (place_in e') more later h'));
      stands = stands_held e'.stop e'.held s (place_in e') (s' ∙ w.full) h' (g (not_long s n)) n;
      waits = λ i. w.waits (ap (λ x. x.items) (sym u) ∙ i);
      told = d ∙ w.told;
      at = a' ∙ w.at;
      kept = λ lt. absurd (not_both e.at z lt);
      less = λ can full. said_less w n;
    }

    pub steps_stops : (d : Option (List Asked)) (o : Stop) → Midway will m b c e e1 → e.stop ≡ stop.Full → e.held ≡ None → e.at ≡ 0 → RepliesPending {F = E} will (Ok (Some o)) m c d e1.updates.items e'.updates.items e1.out.items e'.out.items s → (e'.updates.items ≡ [] → e1.updates.items ≡ [])
        → e'.stop ≡ o → e'.held ≡ e1.held → e'.told ≡ e1.told → e'.at ≡ e1.at → Steps will m b d e e'
    steps_stops d o w st h z r u s' h' to a' = record {
      goes = λ a old front k.
          let due = holding_moves will a b old e.out.items e.updates.items front (behind e.stop e.held m (place_in e)) (replies_from m (place_in e)) k (λ more later. behind_due e.stop e.held m (place_in e) more later st h) in
          let on = (stops a old front due).0 in
          holding_moves will a d old e'.out.items e'.updates.items front (behind_stop o m (place_in e')) (behind e'.stop e'.held m (place_in e')) on (λ more later. at_stop e'.stop o e'.held m (place_in e') more later s' (h' ∙ w.held));
      stands = stop_stands e'.stop o e'.held (place_in e') s' (h' ∙ w.held) (stands_said s o (place_in e') r.0);
      waits = λ n. w.waits (u n);
      told = to ∙ w.told;
      at = a' ∙ w.at;
      kept = λ lt. absurd (not_both e.at z lt);
      less = λ can full. absurd (stop_no_full s o r.0 (sym s' ∙ full));
    }
      where
        stops : (a : Option (List Asked)) (old : List ℕ) (front : List ℕ → List (Option DeskReply) → Out) → Holding will a b old e.out.items e.updates.items front (replies_from m (place_in e)) → Holding will a d old e'.out.items e'.updates.items front (behind_stop o m (place_in e')) × Idles o (place_in e) (place_in e')
        stops a old front due = holding_stops will m a c old e1.out.items e1.updates.items front (place_in e) e1.reader.pending e'.reader.pending e1.reader.cutter e'.reader.cutter s t d e'.out.items e'.updates.items o (w.goes a old front due) r

        at_stop : (s o : Stop) (held : Option Said) (m : ℕ) (p : Place) (more : List ℕ) (later : List (Option DeskReply)) → s ≡ o → held ≡ None → behind_stop o m p more later ≡ behind s held m p more later
        at_stop s o held m p more later e h = rw (h, e) refl

        stop_stands : (s o : Stop) (held : Option Said) (p : Place) → s ≡ o → held ≡ None → Stands o None p → Stands s held p
        stop_stands s o held p e h k = rw (h, e) k

        stands_said : (s : Said) (o : Stop) (p : Place) → Some o ≡ stop_at s → Stands o None p
        stands_said (said.Asked q) o p e = absurd (cc)
        stands_said (said.Refused q) o p e = absurd (cc)
        stands_said (said.BadEnd q) o p e = absurd (cc)
        stands_said said.LongLine o p e = let f : o ≡ stop.TooLong = cc in rw f tt
        stands_said said.Left o p e = let f : o ≡ stop.Quit = cc in rw f tt

    pub parts_said : (d : Option (List Asked)) (x : E) (out' : List ℕ) (updates' : List (PendingUpdate W)) → Midway will m b c e e1 → e.stop ≡ stop.Full → e.held ≡ None → RepliesPending will (Err x) m c d e1.updates.items updates' e1.out.items out' s
        → (a : Option (List Asked)) (old : List ℕ) (front : List ℕ → List (Option DeskReply) → Out) → Holding will a b old e.out.items e.updates.items front (behind e.stop e.held m (place_in e)) → Parting will a d updates' front
    parts_said d x out' updates' w st h r a old front k =
        let due = holding_moves will a b old e.out.items e.updates.items front (behind e.stop e.held m (place_in e)) (replies_from m (place_in e)) k (λ more later. behind_due e.stop e.held m (place_in e) more later st h) in
        parting_said will m a c old e1.out.items e1.updates.items front (place_in e) e1.reader.pending e'.reader.pending e1.reader.cutter e'.reader.cutter s t d out' updates' x (w.goes a old front due) r

pub parts_now : {W E : Type 0} (will : W → Result DeskReply E) (m : ℕ) (b c : Option (List Asked)) (e e1 : Exchange W) → Midway will m b c e e1 → e.stop ≡ stop.Full → e.held ≡ None
    → (a : Option (List Asked)) (old : List ℕ) (front : List ℕ → List (Option DeskReply) → Out) → Holding will a b old e.out.items e.updates.items front (behind e.stop e.held m (place_in e)) → Parting will a c e1.updates.items front
parts_now will m b c e e1 w st h a old front k =
    let due = holding_moves will a b old e.out.items e.updates.items front (behind e.stop e.held m (place_in e)) (replies_from m (place_in e)) k (λ more later. behind_due e.stop e.held m (place_in e) more later st h) in
    parting_now will m a c old e1.out.items e1.updates.items front (place_in e) e1.reader.pending e1.reader.pending e1.reader.cutter e1.reader.cutter (w.goes a old front due)

-- ---- no step can be made
pub steps_idle : {W E : Type 0} (will : W → Result DeskReply E) (m : ℕ) (b : Option (List Asked)) (e : Exchange W) → Stands e.stop e.held (place_in e) → (CanStep e → ⊥) → Steps will m b b e e
steps_idle will m b e s cannot = record { goes = λ a old front k. k; stands = s; waits = λ n. n; told = refl; at = refl; kept = λ lt. (refl, refl); less = λ can full. absurd (cannot can) }

-- ---- behind what was held
held_goes : {W E : Type 0} (will : W → Result DeskReply E) (m : ℕ) (b c : Option (List Asked)) (e e1 : Exchange W) (it : Said) → e.held ≡ Some it → Stands e.stop e.held (place_in e) → RepliesPending {F = E} will (Ok None) m b c e.updates.items e1.updates.items e.out.items e1.out.items it
    → e1.reader ≡ e.reader → e1.stop ≡ e.stop → e1.held ≡ None → (a : Option (List Asked)) (old : List ℕ) (front : List ℕ → List (Option DeskReply) → Out)
    → Holding will a b old e.out.items e.updates.items front (behind e.stop e.held m (place_in e)) → Holding will a c old e1.out.items e1.updates.items front (behind e1.stop e1.held m (place_in e1))
held_goes will m b c e e1 it h s r rd st h1 a old front k =
    let full = held_full e.stop e.held it (place_in e) h s in
    let it_next = holding_moves will a b old e.out.items e.updates.items front (behind e.stop e.held m (place_in e)) (λ more later. replies m (it ∷ (if is_last it then [] else ahead e.reader.pending e.reader.cutter more)) later) k (λ more later. behind_some e.stop e.held it m (place_in e) more later h) in
    let on = r.1 a old front (λ more. if is_last it then [] else ahead e.reader.pending e.reader.cutter more) it_next in
    holding_moves will a c old e1.out.items e1.updates.items front (λ more later. replies m (if is_last it then [] else ahead e.reader.pending e.reader.cutter more) later) (behind e1.stop e1.held m (place_in e1)) on
    (λ more later. not_last_on (is_last it) m (ahead e.reader.pending e.reader.cutter more) later full.2 ∙ sym (ap (λ x. replies m (ahead x.pending x.cutter more) later) rd) ∙ due_behind e1.stop e1.held m (place_in e1) more later (st ∙ full.0) h1)

pub behind_then : {W E F : Type 0} (will : W → Result DeskReply E) (r : Result (Unit {0}) F) (m : ℕ) (b c d : Option (List Asked)) (e e1 e' : Exchange W) (it : Said) → e.held ≡ Some it → Stands e.stop e.held (place_in e) → RepliesPending {F = E} will (Ok None) m b c e.updates.items e1.updates.items e.out.items e1.out.items it
    → (e1.updates.items ≡ [] → e.updates.items ≡ []) → e1.reader ≡ e.reader → e1.stop ≡ e.stop → e1.held ≡ None → e1.told ≡ e.told → e1.at ≡ e.at → e.at ≡ 0 → TakesStep will r m c d e1 e' → TakesStep will r m b d e e'
behind_then will (Ok u) m b c d e e1 e' it h s r w rd st h1 to a' z y =
    let full = held_full e.stop e.held it (place_in e) h s in
    record {
      goes = λ a old front k. y.goes a old front (held_goes will m b c e e1 it h s r rd st h1 a old front k);
      stands = y.stands;
      waits = λ n. w (y.waits n);
      told = y.told ∙ to;
      at = y.at ∙ a';
      kept = λ lt. absurd (not_both e.at z lt);
      less = λ can f. rw rd at (y.less (st ∙ full.0, a' ∙ z, inl h1) f);
    }
behind_then will (Err x) m b c d e e1 e' it h s r w rd st h1 to a' z y = λ a old front k. y a old front (held_goes will m b c e e1 it h s r rd st h1 a old front k)

pub behind_parts : {W E F : Type 0} (will : W → Result DeskReply E) (x : F) (m : ℕ) (b c : Option (List Asked)) (e : Exchange W) (updates' : List (PendingUpdate W)) (out' : List ℕ) (it : Said) → e.held ≡ Some it → RepliesPending will (Err x) m b c e.updates.items updates' e.out.items out' it
    → (a : Option (List Asked)) (old : List ℕ) (front : List ℕ → List (Option DeskReply) → Out) → Holding will a b old e.out.items e.updates.items front (behind e.stop e.held m (place_in e)) → Parting will a c updates' front
behind_parts will x m b c e updates' out' it h r a old front k =
    r a old front (λ more. if is_last it then [] else ahead e.reader.pending e.reader.cutter more)
    (holding_moves will a b old e.out.items e.updates.items front (behind e.stop e.held m (place_in e)) (λ more later. replies m (it ∷ (if is_last it then [] else ahead e.reader.pending e.reader.cutter more)) later) k (λ more later. behind_some e.stop e.held it m (place_in e) more later h))

pub no_stop_behind : (o s : Stop) (held : Option Said) (p : Place) (it : Said) → held ≡ Some it → Stands s held p → Some o ≡ stop_at it → ⊥
no_stop_behind o s held p it h k e = stop_not_last it o e (held_full s held it p h k).2

-- ---- a pass
pub record Passing {W E : Type 0} (will : W → Result DeskReply E) (m : ℕ) (b c : Option (List Asked)) (e e1 : Exchange W) : Type 0 where
  pub goes : Holding will b c [] e1.out.items e1.updates.items (replies_from m (place_in e)) (behind e1.stop e1.held m (place_in e1))
  pub stands : Stands e1.stop e1.held (place_in e1)
  pub full : e1.stop ≡ stop.Full
  pub waits : e1.updates.items ≡ []
  pub told : e1.told.items ≡ []
  pub at : e1.at ≡ 0
  pub less : length e1.reader.cutter.unread ≤ length e.reader.cutter.unread

pub passing_starts : {W E : Type 0} (will : W → Result DeskReply E) (m : ℕ) (b : Option (List Asked)) (e : Exchange W) → IsIdle e → e.stop ≡ stop.Full → IsReader e.reader.cutter e.reader.pending → Passing will m b b e e
passing_starts will m b e i f r = record {
  goes = rw (i.none_out, i.none_waits) (holding_moves will b b [] [] [] (replies_from m (place_in e)) (replies_from m (place_in e)) (behind e.stop e.held m (place_in e)) (holding_starts will b (replies_from m (place_in e))) (λ more later. due_behind e.stop e.held m (place_in e) more later f i.none_held));
  stands = stands_full e.stop e.held (place_in e) f i.none_held r;
  full = f;
  waits = i.none_waits;
  told = i.none_told;
  at = i.none_written;
  less = omega arith;
}

module _ {W E : Type 0} (will : W → Result DeskReply E) (m : ℕ) (b c d d' : Option (List Asked)) (e e1 e2 e3 : Exchange W) where
  passing_heard : (u : Unit {0}) → Passing will m b c e e1 → Steps will m c d e1 e2 → (h : FinishesAll {F = E} will (Ok u) d d' e2.updates.items e3.updates.items e2.out.items e3.out.items) → e3.stop ≡ e2.stop → e3.held ≡ e2.held → e3.reader ≡ e2.reader
      → Holding will b d' [] e3.out.items e3.updates.items (replies_from m (place_in e)) (behind e3.stop e3.held m (place_in e3))
  passing_heard u p y h s l r =
      let on = y.goes b [] (replies_from m (place_in e)) p.goes in
      let told = holding_finished will b d d' [] e2.out.items e3.out.items e2.updates.items e3.updates.items (replies_from m (place_in e)) (behind e2.stop e2.held m (place_in e2)) h.1 h.0 h.2 h.3 on in
      holding_moves will b d' [] e3.out.items e3.updates.items (replies_from m (place_in e)) (behind e2.stop e2.held m (place_in e2)) (behind e3.stop e3.held m (place_in e3)) told (λ more later. rw (s, l, r) refl)

  pub passing_on : (u : Unit {0}) → Passing will m b c e e1 → Steps will m c d e1 e2 → FinishesAll {F = E} will (Ok u) d d' e2.updates.items e3.updates.items e2.out.items e3.out.items → e3.stop ≡ e2.stop → e3.held ≡ e2.held → e3.reader ≡ e2.reader → e3.told ≡ e2.told → e3.at ≡ e2.at → (e3.held ≡ None → ⊥)
      → Passing will m b d' e e3 × (length e3.reader.cutter.unread < length e1.reader.cutter.unread)
  passing_on u p y h s l r t a n =
      let stands : Stands e3.stop e3.held (place_in e3) = rw (s, l, r) y.stands in
      let full = stands_some e3.stop e3.held (place_in e3) n stands in
      let less : length e3.reader.cutter.unread < length e1.reader.cutter.unread = rw r (y.less (p.full, p.at, inr p.waits) (sym s ∙ full)) in
      (record { goes = passing_heard u p y h s l r; stands = stands; full = full; waits = h.0; told = ap (λ x. x.items) (t ∙ y.told) ∙ p.told; at = a ∙ y.at ∙ p.at; less = omega (arith, less, p.less) }, less)

  pub passes_now : (u : Unit {0}) → Passing will m b c e e1 → Steps will m c d e1 e2 → FinishesAll {F = E} will (Ok u) d d' e2.updates.items e3.updates.items e2.out.items e3.out.items → e3.stop ≡ e2.stop → e3.held ≡ e2.held → e3.reader ≡ e2.reader → e3.told ≡ e2.told → e3.at ≡ e2.at → e3.held ≡ None
      → Passes {E = E} (Ok e3.stop) m b d' [] e3.out.items (place_in e) (place_in e3) × IsAnswered e3.stop e3
  passes_now u p y h s l r t a n =
      let stands : Stands e3.stop e3.held (place_in e3) = rw (s, l, r) y.stands in
      let on = passing_heard u p y h s l r in
      let whole = holding_moves will b d' [] e3.out.items e3.updates.items (replies_from m (place_in e)) (behind e3.stop e3.held m (place_in e3)) (behind_stop e3.stop m (place_in e3)) on (λ more later. none_behind e3.stop e3.held m (place_in e3) more later n) in
      let less : e3.stop ≡ stop.Full → length e3.reader.cutter.unread < length e.reader.cutter.unread = λ f. fewer (rw r (y.less (p.full, p.at, inr p.waits) (sym s ∙ f))) p.less in (
        (holding_done will m b d' e3.out.items e3.updates.items (place_in e) (behind_stop e3.stop m (place_in e3)) h.0 whole, idles e3.stop e3.held (place_in e) (place_in e3) n stands less),
        record { none_held = n; none_waits = h.0; none_told = ap (λ x. x.items) (t ∙ y.told) ∙ p.told; none_written = a ∙ y.at ∙ p.at; stops = refl },
      )
    where
      fewer : {x y z : ℕ} → x < y → y ≤ z → x < z
      fewer l k = omega (arith, l, k)

      idles : (s : Stop) (held : Option Said) (p q : Place) → held ≡ None → Stands s held q → (s ≡ stop.Full → length q.cutting.unread < length p.cutting.unread) → Idles s p q
      idles stop.Need held p q h k l = rw h at k
      idles stop.Full held p q h k l = (rw h at k, l refl)
      idles stop.Quit held p q h k l = tt
      idles stop.TooLong held p q h k l = tt

  pub pass_unheard : (x : E) → Passing will m b c e e1 → Steps will m c d e1 e2 → FinishesAll will (Err x) d d' e2.updates.items e3.updates.items e2.out.items e3.out.items → Breaks m b d' (place_in e)
  pass_unheard x p y h = holding_breaks will m b d d' [] e2.out.items e2.updates.items (place_in e) (place_in e2) e2.stop e2.held h.1 (y.goes b [] (replies_from m (place_in e)) p.goes) h.2

  pub pass_stopped : (x : E) (updates' : List (PendingUpdate W)) → Passing will m b c e e1 → TakesStep will (Err x) m c d e1 e2 → LetsGo will d d' e2.updates.items updates' → Breaks m b d' (place_in e)
  pass_stopped x updates' p y h = breaks will m b d d' e2.updates.items (place_in e) h.1 (y b [] (replies_from m (place_in e)) p.goes) h.2

pub idle_written : {W : Type 0} (e e' : Exchange W) (s : Stop) → e'.held ≡ e.held → e'.updates ≡ e.updates → e'.told ≡ e.told → e'.out.items ≡ [] → e'.at ≡ 0 → IsAnswered s e → IsIdle e'
idle_written e e' s h u t o a i = record { none_held = h ∙ i.none_held; none_waits = ap (λ x. x.items) u ∙ i.none_waits; none_told = ap (λ x. x.items) t ∙ i.none_told; none_out = o; none_written = a }

-- ---- an update that waited is told
no_cons : {A : Type 0} (x : A) (xs ys : List A) → ys ≡ x ∷ xs → ys ≡ [] → ⊥
no_cons x xs ys e n = absurd (let z : x ∷ xs ≡ [] = sym e ∙ n in cc)

rest_of : {A : Type 0} (x : A) (xs ys : List A) → ys ≡ x ∷ xs → xs ≡ drop 1 ys
rest_of x xs ys e = rw e refl

module _ {W E : Type 0} (will : W → Result DeskReply E) (b c : Option (List Asked)) (e e1 : Exchange W) (l : PendingUpdate W) (is : e.updates.items ≡ l ∷ e1.updates.items) (g : LetsOneGo will l b c) where
  heard_parting : (a : Option (List Asked)) (front : List ℕ → List (Option DeskReply) → Out) → Parting will a b e.updates.items front → Parting will a c e1.updates.items front
  heard_parting a front k = parting_heard will a b c l e1.updates.items front (rw is at k) g

  heard_holding : e1.told.items ≡ e.told.items ++ (l.front.items ++ update_text l.noreply g.t) → e1.out ≡ e.out → (a : Option (List Asked)) (old : List ℕ) (front after : List ℕ → List (Option DeskReply) → Out)
      → Holding will a b (old ++ e.told.items) e.out.items e.updates.items front after → Holding will a c (old ++ e1.told.items) e1.out.items e1.updates.items front after
  heard_holding t o a old front after k =
      let first : Holding will a b (old ++ e.told.items) e.out.items (l ∷ e1.updates.items) front after = rw is at k in
      let on = holding_heard will a b c (old ++ e.told.items) e.out.items l e1.updates.items front after first g in
      rw (t, o, sym (append_assoc old e.told.items (l.front.items ++ update_text l.noreply g.t))) on

  joined_holding : (e' : Exchange W) (us : List (PendingUpdate W)) → e1.updates.items ≡ us → Joins {F = E} (Ok tt) e1 e' → (a : Option (List Asked)) (old : List ℕ) (front after : List ℕ → List (Option DeskReply) → Out)
      → Holding will a c (old ++ e1.told.items) e1.out.items e1.updates.items front after → Holding will a c (old ++ e'.told.items) e'.out.items e'.updates.items front after
  joined_holding e' [] n j a old front after k =
      let none : e'.updates.items ≡ [] = ap (λ x. x.items) j.updates ∙ n in
      let now : Holding will a c (old ++ e1.told.items) e1.out.items [] front after = rw n at k in
      rw none (holding_joined will a c old e1.told.items e1.out.items e'.told.items e'.out.items front after j.text now)
  joined_holding e' (u ∷ us) n j a old front after k = let same = j.waits (λ i. no_cons u us e1.updates.items n i) in rw (same.0, same.1, j.updates) k

  pub hears_joined : (e' : Exchange W) (r : Result (Unit {0}) E) → e1.told.items ≡ e.told.items ++ (l.front.items ++ update_text l.noreply g.t) → e1.out ≡ e.out → e1.reader ≡ e.reader → e1.held ≡ e.held → e1.stop ≡ e.stop → e1.at ≡ e.at → Joins r e1 e' → HearsNext will r b c e e'
  hears_joined e' (Ok u) t o rd h s p j = record {
    next = ap (λ x. x.items) j.updates ∙ rest_of l e1.updates.items e.updates.items is;
    holding = λ a old front after k. joined_holding e' e1.updates.items refl j a old front after (heard_holding t o a old front after k);
    parting = λ a front k. rw j.updates (heard_parting a front k);
    none = λ n. absurd (no_cons l e1.updates.items e.updates.items is n);
    none_told = λ before n. j.none_told (ap (λ x. x.items) (sym j.updates) ∙ n);
    kept = (j.kept.0 ∙ rd, j.kept.1 ∙ h, j.kept.2 ∙ s, j.kept.3 ∙ p);
  }
  hears_joined e' (Err x) t o rd h s p j = record {
    next = ap (λ x. x.items) j.updates ∙ rest_of l e1.updates.items e.updates.items is;
    holding = tt;
    parting = λ a front k. rw j.updates (heard_parting a front k);
    none = λ n. absurd (no_cons l e1.updates.items e.updates.items is n);
    none_told = tt;
    kept = (j.kept.0 ∙ rd, j.kept.1 ∙ h, j.kept.2 ∙ s, j.kept.3 ∙ p);
  }

  pub hears_unput : (x : E) → e1.reader ≡ e.reader → e1.held ≡ e.held → e1.stop ≡ e.stop → e1.at ≡ e.at → HearsNext will (Err x) b c e e1
  hears_unput x rd h s p = record {
    next = rest_of l e1.updates.items e.updates.items is;
    holding = tt;
    parting = heard_parting;
    none = λ n. absurd (no_cons l e1.updates.items e.updates.items is n);
    none_told = tt;
    kept = (rd, h, s, p);
  }
