-- Over calls that don't end it a watch rises.
use Rattle.std.proofs.Common.{◌≡◌, ◌≢◌, ◌⊎◌, inl, inr, ℕ, List, [], ◌∷◌, ◌++◌, true, Option, Some, None, unwrap_or, refl, sym, ap, subst, ◌∙◌}
use Rattle.std.proofs.lemmas.Bool.{cases_eq, eq-eqb, ne_eqb}
use Rattle.hk_base.specs.declared.stamp.Stamp.{Stamp}
use Rattle.hk_snap.specs.Ends.{Reader}
use Rattle.hk_watch.specs.declared.look.Look.{Look}
use Rattle.hk_watch.specs.declared.look.Look.TheVariants.{Fired, NoWatch, Elsewhere, Open, Large, Old}
use Rattle.hk_watch.specs.declared.watch.Watch.{Watch}
use Rattle.hk_watch.specs.declared.watcher.Notice.{Notice}
use Rattle.hk_watch.specs.declared.watcher.Seen.{Seen}
use Rattle.hk_watch.specs.declared.run.WatchCall.{WatchCall}
use Rattle.hk_watch.specs.declared.run.WatchCall.TheVariants as call
use Rattle.hk_watch.specs.Looking.{is_above, after_look, watch_at, IsLook}
use Rattle.hk_watch.specs.Rising.{IsDue, IsRisen, notice_of, with_fired, Makes, Runs, stamps_of, Rising, last_of, NeverEnds, Rises, AreRising}
use Rattle.hk_watch.proofs.Running.{in_parts}

mine : (watch : ℕ) (n : Notice) (rest : List Notice) → n.watch ≡ watch → stamps_of watch (n ∷ rest) ≡ n.stamp ∷ stamps_of watch rest
mine watch n rest same = rw (eq-eqb n.watch watch same) refl

others : (watch : ℕ) (n : Notice) (rest : List Notice) → n.watch ≢ watch → stamps_of watch (n ∷ rest) ≡ stamps_of watch rest
others watch n rest apart = rw (ne_eqb n.watch watch apart) refl

module _ {F : Type 0} (Told : F → ℕ → Seen → Notice → Type 0) (watch : ℕ) where
  -- what one call did to a watch: nothing, or it was told one stamp
  abbrev Stays : Watch F → Option Notice → List (ℕ × Watch F) → Type 0
  Stays kept fired next = (watch_at next watch ≡ Some kept) × ((rest : List Notice) → stamps_of watch (with_fired fired rest) ≡ stamps_of watch rest)

  abbrev Climbs : Watch F → Option Notice → List (ℕ × Watch F) → Type 0
  Climbs kept fired next = (s : Stamp) × (watch_at next watch ≡ Some (record { key = kept.key; last = s; done = kept.done })) × (is_above s kept.last ≡ true)
      × ((rest : List Notice) → stamps_of watch (with_fired fired rest) ≡ s ∷ stamps_of watch rest)

  -- its own look
  own_look : (kept : Watch F) (look : Look) (next : List (ℕ × Watch F)) (read : Reader) → watch_at next watch ≡ Some (after_look kept look) → IsDue kept watch look read →
      Stays kept (notice_of look) next ⊎ Climbs kept (notice_of look) next
  own_look kept (Fired n) next read now (same, above, seen) = inr (n.stamp, now, above, λ rest. mine watch n rest same)
  own_look kept NoWatch next read now due = inl (now, λ rest. refl)
  own_look kept Elsewhere next read now due = inl (now, λ rest. refl)
  own_look kept (Open stamp) next read now due = inl (now, λ rest. refl)
  own_look kept (Large stamp) next read now due = inl (now, λ rest. refl)
  own_look kept (Old stamp) next read now due = inl (now, λ rest. refl)

  -- a look of another watch
  passed : (other : ℕ) (w : Watch F) (look : Look) (read : Reader) → other ≢ watch → IsDue w other look read → (rest : List Notice) →
      stamps_of watch (with_fired (notice_of look) rest) ≡ stamps_of watch rest
  passed other w (Fired n) read apart (same, above, seen) rest = others watch n rest (λ e. apart (sym same ∙ e))
  passed other w NoWatch read apart due rest = refl
  passed other w Elsewhere read apart due rest = refl
  passed other w (Open stamp) read apart due rest = refl
  passed other w (Large stamp) read apart due rest = refl
  passed other w (Old stamp) read apart due rest = refl

  other_look : (other : ℕ) (o : Option (Watch F)) (kept : Watch F) (look : Look) (before next : List (ℕ × Watch F)) (reader read : Reader) → other ≢ watch →
      watch_at before watch ≡ Some kept → IsLook o other look before reader next read → IsRisen o other look read → Stays kept (notice_of look) next
  other_look other None kept look before next reader read apart at (is, same, unread) due =
      (ap (λ (w : List (ℕ × Watch F)). watch_at w watch) same ∙ at, λ rest. ap (λ (l : Look). stamps_of watch (with_fired (notice_of l) rest)) is)
  other_look other (Some w) kept look before next reader read apart at (loads, shown, is, now, unchanged) due =
      (unchanged watch (λ e. apart (sym e)) ∙ at, λ rest. passed other w look read apart due rest)

  own_look_of : (o : Option (Watch F)) (kept : Watch F) (look : Look) (before next : List (ℕ × Watch F)) (reader read : Reader) → o ≡ Some kept →
      IsLook o watch look before reader next read → IsRisen o watch look read → Stays kept (notice_of look) next ⊎ Climbs kept (notice_of look) next
  own_look_of None kept look before next reader read at is due = absurd cc
  own_look_of (Some w) kept look before next reader read at (loads, shown, is, now, unchanged) due =
      let same : w ≡ kept = cc in
      subst (λ (k : Watch F). Stays k (notice_of look) next ⊎ Climbs k (notice_of look) next) same (own_look w look next read now due)

  quiet : (kept : Watch F) (fired : Option Notice) (next : List (ℕ × Watch F)) → fired ≡ None → watch_at next watch ≡ Some kept → Stays kept fired next ⊎ Climbs kept fired next
  quiet kept fired next none at = inl (at, λ rest. ap (λ (f : Option Notice). stamps_of watch (with_fired f rest)) none)

  one_call : (c : WatchCall F) (kept : Watch F) (before next : List (ℕ × Watch F)) (reader read : Reader) (fired : Option Notice) → watch_at before watch ≡ Some kept →
      NeverEnds watch (c ∷ []) → Makes Told c before reader fired next read → Stays kept fired next ⊎ Climbs kept fired next
  one_call (call.Watch other key from done) kept before next reader read fired at never (none, unread, (now, unchanged)) = go (cases_eq other watch)
    where
      go : (other ≡ watch) ⊎ (other ≡ watch → ⊥) → Stays kept fired next ⊎ Climbs kept fired next
      go (inl same) =
          let was : watch_at before other ≡ Some kept = ap (λ (n : ℕ). watch_at before n) same ∙ at in
          let still : watch_at next other ≡ Some kept = now ∙ ap (λ (o : Option (Watch F)). Some (unwrap_or o (record { key = key; last = from; done = done }))) was in
          quiet kept fired next none (ap (λ (n : ℕ). watch_at next n) (sym same) ∙ still)
      go (inr apart) = quiet kept fired next none (unchanged watch (λ e. apart (sym e)) ∙ at)
  one_call (call.End other) kept before next reader read fired at never (none, unread, now, unchanged) =
      quiet kept fired next none (unchanged watch (λ e. never.0 (sym e)) ∙ at)
  one_call (call.Look other) kept before next reader read fired at never (look, is, looks) = go (cases_eq other watch)
    where
      go : (other ≡ watch) ⊎ (other ≡ watch → ⊥) → Stays kept fired next ⊎ Climbs kept fired next
      go (inl same) =
          let own : IsLook (watch_at before watch) watch look before reader next read = subst (λ (n : ℕ). IsLook (watch_at before n) n look before reader next read) same looks.exact in
          let due : IsRisen (watch_at before watch) watch look read = subst (λ (n : ℕ). IsRisen (watch_at before n) n look read) same looks.risen in
          subst (λ (f : Option Notice). Stays kept f next ⊎ Climbs kept f next) (sym is) (own_look_of (watch_at before watch) kept look before next reader read at own due)
      go (inr apart) =
          subst (λ (f : Option Notice). Stays kept f next ⊎ Climbs kept f next) (sym is) (inl (other_look other (watch_at before other) kept look before next reader read apart at looks.exact looks.risen))

  never_first : (c : WatchCall F) (calls : List (WatchCall F)) → NeverEnds watch (c ∷ calls) → NeverEnds watch (c ∷ []) × NeverEnds watch calls
  never_first (call.Watch other key from done) calls never = (tt, never)
  never_first (call.End other) calls never = ((never.0, tt), never.1)
  never_first (call.Look other) calls never = (tt, never)

  then_rises : (kept : Watch F) (fired : Option Notice) (next after : List (ℕ × Watch F)) (notices rest : List Notice) → notices ≡ with_fired fired rest →
      Stays kept fired next ⊎ Climbs kept fired next → ((k : Watch F) → watch_at next watch ≡ Some k → Rises watch k rest after) → Rises watch kept notices after
  then_rises kept fired next after notices rest is (inl (at, same)) later =
      let more = later kept at in
      let all : stamps_of watch notices ≡ stamps_of watch rest = ap (stamps_of watch) is ∙ same rest in
      record {
        now = more.now;
        is_kept = more.is_kept;
        key = more.key;
        done = more.done;
        rising = subst (Rising kept.last) (sym all) more.rising;
        last = more.last ∙ ap (last_of kept.last) (sym all);
      }
  then_rises kept fired next after notices rest is (inr (s, at, above, told)) later =
      let more = later (record { key = kept.key; last = s; done = kept.done }) at in
      let all : stamps_of watch notices ≡ s ∷ stamps_of watch rest = ap (stamps_of watch) is ∙ told rest in
      record {
        now = more.now;
        is_kept = more.is_kept;
        key = more.key;
        done = more.done;
        rising = subst (Rising kept.last) (sym all) (above, more.rising);
        last = more.last ∙ ap (last_of kept.last) (sym all);
      }

  pub rises : (calls : List (WatchCall F)) (kept : Watch F) (before after : List (ℕ × Watch F)) (reader read : Reader) (notices : List Notice) → watch_at before watch ≡ Some kept →
      NeverEnds watch calls → Runs Told calls before reader notices after read → Rises watch kept notices after
  rises [] kept before after reader read notices at never (none, same, unread) =
      let all : stamps_of watch notices ≡ [] = ap (stamps_of watch) none in
      record {
        now = kept;
        is_kept = ap (λ (w : List (ℕ × Watch F)). watch_at w watch) same ∙ at;
        key = refl;
        done = refl;
        rising = subst (Rising kept.last) (sym all) tt;
        last = ap (last_of kept.last) (sym all);
      }
  rises (c ∷ calls) kept before after reader read notices at never (fired, next, between, rest, is, made, runs) =
      let parts = never_first c calls never in
      then_rises kept fired next after notices rest is (one_call c kept before next reader between fired at parts.0 made)
      (λ k here. rises calls k next after between read rest here parts.1 runs)

-- each stretch of a run
pub are_rising : {F : Type 0} (Told : F → ℕ → Seen → Notice → Type 0) (calls : List (WatchCall F)) (before after : List (ℕ × Watch F)) (reader read : Reader) (notices : List Notice) →
    Runs Told calls before reader notices after read → AreRising Told calls before reader notices
are_rising {F} Told calls before after reader read notices runs front some back is =
    let all : Runs Told (front ++ (some ++ back)) before reader notices after read = subst (λ (c : List (WatchCall F)). Runs Told c before reader notices after read) is runs in
    let whole = in_parts Told front (some ++ back) before after reader read notices all in
    let rest = in_parts Told some back whole.mid after whole.at read whole.later whole.runs_back in
    record {
      first = whole.first;
      fired = rest.first;
      later = rest.later;
      parts = whole.is ∙ ap (λ (n : List Notice). whole.first ++ n) rest.is;
      begins = whole.mid;
      begin_read = whole.at;
      ends = rest.mid;
      end_read = rest.at;
      runs_front = whole.runs_front;
      runs = rest.runs_front;
      rises = λ watch kept at never. rises Told watch some kept whole.mid rest.mid whole.at rest.at rest.first at never rest.runs_front;
    }
