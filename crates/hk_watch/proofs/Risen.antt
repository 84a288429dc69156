-- What a look tells is due, and leaves the watch caught up.
use Rattle.std.proofs.Common.{◌≡◌, inl, inr, ℕ, List, [], ◌∷◌, Bool, true, false, cond, Option, Some, None, Result, Ok, Err, IfOk, refl, sym, ap, subst, ◌∙◌, arith}
use Rattle.std.specs.Str.{bytes_eq}
use Rattle.std.proofs.lemmas.Bool.{false≢true, le-ltb, eq-eqb}
use Rattle.std.proofs.lemmas.Slice.Eq.{bytes_eq-Decides}
use Rattle.hk_base.specs.declared.memory.Memory.{Memory}
use Rattle.hk_base.specs.declared.stamp.Stamp.{Stamp}
use Rattle.hk_base.specs.declared.call.State.{State}
use Rattle.hk_base.specs.declared.call.State.TheVariants.{Valid, Invalid, Write, Replay, Trans}
use Rattle.hk_snap.specs.declared.rule.Publication.{Publication}
use Rattle.hk_snap.specs.declared.snapshot.Snapshot.{Snapshot}
use Rattle.hk_snap.specs.declared.snapshot.Glance.{Glance}
use Rattle.hk_snap.specs.Snapshots.{cell_of, glance_of, last_shown, snapshot_of, is_large}
use Rattle.hk_snap.specs.Ends.{Reader, seen_at}
use Rattle.hk_watch.specs.declared.look.Look.{Look}
use Rattle.hk_watch.specs.declared.look.Look.TheVariants.{Fired, Large, Old}
use Rattle.hk_watch.specs.declared.watch.Watch.{Watch}
use Rattle.hk_watch.specs.declared.watcher.Notice.{Notice}
use Rattle.hk_watch.specs.declared.watcher.Seen.{Seen}
use Rattle.hk_watch.specs.Looking.{is_above, look_of, look_row, look_whole, after_look, watch_at, IsLook}
use Rattle.hk_watch.specs.Rising.{Among, IsSeen, IsNotBehind, IsDue, IsRisen, IsTold, IsCaughtUp, Looks}

record Shown (ps : List Publication) (s : Snapshot) : Type 0 where
  pub published : Publication
  pub among : Among ps published
  pub is : snapshot_of published ≡ s

-- what is shown was published
last_published : (ps : List Publication) (s : Snapshot) → last_shown ps ≡ Some s → Shown ps s
last_published [] s is = absurd cc
last_published (p ∷ []) s is = record { published = p; among = inl refl; is = cc }
last_published (p ∷ q ∷ ps) s is =
    let more = last_published (q ∷ ps) s is in
    record { published = more.published; among = inr more.among; is = more.is }

-- no stamp is above itself
not_above_itself : (s : Stamp) → is_above s s ≡ false
not_above_itself s = rw (eq-eqb s.version s.version refl) (le-ltb s.node s.node (omega arith))

module _ {F : Type 0} (watch : ℕ) (kept : Watch F) (read : Reader) where
  -- a look is due, and leaves the watch caught up
  abbrev pub Fair : Look → Option Glance → Type 0
  Fair look shown = IsDue kept watch look read × IsNotBehind (after_look kept look).last shown

  module _ (s : Snapshot) where
    abbrev pub glance : Glance
    glance = record { state = s.state; stamp = s.stamp; is_large = is_large s.shape }

    by_stamp : (b : Bool) → is_above s.stamp kept.last ≡ b → IsSeen read kept.key s.stamp → Fair (cond b (Fired (record { watch = watch; stamp = s.stamp })) (Old s.stamp)) (Some glance)
    by_stamp true above seen = ((refl, above, seen), λ valid small. not_above_itself s.stamp)
    by_stamp false below seen = (tt, λ valid small. below)

    by_size : (b : Bool) → is_large s.shape ≡ b → IsSeen read kept.key s.stamp → Fair (cond b (Large s.stamp) (look_whole watch kept.last s.stamp)) (Some glance)
    by_size true large seen = (tt, λ valid small. absurd (false≢true (sym small ∙ large)))
    by_size false small seen = by_stamp (is_above s.stamp kept.last) refl seen

    by_state : (st : State) → s.state ≡ st → (s.state ≡ Valid → IsSeen read kept.key s.stamp) → Fair (look_row watch kept.last st (is_large s.shape) s.stamp) (Some glance)
    by_state Valid is seen = by_size (is_large s.shape) refl (seen is)
    by_state Invalid is seen = (tt, λ valid small. let both : Invalid ≡ Valid = sym is ∙ valid in absurd cc)
    by_state Write is seen = (tt, λ valid small. let both : Write ≡ Valid = sym is ∙ valid in absurd cc)
    by_state Replay is seen = (tt, λ valid small. let both : Replay ≡ Valid = sym is ∙ valid in absurd cc)
    by_state Trans is seen = (tt, λ valid small. let both : Trans ≡ Valid = sym is ∙ valid in absurd cc)

    seen_by : last_shown (seen_at read.ends (cell_of kept.key)) ≡ Some s → bytes_eq s.key kept.key ≡ true → s.state ≡ Valid → IsSeen read kept.key s.stamp
    seen_by is same valid =
        let last = last_published (seen_at read.ends (cell_of kept.key)) s is in
        record {
          published = last.published;
          among = last.among;
          key = ap (λ (t : Snapshot). t.key) last.is ∙ (bytes_eq-Decides s.key kept.key).0 same;
          valid = ap (λ (t : Snapshot). t.state) last.is ∙ valid;
          stamp = ap (λ (t : Snapshot). t.stamp) last.is;
        }

    by_key : (b : Bool) → bytes_eq s.key kept.key ≡ b → last_shown (seen_at read.ends (cell_of kept.key)) ≡ Some s →
        Fair (look_of watch kept.last (cond b (Some glance) None)) (cond b (Some glance) None)
    by_key true same is = by_state s.state refl (seen_by is same)
    by_key false apart is = (tt, tt)

  fair : (shown : Option Snapshot) → last_shown (seen_at read.ends (cell_of kept.key)) ≡ shown → Fair (look_of watch kept.last (glance_of shown kept.key)) (glance_of shown kept.key)
  fair None is = (tt, tt)
  fair (Some s) is = by_key s (bytes_eq s.key kept.key) refl is

module _ {F : Type 0} (watch : ℕ) (before after : List (ℕ × Watch F)) (reader read : Reader) where
  risen_at : (o : Option (Watch F)) (look : Look) → IsLook o watch look before reader after read → IsRisen o watch look read × IsCaughtUp o (watch_at after watch) read
  risen_at None look is = (tt, tt)
  risen_at (Some kept) look (loads, shown, is, now, others) =
      let both : Fair watch kept read look (glance_of read.shown kept.key) =
      subst (λ (l : Look). Fair watch kept read l (glance_of read.shown kept.key)) (sym is) (fair watch kept read read.shown (sym shown)) in
      (both.0, subst (λ (o : Option (Watch F)). IsCaughtUp (Some kept) o read) (sym now) both.1)

  pub looks_on : (Told : F → ℕ → Seen → Notice → Type 0) (r : Result Look Memory) → IfOk r (λ look. IsLook (watch_at before watch) watch look before reader after read) →
      IfOk r (λ look. IsTold Told (watch_at before watch) watch look read) → IfOk r (λ look. Looks Told watch look before reader after read)
  looks_on Told (Ok look) is told = let both = risen_at (watch_at before watch) look is in record { exact = is; risen = both.0; told = told; caught_up = both.1 }
  looks_on Told (Err m) is told = tt
