-- Runs, one call longer and in parts.
use Rattle.std.proofs.Common.{◌≡◌, ℕ, List, [], ◌∷◌, ◌++◌, length, Bool, Option, Some, None, Result, Ok, Err, OnErr, inl, refl, sym, ap, subst, ◌∙◌, arith}
use Rattle.std.specs.Map.{lookup, set_value}
use Rattle.std.proofs.lemmas.Map.Steps.{set_value_same}
use Rattle.hk_snap.specs.Ends.{Reader}
use Rattle.hk_watch.specs.declared.watch.Watch.{Watch}
use Rattle.hk_watch.specs.declared.watcher.Notice.{Notice}
use Rattle.hk_watch.specs.declared.watcher.Seen.{Seen}
use Rattle.hk_watch.specs.declared.run.WatchCall.{WatchCall}
use Rattle.hk_watch.specs.Rising.{Makes, Runs, Stops, IsFurther, with_fired}

behind : (fired : Option Notice) (rest more : List Notice) → with_fired fired rest ++ more ≡ with_fired fired (rest ++ more)
behind None rest more = refl
behind (Some notice) rest more = refl

module _ {F : Type 0} (Told : F → ℕ → Seen → Notice → Type 0) where
  -- one more call
  runs_next : (calls : List (WatchCall F)) (c : WatchCall F) (before mid after : List (ℕ × Watch F)) (reader at read : Reader) (notices : List Notice) (fired : Option Notice) →
      Runs Told calls before reader notices mid at → Makes Told c mid at fired after read → Runs Told (calls ++ c ∷ []) before reader (notices ++ with_fired fired []) after read
  runs_next [] c before mid after reader at read notices fired (none, same, unread) made =
      let here : Makes Told c before at fired after read = subst (λ (m : List (ℕ × Watch F)). Makes Told c m at fired after read) same made in
      (fired, after, read, [], ap (λ (n : List Notice). n ++ with_fired fired []) none, subst (λ (a : Reader). Makes Told c before a fired after read) unread here, (refl, refl, refl))
  runs_next (d ∷ calls) c before mid after reader at read notices fired (first, next, between, rest, is, one, runs) made = (
    first,
    next,
    between,
    rest ++ with_fired fired [],
    ap (λ (n : List Notice). n ++ with_fired fired []) is ∙ behind first rest (with_fired fired []),
    one,
    runs_next calls c next mid after between at read rest fired runs made,
  )

  pub runs_on : (calls : List (WatchCall F)) (c : WatchCall F) (before mid after : List (ℕ × Watch F)) (reader at read : Reader) (notices more : List Notice) (fired : Option Notice) →
      Runs Told calls before reader notices mid at → Makes Told c mid at fired after read → more ≡ notices ++ with_fired fired [] → Runs Told (calls ++ c ∷ []) before reader more after read
  runs_on calls c before mid after reader at read notices more fired runs made is =
      subst (λ (n : List Notice). Runs Told (calls ++ c ∷ []) before reader n after read) (sym is) (runs_next calls c before mid after reader at read notices fired runs made)

  -- the call behind a front found no memory
  pub stopped : (front back calls : List (WatchCall F)) (before mid after : List (ℕ × Watch F)) (reader at read : Reader) (notices : List Notice) → front ++ back ≡ calls →
      Runs Told front before reader notices mid at → after ≡ mid → IsFurther at read → Stops Told calls before reader after read
  stopped front back calls before mid after reader at read notices parts runs same further =
      (front, back, at, notices, sym parts, subst (λ (m : List (ℕ × Watch F)). Runs Told front before reader notices m at) (sym same) runs, further)

  -- no call was made
  pub not_begun : (calls : List (WatchCall F)) (before : List (ℕ × Watch F)) (reader : Reader) → Stops Told calls before reader before reader
  not_begun calls before reader = ([], calls, reader, [], refl, (refl, refl, refl), inl refl)

  -- a run in two parts
  pub record Parts (front back : List (WatchCall F)) (before : List (ℕ × Watch F)) (reader : Reader) (notices : List Notice) (after : List (ℕ × Watch F)) (read : Reader) : Type 0 where
    pub first : List Notice
    pub later : List Notice
    pub is : notices ≡ first ++ later
    pub mid : List (ℕ × Watch F)
    pub at : Reader
    pub runs_front : Runs Told front before reader first mid at
    pub runs_back : Runs Told back mid at later after read

  pub in_parts : (front back : List (WatchCall F)) (before after : List (ℕ × Watch F)) (reader read : Reader) (notices : List Notice) →
      Runs Told (front ++ back) before reader notices after read → Parts front back before reader notices after read
  in_parts [] back before after reader read notices runs =
      record { first = []; later = notices; is = refl; mid = before; at = reader; runs_front = (refl, refl, refl); runs_back = runs }
  in_parts (c ∷ front) back before after reader read notices (fired, next, between, rest, is, one, runs) =
      let more = in_parts front back next after between read rest runs in
      record {
        first = with_fired fired more.first;
        later = more.later;
        is = is ∙ ap (λ (n : List Notice). with_fired fired n) more.is ∙ sym (behind fired more.first more.later);
        mid = more.mid;
        at = more.at;
        runs_front = (fired, next, between, more.first, refl, one, more.runs_front);
        runs_back = more.runs_back;
      }

pub nothing_left : {X : Type 0} (xs : List X) → length xs ≡ 0 → xs ≡ []
nothing_left [] h = refl
nothing_left (x ∷ xs) h = absurd (omega arith)

pub on_err : {A E P : Type 0} (r : Result A E) → P → OnErr r P
on_err (Ok a) p = tt
on_err (Err e) p = p

-- a value that is written back as it was
pub same_on_err : {A E X : Type 0} (r : Result A E) (test : ℕ → Bool) (before inside after : List (ℕ × X)) (old new : X) → inside ≡ before → lookup test inside ≡ Some old →
    after ≡ set_value test inside new → OnErr r (new ≡ old) → OnErr r (after ≡ before)
same_on_err (Ok a) test before inside after old new same found put kept = tt
same_on_err (Err e) test before inside after old new same found put kept = put ∙ (ap (set_value test inside) kept ∙ (set_value_same test inside old found ∙ same))
