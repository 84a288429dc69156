-- A founding is made again.
use Rattle.std.proofs.Common.{◌≡◌, ◌⊎◌, ◌<◌, ◌≤◌, ◌+◌, ◌==◌, ◌&&◌, nat_lt, max, ℕ, zero, suc, Bool, true, false, cond, List, [], ◌∷◌, ◌++◌, length, take, get_or, set, replicate, Option, None, Some, refl, sym, ap, ◌∙◌, subst, inl, inr, arith}
use Rattle.std.specs.List.{list_all}
use Rattle.std.proofs.lemmas.Bool.{true≢false, eqb-true, eqb-false, eq-eqb, lt-ltb}
use Rattle.std.proofs.lemmas.List.{get_or-set_same, get_or-set_other, length-set}
use Rattle.hk_stage.specs.declared.stage.Stage.{Stage}
use Rattle.hk_stage.specs.declared.stage.Stage.TheVariants.{Empty, Founded, Open}
use Rattle.hk_stage.specs.declared.event.Board.{Board}
use Rattle.hk_stage.specs.declared.event.StageEvent.{StageEvent}
use Rattle.hk_stage.specs.declared.event.StageEvent.TheVariants as event
use Rattle.hk_stage.specs.declared.event.StageRefusal.{StageRefusal}
use Rattle.hk_stage.specs.declared.opening.TheConstants.{RESERVED_FOR}
use Rattle.hk_stage.specs.declared.opening.Opening.{Opening}
use Rattle.hk_stage.specs.declared.opening.OpeningStep.{OpeningStep}
use Rattle.hk_stage.specs.Stages.{is_open}
use Rattle.hk_stage.specs.Opening.{reserved_for, against, may_open, opens, only_itself, with_told, stepped, reserved, looked_unless, found_if, founded, told_to, ticked, heard, opened, opened_if_told, same}
use Rattle.hk_stage.specs.Laws.{after, told_all, Vouches, CanBeFoundedAnew}
use Rattle.hk_stage.proofs.Steps.{open_for_good}

-- ---- who told

pub all_true : (n : ℕ) (told : List Bool) → n ≤ length told → ((k : ℕ) → k < n → get_or told k false ≡ true) → list_all (λ t. t) (take n told) ≡ true
all_true zero told few each = refl
all_true (suc n) [] few each = absurd (omega (arith, few))
all_true (suc n) (t ∷ told) few each =
    let first : t ≡ true = each 0 (omega arith) in
    rw first (all_true n told (omega (arith, few)) (λ k below. each (suc k) (omega (arith, below))))

-- ---- an open manager stays so
open_after : (o : Opening) (f : ℕ) (events : List (ℕ × StageEvent)) → o.stage ≡ Open f → (after o events).stage ≡ Open f
open_after o f [] e = e
open_after o f (x ∷ events) e = open_after (stepped o x.0 x.1).opening f events (ap (λ (p : Opening). p.stage) (open_for_good o f x.0 x.1 e) ∙ e)

-- ---- a manager that is founded with f, and hears boards

pub record Waits (o : Opening) (f since managers : ℕ) : Type 0 where
  pub stage : o.stage ≡ Founded f
  pub free : o.reservation ≡ None
  pub from_then : o.since ≡ since
  pub many : o.managers ≡ managers
  pub nine : length o.told ≡ 9

may : (o : Opening) (f since managers now : ℕ) → Waits o f since managers → may_open o now ≡ Some f
may o f since managers now w = rw (w.stage, w.free) refl

-- each manager told it, or tells it by one of the boards
abbrev Each : Opening → ℕ → ℕ → ℕ → List (ℕ × Board) → Type 0
Each o f since managers boards = (k : ℕ) → k < managers → (get_or o.told k false ≡ true) ⊎ Vouches k f since boards

one_more : (told : List Bool) (k from : ℕ) → k < length told → (k ≡ from) ⊎ (get_or told k false ≡ true) → get_or (set told from true) k false ≡ true
one_more told k from few (inl is) = rw (← is) (get_or-set_same told k true false few)
one_more told k from few (inr e) = at (k == from) refl
  where
    at : (b : Bool) → (k == from) ≡ b → get_or (set told from true) k false ≡ true
    at true is = rw (← eqb-true k from is) (get_or-set_same told k true false few)
    at false is = get_or-set_other told from k true false (eqb-false k from is) ∙ e

-- whom the first board is of told it then; the others tell it by the boards that are left
told_later : (o : Opening) (f since managers : ℕ) (t : ℕ) (b : Board) (bs : List (ℕ × Board)) → length o.told ≡ 9 → managers ≤ 9 → Each o f since managers ((t, b) ∷ bs) →
    Each (with_told o b.from) f since managers bs
told_later o f since managers t b bs nine few each k below = by (each k below)
  where
    there : k < length o.told
    there = omega (arith, nine, few, below)

    by : (get_or o.told k false ≡ true) ⊎ Vouches k f since ((t, b) ∷ bs) → (get_or (set o.told b.from true) k false ≡ true) ⊎ Vouches k f since bs
    by (inl told) = inl (one_more o.told k b.from there (inr told))
    by (inr (inl v)) = inl (one_more o.told k b.from there (inl (sym v.0)))
    by (inr (inr later)) = inr later

-- a board that does not count leaves those that do among the others
passed_by : (o : Opening) (f since managers : ℕ) (t : ℕ) (b : Board) (bs : List (ℕ × Board)) → Each o f since managers ((t, b) ∷ bs) →
    ((b.stage ≡ Founded f) × (since < b.asked) → ⊥) → Each o f since managers bs
passed_by o f since managers t b bs each other k below = by (each k below)
  where
    by : (get_or o.told k false ≡ true) ⊎ Vouches k f since ((t, b) ∷ bs) → (get_or o.told k false ≡ true) ⊎ Vouches k f since bs
    by (inl told) = inl told
    by (inr (inl v)) = absurd (other (v.1, v.2))
    by (inr (inr later)) = inr later

module _ (f since managers : ℕ) (few : managers ≤ 9) where
  -- what comes then opens it
  abbrev Ends : List (ℕ × StageEvent) → Opening → Type 0
  Ends rest o = (after o rest).stage ≡ Open f

  by_one : (b : Bool) (step : OpeningStep) (rest : List (ℕ × StageEvent)) → (b ≡ false → Ends rest step.opening) → Ends rest (cond b (opened f step) step).opening
  by_one true step rest more = open_after (record step.opening { stage = Open f }) f rest refl
  by_one false step rest more = more refl

  heard_on : (o : Opening) (t : ℕ) (b : Board) (bs : List (ℕ × Board)) (rest : List (ℕ × StageEvent)) (stage : Stage) → b.stage ≡ stage →
      Waits o f since managers → Each o f since managers ((t, b) ∷ bs) → ((p : Opening) → Waits p f since managers → Each p f since managers bs → Ends rest p) →
      Ends rest (heard f o b stage).opening
  heard_on o t b bs rest Empty is w each more = more o w (passed_by o f since managers t b bs each (λ v. absurd (other_stage v.0)))
    where
      other_stage : b.stage ≡ Founded f → ⊥
      other_stage e = absurd cc
  heard_on o t b bs rest (Founded g) is w each more = at ((g == f) && nat_lt o.since b.asked) refl
    where
      counts : (b.stage ≡ Founded f) × (since < b.asked) → ((g == f) && nat_lt o.since b.asked) ≡ true
      counts v = let same : g ≡ f = cc in rw (eq-eqb g f same, w.from_then, lt-ltb since b.asked v.1) refl

      told : Waits (with_told o b.from) f since managers
      told = record { stage = w.stage; free = w.free; from_then = w.from_then; many = w.many; nine = length-set o.told b.from true ∙ w.nine }

      at : (s : Bool) → ((g == f) && nat_lt o.since b.asked) ≡ s → Ends rest (cond s (opened_if_told f (same (with_told o b.from) None)) (same o None)).opening
      at true e = by_one (opens (with_told o b.from)) (same (with_told o b.from) None) rest (λ _. more (with_told o b.from) told (told_later o f since managers t b bs w.nine few each))
      at false e = more o w (passed_by o f since managers t b bs each (λ v. absurd (true≢false (sym (counts v) ∙ e))))
  heard_on o t b bs rest (Open g) is w each more = by_one (g == f) (same o None) rest (λ _. more o w (passed_by o f since managers t b bs each (λ v. absurd (other_stage v.0))))
    where
      other_stage : b.stage ≡ Founded f → ⊥
      other_stage e = absurd cc

  all_told : (o : Opening) → Waits o f since managers → Each o f since managers [] → opens o ≡ true
  all_told o w each = rw w.many (all_true managers o.told (omega (arith, w.nine, few)) (λ k below. by k (each k below)))
    where
      by : (k : ℕ) → (get_or o.told k false ≡ true) ⊎ ⊥ → get_or o.told k false ≡ true
      by k (inl e) = e
      by k (inr v) = absurd v

  tick_on : (m : Option ℕ) (o : Opening) → m ≡ Some f → opens o ≡ true → (ticked m o).opening.stage ≡ Open f
  tick_on None o e all = absurd cc
  tick_on (Some g) o e all = let same : g ≡ f = cc in rw (all, same) refl

  told_on : (m : Option ℕ) (o : Opening) (b : Board) (rest : List (ℕ × StageEvent)) → m ≡ Some f → Ends rest (heard f o b b.stage).opening → Ends rest (told_to m o b).opening
  told_on None o b rest e more = absurd cc
  told_on (Some g) o b rest e more = let same : g ≡ f = cc in subst (λ (h : ℕ). Ends rest (heard h o b b.stage).opening) (sym same) more

  opens_on : (boards : List (ℕ × Board)) (tick : ℕ) (o : Opening) → Waits o f since managers → Each o f since managers boards → Ends (told_all boards ++ (tick, event.Tick) ∷ []) o
  opens_on [] tick o w each = tick_on (may_open o tick) o (may o f since managers tick w) (all_told o w each)
  opens_on ((t, b) ∷ bs) tick o w each =
      told_on (may_open o t) o b (told_all bs ++ (tick, event.Tick) ∷ []) (may o f since managers t w) (heard_on o t b bs (told_all bs ++ (tick, event.Tick) ∷ []) b.stage refl w each (opens_on bs tick))

-- ---- LOOK and FOUND before them

look_on : (x : Option StageRefusal) (o : Opening) (f look : ℕ) (rest : List (ℕ × StageEvent)) → x ≡ None → (after (reserved o look f) rest).stage ≡ Open f →
    (after (looked_unless x o look f).opening rest).stage ≡ Open f
look_on None o f look rest e more = more
look_on (Some x) o f look rest e more = absurd cc

found_on : (x : Option StageRefusal) (r : Option ℕ) (o : Opening) (f now : ℕ) (rest : List (ℕ × StageEvent)) → x ≡ None → r ≡ Some f → (after (founded o now f).opening rest).stage ≡ Open f →
    (after (found_if x r o now f).opening rest).stage ≡ Open f
found_on None (Some g) o f now rest e is more = more
found_on None None o f now rest e is more = absurd cc
found_on (Some x) r o f now rest e is more = absurd cc

none_against : (stage : Stage) (f : ℕ) → is_open stage ≡ false → against stage (Some f) f ≡ None
none_against Empty f shut = rw (eq-eqb f f refl) refl
none_against (Founded g) f shut = rw (eq-eqb f f refl) refl
none_against (Open g) f shut = absurd (true≢false shut)

still_reserved : (o : Opening) (f look now : ℕ) → now < look + RESERVED_FOR → reserved_for (reserved o look f) now ≡ Some f
still_reserved o f look now soon = rw (lt-ltb now (look + RESERVED_FOR) soon) refl

pub can_be_founded_anew : CanBeFoundedAnew
can_be_founded_anew o f look now tick boards shut few free soon vouched =
    look_on (against o.stage (reserved_for o look) f) o f look ((now, event.Found f) ∷ rest) free
    (found_on (against o.stage (reserved_for p now) f) (reserved_for p now) p f now rest stands is
    (by_one f since o.managers few (opens waiting) _ rest (λ _. opens_on f since o.managers few boards tick waiting waits each)))
  where
    rest : List (ℕ × StageEvent)
    rest = told_all boards ++ (tick, event.Tick) ∷ []

    p : Opening
    p = reserved o look f

    since : ℕ
    since = max now o.ready

    waiting : Opening
    waiting = record o { stage = Founded f; reservation = None; since = max now o.ready; told = only_itself o.place }

    is : reserved_for (reserved o look f) now ≡ Some f
    is = still_reserved o f look now soon

    stands : against o.stage (reserved_for (reserved o look f) now) f ≡ None
    stands = rw (still_reserved o f look now soon) (none_against o.stage f shut)

    waits : Waits (record o { stage = Founded f; reservation = None; since = max now o.ready; told = only_itself o.place }) f (max now o.ready) o.managers
    waits = record { stage = refl; free = refl; from_then = refl; many = refl; nine = length-set (replicate 9 false) o.place true }

    each : (k : ℕ) → k < o.managers → (get_or (only_itself o.place) k false ≡ true) ⊎ Vouches k f (max now o.ready) boards
    each k below = at (k == o.place) refl
      where
        at : (b : Bool) → (k == o.place) ≡ b → (get_or (only_itself o.place) k false ≡ true) ⊎ Vouches k f (max now o.ready) boards
        at true same = inl (one_more (replicate 9 false) k o.place (omega (arith, few, below)) (inl (eqb-true k o.place same)))
        at false other = inr (vouched k below (eqb-false k o.place other))
