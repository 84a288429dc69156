-- The laws of one step.
use Rattle.std.proofs.Common.{◌≡◌, ◌==◌, ◌&&◌, nat_lt, ℕ, Bool, true, false, cond, Option, None, Some, refl, sym, ap, ◌∙◌}
use Rattle.std.proofs.lemmas.Bool.{false≢true, eqb-true, ltb-true}
use Rattle.hk_stage.specs.declared.stage.Stage.{Stage}
use Rattle.hk_stage.specs.declared.stage.Stage.TheVariants.{Empty, Founded, Open}
use Rattle.hk_stage.specs.declared.event.Board.{Board}
use Rattle.hk_stage.specs.declared.event.StageEvent.TheVariants as event
use Rattle.hk_stage.specs.declared.event.StageRefusal.{StageRefusal}
use Rattle.hk_stage.specs.declared.opening.Opening.{Opening}
use Rattle.hk_stage.specs.declared.opening.OpeningStep.{OpeningStep}
use Rattle.hk_stage.specs.Stages.{is_open}
use Rattle.hk_stage.specs.Opening.{reserved_for, against, rival, may_open, may_open_by, opens, only_itself, with_told, looked_unless, found_if, told_to, ticked, heard, opened, opened_if_told, same}
use Rattle.hk_stage.specs.Laws.{OpenForGood, OpensBy, OpensByItsOwn, FoundWhileReserved, LogTellsTheStage, logged_stage, founded_by}

-- ---- an open manager
looks : (stage : Stage) (reserved : Option ℕ) (o : Opening) (now g f : ℕ) → stage ≡ Open f → (looked_unless (against stage reserved g) o now g).opening ≡ o
looks Empty reserved o now g f e = absurd cc
looks (Founded h) reserved o now g f e = absurd cc
looks (Open h) reserved o now g f e = refl

finds : (stage : Stage) (reserved : Option ℕ) (o : Opening) (now g f : ℕ) → stage ≡ Open f → (found_if (against stage reserved g) reserved o now g).opening ≡ o
finds Empty reserved o now g f e = absurd cc
finds (Founded h) reserved o now g f e = absurd cc
finds (Open h) reserved o now g f e = refl

hears : (stage : Stage) (reserved : Option ℕ) (o : Opening) (b : Board) (f : ℕ) → stage ≡ Open f → (told_to (may_open_by stage reserved) o b).opening ≡ o
hears Empty reserved o b f e = absurd cc
hears (Founded h) reserved o b f e = absurd cc
hears (Open h) reserved o b f e = refl

ticks : (stage : Stage) (reserved : Option ℕ) (o : Opening) (f : ℕ) → stage ≡ Open f → (ticked (may_open_by stage reserved) o).opening ≡ o
ticks Empty reserved o f e = absurd cc
ticks (Founded h) reserved o f e = absurd cc
ticks (Open h) reserved o f e = refl

pub open_for_good : OpenForGood
open_for_good o f now (event.Look g) e = looks o.stage (reserved_for o now) o now g f e
open_for_good o f now (event.Found g) e = finds o.stage (reserved_for o now) o now g f e
open_for_good o f now (event.Told b) e = hears o.stage (reserved_for o now) o b f e
open_for_good o f now event.Tick e = ticks o.stage (reserved_for o now) o f e

-- ---- what FOUND has passed

pub no_rival : (h g : ℕ) → rival (Some h) g ≡ None → h ≡ g
no_rival h g e = at (h == g) refl e
  where
    at : (b : Bool) → (h == g) ≡ b → cond b None (Some StageRefusal.AnotherInit) ≡ None → h ≡ g
    at true same n = eqb-true h g same
    at false other n = absurd cc

pub not_against : (stage : Stage) (h g : ℕ) → against stage (Some h) g ≡ None → h ≡ g
not_against Empty h g e = no_rival h g e
not_against (Founded f) h g e = no_rival h g e
not_against (Open f) h g e = absurd cc

-- ---- opening

-- an open stage is no other one
never : {G : Type 0} (stage : Stage) (f : ℕ) → is_open stage ≡ false → stage ≡ Open f → G
never stage f shut e = absurd (false≢true (sym shut ∙ ap is_open e))

look_stage : (x : Option StageRefusal) (o : Opening) (now g : ℕ) → (looked_unless x o now g).opening.stage ≡ o.stage
look_stage None o now g = refl
look_stage (Some x) o now g = refl

-- it is open only where all told
told_first : (b : Bool) (step : OpeningStep) (f g : ℕ) → is_open step.opening.stage ≡ false → (cond b (opened g step) step).opening.stage ≡ Open f → (g ≡ f) × (b ≡ true)
told_first true step f g shut e = (cc, refl)
told_first false step f g shut e = never step.opening.stage f shut e

pub may_is : (stage : Stage) (reserved : Option ℕ) (g : ℕ) → may_open_by stage reserved ≡ Some g → stage ≡ Founded g
may_is Empty reserved g e = absurd cc
may_is (Founded h) None g e = cc
may_is (Founded h) (Some r) g e = absurd cc
may_is (Open h) reserved g e = absurd cc

found_opens : (x : Option StageRefusal) (reserved : Option ℕ) (o : Opening) (now g f : ℕ) → against o.stage reserved g ≡ x → is_open o.stage ≡ false →
    (found_if x reserved o now g).opening.stage ≡ Open f → (g ≡ f) × (reserved ≡ Some f) × (opens (record o { told = only_itself o.place }) ≡ true)
found_opens (Some x) reserved o now g f a shut e = never o.stage f shut e
found_opens None None o now g f a shut e = never o.stage f shut e
found_opens None (Some h) o now g f a shut e =
    let one = told_first (opens (record o { told = only_itself o.place })) _ f g refl e in
    let own = not_against o.stage h g a in
    (one.0, ap Some (own ∙ one.0), one.1)

both_hold : (a b : Bool) → (a && b) ≡ true → (a ≡ true) × (b ≡ true)
both_hold true b e = (refl, e)
both_hold false b e = absurd cc

heard_opens : (o : Opening) (f g : ℕ) (b : Board) (stage : Stage) → is_open o.stage ≡ false → (heard g o b stage).opening.stage ≡ Open f → (g ≡ f) × OpensBy o f b stage
heard_opens o f g b Empty shut e = never o.stage f shut e
heard_opens o f g b (Founded h) shut e = at ((h == g) && nat_lt o.since b.asked) refl e
  where
    at : (t : Bool) → ((h == g) && nat_lt o.since b.asked) ≡ t → (cond t (opened_if_told g (same (with_told o b.from) None)) (same o None)).opening.stage ≡ Open f →
        (g ≡ f) × OpensBy o f b (Founded h)
    at true is e =
        let parts = both_hold (h == g) (nat_lt o.since b.asked) is in
        let one = told_first (opens (with_told o b.from)) (same (with_told o b.from) None) f g shut e in
        (one.0, (eqb-true h g parts.0 ∙ one.0, ltb-true o.since b.asked parts.1, one.1))
    at false is e = never o.stage f shut e
heard_opens o f g b (Open h) shut e = at (h == g) refl e
  where
    at : (t : Bool) → (h == g) ≡ t → (cond t (opened g (same o None)) (same o None)).opening.stage ≡ Open f → (g ≡ f) × (h ≡ f)
    at true is e = let own : g ≡ f = cc in (own, eqb-true h g is ∙ own)
    at false is e = never o.stage f shut e

told_opens : (m : Option ℕ) (o : Opening) (f : ℕ) (b : Board) → is_open o.stage ≡ false → (told_to m o b).opening.stage ≡ Open f → (m ≡ Some f) × OpensBy o f b b.stage
told_opens None o f b shut e = never o.stage f shut e
told_opens (Some g) o f b shut e = let h = heard_opens o f g b b.stage shut e in (ap Some h.0, h.1)

tick_opens : (m : Option ℕ) (o : Opening) (f : ℕ) → is_open o.stage ≡ false → (ticked m o).opening.stage ≡ Open f → (m ≡ Some f) × (opens o ≡ true)
tick_opens None o f shut e = never o.stage f shut e
tick_opens (Some g) o f shut e = let one = told_first (opens o) (same o None) f g shut e in (ap Some one.0, one.1)

pub opens_by_its_own : OpensByItsOwn
opens_by_its_own o f now (event.Look g) shut e = never o.stage f shut (sym (look_stage (against o.stage (reserved_for o now) g) o now g) ∙ e)
opens_by_its_own o f now (event.Found g) shut e = found_opens (against o.stage (reserved_for o now) g) (reserved_for o now) o now g f refl shut e
opens_by_its_own o f now (event.Told b) shut e = told_opens (may_open o now) o f b shut e
opens_by_its_own o f now event.Tick shut e = tick_opens (may_open o now) o f shut e

-- ---- what is logged

look_logs : (x : Option StageRefusal) (o : Opening) (now g : ℕ) → (looked_unless x o now g).logged.founded ≡ None
look_logs None o now g = refl
look_logs (Some x) o now g = refl

opened_logs : (b : Bool) (step : OpeningStep) (f : ℕ) → (cond b (opened f step) step).logged.founded ≡ step.logged.founded
opened_logs true step f = refl
opened_logs false step f = refl

found_logs : (x : Option StageRefusal) (reserved : Option ℕ) (o : Opening) (now g f : ℕ) → against o.stage reserved g ≡ x →
    (found_if x reserved o now g).logged.founded ≡ Some f → (g ≡ f) × (reserved ≡ Some f)
found_logs (Some x) reserved o now g f a e = absurd cc
found_logs None None o now g f a e = absurd cc
found_logs None (Some h) o now g f a e =
    let own = not_against o.stage h g a in
    let is : Some g ≡ Some f = sym (opened_logs (opens (record o { told = only_itself o.place })) _ g) ∙ e in
    let one : g ≡ f = cc in
    (one, ap Some (own ∙ one))

heard_logs : (o : Opening) (g : ℕ) (b : Board) (stage : Stage) → (heard g o b stage).logged.founded ≡ None
heard_logs o g b Empty = refl
heard_logs o g b (Founded h) = at ((h == g) && nat_lt o.since b.asked)
  where
    at : (t : Bool) → (cond t (opened_if_told g (same (with_told o b.from) None)) (same o None)).logged.founded ≡ None
    at true = opened_logs (opens (with_told o b.from)) (same (with_told o b.from) None) g
    at false = refl
heard_logs o g b (Open h) = opened_logs (h == g) (same o None) g

told_logs : (m : Option ℕ) (o : Opening) (b : Board) → (told_to m o b).logged.founded ≡ None
told_logs None o b = refl
told_logs (Some g) o b = heard_logs o g b b.stage

tick_logs : (m : Option ℕ) (o : Opening) → (ticked m o).logged.founded ≡ None
tick_logs None o = refl
tick_logs (Some g) o = opened_logs (opens o) (same o None) g

none_not : {G : Type 0} (x : Option ℕ) (f : ℕ) → x ≡ None → x ≡ Some f → G
none_not x f n e = absurd cc

pub found_while_reserved : FoundWhileReserved
found_while_reserved o f now (event.Look g) e = none_not _ f (look_logs (against o.stage (reserved_for o now) g) o now g) e
found_while_reserved o f now (event.Found g) e = let one = found_logs (against o.stage (reserved_for o now) g) (reserved_for o now) o now g f refl e in (ap event.Found one.0, one.1)
found_while_reserved o f now (event.Told b) e = none_not _ f (told_logs (may_open o now) o b) e
found_while_reserved o f now event.Tick e = none_not _ f (tick_logs (may_open o now) o) e

-- ---- the log tells the stage

look_tells : (x : Option StageRefusal) (o : Opening) (now g : ℕ) → (looked_unless x o now g).opening.stage ≡ logged_stage o.stage (looked_unless x o now g).logged
look_tells None o now g = refl
look_tells (Some x) o now g = refl

opened_tells : (b : Bool) (step : OpeningStep) (stage : Stage) (f : ℕ) → step.logged.opened ≡ false → founded_by stage step.logged.founded ≡ Founded f → step.opening.stage ≡ Founded f →
    (cond b (opened f step) step).opening.stage ≡ logged_stage stage (cond b (opened f step) step).logged
opened_tells true step stage f not_yet by is = rw by refl
opened_tells false step stage f not_yet by is = rw (not_yet, by) is

found_tells : (x : Option StageRefusal) (reserved : Option ℕ) (o : Opening) (now g : ℕ) → (found_if x reserved o now g).opening.stage ≡ logged_stage o.stage (found_if x reserved o now g).logged
found_tells (Some x) reserved o now g = refl
found_tells None None o now g = refl
found_tells None (Some h) o now g = opened_tells (opens (record o { told = only_itself o.place })) _ o.stage g refl refl refl

heard_tells : (o : Opening) (g : ℕ) (b : Board) (stage : Stage) → o.stage ≡ Founded g → (heard g o b stage).opening.stage ≡ logged_stage o.stage (heard g o b stage).logged
heard_tells o g b Empty is = refl
heard_tells o g b (Founded h) is = at ((h == g) && nat_lt o.since b.asked)
  where
    at : (t : Bool) → (cond t (opened_if_told g (same (with_told o b.from) None)) (same o None)).opening.stage ≡
        logged_stage o.stage (cond t (opened_if_told g (same (with_told o b.from) None)) (same o None)).logged
    at true = opened_tells (opens (with_told o b.from)) (same (with_told o b.from) None) o.stage g refl is is
    at false = refl
heard_tells o g b (Open h) is = opened_tells (h == g) (same o None) o.stage g refl is is

told_tells : (m : Option ℕ) (o : Opening) (b : Board) → ((g : ℕ) → m ≡ Some g → o.stage ≡ Founded g) → (told_to m o b).opening.stage ≡ logged_stage o.stage (told_to m o b).logged
told_tells None o b is = refl
told_tells (Some g) o b is = heard_tells o g b b.stage (is g refl)

tick_tells : (m : Option ℕ) (o : Opening) → ((g : ℕ) → m ≡ Some g → o.stage ≡ Founded g) → (ticked m o).opening.stage ≡ logged_stage o.stage (ticked m o).logged
tick_tells None o is = refl
tick_tells (Some g) o is = opened_tells (opens o) (same o None) o.stage g refl (is g refl) (is g refl)

pub log_tells : LogTellsTheStage
log_tells o now (event.Look g) = look_tells (against o.stage (reserved_for o now) g) o now g
log_tells o now (event.Found g) = found_tells (against o.stage (reserved_for o now) g) (reserved_for o now) o now g
log_tells o now (event.Told b) = told_tells (may_open o now) o b (λ g e. may_is o.stage (reserved_for o now) g e)
log_tells o now event.Tick = tick_tells (may_open o now) o (λ g e. may_is o.stage (reserved_for o now) g e)
