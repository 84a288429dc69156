-- Never are two managers open with different foundings.
--
-- A manager has *word* of another where that one told its founding by a board that it asked for since it was founded so. Two managers with different foundings
-- never have word of each other: the later of their two foundings came before the later word, and by then the other one had been founded otherwise.
use Rattle.std.proofs.Common.{◌≡◌, ◌≢◌, ◌⊎◌, ◌<◌, ◌≤◌, ◌+◌, ◌==◌, ◌&&◌, nat_lt, max, ℕ, zero, suc, Bool, true, false, cond, List, [], ◌∷◌, length, take, get_or, set, replicate, Option, None, Some, refl, sym, ap, ◌∙◌, subst, inl, inr, le_refl, arith}
use Rattle.std.specs.List.{list_all}
use Rattle.std.proofs.lemmas.Bool.{true≢false, eqb-true, eqb-false, eq-eqb, ne_eqb, ltb-true}
use Rattle.std.proofs.lemmas.List.{get_or-set_other, length-set}
use Rattle.std.proofs.lemmas.Grind.{common_steps}
use Rattle.hk_stage.specs.declared.stage.Stage.{Stage}
use Rattle.hk_stage.specs.declared.stage.Stage.TheVariants.{Empty, Founded, Open}
use Rattle.hk_stage.specs.declared.event.Board.{Board}
use Rattle.hk_stage.specs.declared.event.StageEvent.{StageEvent}
use Rattle.hk_stage.specs.declared.event.StageEvent.TheVariants as event
use Rattle.hk_stage.specs.declared.event.StageRefusal.{StageRefusal}
use Rattle.hk_stage.specs.declared.event.StageAnswer.{StageAnswer}
use Rattle.hk_stage.specs.declared.opening.Opening.{Opening}
use Rattle.hk_stage.specs.declared.opening.OpeningStep.{OpeningStep}
use Rattle.hk_stage.specs.Opening.{begun, shown, shown_by, reserved_for, against, may_open, opens, only_itself, with_told, stepped, reserved, looked_unless, found_if, told_to, ticked, heard, opened, opened_if_told, same}
use Rattle.hk_stage.specs.Group.{Sent, Group, Event, put, In, board_of, next, WasTold, MayHappen, IsRun, last, start, NeverTwo, Vouched, OpenMeansAllFounded}
use Rattle.hk_stage.specs.Group.Event.{Step, Tell, Restart}
use Rattle.hk_stage.proofs.Steps.{may_is}

abbrev founding : Stage → Option ℕ
founding Empty = None
founding (Founded f) = Some f
founding (Open f) = Some f

module _ (managers : ℕ) where
  -- every other manager of the group passes
  abbrev Others : ℕ → (ℕ → Bool) → Type 0
  Others m has = (b : ℕ) → b < managers → b ≢ m → has b ≡ true

  -- Some manager is open with f that has word of all others. It is the first one that opened.
  pub record First (g : Group) (word : ℕ → ℕ → Bool) (f : ℕ) : Type 0 where
    pub who : ℕ
    pub known : who < managers
    pub is : (g.manager who).stage ≡ Open f
    pub all : Others who (word who)

  -- what is known of a board on its way
  pub record OnItsWay (g : Group) (word : ℕ → ℕ → Bool) (s : Sent) : Type 0 where
    pub to : s.to < managers
    pub from : s.board.from < managers
    pub other : s.board.from ≢ s.to
    pub life : s.life ≤ g.life s.to
    pub asked : s.life ≡ g.life s.to → s.board.asked ≤ g.clock s.to
    pub counts : (f : ℕ) → s.life ≡ g.life s.to → s.board.stage ≡ Founded f → founding (g.manager s.to).stage ≡ Some f → (g.manager s.to).since < s.board.asked → word s.to s.board.from ≡ true
    pub opened : (f : ℕ) → s.board.stage ≡ Open f → (g.manager s.board.from).stage ≡ Open f

  pub record Own (o : Opening) (m : ℕ) : Type 0 where
    pub many : o.managers ≡ managers
    pub place : o.place ≡ m
    pub nine : length o.told ≡ 9

  pub record Sound (g : Group) : Type 0 where
    pub word : ℕ → ℕ → Bool
    pub own : (m : ℕ) → Own (g.manager m) m
    pub told : (m b : ℕ) → m < managers → b < managers → b ≢ m → get_or (g.manager m).told b false ≡ true → word m b ≡ true
    pub boards : (s : Sent) → In g.boards s → OnItsWay g word s
    pub apart : (a b f h : ℕ) → a < managers → b < managers → founding (g.manager a).stage ≡ Some f → founding (g.manager b).stage ≡ Some h → word a b ≡ true → word b a ≡ true → f ≡ h
    pub first : (m f : ℕ) → m < managers → (g.manager m).stage ≡ Open f → First g word f
    pub vouched : (a b f : ℕ) → word a b ≡ true → founding (g.manager a).stage ≡ Some f → Vouched g.boards a b f

  -- ---- what it gives
  two : (g : Group) → Sound g → (a b f h : ℕ) → a < managers → b < managers → (g.manager a).stage ≡ Open f → (g.manager b).stage ≡ Open h → f ≡ h
  two g s a b f h ka kb ea eb = at (c.who == d.who) refl
    where
      c : First g s.word f
      c = s.first a f ka ea

      d : First g s.word h
      d = s.first b h kb eb

      at : (t : Bool) → ((s.first a f ka ea).who == (s.first b h kb eb).who) ≡ t → f ≡ h
      at true same =
          let one = eqb-true c.who d.who same in
          let e : Open f ≡ Open h = sym c.is ∙ ap (λ (n : ℕ). (g.manager n).stage) one ∙ d.is in cc
      at false differ =
          let ne = eqb-false c.who d.who differ in
          s.apart c.who d.who f h c.known d.known (ap founding c.is) (ap founding d.is) (c.all d.who d.known (λ e. ne (sym e))) (d.all c.who c.known ne)

-- ---- puts
put_at : {X : Type 0} (m : ℕ) (x : X) (f : ℕ → X) (n : ℕ) → n ≡ m → put m x f n ≡ x
put_at m x f n e = rw (eq-eqb n m e) refl

put_off : {X : Type 0} (m : ℕ) (x : X) (f : ℕ → X) (n : ℕ) → n ≢ m → put m x f n ≡ f n
put_off m x f n d = rw (ne_eqb n m d) refl

-- ---- all told

both_hold : (a b : Bool) → (a && b) ≡ true → (a ≡ true) × (b ≡ true)
both_hold true b e = (refl, e)
both_hold false b e = absurd cc

all_get : (n : ℕ) (told : List Bool) (k : ℕ) → n ≤ length told → list_all (λ t. t) (take n told) ≡ true → k < n → get_or told k false ≡ true
all_get zero told k few e below = absurd (omega (arith, below))
all_get (suc n) [] k few e below = absurd (omega (arith, few))
all_get (suc n) (t ∷ told) zero few e below = (both_hold t (list_all (λ t. t) (take n told)) e).0
all_get (suc n) (t ∷ told) (suc k) few e below = all_get n told k (omega (arith, few)) (both_hold t (list_all (λ t. t) (take n told)) e).1 (omega (arith, below))

never_told : (k : ℕ) → get_or (replicate 9 false) k false ≡ true → ⊥
never_told k e = grind (arith, common_steps)

-- ---- one manager becomes another record

module _ (managers : ℕ) (few : managers ≤ 9) (g : Group) (s : Sound managers g) (m now : ℕ) (km : m < managers) where
  abbrev before : Opening
  before = g.manager m

  pub record Becomes (o : Opening) (has : ℕ → Bool) : Type 0 where
    pub own : Own managers o m
    pub told : (b : ℕ) → b < managers → b ≢ m → get_or o.told b false ≡ true → has b ≡ true
    pub counts : (t : Sent) → In g.boards t → t.to ≡ m → t.life ≡ g.life m → t.board.asked ≤ now → (f : ℕ) → t.board.stage ≡ Founded f → founding o.stage ≡ Some f → o.since < t.board.asked → has t.board.from ≡ true
    pub apart : (b f h : ℕ) → b < managers → b ≢ m → founding o.stage ≡ Some f → founding (g.manager b).stage ≡ Some h → has b ≡ true → s.word b m ≡ true → f ≡ h
    pub vouched : (b f : ℕ) → has b ≡ true → founding o.stage ≡ Some f → Vouched g.boards m b f
    pub stays : (f : ℕ) → (g.manager m).stage ≡ Open f → (o.stage ≡ Open f) × ((b : ℕ) → s.word m b ≡ true → has b ≡ true)
    pub first : (f : ℕ) → o.stage ≡ Open f → ((g.manager m).stage ≡ Open f) ⊎ Others managers m has ⊎ ((c : ℕ) × (c < managers) × ((g.manager c).stage ≡ Open f))

  -- it keeps the word that it has
  goes_on : (o : Opening) → Own managers o m → ((b : ℕ) → b < managers → b ≢ m → get_or o.told b false ≡ true → s.word m b ≡ true) →
      ((asked : ℕ) → asked ≤ now → o.since < asked → (g.manager m).since < asked) → founding o.stage ≡ founding (g.manager m).stage →
      ((f : ℕ) → (g.manager m).stage ≡ Open f → o.stage ≡ Open f) →
      ((f : ℕ) → o.stage ≡ Open f → ((g.manager m).stage ≡ Open f) ⊎ Others managers m (s.word m) ⊎ ((c : ℕ) × (c < managers) × ((g.manager c).stage ≡ Open f))) →
      Becomes o (s.word m)
  goes_on o own told later same stays first = record {
    own = own;
    told = told;
    counts = λ t there to life asked f tells is since.
        let known = s.boards t there in
        let word = known.counts f (life ∙ ap g.life (sym to)) tells (ap (λ (n : ℕ). founding (g.manager n).stage) to ∙ sym same ∙ is) (subst (λ (n : ℕ). (g.manager n).since < t.board.asked) (sym to) (later t.board.asked asked since)) in
        subst (λ (n : ℕ). s.word n t.board.from ≡ true) to word;
    apart = λ b f h kb ne ea eb mine theirs. s.apart m b f h km kb (sym same ∙ ea) eb mine theirs;
    vouched = λ b f w e. s.vouched m b f w (sym same ∙ e);
    stays = λ f e. (stays f e, λ b w. w);
    first = first;
  }

  -- nothing happens to it, but that boards may count later and fewer may have told
  still : (o : Opening) → Own managers o m → o.stage ≡ (g.manager m).stage → ((b : ℕ) → b ≢ m → get_or o.told b false ≡ true → get_or (g.manager m).told b false ≡ true) →
      ((asked : ℕ) → asked ≤ now → o.since < asked → (g.manager m).since < asked) → Becomes o (s.word m)
  still o own stage told later = goes_on o own (λ b kb ne e. s.told m b km kb ne (told b ne e)) later (ap founding stage) (λ f e. stage ∙ e) (λ f e. inl (sym stage ∙ e))

  all_have : (o : Opening) (has : ℕ → Bool) → Own managers o m → ((b : ℕ) → b < managers → b ≢ m → get_or o.told b false ≡ true → has b ≡ true) → opens o ≡ true → Others managers m has
  all_have o has own told all b kb ne =
      told b kb ne (all_get o.managers o.told b (omega (arith, own.many, own.nine, few)) all (omega (arith, own.many, kb)))

  -- it is founded anew, and has word of nobody
  anew : (o : Opening) → Own managers o m → ((b : ℕ) → b ≢ m → get_or o.told b false ≡ true → ⊥) → now ≤ o.since → ((f : ℕ) → (g.manager m).stage ≡ Open f → ⊥) →
      ((f : ℕ) → o.stage ≡ Open f → opens o ≡ true) → Becomes o (λ _. false)
  anew o own told late shut all = record {
    own = own;
    told = λ b kb ne e. absurd (told b ne e);
    counts = λ t there to life asked f tells is since. absurd (omega (arith, asked, late, since));
    apart = λ b f h kb ne ea eb mine theirs. absurd (true≢false (sym mine));
    vouched = λ b f w e. absurd (true≢false (sym w));
    stays = λ f e. absurd (shut f e);
    first = λ f e. inr (inl (all_have o (λ _. false) own (λ b kb ne h. absurd (told b ne h)) (all f e)));
  }

  -- ---- and the group with it is sound

  module _ (o : Opening) (has : ℕ → Bool) (bc : Becomes o has) (l : ℕ → ℕ) (rises : (n : ℕ) → g.life n ≤ l n) (others : (n : ℕ) → n ≢ m → l n ≡ g.life n)
      (lives : (x : ℕ) → x ≡ l m → x ≤ g.life m → (x ≡ g.life m) × (g.clock m ≤ now)) where
    abbrev after : Group
    after = record { manager = put m o g.manager; clock = put m now g.clock; life = l; boards = g.boards }

    abbrev words : ℕ → ℕ → Bool
    words = put m has s.word

    here : (a : ℕ) → a ≡ m → put m o g.manager a ≡ o
    here a e = put_at m o g.manager a e

    off : (a : ℕ) → a ≢ m → put m o g.manager a ≡ g.manager a
    off a d = put_off m o g.manager a d

    has_here : (a b : ℕ) → a ≡ m → has b ≡ true → put m has s.word a b ≡ true
    has_here a b e h = ap (λ (r : ℕ → Bool). r b) (put_at m has s.word a e) ∙ h

    has_off : (a b : ℕ) → a ≢ m → s.word a b ≡ true → put m has s.word a b ≡ true
    has_off a b d h = ap (λ (r : ℕ → Bool). r b) (put_off m has s.word a d) ∙ h

    was_here : (a b : ℕ) → a ≡ m → put m has s.word a b ≡ true → has b ≡ true
    was_here a b e h = sym (ap (λ (r : ℕ → Bool). r b) (put_at m has s.word a e)) ∙ h

    was_off : (a b : ℕ) → a ≢ m → put m has s.word a b ≡ true → s.word a b ≡ true
    was_off a b d h = sym (ap (λ (r : ℕ → Bool). r b) (put_off m has s.word a d)) ∙ h

    own_after : (a : ℕ) → Own managers (put m o g.manager a) a
    own_after a = at (a == m) refl
      where
        at : (t : Bool) → (a == m) ≡ t → Own managers (put m o g.manager a) a
        at true is = let e = eqb-true a m is in subst (λ (p : Opening). Own managers p a) (sym (here a e)) (subst (λ (n : ℕ). Own managers o n) (sym e) bc.own)
        at false is = subst (λ (p : Opening). Own managers p a) (sym (off a (eqb-false a m is))) (s.own a)

    told_after : (a b : ℕ) → a < managers → b < managers → b ≢ a → get_or (put m o g.manager a).told b false ≡ true → put m has s.word a b ≡ true
    told_after a b ka kb ne e = at (a == m) refl
      where
        at : (t : Bool) → (a == m) ≡ t → put m has s.word a b ≡ true
        at true is = let q = eqb-true a m is in has_here a b q (bc.told b kb (λ z. ne (z ∙ sym q)) (subst (λ (p : Opening). get_or p.told b false ≡ true) (here a q) e))
        at false is = let d = eqb-false a m is in has_off a b d (s.told a b ka kb ne (subst (λ (p : Opening). get_or p.told b false ≡ true) (off a d) e))

    apart_after : (a b f h : ℕ) → a < managers → b < managers → founding (put m o g.manager a).stage ≡ Some f → founding (put m o g.manager b).stage ≡ Some h →
        put m has s.word a b ≡ true → put m has s.word b a ≡ true → f ≡ h
    apart_after a b f h ka kb ea eb wa wb = at (a == m) (b == m) refl refl
      where
        moved : (c k : ℕ) → c ≡ m → founding (put m o g.manager c).stage ≡ Some k → founding o.stage ≡ Some k
        moved c k q e = subst (λ (p : Opening). founding p.stage ≡ Some k) (here c q) e

        stood : (c k : ℕ) → c ≢ m → founding (put m o g.manager c).stage ≡ Some k → founding (g.manager c).stage ≡ Some k
        stood c k d e = subst (λ (p : Opening). founding p.stage ≡ Some k) (off c d) e

        at : (t u : Bool) → (a == m) ≡ t → (b == m) ≡ u → f ≡ h
        at true true ia ib = let e : Some f ≡ Some h = sym (moved a f (eqb-true a m ia) ea) ∙ moved b h (eqb-true b m ib) eb in cc
        at true false ia ib =
            let q = eqb-true a m ia in let d = eqb-false b m ib in
            bc.apart b f h kb d (moved a f q ea) (stood b h d eb) (was_here a b q wa) (subst (λ (n : ℕ). s.word b n ≡ true) q (was_off b a d wb))
        at false true ia ib =
            let d = eqb-false a m ia in let q = eqb-true b m ib in
            sym (bc.apart a h f ka d (moved b h q eb) (stood a f d ea) (was_here b a q wb) (subst (λ (n : ℕ). s.word a n ≡ true) q (was_off a b d wa)))
        at false false ia ib =
            let d = eqb-false a m ia in let e = eqb-false b m ib in
            s.apart a b f h ka kb (stood a f d ea) (stood b h e eb) (was_off a b d wa) (was_off b a e wb)

    carry : (f : ℕ) → First managers g s.word f → First managers after words f
    carry f one = at (one.who == m) refl
      where
        at : (t : Bool) → (one.who == m) ≡ t → First managers after words f
        at true is =
            let q = eqb-true one.who m is in
            let stays = bc.stays f (subst (λ (n : ℕ). (g.manager n).stage ≡ Open f) q one.is) in
            record {
              who = one.who;
              known = one.known;
              is = ap (λ (p : Opening). p.stage) (here one.who q) ∙ stays.0;
              all = λ b kb ne. has_here one.who b q (stays.1 b (subst (λ (n : ℕ). s.word n b ≡ true) q (one.all b kb ne)));
            }
        at false is =
            let d = eqb-false one.who m is in
            record { who = one.who; known = one.known; is = ap (λ (p : Opening). p.stage) (off one.who d) ∙ one.is; all = λ b kb ne. has_off one.who b d (one.all b kb ne) }

    first_after : (a f : ℕ) → a < managers → (put m o g.manager a).stage ≡ Open f → First managers after words f
    first_after a f ka e = at (a == m) refl
      where
        own_way : ((g.manager m).stage ≡ Open f) ⊎ Others managers m has ⊎ ((c : ℕ) × (c < managers) × ((g.manager c).stage ≡ Open f)) → o.stage ≡ Open f → First managers after words f
        own_way (inl was) is = carry f (s.first m f km was)
        own_way (inr (inl all)) is = record { who = m; known = km; is = ap (λ (p : Opening). p.stage) (here m refl) ∙ is; all = λ b kb ne. has_here m b refl (all b kb ne) }
        own_way (inr (inr c)) is = carry f (s.first c.0 f c.1 c.2)

        at : (t : Bool) → (a == m) ≡ t → First managers after words f
        at true is = let e' = subst (λ (p : Opening). p.stage ≡ Open f) (here a (eqb-true a m is)) e in own_way (bc.first f e') e'
        at false is = carry f (s.first a f ka (subst (λ (p : Opening). p.stage ≡ Open f) (off a (eqb-false a m is)) e))

    asked_after : (t : Sent) → OnItsWay managers g s.word t → t.life ≡ l t.to → t.board.asked ≤ put m now g.clock t.to
    asked_after t old same = at (t.to == m) refl
      where
        at : (u : Bool) → (t.to == m) ≡ u → t.board.asked ≤ put m now g.clock t.to
        at true is =
            let q = eqb-true t.to m is in
            let life = lives t.life (same ∙ ap l q) (subst (λ (n : ℕ). t.life ≤ g.life n) q old.life) in
            let asked = subst (λ (n : ℕ). t.board.asked ≤ g.clock n) q (old.asked (life.0 ∙ ap g.life (sym q))) in
            subst (λ (n : ℕ). t.board.asked ≤ n) (sym (put_at m now g.clock t.to q)) (omega (arith, asked, life.1))
        at false is =
            let d = eqb-false t.to m is in
            subst (λ (n : ℕ). t.board.asked ≤ n) (sym (put_off m now g.clock t.to d)) (old.asked (same ∙ others t.to d))

    counts_after : (t : Sent) → In g.boards t → OnItsWay managers g s.word t → (f : ℕ) → t.life ≡ l t.to → t.board.stage ≡ Founded f → founding (put m o g.manager t.to).stage ≡ Some f →
        (put m o g.manager t.to).since < t.board.asked → put m has s.word t.to t.board.from ≡ true
    counts_after t there old f same tells is since = at (t.to == m) refl
      where
        at : (u : Bool) → (t.to == m) ≡ u → put m has s.word t.to t.board.from ≡ true
        at true e =
            let q = eqb-true t.to m e in
            let life = lives t.life (same ∙ ap l q) (subst (λ (n : ℕ). t.life ≤ g.life n) q old.life) in
            let asked = subst (λ (n : ℕ). t.board.asked ≤ g.clock n) q (old.asked (life.0 ∙ ap g.life (sym q))) in
            has_here t.to t.board.from q (bc.counts t there q life.0 (omega (arith, asked, life.1)) f tells
            (subst (λ (p : Opening). founding p.stage ≡ Some f) (here t.to q) is) (subst (λ (p : Opening). p.since < t.board.asked) (here t.to q) since))
        at false e =
            let d = eqb-false t.to m e in
            has_off t.to t.board.from d (old.counts f (same ∙ others t.to d) tells
            (subst (λ (p : Opening). founding p.stage ≡ Some f) (off t.to d) is) (subst (λ (p : Opening). p.since < t.board.asked) (off t.to d) since))

    opened_after : (t : Sent) → OnItsWay managers g s.word t → (f : ℕ) → t.board.stage ≡ Open f → (put m o g.manager t.board.from).stage ≡ Open f
    opened_after t old f tells = at (t.board.from == m) refl
      where
        at : (u : Bool) → (t.board.from == m) ≡ u → (put m o g.manager t.board.from).stage ≡ Open f
        at true e =
            let q = eqb-true t.board.from m e in
            ap (λ (p : Opening). p.stage) (here t.board.from q) ∙ (bc.stays f (subst (λ (n : ℕ). (g.manager n).stage ≡ Open f) q (old.opened f tells))).0
        at false e = ap (λ (p : Opening). p.stage) (off t.board.from (eqb-false t.board.from m e)) ∙ old.opened f tells

    board_after : (t : Sent) → In g.boards t → OnItsWay managers after words t
    board_after t there =
        let old = s.boards t there in
        let up = rises t.to in
        record { to = old.to; from = old.from; other = old.other; life = omega (arith, old.life, up); asked = asked_after t old; counts = counts_after t there old; opened = opened_after t old }

    vouched_after : (a b f : ℕ) → put m has s.word a b ≡ true → founding (put m o g.manager a).stage ≡ Some f → Vouched g.boards a b f
    vouched_after a b f w e = at (a == m) refl
      where
        at : (t : Bool) → (a == m) ≡ t → Vouched g.boards a b f
        at true is =
            let q = eqb-true a m is in
            subst (λ (n : ℕ). Vouched g.boards n b f) (sym q) (bc.vouched b f (was_here a b q w) (subst (λ (p : Opening). founding p.stage ≡ Some f) (here a q) e))
        at false is =
            let d = eqb-false a m is in
            s.vouched a b f (was_off a b d w) (subst (λ (p : Opening). founding p.stage ≡ Some f) (off a d) e)

    sound_after : Sound managers after
    sound_after = record { word = words; own = own_after; told = told_after; boards = board_after; apart = apart_after; first = first_after; vouched = vouched_after }

-- ---- what each event makes of a manager

-- no founding passes an open manager
not_open : (stage : Stage) (reserved : Option ℕ) (f : ℕ) → against stage reserved f ≡ None → (k : ℕ) → stage ≡ Open k → ⊥
not_open Empty reserved f e k is = absurd cc
not_open (Founded h) reserved f e k is = absurd cc
not_open (Open h) reserved f e k is = absurd cc

module _ (managers : ℕ) (few : managers ≤ 9) (g : Group) (s : Sound managers g) (m now : ℕ) (km : m < managers) where
  -- it becomes one that goes on soundly
  abbrev Good : Opening → Type 0
  Good o = (has : ℕ → Bool) × Becomes managers few g s m now km o has

  abbrev old : Opening
  old = g.manager m

  owned : Own managers (g.manager m) m
  owned = s.own m

  as_it_was : Good (g.manager m)
  as_it_was = (s.word m, still managers few g s m now km (g.manager m) (s.own m) refl (λ b ne e. e) (λ asked upto since. since))

  alone_told : (b : ℕ) → b ≢ m → get_or (only_itself (g.manager m).place) b false ≡ true → ⊥
  alone_told b ne e =
      let d : b ≢ (g.manager m).place = λ q. ne (q ∙ (s.own m).place) in
      never_told b (sym (get_or-set_other (replicate 9 false) (g.manager m).place b true false d) ∙ e)

  alone_own : (stage : Stage) (since : ℕ) (o : Opening) → o.managers ≡ (g.manager m).managers → o.place ≡ (g.manager m).place → o.told ≡ only_itself (g.manager m).place → Own managers o m
  alone_own stage since o many place told = record { many = many ∙ (s.own m).many; place = place ∙ (s.own m).place; nine = ap (λ (l : List Bool). length l) told ∙ length-set (replicate 9 false) (g.manager m).place true }

  look_good : (x : Option StageRefusal) (f : ℕ) → Good (looked_unless x (g.manager m) now f).opening
  look_good (Some x) f = as_it_was
  look_good None f = (
    s.word m,
    still managers few g s m now km (reserved (g.manager m) now f) (alone_own Empty 0 (reserved (g.manager m) now f) refl refl refl) refl (λ b ne e. absurd (alone_told b ne e))
        (λ asked upto since. absurd (omega (arith, upto, since))),
  )

  found_good : (x : Option StageRefusal) (r : Option ℕ) (f : ℕ) → against (g.manager m).stage r f ≡ x → Good (found_if x r (g.manager m) now f).opening
  found_good (Some x) r f a = as_it_was
  found_good None None f a = as_it_was
  found_good None (Some h) f a = at (opens (record (g.manager m) { told = only_itself (g.manager m).place })) refl
    where
      step : OpeningStep
      step = record { opening = record (g.manager m) { stage = Founded f; reservation = None; since = max now (g.manager m).ready; told = only_itself (g.manager m).place }; answer = Some StageAnswer.Yes; logged = record { founded = Some f; opened = false } }

      at : (b : Bool) → opens (record (g.manager m) { told = only_itself (g.manager m).place }) ≡ b → Good (cond b (opened f step) step).opening
      at true all = ((λ _. false), anew managers few g s m now km (opened f step).opening (alone_own Empty 0 (opened f step).opening refl refl refl) alone_told (omega arith) (not_open (g.manager m).stage (Some h) f a) (λ k e. all))
      at false not_all = ((λ _. false), anew managers few g s m now km step.opening (alone_own Empty 0 step.opening refl refl refl) alone_told (omega arith) (not_open (g.manager m).stage (Some h) f a) (λ k e. absurd cc))

  -- it opens with the founding that it has, or not
  opens_good : (t : Bool) (o : Opening) (f : ℕ) → (g.manager m).stage ≡ Founded f → o.stage ≡ Founded f → o.since ≡ (g.manager m).since → Own managers o m →
      ((b : ℕ) → b < managers → b ≢ m → get_or o.told b false ≡ true → s.word m b ≡ true) →
      (t ≡ true → Others managers m (s.word m) ⊎ ((c : ℕ) × (c < managers) × ((g.manager c).stage ≡ Open f))) → Good (cond t (opened f (same o None)) (same o None)).opening
  opens_good true o f was stage since own told first = (
    s.word m,
    goes_on managers few g s m now km (record o { stage = Open f })
        (record { many = own.many; place = own.place; nine = own.nine }) told (λ asked upto later. subst (λ (n : ℕ). n < asked) since later) (sym (ap founding was))
        (λ k e. absurd cc) (λ k e. let same : f ≡ k = cc in inr (subst (λ (n : ℕ). Others managers m (s.word m) ⊎ ((c : ℕ) × (c < managers) × ((g.manager c).stage ≡ Open n))) same (first refl))),
  )
  opens_good false o f was stage since own told first = (
    s.word m,
    goes_on managers few g s m now km o own told (λ asked upto later. subst (λ (n : ℕ). n < asked) since later)
        (ap founding stage ∙ sym (ap founding was)) (λ k e. absurd cc) (λ k e. absurd cc),
  )

  -- a board that was told
  module _ (b : Board) (there : In g.boards (record { to = m; life = g.life m; board = b })) where
    abbrev known : OnItsWay managers g s.word (record { to = m; life = g.life m; board = b })
    known = s.boards (record { to = m; life = g.life m; board = b }) there

    told_more : (f : ℕ) → (g.manager m).stage ≡ Founded f → b.stage ≡ Founded f → (g.manager m).since < b.asked → (k : ℕ) → k < managers → k ≢ m →
        get_or (set (g.manager m).told b.from true) k false ≡ true → s.word m k ≡ true
    told_more f was tells since k kk ne e = at (k == b.from) refl
      where
        at : (t : Bool) → (k == b.from) ≡ t → s.word m k ≡ true
        at true is = subst (λ (n : ℕ). s.word m n ≡ true) (sym (eqb-true k b.from is)) ((s.boards (record { to = m; life = g.life m; board = b }) there).counts f refl tells (ap founding was) since)
        at false is = s.told m k km kk ne (sym (get_or-set_other (g.manager m).told b.from k true false (eqb-false k b.from is)) ∙ e)

    heard_good : (f : ℕ) (stage : Stage) → (g.manager m).stage ≡ Founded f → b.stage ≡ stage → Good (heard f (g.manager m) b stage).opening
    heard_good f Empty was is = as_it_was
    heard_good f (Founded h) was is = at ((h == f) && nat_lt (g.manager m).since b.asked) refl
      where
        own_then : Own managers (with_told (g.manager m) b.from) m
        own_then = record { many = (s.own m).many; place = (s.own m).place; nine = length-set (g.manager m).told b.from true ∙ (s.own m).nine }

        more : (h ≡ f) → (g.manager m).since < b.asked → (k : ℕ) → k < managers → k ≢ m → get_or (set (g.manager m).told b.from true) k false ≡ true → s.word m k ≡ true
        more q since = told_more f was (is ∙ ap Founded q) since

        at : (t : Bool) → ((h == f) && nat_lt (g.manager m).since b.asked) ≡ t → Good (cond t (opened_if_told f (same (with_told (g.manager m) b.from) None)) (same (g.manager m) None)).opening
        at true e =
            let parts = both_hold (h == f) (nat_lt (g.manager m).since b.asked) e in
            let word = more (eqb-true h f parts.0) (ltb-true (g.manager m).since b.asked parts.1) in
            opens_good (opens (with_told (g.manager m) b.from)) (with_told (g.manager m) b.from) f was was refl own_then word
            (λ all. inl (all_have managers few g s m now km (with_told (g.manager m) b.from) (s.word m) own_then word all))
        at false e = as_it_was
    heard_good f (Open h) was is = opens_good (h == f) (g.manager m) f was was refl (s.own m) (λ k kk ne e. s.told m k km kk ne e)
        (λ e. inr (b.from, known.from, known.opened f (is ∙ ap Open (eqb-true h f e))))

    told_good : (x : Option ℕ) → ((f : ℕ) → x ≡ Some f → (g.manager m).stage ≡ Founded f) → Good (told_to x (g.manager m) b).opening
    told_good None is = as_it_was
    told_good (Some f) is = heard_good f b.stage (is f refl) refl

  tick_good : (x : Option ℕ) → ((f : ℕ) → x ≡ Some f → (g.manager m).stage ≡ Founded f) → Good (ticked x (g.manager m)).opening
  tick_good None is = as_it_was
  tick_good (Some f) is = opens_good (opens (g.manager m)) (g.manager m) f (is f refl) (is f refl) refl (s.own m) (λ k kk ne e. s.told m k km kk ne e)
      (λ all. inl (all_have managers few g s m now km (g.manager m) (s.word m) (s.own m) (λ k kk ne e. s.told m k km kk ne e) all))

  step_good : (happens : StageEvent) → WasTold managers g m happens → Good (stepped (g.manager m) now happens).opening
  step_good (event.Look f) was = look_good (against (g.manager m).stage (reserved_for (g.manager m) now) f) f
  step_good (event.Found f) was = found_good (against (g.manager m).stage (reserved_for (g.manager m) now) f) (reserved_for (g.manager m) now) f refl
  step_good (event.Told b) was = told_good b was (may_open (g.manager m) now) (λ f e. may_is (g.manager m).stage (reserved_for (g.manager m) now) f e)
  step_good event.Tick was = tick_good (may_open (g.manager m) now) (λ f e. may_is (g.manager m).stage (reserved_for (g.manager m) now) f e)

  -- its process begins again
  restart_good : Good (begun managers m (g.manager m).stage now)
  restart_good = (
    s.word m,
    still managers few g s m now km (begun managers m (g.manager m).stage now)
        (record { many = refl; place = refl; nine = length-set (replicate 9 false) m true }) refl
        (λ b ne e. absurd (never_told b (sym (get_or-set_other (replicate 9 false) m b true false ne) ∙ e))) (λ asked upto since. absurd (omega (arith, upto, since))),
  )

-- ---- runs

module _ (managers : ℕ) (few : managers ≤ 9) where
  step_sound : (g : Group) (m now : ℕ) (happens : StageEvent) → Sound managers g → MayHappen managers g (Step m now happens) → Sound managers (next managers g (Step m now happens))
  step_sound g m now happens s may =
      let good = step_good managers few g s m now may.0 happens may.2 in
      sound_after managers few g s m now may.0 (stepped (g.manager m) now happens).opening good.0 good.1 g.life (λ n. le_refl (g.life n)) (λ n d. refl) (λ x e upto. (e, may.1))

  restart_sound : (g : Group) (m now : ℕ) → Sound managers g → m < managers → Sound managers (next managers g (Restart m now))
  restart_sound g m now s km =
      let good = restart_good managers few g s m now km in
      sound_after managers few g s m now km (begun managers m (g.manager m).stage now) good.0 good.1 (put m (g.life m + 1) g.life) rises (λ n d. put_off m (g.life m + 1) g.life n d)
      (λ x e upto. let is : x ≡ g.life m + 1 = e ∙ put_at m (g.life m + 1) g.life m refl in absurd (omega (arith, is, upto)))
    where
      rises : (n : ℕ) → g.life n ≤ put m (g.life m + 1) g.life n
      rises n = at (n == m) refl
        where
          at : (t : Bool) → (n == m) ≡ t → g.life n ≤ put m (g.life m + 1) g.life n
          at true e = let q = eqb-true n m e in subst (λ (x : ℕ). g.life n ≤ x) (sym (put_at m (g.life m + 1) g.life n q)) (let life : g.life n ≡ g.life m = ap g.life q in omega (arith, life))
          at false e = subst (λ (x : ℕ). g.life n ≤ x) (sym (put_off m (g.life m + 1) g.life n (eqb-false n m e))) (le_refl (g.life n))

  -- a board is told: of the same founding as the asker's, it is word
  module _ (g : Group) (s : Sound managers g) (teller asker asked : ℕ) (kt : teller < managers) (ka : asker < managers) (ne : teller ≢ asker) (upto : asked ≤ g.clock asker) where
    abbrev IsNew : ℕ → ℕ → Type 0
    IsNew a b = (f : ℕ) × (founding (g.manager a).stage ≡ Some f) × (founding (g.manager b).stage ≡ Some f)

    shown_open : (r : Option ℕ) (stage : Stage) (f : ℕ) → shown_by r stage ≡ Open f → stage ≡ Open f
    shown_open None stage f e = e
    shown_open (Some x) stage f e = absurd cc

    shown_founded : (r : Option ℕ) (stage : Stage) (f : ℕ) → shown_by r stage ≡ Founded f → founding stage ≡ Some f
    shown_founded None stage f e = ap founding e
    shown_founded (Some x) stage f e = absurd cc

    module _ (w : ℕ → ℕ → Bool) (grows : (a b : ℕ) → s.word a b ≡ true → w a b ≡ true) (from : (a b : ℕ) → w a b ≡ true → (s.word a b ≡ true) ⊎ IsNew a b)
        (new : (f : ℕ) → shown (g.manager teller) (g.clock teller) ≡ Founded f → founding (g.manager asker).stage ≡ Some f → w asker teller ≡ true)
        (vouched : (a b f : ℕ) → w a b ≡ true → founding (g.manager a).stage ≡ Some f → Vouched (board_of g teller asker asked ∷ g.boards) a b f) where
      board_then : (t : Sent) → (t ≡ board_of g teller asker asked) ⊎ In g.boards t → OnItsWay managers (next managers g (Tell teller asker asked)) w t
      board_then t (inl is) = subst (λ (x : Sent). OnItsWay managers (next managers g (Tell teller asker asked)) w x) (sym is) (record {
        to = ka;
        from = kt;
        other = ne;
        life = le_refl (g.life asker);
        asked = λ e. upto;
        counts = λ f e tells is since. new f tells is;
        opened = λ f tells. shown_open (reserved_for (g.manager teller) (g.clock teller)) (g.manager teller).stage f tells;
      })
      board_then t (inr there) =
          let old = s.boards t there in
          record {
            to = old.to;
            from = old.from;
            other = old.other;
            life = old.life;
            asked = old.asked;
            counts = λ f e tells is since. grows t.to t.board.from (old.counts f e tells is since);
            opened = old.opened;
          }

      apart_then : (a b f h : ℕ) → a < managers → b < managers → founding (g.manager a).stage ≡ Some f → founding (g.manager b).stage ≡ Some h → w a b ≡ true → w b a ≡ true → f ≡ h
      apart_then a b f h ka kb ea eb wa wb = at (from a b wa) (from b a wb)
        where
          at : (s.word a b ≡ true) ⊎ IsNew a b → (s.word b a ≡ true) ⊎ IsNew b a → f ≡ h
          at (inl x) (inl y) = s.apart a b f h ka kb ea eb x y
          at (inr n) y = let e : Some f ≡ Some h = sym ea ∙ n.1 ∙ sym n.2 ∙ eb in cc
          at (inl x) (inr n) = let e : Some f ≡ Some h = sym ea ∙ n.2 ∙ sym n.1 ∙ eb in cc

      sound_then : Sound managers (next managers g (Tell teller asker asked))
      sound_then = record {
        word = w;
        own = s.own;
        told = λ m b km kb ne e. grows m b (s.told m b km kb ne e);
        boards = board_then;
        apart = apart_then;
        first = λ m f km e. let one = s.first m f km e in record { who = one.who; known = one.known; is = one.is; all = λ b kb d. grows one.who b (one.all b kb d) };
        vouched = vouched;
      }

    grown : (a b f : ℕ) → Vouched g.boards a b f → Vouched (board_of g teller asker asked ∷ g.boards) a b f
    grown a b f v = record { sent = v.sent; told = inr v.told; asker = v.asker; teller = v.teller; stage = v.stage }

    abbrev hears : Stage → Option ℕ → Bool
    hears Empty x = false
    hears (Open f) x = false
    hears (Founded f) None = false
    hears (Founded f) (Some h) = f == h

    heard_same : (stage : Stage) (x : Option ℕ) → hears stage x ≡ true → (f : ℕ) × (stage ≡ Founded f) × (x ≡ Some f)
    heard_same Empty x e = absurd cc
    heard_same (Open f) x e = absurd cc
    heard_same (Founded f) None e = absurd cc
    heard_same (Founded f) (Some h) e = (f, refl, ap Some (sym (eqb-true f h e)))

    tell_sound : Sound managers (next managers g (Tell teller asker asked))
    tell_sound = at (hears (shown (g.manager teller) (g.clock teller)) (founding (g.manager asker).stage)) refl
      where
        at : (t : Bool) → hears (shown (g.manager teller) (g.clock teller)) (founding (g.manager asker).stage) ≡ t → Sound managers (next managers g (Tell teller asker asked))
        at true e = sound_then (put asker (put teller true (s.word asker)) s.word) grows from (λ f tells is. there) news
          where
            both : (f : ℕ) × (shown (g.manager teller) (g.clock teller) ≡ Founded f) × (founding (g.manager asker).stage ≡ Some f)
            both = heard_same (shown (g.manager teller) (g.clock teller)) (founding (g.manager asker).stage) e

            is_new : IsNew asker teller
            is_new = (both.0, both.2, shown_founded (reserved_for (g.manager teller) (g.clock teller)) (g.manager teller).stage both.0 both.1)

            there : put asker (put teller true (s.word asker)) s.word asker teller ≡ true
            there = ap (λ (r : ℕ → Bool). r teller) (put_at asker (put teller true (s.word asker)) s.word asker refl) ∙ put_at teller true (s.word asker) teller refl

            row : (b : ℕ) → s.word asker b ≡ true → put teller true (s.word asker) b ≡ true
            row b h = by (b == teller) refl
              where
                by : (t : Bool) → (b == teller) ≡ t → put teller true (s.word asker) b ≡ true
                by true q = put_at teller true (s.word asker) b (eqb-true b teller q)
                by false q = put_off teller true (s.word asker) b (eqb-false b teller q) ∙ h

            grows : (a b : ℕ) → s.word a b ≡ true → put asker (put teller true (s.word asker)) s.word a b ≡ true
            grows a b h = by (a == asker) refl
              where
                by : (t : Bool) → (a == asker) ≡ t → put asker (put teller true (s.word asker)) s.word a b ≡ true
                by true q =
                    let same = eqb-true a asker q in
                    ap (λ (r : ℕ → Bool). r b) (put_at asker (put teller true (s.word asker)) s.word a same) ∙ row b (subst (λ (n : ℕ). s.word n b ≡ true) same h)
                by false q = ap (λ (r : ℕ → Bool). r b) (put_off asker (put teller true (s.word asker)) s.word a (eqb-false a asker q)) ∙ h

            from : (a b : ℕ) → put asker (put teller true (s.word asker)) s.word a b ≡ true → (s.word a b ≡ true) ⊎ IsNew a b
            from a b h = by (a == asker) (b == teller) refl refl
              where
                by : (t u : Bool) → (a == asker) ≡ t → (b == teller) ≡ u → (s.word a b ≡ true) ⊎ IsNew a b
                by false u p q = inl (sym (ap (λ (r : ℕ → Bool). r b) (put_off asker (put teller true (s.word asker)) s.word a (eqb-false a asker p))) ∙ h)
                by true true p q =
                    let x = eqb-true a asker p in let y = eqb-true b teller q in
                    inr (subst (λ (n : ℕ). IsNew n b) (sym x) (subst (λ (n : ℕ). IsNew asker n) (sym y) is_new))
                by true false p q =
                    let x = eqb-true a asker p in
                    let here = sym (ap (λ (r : ℕ → Bool). r b) (put_at asker (put teller true (s.word asker)) s.word a x)) ∙ h in
                    inl (subst (λ (n : ℕ). s.word n b ≡ true) (sym x) (sym (put_off teller true (s.word asker) b (eqb-false b teller q)) ∙ here))

            news : (a b f : ℕ) → put asker (put teller true (s.word asker)) s.word a b ≡ true → founding (g.manager a).stage ≡ Some f → Vouched (board_of g teller asker asked ∷ g.boards) a b f
            news a b f h e = by (a == asker) (b == teller) refl refl
              where
                by : (t u : Bool) → (a == asker) ≡ t → (b == teller) ≡ u → Vouched (board_of g teller asker asked ∷ g.boards) a b f
                by false u p q =
                    let was = sym (ap (λ (r : ℕ → Bool). r b) (put_off asker (put teller true (s.word asker)) s.word a (eqb-false a asker p))) ∙ h in
                    grown a b f (s.vouched a b f was e)
                by true true p q =
                    let x = eqb-true a asker p in let y = eqb-true b teller q in
                    let is : Some both.0 ≡ Some f = sym both.2 ∙ subst (λ (n : ℕ). founding (g.manager n).stage ≡ Some f) x e in
                    let same : both.0 ≡ f = cc in
                    record { sent = board_of g teller asker asked; told = inl refl; asker = sym x; teller = sym y; stage = both.1 ∙ ap Founded same }
                by true false p q =
                    let x = eqb-true a asker p in
                    let here = sym (ap (λ (r : ℕ → Bool). r b) (put_at asker (put teller true (s.word asker)) s.word a x)) ∙ h in
                    let was = subst (λ (n : ℕ). s.word n b ≡ true) (sym x) (sym (put_off teller true (s.word asker) b (eqb-false b teller q)) ∙ here) in
                    grown a b f (s.vouched a b f was e)
        at false e = sound_then s.word (λ a b h. h) (λ a b h. inl h) (λ f tells is. absurd (true≢false (sym (heard_true f tells is) ∙ e))) (λ a b f w is. grown a b f (s.vouched a b f w is))
          where
            heard_true : (f : ℕ) → shown (g.manager teller) (g.clock teller) ≡ Founded f → founding (g.manager asker).stage ≡ Some f →
                hears (shown (g.manager teller) (g.clock teller)) (founding (g.manager asker).stage) ≡ true
            heard_true f tells is = rw (tells, is) (eq-eqb f f refl)

  next_sound : (g : Group) (e : Event) → Sound managers g → MayHappen managers g e → Sound managers (next managers g e)
  next_sound g (Step m now happens) s may = step_sound g m now happens s may
  next_sound g (Tell teller asker asked) s may = tell_sound g s teller asker asked may.0 may.1 may.2 may.3
  next_sound g (Restart m now) s may = restart_sound g m now s may

  run_sound : (g : Group) (events : List Event) → Sound managers g → IsRun managers g events → Sound managers (last managers g events)
  run_sound g [] s run = s
  run_sound g (e ∷ events) s run = run_sound (next managers g e) events (next_sound g e s run.0) run.1

  start_sound : (clock : ℕ → ℕ) → Sound managers (start managers clock)
  start_sound clock = record {
    word = λ a b. false;
    own = λ m. record { many = refl; place = refl; nine = length-set (replicate 9 false) m true };
    told = λ m b km kb ne e. absurd (never_told b (sym (get_or-set_other (replicate 9 false) m b true false ne) ∙ e));
    boards = λ t there. absurd there;
    apart = λ a b f h ka kb ea eb wa wb. absurd (true≢false (sym wa));
    first = λ m f km e. absurd cc;
    vouched = λ a b f w e. absurd (true≢false (sym w));
  }

pub never_two : NeverTwo
never_two managers clock events few run a b f h ka kb ea eb =
    let s = run_sound managers few (start managers clock) events (start_sound managers few clock) run in
    two managers (last managers (start managers clock) events) s a b f h ka kb ea eb

pub all_founded : OpenMeansAllFounded
all_founded managers clock events few run a f ka ea =
    let s = run_sound managers few (start managers clock) events (start_sound managers few clock) run in
    let one = s.first a f ka ea in
    record { who = one.who; known = one.known; is_open = one.is; all = λ b kb ne. s.vouched one.who b f (one.all b kb ne) (ap founding one.is) }
