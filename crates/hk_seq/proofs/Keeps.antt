-- The steps that the kit's cell does not make keep its rule too.
use Rattle.std.proofs.Common.{◌≡◌, ℕ, ◌+◌, ◌-◌, ◌%◌, ◌<◌, ◌≤◌, ◌≢◌, min, List, ◌++◌, map, length, take, drop, get_or, set, sym, refl, ap, ◌∙◌, subst, ⊎_elim, arith, length-set, get_or-set_other, get_or-set_same}
use mathlib.Core.Logic.{dite}
use mathlib.Core.Option.{none, some}
use native.Mathlib.Decide.{ℕ_discrete}
use lib.ListN.{get_elem?}
use lib.Seq.{set-get_or, map-set}
use Rattle.atomic_table.specs.Table.{State, Me, step, keeps, stepped, Allows}
use Rattle.crossbeam_utils.specs.declared.atomic.seq_cell.Doing.{Doing}
use Rattle.crossbeam_utils.specs.declared.atomic.seq_cell.Stage.{Stage}
use Rattle.crossbeam_utils.specs.declared.atomic.seq_cell.Stage.TheVariants.{Idle, Reading, Writing}
use Rattle.crossbeam_utils.specs.Register.{Turns, TurnsAt}
use Rattle.crossbeam_utils.specs.Seq.{Knows, client, Versioned, idle, HasRead, Gathered, IsValidRead}
use Rattle.crossbeam_utils.proofs.SeqKeeps.{puts}
use Rattle.std.proofs.lemmas.Bool.{cases_lt}
use Rattle.std.proofs.lemmas.List.{get_or-take, length-take}
use Rattle.std.proofs.lemmas.Grind.{same_number_lists, elements}
use Rattle.atomic_table.proofs.Lists.{at_set, set_again, at_map}
use Rattle.hk_seq.specs.Steps.{bumped, IsNextWord, matched, noted, published_over, in_use, HasInUse, IsGathered}

module _ {T V : Type 0} (words : T → List ℕ) (n : ℕ) (holds : T → List V → Type 0) where
  abbrev D : Type 0
  D = Doing T V

  abbrev St : Type 0
  St = State T D

  abbrev Rule : St → Type 0
  Rule = Versioned words n holds

  abbrev version : St → ℕ
  version s = get_or s.words 0 0

  seats_stay : (K : ℕ → Stage T → Type 0) (vs : List D) (me : ℕ) (w : D) → K me w.stage → ((j : ℕ) (d : D) → get_elem? vs j ≡ some d → K j d.stage)
      → (j : ℕ) (d : D) → get_elem? (set vs me w) j ≡ some d → K j d.stage
  seats_stay K vs me w mine others j d e = ⊎_elim (λ (t : (j ≡ me) × (w ≡ d)). subst (λ (x : ℕ × D). K x.0 x.1.stage) (λ i. (sym t.0 i, t.1 i)) mine)
      (λ (t : (j ≢ me) × (get_elem? vs j ≡ some d)). others j d t.1) (at_set vs me j w d e)

  same_clients : (x : T) (vs : List D) (me : ℕ) (v : D) → get_elem? vs me ≡ some v → holds x (map client vs) → holds x (map client (set vs me v))
  same_clients x vs me v at e = subst (holds x) (sym (map-set client vs me v ∙ set_again (map client vs) me v.client (at_map client vs me v at))) e

  -- a step that changes no word
  unmoved : (s : St) (r : Rule s) (i me : ℕ) (cs : List (ℕ × T)) (w : D) → Knows (version s) r.era r.value r.next r.done r.writer me w.stage → holds r.value (map client (set s.views me w))
      → Rule (stepped s i (get_or s.words i 0) me cs w keeps)
  unmoved s r i me cs w mine kept = subst (λ (ws : List ℕ). Rule record { words = ws; homes = s.homes; views = set s.views me w }) (sym (set-get_or s.words i 0)) record {
    value = r.value;
    next = r.next;
    done = r.done;
    writer = r.writer;
    era = r.era;
    wide = r.wide;
    long = r.long;
    at_rest = r.at_rest;
    clean = r.clean;
    dirty = r.dirty;
    written = r.written;
    unwritten = r.unwritten;
    each_seat = seats_stay (Knows (version s) r.era r.value r.next r.done r.writer) s.views me w mine r.each_seat;
    kept = kept;
  }

  pub notes : (then : V → T → T → V → Type 0) (slots id : ℕ) (me : Me T D) → Turns holds id me.0.client (λ x. x) then
      → Allows Rule slots id me 0 (λ x. x) (noted then (step slots 0 0 0 none) me)
  notes then slots id me asked s r _ at _ =
      let t = asked r.value (map client s.views) r.kept (at_map client s.views id me.0 at) in
      let w : D = idle t.0 in
      (w, keeps, tt, unmoved s r 0 id me.1 w tt (subst (holds r.value) (sym (map-set client s.views id w)) t.1), (r.value, t.2))

  pub matches : (slots id : ℕ) (me : Me T D) (a k : ℕ) (old new : T) → me.0.stage ≡ Writing a old new k → k < n
      → Allows Rule slots id me (k + 1) (λ x. x) (matched words (step slots (k + 1) 0 0 none) me)
  matches slots id me a k old new is inside s r wide at small = let x : ℕ = get_or s.words (k + 1) 0 in dite (ℕ_discrete x (get_or (words new) k 0))
      (λ hit. let p = puts words n holds slots id me a k old new x is inside hit s r wide at small in (
        p.0,
        p.1,
        p.2,
        p.3,
        (p.4.0, (λ _. p.4.1 a old new k is ∙ sym (ap bumped is)), (λ miss. absurd (miss (subst (IsNextWord words x) (sym is) hit)))),
      ))
      (λ miss. (
        me.0,
        keeps,
        tt,
        unmoved s r (k + 1) id me.1 me.0 (r.each_seat id me.0 at) (same_clients r.value s.views id me.0 at r.kept),
        (refl, (λ hit. absurd (miss (subst (IsNextWord words x) is hit))), (λ _. refl)),
      ))

-- ---- what the writer knows behind the read of the next word
module _ {T : Type 0} (words : T → List ℕ) where
  pub unmatched : (r a k : ℕ) (old new : T) (before after : Stage T) → before ≡ Writing a old new k → r ≢ get_or (words new) k 0 → (¬ IsNextWord words r before → after ≡ before) → after ≡ Writing a old new k
  unmatched r a k old new before after is other stays = stays (λ h. other (subst (IsNextWord words r) is h)) ∙ is

  pub is_matched : (r a k : ℕ) (old new : T) (before after : Stage T) → before ≡ Writing a old new k → r ≡ get_or (words new) k 0 → (IsNextWord words r before → after ≡ bumped before) → after ≡ Writing a old new (k + 1)
  is_matched r a k old new before after is hit goes = goes (subst (IsNextWord words r) (sym is) hit) ∙ ap bumped is

-- ---- the words of a new value over those of an old one
at_front : (k i : ℕ) (new old : List ℕ) → k ≤ length new → i < k → get_or (take k new ++ drop k old) i 0 ≡ get_or new i 0
at_front k i new old fits below = grind (arith, elements)

behind_front : (k i : ℕ) (new old : List ℕ) → k ≤ length new → k ≤ i → get_or (take k new ++ drop k old) i 0 ≡ get_or old i 0
behind_front k i new old fits above = let e : k + (i - k) ≡ i = omega arith in grind (arith, elements, e)

long_front : (k n : ℕ) (new old : List ℕ) → k ≤ n → length new ≡ n → length old ≡ n → length (take k new ++ drop k old) ≡ n
long_front k n new old fits l m = grind (arith, elements)

module _ {V : Type 0} (n : ℕ) (holds : List ℕ → List V → Type 0) where
  abbrev Cell : State (List ℕ) (Doing (List ℕ) V) → Type 0
  Cell = Versioned (λ x. x) n holds

  -- what a seat other than the writer knows stays so over a later version
  others_know : (v e v' e' : ℕ) (value next value' next' : List ℕ) (done writer done' writer' j : ℕ) → e < e' → (v % 2 ≡ 1 → j ≢ writer) → (st : Stage (List ℕ))
      → Knows v e value next done writer j st → Knows v' e' value' next' done' writer' j st
  others_know v e v' e' value next value' next' done writer done' writer' j more other Idle k = tt
  others_know v e v' e' value next value' next' done writer done' writer' j more other (Reading at seen x) k =
      let a = k.1 in let b = k.2 in (k.0, a, omega arith, λ is. absurd (omega arith))
  others_know v e v' e' value next value' next' done writer done' writer' j more other (Writing at old new c) k = absurd (other (ap (λ (z : ℕ). z % 2) (sym k.1) ∙ k.0) k.2)

  era_below : (s : State (List ℕ) (Doing (List ℕ) V)) (r : Cell s) → r.era ≤ get_or s.words 0 0
  era_below s r = dite (ℕ_discrete r.done 0) (λ z. let now = r.clean z in omega arith) (λ some_done. let now = r.dirty (omega arith) in omega arith)

  apart_stay : (K : ℕ → Stage (List ℕ) → Type 0) (vs : List (Doing (List ℕ) V)) (me : ℕ) (w : Doing (List ℕ) V) → K me w.stage
      → ((j : ℕ) (d : Doing (List ℕ) V) → j ≢ me → get_elem? vs j ≡ some d → K j d.stage) → (j : ℕ) (d : Doing (List ℕ) V) → get_elem? (set vs me w) j ≡ some d → K j d.stage
  apart_stay K vs me w mine others j d e = ⊎_elim (λ (t : (j ≡ me) × (w ≡ d)). subst (λ (x : ℕ × Doing (List ℕ) V). K x.0 x.1.stage) (λ i. (sym t.0 i, t.1 i)) mine)
      (λ (t : (j ≢ me) × (get_elem? vs j ≡ some d)). others j d t.0 t.1) (at_set vs me j w d e)

  -- the writer ends its write: this value stands there, under a later and even version
  ended : (s : State (List ℕ) (Doing (List ℕ) V)) (r : Cell s) (v me : ℕ) (cs : List (ℕ × List ℕ)) (w : Doing (List ℕ) V) (value : List ℕ) → w.stage ≡ Idle → r.era < v → v % 2 ≡ 0 → me ≡ r.writer
      → length value ≡ n → ((i : ℕ) → i < n → get_or s.words (i + 1) 0 ≡ get_or value i 0) → holds value (map client (set s.views me w)) → Cell (stepped s 0 v me cs w keeps)
  ended s r v me cs w value idles more even own long rest kept =
      let wide = r.wide in let now : get_or (set s.words 0 v) 0 0 ≡ v = get_or-set_same s.words 0 v 0 (omega arith) in record {
        value = value;
        next = value;
        done = 0;
        writer = me;
        era = v;
        wide = length-set s.words 0 v ∙ wide;
        long = long;
        at_rest = λ _. refl;
        clean = λ _. subst (λ (z : ℕ). v + z % 2 ≡ z) (sym now) (omega arith);
        dirty = λ l. absurd (omega arith);
        written = λ i l. absurd (omega arith);
        unwritten = λ i _ l. get_or-set_other s.words 0 (i + 1) v 0 (λ e. omega arith) ∙ rest i l;
        each_seat = subst (λ (z : ℕ). (j : ℕ) (d : Doing (List ℕ) V) → get_elem? (set s.views me w) j ≡ some d → Knows z v value value 0 me j d.stage) (sym now)
            (apart_stay (Knows v v value value 0 me) s.views me w (subst (Knows v v value value 0 me me) (sym idles) tt)
            (λ j d other at. others_know (get_or s.words 0 0) r.era v v r.value r.next value value r.done r.writer 0 me j more (λ odd is. other (is ∙ sym own)) d.stage (r.each_seat j d at)));
        kept = kept;
      }

  abbrev olds : List ℕ → Stage (List ℕ) → List ℕ
  olds d (Writing a old new k) = old
  olds d _ = d

  abbrev news : List ℕ → Stage (List ℕ) → List ℕ
  news d (Writing a old new k) = new
  news d _ = d

  abbrev counts : Stage (List ℕ) → ℕ
  counts (Writing a old new k) = k
  counts _ = 0

  pub publishes : (then : V → List ℕ → List ℕ → V → Type 0) (slots id : ℕ) (me : Me (List ℕ) (Doing (List ℕ) V)) (a k : ℕ) (old new : List ℕ) (v : ℕ) → me.0.stage ≡ Writing a old new k → v ≡ a + 1 → k ≤ n → length new ≡ n
      → TurnsAt holds id me.0.client old (take k new ++ drop k old) then → Allows Cell slots id me 0 (λ _. v) (λ _. published_over then (step slots 0 v 0 none) me v)
  publishes then slots id me a k old new v is up fits long asked s r wide at small =
      let known = subst (Knows (get_or s.words 0 0) r.era r.value r.next r.done r.writer id) is (r.each_seat id me.0 at) in
      let y : List ℕ = take k new ++ drop k old in
      let t = subst (λ (z : List ℕ). TurnsAt holds id me.0.client z y then) known.3 asked (map client s.views) r.kept (at_map client s.views id me.0 at) in
      let w : Doing (List ℕ) V = idle t.0 in
      let below = era_below s r in
      let odd : a % 2 ≡ 1 = known.0 in
      let here : a ≡ get_or s.words 0 0 = known.1 in
      let done : k ≡ r.done = known.5 in
      let more : k ≤ length new = omega (arith, long) in
      let old_long : length old ≡ n = ap length known.3 ∙ r.long in
      let stands : (i : ℕ) → i < n → get_or s.words (i + 1) 0 ≡ get_or y i 0 = λ i l. ⊎_elim
      (λ (b : i < k). r.written i (omega arith) ∙ (ap (λ (z : List ℕ). get_or z i 0) (sym known.4) ∙ sym (at_front k i new old more b)))
      (λ (b : k ≤ i). r.unwritten i (omega arith) l ∙ (ap (λ (z : List ℕ). get_or z i 0) (sym known.3) ∙ sym (behind_front k i new old more b)))
      (cases_lt i k) in (
        w,
        keeps,
        tt,
        ended s r v id me.1 w y refl (omega arith) (omega arith) known.2 (long_front k n new old fits long old_long) stands
            (subst (holds y) (sym (map-set client s.views id w)) t.1),
        λ a' old' new' k' is'. let same = sym is ∙ is' in
            subst (λ (z : List ℕ × List ℕ × ℕ). then me.0.client z.0 (take z.2 z.1 ++ drop z.2 z.0) t.0)
            (λ i. (ap (olds old) same i, ap (news new) same i, ap counts same i))
            (subst (λ (z : List ℕ). then me.0.client z y t.0) (sym known.3) t.2),
      )

-- ---- a read between whose two looks at the version nobody wrote has found the words in use
pub read_whole : {V : Type 0} (then : V → List ℕ → List ℕ → V → Type 0) (n at : ℕ) (room : List ℕ) (v w : V) (before after : Stage (List ℕ)) → at % 2 ≡ 0 → HasRead at before
    → IsGathered n room before after → IsValidRead (λ x. length x ≡ n) then v at w after → (x : List ℕ) × then v x x w × HasInUse n room x
read_whole then n at room v w before after even has gathered valid =
    let read = has even in
    let x : List ℕ = read.0 in
    let count : ℕ = gathered.1 in
    let some_read : 0 < count = gathered.2 in
    let all_read : in_use n room ≤ count = gathered.3 in
    let g = subst (λ (st : Stage (List ℕ)). Gathered (λ x. x) count room st after) read.1 gathered.4 in
    let found = (subst (λ (st : Stage (List ℕ)). IsValidRead (λ x. length x ≡ n) then v at w st) g.1 valid).0 refl in
    let each = (g.2 found.0).1 in
    let first : get_or room 0 0 ≡ get_or x 0 0 = each 0 some_read in
    let used : in_use n room ≡ in_use n x = ap (λ (z : ℕ). min z n) first in
    let long : length room ≡ length x = gathered.0 ∙ sym found.1 in
    let m : ℕ = in_use n x in (
      x,
      found.2,
      (
        found.1,
        same_number_lists (take m room) (take m x) (length-take m room ∙ (ap (min m) long ∙ sym (length-take m x)))
            (λ k l. let below : k < m = omega (arith, l, length-take m room) in
            get_or-take m room k 0 below ∙ (each k (omega (arith, below, used, all_read)) ∙ sym (get_or-take m x k 0 below))),
      ),
    )
