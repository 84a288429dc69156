-- What bytes that come do to how far a script has been followed.
use Rattle.std.proofs.Common.{◌≡◌, ◌≢◌, ℕ, ◌+◌, ◌*◌, ◌<◌, ◌≤◌, List, [], ◌∷◌, ◌++◌, length, take, drop, true, Option, Some, None, Result, Ok, Err, IfOk, refl, sym, ap, subst, ◌∙◌, arith, append-nil, append_assoc, length-append, if◌then◌else◌}
use Rattle.std.specs.Prelude.{slice_index}
use Rattle.std.specs.List.{AllByRecursion}
use Rattle.std.proofs.Math.Seq.{take-add}
use Rattle.hk_drill.specs.declared.stop.Stop.{Stop}
use Rattle.hk_drill.specs.declared.line.TheConstants.{MAX_LINE_LEN}
use Rattle.hk_drill.specs.Transcript.{DrillState, Outcome, is_feed, lines_of, behind, limit_at, script_from, followed}
use Rattle.hk_drill.specs.Progress.{HasNoFeed, with_feeds, AreLines, further, IsAt, HasStopped, IsAfter, IsPassed, IsRest, part_limit, number_after}
use Rattle.hk_drill.proofs.Cutting.{no_feed_more, some_bytes, lines_first, line_first, line_alone, part_first, take_drop, front_none, with_feed}
use Rattle.hk_drill.proofs.Following.{behind_both, passes_limit, limit_more}

-- ---- lines with their feeds
feeds_more : (lines : List (List ℕ)) (line part : List ℕ) → with_feeds (lines ++ line ∷ []) ≡ with_feeds lines ++ (line ++ 10 ∷ [])
feeds_more [] line part = refl
feeds_more (l ∷ lines) line part = ap (λ (bs : List ℕ). l ++ 10 ∷ bs) (feeds_more lines line part) ∙ sym (append_assoc l (10 ∷ with_feeds lines) (line ++ 10 ∷ []))

all_more : (lines : List (List ℕ)) (line : List ℕ) → AllByRecursion HasNoFeed lines → HasNoFeed line → AllByRecursion HasNoFeed (lines ++ line ∷ [])
all_more [] line h k = (k, tt)
all_more (l ∷ lines) line h k = (h.0, all_more lines line h.1 k)

lines_end : (bytes part last : List ℕ) (lines : List (List ℕ)) → AreLines bytes lines part → HasNoFeed last → AreLines (bytes ++ (last ++ 10 ∷ [])) (lines ++ (part ++ last) ∷ []) []
lines_end bytes part last lines are none = record {
  same = ap (λ (bs : List ℕ). bs ++ (last ++ 10 ∷ [])) are.same ∙ append_assoc (with_feeds lines) part (last ++ 10 ∷ [])
      ∙ ap (λ (bs : List ℕ). with_feeds lines ++ bs) (sym (append_assoc part last (10 ∷ [])))
      ∙ sym (feeds_more lines (part ++ last) []) ∙ sym (append-nil (with_feeds (lines ++ (part ++ last) ∷ [])));
  whole = all_more lines (part ++ last) are.whole (no_feed_more part last are.begun none);
  begun = tt;
}

lines_part : (bytes part more : List ℕ) (lines : List (List ℕ)) → AreLines bytes lines part → HasNoFeed more → AreLines (bytes ++ more) lines (part ++ more)
lines_part bytes part more lines are none = record {
  same = ap (λ (bs : List ℕ). bs ++ more) are.same ∙ append_assoc (with_feeds lines) part more;
  whole = are.whole;
  begun = no_feed_more part more are.begun none;
}

-- ---- where a script stands
pub at_first : (state : Option DrillState) → state ≡ None → IsAt [] [] 1 [] state
at_first state e = record {
  lines = [];
  cut = record { same = refl; whole = tt; begun = tt };
  few = omega arith;
  goes = λ later. ap (λ c. further 1 c later) (sym e);
}

-- a line more, which was passed
longer : (bytes part last : List ℕ) (n : ℕ) → length bytes ≤ n * (MAX_LINE_LEN + 1) + length part → length (part ++ last) ≤ MAX_LINE_LEN
    → length (bytes ++ (last ++ 10 ∷ [])) ≤ (n + 1) * (MAX_LINE_LEN + 1) + 0
longer bytes part last n few short =
    let a : length (part ++ last) ≡ length part + length last = length-append part last in
    let b : length (bytes ++ (last ++ 10 ∷ [])) ≡ length bytes + length (last ++ 10 ∷ []) = length-append bytes (last ++ 10 ∷ []) in
    let d : length (last ++ 10 ∷ []) ≡ length last + 1 = length-append last (10 ∷ []) in
    omega (arith, a, b, d, few, short)

pub at_line : (bytes told part last text : List ℕ) (n : ℕ) (state next : Option DrillState) → IsAt bytes told n part state → HasNoFeed last → length (part ++ last) ≤ MAX_LINE_LEN
    → ((later : List (List ℕ)) → further n state ((part ++ last) ∷ later) ≡ behind text (further (n + 1) next later))
    → IsAt (bytes ++ (last ++ 10 ∷ [])) (told ++ text) (n + 1) [] next
at_line bytes told part last text n state next at none short passed = record {
  lines = at.lines ++ (part ++ last) ∷ [];
  cut = lines_end bytes part last at.lines at.cut none;
  few = longer bytes part last n at.few short;
  goes = λ later.
      ap (script_from 1) (append_assoc at.lines ((part ++ last) ∷ []) later) ∙ at.goes ((part ++ last) ∷ later)
      ∙ ap (behind told) (passed later) ∙ behind_both told text (further (n + 1) next later);
}

pub at_part : (bytes told part more : List ℕ) (n : ℕ) (state : Option DrillState) → IsAt bytes told n part state → HasNoFeed more → IsAt (bytes ++ more) told n (part ++ more) state
at_part bytes told part more n state at none =
    let a : length (bytes ++ more) ≡ length bytes + length more = length-append bytes more in
    let b : length (part ++ more) ≡ length part + length more = length-append part more in
    let few : length bytes ≤ n * (MAX_LINE_LEN + 1) + length part = at.few in
    record {
      lines = at.lines;
      cut = lines_part bytes part more at.lines at.cut none;
      few = omega (arith, a, b, few);
      goes = at.goes;
    }

-- ---- a stop
told_front : (told : List ℕ) (f g : Outcome) (n : ℕ) (stop : Stop) → f ≡ behind told g → g.text ≡ [] → g.stop ≡ Some (n, stop) → (f.text ≡ told) × (f.stop ≡ Some (n, stop))
told_front told f g n stop e text is =
    (ap (λ h. h.text) e ∙ ap (λ (t : List ℕ). told ++ t) text ∙ append-nil told, ap (λ h. h.stop) e ∙ is)

-- the script, whatever follows, from the lines that have come
pub followed_at : (bytes told part more : List ℕ) (n : ℕ) (state : Option DrillState) → IsAt bytes told n part state
    → followed (bytes ++ more) ≡ behind told (further n state (lines_of (part ++ more)))
followed_at bytes told part more n state at =
    ap (λ (bs : List ℕ). followed (bs ++ more)) at.cut.same
    ∙ ap followed (append_assoc (with_feeds at.lines) part more)
    ∙ ap (script_from 1) (lines_first at.lines (part ++ more) at.cut.whole)
    ∙ at.goes (lines_of (part ++ more))

-- a line whose feed came stops the script
pub line_stopped : (bytes told part last : List ℕ) (n : ℕ) (state : Option DrillState) (stop : Stop) → IsAt bytes told n part state → HasNoFeed last
    → ((later : List (List ℕ)) → ((further n state ((part ++ last) ∷ later)).text ≡ []) × ((further n state ((part ++ last) ∷ later)).stop ≡ Some (n, stop)))
    → HasStopped (bytes ++ (last ++ 10 ∷ [])) told n stop
line_stopped bytes told part last n state stop at none stops more =
    let same : part ++ ((last ++ 10 ∷ []) ++ more) ≡ (part ++ last) ++ 10 ∷ more =
    ap (λ (bs : List ℕ). part ++ bs) (append_assoc last (10 ∷ []) more) ∙ sym (append_assoc part last (10 ∷ more)) in
    let first : lines_of (part ++ ((last ++ 10 ∷ []) ++ more)) ≡ (part ++ last) ∷ lines_of more =
    ap lines_of same ∙ line_first (part ++ last) more (no_feed_more part last at.cut.begun none) in
    let e : followed ((bytes ++ (last ++ 10 ∷ [])) ++ more) ≡ behind told (further n state ((part ++ last) ∷ lines_of more)) =
    ap followed (append_assoc bytes (last ++ 10 ∷ []) more) ∙ followed_at bytes told part ((last ++ 10 ∷ []) ++ more) n state at
    ∙ ap (λ ls. behind told (further n state ls)) first in
    let s = stops (lines_of more) in
    told_front told _ (further n state ((part ++ last) ∷ lines_of more)) n stop e s.0 s.1

-- a part of a line passes a limit
part_stops : (bytes told : List ℕ) (part : List ℕ) (n : ℕ) (state : Option DrillState) (stop : Stop) → IsAt bytes told n part state → part_limit n part ≡ Some stop
    → HasStopped bytes told n stop
part_stops bytes told [] n state stop at e more = absurd (cc)
part_stops bytes told (x ∷ part) n state stop at e more =
    let limit : limit_at n (x ∷ part) ≡ Some stop = sym (ap (λ b. if b then None else limit_at n (x ∷ part)) (some_bytes x part)) ∙ e in
    let first = part_first x part more at.cut.begun in
    let s = passes_limit n ((x ∷ part) ++ first.0) state stop first.1 (limit_more n (x ∷ part) first.0 stop limit) in
    told_front told _ (further n state (((x ∷ part) ++ first.0) ∷ first.1)) n stop
    (followed_at bytes told (x ∷ part) more n state at ∙ ap (λ ls. behind told (further n state ls)) first.2) s.0 s.1

pub part_after : (stop : Option Stop) (bytes told part : List ℕ) (n : ℕ) (state : Option DrillState) → IsAt bytes told n part state → stop ≡ part_limit n part
    → IsAfter stop bytes told n part state
part_after None bytes told part n state at e = at
part_after (Some stop) bytes told part n state at e = part_stops bytes told part n state stop at (sym e)

pub stopped_more : (bytes told more : List ℕ) (n : ℕ) (stop : Stop) → HasStopped bytes told n stop → HasStopped (bytes ++ more) told n stop
stopped_more bytes told more n stop stops later =
    subst (λ (bs : List ℕ). ((followed bs).text ≡ told) × ((followed bs).stop ≡ Some (n, stop))) (sym (append_assoc bytes more later)) (stops (more ++ later))

-- ---- the last line
pub rest_none : (n : ℕ) (state : Option DrillState) (text : List ℕ) → IsRest None n [] state n state text text
rest_none n state text = ([], sym (append-nil text), refl)

pub rest_passed : (stop : Option Stop) (n m : ℕ) (x : ℕ) (part : List ℕ) (state next : Option DrillState) (before after : List ℕ) → HasNoFeed (x ∷ part)
    → IsPassed stop n (x ∷ part) state next before after → (stop ≡ None → m ≡ n + 1) → ((s : Stop) → stop ≡ Some s → m ≡ n)
    → IsRest stop n (x ∷ part) state m next before after
rest_passed None n m x part state next before after none passed more same =
    (passed.1.0, passed.1.1, ap (further n state) (line_alone x part none) ∙ passed.1.2 [] ∙ ap (λ k. behind passed.1.0 (further k next [])) (sym (more refl)))
rest_passed (Some stop) n m x part state next before after none passed more same =
    let alone = line_alone x part none in
    let s = passed.1 [] in
    (passed.0, same stop refl, ap (λ ls. (further n state ls).text) alone ∙ s.0, ap (λ ls. (further n state ls).stop) alone ∙ s.1)

-- ---- the bytes of a piece
-- a line whose feed came
pub line_after : (stop : Option Stop) (bytes out part last before after : List ℕ) (n : ℕ) (state next : Option DrillState) → IsAt bytes (out ++ before) n part state → HasNoFeed last
    → IsPassed stop n (part ++ last) state next before after → IsAfter stop (bytes ++ (last ++ 10 ∷ [])) (out ++ after) (number_after stop n) [] next
line_after None bytes out part last before after n state next at none passed =
    subst (λ (told : List ℕ). IsAt (bytes ++ (last ++ 10 ∷ [])) told (n + 1) [] next) (append_assoc out before passed.1.0 ∙ ap (λ (t : List ℕ). out ++ t) (sym passed.1.1))
    (at_line bytes (out ++ before) part last passed.1.0 n state next at none passed.0 passed.1.2)
line_after (Some stop) bytes out part last before after n state next at none passed =
    subst (λ (told : List ℕ). HasStopped (bytes ++ (last ++ 10 ∷ [])) told n stop) (ap (λ (t : List ℕ). out ++ t) (sym passed.0))
    (line_stopped bytes (out ++ before) part last n state stop at none passed.1)

-- the next line of a piece, up to its feed
module _ (piece rest : List ℕ) (at feed : ℕ) (is_rest : rest ≡ drop at piece) (within : feed < length rest)
    (none : (j : ℕ) → j < feed → is_feed (slice_index rest j) ≡ true → ⊥) (found : is_feed (slice_index rest feed) ≡ true) where
  pub line_none : HasNoFeed (take feed rest)
  line_none = front_none rest feed (omega (arith, within)) none

  pub front_more : take (at + (feed + 1)) piece ≡ take at piece ++ (take feed rest ++ 10 ∷ [])
  front_more = take-add at (feed + 1) piece ∙ ap (λ (bs : List ℕ). take at piece ++ take (feed + 1) bs) (sym is_rest)
      ∙ ap (λ (bs : List ℕ). take at piece ++ bs) (with_feed rest feed within found)

  pub next_line : (stop : Option Stop) (bytes out part before after : List ℕ) (n : ℕ) (state next : Option DrillState) → IsAt (bytes ++ take at piece) (out ++ before) n part state
      → IsPassed stop n (part ++ take feed rest) state next before after → IsAfter stop (bytes ++ take (at + (feed + 1)) piece) (out ++ after) (number_after stop n) [] next
  next_line stop bytes out part before after n state next stands passed =
      subst (λ (bs : List ℕ). IsAfter stop bs (out ++ after) (number_after stop n) [] next)
      (append_assoc bytes (take at piece) (take feed rest ++ 10 ∷ []) ∙ ap (λ (bs : List ℕ). bytes ++ bs) (sym front_more))
      (line_after stop (bytes ++ take at piece) out part (take feed rest) before after n state next stands line_none passed)

-- the script has stopped within a piece
pub whole_piece : (bytes piece told : List ℕ) (at n : ℕ) (stop : Stop) → HasStopped (bytes ++ take at piece) told n stop → HasStopped (bytes ++ piece) told n stop
whole_piece bytes piece told at n stop stops =
    subst (λ (bs : List ℕ). HasStopped bs told n stop) (append_assoc bytes (take at piece) (drop at piece) ∙ ap (λ (bs : List ℕ). bytes ++ bs) (sym (take_drop at piece)))
    (stopped_more (bytes ++ take at piece) told (drop at piece) n stop stops)

-- the bytes behind the last feed of a piece
pub rest_after : (stop : Option Stop) (bytes piece rest told part : List ℕ) (at n : ℕ) (state : Option DrillState) → rest ≡ drop at piece → HasNoFeed rest
    → IsAt (bytes ++ take at piece) told n part state → stop ≡ part_limit n (part ++ rest) → IsAfter stop (bytes ++ piece) told n (part ++ rest) state
rest_after stop bytes piece rest told part at n state is_rest none stands limit =
    let whole : (bytes ++ take at piece) ++ rest ≡ bytes ++ piece =
    append_assoc bytes (take at piece) rest ∙ ap (λ (bs : List ℕ). bytes ++ (take at piece ++ bs)) is_rest ∙ ap (λ (bs : List ℕ). bytes ++ bs) (sym (take_drop at piece)) in
    part_after stop (bytes ++ piece) told (part ++ rest) n state
    (subst (λ (bs : List ℕ). IsAt bs told n (part ++ rest) state) whole (at_part (bytes ++ take at piece) told part rest n state stands none)) limit

-- ---- what the code of a piece does: it goes on from P of what was read and written before
module _ (P : List ℕ → List ℕ → Type 0) (piece rest : List ℕ) (at : ℕ) (text part : List ℕ) (n : ℕ) (state : Option DrillState) (is_rest : rest ≡ drop at piece)
    (stands : (read out : List ℕ) → P read out → IsAt (read ++ take at piece) (out ++ text) n part state) where
  pub kept_all : {E : Type 0} (r : Result (Option Stop) E) (text' part' : List ℕ) (n' : ℕ) (state' : Option DrillState) → HasNoFeed rest
      → n' ≡ n → state' ≡ state → text' ≡ text → IfOk r (λ stop. part' ≡ part ++ rest) → IfOk r (λ stop. stop ≡ part_limit n part')
      → IfOk r (λ stop. (read out : List ℕ) → P read out → IsAfter stop (read ++ piece) (out ++ text') n' part' state')
  kept_all (Err e) text' part' n' state' none number same told line limit = tt
  kept_all (Ok stop) text' part' n' state' none number same told line limit = λ read out p.
      let short : stop ≡ part_limit n (part ++ rest) = limit ∙ ap (part_limit n) line in
      rw (number, same, told, line) (rest_after stop read piece rest (out ++ text) part at n state is_rest none (stands read out p) short)

  module _ (feed : ℕ) (within : feed < length rest) (none : (j : ℕ) → j < feed → is_feed (slice_index rest j) ≡ true → ⊥) (found : is_feed (slice_index rest feed) ≡ true)
      (last after : List ℕ) (is_last : last ≡ take feed rest) (made : Option Stop) (n' : ℕ) (next : Option DrillState) (number : n' ≡ number_after made n)
      (passed : IsPassed made n (part ++ last) state next text after) where
    ended : (read out : List ℕ) → P read out → IsAfter made (read ++ take (at + (feed + 1)) piece) (out ++ after) (number_after made n) [] next
    ended read out p =
        next_line piece rest at feed is_rest within none found made read out part text after n state next (stands read out p)
        (subst (λ (l : List ℕ). IsPassed made n (part ++ l) state next text after) is_last passed)

    pub ended_on : (part' : List ℕ) → made ≡ None → part' ≡ [] → (read out : List ℕ) → P read out → IsAt (read ++ take (at + (feed + 1)) piece) (out ++ after) n' part' next
    ended_on part' e empty read out p =
        let here = subst (λ s. IsAfter s (read ++ take (at + (feed + 1)) piece) (out ++ after) (number_after s n) [] next) e (ended read out p) in
        let m : n' ≡ n + 1 = number ∙ ap (λ s. number_after s n) e in
        rw (m, empty) here

    pub ended_at : (stop : Stop) → made ≡ Some stop → (read out : List ℕ) → P read out → HasStopped (read ++ piece) (out ++ after) n' stop
    ended_at stop e read out p =
        let here = subst (λ s. IsAfter s (read ++ take (at + (feed + 1)) piece) (out ++ after) (number_after s n) [] next) e (ended read out p) in
        let m : n' ≡ n = number ∙ ap (λ s. number_after s n) e in
        rw m (whole_piece read piece (out ++ after) (at + (feed + 1)) n stop here)

-- ---- what the code of the last line does
rest_at : (stop : Option Stop) (n m : ℕ) (part : List ℕ) (state next : Option DrillState) (before after : List ℕ) → length part ≢ 0 → HasNoFeed part
    → IsPassed stop n part state next before after → m ≡ number_after stop n → IsRest stop n part state m next before after
rest_at stop n m [] state next before after some none passed number = absurd (some refl)
rest_at stop n m (x ∷ part) state next before after some none passed number =
    rest_passed stop n m x part state next before after none passed (λ e. number ∙ ap (λ s. number_after s n) e) (λ s e. number ∙ ap (λ t. number_after t n) e)

pub rest_all : {E : Type 0} (r : Result (Option Stop) E) (n m : ℕ) (line part : List ℕ) (state next : Option DrillState) (before after : List ℕ) → line ≡ part → length part ≢ 0 → HasNoFeed part
    → IfOk r (λ stop. IsPassed stop n line state next before after) → IfOk r (λ stop. m ≡ number_after stop n) → IfOk r (λ stop. IsRest stop n part state m next before after)
rest_all (Ok stop) n m line part state next before after same some none passed number =
    rest_at stop n m part state next before after some none (subst (λ (l : List ℕ). IsPassed stop n l state next before after) same passed) number
rest_all (Err e) n m line part state next before after same some none passed number = tt
