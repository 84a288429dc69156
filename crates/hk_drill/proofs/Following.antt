-- How a script goes on from one line to the next.
use Rattle.std.proofs.Common.{◌≡◌, ℕ, ◌+◌, ◌<◌, ◌≤◌, List, [], ◌∷◌, ◌++◌, length, Bool, true, false, Option, Some, None, Result, Ok, Err, if◌then◌else◌, nat_lt, IfSome, IfOk, refl, sym, ap, subst, ◌∙◌, arith, append-nil, append_assoc, length-append}
use Rattle.std.proofs.lemmas.Bool.Decides.{nat_tests}
use Rattle.hk_event.specs.declared.event.Header.{Header}
use Rattle.hk_script.specs.Lines.{header_of}
use Rattle.hk_drill.specs.declared.stop.Stop.{Stop}
use Rattle.hk_drill.specs.declared.stop.Stop.TheVariants.{Bad, Long, Lines}
use Rattle.hk_drill.specs.declared.line.TheConstants.{MAX_LINE_LEN, MAX_LINES}
use Rattle.hk_drill.specs.Transcript.{DrillState, Next, Outcome, line_at, limit_at, read_at, is_skipped, behind, stopped, first_state, follow, follow_under, script_from}
use Rattle.hk_drill.specs.Taken.{IsTaken}
use Rattle.hk_drill.specs.Progress.{further, IsPassed, IsBegun, IsCounted, state_under, begun_by}
use Rattle.hk_script.specs.declared.fault.LineFault.{LineFault}
use Rattle.hk_script.specs.declared.fault.LineFault.TheVariants as LineFault
use Rattle.hk_script.specs.Reading.{IsHeaderRead}
use Rattle.hk_script.specs.Grammar.{IsHeaderLine}
use Rattle.hk_script.proofs.Exact.{header_read}
use Rattle.hk_drill.proofs.Reading.{header_refused}
use Rattle.hk_drill.proofs.DrillStates.{count_next}

-- ---- what was told before
pub behind_none : (f : Outcome) → behind [] f ≡ f
behind_none f = refl

pub behind_both : (a b : List ℕ) (f : Outcome) → behind a (behind b f) ≡ behind (a ++ b) f
behind_both a b f = ap (λ (t : List ℕ). let g : Outcome = record { state = f.state; text = t; stop = f.stop } in g) (sym (append_assoc a b f.text))

-- ---- one line behind the header
abbrev pub go_on : ℕ → DrillState → List (List ℕ) → Result Next Stop → Outcome
go_on n c lines (Ok next) = behind next.text (follow (n + 1) next.state lines)
go_on n c lines (Err stop) = stopped (Some c) n stop

pub follow-cons : (n : ℕ) (c : DrillState) (line : List ℕ) (lines : List (List ℕ)) → follow n c (line ∷ lines) ≡ go_on n c lines (line_at n line c)
unfolding follow
follow-cons n c line lines = at (line_at n line c)
  where
    at : (r : Result Next Stop) → elim r [ Ok next ↦ behind next.text (follow (n + 1) next.state lines) | Err stop ↦ stopped (Some c) n stop ] ≡ go_on n c lines r
    at (Ok next) = refl
    at (Err stop) = refl

line_at_limit : (n : ℕ) (line : List ℕ) (c : DrillState) (limit : Option Stop) → limit_at n line ≡ limit → line_at n line c ≡ read_at c limit line
unfolding line_at
line_at_limit n line c limit e = ap (λ l. read_at c l line) e

-- ---- a line before the header
abbrev pub begin_at : ℕ → List ℕ → List (List ℕ) → Option Stop → Outcome
begin_at n line lines None = if is_skipped line then script_from (n + 1) lines else follow_under n (header_of line) lines
begin_at n line lines (Some stop) = stopped None n stop

pub script_from-cons : (n : ℕ) (line : List ℕ) (lines : List (List ℕ)) → script_from n (line ∷ lines) ≡ begin_at n line lines (limit_at n line)
unfolding script_from
script_from-cons n line lines = at (limit_at n line)
  where
    at : (limit : Option Stop) → elim limit [ None ↦ (if is_skipped line then script_from (n + 1) lines else follow_under n (header_of line) lines) | Some stop ↦ stopped None n stop ] ≡ begin_at n line lines limit
    at None = refl
    at (Some stop) = refl

pub script_ends : (n : ℕ) → script_from n [] ≡ stopped None n Bad
unfolding script_from
script_ends n = refl

pub follow_ends : (n : ℕ) (c : DrillState) → follow n c [] ≡ record { state = Some c; text = []; stop = None }
unfolding follow
follow_ends n c = refl

-- ---- limits
pub within_line : (n : ℕ) (line : List ℕ) → limit_at n line ≡ None → (n ≤ MAX_LINES) × (length line ≤ MAX_LINE_LEN)
unfolding limit_at
within_line n line e = at (nat_lt MAX_LINES n) (nat_lt MAX_LINE_LEN (length line)) refl refl e
  where
    at : (a b : Bool) → nat_lt MAX_LINES n ≡ a → nat_lt MAX_LINE_LEN (length line) ≡ b → ◌≡◌ {A = Option Stop} (if a then Some Lines else (if b then Some Long else None)) None
        → (n ≤ MAX_LINES) × (length line ≤ MAX_LINE_LEN)
    at true b p q e = cc
    at false true p q e = cc
    at false false p q e = (grind (arith, nat_tests), grind (arith, nat_tests))

-- a limit that a part of a line passes, the line passes
pub limit_more : (n : ℕ) (part end : List ℕ) (stop : Stop) → limit_at n part ≡ Some stop → limit_at n (part ++ end) ≡ Some stop
unfolding limit_at
limit_more n part end stop e = at (nat_lt MAX_LINES n) (nat_lt MAX_LINE_LEN (length part)) refl e
  where
    at : (a b : Bool) → nat_lt MAX_LINE_LEN (length part) ≡ b → ◌≡◌ {A = Option Stop} (if a then Some Lines else (if b then Some Long else None)) (Some stop)
        → ◌≡◌ {A = Option Stop} (if a then Some Lines else (if nat_lt MAX_LINE_LEN (length (part ++ end)) then Some Long else None)) (Some stop)
    at true b p e = e
    at false false p e = cc
    at false true p e = let longer : nat_lt MAX_LINE_LEN (length (part ++ end)) ≡ true = grind (arith, nat_tests, length-append) in rw longer e

-- ---- a line is passed
stops_is : (n : ℕ) (stop : Stop) (state : Option DrillState) (f : Outcome) → f ≡ stopped state n stop → (f.text ≡ []) × (f.stop ≡ Some (n, stop))
stops_is n stop state f e = (ap (λ g. g.text) e, ap (λ g. g.stop) e)

pub passes_limit : (n : ℕ) (line : List ℕ) (state : Option DrillState) (stop : Stop) (later : List (List ℕ)) → limit_at n line ≡ Some stop
    → ((further n state (line ∷ later)).text ≡ []) × ((further n state (line ∷ later)).stop ≡ Some (n, stop))
passes_limit n line None stop later e = stops_is n stop None (script_from n (line ∷ later)) (script_from-cons n line later ∙ ap (begin_at n line later) e)
passes_limit n line (Some c) stop later e = stops_is n stop (Some c) (follow n c (line ∷ later)) (follow-cons n c line later ∙ ap (go_on n c later) (line_at_limit n line c (Some stop) e))

pub limit_passed : (n : ℕ) (line : List ℕ) (state next : Option DrillState) (stop : Stop) (text : List ℕ) → Some stop ≡ limit_at n line → IsPassed (Some stop) n line state next text text
limit_passed n line state next stop text e = (refl, λ later. passes_limit n line state stop later (sym e))

passes_read : (n : ℕ) (line : List ℕ) (c d : DrillState) (before after : List ℕ) (made : Result Next Stop) → limit_at n line ≡ None → line_at n line c ≡ made
    → (stop : Option Stop) → IsTaken stop d before after made → IsPassed stop n line (Some c) (Some d) before after
passes_read n line c d before after (Ok next) e is None taken =
    let same : (later : List (List ℕ)) → go_on n c later (Ok next) ≡ behind next.text (follow (n + 1) d later) = λ later. ap (λ (x : DrillState). behind next.text (follow (n + 1) x later)) taken.0 in
    ((within_line n line e).1, (next.text, taken.1, λ later. follow-cons n c line later ∙ ap (go_on n c later) is ∙ same later))
passes_read n line c d before after (Err stop) e is None taken = absurd taken
passes_read n line c d before after made e is (Some stop) taken =
    (taken.1, λ later. stops_is n stop (Some c) (follow n c (line ∷ later)) (follow-cons n c line later ∙ ap (go_on n c later) (is ∙ taken.0)))

pub state_passed : (stop : Option Stop) (n : ℕ) (line : List ℕ) (c d : DrillState) (before after : List ℕ) → limit_at n line ≡ None → IsTaken stop d before after (read_at c None line)
    → IsPassed stop n line (Some c) (Some d) before after
state_passed stop n line c d before after e taken = passes_read n line c d before after (read_at c None line) e (line_at_limit n line c None e) stop taken

-- what a line before the header makes
abbrev begins_with : ℕ → Option Header → List (List ℕ) → Result (Option DrillState) Stop → Outcome
begins_with n header lines (Ok state) = further (n + 1) state lines
begins_with n header lines (Err stop) = stopped None n stop

begun_is : (n : ℕ) (line : List ℕ) (later : List (List ℕ)) → limit_at n line ≡ None → script_from n (line ∷ later) ≡ begins_with n (header_of line) later (begun_by line)
begun_is n line later e = script_from-cons n line later ∙ ap (begin_at n line later) e ∙ at (is_skipped line) (header_of line)
  where
    under : (header : Option Header) → follow_under n header later ≡ begins_with n header later (state_under header)
    under None = refl
    under (Some h) = refl

    at : (skipped : Bool) (header : Option Header) → (if skipped then script_from (n + 1) later else follow_under n header later) ≡ begins_with n header later (if skipped then Ok None else state_under header)
    at true header = refl
    at false header = under header

pub begun_passed : (stop : Option Stop) (n : ℕ) (line : List ℕ) (next : Option DrillState) (text : List ℕ) → limit_at n line ≡ None → IsBegun stop next (begun_by line)
    → IsPassed stop n line None next text text
begun_passed None n line next text e begun =
    ((within_line n line e).1, ([], sym (append-nil text), λ later. begun_is n line later e ∙ ap (begins_with n (header_of line) later) begun))
begun_passed (Some stop) n line next text e begun =
    (refl, λ later. stops_is n stop None (script_from n (line ∷ later)) (begun_is n line later e ∙ ap (begins_with n (header_of line) later) begun))

-- ---- counts
counted_more : (n : ℕ) (line : List ℕ) (c d : DrillState) (before after : List ℕ) → limit_at n line ≡ None → c.count < n → IsTaken None d before after (read_at c None line)
    → IsCounted (n + 1) (Some d)
counted_more n line c d before after e few taken =
    let next : d.count ≤ c.count + 1 = count_next line c d before after taken in
    record { within = (let w : n ≤ MAX_LINES = (within_line n line e).0 in omega (arith, w)); fewer = omega (arith, next, few) }

pub counted_begun : (n : ℕ) (line : List ℕ) (next : Option DrillState) → limit_at n line ≡ None → IsBegun None next (begun_by line) → IsCounted (n + 1) next
counted_begun n line next e begun = record { within = (let w : n ≤ MAX_LINES = (within_line n line e).0 in omega (arith, w)); fewer = at (is_skipped line) (header_of line) begun }
  where
    under : (header : Option Header) → state_under header ≡ Ok next → IfSome next (λ c. c.count < n + 1)
    under None e = absurd (cc)
    under (Some h) e = subst (λ (r : Result (Option DrillState) Stop). IfOk r (λ o. IfSome o (λ c. c.count < n + 1))) e (omega arith)

    at : (skipped : Bool) (header : Option Header) → (if skipped then Ok None else state_under header) ≡ Ok next → IfSome next (λ c. c.count < n + 1)
    at true header e = subst (λ (r : Result (Option DrillState) Stop). IfOk r (λ o. IfSome o (λ c. c.count < n + 1))) e tt
    at false header e = under header e

-- ---- what the code of one line does
all_stop : {E : Type 0} (r : Result (Option Stop) E) (P Q : Option Stop → Type 0) → ((stop : Option Stop) → P stop → Q stop) → IfOk r P → IfOk r Q
all_stop (Ok stop) P Q f p = f stop p
all_stop (Err e) P Q f p = tt

pub state_passes : {E : Type 0} (r : Result (Option Stop) E) (n : ℕ) (line : List ℕ) (state : Option DrillState) (c d : DrillState) (before after : List ℕ) → state ≡ Some c → limit_at n line ≡ None
    → IfOk r (λ stop. IsTaken stop d before after (read_at c None line)) → IfOk r (λ stop. IsPassed stop n line state (Some d) before after)
state_passes r n line state c d before after e within taken =
    rw e (all_stop r (λ stop. IsTaken stop d before after (read_at c None line)) (λ stop. IsPassed stop n line (Some c) (Some d) before after)
    (λ stop is. state_passed stop n line c d before after within is) taken)

pub state_counts : {E : Type 0} (r : Result (Option Stop) E) (n : ℕ) (line : List ℕ) (state : Option DrillState) (c d : DrillState) (before after : List ℕ) → state ≡ Some c → limit_at n line ≡ None
    → IsCounted n state → IfOk r (λ stop. IsTaken stop d before after (read_at c None line)) → IfOk r (λ stop. stop ≡ None → IsCounted (n + 1) (Some d))
state_counts r n line state c d before after e within counted taken =
    let few : c.count < n = subst (λ o. IfSome o (λ x. x.count < n)) e counted.fewer in
    all_stop r (λ stop. IsTaken stop d before after (read_at c None line)) (λ stop. stop ≡ None → IsCounted (n + 1) (Some d))
    (λ stop is none. counted_more n line c d before after within few (subst (λ s. IsTaken s d before after (read_at c None line)) none is)) taken

pub begun_passes : {E : Type 0} (r : Result (Option Stop) E) (n : ℕ) (line : List ℕ) (state next : Option DrillState) (text : List ℕ) → state ≡ None → limit_at n line ≡ None
    → IfOk r (λ stop. IsBegun stop next (begun_by line)) → IfOk r (λ stop. IsPassed stop n line state next text text)
begun_passes r n line state next text e within begun =
    rw e (all_stop r (λ stop. IsBegun stop next (begun_by line)) (λ stop. IsPassed stop n line None next text text) (λ stop is. begun_passed stop n line next text within is) begun)

pub begun_counts : {E : Type 0} (r : Result (Option Stop) E) (n : ℕ) (line : List ℕ) (next : Option DrillState) → limit_at n line ≡ None
    → IfOk r (λ stop. IsBegun stop next (begun_by line)) → IfOk r (λ stop. stop ≡ None → IsCounted (n + 1) next)
begun_counts r n line next within begun =
    all_stop r (λ stop. IsBegun stop next (begun_by line)) (λ stop. stop ≡ None → IsCounted (n + 1) next)
    (λ stop is none. counted_begun n line next within (subst (λ s. IsBegun s next (begun_by line)) none is)) begun

-- ---- the header
bad_header : (line : List ℕ) (fault : LineFault) → IsHeaderRead (Err fault) line → ◌≡◌ {A = Result Header LineFault} (Err fault) (Err LineFault.Bad)
    → header_of line ≡ None
bad_header line LineFault.Memory read e = cc
bad_header line LineFault.Bad read e = header_refused line read

begun_under : (line : List ℕ) → is_skipped line ≡ false → begun_by line ≡ state_under (header_of line)
begun_under line e = ap (λ b. if b then Ok None else state_under (header_of line)) e

pub begun_bad : (line : List ℕ) (fault : LineFault) → is_skipped line ≡ false → IsHeaderRead (Err fault) line → ◌≡◌ {A = Result Header LineFault} (Err fault) (Err LineFault.Bad)
    → begun_by line ≡ Err Bad
begun_bad line fault e read is = begun_under line e ∙ ap state_under (bad_header line fault read is)

pub begun_header : (line : List ℕ) (header : Header) (c : DrillState) → is_skipped line ≡ false → IsHeaderLine line header → c ≡ first_state header
    → begun_by line ≡ Ok (Some c)
begun_header line header c e is same =
    begun_under line e ∙ ap state_under (header_read line header is) ∙ ap (λ (k : DrillState). let r : Result (Option DrillState) Stop = Ok (Some k) in r) (sym same)
