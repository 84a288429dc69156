-- What may be printed.
use Rattle.std.proofs.Common.{◌≡◌, ◌<◌, ◌≤◌, ◌==◌, ◌&&◌, ℕ, zero, suc, min, Bool, true, false, cond, List, [], ◌∷◌, ◌++◌, length, take, slice_get, Option, None, Some, refl, sym, subst, arith, All}
use Rattle.std.specs.List.{AllByRecursion, flat_map}
use Rattle.std.proofs.lemmas.Bool.{eqb-true}
use Rattle.std.proofs.lemmas.List.{length-take}
use Rattle.std.proofs.lemmas.List.Elements.{All-from_recursion, All-take, All-append}
use Rattle.hk_base.specs.declared.stamp.NodeId.{NodeId}
use Rattle.hk_base.specs.declared.letter.Actor.TheVariants as actors
use Rattle.hk_base.specs.declared.view.View.{View}
use Rattle.hk_base.specs.View.{is_member}
use Rattle.hk_fields.specs.declared.tickets.Ticket.{Ticket}
use Rattle.hk_inside.specs.declared.board.BoardLine.{BoardLine}
use Rattle.hk_fields.specs.declared.hosts.HostTickets.{HostTickets}
use Rattle.hk_inside.specs.declared.inquiry.Inquiry.{Inquiry}
use Rattle.hk_inside.specs.declared.inquiry.Inquiry.TheVariants as asks
use Rattle.hk_inside.specs.Parts.{IsLineInRange, IsBoardInRange}
use Rattle.hk_log.specs.Entries.{IsActorInRange, IsEntryInRange}
use Rattle.hk_stage.specs.declared.event.StageAnswer.{StageAnswer}
use Rattle.hk_stage.specs.declared.event.StageAnswer.TheVariants as stages
use Rattle.hk_stage.specs.declared.event.StageEvent.TheVariants as event
use Rattle.hk_stage.specs.declared.opening.OpeningStep.{OpeningStep}
use Rattle.hk_stage.specs.Opening.{stepped, takes_letters}
use Rattle.hk_stage.specs.Laws.{FoundWhileReserved}
use Rattle.hk_roll.specs.declared.answer.RollStep.{RollStep}
use Rattle.hk_roll.specs.declared.answer.RollAnswer.{RollAnswer}
use Rattle.hk_roll.specs.declared.answer.RollAnswer.TheVariants as rolls
use Rattle.hk_roll.specs.declared.answer.RollRefusal.TheVariants as refusals
use Rattle.hk_roll.specs.declared.binding.Binding.{Binding}
use Rattle.hk_roll.specs.Rolls.{bound}
use Rattle.hk_roll.specs.Boards.{names, same_ticket}
use Rattle.hk_roll.specs.Steps.{claimed, seated}
use Rattle.hk_roll.specs.Laws.{BindsByTheRule}
use Rattle.hk_reports.specs.declared.kept.Came.{Came}
use Rattle.hk_reports.specs.Hearing.{last_of_manager}
use Rattle.hk_office.specs.declared.board.Asker.{Asker}
use Rattle.hk_office.specs.declared.office.Office.{Office}
use Rattle.hk_office.specs.declared.refusal.OfficeRefusal.{OfficeRefusal}
use Rattle.hk_office.specs.declared.refusal.OfficeRefusal.TheVariants.{Wait, NoSuchMember}
use Rattle.hk_office.specs.Answers.{refused}
use Rattle.hk_office.specs.Numbers.{numbers}
use Rattle.hk_office.specs.Marks.{is_in_view}
use Rattle.hk_office.specs.Board.{last_of, inside_of, node_line, manager_line, bound_line, bound_manager, line_at, manager_at, neither_line, asker_lines_of, asker_lines, places, asker_of, board}
use Rattle.hk_office.specs.Founding.{opening_logged, fits_at, fits, stage_answer}
use Rattle.hk_office.specs.Seating.{roll_answer, seating_of, binding_taken_by, given_noted, seat_given, number_claimed}
use Rattle.hk_office.specs.Leaving.{leaver_of, against_leave, left_by, left_at, left}
use Rattle.hk_office.specs.Steps.{Made, stays, with_report, found_by, found_step, found, if_open, inquired}
use Rattle.hk_office.specs.Ranges.{IsAnswerInRange, HasFoundingInRange, StaysInRange}

-- ---- boards

least : (n : ℕ) → min 255 n ≤ 255
least n = grind arith

take_short : (xs : List ℕ) → length (take 255 xs) < 256
take_short xs = let e : length (take 255 xs) ≡ min 255 (length xs) = length-take 255 xs in let l = least (length xs) in omega (arith, e, l)

inside_short : (x : Option Came) → length (inside_of x) < 256
inside_short None = omega arith
inside_short (Some c) = take_short c.report.inside

abbrev Fit : List BoardLine → Type 0
Fit xs = All IsLineInRange xs

none_fit : Fit []
none_fit = All-from_recursion IsLineInRange [] tt

one_fits : (l : BoardLine) → IsLineInRange l → Fit (l ∷ [])
one_fits l fits = All-from_recursion IsLineInRange (l ∷ []) (fits, tt)

flat_fit : {A : Type 0} (f : A → List BoardLine) (xs : List A) → ((x : A) → Fit (f x)) → Fit (flat_map f xs)
flat_fit f [] fits = none_fit
flat_fit f (x ∷ xs) fits = All-append IsLineInRange (f x) (flat_map f xs) (fits x) (flat_fit f xs fits)

bound_fit : (x : Option Ticket) (o : Office) (now : ℕ) (views : List View) (n : NodeId) → Fit (bound_line o now views n x)
bound_fit None o now views n = none_fit
bound_fit (Some t) o now views n = one_fits (node_line o now views n t) (record { party = tt; inside = inside_short (last_of t o) })

line_fit : (o : Office) (now : ℕ) (views : List View) (n : NodeId) → Fit (line_at o now views n)
unfolding line_at
line_fit o now views n = bound_fit (bound (actors.Node n) o.roll) o now views n

manager_fit_by : (x : Option Ticket) (o : Office) (p : ℕ) → p < 9 → Fit (bound_manager o p x)
manager_fit_by None o p few = none_fit
manager_fit_by (Some t) o p few = one_fits (manager_line o p t) (record { party = few; inside = inside_short (last_of_manager p o.reports.came) })

manager_fit : (o : Office) (p : ℕ) → p < 9 → Fit (manager_at o p)
unfolding manager_at
manager_fit o p few = manager_fit_by (bound (actors.Manager p) o.roll) o p few

-- the lines of these places
managers_fit_from : (o : Office) (ps : List ℕ) → AllByRecursion (λ (p : ℕ). p < 9) ps → Fit (flat_map (manager_at o) ps)
managers_fit_from o [] few = none_fit
managers_fit_from o (p ∷ ps) few = All-append IsLineInRange (manager_at o p) (flat_map (manager_at o) ps) (manager_fit o p few.0) (managers_fit_from o ps few.1)

managers_fit : (o : Office) → Fit (flat_map (manager_at o) places)
managers_fit o = managers_fit_from o places (omega arith, (omega arith, (omega arith, (omega arith, (omega arith, (omega arith, (omega arith, (omega arith, (omega arith, tt)))))))))

neither_fit : (o : Office) (now : ℕ) (x : Option NodeId) (t : Ticket) → Fit (neither_line o now x t ∷ [])
neither_fit o now x t = one_fits (neither_line o now x t) (record { party = tt; inside = inside_short (last_of t o) })

asker_fit : (x : Option NodeId) (o : Office) (now : ℕ) (views : List View) (nodes : List NodeId) (t : Ticket) → Fit (asker_lines_of x o now views nodes t)
asker_fit None o now views nodes t = neither_fit o now None t
asker_fit (Some n) o now views nodes t = at (names t (bound (actors.Node n) o.roll)) (is_member n nodes)
  where
    at : (own known : Bool) → Fit (cond own (cond known [] (line_at o now views n)) (neither_line o now (Some n) t ∷ []))
    at true true = none_fit
    at true false = line_fit o now views n
    at false known = neither_fit o now (Some n) t

few_lines : (xs : List BoardLine) → length (take 255 xs) < 256
few_lines xs = let e : length (take 255 xs) ≡ min 255 (length xs) = length-take 255 xs in let l = least (length xs) in omega (arith, e, l)

board_fits : (o : Office) (now : ℕ) (views : List View) (a : Asker) → IsBoardInRange (board o now views a)
board_fits o now views a =
    let nodes : Fit (flat_map (line_at o now views) (numbers views)) = flat_fit (line_at o now views) (numbers views) (line_fit o now views) in
    let both : Fit (flat_map (line_at o now views) (numbers views) ++ flat_map (manager_at o) places) =
    All-append IsLineInRange (flat_map (line_at o now views) (numbers views)) (flat_map (manager_at o) places) nodes (managers_fit o) in
    let fit : Fit (flat_map (line_at o now views) (numbers views) ++ flat_map (manager_at o) places ++ asker_lines o now views (numbers views) a) =
    All-append IsLineInRange (flat_map (line_at o now views) (numbers views) ++ flat_map (manager_at o) places) (asker_lines o now views (numbers views) a) both
    (asker_fit a.node o now views (numbers views) a.ticket) in
    record {
      few = few_lines (flat_map (line_at o now views) (numbers views) ++ flat_map (manager_at o) places ++ asker_lines o now views (numbers views) a);
      lines = All-take IsLineInRange 255 (flat_map (line_at o now views) (numbers views) ++ flat_map (manager_at o) places ++ asker_lines o now views (numbers views) a) fit;
    }

-- ---- answers

roll_fits : (a : RollAnswer) → IsAnswerInRange (roll_answer a)
roll_fits (rolls.Seated n) = tt
roll_fits rolls.Yes = tt
roll_fits (rolls.No (refusals.Taken n)) = tt
roll_fits (rolls.No refusals.Wait) = tt

taken_fits : (b : Option Binding) (o : Office) (now : ℕ) (answer : RollAnswer) → IsAnswerInRange (binding_taken_by b o now answer).0.answer
taken_fits None o now answer = roll_fits answer
taken_fits (Some b) o now answer = roll_fits answer

abbrev Answers : Made → Type 0
Answers made = IsAnswerInRange made.0.answer

if_open_answers : (o : Office) (made : Made) → Answers made → Answers (if_open o made)
if_open_answers o made fits = at (takes_letters o.opening)
  where
    at : (t : Bool) → Answers (cond t made (stays o (refused Wait)))
    at true = fits
    at false = tt

stage_fits : (o : Office) (x : Option StageAnswer) → o.terms.place < 9 → IsAnswerInRange (stage_answer o x)
stage_fits o None few = tt
stage_fits o (Some (stages.State stage)) few = few
stage_fits o (Some stages.Yes) few = tt
stage_fits o (Some (stages.No refusal)) few = tt

found_answers : (x : Option ℕ) (o : Office) (now : ℕ) (hosts : List HostTickets) (step : OpeningStep) → o.terms.place < 9 → Answers (found_by x o now hosts step)
found_answers None o now hosts step few = stage_fits o step.answer few
found_answers (Some number) o now hosts step few = stage_fits o step.answer few

left_answers : (x : Option OfficeRefusal) (o : Office) (now : ℕ) (node : NodeId) → Answers (left_by x o now node)
left_answers None o now node = tt
left_answers (Some refusal) o now node = tt

leaver_answers : (x : Option NodeId) (o : Office) (now : ℕ) (views : List View) → Answers (left_at x o now views)
leaver_answers None o now views = tt
leaver_answers (Some node) o now views = at (is_in_view views node)
  where
    at : (t : Bool) → Answers (cond t (left_by (against_leave o now views node) o now node) (refused NoSuchMember, o))
    at true = left_answers (against_leave o now views node) o now node
    at false = tt

answers_fit : (o : Office) (now : ℕ) (views : List View) (told : List (Option Ticket)) (inquiry : Inquiry) → o.terms.place < 9 → Answers (inquired o now views told inquiry)
answers_fit o now views told (asks.Report report) few = board_fits (with_report o now report) now views (asker_of report)
answers_fit o now views told (asks.Seat ticket) few =
    let step : RollStep = seated o.roll views (seating_of o now views ticket) ticket in
    if_open_answers o (seat_given o now views ticket) (taken_fits step.logged (given_noted step.logged o now) now step.answer)
answers_fit o now views told (asks.Claim node ticket) few =
    let step : RollStep = claimed o.roll views told node ticket in
    if_open_answers o (number_claimed o now views told node ticket) (taken_fits step.logged o now step.answer)
answers_fit o now views told (asks.Look f) few = stage_fits o (stepped o.opening now (event.Look f)).answer few
answers_fit o now views told (asks.Found f hosts) few = at (fits o hosts)
  where
    at : (t : Bool) → Answers (cond t (found_step o now hosts (stepped o.opening now (event.Found f))) (stays o (refused Wait)))
    at true = found_answers (stepped o.opening now (event.Found f)).logged.founded o now hosts (stepped o.opening now (event.Found f)) few
    at false = tt
answers_fit o now views told (asks.Leave leaver) few = if_open_answers o (left o now views leaver) (leaver_answers (leaver_of o leaver) o now views)
answers_fit o now views told asks.Status few = tt

-- ---- entries

abbrev Logs : Made → Type 0
Logs made = AllByRecursion IsEntryInRange made.0.logged

if_open_logs : (o : Office) (made : Made) → Logs made → Logs (if_open o made)
if_open_logs o made fits = at (takes_letters o.opening)
  where
    at : (t : Bool) → Logs (cond t made (stays o (refused Wait)))
    at true = fits
    at false = tt

opening_fits : (t : Bool) → AllByRecursion IsEntryInRange (opening_logged t)
opening_fits true = (tt, tt)
opening_fits false = tt

taken_logs : (x : Option Binding) (o : Office) (now : ℕ) (answer : RollAnswer) → ((b : Binding) → x ≡ Some b → (n : NodeId) × (t : Ticket) × (b ≡ record { actor = actors.Node n; ticket = t })) →
    Logs (binding_taken_by x o now answer)
taken_logs None o now answer is = tt
taken_logs (Some b) o now answer is =
    let of_node = is b refl in
    (subst (λ (c : Binding). IsActorInRange c.actor) (sym of_node.2) tt, tt)

left_logs : (x : Option OfficeRefusal) (o : Office) (now : ℕ) (node : NodeId) → Logs (left_by x o now node)
left_logs None o now node = tt
left_logs (Some refusal) o now node = tt

leaver_logs : (x : Option NodeId) (o : Office) (now : ℕ) (views : List View) → Logs (left_at x o now views)
leaver_logs None o now views = tt
leaver_logs (Some node) o now views = at (is_in_view views node)
  where
    at : (t : Bool) → Logs (cond t (left_by (against_leave o now views node) o now node) (refused NoSuchMember, o))
    at true = left_logs (against_leave o now views node) o now node
    at false = tt

there : (hosts : List HostTickets) (p : ℕ) (h : HostTickets) → slice_get hosts p ≡ Some h → p < length hosts
there [] p h e = absurd cc
there (x ∷ xs) zero h e = omega arith
there (x ∷ xs) (suc p) h e = let less = there xs p h e in omega (arith, less)

both_hold : (a b : Bool) → (a && b) ≡ true → (a ≡ true) × (b ≡ true)
both_hold true b e = (refl, e)
both_hold false b e = absurd cc

-- hosts that fit are as many as there are managers, and this place is one of theirs
hosts_fit : (x : Option HostTickets) (o : Office) (hosts : List HostTickets) → slice_get hosts o.terms.place ≡ x → fits_at x o hosts ≡ true →
    (o.terms.place < length hosts) × (length hosts ≡ o.terms.managers)
hosts_fit None o hosts is e = absurd cc
hosts_fit (Some h) o hosts is e =
    (there hosts o.terms.place h is, eqb-true (length hosts) o.terms.managers (both_hold (length hosts == o.terms.managers) (same_ticket h.manager o.tickets.manager) e).0)

founded_logs : (x : Option ℕ) (o : Office) (now : ℕ) (hosts : List HostTickets) (step : OpeningStep) → ((number : ℕ) → x ≡ Some number → 1 ≤ number) →
    o.terms.place < length hosts → length hosts ≤ 9 → Logs (found_by x o now hosts step)
founded_logs None o now hosts step number place few = opening_fits step.logged.opened
founded_logs (Some n) o now hosts step number place few = (record { number = number n refl; place = place; few = few }, opening_fits step.logged.opened)

same_founding : (f g : ℕ) → event.Found f ≡ event.Found g → f ≡ g
same_founding f g e = cc

module _ (rule : BindsByTheRule) (reserved : FoundWhileReserved) where
  found_logs : (o : Office) (now f : ℕ) (hosts : List HostTickets) → o.terms.managers ≤ 9 → 1 ≤ f → Logs (found o now f hosts)
  found_logs o now f hosts few some = at (fits o hosts) refl
    where
      at : (t : Bool) → fits o hosts ≡ t → Logs (cond t (found_step o now hosts (stepped o.opening now (event.Found f))) (stays o (refused Wait)))
      at false e = tt
      at true e =
          let fit = hosts_fit (slice_get hosts o.terms.place) o hosts refl e in
          let count : length hosts ≡ o.terms.managers = fit.1 in
          let place : o.terms.place < length hosts = fit.0 in
          founded_logs (stepped o.opening now (event.Found f)).logged.founded o now hosts (stepped o.opening now (event.Found f))
          (λ number is. subst (λ (n : ℕ). 1 ≤ n) (same_founding f number (reserved o.opening number now (event.Found f) is).0) some)
          place (omega (arith, count, few))

  logs_fit : (o : Office) (now : ℕ) (views : List View) (told : List (Option Ticket)) (inquiry : Inquiry) → o.terms.managers ≤ 9 → HasFoundingInRange inquiry → Logs (inquired o now views told inquiry)
  logs_fit o now views told (asks.Report report) few is = tt
  logs_fit o now views told (asks.Seat ticket) few is =
      let step : RollStep = seated o.roll views (seating_of o now views ticket) ticket in
      if_open_logs o (seat_given o now views ticket)
      (taken_logs step.logged (given_noted step.logged o now) now step.answer
      (λ b e. let seat = rule.1 o.roll views (seating_of o now views ticket) ticket b e in (seat.0, ticket, seat.2.is)))
  logs_fit o now views told (asks.Claim node ticket) few is =
      let step : RollStep = claimed o.roll views told node ticket in
      if_open_logs o (number_claimed o now views told node ticket) (taken_logs step.logged o now step.answer (λ b e. (node, ticket, (rule.0 o.roll views told node ticket b e).is)))
  logs_fit o now views told (asks.Look f) few is = opening_fits (stepped o.opening now (event.Look f)).logged.opened
  logs_fit o now views told (asks.Found f hosts) few is = found_logs o now f hosts few is.0
  logs_fit o now views told (asks.Leave leaver) few is = if_open_logs o (left o now views leaver) (leaver_logs (leaver_of o leaver) o now views)
  logs_fit o now views told asks.Status few is = tt

  pub stays_in_range : StaysInRange
  stays_in_range = record { logged = logs_fit; answered = answers_fit }
