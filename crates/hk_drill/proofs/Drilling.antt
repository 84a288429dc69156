-- How a drill goes on from one read to the next, and what it has written at its end.
use Rattle.std.proofs.Common.{◌≡◌, ℕ, ◌+◌, ◌*◌, ◌^◌, ◌-◌, ◌<◌, ◌≤◌, List, [], ◌++◌, length, take, Option, Some, None, Ok, Err, IfSome, refl, sym, ap, subst, ◌∙◌, arith, append-nil, append_assoc, length-append}
use Rattle.std.proofs.lemmas.List.{length-take-le}
use Rattle.std.specs.Io.KnownBytes.{Appends, Consumes, IsAtEnd, Keeps}
use Rattle.hk_outside.specs.Records.{RecordsRead, Gave, HasRead}
use Rattle.hk_outside.specs.declared.status.Status.{Status}
use Rattle.hk_outside.specs.declared.status.Status.TheVariants.{Done}
use Rattle.hk_outside.proofs.Records.{gave_same, gave_more, gave_all}
use Rattle.hk_outside.proofs.Streams.{consumes_more}
use Rattle.hk_safety.specs.Run.{RunsAreLegal}
use Rattle.hk_drill.specs.declared.stop.Stop.{Stop}
use Rattle.hk_drill.specs.declared.stop.Stop.TheVariants.{Bad, Long, Lines, Letters}
use Rattle.hk_drill.specs.Transcript.{DrillState, Outcome, lines_of, behind, status_of, stop_text, script_from, followed, written, written_of, transcript, events_text}
use Rattle.hk_drill.specs.Progress.{HasFront, IsAt, HasStopped, IsAfter, Came, HasCome, IsCounted, further, ending}
use Rattle.hk_drill.specs.Drilled.{EndsDrill, IsFront, HasTold, HasGone, IsDrilled}
use Rattle.hk_drill.proofs.Following.{script_ends, follow_ends}
use Rattle.hk_drill.proofs.Progressing.{followed_at}
use Rattle.hk_drill.proofs.Telling.{appends_none, appends_more, behind_text, behind_status}
use Rattle.hk_drill.proofs.Legality.{told_legal}

-- ---- bytes that are read
gave_none : (given : Option (List (List ℕ))) → Gave given given []
gave_none None = tt
gave_none (Some pieces) = ([], ap Some (sym (append-nil pieces)), refl)

consumes_none : (left : Option (List ℕ)) → Consumes left left []
consumes_none None = tt
consumes_none (Some xs) = refl

pub came_none : (left : Option (List ℕ)) (given : Option (List (List ℕ))) → Came left left given given []
came_none left given = record { consumed = consumes_none left; recorded = gave_none given }

consumes_kept : (a b c : Option (List ℕ)) (bytes : List ℕ) → Consumes a b bytes → Keeps b c → Consumes a c bytes
consumes_kept None b c bytes one same = tt
consumes_kept (Some xs) None c bytes one same = absurd one
consumes_kept (Some xs) (Some ys) None bytes one same = absurd same
consumes_kept (Some xs) (Some ys) (Some zs) bytes one same = one ∙ ap (λ (t : List ℕ). bytes ++ t) (sym same)

module _ (E : Type 0) (l0 l1 l2 : Option (List ℕ)) (g0 g1 g2 : Option (List (List ℕ))) (read room : List ℕ) (came : Came l0 l1 g0 g1 read) where
  pub came_more : (n : ℕ) → Consumes l1 l2 (take n room) → RecordsRead {E = E} g1 g2 (Ok n) room → Came l0 l2 g0 g2 (read ++ take n room)
  came_more n consumed recorded = record {
    consumed = consumes_more l0 l1 l2 read (take n room) came.consumed consumed;
    recorded = gave_more E g0 g1 g2 read room n came.recorded recorded;
  }

  pub came_same : (e : E) → Keeps l1 l2 → RecordsRead {E = E} g1 g2 (Err e) room → Came l0 l2 g0 g2 read
  came_same e same recorded = record {
    consumed = consumes_kept l0 l1 l2 read came.consumed same;
    recorded = gave_same E g0 g1 g2 read room e came.recorded recorded;
  }

  all_told : (a b c : Option (List ℕ)) → Consumes a b read → Consumes b c [] → IsAtEnd c → IfSome a (λ bytes. (read ≡ bytes) × (c ≡ Some []))
  all_told None b c one two end = tt
  all_told (Some xs) None c one two end = absurd one
  all_told (Some xs) (Some ys) None one two end = absurd two
  all_told (Some xs) (Some ys) (Some zs) one two end =
      (sym (one ∙ ap (λ (t : List ℕ). read ++ t) (two ∙ end) ∙ append-nil read), ap Some end)

  pub came_all : Consumes l1 l2 [] → IsAtEnd l2 → RecordsRead {E = E} g1 g2 (Ok 0) room → HasRead l0 l2 g0 g2 read
  came_all consumed end recorded = record { told = all_told l0 l1 l2 came.consumed consumed end; recorded = gave_all E g0 g1 g2 read room came.recorded recorded }

  pub came_end : Consumes l1 l2 [] → RecordsRead {E = E} g1 g2 (Ok 0) room → Came l0 l2 g0 g2 read
  came_end consumed recorded =
      subst (Came l0 l2 g0 g2) (append-nil read) (record {
        consumed = consumes_more l0 l1 l2 read [] came.consumed consumed;
        recorded = gave_more E g0 g1 g2 read room 0 came.recorded recorded;
      })

-- ---- the transcript of what has come
transcript_is : (bytes : List ℕ) (f : Outcome) → followed bytes ≡ f → transcript bytes ≡ written_of f
unfolding transcript
transcript_is bytes f e = ap written_of e

at_text : (bytes told part more : List ℕ) (n : ℕ) (state : Option DrillState) → IsAt bytes told n part state
    → (transcript (bytes ++ more)).text ≡ told ++ (written_of (further n state (lines_of (part ++ more)))).text
at_text bytes told part more n state at =
    ap (λ t. t.text) (transcript_is (bytes ++ more) _ (followed_at bytes told part more n state at)) ∙ behind_text told (further n state (lines_of (part ++ more)))

pub end_is : (bytes told part : List ℕ) (n : ℕ) (state : Option DrillState) → IsAt bytes told n part state → followed bytes ≡ behind told (further n state (lines_of part))
end_is bytes told part n state at =
    ap followed (sym (append-nil bytes)) ∙ followed_at bytes told part [] n state at ∙ ap (λ (p : List ℕ). behind told (further n state (lines_of p))) (append-nil part)

pub end_text : (bytes told part : List ℕ) (n : ℕ) (state : Option DrillState) → IsAt bytes told n part state → (transcript bytes).text ≡ told ++ (ending n part state).text
end_text bytes told part n state at = ap (λ t. t.text) (transcript_is bytes _ (end_is bytes told part n state at)) ∙ behind_text told (further n state (lines_of part))

pub end_status : (bytes told part : List ℕ) (n : ℕ) (state : Option DrillState) → IsAt bytes told n part state → (transcript bytes).status ≡ (ending n part state).status
end_status bytes told part n state at = ap (λ t. t.status) (transcript_is bytes _ (end_is bytes told part n state at)) ∙ behind_status told (further n state (lines_of part))

stop_is : (bytes told : List ℕ) (n : ℕ) (stop : Stop) → HasStopped bytes told n stop → (more : List ℕ)
    → transcript (bytes ++ more) ≡ record { status = status_of stop; text = told ++ stop_text n stop }
unfolding transcript
stop_is bytes told n stop stops more = at (followed (bytes ++ more)) (stops more).0 (stops more).1
  where
    at : (f : Outcome) → f.text ≡ told → f.stop ≡ Some (n, stop) → written f.text f.stop f.state ≡ record { status = status_of stop; text = told ++ stop_text n stop }
    at f e is = ap (λ s. written f.text s f.state) is ∙ ap (λ (t : List ℕ). written t (Some (n, stop)) f.state) e

stop_here : (bytes told : List ℕ) (n : ℕ) (stop : Stop) → HasStopped bytes told n stop → transcript bytes ≡ record { status = status_of stop; text = told ++ stop_text n stop }
stop_here bytes told n stop stops = ap transcript (sym (append-nil bytes)) ∙ stop_is bytes told n stop stops []

after_text : (stop : Option Stop) (bytes told part : List ℕ) (n : ℕ) (state : Option DrillState) → IsAfter stop bytes told n part state → (more : List ℕ)
    → (rest : List ℕ) × ((transcript (bytes ++ more)).text ≡ told ++ rest)
after_text None bytes told part n state at more = ((written_of (further n state (lines_of (part ++ more)))).text, at_text bytes told part more n state at)
after_text (Some stop) bytes told part n state stops more = (stop_text n stop, ap (λ t. t.text) (stop_is bytes told n stop stops more))

-- ---- fronts
module _ (l l' : Option (List ℕ)) (g g' : Option (List (List ℕ))) (h h1 h' : Option (List ℕ)) where
  -- a part of what was told last was written
  pub front_of : (stop : Option Stop) (read out text part : List ℕ) (n : ℕ) (state : Option DrillState) → Came l l' g g' read → Appends h h1 out → IsAfter stop read (out ++ text) n part state
      → HasFront h1 h' text → IsFront l l' g g' h h'
  front_of stop read out text part n state came put after front = record {
    read = read;
    front = out ++ front.front;
    came = came;
    begins = λ more may.
        let whole = after_text stop read (out ++ text) part n state after more in (
          front.rest ++ whole.0,
          whole.1 ∙ ap (λ (t : List ℕ). (out ++ t) ++ whole.0) front.same ∙ ap (λ (t : List ℕ). t ++ whole.0) (sym (append_assoc out front.front front.rest))
              ∙ append_assoc (out ++ front.front) front.rest whole.0,
        );
    put = appends_more h h1 h' out front.front put front.put;
  }

  -- a part of the end was written
  pub front_ending : (read out part : List ℕ) (n : ℕ) (state : Option DrillState) → Came l l' g g' read → HasRead l l' g g' read → Appends h h1 out → IsAt read out n part state
      → HasFront h1 h' (ending n part state).text → IsFront l l' g g' h h'
  front_ending read out part n state came all put at front = record {
    read = read;
    front = out ++ front.front;
    came = came;
    begins = λ more may. (
      front.rest,
      ap (λ (m : List ℕ). (transcript (read ++ m)).text) (may all) ∙ ap (λ (r : List ℕ). (transcript r).text) (append-nil read) ∙ end_text read out part n state at
          ∙ ap (λ (t : List ℕ). out ++ t) front.same ∙ sym (append_assoc out front.front front.rest),
    );
    put = appends_more h h1 h' out front.front put front.put;
  }

  -- a part of the stop line was written
  pub front_stop : (stop : Stop) (read out : List ℕ) (n : ℕ) → Came l l' g g' read → Appends h h1 out → HasStopped read out n stop
      → HasFront h1 h' (stop_text n stop) → IsFront l l' g g' h h'
  front_stop stop read out n came put stops front = record {
    read = read;
    front = out ++ front.front;
    came = came;
    begins = λ more may. (
      front.rest,
      ap (λ t. t.text) (stop_is read out n stop stops more) ∙ ap (λ (t : List ℕ). out ++ t) front.same ∙ sym (append_assoc out front.front front.rest),
    );
    put = appends_more h h1 h' out front.front put front.put;
  }

-- ---- one turn
pub come_front : (stop : Option Stop) (l l' : Option (List ℕ)) (g g' : Option (List (List ℕ))) (h h' : Option (List ℕ)) (n : ℕ) (part : List ℕ) (state : Option DrillState)
    → HasCome stop l l' g g' h h' n part state → IsFront l l' g g' h h'
come_front stop l l' g g' h h' n part state come = record {
  read = come.read;
  front = come.told;
  came = come.came;
  begins = λ more may. after_text stop come.read come.told part n state come.after more;
  put = come.put;
}

-- where a script stands between two reads, after so many
pub record Turning (turn : ℕ) (l l' : Option (List ℕ)) (g g' : Option (List (List ℕ))) (h h' : Option (List ℕ)) (n : ℕ) (part : List ℕ) (state : Option DrillState) (text : List ℕ) : Type 0 where
  pub come : HasCome None l l' g g' h h' n part state
  pub turns : turn ≤ length come.read
  pub counted : IsCounted n state
  pub written : text ≡ []

pub turning_first : (l : Option (List ℕ)) (g : Option (List (List ℕ))) (h : Option (List ℕ)) (n : ℕ) (part : List ℕ) (state : Option DrillState) (text : List ℕ)
    → IsAt [] [] n part state → IsCounted n state → text ≡ [] → Turning 0 l l g g h h n part state text
turning_first l g h n part state text at counted empty = record {
  come = record { read = []; told = []; came = came_none l g; put = appends_none h; after = at };
  turns = omega arith;
  counted = counted;
  written = empty;
}

-- a script is read to its end within so many turns
pub turns_few : (turn : ℕ) (l l' : Option (List ℕ)) (g g' : Option (List (List ℕ))) (h h' : Option (List ℕ)) (n : ℕ) (part : List ℕ) (state : Option DrillState) (text : List ℕ)
    → Turning turn l l' g g' h h' n part state text → length part < 2 ^ 63 → turn < 2 ^ 64 - 1
turns_few turn l l' g g' h h' n part state text is short =
    let few : length is.come.read ≤ n * 4097 + length part = is.come.after.few in
    let lines : n ≤ 1000001 = is.counted.within in
    let turns : turn ≤ length is.come.read = is.turns in
    omega (arith, few, lines, turns, short)

module _ (E : Type 0) (turn : ℕ) (l l1 l2 : Option (List ℕ)) (g g1 g2 : Option (List (List ℕ))) (h h1 : Option (List ℕ)) (n : ℕ) (part : List ℕ) (state : Option DrillState) (text : List ℕ)
    (is : Turning turn l l1 g g1 h h1 n part state text) (room : List ℕ) where
  -- the read failed
  pub read_failed : (e : E) → Keeps l1 l2 → RecordsRead {E = E} g1 g2 (Err e) room → HasCome None l l2 g g2 h h1 n part state
  read_failed e same recorded = record {
    read = is.come.read;
    told = is.come.told;
    came = came_same E l l1 l2 g g1 g2 is.come.read room is.come.came e same recorded;
    put = is.come.put;
    after = is.come.after;
  }

  -- the read told the end
  pub read_end : Consumes l1 l2 [] → IsAtEnd l2 → RecordsRead {E = E} g1 g2 (Ok 0) room → HasGone None l l2 g g2 h h1 n part state
  read_end consumed end recorded = record {
    come = record {
      read = is.come.read;
      told = is.come.told;
      came = came_end E l l1 l2 g g1 g2 is.come.read room is.come.came consumed recorded;
      put = is.come.put;
      after = is.come.after;
    };
    ended = λ e. came_all E l l1 l2 g g1 g2 is.come.read room is.come.came consumed end recorded;
  }

  module _ (count : ℕ) (consumed : Consumes l1 l2 (take count room)) (recorded : RecordsRead {E = E} g1 g2 (Ok count) room) where
    more_came : Came l l2 g g2 (is.come.read ++ take count room)
    more_came = came_more E l l1 l2 g g1 g2 is.come.read room is.come.came count consumed recorded

    -- the bytes could not be followed
    pub unfed_front : IsFront l l2 g g2 h h1
    unfed_front = record {
      read = is.come.read ++ take count room;
      front = is.come.told;
      came = more_came;
      begins = λ more may.
          let whole = after_text None is.come.read is.come.told part n state is.come.after (take count room ++ more) in
          (whole.0, ap (λ (b : List ℕ). (transcript b).text) (append_assoc is.come.read (take count room) more) ∙ whole.1);
      put = is.come.put;
    }

    module _ (stop : Option Stop) (n' : ℕ) (part' : List ℕ) (state' : Option DrillState) (text' : List ℕ)
        (fed : (read out : List ℕ) → IsAt read (out ++ text) n part state → IsAfter stop (read ++ take count room) (out ++ text') n' part' state') where
      now_after : IsAfter stop (is.come.read ++ take count room) (is.come.told ++ text') n' part' state'
      now_after = fed is.come.read is.come.told
          (subst (λ (t : List ℕ). IsAt is.come.read t n part state) (sym (ap (λ (t : List ℕ). is.come.told ++ t) is.written ∙ append-nil is.come.told)) is.come.after)

      -- what was told could not be written
      pub unwritten_front : (h2 : Option (List ℕ)) → HasFront h1 h2 text' → IsFront l l2 g g2 h h2
      unwritten_front h2 front = front_of l l2 g g2 h h1 h2 stop (is.come.read ++ take count room) is.come.told text' part' n' state' more_came is.come.put now_after front

      pub come_on : (h2 : Option (List ℕ)) → Appends h1 h2 text' → HasCome stop l l2 g g2 h h2 n' part' state'
      come_on h2 put = record {
        read = is.come.read ++ take count room;
        told = is.come.told ++ text';
        came = more_came;
        put = appends_more h h1 h2 is.come.told text' is.come.put put;
        after = now_after;
      }

      pub stop_met : (h2 : Option (List ℕ)) (s : Stop) → stop ≡ Some s → Appends h1 h2 text' → HasGone stop l l2 g g2 h h2 n' part' state'
      stop_met h2 s e put = record { come = come_on h2 put; ended = λ none. absurd (some_none (sym e ∙ none)) }
        where
          some_none : ◌≡◌ {A = Option Stop} (Some s) None → ⊥
          some_none p = cc

      pub turn_on : (h2 : Option (List ℕ)) (turn' : ℕ) (text'' : List ℕ) → stop ≡ None → Appends h1 h2 text' → turn' ≡ turn + 1 → 0 < count → count ≤ length room → IsCounted n' state' → text'' ≡ []
          → Turning turn' l l2 g g2 h h2 n' part' state' text''
      turn_on h2 turn' text'' e put next some within counted empty =
          let all : length (is.come.read ++ take count room) ≡ length is.come.read + length (take count room) = length-append is.come.read (take count room) in
          let taken : length (take count room) ≡ count = length-take-le count room within in
          let turns : turn ≤ length is.come.read = is.turns in
          record {
            come = record {
              read = is.come.read ++ take count room;
              told = is.come.told ++ text';
              came = more_came;
              put = appends_more h h1 h2 is.come.told text' is.come.put put;
              after = subst (λ s. IsAfter s (is.come.read ++ take count room) (is.come.told ++ text') n' part' state') e now_after;
            };
            turns = omega (arith, all, taken, turns, next, some);
            counted = counted;
            written = empty;
          }

-- ---- the end
pub status_ends : (stop : Stop) → EndsDrill (status_of stop)
status_ends Bad = tt
status_ends Long = tt
status_ends Lines = tt
status_ends Letters = tt

pub written_ends : (text : List ℕ) (stop : Option (ℕ × Stop)) (state : Option DrillState) → EndsDrill (written text stop state).status
written_ends text None state = tt
written_ends text (Some stop) state = status_ends stop.1

pub not_done : (stop : Stop) → status_of stop ≡ Done → ⊥
not_done Bad e = cc
not_done Long e = cc
not_done Lines e = cc
not_done Letters e = cc

module _ (legal : RunsAreLegal) (l l' : Option (List ℕ)) (g g' : Option (List (List ℕ))) (h h1 h' : Option (List ℕ)) where
  pub drilled_ending : (status : Status) (read out part : List ℕ) (n : ℕ) (state : Option DrillState) → Came l l' g g' read → HasRead l l' g g' read → Appends h h1 out → IsAt read out n part state
      → Appends h1 h' (ending n part state).text → status ≡ (ending n part state).status → IsDrilled status l l' g g' h h'
  drilled_ending status read out part n state came all put at more is = record {
    stopped = record {
      read = read;
      came = came;
      decided = λ more may. ap (λ (m : List ℕ). transcript (read ++ m)) (may all) ∙ ap transcript (append-nil read);
      status = end_status read out part n state at ∙ sym is;
      legal = told_legal legal read;
      text = subst (Appends h h') (sym (end_text read out part n state at)) (appends_more h h1 h' out (ending n part state).text put more);
    };
    ended = λ e. all;
    ends = subst EndsDrill (sym is) (written_ends (further n state (lines_of part)).text (further n state (lines_of part)).stop (further n state (lines_of part)).state);
  }

  pub drilled_stop : (status : Status) (stop : Stop) (read out : List ℕ) (n : ℕ) → Came l l' g g' read → Appends h h1 out → HasStopped read out n stop
      → Appends h1 h' (stop_text n stop) → status ≡ status_of stop → IsDrilled status l l' g g' h h'
  drilled_stop status stop read out n came put stops more is = record {
    stopped = record {
      read = read;
      came = came;
      decided = λ more may. stop_is read out n stop stops more ∙ sym (stop_here read out n stop stops);
      status = ap (λ t. t.status) (stop_here read out n stop stops) ∙ sym is;
      legal = told_legal legal read;
      text = subst (Appends h h') (sym (ap (λ t. t.text) (stop_here read out n stop stops))) (appends_more h h1 h' out (stop_text n stop) put more);
    };
    ended = λ e. absurd (not_done stop (sym is ∙ e));
    ends = subst EndsDrill (sym is) (status_ends stop);
  }

-- ---- a read that failed
events_are : (bytes told part : List ℕ) (n : ℕ) (state : Option DrillState) (at : IsAt bytes told n part state) → told ≡ events_text at.lines
events_are bytes told part n state at =
    sym (ap (λ ls. (script_from 1 ls).text) (sym (append-nil at.lines)) ∙ ap (λ f. f.text) (at.goes []) ∙ ap (λ (t : List ℕ). told ++ t) (nothing_more n state) ∙ append-nil told)
  where
    nothing_more : (n : ℕ) (state : Option DrillState) → (further n state []).text ≡ []
    nothing_more n None = ap (λ f. f.text) (script_ends n)
    nothing_more n (Some c) = ap (λ f. f.text) (follow_ends n c)

pub cut_off : (l l' : Option (List ℕ)) (g g' : Option (List (List ℕ))) (h h' : Option (List ℕ)) (read told part : List ℕ) (n : ℕ) (state : Option DrillState) → Came l l' g g' read → Appends h h' told
    → IsAt read told n part state → HasTold l l' g g' h h'
cut_off l l' g g' h h' read told part n state came put at = record {
  read = read;
  lines = at.lines;
  part = part;
  came = came;
  cut = at.cut;
  told = subst (Appends h h') (events_are read told part n state at) put;
}
