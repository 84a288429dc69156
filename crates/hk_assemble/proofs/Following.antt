-- One item more of the list, and one event more of the run.
use Rattle.std.proofs.Common.{◌≡◌, ◌⊎◌, ℕ, ◌+◌, List, [], ◌∷◌, ◌++◌, Result, Ok, Err, refl, sym, ap, subst, ◌∙◌, inl, inr}
use Rattle.std.proofs.lemmas.List.{append-nil}
use Rattle.hk_base.specs.declared.stamp.NodeId.{NodeId}
use Rattle.hk_base.specs.declared.call.Answer.{Answer}
use Rattle.hk_base.specs.declared.call.Op.TheVariants.{Read}
use Rattle.hk_base.specs.declared.letter.Letter.{Letter}
use Rattle.hk_node.specs.declared.event.NodeEvent.{NodeEvent}
use Rattle.hk_node.specs.declared.event.NodeEvent.TheVariants as NodeEvent
use Rattle.hk_node.specs.Stepped.{Stepped}
use Rattle.hk_node.specs.Calls.{called}
use Rattle.hk_node.specs.Steps.{receives, resent, replayed}
use Rattle.hk_event.specs.declared.event.Event.{Event}
use Rattle.hk_event.specs.declared.event.Event.TheVariants.{Call, Take, Resend, Replay}
use Rattle.hk_event.specs.declared.refused.Refused.{Refused}
use Rattle.hk_world.specs.World.{WorldState, numbered}
use Rattle.hk_world.specs.Start.{start}
use Rattle.hk_world.specs.Steps.{Accepted, acts, calls_at, world_step}
use Rattle.hk_safety.specs.Run.{RunState, world_with, world_from, world_of}
use Rattle.hk_safety.specs.Push.{with_event}
use Rattle.hk_merge.specs.Reads.{ReadsAreAnswered}
use Rattle.hk_merge.specs.Merged.{Item, Step, LocalRead, IsOf, IsEventOf, answers_of, tickets_after, tickets_of, Goes}
use Rattle.hk_merge.specs.Shows.{ReadShows}
use Rattle.hk_merge.proofs.Asides.{live_step, takes_step}

-- ---- one item more
pub goes_more : (w last : WorldState) (tickets : List ℕ) (items : List Item) (events : List Event) (item : Item) (event : Event) (a : Accepted) → Goes w tickets items events last → world_step last event ≡ Ok a →
    IsOf item last.letters (tickets_of tickets items) event a.shown → Goes w tickets (items ++ item ∷ []) (events ++ event ∷ []) a.world
goes_more w last tickets [] [] item event a goes accepted is =
    subst (λ (v : WorldState). (b : Accepted) × (world_step v event ≡ Ok b) × IsOf item v.letters tickets event b.shown × (a.world ≡ b.world)) goes (a, accepted, is, refl)
goes_more w last tickets (x ∷ items) (e ∷ events) item event a (b, accepted_b, is_b, goes) accepted is =
    (b, accepted_b, is_b, goes_more b.world last (tickets_after tickets x) items events item event a goes accepted is)
goes_more w last tickets [] (e ∷ events) item event a goes accepted is = absurd goes
goes_more w last tickets (x ∷ items) [] item event a goes accepted is = absurd goes

from_more : (w : WorldState) (events : List Event) (event : Event) → world_from w (events ++ event ∷ []) ≡ world_with (world_from w events) (world_step (world_from w events) event)
from_more w [] event = refl
from_more w (e ∷ events) event = from_more (world_with w (world_step w e)) events event

-- the world of the run with the event
pub world_more : (run : RunState) (event : Event) (a : Accepted) → world_step (world_of run) event ≡ Ok a → world_of (with_event run event) ≡ a.world
world_more run event a accepted = from_more (start run.header) run.events event ∙ ap (λ (r : Result Accepted Refused). world_with (world_of run) r) accepted

pub tickets_more : (tickets : List ℕ) (items : List Item) (item : Item) → tickets_of tickets (items ++ item ∷ []) ≡ tickets_after (tickets_of tickets items) item
tickets_more tickets [] item = refl
tickets_more tickets (x ∷ items) item = tickets_more (tickets_after tickets x) items item

-- ---- letters
sent_in : WorldState → Result Accepted Refused → List Letter × List Letter
sent_in w (Ok a) = (a.world.letters, w.letters ++ a.shown.letters)
sent_in w (Err refused) = ([], [])

adds : (w : WorldState) (a : Accepted) (r : Result Accepted Refused) (letters : List Letter) → r ≡ Ok a → sent_in w r ≡ (letters, letters) → a.world.letters ≡ w.letters ++ a.shown.letters
unfolding sent_in
adds w a r letters is same =
    let both : sent_in w (Ok a) ≡ (letters, letters) = ap (sent_in w) (sym is) ∙ same in
    ap (λ (p : List Letter × List Letter). p.0) both ∙ sym (ap (λ (p : List Letter × List Letter). p.1) both)

at_event : (w : WorldState) (event made : Event) (a : Accepted) → event ≡ made → world_step w event ≡ Ok a → world_step w made ≡ Ok a
at_event w event made a is e = ap (λ (v : Event). world_step w v) (sym is) ∙ e

pub event_adds : (w : WorldState) (tickets : List ℕ) (n : NodeId) (ticket : ℕ) (made : NodeEvent) (event : Event) (a : Accepted) → IsEventOf w.letters tickets n ticket made event → world_step w event ≡ Ok a → a.world.letters ≡ w.letters ++ a.shown.letters
unfolding sent_in
event_adds w tickets n ticket (NodeEvent.Call call k op) event a is e =
    live_step (a.world.letters ≡ w.letters ++ a.shown.letters) w a n (calls_at w n k op) (λ x found is. adds w a (calls_at w n k op x) (w.letters ++ (called x (record { 0 = w.calls + 1 }) k op).letters) is refl) (at_event w event (Call n k op) a is e)
event_adds w tickets n ticket (NodeEvent.Receive l) event a (number, is, first, to) e =
    takes_step (a.world.letters ≡ w.letters ++ a.shown.letters) w a l n to (numbered number w.letters) first.there (λ x found is. adds w a (acts w n x (receives x l)) (w.letters ++ (receives x l).letters) is refl) (at_event w event (Take number) a is e)
event_adds w tickets n ticket (NodeEvent.Resend k) event a is e =
    live_step (a.world.letters ≡ w.letters ++ a.shown.letters) w a n (λ x. acts w n x (resent x k)) (λ x found is. adds w a (acts w n x (resent x k)) (w.letters ++ (resent x k).letters) is refl) (at_event w event (Resend n k) a is e)
event_adds w tickets n ticket (NodeEvent.Replay k) event a is e =
    live_step (a.world.letters ≡ w.letters ++ a.shown.letters) w a n (λ x. acts w n x (replayed x k)) (λ x found is. adds w a (acts w n x (replayed x k)) (w.letters ++ (replayed x k).letters) is refl) (at_event w event (Replay n k) a is e)
event_adds w tickets n ticket made event a is e = absurd is

-- a Read sends nothing
shown_in : Result Accepted Refused → List Letter
shown_in (Ok a) = a.shown.letters
shown_in (Err refused) = []

read_sends : ReadsAreAnswered → (w : WorldState) (id : NodeId) (key : List ℕ) (a : Accepted) → world_step w (Call id key Read) ≡ Ok a → a.shown.letters ≡ []
unfolding shown_in
read_sends reads w id key a e =
    live_step (a.shown.letters ≡ []) w a id (calls_at w id key Read) (λ x found is. sym (ap shown_in is) ∙ ap (λ (s : Stepped). s.letters) (reads x key (record { 0 = w.calls + 1 }))) e

call_adds : (w : WorldState) (id : NodeId) (key : List ℕ) (a : Accepted) → world_step w (Call id key Read) ≡ Ok a → a.world.letters ≡ w.letters ++ a.shown.letters
unfolding sent_in
call_adds w id key a e =
    live_step (a.world.letters ≡ w.letters ++ a.shown.letters) w a id (calls_at w id key Read) (λ x found is. adds w a (calls_at w id key Read x) (w.letters ++ (called x (record { 0 = w.calls + 1 }) key Read).letters) is refl) e

pub read_adds : ReadsAreAnswered → (w : WorldState) (id : NodeId) (key : List ℕ) (a : Accepted) → world_step w (Call id key Read) ≡ Ok a → a.world.letters ≡ w.letters
read_adds reads w id key a e = call_adds w id key a e ∙ (ap (λ (l : List Letter). w.letters ++ l) (read_sends reads w id key a e) ∙ append-nil w.letters)

-- ---- what the Reads of notes show
-- the item is the note of that place, and its Read was answered this
abbrev pub LastShows : Item → Accepted → ℕ → Answer → Type 0
LastShows (Step node entry) a listed answer = ⊥
LastShows (LocalRead i note) a listed answer = (i ≡ listed) × (answers_of a.shown.replies ≡ answer ∷ [])

accepted_or : Accepted → Result Accepted Refused → Accepted
accepted_or b (Ok a) = a
accepted_or b (Err refused) = b

ok_is : (b c : Accepted) → ◌≡◌ {A = Result Accepted Refused} (Ok b) (Ok c) → b ≡ c
unfolding accepted_or
ok_is b c e = ap (accepted_or b) e

module _ (item : Item) (event : Event) (a : Accepted) (listed : ℕ) (answer : Answer) where
  -- what was shown before is shown still
  pub shows_before : (w last : WorldState) (tickets : List ℕ) (items : List Item) (events : List Event) → Goes w tickets items events last → ReadShows w items events listed answer → ReadShows w (items ++ item ∷ []) (events ++ event ∷ []) listed answer
  shows_before w last tickets [] [] goes shows = absurd shows
  shows_before w last tickets [] (e ∷ events) goes shows = absurd goes
  shows_before w last tickets (x ∷ items) [] goes shows = absurd goes
  shows_before w last tickets (Step n entry ∷ items) (e ∷ events) (b, ok, is, goes) (c, okc, shows) =
      (b, ok, shows_before b.world last (tickets_after tickets (Step n entry)) items events goes (subst (λ (d : Accepted). ReadShows d.world items events listed answer) (sym (ok_is b c (sym ok ∙ okc))) shows))
  shows_before w last tickets (LocalRead i note ∷ items) (e ∷ events) (b, ok, is, goes) (c, okc, inl here) = (c, okc, inl here)
  shows_before w last tickets (LocalRead i note ∷ items) (e ∷ events) (b, ok, is, goes) (c, okc, inr shows) =
      (b, ok, inr (shows_before b.world last (tickets_after tickets (LocalRead i note)) items events goes (subst (λ (d : Accepted). ReadShows d.world items events listed answer) (sym (ok_is b c (sym ok ∙ okc))) shows)))

  -- what the last item shows is shown
  pub shows_last : (w last : WorldState) (tickets : List ℕ) (items : List Item) (events : List Event) → Goes w tickets items events last → world_step last event ≡ Ok a → LastShows item a listed answer →
      ReadShows w (items ++ item ∷ []) (events ++ event ∷ []) listed answer
  shows_last w last tickets [] [] goes accepted shows = at_item item shows
    where
      at_item : (i : Item) → LastShows i a listed answer → ReadShows w (i ∷ []) (event ∷ []) listed answer
      at_item (Step n entry) shows = absurd shows
      at_item (LocalRead i note) shows = (a, ap (λ (v : WorldState). world_step v event) (sym goes) ∙ accepted, inl shows)
  shows_last w last tickets [] (e ∷ events) goes accepted shows = absurd goes
  shows_last w last tickets (x ∷ items) [] goes accepted shows = absurd goes
  shows_last w last tickets (Step n entry ∷ items) (e ∷ events) (b, ok, is, goes) accepted shows = (b, ok, shows_last b.world last (tickets_after tickets (Step n entry)) items events goes accepted shows)
  shows_last w last tickets (LocalRead i note ∷ items) (e ∷ events) (b, ok, is, goes) accepted shows = (b, ok, inr (shows_last b.world last (tickets_after tickets (LocalRead i note)) items events goes accepted shows))

  -- and nothing else
  pub shows_split : (w last : WorldState) (tickets : List ℕ) (items : List Item) (events : List Event) → Goes w tickets items events last → world_step last event ≡ Ok a →
      ReadShows w (items ++ item ∷ []) (events ++ event ∷ []) listed answer → ReadShows w items events listed answer ⊎ LastShows item a listed answer
  shows_split w last tickets [] [] goes accepted shows = inr (at_item item shows)
    where
      at_item : (i : Item) → ReadShows w (i ∷ []) (event ∷ []) listed answer → LastShows i a listed answer
      at_item (Step n entry) (c, okc, none) = absurd none
      at_item (LocalRead i note) (c, okc, inl (same, is)) =
          (same, subst (λ (d : Accepted). answers_of d.shown.replies ≡ answer ∷ []) (ok_is c a (sym okc ∙ (ap (λ (v : WorldState). world_step v event) (sym goes) ∙ accepted))) is)
      at_item (LocalRead i note) (c, okc, inr none) = absurd none
  shows_split w last tickets [] (e ∷ events) goes accepted shows = absurd goes
  shows_split w last tickets (x ∷ items) [] goes accepted shows = absurd goes
  shows_split w last tickets (Step n entry ∷ items) (e ∷ events) (b, ok, is, goes) accepted (c, okc, shows) =
      on (shows_split b.world last (tickets_after tickets (Step n entry)) items events goes accepted (subst (λ (d : Accepted). ReadShows d.world (items ++ item ∷ []) (events ++ event ∷ []) listed answer) (sym (ok_is b c (sym ok ∙ okc))) shows))
    where
      on : ReadShows b.world items events listed answer ⊎ LastShows item a listed answer → ReadShows w (Step n entry ∷ items) (e ∷ events) listed answer ⊎ LastShows item a listed answer
      on (inl before) = inl (b, ok, before)
      on (inr here) = inr here
  shows_split w last tickets (LocalRead i note ∷ items) (e ∷ events) (b, ok, is, goes) accepted (c, okc, inl here) = inl (c, okc, inl here)
  shows_split w last tickets (LocalRead i note ∷ items) (e ∷ events) (b, ok, is, goes) accepted (c, okc, inr shows) =
      on (shows_split b.world last (tickets_after tickets (LocalRead i note)) items events goes accepted (subst (λ (d : Accepted). ReadShows d.world (items ++ item ∷ []) (events ++ event ∷ []) listed answer) (sym (ok_is b c (sym ok ∙ okc))) shows))
    where
      on : ReadShows b.world items events listed answer ⊎ LastShows item a listed answer → ReadShows w (LocalRead i note ∷ items) (e ∷ events) listed answer ⊎ LastShows item a listed answer
      on (inl before) = inl (b, ok, inr before)
      on (inr here) = inr here
