-- One turn of the loop.
use Rattle.std.proofs.Common.{◌≡◌, ◌≢◌, ◌⊎◌, ◌<◌, ◌+◌, ℕ, zero, suc, List, [], ◌∷◌, ◌++◌, map, length, Bool, true, false, Option, Some, None, Ok, Err, refl, sym, ap, subst, ◌∙◌, inl, inr, arith, eqb, Equal}
use Rattle.std.specs.Ordering.{nat_cmp}
use Rattle.std.specs.Option.{IsSomeAnd}
use Rattle.std.specs.BTreeMap.{insert_entry}
use Rattle.std.proofs.lemmas.Bool.{eqb-true, eqb-false}
use Rattle.std.proofs.lemmas.Cmp.{nat_cmp_total, tied_itself, ranked}
use Rattle.hk_base.specs.declared.stamp.NodeId.{NodeId}
use Rattle.hk_base.specs.declared.call.Answer.{Answer}
use Rattle.hk_base.specs.declared.call.Op.TheVariants.{Read}
use Rattle.hk_base.specs.declared.letter.Letter.{Letter}
use Rattle.hk_node.specs.declared.event.NodeEvent.{NodeEvent}
use Rattle.hk_node.specs.declared.event.NodeEvent.TheVariants as NodeEvent
use Rattle.hk_journal.specs.declared.step_entry.JournalEntry.{JournalEntry}
use Rattle.hk_event.specs.declared.event.Header.{Header}
use Rattle.hk_event.specs.declared.event.Event.{Event}
use Rattle.hk_event.specs.declared.event.Event.TheVariants.{Call}
use Rattle.hk_world.specs.World.{WorldState, numbered}
use Rattle.hk_world.specs.Start.{start}
use Rattle.hk_world.specs.Steps.{Accepted, world_step}
use Rattle.hk_safety.specs.Run.{RunState, world_of}
use Rattle.hk_safety.specs.Push.{with_event}
use Rattle.hk_merge.specs.declared.note.Note.{Note}
use Rattle.hk_merge.specs.Reads.{ReadsAreAnswered}
use Rattle.hk_merge.specs.Merged.{Item, Step, LocalRead, IsEventOf, IsOf, answers_of, tickets_of, Goes}
use Rattle.hk_merge.specs.Shows.{ReadShows}
use Rattle.hk_merge.proofs.Entries.{found_same, found_other}
use Rattle.hk_assemble.specs.declared.sent.Sent.{Sent}
use Rattle.hk_assemble.specs.SentLetters.{Buckets, with_letters}
use Rattle.hk_assemble.specs.Known.{IsCopy, IsTold, Knows, LettersStayKnown}
use Rattle.hk_assemble.specs.Assembly.{Kepts, kept_at, IsAssembly}
use Rattle.hk_assemble.specs.declared.gap.Gap.{Gap}
use Rattle.hk_assemble.specs.declared.gap.Gap.TheVariants as Gap
use Rattle.hk_assemble.specs.Taking.{IsMarred, IsEventBy}
use Rattle.hk_assemble.specs.Stepping.{IsStepMade, IsLooked}
use Rattle.hk_assemble.specs.Assemblies.{OrMemory, IsFailure}
use Rattle.hk_assemble.proofs.Following.{goes_more, world_more, tickets_more, event_adds, read_adds, LastShows, shows_before, shows_last, shows_split}

-- ---- the beginning
pub begun : (h : Header) → IsAssembly h (record { header = h; events = [] }) [] [] []
begun h = record {
  same = refl;
  goes = refl;
  counted = refl;
  knows = λ letter m. nothing letter m;
  shows = λ listed answer e. cc;
  keeps = λ listed answer shows. absurd shows;
}
  where
    nothing : (letter : Letter) (m : ℕ) → numbered m (◌++◌ {A = Letter} [] []) ≢ Some letter
    nothing letter zero e = cc
    nothing letter (suc k) e = cc

-- ---- the event of an entry
pub event_is : (sent : Buckets) (letters : List Letter) (tickets : List ℕ) (node : NodeId) (ticket : ℕ) (made : NodeEvent) (event : Event) → Knows sent letters tickets → IsEventBy sent node ticket made event → IsEventOf letters tickets node ticket made event
event_is sent letters tickets node ticket (NodeEvent.Call call key op) event knows is = is
event_is sent letters tickets node ticket (NodeEvent.Receive letter) event knows (first, finds, lower, is, to) =
    let copy : IsCopy first letter letters tickets = subst (λ (o : Option Sent). IsTold o letter letters tickets) finds (knows letter) in (
      first.number,
      is,
      record { there = copy.there; first = copy.first; lower = subst (λ (o : Option ℕ). IsSomeAnd o (λ (t : ℕ). t < ticket)) (sym copy.drawn) lower },
      to,
    )
event_is sent letters tickets node ticket (NodeEvent.Resend key) event knows is = is
event_is sent letters tickets node ticket (NodeEvent.Replay key) event knows is = is
event_is sent letters tickets node ticket other event knows is = absurd is

-- ---- lengths
length_append : {X : Type 0} (xs ys : List X) → length (xs ++ ys) ≡ length xs + length ys
length_append [] ys = omega arith
length_append (x ∷ xs) ys = let more = length_append xs ys in omega (arith, more)

length_map : {X Y : Type 0} (f : X → Y) (xs : List X) → length (map f xs) ≡ length xs
length_map f [] = refl
length_map f (x ∷ xs) = let more = length_map f xs in omega (arith, more)

same_length : (tickets : List ℕ) (letters more : List Letter) (ticket : ℕ) → length tickets ≡ length letters → length (tickets ++ map (λ (l : Letter). ticket) more) ≡ length (letters ++ more)
same_length tickets letters more ticket counted =
    let a = length_append tickets (map (λ (l : Letter). ticket) more) in
    let b = length_map (λ (l : Letter). ticket) more in
    let c = length_append letters more in
    omega (arith, a, b, c, counted)

-- ---- a step of an entry
module _ (header : Header) (run : RunState) (sent : Buckets) (kept : Kepts) (front : List Item) (assembly : IsAssembly header run sent kept front) where
  module _ (item : Item) (event : Event) (a : Accepted) (accepted : world_step (world_of run) event ≡ Ok a) where
    goes_on : IsOf item (world_of run).letters (tickets_of [] front) event a.shown → Goes (start header) [] (front ++ item ∷ []) (run.events ++ event ∷ []) (world_of (with_event run event))
    goes_on is = subst (λ (v : WorldState). Goes (start header) [] (front ++ item ∷ []) (run.events ++ event ∷ []) v) (sym (world_more run event a accepted))
        (goes_more (start header) (world_of run) [] front run.events item event a assembly.goes accepted is)

  pub step_on : LettersStayKnown → (node : NodeId) (entry : JournalEntry) (event : Event) (a : Accepted) (first : ℕ) → IsEventBy sent node entry.ticket entry.event event → world_step (world_of run) event ≡ Ok a →
      a.shown.letters ≡ entry.letters → answers_of a.shown.replies ≡ answers_of entry.replies → first ≡ length (world_of run).letters + 1 →
      IsAssembly header (with_event run event) (with_letters sent first entry.ticket entry.letters) kept (front ++ Step node entry ∷ [])
  step_on known node entry event a first by accepted gave answered numbers = record {
    same = assembly.same;
    goes = goes_on (Step node entry) event a accepted (is, gave, answered);
    counted = ap length tickets_now ∙ (same_length (tickets_of [] front) (world_of run).letters entry.letters entry.ticket assembly.counted ∙ sym (ap length letters_now));
    knows = subst (λ (ls : List Letter). Knows (with_letters sent first entry.ticket entry.letters) ls (tickets_of [] (front ++ Step node entry ∷ []))) (sym letters_now)
        (subst (λ (ts : List ℕ). Knows (with_letters sent first entry.ticket entry.letters) ((world_of run).letters ++ entry.letters) ts) (sym tickets_now)
        (known entry.letters sent (world_of run).letters (tickets_of [] front) entry.ticket first numbers assembly.counted assembly.knows));
    shows = λ listed answer at. shows_before (Step node entry) event a listed answer (start header) (world_of run) [] front run.events assembly.goes (assembly.shows listed answer at);
    keeps = λ listed answer shows. by_split listed answer (shows_split (Step node entry) event a listed answer (start header) (world_of run) [] front run.events assembly.goes accepted shows);
  }
    where
      is : IsEventOf (world_of run).letters (tickets_of [] front) node entry.ticket entry.event event
      is = event_is sent (world_of run).letters (tickets_of [] front) node entry.ticket entry.event event assembly.knows by

      letters_now : (world_of (with_event run event)).letters ≡ (world_of run).letters ++ entry.letters
      letters_now = ap (λ (w : WorldState). w.letters) (world_more run event a accepted)
          ∙ (event_adds (world_of run) (tickets_of [] front) node entry.ticket entry.event event a is accepted ∙ ap (λ (l : List Letter). (world_of run).letters ++ l) gave)

      tickets_now : tickets_of [] (front ++ Step node entry ∷ []) ≡ tickets_of [] front ++ map (λ (l : Letter). entry.ticket) entry.letters
      tickets_now = tickets_more [] front (Step node entry)

      by_split : (listed : ℕ) (answer : Answer) → ReadShows (start header) front run.events listed answer ⊎ LastShows (Step node entry) a listed answer → kept_at listed kept ≡ Some answer
      by_split listed answer (inl before) = assembly.keeps listed answer before
      by_split listed answer (inr here) = absurd here

  -- ---- a Read of a note
  pub look_on : ReadsAreAnswered → (listed : ℕ) (note : Note) (a : Accepted) (answer : Answer) → world_step (world_of run) (Call note.node note.key Read) ≡ Ok a → answers_of a.shown.replies ≡ answer ∷ [] → kept_at listed kept ≡ None →
      IsAssembly header (with_event run (Call note.node note.key Read)) sent (insert_entry nat_cmp kept listed answer) (front ++ LocalRead listed note ∷ [])
  look_on reads listed note a answer accepted answered none = record {
    same = assembly.same;
    goes = goes_on (LocalRead listed note) (Call note.node note.key Read) a accepted refl;
    counted = ap length tickets_now ∙ (assembly.counted ∙ sym (ap length letters_now));
    knows = subst (λ (ls : List Letter). Knows sent ls (tickets_of [] (front ++ LocalRead listed note ∷ []))) (sym letters_now)
        (subst (λ (ts : List ℕ). Knows sent (world_of run).letters ts) (sym tickets_now) assembly.knows);
    shows = λ i x at. shown i x (eqb i listed) refl at;
    keeps = λ i x shows. by_split i x (shows_split (LocalRead listed note) (Call note.node note.key Read) a i x (start header) (world_of run) [] front run.events assembly.goes accepted shows);
  }
    where
      letters_now : (world_of (with_event run (Call note.node note.key Read))).letters ≡ (world_of run).letters
      letters_now = ap (λ (w : WorldState). w.letters) (world_more run (Call note.node note.key Read) a accepted) ∙ read_adds reads (world_of run) note.node note.key a accepted

      tickets_now : tickets_of [] (front ++ LocalRead listed note ∷ []) ≡ tickets_of [] front
      tickets_now = tickets_more [] front (LocalRead listed note)

      equal : (m n : ℕ) → nat_cmp m n ≡ Equal → m ≡ n
      equal m n e = ranked m n Equal (sym e)

      itself : (m : ℕ) → nat_cmp m m ≡ Equal
      itself m = tied_itself nat_cmp_total m

      kept_now : kept_at listed (insert_entry nat_cmp kept listed answer) ≡ Some answer
      kept_now = found_same nat_cmp equal itself listed answer kept

      kept_else : (i : ℕ) → i ≢ listed → kept_at i (insert_entry nat_cmp kept listed answer) ≡ kept_at i kept
      kept_else i ne = found_other nat_cmp equal itself i listed answer kept ne

      answer_or : Option Answer → Answer
      answer_or None = answer
      answer_or (Some x) = x

      head_or : List Answer → Answer
      head_or [] = answer
      head_or (x ∷ xs) = x

      shown : (i : ℕ) (x : Answer) (b : Bool) → eqb i listed ≡ b → kept_at i (insert_entry nat_cmp kept listed answer) ≡ Some x →
          ReadShows (start header) (front ++ LocalRead listed note ∷ []) (run.events ++ Call note.node note.key Read ∷ []) i x
      shown i x true e at =
          let here : i ≡ listed = eqb-true i listed e in
          let is : answer ≡ x = ap answer_or (sym kept_now ∙ subst (λ (n : ℕ). kept_at n (insert_entry nat_cmp kept listed answer) ≡ Some x) here at) in
          shows_last (LocalRead listed note) (Call note.node note.key Read) a i x (start header) (world_of run) [] front run.events assembly.goes accepted (sym here, answered ∙ ap (λ (y : Answer). y ∷ []) is)
      shown i x false e at =
          shows_before (LocalRead listed note) (Call note.node note.key Read) a i x (start header) (world_of run) [] front run.events assembly.goes
          (assembly.shows i x (sym (kept_else i (eqb-false i listed e)) ∙ at))

      by_split : (i : ℕ) (x : Answer) → ReadShows (start header) front run.events i x ⊎ LastShows (LocalRead listed note) a i x → kept_at i (insert_entry nat_cmp kept listed answer) ≡ Some x
      by_split i x (inr (here, is)) =
          subst (λ (n : ℕ). kept_at n (insert_entry nat_cmp kept listed answer) ≡ Some x) here (kept_now ∙ ap (λ (y : Answer). Some y) (ap head_or (sym answered ∙ is)))
      by_split i x (inl before) = by_test (eqb i listed) refl (assembly.keeps i x before)
        where
          by_test : (b : Bool) → eqb i listed ≡ b → kept_at i kept ≡ Some x → kept_at i (insert_entry nat_cmp kept listed answer) ≡ Some x
          by_test true e at = absurd (never (sym none ∙ subst (λ (n : ℕ). kept_at n kept ≡ Some x) (eqb-true i listed e) at))
            where
              never : None ≡ Some x → ⊥
              never e = cc
          by_test false e at = kept_else i (eqb-false i listed e) ∙ at

  pub look_done : ReadsAreAnswered → (listed : ℕ) (note : Note) (answer : Answer) (new : RunState) (now : Kepts) → IsLooked answer run new note.node note.key → kept_at listed kept ≡ None → now ≡ insert_entry nat_cmp kept listed answer →
      IsAssembly header new sent now (front ++ LocalRead listed note ∷ [])
  look_done reads listed note answer new now (a, accepted, answered, is) none puts =
      subst (λ (r : RunState). IsAssembly header r sent now (front ++ LocalRead listed note ∷ [])) (sym is)
      (subst (λ (k : Kepts). IsAssembly header (with_event run (Call note.node note.key Read)) sent k (front ++ LocalRead listed note ∷ [])) (sym puts) (look_on reads listed note a answer accepted answered none))

  pub step_done : {U : Type 0} → (done : U) → LettersStayKnown → (node : NodeId) (entry : JournalEntry) (event : Event) (first : ℕ) (new : RunState) (now : Buckets) → IsEventBy sent node entry.ticket entry.event event →
      first ≡ length (world_of run).letters + 1 → IsStepMade {U = U} (Ok done) run new event node entry → now ≡ with_letters sent first entry.ticket entry.letters → IsAssembly header new now kept (front ++ Step node entry ∷ [])
  step_done done known node entry event first new now by numbers (a, accepted, is, gave, answered) puts =
      subst (λ (r : RunState). IsAssembly header r now kept (front ++ Step node entry ∷ [])) (sym is)
      (subst (λ (b : Buckets). IsAssembly header (with_event run event) b kept (front ++ Step node entry ∷ [])) (sym puts) (step_on known node entry event a first by accepted gave answered numbers))

  -- an entry whose step gives something else
  pub step_fails : {U : Type 0} → (unit : U) (gap : Gap) (items : List Item) (node : NodeId) (entry : JournalEntry) (event : Event) (new : RunState) → IsEventBy sent node entry.ticket entry.event event → IsStepMade {U = U} (Err gap) run new event node entry →
      OrMemory gap (IsFailure gap run items front (Step node entry))
  step_fails unit Gap.Memory items node entry event new by made = tt
  step_fails unit (Gap.Letter taken s) items node entry event new by made = absurd made
  step_fails unit (Gap.Note call ticket told k) items node entry event new by made = absurd made
  step_fails unit (Gap.Entry at ticket None) items node entry event new by made = absurd made
  step_fails unit (Gap.Entry at ticket (Some given)) items node entry event new by (a, accepted, here, drawn, other, letters, replies) =
      (node, entry, refl, (here, drawn, event, event_is sent (world_of run).letters (tickets_of [] front) node entry.ticket entry.event event assembly.knows by, a, accepted, other, letters, replies))

-- an entry that fails whatever the world is
pub marred_fails : (gap : Gap) (items front : List Item) (run : RunState) (node : NodeId) (entry : JournalEntry) → IsMarred gap items node entry → OrMemory gap (IsFailure gap run items front (Step node entry))
marred_fails Gap.Memory items front run node entry marred = tt
marred_fails (Gap.Letter taken s) items front run node entry marred = (node, entry, refl, marred (world_of run) (tickets_of [] front))
marred_fails (Gap.Entry at ticket given) items front run node entry marred = (node, entry, refl, marred (world_of run) (tickets_of [] front))
marred_fails (Gap.Note call ticket told k) items front run node entry marred = absurd marred
