-- Of one input one answer is told, but for want of memory.
use Rattle.std.proofs.Common.{◌≡◌, ◌≢◌, ◌⊎◌, ◌<◌, ◌≤◌, ℕ, zero, suc, List, [], ◌∷◌, ◌++◌, map, length, Option, Some, None, Result, Ok, Err, refl, sym, ap, subst, ◌∙◌, inl, inr, arith, slice_get, append_assoc, Less}
use Rattle.std.specs.Prelude.{⊤}
use Rattle.std.specs.List.{AllByRecursion}
use Rattle.std.specs.Option.{IsSomeAnd}
use Rattle.std.specs.List.Sorted.{IsStrictlySortedBy}
use Rattle.std.proofs.lemmas.Map.Keys.{sorted_head, sorted_tail}
use Rattle.std.proofs.lemmas.Option.{slice_get_within}
use Rattle.hk_base.specs.declared.stamp.NodeId.{NodeId}
use Rattle.hk_base.specs.declared.call.Answer.{Answer}
use Rattle.hk_base.specs.declared.call.CallNo.{CallNo}
use Rattle.hk_base.specs.declared.call.Reply.{Reply}
use Rattle.hk_base.specs.declared.letter.Letter.{Letter}
use Rattle.hk_node.specs.Node.{NodeState}
use Rattle.hk_node.specs.declared.event.NodeEvent.{NodeEvent}
use Rattle.hk_node.specs.declared.event.NodeEvent.TheVariants as NodeEvent
use Rattle.hk_journal.specs.declared.step_entry.JournalEntry.{JournalEntry}
use Rattle.hk_event.specs.declared.event.Header.{Header}
use Rattle.hk_event.specs.declared.event.Event.{Event}
use Rattle.hk_event.specs.declared.event.Event.TheVariants.{Take}
use Rattle.hk_world.specs.declared.process.Process.{Process}
use Rattle.hk_event.specs.declared.refused.Refused.{Refused}
use Rattle.hk_world.specs.declared.shown.Shown.{Shown}
use Rattle.hk_world.specs.World.{WorldState, process_at, numbered}
use Rattle.hk_world.specs.Start.{start}
use Rattle.hk_world.specs.Steps.{Accepted, world_step}
use Rattle.hk_safety.specs.Run.{RunState, world_of}
use Rattle.hk_merge.specs.declared.note.Note.{Note}
use Rattle.hk_merge.specs.Aside.{alive}
use Rattle.hk_merge.specs.Reads.{IsMerged, ReadsAreAnswered, read_answer}
use Rattle.hk_merge.specs.Merged.{JournalList, Item, Step, LocalRead, In, Rises, journal_or, journal_of, place_of, place_cmp, IsFounded, IsItem, IsFirst, IsEventOf, IsOf, answers_of, tickets_after, tickets_of, Goes, AreMerged}
use Rattle.hk_merge.specs.Shows.{IsKeptAt, ReadShows, KeptIsShown}
use Rattle.hk_merge.specs.Single.{MergedIsSingle}
use Rattle.hk_merge.proofs.Between.{never_both}
use Rattle.hk_assemble.specs.declared.gap.Gap.{Gap}
use Rattle.hk_assemble.specs.declared.gap.Given.{Given}
use Rattle.hk_assemble.specs.declared.gap.Gap.TheVariants as Gap
use Rattle.hk_assemble.specs.Assembled.{IsSent, IsLeastSent, TakesUnsent, FailsAt, FailsFirst, IsKept, FailsNote, IsGap, IsRunOf, IsAssembled}
use Rattle.hk_assemble.specs.Single.{IsTelling, AnswersAreOne}
use Rattle.hk_assemble.proofs.Following.{event_adds, read_adds}

-- ---- small steps
accepted_or : Accepted → Result Accepted Refused → Accepted
accepted_or b (Ok a) = a
accepted_or b (Err refused) = b

ok_is : (a b : Accepted) (r : Result Accepted Refused) → r ≡ Ok a → r ≡ Ok b → a ≡ b
unfolding accepted_or
ok_is a b r x y = ap (accepted_or a) (sym x ∙ y)

some_is : {X : Type 0} (a b : X) → Some a ≡ Some b → a ≡ b
some_is {X} a b e = ap or e
  where
    or : Option X → X
    or None = a
    or (Some x) = x

none_some : {X : Type 0} (x : X) → ◌≡◌ {A = Option X} None (Some x) → ⊥
none_some x e = cc

which : (n m : ℕ) → (n ≡ m) ⊎ ((n < m) ⊎ (m < n))
which n m = grind arith

not_under : (a b : ℕ) → a < b → b ≤ a → ⊥
not_under a b x y = omega (arith, x, y)

le_both : (a b : ℕ) → a ≤ b → b ≤ a → a ≡ b
le_both a b x y = omega (arith, x, y)

head_is : {X : Type 0} (x y : X) (xs ys : List X) → ◌≡◌ {A = List X} (x ∷ xs) (y ∷ ys) → x ≡ y
head_is {X} x y xs ys e = ap or e
  where
    or : List X → X
    or [] = x
    or (z ∷ zs) = z

tail_is : {X : Type 0} (x y : X) (xs ys : List X) → ◌≡◌ {A = List X} (x ∷ xs) (y ∷ ys) → xs ≡ ys
tail_is {X} x y xs ys e = ap rest e
  where
    rest : List X → List X
    rest [] = []
    rest (z ∷ zs) = zs

abbrev give : List Letter → List Reply → Given
give letters replies = record { letters = letters; replies = replies }

given_is : (a b : Given) → a.letters ≡ b.letters → a.replies ≡ b.replies → Some a ≡ Some b
given_is a b letters replies = ap (λ (l : List Letter). Some (give l a.replies)) letters ∙ ap (λ (r : List Reply). Some (give b.letters r)) replies

entry_is : {at at' : NodeId} {ticket ticket' : ℕ} {given given' : Option Given} → at ≡ at' → ticket ≡ ticket' → given ≡ given' → Gap.Entry at ticket given ≡ Gap.Entry at' ticket' given'
entry_is {at} {at'} {ticket} {ticket'} {given} {given'} a t g = ap (λ (n : NodeId). Gap.Entry n ticket given) a ∙ (ap (λ (k : ℕ). Gap.Entry at' k given) t ∙ ap (λ (o : Option Given). Gap.Entry at' ticket' o) g)

note_is : {call call' : CallNo} {ticket ticket' : ℕ} {told told' : Answer} {kept kept' : Option Answer} → call ≡ call' → ticket ≡ ticket' → told ≡ told' → kept ≡ kept' → Gap.Note call ticket told kept ≡ Gap.Note call' ticket' told' kept'
note_is {call} {call'} {ticket} {ticket'} {told} {told'} {kept} {kept'} c t d k =
    ap (λ (n : CallNo). Gap.Note n ticket told kept) c ∙ (ap (λ (n : ℕ). Gap.Note call' n told kept) t ∙ (ap (λ (a : Answer). Gap.Note call' ticket' a kept) d ∙ ap (λ (o : Option Answer). Gap.Note call' ticket' told' o) k))

-- ---- one event for each item
first_one : (letter : Letter) (ticket : ℕ) (letters : List Letter) (tickets : List ℕ) (n m : ℕ) → IsFirst letter ticket letters tickets n → IsFirst letter ticket letters tickets m → n ≡ m
first_one letter ticket letters tickets n m a b = by_order (which n m)
  where
    by_order : (n ≡ m) ⊎ ((n < m) ⊎ (m < n)) → n ≡ m
    by_order (inl same) = same
    by_order (inr (inl less)) = absurd (b.first n less a.there)
    by_order (inr (inr less)) = absurd (a.first m less b.there)

event_one : (letters : List Letter) (tickets : List ℕ) (node : NodeId) (ticket : ℕ) (made : NodeEvent) (a b : Event) → IsEventOf letters tickets node ticket made a → IsEventOf letters tickets node ticket made b → a ≡ b
event_one letters tickets node ticket (NodeEvent.Call call key op) a b x y = x ∙ sym y
event_one letters tickets node ticket (NodeEvent.Receive letter) a b (n, x, fx, tx) (m, y, fy, ty) = x ∙ (ap (λ (k : ℕ). Take k) (first_one letter ticket letters tickets n m fx fy) ∙ sym y)
event_one letters tickets node ticket (NodeEvent.Resend key) a b x y = x ∙ sym y
event_one letters tickets node ticket (NodeEvent.Replay key) a b x y = x ∙ sym y
event_one letters tickets node ticket made a b x y = absurd x

of_one : (item : Item) (letters : List Letter) (tickets : List ℕ) (a b : Event) (sa sb : Shown) → IsOf item letters tickets a sa → IsOf item letters tickets b sb → a ≡ b
of_one (Step node entry) letters tickets a b sa sb x y = event_one letters tickets node entry.ticket entry.event a b x.0 y.0
of_one (LocalRead listed note) letters tickets a b sa sb x y = x ∙ sym y

-- ---- one run
record Same (ea eb : List Event) (la lb : WorldState) : Type 0 where
  events : ea ≡ eb
  last : la ≡ lb

goes_one : (w : WorldState) (tickets : List ℕ) (items : List Item) (ea eb : List Event) (la lb : WorldState) → Goes w tickets items ea la → Goes w tickets items eb lb → Same ea eb la lb
goes_one w tickets [] [] [] la lb x y = record { events = refl; last = x ∙ sym y }
goes_one w tickets [] (e ∷ ea) eb la lb x y = absurd x
goes_one w tickets [] [] (f ∷ eb) la lb x y = absurd y
goes_one w tickets (item ∷ items) [] eb la lb x y = absurd x
goes_one w tickets (item ∷ items) (e ∷ ea) [] la lb x y = absurd y
goes_one w tickets (item ∷ items) (e ∷ ea) (f ∷ eb) la lb (a, oka, isa, x) (b, okb, isb, y) =
    let same : e ≡ f = of_one item w.letters tickets e f a.shown b.shown isa isb in
    let one : a ≡ b = ok_is a b (world_step w e) oka (ap (λ (v : Event). world_step w v) same ∙ okb) in
    let more = goes_one a.world (tickets_after tickets item) items ea eb la lb x (subst (λ (d : Accepted). Goes d.world (tickets_after tickets item) items eb lb) (sym one) y) in
    record { events = ap (λ (v : Event). v ∷ ea) same ∙ ap (λ (l : List Event). f ∷ l) more.events; last = more.last }

-- what happens at an item
record At (w : WorldState) (tickets : List ℕ) (front : List Item) (x : Item) : Type 0 where
  first : List Event
  middle : WorldState
  goes : Goes w tickets front first middle
  event : Event
  accepted : Accepted
  happens : world_step middle event ≡ Ok accepted
  is : IsOf x middle.letters (tickets_of tickets front) event accepted.shown

goes_at : (w last : WorldState) (tickets : List ℕ) (front : List Item) (x : Item) (back : List Item) (events : List Event) → Goes w tickets (front ++ (x ∷ back)) events last → At w tickets front x
goes_at w last tickets [] x back [] goes = absurd goes
goes_at w last tickets [] x back (e ∷ events) (a, ok, is, goes) = record { first = []; middle = w; goes = refl; event = e; accepted = a; happens = ok; is = is }
goes_at w last tickets (y ∷ front) x back [] goes = absurd goes
goes_at w last tickets (y ∷ front) x back (e ∷ events) (a, ok, is, goes) =
    let more = goes_at a.world last (tickets_after tickets y) front x back events goes in
    record { first = e ∷ more.first; middle = more.middle; goes = (a, ok, is, more.goes); event = more.event; accepted = more.accepted; happens = more.happens; is = more.is }

-- ---- letters come from entries
abbrev SentBy : List Item → List Letter → List ℕ → Type 0
SentBy items [] [] = ⊤
SentBy items (l ∷ letters) (t ∷ tickets) = IsSent items l t × SentBy items letters tickets
SentBy items [] (t ∷ tickets) = ⊥
SentBy items (l ∷ letters) [] = ⊥

sent_join : (items : List Item) (la : List Letter) (ta : List ℕ) (lb : List Letter) (tb : List ℕ) → SentBy items la ta → SentBy items lb tb → SentBy items (la ++ lb) (ta ++ tb)
sent_join items [] [] lb tb x y = y
sent_join items (l ∷ la) (t ∷ ta) lb tb x y = (x.0, sent_join items la ta lb tb x.1 y)
sent_join items [] (t ∷ ta) lb tb x y = absurd x
sent_join items (l ∷ la) [] lb tb x y = absurd x

sent_of : (items : List Item) (node : NodeId) (entry : JournalEntry) → In items (Step node entry) → (letters : List Letter) → ((l : Letter) → In letters l → In entry.letters l) → SentBy items letters (map (λ (l : Letter). entry.ticket) letters)
sent_of items node entry there [] has = tt
sent_of items node entry there (l ∷ letters) has = ((node, entry, there, has l (inl refl), refl), sent_of items node entry there letters (λ x is. has x (inr is)))

sent_at : (items : List Item) (letters : List Letter) (tickets : List ℕ) (k : ℕ) (l : Letter) (t : ℕ) → SentBy items letters tickets → slice_get letters k ≡ Some l → slice_get tickets k ≡ Some t → IsSent items l t
sent_at items [] [] k l t sent at drawn = absurd (none_some l at)
sent_at items (x ∷ letters) (u ∷ tickets) zero l t sent at drawn = subst (λ (y : Letter). IsSent items y t) (some_is x l at) (subst (λ (n : ℕ). IsSent items x n) (some_is u t drawn) sent.0)
sent_at items (x ∷ letters) (u ∷ tickets) (suc k) l t sent at drawn = sent_at items letters tickets k l t sent.1 at drawn
sent_at items [] (u ∷ tickets) k l t sent at drawn = absurd sent
sent_at items (x ∷ letters) [] k l t sent at drawn = absurd sent

sent_numbered : (items : List Item) (letters : List Letter) (tickets : List ℕ) (n : ℕ) (l : Letter) (t : ℕ) → SentBy items letters tickets → numbered n letters ≡ Some l → numbered n tickets ≡ Some t → IsSent items l t
sent_numbered items letters tickets zero l t sent at drawn = absurd (none_some l at)
sent_numbered items letters tickets (suc k) l t sent at drawn = sent_at items letters tickets k l t sent at drawn

module _ (reads : ReadsAreAnswered) (all : List Item) where
  item_sent : (w : WorldState) (tickets : List ℕ) (item : Item) (event : Event) (a : Accepted) → In all item → SentBy all w.letters tickets → IsOf item w.letters tickets event a.shown → world_step w event ≡ Ok a → SentBy all a.world.letters (tickets_after tickets item)
  item_sent w tickets (Step node entry) event a there sent (is, letters, replies) ok =
      let adds : a.world.letters ≡ w.letters ++ entry.letters = event_adds w tickets node entry.ticket entry.event event a is ok ∙ ap (λ (l : List Letter). w.letters ++ l) letters in
      subst (λ (l : List Letter). SentBy all l (tickets ++ map (λ (x : Letter). entry.ticket) entry.letters)) (sym adds)
      (sent_join all w.letters tickets entry.letters (map (λ (x : Letter). entry.ticket) entry.letters) sent (sent_of all node entry there entry.letters (λ l has. has)))
  item_sent w tickets (LocalRead listed note) event a there sent is ok =
      subst (λ (l : List Letter). SentBy all l tickets) (sym (read_adds reads w note.node note.key a (ap (λ (v : Event). world_step w v) (sym is) ∙ ok))) sent

  goes_sent : (w last : WorldState) (tickets : List ℕ) (items : List Item) (events : List Event) → ((x : Item) → In items x → In all x) → SentBy all w.letters tickets → Goes w tickets items events last → SentBy all last.letters (tickets_of tickets items)
  goes_sent w last tickets [] [] within sent goes = subst (λ (v : WorldState). SentBy all v.letters tickets) (sym goes) sent
  goes_sent w last tickets [] (e ∷ events) within sent goes = absurd goes
  goes_sent w last tickets (x ∷ items) [] within sent goes = absurd goes
  goes_sent w last tickets (x ∷ items) (e ∷ events) within sent (a, ok, is, goes) =
      goes_sent a.world last (tickets_after tickets x) items events (λ y there. within y (inr there)) (item_sent w tickets x e a (within x (inl refl)) sent is ok) goes

-- ---- an entry that goes does not fail
is_merged : (letters : List Letter) (tickets : List ℕ) (node : NodeId) (ticket : ℕ) (made : NodeEvent) (event : Event) → IsEventOf letters tickets node ticket made event → IsMerged made
is_merged letters tickets node ticket (NodeEvent.Call call key op) event is = tt
is_merged letters tickets node ticket (NodeEvent.Receive letter) event is = tt
is_merged letters tickets node ticket (NodeEvent.Resend key) event is = tt
is_merged letters tickets node ticket (NodeEvent.Replay key) event is = tt
is_merged letters tickets node ticket made event is = absurd is

module _ (items : List Item) (w : WorldState) (tickets : List ℕ) (node : NodeId) (entry : JournalEntry) (sent : SentBy items w.letters tickets) where
  never_unsent : (letter : Letter) → TakesUnsent items entry letter → (event : Event) → IsEventOf w.letters tickets node entry.ticket entry.event event → ⊥
  never_unsent letter (is, none) event goes = at (subst (λ (e : NodeEvent). IsEventOf w.letters tickets node entry.ticket e event) is goes)
    where
      by_ticket : (number : ℕ) → numbered number w.letters ≡ Some letter → (o : Option ℕ) → numbered number tickets ≡ o → IsSomeAnd o (λ (t : ℕ). t < entry.ticket) → ⊥
      by_ticket number there None drawn lower = absurd lower
      by_ticket number there (Some t) drawn lower = not_under t entry.ticket lower (none t (sent_numbered items w.letters tickets number letter t sent there drawn))

      at : IsEventOf w.letters tickets node entry.ticket (NodeEvent.Receive letter) event → ⊥
      at (number, e, first, to) = by_ticket number first.there (numbered number tickets) refl first.lower

  goes_well : (gap : Gap) → FailsAt items w tickets node entry gap → (event : Event) (a : Accepted) → IsOf (Step node entry) w.letters tickets event a.shown → world_step w event ≡ Ok a → ⊥
  goes_well (Gap.Letter taken s) (letter, takes, at, least) event a (is, letters, replies) ok = never_unsent letter takes event is
  goes_well (Gap.Entry at ticket None) (here, drawn, none, inl other) event a (is, letters, replies) ok = other (is_merged w.letters tickets node entry.ticket entry.event event is)
  goes_well (Gap.Entry at ticket None) (here, drawn, none, inr (letter, takes, far)) event a (is, letters, replies) ok =
      far (subst (λ (e : NodeEvent). IsEventOf w.letters tickets node entry.ticket e event) takes is).3
  goes_well (Gap.Entry at ticket (Some given)) (here, drawn, e, ise, b, okb, differ, gl, gr) event a (is, letters, replies) ok = by_case differ
    where
      same : e ≡ event
      same = event_one w.letters tickets node entry.ticket entry.event e event ise is

      one : b ≡ a
      one = ok_is b a (world_step w event) (ap (λ (v : Event). world_step w v) (sym same) ∙ okb) ok

      by_case : (b.shown.letters ≢ entry.letters) ⊎ (answers_of b.shown.replies ≢ answers_of entry.replies) → ⊥
      by_case (inl other) = other (ap (λ (x : Accepted). x.shown.letters) one ∙ letters)
      by_case (inr other) = other (ap (λ (x : Accepted). answers_of x.shown.replies) one ∙ replies)
  goes_well (Gap.Note call ticket told kept) fails event a is ok = absurd fails
  goes_well Gap.Memory fails event a is ok = absurd fails

  -- an entry fails in one way
  fails_one : (x y : Gap) → FailsAt items w tickets node entry x → FailsAt items w tickets node entry y → x ≡ y
  fails_one (Gap.Letter taken s) (Gap.Letter taken' s') (l, takes, at, least) (l', takes', at', least') =
      ap (λ (t : ℕ). Gap.Letter t s) (at ∙ sym at') ∙ ap (λ (o : Option ℕ). Gap.Letter taken' o) (least_one s s' least (subst (λ (z : Letter). IsLeastSent items z s') (sym same) least'))
    where
      letter_or : Letter → NodeEvent → Letter
      letter_or z (NodeEvent.Receive m) = m
      letter_or z e = z

      same : l ≡ l'
      same = ap (letter_or l) (sym takes.0 ∙ takes'.0)

      least_one : (a b : Option ℕ) → IsLeastSent items l a → IsLeastSent items l b → a ≡ b
      least_one None None x y = refl
      least_one None (Some b) x y = absurd (x b y.0)
      least_one (Some a) None x y = absurd (y a x.0)
      least_one (Some a) (Some b) x y = ap (λ (n : ℕ). Some n) (le_both a b (x.1 b y.0) (y.1 a x.0))
  fails_one (Gap.Letter taken s) (Gap.Entry at' ticket' None) (l, takes, at, least) (here', drawn', none', why') = absurd (none' l takes)
  fails_one (Gap.Letter taken s) (Gap.Entry at' ticket' (Some given')) (l, takes, at, least) (here', drawn', e, ise, b, okb, db, lb, rb) = absurd (never_unsent l takes e ise)
  fails_one (Gap.Entry at ticket None) (Gap.Letter taken' s') (here, drawn, none, why) (l, takes, at', least) = absurd (none l takes)
  fails_one (Gap.Entry at ticket (Some given)) (Gap.Letter taken' s') (here, drawn, e, ise, b, okb, db, lb, rb) (l, takes, at', least) = absurd (never_unsent l takes e ise)
  fails_one (Gap.Entry at ticket None) (Gap.Entry at' ticket' None) (here, drawn, none, why) (here', drawn', none', why') = entry_is (here ∙ sym here') (drawn ∙ sym drawn') refl
  fails_one (Gap.Entry at ticket None) (Gap.Entry at' ticket' (Some given')) (here, drawn, none, inl other) (here', drawn', e, ise, b, okb, db, lb, rb) = absurd (other (is_merged w.letters tickets node entry.ticket entry.event e ise))
  fails_one (Gap.Entry at ticket None) (Gap.Entry at' ticket' (Some given')) (here, drawn, none, inr (l, takes, far)) (here', drawn', e, ise, b, okb, db, lb, rb) =
      absurd (far (subst (λ (v : NodeEvent). IsEventOf w.letters tickets node entry.ticket v e) takes ise).3)
  fails_one (Gap.Entry at ticket (Some given)) (Gap.Entry at' ticket' None) (here, drawn, e, ise, b, okb, db, lb, rb) (here', drawn', none, inl other) = absurd (other (is_merged w.letters tickets node entry.ticket entry.event e ise))
  fails_one (Gap.Entry at ticket (Some given)) (Gap.Entry at' ticket' None) (here, drawn, e, ise, b, okb, db, lb, rb) (here', drawn', none, inr (l, takes, far)) =
      absurd (far (subst (λ (v : NodeEvent). IsEventOf w.letters tickets node entry.ticket v e) takes ise).3)
  fails_one (Gap.Entry at ticket (Some given)) (Gap.Entry at' ticket' (Some given')) (here, drawn, e, ise, a, oka, da, la, ra) (here', drawn', f, isf, b, okb, db, lb, rb) =
      entry_is (here ∙ sym here') (drawn ∙ sym drawn') (given_is given given' (la ∙ (ap (λ (x : Accepted). x.shown.letters) one ∙ sym lb)) (ra ∙ (ap (λ (x : Accepted). x.shown.replies) one ∙ sym rb)))
    where
      same : e ≡ f
      same = event_one w.letters tickets node entry.ticket entry.event e f ise isf

      one : a ≡ b
      one = ok_is a b (world_step w e) oka (ap (λ (v : Event). world_step w v) same ∙ okb)
  fails_one x (Gap.Note call ticket told kept) fx fy = absurd fy
  fails_one x Gap.Memory fx fy = absurd fy
  fails_one (Gap.Note call ticket told kept) y fx fy = absurd fx
  fails_one Gap.Memory y fx fy = absurd fx

-- ---- two places in one list
abbrev Places : List Item → Item → List Item → List Item → Item → List Item → Type 0
Places fa xa ba fb xb bb = ((fa ≡ fb) × (xa ≡ xb)) ⊎ (((more : List Item) × (fb ≡ fa ++ (xa ∷ more))) ⊎ ((more : List Item) × (fa ≡ fb ++ (xb ∷ more))))

places : (fa : List Item) (xa : Item) (ba fb : List Item) (xb : Item) (bb : List Item) → fa ++ (xa ∷ ba) ≡ fb ++ (xb ∷ bb) → Places fa xa ba fb xb bb
places [] xa ba [] xb bb e = inl (refl, head_is xa xb ba bb e)
places [] xa ba (y ∷ fb) xb bb e = inr (inl (fb, ap (λ (z : Item). z ∷ fb) (sym (head_is xa y ba (fb ++ (xb ∷ bb)) e))))
places (x ∷ fa) xa ba [] xb bb e = inr (inr (fa, ap (λ (z : Item). z ∷ fa) (head_is x xb (fa ++ (xa ∷ ba)) bb e)))
places (x ∷ fa) xa ba (y ∷ fb) xb bb e = on (places fa xa ba fb xb bb (tail_is x y (fa ++ (xa ∷ ba)) (fb ++ (xb ∷ bb)) e))
  where
    same : x ≡ y
    same = head_is x y (fa ++ (xa ∷ ba)) (fb ++ (xb ∷ bb)) e

    on : Places fa xa ba fb xb bb → Places (x ∷ fa) xa ba (y ∷ fb) xb bb
    on (inl here) = inl (ap (λ (z : Item). z ∷ fa) same ∙ ap (λ (l : List Item). y ∷ l) here.0, here.1)
    on (inr (inl later)) = inr (inl (later.0, ap (λ (l : List Item). y ∷ l) later.1 ∙ ap (λ (z : Item). z ∷ (fa ++ (xa ∷ later.0))) (sym same)))
    on (inr (inr earlier)) = inr (inr (earlier.0, ap (λ (l : List Item). x ∷ l) earlier.1 ∙ ap (λ (z : Item). z ∷ (fb ++ (xb ∷ earlier.0))) same))

in_front : (front : List Item) (x : Item) (back : List Item) (y : Item) → In front y → In (front ++ (x ∷ back)) y
in_front [] x back y is = absurd is
in_front (z ∷ front) x back y (inl here) = inl here
in_front (z ∷ front) x back y (inr more) = inr (in_front front x back y more)

in_middle : (front : List Item) (x : Item) (back : List Item) → In (front ++ (x ∷ back)) x
in_middle [] x back = inl refl
in_middle (z ∷ front) x back = inr (in_middle front x back)

holds : (P : Item → Type 0) (items : List Item) (x : Item) → AllByRecursion P items → In items x → P x
holds P [] x all is = absurd is
holds P (y ∷ items) x all (inl same) = subst P (sym same) all.0
holds P (y ∷ items) x all (inr more) = holds P items x all.1 more

-- ---- what stands in order stands once
module _ (place : Item → List ℕ) where
  abbrev Sorted : List Item → Type 0
  Sorted items = IsStrictlySortedBy place_cmp (map place items)

  above : (p : List ℕ) (items : List Item) (x : Item) → AllByRecursion (λ (q : List ℕ). place_cmp p q ≡ Less) (map place items) → In items x → place_cmp p (place x) ≡ Less
  above p [] x all is = absurd is
  above p (y ∷ items) x all (inl same) = subst (λ (i : Item). place_cmp p (place i) ≡ Less) (sym same) all.0
  above p (y ∷ items) x all (inr more) = above p items x all.1 more

  head_below : (y : Item) (items : List Item) (x : Item) → Sorted (y ∷ items) → In items x → place_cmp (place y) (place x) ≡ Less
  head_below y items x sorted is = above (place y) items x (sorted_head place_cmp (place y) (map place items) sorted) is

  rest_sorted : (front rest : List Item) → Sorted (front ++ rest) → Sorted rest
  rest_sorted [] rest sorted = sorted
  rest_sorted (x ∷ front) rest sorted = rest_sorted front rest (sorted_tail place_cmp (place x) (map place (front ++ rest)) sorted)

  -- two with one place
  never_twice : (x y : Item) → place x ≡ place y → place_cmp (place x) (place y) ≡ Less → ⊥
  never_twice x y same less =
      let itself : place_cmp (place x) (place x) ≡ Less = subst (λ (p : List ℕ). place_cmp (place x) p ≡ Less) (sym same) less in
      never_both (place x) (place x) itself itself

  later_apart : (items front : List Item) (x : Item) (more : List Item) (y : Item) (back : List Item) → Sorted items → items ≡ (front ++ (x ∷ more)) ++ (y ∷ back) → place x ≡ place y → ⊥
  later_apart items front x more y back sorted is same =
      let split : items ≡ front ++ (x ∷ (more ++ (y ∷ back))) = is ∙ append_assoc front (x ∷ more) (y ∷ back) in
      let rest : Sorted (x ∷ (more ++ (y ∷ back))) = rest_sorted front (x ∷ (more ++ (y ∷ back))) (subst Sorted split sorted) in
      never_twice x y same (head_below x (more ++ (y ∷ back)) y rest (in_middle more y back))

-- the note whose Read was answered
look_in : (w : WorldState) (items : List Item) (events : List Event) (listed : ℕ) (answer : Answer) → ReadShows w items events listed answer → (note : Note) × In items (LocalRead listed note)
look_in w [] events listed answer shows = absurd shows
look_in w (Step n entry ∷ items) [] listed answer shows = absurd shows
look_in w (LocalRead i note ∷ items) [] listed answer shows = absurd shows
look_in w (Step n entry ∷ items) (e ∷ events) listed answer (a, ok, shows) = let m = look_in a.world items events listed answer shows in (m.0, inr m.1)
look_in w (LocalRead i note ∷ items) (e ∷ events) listed answer (a, ok, inl (same, is)) = (note, inl (ap (λ (k : ℕ). LocalRead k note) (sym same)))
look_in w (LocalRead i note ∷ items) (e ∷ events) listed answer (a, ok, inr shows) = let m = look_in a.world items events listed answer shows in (m.0, inr m.1)

alive_one : (a b : NodeState) → Some (alive a) ≡ Some (alive b) → a ≡ b
alive_one a b e = ap (λ (p : Process). p.node) (some_is (alive a) (alive b) e)

has_journal : (journals : JournalList) (node : NodeId) (entry : JournalEntry) → In (journal_of journals node) entry → node.0 < length journals
has_journal journals node entry is = by_journal (slice_get journals node.0) refl is
  where
    by_journal : (o : Option (List JournalEntry)) → slice_get journals node.0 ≡ o → In (journal_or o) entry → node.0 < length journals
    by_journal None at is = absurd is
    by_journal (Some journal) at is = slice_get_within journals node.0 journal at

module _ (reads : ReadsAreAnswered) (shown : KeptIsShown) (header : Header) (journals : JournalList) (notes : List Note) (items : List Item) (merged : AreMerged journals notes items) (rises : (n : NodeId) → Rises (journal_of journals n))
    (alone : header.managers ≡ 0) (whole : length journals ≡ header.nodes) where
  item_is : (x : Item) → In items x → IsItem journals notes x
  item_is x is = holds (IsItem journals notes) items x merged.only is

  -- ---- what is kept of a note
  kept_one : (note : Note) (a b : Answer) → IsKeptAt header items note a → IsKeptAt header items note b → a ≡ b
  kept_one note a b x y = by_places (places x.front (Step note.node x.entry) x.back y.front (Step note.node y.entry) y.back (sym sx ∙ sy))
    where
      sx : items ≡ x.front ++ (Step note.node x.entry ∷ x.back)
      sx = x.split ∙ append_assoc x.front (Step note.node x.entry ∷ []) x.back

      sy : items ≡ y.front ++ (Step note.node y.entry ∷ y.back)
      sy = y.split ∙ append_assoc y.front (Step note.node y.entry ∷ []) y.back

      same_place : place_of journals (Step note.node x.entry) ≡ place_of journals (Step note.node y.entry)
      same_place = ap (λ (t : ℕ). t ∷ 0 ∷ note.node.0 ∷ 1 ∷ 0 ∷ 0 ∷ []) (x.snapshot ∙ sym y.snapshot)

      by_places : Places x.front (Step note.node x.entry) x.back y.front (Step note.node y.entry) y.back → a ≡ b
      by_places (inl (front, item)) =
          let goes : Goes (start header) [] (x.front ++ (Step note.node x.entry ∷ [])) y.events y.world =
          subst (λ (i : Item). Goes (start header) [] (x.front ++ (i ∷ [])) y.events y.world) (sym item)
          (subst (λ (l : List Item). Goes (start header) [] (l ++ (Step note.node y.entry ∷ [])) y.events y.world) (sym front) y.goes) in
          let one = goes_one (start header) [] (x.front ++ (Step note.node x.entry ∷ [])) x.events y.events x.world y.world x.goes goes in
          let node : x.node ≡ y.node = alive_one x.node y.node (sym x.runs ∙ (ap (λ (w : WorldState). process_at note.node w.processes) one.last ∙ y.runs)) in
          x.is ∙ (ap (λ (n : NodeState). read_answer n note.key) node ∙ sym y.is)
      by_places (inr (inl later)) =
          absurd (later_apart (place_of journals) items x.front (Step note.node x.entry) later.0 (Step note.node y.entry) y.back merged.ordered
          (sy ∙ ap (λ (l : List Item). l ++ (Step note.node y.entry ∷ y.back)) later.1) same_place)
      by_places (inr (inr earlier)) =
          absurd (later_apart (place_of journals) items y.front (Step note.node y.entry) earlier.0 (Step note.node x.entry) x.back merged.ordered
          (sx ∙ ap (λ (l : List Item). l ++ (Step note.node x.entry ∷ x.back)) earlier.1) (sym same_place))

  kept_founded : (note : Note) (a : Answer) → IsKeptAt header items note a → IsFounded journals note
  kept_founded note a x = (
    x.entry,
    item_is (Step note.node x.entry) (subst (λ (l : List Item). In l (Step note.node x.entry)) (sym (x.split ∙ append_assoc x.front (Step note.node x.entry ∷ []) x.back)) (in_middle x.front (Step note.node x.entry) x.back)),
    x.snapshot,
  )

  kept_same : (note : Note) (a b : Option Answer) → IsKept header journals items note a → IsKept header journals items note b → a ≡ b
  kept_same note None None x y = refl
  kept_same note None (Some b) x y = absurd (x (kept_founded note b y))
  kept_same note (Some a) None x y = absurd (y (kept_founded note a x))
  kept_same note (Some a) (Some b) x y = ap (λ (k : Answer). Some k) (kept_one note a b x y)

  -- ---- what a note's Read shows
  twice : (i : ℕ) (note : Note) (rest : List Item) (listed : ℕ) → Sorted (place_of journals) (LocalRead i note ∷ rest) → AllByRecursion (IsItem journals notes) (LocalRead i note ∷ rest) → i ≡ listed → (other : Note) × In rest (LocalRead listed other) → ⊥
  twice i note rest listed sorted only here (other, there) =
      let item : IsItem journals notes (LocalRead listed other) = holds (IsItem journals notes) rest (LocalRead listed other) only.1 there in
      let same : note ≡ other = some_is note other (sym only.0.0 ∙ (ap (λ (k : ℕ). slice_get notes k) here ∙ item.0)) in
      let one : LocalRead i note ≡ LocalRead listed other = ap (λ (k : ℕ). LocalRead k note) here ∙ ap (λ (n : Note). LocalRead listed n) same in
      never_twice (place_of journals) (LocalRead i note) (LocalRead listed other) (ap (place_of journals) one) (head_below (place_of journals) (LocalRead i note) rest (LocalRead listed other) sorted there)

  shows_one : (w : WorldState) (rest : List Item) (events : List Event) (listed : ℕ) (a b : Answer) → Sorted (place_of journals) rest → AllByRecursion (IsItem journals notes) rest → ReadShows w rest events listed a → ReadShows w rest events listed b → a ≡ b
  shows_one w [] events listed a b sorted only x y = absurd x
  shows_one w (Step n entry ∷ rest) [] listed a b sorted only x y = absurd x
  shows_one w (LocalRead i note ∷ rest) [] listed a b sorted only x y = absurd x
  shows_one w (Step n entry ∷ rest) (e ∷ events) listed a b sorted only (p, okp, x) (q, okq, y) =
      shows_one p.world rest events listed a b (sorted_tail place_cmp (place_of journals (Step n entry)) (map (place_of journals) rest) sorted) only.1 x
      (subst (λ (d : Accepted). ReadShows d.world rest events listed b) (ok_is q p (world_step w e) okq okp) y)
  shows_one w (LocalRead i note ∷ rest) (e ∷ events) listed a b sorted only (p, okp, inl x) (q, okq, inl y) =
      head_is a b [] [] (sym x.1 ∙ (ap (λ (d : Accepted). answers_of d.shown.replies) (ok_is p q (world_step w e) okp okq) ∙ y.1))
  shows_one w (LocalRead i note ∷ rest) (e ∷ events) listed a b sorted only (p, okp, inr x) (q, okq, inr y) =
      shows_one p.world rest events listed a b (sorted_tail place_cmp (place_of journals (LocalRead i note)) (map (place_of journals) rest) sorted) only.1 x
      (subst (λ (d : Accepted). ReadShows d.world rest events listed b) (ok_is q p (world_step w e) okq okp) y)
  shows_one w (LocalRead i note ∷ rest) (e ∷ events) listed a b sorted only (p, okp, inl x) (q, okq, inr y) = absurd (twice i note rest listed sorted only x.0 (look_in q.world rest events listed b y))
  shows_one w (LocalRead i note ∷ rest) (e ∷ events) listed a b sorted only (p, okp, inr x) (q, okq, inl y) = absurd (twice i note rest listed sorted only y.0 (look_in p.world rest events listed a x))

  -- ---- the cases
  first_sent : (front : List Item) (x : Item) (back : List Item) → items ≡ front ++ (x ∷ back) → (events : List Event) (world : WorldState) → Goes (start header) [] front events world → SentBy items world.letters (tickets_of [] front)
  first_sent front x back split events world goes = goes_sent reads items (start header) world [] front events (λ y is. subst (λ (l : List Item). In l y) (sym split) (in_front front x back y is)) tt goes

  fails_never : (events : List Event) (last : WorldState) → Goes (start header) [] items events last → (gap : Gap) → FailsFirst header items gap → ⊥
  fails_never events last goes gap f =
      let at = goes_at (start header) last [] f.front (Step f.node f.entry) f.back events (subst (λ (l : List Item). Goes (start header) [] l events last) f.split goes) in
      let one = goes_one (start header) [] f.front f.events at.first f.world at.middle f.goes at.goes in
      let sent : SentBy items f.world.letters (tickets_of [] f.front) = first_sent f.front (Step f.node f.entry) f.back f.split f.events f.world f.goes in
      goes_well items f.world (tickets_of [] f.front) f.node f.entry sent gap f.fails at.event at.accepted
      (subst (λ (w : WorldState). IsOf (Step f.node f.entry) w.letters (tickets_of [] f.front) at.event at.accepted.shown) (sym one.last) at.is)
      (ap (λ (w : WorldState). world_step w at.event) one.last ∙ at.happens)

  -- one that fails before another that fails
  before_never : (x y : Gap) (fx : FailsFirst header items x) (fy : FailsFirst header items y) (more : List Item) → fy.front ≡ fx.front ++ (Step fx.node fx.entry ∷ more) → ⊥
  before_never x y fx fy more is =
      let at = goes_at (start header) fy.world [] fx.front (Step fx.node fx.entry) more fy.events (subst (λ (l : List Item). Goes (start header) [] l fy.events fy.world) is fy.goes) in
      let one = goes_one (start header) [] fx.front fx.events at.first fx.world at.middle fx.goes at.goes in
      goes_well items fx.world (tickets_of [] fx.front) fx.node fx.entry (first_sent fx.front (Step fx.node fx.entry) fx.back fx.split fx.events fx.world fx.goes) x fx.fails at.event at.accepted
      (subst (λ (w : WorldState). IsOf (Step fx.node fx.entry) w.letters (tickets_of [] fx.front) at.event at.accepted.shown) (sym one.last) at.is)
      (ap (λ (w : WorldState). world_step w at.event) one.last ∙ at.happens)

  firsts_one : (x y : Gap) → FailsFirst header items x → FailsFirst header items y → x ≡ y
  firsts_one x y fx fy = by_places (places fx.front (Step fx.node fx.entry) fx.back fy.front (Step fy.node fy.entry) fy.back (sym fx.split ∙ fy.split))
    where
      node_or : NodeId → Item → NodeId
      node_or n (Step m e) = m
      node_or n (LocalRead i note) = n

      entry_or : JournalEntry → Item → JournalEntry
      entry_or e (Step m d) = d
      entry_or e (LocalRead i note) = e

      by_places : Places fx.front (Step fx.node fx.entry) fx.back fy.front (Step fy.node fy.entry) fy.back → x ≡ y
      by_places (inl (front, item)) =
          let node : fy.node ≡ fx.node = ap (node_or fx.node) (sym item) in
          let entry : fy.entry ≡ fx.entry = ap (entry_or fx.entry) (sym item) in
          let one = goes_one (start header) [] fx.front fx.events fy.events fx.world fy.world fx.goes (subst (λ (l : List Item). Goes (start header) [] l fy.events fy.world) (sym front) fy.goes) in
          fails_one items fx.world (tickets_of [] fx.front) fx.node fx.entry (first_sent fx.front (Step fx.node fx.entry) fx.back fx.split fx.events fx.world fx.goes) x y fx.fails
          (subst (λ (w : WorldState). FailsAt items w (tickets_of [] fx.front) fx.node fx.entry y) (sym one.last)
          (subst (λ (l : List Item). FailsAt items fy.world (tickets_of [] l) fx.node fx.entry y) (sym front)
          (subst (λ (n : NodeId). FailsAt items fy.world (tickets_of [] fy.front) n fx.entry y) node
          (subst (λ (e : JournalEntry). FailsAt items fy.world (tickets_of [] fy.front) fy.node e y) entry fy.fails))))
      by_places (inr (inl later)) = absurd (before_never x y fx fy later.0 later.1)
      by_places (inr (inr earlier)) = absurd (before_never y x fy fx earlier.0 earlier.1)

  -- notes that were told something else
  note_never : (listed : ℕ) (note : Note) (kept : Option Answer) (f : FailsNote header journals notes items listed note kept) (events : List Event) (last : WorldState) → Goes (start header) [] items events last → ReadShows (start header) items events listed note.answer → ⊥
  note_never listed note kept f events last goes told = by_kept kept f.kept_is f.other
    where
      founded : IsFounded journals note
      founded =
          let l = look_in (start header) items events listed note.answer told in
          let item : IsItem journals notes (LocalRead listed l.0) = item_is (LocalRead listed l.0) l.1 in
          subst (λ (n : Note). IsFounded journals n) (some_is l.0 note (sym item.0 ∙ f.lists)) item.1

      by_kept : (k : Option Answer) → IsKept header journals items note k → k ≢ Some note.answer → ⊥
      by_kept None never other = never founded
      by_kept (Some k) is other =
          let s = shown header journals notes items events last listed note rises merged goes f.lists founded alone (subst (λ (n : ℕ). note.node.0 < n) whole (has_journal journals note.node founded.0 founded.1)) in
          other (ap (λ (a : Answer). Some a) (kept_one note k s.0 is s.1 ∙ shows_one (start header) items events listed s.0 note.answer merged.ordered merged.only s.2 told))

  notes_one : (la lb : ℕ) (na nb : Note) (ka kb : Option Answer) → FailsNote header journals notes items la na ka → FailsNote header journals notes items lb nb kb → (la ≡ lb) × (na ≡ nb) × (ka ≡ kb)
  notes_one la lb na nb ka kb x y = by_order (which la lb)
    where
      by_order : (la ≡ lb) ⊎ ((la < lb) ⊎ (lb < la)) → (la ≡ lb) × (na ≡ nb) × (ka ≡ kb)
      by_order (inl same) =
          let note : na ≡ nb = some_is na nb (sym x.lists ∙ (ap (λ (k : ℕ). slice_get notes k) same ∙ y.lists)) in
          (same, note, kept_same na ka kb x.kept_is (subst (λ (n : Note). IsKept header journals items n kb) (sym note) y.kept_is))
      by_order (inr (inl less)) = absurd (x.other (kept_same na ka (Some na.answer) x.kept_is (y.first la na less x.lists)))
      by_order (inr (inr less)) = absurd (y.other (kept_same nb kb (Some nb.answer) y.kept_is (x.first lb nb less y.lists)))

  gaps_one : (x y : Gap) → IsTelling x → IsTelling y → IsGap header journals notes items x → IsGap header journals notes items y → x ≡ y
  gaps_one Gap.Memory y tx ty gx gy = absurd tx
  gaps_one x Gap.Memory tx ty gx gy = absurd ty
  gaps_one (Gap.Letter taken s) (Gap.Letter taken' s') tx ty gx gy = firsts_one (Gap.Letter taken s) (Gap.Letter taken' s') gx gy
  gaps_one (Gap.Letter taken s) (Gap.Entry at ticket given) tx ty gx gy = firsts_one (Gap.Letter taken s) (Gap.Entry at ticket given) gx gy
  gaps_one (Gap.Entry at ticket given) (Gap.Letter taken' s') tx ty gx gy = firsts_one (Gap.Entry at ticket given) (Gap.Letter taken' s') gx gy
  gaps_one (Gap.Entry at ticket given) (Gap.Entry at' ticket' given') tx ty gx gy = firsts_one (Gap.Entry at ticket given) (Gap.Entry at' ticket' given') gx gy
  gaps_one (Gap.Letter taken s) (Gap.Note call ticket told kept) tx ty gx (events, last, goes, listed, note, c, t, d, f) = absurd (fails_never events last goes (Gap.Letter taken s) gx)
  gaps_one (Gap.Entry at tick given) (Gap.Note call ticket told kept) tx ty gx (events, last, goes, listed, note, c, t, d, f) = absurd (fails_never events last goes (Gap.Entry at tick given) gx)
  gaps_one (Gap.Note call ticket told kept) (Gap.Letter taken s) tx ty (events, last, goes, listed, note, c, t, d, f) gy = absurd (fails_never events last goes (Gap.Letter taken s) gy)
  gaps_one (Gap.Note call ticket told kept) (Gap.Entry at tick given) tx ty (events, last, goes, listed, note, c, t, d, f) gy = absurd (fails_never events last goes (Gap.Entry at tick given) gy)
  gaps_one (Gap.Note call ticket told kept) (Gap.Note call' ticket' told' kept') tx ty (ea, la, ga, listed, na, ca, ta, da, fa) (eb, lb, gb, listed', nb, cb, tb, db, fb) =
      let one = notes_one listed listed' na nb kept kept' fa fb in
      note_is (ca ∙ (ap (λ (n : Note). n.call) one.1 ∙ sym cb)) (ta ∙ (ap (λ (n : Note). n.ticket) one.1 ∙ sym tb)) (da ∙ (ap (λ (n : Note). n.answer) one.1 ∙ sym db)) one.2

  run_never : (run : RunState) (gap : Gap) → IsTelling gap → IsRunOf header notes items run → IsGap header journals notes items gap → ⊥
  run_never run Gap.Memory tells is g = absurd tells
  run_never run (Gap.Letter taken s) tells is g = fails_never run.events (world_of run) is.goes (Gap.Letter taken s) g
  run_never run (Gap.Entry at ticket given) tells is g = fails_never run.events (world_of run) is.goes (Gap.Entry at ticket given) g
  run_never run (Gap.Note call ticket told kept) tells is (events, last, goes, listed, note, c, t, d, f) = note_never listed note kept f run.events (world_of run) is.goes (is.told listed note f.lists)

  runs_one : (a b : RunState) → IsRunOf header notes items a → IsRunOf header notes items b → a ≡ b
  runs_one a b x y =
      let one = goes_one (start header) [] items a.events b.events (world_of a) (world_of b) x.goes y.goes in
      ap (λ (h : Header). record { header = h; events = a.events }) (x.same ∙ sym y.same) ∙ ap (λ (l : List Event). record { header = b.header; events = l }) one.events

pub answers_are_one : ReadsAreAnswered → KeptIsShown → MergedIsSingle → AnswersAreOne
answers_are_one reads shown single header journals notes alone rises whole = record {
  runs = λ a b x y. runs_at a b x y;
  gaps = λ a b ta tb x y. gaps_at a b ta tb x y;
  never_both = λ run gap tells x y. never_at run gap tells x y;
}
  where
    runs_at : (a b : RunState) → IsAssembled (Ok a) header journals notes → IsAssembled (Ok b) header journals notes → a ≡ b
    runs_at a b (ia, ma, ra) (ib, mb, rb) = runs_one reads shown header journals notes ia ma rises alone whole a b ra (subst (λ (l : List Item). IsRunOf header notes l b) (single journals notes ib ia mb ma) rb)

    gaps_at : (a b : Gap) → IsTelling a → IsTelling b → IsAssembled (Err a) header journals notes → IsAssembled (Err b) header journals notes → a ≡ b
    gaps_at a b ta tb (ia, ma, ga) (ib, mb, gb) = gaps_one reads shown header journals notes ia ma rises alone whole a b ta tb ga (subst (λ (l : List Item). IsGap header journals notes l b) (single journals notes ib ia mb ma) gb)

    never_at : (run : RunState) (gap : Gap) → IsTelling gap → IsAssembled (Ok run) header journals notes → IsAssembled (Err gap) header journals notes → ⊥
    never_at run gap tells (ia, ma, ra) (ib, mb, gb) = run_never reads shown header journals notes ia ma rises alone whole run gap tells ra (subst (λ (l : List Item). IsGap header journals notes l gap) (single journals notes ib ia mb ma) gb)
