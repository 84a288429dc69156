-- What is kept of a note is what its Read shows.
use Rattle.std.proofs.Common.{◌≡◌, ◌⊎◌, ◌+◌, ℕ, List, [], ◌∷◌, ◌++◌, map, Option, Some, Result, Ok, Err, refl, sym, ap, subst, ◌∙◌, inl, inr, Less, append_assoc}
use Rattle.std.specs.List.{AllByRecursion}
use Rattle.std.specs.List.Sorted.{IsStrictlySortedBy}
use Rattle.std.proofs.lemmas.Map.Keys.{sorted_head, sorted_tail}
use Rattle.hk_base.specs.declared.stamp.NodeId.{NodeId}
use Rattle.hk_base.specs.declared.call.CallNo.{CallNo}
use Rattle.hk_base.specs.declared.call.Answer.{Answer}
use Rattle.hk_base.specs.declared.call.Op.TheVariants.{Read}
use Rattle.hk_node.specs.Node.{NodeState}
use Rattle.hk_node.specs.Stepped.{Stepped, replies_of}
use Rattle.hk_event.specs.declared.event.Event.{Event}
use Rattle.hk_event.specs.declared.event.Event.TheVariants.{Call}
use Rattle.hk_world.specs.declared.process.Process.{Process}
use Rattle.hk_event.specs.declared.refused.Refused.{Refused}
use Rattle.hk_world.specs.World.{WorldState, process_at}
use Rattle.hk_world.specs.Start.{start}
use Rattle.hk_world.specs.Steps.{Accepted, live_at, calls_at, world_step}
use Rattle.hk_merge.specs.Reads.{read_answer, ReadsAreAnswered}
use Rattle.hk_merge.specs.Aside.{alive}
use Rattle.hk_merge.specs.Merged.{Item, Step, LocalRead, In, journal_of, entry_place, note_place, place_of, place_cmp, AreMerged, answers_of, tickets_after, tickets_of, Goes, StandsBetween, NotesAreKept}
use Rattle.hk_merge.specs.Serving.{Serves, ServingStays, FoundersServe}
use Rattle.hk_merge.specs.Shows.{IsKeptAt, ReadShows, KeptIsShown}
use Rattle.hk_merge.proofs.Between.{never_both, notes_stand_between}

-- ---- where an item stands
pub record Split (items : List Item) (x : Item) : Type 0 where
  pub front : List Item
  pub back : List Item
  pub is : items ≡ front ++ (x ∷ back)

split_at : (items : List Item) (x : Item) → In items x → Split items x
split_at [] x is = absurd is
split_at (y ∷ items) x (inl same) = record { front = []; back = items; is = ap (λ (z : Item). z ∷ items) (sym same) }
split_at (y ∷ items) x (inr more) = (let s = split_at items x more in record { front = y ∷ s.front; back = s.back; is = ap (λ (l : List Item). y ∷ l) s.is })

in_parts : (front rest : List Item) (x : Item) → In (front ++ rest) x → In front x ⊎ In rest x
in_parts [] rest x is = inr is
in_parts (y ∷ front) rest x (inl same) = inl (inl same)
in_parts (y ∷ front) rest x (inr more) = on (in_parts front rest x more)
  where
    on : In front x ⊎ In rest x → In (y ∷ front) x ⊎ In rest x
    on (inl h) = inl (inr h)
    on (inr h) = inr h

-- what stands in front is below
module _ (place : Item → List ℕ) where
  below : (p : List ℕ) (front : List Item) (y : Item) (back : List Item) → AllByRecursion (λ (q : List ℕ). place_cmp p q ≡ Less) (map place (front ++ (y ∷ back))) → place_cmp p (place y) ≡ Less
  below p [] y back all = all.0
  below p (m ∷ front) y back all = below p front y back all.1

  in_front : (front : List Item) (y : Item) (back : List Item) (x : Item) → IsStrictlySortedBy place_cmp (map place (front ++ (y ∷ back))) → In front x → place_cmp (place x) (place y) ≡ Less
  in_front [] y back x sorted is = absurd is
  in_front (m ∷ front) y back x sorted (inl same) =
      subst (λ (i : Item). place_cmp (place i) (place y) ≡ Less) (sym same) (below (place m) front y back (sorted_head place_cmp (place m) (map place (front ++ (y ∷ back))) sorted))
  in_front (m ∷ front) y back x sorted (inr more) = in_front front y back x (sorted_tail place_cmp (place m) (map place (front ++ (y ∷ back))) sorted) more

-- ---- a run in two parts
pub record Parts (w : WorldState) (tickets : List ℕ) (front rest : List Item) (events : List Event) (last : WorldState) : Type 0 where
  pub first : List Event
  pub more : List Event
  pub is : events ≡ first ++ more
  pub middle : WorldState
  pub goes : Goes w tickets front first middle
  pub on : Goes middle (tickets_of tickets front) rest more last

parts : (w : WorldState) (tickets : List ℕ) (front rest : List Item) (events : List Event) (last : WorldState) → Goes w tickets (front ++ rest) events last → Parts w tickets front rest events last
parts w tickets [] rest events last goes = record { first = []; more = events; is = refl; middle = w; goes = refl; on = goes }
parts w tickets (x ∷ front) rest [] last goes = absurd goes
parts w tickets (x ∷ front) rest (event ∷ events) last (a, accepted, is, goes) =
    let p = parts a.world (tickets_after tickets x) front rest events last goes in
    record { first = event ∷ p.first; more = p.more; is = ap (λ (l : List Event). event ∷ l) p.is; middle = p.middle; goes = (a, accepted, is, p.goes); on = p.on }

shows_behind : (w middle : WorldState) (tickets : List ℕ) (front rest : List Item) (first more : List Event) (listed : ℕ) (answer : Answer) → Goes w tickets front first middle →
    ReadShows middle rest more listed answer → ReadShows w (front ++ rest) (first ++ more) listed answer
shows_behind w middle tickets [] rest [] more listed answer goes shows = subst (λ (v : WorldState). ReadShows v rest more listed answer) goes shows
shows_behind w middle tickets [] rest (event ∷ first) more listed answer goes shows = absurd goes
shows_behind w middle tickets (x ∷ front) rest [] more listed answer goes shows = absurd goes
shows_behind w middle tickets (Step n e ∷ front) rest (event ∷ first) more listed answer (a, accepted, is, goes) shows =
    (a, accepted, shows_behind a.world middle (tickets_after tickets (Step n e)) front rest first more listed answer goes shows)
shows_behind w middle tickets (LocalRead i note ∷ front) rest (event ∷ first) more listed answer (a, accepted, is, goes) shows =
    (a, accepted, inr (shows_behind a.world middle (tickets_after tickets (LocalRead i note)) front rest first more listed answer goes shows))

-- ---- a Read in a world
shown_answers : Result Accepted Refused → List Answer
shown_answers (Ok a) = answers_of a.shown.replies
shown_answers (Err refused) = []

read_shown : ReadsAreAnswered → (w : WorldState) (id : NodeId) (key : List ℕ) (node : NodeState) (a : Accepted) (event : Event) → event ≡ Call id key Read → process_at id w.processes ≡ Some (alive node) →
    world_step w event ≡ Ok a → answers_of a.shown.replies ≡ read_answer node key ∷ []
unfolding shown_answers
read_shown reads w id key node a event is there accepted =
    let call : CallNo = record { 0 = w.calls + 1 } in
    let step : world_step w (Call id key Read) ≡ calls_at w id key Read node = ap (λ (o : Option Process). live_at o (calls_at w id key Read)) there in
    sym (ap shown_answers (ap (λ (e : Event). world_step w e) (sym is) ∙ accepted)) ∙ (ap shown_answers step ∙ ap (λ (s : Stepped). answers_of (replies_of s)) (reads node key call))

pub kept_is_shown : ReadsAreAnswered → FoundersServe → ServingStays → NotesAreKept → KeptIsShown
kept_is_shown reads founders stays keeps header journals notes items events last listed note rises merged goes lists (entry, has, snap) managers within =
    by_split (split_at items (Step note.node entry) (merged.whole (Step note.node entry) has)) (merged.whole (LocalRead listed note) (lists, (entry, has, snap)))
  where
    -- the list as it is split at the entry and at the note
    by_places : (front middle back : List Item) → items ≡ front ++ (Step note.node entry ∷ (middle ++ (LocalRead listed note ∷ back))) → (answer : Answer) × IsKeptAt header items note answer × ReadShows (start header) items events listed answer
    by_places front middle back is =
        let x : Item = Step note.node entry in
        let y : Item = LocalRead listed note in
        let same : items ≡ (front ++ (Step note.node entry ∷ [])) ++ (middle ++ (LocalRead listed note ∷ back)) = is ∙ sym (append_assoc front (Step note.node entry ∷ []) (middle ++ (LocalRead listed note ∷ back))) in
        let p : Parts (start header) [] (front ++ (Step note.node entry ∷ [])) (middle ++ (LocalRead listed note ∷ back)) events last =
        parts (start header) [] (front ++ (Step note.node entry ∷ [])) (middle ++ (LocalRead listed note ∷ back)) events last (subst (λ (l : List Item). Goes (start header) [] l events last) same goes) in
        let q : Parts p.middle (tickets_of [] (front ++ (Step note.node entry ∷ []))) middle (LocalRead listed note ∷ back) p.more last =
        parts p.middle (tickets_of [] (front ++ (Step note.node entry ∷ []))) middle (LocalRead listed note ∷ back) p.more last p.on in
        let up : Serves p.middle note.node = stays (start header) p.middle [] (front ++ (Step note.node entry ∷ [])) p.first note.node p.goes (founders header note.node managers within) in
        let later = keeps journals notes front middle back entry listed note rises (subst (λ (l : List Item). AreMerged journals notes l) is merged) snap p.middle q.middle (tickets_of [] (front ++ (Step note.node entry ∷ []))) q.first up.node q.goes up.runs up.serving in
        let shown : ReadShows q.middle (LocalRead listed note ∷ back) q.more listed (read_answer up.node note.key) = at_look q.middle (tickets_of (tickets_of [] (front ++ (Step note.node entry ∷ []))) middle) back q.more later.0 later.1 (read_answer up.node note.key) later.3 q.on in
        let behind : ReadShows p.middle (middle ++ (LocalRead listed note ∷ back)) (q.first ++ q.more) listed (read_answer up.node note.key) =
        shows_behind p.middle q.middle (tickets_of [] (front ++ (Step note.node entry ∷ []))) middle (LocalRead listed note ∷ back) q.first q.more listed (read_answer up.node note.key) q.goes shown in
        let whole : ReadShows (start header) ((front ++ (Step note.node entry ∷ [])) ++ (middle ++ (LocalRead listed note ∷ back))) (p.first ++ p.more) listed (read_answer up.node note.key) =
        shows_behind (start header) p.middle [] (front ++ (Step note.node entry ∷ [])) (middle ++ (LocalRead listed note ∷ back)) p.first p.more listed (read_answer up.node note.key) p.goes
        (subst (λ (l : List Event). ReadShows p.middle (middle ++ (LocalRead listed note ∷ back)) l listed (read_answer up.node note.key)) (sym q.is) behind) in (
          read_answer up.node note.key,
          record { front = front; entry = entry; back = middle ++ (LocalRead listed note ∷ back); split = same; snapshot = snap; events = p.first; world = p.middle; goes = p.goes; node = up.node; runs = up.runs; is = refl },
          subst (λ (l : List Item). ReadShows (start header) l events listed (read_answer up.node note.key)) (sym same)
              (subst (λ (l : List Event). ReadShows (start header) ((front ++ (Step note.node entry ∷ [])) ++ (middle ++ (LocalRead listed note ∷ back))) l listed (read_answer up.node note.key)) (sym p.is) whole),
        )
      where
        at_look : (w : WorldState) (tickets : List ℕ) (back : List Item) (events : List Event) (node : NodeState) → process_at note.node w.processes ≡ Some (alive node) → (answer : Answer) → read_answer node note.key ≡ answer →
            Goes w tickets (LocalRead listed note ∷ back) events last → ReadShows w (LocalRead listed note ∷ back) events listed answer
        at_look w tickets back [] node there answer same goes = absurd goes
        at_look w tickets back (event ∷ events) node there answer same (a, accepted, is, goes) =
            (a, accepted, inl (refl, read_shown reads w note.node note.key node a event is there accepted ∙ ap (λ (x : Answer). x ∷ []) same))

    by_split : Split items (Step note.node entry) → In items (LocalRead listed note) → (answer : Answer) × IsKeptAt header items note answer × ReadShows (start header) items events listed answer
    by_split s look = by_part (in_parts s.front (Step note.node entry ∷ s.back) (LocalRead listed note) (subst (λ (l : List Item). In l (LocalRead listed note)) s.is look))
      where
        by_part : In s.front (LocalRead listed note) ⊎ In (Step note.node entry ∷ s.back) (LocalRead listed note) → (answer : Answer) × IsKeptAt header items note answer × ReadShows (start header) items events listed answer
        by_part (inl early) =
            let sorted : IsStrictlySortedBy place_cmp (map (place_of journals) (s.front ++ (Step note.node entry ∷ s.back))) = subst (λ (l : List Item). IsStrictlySortedBy place_cmp (map (place_of journals) l)) s.is merged.ordered in
            let stands : StandsBetween (journal_of journals note.node) listed note = notes_stand_between (journal_of journals note.node) listed note (rises note.node) in
            absurd (never_both (entry_place note.node entry) (note_place (journal_of journals note.node) listed note) (stands.behind entry snap)
            (in_front (place_of journals) s.front (Step note.node entry) s.back (LocalRead listed note) sorted early))
        by_part (inr (inl wrong)) = cc
        by_part (inr (inr more)) =
            let t : Split s.back (LocalRead listed note) = split_at s.back (LocalRead listed note) more in
            by_places s.front t.front t.back (s.is ∙ ap (λ (l : List Item). s.front ++ (Step note.node entry ∷ l)) t.is)
