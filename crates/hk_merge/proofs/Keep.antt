-- A note's Read at its place is answered as one directly behind its snapshot's entry.
use Rattle.std.proofs.Common.{◌≡◌, ◌≢◌, ◌⊎◌, ◌<◌, ◌≤◌, ℕ, List, [], ◌∷◌, ◌++◌, map, Bool, true, false, Option, Some, refl, sym, ap, subst, ◌∙◌, inl, inr, eqb, ltb, ltb-false, Less}
use Rattle.std.specs.Prelude.{⊤}
use Rattle.std.specs.List.{AllByRecursion}
use Rattle.std.specs.List.Sorted.{IsStrictlySortedBy}
use Rattle.std.proofs.lemmas.Bool.{eqb-true, eqb-false}
use Rattle.std.proofs.lemmas.Map.Keys.{sorted_head, sorted_tail}
use Rattle.hk_base.specs.declared.stamp.NodeId.{NodeId}
use Rattle.hk_base.specs.declared.letter.Letter.{Letter}
use Rattle.hk_node.specs.declared.event.NodeEvent.{NodeEvent}
use Rattle.hk_node.specs.declared.event.NodeEvent.TheVariants as NodeEvent
use Rattle.hk_node.specs.Laws.{key_of, key_in}
use Rattle.hk_event.specs.declared.event.Event.{Event}
use Rattle.hk_world.specs.declared.shown.Shown.{Shown}
use Rattle.hk_world.specs.World.{WorldState}
use Rattle.hk_merge.specs.Reads.{IsServing}
use Rattle.hk_merge.specs.Aside.{LetterIsAside, IsAside, AreAside, AsidesKeepReads}
use Rattle.hk_journal.specs.declared.step_entry.JournalEntry.{JournalEntry}
use Rattle.hk_merge.specs.declared.note.Note.{Note}
use Rattle.hk_merge.specs.Merged.{JournalList, Item, Step, LocalRead, journal_of, entry_place, note_place, place_of, place_cmp, In, Rises, IsItem, IsEventOf, IsOf, tickets_after, Goes, StandsBetween, NotesAreKept}
use Rattle.hk_merge.proofs.Between.{by_head, less_from, le_both, never_both, notes_stand_between}
use Rattle.hk_merge.proofs.Asides.{same_number}

-- ---- an item that is aside
abbrev ItemIsAside : NodeId → List ℕ → Item → Type 0
ItemIsAside id key (Step node entry) = (node ≢ id) ⊎ (key_of entry.event ≢ Some key)
ItemIsAside id key (LocalRead listed note) = ⊤

other_key : (n id : NodeId) (k key : List ℕ) → (n ≢ id) ⊎ (Some k ≢ Some key) → (n ≢ id) ⊎ (k ≢ key)
other_key n id k key (inl ne) = inl ne
other_key n id k key (inr ne) = inr (λ e. ne (ap (λ (x : List ℕ). Some x) e))

event_is_aside : (w : WorldState) (tickets : List ℕ) (ticket : ℕ) (id : NodeId) (key : List ℕ) (n : NodeId) (made : NodeEvent) (event : Event) → (n ≢ id) ⊎ (key_of made ≢ Some key) → IsEventOf w.letters tickets n ticket made event → IsAside w id key event
event_is_aside w tickets ticket id key n (NodeEvent.Call call k op) event far is = subst (λ (e : Event). IsAside w id key e) (sym is) (inr (other_key n id k key far))
event_is_aside w tickets ticket id key n (NodeEvent.Receive l) event far (number, is, first, to) = subst (λ (e : Event). IsAside w id key e) (sym is) (subst (λ (o : Option Letter). LetterIsAside o id key) (sym first.there) (n, to, far))
event_is_aside w tickets ticket id key n (NodeEvent.Resend k) event far is = subst (λ (e : Event). IsAside w id key e) (sym is) (other_key n id k key far)
event_is_aside w tickets ticket id key n (NodeEvent.Replay k) event far is = subst (λ (e : Event). IsAside w id key e) (sym is) (other_key n id k key far)
event_is_aside w tickets ticket id key n made event far is = absurd is

item_is_aside : (w : WorldState) (tickets : List ℕ) (id : NodeId) (key : List ℕ) (item : Item) (event : Event) (shown : Shown) → ItemIsAside id key item → IsOf item w.letters tickets event shown → IsAside w id key event
item_is_aside w tickets id key (Step n entry) event shown far (is, letters, replies) = event_is_aside w tickets entry.ticket id key n entry.event event far is
item_is_aside w tickets id key (LocalRead listed note) event shown far is = subst (λ (e : Event). IsAside w id key e) (sym is) (inl refl)

pub items_are_aside : (w last : WorldState) (tickets : List ℕ) (id : NodeId) (key : List ℕ) (items : List Item) (events : List Event) → AllByRecursion (ItemIsAside id key) items → Goes w tickets items events last → AreAside id key w events last
items_are_aside w last tickets id key [] [] all goes = goes
items_are_aside w last tickets id key (item ∷ items) (event ∷ events) all (a, accepted, is, goes) =
    (a, accepted, item_is_aside w tickets id key item event a.shown all.0 is, items_are_aside a.world last (tickets_after tickets item) id key items events all.1 goes)
items_are_aside w last tickets id key [] (event ∷ events) all goes = absurd goes
items_are_aside w last tickets id key (item ∷ items) [] all goes = absurd goes

-- ---- what stands between
module _ (journals : JournalList) (notes : List Note) where
  abbrev Sorted : List Item → Type 0
  Sorted items = IsStrictlySortedBy place_cmp (map (place_of journals) items)

  abbrev Below : List ℕ → List Item → Type 0
  Below place items = AllByRecursion (λ (p : List ℕ). place_cmp place p ≡ Less) (map (place_of journals) items)

  sorted_rest : (front rest : List Item) → Sorted (front ++ rest) → Sorted rest
  sorted_rest [] rest sorted = sorted
  sorted_rest (x ∷ front) rest sorted = sorted_rest front rest (sorted_tail place_cmp (place_of journals x) (map (place_of journals) (front ++ rest)) sorted)

  only_rest : (front rest : List Item) → AllByRecursion (IsItem journals notes) (front ++ rest) → AllByRecursion (IsItem journals notes) rest
  only_rest [] rest only = only
  only_rest (x ∷ front) rest only = only_rest front rest only.1

  below_last : (place : List ℕ) (middle : List Item) (y : Item) (back : List Item) → Below place (middle ++ (y ∷ back)) → place_cmp place (place_of journals y) ≡ Less
  below_last place [] y back all = all.0
  below_last place (m ∷ middle) y back all = below_last place middle y back all.1

  ticket_rises : (id : NodeId) (a b : JournalEntry) → place_cmp (entry_place id a) (entry_place id b) ≡ Less → a.ticket < b.ticket
  ticket_rises id a b less = by_less (ltb a.ticket b.ticket) refl
    where
      tail : List ℕ
      tail = 0 ∷ id.0 ∷ 1 ∷ 0 ∷ 0 ∷ []

      by_more : (c : Bool) → ltb b.ticket a.ticket ≡ c → b.ticket ≤ a.ticket → a.ticket < b.ticket
      by_more true t most = absurd (never_both (entry_place id a) (entry_place id b) less (by_head b.ticket a.ticket (0 ∷ id.0 ∷ 1 ∷ 0 ∷ 0 ∷ []) (0 ∷ id.0 ∷ 1 ∷ 0 ∷ 0 ∷ []) (less_from b.ticket a.ticket t)))
      by_more false t most =
          let same : b.ticket ≡ a.ticket = le_both b.ticket a.ticket most (ltb-false b.ticket a.ticket t) in
          let itself : place_cmp (entry_place id a) (entry_place id a) ≡ Less = subst (λ (n : ℕ). place_cmp (entry_place id a) (n ∷ 0 ∷ id.0 ∷ 1 ∷ 0 ∷ 0 ∷ []) ≡ Less) same less in
          absurd (never_both (entry_place id a) (entry_place id a) itself itself)

      by_less : (c : Bool) → ltb a.ticket b.ticket ≡ c → a.ticket < b.ticket
      by_less true t = less_from a.ticket b.ticket t
      by_less false t = by_more (ltb b.ticket a.ticket) refl (ltb-false a.ticket b.ticket t)

  module _ (rises : (n : NodeId) → Rises (journal_of journals n)) (entry : JournalEntry) (listed : ℕ) (note : Note) (snap : entry.ticket ≡ note.ticket) where
    one_is_aside : (m : Item) → place_cmp (entry_place note.node entry) (place_of journals m) ≡ Less → place_cmp (place_of journals m) (place_of journals (LocalRead listed note)) ≡ Less → IsItem journals notes m →
        ItemIsAside note.node note.key m
    one_is_aside (LocalRead i other) after before is = tt
    one_is_aside (Step n e) after before is = by_node (eqb n.0 note.node.0) refl
      where
        not_of : n ≡ note.node → key_of e.event ≡ Some note.key → ⊥
        not_of same names =
            let later : entry.ticket < e.ticket = ticket_rises note.node entry e (subst (λ (i : NodeId). place_cmp (entry_place note.node entry) (entry_place i e) ≡ Less) same after) in
            let there : In (journal_of journals note.node) e = subst (λ (i : NodeId). In (journal_of journals i) e) same is in
            let stands : StandsBetween (journal_of journals note.node) listed note = notes_stand_between (journal_of journals note.node) listed note (rises note.node) in
            never_both (entry_place note.node e) (note_place (journal_of journals note.node) listed note)
            (subst (λ (i : NodeId). place_cmp (entry_place i e) (note_place (journal_of journals note.node) listed note) ≡ Less) same before)
            (stands.before e there (subst (λ (t : ℕ). t < e.ticket) snap later) names)

        by_node : (b : Bool) → eqb n.0 note.node.0 ≡ b → (n ≢ note.node) ⊎ (key_of e.event ≢ Some note.key)
        by_node true t = inr (not_of (same_number n note.node (eqb-true n.0 note.node.0 t)))
        by_node false t = inl (λ same. eqb-false n.0 note.node.0 t (ap (λ (i : NodeId). i.0) same))

    pub middle_is_aside : (middle back : List Item) → Below (entry_place note.node entry) (middle ++ (LocalRead listed note ∷ back)) → Sorted (middle ++ (LocalRead listed note ∷ back)) →
        AllByRecursion (IsItem journals notes) (middle ++ (LocalRead listed note ∷ back)) → AllByRecursion (ItemIsAside note.node note.key) middle
    middle_is_aside [] back below sorted only = tt
    middle_is_aside (m ∷ middle) back below sorted only = (
      one_is_aside m below.0 (below_last (place_of journals m) middle (LocalRead listed note) back (sorted_head place_cmp (place_of journals m) (map (place_of journals) (middle ++ (LocalRead listed note ∷ back))) sorted)) only.0,
      middle_is_aside middle back below.1 (sorted_tail place_cmp (place_of journals m) (map (place_of journals) (middle ++ (LocalRead listed note ∷ back))) sorted) only.1,
    )

pub notes_are_kept : AsidesKeepReads → NotesAreKept
notes_are_kept keep journals notes front middle back entry listed note rises merged snap world last tickets events node goes there serving =
    let rest : List Item = middle ++ (LocalRead listed note ∷ back) in
    let sorted : IsStrictlySortedBy place_cmp (map (place_of journals) (Step note.node entry ∷ (middle ++ (LocalRead listed note ∷ back)))) =
    sorted_rest journals notes front (Step note.node entry ∷ (middle ++ (LocalRead listed note ∷ back))) merged.ordered in
    let only : AllByRecursion (IsItem journals notes) (Step note.node entry ∷ (middle ++ (LocalRead listed note ∷ back))) = only_rest journals notes front (Step note.node entry ∷ (middle ++ (LocalRead listed note ∷ back))) merged.only in
    let aside = middle_is_aside journals notes rises entry listed note snap middle back
    (sorted_head place_cmp (entry_place note.node entry) (map (place_of journals) (middle ++ (LocalRead listed note ∷ back))) sorted)
    (sorted_tail place_cmp (entry_place note.node entry) (map (place_of journals) (middle ++ (LocalRead listed note ∷ back))) sorted) only.1 in
    keep world last events note.node note.key node (items_are_aside world last tickets note.node note.key middle events aside goes) there serving
