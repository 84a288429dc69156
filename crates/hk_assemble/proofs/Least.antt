-- The least ticket at which a letter was sent, and why an entry fails.
use Rattle.std.proofs.Common.{◌≡◌, ◌≢◌, ◌⊎◌, ◌≤◌, ℕ, List, [], ◌∷◌, min, Bool, true, false, ◌||◌, Option, Some, None, refl, sym, ap, subst, ◌∙◌, inl, inr, arith, nat_lt, if◌then◌else◌}
use Rattle.std.specs.List.{list_any}
use Rattle.std.proofs.lemmas.Bool.{ltb-true, ltb-false}
use Rattle.hk_base.specs.declared.stamp.NodeId.{NodeId}
use Rattle.hk_base.specs.declared.letter.Letter.{Letter}
use Rattle.hk_base.specs.declared.letter.Actor.TheVariants.{Node}
use Rattle.hk_node.specs.declared.event.NodeEvent.{NodeEvent}
use Rattle.hk_node.specs.declared.event.NodeEvent.TheVariants.{Receive}
use Rattle.hk_journal.specs.declared.step_entry.JournalEntry.{JournalEntry}
use Rattle.hk_merge.specs.Reads.{IsMerged}
use Rattle.hk_merge.specs.Merged.{Item, Step, LocalRead, In}
use Rattle.hk_merge.specs.Same.{same_letter, SameIsEqual}
use Rattle.hk_assemble.specs.declared.gap.Gap.TheVariants as Gap
use Rattle.hk_assemble.specs.Assembled.{IsSent, IsLeastSent, TakesUnsent}
use Rattle.hk_assemble.specs.Taking.{is_copy, ticket_of, lower_of, least_from, is_below, IsMarred}

-- ---- the lower one
lower_left : (a b : Option ℕ) (t : ℕ) → a ≡ Some t → (s : ℕ) × (lower_of a b ≡ Some s) × (s ≤ t)
lower_left (Some a) (Some b) t e = (min a b, refl, below a b t (some_same a t e))
  where
    below : (a b t : ℕ) → a ≡ t → min a b ≤ t
    below a b t e = grind arith

    some_same : (a t : ℕ) → Some a ≡ Some t → a ≡ t
    some_same a t e = cc
lower_left (Some a) None t e = (t, e, omega arith)
lower_left None b t e = cc

lower_right : (a b : Option ℕ) (t : ℕ) → b ≡ Some t → (s : ℕ) × (lower_of a b ≡ Some s) × (s ≤ t)
lower_right (Some a) (Some b) t e = (min a b, refl, below a b t (some_same b t e))
  where
    below : (a b t : ℕ) → b ≡ t → min a b ≤ t
    below a b t e = grind arith

    some_same : (a t : ℕ) → Some a ≡ Some t → a ≡ t
    some_same a t e = cc
lower_right (Some a) None t e = cc
lower_right None b t e = (t, e, omega arith)

lower_made : (a b : Option ℕ) (u : ℕ) → lower_of a b ≡ Some u → (a ≡ Some u) ⊎ (b ≡ Some u)
lower_made (Some a) (Some b) u e = by_side (side a b)
  where
    side : (a b : ℕ) → (min a b ≡ a) ⊎ (min a b ≡ b)
    side a b = grind arith

    by_side : (min a b ≡ a) ⊎ (min a b ≡ b) → (Some a ≡ Some u) ⊎ (Some b ≡ Some u)
    by_side (inl is) = inl (ap (λ (n : ℕ). Some n) (sym is) ∙ e)
    by_side (inr is) = inr (ap (λ (n : ℕ). Some n) (sym is) ∙ e)
lower_made (Some a) None u e = inl e
lower_made None b u e = inr e

module _ (same : SameIsEqual) (letter : Letter) where
  any_in : (letters : List Letter) → list_any (is_copy letter) letters ≡ true → In letters letter
  any_in [] e = cc
  any_in (l ∷ letters) e = by_test (same_letter l letter) refl e (any_in letters)
    where
      by_test : (b : Bool) → same_letter l letter ≡ b → b || list_any (is_copy letter) letters ≡ true → (list_any (is_copy letter) letters ≡ true → In letters letter) → In (l ∷ letters) letter
      by_test true is h more = inl (sym ((same l letter).0 is))
      by_test false is h more = inr (more h)

  in_any : (letters : List Letter) → In letters letter → list_any (is_copy letter) letters ≡ true
  in_any [] is = absurd is
  in_any (l ∷ letters) (inl here) = ap (λ (b : Bool). b || list_any (is_copy letter) letters) ((same l letter).1 (sym here))
  in_any (l ∷ letters) (inr more) = by_test (same_letter l letter) (in_any letters more)
    where
      by_test : (b : Bool) → list_any (is_copy letter) letters ≡ true → b || list_any (is_copy letter) letters ≡ true
      by_test true h = refl
      by_test false h = h

  -- ---- an item that sent the letter
  sends_it : (item : Item) (items : List Item) (t : ℕ) → ticket_of letter item ≡ Some t → IsSent (item ∷ items) letter t
  sends_it (Step node entry) items t e = by_test (list_any (is_copy letter) entry.letters) refl e
    where
      by_test : (b : Bool) → list_any (is_copy letter) entry.letters ≡ b → (if b then Some entry.ticket else None) ≡ Some t → IsSent (Step node entry ∷ items) letter t
      by_test true is e = (node, entry, inl refl, any_in entry.letters is, sym (some_same entry.ticket t e))
        where
          some_same : (a t : ℕ) → Some a ≡ Some t → a ≡ t
          some_same a t e = cc
      by_test false is e = cc
  sends_it (LocalRead listed note) items t e = cc

  it_sends : (item : Item) (node : NodeId) (entry : JournalEntry) (t : ℕ) → Step node entry ≡ item → In entry.letters letter → t ≡ entry.ticket → ticket_of letter item ≡ Some t
  it_sends item node entry t is has at = ap (ticket_of letter) (sym is) ∙ (ap (λ (b : Bool). if b then Some entry.ticket else None) (in_any entry.letters has) ∙ ap (λ (n : ℕ). Some n) (sym at))

  record Least (acc : Option ℕ) (items : List Item) (r : Option ℕ) : Type 0 where
    kept : (t : ℕ) → acc ≡ Some t → (u : ℕ) × (r ≡ Some u) × (u ≤ t)
    lower : (t : ℕ) → IsSent items letter t → (u : ℕ) × (r ≡ Some u) × (u ≤ t)
    made : (u : ℕ) → r ≡ Some u → (acc ≡ Some u) ⊎ IsSent items letter u

  least_with : (acc : Option ℕ) (item : Item) (items : List Item) → Least (lower_of acc (ticket_of letter item)) items (least_from letter (lower_of acc (ticket_of letter item)) items) → Least acc (item ∷ items) (least_from letter acc (item ∷ items))
  least_with acc item items more = record {
    kept = λ t e. on t (lower_left acc (ticket_of letter item) t e);
    lower = λ t sent. by_place t sent.0 sent.1 sent.2 sent.3 sent.4;
    made = λ u e. by_made u (more.made u e);
  }
    where
      on : (t : ℕ) → (s : ℕ) × (lower_of acc (ticket_of letter item) ≡ Some s) × (s ≤ t) → (u : ℕ) × (least_from letter (lower_of acc (ticket_of letter item)) items ≡ Some u) × (u ≤ t)
      on t (s, is, le) = let m = more.kept s is in (m.0, m.1, omega (arith, le, m.2))

      by_place : (t : ℕ) (node : NodeId) (entry : JournalEntry) → In (item ∷ items) (Step node entry) → In entry.letters letter → t ≡ entry.ticket →
          (u : ℕ) × (least_from letter (lower_of acc (ticket_of letter item)) items ≡ Some u) × (u ≤ t)
      by_place t node entry (inl here) has at = on t (lower_right acc (ticket_of letter item) t (it_sends item node entry t here has at))
      by_place t node entry (inr there) has at = more.lower t (node, entry, there, has, at)

      by_made : (u : ℕ) → (lower_of acc (ticket_of letter item) ≡ Some u) ⊎ IsSent items letter u → (acc ≡ Some u) ⊎ IsSent (item ∷ items) letter u
      by_made u (inr (node, entry, there, has, at)) = inr (node, entry, inr there, has, at)
      by_made u (inl is) = by_side (lower_made acc (ticket_of letter item) u is)
        where
          by_side : (acc ≡ Some u) ⊎ (ticket_of letter item ≡ Some u) → (acc ≡ Some u) ⊎ IsSent (item ∷ items) letter u
          by_side (inl a) = inl a
          by_side (inr b) = inr (sends_it item items u b)

  least : (acc : Option ℕ) (items : List Item) → Least acc items (least_from letter acc items)
  least acc [] = record {
    kept = λ t e. (t, e, omega arith);
    lower = λ t sent. absurd sent.2;
    made = λ u e. inl e;
  }
  least acc (item ∷ items) = least_with acc item items (least (lower_of acc (ticket_of letter item)) items)

  pub least_is : (items : List Item) (r : Option ℕ) → r ≡ least_from letter None items → IsLeastSent items letter r
  least_is items None is = λ t sent. never ((least None items).lower t sent).0 (is ∙ ((least None items).lower t sent).1)
    where
      never : (u : ℕ) → None ≡ Some u → ⊥
      never u e = cc
  least_is items (Some u) is = (by_made ((least None items).made u (sym is)), λ t sent. at_most t ((least None items).lower t sent))
    where
      by_made : (◌≡◌ {A = Option ℕ} None (Some u)) ⊎ IsSent items letter u → IsSent items letter u
      by_made (inl e) = cc
      by_made (inr sent) = sent

      at_most : (t : ℕ) → (v : ℕ) × (least_from letter None items ≡ Some v) × (v ≤ t) → u ≤ t
      at_most t (v, e, le) = subst (λ (n : ℕ). n ≤ t) (some_same (sym e ∙ sym is)) le
        where
          some_same : Some v ≡ Some u → v ≡ u
          some_same e = cc

-- ---- why an entry fails
module _ (items : List Item) (node : NodeId) (entry : JournalEntry) where
  pub unsent : (letter : Letter) (sent : Option ℕ) → IsLeastSent items letter sent → is_below sent entry.ticket ≡ false → entry.event ≡ Receive letter → IsMarred (Gap.Letter entry.ticket sent) items node entry
  unsent letter None least below event world tickets = (letter, (event, λ t is. absurd (least t is)), refl, least)
  unsent letter (Some s) least below event world tickets = (letter, (event, λ t is. from s t entry.ticket below (least.1 t is)), refl, least)
    where
      from : (s t n : ℕ) → nat_lt s n ≡ false → s ≤ t → n ≤ t
      from s t n e le = let l = ltb-false s n e in omega (arith, l, le)

  same_event : (letter l : Letter) → Receive letter ≡ Receive l → letter ≡ l
  same_event letter l e = cc

  pub elsewhere : (letter : Letter) (sent : Option ℕ) → IsLeastSent items letter sent → is_below sent entry.ticket ≡ true → entry.event ≡ Receive letter → letter.to ≢ Node node → IsMarred (Gap.Entry node entry.ticket None) items node entry
  elsewhere letter None least below event far world tickets = cc
  elsewhere letter (Some s) least below event far world tickets = (refl, refl, λ l takes. taken l takes, inr (letter, event, far))
    where
      under : (s n : ℕ) → nat_lt s n ≡ true → n ≤ s → ⊥
      under s n e le = let l = ltb-true s n e in omega (arith, l, le)

      taken : (l : Letter) → TakesUnsent items entry l → ⊥
      taken l (is, none) = under s entry.ticket below (none s (subst (λ (x : Letter). IsSent items x s) (same_event letter l (sym event ∙ is)) least.0))

  pub no_event : (IsMerged entry.event → ⊥) → IsMarred (Gap.Entry node entry.ticket None) items node entry
  no_event other world tickets = (refl, refl, λ l takes. other (subst (λ (e : NodeEvent). IsMerged e) (sym takes.0) tt), inl other)
