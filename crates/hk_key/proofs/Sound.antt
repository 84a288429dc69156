-- Notes of distinct other members: there is room for one more, and they stay so.
use Rattle.std.proofs.Common.{◌≡◌, ℕ, Bool, true, false, cond, ◌||◌, List, [], ◌∷◌, ◌<◌, ◌≤◌, length, Option, Some, refl, sym, ◌∙◌, nat_eq, arith, subst, ⊎_elim, IfSome}
use Rattle.std.specs.List.{list_any, IsDistinct, AllByRecursion}
use Rattle.std.specs.Cmp.{nat_eq_equiv}
use Rattle.std.proofs.lemmas.Bool.{false≢true, eqb-true, or_cases}
use Rattle.std.proofs.lemmas.List.{length-map}
use Rattle.std.proofs.lemmas.Map.Made.{length-le_from_is_member}
use Rattle.hk_base.specs.declared.stamp.NodeId.{NodeId}
use Rattle.hk_base.specs.declared.view.View.{View}
use Rattle.hk_base.specs.View.{IsView, member_numbers}
use Rattle.hk_key.specs.declared.acks.Ack.{Ack}
use Rattle.hk_key.specs.Notes.{is_of, is_noted, note_in}
use Rattle.hk_key.specs.Sound.{IsOther, AreNotes, IsUpdate, note_numbers}
use Rattle.hk_key.specs.declared.row.Pending.{Pending}

-- a node that is not noted has another number than each note
pub apart : (node : NodeId) (acks : List Ack) → is_noted node acks ≡ false → AllByRecursion (λ y. nat_eq node.0 y ≡ false) (note_numbers acks)
apart node [] e = tt
apart node (a ∷ acks) e = by_head (apart node acks) (is_of node a) refl e
  where
    by_head : (is_noted node acks ≡ false → AllByRecursion (λ y. nat_eq node.0 y ≡ false) (note_numbers acks)) → (b : Bool) → is_of node a ≡ b → (b || is_noted node acks) ≡ false → AllByRecursion (λ y. nat_eq node.0 y ≡ false) (note_numbers (a ∷ acks))
    by_head rest true own none = absurd (false≢true (sym none))
    by_head rest false own none = (nat_eq_equiv.symm node.0 a.node.0 ∙ own, rest none)

-- each noted number is a member's
pub noted_member : (me : NodeId) (members : List NodeId) (acks : List Ack) → AllByRecursion (λ ack. IsOther me members ack.node) acks →
    (q : ℕ) → list_any (nat_eq q) (note_numbers acks) ≡ true → list_any (nat_eq q) (member_numbers members) ≡ true
noted_member me members [] all q e = absurd (false≢true e)
noted_member me members (a ∷ acks) all q e = ⊎_elim
    (λ (h : nat_eq q a.node.0 ≡ true). subst (λ (k : ℕ). list_any (nat_eq k) (member_numbers members) ≡ true) (sym (eqb-true q a.node.0 h)) all.0.member)
    (λ (h : list_any (nat_eq q) (note_numbers acks) ≡ true). noted_member me members acks all.1 q h)
    (or_cases (nat_eq q a.node.0) (list_any (nat_eq q) (note_numbers acks)) e)

-- where one of the others is not noted, there is room for its note
pub room : (me : NodeId) (view : View) (acks : List Ack) (from : NodeId) → IsView view → AreNotes me view.members acks → IsOther me view.members from →
    is_noted from acks ≡ false → length acks < 16
unfolding IsDistinct
room me view acks from is_view notes other none =
    let one : Ack = record { node = from; exact = false } in
    let fits : length (note_numbers (one ∷ acks)) ≤ length (member_numbers view.members) =
    length-le_from_is_member nat_eq_equiv (note_numbers (one ∷ acks)) (member_numbers view.members) (apart from acks none, notes.distinct)
    (λ q h. noted_member me view.members (one ∷ acks) (other, notes.others) q h) in
    let few = is_view.few in
    let notes_length = length-map acks (λ (ack : Ack). ack.node.0) in
    let members_length = length-map view.members (λ (member : NodeId). member.0) in
    omega arith

apart_noted : (k : ℕ) (from : NodeId) (exact : Bool) (acks : List Ack) → nat_eq k from.0 ≡ false → AllByRecursion (λ y. nat_eq k y ≡ false) (note_numbers acks) →
    AllByRecursion (λ y. nat_eq k y ≡ false) (note_numbers (note_in from exact acks))
apart_noted k from exact [] e all = (e, tt)
apart_noted k from exact (a ∷ acks) e all = by_head (apart_noted k from exact acks e all.1) (is_of from a) refl
  where
    by_head : AllByRecursion (λ y. nat_eq k y ≡ false) (note_numbers (note_in from exact acks)) → (b : Bool) → is_of from a ≡ b →
        AllByRecursion (λ y. nat_eq k y ≡ false) (note_numbers (cond (is_of from a) (record a { exact = a.exact || exact } ∷ acks) (a ∷ note_in from exact acks)))
    by_head rest true own = rw own all
    by_head rest false own = rw own (all.0, rest)

pub distinct_noted : (from : NodeId) (exact : Bool) (acks : List Ack) → IsDistinct nat_eq (note_numbers acks) → IsDistinct nat_eq (note_numbers (note_in from exact acks))
unfolding IsDistinct
distinct_noted from exact [] d = (tt, tt)
distinct_noted from exact (a ∷ acks) d = by_head (distinct_noted from exact acks d.1) (is_of from a) refl
  where
    by_head : IsDistinct nat_eq (note_numbers (note_in from exact acks)) → (b : Bool) → is_of from a ≡ b →
        IsDistinct nat_eq (note_numbers (cond (is_of from a) (record a { exact = a.exact || exact } ∷ acks) (a ∷ note_in from exact acks)))
    by_head rest true own = rw own d
    by_head rest false own = rw own (apart_noted a.node.0 from exact acks own d.0, rest)

pub others_noted : (P : NodeId → Type 0) (from : NodeId) (exact : Bool) (acks : List Ack) → P from → AllByRecursion (λ (ack : Ack). P ack.node) acks →
    AllByRecursion (λ (ack : Ack). P ack.node) (note_in from exact acks)
others_noted P from exact [] p all = (p, tt)
others_noted P from exact (a ∷ acks) p all = by_head (others_noted P from exact acks p all.1) (is_of from a) refl
  where
    by_head : AllByRecursion (λ (ack : Ack). P ack.node) (note_in from exact acks) → (b : Bool) → is_of from a ≡ b →
        AllByRecursion (λ (ack : Ack). P ack.node) (cond (is_of from a) (record a { exact = a.exact || exact } ∷ acks) (a ∷ note_in from exact acks))
    by_head rest true own = rw own all
    by_head rest false own = rw own (all.0, rest)

pub notes_noted : (me : NodeId) (members : List NodeId) (from : NodeId) (exact : Bool) (acks : List Ack) → IsOther me members from →
    AreNotes me members acks → AreNotes me members (note_in from exact acks)
notes_noted me members from exact acks other notes = record {
  distinct = distinct_noted from exact acks notes.distinct;
  others = others_noted (IsOther me members) from exact acks other notes.others;
}

pub the_notes : (me : NodeId) (members : List NodeId) (o : Option Pending) (p : Pending) → o ≡ Some p → IfSome o (λ q. IsUpdate me members q) → AreNotes me members p.acks
the_notes me members o p e ok = (subst (λ (k : Option Pending). IfSome k (λ q. IsUpdate me members q)) e ok).notes
