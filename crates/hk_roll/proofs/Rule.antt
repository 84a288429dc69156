-- The laws of one step.
use Rattle.std.proofs.Common.{◌≡◌, ◌⊎◌, ℕ, ◌==◌, ◌&&◌, ◌||◌, not, nat_lt, nat_le, Bool, true, false, cond, List, [], ◌∷◌, slice_get, Option, None, Some, refl, sym, ap, subst, ◌∙◌, inl, inr, arith}
use Rattle.std.proofs.lemmas.Bool.{true≢false, false≢true, eqb-true}
use Rattle.hk_base.specs.declared.stamp.NodeId.{NodeId}
use Rattle.hk_base.specs.declared.letter.Actor.TheVariants.{Node}
use Rattle.hk_base.specs.declared.view.View.{View}
use Rattle.hk_fields.specs.declared.tickets.Ticket.{Ticket}
use Rattle.hk_roll.specs.declared.binding.Binding.{Binding}
use Rattle.hk_roll.specs.declared.answer.RollAnswer.{RollAnswer}
use Rattle.hk_roll.specs.declared.answer.RollAnswer.TheVariants.{Seated, Yes, No}
use Rattle.hk_roll.specs.declared.answer.RollRefusal.{RollRefusal}
use Rattle.hk_roll.specs.declared.answer.RollRefusal.TheVariants.{Taken, Wait}
use Rattle.hk_roll.specs.declared.steps.Seating.{Seating}
use Rattle.hk_roll.specs.Rolls.{Entries, bound, with_bound}
use Rattle.hk_roll.specs.Boards.{same_ticket, names, named}
use Rattle.hk_roll.specs.Numbers.{are_new, have_member, may_bind, is_over, are_level, next_by, next_number}
use Rattle.hk_roll.specs.Steps.{answered, refused, binds, holder, names_another, unbindable, claimed, may_seat, seat_by, seat_next, seated}
use Rattle.hk_roll.specs.Laws.{IsAllowed, BindsByTheRule, behind, AnswersTellTheRoll}
use Rattle.hk_roll.proofs.Lookups.{one_ticket, named_is, bound_same}

none_is : {G : Type 0} (b : Binding) → None ≡ Some b → G
none_is b e = absurd cc

-- ---- CLAIM

not_another : (b : Bool) → (true && not b) ≡ false → b ≡ true
not_another true e = refl
not_another false e = absurd (true≢false e)

-- where no other one holds the number, it is unbound, or a majority names the asker
free : (t : Ticket) (own told : Option Ticket) → names t own ≡ false → names_another t (holder own told) ≡ false → (own ≡ None) ⊎ (told ≡ Some t)
free t own (Some u) mine rival = inr (ap Some (sym (one_ticket t u (not_another (same_ticket t u) rival))))
free t None None mine rival = inl refl
free t (Some u) None mine rival = absurd (true≢false (sym (not_another (same_ticket t u) rival) ∙ mine))

pub claim_allowed : (roll : Entries) (views : List View) (boards : List (Option Ticket)) (node : NodeId) (ticket : Ticket) (b : Binding) →
    (claimed roll views boards node ticket).logged ≡ Some b → IsAllowed roll views boards node ticket b
claim_allowed roll views boards node ticket b e =
    at (is_over views node) (names ticket (bound (Node node) roll)) (names_another ticket (holder (bound (Node node) roll) (named boards))) (may_bind views node) refl refl refl e
  where
    at : (over own rival may : Bool) → names ticket (bound (Node node) roll) ≡ own → names_another ticket (holder (bound (Node node) roll) (named boards)) ≡ rival → may_bind views node ≡ may →
        (cond over (refused (Taken node.0)) (cond own (answered Yes) (cond rival (refused (Taken node.0)) (cond may (binds Yes node ticket) (refused (unbindable views node)))))).logged ≡ Some b →
        IsAllowed roll views boards node ticket b
    at true own rival may p q r e = none_is b e
    at false true rival may p q r e = none_is b e
    at false false true may p q r e = none_is b e
    at false false false false p q r e = none_is b e
    at false false false true p q r e = record { is = cc; may = r; changes = free ticket (bound (Node node) roll) (named boards) p q }

yes_is_bound : (roll : Entries) (views : List View) (boards : List (Option Ticket)) (node : NodeId) (ticket : Ticket) →
    (claimed roll views boards node ticket).answer ≡ Yes → bound (Node node) (behind roll (claimed roll views boards node ticket).logged) ≡ Some ticket
yes_is_bound roll views boards node ticket e =
    at (is_over views node) (names ticket (bound (Node node) roll)) (names_another ticket (holder (bound (Node node) roll) (named boards))) (may_bind views node) refl e
  where
    no_yes : {G : Type 0} (r : RollRefusal) → No r ≡ Yes → G
    no_yes r e = absurd cc

    at : (over own rival may : Bool) → names ticket (bound (Node node) roll) ≡ own →
        (cond over (refused (Taken node.0)) (cond own (answered Yes) (cond rival (refused (Taken node.0)) (cond may (binds Yes node ticket) (refused (unbindable views node)))))).answer ≡ Yes →
        bound (Node node) (behind roll (cond over (refused (Taken node.0)) (cond own (answered Yes) (cond rival (refused (Taken node.0)) (cond may (binds Yes node ticket) (refused (unbindable views node)))))).logged) ≡ Some ticket
    at true own rival may p e = no_yes (Taken node.0) e
    at false true rival may p e = named_is ticket (bound (Node node) roll) p
    at false false true may p e = no_yes (Taken node.0) e
    at false false false false p e = no_yes (unbindable views node) e
    at false false false true p e = bound_same (record { actor = Node node; ticket = ticket }) roll

-- ---- SEAT

both_hold : (a b : Bool) → (a && b) ≡ true → (a ≡ true) × (b ≡ true)
both_hold true b e = (refl, e)
both_hold false b e = absurd cc

le_same : (a b : ℕ) → (a == b) ≡ true → nat_le a b ≡ true
le_same a b e = let same : a ≡ b = eqb-true a b e in rw same (le_itself b)
  where
    le_itself : (n : ℕ) → nat_le n n ≡ true
    le_itself n = grind arith

level_is_new : (views : List View) (n : ℕ) → are_level views n ≡ true → are_new views (record { 0 = n }) ≡ true
level_is_new [] n e = refl
level_is_new (v ∷ vs) n e =
    let parts = both_hold (v.next == n) (are_level vs n) e in
    let head : nat_le v.next n ≡ true = le_same v.next n parts.0 in
    rw head (level_is_new vs n parts.1)

either : (a b : Bool) → a ≡ true → (a || b) ≡ true
either true b e = refl
either false b e = absurd (false≢true e)

next_may : (first : Option View) (views : List View) (node : NodeId) → next_by first views ≡ Some node → may_bind views node ≡ true
next_may None views node e = absurd cc
next_may (Some v) views node e = at (nat_lt v.next 65536 && are_level views v.next) refl e
  where
    at : (t : Bool) → (nat_lt v.next 65536 && are_level views v.next) ≡ t → cond t (Some (record { 0 = v.next })) None ≡ Some node → may_bind views node ≡ true
    at true is e =
        let same : record { 0 = v.next } ≡ node = cc in
        let level = both_hold (nat_lt v.next 65536) (are_level views v.next) is in
        subst (λ (n : NodeId). may_bind views n ≡ true) same (either (are_new views (record { 0 = v.next })) (have_member views (record { 0 = v.next })) (level_is_new views v.next level.1))
    at false is e = absurd cc

seat_logs : (own : Option Ticket) (node : NodeId) (seating : Seating) (ticket : Ticket) (b : Binding) → (seat_by own node seating ticket).logged ≡ Some b →
    (own ≡ None) × (b ≡ record { actor = Node node; ticket = ticket })
seat_logs (Some other) node seating ticket b e = at (same_ticket ticket other) e
  where
    at : {G : Type 0} (t : Bool) → (cond t (answered (Seated node)) (refused Wait)).logged ≡ Some b → G
    at true e = none_is b e
    at false e = none_is b e
seat_logs None node seating ticket b e = (refl, at seating.lately_in_vain e)
  where
    at : (t : Bool) → (cond t (refused Wait) (binds (Seated node) node ticket)).logged ≡ Some b → b ≡ record { actor = Node node; ticket = ticket }
    at true e = none_is b e
    at false e = cc

abbrev IsSeat : Entries → List View → Ticket → Binding → Type 0
IsSeat roll views ticket b = (node : NodeId) × (next_number views ≡ Some node) × IsAllowed roll views [] node ticket b

pub seat_allowed : (roll : Entries) (views : List View) (seating : Seating) (ticket : Ticket) (b : Binding) → (seated roll views seating ticket).logged ≡ Some b → IsSeat roll views ticket b
seat_allowed roll views seating ticket b e = at (may_seat seating views) (next_number views) refl e
  where
    at : (t : Bool) (x : Option NodeId) → next_number views ≡ x → (cond t (seat_next x roll seating ticket) (refused Wait)).logged ≡ Some b → IsSeat roll views ticket b
    at false x is e = none_is b e
    at true None is e = none_is b e
    at true (Some node) is e =
        let logs = seat_logs (bound (Node node) roll) node seating ticket b e in
        (node, is, record { is = logs.1; may = next_may (slice_get views 0) views node is; changes = inl logs.0 })

node_of : RollAnswer → Option NodeId
node_of (Seated node) = Some node
node_of Yes = None
node_of (No r) = None

same_seat : (a b : NodeId) → Seated a ≡ Seated b → a ≡ b
same_seat a b e = cc

no_seat : {G : Type 0} (r : RollRefusal) (n : NodeId) → No r ≡ Seated n → G
no_seat r n e = absurd cc

seated_is_bound : (roll : Entries) (views : List View) (seating : Seating) (node : NodeId) (ticket : Ticket) →
    (seated roll views seating ticket).answer ≡ Seated node → bound (Node node) (behind roll (seated roll views seating ticket).logged) ≡ Some ticket
seated_is_bound roll views seating node ticket e = at (may_seat seating views) (next_number views) e
  where
    own : (n : NodeId) (x : Option Ticket) → bound (Node n) roll ≡ x → (seat_by x n seating ticket).answer ≡ Seated node → bound (Node node) (behind roll (seat_by x n seating ticket).logged) ≡ Some ticket
    own n (Some other) is e = by (same_ticket ticket other) refl e
      where
        by : (t : Bool) → same_ticket ticket other ≡ t → (cond t (answered (Seated n)) (refused Wait)).answer ≡ Seated node →
            bound (Node node) (behind roll (cond t (answered (Seated n)) (refused Wait)).logged) ≡ Some ticket
        by true same e = subst (λ (k : NodeId). bound (Node k) roll ≡ Some ticket) (same_seat n node e) (is ∙ ap Some (sym (one_ticket ticket other same)))
        by false same e = no_seat Wait node e
    own n None is e = by seating.lately_in_vain e
      where
        by : (t : Bool) → (cond t (refused Wait) (binds (Seated n) n ticket)).answer ≡ Seated node →
            bound (Node node) (behind roll (cond t (refused Wait) (binds (Seated n) n ticket)).logged) ≡ Some ticket
        by true e = no_seat Wait node e
        by false e =
            subst (λ (k : NodeId). bound (Node k) (with_bound roll (record { actor = Node n; ticket = ticket })) ≡ Some ticket) (same_seat n node e)
            (bound_same (record { actor = Node n; ticket = ticket }) roll)

    at : (t : Bool) (x : Option NodeId) → (cond t (seat_next x roll seating ticket) (refused Wait)).answer ≡ Seated node →
        bound (Node node) (behind roll (cond t (seat_next x roll seating ticket) (refused Wait)).logged) ≡ Some ticket
    at false x e = no_seat Wait node e
    at true None e = no_seat Wait node e
    at true (Some n) e = own n (bound (Node n) roll) refl e

pub by_the_rule : BindsByTheRule
by_the_rule = (claim_allowed, seat_allowed)

pub answers_tell : AnswersTellTheRoll
answers_tell = (yes_is_bound, seated_is_bound)
