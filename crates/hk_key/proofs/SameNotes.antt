-- What the test of sameness tells: each row is the same as itself; rows that are the same have equal stamps and equal notes.
use Rattle.std.proofs.Common.{◌≡◌, ◌<◌, Bool, true, ◌&&◌, ◌==◌, List, [], ◌∷◌, Option, Some, None, refl, ap, ◌∙◌, arith}
use Rattle.std.specs.Bool.{beq}
use Rattle.std.specs.Option.{option_eq}
use Rattle.std.specs.Cmp.{bool_eq_equiv, booleans_Decides}
use Rattle.std.specs.Cmp.Lexicographic.{pointwise}
use Rattle.std.specs.Cmp.{nat_eq_equiv}
use Rattle.std.proofs.lemmas.Bool.{false≢true, eqb-true, and_parts, and_from}
use Rattle.hk_base.specs.declared.stamp.Stamp.{Stamp}
use Rattle.hk_base.specs.declared.call.State.{State}
use Rattle.hk_base.specs.declared.call.State.TheVariants.{Valid, Invalid, Write, Replay, Trans}
use Rattle.hk_base.specs.Stamp.{tag_of}
use Rattle.hk_key.specs.declared.acks.Ack.{Ack}
use Rattle.hk_key.specs.declared.row.Pending.{Pending}
use Rattle.hk_key.specs.declared.row.Row.{Row}
use Rattle.hk_key.specs.Same.{is_same_state, is_same_stamp, is_same_note, is_same_wait, is_same_row}
use Rattle.hk_key.specs.Laws.{EachIsSame}

-- the parts of the test
pub record Parts (a b : Row) : Type 0 where
  pub state : is_same_state a.state b.state ≡ true
  pub stamp : is_same_stamp a.stamp b.stamp ≡ true
  pub kept_val : beq a.kept_val b.kept_val ≡ true
  pub pending : option_eq is_same_wait a.pending b.pending ≡ true

pub parts : (a b : Row) → is_same_row a b ≡ true → Parts a b
parts a b e =
    let last = and_parts (is_same_state a.state b.state && is_same_stamp a.stamp b.stamp && beq a.kept_val b.kept_val) (option_eq is_same_wait a.pending b.pending) e in
    let third = and_parts (is_same_state a.state b.state && is_same_stamp a.stamp b.stamp) (beq a.kept_val b.kept_val) last.0 in
    let first = and_parts (is_same_state a.state b.state) (is_same_stamp a.stamp b.stamp) third.0 in
    record { state = first.0; stamp = first.1; kept_val = third.1; pending = last.1 }

state_is_same : (s : State) → is_same_state s s ≡ true
state_is_same Valid = refl
state_is_same Invalid = refl
state_is_same Write = refl
state_is_same Replay = refl
state_is_same Trans = refl

notes_are_same : (xs : List Ack) → pointwise is_same_note xs xs ≡ true
notes_are_same [] = refl
notes_are_same (x ∷ xs) = and_from (is_same_note x x) (pointwise is_same_note xs xs)
    (and_from (x.node.0 == x.node.0) (beq x.exact x.exact) (nat_eq_equiv.refl x.node.0) (bool_eq_equiv.refl x.exact))
    (notes_are_same xs)

wait_is_same : (o : Option Pending) → option_eq is_same_wait o o ≡ true
wait_is_same None = refl
wait_is_same (Some p) = notes_are_same p.acks

pub each_is_same : EachIsSame
each_is_same row =
    let stamp : is_same_stamp row.stamp row.stamp ≡ true =
    and_from (row.stamp.version == row.stamp.version) (row.stamp.node == row.stamp.node) (nat_eq_equiv.refl row.stamp.version) (nat_eq_equiv.refl row.stamp.node) in
    and_from (is_same_state row.state row.state && is_same_stamp row.stamp row.stamp && beq row.kept_val row.kept_val) (option_eq is_same_wait row.pending row.pending)
    (and_from (is_same_state row.state row.state && is_same_stamp row.stamp row.stamp) (beq row.kept_val row.kept_val)
    (and_from (is_same_state row.state row.state) (is_same_stamp row.stamp row.stamp) (state_is_same row.state) stamp)
    (bool_eq_equiv.refl row.kept_val))
    (wait_is_same row.pending)

-- a stamp is not the same as one above it
pub apart : (a b : Stamp) → tag_of a < tag_of b → is_same_stamp a b ≡ true → ⊥
apart a b less e =
    let both = and_parts (a.version == b.version) (a.node == b.node) e in
    let version : a.version ≡ b.version = eqb-true a.version b.version both.0 in
    let node : a.node ≡ b.node = eqb-true a.node b.node both.1 in
    absurd (omega arith)

same_note : (a b : Ack) → is_same_note a b ≡ true → a ≡ b
same_note a b e =
    let both = and_parts (a.node.0 == b.node.0) (beq a.exact b.exact) e in
    ap (λ n. record a { node = record { 0 = n } }) (eqb-true a.node.0 b.node.0 both.0)
    ∙ ap (λ (x : Bool). record b { exact = x }) ((booleans_Decides a.exact b.exact).0 both.1)

-- notes that are the same are equal
pub same_notes : (xs ys : List Ack) → pointwise is_same_note xs ys ≡ true → xs ≡ ys
same_notes [] [] e = refl
same_notes [] (y ∷ ys) e = absurd (false≢true e)
same_notes (x ∷ xs) [] e = absurd (false≢true e)
same_notes (x ∷ xs) (y ∷ ys) e =
    let both = and_parts (is_same_note x y) (pointwise is_same_note xs ys) e in
    ap (λ (a : Ack). a ∷ xs) (same_note x y both.0) ∙ ap (λ (l : List Ack). y ∷ l) (same_notes xs ys both.1)
