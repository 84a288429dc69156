-- The letters that a row sends: to whom, and that they go by no more of the node than its number and its view.
use Rattle.std.proofs.Common.{◌≡◌, ℕ, List, [], ◌∷◌, Bool, true, false, cond, not, ◌&&◌, ◌||◌, ◌==◌, Option, Some, None, refl, ap}
use Rattle.std.specs.List.{filter}
use Rattle.hk_base.specs.declared.stamp.NodeId.{NodeId}
use Rattle.hk_base.specs.declared.view.View.{View}
use Rattle.hk_key.specs.declared.row.Row.{Row}
use Rattle.hk_key.specs.declared.out.Aim.{Aim}
use Rattle.hk_key.specs.declared.out.Aim.TheVariants.{One, Others, NotAcked}
use Rattle.hk_key.specs.declared.out.Sending.{Sending}
use Rattle.hk_key.specs.Notes.{is_noted}
use Rattle.hk_node.specs.Node.{NodeState, others}
use Rattle.hk_node.specs.Sends.{letters_to, body_of, notes_in, addressees, at_view, is_aimed, sent}

-- all that are aimed at are the others
pub aimed_all : (me : NodeId) (row : Row) (members : List NodeId) → filter (is_aimed true me row) members ≡ others me members
aimed_all me row [] = refl
aimed_all me row (m ∷ members) = by_test (not (m.0 == me.0)) (aimed_all me row members)
  where
    by_test : (b : Bool) → filter (is_aimed true me row) members ≡ others me members →
        cond (b && (true || not (is_noted m (notes_in row.pending)))) (m ∷ filter (is_aimed true me row) members) (filter (is_aimed true me row) members) ≡ cond b (m ∷ others me members) (others me members)
    by_test true more = ap (λ l. m ∷ l) more
    by_test false more = more

abbrev unnoted : Row → NodeId → Bool
unnoted row member = not (is_noted member (notes_in row.pending))

-- and those that are not noted
pub aimed_left : (me : NodeId) (row : Row) (members : List NodeId) → filter (is_aimed false me row) members ≡ filter (unnoted row) (others me members)
aimed_left me row [] = refl
aimed_left me row (m ∷ members) = by_test (not (m.0 == me.0)) (unnoted row m) refl (aimed_left me row members)
  where
    by_test : (b c : Bool) → unnoted row m ≡ c → filter (is_aimed false me row) members ≡ filter (unnoted row) (others me members) →
        cond (b && (false || c)) (m ∷ filter (is_aimed false me row) members) (filter (is_aimed false me row) members) ≡ filter (unnoted row) (cond b (m ∷ others me members) (others me members))
    by_test true true e more = rw e (ap (λ l. m ∷ l) more)
    by_test true false e more = rw e more
    by_test false c e more = more

-- nodes of one number and one view send the same
pub sent_alike : (id : NodeId) (view : View) (node : NodeState) (key : List ℕ) (row : Row) (send : Option Sending) → node.id ≡ id → node.view ≡ Some view →
    sent (at_view id view) key row send ≡ sent node key row send
sent_alike id view node key row None same seen = refl
sent_alike id view node key row (Some sending) same seen = by_aim sending.aim
  where
    by_aim : (aim : Aim) → letters_to (at_view id view) (body_of key row sending.what) (addressees (at_view id view) row aim) ≡ letters_to node (body_of key row sending.what) (addressees node row aim)
    by_aim (One to) = rw (same, seen) refl
    by_aim Others = rw (same, seen) refl
    by_aim NotAcked = rw (same, seen) refl
