-- The processes of a world by number, and the members of a view.
use Rattle.std.proofs.Common.{◌≡◌, ◌⊎◌, ◌≢◌, ℕ, List, [], ◌∷◌, Bool, true, false, cond, ◌||◌, Option, Some, None, refl, sym, ap, ◌∙◌, inl, inr, Ordering, Less, Equal, Greater, eqb}
use Rattle.std.specs.List.{AllByRecursion}
use Rattle.std.specs.Ordering.{is_eq}
use Rattle.std.proofs.lemmas.Bool.{false≢true, eqb-true, eq-eqb}
use Rattle.std.proofs.lemmas.Cmp.{nat_cmp_total, tied_itself, ranked}
use Rattle.hk_base.specs.declared.stamp.NodeId.{NodeId}
use Rattle.hk_base.specs.View.{member_numbers, is_member}
use Rattle.hk_node.specs.Node.{NodeState}
use Rattle.hk_world.specs.declared.process.Process.{Process}
use Rattle.hk_world.specs.World.{Processes, by_number, process_at, put_process, node_of}
use Rattle.hk_register.specs.Machine.{In}
use Rattle.hk_effects.specs.Projection.{node_at}
use Rattle.hk_effects.proofs.Entries.{found_same, found_other}

abbrev pub numbered_node : ℕ → NodeId
numbered_node n = record { 0 = n }

pub equal_numbers : (a b : NodeId) → by_number a b ≡ Equal → a ≡ b
equal_numbers a b e = ap numbered_node (ranked a.0 b.0 Equal (sym e))

pub number_itself : (a : NodeId) → by_number a a ≡ Equal
number_itself a = tied_itself nat_cmp_total a.0

-- the process that was put is there
pub process-put_same : (id : NodeId) (p : Process) (ps : Processes) → process_at id (put_process id p ps) ≡ Some p
process-put_same id p ps = found_same by_number equal_numbers number_itself id p ps

pub process-put_other : (q id : NodeId) (p : Process) (ps : Processes) → q ≢ id → process_at q (put_process id p ps) ≡ process_at q ps
process-put_other q id p ps ne = found_other by_number equal_numbers number_itself q id p ps ne

pub node-put_same : (id : NodeId) (p : Process) (ps : Processes) → node_at id.0 (put_process id p ps) ≡ Some p.node
node-put_same id p ps = ap node_of (process-put_same id p ps)

pub node-put_other : (m : ℕ) (id : NodeId) (p : Process) (ps : Processes) → m ≢ id.0 → node_at m (put_process id p ps) ≡ node_at m ps
node-put_other m id p ps ne = ap node_of (process-put_other (numbered_node m) id p ps (λ e. ne (ap (λ (n : NodeId). n.0) e)))

-- a node that is there is that of a process
pub process_of_node : (n : ℕ) (x : NodeState) (ps : Processes) → node_at n ps ≡ Some x → (p : Process) × (process_at (numbered_node n) ps ≡ Some p) × (p.node ≡ x)
process_of_node n x ps e = by_process (process_at (numbered_node n) ps) refl e
  where
    by_process : (o : Option Process) → process_at (numbered_node n) ps ≡ o → node_of o ≡ Some x → (p : Process) × (process_at (numbered_node n) ps ≡ Some p) × (p.node ≡ x)
    by_process None at e = cc
    by_process (Some p) at e = let same : p.node ≡ x = cc in (p, at, same)

-- what holds of each process holds of the one at a number, which stands under it
pub process_holds : (P : NodeId × Process → Type 0) (id : NodeId) (p : Process) (ps : Processes) → AllByRecursion P ps → process_at id ps ≡ Some p → P (id, p)
process_holds P id p [] all e = cc
process_holds P id p (q ∷ ps) all e = by_order (by_number id q.0) refl (process_holds P id p ps all.1) e
  where
    here : id ≡ q.0 → Some q.1 ≡ Some p → P (id, p)
    here at e = let same : q.1 ≡ p = cc in rw (at, ← same) all.0

    by_order : (o : Ordering) → by_number id q.0 ≡ o → (process_at id ps ≡ Some p → P (id, p)) → cond (is_eq o) (Some q.1) (process_at id ps) ≡ Some p → P (id, p)
    by_order Less is more e = more e
    by_order Equal is more e = here (equal_numbers id q.0 is) e
    by_order Greater is more e = more e

-- ---- members
pub in_members : (n : NodeId) (ms : List NodeId) → is_member n ms ≡ true → In (member_numbers ms) n.0
in_members n [] e = absurd (false≢true e)
in_members n (m ∷ ms) e = by_test (eqb m.0 n.0) refl (in_members n ms) e
  where
    by_test : (b : Bool) → eqb m.0 n.0 ≡ b → (is_member n ms ≡ true → In (member_numbers ms) n.0) → b || is_member n ms ≡ true → In (member_numbers (m ∷ ms)) n.0
    by_test true is more e = inl (sym (eqb-true m.0 n.0 is))
    by_test false is more e = inr (more e)

pub member_of : (n : NodeId) (ms : List NodeId) → In (member_numbers ms) n.0 → is_member n ms ≡ true
member_of n [] h = absurd h
member_of n (m ∷ ms) h = by_test (eqb m.0 n.0) refl (member_of n ms) h
  where
    by_test : (b : Bool) → eqb m.0 n.0 ≡ b → (In (member_numbers ms) n.0 → is_member n ms ≡ true) → In (member_numbers (m ∷ ms)) n.0 → b || is_member n ms ≡ true
    by_test true is more h = refl
    by_test false is more (inl e) = absurd (false≢true (sym is ∙ eq-eqb m.0 n.0 (sym e)))
    by_test false is more (inr h) = more h

pub not_in_members : (n : NodeId) (ms : List NodeId) → is_member n ms ≡ false → In (member_numbers ms) n.0 → ⊥
not_in_members n ms e h = false≢true (sym e ∙ member_of n ms h)

pub cases_member : (n : NodeId) (ms : List NodeId) → In (member_numbers ms) n.0 ⊎ ((is_member n ms ≡ false) × (In (member_numbers ms) n.0 → ⊥))
cases_member n ms = by_test (is_member n ms) refl
  where
    by_test : (b : Bool) → is_member n ms ≡ b → In (member_numbers ms) n.0 ⊎ ((is_member n ms ≡ false) × (In (member_numbers ms) n.0 → ⊥))
    by_test true e = inl (in_members n ms e)
    by_test false e = inr (e, not_in_members n ms e)
