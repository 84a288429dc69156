-- In a group without managers nothing that comes from a manager is heard.
use Rattle.std.proofs.Common.{◌≡◌, ℕ, Bool, true, false, ◌&&◌, if◌then◌else◌, nat_lt, refl, ap, arith}
use Rattle.std.proofs.lemmas.Bool.{le-ltb}
use Rattle.hk_base.specs.declared.letter.Actor.TheVariants.{Manager}
use Rattle.hk_base.specs.declared.letter.Letter.{Letter}
use Rattle.hk_node.specs.Node.{NodeState}
use Rattle.hk_node.specs.Stepped.{idle}
use Rattle.hk_node.specs.Steps.{heard, is_addressed, receives_from}

never_below : (manager managers : ℕ) → managers ≡ 0 → nat_lt manager managers ≡ false
never_below manager managers none = le-ltb manager managers (omega (arith, none))

pub unheard : (node : NodeState) (letter : Letter) (manager : ℕ) → node.managers ≡ 0 → receives_from (Manager manager) node letter ≡ idle node
unheard node letter manager none = by_test (is_addressed node letter.to) (nat_lt manager node.managers) (never_below manager node.managers none)
  where
    by_test : (a b : Bool) → b ≡ false → (if a && b then heard letter.body node manager else idle node) ≡ idle node
    by_test true b e = ap (λ (c : Bool). if c then heard letter.body node manager else idle node) e
    by_test false b e = refl
