-- The letters of a step are in range, and few.
use Rattle.std.proofs.Common.{◌+◌, ℕ, zero, suc, ◌<◌, ◌≤◌, ◌==◌, Bool, true, false, cond, not, List, [], ◌∷◌, length, map, Option, Some, None, IfSome, arith}
use Rattle.std.specs.List.{AllByRecursion, range_with_len, filter}
use Rattle.hk_base.specs.declared.stamp.NodeId.{NodeId}
use Rattle.hk_base.specs.declared.letter.Actor.{Actor}
use Rattle.hk_base.specs.declared.letter.Actor.TheVariants.{Node, Manager}
use Rattle.hk_base.specs.declared.letter.Body.{Body}
use Rattle.hk_base.specs.declared.letter.Letter.{Letter}
use Rattle.hk_base.specs.Range.{IsLetter, IsActor, IsBody}
use Rattle.hk_manager.specs.Manager.{ManagerState}
use Rattle.hk_manager.specs.Sends.{letter_to, to_all, to_others, to_members, told_all}
use Rattle.hk_manager.specs.Sound.{IsManager}

-- letters in range, so many at most
pub record AreFine (limit : ℕ) (letters : List Letter) : Type 0 where
  pub in_range : AllByRecursion IsLetter letters
  pub few : length letters ≤ limit

pub none_fine : AreFine 16 []
none_fine = record { in_range = tt; few = omega arith }

module _ (m : ManagerState) (epoch : ℕ) (body : Body) (is : IsManager m) (fine : IsBody body) where
  letter_fine : (to : Actor) → IsActor to → IsLetter (letter_to m epoch body to)
  letter_fine to known = record { from = omega (arith, is.few, is.number); to = known; body = fine }

  pub one_fine : (to : Actor) → IsActor to → AreFine 16 (letter_to m epoch body to ∷ [])
  one_fine to known = record { in_range = (letter_fine to known, tt); few = omega arith }

  all_fine : (a n : ℕ) → a + n ≤ m.managers → AreFine n (map (λ to. letter_to m epoch body (Manager to)) (range_with_len a n))
  all_fine a zero upto = record { in_range = tt; few = omega arith }
  all_fine a (suc n) upto =
      let rest = all_fine (a + 1) n (omega (arith, upto)) in
      let known : a < 9 = omega (arith, upto, is.few) in
      record { in_range = (letter_fine (Manager a) known, rest.in_range); few = omega (arith, rest.few) }

  others_fine : (a n : ℕ) → a + n ≤ m.managers → AreFine n (map (λ to. letter_to m epoch body (Manager to)) (filter (λ to. not (to == m.id)) (range_with_len a n)))
  others_fine a zero upto = record { in_range = tt; few = omega arith }
  others_fine a (suc n) upto = at (not (a == m.id)) (others_fine (a + 1) n (omega (arith, upto))) (omega (arith, upto, is.few))
    where
      at : (b : Bool) → AreFine n (map (λ to. letter_to m epoch body (Manager to)) (filter (λ to. not (to == m.id)) (range_with_len (a + 1) n))) → a < 9 →
          AreFine (suc n) (map (λ to. letter_to m epoch body (Manager to)) (cond b (a ∷ filter (λ to. not (to == m.id)) (range_with_len (a + 1) n)) (filter (λ to. not (to == m.id)) (range_with_len (a + 1) n))))
      at true rest known = record { in_range = (letter_fine (Manager a) known, rest.in_range); few = omega (arith, rest.few) }
      at false rest known = record { in_range = rest.in_range; few = omega (arith, rest.few) }

  members_fine : (members : List NodeId) → AreFine (length members) (map (λ member. letter_to m epoch body (Node member)) members)
  members_fine [] = record { in_range = tt; few = omega arith }
  members_fine (member ∷ members) =
      let rest = members_fine members in
      record { in_range = (letter_fine (Node member) tt, rest.in_range); few = omega (arith, rest.few) }

  pub to_all_fine : AreFine 16 (to_all m epoch body)
  to_all_fine = let all = all_fine 0 m.managers (omega arith) in record { in_range = all.in_range; few = omega (arith, all.few, is.few) }

  pub to_others_fine : AreFine 16 (to_others m epoch body)
  to_others_fine = let all = others_fine 0 m.managers (omega arith) in record { in_range = all.in_range; few = omega (arith, all.few, is.few) }

  pub to_members_fine : AreFine 16 (to_members m epoch body)
  to_members_fine = let all = members_fine m.held.members in record { in_range = all.in_range; few = omega (arith, all.few, is.held.few) }

pub told_fine : (m : ManagerState) (epoch : ℕ) (body : Option Body) → IsManager m → IfSome body IsBody → AreFine 16 (told_all m epoch body)
told_fine m epoch None is fine = none_fine
told_fine m epoch (Some body) is fine = to_all_fine m epoch body is fine
