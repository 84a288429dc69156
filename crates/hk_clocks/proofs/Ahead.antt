-- Leads after a rise, one after the other.
use Rattle.std.proofs.Common.{◌≡◌, ◌≤◌, ℕ, List, [], ◌∷◌, ◌++◌, map, nat_lt, Bool, true, false, cond, if◌then◌else◌, Some, unwrap_or, sym, subst, ◌∙◌, append_assoc, arith}
use Rattle.std.specs.List.{AllByRecursion, filter}
use Rattle.std.specs.List.Sorted.{IsStrictlySortedBy}
use Rattle.std.specs.BTreeMap.{insert_entry, is_at}
use Rattle.std.specs.Map.{lookup, keys_of}
use Rattle.hk_base.specs.declared.letter.Actor.{Actor}
use Rattle.hk_clocks.specs.declared.pace.Pace.{Pace}
use Rattle.hk_clocks.specs.declared.rise.Rise.{Rise}
use Rattle.hk_clocks.specs.Clocks.{Paces, by_actor, lead_over}
use Rattle.hk_clocks.specs.Steps.{clock_after, lead_after, leads_after, pace_after, paces_after}
use Rattle.hk_clocks.specs.Sound.{AreBounded}
use Rattle.hk_clocks.proofs.Entries.{insert_last, keys_map, sorted_filter}

-- the leads of p over some
abbrev pub leads_among : Rise → Actor × Pace → Paces → List (Actor × ℕ)
leads_among rise p paces = filter (λ lead. nat_lt 0 lead.1) (map (λ q. (q.0, lead_after rise p q)) paces)

-- each lead is within what bounds them all
pub lead_bound : (bound : ℕ) (leads : List (Actor × ℕ)) (b : Actor) → AllByRecursion (λ lead. lead.1 ≤ bound) leads → lead_over leads b ≤ bound
lead_bound bound [] b all = omega arith
lead_bound bound (lead ∷ leads) b all = at (is_at (by_actor b) lead.0) (lead_bound bound leads b all.1)
  where
    at : (t : Bool) → lead_over leads b ≤ bound → unwrap_or (cond t (Some lead.1) (lookup (is_at (by_actor b)) leads)) 0 ≤ bound
    at true h = all.0
    at false h = h

-- one more lead at the end, if it is above 0
pub leads_more : (lead : ℕ) (k : Actor) (made rest all : List (Actor × ℕ)) → IsStrictlySortedBy by_actor (keys_of all) →
    made ++ cond (nat_lt 0 lead) ((k, lead) ∷ rest) rest ≡ all →
    (if nat_lt 0 lead then insert_entry by_actor made k lead else made) ++ rest ≡ all
leads_more lead k made rest all sorted is = at (nat_lt 0 lead) is
  where
    at : (t : Bool) → made ++ cond t ((k, lead) ∷ rest) rest ≡ all → cond t (insert_entry by_actor made k lead) made ++ rest ≡ all
    at true e = rw (insert_last made rest k lead (subst (λ (l : List (Actor × ℕ)). IsStrictlySortedBy by_actor (keys_of l)) (sym e) sorted)) (append_assoc made ((k, lead) ∷ []) rest ∙ e)
    at false e = e

pub leads_sorted : (rise : Rise) (p : Actor × Pace) (paces : Paces) → IsStrictlySortedBy by_actor (keys_of paces) → IsStrictlySortedBy by_actor (keys_of (leads_among rise p paces))
leads_sorted rise p paces sorted = sorted_filter (λ lead. nat_lt 0 lead.1) (map (λ q. (q.0, lead_after rise p q)) paces)
    (subst (IsStrictlySortedBy by_actor) (sym (keys_map (lead_after rise p) paces)) sorted)

-- one turn: of the actors that are left, one more
pub leads_step : (rise : Rise) (p : Actor × Pace) (paces : Paces) (made new : List (Actor × ℕ)) (left rest : Paces) (lead : ℕ) (q : Actor × Pace) → IsStrictlySortedBy by_actor (keys_of paces) →
    left ≡ q ∷ rest → lead ≡ lead_after rise p q → new ≡ (if nat_lt 0 lead then insert_entry by_actor made q.0 lead else made) →
    made ++ leads_among rise p left ≡ leads_after rise paces p → new ++ leads_among rise p rest ≡ leads_after rise paces p
leads_step rise p paces made new left rest lead q sorted at value put is =
    rw put (leads_more lead q.0 made (leads_among rise p rest) (leads_after rise paces p) (leads_sorted rise p paces sorted)
    (rw value (subst (λ (l : Paces). made ++ leads_among rise p l ≡ leads_after rise paces p) at is)))

pub bounded_step : (left rest : Paces) (q : Actor × Pace) → left ≡ q ∷ rest → AllByRecursion AreBounded left → AllByRecursion AreBounded rest
bounded_step left rest q at all = (subst (AllByRecursion AreBounded) at all).1

pub paces_step : (rise : Rise) (paces made new left rest : Paces) (p : Actor × Pace) (leads : List (Actor × ℕ)) (clock : ℕ) → IsStrictlySortedBy by_actor (keys_of paces) →
    left ≡ p ∷ rest → leads ≡ leads_after rise paces p → clock ≡ clock_after rise p.0 p.1.clock → new ≡ insert_entry by_actor made p.0 (record { clock = clock; leads = leads }) →
    made ++ map (λ q. (q.0, pace_after rise paces q)) left ≡ paces_after rise paces → new ++ map (λ q. (q.0, pace_after rise paces q)) rest ≡ paces_after rise paces
paces_step rise paces made new left rest p leads clock sorted at are reads put is =
    rw (put, are, reads) (rw (insert_last made (map (λ q. (q.0, pace_after rise paces q)) rest) p.0 (pace_after rise paces p) inorder) (append_assoc made ((p.0, pace_after rise paces p) ∷ []) (map (λ q. (q.0, pace_after rise paces q)) rest) ∙ here))
  where
    here : made ++ (p.0, pace_after rise paces p) ∷ map (λ q. (q.0, pace_after rise paces q)) rest ≡ paces_after rise paces
    here = subst (λ (l : Paces). made ++ map (λ q. (q.0, pace_after rise paces q)) l ≡ paces_after rise paces) at is

    inorder : IsStrictlySortedBy by_actor (keys_of (made ++ (p.0, pace_after rise paces p) ∷ map (λ q. (q.0, pace_after rise paces q)) rest))
    inorder = subst (λ (l : Paces). IsStrictlySortedBy by_actor (keys_of l)) (sym here) (subst (IsStrictlySortedBy by_actor) (sym (keys_map (pace_after rise paces) paces)) sorted)
