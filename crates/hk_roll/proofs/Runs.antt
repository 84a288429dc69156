-- The worked runs.
use Rattle.std.proofs.Common.{◌≡◌, ℕ, zero, suc, [], ◌∷◌, None, Some, refl, inl, inr, subst, arith}
use Rattle.hk_fields.specs.declared.tickets.Ticket.{Ticket}
use Rattle.hk_roll.specs.Group.{Group, In, WereTold, last}
use Rattle.hk_roll.specs.Group.Event.{Seat}
use Rattle.hk_roll.specs.Worked.{node, founded, views, seating, no_boards, a, b, at_once, NewcomersGetTheirOwn, AnothersClaimIsRefused, MinorityChanges, OldNumbersStayUnbound}

none_told : (g : Group) → WereTold g (node 3) no_boards
none_told g zero t e = absurd cc
none_told g (suc zero) t e = absurd cc
none_told g (suc (suc zero)) t e = absurd cc
none_told g (suc (suc (suc n))) t e = absurd cc

same : (t u : Ticket) → Some (Some t) ≡ Some (Some u) → t ≡ u
same t u e = cc

abbrev HasIt : ℕ → Ticket → Type 0
HasIt from t = In (last founded at_once).told (record { from = from; node = node 3; ticket = t })

two_told : WereTold (last founded at_once) (node 3) (Some a ∷ None ∷ Some a ∷ [])
two_told zero t e = subst (λ (x : Ticket). HasIt 0 x) (same a t e) (inr (inl refl))
two_told (suc zero) t e = absurd cc
two_told (suc (suc zero)) t e = subst (λ (x : Ticket). HasIt 2 x) (same a t e) (inl refl)
two_told (suc (suc (suc n))) t e = absurd cc

pub own : NewcomersGetTheirOwn
own = record { first = refl; claims = refl; again = refl; waits = refl; second = refl }

pub refused : AnothersClaimIsRefused
refused = record { bound_here = refl; told = refl }

pub changes : MinorityChanges
changes = record {
  run = (omega arith, (omega arith, ((omega arith, refl, none_told (last founded (Seat 1 views seating b ∷ Seat 0 views seating a ∷ []))), (omega arith, (omega arith, tt)))));
  more = ((omega arith, refl, two_told), (omega arith, tt));
  before = refl;
  other = refl;
  behind = refl;
}

pub unbound : OldNumbersStayUnbound
unbound = record { past = refl; member = refl; midway = refl; passed_over = refl; half_over = refl }
