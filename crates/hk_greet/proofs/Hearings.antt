-- How a message is waited for.
use Rattle.std.proofs.Common.{◌≡◌, ◌<◌, ℕ, zero, suc, ◌+◌, ◌-◌, List, [], ◌∷◌, ◌++◌, length, Ok, Err, refl, sym, ap, subst, ◌∙◌, arith, append-nil, length-append}
use Rattle.hk_greet.specs.declared.fault.HearFault.{HearFault}
use Rattle.hk_greet.specs.declared.fault.HearFault.TheVariants.{Memory, ReadFault, Ended, Late, Malformed}
use Rattle.hk_greet.specs.Standing.{Standing, Passes, IsOver}
use Rattle.hk_greet.specs.Hearing.{Kind, Fills, Hears}
use Rattle.hk_greet.proofs.Passing.{passes_behind, over_on, rose_on}

nothing_came : (unread unread' came : List ℕ) → unread ++ came ≡ unread' → length unread' ≡ length unread → unread' ≡ unread
nothing_came unread unread' [] e len = sym e ∙ append-nil unread
nothing_came unread unread' (b ∷ came) e len = absurd (omega (arith, len, ap length e, length-append unread (b ∷ came)))

module _ {A : Type 0} (kind : Kind A) (MayEnd : Type 0) where
  -- a read fails, or there is no memory for it
  pub fill_fails : (fault : HearFault) (a b c : Standing) → Passes a b [] [] → kind.IsShort b.unread → Fills (Err fault) b c → Hears kind MayEnd (Err fault) a c
  fill_fails Memory a b c h short fills = (subst (λ (s : Standing). Passes a s [] []) (sym fills) h, tt)
  fill_fails ReadFault a b c h short fills = (passes_behind a b c [] [] h fills.0, (subst kind.IsShort (sym fills.1) short, rose_on a.read_faults b.read_faults c.read_faults h.read_later fills.2))
  fill_fails Ended a b c h short fills = absurd fills
  fill_fails Late a b c h short fills = absurd fills
  fill_fails Malformed a b c h short fills = absurd fills

  -- the connection ends
  pub fill_ends : (count : ℕ) (a b c : Standing) → Passes a b [] [] → kind.IsShort b.unread → Fills (Ok count) b c → count ≡ 0 → Passes a c [] [] × (kind.IsShort c.unread × IsOver a c)
  fill_ends count a b c h short fills none =
      let same : c.unread ≡ b.unread = nothing_came b.unread c.unread fills.0.came fills.0.same (omega (arith, fills.1, none)) in
      (passes_behind a b c [] [] h fills.0, (subst kind.IsShort (sym same) short, over_on a b c [] [] h (fills.2 none)))

-- fewer bytes than before are wanting
pub fewer_wanting : (most count unread unread' : ℕ) → unread < most → unread' ≡ unread + count → (count ≡ 0 → ⊥) → most - unread' < most - unread
fewer_wanting most zero unread unread' few e some = absurd (some refl)
fewer_wanting most (suc count) unread unread' few e some = omega (arith, few, e)
