-- The printed orders of keys with their events, as standings have them.
use Rattle.std.proofs.Common.{◌≡◌, ℕ, zero, suc, Bool, cond, arith, List, [], ◌∷◌, map, flat_map, sym, refl, ap, ap₂}
use Rattle.hk_register.specs.Printed.{Slot, entry_of, entries, tag_at}
use Rattle.hk_safety.specs.declared.placed.Placed.{Placed}
use Rattle.hk_safety.specs.Run.{RunState, named}
use Rattle.std.proofs.lemmas.Bool.{ne_eqb}
use Rattle.hk_safety.specs.Moment.{moment, replied_at}
use Rattle.hk_safety.specs.Placed.{event_by, entry_placed}
use Rattle.hk_safety.specs.Placed.{placed as key_placed}
use Rattle.hk_joint.specs.Joint.{slots, event_of, standing, standings}
use Rattle.hk_joint.specs.Placing.{placed, placed_in}
use Rattle.hk_joint.proofs.Lists.{flat_same}

-- what stands at place 0 is a change
event_is : (run : RunState) (key : List ℕ) (x : Slot) → event_by run key (entry_of x).call (entry_of x).tag ≡ event_of run key x
event_is run key x = by_place x.place
  where
    by_place : (n : ℕ) → event_by run key (record { 0 = x.call }) (tag_at n x.stamp) ≡ event_of run key (record x { place = n })
    by_place zero = refl
    by_place (suc n) = sym (ap (λ (b : Bool). cond b (moment run key x.stamp) (replied_at run key x.call)) (ne_eqb (suc n) 0 (λ (e : suc n ≡ 0). absurd (omega (arith, e)))))

all_placed : (run : RunState) (key : List ℕ) (xs : List Slot) → map (entry_placed run key) (entries xs) ≡ map placed (map (standing run key) xs)
all_placed run key [] = refl
all_placed run key (x ∷ xs) = ap₂ (λ (n : ℕ) (ps : List Placed). record { event = n; entry = entry_of x } ∷ ps) (event_is run key x) (all_placed run key xs)

pub placed_as_standing : (run : RunState) (key : List ℕ) → key_placed run key ≡ map placed (standings run key)
placed_as_standing run key = all_placed run key (slots run key)

pub keys_placed : (run : RunState) → flat_map (key_placed run) (named run) ≡ placed_in run
keys_placed run = flat_same (key_placed run) (λ key. map placed (standings run key)) (named run) (λ key h. placed_as_standing run key)
