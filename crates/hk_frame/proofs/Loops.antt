-- Reading rows one after the other, as a loop does.
use Rattle.std.proofs.Common.{◌≡◌, ℕ, suc, ◌-◌, ◌+◌, ◌≤◌, ◌<◌, List, [], ◌∷◌, ◌++◌, Result, Ok, Err, refl, sym, ap, ◌∙◌, append_assoc, arith}
use Rattle.std.proofs.lemmas.List.{append-nil}
use Rattle.std.specs.Int.{w16}
use Rattle.hk_base.specs.declared.letter.CopyItem.{CopyItem}
use Rattle.hk_base.specs.declared.stamp.NodeId.{NodeId}
use Rattle.hk_frame.specs.declared.fault.Stop.{Stop}
use Rattle.hk_frame.specs.declared.fault.Stop.TheVariants as stops
use Rattle.hk_frame.specs.Fields.{◌>>=◌, Fails, within, number_at}
use Rattle.hk_frame.specs.Reading.{item_at, items_of, members_of}

-- what was read before, and what is still read
abbrev pub with_front : {A : Type 0} → List A → Result (List A × List ℕ) Stop → Result (List A × List ℕ) Stop
with_front front read = read >>= λ x. Ok (front ++ x.0, x.1)

regroup : {A : Type 0} (front : List A) (a : A) (read : Result (List A × List ℕ) Stop) → with_front front (read >>= λ x. Ok (a ∷ x.0, x.1)) ≡ with_front (front ++ a ∷ []) read
regroup {A} front a (Ok x) = ap (λ (xs : List A). Ok (xs, x.1)) (simp append_assoc)
regroup front a (Err e) = refl

-- a fault of the next row is the fault of all
stopped : {A B : Type 0} (stop : Stop) (read : Result A Stop) (whole : Result B Stop) → Fails stop read → ((e : Stop) → read ≡ Err e → whole ≡ Err e) → Fails stop whole
stopped stops.Memory read whole fails goes = tt
stopped stops.Length read whole fails goes = goes stops.Length fails
stopped (stops.Kind kind) read whole fails goes = goes (stops.Kind kind) fails
stopped (stops.Field left) read whole fails goes = goes (stops.Field left) fails

pub items_go_on : (front : List CopyItem) (count i : ℕ) (bytes : List ℕ) (item : CopyItem) (after : List ℕ) (total : Result (List CopyItem × List ℕ) Stop) → i < count → item_at bytes ≡ Ok (item, after)
    → with_front front (items_of (count - i) bytes) ≡ total → with_front (front ++ item ∷ []) (items_of (count - (i + 1)) after) ≡ total
unfolding items_of
items_go_on front count i bytes item after total lt h so_far =
    let k : count - i ≡ suc (count - (i + 1)) = omega arith in
    let one : with_front front (items_of (count - i) bytes) ≡ with_front (front ++ item ∷ []) (items_of (count - (i + 1)) after) = rw (k, h) (regroup front item (items_of (count - (i + 1)) after)) in
    sym one ∙ so_far

items_fail : (front : List CopyItem) (count i : ℕ) (bytes : List ℕ) (total : Result (List CopyItem × List ℕ) Stop) → i < count → with_front front (items_of (count - i) bytes) ≡ total
    → (e : Stop) → item_at bytes ≡ Err e → total ≡ Err e
unfolding items_of
items_fail front count i bytes total lt so_far e h =
    let k : count - i ≡ suc (count - (i + 1)) = omega arith in
    let one : with_front front (items_of (count - i) bytes) ≡ Err e = rw (k, h) refl in
    sym so_far ∙ one

pub items_stop : (stop : Stop) (front : List CopyItem) (count i : ℕ) (bytes : List ℕ) (total : Result (List CopyItem × List ℕ) Stop) → i < count → Fails stop (item_at bytes)
    → with_front front (items_of (count - i) bytes) ≡ total → Fails stop total
items_stop stop front count i bytes total lt h so_far = stopped stop (item_at bytes) total h (items_fail front count i bytes total lt so_far)

pub items_done : (front : List CopyItem) (count i : ℕ) (bytes : List ℕ) (total : Result (List CopyItem × List ℕ) Stop) → count ≤ i → with_front front (items_of (count - i) bytes) ≡ total → total ≡ Ok (front, bytes)
unfolding items_of
items_done front count i bytes total le so_far =
    let k : count - i ≡ 0 = omega arith in
    let one : with_front front (items_of (count - i) bytes) ≡ Ok (front, bytes) = rw k (ap (λ (xs : List CopyItem). Ok (xs, bytes)) (append-nil front)) in
    sym so_far ∙ one

pub members_go_on : (front : List NodeId) (next least count i : ℕ) (bytes : List ℕ) (member : ℕ) (after : List ℕ) (total : Result (List NodeId × List ℕ) Stop) → i < count → within least (next - 1) (number_at w16) bytes ≡ Ok (member, after)
    → with_front front (members_of next least (count - i) bytes) ≡ total → with_front (front ++ record { 0 = member } ∷ []) (members_of next (member + 1) (count - (i + 1)) after) ≡ total
unfolding members_of
members_go_on front next least count i bytes member after total lt h so_far =
    let k : count - i ≡ suc (count - (i + 1)) = omega arith in
    let one : with_front front (members_of next least (count - i) bytes) ≡ with_front (front ++ record { 0 = member } ∷ []) (members_of next (member + 1) (count - (i + 1)) after) = rw (k, h) (regroup front (record { 0 = member }) (members_of next (member + 1) (count - (i + 1)) after)) in
    sym one ∙ so_far

members_fail : (front : List NodeId) (next least count i : ℕ) (bytes : List ℕ) (total : Result (List NodeId × List ℕ) Stop) → i < count → with_front front (members_of next least (count - i) bytes) ≡ total
    → (e : Stop) → within least (next - 1) (number_at w16) bytes ≡ Err e → total ≡ Err e
unfolding members_of
members_fail front next least count i bytes total lt so_far e h =
    let k : count - i ≡ suc (count - (i + 1)) = omega arith in
    let one : with_front front (members_of next least (count - i) bytes) ≡ Err e = rw (k, h) refl in
    sym so_far ∙ one

pub members_stop : (stop : Stop) (front : List NodeId) (next least count i : ℕ) (bytes : List ℕ) (total : Result (List NodeId × List ℕ) Stop) → i < count → Fails stop (within least (next - 1) (number_at w16) bytes)
    → with_front front (members_of next least (count - i) bytes) ≡ total → Fails stop total
members_stop stop front next least count i bytes total lt h so_far = stopped stop (within least (next - 1) (number_at w16) bytes) total h (members_fail front next least count i bytes total lt so_far)

pub members_done : (front : List NodeId) (next least count i : ℕ) (bytes : List ℕ) (total : Result (List NodeId × List ℕ) Stop) → count ≤ i → with_front front (members_of next least (count - i) bytes) ≡ total → total ≡ Ok (front, bytes)
unfolding members_of
members_done front next least count i bytes total le so_far =
    let k : count - i ≡ 0 = omega arith in
    let one : with_front front (members_of next least (count - i) bytes) ≡ Ok (front, bytes) = rw k (ap (λ (xs : List NodeId). Ok (xs, bytes)) (append-nil front)) in
    sym so_far ∙ one
