-- So many fields of one kind, read exactly, and read one after the other as a loop does.
use Rattle.std.proofs.Common.{◌≡◌, ℕ, zero, suc, ◌-◌, ◌+◌, ◌≤◌, ◌<◌, List, [], ◌∷◌, ◌++◌, length, Result, Ok, Err, refl, sym, ap, subst, ◌∙◌, append_assoc, arith}
use Rattle.std.specs.List.{flat_map, AllByRecursion}
use Rattle.std.proofs.lemmas.List.{append-nil}
use Rattle.std.proofs.lemmas.List.Concat.{flat_map-cons}
use Rattle.hk_fields.specs.declared.fault.FieldFault.{FieldFault}
use Rattle.hk_fields.specs.declared.fault.FieldFault.TheVariants as faults
use Rattle.hk_fields.specs.Fields.{◌>>=◌, Fails, many}
use Rattle.hk_fields.proofs.Exact.{IsBytes, bind_ok, ok_is, Takes, Takes-then, IsExact}

abbrev pub AreOf : {A : Type 0} → (A → Type 0) → ℕ → List A → Type 0
AreOf Fits n xs = (length xs ≡ n) × AllByRecursion Fits xs

module _ {A : Type 0} (text : A → List ℕ) (Fits : A → Type 0) (read : List ℕ → Result (A × List ℕ) FieldFault) (e : IsExact text Fits read) where
  many_takes : (n : ℕ) (bytes : List ℕ) (xs : List A) (rest : List ℕ) → IsBytes bytes → many read n bytes ≡ Ok (xs, rest) → Takes bytes (flat_map text xs) rest × AreOf Fits n xs
  unfolding many
  many_takes zero bytes xs rest fits h =
      let none : List A × List ℕ = ([], bytes) in
      let p : none ≡ (xs, rest) = ok_is none (xs, rest) h in
      subst (λ (y : List A × List ℕ). Takes bytes (flat_map text y.0) y.1 × AreOf Fits zero y.0) p (record { parts = refl; rest_fits = fits }, (refl, tt))
  many_takes (suc n) bytes xs rest fits h =
      let a = bind_ok (read bytes) (λ x. many read n x.1 >>= λ y. Ok (x.0 ∷ y.0, y.1)) (xs, rest) h in
      let b = bind_ok (many read n a.0.1) (λ y. Ok (a.0.0 ∷ y.0, y.1)) (xs, rest) a.2 in
      let t = e.takes bytes a.0.0 a.0.1 fits a.1 in
      let u = many_takes n a.0.1 b.0.0 b.0.1 t.0.rest_fits b.1 in
      let made' : List A × List ℕ = (a.0.0 ∷ b.0.0, b.0.1) in
      let grown : Takes bytes (flat_map text (a.0.0 ∷ b.0.0)) b.0.1 = subst (λ (z : List ℕ). Takes bytes z b.0.1) (sym (flat_map-cons text a.0.0 b.0.0)) (Takes-then bytes (text a.0.0) a.0.1 (flat_map text b.0.0) b.0.1 t.0 u.0) in
      subst (λ (y : List A × List ℕ). Takes bytes (flat_map text y.0) y.1 × AreOf Fits (suc n) y.0) (ok_is made' (xs, rest) b.2) (grown, (ap suc u.1.0, (t.1, u.1.1)))

  many_again : (xs : List A) (rest : List ℕ) → AllByRecursion Fits xs → many read (length xs) (flat_map text xs ++ rest) ≡ Ok (xs, rest)
  unfolding many
  many_again [] rest f = refl
  many_again (x ∷ xs) rest f =
      let split : flat_map text (x ∷ xs) ++ rest ≡ text x ++ (flat_map text xs ++ rest) = ap (λ (t : List ℕ). t ++ rest) (flat_map-cons text x xs) ∙ append_assoc (text x) (flat_map text xs) rest in
      ap (many read (suc (length xs))) split ∙ rw (e.again x (flat_map text xs ++ rest) f.0, many_again xs rest f.1) refl

  pub many_exact : (n : ℕ) → IsExact (flat_map text) (AreOf Fits n) (many read n)
  many_exact n = record { takes = many_takes n; again = λ xs rest f. subst (λ (m : ℕ). many read m (flat_map text xs ++ rest) ≡ Ok (xs, rest)) f.0 (many_again xs rest f.1) }

-- ---- as a loop does

-- what was read before, and what is still read
abbrev pub with_front : {A : Type 0} → List A → Result (List A × List ℕ) FieldFault → Result (List A × List ℕ) FieldFault
with_front front read = read >>= λ x. Ok (front ++ x.0, x.1)

regroup : {A : Type 0} (front : List A) (a : A) (read : Result (List A × List ℕ) FieldFault) → with_front front (read >>= λ x. Ok (a ∷ x.0, x.1)) ≡ with_front (front ++ a ∷ []) read
regroup {A} front a (Ok x) = ap (λ (xs : List A). Ok (xs, x.1)) (simp append_assoc)
regroup front a (Err e) = refl

-- a fault of the next field is the fault of all
stopped : {A B : Type 0} (fault : FieldFault) (read : Result A FieldFault) (whole : Result B FieldFault) → Fails fault read → ((e : FieldFault) → read ≡ Err e → whole ≡ Err e) → Fails fault whole
stopped faults.Memory read whole fails goes = tt
stopped faults.Malformed read whole fails goes = goes faults.Malformed fails

pub goes_on : {A : Type 0} (read : List ℕ → Result (A × List ℕ) FieldFault) (front : List A) (count i : ℕ) (bytes : List ℕ) (a : A) (after : List ℕ) (total : Result (List A × List ℕ) FieldFault) → i < count → read bytes ≡ Ok (a, after)
    → with_front front (many read (count - i) bytes) ≡ total → with_front (front ++ a ∷ []) (many read (count - (i + 1)) after) ≡ total
unfolding many
goes_on read front count i bytes a after total lt h so_far =
    let k : count - i ≡ suc (count - (i + 1)) = omega arith in
    let one : with_front front (many read (count - i) bytes) ≡ with_front (front ++ a ∷ []) (many read (count - (i + 1)) after) = rw (k, h) (regroup front a (many read (count - (i + 1)) after)) in
    sym one ∙ so_far

fails : {A : Type 0} (read : List ℕ → Result (A × List ℕ) FieldFault) (front : List A) (count i : ℕ) (bytes : List ℕ) (total : Result (List A × List ℕ) FieldFault) → i < count → with_front front (many read (count - i) bytes) ≡ total
    → (e : FieldFault) → read bytes ≡ Err e → total ≡ Err e
unfolding many
fails read front count i bytes total lt so_far e h =
    let k : count - i ≡ suc (count - (i + 1)) = omega arith in
    let one : with_front front (many read (count - i) bytes) ≡ Err e = rw (k, h) refl in
    sym so_far ∙ one

pub stops : {A : Type 0} (read : List ℕ → Result (A × List ℕ) FieldFault) (fault : FieldFault) (front : List A) (count i : ℕ) (bytes : List ℕ) (total : Result (List A × List ℕ) FieldFault) → i < count → Fails fault (read bytes)
    → with_front front (many read (count - i) bytes) ≡ total → Fails fault total
stops read fault front count i bytes total lt h so_far = stopped fault (read bytes) total h (fails read front count i bytes total lt so_far)

pub ends : {A : Type 0} (read : List ℕ → Result (A × List ℕ) FieldFault) (front : List A) (count i : ℕ) (bytes : List ℕ) (total : Result (List A × List ℕ) FieldFault) → count ≤ i → with_front front (many read (count - i) bytes) ≡ total → total ≡ Ok (front, bytes)
unfolding many
ends {A} read front count i bytes total le so_far =
    let k : count - i ≡ 0 = omega arith in
    let one : with_front front (many read (count - i) bytes) ≡ Ok (front, bytes) = rw k (ap (λ (xs : List A). Ok (xs, bytes)) (append-nil front)) in
    sym so_far ∙ one
