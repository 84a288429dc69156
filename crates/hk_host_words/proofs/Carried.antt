-- What reading gives, carried over.
use Rattle.std.proofs.Common.{◌≡◌, Result, Ok, Err, subst, sym}
use Rattle.hk_host_words.specs.declared.fault.WordsFault.{WordsFault}
use Rattle.hk_host_words.specs.declared.fault.WordsFault.TheVariants.{Memory, Mistaken}
use Rattle.hk_host_words.specs.Reading.{IsReadAs, IsReading}

-- said in other words
pub same_reading : {A : Type 0} (P Q : A → Type 0) (r : Result A WordsFault) → ((x : A) → P x → Q x) → ((x : A) → Q x → P x) → IsReading P r → IsReading Q r
same_reading P Q (Ok x) f g is = f x is
same_reading P Q (Err Memory) f g is = tt
same_reading P Q (Err (Mistaken m)) f g is = λ x q. is x (g x q)

-- where a part is not read, neither is the whole
pub failed : {A B C D : Type 0} (made : A → B) (P : B → Type 0) (other : C → D) (Q : D → Type 0) (r : Result C WordsFault) (fault : WordsFault)
    → r ≡ Err fault → IsReadAs {A = A} {B = B} made P (Err fault) → ((y : D) → Q y → (x : B) × P x) → IsReadAs {A = C} {B = D} other Q r
failed {A} {B} {C} {D} made P other Q r fault e is part = subst (λ (x : Result C WordsFault). IsReadAs {A = C} {B = D} other Q x) (sym e) (at fault is)
  where
    at : (f : WordsFault) → IsReadAs {A = A} {B = B} made P (Err f) → IsReadAs {A = C} {B = D} other Q (Err f)
    at Memory is = tt
    at (Mistaken m) is = λ y q. (let p = part y q in is p.0 p.1)
