-- A text that is put piece by piece.
use Rattle.std.proofs.Common.{◌≡◌, ℕ, List, ◌++◌, Result, Ok, Err, OnOk, ap, ◌∙◌, append_assoc}

pub on_ok : {T E P Q : Type 0} (r : Result T E) → (P → Q) → OnOk r P → OnOk r Q
on_ok (Ok x) f h = f h
on_ok (Err e) f h = h

-- one piece more
pub grown : (out front piece now next : List ℕ) → now ≡ out ++ front → next ≡ now ++ piece → next ≡ out ++ (front ++ piece)
grown out front piece now next is more = more ∙ (ap (λ (l : List ℕ). l ++ piece) is ∙ append_assoc out front piece)
