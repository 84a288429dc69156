-- What is put behind what was put.
use Rattle.std.proofs.Common.{◌≡◌, ℕ, List, ◌++◌, Result, Ok, Err, OnOk, ap, ◌∙◌, append_assoc}

pub after : {A E : Type 0} (r : Result A E) (out mid new a b : List ℕ) → mid ≡ out ++ a → OnOk r (new ≡ mid ++ b) → OnOk r (new ≡ out ++ (a ++ b))
after (Ok x) out mid new a b e h = h ∙ ap (λ l. l ++ b) e ∙ append_assoc out a b
after (Err x) out mid new a b e h = tt
