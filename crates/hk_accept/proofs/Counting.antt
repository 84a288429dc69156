-- When no more connections come.
use Rattle.std.proofs.Common.{◌≡◌, ℕ, ◌-◌, ◌∙◌, ap, refl, subst, sym, Option, None, Some, Ok, Err, arith}
use Rattle.hk_outside.specs.Counts.{Accepts}
use Rattle.hk_accept.specs.Serving.{Came, AreAll}

-- none comes only where all that were left have come
pub none_more : (C E : Type 0) (first before now : Option ℕ) (n : ℕ) (conn : Option C) → Came first before n → conn ≡ None → Accepts {C = C} {E = E} before now (Ok conn) → Came first now n × AreAll first n
none_more C E None before now n conn came none accepts = (tt, tt)
none_more C E (Some first) before now n conn came none accepts =
    let at = subst (λ b. Accepts {C = C} {E = E} b now (Ok conn)) came.1 accepts in
    let (empty, is) = subst (λ c. Accepts {C = C} {E = E} (Some (first - n)) now (Ok c)) none at in
    let within = came.0 in
    ((within, is ∙ ap Some (sym empty)), omega arith)

-- ---- doors that failed
-- as many are left, where the doors told it
abbrev pub StaysLeft : Option ℕ → Option ℕ → Type 0
StaysLeft None now = Unit {0}
StaysLeft (Some n) now = now ≡ Some n

pub stays_at_first : (left : Option ℕ) → StaysLeft left left
stays_at_first None = tt
stays_at_first (Some n) = refl

pub stays_left : (C : Type 0) {E : Type 0} (first before now : Option ℕ) (e : E) → StaysLeft first before → Accepts {C = C} before now (Err e) → StaysLeft first now
stays_left C None before now e stays accepts = tt
stays_left C {E} (Some n) before now e stays accepts = subst (λ b. Accepts {C = C} {E = E} b now (Err e)) stays accepts

pub comes_then : {C : Type 0} (E F : Type 0) (first before now : Option ℕ) (come : Option C) → StaysLeft first before → Accepts {C = C} {E = F} before now (Ok come)
    → Accepts {C = C} {E = E} first now (Ok come)
comes_then E F None before now come stays accepts = tt
comes_then {C} E F (Some n) before now None stays accepts = subst (λ b. Accepts {C = C} {E = F} b now (Ok None)) stays accepts
comes_then {C} E F (Some n) before now (Some conn) stays accepts = subst (λ b. Accepts {C = C} {E = F} b now (Ok (Some conn))) stays accepts
