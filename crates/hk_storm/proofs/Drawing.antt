-- Calls are drawn one by one.
use Rattle.std.proofs.Common.{◌≡◌, ℕ, zero, suc, ◌+◌, List, [], ◌∷◌, ◌++◌, length, refl, sym, ap, ◌∙◌, arith, append_assoc, append-nil}
use Rattle.rand_pcg.specs.Lcg.{Lcg}
use Rattle.hk_script.specs.Drawn.{ask_drawn}
use Rattle.hk_storm.specs.declared.opts.StormOpts.{StormOpts}
use Rattle.hk_storm.specs.declared.calls.StormCall.{StormCall}
use Rattle.hk_storm.specs.Calls.{call_at, next_call, drawn_from}

drawn_turn : (opts : StormOpts) (g : Lcg) (place n m : ℕ) → n ≡ suc m → drawn_from opts g place n ≡ call_at opts place (ask_drawn g).0 ∷ drawn_from opts (ask_drawn g).1 (place + 1) m
unfolding drawn_from
drawn_turn opts g place n m e = rw e refl

drawn_end : (opts : StormOpts) (g : Lcg) (place n : ℕ) → n ≡ 0 → drawn_from opts g place n ≡ []
unfolding drawn_from
drawn_end opts g place n e = rw e refl

abbrev Next : Type 0
Next = StormCall × Lcg

-- a call more
pub draws_on : (opts : StormOpts) (calls whole : List StormCall) (g next : Lcg) (call : StormCall) (place n m : ℕ) → n ≡ suc m → whole ≡ calls ++ drawn_from opts g place n → ◌≡◌ {A = Next} (call, next) (next_call opts place g) →
    whole ≡ (calls ++ call ∷ []) ++ drawn_from opts next (place + 1) m
draws_on opts calls whole g next call place n m e is drawn =
    is
    ∙ (ap (λ (l : List StormCall). calls ++ l) (drawn_turn opts g place n m e)
    ∙ (ap (λ (p : Next). calls ++ (p.0 ∷ drawn_from opts p.1 (place + 1) m)) (sym drawn)
    ∙ sym (append_assoc calls (call ∷ []) (drawn_from opts next (place + 1) m))))

pub draws_all : (opts : StormOpts) (calls whole : List StormCall) (g : Lcg) (place n : ℕ) → n ≡ 0 → whole ≡ calls ++ drawn_from opts g place n → calls ≡ whole
draws_all opts calls whole g place n e is = sym (is ∙ (ap (λ (l : List StormCall). calls ++ l) (drawn_end opts g place n e) ∙ append-nil calls))

-- so many are drawn
pub drawn_length : (opts : StormOpts) (g : Lcg) (place n : ℕ) → length (drawn_from opts g place n) ≡ n
unfolding drawn_from
drawn_length opts g place zero = refl
drawn_length opts g place (suc n) = let more = drawn_length opts (ask_drawn g).1 (place + 1) n in omega (arith, more)
