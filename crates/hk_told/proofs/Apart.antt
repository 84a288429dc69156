-- Asks that are written in place, and what is made of them so.
use Rattle.std.proofs.Common.{◌≡◌, ◌≢◌, ◌⊎◌, inl, inr, ⊎_elim, ℕ, ◌==◌, if◌then◌else◌, List, [], ◌∷◌, Bool, true, false, not, Option, Some, None, is_some, refl, sym, ap, ◌∙◌, subst, arith}
use Rattle.std.specs.Option.{IsSome, IsSomeAnd, option_map, option_or}
use Rattle.std.proofs.lemmas.Bool.{false≢true}
use Rattle.std.proofs.lemmas.Option.{none-some}
use Rattle.hk_base.specs.declared.call.CallNo.{CallNo}
use Rattle.hk_by_call.specs.Kept.{kept_at}
use Rattle.hk_by_call.proofs.Beside.{is_written, others_written}
use Rattle.hk_told.specs.declared.ask.Ask.{Ask}
use Rattle.hk_base.specs.declared.call.Answer.{Answer}
use Rattle.hk_base.specs.declared.call.Reply.{Reply}
use Rattle.hk_told.specs.declared.asks.AskState.TheVariants.{Gone, Waits}
use Rattle.hk_told.specs.Held.{Asks, IsWaitingAt, answer_to, heard, Delivers, DeliversInTurn, AreFewer}
use Rattle.hk_told.specs.Kept.{asks_in, told_ask, unwanted_ask, is_of, is_told, is_left, given_up, answered, look_at, AreOthersSame, LooksAs, TakesOut}
use Rattle.hk_told.proofs.Moving.{some_same}
use Rattle.hk_told.proofs.Holding.{same_call, cases_call}

-- an ask is written, or there is none
abbrev pub Writes : CallNo → (Ask → Ask) → List (CallNo × Ask) → List (CallNo × Ask) → Type 0
Writes call change kept new =
    ((ask : Ask) → asks_in kept call ≡ Some ask → new ≡ kept_at kept call (change ask)) × (asks_in kept call ≡ None → new ≡ kept)

pub written : (call : CallNo) (change : Ask → Ask) (kept new : List (CallNo × Ask)) → Writes call change kept new →
    (asks_in new call ≡ option_map change (asks_in kept call)) × ((other : CallNo) → other ≢ call → asks_in new other ≡ asks_in kept other)
written call change kept new w = by (asks_in kept call) refl
  where
    by : (o : Option Ask) → asks_in kept call ≡ o → (asks_in new call ≡ option_map change o) × ((other : CallNo) → other ≢ call → asks_in new other ≡ asks_in kept other)
    by None e = (ap (λ (k : List (CallNo × Ask)). asks_in k call) (w.1 e) ∙ e, λ other ne. ap (λ (k : List (CallNo × Ask)). asks_in k other) (w.1 e))
    by (Some ask) e = (
      ap (λ (k : List (CallNo × Ask)). asks_in k call) (w.0 ask e) ∙ is_written call ask (change ask) kept e,
      λ other ne. ap (λ (k : List (CallNo × Ask)). asks_in k other) (w.0 ask e) ∙ others_written call (change ask) kept other ne,
    )

-- ---- deliveries
nothing_more : (o : Option Answer) → option_or o None ≡ o
nothing_more None = refl
nothing_more (Some a) = refl

heard_other : (call : CallNo) (reply : Reply) (o : Option Ask) → call ≢ reply.call → heard call (reply ∷ []) o ≡ o
heard_other call reply None ne = refl
heard_other call reply (Some ask) ne =
    ap (λ (b : Bool). Some (record ask { told = option_or ask.told (if b then Some reply.answer else None) })) (apart (reply.call.0 == call.0) refl)
    ∙ ap (λ (t : Option Answer). Some (record ask { told = t })) (nothing_more ask.told)
  where
    apart : (b : Bool) → (reply.call.0 == call.0) ≡ b → b ≡ false
    apart true e = absurd (ne (same_call call reply.call (grind (arith, e))))
    apart false e = refl

heard_own : (reply : Reply) (o : Option Ask) → heard reply.call (reply ∷ []) o ≡ option_map (told_ask reply.answer) o
heard_own reply None = refl
heard_own reply (Some ask) = ap (λ (b : Bool). Some (record ask { told = option_or ask.told (if b then Some reply.answer else None) })) (is_same reply.call.0)
  where
    is_same : (n : ℕ) → (n == n) ≡ true
    is_same n = grind arith

pub delivers_told : (reply : Reply) (kept new : List (CallNo × Ask)) → Writes reply.call (told_ask reply.answer) kept new → Delivers (reply ∷ []) (asks_in kept) (asks_in new)
delivers_told reply kept new w call =
    let both = written reply.call (told_ask reply.answer) kept new w in
    inl (⊎_elim
    (λ (e : call ≡ reply.call). subst (λ (c : CallNo). asks_in new c ≡ heard c (reply ∷ []) (asks_in kept c)) (sym e) (both.0 ∙ sym (heard_own reply (asks_in kept reply.call))))
    (λ (ne : call ≢ reply.call). both.1 call ne ∙ sym (heard_other call reply (asks_in kept call) ne)) (cases_call call reply.call))

told_some : (answer : Answer) (o : Option Answer) → IsSome (option_or o (Some answer))
told_some answer None = refl
told_some answer (Some a) = refl

pub delivers_dropped : (reply : Reply) (asks new : Asks) → is_left (asks reply.call) ≡ true → new reply.call ≡ None → AreOthersSame reply.call asks new → Delivers (reply ∷ []) asks new
delivers_dropped reply asks new left gone others call = ⊎_elim here (λ (ne : call ≢ reply.call). inl (others call ne ∙ sym (heard_other call reply (asks call) ne))) (cases_call call reply.call)
  where
    told : (o : Option Ask) → is_left o ≡ true → IsSomeAnd (option_map (told_ask reply.answer) o) (λ ask. IsSome ask.told)
    told None e = absurd (false≢true e)
    told (Some ask) e = told_some reply.answer ask.told

    here : call ≡ reply.call → (new call ≡ heard call (reply ∷ []) (asks call)) ⊎ ((new call ≡ None) × IsSomeAnd (heard call (reply ∷ []) (asks call)) (λ ask. IsSome ask.told))
    here e = inr (subst (λ (c : CallNo). (new c ≡ None) × IsSomeAnd (heard c (reply ∷ []) (asks c)) (λ ask. IsSome ask.told)) (sym e)
        (gone, subst (λ (o : Option Ask). IsSomeAnd o (λ ask. IsSome ask.told)) (sym (heard_own reply (asks reply.call))) (told (asks reply.call) left)))

-- ---- asks are fewer
pub fewer_without : (call : CallNo) (asks new : Asks) → is_told (asks call) ≡ true → new call ≡ None → AreOthersSame call asks new → AreFewer asks new
fewer_without call asks new told gone others = record { had = had; waits = waits }
  where
    had : (c : CallNo) (ask : Ask) → new c ≡ Some ask → IsSomeAnd (asks c) (λ old. (old.key ≡ ask.key) × (old.ticket ≡ ask.ticket) × (old.told ≡ ask.told))
    had c ask e = ⊎_elim (λ (same : c ≡ call). absurd (none-some ask (sym gone ∙ (ap new (sym same) ∙ e))))
        (λ (ne : c ≢ call). subst (λ (o : Option Ask). IsSomeAnd o (λ old. (old.key ≡ ask.key) × (old.ticket ≡ ask.ticket) × (old.told ≡ ask.told))) (sym e ∙ others c ne) (refl, refl, refl))
        (cases_call c call)

    untold : (ask : Ask) → ask.told ≡ None → is_told (Some ask) ≡ true → ⊥
    untold ask none e = false≢true (ap is_some (sym none) ∙ e)

    waits : (c : CallNo) (ask : Ask) → asks c ≡ Some ask → ask.told ≡ None → IsSomeAnd (new c) (IsWaitingAt ask.key)
    waits c ask e none = ⊎_elim (λ (same : c ≡ call). absurd (untold ask none (ap is_told (sym e ∙ ap asks same) ∙ told)))
        (λ (ne : c ≢ call). subst (λ (o : Option Ask). IsSomeAnd o (IsWaitingAt ask.key)) (sym (others c ne ∙ e)) (none, refl)) (cases_call c call)

pub fewer_itself : (asks : Asks) → AreFewer asks asks
fewer_itself asks = record {
  had = λ c ask e. subst (λ (o : Option Ask). IsSomeAnd o (λ old. (old.key ≡ ask.key) × (old.ticket ≡ ask.ticket) × (old.told ≡ ask.told))) (sym e) (refl, refl, refl);
  waits = λ c ask e none. subst (λ (o : Option Ask). IsSomeAnd o (IsWaitingAt ask.key)) (sym e) (none, refl);
}

pub fewer_unwanted : (call : CallNo) (kept new : List (CallNo × Ask)) → Writes call unwanted_ask kept new → AreFewer (asks_in kept) (asks_in new)
fewer_unwanted call kept new w = record { had = had; waits = waits }
  where
    both : (asks_in new call ≡ option_map unwanted_ask (asks_in kept call)) × ((other : CallNo) → other ≢ call → asks_in new other ≡ asks_in kept other)
    both = written call unwanted_ask kept new w

    had : (c : CallNo) (ask : Ask) → asks_in new c ≡ Some ask → IsSomeAnd (asks_in kept c) (λ old. (old.key ≡ ask.key) × (old.ticket ≡ ask.ticket) × (old.told ≡ ask.told))
    had c ask e = ⊎_elim
        (λ (same : c ≡ call). subst (λ (d : CallNo). IsSomeAnd (asks_in kept d) (λ old. (old.key ≡ ask.key) × (old.ticket ≡ ask.ticket) × (old.told ≡ ask.told))) (sym same)
        (here (asks_in kept call) (sym both.0 ∙ (ap (asks_in new) (sym same) ∙ e))))
        (λ (ne : c ≢ call). subst (λ (o : Option Ask). IsSomeAnd o (λ old. (old.key ≡ ask.key) × (old.ticket ≡ ask.ticket) × (old.told ≡ ask.told))) (sym e ∙ both.1 c ne) (refl, refl, refl))
        (cases_call c call)
      where
        here : (o : Option Ask) → option_map unwanted_ask o ≡ Some ask → IsSomeAnd o (λ old. (old.key ≡ ask.key) × (old.ticket ≡ ask.ticket) × (old.told ≡ ask.told))
        here None h = absurd (none-some ask h)
        here (Some old) h =
            let same : unwanted_ask old ≡ ask = some_same (unwanted_ask old) ask h in
            (ap (λ (a : Ask). a.key) same, ap (λ (a : Ask). a.ticket) same, ap (λ (a : Ask). a.told) same)

    waits : (c : CallNo) (ask : Ask) → asks_in kept c ≡ Some ask → ask.told ≡ None → IsSomeAnd (asks_in new c) (IsWaitingAt ask.key)
    waits c ask e none = ⊎_elim
        (λ (same : c ≡ call). subst (λ (o : Option Ask). IsSomeAnd o (IsWaitingAt ask.key))
        (sym (ap (asks_in new) same ∙ (both.0 ∙ ap (option_map unwanted_ask) (ap (asks_in kept) (sym same) ∙ e)))) (none, refl))
        (λ (ne : c ≢ call). subst (λ (o : Option Ask). IsSomeAnd o (IsWaitingAt ask.key)) (sym (both.1 c ne ∙ e)) (none, refl)) (cases_call c call)

-- ---- how an ask stands
pub stands_gone : (ticket : ℕ) (o : Option Ask) → is_of ticket o ≡ false → LooksAs ticket o Gone
stands_gone ticket o e ask is same = false≢true (sym e ∙ (ap (is_of ticket) is ∙ here ask.ticket same))
  where
    here : (n : ℕ) → n ≡ ticket → (n == ticket) ≡ true
    here n e = grind (arith, e)

pub stands_waiting : (ticket : ℕ) (o : Option Ask) → is_of ticket o ≡ true → is_told o ≡ false → LooksAs ticket o Waits
stands_waiting ticket None e t = absurd (false≢true e)
stands_waiting ticket (Some ask) e t = (grind (arith, e), none ask.told t)
  where
    none : (o : Option Answer) → is_some o ≡ false → o ≡ None
    none None t = refl
    none (Some a) t = absurd (false≢true (sym t))

pub stands_told : (ticket : ℕ) (o : Option Ask) (ask : Ask) → is_of ticket o ≡ true → is_told o ≡ true → o ≡ Some ask → LooksAs ticket o (look_at ask.told)
stands_told ticket o ask e t is = subst (λ (p : Option Ask). LooksAs ticket p (look_at ask.told)) (sym is) (by ask.told (sym (ap is_told is) ∙ t) refl)
  where
    own : (ask.ticket == ticket) ≡ true → ask.ticket ≡ ticket
    own h = grind (arith, h)

    by : (w : Option Answer) → is_some w ≡ true → ask.told ≡ w → LooksAs ticket (Some ask) (look_at w)
    by None s h = absurd (false≢true s)
    by (Some a) s h = (own (sym (ap (is_of ticket) is) ∙ e), h)

-- ---- what is left
pub given_up_told : (o : Option Ask) → is_told o ≡ true → None ≡ given_up o
given_up_told None e = refl
given_up_told (Some ask) e = rw e refl

given_up_waiting : (o : Option Ask) → is_told o ≡ false → option_map unwanted_ask o ≡ given_up o
given_up_waiting None e = refl
given_up_waiting (Some ask) e = rw e refl

pub left_unwanted : (call : CallNo) (kept new : List (CallNo × Ask)) → Writes call unwanted_ask kept new → is_told (asks_in kept call) ≡ false
    → (asks_in new call ≡ given_up (asks_in kept call)) × AreOthersSame call (asks_in kept) (asks_in new)
left_unwanted call kept new w waits = let both = written call unwanted_ask kept new w in (both.0 ∙ given_up_waiting (asks_in kept call) waits, both.1)

not_true : (b : Bool) → not b ≡ true → b ≡ false
not_true true e = sym e
not_true false e = refl

not_false : (b : Bool) → not b ≡ false → b ≡ true
not_false true e = refl
not_false false e = sym e

pub answered_left : (answer : Answer) (o : Option Ask) → is_left o ≡ true → None ≡ answered answer o
answered_left answer None e = refl
answered_left answer (Some ask) e = rw (not_true ask.wanted e) refl

answered_wanted : (answer : Answer) (o : Option Ask) → is_left o ≡ false → option_map (told_ask answer) o ≡ answered answer o
answered_wanted answer None e = refl
answered_wanted answer (Some ask) e = ap (λ (b : Bool). if b then Some (told_ask answer ask) else None) (sym (not_false ask.wanted e))

pub answered_told : (reply : Reply) (kept new : List (CallNo × Ask)) → Writes reply.call (told_ask reply.answer) kept new → is_left (asks_in kept reply.call) ≡ false
    → (asks_in new reply.call ≡ answered reply.answer (asks_in kept reply.call)) × AreOthersSame reply.call (asks_in kept) (asks_in new)
answered_told reply kept new w wanted =
    let both = written reply.call (told_ask reply.answer) kept new w in (both.0 ∙ answered_wanted reply.answer (asks_in kept reply.call) wanted, both.1)

pub takes_told : (call : CallNo) (old new : List (CallNo × Ask)) (told : Option Answer) → is_some told ≡ true → asks_in new call ≡ None → AreOthersSame call (asks_in old) (asks_in new)
    → TakesOut call old new (look_at told)
takes_told call old new None some gone others = absurd (false≢true some)
takes_told call old new (Some answer) some gone others = (gone, others)

-- ---- deliveries in turn
-- one reply and then others are all of them
heard_turn : (call : CallNo) (reply : Reply) (replies : List Reply) (o : Option Ask) → heard call (reply ∷ replies) o ≡ heard call replies (heard call (reply ∷ []) o)
heard_turn call reply replies None = refl
heard_turn call reply replies (Some ask) = ap (λ (t : Option Answer). Some (record ask { told = t })) (by ask.told (reply.call.0 == call.0))
  where
    by : (o : Option Answer) (b : Bool) → option_or o (if b then Some reply.answer else answer_to call replies) ≡ option_or (option_or o (if b then Some reply.answer else None)) (answer_to call replies)
    by None true = refl
    by None false = refl
    by (Some a) b = refl

told_on : (call : CallNo) (replies : List Reply) (o : Option Ask) → IsSomeAnd o (λ ask. IsSome ask.told) → IsSomeAnd (heard call replies o) (λ ask. IsSome ask.told)
told_on call replies None told = told
told_on call replies (Some ask) told = by ask.told told
  where
    by : (o : Option Answer) → IsSome o → IsSome (option_or o (answer_to call replies))
    by None told = absurd (false≢true told)
    by (Some a) told = refl

pub delivers_in_turn : DeliversInTurn
delivers_in_turn reply replies asks mid new first rest call = by (first call) (rest call)
  where
    whole : heard call (reply ∷ replies) (asks call) ≡ heard call replies (heard call (reply ∷ []) (asks call))
    whole = heard_turn call reply replies (asks call)

    by : (mid call ≡ heard call (reply ∷ []) (asks call)) ⊎ ((mid call ≡ None) × IsSomeAnd (heard call (reply ∷ []) (asks call)) (λ ask. IsSome ask.told)) →
        (new call ≡ heard call replies (mid call)) ⊎ ((new call ≡ None) × IsSomeAnd (heard call replies (mid call)) (λ ask. IsSome ask.told)) →
        (new call ≡ heard call (reply ∷ replies) (asks call)) ⊎ ((new call ≡ None) × IsSomeAnd (heard call (reply ∷ replies) (asks call)) (λ ask. IsSome ask.told))
    by (inl a) (inl b) = inl (b ∙ ap (heard call replies) a ∙ sym whole)
    by (inl a) (inr b) = inr (b.0, subst (λ (o : Option Ask). IsSomeAnd o (λ ask. IsSome ask.told)) (ap (heard call replies) a ∙ sym whole) b.1)
    by (inr a) (inl b) = inr (b ∙ ap (heard call replies) a.0, subst (λ (o : Option Ask). IsSomeAnd o (λ ask. IsSome ask.told)) (sym whole) (told_on call replies (heard call (reply ∷ []) (asks call)) a.1))
    by (inr a) (inr b) = absurd (subst (λ (o : Option Ask). IsSomeAnd o (λ ask. IsSome ask.told)) (ap (heard call replies) a.0) b.1)
