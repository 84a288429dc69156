-- Every run keeps the parts.
use Rattle.std.proofs.Common.{◌≡◌, ℕ, true, false, List, [], ◌∷◌, map, refl, ap, inl, inr, ⊎_elim, arith, le_refl}
use Rattle.std.proofs.lemmas.Bool.{false≢true}
use Rattle.hk_register.specs.Machine.{In, Weaker, Mark, WaitingUpdate, RegisterState}
use Rattle.hk_register.specs.Effects.{Effect, Happens, Has, row_mark}
use Rattle.hk_register.specs.Effects.Effect.{Begin, TakeInv, AckInv, CounterInv, NoteAck, Settle, FinishValid, FinishInvalid, TakeVal, KeepVal, StartReplay, Resend, Install, InstallPending, GiveRow, CopyRow, PassRow, CopyValid, GetReady, Serve, Refuse, Quiet}
use Rattle.hk_register.specs.Parts.{Parts, NodeOk, MarkOk}
use Rattle.hk_register.specs.Calls.{CallParts}
use Rattle.hk_register.specs.Runs.{Step, Run, last, Reached, is_in, founder, absent, start}
use Rattle.hk_register.proofs.Calls.{effect_calls}
use Rattle.hk_register.proofs.Tests.{is_in_cases}
use Rattle.hk_register.proofs.Keep.{weaker_ok}
use Rattle.hk_register.proofs.Letters.{take_inv_kept, ack_inv_kept}
use Rattle.hk_register.proofs.Phases as P
use Rattle.hk_register.proofs.Begins.{begin_kept}
use Rattle.hk_register.proofs.Installs.{install_kept, install_pending_kept}
use Rattle.hk_register.proofs.Copies.{give_row_kept, copy_row_kept, pass_row_kept, copy_valid_kept, get_ready_kept}

pub effect_kept : (V : ℕ → List ℕ) → (old new : RegisterState) → Parts V old → (e : Effect) → Happens V old e new → Parts V new
effect_kept V old new parts (Begin n u) happens = begin_kept V old new parts n u happens.allowed.0 happens.allowed.1 happens.allowed.2 happens.allowed.3 happens.allowed.4 happens.allowed.5 happens.allowed.6 happens.allowed.7 happens.allowed.8 happens.allowed.9 happens.change
effect_kept V old new parts (TakeInv n m s kind content why) happens = take_inv_kept V old new parts n m s kind content why happens.allowed.0 happens.allowed.1 happens.allowed.2 happens.change
effect_kept V old new parts (AckInv n m s kind content) happens = ack_inv_kept V old new parts n m s kind content happens.allowed.0 happens.allowed.1 happens.allowed.2 happens.allowed.3 happens.change
effect_kept V old new parts (CounterInv n m s kind content) happens = P.counter_inv_kept V old new parts n s happens.allowed.1 happens.allowed.2 happens.change
effect_kept V old new parts (NoteAck n m t p after) happens = P.note_ack_kept V old new parts n m t p after happens.allowed.0 happens.allowed.1 happens.allowed.2 happens.allowed.3 happens.change
effect_kept V old new parts (Settle n p) happens = P.settle_kept V old new parts n p happens.allowed.0 happens.allowed.1 happens.allowed.2 happens.allowed.3 happens.change
effect_kept V old new parts (FinishValid n p) happens = P.finish_valid_kept V old new parts n p happens.allowed.0 happens.allowed.1 happens.allowed.2 happens.change
effect_kept V old new parts (FinishInvalid n p) happens = P.finish_invalid_kept V old new parts n p happens.allowed.0 happens.allowed.1 happens.change
effect_kept V old new parts (TakeVal n m) happens = P.take_val_kept V old new parts n m happens.allowed.0 happens.change
effect_kept V old new parts (KeepVal n m) happens = P.keep_val_kept V old new parts n m happens.allowed happens.change
effect_kept V old new parts (StartReplay n) happens = P.start_replay_kept V old new parts n happens.allowed.0 happens.allowed.1 happens.change
effect_kept V old new parts (Resend n p) happens = P.resend_kept V old new parts n p happens.allowed happens.change
effect_kept V old new parts (Install n e) happens = install_kept V old new parts n e happens.allowed.0 happens.allowed.1 happens.allowed.2 happens.allowed.3 happens.change
effect_kept V old new parts (InstallPending n e p) happens = install_pending_kept V old new parts n e p happens.allowed.0 happens.allowed.1 happens.allowed.2 happens.allowed.3 happens.change
effect_kept V old new parts (GiveRow n valid) happens = give_row_kept V old new parts n valid happens.allowed.0 happens.allowed.1 happens.change
effect_kept V old new parts (CopyRow n m s kind content valid) happens = copy_row_kept V old new parts n m s kind content valid happens.allowed.0 happens.allowed.1 happens.allowed.2 happens.change
effect_kept V old new parts (PassRow n m s kind content valid) happens = pass_row_kept V old new parts n m s kind content valid happens.allowed.0 happens.allowed.1 happens.allowed.2 happens.change
effect_kept V old new parts (CopyValid n m s kind content) happens = copy_valid_kept V old new parts n m s kind content happens.allowed.0 happens.allowed.1 happens.allowed.2 happens.change
effect_kept V old new parts (GetReady n) happens = get_ready_kept V old new parts n happens.allowed.0 happens.allowed.1 happens.allowed.2 happens.change
effect_kept V old new parts (Serve n call op answer) happens = P.look_kept V old new parts n call op answer happens.allowed.0 happens.allowed.1 happens.allowed.2 happens.allowed.3 happens.change
effect_kept V old new parts (Refuse n call op answer) happens = P.refuse_kept V old new parts n call op answer happens.change
effect_kept V old new parts (Quiet n) happens = P.quiet_kept V old new parts n happens.change

run_kept : (V : ℕ → List ℕ) → (run : List Step) (st : RegisterState) → Parts V st → Run V st run → Parts V (last st run)
run_kept V [] st parts r = parts
run_kept V (s ∷ rest) st parts r = run_kept V rest s.state (effect_kept V st s.state parts s.effect r.0) r.1

run_calls : (V : ℕ → List ℕ) → (run : List Step) (st : RegisterState) → Parts V st → CallParts st → Run V st run → CallParts (last st run)
run_calls V [] st parts calls r = calls
run_calls V (s ∷ rest) st parts calls r = run_calls V rest s.state (effect_kept V st s.state parts s.effect r.0) (effect_calls V st s.state parts calls s.effect r.0) r.1

in_map : {X Y : Type 0} (f : X → Y) (xs : List X) (x : X) → In xs x → In (map f xs) (f x)
in_map f [] x h = absurd h
in_map f (y ∷ ys) x (inl e) = inl (ap f e)
in_map f (y ∷ ys) x (inr h) = inr (in_map f ys x h)

from_map : {X Y : Type 0} (f : X → Y) (xs : List X) (y : Y) → In (map f xs) y → (x : X) × In xs x × (y ≡ f x)
from_map f [] y h = absurd h
from_map f (x ∷ xs) y (inl e) = (x, inl refl, e)
from_map f (x ∷ xs) y (inr h) = let t = from_map f xs y h in (t.0, inr t.1, t.2)

itself : (k : Mark) → Weaker k k
itself k = record { who = refl; epoch = refl; stamp = refl; exact = λ e. e; ready = λ e. e }

start_parts : (V : ℕ → List ℕ) → Parts V (start V)
start_parts V = record {
  nodes = λ n. ⊎_elim
      (λ (h : (is_in n (V 1) ≡ true) × In (V 1) n). rw h.0 (the_founder n h.1))
      (λ (h : (is_in n (V 1) ≡ false) × (In (V 1) n → ⊥)). rw h.0 (the_absent n)) (is_in_cases n (V 1));
  letters = λ l h. absurd h;
  marks = λ k h. let t = from_map (λ n. row_mark n founder) (V 1) h.0 h.2 in weaker_ok V (start V) k h.0 h.1 (rw t.2 (the_mark t.0 t.1));
  updates = λ u h. absurd h;
  once = λ u v h. absurd h;
  items = λ i h. absurd h;
  timely = tt;
}
  where
    the_founder : (n : ℕ) → In (V 1) n → NodeOk V (start V) n founder
    the_founder n h = record { member = λ _. h; marked = λ _. (row_mark n founder, itself (row_mark n founder), in_map (λ n. row_mark n founder) (V 1) n h); resting = λ no. absurd (omega arith); copied = λ _. refl; bound = λ _ e one below. absurd (omega arith); known = inl (refl, refl); kept = λ no. absurd (false≢true no); phase = inl refl }

    the_absent : (n : ℕ) → NodeOk V (start V) n absent
    the_absent n = record { member = λ no. absurd (omega arith); marked = λ no. absurd (omega arith); resting = λ _. (refl, refl, refl); copied = λ no. absurd (false≢true no); bound = λ no. absurd (false≢true no); known = inl (refl, refl); kept = λ no. absurd (false≢true no); phase = inl refl }

    the_mark : (n : ℕ) → In (V 1) n → MarkOk V (start V) (row_mark n founder)
    the_mark n h = ⊎_elim
        (λ (t : (is_in n (V 1) ≡ true) × In (V 1) n). record { some_epoch = le_refl 1; epoch = rw t.0 (le_refl 1); member = h; top = rw t.0 (le_refl 0); bound = λ _ _ e one below. absurd (omega arith); begun = inl refl })
        (λ (t : (is_in n (V 1) ≡ false) × (In (V 1) n → ⊥)). absurd (t.1 h)) (is_in_cases n (V 1))

pub reached_parts : (V : ℕ → List ℕ) (st : RegisterState) → Reached V st → Parts V st
reached_parts V st r = rw r.at (run_kept V r.run (start V) (start_parts V) r.runs)

pub reached_calls : (V : ℕ → List ℕ) (st : RegisterState) → Reached V st → CallParts st
reached_calls V st r = rw r.at (run_calls V r.run (start V) (start_parts V) start_calls r.runs)
  where
    start_calls : CallParts (start V)
    start_calls = record {
      pend = λ n p r has. absurd (no_pending n p has);
      called = λ u h. absurd h;
      items = λ i h. absurd h;
      starts = tt;
      replies = tt;
    }
      where
        no_pending : (n : ℕ) (p : WaitingUpdate) → Has ((start V).node n).phase p → ⊥
        no_pending n p has = ⊎_elim
            (λ (h : (is_in n (V 1) ≡ true) × In (V 1) n). rw h.0 at has)
            (λ (h : (is_in n (V 1) ≡ false) × (In (V 1) n → ⊥)). rw h.0 at has) (is_in_cases n (V 1))
