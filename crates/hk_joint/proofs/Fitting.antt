-- The operations of the joint order fit, each on its key's register.
use Rattle.std.proofs.Common.{◌≡◌, ℕ, Bool, true, false, cond, List, [], ◌∷◌, sym, refl, ap, subst, inl, inr, ⊎_elim, Option, Some, None, eqb, is_some, unwrap_or}
use Rattle.std.specs.Prelude.{MatchOption}
use Rattle.std.specs.List.{filter}
use Rattle.std.proofs.lemmas.Bool.{false≢true, eqb-true, eq-eqb}
use Rattle.hk_base.specs.declared.call.Op.{Op}
use Rattle.hk_base.specs.declared.call.Answer.{Answer}
use Rattle.hk_base.specs.Register.{Register, first, act}
use Rattle.hk_history.specs.declared.event.Event.{Event as HistoryEvent}
use Rattle.hk_history.specs.declared.event.Event.TheVariants as Event
use Rattle.hk_history.specs.declared.event.Entry.{Entry}
use Rattle.hk_history.specs.History.{op_of, answer_of}
use Rattle.hk_history.specs.Legal.{FitsCall, Legal, Stands, is_entry}
use Rattle.hk_history.specs.Legal as one
use Rattle.hk_register.specs.Machine.{In}
use Rattle.hk_register.specs.Printed.{entry_of}
use Rattle.hk_register.proofs.Tests.{in_any}
use Rattle.hk_effects.specs.Projection.{is_same_key}
use Rattle.hk_effects.specs.Runs.{RunsKeepParts}
use Rattle.hk_effects.proofs.Order.{same_itself, same_of, same_not, cases_key}
use Rattle.hk_safety.specs.Run.{RunState, IsRun, history, printed}
use Rattle.hk_joint.specs.Joint.{Standing, entries_of, entries_at, joint_order}
use Rattle.hk_joint.specs.Legal.{Registers, with_register, fresh, tag_of, FitsFrom, joint_history}
use Rattle.hk_joint.proofs.AllKeys.{call_no, IsOn, same_op, same_answer, line_on}

-- ---- histories that say the same of the calls
record SameSaid (H K : List HistoryEvent) (n : ℕ) : Type 0 where
  op : op_of H n ≡ op_of K n
  answer : answer_of H n ≡ answer_of K n

same_fits : (H K : List HistoryEvent) (order : List Entry) → ((e : Entry) → In order e → SameSaid H K e.call.0) → (r : Register) → one.FitsFrom H r order → one.FitsFrom K r order
same_fits H K [] same r fits = tt
same_fits H K (e ∷ order) same r fits =
    let said = same e (inl refl) in
    subst (λ (o : Option Op). MatchOption o ⊥ (λ op. FitsCall (answer_of K e.call.0) e.tag (act op r (unwrap_or e.tag 0)) × one.FitsFrom K (act op r (unwrap_or e.tag 0)).register order)) said.op
    (by_op (op_of H e.call.0) (same_fits H K order (λ d h. same d (inr h))) fits)
  where
    by_op : (o : Option Op) → ((s : Register) → one.FitsFrom H s order → one.FitsFrom K s order) →
        MatchOption o ⊥ (λ op. FitsCall (answer_of H e.call.0) e.tag (act op r (unwrap_or e.tag 0)) × one.FitsFrom H (act op r (unwrap_or e.tag 0)).register order) →
        MatchOption o ⊥ (λ op. FitsCall (answer_of K e.call.0) e.tag (act op r (unwrap_or e.tag 0)) × one.FitsFrom K (act op r (unwrap_or e.tag 0)).register order)
    by_op None more fits = absurd fits
    by_op (Some op) more fits = (
      subst (λ (a : Option Answer). FitsCall a e.tag (act op r (unwrap_or e.tag 0))) (same e (inl refl)).answer fits.0,
      more (act op r (unwrap_or e.tag 0)).register fits.1,
    )

-- ---- one register for each key
pub all_fit : (H : List HistoryEvent) (order : List Standing) (registers : Registers) → ((key : List ℕ) → one.FitsFrom H (registers key) (entries_at key order)) → FitsFrom H registers order
all_fit H [] registers fits = tt
all_fit H (s ∷ order) registers fits =
    let here : entries_at s.key (s ∷ order) ≡ entry_of s.slot ∷ entries_at s.key order =
    ap (λ (b : Bool). entries_of (cond b (s ∷ filter (λ z. is_same_key s.key z.key) order) (filter (λ z. is_same_key s.key z.key) order))) (same_itself s.key) in
    by_op (op_of H s.slot.call) (all_fit H order) (subst (one.FitsFrom H (registers s.key)) here (fits s.key))
  where
    by_op : (o : Option Op) → ((rs : Registers) → ((key : List ℕ) → one.FitsFrom H (rs key) (entries_at key order)) → FitsFrom H rs order) →
        MatchOption o ⊥ (λ op. FitsCall (answer_of H s.slot.call) (tag_of s) (act op (registers s.key) (unwrap_or (tag_of s) 0))
        × one.FitsFrom H (act op (registers s.key) (unwrap_or (tag_of s) 0)).register (entries_at s.key order)) →
        MatchOption o ⊥ (λ op. FitsCall (answer_of H s.slot.call) (tag_of s) (act op (registers s.key) (unwrap_or (tag_of s) 0))
        × FitsFrom H (with_register s.key (act op (registers s.key) (unwrap_or (tag_of s) 0)).register registers) order)
    by_op None more fit = absurd fit
    by_op (Some op) more fit =
        let r : Register = (act op (registers s.key) (unwrap_or (tag_of s) 0)).register in (
          fit.0,
          more (with_register s.key r registers) (λ key. ⊎_elim
              (λ (e : s.key ≡ key).
              subst (λ (b : Bool). one.FitsFrom H (cond b r (registers key)) (entries_at key order)) (sym (same_of s.key key e))
              (subst (λ (k : List ℕ). one.FitsFrom H r (entries_at k order)) e fit.1))
              (λ (off : s.key ≡ key → ⊥).
              let there : entries_at key (s ∷ order) ≡ entries_at key order =
              ap (λ (b : Bool). entries_of (cond b (s ∷ filter (λ z. is_same_key key z.key) order) (filter (λ z. is_same_key key z.key) order))) (same_not key s.key (λ e. off (sym e))) in
              subst (λ (b : Bool). one.FitsFrom H (cond b r (registers key)) (entries_at key order)) (sym (same_not s.key key off))
              (subst (one.FitsFrom H (registers key)) there (fits key)))
              (cases_key s.key key)),
        )

-- ---- a call of which a history has the operation
op_line : (xs : List HistoryEvent) (n : ℕ) → is_some (op_of xs n) ≡ true → (line : HistoryEvent) × In xs line × (call_no line ≡ n)
op_line [] n e = absurd (false≢true e)
op_line (Event.Call c op ∷ xs) n e = by_test (eqb c.0 n) refl e (op_line xs n)
  where
    by_test : (b : Bool) → eqb c.0 n ≡ b → is_some (cond b (Some op) (op_of xs n)) ≡ true → (is_some (op_of xs n) ≡ true → (line : HistoryEvent) × In xs line × (call_no line ≡ n)) →
        (line : HistoryEvent) × In (Event.Call c op ∷ xs) line × (call_no line ≡ n)
    by_test true t e more = (Event.Call c op, inl refl, eqb-true c.0 n t)
    by_test false t e more = let f = more e in (f.0, inr f.1, f.2)
op_line (Event.Reply c a ∷ xs) n e = let f = op_line xs n e in (f.0, inr f.1, f.2)

module _ (runs : RunsKeepParts) (run : RunState) (ok : IsRun run) (key : List ℕ) where
  -- the calls of the key's order are calls on the key
  pub stands_on : Legal (history run key) (printed run key) → (n : ℕ) → Stands (printed run key) n → IsOn run key n
  stands_on legal n stands =
      let f = op_line (history run key) n (legal.once.known n stands) in
      subst (IsOn run key) f.2 (line_on runs run ok key f.0 f.1)

  key_fits : Legal (history run key) (printed run key) → one.FitsFrom (joint_history run) first (printed run key)
  key_fits legal = same_fits (history run key) (joint_history run) (printed run key) (λ e h.
      let on = stands_on legal e.call.0 (in_any (is_entry e.call.0) (printed run key) e h (eq-eqb e.call.0 e.call.0 refl)) in
      record { op = same_op runs run ok key e.call.0 on; answer = same_answer runs run ok key e.call.0 on }) first legal.fits

pub joint_fits : RunsKeepParts → (run : RunState) → IsRun run → ((key : List ℕ) → Legal (history run key) (printed run key)) → ((key : List ℕ) → entries_at key (joint_order run) ≡ printed run key) →
    FitsFrom (joint_history run) fresh (joint_order run)
joint_fits runs run ok legal keys = all_fit (joint_history run) (joint_order run) fresh (λ key.
    subst (one.FitsFrom (joint_history run) first) (sym (keys key)) (key_fits runs run ok key (legal key)))
