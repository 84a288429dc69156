-- From what the checks of the rules and of the fold tell to what the whole check tells.
use Rattle.std.proofs.Common.{◌≡◌, ℕ, ◌<◌, ◌≤◌, List, [], ◌∷◌, Option, Some, None, Result, Ok, Err, Bool, true, false, refl, sym, ◌∙◌, subst, ◌⊎◌, inl, inr, arith, MatchOption}
use Rattle.std.specs.Bool.{IsTrue}
use Rattle.std.specs.Option.{is_some, unwrap_or, option_or}
use Rattle.std.specs.List.{list_any, count_by, position_or_len}
use Rattle.std.proofs.lemmas.Bool.{cases_lt, false_from_ne_true}
use Rattle.hk_base.specs.declared.call.Op.{Op}
use Rattle.hk_base.specs.declared.call.Answer as calls
use Rattle.hk_base.specs.Register.{Register, first, act, Acted}
use Rattle.hk_history.specs.declared.event.Event.{Event}
use Rattle.hk_history.specs.declared.event.Entry.{Entry}
use Rattle.hk_history.specs.declared.fault.Rule.{Rule}
use Rattle.hk_history.specs.declared.fault.Rule.TheVariants.{Answer, Idle, Twice, Void, Lacking, Stranger, Tags, Early}
use Rattle.hk_history.specs.declared.fault.CheckFault.{CheckFault}
use Rattle.hk_history.specs.declared.fault.CheckFault.TheVariants.{Memory, Breach}
use Rattle.hk_history.specs.History.{op_of, answer_of, is_void}
use Rattle.hk_history.specs.Legal.{is_entry, FitsCall, FitsFrom, Legal}
use Rattle.hk_history.specs.Fold.{FailsBy, FailsFrom, Rises, RiseFrom, FoldGives}
use Rattle.hk_history.specs.Breach.{Breaks, IsBreach, IsChecked, rank}
use Rattle.hk_history.specs.Rulings.{RuleGives}
use Rattle.hk_history.proofs.Standing.{distinct_counted, counted_distinct}
use Rattle.hk_history.proofs.Rising.{tags_rise, rising_tags}
use Rattle.hk_history.proofs.Ruled.{IsKnown}

-- what fails does not fit
fails_fit : (rule : Rule) (answer : Option calls.Answer) (last tag : Option ℕ) (done : Acted) → FailsBy rule answer last tag done → FitsCall answer tag done → Rises last tag → ⊥
fails_fit Stranger answer last tag done f fits rises = f
fails_fit Twice answer last tag done f fits rises = f
fails_fit Void answer last tag done f fits rises = f
fails_fit Lacking answer last tag done f fits rises = f
fails_fit Early answer last tag done f fits rises = f
fails_fit Answer answer last tag done f fits rises = f.other (fits.answered f.answered)
fails_fit Idle answer last tag done f fits rises = (let t = fits.unsure f.1.unsure in let u = f.1.idle in cc)
fails_fit Tags answer last tag done f fits rises = elim f.2 [ inl ne ↦ ne fits.tagged | inr falls ↦ falls rises ]

-- a fold that fails does not pass
fold_fails_fit : (rule : Rule) (h : List Event) (register : Register) (last : Option ℕ) (order : List Entry) (n : ℕ) → FailsFrom rule h register last order n → FitsFrom h register order → RiseFrom last order → ⊥
fold_fails_fit rule h register last [] n f fits rises = f
fold_fails_fit rule h register last (entry ∷ order) n f fits rises =
    at (op_of h entry.call.0) f fits (λ op g k. fold_fails_fit rule h (act op register (unwrap_or entry.tag 0)).register (option_or entry.tag last) order n g k rises.1)
  where
    at : (o : Option Op)
        → MatchOption o ⊥ (λ op. ((n ≡ entry.call.0) × FailsBy rule (answer_of h entry.call.0) last entry.tag (act op register (unwrap_or entry.tag 0)))
        ⊎ (FitsCall (answer_of h entry.call.0) entry.tag (act op register (unwrap_or entry.tag 0)) × Rises last entry.tag × FailsFrom rule h (act op register (unwrap_or entry.tag 0)).register (option_or entry.tag last) order n))
        → MatchOption o ⊥ (λ op. FitsCall (answer_of h entry.call.0) entry.tag (act op register (unwrap_or entry.tag 0)) × FitsFrom h (act op register (unwrap_or entry.tag 0)).register order)
        → ((op : Op) → FailsFrom rule h (act op register (unwrap_or entry.tag 0)).register (option_or entry.tag last) order n → FitsFrom h (act op register (unwrap_or entry.tag 0)).register order → ⊥) → ⊥
    at None g k more = g
    at (Some op) (inl g) k more = fails_fit rule _ _ _ _ g.1 k.0 rises.0
    at (Some op) (inr g) k more = more op g.2 k.1

-- a fold fails at one call
fails_once : (rule : Rule) (h : List Event) (register : Register) (last : Option ℕ) (order : List Entry) (n m : ℕ) → FailsFrom rule h register last order n → FailsFrom rule h register last order m → n ≡ m
fails_once rule h register last [] n m f g = absurd f
fails_once rule h register last (entry ∷ order) n m f g =
    at (op_of h entry.call.0) f g (λ op k l. fails_once rule h (act op register (unwrap_or entry.tag 0)).register (option_or entry.tag last) order n m k l)
  where
    at : (o : Option Op)
        → MatchOption o ⊥ (λ op. ((n ≡ entry.call.0) × FailsBy rule (answer_of h entry.call.0) last entry.tag (act op register (unwrap_or entry.tag 0)))
        ⊎ (FitsCall (answer_of h entry.call.0) entry.tag (act op register (unwrap_or entry.tag 0)) × Rises last entry.tag × FailsFrom rule h (act op register (unwrap_or entry.tag 0)).register (option_or entry.tag last) order n))
        → MatchOption o ⊥ (λ op. ((m ≡ entry.call.0) × FailsBy rule (answer_of h entry.call.0) last entry.tag (act op register (unwrap_or entry.tag 0)))
        ⊎ (FitsCall (answer_of h entry.call.0) entry.tag (act op register (unwrap_or entry.tag 0)) × Rises last entry.tag × FailsFrom rule h (act op register (unwrap_or entry.tag 0)).register (option_or entry.tag last) order m))
        → ((op : Op) → FailsFrom rule h (act op register (unwrap_or entry.tag 0)).register (option_or entry.tag last) order n → FailsFrom rule h (act op register (unwrap_or entry.tag 0)).register (option_or entry.tag last) order m → n ≡ m) → n ≡ m
    at None k l more = absurd k
    at (Some op) (inl k) (inl l) more = k.0 ∙ sym l.0
    at (Some op) (inl k) (inr l) more = absurd (fails_fit rule _ _ _ _ k.1 l.0 l.1)
    at (Some op) (inr k) (inl l) more = absurd (fails_fit rule _ _ _ _ l.1 k.0 k.1)
    at (Some op) (inr k) (inr l) more = more op k.2 l.2

-- a rule by which no entry fails is not one of the fold
never_fails : (rule : Rule) → ((answer : Option calls.Answer) (last tag : Option ℕ) (done : Acted) → ¬ FailsBy rule answer last tag done) → (h : List Event) (register : Register) (last : Option ℕ) (order : List Entry) (n : ℕ) → ¬ FailsFrom rule h register last order n
never_fails rule never h register last [] n f = f
never_fails rule never h register last (entry ∷ order) n f =
    at (op_of h entry.call.0) f (λ op k. never_fails rule never h (act op register (unwrap_or entry.tag 0)).register (option_or entry.tag last) order n k)
  where
    at : (o : Option Op)
        → MatchOption o ⊥ (λ op. ((n ≡ entry.call.0) × FailsBy rule (answer_of h entry.call.0) last entry.tag (act op register (unwrap_or entry.tag 0)))
        ⊎ (FitsCall (answer_of h entry.call.0) entry.tag (act op register (unwrap_or entry.tag 0)) × Rises last entry.tag × FailsFrom rule h (act op register (unwrap_or entry.tag 0)).register (option_or entry.tag last) order n))
        → ((op : Op) → FailsFrom rule h (act op register (unwrap_or entry.tag 0)).register (option_or entry.tag last) order n → ⊥) → ⊥
    at None k more = k
    at (Some op) (inl k) more = never _ _ _ _ k.1
    at (Some op) (inr k) more = more op k.2

is_true_false : (b : Bool) → IsTrue b → b ≡ false → ⊥
is_true_false b t f = cc

some_none : (o : Option Op) → IsTrue (is_some o) → o ≡ None → ⊥
some_none None t e = cc
some_none (Some op) t e = cc

-- an order that breaks a rule is not legal
illegal : (rule : Rule) (h : List Event) (order : List Entry) (a b : ℕ) → Breaks rule h order a b → ¬ Legal h order
illegal Stranger h order a b broken legal = some_none (op_of h a) (legal.once.known a broken.1) broken.2
illegal Twice h order a b broken legal = let c = distinct_counted order legal.once.distinct a in let d = broken.1 in omega (arith, c, d)
illegal Void h order a b broken legal = is_true_false (is_void (answer_of h a)) broken.2 (legal.once.not_void a broken.1)
illegal Lacking h order a b broken legal = broken.2 (legal.once.answered a broken.1)
illegal Early h order a b broken legal = broken.stands_before (legal.timely a b broken.first_stands broken.second_stands broken.answered broken.began_after)
illegal Answer h order a b broken legal = fold_fails_fit Answer h first None order a broken.1 legal.fits (rising_tags order legal.once.rising)
illegal Idle h order a b broken legal = fold_fails_fit Idle h first None order a broken.1 legal.fits (rising_tags order legal.once.rising)
illegal Tags h order a b broken legal = fold_fails_fit Tags h first None order a broken.1 legal.fits (rising_tags order legal.once.rising)

-- the rule is nowhere broken
abbrev pub IsKept : Rule → List Event → List Entry → Type 0
IsKept rule h order = (c d : ℕ) → ¬ Breaks rule h order c d

-- the rules of a lower rank than this are kept
abbrev pub KeepsBelow : ℕ → List Event → List Entry → Type 0
KeepsBelow k h order = (other : Rule) → rank other < k → IsKept other h order

pub keeps_below_0 : (h : List Event) (order : List Entry) → KeepsBelow 0 h order
keeps_below_0 h order Stranger lt = absurd (omega (arith, lt))
keeps_below_0 h order Twice lt = absurd (omega (arith, lt))
keeps_below_0 h order Void lt = absurd (omega (arith, lt))
keeps_below_0 h order Lacking lt = absurd (omega (arith, lt))
keeps_below_0 h order Early lt = absurd (omega (arith, lt))
keeps_below_0 h order Answer lt = absurd (omega (arith, lt))
keeps_below_0 h order Idle lt = absurd (omega (arith, lt))
keeps_below_0 h order Tags lt = absurd (omega (arith, lt))

pub keeps_below_1 : (h : List Event) (order : List Entry) → IsKept Stranger h order → KeepsBelow 1 h order
keeps_below_1 h order kept0 Stranger lt = kept0
keeps_below_1 h order kept0 Twice lt = absurd (omega (arith, lt))
keeps_below_1 h order kept0 Void lt = absurd (omega (arith, lt))
keeps_below_1 h order kept0 Lacking lt = absurd (omega (arith, lt))
keeps_below_1 h order kept0 Early lt = absurd (omega (arith, lt))
keeps_below_1 h order kept0 Answer lt = absurd (omega (arith, lt))
keeps_below_1 h order kept0 Idle lt = absurd (omega (arith, lt))
keeps_below_1 h order kept0 Tags lt = absurd (omega (arith, lt))

pub keeps_below_2 : (h : List Event) (order : List Entry) → IsKept Stranger h order → IsKept Twice h order → KeepsBelow 2 h order
keeps_below_2 h order kept0 kept1 Stranger lt = kept0
keeps_below_2 h order kept0 kept1 Twice lt = kept1
keeps_below_2 h order kept0 kept1 Void lt = absurd (omega (arith, lt))
keeps_below_2 h order kept0 kept1 Lacking lt = absurd (omega (arith, lt))
keeps_below_2 h order kept0 kept1 Early lt = absurd (omega (arith, lt))
keeps_below_2 h order kept0 kept1 Answer lt = absurd (omega (arith, lt))
keeps_below_2 h order kept0 kept1 Idle lt = absurd (omega (arith, lt))
keeps_below_2 h order kept0 kept1 Tags lt = absurd (omega (arith, lt))

pub keeps_below_3 : (h : List Event) (order : List Entry) → IsKept Stranger h order → IsKept Twice h order → IsKept Void h order → KeepsBelow 3 h order
keeps_below_3 h order kept0 kept1 kept2 Stranger lt = kept0
keeps_below_3 h order kept0 kept1 kept2 Twice lt = kept1
keeps_below_3 h order kept0 kept1 kept2 Void lt = kept2
keeps_below_3 h order kept0 kept1 kept2 Lacking lt = absurd (omega (arith, lt))
keeps_below_3 h order kept0 kept1 kept2 Early lt = absurd (omega (arith, lt))
keeps_below_3 h order kept0 kept1 kept2 Answer lt = absurd (omega (arith, lt))
keeps_below_3 h order kept0 kept1 kept2 Idle lt = absurd (omega (arith, lt))
keeps_below_3 h order kept0 kept1 kept2 Tags lt = absurd (omega (arith, lt))

pub keeps_below_4 : (h : List Event) (order : List Entry) → IsKept Stranger h order → IsKept Twice h order → IsKept Void h order → IsKept Lacking h order → KeepsBelow 4 h order
keeps_below_4 h order kept0 kept1 kept2 kept3 Stranger lt = kept0
keeps_below_4 h order kept0 kept1 kept2 kept3 Twice lt = kept1
keeps_below_4 h order kept0 kept1 kept2 kept3 Void lt = kept2
keeps_below_4 h order kept0 kept1 kept2 kept3 Lacking lt = kept3
keeps_below_4 h order kept0 kept1 kept2 kept3 Early lt = absurd (omega (arith, lt))
keeps_below_4 h order kept0 kept1 kept2 kept3 Answer lt = absurd (omega (arith, lt))
keeps_below_4 h order kept0 kept1 kept2 kept3 Idle lt = absurd (omega (arith, lt))
keeps_below_4 h order kept0 kept1 kept2 kept3 Tags lt = absurd (omega (arith, lt))

pub keeps_below_5 : (h : List Event) (order : List Entry) → IsKept Stranger h order → IsKept Twice h order → IsKept Void h order → IsKept Lacking h order → IsKept Early h order → KeepsBelow 5 h order
keeps_below_5 h order kept0 kept1 kept2 kept3 kept4 Stranger lt = kept0
keeps_below_5 h order kept0 kept1 kept2 kept3 kept4 Twice lt = kept1
keeps_below_5 h order kept0 kept1 kept2 kept3 kept4 Void lt = kept2
keeps_below_5 h order kept0 kept1 kept2 kept3 kept4 Lacking lt = kept3
keeps_below_5 h order kept0 kept1 kept2 kept3 kept4 Early lt = kept4
keeps_below_5 h order kept0 kept1 kept2 kept3 kept4 Answer lt = absurd (omega (arith, lt))
keeps_below_5 h order kept0 kept1 kept2 kept3 kept4 Idle lt = absurd (omega (arith, lt))
keeps_below_5 h order kept0 kept1 kept2 kept3 kept4 Tags lt = absurd (omega (arith, lt))

-- the first rule that is broken is told
pub rule_breach : (rule : Rule) (h : List Event) (order : List Entry) (fault : CheckFault) → RuleGives rule (Err fault) h order → KeepsBelow (rank rule) h order → IsChecked (Err fault) h order
rule_breach rule h order Memory g kept = tt
rule_breach rule h order (Breach told a b) g kept =
    subst (λ (r : Rule). ¬ Legal h order × IsBreach h order r a b) (sym g.0) (illegal rule h order a b g.1, record { breaks = g.1; least = g.2; first = kept })

fold_least : (rule : Rule) (h : List Event) (order : List Entry) (a b : ℕ) → a ≡ b → FailsFrom rule h first None order a → (c d : ℕ) → (c ≡ d) × FailsFrom rule h first None order c → (a < c) ⊎ ((a ≡ c) × (b ≤ d))
fold_least rule h order a b same f c d g =
    let one = fails_once rule h first None order a c f g.1 in let e = g.0 in inr (one, omega (arith, one, same, e))

-- where all rules but those of the fold are kept, the fold's failure is told
pub fold_breach : (h : List Event) (order : List Entry) (fault : CheckFault) → FoldGives h first None order (Err fault) → KeepsBelow 5 h order → IsChecked (Err fault) h order
fold_breach h order Memory g kept = tt
fold_breach h order (Breach Stranger a b) g kept = absurd (never_fails Stranger (λ answer last tag done f. f) h first None order a g.1)
fold_breach h order (Breach Twice a b) g kept = absurd (never_fails Twice (λ answer last tag done f. f) h first None order a g.1)
fold_breach h order (Breach Void a b) g kept = absurd (never_fails Void (λ answer last tag done f. f) h first None order a g.1)
fold_breach h order (Breach Lacking a b) g kept = absurd (never_fails Lacking (λ answer last tag done f. f) h first None order a g.1)
fold_breach h order (Breach Early a b) g kept = absurd (never_fails Early (λ answer last tag done f. f) h first None order a g.1)
fold_breach h order (Breach Answer a b) g kept = (illegal Answer h order a b g, record { breaks = g; least = fold_least Answer h order a b g.0 g.1; first = kept })
fold_breach h order (Breach Idle a b) g kept = (illegal Idle h order a b g, record { breaks = g; least = fold_least Idle h order a b g.0 g.1; first = kept })
fold_breach h order (Breach Tags a b) g kept = (illegal Tags h order a b g, record { breaks = g; least = fold_least Tags h order a b g.0 g.1; first = kept })

some_from : (o : Option Op) → ¬ (o ≡ None) → IsTrue (is_some o)
some_from None h = absurd (h refl)
some_from (Some op) h = refl

true_from : (b : Bool) → ¬ ¬ (b ≡ true) → b ≡ true
true_from true h = refl
true_from false h = absurd (h (λ e. cc))

pub known_from : (h : List Event) (order : List Entry) → IsKept Stranger h order → IsKnown h order
known_from h order kept = λ n stands. some_from (op_of h n) (λ e. kept n n (refl, stands, e))

-- where all rules are kept, the order is legal
pub legal : (h : List Event) (order : List Entry) → IsKept Stranger h order → IsKept Twice h order → IsKept Void h order → IsKept Lacking h order → IsKept Early h order → FoldGives h first None order (Ok tt) → Legal h order
legal h order kept0 kept1 kept2 kept3 kept4 fold = record {
  fits = fold.0;
  once = record {
    distinct = counted_distinct order (λ a. elim (cases_lt 1 (count_by (is_entry a) order)) [ inl lt ↦ absurd (kept1 a a (refl, lt)) | inr le ↦ le ]);
    known = known_from h order kept0;
    not_void = λ n stands. false_from_ne_true (is_void (answer_of h n)) (λ t. kept2 n n (refl, stands, t));
    answered = λ n t. true_from (list_any (is_entry n) order) (λ absent. kept3 n n (refl, t, absent));
    rising = tags_rise order fold.1;
  };
  timely = λ a b sa sb ans after. elim (cases_lt (position_or_len (is_entry a) order) (position_or_len (is_entry b) order)) [
    | inl lt ↦ lt
    | inr le ↦ absurd (kept4 a b (record { first_stands = sa; second_stands = sb; answered = ans; began_after = after; stands_before = λ lt. omega (arith, le, lt) }))
  ];
}

-- where the other rules are kept, the fold's word is the last
pub verdict : (h : List Event) (order : List Entry) (r : Result (Unit {0}) CheckFault) → IsKept Stranger h order → IsKept Twice h order → IsKept Void h order → IsKept Lacking h order → IsKept Early h order → FoldGives h first None order r → IsChecked r h order
verdict h order (Ok u) kept0 kept1 kept2 kept3 kept4 fold = legal h order kept0 kept1 kept2 kept3 kept4 fold
verdict h order (Err fault) kept0 kept1 kept2 kept3 kept4 fold = fold_breach h order fault fold (keeps_below_5 h order kept0 kept1 kept2 kept3 kept4)
