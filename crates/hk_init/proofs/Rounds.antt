-- LEAVE, round by round.
use Rattle.std.proofs.Common.{◌≡◌, ◌<◌, inl, inr, ℕ, suc, ◌+◌, Bool, true, false, cond, not, ◌&&◌, ◌||◌, nat_lt, List, [], ◌∷◌, ◌++◌, length, Option, None, Some, Result, Ok, Err, refl, sym, ap, ap₂, subst, ◌∙◌, add-one, arith}
use Rattle.std.specs.List.{list_any}
use Rattle.std.proofs.lemmas.Bool.{true≢false}
use Rattle.std.proofs.lemmas.List.{length-append}
use Rattle.std.proofs.lemmas.List.Folds.{list_any-append}
use Rattle.hk_outside.specs.Causes.{Rose}
use Rattle.hk_base.specs.declared.stamp.NodeId.{NodeId}
use Rattle.hk_inside.specs.declared.inquiry.Inquiry.{Inquiry}
use Rattle.hk_inside.specs.declared.inquiry.Inquiry.TheVariants.{Leave}
use Rattle.hk_inside.specs.declared.inquiry.Leaver.{Leaver}
use Rattle.hk_inside.specs.declared.inquiry.Leaver.TheVariants.{Node, Host}
use Rattle.hk_inside.specs.declared.response.Response.TheVariants as response
use Rattle.hk_init.specs.declared.fault.NoAnswer.TheVariants as asks
use Rattle.hk_init.specs.declared.fault.CommandFault.{CommandFault}
use Rattle.hk_init.specs.declared.fault.CommandFault.TheVariants.{WriteFault, StillMember}
use Rattle.hk_init.specs.declared.leaves.TheConstants.{LEAVE_REST, LEAVE_ROUNDS}
use Rattle.hk_init.specs.Deeds.{Outcome, Deed, Exchange, Rest, Does, exchanges}
use Rattle.hk_init.specs.Init.{Goes, line_where}
use Rattle.hk_init.specs.Leaving.{is_leaving, is_unknown, against, later, last_told, why_not, IsRound, ended, GoesOn, GoesOnFor, Leaves, untold, IsLookedUp, IsNamed, left_line, NodeLeaves, TellsLeft}
use Rattle.hk_init.proofs.Deeds.{does_nothing, does_then, asks_more}

or_none : (b : Bool) → (b || false) ≡ b
or_none true = refl
or_none false = refl

later_none : (fault : Option CommandFault) → later fault None ≡ fault
later_none None = refl
later_none (Some fault) = refl

later_later : (a b c : Option CommandFault) → later a (later b c) ≡ later (later a b) c
later_later None b c = refl
later_later (Some fault) b c = refl

-- one host more
last_more : (tells : ℕ → Outcome → Option CommandFault) (place : ℕ) (outcomes : List Outcome) (outcome : Outcome) →
    last_told tells place (outcomes ++ outcome ∷ []) ≡ later (tells (place + length outcomes) outcome) (last_told tells place outcomes)
last_more tells place [] outcome =
    sym (later_none (tells (place + 0) outcome) ∙ ap (λ p. tells p outcome) (add_zero place))
  where
    add_zero : (n : ℕ) → n + 0 ≡ n
    add_zero n = omega arith
last_more tells place (first ∷ outcomes) outcome =
    ap (λ told. later told (tells place first)) (last_more tells (place + 1) outcomes outcome) ∙
    (sym (later_later (tells ((place + 1) + length outcomes) outcome) (last_told tells (place + 1) outcomes) (tells place first)) ∙
    ap (λ p. later (tells p outcome) (later (last_told tells (place + 1) outcomes) (tells place first))) shifts)
  where
    shifts : (place + 1) + length outcomes ≡ place + length (first ∷ outcomes)
    shifts = omega arith

-- what the hosts before this place answered
abbrev pub Heard : Inquiry → List Outcome → ℕ → Bool → Bool → Option CommandFault → Option (List Deed) → Option (List Deed) → Type 0
Heard leave outcomes place leaving unknown told before between = Does before between (exchanges leave outcomes) × (length outcomes ≡ place) ×
    (leaving ≡ list_any is_leaving outcomes) × (unknown ≡ list_any is_unknown outcomes) × (told ≡ last_told against 0 outcomes)

flag_more : (f : Outcome → Bool) (outcomes : List Outcome) (outcome : Outcome) (flag one both : Bool) →
    flag ≡ list_any f outcomes → one ≡ f outcome → both ≡ (flag || one) → both ≡ list_any f (outcomes ++ outcome ∷ [])
flag_more f outcomes outcome flag one both at is joined =
    joined ∙ (ap₂ (λ (a : Bool) (b : Bool). a || b) at (is ∙ sym (or_none (f outcome))) ∙ sym (list_any-append f outcomes (outcome ∷ [])))

pub told_more : (tells : ℕ → Outcome → Option CommandFault) (outcomes : List Outcome) (outcome : Outcome) (place : ℕ) (told one both : Option CommandFault) → length outcomes ≡ place →
    told ≡ last_told tells 0 outcomes → one ≡ tells place outcome → both ≡ later one told → both ≡ last_told tells 0 (outcomes ++ outcome ∷ [])
told_more tells outcomes outcome place told one both many at is joined =
    joined ∙ (ap₂ (λ (a : Option CommandFault) (b : Option CommandFault). later a b) (is ∙ ap (λ p. tells p outcome) (sym many ∙ sym (zero_add (length outcomes)))) at ∙
    sym (last_more tells 0 outcomes outcome))
  where
    zero_add : (n : ℕ) → 0 + n ≡ n
    zero_add n = omega arith

pub heard_more : (leave : Inquiry) (outcomes : List Outcome) (place : ℕ) (leaving unknown : Bool) (told : Option CommandFault) (before between now : Option (List Deed))
    (outcome : Outcome) (l l' u u' : Bool) (a told' : Option CommandFault) →
    Heard leave outcomes place leaving unknown told before between → Does between now (Exchange place leave outcome ∷ []) →
    l ≡ is_leaving outcome → l' ≡ (leaving || l) → u ≡ is_unknown outcome → u' ≡ (unknown || u) → a ≡ against place outcome → told' ≡ later a told →
    (grown : List Outcome) × Heard leave grown (place + 1) l' u' told' before now
heard_more leave outcomes place leaving unknown told before between now outcome l l' u u' a told' at that is_l is_l' is_u is_u' is_a is_told = (
  outcomes ++ outcome ∷ [],
  (
    asks_more leave outcomes outcome place before between now at.1 at.0 that,
    length-append outcomes (outcome ∷ []) ∙ ap (λ n. n + 1) at.1,
    flag_more is_leaving outcomes outcome leaving l l' at.2 is_l is_l',
    flag_more is_unknown outcomes outcome unknown u u' at.3 is_u is_u',
    told_more against outcomes outcome place told a told' at.1 at.4 is_a is_told,
  ),
)

-- ---- rounds

-- what one round told
abbrev pub Asked : Inquiry → ℕ → Bool → Bool → Option CommandFault → List Deed → Type 0
Asked leave count leaving unknown told deeds =
    IsRound leave count (λ outcomes. (leaving ≡ list_any is_leaving outcomes) × (unknown ≡ list_any is_unknown outcomes) × (told ≡ last_told against 0 outcomes)) deeds

pub no_rounds : (leave : Inquiry) (count : ℕ) (before : Option (List Deed)) → (deeds : List Deed) × Does before before deeds × GoesOnFor leave count 0 deeds
unfolding GoesOnFor
no_rounds leave count before = ([], does_nothing before, refl)

round_suc : (leave : Inquiry) (count rounds : ℕ) (before round : List Deed) → GoesOnFor leave count rounds before → IsRound leave count GoesOn round →
    GoesOnFor leave count (suc rounds) (before ++ (round ++ Rest LEAVE_REST ∷ []))
unfolding GoesOnFor
round_suc leave count rounds before round went goes = (before, round, refl, went, goes)

-- one round more, and a rest
pub rounds_more : (leave : Inquiry) (count rounds : ℕ) (leaving unknown : Bool) (told : Option CommandFault) (before between asked now : Option (List Deed)) →
    ((deeds : List Deed) × Does before between deeds × GoesOnFor leave count rounds deeds) →
    ((deeds : List Deed) × Does between asked deeds × Asked leave count leaving unknown told deeds) → leaving ≡ true → Does asked now (Rest LEAVE_REST ∷ []) →
    (deeds : List Deed) × Does before now deeds × GoesOnFor leave count (rounds + 1) deeds
rounds_more leave count rounds leaving unknown told before between asked now went round is rests =
    let P : ℕ → Type 0 = λ n. GoesOnFor leave count n (went.0 ++ (round.0 ++ Rest LEAVE_REST ∷ [])) in
    let heard = round.2 in (
      went.0 ++ (round.0 ++ Rest LEAVE_REST ∷ []),
      does_then before between now went.0 (round.0 ++ Rest LEAVE_REST ∷ []) went.1 (does_then between asked now round.0 (Rest LEAVE_REST ∷ []) round.1 rests),
      subst P (sym (add-one rounds)) (round_suc leave count rounds went.0 round.0 went.2 (heard.0, heard.1, heard.2, sym heard.3.0 ∙ is)),
    )

-- it ends in this round
pub ends_now : (leave : Inquiry) (count rounds : ℕ) (leaving unknown : Bool) (told : Option CommandFault) (r : Result (Unit {0}) CommandFault) (before between now : Option (List Deed)) → rounds < LEAVE_ROUNDS →
    ((deeds : List Deed) × Does before between deeds × GoesOnFor leave count rounds deeds) →
    ((deeds : List Deed) × Does between now deeds × Asked leave count leaving unknown told deeds) → leaving ≡ false → r ≡ ended rounds unknown told →
    (deeds : List Deed) × Does before now deeds × Leaves leave count deeds r
ends_now leave count rounds leaving unknown told r before between now few went round none is =
    let heard = round.2 in (
      went.0 ++ round.0,
      does_then before between now went.0 round.0 went.1 round.1,
      inl (rounds, went.0, round.0, refl, few, went.2, (heard.0, heard.1, heard.2, (sym heard.3.0 ∙ none, is ∙ ap₂ (λ (u : Bool) (t : Option CommandFault). ended rounds u t) heard.3.1 heard.3.2))),
    )

-- it is a member still, behind all rounds
pub is_still : (leave : Inquiry) (count rounds : ℕ) (before now : Option (List Deed)) → rounds ≡ LEAVE_ROUNDS →
    ((deeds : List Deed) × Does before now deeds × GoesOnFor leave count rounds deeds) → (deeds : List Deed) × Does before now deeds × Leaves leave count deeds (Err StillMember)
is_still leave count rounds before now all went =
    let P : ℕ → Type 0 = λ n. GoesOnFor leave count n went.0 in (went.0, went.1, inr (refl, subst P all went.2))

pub is_true : (b : Bool) → not b ≡ false → b ≡ true
is_true true e = refl
is_true false e = absurd (true≢false e)

pub is_false : (b : Bool) → not b ≡ true → b ≡ false
is_false true e = absurd (true≢false (sym e))
is_false false e = refl

-- ---- why it ends: never since the line can't be written

abbrev is_write : CommandFault → Bool
is_write WriteFault = true
is_write other = false

abbrev is_other : Option CommandFault → Bool
is_other None = true
is_other (Some fault) = not (is_write fault)

against_other : (place : ℕ) (outcome : Outcome) → is_other (against place outcome) ≡ true
against_other place (Ok (response.No code text)) = refl
against_other place (Ok response.Yes) = refl
against_other place (Ok (response.Status text)) = refl
against_other place (Ok (response.State state)) = refl
against_other place (Ok (response.Board board)) = refl
against_other place (Ok (response.Seated node)) = refl
against_other place (Err asks.Memory) = refl
against_other place (Err asks.Silent) = refl
against_other place (Err (asks.Refused reason)) = refl

untold_other : (host place : ℕ) (outcome : Outcome) → is_other (untold host place outcome) ≡ true
untold_other host place (Ok (response.No code text)) = refl
untold_other host place (Ok response.Yes) = refl
untold_other host place (Ok (response.Status text)) = refl
untold_other host place (Ok (response.State state)) = refl
untold_other host place (Ok (response.Board board)) = refl
untold_other host place (Ok (response.Seated node)) = refl
untold_other host place (Err asks.Memory) = refl
untold_other host place (Err asks.Silent) = refl
untold_other host place (Err (asks.Refused reason)) = refl

later_other : (a b : Option CommandFault) → is_other a ≡ true → is_other b ≡ true → is_other (later a b) ≡ true
later_other None b e f = f
later_other (Some fault) b e f = e

last_other : (tells : ℕ → Outcome → Option CommandFault) → ((place : ℕ) (outcome : Outcome) → is_other (tells place outcome) ≡ true) → (place : ℕ) (outcomes : List Outcome) →
    is_other (last_told tells place outcomes) ≡ true
last_other tells other place [] = refl
last_other tells other place (outcome ∷ outcomes) = later_other (last_told tells (place + 1) outcomes) (tells place outcome) (last_other tells other (place + 1) outcomes) (other place outcome)

why_other : (told : Option CommandFault) → is_other told ≡ true → is_write (why_not told) ≡ false
why_other None e = refl
why_other (Some fault) e = at (is_write fault) e
  where
    at : (b : Bool) → not b ≡ true → b ≡ false
    at true e = absurd (true≢false (sym e))
    at false e = refl

never_writes : (leave : Inquiry) (count : ℕ) (deeds : List Deed) → Leaves leave count deeds (Err WriteFault) → ⊥
never_writes leave count deeds (inr still) = no_still (Err WriteFault) refl still.0
  where
    no_still : (r : Result (Unit {0}) CommandFault) → r ≡ Err WriteFault → r ≡ Err StillMember → ⊥
    no_still r one other = absurd cc
never_writes leave count deeds (inl ends) =
    at (nat_lt 0 ends.0 && list_any is_unknown ends.6.0) tt (last_told against 0 ends.6.0) (last_other against against_other 0 ends.6.0) ends.6.3.1
  where
    at : (b : Bool) (done : Unit {0}) (told : Option CommandFault) → is_other told ≡ true → Err WriteFault ≡ cond b (Ok done) (Err (why_not told)) → ⊥
    at true done told other e = absurd cc
    at false done told other e = let same : WriteFault ≡ why_not told = cc in true≢false (ap is_write same ∙ why_other told other)

-- nor is it told so of the look-up
never_looks : (host count : ℕ) (deeds : List Deed) → IsLookedUp host count deeds (Err WriteFault) → ⊥
never_looks host count deeds looked =
    let told = last_told (untold host) 0 looked.0 in
    true≢false (ap is_write looked.4 ∙ why_other told (last_other (untold host) (untold_other host) 0 looked.0))

never_named : (who : Leaver) (count : ℕ) (deeds : List Deed) → IsNamed who count deeds (Err WriteFault) → ⊥
never_named (Node node) count deeds named = let is = named.1 in absurd cc
never_named (Host host) count deeds named = never_looks host count deeds named

never_leaves : (count : ℕ) (node : NodeId) (deeds : List Deed) → NodeLeaves count node deeds (Err WriteFault) → ⊥
never_leaves count node deeds (inr none) = let is = none.1 in absurd cc
never_leaves count node deeds (inl leaves) = by leaves.0 leaves.1 leaves.2
  where
    by : (r : Result (Unit {0}) CommandFault) → Leaves (Leave (Node node)) count deeds r → Err WriteFault ≡ line_where (left_line node.0) r → ⊥
    by (Ok done) left is = absurd cc
    by (Err fault) left is =
        let same : fault ≡ WriteFault = cc in
        never_writes (Leave (Node node)) count deeds (subst (λ (f : CommandFault). Leaves (Leave (Node node)) count deeds (Err f)) same left)

never_told : (who : Leaver) (count : ℕ) (deeds : List Deed) → TellsLeft who count deeds (Err WriteFault) → ⊥
never_told who count deeds told = by told.2 told.4 told.5
  where
    by : (named : Result NodeId CommandFault) → IsNamed who count told.0 named → Goes (NodeLeaves count) named told.1 (Err WriteFault) → ⊥
    by (Ok node) named leaves = never_leaves count node told.1 leaves
    by (Err fault) named ended =
        let is = ended.1 in
        let same : fault ≡ WriteFault = cc in
        never_named who count told.0 (subst (λ (f : CommandFault). IsNamed who count told.0 (Err f)) same named)

pub failed_never : (who : Leaver) (count a b : ℕ) (before now : Option (List Deed)) (fault : CommandFault) (r : Result (Unit {0}) CommandFault) →
    ((deeds : List Deed) × Does before now deeds × TellsLeft who count deeds (Err fault)) → r ≡ Err fault → r ≡ Err WriteFault → Rose a b
failed_never who count a b before now fault r made is wrote =
    let same : fault ≡ WriteFault = cc in
    absurd (never_told who count made.0 (subst (λ (f : CommandFault). TellsLeft who count made.0 (Err f)) same made.2))
