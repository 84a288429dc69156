-- Where all clocks come to one time, and none rises by more than eleven tenths of another.
use Rattle.std.proofs.Common.{◌≡◌, ℕ, ◌+◌, ◌-◌, ◌*◌, ◌≤◌, List, [], ◌∷◌, length, map, min, Bool, true, false, nat_lt, nat_eq, None, refl, inl, inr, arith}
use Rattle.std.specs.List.{AllByRecursion, filter, find, list_any}
use Rattle.std.proofs.lemmas.Bool.{le-ltb, eqb-true}
use Rattle.hk_base.specs.declared.letter.Actor.{Actor}
use Rattle.hk_clocks.specs.declared.pace.Pace.{Pace}
use Rattle.hk_clocks.specs.declared.rise.Rise.TheVariants.{All}
use Rattle.hk_clocks.specs.Clocks.{ClockState, Paces, lead_over}
use Rattle.hk_clocks.specs.Steps.{elapsed, lead_after, leads_after, runs_apart, greatest_clock}
use Rattle.hk_clocks.specs.Sound.{AreClocks}
use Rattle.hk_clocks.proofs.Entries.{Among, all_of, all_from}
use Rattle.hk_clocks.proofs.Kept.{lead_low}
use Rattle.hk_clocks.proofs.Running.{below_greatest}

pub all_rising : (to clock : ℕ) (paces : Paces) → clock ≡ greatest_clock 0 paces → AllByRecursion (λ q. to - clock ≤ to - q.1.clock) paces
all_rising to clock paces is = all_from (λ q. to - clock ≤ to - q.1.clock) paces (λ q i. let l = below_greatest 0 paces q i in omega (arith, is, l))

-- the least of the clocks
pub least_step : (least : ℕ) (all left rest : Paces) (p : Actor × Pace) → left ≡ p ∷ rest →
    ((low : ℕ) → low ≤ least → AllByRecursion (λ p. low ≤ p.1.clock) left → AllByRecursion (λ p. low ≤ p.1.clock) all) →
    (low : ℕ) → low ≤ min least p.1.clock → AllByRecursion (λ p. low ≤ p.1.clock) rest → AllByRecursion (λ p. low ≤ p.1.clock) all
least_step least all left rest p at before low under over = before low (omega (arith, under)) (rw at (omega (arith, under), over))

-- a pair that rises at one rate, or nearly, does not run apart
falls_back : (c : ClockState) (to : ℕ) → AreClocks c → (p q : Actor × Pace) → Among c.paces p → 1000 * (to - p.1.clock) ≤ 1100 * (to - q.1.clock) → runs_apart c.skew (All to) p q ≡ false
falls_back c to k p q i slow =
    let l = lead_low c k p i q.0 in
    le-ltb (1100 * elapsed (All to) q + 1000 * c.skew) (lead_over p.1.leads q.0 + 1000 * elapsed (All to) p) (omega (arith, l, slow))

find_none : {X : Type 0} (test : X → Bool) (xs : List X) → ((x : X) → Among xs x → test x ≡ false) → find test xs ≡ None
find_none test [] f = refl
find_none test (x ∷ xs) f = rw (f x (inl refl)) (find_none test xs (λ y i. f y (inr i)))

any_none : {X : Type 0} (test : X → Bool) (xs : List X) → ((x : X) → Among xs x → test x ≡ false) → list_any test xs ≡ false
any_none test [] f = refl
any_none test (x ∷ xs) f = rw (f x (inl refl)) (any_none test xs (λ y i. f y (inr i)))

pub none_left : (c : ClockState) (to least slowest : ℕ) → AreClocks c → AllByRecursion (λ p. least ≤ p.1.clock) c.paces → AllByRecursion (λ q. slowest ≤ to - q.1.clock) c.paces → 1000 * (to - least) ≤ 1100 * slowest →
    find (λ q. list_any (λ p. runs_apart c.skew (All to) p q) c.paces) c.paces ≡ None
none_left c to least slowest k low slow level = find_none (λ q. list_any (λ p. runs_apart c.skew (All to) p q) c.paces) c.paces (λ q j.
    any_none (λ p. runs_apart c.skew (All to) p q) c.paces (λ p i.
    let a = all_of (λ p. least ≤ p.1.clock) c.paces low p i in
    let b = all_of (λ q. slowest ≤ to - q.1.clock) c.paces slow q j in
    falls_back c to k p q i (omega (arith, a, b, level))))

-- with no lead before there is none after
pub no_leads : (to least : ℕ) (paces : Paces) (p : Actor × Pace) → p.1.leads ≡ [] → AllByRecursion (λ q. least ≤ to - q.1.clock) paces → 1000 * (to - p.1.clock) ≤ 1100 * least → leads_after (All to) paces p ≡ []
no_leads to least paces p none slow level = over paces slow
  where
    over : (qs : Paces) → AllByRecursion (λ q. least ≤ to - q.1.clock) qs → filter {X = Actor × ℕ} (λ lead. nat_lt 0 lead.1) (map (λ q. (q.0, lead_after (All to) p q)) qs) ≡ []
    over [] all = refl
    over (q ∷ qs) all =
        let l : lead_over p.1.leads q.0 ≡ 0 = rw none refl in
        let z : nat_lt 0 (lead_after (All to) p q) ≡ false = le-ltb 0 (lead_after (All to) p q) (let s = all.0 in omega (arith, l, s, level)) in
        rw z (over qs all.1)

pub empty_is : {X : Type 0} (xs : List X) → nat_eq (length xs) 0 ≡ true → xs ≡ []
empty_is [] e = refl
empty_is (x ∷ xs) e = let z = eqb-true (length (x ∷ xs)) 0 e in absurd (omega (arith, z))
