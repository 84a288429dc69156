-- That views and votes are read exactly.
use Rattle.std.proofs.Common.{true≢false, add-one, ◌≡◌, ℕ, zero, suc, ◌+◌, ◌-◌, ◌^◌, ◌<◌, ◌≤◌, true, false, eqb, List, [], ◌∷◌, ◌++◌, length, Option, Some, None, Ok, refl, sym, ap, subst, ◌∙◌, append_assoc, arith}
use Rattle.std.specs.Prelude.{IfSome, ⊤}
use Rattle.std.specs.Int.{w16, w32, w64, to_be_bytes}
use Rattle.std.specs.List.{flat_map, AllByRecursion}
use Rattle.std.specs.List.Sorted.{IsStrictlyIncreasing}
use Rattle.std.proofs.lemmas.Bool.{eqb-true}
use Rattle.std.proofs.lemmas.List.Concat.{flat_map-cons}
use Rattle.std.proofs.lemmas.List.Elements.{All-from_recursion, recursion_from_All}
use Rattle.hk_base.specs.View.{IsView, member_numbers}
use Rattle.hk_base.specs.Range.{IsVote}
use Rattle.hk_base.specs.declared.stamp.NodeId.{NodeId}
use Rattle.hk_base.specs.declared.view.Ballot.{Ballot}
use Rattle.hk_base.specs.declared.view.View.{View}
use Rattle.hk_base.specs.declared.view.Voted.{Voted}
use Rattle.hk_frame.specs.Frames.{member_bytes, members_bytes, view_bytes, vote_bytes, ballot_bytes}
use Rattle.hk_frame.specs.Sendable.{IsViewValue, IsVoteValue}
use Rattle.hk_frame.specs.Fields.{◌>>=◌, both, chain, made, within, byte_at, number_at}
use Rattle.hk_frame.specs.Reading.{ballot_at, members_of, members_at, view_at, vote_with, vote_of, vote_at}
use Rattle.hk_frame.proofs.Exact.{IsBytes, bind_ok, ok_is, Takes, Takes-then, IsExact, IsBetween, chain_exact, both_exact, made_exact, nothing_exact, within_exact}
use Rattle.hk_frame.proofs.Pieces.{IsByte, byte_text, byte_within_exact, same_exact, cond_exact, Below16, Below32, Below64, number16_exact, number32_exact, number64_exact, IsBallotRead, ballot_exact}

-- members that rise, the first of them not below `least`, and all below `next`
abbrev pub RisesFrom : ℕ → ℕ → List NodeId → Type 0
RisesFrom next least [] = ⊤
RisesFrom next least (member ∷ members) = IsBetween Below16 least (next - 1) member.0 × RisesFrom next (member.0 + 1) members

abbrev pub AreMembers : ℕ → ℕ → ℕ → List NodeId → Type 0
AreMembers next least n members = (length members ≡ n) × RisesFrom next least members

member_exact : (next least : ℕ) → IsExact (to_be_bytes w16) (IsBetween Below16 least (next - 1)) (within least (next - 1) (number_at w16))
member_exact next least = within_exact (to_be_bytes w16) Below16 least (next - 1) (number_at w16) number16_exact

members_take : (next least n : ℕ) (bytes : List ℕ) (members : List NodeId) (rest : List ℕ) → IsBytes bytes → members_of next least n bytes ≡ Ok (members, rest) → Takes bytes (flat_map member_bytes members) rest × AreMembers next least n members
unfolding members_of
members_take next least zero bytes members rest fits e =
    subst (λ (y : List NodeId × List ℕ). Takes bytes (flat_map member_bytes y.0) y.1 × AreMembers next least 0 y.0) (ok_is ([], bytes) (members, rest) e) (record { parts = refl; rest_fits = fits }, (refl, tt))
members_take next least (suc n) bytes members rest fits e =
    let a = bind_ok (within least (next - 1) (number_at w16) bytes) (λ m. members_of next (m.0 + 1) n m.1 >>= λ others. Ok (record { 0 = m.0 } ∷ others.0, others.1)) (members, rest) e in
    let b = bind_ok (members_of next (a.0.0 + 1) n a.0.1) (λ others. Ok (record { 0 = a.0.0 } ∷ others.0, others.1)) (members, rest) a.2 in
    let first = (member_exact next least).takes bytes a.0.0 a.0.1 fits a.1 in
    let second = members_take next (a.0.0 + 1) n a.0.1 b.0.0 b.0.1 first.0.rest_fits b.1 in
    let joined = Takes-then bytes (to_be_bytes w16 a.0.0) a.0.1 (flat_map member_bytes b.0.0) b.0.1 first.0 second.0 in
    let all : List NodeId × List ℕ = (record { 0 = a.0.0 } ∷ b.0.0, b.0.1) in
    subst (λ (y : List NodeId × List ℕ). Takes bytes (flat_map member_bytes y.0) y.1 × AreMembers next least (suc n) y.0) (ok_is all (members, rest) b.2) (rw flat_map-cons joined, (ap suc second.1.0, (first.1, second.1.1)))

members_again : (next least : ℕ) (members : List NodeId) (rest : List ℕ) → RisesFrom next least members → members_of next least (length members) (flat_map member_bytes members ++ rest) ≡ Ok (members, rest)
unfolding members_of
members_again next least [] rest fits = refl
members_again next least (member ∷ members) rest fits =
    let regrouped : flat_map member_bytes (member ∷ members) ++ rest ≡ to_be_bytes w16 member.0 ++ (flat_map member_bytes members ++ rest) = ap (λ (x : List ℕ). x ++ rest) (flat_map-cons member_bytes member members) ∙ append_assoc (member_bytes member) (flat_map member_bytes members) rest in
    ap (members_of next least (suc (length members))) regrouped ∙ rw ((member_exact next least).again member.0 (flat_map member_bytes members ++ rest) fits.0, members_again next (member.0 + 1) members rest fits.1) refl

members_of_exact : (next n : ℕ) → IsExact (flat_map member_bytes) (AreMembers next 0 n) (members_of next 0 n)
members_of_exact next n = record {
  takes = members_take next 0 n;
  again = λ members rest f. subst (λ (m : ℕ). members_of next 0 m (flat_map member_bytes members ++ rest) ≡ Ok (members, rest)) f.0 (members_again next 0 members rest f.1);
}

abbrev pub IsGroup : ℕ → List NodeId → Type 0
IsGroup next members = (1 ≤ length members) × ((length members ≤ 16) × RisesFrom next 0 members)

pub members_exact : (next : ℕ) → IsExact members_bytes (IsGroup next) (members_at next)
unfolding members_at
members_exact next = made_exact (λ p. p.1) (λ p. byte_text p.0 ++ flat_map member_bytes p.1) (λ p. IsBetween IsByte 1 16 p.0 × AreMembers next 0 p.0 p.1) (chain (within 1 16 byte_at) (members_of next 0)) members_bytes (IsGroup next)
    (chain_exact byte_text (IsBetween IsByte 1 16) (within 1 16 byte_at) (λ n. flat_map member_bytes) (AreMembers next 0) (members_of next 0) (byte_within_exact 1 16) (members_of_exact next))
    (record {
      forth = λ p f. (ap (λ (n : ℕ). n ∷ flat_map member_bytes p.1) (sym f.1.0), (omega (arith, f.0.low, f.1.0), (omega (arith, f.0.high, f.1.0), f.1.1)));
      back = λ members f. ((length members, members), (record { fits = omega (arith, f.1.0); low = f.0; high = f.1.0 }, (refl, f.1.1)), refl);
    })

-- ---- what rising from a number says

inc_cons : (s t : ℕ) (ts : List ℕ) → s < t → IsStrictlyIncreasing (t ∷ ts) → IsStrictlyIncreasing (s ∷ t ∷ ts)
inc_cons s t ts lt h zero g = lt
inc_cons s t ts lt h (suc k) g = simp add-one (simp add-one at (h k (omega (arith, g))))

inc_tail : (s t : ℕ) (ts : List ℕ) → IsStrictlyIncreasing (s ∷ t ∷ ts) → IsStrictlyIncreasing (t ∷ ts)
inc_tail s t ts h = λ k g. simp add-one (simp add-one at (h (suc k) (omega (arith, g))))

rises_increase : (next least : ℕ) (members : List NodeId) → RisesFrom next least members → IsStrictlyIncreasing (member_numbers members)
rises_increase next least [] f = λ k g. absurd (omega (arith, g))
rises_increase next least (member ∷ []) f = λ k g. absurd (omega (arith, g))
rises_increase next least (member ∷ other ∷ members) f = inc_cons member.0 other.0 (member_numbers members) (omega (arith, f.1.0.low)) (rises_increase next (member.0 + 1) (other ∷ members) f.1)

rises_below : (next least : ℕ) (members : List NodeId) → 1 ≤ next → RisesFrom next least members → AllByRecursion (λ member. member.0 < next) members
rises_below next least [] some f = tt
rises_below next least (member ∷ members) some f = (omega (arith, some, f.0.high), rises_below next (member.0 + 1) members some f.1)

rises_fit : (next least : ℕ) (members : List NodeId) → RisesFrom next least members → AllByRecursion (λ member. member.0 < 2 ^ 16) members
rises_fit next least [] f = tt
rises_fit next least (member ∷ members) f = (f.0.fits, rises_fit next (member.0 + 1) members f.1)

abbrev BeginsFrom : ℕ → List NodeId → Type 0
BeginsFrom least [] = ⊤
BeginsFrom least (member ∷ members) = least ≤ member.0

tail_increases : (member : NodeId) (members : List NodeId) → IsStrictlyIncreasing (member_numbers (member ∷ members)) → IsStrictlyIncreasing (member_numbers members) × BeginsFrom (member.0 + 1) members
tail_increases member [] h = (λ k g. absurd (omega (arith, g)), tt)
tail_increases member (other ∷ members) h =
    let first : member.0 < other.0 = h 0 (omega arith) in
    (inc_tail member.0 other.0 (member_numbers members) h, omega (arith, first))

increasing_rise : (next least : ℕ) (members : List NodeId) → BeginsFrom least members → IsStrictlyIncreasing (member_numbers members) → AllByRecursion (λ member. member.0 < next) members → AllByRecursion (λ member. member.0 < 2 ^ 16) members → RisesFrom next least members
increasing_rise next least [] begins inc below fits = tt
increasing_rise next least (member ∷ members) begins inc below fits =
    let t = tail_increases member members inc in
    (record { fits = fits.0; low = begins; high = omega (arith, below.0) }, increasing_rise next (member.0 + 1) members t.1 t.0 below.1 fits.1)

begins_zero : (members : List NodeId) → BeginsFrom 0 members
begins_zero [] = tt
begins_zero (member ∷ members) = omega arith

some_next : (next : ℕ) (members : List NodeId) → 1 ≤ length members → AllByRecursion (λ member. member.0 < next) members → 1 ≤ next
some_next next [] some below = absurd (omega (arith, some))
some_next next (member ∷ members) some below = omega (arith, below.0)

-- ---- views

abbrev pub IsViewRead : View → Type 0
IsViewRead view = IsViewValue view × IsView view

abbrev view_of : ℕ × (ℕ × List NodeId) → View
view_of p = record { epoch = p.0; members = p.1.1; next = p.1.0 }

abbrev view_text : ℕ × (ℕ × List NodeId) → List ℕ
view_text p = to_be_bytes w64 p.0 ++ (to_be_bytes w32 p.1.0 ++ members_bytes p.1.1)

abbrev IsViewParts : ℕ × (ℕ × List NodeId) → Type 0
IsViewParts p = Below64 p.0 × (IsBetween Below32 1 65536 p.1.0 × IsGroup p.1.0 p.1.1)

view_forth : (p : ℕ × (ℕ × List NodeId)) → IsViewParts p → (view_text p ≡ view_bytes (view_of p)) × IsViewRead (view_of p)
view_forth p f =
    let g = f.1.1 in (
      refl,
      (
        record { epoch = f.0; members = All-from_recursion (λ member. member.0 < 2 ^ 16) p.1.1 (rises_fit p.1.0 0 p.1.1 g.1.1); next = f.1.0.fits },
        record { some = g.0; few = g.1.0; rising = rises_increase p.1.0 0 p.1.1 g.1.1; below = All-from_recursion (λ member. member.0 < p.1.0) p.1.1 (rises_below p.1.0 0 p.1.1 f.1.0.low g.1.1); next = f.1.0.high },
      ),
    )

view_back : (view : View) → IsViewRead view → (p : ℕ × (ℕ × List NodeId)) × IsViewParts p × (view_of p ≡ view)
view_back view f =
    let below = recursion_from_All (λ member. member.0 < view.next) view.members f.1.below in
    let fits = recursion_from_All (λ member. member.0 < 2 ^ 16) view.members f.0.members in
    ((view.epoch, (view.next, view.members)), (f.0.epoch, (record { fits = f.0.next; low = some_next view.next view.members f.1.some below; high = f.1.next }, (f.1.some, (f.1.few, increasing_rise view.next 0 view.members (begins_zero view.members) f.1.rising below fits)))), refl)

pub view_exact : IsExact view_bytes IsViewRead view_at
unfolding view_at
view_exact = made_exact view_of view_text IsViewParts (both (number_at w64) (chain (within 1 65536 (number_at w32)) members_at)) view_bytes IsViewRead
    (both_exact (to_be_bytes w64) Below64 (number_at w64) (λ q. to_be_bytes w32 q.0 ++ members_bytes q.1) (λ q. IsBetween Below32 1 65536 q.0 × IsGroup q.0 q.1) (chain (within 1 65536 (number_at w32)) members_at) number64_exact
    (chain_exact (to_be_bytes w32) (IsBetween Below32 1 65536) (within 1 65536 (number_at w32)) (λ next. members_bytes) IsGroup members_at (within_exact (to_be_bytes w32) Below32 1 65536 (number_at w32) number32_exact) members_exact))
    (record { forth = view_forth; back = view_back })

-- ---- votes

abbrev pub IsVoteRead : Voted → Type 0
IsVoteRead vote = IsVoteValue vote × IsVote vote

abbrev rest_of_vote : Option Voted → List ℕ
rest_of_vote None = []
rest_of_vote (Some vote) = ballot_bytes vote.ballot ++ view_bytes vote.view

abbrev OfFlag : ℕ → Option Voted → Type 0
OfFlag flag None = flag ≡ 0
OfFlag flag (Some vote) = IsVoteRead vote × (eqb flag 0 ≡ false)

none_vote : (n : ℕ) → eqb n 0 ≡ true → (o : Option Voted) → o ≡ None → ([] ≡ rest_of_vote o) × OfFlag n o
none_vote n h None e = (refl, eqb-true n 0 h)
none_vote n h (Some vote) e = absurd cc

vote_none : (n : ℕ) → eqb n 0 ≡ true → (o : Option Voted) → OfFlag n o → ([] ≡ rest_of_vote o) × (o ≡ None)
vote_none n h None f = (refl, refl)
vote_none n h (Some vote) f = absurd cc

vote_some : (n : ℕ) → eqb n 0 ≡ false → (p : Ballot × View) → IsBallotRead p.0 × IsViewRead p.1 → (ballot_bytes p.0 ++ view_bytes p.1 ≡ rest_of_vote (vote_with p)) × OfFlag n (vote_with p)
vote_some n h p f = (refl, ((record { ballot = f.0.0; view = f.1.0 }, record { ballot = f.0.1; view = f.1.1 }), h))

some_vote : (n : ℕ) → eqb n 0 ≡ false → (o : Option Voted) → OfFlag n o → (p : Ballot × View) × (IsBallotRead p.0 × IsViewRead p.1) × (vote_with p ≡ o)
some_vote n h None f = absurd (true≢false (ap (λ (m : ℕ). eqb m 0) (sym f) ∙ h))
some_vote n h (Some vote) f = ((vote.ballot, vote.view), ((f.0.0.ballot, f.0.1.ballot), (f.0.0.view, f.0.1.view)), refl)

vote_of_exact : (n : ℕ) → IsExact rest_of_vote (OfFlag n) (vote_of n)
unfolding vote_of
vote_of_exact n = cond_exact rest_of_vote (OfFlag n) (λ bytes. Ok (None, bytes)) (made vote_with (both ballot_at view_at)) (eqb n 0)
    (λ h. same_exact (λ o. []) (λ o. o ≡ None) rest_of_vote (OfFlag n) (λ bytes. Ok (None, bytes)) (nothing_exact None) (none_vote n h) (vote_none n h))
    (λ h. made_exact vote_with (λ p. ballot_bytes p.0 ++ view_bytes p.1) (λ p. IsBallotRead p.0 × IsViewRead p.1) (both ballot_at view_at) rest_of_vote (OfFlag n) (both_exact ballot_bytes IsBallotRead ballot_at view_bytes IsViewRead view_at ballot_exact view_exact) (record { forth = vote_some n h; back = some_vote n h }))

vote_forth : (n : ℕ) (o : Option Voted) → n ≤ 1 → OfFlag n o → (n ∷ rest_of_vote o ≡ vote_bytes o) × IfSome o IsVoteRead
vote_forth n None le f = (ap (λ (m : ℕ). m ∷ []) f, tt)
vote_forth zero (Some vote) le f = absurd (true≢false f.1)
vote_forth (suc zero) (Some vote) le f = (refl, f.0)
vote_forth (suc (suc n)) (Some vote) le f = absurd (omega (arith, le))

vote_back : (o : Option Voted) → IfSome o IsVoteRead → (p : ℕ × Option Voted) × (IsBetween IsByte 0 1 p.0 × OfFlag p.0 p.1) × (p.1 ≡ o)
vote_back None f = ((0, None), (record { fits = omega arith; low = omega arith; high = omega arith }, refl), refl)
vote_back (Some vote) f = ((1, Some vote), (record { fits = omega arith; low = omega arith; high = omega arith }, (f, refl)), refl)

pub vote_exact : IsExact vote_bytes (λ o. IfSome o IsVoteRead) vote_at
unfolding vote_at
vote_exact = made_exact (λ p. p.1) (λ p. byte_text p.0 ++ rest_of_vote p.1) (λ p. IsBetween IsByte 0 1 p.0 × OfFlag p.0 p.1) (chain (within 0 1 byte_at) vote_of) vote_bytes (λ o. IfSome o IsVoteRead)
    (chain_exact byte_text (IsBetween IsByte 0 1) (within 0 1 byte_at) (λ n. rest_of_vote) OfFlag vote_of (byte_within_exact 0 1) vote_of_exact)
    (record { forth = λ p f. vote_forth p.0 p.1 f.0.high f.1; back = vote_back })
