-- That the parts of entries are read exactly.
use Rattle.std.proofs.Common.{true≢false, ◌≡◌, ℕ, zero, suc, ◌+◌, ◌≤◌, true, false, eqb, List, ◌∷◌, ◌++◌, length, refl, sym, ap, ◌∙◌, arith}
use Rattle.std.specs.Int.{w16, w32, w64, to_be_bytes}
use Rattle.std.specs.List.{flat_map}
use Rattle.std.proofs.lemmas.Bool.{eqb-true}
use Rattle.std.proofs.lemmas.List.Elements.{All-from_recursion, recursion_from_All}
use Rattle.hk_base.specs.declared.view.Change.{Change}
use Rattle.hk_base.specs.declared.view.Change.TheVariants.{Drop, Add}
use Rattle.hk_fields.specs.declared.tickets.Ticket.{Ticket}
use Rattle.hk_fields.specs.Fields.{both, chain, made, within, byte_at, number_at, many, host_bytes, host_at, IsHostValue}
use Rattle.hk_fields.proofs.Exact.{IsExact, IsBetween, IsByte, byte_text, IsBelow16, IsBelow32, IsBelow64, both_exact, chain_exact, made_exact, cond_exact, within_exact, byte_within_exact, number16_exact, number32_exact, number64_exact, host_exact}
use Rattle.hk_fields.proofs.Many.{AreOf, many_exact}
use Rattle.hk_fields.specs.declared.hosts.HostTickets.{HostTickets}
use Rattle.hk_log.specs.declared.entry.Founding.{Founding}
use Rattle.hk_log.specs.Entries.{founding_bytes, change_bytes, IsFoundingValue, IsFounding, IsChangeValue}
use Rattle.hk_log.specs.Fields.{settings_at, hosts_at, founding_of, founding_at, change_of, change_at}

abbrev pub ticket_text : Ticket → List ℕ
ticket_text t = t.0

abbrev Settings : Type 0
Settings = ℕ × (ℕ × List HostTickets)

abbrev settings_text : Settings → List ℕ
settings_text q = to_be_bytes w32 q.0 ++ (to_be_bytes w32 q.1.0 ++ flat_map host_bytes q.1.1)

abbrev AreSettings : ℕ → Settings → Type 0
AreSettings count q = IsBelow32 q.0 × (IsBelow32 q.1.0 × AreOf IsHostValue count q.1.1)

settings_exact : (count : ℕ) → IsExact settings_text (AreSettings count) (settings_at count)
unfolding settings_at
settings_exact count = both_exact (to_be_bytes w32) IsBelow32 (number_at w32) (λ (q : ℕ × List HostTickets). to_be_bytes w32 q.0 ++ flat_map host_bytes q.1) (λ (q : ℕ × List HostTickets). IsBelow32 q.0 × AreOf IsHostValue count q.1) (both (number_at w32) (many host_at count)) number32_exact
    (both_exact (to_be_bytes w32) IsBelow32 (number_at w32) (flat_map host_bytes) (AreOf IsHostValue count) (many host_at count) number32_exact (many_exact host_bytes IsHostValue host_at host_exact count))

hosts_exact : (place : ℕ) → IsExact (λ (q : ℕ × Settings). byte_text q.0 ++ settings_text q.1) (λ (q : ℕ × Settings). IsBetween IsByte (place + 1) 9 q.0 × AreSettings q.0 q.1) (hosts_at place)
unfolding hosts_at
hosts_exact place = chain_exact byte_text (IsBetween IsByte (place + 1) 9) (within (place + 1) 9 byte_at) (λ n. settings_text) AreSettings settings_at (byte_within_exact (place + 1) 9) settings_exact

abbrev FoundingParts : Type 0
FoundingParts = ℕ × (ℕ × (ℕ × Settings))

abbrev founding_text : FoundingParts → List ℕ
founding_text p = to_be_bytes w64 p.0 ++ (byte_text p.1.0 ++ (byte_text p.1.1.0 ++ settings_text p.1.1.1))

abbrev AreFoundingParts : FoundingParts → Type 0
AreFoundingParts p = IsBetween IsBelow64 1 18446744073709551615 p.0 × (IsBetween IsByte 0 8 p.1.0 × (IsBetween IsByte (p.1.0 + 1) 9 p.1.1.0 × AreSettings p.1.1.0 p.1.1.1))

pub record IsFoundingRead (f : Founding) : Type 0 where
  pub value : IsFoundingValue f
  pub range : IsFounding f

founding_forth : (p : FoundingParts) → AreFoundingParts p → (founding_text p ≡ founding_bytes (founding_of p)) × IsFoundingRead (founding_of p)
founding_forth p f =
    let hosts = f.1.1.1.1.1 in
    let count = f.1.1.0 in (
      ap (λ (n : ℕ). to_be_bytes w64 p.0 ++ (p.1.0 ∷ n ∷ settings_text p.1.1.1)) (sym hosts.0),
      record {
        value = record { number = f.0.fits; place = omega (arith, f.1.0.fits); lease = f.1.1.1.0; skew = f.1.1.1.1.0; hosts = All-from_recursion IsHostValue p.1.1.1.1.1 hosts.1 };
        range = record { number = f.0.low; place = omega (arith, count.low, hosts.0); few = omega (arith, count.high, hosts.0) };
      },
    )

founding_back : (f : Founding) → IsFoundingRead f → (p : FoundingParts) × AreFoundingParts p × (founding_of p ≡ f)
founding_back f r =
    let v = r.value in
    let g = r.range in (
      (f.number, (f.place, (length f.hosts, (f.lease, (f.skew, f.hosts))))),
      (
        record { fits = v.number; low = g.number; high = omega (arith, v.number) },
        (
          record { fits = omega (arith, v.place); low = omega arith; high = omega (arith, g.place, g.few) },
          (record { fits = omega (arith, g.few); low = omega (arith, g.place); high = g.few }, (v.lease, (v.skew, (refl, recursion_from_All IsHostValue f.hosts v.hosts)))),
        ),
      ),
      refl,
    )

pub founding_exact : IsExact founding_bytes IsFoundingRead founding_at
unfolding founding_at
founding_exact = made_exact founding_of founding_text AreFoundingParts (both (within 1 18446744073709551615 (number_at w64)) (chain (within 0 8 byte_at) hosts_at)) founding_bytes IsFoundingRead
    (both_exact (to_be_bytes w64) (IsBetween IsBelow64 1 18446744073709551615) (within 1 18446744073709551615 (number_at w64)) (λ (q : ℕ × (ℕ × Settings)). byte_text q.0 ++ (byte_text q.1.0 ++ settings_text q.1.1)) (λ (q : ℕ × (ℕ × Settings)). IsBetween IsByte 0 8 q.0 × (IsBetween IsByte (q.0 + 1) 9 q.1.0 × AreSettings q.1.0 q.1.1)) (chain (within 0 8 byte_at) hosts_at)
    (within_exact (to_be_bytes w64) IsBelow64 1 18446744073709551615 (number_at w64) number64_exact)
    (chain_exact byte_text (IsBetween IsByte 0 8) (within 0 8 byte_at) (λ place. λ (q : ℕ × Settings). byte_text q.0 ++ settings_text q.1) (λ place. λ (q : ℕ × Settings). IsBetween IsByte (place + 1) 9 q.0 × AreSettings q.0 q.1) hosts_at (byte_within_exact 0 8) hosts_exact))
    (record { forth = founding_forth; back = founding_back })

-- ---- changes

abbrev change_tail : Change → List ℕ
change_tail (Drop node) = to_be_bytes w16 node.0
change_tail Add = to_be_bytes w16 0

abbrev OfClass : ℕ → Change → Type 0
OfClass n (Drop node) = (n ≡ 0) × IsBelow16 node.0
OfClass n Add = eqb n 0 ≡ false

drop_back : (n : ℕ) → eqb n 0 ≡ true → (change : Change) → OfClass n change → (m : ℕ) × IsBelow16 m × (Drop (record { 0 = m }) ≡ change)
drop_back n h (Drop node) f = (node.0, f.1, refl)
drop_back n h Add f = absurd (true≢false (sym h ∙ f))

add_back : (n : ℕ) → eqb n 0 ≡ false → (change : Change) → OfClass n change → (m : ℕ) × IsBetween IsBelow16 0 0 m × (Add ≡ change)
add_back n h (Drop node) f = absurd (true≢false (ap (λ (m : ℕ). eqb m 0) (sym f.0) ∙ h))
add_back n h Add f = (0, record { fits = omega arith; low = omega arith; high = omega arith }, refl)

nothing : (m : ℕ) → m ≤ 0 → to_be_bytes w16 m ≡ to_be_bytes w16 0
nothing m le =
    let e : m ≡ 0 = omega (arith, le) in
    ap (to_be_bytes w16) e

change_of_exact : (n : ℕ) → IsExact change_tail (OfClass n) (change_of n)
unfolding change_of
change_of_exact n = cond_exact change_tail (OfClass n) (made (λ node. Drop (record { 0 = node })) (number_at w16)) (made (λ node. Add) (within 0 0 (number_at w16))) (eqb n 0)
    (λ h. made_exact (λ node. Drop (record { 0 = node })) (to_be_bytes w16) IsBelow16 (number_at w16) change_tail (OfClass n) number16_exact (record { forth = λ m f. (refl, (eqb-true n 0 h, f)); back = drop_back n h }))
    (λ h. made_exact (λ node. Add) (to_be_bytes w16) (IsBetween IsBelow16 0 0) (within 0 0 (number_at w16)) change_tail (OfClass n) (within_exact (to_be_bytes w16) IsBelow16 0 0 (number_at w16) number16_exact) (record { forth = λ m f. (nothing m f.high, h); back = add_back n h }))

change_forth : (n : ℕ) (change : Change) → n ≤ 1 → OfClass n change → (n ∷ change_tail change ≡ change_bytes change) × IsChangeValue change
change_forth n (Drop node) le f = (ap (λ (c : ℕ). c ∷ to_be_bytes w16 node.0) f.0, f.1)
change_forth zero Add le f = absurd (true≢false f)
change_forth (suc zero) Add le f = (refl, tt)
change_forth (suc (suc n)) Add le f = absurd (omega (arith, le))

change_back : (change : Change) → IsChangeValue change → (p : ℕ × Change) × (IsBetween IsByte 0 1 p.0 × OfClass p.0 p.1) × (p.1 ≡ change)
change_back (Drop node) f = ((0, Drop node), (record { fits = omega arith; low = omega arith; high = omega arith }, (refl, f)), refl)
change_back Add f = ((1, Add), (record { fits = omega arith; low = omega arith; high = omega arith }, refl), refl)

pub change_exact : IsExact change_bytes IsChangeValue change_at
unfolding change_at
change_exact = made_exact (λ p. p.1) (λ p. byte_text p.0 ++ change_tail p.1) (λ p. IsBetween IsByte 0 1 p.0 × OfClass p.0 p.1) (chain (within 0 1 byte_at) change_of) change_bytes IsChangeValue
    (chain_exact byte_text (IsBetween IsByte 0 1) (within 0 1 byte_at) (λ n. change_tail) OfClass change_of (byte_within_exact 0 1) change_of_exact)
    (record { forth = λ p f. change_forth p.0 p.1 f.0.high f.1; back = change_back })
