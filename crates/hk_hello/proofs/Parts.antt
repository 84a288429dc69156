-- That the parts of a hello are read exactly.
use Rattle.std.proofs.Common.{true≢false, ◌≡◌, ℕ, zero, suc, ◌≤◌, true, false, cond, eqb, List, [], ◌∷◌, ◌++◌, length, refl, sym, ap, subst, ◌∙◌, arith}
use Rattle.std.specs.Int.{w16, w32, w64, to_be_bytes}
use Rattle.std.specs.List.{list_all}
use Rattle.std.proofs.lemmas.Bool.{eqb-true}
use Rattle.hk_base.specs.declared.letter.Actor.TheVariants.{Node, Manager}
use Rattle.hk_fields.specs.declared.tickets.Ticket.{Ticket}
use Rattle.hk_fields.specs.declared.fault.FieldFault.TheVariants.{Malformed}
use Rattle.hk_fields.specs.Fields.{both, chain, made, within, byte_at, number_at, bytes_at, text_bytes, text_at, ticket_at, IsTicket}
use Rattle.hk_fields.proofs.Exact.{bind_ok, passed, Takes, IsExact, IsBetween, IsByte, byte_text, IsBelow16, IsBelow32, IsBelow64, IsTextOf, both_exact, chain_exact, made_exact, cond_exact, within_exact, byte_within_exact, bytes_exact, number16_exact, number32_exact, number64_exact, text_exact, ticket_exact}
use Rattle.hk_hello.specs.declared.hello.HostsDigest.{HostsDigest}
use Rattle.hk_hello.specs.declared.hello.Hello.{Hello}
use Rattle.hk_hello.specs.declared.hello.Party.{Party}
use Rattle.hk_hello.specs.declared.hello.Party.TheVariants as parties
use Rattle.hk_hello.specs.declared.hello.Purpose.{Purpose}
use Rattle.hk_hello.specs.declared.hello.Purpose.TheVariants.{Letters, Requests}
use Rattle.hk_hello.specs.declared.mac.Proof.{Proof}
use Rattle.hk_hello.specs.declared.mac.TheConstants.{PROOF_LEN}
use Rattle.hk_hello.specs.Hellos.{purpose_byte, party_bytes, fields_bytes, is_name_byte, IsGroupName, IsParty, IsHello, IsProof, IsSigned}
use Rattle.hk_hello.specs.Fields.{purpose_of, purpose_at, party_of, party_at, hosts_at, named, group_at, parties_at, home_at, terms_at, hello_of, hello_at, proof_at, signed_at}
use Rattle.hk_hello.specs.Told.{body_bytes}

-- ---- what a connection is for

abbrev purpose_text : Purpose → List ℕ
purpose_text p = purpose_byte p ∷ []

abbrev IsPurpose : Purpose → Type 0
IsPurpose p = Unit {0}

purpose_forth : (n : ℕ) → n ≤ 1 → n ∷ [] ≡ purpose_text (purpose_of n)
purpose_forth zero le = refl
purpose_forth (suc zero) le = refl
purpose_forth (suc (suc n)) le = absurd (omega (arith, le))

purpose_back : (p : Purpose) → IsPurpose p → (n : ℕ) × IsBetween IsByte 0 1 n × (purpose_of n ≡ p)
purpose_back Letters f = (0, record { fits = omega arith; low = omega arith; high = omega arith }, refl)
purpose_back Requests f = (1, record { fits = omega arith; low = omega arith; high = omega arith }, refl)

purpose_exact : IsExact purpose_text IsPurpose purpose_at
unfolding purpose_at
purpose_exact = made_exact purpose_of byte_text (IsBetween IsByte 0 1) (within 0 1 byte_at) purpose_text IsPurpose (byte_within_exact 0 1) (record { forth = λ n f. (purpose_forth n f.high, tt); back = purpose_back })

-- ---- parties

abbrev party_tail : Party → List ℕ
party_tail (parties.Actor (Node node)) = to_be_bytes w16 node.0
party_tail (parties.Actor (Manager manager)) = to_be_bytes w16 manager
party_tail parties.Neither = to_be_bytes w16 0

-- a party of a class
abbrev OfClass : ℕ → Party → Type 0
OfClass class (parties.Actor (Node node)) = (class ≡ 0) × IsBelow16 node.0
OfClass class (parties.Actor (Manager manager)) = (class ≡ 1) × IsBetween IsBelow16 0 8 manager
OfClass class parties.Neither = (eqb class 0 ≡ false) × (eqb class 1 ≡ false)

node_back : (class : ℕ) → eqb class 0 ≡ true → (party : Party) → OfClass class party → (n : ℕ) × IsBelow16 n × (parties.Actor (Node (record { 0 = n })) ≡ party)
node_back class h (parties.Actor (Node node)) f = (node.0, f.1, refl)
node_back class h (parties.Actor (Manager manager)) f = absurd (true≢false (sym h ∙ ap (λ (m : ℕ). eqb m 0) f.0))
node_back class h parties.Neither f = absurd (true≢false (sym h ∙ f.0))

manager_back : (class : ℕ) → eqb class 0 ≡ false → eqb class 1 ≡ true → (party : Party) → OfClass class party → (n : ℕ) × IsBetween IsBelow16 0 8 n × (parties.Actor (Manager n) ≡ party)
manager_back class h k (parties.Actor (Node node)) f = absurd (true≢false (ap (λ (m : ℕ). eqb m 0) (sym f.0) ∙ h))
manager_back class h k (parties.Actor (Manager manager)) f = (manager, f.1, refl)
manager_back class h k parties.Neither f = absurd (true≢false (sym k ∙ f.1))

neither_back : (class : ℕ) → eqb class 0 ≡ false → eqb class 1 ≡ false → (party : Party) → OfClass class party → (n : ℕ) × IsBetween IsBelow16 0 0 n × (parties.Neither ≡ party)
neither_back class h k (parties.Actor (Node node)) f = absurd (true≢false (ap (λ (m : ℕ). eqb m 0) (sym f.0) ∙ h))
neither_back class h k (parties.Actor (Manager manager)) f = absurd (true≢false (ap (λ (m : ℕ). eqb m 1) (sym f.0) ∙ k))
neither_back class h k parties.Neither f = (0, record { fits = omega arith; low = omega arith; high = omega arith }, refl)

nothing : (m : ℕ) → m ≤ 0 → to_be_bytes w16 m ≡ to_be_bytes w16 0
nothing m le =
    let e : m ≡ 0 = omega (arith, le) in
    ap (to_be_bytes w16) e

party_of_exact : (class : ℕ) → IsExact party_tail (OfClass class) (party_of class)
unfolding party_of
party_of_exact class =
    cond_exact party_tail (OfClass class) (made (λ n. parties.Actor (Node (record { 0 = n }))) (number_at w16)) (λ bytes. cond (eqb class 1) (made (λ n. parties.Actor (Manager n)) (within 0 8 (number_at w16)) bytes) (made (λ n. parties.Neither) (within 0 0 (number_at w16)) bytes)) (eqb class 0)
    (λ h. made_exact (λ n. parties.Actor (Node (record { 0 = n }))) (to_be_bytes w16) IsBelow16 (number_at w16) party_tail (OfClass class) number16_exact (record { forth = λ n f. (refl, (eqb-true class 0 h, f)); back = node_back class h }))
    (λ h. cond_exact party_tail (OfClass class) (made (λ n. parties.Actor (Manager n)) (within 0 8 (number_at w16))) (made (λ n. parties.Neither) (within 0 0 (number_at w16))) (eqb class 1)
    (λ k. made_exact (λ n. parties.Actor (Manager n)) (to_be_bytes w16) (IsBetween IsBelow16 0 8) (within 0 8 (number_at w16)) party_tail (OfClass class) (within_exact (to_be_bytes w16) IsBelow16 0 8 (number_at w16) number16_exact) (record { forth = λ n f. (refl, (eqb-true class 1 k, f)); back = manager_back class h k }))
    (λ k. made_exact (λ n. parties.Neither) (to_be_bytes w16) (IsBetween IsBelow16 0 0) (within 0 0 (number_at w16)) party_tail (OfClass class) (within_exact (to_be_bytes w16) IsBelow16 0 0 (number_at w16) number16_exact) (record { forth = λ n f. (nothing n f.high, (h, k)); back = neither_back class h k })))

party_forth : (class : ℕ) (party : Party) → class ≤ 2 → OfClass class party → (class ∷ party_tail party ≡ party_bytes party) × IsParty party
party_forth class (parties.Actor (Node node)) le f = (ap (λ (c : ℕ). c ∷ to_be_bytes w16 node.0) f.0, f.1)
party_forth class (parties.Actor (Manager manager)) le f = (ap (λ (c : ℕ). c ∷ to_be_bytes w16 manager) f.0, omega (arith, f.1.high))
party_forth zero parties.Neither le f = absurd (true≢false f.0)
party_forth (suc zero) parties.Neither le f = absurd (true≢false f.1)
party_forth (suc (suc zero)) parties.Neither le f = (refl, tt)
party_forth (suc (suc (suc class))) parties.Neither le f = absurd (omega (arith, le))

party_back : (party : Party) → IsParty party → (p : ℕ × Party) × (IsBetween IsByte 0 2 p.0 × OfClass p.0 p.1) × (p.1 ≡ party)
party_back (parties.Actor (Node node)) f = ((0, parties.Actor (Node node)), (record { fits = omega arith; low = omega arith; high = omega arith }, (refl, f)), refl)
party_back (parties.Actor (Manager manager)) f = ((1, parties.Actor (Manager manager)), (record { fits = omega arith; low = omega arith; high = omega arith }, (refl, record { fits = omega (arith, f); low = omega arith; high = omega (arith, f) })), refl)
party_back parties.Neither f = ((2, parties.Neither), (record { fits = omega arith; low = omega arith; high = omega arith }, (refl, refl)), refl)

party_exact : IsExact party_bytes IsParty party_at
unfolding party_at
party_exact = made_exact (λ p. p.1) (λ p. byte_text p.0 ++ party_tail p.1) (λ p. IsBetween IsByte 0 2 p.0 × OfClass p.0 p.1) (chain (within 0 2 byte_at) party_of) party_bytes IsParty
    (chain_exact byte_text (IsBetween IsByte 0 2) (within 0 2 byte_at) (λ n. party_tail) OfClass party_of (byte_within_exact 0 2) party_of_exact)
    (record { forth = λ p f. party_forth p.0 p.1 f.0.high f.1; back = party_back })

-- ---- digests and names

abbrev hosts_text : HostsDigest → List ℕ
hosts_text h = h.0

abbrev IsHosts : HostsDigest → Type 0
IsHosts h = length h.0 ≡ 8

hosts_exact : IsExact hosts_text IsHosts hosts_at
unfolding hosts_at
hosts_exact = made_exact (λ b. record { 0 = b }) (λ b. b) (λ b. length b ≡ 8) (bytes_at 8) hosts_text IsHosts (bytes_exact 8) (record { forth = λ b f. (refl, f); back = λ h f. (h.0, f, refl) })

abbrev proof_text : Proof → List ℕ
proof_text p = p.0

proof_exact : IsExact proof_text IsProof proof_at
unfolding proof_at
proof_exact = made_exact (λ b. record { 0 = b }) (λ b. b) (λ b. length b ≡ PROOF_LEN) (bytes_at PROOF_LEN) proof_text IsProof (bytes_exact PROOF_LEN) (record { forth = λ b f. (refl, f); back = λ p f. (p.0, f, refl) })

group_exact : IsExact text_bytes IsGroupName group_at
unfolding group_at
group_exact = record {
  takes = λ bytes name rest fits h.
      (let a = bind_ok (text_at 1 32 bytes) named (name, rest) h in
      let p = passed (list_all is_name_byte a.0.0) Malformed a.0 (name, rest) a.2 in
      let t = (text_exact 1 32).takes bytes a.0.0 a.0.1 fits a.1 in
      subst (λ (y : List ℕ × List ℕ). Takes bytes (text_bytes y.0) y.1 × IsGroupName y.0) p.1 (t.0, record { some = t.1.low; short = t.1.high; bytes = p.0 }));
  again = λ name rest f.
      (let some = f.some in
      let short = f.short in
      let is : IsTextOf 1 32 name = record { low = some; high = short; short = omega (arith, short) } in
      rw ((text_exact 1 32).again name rest is, f.bytes) refl);
}

-- ---- hellos

abbrev Parties : Type 0
Parties = Purpose × (Party × Party)

abbrev parties_text : Parties → List ℕ
parties_text q = purpose_text q.0 ++ (party_bytes q.1.0 ++ party_bytes q.1.1)

abbrev AreParties : Parties → Type 0
AreParties q = IsPurpose q.0 × (IsParty q.1.0 × IsParty q.1.1)

parties_exact : IsExact parties_text AreParties parties_at
unfolding parties_at
parties_exact = both_exact purpose_text IsPurpose purpose_at (λ (q : Party × Party). party_bytes q.0 ++ party_bytes q.1) (λ (q : Party × Party). IsParty q.0 × IsParty q.1) (both party_at party_at) purpose_exact
    (both_exact party_bytes IsParty party_at party_bytes IsParty party_at party_exact party_exact)

abbrev ticket_text : Ticket → List ℕ
ticket_text t = t.0

abbrev Home : Type 0
Home = ℕ × (Ticket × HostsDigest)

abbrev home_text : Home → List ℕ
home_text q = to_be_bytes w64 q.0 ++ (ticket_text q.1.0 ++ hosts_text q.1.1)

abbrev IsHome : Home → Type 0
IsHome q = IsBelow64 q.0 × (IsTicket q.1.0 × IsHosts q.1.1)

home_exact : IsExact home_text IsHome home_at
unfolding home_at
home_exact = both_exact (to_be_bytes w64) IsBelow64 (number_at w64) (λ (q : Ticket × HostsDigest). ticket_text q.0 ++ hosts_text q.1) (λ (q : Ticket × HostsDigest). IsTicket q.0 × IsHosts q.1) (both ticket_at hosts_at) number64_exact
    (both_exact ticket_text IsTicket ticket_at hosts_text IsHosts hosts_at ticket_exact hosts_exact)

abbrev Terms : Type 0
Terms = ℕ × (ℕ × List ℕ)

abbrev terms_text : Terms → List ℕ
terms_text q = to_be_bytes w32 q.0 ++ (to_be_bytes w32 q.1.0 ++ text_bytes q.1.1)

abbrev AreTerms : Terms → Type 0
AreTerms q = IsBelow32 q.0 × (IsBelow32 q.1.0 × IsGroupName q.1.1)

terms_exact : IsExact terms_text AreTerms terms_at
unfolding terms_at
terms_exact = both_exact (to_be_bytes w32) IsBelow32 (number_at w32) (λ (q : ℕ × List ℕ). to_be_bytes w32 q.0 ++ text_bytes q.1) (λ (q : ℕ × List ℕ). IsBelow32 q.0 × IsGroupName q.1) (both (number_at w32) group_at) number32_exact
    (both_exact (to_be_bytes w32) IsBelow32 (number_at w32) text_bytes IsGroupName group_at number32_exact group_exact)

abbrev HelloParts : Type 0
HelloParts = Parties × (Home × Terms)

abbrev hello_text : HelloParts → List ℕ
hello_text p = parties_text p.0 ++ (home_text p.1.0 ++ terms_text p.1.1)

abbrev AreHelloParts : HelloParts → Type 0
AreHelloParts p = AreParties p.0 × (IsHome p.1.0 × AreTerms p.1.1)

hello_forth : (p : HelloParts) → AreHelloParts p → (hello_text p ≡ fields_bytes (hello_of p)) × IsHello (hello_of p)
hello_forth p f = (refl, record { from = f.0.1.0; to = f.0.1.1; founding = f.1.0.0; ticket = f.1.0.1.0; hosts = f.1.0.1.1; lease = f.1.1.0; skew = f.1.1.1.0; group = f.1.1.1.1 })

hello_back : (h : Hello) → IsHello h → (p : HelloParts) × AreHelloParts p × (hello_of p ≡ h)
hello_back h f = (
  ((h.purpose, (h.from, h.to)), ((h.founding, (h.ticket, h.hosts)), (h.lease, (h.skew, h.group)))),
  ((tt, (f.from, f.to)), ((f.founding, (f.ticket, f.hosts)), (f.lease, (f.skew, f.group)))),
  refl,
)

hello_exact : IsExact fields_bytes IsHello hello_at
unfolding hello_at
hello_exact = made_exact hello_of hello_text AreHelloParts (both parties_at (both home_at terms_at)) fields_bytes IsHello
    (both_exact parties_text AreParties parties_at (λ (q : Home × Terms). home_text q.0 ++ terms_text q.1) (λ (q : Home × Terms). IsHome q.0 × AreTerms q.1) (both home_at terms_at) parties_exact
    (both_exact home_text IsHome home_at terms_text AreTerms terms_at home_exact terms_exact))
    (record { forth = hello_forth; back = hello_back })

pub signed_exact : IsExact body_bytes IsSigned signed_at
unfolding signed_at
signed_exact = made_exact (λ p. record { hello = p.0; proof = p.1 }) (λ p. fields_bytes p.0 ++ proof_text p.1) (λ p. IsHello p.0 × IsProof p.1) (both hello_at proof_at) body_bytes IsSigned
    (both_exact fields_bytes IsHello hello_at proof_text IsProof proof_at hello_exact proof_exact)
    (record { forth = λ p f. (refl, record { hello = f.0; proof = f.1 }); back = λ s f. ((s.hello, s.proof), (f.hello, f.proof), refl) })
