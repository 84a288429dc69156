-- The hosts that a text names are one list, of nine at most.
use Rattle.std.proofs.Common.{◌≡◌, ℕ, ◌+◌, ◌≤◌, Bool, true, false, true≢false, List, [], ◌∷◌, length, decimal, Option, Some, None, Result, Ok, Err, refl, sym, ap, ◌∙◌, arith}
use Rattle.std.specs.Prelude.{◌==◌, ◌||◌, slice_get}
use Rattle.std.proofs.lemmas.Bool.Decides.{Decides-eqb}
use Rattle.std.proofs.lemmas.List.{length-append}
use Rattle.hk_hosts.specs.declared.address.Address.{Address}
use Rattle.hk_hosts.specs.declared.address.TheConstants.{MAX_ADDRESS_LEN}
use Rattle.hk_hosts.specs.declared.hosts.HostsFault.{HostsFault}
use Rattle.hk_hosts.specs.declared.hosts.HostsFault.TheVariants.{Memory, Malformed, Count, Twice}
use Rattle.hk_hosts.specs.Addresses.{IsTextOf, is_same}
use Rattle.hk_hosts.specs.Lists.{entries, AreTextsOf, is_count, are_different, IsHostsRead}
use Rattle.hk_hosts.specs.Laws.{TextsAreOfOneAddress, SamenessIsEquality}
use Rattle.hk_host_words.specs.declared.words.TheConstants.{INSIDE_PORT, CLIENT_PORT}
use Rattle.hk_host_words.specs.Words.{AreHostsOf, AgreesWith, IsInsideOf, IsListenOf}
use Rattle.hk_host_words.specs.declared.fault.WordsFault.{WordsFault}
use Rattle.hk_host_words.specs.Reading.{IsReading, IsCopy}
use Rattle.hk_host_words.proofs.Carried.{same_reading}

few_at : (n : ℕ) (a b c d : Bool) → (n == 1) ≡ a → (n == 3) ≡ b → (n == 5) ≡ c → (n == 7) ≡ d → (a || b || c || d || (n == 9)) ≡ true → (1 ≤ n) × (n ≤ 9)
few_at n true b c d e f g h is = (let k : n ≡ 1 = (Decides-eqb n 1).0 e in (omega (arith, k), omega (arith, k)))
few_at n false true c d e f g h is = (let k : n ≡ 3 = (Decides-eqb n 3).0 f in (omega (arith, k), omega (arith, k)))
few_at n false false true d e f g h is = (let k : n ≡ 5 = (Decides-eqb n 5).0 g in (omega (arith, k), omega (arith, k)))
few_at n false false false true e f g h is = (let k : n ≡ 7 = (Decides-eqb n 7).0 h in (omega (arith, k), omega (arith, k)))
few_at n false false false false e f g h is = (let k : n ≡ 9 = (Decides-eqb n 9).0 is in (omega (arith, k), omega (arith, k)))

few : (n : ℕ) → is_count n ≡ true → (1 ≤ n) × (n ≤ 9)
few n is = few_at n (n == 1) (n == 3) (n == 5) (n == 7) refl refl refl refl is

pub few_hosts : (text : Option (List ℕ)) (hosts : List Address) → AreHostsOf text hosts → (1 ≤ length hosts) × (length hosts ≤ 9)
few_hosts None hosts are = absurd are
few_hosts (Some text) hosts are = few (length hosts) are.1

module _ (one : TextsAreOfOneAddress) where
  same_entries : (usual : ℕ) (texts : List (List ℕ)) (a b : List Address) → AreTextsOf usual texts a → AreTextsOf usual texts b → a ≡ b
  same_entries usual [] [] [] x y = refl
  same_entries usual [] [] (q ∷ b) x y = absurd y
  same_entries usual [] (p ∷ a) b x y = absurd x
  same_entries usual (t ∷ texts) [] b x y = absurd x
  same_entries usual (t ∷ texts) (p ∷ a) [] x y = absurd y
  same_entries usual (t ∷ texts) (p ∷ a) (q ∷ b) x y =
      ap (λ (z : Address). z ∷ a) (one usual t p q x.0 y.0) ∙ ap (λ (l : List Address). q ∷ l) (same_entries usual texts a b x.1 y.1)

  pub same_hosts : (text : Option (List ℕ)) (a b : List Address) → AreHostsOf text a → AreHostsOf text b → a ≡ b
  same_hosts None a b x y = absurd x
  same_hosts (Some text) a b x y = same_entries INSIDE_PORT (entries text) a b x.0 y.0

  -- a list that is refused is none
  pub refused : (usual : ℕ) (text : List ℕ) (fault : HostsFault) → (fault ≡ Memory → ⊥) → IsHostsRead (Err fault) usual text → (hosts : List Address) → IsHostsRead (Ok hosts) usual text → ⊥
  refused usual text Memory some is hosts are = some refl
  refused usual text Malformed some is hosts are = is hosts are.0
  refused usual text Count some is hosts are =
      true≢false (sym are.1 ∙ ap (λ (l : List Address). is_count (length l)) (same_entries usual (entries text) hosts is.0 are.0 is.1) ∙ is.2)
  refused usual text Twice some is hosts are =
      true≢false (sym are.2 ∙ ap are_different (same_entries usual (entries text) hosts is.0 are.0 is.1) ∙ is.3)

  -- an address that is not this entry
  pub another : (same : SamenessIsEquality) (text : List ℕ) (entry read : Address) → IsTextOf INSIDE_PORT text read → is_same read entry ≡ false
      → (a : Address) → (a ≡ entry) × AgreesWith (Some text) a → ⊥
  another same text entry read is other a p = true≢false (sym ((same read entry).1 (one INSIDE_PORT text read a is p.1 ∙ p.0)) ∙ other)

pub the_entry : (same : SamenessIsEquality) (text : List ℕ) (entry read : Address) → IsTextOf INSIDE_PORT text read → is_same read entry ≡ true
    → (read ≡ entry) × AgreesWith (Some text) read
the_entry same text entry read is own = ((same read entry).0 own, is)

pub of_some : (x y : Address) → ◌≡◌ {A = Option Address} (Some x) (Some y) → x ≡ y
of_some x y e = cc

pub at_entry : (hosts : List Address) (place : ℕ) (text : Option (List ℕ)) (entry : Address) → slice_get hosts place ≡ Some entry → (r : Result Address WordsFault)
    → IsReading (λ a. (a ≡ entry) × AgreesWith text a) r → IsReading (IsInsideOf hosts (Some place) text) r
at_entry hosts place text entry at r is =
    same_reading (λ a. (a ≡ entry) × AgreesWith text a) (IsInsideOf hosts (Some place) text) r
    (λ a p. (at ∙ ap (λ (x : Address). Some x) (sym p.0), p.1)) (λ a q. (of_some a entry (sym q.0 ∙ at), q.1)) is

abbrev made : List ℕ → ℕ → Address
made host port = record { host = host; port = port }

pub same_address : (a b : Address) → a.host ≡ b.host → a.port ≡ b.port → a ≡ b
same_address a b e f = ap (λ (h : List ℕ). made h a.port) e ∙ ap (made b.host) f

pub copied : (b : Address) (r : Result Address WordsFault) → IsReading (IsCopy b.host b.port) r → IsReading (λ a. a ≡ b) r
copied b r is = same_reading (IsCopy b.host b.port) (λ a. a ≡ b) r (λ a p. same_address a b p.0 p.1) (λ a e. (ap (λ (x : Address). x.host) e, ap (λ (x : Address). x.port) e)) is

pub usual : (inside : Address) (r : Result Address WordsFault) → length inside.host + 1 + length (decimal CLIENT_PORT) ≤ MAX_ADDRESS_LEN → IsReading (IsCopy inside.host CLIENT_PORT) r
    → IsReading (IsListenOf inside None) r
usual inside r fits is =
    same_reading (IsCopy inside.host CLIENT_PORT) (IsListenOf inside None) r
    (λ a p. (p.0, p.1, omega (arith, length-append a.host (58 ∷ decimal a.port), ap (λ (l : List ℕ). length l) p.0, ap (λ (n : ℕ). length (decimal n)) p.1, fits)))
    (λ a q. (q.0, q.1)) is

pub no_entry : (hosts : List Address) (place : ℕ) (text : Option (List ℕ)) → slice_get hosts place ≡ None → (a : Address) → IsInsideOf hosts (Some place) text a → ⊥
no_entry hosts place text none a is = absurd (nothing (sym none ∙ is.0))
  where
    nothing : ◌≡◌ {A = Option Address} None (Some a) → ⊥
    nothing e = cc
