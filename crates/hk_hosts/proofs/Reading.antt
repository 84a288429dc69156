-- That reading an address by its parts is exact.
use Rattle.std.proofs.Common.{◌≡◌, ◌⊎◌, ℕ, ◌+◌, ◌<◌, ◌≤◌, Bool, false, true≢false, List, ◌∷◌, ◌++◌, length, Option, Some, None, Result, Ok, Err, refl, sym, ap, subst, ◌∙◌, decimal, arith, inl, inr}
use Rattle.std.specs.Prelude.{Decides}
use Rattle.std.proofs.lemmas.List.{length-append}
use Rattle.hk_hosts.specs.declared.address.TheConstants.{MAX_ADDRESS_LEN}
use Rattle.hk_hosts.specs.declared.address.Address.{Address}
use Rattle.hk_hosts.specs.declared.address.AddressFault.{AddressFault}
use Rattle.hk_hosts.specs.declared.address.AddressFault.TheVariants.{Memory, Malformed}
use Rattle.hk_hosts.specs.Addresses.{IsHost, address_text, IsAddress, IsTextOf, IsAddressRead}
use Rattle.hk_hosts.specs.Parts.{AreParts, IsPortOf, IsPortRead}
use Rattle.hk_hosts.specs.Laws.{IsAgain}
use Rattle.hk_hosts.proofs.Splitting.{only, same_port, one_address}

-- a text whose parts are these
module _ (usual : ℕ) (text host : List ℕ) (behind : Option (List ℕ)) (are : AreParts host behind text) where
  pub no_host : (is : Bool) → Decides is (IsHost host) → is ≡ false → (a : Address) → IsTextOf usual text a → ⊥
  no_host is d f a t = true≢false (sym (d.1 (subst IsHost (only usual text host behind a are t).0 t.0.is_host)) ∙ f)

  pub no_port : IsPortRead None behind usual → (a : Address) → IsTextOf usual text a → ⊥
  no_port none a t = none a.port t.0.is_port (only usual text host behind a are t).1

  pub too_long : (port : ℕ) → IsPortRead (Some port) behind usual → MAX_ADDRESS_LEN < length host + 1 + length (decimal port) → (a : Address) → IsTextOf usual text a → ⊥
  too_long port p long a t =
      let own = only usual text host behind a are t in
      let same : a.port ≡ port = same_port behind usual a.port port t.0.is_port p.0 own.1 p.1 in
      absurd (omega (arith, long, t.0.short, length-append a.host (58 ∷ decimal a.port), ap length own.0, ap (λ (n : ℕ). length (decimal n)) same))

  pub whole : (port : ℕ) → IsHost host → IsPortRead (Some port) behind usual → length host + 1 + length (decimal port) ≤ MAX_ADDRESS_LEN → IsTextOf usual text (record { host = host; port = port })
  whole port h p short = (
    record { is_host = h; is_port = p.0; short = omega (arith, short, length-append host (58 ∷ decimal port)) },
    written behind are p.1,
  )
    where
      written : (o : Option (List ℕ)) → AreParts host o text → IsPortOf o usual port → (text ≡ host ++ 58 ∷ decimal port) ⊎ ((text ≡ host) × (port ≡ usual))
      written None a e = inr (sym a.0, e)
      written (Some digits) a e = inl (a.0 ∙ ap (λ (d : List ℕ). host ++ 58 ∷ d) e)

pub read_again : (usual : ℕ) (a : Address) (result : Result Address AddressFault) → IsAddress a → IsAddressRead result usual (address_text a) → IsAgain result a
read_again usual a (Ok b) f read = one_address usual (address_text a) b a read (f, inl refl)
read_again usual a (Err Memory) f read = tt
read_again usual a (Err Malformed) f read = read a (f, inl refl)
