-- Tests of hosts and ports.
use Rattle.std.proofs.Common.{◌≡◌, ◌≢◌, ℕ, Bool, true, false, true≢false, List, [], ◌∷◌, ◌++◌, Option, Some, None, is_some, is_ok, Result, Ok, Err, refl, sym, ap, subst, ◌∙◌, decimal, arith, inl, inr}
use Rattle.std.specs.Prelude.{Decides}
use Rattle.std.specs.Option.{unwrap_or}
use Rattle.std.specs.Str.Parse.{ParsesUnsigned}
use Rattle.std.proofs.lemmas.Fmt.{parse-decimal}
use Rattle.std.specs.declared.net.ipv6_addr.Ipv6Addr.{Ipv6Addr}
use Rattle.std.specs.Net.Grammar.{IsIpv6Text, Parses}
use Rattle.std.proofs.lemmas.List.{append_cancel_right}
use Rattle.hk_hosts.specs.Addresses.{is_name, IsBracketed, IsHost, IsPort}

abbrev pub IsIpv6 : List ℕ → Type 0
IsIpv6 text = (ip : Ipv6Addr) × IsIpv6Text text ip

pub named : (host : List ℕ) → true ≡ is_name host → Decides true (IsHost host)
named host e = (λ _. inl (sym e), λ _. refl)

pub bracketed : (host : List ℕ) (r : Bool) → false ≡ is_name host → Decides r (IsBracketed host) → Decides r (IsHost host)
bracketed host r e d = (λ h. inr (d.0 h), λ h. elim h [ inl name ↦ absurd (true≢false (sym name ∙ sym e)) | inr b ↦ d.1 b ])

abbrev tail_of : List ℕ → List ℕ
tail_of [] = []
tail_of (x ∷ xs) = xs

pub no_prefix : (host : List ℕ) → ((rest : List ℕ) → host ≢ 91 ∷ rest) → Decides false (IsBracketed host)
no_prefix host none = (λ e. absurd (true≢false (sym e)), λ b. absurd (none (b.0 ++ 93 ∷ []) b.2))

pub no_suffix : (host rest : List ℕ) → host ≡ 91 ∷ rest → ((front : List ℕ) → rest ≢ front ++ 93 ∷ []) → Decides false (IsBracketed host)
no_suffix host rest e none = (λ t. absurd (true≢false (sym t)), λ b. absurd (none b.0 (ap tail_of (sym e ∙ b.2))))

pub inside : (host rest text : List ℕ) (r : Bool) → host ≡ 91 ∷ rest → rest ≡ text ++ 93 ∷ [] → Decides r (IsIpv6 text) → Decides r (IsBracketed host)
inside host rest text r e f d = (
  λ t. (let ip = d.0 t in (text, ip.0, e ∙ ap (λ (x : List ℕ). 91 ∷ x) f, ip.1)),
  λ b.
      (let same : text ≡ b.0 = append_cancel_right text b.0 (93 ∷ []) (sym f ∙ ap tail_of (sym e ∙ b.2)) in
      d.1 (b.1, subst (λ (x : List ℕ). IsIpv6Text x b.1) (sym same) b.3)),
)

pub is_told : {E : Type 0} (text : List ℕ) (r : Result Ipv6Addr E) (b : Bool) → Parses IsIpv6Text text r → b ≡ is_ok r → Decides b (IsIpv6 text)
is_told text (Ok ip) b p e = (λ t. (ip, p), λ w. e)
is_told text (Err x) b p e = (λ t. absurd (true≢false (sym t ∙ e)), λ w. absurd (p w.0 w.1))

-- ---- ports

abbrev told : {E : Type 0} → Result ℕ E → Option ℕ
told (Ok n) = Some n
told (Err e) = None

read : {E : Type 0} (digits : List ℕ) (r : Result ℕ E) → ParsesUnsigned 16 10 digits r → (n : ℕ) → IsPort n → digits ≡ decimal n → told r ≡ Some n
read digits r p n port text = ap told (parse-decimal 16 n digits r port.1 (omega (arith, port.1)) text p)

pub no_number : {E : Type 0} (digits : List ℕ) (e : E) → ParsesUnsigned 16 10 digits (Err e) → (n : ℕ) → IsPort n → digits ≢ decimal n
no_number digits e p n port text = true≢false (sym (ap is_some (read digits (Err e) p n port text)))

-- what is read of digits is the same with any type of errors
module _ (digits : List ℕ) (m : ℕ) (p : ParsesUnsigned {E = ℕ} 16 10 digits (Ok m)) where
  own_number : (n : ℕ) → IsPort n → digits ≡ decimal n → m ≡ n
  own_number n port text = ap (λ (o : Option ℕ). unwrap_or o 0) (read {E = ℕ} digits (Ok m) p n port text)

  pub not_printed : (is : Bool) → Decides is (digits ≡ decimal m) → is ≡ false → (n : ℕ) → IsPort n → digits ≢ decimal n
  not_printed is d f n port text = true≢false (sym (d.1 (text ∙ ap decimal (sym (own_number n port text)))) ∙ f)

  pub no_port : m ≡ 0 → (n : ℕ) → IsPort n → digits ≢ decimal n
  no_port zero n port text = absurd (omega (arith, own_number n port text, zero, port.0))
