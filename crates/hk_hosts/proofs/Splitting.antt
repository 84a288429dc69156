-- That a text is of one address: its parts are one host and one port.
use Rattle.std.proofs.Common.{◌≡◌, ◌⊎◌, ℕ, suc, ◌+◌, ◌-◌, ◌<◌, ◌^◌, Bool, true, false, true≢false, List, [], ◌∷◌, ◌++◌, length, get_or, slice_index, Option, Some, None, refl, sym, ap, subst, ◌∙◌, decimal, arith, inl, inr}
use Rattle.std.specs.Prelude.{◌==◌, if◌then◌else◌, bytes_eq, Decides}
use Rattle.std.proofs.lemmas.Slice.Eq.{bytes_eq-Decides}
use Rattle.std.proofs.lemmas.Bool.Decides.{Decides-eqb}
use Rattle.std.specs.List.{list_all}
use Rattle.std.proofs.lemmas.List.{get_or_at, get_or-append-add, length-append}
use Rattle.std.proofs.lemmas.List.Folds.{list_all_at}
use Rattle.std.proofs.lemmas.Fmt.{decimal_injective, decimal_nonempty, digits_decimal}
use Rattle.std.proofs.lemmas.Str.Parse.{numerals_by_value, tells_by_index}
use Rattle.hk_hosts.specs.declared.address.Address.{Address}
use Rattle.hk_hosts.specs.Addresses.{is_name_byte, is_name, IsHost, IsPort, IsTextOf, is_same}
use Rattle.hk_hosts.specs.Parts.{Lacks, EndsIn, AreParts, IsPortOf}

-- the last element, behind any others
last_at : (front : List ℕ) (byte : ℕ) (text : List ℕ) → text ≡ front ++ byte ∷ [] → (n : ℕ) → n + 1 ≡ length text → slice_index text n ≡ byte
last_at front byte text e n is =
    let len : length front ≡ n = omega (arith, ap length e, length-append front (byte ∷ []), is) in
    ap (λ (xs : List ℕ). get_or xs n 0) e ∙ get_or_at front byte [] 0 n len

-- ---- two parts

no_more : (byte : ℕ) (p front behind : List ℕ) → Lacks byte p → p ≡ front ++ byte ∷ behind → ⊥
no_more byte p front behind lacks e =
    lacks (length front) (omega (arith, ap length e, length-append front (byte ∷ behind))) (ap (λ (xs : List ℕ). get_or xs (length front) 0) e ∙ get_or_at front byte behind 0 (length front) refl)

abbrev head_of : List ℕ → ℕ
head_of [] = 0
head_of (x ∷ xs) = x

abbrev tail_of : List ℕ → List ℕ
tail_of [] = []
tail_of (x ∷ xs) = xs

one_last : (byte : ℕ) (h k p q : List ℕ) → Lacks byte p → Lacks byte q → h ++ byte ∷ p ≡ k ++ byte ∷ q → (h ≡ k) × (p ≡ q)
one_last byte [] [] p q l m e = (refl, ap tail_of e)
one_last byte [] (y ∷ k) p q l m e = absurd (no_more byte p k q l (ap tail_of e))
one_last byte (x ∷ h) [] p q l m e = absurd (no_more byte q h p m (sym (ap tail_of e)))
one_last byte (x ∷ h) (y ∷ k) p q l m e =
    let both = one_last byte h k p q l m (ap tail_of e) in
    (ap (λ (z : ℕ). z ∷ h) (ap head_of e) ∙ ap (λ (zs : List ℕ). y ∷ zs) both.0, both.1)

whole_or_parts : (text host behind : List ℕ) → EndsIn 93 text ⊎ Lacks 58 text → text ≡ host ++ 58 ∷ behind → (EndsIn 93 text → ⊥) → ⊥
whole_or_parts text host behind whole e ends = elim whole [ inl in' ↦ ends in' | inr lacks ↦ no_more 58 text host behind lacks e ]

-- a text has one host, and one text behind it
pub same_parts : (text h k : List ℕ) (p q : Option (List ℕ)) → AreParts h p text → AreParts k q text → (h ≡ k) × (p ≡ q)
same_parts text h k None None a b = (a.0 ∙ sym b.0, refl)
same_parts text h k None (Some q) a b = absurd (whole_or_parts text k q a.1 b.0 b.2)
same_parts text h k (Some p) None a b = absurd (whole_or_parts text h p b.1 a.0 a.2)
same_parts text h k (Some p) (Some q) a b =
    let both = one_last 58 h k p q a.1 b.1 (sym a.0 ∙ b.0) in
    (both.0, ap (λ (x : List ℕ). Some x) both.1)

-- ---- the parts of an address's text

digits_lack : (n byte : ℕ) → n < 2 ^ 64 → 57 < byte → Lacks byte (decimal n)
digits_lack n byte lt above i within e = absurd (omega (arith, (digits_decimal (numerals_by_value _ tells_by_index) n lt i within).1, e, above))

behind_colon : (host digits : List ℕ) (i : ℕ) → get_or (host ++ 58 ∷ digits) (length host + (i + 1)) 0 ≡ get_or digits i 0
behind_colon host digits i =
    let next : i + 1 ≡ suc i = omega arith in
    get_or-append-add host (58 ∷ digits) (i + 1) 0 ∙ ap (λ (m : ℕ). get_or (58 ∷ digits) m 0) next

no_bracket : (host : List ℕ) (n : ℕ) (text : List ℕ) → n < 2 ^ 64 → text ≡ host ++ 58 ∷ decimal n → EndsIn 93 text → ⊥
no_bracket host n text lt e ends =
    let some = decimal_nonempty n lt in
    let m = length (decimal n) - 1 in
    let len : length text ≡ length host + (1 + length (decimal n)) = omega (arith, ap length e, length-append host (58 ∷ decimal n)) in
    let at : length host + (m + 1) + 1 ≡ length text = omega (arith, len, some) in
    let last : get_or text (length host + (m + 1)) 0 ≡ 93 = last_at ends.0 93 text ends.1 (length host + (m + 1)) at in
    let here : get_or text (length host + (m + 1)) 0 ≡ get_or (decimal n) m 0 = ap (λ (xs : List ℕ). get_or xs (length host + (m + 1)) 0) e ∙ behind_colon host (decimal n) m in
    digits_lack n 93 lt (omega arith) m (omega (arith, some)) (sym here ∙ last)

colon_is_none : (x : ℕ) → x ≡ 58 → is_name_byte x ≡ false
colon_is_none x e = ap is_name_byte e

all_name : (b rest : Bool) → (if b then false else rest) ≡ true → rest ≡ true
all_name true rest e = absurd (true≢false (sym e))
all_name false rest e = e

name_lacks : (host : List ℕ) → is_name host ≡ true → Lacks 58 host
name_lacks host name i within e = absurd (true≢false (sym (all_name (length host == 0) (list_all is_name_byte host) name) ∙ list_all_at is_name_byte host i 0 within (colon_is_none (get_or host i 0) e)))

bracket_ends : (host text : List ℕ) → host ≡ 91 ∷ (text ++ 93 ∷ []) → EndsIn 93 host
bracket_ends host text e = (91 ∷ text, e)

host_alone : (host : List ℕ) → IsHost host → EndsIn 93 host ⊎ Lacks 58 host
host_alone host h = elim h [ inl name ↦ inr (name_lacks host name) | inr b ↦ inl (bracket_ends host b.0 b.2) ]

-- the parts of a text of an address
pub record HasParts (usual : ℕ) (text : List ℕ) (a : Address) : Type 0 where
  pub behind : Option (List ℕ)
  pub are : AreParts a.host behind text
  pub is : IsPortOf behind usual a.port

pub parts_of : (usual : ℕ) (text : List ℕ) (a : Address) → IsTextOf usual text a → HasParts usual text a
parts_of usual text a t =
    elim t.1 [
      | inl whole ↦ record { behind = Some (decimal a.port); are = (whole, digits_lack a.port 58 (omega (arith, t.0.is_port.1)) (omega arith), no_bracket a.host a.port text (omega (arith, t.0.is_port.1)) whole); is = refl }
      | inr alone ↦ record { behind = None; are = (sym alone.0, subst (λ (x : List ℕ). EndsIn 93 x ⊎ Lacks 58 x) (sym alone.0) (host_alone a.host t.0.is_host)); is = alone.1 }
    ]

-- what an address has where the parts of its text are known
pub only : (usual : ℕ) (text host : List ℕ) (behind : Option (List ℕ)) (a : Address) → AreParts host behind text → IsTextOf usual text a → (a.host ≡ host) × IsPortOf behind usual a.port
only usual text host behind a are t =
    let own = parts_of usual text a t in
    let same = same_parts text a.host host own.behind behind own.are are in
    (same.0, subst (λ (o : Option (List ℕ)). IsPortOf o usual a.port) same.1 own.is)

pub same_port : (behind : Option (List ℕ)) (usual m n : ℕ) → IsPort m → IsPort n → IsPortOf behind usual m → IsPortOf behind usual n → m ≡ n
same_port None usual m n f g e h = e ∙ sym h
same_port (Some digits) usual m n f g e h = decimal_injective m n (omega (arith, f.1)) (omega (arith, g.1)) (sym e ∙ h)

abbrev made : List ℕ → ℕ → Address
made host port = record { host = host; port = port }

same_address : (a b : Address) → a.host ≡ b.host → a.port ≡ b.port → a ≡ b
same_address a b e f = ap (λ (h : List ℕ). made h a.port) e ∙ ap (made b.host) f

pub one_address : (usual : ℕ) (text : List ℕ) (a b : Address) → IsTextOf usual text a → IsTextOf usual text b → a ≡ b
one_address usual text a b s t =
    let own = parts_of usual text a s in
    let other = only usual text a.host own.behind b own.are t in
    same_address a b (sym other.0) (same_port own.behind usual a.port b.port s.0.is_port t.0.is_port own.is other.1)

pub same_decides : (a b : Address) → Decides (is_same a b) (a ≡ b)
same_decides a b = tests (a.port == b.port) refl
  where
    tests : (p : Bool) → (a.port == b.port) ≡ p → Decides (if p then bytes_eq a.host b.host else false) (a ≡ b)
    tests true e = (λ h. same_address a b ((bytes_eq-Decides a.host b.host).0 h) ((Decides-eqb a.port b.port).0 e), λ is. (bytes_eq-Decides a.host b.host).1 (ap (λ (x : Address). x.host) is))
    tests false e = (λ h. absurd (true≢false (sym h)), λ is. absurd (true≢false (sym ((Decides-eqb a.port b.port).1 (ap (λ (x : Address). x.port) is)) ∙ e)))
