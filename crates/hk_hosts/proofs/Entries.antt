-- Lists of addresses, one more each time.
use Rattle.std.proofs.Common.{◌≡◌, ◌≢◌, ℕ, suc, get_or, ◌+◌, ◌<◌, false, List, [], ◌∷◌, ◌++◌, length, refl, sym, ap, subst, ◌∙◌, append_assoc, arith, Option, Some, None, Bor, MatchOption, IfSome, Err}
use Rattle.std.specs.Prelude.{◌==◌}
use Rattle.std.specs.List.{slice_split, before_first, after_first, position_or_len, AllByRecursion}
use Rattle.std.proofs.lemmas.Bool.{false_from_ne_true}
use Rattle.std.proofs.lemmas.Bool.Decides.{Decides-eqb}
use Rattle.std.proofs.lemmas.List.Elements.{All-from_recursion}
use Rattle.std.proofs.lemmas.List.{length-append}
use Rattle.std.proofs.lemmas.Str.Pattern.{IsSplitOnceResult, split_once_first, split_parts}
use Rattle.std.proofs.lemmas.List.Splits.{slice_split_first, slice_split_none}
use Rattle.hk_hosts.specs.declared.address.Address.{Address}
use Rattle.hk_hosts.specs.Addresses.{IsTextOf}
use Rattle.hk_hosts.specs.declared.address.AddressFault.{AddressFault}
use Rattle.hk_hosts.specs.declared.address.AddressFault.TheVariants.{Memory, Malformed}
use Rattle.hk_hosts.specs.Lists.{entries, AreTextsOf, AreEntriesRead, IsAdded}

pub texts_more : (usual : ℕ) (texts : List (List ℕ)) (hosts : List Address) (text : List ℕ) (a : Address) → AreTextsOf usual texts hosts → IsTextOf usual text a → AreTextsOf usual (texts ++ text ∷ []) (hosts ++ a ∷ [])
texts_more usual [] [] text a are is = (is, tt)
texts_more usual [] (b ∷ hosts) text a are is = absurd are
texts_more usual (t ∷ texts) [] text a are is = absurd are
texts_more usual (t ∷ texts) (b ∷ hosts) text a are is = (are.0, texts_more usual texts hosts text a are.1 is)

pub none_at : (usual : ℕ) (texts more : List (List ℕ)) (text : List ℕ) (hosts : List Address) → ((a : Address) → IsTextOf usual text a → ⊥) → AreTextsOf usual (texts ++ text ∷ more) hosts → ⊥
none_at usual [] more text [] none are = are
none_at usual [] more text (a ∷ hosts) none are = none a are.0
none_at usual (t ∷ texts) more text [] none are = are
none_at usual (t ∷ texts) more text (a ∷ hosts) none are = none_at usual texts more text hosts none are.1

-- what a loop over the entries has come to: the texts so far, and those that are left
pub record Come (usual : ℕ) (text left : List ℕ) (hosts : List Address) : Type 0 where
  pub texts : List (List ℕ)
  pub all : entries text ≡ texts ++ entries left
  pub are : AreTextsOf usual texts hosts

pub first : (usual : ℕ) (text : List ℕ) → Come usual text text []
first usual text = record { texts = []; all = refl; are = tt }

pub cut_entries : (left entry rest : List ℕ) → position_or_len (λ b. b == 44) left < length left → entry ≡ before_first (λ b. b == 44) left → rest ≡ after_first (λ b. b == 44) left → entries left ≡ entry ∷ entries rest
cut_entries left entry rest lt e r = slice_split_first (λ b. b == 44) left 0 lt ∙ ap (λ (x : List ℕ). x ∷ slice_split (λ b. b == 44) (after_first (λ b. b == 44) left)) (sym e) ∙ ap (λ (x : List ℕ). entry ∷ slice_split (λ b. b == 44) x) (sym r)

module _ (usual : ℕ) (text left entry rest : List ℕ) (hosts : List Address) (come : Come usual text left hosts) (cut : entries left ≡ entry ∷ entries rest) where
  pub more : (new : List Address) (a : Address) → IsTextOf usual entry a → new ≡ hosts ++ a ∷ [] → Come usual text rest new
  more new a is e = record {
    texts = come.texts ++ entry ∷ [];
    all = come.all ∙ ap (λ (x : List (List ℕ)). come.texts ++ x) cut ∙ sym (append_assoc come.texts (entry ∷ []) (entries rest));
    are = subst (AreTextsOf usual (come.texts ++ entry ∷ [])) (sym e) (texts_more usual come.texts hosts entry a come.are is);
  }

  pub none : ((a : Address) → IsTextOf usual entry a → ⊥) → (all : List Address) → AreTextsOf usual (entries text) all → ⊥
  none lacks all are = none_at usual come.texts (entries rest) entry all lacks (subst (λ (x : List (List ℕ)). AreTextsOf usual x all) (come.all ∙ ap (λ (x : List (List ℕ)). come.texts ++ x) cut) are)

-- at the last entry
module _ (usual : ℕ) (text left : List ℕ) (hosts : List Address) (come : Come usual text left hosts) (alone : entries left ≡ left ∷ []) where
  pub whole : (new : List Address) (a : Address) → IsTextOf usual left a → new ≡ hosts ++ a ∷ [] → AreTextsOf usual (entries text) new
  whole new a is e =
      subst (λ (x : List (List ℕ)). AreTextsOf usual x new) (sym (come.all ∙ ap (λ (x : List (List ℕ)). come.texts ++ x) alone))
      (subst (AreTextsOf usual (come.texts ++ left ∷ [])) (sym e) (texts_more usual come.texts hosts left a come.are is))

  pub none_last : ((a : Address) → IsTextOf usual left a → ⊥) → (all : List Address) → AreTextsOf usual (entries text) all → ⊥
  none_last lacks all are = none_at usual come.texts [] left all lacks (subst (λ (x : List (List ℕ)). AreTextsOf usual x all) (come.all ∙ ap (λ (x : List (List ℕ)). come.texts ++ x) alone) are)

none_in : (left : List ℕ) → ((i : ℕ) → i < length left → get_or left i 0 ≢ 44) → AllByRecursion (λ b. (b == 44) ≡ false) left
none_in [] lacks = tt
none_in (b ∷ left) lacks = (
  false_from_ne_true (b == 44) (λ is. lacks 0 (omega arith) ((Decides-eqb b 44).0 is)),
  none_in left (λ i lt e. lacks (suc i) (omega (arith, lt)) e),
)

pub last_entry : (left : List ℕ) → ((i : ℕ) → i < length left → get_or left i 0 ≢ 44) → entries left ≡ left ∷ []
last_entry left lacks = slice_split_none (λ b. b == 44) left (All-from_recursion (λ b. (b == 44) ≡ false) left (none_in left lacks))

-- what `split_once` gives at a comma, in the words of entries
pub split_entries : (text : List ℕ) (r : Option (Bor (List ℕ) × Bor (List ℕ))) → IsSplitOnceResult 44 text r → MatchOption r (entries text ≡ text ∷ []) (λ x. entries text ≡ x.0.now ∷ entries x.1.now)
split_entries text None is = last_entry text (split_parts 44 text None is (omega arith))
split_entries text (Some x) is = let at = split_once_first 44 text (Some x) is (omega arith) in cut_entries text x.0.now x.1.now at.0 at.1 at.2

pub split_shorter : (text : List ℕ) (r : Option (Bor (List ℕ) × Bor (List ℕ))) → IsSplitOnceResult 44 text r → IfSome r (λ x. length x.1.now < length text)
split_shorter text None is = tt
split_shorter text (Some x) is =
    let parts = split_parts 44 text (Some x) is (omega arith) in
    let long : length text ≡ length x.0.now + suc (length x.1.now) = ap (λ (l : List ℕ). length l) parts.0 ∙ length-append x.0.now (44 ∷ x.1.now) in
    omega (arith, long)

-- an entry that was no address
module _ (usual : ℕ) (text left entry rest : List ℕ) (hosts new : List Address) (come : Come usual text left hosts) where
  pub refused : (fault : AddressFault) → entries left ≡ entry ∷ entries rest → IsAdded (Err fault) hosts new usual entry → AreEntriesRead (Err fault) usual (entries text)
  refused Memory cut is = tt
  refused Malformed cut is = none usual text left entry rest hosts come cut is

  pub refused_last : (fault : AddressFault) → entries left ≡ left ∷ [] → IsAdded (Err fault) hosts new usual left → AreEntriesRead (Err fault) usual (entries text)
  refused_last Memory alone is = tt
  refused_last Malformed alone is = none_last usual text left hosts come alone is
