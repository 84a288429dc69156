-- The option that words begin with is one.
use Rattle.std.proofs.Common.{◌≡◌, ◌≢◌, ℕ, suc, Bool, true, false, true≢false, List, [], ◌∷◌, ◌++◌, get_or, Option, Some, None, codes, refl, sym, ap, subst, ◌∙◌, arith, inl, inr}
use Rattle.std.specs.Prelude.{◌==◌, not, bytes_eq, if◌then◌else◌}
use Rattle.std.specs.List.{list_all}
use Rattle.std.proofs.lemmas.List.Folds.{list_all_at}
use Rattle.hk_hosts.specs.Parts.{Lacks}
use Rattle.hk_host_words.specs.declared.names.OptionName.{OptionName}
use Rattle.hk_host_words.specs.declared.names.OptionName.TheVariants as option
use Rattle.hk_host_words.specs.declared.names.CommandName.{CommandName}
use Rattle.hk_host_words.specs.declared.names.CommandName.TheVariants as command
use Rattle.hk_host_words.specs.Options.{option_text, command_text, Setting, BeginsWith}
use Rattle.hk_host_words.specs.Reading.{AreParts}

-- ---- names
-- the option of a text
abbrev option_of : List ℕ → OptionName
option_of text =
    if bytes_eq text (codes "hosts") then option.Hosts
    else (if bytes_eq text (codes "secret") then option.Secret
    else (if bytes_eq text (codes "group") then option.Group
    else (if bytes_eq text (codes "at") then option.At
    else (if bytes_eq text (codes "inside") then option.Inside
    else (if bytes_eq text (codes "listen") then option.Listen
    else (if bytes_eq text (codes "data") then option.Data
    else (if bytes_eq text (codes "lease") then option.Lease
    else (if bytes_eq text (codes "skew") then option.Skew
    else (if bytes_eq text (codes "workers") then option.Workers else option.Node)))))))))

option_back : (name : OptionName) → option_of (option_text name) ≡ name
option_back option.Hosts = refl
option_back option.Secret = refl
option_back option.Group = refl
option_back option.At = refl
option_back option.Inside = refl
option_back option.Listen = refl
option_back option.Data = refl
option_back option.Lease = refl
option_back option.Skew = refl
option_back option.Workers = refl
option_back option.Node = refl

pub one_option : (a b : OptionName) → option_text a ≡ option_text b → a ≡ b
one_option a b e = sym (option_back a) ∙ ap option_of e ∙ option_back b

abbrev command_of : List ℕ → CommandName
command_of text =
    if bytes_eq text (codes "node") then command.Node
    else (if bytes_eq text (codes "init") then command.Init
    else (if bytes_eq text (codes "status") then command.Status else command.Leave))

command_back : (name : CommandName) → command_of (command_text name) ≡ name
command_back command.Node = refl
command_back command.Init = refl
command_back command.Status = refl
command_back command.Leave = refl

pub one_command : (a b : CommandName) → command_text a ≡ command_text b → a ≡ b
one_command a b e = sym (command_back a) ∙ ap command_of e ∙ command_back b

-- ---- the sign between an option and its value
abbrev is_other : ℕ → Bool
is_other byte = not (byte == 61)

equals_is : (x : ℕ) → x ≡ 61 → is_other x ≡ false
equals_is x e = ap is_other e

lacks_of : (text : List ℕ) → list_all is_other text ≡ true → Lacks 61 text
lacks_of text all i within e = true≢false (sym all ∙ list_all_at is_other text i 0 within (equals_is (get_or text i 0) e))

option_lacks : (name : OptionName) → Lacks 61 (option_text name)
option_lacks option.Hosts = lacks_of (codes "hosts") refl
option_lacks option.Secret = lacks_of (codes "secret") refl
option_lacks option.Group = lacks_of (codes "group") refl
option_lacks option.At = lacks_of (codes "at") refl
option_lacks option.Inside = lacks_of (codes "inside") refl
option_lacks option.Listen = lacks_of (codes "listen") refl
option_lacks option.Data = lacks_of (codes "data") refl
option_lacks option.Lease = lacks_of (codes "lease") refl
option_lacks option.Skew = lacks_of (codes "skew") refl
option_lacks option.Workers = lacks_of (codes "workers") refl
option_lacks option.Node = lacks_of (codes "node") refl

abbrev head_of : List ℕ → ℕ
head_of [] = 0
head_of (x ∷ xs) = x

abbrev tail_of : {A : Type 0} → List A → List A
tail_of [] = []
tail_of (x ∷ xs) = xs

lacks_tail : (x : ℕ) (xs : List ℕ) → Lacks 61 (x ∷ xs) → Lacks 61 xs
lacks_tail x xs lacks i within e = lacks (suc i) (omega (arith, within)) e

lacks_head : (x : ℕ) (xs : List ℕ) → Lacks 61 (x ∷ xs) → x ≡ 61 → ⊥
lacks_head x xs lacks e = lacks 0 (omega arith) e

no_sign : (text front behind : List ℕ) → Lacks 61 text → text ≡ front ++ 61 ∷ behind → ⊥
no_sign [] [] behind lacks e = absurd (true≢false (ap is_empty e))
  where
    is_empty : List ℕ → Bool
    is_empty [] = true
    is_empty (x ∷ xs) = false
no_sign [] (y ∷ front) behind lacks e = absurd (true≢false (ap is_empty e))
  where
    is_empty : List ℕ → Bool
    is_empty [] = true
    is_empty (x ∷ xs) = false
no_sign (x ∷ text) [] behind lacks e = lacks_head x text lacks (ap head_of e)
no_sign (x ∷ text) (y ∷ front) behind lacks e = no_sign text front behind (lacks_tail x text lacks) (ap tail_of e)

one_sign : (h k p q : List ℕ) → Lacks 61 h → Lacks 61 k → h ++ 61 ∷ p ≡ k ++ 61 ∷ q → (h ≡ k) × (p ≡ q)
one_sign [] [] p q l m e = (refl, ap tail_of e)
one_sign [] (y ∷ k) p q l m e = absurd (lacks_head y k m (sym (ap head_of e)))
one_sign (x ∷ h) [] p q l m e = absurd (lacks_head x h l (ap head_of e))
one_sign (x ∷ h) (y ∷ k) p q l m e =
    let both = one_sign h k p q (lacks_tail x h l) (lacks_tail y k m) (ap tail_of e) in
    (ap (λ (z : ℕ). z ∷ h) (ap head_of e) ∙ ap (λ (zs : List ℕ). y ∷ zs) both.0, both.1)

-- ---- the option that a word begins with
abbrev first_of : List (List ℕ) → List ℕ
first_of [] = []
first_of (w ∷ words) = w

-- what is left behind an option, by whether its value stands in its own word
abbrev pub Left : Option (List ℕ) → Setting → List (List ℕ) → List (List ℕ) → Type 0
Left None s rest behind = rest ≡ s.value ∷ behind
Left (Some value) s rest behind = (value ≡ s.value) × (rest ≡ behind)

dashes : (a b : List ℕ) → codes "--" ++ a ≡ codes "--" ++ b → a ≡ b
dashes a b e = ap (λ (l : List ℕ). tail_of (tail_of l)) e

-- the parts of a word are those of the option that it begins with
pub taken : (name text : List ℕ) (value : Option (List ℕ)) (s : Setting) (rest behind : List (List ℕ)) → AreParts name value text
    → BeginsWith s ((codes "--" ++ text) ∷ rest) behind → (name ≡ option_text s.name) × Left value s rest behind
taken name text None s rest behind parts (inl e) = (sym parts.0 ∙ dashes text (option_text s.name) (ap first_of e), ap tail_of e)
taken name text None s rest behind parts (inr e) =
    absurd (no_sign name (option_text s.name) s.value parts.1 (sym parts.0 ∙ dashes text (option_text s.name ++ 61 ∷ s.value) (ap first_of e)))
taken name text (Some value) s rest behind parts (inl e) =
    absurd (no_sign (option_text s.name) name value (option_lacks s.name) (sym (dashes text (option_text s.name) (ap first_of e)) ∙ parts.0))
taken name text (Some value) s rest behind parts (inr e) =
    let both = one_sign name (option_text s.name) value s.value parts.1 (option_lacks s.name) (sym parts.0 ∙ dashes text (option_text s.name ++ 61 ∷ s.value) (ap first_of e)) in
    (both.0, (both.1, ap tail_of e))

-- a word of an option has two dashes
pub dashed : (word : List ℕ) (s : Setting) (rest behind : List (List ℕ)) → BeginsWith s (word ∷ rest) behind → (text : List ℕ) × (word ≡ codes "--" ++ text)
dashed word s rest behind (inl e) = (option_text s.name, ap first_of e)
dashed word s rest behind (inr e) = (option_text s.name ++ 61 ∷ s.value, ap first_of e)

abbrev setting : OptionName → List ℕ → Setting
setting name value = record { name = name; value = value }

same_setting : (s t : Setting) → s.name ≡ t.name → s.value ≡ t.value → s ≡ t
same_setting s t e f = ap (λ (n : OptionName). setting n s.value) e ∙ ap (setting t.name) f

-- words begin with one option
pub one_next : (s t : Setting) (words behind other : List (List ℕ)) → BeginsWith s words behind → BeginsWith t words other → (s ≡ t) × (behind ≡ other)
one_next s t words behind other (inl e) begins =
    let own = taken (option_text s.name) (option_text s.name) None t (s.value ∷ behind) other (refl, option_lacks s.name) (subst (λ (w : List (List ℕ)). BeginsWith t w other) e begins) in
    (same_setting s t (one_option s.name t.name own.0) (ap first_of own.1), ap tail_of own.1)
one_next s t words behind other (inr e) begins =
    let own = taken (option_text s.name) (option_text s.name ++ 61 ∷ s.value) (Some s.value) t behind other (refl, option_lacks s.name) (subst (λ (w : List (List ℕ)). BeginsWith t w other) e begins) in
    (same_setting s t (one_option s.name t.name own.0) own.1.0, own.1.1)

-- ---- words that begin with no option
-- the word behind two dashes is the name of none
pub no_name : (text name : List ℕ) (value : Option (List ℕ)) (word : List ℕ) (words rest : List (List ℕ)) → words ≡ word ∷ rest → word ≡ codes "--" ++ text → AreParts name value text
    → ((n : OptionName) → name ≢ option_text n) → (next : Setting × List (List ℕ)) → BeginsWith next.0 words next.1 → ⊥
no_name text name value word words rest e f parts none next begins =
    none next.0.name (taken name text value next.0 rest next.1 parts (subst (λ (w : List (List ℕ)). BeginsWith next.0 w next.1) (e ∙ ap (λ (w : List ℕ). w ∷ rest) f) begins)).0
