-- What passes over a connection in several calls.
use Rattle.std.proofs.Common.{◌≡◌, ◌≤◌, ℕ, ◌+◌, ◌-◌, List, [], ◌∷◌, ◌++◌, Option, Some, None, refl, sym, ap, subst, ◌∙◌, arith, append-nil, append_assoc}
use Rattle.std.specs.List.{concat}
use Rattle.std.specs.Io.KnownBytes.{Appends, Consumes}
use Rattle.hk_outside.specs.Causes.{Rose}
use Rattle.hk_outside.specs.Records.{Gave, GaveAll}
use Rattle.hk_outside.proofs.Streams.{appends_more, consumes_more}
use Rattle.hk_greet.specs.Standing.{Standing, Passes, IsOver}

-- ---- nothing

pub consumes_none : (left : Option (List ℕ)) → Consumes left left []
consumes_none None = tt
consumes_none (Some bytes) = refl

pub appends_none : (held : Option (List ℕ)) → Appends held held []
appends_none None = tt
appends_none (Some bytes) = sym (append-nil bytes)

pub gave_none : (given : Option (List (List ℕ))) → Gave given given []
gave_none None = tt
gave_none (Some pieces) = ([], ap Some (sym (append-nil pieces)), refl)

pub passes_none : (s : Standing) → Passes s s [] []
passes_none s = record {
  came = [];
  consumed = consumes_none s.left;
  recorded = gave_none s.given;
  same = append-nil s.unread;
  wrote = appends_none s.held;
  read_later = omega arith;
  write_later = omega arith;
  gave = refl;
}

-- ---- one call behind another

joined : (pieces others : List (List ℕ)) → concat (pieces ++ others) ≡ concat pieces ++ concat others
joined [] others = refl
joined (piece ∷ pieces) others = ap (λ (rest : List ℕ). piece ++ rest) (joined pieces others) ∙ sym (append_assoc piece (concat pieces) (concat others))

pub gave_on : (old mid new : Option (List (List ℕ))) (a b : List ℕ) → Gave old mid a → Gave mid new b → Gave old new (a ++ b)
gave_on None mid new a b h k = tt
gave_on (Some before) mid new a b h k = at (subst (λ (m : Option (List (List ℕ))). Gave m new b) h.1 k)
  where
    at : Gave (Some (before ++ h.0)) new b → Gave (Some before) new (a ++ b)
    at k = (h.0 ++ k.0, k.1 ∙ ap Some (append_assoc before h.0 k.0), joined h.0 k.0 ∙ ap (λ (x : List ℕ). concat h.0 ++ x) k.2 ∙ ap (λ (x : List ℕ). x ++ b) h.2)

pub gave_all_on : (old mid new : Option (List (List ℕ))) (a b : List ℕ) → Gave old mid a → GaveAll mid new b → GaveAll old new (a ++ b)
gave_all_on None mid new a b h k = tt
gave_all_on (Some before) mid new a b h k = at (subst (λ (m : Option (List (List ℕ))). GaveAll m new b) h.1 k)
  where
    at : GaveAll (Some (before ++ h.0)) new b → GaveAll (Some before) new (a ++ b)
    at k = (
      h.0 ++ k.0,
      k.1 ∙ ap Some (append_assoc before h.0 (k.0 ++ [] ∷ []) ∙ ap (λ (x : List (List ℕ)). before ++ x) (sym (append_assoc h.0 k.0 ([] ∷ [])))),
      joined h.0 k.0 ∙ ap (λ (x : List ℕ). concat h.0 ++ x) k.2 ∙ ap (λ (x : List ℕ). x ++ b) h.2,
    )

-- what was there and came, in two calls
same_on : (unread unread' unread'' came came' t t' : List ℕ) → unread ++ came ≡ t ++ unread' → unread' ++ came' ≡ t' ++ unread'' → unread ++ (came ++ came') ≡ (t ++ t') ++ unread''
same_on unread unread' unread'' came came' t t' h k =
    sym (append_assoc unread came came') ∙ ap (λ (x : List ℕ). x ++ came') h ∙ append_assoc t unread' came' ∙ ap (λ (x : List ℕ). t ++ x) k ∙ sym (append_assoc t t' unread'')

pub passes_more : (a b c : Standing) (t t' w w' : List ℕ) → Passes a b t w → Passes b c t' w' → Passes a c (t ++ t') (w ++ w')
passes_more a b c t t' w w' h k = record {
  came = h.came ++ k.came;
  consumed = consumes_more a.left b.left c.left h.came k.came h.consumed k.consumed;
  recorded = gave_on a.given b.given c.given h.came k.came h.recorded k.recorded;
  same = same_on a.unread b.unread c.unread h.came k.came t t' h.same k.same;
  wrote = appends_more a.held b.held c.held w w' h.wrote k.wrote;
  read_later = omega (arith, h.read_later, k.read_later);
  write_later = omega (arith, h.write_later, k.write_later);
  gave = k.gave ∙ h.gave;
}

-- where nothing was taken or written in the first of two, or in the second
pub passes_behind : (a b c : Standing) (t w : List ℕ) → Passes a b [] [] → Passes b c t w → Passes a c t w
passes_behind a b c t w h k = passes_more a b c [] t [] w h k

pub passes_before : (a b c : Standing) (t w : List ℕ) → Passes a b t w → Passes b c [] [] → Passes a c t w
passes_before a b c t w h k = subst (λ (x : List ℕ). Passes a c x w) (append-nil t) (subst (λ (x : List ℕ). Passes a c (t ++ []) x) (append-nil w) (passes_more a b c t [] w [] h k))

pub over_on : (a b c : Standing) (t w : List ℕ) → Passes a b t w → IsOver b c → IsOver a c
over_on a b c t w h k = record {
  none_left = k.none_left;
  came = h.came ++ k.came;
  told = gave_all_on a.given b.given c.given h.came k.came h.recorded k.told;
}

pub rose_on : (a b c : ℕ) → a ≤ b → Rose b c → Rose a c
rose_on a b c h k = grind (arith, h, k)

-- so many of what is there are taken
pub takes : (s : Standing) (taken rest : List ℕ) → s.unread ≡ taken ++ rest → Passes s (record s { unread = rest }) taken []
takes s taken rest e = record {
  came = [];
  consumed = consumes_none s.left;
  recorded = gave_none s.given;
  same = append-nil s.unread ∙ e;
  wrote = appends_none s.held;
  read_later = omega arith;
  write_later = omega arith;
  gave = refl;
}

pub appends_same : (held held' : Option (List ℕ)) → held' ≡ held → Appends held held' []
appends_same held held' e = subst (λ (h : Option (List ℕ)). Appends held h []) (sym e) (appends_none held)

-- where something was heard in the second of two, or said
pub then_heard : (a b c : Standing) (t t' w : List ℕ) → Passes a b t w → Passes b c t' [] → Passes a c (t ++ t') w
then_heard a b c t t' w h k = subst (λ (x : List ℕ). Passes a c (t ++ t') x) (append-nil w) (passes_more a b c t t' w [] h k)

pub then_said : (a b c : Standing) (t w w' : List ℕ) → Passes a b t w → Passes b c [] w' → Passes a c t (w ++ w')
then_said a b c t w w' h k = subst (λ (x : List ℕ). Passes a c x (w ++ w')) (append-nil t) (passes_more a b c t [] w w' h k)
