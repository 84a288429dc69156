-- What is heard, ask by ask.
use Rattle.std.proofs.Common.{◌≡◌, ℕ, zero, suc, ◌<◌, List, [], ◌∷◌, ◌++◌, map, true, false, Option, Some, None, refl, ap, sym, arith, append_assoc, append-nil}
use Rattle.std.specs.Prelude.{Result, Ok, Err}
use Rattle.hk_base.specs.declared.call.Op.{Op}
use Rattle.hk_outside.specs.Desk.{Asks}
use Rattle.hk_outside.specs.declared.desk.Asked.{Asked}
use Rattle.hk_outside.specs.declared.desk.DeskReply.{DeskReply}
use Rattle.hk_conn.specs.Heard.{AsksMore}
use Rattle.hk_conn.specs.Asking.{with_asks, told, Hears, HearsOn}
use Rattle.hk_conn.specs.Heard.{told_of, ask_of, heard, is_busy, with_ask}

pub map_append : (xs ys : List Asked) → map told_of (xs ++ ys) ≡ map told_of xs ++ map told_of ys
map_append [] ys = refl
map_append (x ∷ xs) ys = ap (λ zs. told_of x ∷ zs) (map_append xs ys)

pub asks_none : (asks : Option (List Asked)) → AsksMore asks asks []
asks_none None = tt
asks_none (Some xs) = sym (append-nil xs)

pub asks_more : (a b c : Option (List Asked)) (xs ys : List Asked) → AsksMore a b xs → AsksMore b c ys → AsksMore a c (xs ++ ys)
asks_more a b None xs ys h k = tt
asks_more a None (Some z) xs ys h k = absurd k
asks_more None (Some y) (Some z) xs ys h k = absurd h
asks_more (Some x) (Some y) (Some z) xs ys h k = rw (k, h) (append_assoc x xs ys)

pub asks_one : {E : Type 0} (a b : Option (List Asked)) (key : List ℕ) (o : Op) (r : Result DeskReply E) → Asks a b key o r → AsksMore a b (ask_of key o (told r) ∷ [])
asks_one a None key o r h = tt
asks_one None (Some y) key o r h = absurd h
asks_one (Some x) (Some y) key o (Ok r) h = h
asks_one (Some x) (Some y) key o (Err e) h = h

pub told_ask : (key : List ℕ) (o : Op) (t : Option DeskReply) → told_of (ask_of key o t) ≡ t
told_ask key o None = refl
told_ask key o (Some r) = refl

-- the asks so far, with so many left
pub record IsHearing (most more : ℕ) (asks asks' : Option (List Asked)) (key : List ℕ) (o : Op) : Type 0 where
  pub made : List Asked
  pub grown : AsksMore asks asks' made
  pub hears : (later : List (Option DeskReply)) → heard most key o (map told_of made ++ later) ≡ with_asks made (heard more key o later)

pub hearing_starts : (most : ℕ) (asks : Option (List Asked)) (key : List ℕ) (o : Op) → IsHearing most most asks asks key o
hearing_starts most asks key o = record { made = []; grown = asks_none asks; hears = λ later. refl }

pub heard_end : (more : ℕ) (key : List ℕ) (o : Op) (t : Option DeskReply) (later : List (Option DeskReply)) → (0 < more → is_busy t ≡ false) → heard more key o (t ∷ later) ≡ record { last = Some t; asks = ask_of key o t ∷ []; later = later }
unfolding heard
heard_end zero key o t later h = refl
heard_end (suc more) key o t later h = let e : is_busy t ≡ false = h (omega arith) in rw e refl

pub heard_again : (more : ℕ) (key : List ℕ) (o : Op) (t : Option DeskReply) (later : List (Option DeskReply)) → is_busy t ≡ true → heard (suc more) key o (t ∷ later) ≡ with_ask (ask_of key o t) (heard more key o later)
unfolding heard
heard_again more key o t later h = rw h refl

pub hearing_ends : (most more : ℕ) (a b c : Option (List Asked)) (key : List ℕ) (o : Op) (t : Option DeskReply) → IsHearing most more a b key o → AsksMore b c (ask_of key o t ∷ []) → (0 < more → is_busy t ≡ false) → Hears most a c key o t
hearing_ends most more a b c key o t h g e = record {
  made = h.made ++ ask_of key o t ∷ [];
  grown = asks_more a b c h.made (ask_of key o t ∷ []) h.grown g;
  hears = λ later. rw (map_append h.made (ask_of key o t ∷ []), told_ask key o t, append_assoc (map told_of h.made) (t ∷ []) later, h.hears (t ∷ later), heard_end more key o t later e) refl;
}

pub hearing_goes_on : (most more fewer : ℕ) (a b c : Option (List Asked)) (key : List ℕ) (o : Op) (t : Option DeskReply) → suc fewer ≡ more → IsHearing most more a b key o → AsksMore b c (ask_of key o t ∷ []) → is_busy t ≡ true → IsHearing most fewer a c key o
hearing_goes_on most more fewer a b c key o t s h g e = record {
  made = h.made ++ ask_of key o t ∷ [];
  grown = asks_more a b c h.made (ask_of key o t ∷ []) h.grown g;
  hears = λ later.
      let again : heard more key o (t ∷ later) ≡ with_ask (ask_of key o t) (heard fewer key o later) = rw (sym s) (heard_again fewer key o t later e) in
      rw (map_append h.made (ask_of key o t ∷ []), told_ask key o t, append_assoc (map told_of h.made) (t ∷ []) later, h.hears (t ∷ later), again) (ap (λ xs. record (heard fewer key o later) { asks = xs }) (sym (append_assoc h.made (ask_of key o t ∷ []) (heard fewer key o later).asks)));
}

-- ---- behind a first ask
pub hears_first : (more : ℕ) (a : Option (List Asked)) (key : List ℕ) (o : Op) (t : Option DeskReply) → (0 < more → is_busy t ≡ false) → HearsOn more a a key o t t
hears_first more a key o t e = record { made = []; grown = asks_none a; hears = λ later. heard_end more key o t later e }

pub hears_again : (more fewer : ℕ) (a b : Option (List Asked)) (key : List ℕ) (o : Op) (t last : Option DeskReply) → suc fewer ≡ more → is_busy t ≡ true → Hears fewer a b key o last → HearsOn more a b key o t last
hears_again more fewer a b key o t last s e h = rw (sym s) (record {
  made = h.made;
  grown = h.grown;
  hears = λ later. rw (heard_again fewer key o t (map told_of h.made ++ later) e, h.hears later) refl;
})

pub hears_joined : (more : ℕ) (a b c : Option (List Asked)) (key : List ℕ) (o : Op) (t last : Option DeskReply) → AsksMore a b (ask_of key o t ∷ []) → HearsOn more b c key o t last → Hears more a c key o last
hears_joined more a b c key o t last g h = record {
  made = ask_of key o t ∷ h.made;
  grown = asks_more a b c (ask_of key o t ∷ []) h.made g h.grown;
  hears = λ later. rw (told_ask key o t) (h.hears later);
}
