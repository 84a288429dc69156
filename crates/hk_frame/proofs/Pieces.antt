-- That each part of a letter is read exactly.
use Rattle.std.proofs.Common.{true≢false, rules, ◌≡◌, ℕ, zero, suc, ◌^◌, ◌<◌, ◌≤◌, Bool, true, false, cond, eqb, List, [], ◌∷◌, ◌++◌, length, Option, Some, None, Result, Ok, refl, sym, ap, subst, ◌∙◌, append_assoc, arith}
use Rattle.std.specs.Prelude.{position, IfSome, ⊤}
use Rattle.std.specs.Int.{w16, w32, w64, to_be_bytes}
use Rattle.std.specs.List.{flat_map, AllByRecursion}
use Rattle.std.proofs.lemmas.Bool.{eqb-true}
use Rattle.std.proofs.lemmas.List.Concat.{flat_map-cons}
use Rattle.hk_base.specs.KeyBytes.{is_bad_byte}
use Rattle.hk_base.specs.Key.{IsKey, IsData}
use Rattle.hk_base.specs.Range.{IsWithin, Leaves, IsBallot, IsActor}
use Rattle.hk_base.specs.declared.key.TheConstants.{MAX_KEY_LEN}
use Rattle.hk_base.specs.declared.data.TheConstants.{MAX_DATA_LEN}
use Rattle.hk_base.specs.declared.stamp.TheConstants.{MAX_VERSION}
use Rattle.hk_base.specs.declared.stamp.Stamp.{Stamp}
use Rattle.hk_base.specs.declared.stamp.Kind.{Kind}
use Rattle.hk_base.specs.declared.stamp.Kind.TheVariants.{Write, Rmw}
use Rattle.hk_base.specs.declared.call.Content.{Content}
use Rattle.hk_base.specs.declared.view.Ballot.{Ballot}
use Rattle.hk_base.specs.declared.letter.Actor.{Actor}
use Rattle.hk_base.specs.declared.letter.Actor.TheVariants.{Node, Manager}
use Rattle.hk_base.specs.declared.letter.CopyItem.{CopyItem}
use Rattle.hk_frame.specs.declared.fault.Stop.{Stop}
use Rattle.hk_frame.specs.Frames.{key_bytes, after_bytes, stamp_bytes, update_byte, content_bytes, some_content_bytes, data_bytes, flag_byte, item_bytes, items_bytes, actor_bytes, ballot_bytes}
use Rattle.hk_frame.specs.Sendable.{IsStampValue, IsContentValue, IsItemValue, IsBallotValue, IsActorValue}
use Rattle.hk_frame.specs.Fields.{◌>>=◌, both, chain, made, within, byte_at, number_at, bytes_at, clean_or, key_of}
use Rattle.hk_frame.specs.Reading.{key_at, after_of, after_at, stamp_at, data_at, some_content_at, update_kind, content_of, flag_at, item_of, item_at, items_of, items_at, actor_of, actor_at, ballot_at}
use Rattle.hk_frame.proofs.Exact.{IsBytes, bind_ok, ok_is, Takes, Takes-then, IsExact, IsBetween, chain_exact, both_exact, made_exact, nothing_exact, byte_exact, number_exact, wide16, wide32, wide64, within_exact, bytes_exact}

-- a byte, and one in a range
abbrev pub IsByte : ℕ → Type 0
IsByte b = b < 256

abbrev pub byte_text : ℕ → List ℕ
byte_text b = b ∷ []

pub byte_within_exact : (least most : ℕ) → IsExact byte_text (IsBetween IsByte least most) (within least most byte_at)
byte_within_exact least most = within_exact byte_text IsByte least most byte_at byte_exact

-- the same language by other words
pub same_exact : {A : Type 0} (text : A → List ℕ) (Fits : A → Type 0) (text' : A → List ℕ) (Fits' : A → Type 0) (read : List ℕ → Result (A × List ℕ) Stop)
    → IsExact text Fits read → ((a : A) → Fits a → (text a ≡ text' a) × Fits' a) → ((a : A) → Fits' a → (text a ≡ text' a) × Fits a) → IsExact text' Fits' read
same_exact {A} text Fits text' Fits' read e there here = record {
  takes = λ bytes a rest fits h.
      (let t = e.takes bytes a rest fits h in
      let f = there a t.1 in
      (subst (λ (z : List ℕ). Takes bytes z rest) f.0 t.0, f.1));
  again = λ a rest f.
      (let g = here a f in
      subst (λ (z : List ℕ). read (z ++ rest) ≡ Ok (a, rest)) g.0 (e.again a rest g.1));
}

-- a reader that a test chooses
pub cond_exact : {A : Type 0} (text : A → List ℕ) (Fits : A → Type 0) (read read' : List ℕ → Result (A × List ℕ) Stop) (b : Bool)
    → (b ≡ true → IsExact text Fits read) → (b ≡ false → IsExact text Fits read') → IsExact text Fits (λ bytes. cond b (read bytes) (read' bytes))
cond_exact text Fits read read' true yes' no' = yes' refl
cond_exact text Fits read read' false yes' no' = no' refl

-- ---- keys

abbrev pub IsKeyOf : ℕ → List ℕ → Type 0
IsKeyOf n key = (length key ≡ n) × (position is_bad_byte key ≡ None)

clean_ok : (o : Option ℕ) (key rest bytes : List ℕ) (y : List ℕ × List ℕ) → clean_or o key rest bytes ≡ Ok y → (o ≡ None) × ((key, rest) ≡ y)
clean_ok None key rest bytes y e = (refl, ok_is (key, rest) y e)
clean_ok (Some at') key rest bytes y e = absurd cc

key_of_takes : (n : ℕ) (bytes key rest : List ℕ) → IsBytes bytes → key_of n bytes ≡ Ok (key, rest) → Takes bytes key rest × IsKeyOf n key
key_of_takes n bytes key rest fits e =
    let a = bind_ok (bytes_at n bytes) (λ x. clean_or (position is_bad_byte x.0) x.0 x.1 bytes) (key, rest) e in
    let c = clean_ok (position is_bad_byte a.0.0) a.0.0 a.0.1 bytes (key, rest) a.2 in
    let t = (bytes_exact n).takes bytes a.0.0 a.0.1 fits a.1 in
    subst (λ (y : List ℕ × List ℕ). Takes bytes y.0 y.1 × IsKeyOf n y.0) c.1 (t.0, (t.1, c.0))

key_of_again : (n : ℕ) (key rest : List ℕ) → IsKeyOf n key → key_of n (key ++ rest) ≡ Ok (key, rest)
key_of_again n key rest f = rw ((bytes_exact n).again key rest f.0, f.1) refl

pub key_of_exact : (n : ℕ) → IsExact (λ key. key) (IsKeyOf n) (key_of n)
key_of_exact n = record { takes = key_of_takes n; again = key_of_again n }

pub key_exact : IsExact key_bytes IsKey key_at
unfolding key_at
key_exact = made_exact (λ p. p.1) (λ p. byte_text p.0 ++ p.1) (λ p. IsBetween IsByte 1 MAX_KEY_LEN p.0 × IsKeyOf p.0 p.1) (chain (within 1 MAX_KEY_LEN byte_at) key_of) key_bytes IsKey
    (chain_exact byte_text (IsBetween IsByte 1 MAX_KEY_LEN) (within 1 MAX_KEY_LEN byte_at) (λ n. λ key. key) IsKeyOf key_of (byte_within_exact 1 MAX_KEY_LEN) key_of_exact)
    (record {
      forth = λ p f. (ap (λ (n : ℕ). n ∷ p.1) (sym f.1.0), record { some = omega (arith, f.0.low, f.1.0); short = omega (arith, f.0.high, f.1.0); clean = f.1.1 });
      back = λ key f. ((length key, key), (record { fits = omega (arith, f.short); low = f.some; high = f.short }, (refl, f.clean)), refl);
    })

-- ---- a key or the start

abbrev pub rest_of_after : Option (List ℕ) → List ℕ
rest_of_after None = []
rest_of_after (Some key) = key

abbrev pub IsAfterOf : ℕ → Option (List ℕ) → Type 0
IsAfterOf n None = n ≡ 0
IsAfterOf n (Some key) = IsKeyOf n key × (eqb n 0 ≡ false)

none_after : (n : ℕ) → eqb n 0 ≡ true → (o : Option (List ℕ)) → o ≡ None → ([] ≡ rest_of_after o) × IsAfterOf n o
none_after n h None e = (refl, eqb-true n 0 h)
none_after n h (Some key) e = absurd cc

after_none : (n : ℕ) → eqb n 0 ≡ true → (o : Option (List ℕ)) → IsAfterOf n o → ([] ≡ rest_of_after o) × (o ≡ None)
after_none n h None f = (refl, refl)
after_none n h (Some key) f = absurd cc

some_forth : (n : ℕ) → eqb n 0 ≡ false → (key : List ℕ) → IsKeyOf n key → (key ≡ rest_of_after (Some key)) × IsAfterOf n (Some key)
some_forth n h key f = (refl, (f, h))

some_back : (n : ℕ) → eqb n 0 ≡ false → (o : Option (List ℕ)) → IsAfterOf n o → (key : List ℕ) × IsKeyOf n key × (Some key ≡ o)
some_back n h None f = absurd cc
some_back n h (Some key) f = (key, f.0, refl)

pub after_of_exact : (n : ℕ) → IsExact rest_of_after (IsAfterOf n) (after_of n)
unfolding after_of
after_of_exact n = cond_exact rest_of_after (IsAfterOf n) (λ bytes. Ok (None, bytes)) (made Some (key_of n)) (eqb n 0)
    (λ h. same_exact (λ o. []) (λ o. o ≡ None) rest_of_after (IsAfterOf n) (λ bytes. Ok (None, bytes)) (nothing_exact None) (none_after n h) (after_none n h))
    (λ h. made_exact Some (λ key. key) (IsKeyOf n) (key_of n) rest_of_after (IsAfterOf n) (key_of_exact n) (record { forth = some_forth n h; back = some_back n h }))

after_forth : (n : ℕ) (o : Option (List ℕ)) → n ≤ MAX_KEY_LEN → IsAfterOf n o → (n ∷ rest_of_after o ≡ after_bytes o) × IfSome o IsKey
after_forth n None le f = (rw f refl, tt)
after_forth zero (Some key) le f = absurd (true≢false f.1)
after_forth (suc n) (Some key) le f = (ap (λ (m : ℕ). m ∷ key) (sym f.0.0), record { some = omega (arith, f.0.0); short = omega (arith, le, f.0.0); clean = f.0.1 })

after_back : (o : Option (List ℕ)) → IfSome o IsKey → (p : ℕ × Option (List ℕ)) × (IsBetween IsByte 0 MAX_KEY_LEN p.0 × IsAfterOf p.0 p.1) × (p.1 ≡ o)
after_back None f = ((0, None), (record { fits = omega arith; low = omega arith; high = omega arith }, refl), refl)
after_back (Some key) f = ((length key, Some key), (record { fits = omega (arith, f.short); low = omega arith; high = f.short }, ((refl, f.clean), some_length key f.some)), refl)
  where
    some_length : (key : List ℕ) → 1 ≤ length key → eqb (length key) 0 ≡ false
    some_length [] h = absurd (omega (arith, h))
    some_length (b ∷ key) h = search rules

pub after_exact : IsExact after_bytes (λ o. IfSome o IsKey) after_at
unfolding after_at
after_exact = made_exact (λ p. p.1) (λ p. byte_text p.0 ++ rest_of_after p.1) (λ p. IsBetween IsByte 0 MAX_KEY_LEN p.0 × IsAfterOf p.0 p.1) (chain (within 0 MAX_KEY_LEN byte_at) after_of) after_bytes (λ o. IfSome o IsKey)
    (chain_exact byte_text (IsBetween IsByte 0 MAX_KEY_LEN) (within 0 MAX_KEY_LEN byte_at) (λ n. rest_of_after) IsAfterOf after_of (byte_within_exact 0 MAX_KEY_LEN) after_of_exact)
    (record { forth = λ p f. after_forth p.0 p.1 f.0.high f.1; back = after_back })

-- ---- stamps

abbrev pub IsStamp : Stamp → Type 0
IsStamp s = IsStampValue s × IsWithin s

abbrev pub Below64 : ℕ → Type 0
Below64 n = n < 2 ^ 64

abbrev pub Below32 : ℕ → Type 0
Below32 n = n < 2 ^ 32

abbrev pub Below16 : ℕ → Type 0
Below16 n = n < 2 ^ 16

pub number16_exact : IsExact (to_be_bytes w16) Below16 (number_at w16)
number16_exact = number_exact w16 (2 ^ 16) wide16

pub number32_exact : IsExact (to_be_bytes w32) Below32 (number_at w32)
number32_exact = number_exact w32 (2 ^ 32) wide32

pub number64_exact : IsExact (to_be_bytes w64) Below64 (number_at w64)
number64_exact = number_exact w64 (2 ^ 64) wide64

pub stamp_exact : IsExact stamp_bytes IsStamp stamp_at
unfolding stamp_at
stamp_exact = made_exact (λ p. record { version = p.0; node = p.1 }) (λ p. to_be_bytes w64 p.0 ++ to_be_bytes w16 p.1) (λ p. IsBetween Below64 0 MAX_VERSION p.0 × Below16 p.1) (both (within 0 MAX_VERSION (number_at w64)) (number_at w16)) stamp_bytes IsStamp
    (both_exact (to_be_bytes w64) (IsBetween Below64 0 MAX_VERSION) (within 0 MAX_VERSION (number_at w64)) (to_be_bytes w16) Below16 (number_at w16) (within_exact (to_be_bytes w64) Below64 0 MAX_VERSION (number_at w64) number64_exact) number16_exact)
    (record {
      forth = λ p f. (refl, (record { version = f.0.fits; node = f.1 }, f.0.high));
      back = λ s f. ((s.version, s.node), (record { fits = f.0.version; low = omega arith; high = f.1 }, f.0.node), refl);
    })

-- ---- contents

pub data_exact : IsExact data_bytes IsData data_at
unfolding data_at
data_exact = made_exact (λ p. p.1) (λ p. to_be_bytes w32 p.0 ++ p.1) (λ p. IsBetween Below32 0 MAX_DATA_LEN p.0 × (length p.1 ≡ p.0)) (chain (within 0 MAX_DATA_LEN (number_at w32)) bytes_at) data_bytes IsData
    (chain_exact (to_be_bytes w32) (IsBetween Below32 0 MAX_DATA_LEN) (within 0 MAX_DATA_LEN (number_at w32)) (λ n. λ text. text) (λ n. λ text. length text ≡ n) bytes_at (within_exact (to_be_bytes w32) Below32 0 MAX_DATA_LEN (number_at w32) number32_exact) bytes_exact)
    (record {
      forth = λ p f. (ap (λ (n : ℕ). to_be_bytes w32 n ++ p.1) (sym f.1), record { short = omega (arith, f.0.high, f.1) });
      back = λ text f. ((length text, text), (record { fits = omega (arith, f.short); low = omega arith; high = f.short }, refl), refl);
    })

pub some_content_exact : IsExact some_content_bytes IsContentValue some_content_at
unfolding some_content_at
some_content_exact = made_exact (λ p. record { flags = p.0; bytes = p.1 }) (λ p. to_be_bytes w32 p.0 ++ data_bytes p.1) (λ p. Below32 p.0 × IsData p.1) (both (number_at w32) data_at) some_content_bytes IsContentValue
    (both_exact (to_be_bytes w32) Below32 (number_at w32) data_bytes IsData data_at number32_exact data_exact)
    (record {
      forth = λ p f. (refl, record { flags = f.0; bytes = f.1 });
      back = λ content f. ((content.flags, content.bytes), (f.flags, f.bytes), refl);
    })

abbrev pub OfUpdate : ℕ → Option Content → Type 0
OfUpdate n None = n ≡ 2
OfUpdate n (Some content) = IsContentValue content × (eqb n 2 ≡ false)

none_content : (n : ℕ) → eqb n 2 ≡ true → (o : Option Content) → o ≡ None → ([] ≡ content_bytes o) × OfUpdate n o
none_content n h None e = (refl, eqb-true n 2 h)
none_content n h (Some content) e = absurd cc

content_none : (n : ℕ) → eqb n 2 ≡ true → (o : Option Content) → OfUpdate n o → ([] ≡ content_bytes o) × (o ≡ None)
content_none n h None f = (refl, refl)
content_none n h (Some content) f = absurd cc

content_back : (n : ℕ) → eqb n 2 ≡ false → (o : Option Content) → OfUpdate n o → (content : Content) × IsContentValue content × (Some content ≡ o)
content_back n h None f = absurd (true≢false (ap (λ (m : ℕ). eqb m 2) (sym f) ∙ h))
content_back n h (Some content) f = (content, f.0, refl)

pub content_of_exact : (n : ℕ) → IsExact content_bytes (OfUpdate n) (content_of n)
unfolding content_of
content_of_exact n = cond_exact content_bytes (OfUpdate n) (λ bytes. Ok (None, bytes)) (made Some some_content_at) (eqb n 2)
    (λ h. same_exact (λ o. []) (λ o. o ≡ None) content_bytes (OfUpdate n) (λ bytes. Ok (None, bytes)) (nothing_exact None) (none_content n h) (content_none n h))
    (λ h. made_exact Some some_content_bytes IsContentValue some_content_at content_bytes (OfUpdate n) some_content_exact (record { forth = λ content f. (refl, (f, h)); back = content_back n h }))

-- the byte of an update says its kind and whether a content follows
pub update_forth : (n : ℕ) (o : Option Content) → n ≤ 2 → OfUpdate n o → (update_byte (update_kind n) o ≡ n) × (Leaves (update_kind n) o × IfSome o IsContentValue)
update_forth n None le f = subst (λ (m : ℕ). (update_byte (update_kind m) None ≡ m) × (Leaves (update_kind m) None × ⊤)) (sym f) (refl, (refl, tt))
update_forth zero (Some content) le f = (refl, (tt, f.0))
update_forth (suc zero) (Some content) le f = (refl, (tt, f.0))
update_forth (suc (suc n)) (Some content) le f = absurd (true≢false (ap (λ (m : ℕ). eqb m 2) two ∙ f.1))
  where
    two : 2 ≡ suc (suc n)
    two = omega (arith, le)

pub update_back : (kind : Kind) (o : Option Content) → Leaves kind o → IfSome o IsContentValue → IsBetween IsByte 0 2 (update_byte kind o) × OfUpdate (update_byte kind o) o × (update_kind (update_byte kind o) ≡ kind)
update_back Write None leaves f = absurd cc
update_back Write (Some content) leaves f = (record { fits = omega arith; low = omega arith; high = omega arith }, (f, refl), refl)
update_back Rmw None leaves f = (record { fits = omega arith; low = omega arith; high = omega arith }, refl, refl)
update_back Rmw (Some content) leaves f = (record { fits = omega arith; low = omega arith; high = omega arith }, (f, refl), refl)

-- ---- items

flag_forth : (n : ℕ) → IsBetween IsByte 0 1 n → (byte_text n ≡ flag_byte (eqb n 1) ∷ []) × ⊤
flag_forth zero f = (refl, tt)
flag_forth (suc zero) f = (refl, tt)
flag_forth (suc (suc n)) f = absurd (omega (arith, f.high))

flag_back : (b : Bool) → ⊤ → (n : ℕ) × IsBetween IsByte 0 1 n × (eqb n 1 ≡ b)
flag_back false f = (0, record { fits = omega arith; low = omega arith; high = omega arith }, refl)
flag_back true f = (1, record { fits = omega arith; low = omega arith; high = omega arith }, refl)

abbrev pub flag_text : Bool → List ℕ
flag_text b = flag_byte b ∷ []

pub flag_exact : IsExact flag_text (λ b. ⊤) flag_at
unfolding flag_at
flag_exact = made_exact (λ n. eqb n 1) byte_text (IsBetween IsByte 0 1) (within 0 1 byte_at) flag_text (λ b. ⊤) (byte_within_exact 0 1) (record { forth = flag_forth; back = flag_back })

abbrev pub IsItem : CopyItem → Type 0
IsItem item = IsItemValue item × (IsWithin item.stamp × Leaves item.kind item.content)

abbrev state_at : List ℕ → Result ((ℕ × (Bool × Option Content)) × List ℕ) Stop
state_at = chain (within 0 2 byte_at) (λ n. both flag_at (content_of n))

abbrev state_bytes : ℕ × (Bool × Option Content) → List ℕ
state_bytes p = byte_text p.0 ++ (flag_text p.1.0 ++ content_bytes p.1.1)

abbrev IsState : ℕ × (Bool × Option Content) → Type 0
IsState p = IsBetween IsByte 0 2 p.0 × (⊤ × OfUpdate p.0 p.1.1)

state_exact : IsExact state_bytes IsState state_at
state_exact = chain_exact byte_text (IsBetween IsByte 0 2) (within 0 2 byte_at) (λ n. λ q. flag_text q.0 ++ content_bytes q.1) (λ n. λ q. ⊤ × OfUpdate n q.1) (λ n. both flag_at (content_of n)) (byte_within_exact 0 2)
    (λ n. both_exact flag_text (λ b. ⊤) flag_at content_bytes (OfUpdate n) (content_of n) flag_exact (content_of_exact n))

abbrev item_text : List ℕ × (Stamp × (ℕ × (Bool × Option Content))) → List ℕ
item_text p = key_bytes p.0 ++ (stamp_bytes p.1.0 ++ state_bytes p.1.1)

abbrev IsItemRead : List ℕ × (Stamp × (ℕ × (Bool × Option Content))) → Type 0
IsItemRead p = IsKey p.0 × (IsStamp p.1.0 × IsState p.1.1)

item_forth : (p : List ℕ × (Stamp × (ℕ × (Bool × Option Content)))) → IsItemRead p → (item_text p ≡ item_bytes (item_of p)) × IsItem (item_of p)
item_forth p f =
    let u = update_forth p.1.1.0 p.1.1.1.1 f.1.1.0.high f.1.1.1.1 in
    (ap (λ (n : ℕ). key_bytes p.0 ++ (stamp_bytes p.1.0 ++ (n ∷ flag_byte p.1.1.1.0 ∷ content_bytes p.1.1.1.1))) (sym u.0), (record { key = f.0; stamp = f.1.0.0; content = u.1.1 }, (f.1.0.1, u.1.0)))

item_back : (item : CopyItem) → IsItem item → (p : List ℕ × (Stamp × (ℕ × (Bool × Option Content)))) × IsItemRead p × (item_of p ≡ item)
item_back item f =
    let u = update_back item.kind item.content f.1.1 f.0.content in
    ((item.key, (item.stamp, (update_byte item.kind item.content, (item.valid, item.content)))), (f.0.key, ((f.0.stamp, f.1.0), (u.0, (tt, u.1)))), ap (λ (kind : Kind). record item { kind = kind }) u.2)

pub item_exact : IsExact item_bytes IsItem item_at
unfolding item_at
item_exact = made_exact item_of item_text IsItemRead (both key_at (both stamp_at state_at)) item_bytes IsItem
    (both_exact key_bytes IsKey key_at (λ q. stamp_bytes q.0 ++ state_bytes q.1) (λ q. IsStamp q.0 × IsState q.1) (both stamp_at state_at) key_exact
    (both_exact stamp_bytes IsStamp stamp_at state_bytes IsState state_at stamp_exact state_exact))
    (record { forth = item_forth; back = item_back })

abbrev pub AreItems : ℕ → List CopyItem → Type 0
AreItems n items = (length items ≡ n) × AllByRecursion IsItem items

items_take : (n : ℕ) (bytes : List ℕ) (items : List CopyItem) (rest : List ℕ) → IsBytes bytes → items_of n bytes ≡ Ok (items, rest) → Takes bytes (flat_map item_bytes items) rest × AreItems n items
unfolding items_of
items_take zero bytes items rest fits e =
    subst (λ (y : List CopyItem × List ℕ). Takes bytes (flat_map item_bytes y.0) y.1 × AreItems 0 y.0) (ok_is ([], bytes) (items, rest) e) (record { parts = refl; rest_fits = fits }, (refl, tt))
items_take (suc n) bytes items rest fits e =
    let a = bind_ok (item_at bytes) (λ first. items_of n first.1 >>= λ others. Ok (first.0 ∷ others.0, others.1)) (items, rest) e in
    let b = bind_ok (items_of n a.0.1) (λ others. Ok (a.0.0 ∷ others.0, others.1)) (items, rest) a.2 in
    let first = item_exact.takes bytes a.0.0 a.0.1 fits a.1 in
    let second = items_take n a.0.1 b.0.0 b.0.1 first.0.rest_fits b.1 in
    let joined = Takes-then bytes (item_bytes a.0.0) a.0.1 (flat_map item_bytes b.0.0) b.0.1 first.0 second.0 in
    let all : List CopyItem × List ℕ = (a.0.0 ∷ b.0.0, b.0.1) in
    subst (λ (y : List CopyItem × List ℕ). Takes bytes (flat_map item_bytes y.0) y.1 × AreItems (suc n) y.0) (ok_is all (items, rest) b.2) (rw flat_map-cons joined, (ap suc second.1.0, (first.1, second.1.1)))

items_again : (items : List CopyItem) (rest : List ℕ) → AllByRecursion IsItem items → items_of (length items) (flat_map item_bytes items ++ rest) ≡ Ok (items, rest)
unfolding items_of
items_again [] rest fits = refl
items_again (item ∷ items) rest fits =
    let regrouped : flat_map item_bytes (item ∷ items) ++ rest ≡ item_bytes item ++ (flat_map item_bytes items ++ rest) = ap (λ (x : List ℕ). x ++ rest) (flat_map-cons item_bytes item items) ∙ append_assoc (item_bytes item) (flat_map item_bytes items) rest in
    ap (items_of (suc (length items))) regrouped ∙ rw (item_exact.again item (flat_map item_bytes items ++ rest) fits.0, items_again items rest fits.1) refl

pub items_of_exact : (n : ℕ) → IsExact (flat_map item_bytes) (AreItems n) (items_of n)
items_of_exact n = record {
  takes = items_take n;
  again = λ items rest f. subst (λ (m : ℕ). items_of m (flat_map item_bytes items ++ rest) ≡ Ok (items, rest)) f.0 (items_again items rest f.1);
}

abbrev pub IsBatchRead : List CopyItem → Type 0
IsBatchRead items = (length items ≤ 64) × AllByRecursion IsItem items

pub items_exact : IsExact items_bytes IsBatchRead items_at
unfolding items_at
items_exact = made_exact (λ p. p.1) (λ p. byte_text p.0 ++ flat_map item_bytes p.1) (λ p. IsBetween IsByte 0 64 p.0 × AreItems p.0 p.1) (chain (within 0 64 byte_at) items_of) items_bytes IsBatchRead
    (chain_exact byte_text (IsBetween IsByte 0 64) (within 0 64 byte_at) (λ n. flat_map item_bytes) AreItems items_of (byte_within_exact 0 64) items_of_exact)
    (record {
      forth = λ p f. (ap (λ (n : ℕ). n ∷ flat_map item_bytes p.1) (sym f.1.0), (omega (arith, f.0.high, f.1.0), f.1.1));
      back = λ items f. ((length items, items), (record { fits = omega (arith, f.0); low = omega arith; high = f.0 }, (refl, f.1)), refl);
    })

-- ---- actors and ballots

abbrev number_of_actor : Actor → List ℕ
number_of_actor (Node node) = to_be_bytes w16 node.0
number_of_actor (Manager manager) = to_be_bytes w16 manager

abbrev OfClass : ℕ → Actor → Type 0
OfClass class (Node node) = (class ≡ 0) × Below16 node.0
OfClass class (Manager manager) = (eqb class 0 ≡ false) × IsBetween Below16 0 8 manager

node_back : (class : ℕ) → eqb class 0 ≡ true → (actor : Actor) → OfClass class actor → (n : ℕ) × Below16 n × (Node (record { 0 = n }) ≡ actor)
node_back class h (Node node) f = (node.0, f.1, refl)
node_back class h (Manager manager) f = absurd cc

manager_back : (class : ℕ) → eqb class 0 ≡ false → (actor : Actor) → OfClass class actor → (n : ℕ) × IsBetween Below16 0 8 n × (Manager n ≡ actor)
manager_back class h (Node node) f = absurd (true≢false (ap (λ (m : ℕ). eqb m 0) (sym f.0) ∙ h))
manager_back class h (Manager manager) f = (manager, f.1, refl)

actor_of_exact : (class : ℕ) → IsExact number_of_actor (OfClass class) (actor_of class)
unfolding actor_of
actor_of_exact class = cond_exact number_of_actor (OfClass class) (made (λ n. Node (record { 0 = n })) (number_at w16)) (made Manager (within 0 8 (number_at w16))) (eqb class 0)
    (λ h. made_exact (λ n. Node (record { 0 = n })) (to_be_bytes w16) Below16 (number_at w16) number_of_actor (OfClass class) number16_exact (record { forth = λ n f. (refl, (eqb-true class 0 h, f)); back = node_back class h }))
    (λ h. made_exact Manager (to_be_bytes w16) (IsBetween Below16 0 8) (within 0 8 (number_at w16)) number_of_actor (OfClass class) (within_exact (to_be_bytes w16) Below16 0 8 (number_at w16) number16_exact) (record { forth = λ n f. (refl, (h, f)); back = manager_back class h }))

abbrev pub IsActorRead : Actor → Type 0
IsActorRead actor = IsActorValue actor × IsActor actor

actor_forth : (class : ℕ) (actor : Actor) → class ≤ 1 → OfClass class actor → (class ∷ number_of_actor actor ≡ actor_bytes actor) × IsActorRead actor
actor_forth class (Node node) le f = (ap (λ (c : ℕ). c ∷ to_be_bytes w16 node.0) f.0, (f.1, tt))
actor_forth zero (Manager manager) le f = absurd (true≢false f.0)
actor_forth (suc zero) (Manager manager) le f = (refl, (omega (arith, f.1.high), omega (arith, f.1.high)))
actor_forth (suc (suc class)) (Manager manager) le f = absurd (omega (arith, le))

actor_back : (actor : Actor) → IsActorRead actor → (p : ℕ × Actor) × (IsBetween IsByte 0 1 p.0 × OfClass p.0 p.1) × (p.1 ≡ actor)
actor_back (Node node) f = ((0, Node node), (record { fits = omega arith; low = omega arith; high = omega arith }, (refl, f.0)), refl)
actor_back (Manager manager) f = ((1, Manager manager), (record { fits = omega arith; low = omega arith; high = omega arith }, (refl, record { fits = omega (arith, f.0); low = omega arith; high = omega (arith, f.1) })), refl)

pub actor_exact : IsExact actor_bytes IsActorRead actor_at
unfolding actor_at
actor_exact = made_exact (λ p. p.1) (λ p. byte_text p.0 ++ number_of_actor p.1) (λ p. IsBetween IsByte 0 1 p.0 × OfClass p.0 p.1) (chain (within 0 1 byte_at) actor_of) actor_bytes IsActorRead
    (chain_exact byte_text (IsBetween IsByte 0 1) (within 0 1 byte_at) (λ n. number_of_actor) OfClass actor_of (byte_within_exact 0 1) actor_of_exact)
    (record { forth = λ p f. actor_forth p.0 p.1 f.0.high f.1; back = actor_back })

abbrev pub IsBallotRead : Ballot → Type 0
IsBallotRead ballot = IsBallotValue ballot × IsBallot ballot

pub ballot_exact : IsExact ballot_bytes IsBallotRead ballot_at
unfolding ballot_at
ballot_exact = made_exact (λ p. record { round = p.0; manager = p.1 }) (λ p. to_be_bytes w32 p.0 ++ byte_text p.1) (λ p. Below32 p.0 × IsBetween IsByte 0 8 p.1) (both (number_at w32) (within 0 8 byte_at)) ballot_bytes IsBallotRead
    (both_exact (to_be_bytes w32) Below32 (number_at w32) byte_text (IsBetween IsByte 0 8) (within 0 8 byte_at) number32_exact (byte_within_exact 0 8))
    (record {
      forth = λ p f. (refl, (record { round = f.0; manager = f.1.fits }, omega (arith, f.1.high)));
      back = λ ballot f. ((ballot.round, ballot.manager), (f.0.round, record { fits = omega (arith, f.0.manager); low = omega arith; high = omega (arith, f.1) }), refl);
    })
