-- How the parts of a text are read.
use Rattle.std.proofs.Common.{◌≡◌, ℕ, zero, suc, ◌+◌, ◌<◌, ◌≤◌, List, [], ◌∷◌, length, drop, refl, arith, Bool, false, Some, ◌++◌, take, true, ◌∙◌, ap, sym, append_assoc, append-nil}
use Rattle.std.specs.Prelude.{Result, Ok, Err}
use Rattle.hk_reply.specs.declared.scan.Stop.TheVariants.{Memory, Need, Bad}
use Rattle.hk_reply.specs.Scans.{Fails, ◌>>=◌, key_from, literal_at, longer, ends_at, number_from}
use Rattle.hk_reply.specs.Reading.{with_items, items_at, turn_at}
use Rattle.hk_reply.specs.declared.scan.Tail.{Tail}
use Rattle.hk_reply.specs.declared.scan.Stop.{Stop}
use Rattle.hk_reply.specs.declared.reply.Item.{Item}
use Rattle.hk_base.specs.KeyBytes.{is_bad_byte}
use Rattle.hk_base.specs.declared.key.TheConstants.{MAX_KEY_LEN}
use Rattle.std.specs.Prelude.{◌==◌, ◌&&◌, ◌||◌, nat_lt}
use Rattle.std.proofs.lemmas.Bool.Decides.{nat_tests}

pub needs : (t : List ℕ) (i : ℕ) (r : List ℕ) → i < length t → length r ≡ 0 → literal_at (drop i t) r ≡ Err Need
needs [] i r lt e = absurd (grind (arith, lt))
needs (c ∷ cs) zero [] lt e = refl
needs (c ∷ cs) zero (b ∷ bs) lt e = absurd (grind (arith, e))
needs (c ∷ cs) (suc i) r lt e = needs cs i r (grind (arith, lt)) e

pub number_turn : (limit n b more : ℕ) (tail : Tail) (rest others : List ℕ) → rest ≡ b ∷ others → ends_at tail b ≡ false → longer limit n b ≡ Some more → number_from limit tail n rest ≡ number_from limit tail more others
number_turn limit n b more tail rest others e f g = rw (e, f, g) refl

abbrev pub with_front : List ℕ → Result (List ℕ × List ℕ) Stop → Result (List ℕ × List ℕ) Stop
with_front front read = read >>= λ k. Ok (front ++ k.0, k.1)

pub take_next : (n : ℕ) (bs : List ℕ) (b : ℕ) (others : List ℕ) → drop n bs ≡ b ∷ others → (take (suc n) bs ≡ take n bs ++ b ∷ []) × (drop (suc n) bs ≡ others)
take_next zero [] b others e = absurd (cc)
take_next zero (c ∷ cs) b others e = let p : c ≡ b = cc in let q : cs ≡ others = cc in (rw p refl, q)
take_next (suc n) [] b others e = absurd (cc)
take_next (suc n) (c ∷ cs) b others e = let t = take_next n cs b others e in (ap (λ x. c ∷ x) t.0, t.1)

longer_front : (front : List ℕ) (b : ℕ) (r : Result (List ℕ × List ℕ) Stop) → with_front front (r >>= λ k. Ok (b ∷ k.0, k.1)) ≡ with_front (front ++ b ∷ []) r
longer_front front b (Ok k) = ap (λ x. Ok (x, k.1)) (sym (append_assoc front (b ∷ []) k.0))
longer_front front b (Err e) = refl

pub key_done : (n b : ℕ) (front rest others : List ℕ) → rest ≡ b ∷ others → b ≡ 32 → 0 < n → with_front front (key_from n rest) ≡ Ok (front, others)
key_done n b front rest others e f g =
    let t : ((b == 32) && nat_lt 0 n) ≡ true = grind (arith, nat_tests, f, g) in
    rw (e, t) (ap (λ x. Ok (x, others)) (append-nil front))

pub key_turn : (n b : ℕ) (bytes rest others : List ℕ) → rest ≡ b ∷ others → rest ≡ drop n bytes → ((b == 32) && nat_lt 0 n) ≡ false → (is_bad_byte b || (n == MAX_KEY_LEN)) ≡ false → with_front (take n bytes) (key_from n rest) ≡ with_front (take (n + 1) bytes) (key_from (n + 1) others)
key_turn n b bytes rest others e f g h =
    let t = take_next n bytes b others (sym f ∙ e) in
    let s : suc n ≡ n + 1 = omega arith in
    let u : take (n + 1) bytes ≡ take n bytes ++ b ∷ [] = rw s at t.0 in
    rw (e, g, h, u) (longer_front (take n bytes) b (key_from (n + 1) others))

pub drop_turn : (n b : ℕ) (bytes rest others : List ℕ) → rest ≡ b ∷ others → rest ≡ drop n bytes → others ≡ drop (n + 1) bytes
drop_turn n b bytes rest others e f =
    let t = take_next n bytes b others (sym f ∙ e) in
    let s : suc n ≡ n + 1 = omega arith in
    sym (rw s at t.1)

pub key_short : (n b : ℕ) → (is_bad_byte b || (n == MAX_KEY_LEN)) ≡ false → n ≤ MAX_KEY_LEN → n + 1 ≤ MAX_KEY_LEN
key_short n b e l = at_tests (is_bad_byte b) (n == MAX_KEY_LEN) (λ f. grind (arith, nat_tests, f, l)) e
  where
    at_tests : (s t : Bool) → (t ≡ false → n + 1 ≤ MAX_KEY_LEN) → (s || t) ≡ false → n + 1 ≤ MAX_KEY_LEN
    at_tests true t p e = absurd (cc)
    at_tests false true p e = absurd (cc)
    at_tests false false p e = p refl

pub rest_turn : (n b m : ℕ) (rest others : List ℕ) → rest ≡ b ∷ others → n + length rest ≡ m → n + 1 + length others ≡ m
rest_turn n b m rest others e l = let k : n + length (b ∷ others) ≡ m = rw e at l in grind (arith, k)

one_item : (front : List Item) (item : Item) (r : Result (List Item × List ℕ) Stop) → with_items front (r >>= λ x. Ok (item ∷ x.0, x.1)) ≡ with_items (front ++ item ∷ []) r
one_item front item (Ok x) = ap (λ y. Ok (y, x.1)) (sym (append_assoc front (item ∷ []) x.0))
one_item front item (Err e) = refl

pub items_more : (n m : ℕ) (tags : Bool) (front longer : List Item) (item : Item) (bytes rest : List ℕ) → n ≡ suc m → longer ≡ front ++ item ∷ [] → turn_at tags bytes ≡ Ok (Some item, rest) → with_items front (items_at n tags bytes) ≡ with_items longer (items_at m tags rest)
items_more n m tags front longer item bytes rest e k h = rw (e, h, k) (one_item front item (items_at m tags rest))

-- the next one can't be read, and so the others can't
pub items_fail : (n m : ℕ) (tags : Bool) (front : List Item) (bytes : List ℕ) (stop : Stop) → n ≡ suc m → Fails stop (turn_at tags bytes) → Fails stop (with_items front (items_at n tags bytes))
items_fail n m tags front bytes Memory e h = tt
items_fail n m tags front bytes Need e h = rw (e, h) refl
items_fail n m tags front bytes (Bad left) e h = rw (e, h) refl
