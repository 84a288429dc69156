-- That a value and the values behind it are read exactly, by their texts.
use Rattle.std.proofs.Common.{◌≡◌, ℕ, ◌-◌, ◌^◌, ◌≤◌, List, [], ◌∷◌, ◌++◌, length, Bool, true, false, refl, ap, ◌∙◌, sym, arith, subst, append_assoc, append-nil}
use Rattle.std.specs.Prelude.{Ok, ◌==◌, if◌then◌else◌, decimal, codes}
use Rattle.hk_base.specs.declared.data.TheConstants.{MAX_DATA_LEN}
use Rattle.hk_reply.specs.declared.scan.Tail.{Tail}
use Rattle.hk_reply.specs.declared.scan.Tail.TheVariants.{Space, Return, Either}
use Rattle.hk_reply.specs.declared.reply.Item.{Item}
use Rattle.hk_reply.specs.Scans.{◌>>=◌, ends_at, number_at, key_from, data_at, literal_at}
use Rattle.hk_reply.specs.Reading.{tag_at, body_at, item_at}
use Rattle.hk_reply.specs.Replies.{IsPlainItem}
use Rattle.hk_reply.proofs.Exact.{Seq}
use Rattle.hk_reply.proofs.Simple.{IsKeyText, IsLong, IsThis, true_eq}
use Rattle.hk_reply.proofs.Joining.{IsReader, then_read, same_language, IsNothing, nothing, this}
use Rattle.hk_reply.proofs.Values.{IsNumber, number_read, key_read, data_read}

-- the end of a line, data, and its end
abbrev pub IsBody : ℕ → List ℕ → List ℕ → Type 0
IsBody len d text = (text ≡ 10 ∷ (d ++ 13 ∷ 10 ∷ [])) × (length d ≡ len)

abbrev BodySeq : ℕ → List ℕ → List ℕ → Type 0
BodySeq len = Seq (IsThis (codes "\n")) (λ u. Seq (IsLong len) (λ d. Seq (IsThis (codes "\r\n")) (λ e. IsNothing d)))

to_body : (len : ℕ) (d text : List ℕ) → BodySeq len d text → IsBody len d text
to_body len d text q =
    let r = q.is_second in
    let s = r.is_second in
    (q.whole ∙ ap (λ z. z ++ q.second) q.is_first ∙ ap (λ z. 10 ∷ z) (r.whole ∙ ap (λ z. z ++ r.second) (r.is_first.0 ∙ s.is_second.0) ∙ ap (λ z. d ++ z) (s.whole ∙ ap (λ z. z ++ s.second) s.is_first ∙ ap (λ z. 13 ∷ 10 ∷ z) s.is_second.1)), ap length (sym s.is_second.0) ∙ r.is_first.1)

from_body : (len : ℕ) (d text : List ℕ) → IsBody len d text → BodySeq len d text
from_body len d text q = record { value = tt; first = codes "\n"; second = d ++ 13 ∷ 10 ∷ []; is_first = refl; is_second = record { value = d; first = d; second = 13 ∷ 10 ∷ []; is_first = (refl, q.1); is_second = record { value = tt; first = codes "\r\n"; second = []; is_first = refl; is_second = (refl, refl); whole = refl }; whole = refl }; whole = q.0 }

body_read : (len : ℕ) → IsReader (IsBody len) (body_at len)
unfolding body_at
body_read len = same_language (BodySeq len) (IsBody len) (body_at len) (to_body len) (from_body len) (then_read (IsThis (codes "\n")) (λ u. Seq (IsLong len) (λ d. Seq (IsThis (codes "\r\n")) (λ e. IsNothing d))) (literal_at (codes "\n")) (λ u rest. data_at len rest >>= λ d. (literal_at (codes "\r\n") d.1 >>= λ e. Ok (d.0, e.1))) (this (codes "\n")) (λ u. then_read (IsLong len) (λ d. Seq (IsThis (codes "\r\n")) (λ e. IsNothing d)) (data_at len) (λ d rest. literal_at (codes "\r\n") rest >>= λ e. Ok (d, e.1)) (data_read len) (λ d. then_read (IsThis (codes "\r\n")) (λ e. IsNothing d) (literal_at (codes "\r\n")) (λ e rest. Ok (d, rest)) (this (codes "\r\n")) (λ e. nothing d))))

-- a tag and what ends its line
abbrev pub IsTag : Bool → ℕ → List ℕ → Type 0
IsTag false t text = IsNothing 0 t text
IsTag true t text = (text ≡ decimal t ++ 13 ∷ []) × (t ≤ 2 ^ 64 - 1)

pub return_is : (c : ℕ) → ends_at Return c ≡ true → c ≡ 13
unfolding ends_at
return_is c h = true_eq c 13 h

space_is : (c : ℕ) → ends_at Space c ≡ true → c ≡ 32
unfolding ends_at
space_is c h = true_eq c 32 h

pub return_ends : ends_at Return 13 ≡ true
unfolding ends_at
return_ends = refl

space_ends : ends_at Space 32 ≡ true
unfolding ends_at
space_ends = refl

to_tag : (t : ℕ) (text : List ℕ) → Seq (IsNumber (2 ^ 64 - 1) Return) (λ n. IsNothing n.0) t text → IsTag true t text
to_tag t text q =
    let r = q.is_first in
    let e = return_is q.value.1 r.ends in
    (q.whole ∙ ap (λ z. q.first ++ z) q.is_second.1 ∙ append-nil q.first ∙ r.is ∙ ap (λ z. decimal z ++ q.value.1 ∷ []) q.is_second.0 ∙ ap (λ z. decimal t ++ z ∷ []) e, subst (λ z. z ≤ 2 ^ 64 - 1) q.is_second.0 r.within)

from_tag : (t : ℕ) (text : List ℕ) → IsTag true t text → Seq (IsNumber (2 ^ 64 - 1) Return) (λ n. IsNothing n.0) t text
from_tag t text q = record { value = (t, 13); first = text; second = []; is_first = record { is = q.0; within = q.1; ends = return_ends }; is_second = (refl, refl); whole = sym (append-nil text) }

tag_read : (b : Bool) → IsReader (IsTag b) (tag_at b)
unfolding tag_at
tag_read false = nothing 0
tag_read true = same_language (Seq (IsNumber (2 ^ 64 - 1) Return) (λ n. IsNothing n.0)) (IsTag true) (tag_at true) to_tag from_tag (then_read (IsNumber (2 ^ 64 - 1) Return) (λ n. IsNothing n.0) (number_at (2 ^ 64 - 1) Return) (λ n rest. Ok (n.0, rest)) (number_read (2 ^ 64 - 1) Return (omega arith) (omega arith)) (λ n. nothing n.0))

-- a value behind its first word
abbrev pub tail_text : Bool → ℕ → List ℕ → List ℕ
tail_text true tag more = 32 ∷ (decimal tag ++ 13 ∷ 10 ∷ more)
tail_text false tag more = 13 ∷ 10 ∷ more

abbrev pub item_text : Bool → Item → List ℕ
item_text tags i = i.key ++ 32 ∷ (decimal i.flags ++ 32 ∷ (decimal (length i.bytes) ++ tail_text tags i.tag (i.bytes ++ 13 ∷ 10 ∷ [])))

abbrev pub end_by : Bool → ℕ
end_by true = 32
end_by false = 13

pub record IsValue (tail : Tail) (x : Item × Bool) (text : List ℕ) : Type 0 where
  pub is : text ≡ item_text x.1 x.0
  pub plain : IsPlainItem x.1 x.0
  pub ends : ends_at tail (end_by x.1) ≡ true

abbrev made : List ℕ → ℕ → List ℕ → ℕ → Bool → Item × Bool
made k f d t b = (record { key = k; flags = f; bytes = d; tag = t }, b)

abbrev ItemSeq : Tail → Item × Bool → List ℕ → Type 0
ItemSeq tail = Seq (IsKeyText 0) (λ k. Seq (IsNumber 4294967295 Space) (λ f. Seq (IsNumber MAX_DATA_LEN tail) (λ n. Seq (IsTag (n.1 == 32)) (λ t. Seq (IsBody n.0) (λ d. IsNothing (made k f.0 d t (n.1 == 32)))))))

other_end : (tail : Tail) (c : ℕ) → ends_at tail c ≡ true → (c == 32) ≡ false → c ≡ 13
unfolding ends_at
other_end Space c h e = absurd (cc)
other_end Return c h e = true_eq c 13 h
other_end Either c h e = let k : (if false then true else (c == 13)) ≡ true = rw e at h in true_eq c 13 k

glued : (b : Bool) (c : ℕ) → end_by b ≡ c → (k f l g d : List ℕ) (t : ℕ) → IsTag b t g → (k ++ 32 ∷ []) ++ ((f ++ 32 ∷ []) ++ ((l ++ c ∷ []) ++ (g ++ 10 ∷ (d ++ 13 ∷ 10 ∷ [])))) ≡ k ++ 32 ∷ (f ++ 32 ∷ (l ++ tail_text b t (d ++ 13 ∷ 10 ∷ [])))
glued true c e k f l g d t h = append_assoc k (32 ∷ []) _ ∙ ap (λ z. k ++ 32 ∷ z) (append_assoc f (32 ∷ []) _ ∙ ap (λ z. f ++ 32 ∷ z) (append_assoc l (c ∷ []) _ ∙ ap (λ z. l ++ z ∷ (g ++ 10 ∷ (d ++ 13 ∷ 10 ∷ []))) (sym e) ∙ ap (λ z. l ++ 32 ∷ z) (ap (λ z. z ++ 10 ∷ (d ++ 13 ∷ 10 ∷ [])) h.0 ∙ append_assoc (decimal t) (13 ∷ []) (10 ∷ (d ++ 13 ∷ 10 ∷ [])))))
glued false c e k f l g d t h = append_assoc k (32 ∷ []) _ ∙ ap (λ z. k ++ 32 ∷ z) (append_assoc f (32 ∷ []) _ ∙ ap (λ z. f ++ 32 ∷ z) (append_assoc l (c ∷ []) _ ∙ ap (λ z. l ++ z ∷ (g ++ 10 ∷ (d ++ 13 ∷ 10 ∷ []))) (sym e) ∙ ap (λ z. l ++ 13 ∷ (z ++ 10 ∷ (d ++ 13 ∷ 10 ∷ []))) h.1))

tag_within : (b : Bool) (t : ℕ) (g : List ℕ) → IsTag b t g → t ≤ 2 ^ 64 - 1
tag_within true t g h = h.1
tag_within false t g h = rw (sym h.0) (omega arith)

tag_untold : (b : Bool) (t : ℕ) (g : List ℕ) → IsTag b t g → b ≡ false → t ≡ 0
tag_untold true t g h e = absurd (cc)
tag_untold false t g h e = sym h.0

end_is : (tail : Tail) (c : ℕ) (b : Bool) → (c == 32) ≡ b → ends_at tail c ≡ true → end_by b ≡ c
end_is tail c true e h = sym (true_eq c 32 e)
end_is tail c false e h = sym (other_end tail c h e)

-- the parts of a value make it
value_of : (tail : Tail) (k : List ℕ) (f : ℕ) (n c : ℕ) (t : ℕ) (d g text : List ℕ) → IsKeyText 0 k (k ++ 32 ∷ []) → f ≤ 4294967295 → n ≤ MAX_DATA_LEN → ends_at tail c ≡ true → IsTag (c == 32) t g → length d ≡ n → text ≡ (k ++ 32 ∷ []) ++ ((decimal f ++ 32 ∷ []) ++ ((decimal n ++ c ∷ []) ++ (g ++ 10 ∷ (d ++ 13 ∷ 10 ∷ [])))) → IsValue tail (made k f d t (c == 32)) text
value_of tail k f n c t d g text kk fl nl ce tg dl is =
    let some = kk.some in
    let short = kk.short in
    record {
      is = is ∙ glued (c == 32) c (end_is tail c (c == 32) refl ce) k (decimal f) (decimal n) g d t tg ∙ ap (λ z. k ++ 32 ∷ (decimal f ++ 32 ∷ (decimal z ++ tail_text (c == 32) t (d ++ 13 ∷ 10 ∷ [])))) (sym dl);
      plain = record { key = record { some = grind (arith, some); short = grind (arith, short); clean = kk.clean }; flags = fl; bytes = rw dl nl; tag = tag_within (c == 32) t g tg; untold = tag_untold (c == 32) t g tg };
      ends = rw (end_is tail c (c == 32) refl ce) ce;
    }

to_item : (tail : Tail) (x : Item × Bool) (text : List ℕ) → ItemSeq tail x text → IsValue tail x text
to_item tail x text q =
    let q2 = q.is_second in
    let q3 = q2.is_second in
    let q4 = q3.is_second in
    let q5 = q4.is_second in
    let e = space_is q2.value.1 q2.is_first.ends in
    subst (λ z. IsValue tail z text) q5.is_second.0 (value_of tail q.value q2.value.0 q3.value.0 q3.value.1 q4.value q5.value q4.first text
    (subst (λ z. IsKeyText 0 q.value z) q.is_first.is q.is_first) q2.is_first.within q3.is_first.within q3.is_first.ends q4.is_first q5.is_first.1
    (q.whole ∙ ap (λ z. z ++ q.second) q.is_first.is ∙ ap (λ z. (q.value ++ 32 ∷ []) ++ z) (q2.whole ∙ ap (λ z. z ++ q2.second) (q2.is_first.is ∙ ap (λ z. decimal q2.value.0 ++ z ∷ []) e) ∙ ap (λ z. (decimal q2.value.0 ++ 32 ∷ []) ++ z) (q3.whole ∙ ap (λ z. z ++ q3.second) q3.is_first.is ∙ ap (λ z. (decimal q3.value.0 ++ q3.value.1 ∷ []) ++ z) (q4.whole ∙ ap (λ z. q4.first ++ z) (q5.whole ∙ ap (λ z. q5.first ++ z) q5.is_second.1 ∙ append-nil q5.first ∙ q5.is_first.0))))))

tag_part : Bool → ℕ → List ℕ
tag_part true t = decimal t ++ 13 ∷ []
tag_part false t = []

from_parts : (tail : Tail) (i : Item) (c : ℕ) (g text : List ℕ) → ends_at tail c ≡ true → IsPlainItem (c == 32) i → IsTag (c == 32) i.tag g → text ≡ (i.key ++ 32 ∷ []) ++ ((decimal i.flags ++ 32 ∷ []) ++ ((decimal (length i.bytes) ++ c ∷ []) ++ (g ++ 10 ∷ (i.bytes ++ 13 ∷ 10 ∷ [])))) → ItemSeq tail (i, c == 32) text
from_parts tail i c g text ce p tg is =
    let some = p.key.some in
    let short = p.key.short in
    record {
      value = i.key;
      first = i.key ++ 32 ∷ [];
      second = (decimal i.flags ++ 32 ∷ []) ++ ((decimal (length i.bytes) ++ c ∷ []) ++ (g ++ 10 ∷ (i.bytes ++ 13 ∷ 10 ∷ [])));
      is_first = record { is = refl; clean = p.key.clean; some = grind (arith, some); short = grind (arith, short) };
      is_second = record {
        value = (i.flags, 32);
        first = decimal i.flags ++ 32 ∷ [];
        second = (decimal (length i.bytes) ++ c ∷ []) ++ (g ++ 10 ∷ (i.bytes ++ 13 ∷ 10 ∷ []));
        is_first = record { is = refl; within = p.flags; ends = space_ends };
        is_second = record {
          value = (length i.bytes, c);
          first = decimal (length i.bytes) ++ c ∷ [];
          second = g ++ 10 ∷ (i.bytes ++ 13 ∷ 10 ∷ []);
          is_first = record { is = refl; within = p.bytes; ends = ce };
          is_second = record {
            value = i.tag;
            first = g;
            second = 10 ∷ (i.bytes ++ 13 ∷ 10 ∷ []);
            is_first = tg;
            is_second = record { value = i.bytes; first = 10 ∷ (i.bytes ++ 13 ∷ 10 ∷ []); second = []; is_first = (refl, refl); is_second = (refl, refl); whole = sym (append-nil (10 ∷ (i.bytes ++ 13 ∷ 10 ∷ []))) };
            whole = refl;
          };
          whole = refl;
        };
        whole = refl;
      };
      whole = is;
    }

from_item : (tail : Tail) (i : Item) (b : Bool) (text : List ℕ) → IsValue tail (i, b) text → ItemSeq tail (i, b) text
from_item tail i true text q = let tg : IsTag true i.tag (decimal i.tag ++ 13 ∷ []) = (refl, q.plain.tag) in from_parts tail i 32 (decimal i.tag ++ 13 ∷ []) text q.ends q.plain tg (q.is ∙ sym (glued true 32 refl i.key (decimal i.flags) (decimal (length i.bytes)) (decimal i.tag ++ 13 ∷ []) i.bytes i.tag tg))
from_item tail i false text q = let tg : IsTag false i.tag [] = (sym (q.plain.untold refl), refl) in from_parts tail i 13 [] text q.ends q.plain tg (q.is ∙ sym (glued false 13 refl i.key (decimal i.flags) (decimal (length i.bytes)) [] i.bytes i.tag tg))

pub item_read : (tail : Tail) → IsReader (IsValue tail) (item_at tail)
unfolding item_at
item_read tail = same_language (ItemSeq tail) (IsValue tail) (item_at tail) (to_item tail) (λ x text q. from_item tail x.0 x.1 text q)
    (then_read (IsKeyText 0) (λ k. Seq (IsNumber 4294967295 Space) (λ f. Seq (IsNumber MAX_DATA_LEN tail) (λ n. Seq (IsTag (n.1 == 32)) (λ t. Seq (IsBody n.0) (λ d. IsNothing (made k f.0 d t (n.1 == 32))))))) (key_from 0) _ key_read (λ k.
    then_read (IsNumber 4294967295 Space) (λ f. Seq (IsNumber MAX_DATA_LEN tail) (λ n. Seq (IsTag (n.1 == 32)) (λ t. Seq (IsBody n.0) (λ d. IsNothing (made k f.0 d t (n.1 == 32)))))) (number_at 4294967295 Space) (λ f rest. number_at MAX_DATA_LEN tail rest >>= λ n. (tag_at (n.0.1 == 32) n.1 >>= λ t. (body_at n.0.0 t.1 >>= λ d. Ok (made k f.0 d.0 t.0 (n.0.1 == 32), d.1)))) (number_read 4294967295 Space (omega arith) (omega arith)) (λ f.
    then_read (IsNumber MAX_DATA_LEN tail) (λ n. Seq (IsTag (n.1 == 32)) (λ t. Seq (IsBody n.0) (λ d. IsNothing (made k f.0 d t (n.1 == 32))))) (number_at MAX_DATA_LEN tail) (λ n rest. tag_at (n.1 == 32) rest >>= λ t. (body_at n.0 t.1 >>= λ d. Ok (made k f.0 d.0 t.0 (n.1 == 32), d.1))) (number_read MAX_DATA_LEN tail (omega arith) (omega arith)) (λ n.
    then_read (IsTag (n.1 == 32)) (λ t. Seq (IsBody n.0) (λ d. IsNothing (made k f.0 d t (n.1 == 32)))) (tag_at (n.1 == 32)) (λ t rest. body_at n.0 rest >>= λ d. Ok (made k f.0 d.0 t (n.1 == 32), d.1)) (tag_read (n.1 == 32)) (λ t.
    then_read (IsBody n.0) (λ d. IsNothing (made k f.0 d t (n.1 == 32))) (body_at n.0) (λ d rest. Ok (made k f.0 d t (n.1 == 32), rest)) (body_read n.0) (λ d. nothing (made k f.0 d t (n.1 == 32))))))))

pub either_ends : (tags : Bool) → ends_at Either (end_by tags) ≡ true
unfolding ends_at
either_ends true = refl
either_ends false = refl
