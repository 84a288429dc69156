-- That the values behind the first one are read exactly, by their texts.
use Rattle.std.proofs.Common.{◌≡◌, ℕ, zero, suc, ◌<◌, List, [], ◌∷◌, ◌++◌, length, Bool, true, false, Option, Some, None, refl, ap, ◌∙◌, sym, arith, subst, ◌⊎◌, inl, inr, append-nil, length-append}
use Rattle.std.specs.Prelude.{Result, Ok, Err, ◌==◌, if◌then◌else◌, codes}
use Rattle.hk_reply.specs.declared.scan.Stop.{Stop}
use Rattle.hk_reply.specs.declared.scan.Stop.TheVariants.{Need, Bad}
use Rattle.hk_reply.specs.declared.reply.Item.{Item}
use Rattle.hk_reply.specs.Scans.{◌>>=◌, and_then, ends_at, literal_at}
use Rattle.hk_reply.specs.Reading.{item_at, more_at, tail_of, turn_by, turn_at, items_at}
use Rattle.hk_reply.specs.Replies.{IsPlainItem}
use Rattle.hk_reply.specs.Stops.{Begins, StopsAt}
use Rattle.hk_reply.proofs.Exact.{IsExactBelow, Seq, seq, bind_ok, bind_err}
use Rattle.hk_reply.proofs.Simple.{IsThis, both_are, heads, true_eq, false_ne}
use Rattle.hk_reply.proofs.Joining.{IsReader, then_read, same_language, same_below, IsNothing, nothing, this}
use Rattle.hk_reply.proofs.Items.{IsValue, item_read, item_text, end_by}

-- what is read is changed
abbrev pub Mapped : {A B : Type 0} → (A → B) → (A → List ℕ → Type 0) → B → List ℕ → Type 0
Mapped {A} f L b text = (a : A) × (f a ≡ b) × L a text

pub mapped : {A B : Type 0} (n : ℕ) (f : A → B) (L : A → List ℕ → Type 0) (s : List ℕ → Result (A × List ℕ) Stop) → IsExactBelow n L s → IsExactBelow n (Mapped f L) (λ bs. s bs >>= λ x. Ok (f x.0, x.1))
mapped {A} {B} n f L s e = record {
  found = λ bs b rest lt h. (let x = bind_ok (s bs) _ (b, rest) h in let w = both_are (whole (f x.0.0) x.0.1) (f x.0.0) b x.0.1 rest refl x.2 in let t = e.found bs x.0.0 x.0.1 lt x.1 in (t.0, (x.0.0, w.0, t.1), t.2 ∙ ap (λ z. t.0 ++ z) w.1));
  need = λ bs lt h. elim (bind_err (s bs) _ Need h) [ inl k ↦ (let g = e.need bs lt k in (f g.0, g.1, (g.0, refl, g.2))) | inr x ↦ absurd (let z : whole (f x.0.0) x.0.1 ≡ Err Need = x.2 in cc) ];
  bad = λ bs left lt h. elim (bind_err (s bs) _ (Bad left) h) [ inl k ↦ (let st = e.bad bs left lt k in let g = st.goes in record { front = st.front; bad = st.bad; back = st.back; is = st.is; at = st.at; goes = (f g.0, g.1, (g.0, refl, g.2)); ends = λ k. st.ends (k.2.0, k.1, k.2.2) }) | inr x ↦ absurd (let z : whole (f x.0.0) x.0.1 ≡ Err (Bad left) = x.2 in cc) ];
  again = λ b text rest lt q. ap (λ r. r >>= λ x. Ok (f x.0, x.1)) (e.again q.0 text rest lt q.2) ∙ ap (λ z. Ok (z, rest)) q.1;
}
  where
    whole : B → List ℕ → Result (B × List ℕ) Stop
    whole b rest = Ok (b, rest)

-- one more value, or the end
abbrev pub IsMore : Bool → List ℕ → Type 0
IsMore true text = text ≡ codes "VALUE "
IsMore false text = text ≡ codes "END\r\n"

value_word : IsReader (Seq (IsThis (codes "VALUE ")) (λ u. IsNothing true)) (λ bs. literal_at (codes "VALUE ") bs >>= λ x. Ok (true, x.1))
value_word = then_read (IsThis (codes "VALUE ")) (λ u. IsNothing true) (literal_at (codes "VALUE ")) (λ u rest. Ok (true, rest)) (this (codes "VALUE ")) (λ u. nothing true)

end_word : IsReader (Seq (IsThis (codes "END\r\n")) (λ u. IsNothing false)) (λ bs. literal_at (codes "END\r\n") bs >>= λ x. Ok (false, x.1))
end_word = then_read (IsThis (codes "END\r\n")) (λ u. IsNothing false) (literal_at (codes "END\r\n")) (λ u rest. Ok (false, rest)) (this (codes "END\r\n")) (λ u. nothing false)

abbrev WordOf : Bool → List ℕ → Bool → List ℕ → Type 0
WordOf b t = Seq (IsThis t) (λ u. IsNothing b)

word_is : (b : Bool) (t : List ℕ) (a : Bool) (text : List ℕ) → WordOf b t a text → (b ≡ a) × (text ≡ t)
word_is b t a text q = (q.is_second.0, q.whole ∙ ap (λ z. z ++ q.second) q.is_first ∙ ap (λ z. t ++ z) q.is_second.1 ∙ append-nil t)

is_word : (b : Bool) (t : List ℕ) → WordOf b t b t
is_word b t = record { value = tt; first = t; second = []; is_first = refl; is_second = (refl, refl); whole = sym (append-nil t) }

is_more : (b a : Bool) (t text : List ℕ) → IsMore b t → WordOf b t a text → IsMore a text
is_more b a t text m q = let w = word_is b t a text q in subst (λ z. IsMore a z) (sym w.1) (subst (λ z. IsMore z t) w.0 m)

-- the first byte tells which word comes
pub first_byte : (b x c : ℕ) (bs front back cs more : List ℕ) → b ∷ bs ≡ front ++ x ∷ back → (front ++ x ∷ []) ++ more ≡ c ∷ cs → b ≡ c
first_byte b x c bs [] back cs more h k = let p : b ≡ x = heads b x bs back h in let q : x ≡ c = heads x c more cs k in p ∙ q
first_byte b x c bs (f ∷ front) back cs more h k = let p : b ≡ f = heads b f bs (front ++ x ∷ back) h in let q : f ≡ c = heads f c ((front ++ x ∷ []) ++ more) cs k in p ∙ q

stops_word : (b : Bool) (t : List ℕ) (c d : ℕ) (cs ds : List ℕ) (y : ℕ) (bs : List ℕ) (left : ℕ) → ((a : Bool) (text : List ℕ) → IsMore a text → (WordOf b t a text) ⊎ (text ≡ d ∷ ds)) → ((a : Bool) (text : List ℕ) → WordOf b t a text → IsMore a text) → (y ≡ d → ⊥) → StopsAt (WordOf b t) (y ∷ bs) left → StopsAt IsMore (y ∷ bs) left
stops_word b t c d cs ds y bs left split to not_d st = record { front = st.front; bad = st.bad; back = st.back; is = st.is; at = st.at; goes = (let g = st.goes in (g.0, g.1, to g.0 (st.front ++ g.1) g.2)); ends = λ g. elim (split g.0 ((st.front ++ st.bad ∷ []) ++ g.1) g.2) [ inl w ↦ st.ends (g.0, g.1, w) | inr e ↦ not_d (first_byte y st.bad d bs st.front st.back ds g.1 st.is e) ] }

split_value : (a : Bool) (text : List ℕ) → IsMore a text → (WordOf true (codes "VALUE ") a text) ⊎ (text ≡ codes "END\r\n")
split_value true text m = inl (subst (λ z. WordOf true (codes "VALUE ") true z) (sym m) (is_word true (codes "VALUE ")))
split_value false text m = inr m

split_end : (a : Bool) (text : List ℕ) → IsMore a text → (WordOf false (codes "END\r\n") a text) ⊎ (text ≡ codes "VALUE ")
split_end false text m = inl (subst (λ z. WordOf false (codes "END\r\n") false z) (sym m) (is_word false (codes "END\r\n")))
split_end true text m = inr m

abbrev word_by : Bool → List ℕ → Result (Bool × List ℕ) Stop
word_by t bs = if t then (literal_at (codes "VALUE ") bs >>= λ x. Ok (true, x.1)) else (literal_at (codes "END\r\n") bs >>= λ x. Ok (false, x.1))

pub more_read : IsReader IsMore more_at
unfolding more_at
more_read = record {
  exact = λ n. record {
    found = λ bs a rest lt h. found_at n bs a rest lt h;
    need = λ bs lt h. need_at n bs lt h;
    bad = λ bs left lt h. bad_at n bs left lt h;
    again = λ a text rest lt q. again_at a text rest q;
  };
  lives = (true, codes "VALUE ", refl);
}
  where
    found_at : (n : ℕ) (bs : List ℕ) (a : Bool) (rest : List ℕ) → length bs < n → more_at bs ≡ Ok (a, rest) → (text : List ℕ) × IsMore a text × (bs ≡ text ++ rest)
    found_at n [] a rest lt h = absurd (cc)
    found_at n (b ∷ bs) a rest lt h = by_byte (b == 86) h
      where
        by_byte : (t : Bool) → word_by t (b ∷ bs) ≡ Ok (a, rest) → (text : List ℕ) × IsMore a text × (b ∷ bs ≡ text ++ rest)
        by_byte true h = let t = (value_word.exact n).found (b ∷ bs) a rest lt h in (t.0, is_more true a (codes "VALUE ") t.0 refl t.1, t.2)
        by_byte false h = let t = (end_word.exact n).found (b ∷ bs) a rest lt h in (t.0, is_more false a (codes "END\r\n") t.0 refl t.1, t.2)

    need_at : (n : ℕ) (bs : List ℕ) → length bs < n → more_at bs ≡ Err Need → Begins IsMore bs
    need_at n [] lt h = (true, codes "VALUE ", refl)
    need_at n (b ∷ bs) lt h = by_byte (b == 86) h
      where
        by_byte : (t : Bool) → word_by t (b ∷ bs) ≡ Err Need → Begins IsMore (b ∷ bs)
        by_byte true h = let g = (value_word.exact n).need (b ∷ bs) lt h in (g.0, g.1, is_more true g.0 (codes "VALUE ") ((b ∷ bs) ++ g.1) refl g.2)
        by_byte false h = let g = (end_word.exact n).need (b ∷ bs) lt h in (g.0, g.1, is_more false g.0 (codes "END\r\n") ((b ∷ bs) ++ g.1) refl g.2)

    bad_at : (n : ℕ) (bs : List ℕ) (left : ℕ) → length bs < n → more_at bs ≡ Err (Bad left) → StopsAt IsMore bs left
    bad_at n [] left lt h = absurd (cc)
    bad_at n (b ∷ bs) left lt h = by_byte (b == 86) refl h
      where
        by_byte : (t : Bool) → (b == 86) ≡ t → word_by t (b ∷ bs) ≡ Err (Bad left) → StopsAt IsMore (b ∷ bs) left
        by_byte true e h = stops_word true (codes "VALUE ") 86 69 [] (78 ∷ 68 ∷ 13 ∷ 10 ∷ []) b bs left split_value (λ a text q. is_more true a (codes "VALUE ") text refl q) (λ z. (let y : b ≡ 86 = true_eq b 86 e in grind (arith, y, z))) ((value_word.exact n).bad (b ∷ bs) left lt h)
        by_byte false e h = stops_word false (codes "END\r\n") 69 86 [] (65 ∷ 76 ∷ 85 ∷ 69 ∷ 32 ∷ []) b bs left split_end (λ a text q. is_more false a (codes "END\r\n") text refl q) (λ z. false_ne b 86 e z) ((end_word.exact n).bad (b ∷ bs) left lt h)

    again_at : (a : Bool) (text rest : List ℕ) → IsMore a text → more_at (text ++ rest) ≡ Ok (a, rest)
    again_at true text rest q = rw q refl
    again_at false text rest q = rw q refl

-- a turn
abbrev pub IsTurn : Bool → Option Item → List ℕ → Type 0
IsTurn tags None text = text ≡ codes "END\r\n"
IsTurn tags (Some i) text = (text ≡ codes "VALUE " ++ item_text tags i) × IsPlainItem tags i

abbrev Behind : Bool → Bool → Option Item → List ℕ → Type 0
Behind tags true = Mapped (λ x. Some x.0) (IsValue (tail_of tags))
Behind tags false = IsNothing None

behind_read : (tags more : Bool) → IsReader (Behind tags more) (turn_by tags more)
behind_read tags true = record { exact = λ n. mapped n (λ x. Some x.0) (IsValue (tail_of tags)) (item_at (tail_of tags)) ((item_read (tail_of tags)).exact n); lives = (let g = (item_read (tail_of tags)).lives in (Some g.0.0, g.1, (g.0, refl, g.2))) }
behind_read tags false = nothing None

end_of_tags : (tags b : Bool) → ends_at (tail_of tags) (end_by b) ≡ true → b ≡ tags
unfolding ends_at
end_of_tags true true h = refl
end_of_tags true false h = absurd (cc)
end_of_tags false true h = absurd (cc)
end_of_tags false false h = refl

tags_end : (tags : Bool) → ends_at (tail_of tags) (end_by tags) ≡ true
unfolding ends_at
tags_end true = refl
tags_end false = refl

to_turn : (tags : Bool) (o : Option Item) (text : List ℕ) → Seq IsMore (Behind tags) o text → IsTurn tags o text
to_turn tags o text q = by_more q.value o q.first q.second q.is_first q.is_second q.whole
  where
    by_more : (m : Bool) (o : Option Item) (t u : List ℕ) → IsMore m t → Behind tags m o u → text ≡ t ++ u → IsTurn tags o text
    by_more true None t u p r w = absurd (let z : Some r.0.0 ≡ None = r.1 in cc)
    by_more true (Some i) t u p r w =
        let v = r.2 in
        let e = end_of_tags tags r.0.1 v.ends in
        let f : r.0.0 ≡ i = (let z : Some r.0.0 ≡ Some i = r.1 in cc) in
        (w ∙ ap (λ z. z ++ u) p ∙ ap (λ z. codes "VALUE " ++ z) (v.is ∙ ap (λ z. item_text z r.0.0) e ∙ ap (λ z. item_text tags z) f), subst (λ z. IsPlainItem tags z) f (subst (λ z. IsPlainItem z r.0.0) e v.plain))
    by_more false None t u p r w = w ∙ ap (λ z. z ++ u) p ∙ ap (λ z. codes "END\r\n" ++ z) r.1
    by_more false (Some i) t u p r w = absurd (let z : None ≡ Some i = r.0 in cc)

from_turn : (tags : Bool) (o : Option Item) (text : List ℕ) → IsTurn tags o text → Seq IsMore (Behind tags) o text
from_turn tags None text q = record { value = false; first = codes "END\r\n"; second = []; is_first = refl; is_second = (refl, refl); whole = q }
from_turn tags (Some i) text q = record { value = true; first = codes "VALUE "; second = item_text tags i; is_first = refl; is_second = ((i, tags), refl, record { is = refl; plain = q.1; ends = tags_end tags }); whole = q.0 }

pub turn_read : (tags : Bool) → IsReader (IsTurn tags) (turn_at tags)
unfolding turn_at
turn_read tags = same_language (Seq IsMore (Behind tags)) (IsTurn tags) (turn_at tags) (to_turn tags) (from_turn tags) (then_read IsMore (Behind tags) more_at (λ more rest. turn_by tags more rest) more_read (λ more. behind_read tags more))

-- the values behind the first one
abbrev pub IsItems : Bool → List Item → List ℕ → Type 0
IsItems tags [] text = text ≡ codes "END\r\n"
IsItems tags (i ∷ is) text = (rest : List ℕ) × (text ≡ (codes "VALUE " ++ item_text tags i) ++ rest) × IsPlainItem tags i × IsItems tags is rest

abbrev Others : Bool → Option Item → List Item → List ℕ → Type 0
Others tags None = IsNothing []
Others tags (Some i) = Mapped (λ is. i ∷ is) (IsItems tags)

turn_shrinks : (tags : Bool) (n : ℕ) (o : Option Item) (text rest : List ℕ) → IsTurn tags o text → length (text ++ rest) < suc n → length rest < n
turn_shrinks tags n None text rest q l = let k : length (codes "END\r\n" ++ rest) < suc n = rw q at l in grind (arith, k)
turn_shrinks tags n (Some i) text rest q l = let k : length ((codes "VALUE " ++ item_text tags i) ++ rest) < suc n = rw q.0 at l in grind (arith, length-append, k)

others_live : (tags : Bool) (o : Option Item) (t : List ℕ) → IsTurn tags o t → Begins (Others tags o) []
others_live tags None t q = ([], [], (refl, refl))
others_live tags (Some i) t q = (i ∷ [], codes "END\r\n", ([], refl, refl))

to_items : (tags : Bool) (is : List Item) (text : List ℕ) → Seq (IsTurn tags) (Others tags) is text → IsItems tags is text
to_items tags is text q = by_turn q.value is q.first q.second q.is_first q.is_second q.whole
  where
    by_turn : (o : Option Item) (is : List Item) (t u : List ℕ) → IsTurn tags o t → Others tags o is u → text ≡ t ++ u → IsItems tags is text
    by_turn None [] t u p r w = w ∙ ap (λ z. z ++ u) p ∙ ap (λ z. codes "END\r\n" ++ z) r.1
    by_turn None (i ∷ is) t u p r w = absurd (let z : [] ≡ i ∷ is = r.0 in cc)
    by_turn (Some i) [] t u p r w = absurd (let z : i ∷ r.0 ≡ [] = r.1 in cc)
    by_turn (Some i) (j ∷ is) t u p r w =
        let e : i ∷ r.0 ≡ j ∷ is = r.1 in
        let f : i ≡ j = cc in
        let g : r.0 ≡ is = cc in
        (u, w ∙ ap (λ z. z ++ u) p.0 ∙ ap (λ z. (codes "VALUE " ++ item_text tags z) ++ u) f, subst (λ z. IsPlainItem tags z) f p.1, subst (λ z. IsItems tags z u) g r.2)

from_items : (tags : Bool) (is : List Item) (text : List ℕ) → IsItems tags is text → Seq (IsTurn tags) (Others tags) is text
from_items tags [] text q = record { value = None; first = codes "END\r\n"; second = []; is_first = refl; is_second = (refl, refl); whole = q }
from_items tags (i ∷ is) text q = record { value = Some i; first = codes "VALUE " ++ item_text tags i; second = q.0; is_first = (refl, q.2); is_second = (is, refl, q.3); whole = q.1 }

pub items_exact : (tags : Bool) (n : ℕ) → IsExactBelow n (IsItems tags) (items_at n tags)
items_exact tags zero = record { found = λ bs a rest lt h. absurd (omega (arith, lt)); need = λ bs lt h. absurd (omega (arith, lt)); bad = λ bs left lt h. absurd (omega (arith, lt)); again = λ a text rest lt q. absurd (omega (arith, lt)) }
items_exact tags (suc n) = same_below (suc n) (Seq (IsTurn tags) (Others tags)) (IsItems tags) (items_at (suc n) tags) (to_items tags) (from_items tags) (seq (suc n) n (IsTurn tags) (Others tags) (turn_at tags) (λ o rest. and_then o (Ok ([], rest)) (λ item. items_at n tags rest >>= λ others. Ok (item ∷ others.0, others.1))) (turn_read tags).exact (λ o. others_at o (items_exact tags n)) (turn_shrinks tags n) (others_live tags))
  where
    others_at : (o : Option Item) → IsExactBelow n (IsItems tags) (items_at n tags) → IsExactBelow n (Others tags o) (λ rest. and_then o (Ok ([], rest)) (λ item. items_at n tags rest >>= λ others. Ok (item ∷ others.0, others.1)))
    others_at None e = (nothing []).exact n
    others_at (Some i) e = mapped n (λ is. i ∷ is) (IsItems tags) (items_at n tags) e
