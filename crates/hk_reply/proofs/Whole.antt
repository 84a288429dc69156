-- That replies are read exactly, by their texts.
use Rattle.std.proofs.Common.{◌≡◌, ℕ, ◌+◌, ◌-◌, ◌^◌, ◌<◌, List, [], ◌∷◌, ◌++◌, length, Bool, true, false, refl, ap, ◌∙◌, sym, arith, subst, ◌⊎◌, inl, inr, append_assoc}
use Rattle.std.specs.Prelude.{Result, Ok, Err, if◌then◌else◌, codes, decimal}
use Rattle.std.specs.List.{AllByRecursion}
use Rattle.std.specs.Char.{is_ascii_digit}
use Rattle.hk_reply.specs.declared.scan.Stop.{Stop}
use Rattle.hk_reply.specs.declared.scan.Stop.TheVariants.{Need, Bad}
use Rattle.hk_reply.specs.declared.scan.Tail.TheVariants.{Return, Either}
use Rattle.hk_reply.specs.declared.reply.Item.{Item}
use Rattle.hk_reply.specs.declared.reply.Reply.{Reply}
use Rattle.hk_reply.specs.declared.reply.Reply.TheVariants as reply
use Rattle.hk_reply.specs.declared.reply.ClientText.TheVariants as client
use Rattle.hk_reply.specs.declared.reply.ServerText.TheVariants as server
use Rattle.hk_reply.specs.declared.opening.Opening.{Opening}
use Rattle.hk_reply.specs.declared.opening.Opening.TheVariants as opening
use Rattle.hk_reply.specs.Scans.{◌>>=◌, literal_at, number_at}
use Rattle.hk_reply.specs.Openings.{opening_text, opening_at}
use Rattle.hk_reply.specs.Reading.{item_at, items_at, with_items, values_at, behind_at, count_at, reply_at}
use Rattle.hk_reply.specs.Texts.{text_of, values_text, value_text, head_text, tag_text}
use Rattle.hk_reply.specs.Replies.{IsPlainItem, IsText}
use Rattle.hk_reply.specs.Stops.{Begins, StopsAt}
use Rattle.hk_reply.proofs.Exact.{IsExact, Seq}
use Rattle.hk_reply.proofs.Simple.{IsThis}
use Rattle.hk_reply.proofs.Joining.{IsReader, then_read, same_language, IsNothing, nothing, this, IsOpening, opening_read}
use Rattle.hk_reply.proofs.Values.{IsNumber, number_read, has_digits}
use Rattle.hk_reply.proofs.Items.{IsValue, item_read, item_text, return_is, return_ends, either_ends}
use Rattle.hk_reply.proofs.Lists.{Mapped, mapped, IsItems, items_exact, first_byte}

items_whole : (tags : Bool) → IsExact (IsItems tags) (λ bs. items_at (length bs + 1) tags bs)
items_whole tags n = record {
  found = λ bs a rest lt h. (items_exact tags (length bs + 1)).found bs a rest (omega arith) h;
  need = λ bs lt h. (items_exact tags (length bs + 1)).need bs (omega arith) h;
  bad = λ bs left lt h. (items_exact tags (length bs + 1)).bad bs left (omega arith) h;
  again = λ a text rest lt q. (items_exact tags (length (text ++ rest) + 1)).again a text rest (omega arith) q;
}

abbrev IsOthers : Item × Bool → Reply → List ℕ → Type 0
IsOthers x = Mapped (λ is. reply.Values is x.1) (Mapped (λ is. (x.0 ∷ []) ++ is) (IsItems x.1))

others_read : (x : Item × Bool) → IsReader (IsOthers x) (λ rest. with_items (x.0 ∷ []) (items_at (length rest + 1) x.1 rest) >>= λ i. Ok (reply.Values i.0 x.1, i.1))
others_read x = record { exact = λ n. mapped n (λ is. reply.Values is x.1) (Mapped (λ is. (x.0 ∷ []) ++ is) (IsItems x.1)) (λ rest. with_items (x.0 ∷ []) (items_at (length rest + 1) x.1 rest)) (mapped n (λ is. (x.0 ∷ []) ++ is) (IsItems x.1) (λ rest. items_at (length rest + 1) x.1 rest) (items_whole x.1 n)); lives = (reply.Values (x.0 ∷ []) x.1, codes "END\r\n", (x.0 ∷ [], refl, ([], refl, refl))) }

abbrev IsValues : Reply → List ℕ → Type 0
IsValues = Seq (IsValue Either) IsOthers

values_read : IsReader IsValues values_at
unfolding values_at
values_read = then_read (IsValue Either) IsOthers (item_at Either) (λ x rest. with_items (x.0 ∷ []) (items_at (length rest + 1) x.1 rest) >>= λ i. Ok (reply.Values i.0 x.1, i.1)) (item_read Either) others_read

abbrev Behind : Opening → Reply → List ℕ → Type 0
Behind opening.Value = IsValues
Behind opening.End = IsNothing (reply.Values [] false)
Behind opening.Stored = IsNothing reply.Stored
Behind opening.Exists = IsNothing reply.Exists
Behind opening.NotFound = IsNothing reply.NotFound
Behind opening.NotStored = IsNothing reply.NotStored
Behind opening.Deleted = IsNothing reply.Deleted
Behind opening.Error = IsNothing reply.Error
Behind opening.Version = IsNothing reply.Version
Behind (opening.Client text) = IsNothing (reply.ClientError text)
Behind (opening.Server text) = IsNothing (reply.ServerError text)

behind_read : (o : Opening) → IsReader (Behind o) (behind_at o)
unfolding behind_at
behind_read opening.Value = values_read
behind_read opening.End = nothing (reply.Values [] false)
behind_read opening.Stored = nothing reply.Stored
behind_read opening.Exists = nothing reply.Exists
behind_read opening.NotFound = nothing reply.NotFound
behind_read opening.NotStored = nothing reply.NotStored
behind_read opening.Deleted = nothing reply.Deleted
behind_read opening.Error = nothing reply.Error
behind_read opening.Version = nothing reply.Version
behind_read (opening.Client text) = nothing (reply.ClientError text)
behind_read (opening.Server text) = nothing (reply.ServerError text)

abbrev IsWorded : Reply → List ℕ → Type 0
IsWorded = Seq IsOpening Behind

worded_read : IsReader IsWorded (λ bs. opening_at bs >>= λ o. behind_at o.0 o.1)
worded_read = then_read IsOpening Behind opening_at behind_at opening_read behind_read

abbrev IsCount : Reply → List ℕ → Type 0
IsCount = Seq (IsNumber (2 ^ 64 - 1) Return) (λ n. Seq (IsThis (codes "\n")) (λ u. IsNothing (reply.Number n.0)))

count_read : IsReader IsCount count_at
unfolding count_at
count_read = then_read (IsNumber (2 ^ 64 - 1) Return) (λ n. Seq (IsThis (codes "\n")) (λ u. IsNothing (reply.Number n.0))) (number_at (2 ^ 64 - 1) Return) (λ n rest. literal_at (codes "\n") rest >>= λ e. Ok (reply.Number n.0, e.1)) (number_read (2 ^ 64 - 1) Return (omega arith) (omega arith)) (λ n. then_read (IsThis (codes "\n")) (λ u. IsNothing (reply.Number n.0)) (literal_at (codes "\n")) (λ e rest. Ok (reply.Number n.0, rest)) (this (codes "\n")) (λ u. nothing (reply.Number n.0)))

-- the first byte tells a number from the others
abbrev FirstIs : Bool → List ℕ → Type 0
FirstIs t text = (c : ℕ) × (cs : List ℕ) × (text ≡ c ∷ cs) × (is_ascii_digit c ≡ t)

opening_letter : (o : Opening) → FirstIs false (opening_text o)
opening_letter opening.Value = (_, _, refl, refl)
opening_letter opening.End = (_, _, refl, refl)
opening_letter opening.Stored = (_, _, refl, refl)
opening_letter opening.Exists = (_, _, refl, refl)
opening_letter opening.NotFound = (_, _, refl, refl)
opening_letter opening.NotStored = (_, _, refl, refl)
opening_letter opening.Deleted = (_, _, refl, refl)
opening_letter opening.Error = (_, _, refl, refl)
opening_letter opening.Version = (_, _, refl, refl)
opening_letter (opening.Client client.BadKey) = (_, _, refl, refl)
opening_letter (opening.Client client.BadNumber) = (_, _, refl, refl)
opening_letter (opening.Client client.BadChunk) = (_, _, refl, refl)
opening_letter (opening.Client client.NotNumber) = (_, _, refl, refl)
opening_letter (opening.Client client.TooLong) = (_, _, refl, refl)
opening_letter (opening.Server server.TooLarge) = (_, _, refl, refl)
opening_letter (opening.Server server.Expiry) = (_, _, refl, refl)
opening_letter (opening.Server server.Busy) = (_, _, refl, refl)
opening_letter (opening.Server server.Aborted) = (_, _, refl, refl)
opening_letter (opening.Server server.Unknown) = (_, _, refl, refl)
opening_letter (opening.Server server.Spent) = (_, _, refl, refl)
opening_letter (opening.Server server.VersionLimit) = (_, _, refl, refl)
opening_letter (opening.Server server.Memory) = (_, _, refl, refl)

worded_first : (r : Reply) (text : List ℕ) → IsWorded r text → FirstIs false text
worded_first r text q = let l = opening_letter q.value in (l.0, l.1 ++ q.second, q.whole ∙ ap (λ z. z ++ q.second) (q.is_first ∙ l.2), l.3)

count_first : (r : Reply) (text : List ℕ) → IsCount r text → FirstIs true text
count_first r text q =
    let w = q.is_first.within in
    let h = has_digits q.value.0 (omega (arith, w)) in
    (h.first, (h.others ++ q.value.1 ∷ []) ++ q.second, q.whole ∙ ap (λ z. z ++ q.second) (q.is_first.is ∙ ap (λ z. z ++ q.value.1 ∷ []) h.is), h.digit)

abbrev IsEither : Reply → List ℕ → Type 0
IsEither r text = IsCount r text ⊎ IsWorded r text

abbrev reply_by : List ℕ → Bool → Result (Reply × List ℕ) Stop
reply_by bs t = if t then count_at bs else (opening_at bs >>= λ o. behind_at o.0 o.1)

found_by : (n b : ℕ) (bs : List ℕ) (r : Reply) (rest : List ℕ) (t : Bool) → length (b ∷ bs) < n → reply_by (b ∷ bs) t ≡ Ok (r, rest) → (text : List ℕ) × IsEither r text × (b ∷ bs ≡ text ++ rest)
found_by n b bs r rest true lt h = let t = (count_read.exact n).found (b ∷ bs) r rest lt h in (t.0, inl t.1, t.2)
found_by n b bs r rest false lt h = let t = (worded_read.exact n).found (b ∷ bs) r rest lt h in (t.0, inr t.1, t.2)

need_by : (n b : ℕ) (bs : List ℕ) (t : Bool) → length (b ∷ bs) < n → reply_by (b ∷ bs) t ≡ Err Need → Begins IsEither (b ∷ bs)
need_by n b bs true lt h = let g = (count_read.exact n).need (b ∷ bs) lt h in (g.0, g.1, inl g.2)
need_by n b bs false lt h = let g = (worded_read.exact n).need (b ∷ bs) lt h in (g.0, g.1, inr g.2)

clash : (t : Bool) (b x : ℕ) (bs front back more : List ℕ) → is_ascii_digit b ≡ t → b ∷ bs ≡ front ++ x ∷ back → (c : ℕ) → (cs : List ℕ) → (front ++ x ∷ []) ++ more ≡ c ∷ cs → is_ascii_digit c ≡ t
clash t b x bs front back more e h c cs k = rw (first_byte b x c bs front back cs more h k) at e

bad_by : (n b : ℕ) (bs : List ℕ) (left : ℕ) (t : Bool) → is_ascii_digit b ≡ t → length (b ∷ bs) < n → reply_by (b ∷ bs) t ≡ Err (Bad left) → StopsAt IsEither (b ∷ bs) left
bad_by n b bs left true e lt h = let st = (count_read.exact n).bad (b ∷ bs) left lt h in record { front = st.front; bad = st.bad; back = st.back; is = st.is; at = st.at; goes = (let g = st.goes in (g.0, g.1, inl g.2)); ends = λ g. elim g.2 [ inl q ↦ st.ends (g.0, g.1, q) | inr q ↦ (let f = worded_first g.0 _ q in let k = clash true b st.bad bs st.front st.back g.1 e st.is f.0 f.1 f.2 in let l = f.3 in cc) ] }
bad_by n b bs left false e lt h = let st = (worded_read.exact n).bad (b ∷ bs) left lt h in record { front = st.front; bad = st.bad; back = st.back; is = st.is; at = st.at; goes = (let g = st.goes in (g.0, g.1, inr g.2)); ends = λ g. elim g.2 [ inr q ↦ st.ends (g.0, g.1, q) | inl q ↦ (let f = count_first g.0 _ q in let k = clash false b st.bad bs st.front st.back g.1 e st.is f.0 f.1 f.2 in let l = f.3 in cc) ] }

reply_cons : (c : ℕ) (cs rest text : List ℕ) (t : Bool) → text ≡ c ∷ cs → is_ascii_digit c ≡ t → reply_at (text ++ rest) ≡ reply_by (text ++ rest) t
unfolding reply_at
reply_cons c cs rest text t e h = rw (e, h) refl

either_read : IsReader IsEither reply_at
unfolding reply_at
either_read = record {
  exact = λ n. record {
    found = λ bs r rest lt h. found_at n bs r rest lt h;
    need = λ bs lt h. need_at n bs lt h;
    bad = λ bs left lt h. bad_at n bs left lt h;
    again = λ r text rest lt q. again_at n r text rest lt q;
  };
  lives = (let g = count_read.lives in (g.0, g.1, inl g.2));
}
  where
    found_at : (n : ℕ) (bs : List ℕ) (r : Reply) (rest : List ℕ) → length bs < n → reply_at bs ≡ Ok (r, rest) → (text : List ℕ) × IsEither r text × (bs ≡ text ++ rest)
    found_at n [] r rest lt h = absurd (cc)
    found_at n (b ∷ bs) r rest lt h = found_by n b bs r rest (is_ascii_digit b) lt h

    need_at : (n : ℕ) (bs : List ℕ) → length bs < n → reply_at bs ≡ Err Need → Begins IsEither bs
    need_at n [] lt h = let g = count_read.lives in (g.0, g.1, inl g.2)
    need_at n (b ∷ bs) lt h = need_by n b bs (is_ascii_digit b) lt h

    bad_at : (n : ℕ) (bs : List ℕ) (left : ℕ) → length bs < n → reply_at bs ≡ Err (Bad left) → StopsAt IsEither bs left
    bad_at n [] left lt h = absurd (cc)
    bad_at n (b ∷ bs) left lt h = bad_by n b bs left (is_ascii_digit b) refl lt h

    again_at : (n : ℕ) (r : Reply) (text rest : List ℕ) → length (text ++ rest) < n → IsEither r text → reply_at (text ++ rest) ≡ Ok (r, rest)
    again_at n r text rest lt (inl q) = let f = count_first r text q in reply_cons f.0 f.1 rest text true f.2 f.3 ∙ (count_read.exact n).again r text rest lt q
    again_at n r text rest lt (inr q) = let f = worded_first r text q in reply_cons f.0 f.1 rest text false f.2 f.3 ∙ (worded_read.exact n).again r text rest lt q

-- the text of a value
flat_tag : (g b : List ℕ) → ((g ++ 13 ∷ 10 ∷ []) ++ b) ++ 13 ∷ 10 ∷ [] ≡ g ++ 13 ∷ 10 ∷ (b ++ 13 ∷ 10 ∷ [])
flat_tag [] b = refl
flat_tag (x ∷ g) b = ap (λ z. x ∷ z) (flat_tag g b)

flat_length : (l g b : List ℕ) → (((l ++ g) ++ 13 ∷ 10 ∷ []) ++ b) ++ 13 ∷ 10 ∷ [] ≡ l ++ (g ++ 13 ∷ 10 ∷ (b ++ 13 ∷ 10 ∷ []))
flat_length [] g b = flat_tag g b
flat_length (x ∷ l) g b = ap (λ z. x ∷ z) (flat_length l g b)

flat_flags : (f l g b : List ℕ) → (((((f ++ 32 ∷ []) ++ l) ++ g) ++ 13 ∷ 10 ∷ []) ++ b) ++ 13 ∷ 10 ∷ [] ≡ f ++ 32 ∷ (l ++ (g ++ 13 ∷ 10 ∷ (b ++ 13 ∷ 10 ∷ [])))
flat_flags [] l g b = ap (λ z. 32 ∷ z) (flat_length l g b)
flat_flags (x ∷ f) l g b = ap (λ z. x ∷ z) (flat_flags f l g b)

flat_key : (k f l g b : List ℕ) → (((((((k ++ 32 ∷ []) ++ f) ++ 32 ∷ []) ++ l) ++ g) ++ 13 ∷ 10 ∷ []) ++ b) ++ 13 ∷ 10 ∷ [] ≡ k ++ 32 ∷ (f ++ 32 ∷ (l ++ (g ++ 13 ∷ 10 ∷ (b ++ 13 ∷ 10 ∷ []))))
flat_key [] f l g b = ap (λ z. 32 ∷ z) (flat_flags f l g b)
flat_key (x ∷ k) f l g b = ap (λ z. x ∷ z) (flat_key k f l g b)

value_is : (tags : Bool) (i : Item) → value_text tags i ≡ codes "VALUE " ++ item_text tags i
unfolding head_text
value_is true i = ap (λ z. codes "VALUE " ++ z) (flat_key i.key (decimal i.flags) (decimal (length i.bytes)) (tag_text true i.tag) i.bytes)
value_is false i = ap (λ z. codes "VALUE " ++ z) (flat_key i.key (decimal i.flags) (decimal (length i.bytes)) (tag_text false i.tag) i.bytes)

items_text : (tags : Bool) (is : List Item) (text : List ℕ) → IsItems tags is text → (text ≡ values_text tags is ++ codes "END\r\n") × AllByRecursion (IsPlainItem tags) is
items_text tags [] text q = (q, tt)
items_text tags (i ∷ is) text q =
    let r = items_text tags is q.0 q.3 in
    (q.1 ∙ ap (λ z. z ++ q.0) (sym (value_is tags i)) ∙ ap (λ z. value_text tags i ++ z) r.0 ∙ sym (append_assoc (value_text tags i) (values_text tags is) (codes "END\r\n")), (q.2, r.1))

text_items : (tags : Bool) (is : List Item) → AllByRecursion (IsPlainItem tags) is → IsItems tags is (values_text tags is ++ codes "END\r\n")
text_items tags [] p = refl
text_items tags (i ∷ is) p = (values_text tags is ++ codes "END\r\n", append_assoc (value_text tags i) (values_text tags is) (codes "END\r\n") ∙ ap (λ z. z ++ (values_text tags is ++ codes "END\r\n")) (value_is tags i), p.0, text_items tags is p.1)

values_told : (r : Reply) (text : List ℕ) → IsValues r text → IsText r (codes "VALUE " ++ text)
unfolding text_of
values_told r text q =
    let o = q.is_second in
    let m = o.2 in
    let x = q.value in
    let t = items_text x.1 m.0 q.second m.2 in
    let whole : codes "VALUE " ++ text ≡ values_text x.1 (x.0 ∷ m.0) ++ codes "END\r\n" = ap (λ z. codes "VALUE " ++ z) q.whole ∙ ap (λ z. (codes "VALUE " ++ z) ++ q.second) q.is_first.is ∙ ap (λ z. z ++ q.second) (sym (value_is x.1 x.0)) ∙ ap (λ z. value_text x.1 x.0 ++ z) t.0 ∙ sym (append_assoc (value_text x.1 x.0) (values_text x.1 m.0) (codes "END\r\n")) in
    subst (λ z. IsText z (codes "VALUE " ++ text)) (ap (λ z. reply.Values z x.1) m.1 ∙ o.1) ((q.is_first.plain, t.1), whole)

told_values : (tags : Bool) (i : Item) (is : List Item) → IsPlainItem tags i → AllByRecursion (IsPlainItem tags) is → IsValues (reply.Values (i ∷ is) tags) (item_text tags i ++ (values_text tags is ++ codes "END\r\n"))
told_values tags i is p ps = record { value = (i, tags); first = item_text tags i; second = values_text tags is ++ codes "END\r\n"; is_first = record { is = refl; plain = p; ends = either_ends tags }; is_second = (i ∷ is, refl, (is, refl, text_items tags is ps)); whole = refl }

count_told : (r : Reply) (text : List ℕ) → IsCount r text → IsText r text
unfolding text_of
count_told r text q =
    let s = q.is_second in
    let e = return_is q.value.1 q.is_first.ends in
    subst (λ z. IsText z text) s.is_second.0 (q.is_first.within, q.whole ∙ ap (λ z. z ++ q.second) (q.is_first.is ∙ ap (λ z. decimal q.value.0 ++ z ∷ []) e) ∙ append_assoc (decimal q.value.0) (13 ∷ []) q.second ∙ ap (λ z. decimal q.value.0 ++ 13 ∷ z) (s.whole ∙ ap (λ z. z ++ s.second) s.is_first ∙ ap (λ z. codes "\n" ++ z) s.is_second.1))

worded_told : (r : Reply) (text : List ℕ) → IsWorded r text → IsText r text
unfolding text_of
worded_told r text q = by_opening q.value r q.first q.second q.is_first q.is_second q.whole
  where
    by_opening : (o : Opening) (r : Reply) (t u : List ℕ) → t ≡ opening_text o → Behind o r u → text ≡ t ++ u → IsText r text
    by_opening opening.Value r t u p q w = subst (λ z. IsText r z) (sym (w ∙ ap (λ z. z ++ u) p)) (values_told r u q)
    by_opening opening.End r t u p q w = subst (λ z. IsText z text) q.0 (refl, w ∙ ap (λ z. z ++ u) p ∙ ap (λ z. opening_text opening.End ++ z) q.1)
    by_opening opening.Stored r t u p q w = subst (λ z. IsText z text) q.0 (tt, w ∙ ap (λ z. z ++ u) p ∙ ap (λ z. opening_text opening.Stored ++ z) q.1)
    by_opening opening.Exists r t u p q w = subst (λ z. IsText z text) q.0 (tt, w ∙ ap (λ z. z ++ u) p ∙ ap (λ z. opening_text opening.Exists ++ z) q.1)
    by_opening opening.NotFound r t u p q w = subst (λ z. IsText z text) q.0 (tt, w ∙ ap (λ z. z ++ u) p ∙ ap (λ z. opening_text opening.NotFound ++ z) q.1)
    by_opening opening.NotStored r t u p q w = subst (λ z. IsText z text) q.0 (tt, w ∙ ap (λ z. z ++ u) p ∙ ap (λ z. opening_text opening.NotStored ++ z) q.1)
    by_opening opening.Deleted r t u p q w = subst (λ z. IsText z text) q.0 (tt, w ∙ ap (λ z. z ++ u) p ∙ ap (λ z. opening_text opening.Deleted ++ z) q.1)
    by_opening opening.Error r t u p q w = subst (λ z. IsText z text) q.0 (tt, w ∙ ap (λ z. z ++ u) p ∙ ap (λ z. opening_text opening.Error ++ z) q.1)
    by_opening opening.Version r t u p q w = subst (λ z. IsText z text) q.0 (tt, w ∙ ap (λ z. z ++ u) p ∙ ap (λ z. opening_text opening.Version ++ z) q.1)
    by_opening (opening.Client client.BadKey) r t u p q w = subst (λ z. IsText z text) q.0 (tt, w ∙ ap (λ z. z ++ u) p ∙ ap (λ z. opening_text (opening.Client client.BadKey) ++ z) q.1)
    by_opening (opening.Client client.BadNumber) r t u p q w = subst (λ z. IsText z text) q.0 (tt, w ∙ ap (λ z. z ++ u) p ∙ ap (λ z. opening_text (opening.Client client.BadNumber) ++ z) q.1)
    by_opening (opening.Client client.BadChunk) r t u p q w = subst (λ z. IsText z text) q.0 (tt, w ∙ ap (λ z. z ++ u) p ∙ ap (λ z. opening_text (opening.Client client.BadChunk) ++ z) q.1)
    by_opening (opening.Client client.NotNumber) r t u p q w = subst (λ z. IsText z text) q.0 (tt, w ∙ ap (λ z. z ++ u) p ∙ ap (λ z. opening_text (opening.Client client.NotNumber) ++ z) q.1)
    by_opening (opening.Client client.TooLong) r t u p q w = subst (λ z. IsText z text) q.0 (tt, w ∙ ap (λ z. z ++ u) p ∙ ap (λ z. opening_text (opening.Client client.TooLong) ++ z) q.1)
    by_opening (opening.Server server.TooLarge) r t u p q w = subst (λ z. IsText z text) q.0 (tt, w ∙ ap (λ z. z ++ u) p ∙ ap (λ z. opening_text (opening.Server server.TooLarge) ++ z) q.1)
    by_opening (opening.Server server.Expiry) r t u p q w = subst (λ z. IsText z text) q.0 (tt, w ∙ ap (λ z. z ++ u) p ∙ ap (λ z. opening_text (opening.Server server.Expiry) ++ z) q.1)
    by_opening (opening.Server server.Busy) r t u p q w = subst (λ z. IsText z text) q.0 (tt, w ∙ ap (λ z. z ++ u) p ∙ ap (λ z. opening_text (opening.Server server.Busy) ++ z) q.1)
    by_opening (opening.Server server.Aborted) r t u p q w = subst (λ z. IsText z text) q.0 (tt, w ∙ ap (λ z. z ++ u) p ∙ ap (λ z. opening_text (opening.Server server.Aborted) ++ z) q.1)
    by_opening (opening.Server server.Unknown) r t u p q w = subst (λ z. IsText z text) q.0 (tt, w ∙ ap (λ z. z ++ u) p ∙ ap (λ z. opening_text (opening.Server server.Unknown) ++ z) q.1)
    by_opening (opening.Server server.Spent) r t u p q w = subst (λ z. IsText z text) q.0 (tt, w ∙ ap (λ z. z ++ u) p ∙ ap (λ z. opening_text (opening.Server server.Spent) ++ z) q.1)
    by_opening (opening.Server server.VersionLimit) r t u p q w = subst (λ z. IsText z text) q.0 (tt, w ∙ ap (λ z. z ++ u) p ∙ ap (λ z. opening_text (opening.Server server.VersionLimit) ++ z) q.1)
    by_opening (opening.Server server.Memory) r t u p q w = subst (λ z. IsText z text) q.0 (tt, w ∙ ap (λ z. z ++ u) p ∙ ap (λ z. opening_text (opening.Server server.Memory) ++ z) q.1)

of_text : (r : Reply) (text : List ℕ) → IsText r text → IsEither r text
unfolding text_of
of_text (reply.Values [] tags) text q = inr (record { value = opening.End; first = opening_text opening.End; second = []; is_first = refl; is_second = (ap (λ z. reply.Values [] z) (sym q.0), refl); whole = q.1 })
of_text (reply.Values (i ∷ is) tags) text q = inr (record { value = opening.Value; first = opening_text opening.Value; second = item_text tags i ++ (values_text tags is ++ codes "END\r\n"); is_first = refl; is_second = told_values tags i is q.0.0 q.0.1; whole = q.1 ∙ append_assoc (value_text tags i) (values_text tags is) (codes "END\r\n") ∙ ap (λ z. z ++ (values_text tags is ++ codes "END\r\n")) (value_is tags i) })
of_text (reply.Number n) text q = inl (record { value = (n, 13); first = decimal n ++ 13 ∷ []; second = codes "\n"; is_first = record { is = refl; within = q.0; ends = return_ends }; is_second = record { value = tt; first = codes "\n"; second = []; is_first = refl; is_second = (refl, refl); whole = refl }; whole = q.1 ∙ sym (append_assoc (decimal n) (13 ∷ []) (codes "\n")) })
of_text reply.Stored text q = inr (record { value = opening.Stored; first = opening_text opening.Stored; second = []; is_first = refl; is_second = (refl, refl); whole = q.1 })
of_text reply.Exists text q = inr (record { value = opening.Exists; first = opening_text opening.Exists; second = []; is_first = refl; is_second = (refl, refl); whole = q.1 })
of_text reply.NotFound text q = inr (record { value = opening.NotFound; first = opening_text opening.NotFound; second = []; is_first = refl; is_second = (refl, refl); whole = q.1 })
of_text reply.NotStored text q = inr (record { value = opening.NotStored; first = opening_text opening.NotStored; second = []; is_first = refl; is_second = (refl, refl); whole = q.1 })
of_text reply.Deleted text q = inr (record { value = opening.Deleted; first = opening_text opening.Deleted; second = []; is_first = refl; is_second = (refl, refl); whole = q.1 })
of_text reply.Error text q = inr (record { value = opening.Error; first = opening_text opening.Error; second = []; is_first = refl; is_second = (refl, refl); whole = q.1 })
of_text reply.Version text q = inr (record { value = opening.Version; first = opening_text opening.Version; second = []; is_first = refl; is_second = (refl, refl); whole = q.1 })
of_text (reply.ClientError client.BadKey) text q = inr (record { value = opening.Client client.BadKey; first = opening_text (opening.Client client.BadKey); second = []; is_first = refl; is_second = (refl, refl); whole = q.1 })
of_text (reply.ClientError client.BadNumber) text q = inr (record { value = opening.Client client.BadNumber; first = opening_text (opening.Client client.BadNumber); second = []; is_first = refl; is_second = (refl, refl); whole = q.1 })
of_text (reply.ClientError client.BadChunk) text q = inr (record { value = opening.Client client.BadChunk; first = opening_text (opening.Client client.BadChunk); second = []; is_first = refl; is_second = (refl, refl); whole = q.1 })
of_text (reply.ClientError client.NotNumber) text q = inr (record { value = opening.Client client.NotNumber; first = opening_text (opening.Client client.NotNumber); second = []; is_first = refl; is_second = (refl, refl); whole = q.1 })
of_text (reply.ClientError client.TooLong) text q = inr (record { value = opening.Client client.TooLong; first = opening_text (opening.Client client.TooLong); second = []; is_first = refl; is_second = (refl, refl); whole = q.1 })
of_text (reply.ServerError server.TooLarge) text q = inr (record { value = opening.Server server.TooLarge; first = opening_text (opening.Server server.TooLarge); second = []; is_first = refl; is_second = (refl, refl); whole = q.1 })
of_text (reply.ServerError server.Expiry) text q = inr (record { value = opening.Server server.Expiry; first = opening_text (opening.Server server.Expiry); second = []; is_first = refl; is_second = (refl, refl); whole = q.1 })
of_text (reply.ServerError server.Busy) text q = inr (record { value = opening.Server server.Busy; first = opening_text (opening.Server server.Busy); second = []; is_first = refl; is_second = (refl, refl); whole = q.1 })
of_text (reply.ServerError server.Aborted) text q = inr (record { value = opening.Server server.Aborted; first = opening_text (opening.Server server.Aborted); second = []; is_first = refl; is_second = (refl, refl); whole = q.1 })
of_text (reply.ServerError server.Unknown) text q = inr (record { value = opening.Server server.Unknown; first = opening_text (opening.Server server.Unknown); second = []; is_first = refl; is_second = (refl, refl); whole = q.1 })
of_text (reply.ServerError server.Spent) text q = inr (record { value = opening.Server server.Spent; first = opening_text (opening.Server server.Spent); second = []; is_first = refl; is_second = (refl, refl); whole = q.1 })
of_text (reply.ServerError server.VersionLimit) text q = inr (record { value = opening.Server server.VersionLimit; first = opening_text (opening.Server server.VersionLimit); second = []; is_first = refl; is_second = (refl, refl); whole = q.1 })
of_text (reply.ServerError server.Memory) text q = inr (record { value = opening.Server server.Memory; first = opening_text (opening.Server server.Memory); second = []; is_first = refl; is_second = (refl, refl); whole = q.1 })

either_told : (r : Reply) (text : List ℕ) → IsEither r text → IsText r text
either_told r text (inl q) = count_told r text q
either_told r text (inr q) = worded_told r text q

pub reply_read : IsReader IsText reply_at
reply_read = same_language IsEither IsText reply_at either_told of_text either_read
