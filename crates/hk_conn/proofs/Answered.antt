-- The replies to one thing that was said.
use Rattle.std.proofs.Common.{◌≡◌, ℕ, zero, suc, ◌+◌, ◌-◌, ◌<◌, ◌≤◌, List, [], ◌∷◌, ◌++◌, length, map, take, drop, get_or, Bool, true, false, Option, Some, None, refl, ap, ◌∙◌, sym, arith, append_assoc, append-nil, nat_lt, length-append, drop-cons}
use Rattle.std.specs.Prelude.{Result, Ok, Err, OnOk, IfSome, codes, if◌then◌else◌}
use Rattle.std.proofs.lemmas.Bool.Decides.{nat_tests}
use Rattle.std.proofs.lemmas.List.{take_at}
use Rattle.std.proofs.Math.ListN.{drop_of_length-le}
use Rattle.hk_base.specs.declared.call.Op.{Op}
use Rattle.hk_base.specs.declared.call.Op.TheVariants.{Read}
use Rattle.hk_base.specs.declared.call.Answer.TheVariants as answer
use Rattle.hk_outside.specs.declared.desk.Asked.{Asked}
use Rattle.hk_outside.specs.declared.desk.DeskReply.{DeskReply}
use Rattle.hk_outside.specs.declared.desk.DeskReply.TheVariants.{Told, Unknown, Spent}
use Rattle.hk_request.specs.declared.request.Request.TheVariants as request
use Rattle.hk_reply.specs.declared.reply.ServerText.{ServerText}
use Rattle.hk_reply.specs.declared.reply.ServerText.TheVariants as server
use Rattle.hk_reply.specs.Texts.{server_text, value_text}
use Rattle.hk_conn.specs.declared.said.Said.{Said}
use Rattle.hk_conn.specs.declared.said.Said.TheVariants as said
use Rattle.hk_conn.specs.Heard.{told_of, heard}
use Rattle.hk_conn.specs.Heard.{AsksMore}
use Rattle.hk_conn.specs.Asking.{Hears}
use Rattle.hk_conn.specs.Served.{replied, update_text, found_text, keys_read, Reading, reading_before, get_out}
use Rattle.hk_conn.specs.Answering.{plain_text, last_of, Replied, Stopped, Answers, Finds, KeyAnswers, Reads, KeysAnswer}
use Rattle.hk_conn.proofs.Hearings.{asks_none, asks_more, map_append}

pub plain_answers : {E : Type 0} (r : Result (Unit {0}) E) (more : ℕ) (asks : Option (List Asked)) (old new : List ℕ) (s : Said) → ((told : List (Option DeskReply)) → replied more s told ≡ record { text = plain_text s; asks = []; later = Some told; last = last_of s }) → OnOk r (new ≡ old ++ plain_text s) → Answers r more asks asks old new s
plain_answers (Ok u) more asks old new s p h = record { text = plain_text s; made = []; grown = asks_none asks; put = h; replies = p }
plain_answers (Err e) more asks old new s p h = record { made = []; grown = asks_none asks; called = ap (λ o. o.asks) (p []); none = rw (p []) refl }

heard_alone : (more : ℕ) (a b : Option (List Asked)) (key : List ℕ) (o : Op) (t : Option DeskReply) (h : Hears more a b key o t) → heard more key o (map told_of h.made) ≡ record { last = Some t; asks = h.made; later = [] }
heard_alone more a b key o t h = rw (append-nil (map told_of h.made)) at (h.hears [])

pub update_answers : {E : Type 0} (r : Result (Unit {0}) E) (more : ℕ) (a b : Option (List Asked)) (old new key : List ℕ) (o : Op) (noreply : Bool) (t : Option DeskReply) → Hears more a b key o t → OnOk r (new ≡ old ++ update_text noreply t) → Answers r more a b old new (said.Asked (request.Update key o noreply))
update_answers (Ok u) more a b old new key o noreply t h p = record { text = update_text noreply t; made = h.made; grown = h.grown; put = p; replies = λ later. rw (h.hears later) refl }
update_answers (Err e) more a b old new key o noreply t h p = record { made = h.made; grown = h.grown; called = rw (heard_alone more a b key o t h) refl; none = rw (heard_alone more a b key o t h) refl }

-- readings
before_twice : (x y : List ℕ) (a b : List Asked) (r : Reading) → reading_before x a (reading_before y b r) ≡ reading_before (x ++ y) (a ++ b) r
before_twice x y a b r = at r.text refl
  where
    at : (o : Option (Result (List ℕ) ServerText)) → r.text ≡ o → reading_before x a (reading_before y b r) ≡ reading_before (x ++ y) (a ++ b) r
    at None e = rw (e, append_assoc a b r.asks) refl
    at (Some (Err m)) e = rw (e, append_assoc a b r.asks) refl
    at (Some (Ok t)) e = rw (e, append_assoc a b r.asks, append_assoc x y t) refl

before_none : (r : Reading) → reading_before [] [] r ≡ r
before_none r = at r.text refl
  where
    at : (o : Option (Result (List ℕ) ServerText)) → r.text ≡ o → reading_before [] [] r ≡ r
    at None e = ap (λ x. record r { text = x }) (rw e refl)
    at (Some (Err m)) e = ap (λ x. record r { text = x }) (rw e refl)
    at (Some (Ok t)) e = ap (λ x. record r { text = x }) (rw e refl)

-- with nothing told nothing is asked
pub no_asks : (more : ℕ) (tags : Bool) (room : ℕ) (ks : List (List ℕ)) → (keys_read more tags room ks []).asks ≡ []
unfolding keys_read heard
no_asks more tags room [] = refl
no_asks zero tags room (k ∷ ks) = refl
no_asks (suc more) tags room (k ∷ ks) = refl

pub no_later : (more : ℕ) (tags : Bool) (room : ℕ) (ks : List (List ℕ)) → (keys_read more tags room ks []).later ≡ []
unfolding keys_read heard
no_later more tags room [] = refl
no_later zero tags room (k ∷ ks) = refl
no_later (suc more) tags room (k ∷ ks) = refl

nothing_read : (more : ℕ) (tags : Bool) (room : ℕ) (told : List (Option DeskReply)) → keys_read more tags room [] told ≡ record { text = Some (Ok []); asks = []; later = told }
unfolding keys_read
nothing_read more tags room told = refl

key_found : (more : ℕ) (tags : Bool) (room : ℕ) (k : List ℕ) (ks : List (List ℕ)) (told later : List (Option DeskReply)) (t : Option DeskReply) (m : List Asked) (text : List ℕ) → heard more k Read told ≡ record { last = Some t; asks = m; later = later } → found_text tags k room t ≡ Ok text → keys_read more tags room (k ∷ ks) told ≡ reading_before text m (keys_read more tags (room - length text) ks later)
unfolding keys_read
key_found more tags room k ks told later t m text h f = rw (h, f) refl

key_failed : (more : ℕ) (tags : Bool) (room : ℕ) (k : List ℕ) (ks : List (List ℕ)) (told later : List (Option DeskReply)) (t : Option DeskReply) (m : List Asked) (e : ServerText) → heard more k Read told ≡ record { last = Some t; asks = m; later = later } → found_text tags k room t ≡ Err e → keys_read more tags room (k ∷ ks) told ≡ record { text = Some (Err e); asks = m; later = later }
unfolding keys_read
key_failed more tags room k ks told later t m e h f = rw (h, f) refl

key_asks : (more : ℕ) (tags : Bool) (room : ℕ) (k : List ℕ) (ks : List (List ℕ)) (told : List (Option DeskReply)) (t : Option DeskReply) (m : List Asked) → heard more k Read told ≡ record { last = Some t; asks = m; later = [] } → (keys_read more tags room (k ∷ ks) told).asks ≡ m
key_asks more tags room k ks told t m h = at (found_text tags k room t) refl
  where
    at : (r : Result (List ℕ) ServerText) → found_text tags k room t ≡ r → (keys_read more tags room (k ∷ ks) told).asks ≡ m
    at (Ok text) f = ap (λ x. x.asks) (key_found more tags room k ks told [] t m text h f) ∙ ap (λ x. m ++ x) (no_asks more tags (room - length text) ks) ∙ append-nil m
    at (Err e) f = ap (λ x. x.asks) (key_failed more tags room k ks told [] t m e h f)

abbrev same_ok : List ℕ → List ℕ → Type 0
same_ok text x = let r : Result (List ℕ) ServerText = Ok text in r ≡ Ok x

key_later : (more : ℕ) (tags : Bool) (room : ℕ) (k : List ℕ) (ks : List (List ℕ)) (told : List (Option DeskReply)) (t : Option DeskReply) (m : List Asked) → heard more k Read told ≡ record { last = Some t; asks = m; later = [] } → (keys_read more tags room (k ∷ ks) told).later ≡ []
key_later more tags room k ks told t m h = at (found_text tags k room t) refl
  where
    at : (r : Result (List ℕ) ServerText) → found_text tags k room t ≡ r → (keys_read more tags room (k ∷ ks) told).later ≡ []
    at (Ok text) f = ap (λ x. x.later) (key_found more tags room k ks told [] t m text h f) ∙ no_later more tags (room - length text) ks
    at (Err e) f = ap (λ x. x.later) (key_failed more tags room k ks told [] t m e h f)

found_small : (tags : Bool) (k : List ℕ) (room : ℕ) (t : Option DeskReply) (x : List ℕ) → found_text tags k room t ≡ Ok x → length x ≤ room
found_small tags k room None x h = absurd (cc)
found_small tags k room (Some (Unknown n)) x h = let e : [] ≡ x = cc in rw (sym e) (omega arith)
found_small tags k room (Some (Spent n)) x h = absurd (cc)
found_small tags k room (Some (Told (answer.Busy w))) x h = absurd (cc)
found_small tags k room (Some (Told (answer.Found c t))) x h = at (value_text tags (record { key = k; flags = c.flags; bytes = c.bytes; tag = t })) _ refl h
  where
    at : (text : List ℕ) (b : Bool) → nat_lt room (length text) ≡ b → (if nat_lt room (length text) then Err server.Memory else Ok text) ≡ Ok x → length x ≤ room
    at text true f h = absurd (let k : Err server.Memory ≡ Ok x = rw f at h in cc)
    at text false f h = let k : same_ok text x = rw f at h in let e : text ≡ x = cc in let le : length text ≤ room = grind (arith, nat_tests, f) in rw e at le
found_small tags k room (Some (Told a)) x h = let e : [] ≡ x = cc in rw (sym e) (omega arith)

-- the keys read so far
pub record IsReading (more : ℕ) (tags : Bool) (room : ℕ) (asks asks' : Option (List Asked)) (old new : List ℕ) (keys : List (List ℕ)) (i : ℕ) : Type 0 where
  pub made : List Asked
  pub text : List ℕ
  pub grown : AsksMore asks asks' made
  pub put : new ≡ old ++ text
  pub small : length text ≤ room
  pub reads : (told : List (Option DeskReply)) → keys_read more tags room keys (map told_of made ++ told) ≡ reading_before text made (keys_read more tags (room - length text) (drop i keys) told)

pub reading_starts : (more : ℕ) (tags : Bool) (room : ℕ) (asks : Option (List Asked)) (old : List ℕ) (keys : List (List ℕ)) → IsReading more tags room asks asks old old keys 0
reading_starts more tags room asks old keys = record {
  made = [];
  text = [];
  grown = asks_none asks;
  put = sym (append-nil old);
  small = omega arith;
  reads = λ told. let e : room - length {A = ℕ} [] ≡ room = omega arith in rw e (sym (before_none (keys_read more tags room keys told)));
}

pub reading_goes_on : {E : Type 0} (r : Result (Option ServerText) E) (more : ℕ) (tags : Bool) (room left : ℕ) (a b c : Option (List Asked)) (old mid new k : List ℕ) (keys : List (List ℕ)) (i : ℕ) → drop i keys ≡ k ∷ drop (i + 1) keys → (h : IsReading more tags room a b old mid keys i) → left ≡ room - length h.text → r ≡ Ok None → KeyAnswers r more tags left b c mid new k → IsReading more tags room a c old new keys (i + 1)
reading_goes_on {E = E} r more tags room left a b c old mid new k keys i d h l o q = at (found_text tags k left q.last) refl (rw o at q.finds)
  where
    at : (f : Result (List ℕ) ServerText) → found_text tags k left q.last ≡ f → Finds {E = E} (Ok None) mid new (found_text tags k left q.last) → IsReading more tags room a c old new keys (i + 1)
    at (Err e) f p = absurd (rw f at p)
    at (Ok text) f p =
        let put : new ≡ mid ++ text = rw f at p in
        let small : length text ≤ left = found_small tags k left q.last text f in
        let fewer : left - length text ≡ room - length (h.text ++ text) = grind (arith, length-append, l, small, h.small) in
        record {
          made = h.made ++ q.hears.made;
          text = h.text ++ text;
          grown = asks_more a b c h.made q.hears.made h.grown q.hears.grown;
          put = put ∙ ap (λ x. x ++ text) h.put ∙ append_assoc old h.text text;
          small = grind (arith, length-append, l, small, h.small);
          reads = λ told.
              let now : keys_read more tags (room - length h.text) (drop i keys) (map told_of q.hears.made ++ told) ≡ reading_before text q.hears.made (keys_read more tags (room - length (h.text ++ text)) (drop (i + 1) keys) told) =
              rw (sym l, d) (key_found more tags left k (drop (i + 1) keys) _ told q.last q.hears.made text (q.hears.hears told) f ∙ ap (λ n. reading_before text q.hears.made (keys_read more tags n (drop (i + 1) keys) told)) fewer) in
              rw (map_append h.made q.hears.made, append_assoc (map told_of h.made) (map told_of q.hears.made) told, h.reads (map told_of q.hears.made ++ told), now) (before_twice h.text text h.made q.hears.made _);
        }

-- at a key that ends the reading
now_asks : {E : Type 0} (r : Result (Option ServerText) E) (more : ℕ) (tags : Bool) (room left : ℕ) (a b c : Option (List Asked)) (old mid new k : List ℕ) (ks keys : List (List ℕ)) (i : ℕ) → drop i keys ≡ k ∷ ks → (h : IsReading more tags room a b old mid keys i) → left ≡ room - length h.text → (q : KeyAnswers r more tags left b c mid new k) → ((keys_read more tags room keys (map told_of (h.made ++ q.hears.made))).asks ≡ h.made ++ q.hears.made) × ((keys_read more tags room keys (map told_of (h.made ++ q.hears.made))).later ≡ [])
now_asks r more tags room left a b c old mid new k ks keys i d h l q =
    let alone = heard_alone more b c k Read q.last q.hears in
    let asks : (keys_read more tags (room - length h.text) (drop i keys) (map told_of q.hears.made)).asks ≡ q.hears.made = rw (d, sym l) (key_asks more tags left k ks _ q.last q.hears.made alone) in
    let later : (keys_read more tags (room - length h.text) (drop i keys) (map told_of q.hears.made)).later ≡ [] = rw (d, sym l) (key_later more tags left k ks _ q.last q.hears.made alone) in
    (rw (map_append h.made q.hears.made, h.reads (map told_of q.hears.made)) (ap (λ x. h.made ++ x) asks), rw (map_append h.made q.hears.made, h.reads (map told_of q.hears.made)) later)

pub reading_stops : {E : Type 0} (m : E) (more : ℕ) (tags : Bool) (room left : ℕ) (a b c : Option (List Asked)) (old mid new k : List ℕ) (ks keys : List (List ℕ)) (i : ℕ) → drop i keys ≡ k ∷ ks → (h : IsReading more tags room a b old mid keys i) → left ≡ room - length h.text → KeyAnswers (Err m) more tags left b c mid new k → KeysAnswer (Err m) more tags room a c old new keys
reading_stops m more tags room left a b c old mid new k ks keys i d h l q =
    let n = now_asks (Err m) more tags room left a b c old mid new k ks keys i d h l q in
    record { made = h.made ++ q.hears.made; grown = asks_more a b c h.made q.hears.made h.grown q.hears.grown; called = n.0; none = n.1; read = None; reads = tt; whole = tt }

pub reading_fails : {E : Type 0} (e : ServerText) (more : ℕ) (tags : Bool) (room left : ℕ) (a b c : Option (List Asked)) (old mid new k : List ℕ) (ks keys : List (List ℕ)) (i : ℕ) → drop i keys ≡ k ∷ ks → (h : IsReading more tags room a b old mid keys i) → left ≡ room - length h.text → KeyAnswers {E = E} (Ok (Some e)) more tags left b c mid new k → KeysAnswer {E = E} (Ok (Some e)) more tags room a c old new keys
reading_fails {E = E} e more tags room left a b c old mid new k ks keys i d h l q = at (found_text tags k left q.last) refl q.finds
  where
    at : (f : Result (List ℕ) ServerText) → found_text tags k left q.last ≡ f → Finds {E = E} (Ok (Some e)) mid new (found_text tags k left q.last) → KeysAnswer {E = E} (Ok (Some e)) more tags room a c old new keys
    at (Ok text) f p = absurd (rw f at p)
    at (Err e') f p =
        let n = now_asks (Ok (Some e)) more tags room left a b c old mid new k ks keys i d h l q in
        let w : (e' ≡ e) × (junk : List ℕ) × (new ≡ mid ++ junk) = rw f at p in
        record {
          made = h.made ++ q.hears.made;
          grown = asks_more a b c h.made q.hears.made h.grown q.hears.grown;
          called = n.0;
          none = n.1;
          read = Some (Err e');
          reads = (w.0, h.text ++ w.1, w.2 ∙ ap (λ x. x ++ w.1) h.put ∙ append_assoc old h.text w.1);
          whole = λ told.
              let now : keys_read more tags (room - length h.text) (drop i keys) (map told_of q.hears.made ++ told) ≡ record { text = Some (Err e'); asks = q.hears.made; later = told } = rw (d, sym l) (key_failed more tags left k ks _ told q.last q.hears.made e' (q.hears.hears told) f) in
              rw (map_append h.made q.hears.made, append_assoc (map told_of h.made) (map told_of q.hears.made) told, h.reads (map told_of q.hears.made ++ told), now) refl;
        }

pub reading_done : {E : Type 0} (more : ℕ) (tags : Bool) (room : ℕ) (a b : Option (List Asked)) (old new : List ℕ) (keys : List (List ℕ)) (i : ℕ) → drop i keys ≡ [] → IsReading more tags room a b old new keys i → KeysAnswer {E = E} (Ok None) more tags room a b old new keys
reading_done more tags room a b old new keys i d h = record {
  made = h.made;
  grown = h.grown;
  called = ap (λ x. x.asks) alone;
  none = ap (λ x. x.later) alone;
  read = Some (Ok h.text);
  reads = h.put;
  whole = ended;
}
  where
    last : (told : List (Option DeskReply)) → keys_read more tags (room - length h.text) [] told ≡ record { text = Some (Ok []); asks = []; later = told }
    last told = nothing_read more tags (room - length h.text) told

    ended : (told : List (Option DeskReply)) → keys_read more tags room keys (map told_of h.made ++ told) ≡ record { text = Some (Ok h.text); asks = h.made; later = told }
    ended told = h.reads told ∙ rw (d, last told, append-nil h.text, append-nil h.made) refl

    alone : keys_read more tags room keys (map told_of h.made) ≡ record { text = Some (Ok h.text); asks = h.made; later = [] }
    alone = rw (append-nil (map told_of h.made)) at (ended [])

-- the replies to a get
pub get_asks : (r : Reading) → (get_out r).asks ≡ r.asks
get_asks r = at r.text refl
  where
    at : (o : Option (Result (List ℕ) ServerText)) → r.text ≡ o → (get_out r).asks ≡ r.asks
    at None e = rw e refl
    at (Some (Ok t)) e = rw e refl
    at (Some (Err t)) e = rw e refl

pub get_later : (r : Reading) → r.later ≡ [] → IfSome (get_out r).later (λ later. later ≡ [])
get_later r h = at r.text refl
  where
    at : (o : Option (Result (List ℕ) ServerText)) → r.text ≡ o → IfSome (get_out r).later (λ later. later ≡ [])
    at None e = rw e tt
    at (Some (Ok t)) e = rw e h
    at (Some (Err t)) e = rw e h

pub values_stopped : {E F : Type 0} (r : Result (Option ServerText) F) (m : E) (more : ℕ) (tags : Bool) (a b : Option (List Asked)) (old new end : List ℕ) (keys : List (List ℕ)) → KeysAnswer r more tags 67108859 a b old new keys → Stopped more a b (said.Asked (request.Get keys tags))
values_stopped r m more tags a b old new end keys q = record {
  made = q.made;
  grown = q.grown;
  called = get_asks (keys_read more tags 67108859 keys (map told_of q.made)) ∙ q.called;
  none = get_later (keys_read more tags 67108859 keys (map told_of q.made)) q.none;
}

pub values_found : {E F : Type 0} (r : Result (Unit {0}) E) (more : ℕ) (tags : Bool) (a b : Option (List Asked)) (old mid new : List ℕ) (keys : List (List ℕ)) → KeysAnswer {E = F} (Ok None) more tags 67108859 a b old mid keys → OnOk r (new ≡ mid ++ codes "END\r\n") → Answers r more a b old new (said.Asked (request.Get keys tags))
values_found {F = F} (Err e) more tags a b old mid new keys q p = values_stopped {F = F} (Ok None) e more tags a b old mid new keys q
values_found {F = F} (Ok u) more tags a b old mid new keys q p = at q.read refl (q.reads)
  where
    at : (o : Option (Result (List ℕ) ServerText)) → q.read ≡ o → Reads {E = F} (Ok None) old mid q.read → Replied more a b old new (said.Asked (request.Get keys tags))
    at None e h = absurd (rw e at h)
    at (Some (Err x)) e h = absurd (rw e at h)
    at (Some (Ok text)) e h =
        let put : mid ≡ old ++ text = rw e at h in
        record {
          text = text ++ codes "END\r\n";
          made = q.made;
          grown = q.grown;
          put = p ∙ ap (λ x. x ++ codes "END\r\n") put ∙ append_assoc old text (codes "END\r\n");
          replies = λ later. rw (q.whole later, e) refl;
        }

pub values_failed : {E F : Type 0} (r : Result (Unit {0}) E) (x : ServerText) (more : ℕ) (tags : Bool) (a b : Option (List Asked)) (old mid cut new : List ℕ) (keys : List (List ℕ)) → KeysAnswer {E = F} (Ok (Some x)) more tags 67108859 a b old mid keys → cut ≡ take (length old) mid → OnOk r (new ≡ cut ++ server_text x) → Answers r more a b old new (said.Asked (request.Get keys tags))
values_failed {F = F} (Err e) x more tags a b old mid cut new keys q c p = values_stopped {F = F} (Ok (Some x)) e more tags a b old mid new keys q
values_failed {F = F} (Ok u) x more tags a b old mid cut new keys q c p = at q.read refl (q.reads)
  where
    at : (o : Option (Result (List ℕ) ServerText)) → q.read ≡ o → Reads {E = F} (Ok (Some x)) old mid q.read → Replied more a b old new (said.Asked (request.Get keys tags))
    at None e h = absurd (rw e at h)
    at (Some (Ok text)) e h = absurd (rw e at h)
    at (Some (Err y)) e h =
        let w : (y ≡ x) × (junk : List ℕ) × (mid ≡ old ++ junk) = rw e at h in
        let back : cut ≡ old = c ∙ ap (λ z. take (length old) z) w.2 ∙ take_at old w.1 (length old) refl in
        record {
          text = server_text x;
          made = q.made;
          grown = q.grown;
          put = p ∙ ap (λ z. z ++ server_text x) back;
          replies = λ later. rw (q.whole later, e, w.0) refl;
        }

pub drop_item : (xs : List (List ℕ)) (i : ℕ) (x : List ℕ) → i < length xs → x ≡ get_or xs i x → drop i xs ≡ x ∷ drop (i + 1) xs
drop_item xs i x lt e = let s : i + 1 ≡ suc i = omega arith in rw s (drop-cons xs i x lt ∙ ap (λ y. y ∷ drop (suc i) xs) (sym e))

pub drop_all : (xs : List (List ℕ)) (i : ℕ) → length xs ≤ i → drop i xs ≡ []
drop_all xs i h = drop_of_length-le xs h

pub room_left : (old new text : List ℕ) (start now room : ℕ) → start ≡ length old → now ≡ length new → new ≡ old ++ text → room - (now - start) ≡ room - length text
room_left old new text start now room s n p = let l : length new ≡ length old + length text = ap length p ∙ length-append old text in omega (arith, l, s, n)
