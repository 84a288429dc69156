-- That the words of a line are read as the grammar has them, both ways.
use Rattle.std.proofs.Common.{◌≡◌, ◌≢◌, ℕ, ◌≤◌, List, [], ◌∷◌, Bool, true, false, Option, Some, None, refl, ap, ◌∙◌, sym, arith, subst, ◌⊎◌, inl, inr}
use Rattle.std.specs.Prelude.{Result, Ok, Err, if◌then◌else◌, codes, IfOk, is_some}
use Rattle.std.specs.List.{AllByRecursion}
use Rattle.hk_base.specs.Key.{IsKey}
use Rattle.hk_base.specs.declared.call.Op.{Op}
use Rattle.hk_base.specs.declared.call.Op.TheVariants as op
use Rattle.hk_base.specs.declared.data.TheConstants.{MAX_DATA_LEN}
use Rattle.hk_request.specs.declared.words.Command.{Command}
use Rattle.hk_request.specs.declared.words.Command.TheVariants as command
use Rattle.hk_request.specs.declared.line.Change.{Change}
use Rattle.hk_request.specs.declared.request.Request.{Request}
use Rattle.hk_request.specs.declared.request.Request.TheVariants.{Get, Update, Quit, Version}
use Rattle.hk_request.specs.declared.request.Verb.{Verb}
use Rattle.hk_request.specs.declared.request.Verb.TheVariants as verb
use Rattle.hk_request.specs.declared.request.Head.{Head}
use Rattle.hk_request.specs.declared.request.Head.TheVariants.{Whole, Store}
use Rattle.hk_request.specs.declared.request.RequestCause.{RequestCause}
use Rattle.hk_request.specs.declared.request.RequestCause.TheVariants as cause
use Rattle.hk_request.specs.declared.request.RequestFault.{RequestFault}
use Rattle.hk_request.specs.Words.{is_text, words_of}
use Rattle.hk_request.specs.Commands.{command_of, name_of}
use Rattle.hk_request.specs.Heads.{word_of, is_cas, HasItsTagIfStore}
use Rattle.hk_request.specs.Fields.{key_of, number_at, expiry_of, size_of, tag_of, noreply_of}
use Rattle.hk_request.specs.Reading.{store_of, untagged_of, cas_of, step_of, change_of, delete_of, deletion_of, keys_of, get_of, alone_of, asked_of, asked_by, head_of_words, head_of, with_skip, skip_of, ReadsHead, FailsHead}
use Rattle.hk_request.specs.Grammar.{IsNumber, small, large, IsNoreply, IsChange, IsTagged, IsUpdate, IsWhole, IsHead, IsReadAs}
use Rattle.hk_request.proofs.Single.{bind_ok, text_same, key_found, key_read, number_found, number_read, expiry_found, expiry_read, size_found, size_read, noreply_found}

-- what a store is read as
pub record StoredAs (v : Verb) (k f e b : List ℕ) (t : Option (List ℕ)) (noreply : Bool) (head : Head) : Type 0 where
  pub flags : ℕ
  pub size : ℕ
  pub tag : Option ℕ
  pub is : head ≡ Store (record { verb = v; key = k; flags = flags; tag = tag; bytes = size; noreply = noreply })
  pub key_word : IsKey k
  pub flags_word : IsNumber small f flags
  pub expiry_word : IsNumber large e 0
  pub size_word : IsNumber small b size
  pub short : size ≤ MAX_DATA_LEN
  pub tag_word : tag_of t ≡ Ok tag

store_made : (v : Verb) (k x : List ℕ) (flags size : ℕ) (tag : Option ℕ) (noreply : Bool) (head : Head) → k ≡ x → Store (record { verb = v; key = x; flags = flags; tag = tag; bytes = size; noreply = noreply }) ≡ head → head ≡ Store (record { verb = v; key = k; flags = flags; tag = tag; bytes = size; noreply = noreply })
store_made v k x flags size tag noreply head z h = rw z (sym h)

pub store_found : (v : Verb) (k f e b : List ℕ) (t : Option (List ℕ)) (noreply : Bool) (head : Head) → store_of v k f e b t noreply ≡ Ok head → StoredAs v k f e b t noreply head
unfolding store_of
store_found v k f e b t noreply head h =
    let b1 = bind_ok (key_of k) _ head h in
    let b2 = bind_ok (number_at 3 small f) _ head b1.2 in
    let b3 = bind_ok (expiry_of e) _ head b2.2 in
    let b4 = bind_ok (size_of b) _ head b3.2 in
    let b5 = bind_ok (tag_of t) _ head b4.2 in
    let key = key_found k b1.0 b1.1 in
    let size = size_found b b4.0 b4.1 in
    let made : Store (record { verb = v; key = b1.0; flags = b2.0; tag = b5.0; bytes = b4.0; noreply = noreply }) ≡ head = cc in
    record { flags = b2.0; size = b4.0; tag = b5.0; is = store_made v k b1.0 b2.0 b4.0 b5.0 noreply head key.1 made; key_word = key.0; flags_word = number_found 3 small f b2.0 b2.1; expiry_word = expiry_found e b3.0 b3.1; size_word = size.0; short = size.1; tag_word = b5.1 }

untagged_is : (v : Verb) (k f e b : List ℕ) (others : List (List ℕ)) (noreply : Bool) (head : Head) → is_cas v ≡ false → StoredAs v k f e b None noreply head → IsNoreply others noreply → IsHead (word_of v ∷ k ∷ f ∷ e ∷ b ∷ others) head
unfolding tag_of
untagged_is v k f e b others noreply head untagged s last = at_tag s.tag s.is (cc)
  where
    at_tag : (tag : Option ℕ) → head ≡ Store (record { verb = v; key = k; flags = s.flags; tag = tag; bytes = s.size; noreply = noreply }) → tag ≡ None → IsHead (word_of v ∷ k ∷ f ∷ e ∷ b ∷ others) head
    at_tag None is e' = rw is (record { flags = f; expiry = e; size = b; others = others; spelling = refl; key_word = s.key_word; flags_word = s.flags_word; expiry_word = s.expiry_word; size_word = s.size_word; short = s.short; its_tag = sym untagged; other_words = last })
    at_tag (Some n) is e' = absurd (cc)

untagged_found : (v : Verb) (words : List (List ℕ)) (head : Head) → is_cas v ≡ false → untagged_of v words ≡ Ok head → IsHead (word_of v ∷ words) head
unfolding untagged_of
untagged_found v (k ∷ f ∷ e ∷ b ∷ []) head u h = untagged_is v k f e b [] false head u (store_found v k f e b None false head h) refl
untagged_found v (k ∷ f ∷ e ∷ b ∷ last ∷ []) head u h =
    let n = bind_ok (noreply_of last) _ head h in
    untagged_is v k f e b (last ∷ []) n.0 head u (store_found v k f e b None n.0 head n.2) (noreply_found last n.0 n.1)
untagged_found v (k ∷ f ∷ e ∷ b ∷ last ∷ more ∷ words) head u h = absurd (cc)
untagged_found v (k ∷ f ∷ e ∷ []) head u h = absurd (cc)
untagged_found v (k ∷ f ∷ []) head u h = absurd (cc)
untagged_found v (k ∷ []) head u h = absurd (cc)
untagged_found v [] head u h = absurd (cc)

cas_is : (k f e b t : List ℕ) (others : List (List ℕ)) (noreply : Bool) (head : Head) → StoredAs verb.Cas k f e b (Some t) noreply head → IsNoreply others noreply → IsHead (codes "cas" ∷ k ∷ f ∷ e ∷ b ∷ t ∷ others) head
unfolding tag_of
cas_is k f e b t others noreply head s last =
    let n = bind_ok (number_at 6 large t) (λ n. Ok (Some n)) s.tag s.tag_word in
    at_tag s.tag s.is n.0 (let e' : Ok (Some n.0) ≡ Ok s.tag = n.2 in cc) (number_found 6 large t n.0 n.1)
  where
    at_tag : (tag : Option ℕ) → head ≡ Store (record { verb = verb.Cas; key = k; flags = s.flags; tag = tag; bytes = s.size; noreply = noreply }) → (n : ℕ) → Some n ≡ tag → IsNumber large t n → IsHead (codes "cas" ∷ k ∷ f ∷ e ∷ b ∷ t ∷ others) head
    at_tag None is n e' number = absurd (cc)
    at_tag (Some m) is n e' number = let z : n ≡ m = cc in rw is (record { flags = f; expiry = e; size = b; others = t ∷ others; spelling = refl; key_word = s.key_word; flags_word = s.flags_word; expiry_word = s.expiry_word; size_word = s.size_word; short = s.short; its_tag = refl; other_words = (rw z at number, last) })

cas_found : (words : List (List ℕ)) (head : Head) → cas_of words ≡ Ok head → IsHead (codes "cas" ∷ words) head
unfolding cas_of
cas_found (k ∷ f ∷ e ∷ b ∷ t ∷ []) head h = cas_is k f e b t [] false head (store_found verb.Cas k f e b (Some t) false head h) refl
cas_found (k ∷ f ∷ e ∷ b ∷ t ∷ last ∷ []) head h =
    let n = bind_ok (noreply_of last) _ head h in
    cas_is k f e b t (last ∷ []) n.0 head (store_found verb.Cas k f e b (Some t) n.0 head n.2) (noreply_found last n.0 n.1)
cas_found (k ∷ f ∷ e ∷ b ∷ t ∷ last ∷ more ∷ words) head h = absurd (cc)
cas_found (k ∷ f ∷ e ∷ b ∷ []) head h = absurd (cc)
cas_found (k ∷ f ∷ e ∷ []) head h = absurd (cc)
cas_found (k ∷ f ∷ []) head h = absurd (cc)
cas_found (k ∷ []) head h = absurd (cc)
cas_found [] head h = absurd (cc)

step_made : (k x : List ℕ) (by : ℕ) (noreply : Bool) (c : Change) → k ≡ x → record { key = x; by = by; noreply = noreply } ≡ c → record { key = k; by = by; noreply = noreply } ≡ c
step_made k x by noreply c z h = rw z h

step_found : (name k v : List ℕ) (others : List (List ℕ)) (noreply : Bool) (c : Change) → step_of k v noreply ≡ Ok c → IsNoreply others noreply → IsChange name (name ∷ k ∷ v ∷ others) c.key c.by c.noreply
unfolding step_of
step_found name k v others noreply c h last =
    let b1 = bind_ok (key_of k) _ c h in
    let b2 = bind_ok (number_at 3 large v) _ c b1.2 in
    let key = key_found k b1.0 b1.1 in
    let made : record { key = b1.0; by = b2.0; noreply = noreply } ≡ c = cc in
    let is = step_made k b1.0 b2.0 noreply c key.1 made in
    subst (λ z. IsChange name (name ∷ k ∷ v ∷ others) z.key z.by z.noreply) is (record { digits = v; last = others; spelling = refl; key_word = key.0; by_word = number_found 3 large v b2.0 b2.1; last_words = last })

change_found : (name : List ℕ) (words : List (List ℕ)) (c : Change) → change_of words ≡ Ok c → IsChange name (name ∷ words) c.key c.by c.noreply
unfolding change_of
change_found name (k ∷ v ∷ []) c h = step_found name k v [] false c h refl
change_found name (k ∷ v ∷ last ∷ []) c h =
    let n = bind_ok (noreply_of last) _ c h in
    step_found name k v (last ∷ []) n.0 c n.2 (noreply_found last n.0 n.1)
change_found name (k ∷ v ∷ last ∷ more ∷ words) c h = absurd (cc)
change_found name (k ∷ []) c h = absurd (cc)
change_found name [] c h = absurd (cc)

deletion_made : (k x : List ℕ) (others : List (List ℕ)) (noreply : Bool) (head : Head) → k ≡ x → Whole (Update x op.Delete noreply) ≡ head → IsKey k → IsNoreply others noreply → IsHead (codes "delete" ∷ k ∷ others) head
deletion_made k x others noreply head z h key last = subst (λ y. IsHead (codes "delete" ∷ k ∷ others) y) h (record { last = others; spelling = rw z refl; key_word = rw z at key; last_words = last })

deletion_found : (k : List ℕ) (others : List (List ℕ)) (noreply : Bool) (head : Head) → deletion_of k noreply ≡ Ok head → IsNoreply others noreply → IsHead (codes "delete" ∷ k ∷ others) head
unfolding deletion_of
deletion_found k others noreply head h last =
    let b = bind_ok (key_of k) _ head h in
    let key = key_found k b.0 b.1 in
    let made : Whole (Update b.0 op.Delete noreply) ≡ head = cc in
    deletion_made k b.0 others noreply head key.1 made key.0 last

delete_found : (words : List (List ℕ)) (head : Head) → delete_of words ≡ Ok head → IsHead (codes "delete" ∷ words) head
unfolding delete_of
delete_found (k ∷ []) head h = deletion_found k [] false head h refl
delete_found (k ∷ last ∷ []) head h =
    let n = bind_ok (noreply_of last) _ head h in
    deletion_found k (last ∷ []) n.0 head n.2 (noreply_found last n.0 n.1)
delete_found (k ∷ last ∷ more ∷ words) head h = absurd (cc)
delete_found [] head h = absurd (cc)

keys_made : (w x : List ℕ) (ws xs ks : List (List ℕ)) → w ≡ x → ws ≡ xs → x ∷ xs ≡ ks → IsKey w → AllByRecursion IsKey xs → (w ∷ ws ≡ ks) × AllByRecursion IsKey ks
keys_made w x ws xs ks p q h k r = (rw (p, q) h, subst (λ z. AllByRecursion IsKey z) h (rw p at k, r))

keys_found : (words ks : List (List ℕ)) → keys_of words ≡ Ok ks → (words ≡ ks) × AllByRecursion IsKey ks
keys_found [] ks h = let e : [] ≡ ks = cc in rw (sym e) (refl, tt)
keys_found (w ∷ ws) ks h =
    let b1 = bind_ok (key_of w) _ ks h in
    let b2 = bind_ok (keys_of ws) _ ks b1.2 in
    let k = key_found w b1.0 b1.1 in
    let r = keys_found ws b2.0 b2.1 in
    let e : b1.0 ∷ b2.0 ≡ ks = cc in
    keys_made w b1.0 ws b2.0 ks k.1 r.0 e k.0 r.1

get_made : (tags : Bool) (w : List ℕ) (ws ks : List (List ℕ)) (head : Head) → w ∷ ws ≡ ks → Whole (Get ks tags) ≡ head → AllByRecursion IsKey ks → IsHead ((if tags then codes "gets" else codes "get") ∷ w ∷ ws) head
get_made tags w ws ks head p h r = subst (λ z. IsHead ((if tags then codes "gets" else codes "get") ∷ w ∷ ws) z) h (rw p refl, rw (sym p) (λ z. absurd (cc)), r)

get_found : (tags : Bool) (words : List (List ℕ)) (head : Head) → get_of tags words ≡ Ok head → IsHead ((if tags then codes "gets" else codes "get") ∷ words) head
unfolding get_of
get_found tags [] head h = absurd (cc)
get_found tags (w ∷ ws) head h =
    let b = bind_ok (keys_of (w ∷ ws)) _ head h in
    let k = keys_found (w ∷ ws) b.0 b.1 in
    let e : Whole (Get b.0 tags) ≡ head = cc in
    get_made tags w ws b.0 head k.0 e k.1

alone_found : (words : List (List ℕ)) (request : Request) (head : Head) → alone_of words request ≡ Ok head → (words ≡ []) × (head ≡ Whole request)
alone_found [] request head h = (refl, cc)
alone_found (w ∷ ws) request head h = absurd (cc)

asked_found : (c : Command) (words : List (List ℕ)) (head : Head) → asked_of c words ≡ Ok head → IsHead (name_of c ∷ words) head
unfolding asked_of
asked_found command.Get words head h = get_found false words head h
asked_found command.Gets words head h = get_found true words head h
asked_found command.Set words head h = untagged_found verb.Set words head refl h
asked_found command.Cas words head h = cas_found words head h
asked_found command.Add words head h = untagged_found verb.Add words head refl h
asked_found command.Replace words head h = untagged_found verb.Replace words head refl h
asked_found command.Incr words head h =
    let b = bind_ok (change_of words) _ head h in
    let e : Whole (Update b.0.key (op.Incr b.0.by) b.0.noreply) ≡ head = cc in
    subst (λ z. IsHead (codes "incr" ∷ words) z) e (change_found (codes "incr") words b.0 b.1)
asked_found command.Decr words head h =
    let b = bind_ok (change_of words) _ head h in
    let e : Whole (Update b.0.key (op.Decr b.0.by) b.0.noreply) ≡ head = cc in
    subst (λ z. IsHead (codes "decr" ∷ words) z) e (change_found (codes "decr") words b.0 b.1)
asked_found command.Delete words head h = delete_found words head h
asked_found command.Quit words head h = let a = alone_found words Quit head h in rw (a.0, a.1) refl
asked_found command.Version words head h = let a = alone_found words Version head h in rw (a.0, a.1) refl

-- the command that a name is
first_of : {A : Type 0} (b : Bool) (x y : A) (o : Option A) → (if b then Some x else o) ≡ Some y → ((b ≡ true) × (x ≡ y)) ⊎ (o ≡ Some y)
first_of true x y o h = inl (refl, cc)
first_of false x y o h = inr h

command_found : (w : List ℕ) (c : Command) → command_of w ≡ Some c → w ≡ name_of c
unfolding command_of
command_found w c h =
    elim (first_of (is_text w (codes "get")) command.Get c _ h) [
      | inl p ↦ ap_name command.Get p
      | inr h1 ↦
          elim (first_of (is_text w (codes "gets")) command.Gets c _ h1) [
            | inl p ↦ ap_name command.Gets p
            | inr h2 ↦
                elim (first_of (is_text w (codes "set")) command.Set c _ h2) [
                  | inl p ↦ ap_name command.Set p
                  | inr h3 ↦
                      elim (first_of (is_text w (codes "cas")) command.Cas c _ h3) [
                        | inl p ↦ ap_name command.Cas p
                        | inr h4 ↦
                            elim (first_of (is_text w (codes "add")) command.Add c _ h4) [
                              | inl p ↦ ap_name command.Add p
                              | inr h5 ↦
                                  elim (first_of (is_text w (codes "replace")) command.Replace c _ h5) [
                                    | inl p ↦ ap_name command.Replace p
                                    | inr h6 ↦
                                        elim (first_of (is_text w (codes "incr")) command.Incr c _ h6) [
                                          | inl p ↦ ap_name command.Incr p
                                          | inr h7 ↦
                                              elim (first_of (is_text w (codes "decr")) command.Decr c _ h7) [
                                                | inl p ↦ ap_name command.Decr p
                                                | inr h8 ↦
                                                    elim (first_of (is_text w (codes "delete")) command.Delete c _ h8) [
                                                      | inl p ↦ ap_name command.Delete p
                                                      | inr h9 ↦
                                                          elim (first_of (is_text w (codes "quit")) command.Quit c _ h9) [
                                                            | inl p ↦ ap_name command.Quit p
                                                            | inr h10 ↦
                                                                elim (first_of (is_text w (codes "version")) command.Version c _ h10) [ inl p ↦ ap_name command.Version p | inr h11 ↦ absurd (cc) ]
                                                          ]
                                                    ]
                                              ]
                                        ]
                                  ]
                            ]
                      ]
                ]
          ]
    ]
  where
    ap_name : (d : Command) → (is_text w (name_of d) ≡ true) × (d ≡ c) → w ≡ name_of c
    ap_name d p = text_same w (name_of d) p.0 ∙ ap name_of p.1

command_read : (c : Command) → command_of (name_of c) ≡ Some c
unfolding command_of
command_read command.Get = refl
command_read command.Gets = refl
command_read command.Set = refl
command_read command.Cas = refl
command_read command.Add = refl
command_read command.Replace = refl
command_read command.Incr = refl
command_read command.Decr = refl
command_read command.Delete = refl
command_read command.Quit = refl
command_read command.Version = refl

words_found : (words : List (List ℕ)) (head : Head) → head_of_words words ≡ Ok head → IsHead words head
unfolding head_of_words
words_found [] head h = absurd (cc)
words_found (w ∷ ws) head h = by_command (command_of w) (λ c e. command_found w c e) h
  where
    by_command : (o : Option Command) → ((c : Command) → o ≡ Some c → w ≡ name_of c) → asked_by o ws ≡ Ok head → IsHead (w ∷ ws) head
    by_command None p h = absurd (cc)
    by_command (Some c) p h = rw (p c refl) (asked_found c ws head h)

-- what is spelled so is read
store_read : (v : Verb) (k f e b : List ℕ) (t : Option (List ℕ)) (noreply : Bool) (flags size : ℕ) (tag : Option ℕ) → IsKey k → IsNumber small f flags → IsNumber large e 0 → IsNumber small b size → size ≤ MAX_DATA_LEN → tag_of t ≡ Ok tag → store_of v k f e b t noreply ≡ Ok (Store (record { verb = v; key = k; flags = flags; tag = tag; bytes = size; noreply = noreply }))
unfolding store_of
store_read v k f e b t noreply flags size tag kw fw ew bw short tw = rw (key_read k kw, number_read 3 small f flags (omega arith) fw, expiry_read e ew, size_read b size bw short, tw) refl

untagged_read : (v : Verb) (k f e b : List ℕ) (others : List (List ℕ)) (noreply : Bool) (h : Head) → ((t : Bool) → t ≡ noreply → store_of v k f e b None t ≡ Ok h) → IsNoreply others noreply → untagged_of v (k ∷ f ∷ e ∷ b ∷ others) ≡ Ok h
unfolding untagged_of
untagged_read v k f e b [] noreply h s last = s false (sym last)
untagged_read v k f e b (w ∷ []) noreply h s last = rw last.0 (s true (sym last.1))
untagged_read v k f e b (w ∷ x ∷ ws) noreply h s last = absurd last

cas_read : (k f e b t : List ℕ) (others : List (List ℕ)) (noreply : Bool) (h : Head) → ((q : Bool) → q ≡ noreply → store_of verb.Cas k f e b (Some t) q ≡ Ok h) → IsNoreply others noreply → cas_of (k ∷ f ∷ e ∷ b ∷ t ∷ others) ≡ Ok h
unfolding cas_of
cas_read k f e b t [] noreply h s last = s false (sym last)
cas_read k f e b t (w ∷ []) noreply h s last = rw last.0 (s true (sym last.1))
cas_read k f e b t (w ∷ v ∷ ws) noreply h s last = absurd last

change_read : (k v : List ℕ) (others : List (List ℕ)) (by : ℕ) (noreply : Bool) → IsKey k → IsNumber large v by → IsNoreply others noreply → change_of (k ∷ v ∷ others) ≡ Ok (record { key = k; by = by; noreply = noreply })
unfolding change_of step_of
change_read k v [] by noreply kw vw last = rw (key_read k kw, number_read 3 large v by (omega arith) vw, last) refl
change_read k v (w ∷ []) by noreply kw vw last = rw (last.0, key_read k kw, number_read 3 large v by (omega arith) vw, last.1) refl
change_read k v (w ∷ x ∷ ws) by noreply kw vw last = absurd last

delete_read : (k : List ℕ) (others : List (List ℕ)) (noreply : Bool) → IsKey k → IsNoreply others noreply → delete_of (k ∷ others) ≡ Ok (Whole (Update k op.Delete noreply))
unfolding delete_of deletion_of
delete_read k [] noreply kw last = rw (key_read k kw, last) refl
delete_read k (w ∷ []) noreply kw last = rw (last.0, key_read k kw, last.1) refl
delete_read k (w ∷ x ∷ ws) noreply kw last = absurd last

keys_read : (ks : List (List ℕ)) → AllByRecursion IsKey ks → keys_of ks ≡ Ok ks
keys_read [] r = refl
keys_read (k ∷ ks) r = rw (key_read k r.0, keys_read ks r.1) refl

get_read : (tags : Bool) (ks : List (List ℕ)) → ks ≢ [] → AllByRecursion IsKey ks → get_of tags ks ≡ Ok (Whole (Get ks tags))
unfolding get_of
get_read tags [] some r = absurd (some refl)
get_read tags (k ∷ ks) some r = rw (keys_read (k ∷ ks) r) refl

by_name : (c : Command) (words : List (List ℕ)) (h : Head) → asked_of c words ≡ Ok h → head_of_words (name_of c ∷ words) ≡ Ok h
unfolding head_of_words
by_name c words h e = rw (command_read c) e

update_read : (words : List (List ℕ)) (key : List ℕ) (o : Op) (noreply : Bool) → IsUpdate words key o noreply → head_of_words words ≡ Ok (Whole (Update key o noreply))
unfolding asked_of
update_read words key (op.Incr by) noreply u = rw u.spelling (by_name command.Incr (key ∷ u.digits ∷ u.last) _ (rw (change_read key u.digits u.last by noreply u.key_word u.by_word u.last_words) refl))
update_read words key (op.Decr by) noreply u = rw u.spelling (by_name command.Decr (key ∷ u.digits ∷ u.last) _ (rw (change_read key u.digits u.last by noreply u.key_word u.by_word u.last_words) refl))
update_read words key op.Delete noreply u = rw u.spelling (by_name command.Delete (key ∷ u.last) _ (rw (delete_read key u.last noreply u.key_word u.last_words) refl))
update_read words key op.Read noreply u = absurd u
update_read words key (op.Write c) noreply u = absurd u
update_read words key (op.Cas t c) noreply u = absurd u
update_read words key (op.Add c) noreply u = absurd u
update_read words key (op.Replace c) noreply u = absurd u

whole_read : (words : List (List ℕ)) (r : Request) → IsWhole words r → head_of_words words ≡ Ok (Whole r)
unfolding asked_of
whole_read words (Get keys true) w = rw w.0 (by_name command.Gets keys _ (get_read true keys w.1 w.2))
whole_read words (Get keys false) w = rw w.0 (by_name command.Get keys _ (get_read false keys w.1 w.2))
whole_read words (Update key o noreply) w = update_read words key o noreply w
whole_read words Quit w = rw w (by_name command.Quit [] _ refl)
whole_read words Version w = rw w (by_name command.Version [] _ refl)

untagged_head : (v : Verb) (c : Command) (k f e b : List ℕ) (flags size : ℕ) (others : List (List ℕ)) (noreply : Bool) → word_of v ≡ name_of c → ((words : List (List ℕ)) → asked_of c words ≡ untagged_of v words) → IsKey k → IsNumber small f flags → IsNumber large e 0 → IsNumber small b size → size ≤ MAX_DATA_LEN → IsNoreply others noreply → head_of_words (word_of v ∷ k ∷ f ∷ e ∷ b ∷ others) ≡ Ok (Store (record { verb = v; key = k; flags = flags; tag = None; bytes = size; noreply = noreply }))
unfolding tag_of
untagged_head v c k f e b flags size others noreply named asked kw fw ew bw short last = rw named (by_name c (k ∷ f ∷ e ∷ b ∷ others) _ (asked (k ∷ f ∷ e ∷ b ∷ others) ∙ untagged_read v k f e b others noreply _ (λ q z. rw z (store_read v k f e b None noreply flags size None kw fw ew bw short refl)) last))

tagged_read : (v : Verb) (k f e b : List ℕ) (flags size : ℕ) (tag : Option ℕ) (others : List (List ℕ)) (noreply : Bool) → IsKey k → IsNumber small f flags → IsNumber large e 0 → IsNumber small b size → size ≤ MAX_DATA_LEN → is_some tag ≡ is_cas v → IsTagged tag others noreply → head_of_words (word_of v ∷ k ∷ f ∷ e ∷ b ∷ others) ≡ Ok (Store (record { verb = v; key = k; flags = flags; tag = tag; bytes = size; noreply = noreply }))
unfolding asked_of tag_of
tagged_read verb.Set k f e b flags size None others noreply kw fw ew bw short its last = untagged_head verb.Set command.Set k f e b flags size others noreply refl (λ words. refl) kw fw ew bw short last
tagged_read verb.Add k f e b flags size None others noreply kw fw ew bw short its last = untagged_head verb.Add command.Add k f e b flags size others noreply refl (λ words. refl) kw fw ew bw short last
tagged_read verb.Replace k f e b flags size None others noreply kw fw ew bw short its last = untagged_head verb.Replace command.Replace k f e b flags size others noreply refl (λ words. refl) kw fw ew bw short last
tagged_read verb.Cas k f e b flags size None others noreply kw fw ew bw short its last = absurd (cc)
tagged_read verb.Set k f e b flags size (Some tag) others noreply kw fw ew bw short its last = absurd (cc)
tagged_read verb.Add k f e b flags size (Some tag) others noreply kw fw ew bw short its last = absurd (cc)
tagged_read verb.Replace k f e b flags size (Some tag) others noreply kw fw ew bw short its last = absurd (cc)
tagged_read verb.Cas k f e b flags size (Some tag) [] noreply kw fw ew bw short its last = absurd last
tagged_read verb.Cas k f e b flags size (Some tag) (t ∷ others) noreply kw fw ew bw short its last = by_name command.Cas (k ∷ f ∷ e ∷ b ∷ t ∷ others) _ (cas_read k f e b t others noreply _ (λ q z. rw z (store_read verb.Cas k f e b (Some t) noreply flags size (Some tag) kw fw ew bw short (rw (number_read 6 large t tag (omega arith) last.0) refl))) last.1)

words_read : (words : List (List ℕ)) (head : Head) → IsHead words head → head_of_words words ≡ Ok head
words_read words (Whole r) w = whole_read words r w
words_read words (Store h) w = rw w.spelling (tagged_read h.verb h.key w.flags w.expiry w.size h.flags h.bytes h.tag w.others h.noreply w.key_word w.flags_word w.expiry_word w.size_word w.short w.its_tag w.other_words)

-- the line
line_found : (line : List ℕ) (head : Head) → head_of line ≡ Ok head → IsHead (words_of line) head
unfolding head_of
line_found line head h = words_found (words_of line) head (unskipped (head_of_words (words_of line)) h)
  where
    unskipped : (r : Result Head RequestCause) → with_skip (skip_of (words_of line)) r ≡ Ok head → r ≡ Ok head
    unskipped (Ok x) h = cc
    unskipped (Err e) h = absurd (cc)

pub line_read : (line : List ℕ) (head : Head) → IsHead (words_of line) head → head_of line ≡ Ok head
unfolding head_of
line_read line head w = rw (words_read (words_of line) head w) refl

pub is_head : (line : List ℕ) (r : Result Head RequestFault) → ReadsHead r (head_of line) → IfOk r (λ h. IsHead (words_of line) h)
is_head line (Ok h) e = line_found line h e
is_head line (Err f) e = tt

tagged_as : (words : List (List ℕ)) (head : Head) → IsHead words head → HasItsTagIfStore head
tagged_as words (Whole r) w = tt
tagged_as words (Store h) w = w.its_tag

pub has_its_tag : (line : List ℕ) (r : Result Head RequestFault) → ReadsHead r (head_of line) → IfOk r HasItsTagIfStore
has_its_tag line (Ok h) e = tagged_as (words_of line) h (line_found line h e)
has_its_tag line (Err f) e = tt

fails_none : (e : RequestCause) (f : RequestFault) (read : Result Head RequestFault) (h : Head) → FailsHead e f read → read ≡ Ok h → e ≡ cause.Memory
fails_none cause.Memory f read h a b = refl
fails_none cause.Unknown f read h a b = absurd (cc)
fails_none cause.WrongCount f read h a b = absurd (cc)
fails_none cause.BadKey f read h a b = absurd (cc)
fails_none (cause.BadNumber w) f read h a b = absurd (cc)
fails_none cause.Expiry f read h a b = absurd (cc)
fails_none (cause.TooLarge n) f read h a b = absurd (cc)

pub head_is : (line : List ℕ) (r : Result Head RequestFault) → ReadsHead r (head_of line) → (h : Head) → IsHead (words_of line) h → IsReadAs r h
head_is line (Ok x) e h w = let z : head_of line ≡ Ok h = line_read line h w in let y : head_of line ≡ Ok x = e in cc
head_is line (Err f) e h w = fails_none f.cause f (head_of line) h e (line_read line h w)
