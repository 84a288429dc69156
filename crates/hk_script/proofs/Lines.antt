-- The words of a line: what is read is written so, and what is written so is read.
use Rattle.std.proofs.Common.{◌≡◌, ℕ, ◌<◌, ◌≤◌, ◌^◌, List, [], ◌∷◌, Option, Some, None, codes, decimal, refl, sym, ap, subst, arith}
use Rattle.std.specs.Option.{option_map}
use Rattle.hk_base.specs.declared.call.Content.{Content}
use Rattle.hk_base.specs.declared.call.Op.{Op}
use Rattle.hk_base.specs.declared.call.Op.TheVariants.{Read, Write, Cas, Incr, Decr, Replace, Delete}
use Rattle.hk_base.specs.declared.call.Op.TheVariants as operation
use Rattle.hk_base.specs.declared.letter.Actor.{Actor}
use Rattle.hk_base.specs.declared.letter.Actor.TheVariants.{Manager}
use Rattle.hk_base.specs.declared.time.TheConstants.{MAX_TIME}
use Rattle.hk_base.specs.declared.view.Change.{Change}
use Rattle.hk_base.specs.declared.view.Change.TheVariants.{Drop, Add}
use Rattle.hk_event.specs.declared.event.Event.{Event}
use Rattle.hk_event.specs.declared.event.Event.TheVariants.{Call, Take, Crash, Resend, Replay, Copy, Start, Agree, Install, Lease, AskLease, Propose, Activate}
use Rattle.hk_script.specs.Words.{word_of, actor_word}
use Rattle.hk_script.specs.Grammar.{IsOp, IsContent, IsChange, IsWritten, op_words, change_words, event_words}
use Rattle.hk_script.specs.Parts.{number_64, flags_of, time_of, some_of, key_of, data_of, node_of, manager_of, actor_of, target_of}
use Rattle.hk_script.specs.Lines.{none, one, two, three, content, content_of, op_of, change_of, tick, call_of, propose_of, group_event_of, actor_event_of, event_of_words}
use Rattle.hk_script.proofs.Choices.{bind_some, map_some, some_same, no_some, named}
use Rattle.hk_script.proofs.Spelling.{IsPart}
use Rattle.hk_script.proofs.Actors.{IsTarget, target_word, IsDataBytes, number_64_part, flags_part, time_part, some_part, node_part, manager_part, actor_part, target_part, key_part, data_part}

-- ---- so many words
same_two : (a b x y : List ℕ) → a ≡ x → b ≡ y → x ∷ y ∷ [] ≡ a ∷ b ∷ []
same_two a b x y e f = rw (e, f) refl

same_three : (a b c x y z : List ℕ) → a ≡ x → b ≡ y → c ≡ z → x ∷ y ∷ z ∷ [] ≡ a ∷ b ∷ c ∷ []
same_three a b c x y z e f g = rw (e, f, g) refl

pub none_takes : {B : Type 0} (P : List (List ℕ) → B → Type 0) (x : B) → P [] x → (ws : List (List ℕ)) (z : B) → none x ws ≡ Some z → P ws z
unfolding none
none_takes P x h [] z e = subst (P []) (some_same x z e) h
none_takes P x h (a ∷ ws) z e = absurd (no_some z e)

pub one_takes : {A B : Type 0} {V : A → Type 0} {s : A → List ℕ} {f : List ℕ → Option A} (p : IsPart V s f) (make : A → B) (P : List (List ℕ) → B → Type 0)
    → ((x : A) → V x → P (s x ∷ []) (make x)) → (ws : List (List ℕ)) (z : B) → one f make ws ≡ Some z → P ws z
unfolding one
one_takes {s} {f} p make P h [] z e = absurd (no_some z e)
one_takes {s} {f} p make P h (a ∷ []) z e =
    let m = map_some (f a) make z e in
    let t = p.takes a m.0 m.1 in
    subst (P (a ∷ [])) m.2 (subst (λ w. P (w ∷ []) (make m.0)) (sym t.1) (h m.0 t.0))
one_takes {s} {f} p make P h (a ∷ b ∷ ws) z e = absurd (no_some z e)

pub two_takes : {A B C : Type 0} {V : A → Type 0} {W : B → Type 0} {s : A → List ℕ} {t : B → List ℕ} {f : List ℕ → Option A} {g : List ℕ → Option B} (p : IsPart V s f) (q : IsPart W t g) (make : A → B → C) (P : List (List ℕ) → C → Type 0)
    → ((x : A) (y : B) → V x → W y → P (s x ∷ t y ∷ []) (make x y)) → (ws : List (List ℕ)) (z : C) → two f g make ws ≡ Some z → P ws z
unfolding two
two_takes {f} {g} p q make P h [] z e = absurd (no_some z e)
two_takes {f} {g} p q make P h (a ∷ []) z e = absurd (no_some z e)
two_takes {f} {g} p q make P h (a ∷ b ∷ []) z e =
    let m = bind_some (f a) _ z e in
    let n = bind_some (g b) _ z m.2 in
    let i = p.takes a m.0 m.1 in
    let j = q.takes b n.0 n.1 in
    subst (P (a ∷ b ∷ [])) (some_same (make m.0 n.0) z n.2) (subst (λ ws. P ws (make m.0 n.0)) (same_two _ _ _ _ i.1 j.1) (h m.0 n.0 i.0 j.0))
two_takes {f} {g} p q make P h (a ∷ b ∷ c ∷ ws) z e = absurd (no_some z e)

pub three_takes : {A B C D : Type 0} {V : A → Type 0} {W : B → Type 0} {X : C → Type 0} {s : A → List ℕ} {t : B → List ℕ} {u : C → List ℕ} {f : List ℕ → Option A} {g : List ℕ → Option B} {k : List ℕ → Option C} (p : IsPart V s f) (q : IsPart W t g) (r : IsPart X u k) (make : A → B → C → D) (P : List (List ℕ) → D → Type 0)
    → ((x : A) (y : B) (c : C) → V x → W y → X c → P (s x ∷ t y ∷ u c ∷ []) (make x y c)) → (ws : List (List ℕ)) (z : D) → three f g k make ws ≡ Some z → P ws z
unfolding three
three_takes p q r make P h [] z e = absurd (no_some z e)
three_takes p q r make P h (a ∷ []) z e = absurd (no_some z e)
three_takes p q r make P h (a ∷ b ∷ []) z e = absurd (no_some z e)
three_takes {f} {g} {k} p q r make P h (a ∷ b ∷ c ∷ []) z e =
    let m = bind_some (f a) _ z e in
    let n = bind_some (g b) _ z m.2 in
    let o = bind_some (k c) _ z n.2 in
    let i = p.takes a m.0 m.1 in
    let j = q.takes b n.0 n.1 in
    let l = r.takes c o.0 o.1 in
    let made = make m.0 n.0 o.0 in
    subst (P (a ∷ b ∷ c ∷ [])) (some_same made z o.2) (subst (λ ws. P ws made) (same_three _ _ _ _ _ _ i.1 j.1 l.1) (h m.0 n.0 o.0 i.0 j.0 l.0))
three_takes p q r make P h (a ∷ b ∷ c ∷ d ∷ ws) z e = absurd (no_some z e)

-- ---- operations
abbrev IsOpAt : List ℕ → List (List ℕ) → Op → Type 0
IsOpAt name ws op = IsOp op × ((key : List ℕ) → name ∷ word_of key ∷ ws ≡ op_words key op)

content_is : (f : ℕ) (b : List ℕ) → f < 2 ^ 32 → IsDataBytes b → IsContent (content f b)
content_is f b lt is = record { flags_fit = lt; is_data = is.0; each = is.1 }

abbrev IsContentAt : List (List ℕ) → Content → Type 0
IsContentAt ws c = IsContent c × (decimal c.flags ∷ word_of c.bytes ∷ [] ≡ ws)

-- an operation that stores a content
stored_takes : (name : List ℕ) (make : Content → Op) → ((c : Content) → IsContent c → IsOp (make c)) → ((key : List ℕ) (c : Content) → name ∷ word_of key ∷ decimal c.flags ∷ word_of c.bytes ∷ [] ≡ op_words key (make c)) → (ws : List (List ℕ)) (op : Op) → option_map make (content_of ws) ≡ Some op → IsOpAt name ws op
stored_takes name make is words ws op e =
    let m = map_some (content_of ws) make op e in
    let t = two_takes flags_part data_part content IsContentAt (λ f b v w. (content_is f b v w, refl)) ws m.0 m.1 in
    subst (IsOpAt name ws) m.2 (subst (λ us. IsOpAt name us (make m.0)) t.1 (is m.0 t.0, λ key. words key m.0))

op_takes : (name : List ℕ) (ws : List (List ℕ)) (op : Op) → op_of name ws ≡ Some op → IsOpAt name ws op
unfolding op_of
op_takes name ws op e =
    named (λ n. IsOpAt n ws op) name (codes "get") (none Read ws) _ op (none_takes (IsOpAt (codes "get")) Read (tt, λ key. refl) ws op)
    (named (λ n. IsOpAt n ws op) name (codes "set") (option_map Write (content_of ws)) _ op
    (stored_takes (codes "set") Write (λ c v. v) (λ key c. refl) ws op)
    (named (λ n. IsOpAt n ws op) name (codes "cas") (three flags_of data_of number_64 (λ f b t. Cas t (content f b)) ws) _ op
    (three_takes flags_part data_part number_64_part (λ f b t. Cas t (content f b)) (IsOpAt (codes "cas")) (λ f b t v w x. ((x, content_is f b v w), λ key. refl)) ws op)
    (named (λ n. IsOpAt n ws op) name (codes "incr") (one number_64 Incr ws) _ op
    (one_takes number_64_part Incr (IsOpAt (codes "incr")) (λ n v. (v, λ key. refl)) ws op)
    (named (λ n. IsOpAt n ws op) name (codes "decr") (one number_64 Decr ws) _ op
    (one_takes number_64_part Decr (IsOpAt (codes "decr")) (λ n v. (v, λ key. refl)) ws op)
    (named (λ n. IsOpAt n ws op) name (codes "add") (option_map operation.Add (content_of ws)) _ op
    (stored_takes (codes "add") operation.Add (λ c v. v) (λ key c. refl) ws op)
    (named (λ n. IsOpAt n ws op) name (codes "replace") (option_map Replace (content_of ws)) _ op
    (stored_takes (codes "replace") Replace (λ c v. v) (λ key c. refl) ws op)
    (named (λ n. IsOpAt n ws op) name (codes "delete") (none Delete ws) None op
    (none_takes (IsOpAt (codes "delete")) Delete (tt, λ key. refl) ws op)
    (λ x. absurd (no_some op x))))))))) e

-- the words of an operation but its key's
abbrev pub op_name : Op → List ℕ
op_name Read = codes "get"
op_name (Write c) = codes "set"
op_name (Cas tag c) = codes "cas"
op_name (Incr by) = codes "incr"
op_name (Decr by) = codes "decr"
op_name (operation.Add c) = codes "add"
op_name (Replace c) = codes "replace"
op_name Delete = codes "delete"

abbrev pub op_rest : Op → List (List ℕ)
op_rest Read = []
op_rest (Write c) = decimal c.flags ∷ word_of c.bytes ∷ []
op_rest (Cas tag c) = decimal c.flags ∷ word_of c.bytes ∷ decimal tag ∷ []
op_rest (Incr by) = decimal by ∷ []
op_rest (Decr by) = decimal by ∷ []
op_rest (operation.Add c) = decimal c.flags ∷ word_of c.bytes ∷ []
op_rest (Replace c) = decimal c.flags ∷ word_of c.bytes ∷ []
op_rest Delete = []

pub op_words_are : (key : List ℕ) (op : Op) → op_words key op ≡ op_name op ∷ word_of key ∷ op_rest op
op_words_are key Read = refl
op_words_are key (Write c) = refl
op_words_are key (Cas tag c) = refl
op_words_are key (Incr by) = refl
op_words_are key (Decr by) = refl
op_words_are key (operation.Add c) = refl
op_words_are key (Replace c) = refl
op_words_are key Delete = refl

pub op_again : (op : Op) → IsOp op → op_of (op_name op) (op_rest op) ≡ Some op
unfolding op_of none one two three
op_again Read is = refl
op_again (Write c) is = rw (flags_part.again c.flags is.flags_fit, data_part.again c.bytes (is.is_data, is.each)) refl
op_again (Cas tag c) is = rw (flags_part.again c.flags is.1.flags_fit, data_part.again c.bytes (is.1.is_data, is.1.each), number_64_part.again tag is.0) refl
op_again (Incr by) is = rw (number_64_part.again by is) refl
op_again (Decr by) is = rw (number_64_part.again by is) refl
op_again (operation.Add c) is = rw (flags_part.again c.flags is.flags_fit, data_part.again c.bytes (is.is_data, is.each)) refl
op_again (Replace c) is = rw (flags_part.again c.flags is.flags_fit, data_part.again c.bytes (is.is_data, is.each)) refl
op_again Delete is = refl

-- ---- changes
abbrev IsChangeAt : List (List ℕ) → Change → Type 0
IsChangeAt ws change = IsChange change × (ws ≡ change_words change)

change_takes : (ws : List (List ℕ)) (change : Change) → change_of ws ≡ Some change → IsChangeAt ws change
unfolding change_of
change_takes [] change e = absurd (no_some change e)
change_takes (name ∷ ws) change e =
    named (λ n. IsChangeAt (n ∷ ws) change) name (codes "drop") (one node_of Drop ws) _ change
    (one_takes node_part Drop (λ ws change. IsChangeAt (codes "drop" ∷ ws) change) (λ id v. (v, refl)) ws change)
    (named (λ n. IsChangeAt (n ∷ ws) change) name (codes "add") (none Add ws) None change
    (none_takes (λ ws change. IsChangeAt (codes "add" ∷ ws) change) Add (tt, refl) ws change)
    (λ x. absurd (no_some change x))) e

pub change_again : (change : Change) → IsChange change → change_of (change_words change) ≡ Some change
unfolding change_of none one
change_again (Drop id) is = rw (node_part.again id is) refl
change_again Add is = refl

-- ---- events
abbrev IsEventAt : List (List ℕ) → Event → Type 0
IsEventAt ws event = IsWritten event × (ws ≡ event_words event)

call_takes : (ws : List (List ℕ)) (event : Event) → call_of ws ≡ Some event → IsEventAt (codes "call" ∷ ws) event
unfolding call_of
call_takes [] event e = absurd (no_some event e)
call_takes (n ∷ []) event e = absurd (no_some event e)
call_takes (n ∷ name ∷ []) event e = absurd (no_some event e)
call_takes (n ∷ name ∷ k ∷ ws) event e =
    let i = bind_some (node_of n) _ event e in
    let j = bind_some (key_of k) _ event i.2 in
    let o = bind_some (op_of name ws) _ event j.2 in
    let a = node_part.takes n i.0 i.1 in
    let b = key_part.takes k j.0 j.1 in
    let c = op_takes name ws o.0 o.1 in
    subst (IsEventAt (codes "call" ∷ n ∷ name ∷ k ∷ ws)) (some_same (Call i.0 j.0 o.0) event o.2)
    ((a.0, b.0, c.0), written n (decimal i.0.0) name k (word_of j.0) ws (op_words j.0 o.0) a.1 b.1 (c.1 j.0))
  where
    written : (n m name k l : List ℕ) (ws us : List (List ℕ)) → n ≡ m → k ≡ l → name ∷ l ∷ ws ≡ us → codes "call" ∷ n ∷ name ∷ k ∷ ws ≡ codes "call" ∷ m ∷ us
    written n m name k l ws us e f g = rw (e, f) (ap (λ vs. codes "call" ∷ m ∷ vs) g)

propose_takes : (ws : List (List ℕ)) (event : Event) → propose_of ws ≡ Some event → IsEventAt (codes "propose" ∷ ws) event
unfolding propose_of
propose_takes [] event e = absurd (no_some event e)
propose_takes (m ∷ []) event e = absurd (no_some event e)
propose_takes (m ∷ b ∷ ws) event e =
    let i = bind_some (manager_of m) _ event e in
    let j = bind_some (number_64 b) _ event i.2 in
    let o = bind_some (change_of ws) _ event j.2 in
    let x = manager_part.takes m i.0 i.1 in
    let y = number_64_part.takes b j.0 j.1 in
    let z = change_takes ws o.0 o.1 in
    subst (IsEventAt (codes "propose" ∷ m ∷ b ∷ ws)) (some_same (Propose i.0 j.0 o.0) event o.2)
    ((x.0, y.0, z.0), written m (actor_word (Manager i.0)) b (decimal j.0) ws (change_words o.0) x.1 y.1 z.1)
  where
    written : (m n b c : List ℕ) (ws us : List (List ℕ)) → m ≡ n → b ≡ c → ws ≡ us → codes "propose" ∷ m ∷ b ∷ ws ≡ codes "propose" ∷ n ∷ c ∷ us
    written m n b c ws us e f g = rw (e, f, g) refl

agree_takes : (ws : List (List ℕ)) (event : Event) → option_map Agree (change_of ws) ≡ Some event → IsEventAt (codes "agree" ∷ ws) event
agree_takes ws event e =
    let m = map_some (change_of ws) Agree event e in
    let t = change_takes ws m.0 m.1 in
    subst (IsEventAt (codes "agree" ∷ ws)) m.2 (t.0, ap (λ us. codes "agree" ∷ us) t.1)

tick_is : (actor : Option Actor) (to : ℕ) → IsTarget actor → to ≤ MAX_TIME → IsEventAt (codes "tick" ∷ target_word actor ∷ decimal to ∷ []) (tick actor to)
tick_is None to is le = (le, refl)
tick_is (Some actor) to is le = ((is, le), refl)

group_takes : (name : List ℕ) (ws : List (List ℕ)) (event : Event) → group_event_of name ws ≡ Some event → IsEventAt (name ∷ ws) event
unfolding group_event_of
group_takes name ws event e =
    named (λ n. IsEventAt (n ∷ ws) event) name (codes "agree") (option_map Agree (change_of ws)) _ event (agree_takes ws event)
    (named (λ n. IsEventAt (n ∷ ws) event) name (codes "install") (two node_of number_64 Install ws) _ event
    (two_takes node_part number_64_part Install (λ ws event. IsEventAt (codes "install" ∷ ws) event) (λ id n v w. ((v, w), refl)) ws event)
    (named (λ n. IsEventAt (n ∷ ws) event) name (codes "lease") (two node_of time_of Lease ws) _ event
    (two_takes node_part time_part Lease (λ ws event. IsEventAt (codes "lease" ∷ ws) event) (λ id n v w. ((v, w), refl)) ws event)
    (named (λ n. IsEventAt (n ∷ ws) event) name (codes "asklease") (two node_of manager_of AskLease ws) _ event
    (two_takes node_part manager_part AskLease (λ ws event. IsEventAt (codes "asklease" ∷ ws) event) (λ id m v w. ((v, w), refl)) ws event)
    (named (λ n. IsEventAt (n ∷ ws) event) name (codes "propose") (propose_of ws) _ event (propose_takes ws event)
    (named (λ n. IsEventAt (n ∷ ws) event) name (codes "activate") (one manager_of Activate ws) None event
    (one_takes manager_part Activate (λ ws event. IsEventAt (codes "activate" ∷ ws) event) (λ m v. (v, refl)) ws event)
    (λ x. absurd (no_some event x))))))) e

actor_takes : (name : List ℕ) (ws : List (List ℕ)) (event : Event) → actor_event_of name ws ≡ Some event → IsEventAt (name ∷ ws) event
unfolding actor_event_of
actor_takes name ws event e =
    named (λ n. IsEventAt (n ∷ ws) event) name (codes "take") (one number_64 Take ws) _ event
    (one_takes number_64_part Take (λ ws event. IsEventAt (codes "take" ∷ ws) event) (λ n v. (v, refl)) ws event)
    (named (λ n. IsEventAt (n ∷ ws) event) name (codes "tick") (two target_of time_of tick ws) _ event
    (two_takes target_part time_part tick (λ ws event. IsEventAt (codes "tick" ∷ ws) event) tick_is ws event)
    (named (λ n. IsEventAt (n ∷ ws) event) name (codes "crash") (one actor_of Crash ws) _ event
    (one_takes actor_part Crash (λ ws event. IsEventAt (codes "crash" ∷ ws) event) (λ actor v. (v, refl)) ws event)
    (named (λ n. IsEventAt (n ∷ ws) event) name (codes "copy") (three node_of node_of (some_of 64) Copy ws) _ event
    (three_takes node_part node_part (some_part 64 (omega arith)) Copy (λ ws event. IsEventAt (codes "copy" ∷ ws) event) (λ id from room v w x. ((v, w, record { some = x.0; few = x.1 }), refl)) ws event)
    (named (λ n. IsEventAt (n ∷ ws) event) name (codes "start") (one node_of Start ws) (group_event_of name ws) event
    (one_takes node_part Start (λ ws event. IsEventAt (codes "start" ∷ ws) event) (λ id v. (v, refl)) ws event)
    (group_takes name ws event))))) e

pub event_takes : (ws : List (List ℕ)) (event : Event) → event_of_words ws ≡ Some event → IsEventAt ws event
unfolding event_of_words
event_takes [] event e = absurd (no_some event e)
event_takes (name ∷ ws) event e =
    named (λ n. IsEventAt (n ∷ ws) event) name (codes "call") (call_of ws) _ event (call_takes ws event)
    (named (λ n. IsEventAt (n ∷ ws) event) name (codes "resend") (two node_of key_of Resend ws) _ event
    (two_takes node_part key_part Resend (λ ws event. IsEventAt (codes "resend" ∷ ws) event) (λ id key v w. ((v, w), refl)) ws event)
    (named (λ n. IsEventAt (n ∷ ws) event) name (codes "replay") (two node_of key_of Replay ws) (actor_event_of name ws) event
    (two_takes node_part key_part Replay (λ ws event. IsEventAt (codes "replay" ∷ ws) event) (λ id key v w. ((v, w), refl)) ws event)
    (actor_takes name ws event))) e
