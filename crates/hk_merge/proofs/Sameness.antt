-- The tests of sameness tell just equal values.
use Rattle.std.proofs.Common.{◌≡◌, ◌↔◌, ◌==◌, ◌&&◌, ℕ, List, [], ◌∷◌, map, Bool, true, false, Option, Some, None, refl, sym, ap, subst, ◌∙◌, arith, nat_eq}
use Rattle.std.specs.Bool.{beq}
use Rattle.std.specs.Option.{option_eq}
use Rattle.std.specs.Cmp.Lexicographic.{pointwise, same_text}
use Rattle.std.proofs.lemmas.Bool.{false≢true, true≢false, and_parts, eqb-true}
use Rattle.hk_base.specs.declared.stamp.NodeId.{NodeId}
use Rattle.hk_base.specs.declared.stamp.Stamp.{Stamp}
use Rattle.hk_base.specs.declared.stamp.Kind.{Kind}
use Rattle.hk_base.specs.declared.stamp.Kind.TheVariants.{Write, Rmw}
use Rattle.hk_base.specs.declared.call.Content.{Content}
use Rattle.hk_base.specs.declared.call.State.{State}
use Rattle.hk_base.specs.declared.call.State.TheVariants as st
use Rattle.hk_base.specs.declared.call.Why.{Why}
use Rattle.hk_base.specs.declared.call.Why.TheVariants as why
use Rattle.hk_base.specs.declared.call.Answer.{Answer}
use Rattle.hk_base.specs.declared.call.Answer.TheVariants as Answer
use Rattle.hk_base.specs.declared.call.Reply.{Reply}
use Rattle.hk_base.specs.declared.view.Ballot.{Ballot}
use Rattle.hk_base.specs.declared.view.View.{View}
use Rattle.hk_base.specs.declared.view.Voted.{Voted}
use Rattle.hk_base.specs.declared.letter.Actor.{Actor}
use Rattle.hk_base.specs.declared.letter.Actor.TheVariants.{Node, Manager}
use Rattle.hk_base.specs.declared.letter.CopyItem.{CopyItem}
use Rattle.hk_base.specs.declared.letter.Letter.{Letter}
use Rattle.hk_base.specs.declared.letter.Body.{Body}
use Rattle.hk_base.specs.declared.letter.Body.TheVariants.{Inv, Ack, Val, CopyAsk, CopyGive, LeaseAsk, LeaseGive, Prepare, Promise, Accept, Accepted, Chosen, Activate}
use Rattle.hk_merge.specs.Merged.{answers_of}
use Rattle.hk_merge.specs.Same.{same_bytes, same_stamp, same_kind, same_content, same_item, same_ballot, same_member, same_view, same_vote, same_actor, same_council, same_copy, same_body, same_letter, same_state, same_why, same_answer, same_reply, SameIsEqual, SameListsAreEqual, SameAnswersAreEqual}

-- a test that tells just equal values
record Tells {X : Type 0} (test : X → X → Bool) : Type 0 where
  is : (a b : X) → test a b ≡ true → a ≡ b
  itself : (a : X) → test a a ≡ true

both : (a b : Bool) → a ≡ true → b ≡ true → a && b ≡ true
both true true p q = refl
both true false p q = q
both false b p q = p

two : {A B C : Type 0} (f : A → B → C) (a x : A) (b y : B) → a ≡ x → b ≡ y → f a b ≡ f x y
two {A} {B} {C} f a x b y p q = ap (λ (z : A). f z b) p ∙ ap (λ (z : B). f x z) q

numbers : Tells (λ (a b : ℕ). a == b)
numbers = record { is = λ a b e. eqb-true a b e; itself = itself_number }
  where
    itself_number : (a : ℕ) → (a == a) ≡ true
    itself_number a = grind arith

bools : Tells beq
bools = record { is = bool_is; itself = bool_itself }
  where
    bool_is : (a b : Bool) → beq a b ≡ true → a ≡ b
    bool_is true true e = refl
    bool_is false false e = refl
    bool_is true false e = absurd (false≢true e)
    bool_is false true e = absurd (false≢true e)

    bool_itself : (a : Bool) → beq a a ≡ true
    bool_itself true = refl
    bool_itself false = refl

texts : Tells same_bytes
texts = record { is = λ a b e. same_text a b (sym e); itself = text_itself }
  where
    itself_number : (a : ℕ) → nat_eq a a ≡ true
    itself_number a = grind arith

    text_itself : (a : List ℕ) → pointwise nat_eq a a ≡ true
    text_itself [] = refl
    text_itself (x ∷ a) = both (nat_eq x x) (pointwise nat_eq a a) (itself_number x) (text_itself a)

module _ {X : Type 0} (test : X → X → Bool) (tells : Tells test) where
  options : Tells (option_eq test)
  options = record { is = option_is; itself = option_itself }
    where
      option_is : (a b : Option X) → option_eq test a b ≡ true → a ≡ b
      option_is None None e = refl
      option_is (Some a) (Some b) e = ap (λ (x : X). Some x) (tells.is a b e)
      option_is None (Some b) e = absurd (false≢true e)
      option_is (Some a) None e = absurd (false≢true e)

      option_itself : (a : Option X) → option_eq test a a ≡ true
      option_itself None = refl
      option_itself (Some a) = tells.itself a

  lists_are : (a b : List X) → pointwise test a b ≡ true → a ≡ b
  lists_are [] [] e = refl
  lists_are (x ∷ a) (y ∷ b) e = (let p = and_parts (test x y) (pointwise test a b) e in two (λ (z : X) (zs : List X). z ∷ zs) x y a b (tells.is x y p.0) (lists_are a b p.1))
  lists_are [] (y ∷ b) e = absurd (false≢true e)
  lists_are (x ∷ a) [] e = absurd (false≢true e)

  list_itself : (a : List X) → pointwise test a a ≡ true
  list_itself [] = refl
  list_itself (x ∷ a) = both (test x x) (pointwise test a a) (tells.itself x) (list_itself a)

  lists : Tells (pointwise test)
  lists = record { is = lists_are; itself = list_itself }

-- ---- values
stamp_of : ℕ → ℕ → Stamp
stamp_of version node = record { version = version; node = node }

stamps : Tells same_stamp
unfolding stamp_of
stamps = record {
  is = λ a b e. (let p = and_parts _ _ e in two stamp_of a.version b.version a.node b.node (numbers.is a.version b.version p.0) (numbers.is a.node b.node p.1));
  itself = λ a. both (a.version == a.version) (a.node == a.node) (numbers.itself a.version) (numbers.itself a.node);
}

kinds : Tells same_kind
kinds = record { is = kind_is; itself = kind_itself }
  where
    kind_is : (a b : Kind) → same_kind a b ≡ true → a ≡ b
    kind_is Write Write e = refl
    kind_is Rmw Rmw e = refl
    kind_is Write Rmw e = absurd (false≢true e)
    kind_is Rmw Write e = absurd (false≢true e)

    kind_itself : (a : Kind) → same_kind a a ≡ true
    kind_itself Write = refl
    kind_itself Rmw = refl

content_of : ℕ → List ℕ → Content
content_of flags bytes = record { flags = flags; bytes = bytes }

contents : Tells same_content
unfolding content_of
contents = record {
  is = λ a b e. (let p = and_parts _ _ e in two content_of a.flags b.flags a.bytes b.bytes (numbers.is a.flags b.flags p.0) (texts.is a.bytes b.bytes p.1));
  itself = λ a. both (a.flags == a.flags) (same_bytes a.bytes a.bytes) (numbers.itself a.flags) (texts.itself a.bytes);
}

lefts : Tells (option_eq same_content)
lefts = options same_content contents

afters : Tells (option_eq same_bytes)
afters = options same_bytes texts

item_of : List ℕ → Stamp → Kind → Bool → Option Content → CopyItem
item_of key stamp kind valid content = record { key = key; stamp = stamp; kind = kind; valid = valid; content = content }

copy_items : Tells same_item
unfolding item_of
copy_items = record {
  is = item_is;
  itself = λ a. both (same_bytes a.key a.key) (same_stamp a.stamp a.stamp && (same_kind a.kind a.kind && (beq a.valid a.valid && option_eq same_content a.content a.content))) (texts.itself a.key)
      (both (same_stamp a.stamp a.stamp) (same_kind a.kind a.kind && (beq a.valid a.valid && option_eq same_content a.content a.content)) (stamps.itself a.stamp)
      (both (same_kind a.kind a.kind) (beq a.valid a.valid && option_eq same_content a.content a.content) (kinds.itself a.kind)
      (both (beq a.valid a.valid) (option_eq same_content a.content a.content) (bools.itself a.valid) (lefts.itself a.content))));
}
  where
    item_is : (a b : CopyItem) → same_item a b ≡ true → a ≡ b
    item_is a b e =
        let p = and_parts (same_bytes a.key b.key) (same_stamp a.stamp b.stamp && (same_kind a.kind b.kind && (beq a.valid b.valid && option_eq same_content a.content b.content))) e in
        let q = and_parts (same_stamp a.stamp b.stamp) (same_kind a.kind b.kind && (beq a.valid b.valid && option_eq same_content a.content b.content)) p.1 in
        let r = and_parts (same_kind a.kind b.kind) (beq a.valid b.valid && option_eq same_content a.content b.content) q.1 in
        let s = and_parts (beq a.valid b.valid) (option_eq same_content a.content b.content) r.1 in
        ap (λ (k : List ℕ). item_of k a.stamp a.kind a.valid a.content) (texts.is a.key b.key p.0)
        ∙ (ap (λ (t : Stamp). item_of b.key t a.kind a.valid a.content) (stamps.is a.stamp b.stamp q.0)
        ∙ (ap (λ (k : Kind). item_of b.key b.stamp k a.valid a.content) (kinds.is a.kind b.kind r.0)
        ∙ (ap (λ (v : Bool). item_of b.key b.stamp b.kind v a.content) (bools.is a.valid b.valid s.0)
        ∙ ap (λ (c : Option Content). item_of b.key b.stamp b.kind b.valid c) (lefts.is a.content b.content s.1))))

ballot_of : ℕ → ℕ → Ballot
ballot_of round manager = record { round = round; manager = manager }

ballots : Tells same_ballot
unfolding ballot_of
ballots = record {
  is = λ a b e. (let p = and_parts _ _ e in two ballot_of a.round b.round a.manager b.manager (numbers.is a.round b.round p.0) (numbers.is a.manager b.manager p.1));
  itself = λ a. both (a.round == a.round) (a.manager == a.manager) (numbers.itself a.round) (numbers.itself a.manager);
}

node_of : ℕ → NodeId
node_of n = record { 0 = n }

nodes : Tells same_member
unfolding node_of
nodes = record { is = λ a b e. ap node_of (numbers.is a.0 b.0 e); itself = λ a. numbers.itself a.0 }

view_of : ℕ → List NodeId → ℕ → View
view_of epoch members next = record { epoch = epoch; members = members; next = next }

views : Tells same_view
unfolding view_of
views = record {
  is = view_is;
  itself = λ a. both (a.epoch == a.epoch) (pointwise same_member a.members a.members && a.next == a.next) (numbers.itself a.epoch)
      (both (pointwise same_member a.members a.members) (a.next == a.next) (list_itself same_member nodes a.members) (numbers.itself a.next));
}
  where
    view_is : (a b : View) → same_view a b ≡ true → a ≡ b
    view_is a b e =
        let p = and_parts (a.epoch == b.epoch) (pointwise same_member a.members b.members && a.next == b.next) e in
        let q = and_parts (pointwise same_member a.members b.members) (a.next == b.next) p.1 in
        ap (λ (n : ℕ). view_of n a.members a.next) (numbers.is a.epoch b.epoch p.0)
        ∙ (ap (λ (m : List NodeId). view_of b.epoch m a.next) (lists_are same_member nodes a.members b.members q.0)
        ∙ ap (λ (n : ℕ). view_of b.epoch b.members n) (numbers.is a.next b.next q.1))

vote_of : Ballot → View → Voted
vote_of ballot view = record { ballot = ballot; view = view }

votes : Tells same_vote
unfolding vote_of
votes = record {
  is = λ a b e. (let p = and_parts _ _ e in two vote_of a.ballot b.ballot a.view b.view (ballots.is a.ballot b.ballot p.0) (views.is a.view b.view p.1));
  itself = λ a. both (same_ballot a.ballot a.ballot) (same_view a.view a.view) (ballots.itself a.ballot) (views.itself a.view);
}

maybe_votes : Tells (option_eq same_vote)
maybe_votes = options same_vote votes

actors : Tells same_actor
actors = record { is = actor_is; itself = actor_itself }
  where
    actor_is : (a b : Actor) → same_actor a b ≡ true → a ≡ b
    actor_is (Node a) (Node b) e = ap (λ (n : NodeId). Node n) (nodes.is a b e)
    actor_is (Manager a) (Manager b) e = ap (λ (n : ℕ). Manager n) (numbers.is a b e)
    actor_is (Node a) (Manager b) e = absurd (false≢true e)
    actor_is (Manager a) (Node b) e = absurd (false≢true e)

    actor_itself : (a : Actor) → same_actor a a ≡ true
    actor_itself (Node a) = nodes.itself a
    actor_itself (Manager a) = numbers.itself a

-- ---- letters
body_is : (a b : Body) → same_body a b ≡ true → a ≡ b
unfolding same_body same_copy same_council
body_is (Inv key s kind content) (Inv k t d c) e =
    let p = and_parts (same_bytes key k) (same_stamp s t && (same_kind kind d && option_eq same_content content c)) e in
    let q = and_parts (same_stamp s t) (same_kind kind d && option_eq same_content content c) p.1 in
    let r = and_parts (same_kind kind d) (option_eq same_content content c) q.1 in
    ap (λ (x : List ℕ). Inv x s kind content) (texts.is key k p.0) ∙ (ap (λ (x : Stamp). Inv k x kind content) (stamps.is s t q.0)
    ∙ (ap (λ (x : Kind). Inv k t x content) (kinds.is kind d r.0) ∙ ap (λ (x : Option Content). Inv k t d x) (lefts.is content c r.1)))
body_is (Ack key s top) (Ack k t u) e =
    let p = and_parts (same_bytes key k) (same_stamp s t && same_stamp top u) e in
    let q = and_parts (same_stamp s t) (same_stamp top u) p.1 in
    ap (λ (x : List ℕ). Ack x s top) (texts.is key k p.0) ∙ (ap (λ (x : Stamp). Ack k x top) (stamps.is s t q.0) ∙ ap (λ (x : Stamp). Ack k t x) (stamps.is top u q.1))
body_is (Val key s) (Val k t) e = (let p = and_parts (same_bytes key k) (same_stamp s t) e in two (λ (x : List ℕ) (y : Stamp). Val x y) key k s t (texts.is key k p.0) (stamps.is s t p.1))
body_is (CopyAsk after room) (CopyAsk b r) e =
    (let p = and_parts (option_eq same_bytes after b) (room == r) e in two (λ (x : Option (List ℕ)) (y : ℕ). CopyAsk x y) after b room r (afters.is after b p.0) (numbers.is room r p.1))
body_is (CopyGive after done items) (CopyGive b d more) e =
    let p = and_parts (option_eq same_bytes after b) (beq done d && pointwise same_item items more) e in
    let q = and_parts (beq done d) (pointwise same_item items more) p.1 in
    ap (λ (x : Option (List ℕ)). CopyGive x done items) (afters.is after b p.0) ∙ (ap (λ (x : Bool). CopyGive b x items) (bools.is done d q.0) ∙ ap (λ (x : List CopyItem). CopyGive b d x) (lists_are same_item copy_items items more q.1))
body_is (LeaseAsk a) (LeaseAsk b) e = ap (λ (x : ℕ). LeaseAsk x) (numbers.is a b e)
body_is (LeaseGive a) (LeaseGive b) e = ap (λ (x : ℕ). LeaseGive x) (numbers.is a b e)
body_is (Prepare a) (Prepare b) e = ap (λ (x : Ballot). Prepare x) (ballots.is a b e)
body_is (Promise a vote) (Promise b other) e =
    (let p = and_parts (same_ballot a b) (option_eq same_vote vote other) e in two (λ (x : Ballot) (y : Option Voted). Promise x y) a b vote other (ballots.is a b p.0) (maybe_votes.is vote other p.1))
body_is (Accept a view) (Accept b other) e = (let p = and_parts (same_ballot a b) (same_view view other) e in two (λ (x : Ballot) (y : View). Accept x y) a b view other (ballots.is a b p.0) (views.is view other p.1))
body_is (Accepted a) (Accepted b) e = ap (λ (x : Ballot). Accepted x) (ballots.is a b e)
body_is (Chosen view) (Chosen other) e = ap (λ (x : View). Chosen x) (views.is view other e)
body_is (Activate view) (Activate other) e = ap (λ (x : View). Activate x) (views.is view other e)
body_is a b e = absurd (false≢true e)

body_itself : (a : Body) → same_body a a ≡ true
unfolding same_body same_copy same_council
body_itself (Inv key s kind content) = both (same_bytes key key) (same_stamp s s && (same_kind kind kind && option_eq same_content content content)) (texts.itself key)
    (both (same_stamp s s) (same_kind kind kind && option_eq same_content content content) (stamps.itself s) (both (same_kind kind kind) (option_eq same_content content content) (kinds.itself kind) (lefts.itself content)))
body_itself (Ack key s top) = both (same_bytes key key) (same_stamp s s && same_stamp top top) (texts.itself key) (both (same_stamp s s) (same_stamp top top) (stamps.itself s) (stamps.itself top))
body_itself (Val key s) = both (same_bytes key key) (same_stamp s s) (texts.itself key) (stamps.itself s)
body_itself (CopyAsk after room) = both (option_eq same_bytes after after) (room == room) (afters.itself after) (numbers.itself room)
body_itself (CopyGive after done items) = both (option_eq same_bytes after after) (beq done done && pointwise same_item items items) (afters.itself after) (both (beq done done) (pointwise same_item items items) (bools.itself done) (list_itself same_item copy_items items))
body_itself (LeaseAsk a) = numbers.itself a
body_itself (LeaseGive a) = numbers.itself a
body_itself (Prepare a) = ballots.itself a
body_itself (Promise a vote) = both (same_ballot a a) (option_eq same_vote vote vote) (ballots.itself a) (maybe_votes.itself vote)
body_itself (Accept a view) = both (same_ballot a a) (same_view view view) (ballots.itself a) (views.itself view)
body_itself (Accepted a) = ballots.itself a
body_itself (Chosen view) = views.itself view
body_itself (Activate view) = views.itself view

letter_of : ℕ → Actor → Actor → Body → Letter
letter_of epoch from to body = record { epoch = epoch; from = from; to = to; body = body }

letters : Tells same_letter
unfolding letter_of
letters = record {
  is = letter_is;
  itself = λ a. both (a.epoch == a.epoch) (same_actor a.from a.from && (same_actor a.to a.to && same_body a.body a.body)) (numbers.itself a.epoch)
      (both (same_actor a.from a.from) (same_actor a.to a.to && same_body a.body a.body) (actors.itself a.from) (both (same_actor a.to a.to) (same_body a.body a.body) (actors.itself a.to) (body_itself a.body)));
}
  where
    letter_is : (a b : Letter) → same_letter a b ≡ true → a ≡ b
    letter_is a b e =
        let p = and_parts (a.epoch == b.epoch) (same_actor a.from b.from && (same_actor a.to b.to && same_body a.body b.body)) e in
        let q = and_parts (same_actor a.from b.from) (same_actor a.to b.to && same_body a.body b.body) p.1 in
        let r = and_parts (same_actor a.to b.to) (same_body a.body b.body) q.1 in
        ap (λ (x : ℕ). letter_of x a.from a.to a.body) (numbers.is a.epoch b.epoch p.0) ∙ (ap (λ (x : Actor). letter_of b.epoch x a.to a.body) (actors.is a.from b.from q.0)
        ∙ (ap (λ (x : Actor). letter_of b.epoch b.from x a.body) (actors.is a.to b.to r.0) ∙ ap (λ (x : Body). letter_of b.epoch b.from b.to x) (body_is a.body b.body r.1)))

pub same_is_equal : SameIsEqual
same_is_equal a b = (letters.is a b, λ e. subst (λ (x : Letter). same_letter a x ≡ true) e (letters.itself a))

pub same_lists_are_equal : SameListsAreEqual
same_lists_are_equal a b = (lists_are same_letter letters a b, λ e. subst (λ (x : List Letter). pointwise same_letter a x ≡ true) e (list_itself same_letter letters a))

-- ---- answers
states : Tells same_state
states = record { is = state_is; itself = state_itself }
  where
    state_is : (a b : State) → same_state a b ≡ true → a ≡ b
    state_is st.Valid st.Valid e = refl
    state_is st.Invalid st.Invalid e = refl
    state_is st.Write st.Write e = refl
    state_is st.Replay st.Replay e = refl
    state_is st.Trans st.Trans e = refl
    state_is a b e = absurd (false≢true e)

    state_itself : (a : State) → same_state a a ≡ true
    state_itself st.Valid = refl
    state_itself st.Invalid = refl
    state_itself st.Write = refl
    state_itself st.Replay = refl
    state_itself st.Trans = refl

whys : Tells same_why
whys = record { is = why_is; itself = why_itself }
  where
    why_is : (a b : Why) → same_why a b ≡ true → a ≡ b
    why_is (why.Lease end now) (why.Lease e2 n2) e = (let p = and_parts (end == e2) (now == n2) e in two (λ (x y : ℕ). why.Lease x y) end e2 now n2 (numbers.is end e2 p.0) (numbers.is now n2 p.1))
    why_is (why.Row s t) (why.Row s2 t2) e = (let p = and_parts (same_state s s2) (same_stamp t t2) e in two (λ (x : State) (y : Stamp). why.Row x y) s s2 t t2 (states.is s s2 p.0) (stamps.is t t2 p.1))
    why_is (why.Lease end now) (why.Row s t) e = absurd (false≢true e)
    why_is (why.Row s t) (why.Lease end now) e = absurd (false≢true e)

    why_itself : (a : Why) → same_why a a ≡ true
    why_itself (why.Lease end now) = both (end == end) (now == now) (numbers.itself end) (numbers.itself now)
    why_itself (why.Row s t) = both (same_state s s) (same_stamp t t) (states.itself s) (stamps.itself t)

answers : Tells same_answer
answers = record { is = answer_is; itself = answer_itself }
  where
    answer_is : (a b : Answer) → same_answer a b ≡ true → a ≡ b
    answer_is (Answer.Found c t) (Answer.Found d u) e = (let p = and_parts (same_content c d) (t == u) e in two (λ (x : Content) (y : ℕ). Answer.Found x y) c d t u (contents.is c d p.0) (numbers.is t u p.1))
    answer_is Answer.Missing Answer.Missing e = refl
    answer_is Answer.Stored Answer.Stored e = refl
    answer_is (Answer.Number n) (Answer.Number m) e = ap (λ (x : ℕ). Answer.Number x) (numbers.is n m e)
    answer_is Answer.Exists Answer.Exists e = refl
    answer_is Answer.NotFound Answer.NotFound e = refl
    answer_is Answer.NotNumber Answer.NotNumber e = refl
    answer_is Answer.NotStored Answer.NotStored e = refl
    answer_is Answer.Deleted Answer.Deleted e = refl
    answer_is (Answer.Busy w) (Answer.Busy v) e = ap (λ (x : Why). Answer.Busy x) (whys.is w v e)
    answer_is (Answer.Aborted s) (Answer.Aborted t) e = ap (λ (x : Stamp). Answer.Aborted x) (stamps.is s t e)
    answer_is (Answer.Exhausted s) (Answer.Exhausted t) e = ap (λ (x : Stamp). Answer.Exhausted x) (stamps.is s t e)
    answer_is a b e = absurd (false≢true e)

    answer_itself : (a : Answer) → same_answer a a ≡ true
    answer_itself (Answer.Found c t) = both (same_content c c) (t == t) (contents.itself c) (numbers.itself t)
    answer_itself Answer.Missing = refl
    answer_itself Answer.Stored = refl
    answer_itself (Answer.Number n) = numbers.itself n
    answer_itself Answer.Exists = refl
    answer_itself Answer.NotFound = refl
    answer_itself Answer.NotNumber = refl
    answer_itself Answer.NotStored = refl
    answer_itself Answer.Deleted = refl
    answer_itself (Answer.Busy w) = whys.itself w
    answer_itself (Answer.Aborted s) = stamps.itself s
    answer_itself (Answer.Exhausted s) = stamps.itself s

pub same_answer_is : (a b : Answer) → same_answer a b ≡ true → a ≡ b
same_answer_is a b e = answers.is a b e

pub same_answer_itself : (a : Answer) → same_answer a a ≡ true
same_answer_itself a = answers.itself a

answers_are : (a b : List Reply) → pointwise same_reply a b ≡ true → answers_of a ≡ answers_of b
answers_are [] [] e = refl
answers_are (x ∷ a) (y ∷ b) e = (let p = and_parts (same_reply x y) (pointwise same_reply a b) e in two (λ (z : Answer) (zs : List Answer). z ∷ zs) x.answer y.answer (answers_of a) (answers_of b) (answers.is x.answer y.answer p.0) (answers_are a b p.1))
answers_are [] (y ∷ b) e = absurd (false≢true e)
answers_are (x ∷ a) [] e = absurd (false≢true e)

abbrev head_or : Answer → List Answer → Answer
head_or x [] = x
head_or x (y ∷ ys) = y

abbrev rest_of : List Answer → List Answer
rest_of [] = []
rest_of (y ∷ ys) = ys

answers_same : (a b : List Reply) → answers_of a ≡ answers_of b → pointwise same_reply a b ≡ true
answers_same [] [] e = refl
answers_same (x ∷ a) (y ∷ b) e = both (same_reply x y) (pointwise same_reply a b)
    (subst (λ (z : Answer). same_answer x.answer z ≡ true) (ap (head_or x.answer) e) (answers.itself x.answer)) (answers_same a b (ap rest_of e))
answers_same [] (y ∷ b) e = cc
answers_same (x ∷ a) [] e = cc

pub same_answers_are_equal : SameAnswersAreEqual
same_answers_are_equal a b = (answers_are a b, answers_same a b)
