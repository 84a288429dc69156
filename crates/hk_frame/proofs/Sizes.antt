-- How long frames are, and that letters fit.
use Rattle.std.proofs.Common.{◌≡◌, ℕ, ◌+◌, ◌*◌, ◌-◌, ◌≤◌, List, [], ◌∷◌, ◌++◌, length, Option, Some, None, Result, Ok, Err, refl, sym, ap, ◌∙◌, arith, length-append}
use Rattle.std.specs.Prelude.{IfSome, OnOk}
use Rattle.std.specs.Int.{w32, to_be_bytes}
use Rattle.std.specs.List.{flat_map, sum_by}
use Rattle.std.proofs.lemmas.List.Concat.{flat_map-cons}
use Rattle.std.proofs.lemmas.List.Sums.{sum_by-cons}
use Rattle.hk_base.specs.Key.{IsKey}
use Rattle.hk_base.specs.Range.{IsLetter, IsBody, IsVote}
use Rattle.hk_base.specs.View.{IsView}
use Rattle.hk_base.specs.declared.stamp.NodeId.{NodeId}
use Rattle.hk_base.specs.declared.call.Content.{Content}
use Rattle.hk_base.specs.declared.view.View.{View}
use Rattle.hk_base.specs.declared.view.Voted.{Voted}
use Rattle.hk_base.specs.declared.letter.Actor.{Actor}
use Rattle.hk_base.specs.declared.letter.Actor.TheVariants.{Node, Manager}
use Rattle.hk_base.specs.declared.letter.CopyItem.{CopyItem}
use Rattle.hk_base.specs.declared.letter.Letter.{Letter}
use Rattle.hk_base.specs.declared.letter.Body.{Body}
use Rattle.hk_base.specs.declared.letter.Body.TheVariants.{Inv, Ack, Val, CopyAsk, CopyGive, LeaseAsk, LeaseGive, Prepare, Promise, Accept, Accepted, Chosen, Activate}
use Rattle.hk_frame.specs.Frames.{update_byte, flag_byte, items_bytes, after_bytes, content_bytes, item_bytes, member_bytes, view_bytes, vote_bytes, actor_bytes, body_bytes, stamp_bytes, field_bytes, frame}
use Rattle.hk_base.specs.Lengths.{key_length, after_length, content_length, item_length, view_length, vote_length, body_length, frame_length, FitsFrame}
use Rattle.hk_frame.specs.Sendable.{IsContentValue, IsBodyValue, IsLetterValue}
use Rattle.hk_frame.specs.Laws.{data_size, item_size, KeepsBatchLimit}

content_sized : (o : Option Content) → length (content_bytes o) ≡ content_length o
content_sized None = refl
content_sized (Some content) = omega arith

after_sized : (o : Option (List ℕ)) → length (after_bytes o) ≡ after_length o
after_sized None = refl
after_sized (Some key) = omega arith

item_sized : (item : CopyItem) → length (item_bytes item) ≡ item_length item
item_sized item = omega (arith, length-append item.key (stamp_bytes item.stamp ++ (update_byte item.kind item.content ∷ flag_byte item.valid ∷ content_bytes item.content)), content_sized item.content)

items_sized : (items : List CopyItem) → length (flat_map item_bytes items) ≡ sum_by item_length items
items_sized [] = refl
items_sized (item ∷ items) =
    let e : length (flat_map item_bytes (item ∷ items)) ≡ length (item_bytes item) + length (flat_map item_bytes items) = ap length (flat_map-cons item_bytes item items) ∙ length-append (item_bytes item) (flat_map item_bytes items) in
    e ∙ rw (item_sized item, items_sized items) (sym (sum_by-cons item_length item items))

members_sized : (members : List NodeId) → length (flat_map member_bytes members) ≡ 2 * length members
members_sized [] = refl
members_sized (member ∷ members) = omega (arith, members_sized members)

view_sized : (view : View) → length (view_bytes view) ≡ view_length view
view_sized view = omega (arith, members_sized view.members)

vote_sized : (o : Option Voted) → length (vote_bytes o) ≡ vote_length o
vote_sized None = refl
vote_sized (Some vote) = omega (arith, view_sized vote.view)

actor_sized : (actor : Actor) → length (actor_bytes actor) ≡ 3
actor_sized (Node node) = refl
actor_sized (Manager manager) = refl

pub body_sized : (body : Body) → length (body_bytes body) ≡ body_length body
unfolding body_bytes body_length
body_sized (Inv key s kind content) = omega (arith, length-append key (stamp_bytes s ++ (update_byte kind content ∷ content_bytes content)), content_sized content)
body_sized (Ack key s top) = omega (arith, length-append key (stamp_bytes s ++ stamp_bytes top))
body_sized (Val key s) = omega (arith, length-append key (stamp_bytes s))
body_sized (CopyAsk after room) = omega (arith, length-append (after_bytes after) (room ∷ []), after_sized after)
body_sized (CopyGive after done items) = omega (arith, length-append (after_bytes after) (flag_byte done ∷ items_bytes items), after_sized after, items_sized items)
body_sized (LeaseAsk asked) = refl
body_sized (LeaseGive end) = refl
body_sized (Prepare ballot) = refl
body_sized (Promise ballot vote) = omega (arith, vote_sized vote)
body_sized (Accept ballot view) = omega (arith, view_sized view)
body_sized (Accepted ballot) = refl
body_sized (Chosen view) = view_sized view
body_sized (Activate view) = view_sized view

fields_sized : (shard : ℕ) (letter : Letter) → length (field_bytes shard letter) ≡ 16 + body_length letter.body
fields_sized shard letter = omega (arith, length-append (actor_bytes letter.from) (actor_bytes letter.to ++ body_bytes letter.body), length-append (actor_bytes letter.to) (body_bytes letter.body), actor_sized letter.from, actor_sized letter.to, body_sized letter.body)

pub frame_sized : (shard : ℕ) (letter : Letter) → length (frame shard letter) ≡ frame_length letter
frame_sized shard letter = omega (arith, fields_sized shard letter)

-- the length that stands in front of the fields
pub told_length : (shard : ℕ) (letter : Letter) → frame_length letter - 4 ≡ length (field_bytes shard letter)
told_length shard letter = omega (arith, fields_sized shard letter)

-- ---- letters fit

key_short : (key : List ℕ) → IsKey key → key_length key ≤ 251
key_short key f = omega (arith, f.short)

after_short : (o : Option (List ℕ)) → IfSome o IsKey → after_length o ≤ 251
after_short None f = omega arith
after_short (Some key) f = key_short key f

content_short : (o : Option Content) → IfSome o IsContentValue → content_length o ≤ 1048584
content_short None f = omega arith
content_short (Some content) f = omega (arith, f.bytes.short)

view_short : (view : View) → IsView view → view_length view ≤ 45
view_short view f = omega (arith, f.few)

vote_short : (o : Option Voted) → IfSome o IsVote → vote_length o ≤ 51
vote_short None f = omega arith
vote_short (Some vote) f = omega (arith, view_short vote.view f.view)

content_size : (o : Option Content) → content_length o ≤ 8 + data_size o
content_size None = omega arith
content_size (Some content) = omega arith

items_short : (items : List CopyItem) → sum_by item_length items ≤ 21 * length items + sum_by item_size items
items_short [] = omega arith
items_short (item ∷ items) = omega (arith, content_size item.content, items_short items, sum_by-cons item_length item items, sum_by-cons item_size item items)

body_short : (body : Body) → IsBodyValue body → IsBody body → KeepsBatchLimit body → body_length body ≤ 2199984
unfolding body_length
body_short (Inv key s kind content) v b g = omega (arith, key_short key v.0, content_short content v.2)
body_short (Ack key s top) v b g = omega (arith, key_short key v.0)
body_short (Val key s) v b g = omega (arith, key_short key v.0)
body_short (CopyAsk after room) v b g = omega (arith, after_short after v.0)
body_short (CopyGive after done items) v b g = omega (arith, after_short after v.0, items_short items, b.few, g)
body_short (LeaseAsk asked) v b g = omega arith
body_short (LeaseGive end) v b g = omega arith
body_short (Prepare ballot) v b g = omega arith
body_short (Promise ballot vote) v b g = omega (arith, vote_short vote b.1)
body_short (Accept ballot view) v b g = omega (arith, view_short view b.1)
body_short (Accepted ballot) v b g = omega arith
body_short (Chosen view) v b g = omega (arith, view_short view b)
body_short (Activate view) v b g = omega (arith, view_short view b)

pub letter_fits : (letter : Letter) → IsLetterValue letter → IsLetter letter → KeepsBatchLimit letter.body → FitsFrame letter
letter_fits letter v l g = omega (arith, body_short letter.body v.body l.body g)

-- the fields behind their length are the frame
pub printed_frame : {A E : Type 0} (r : Result A E) (o0 o1 o2 : List ℕ) (n shard : ℕ) (letter : Letter) → o1 ≡ o0 → n ≡ frame_length letter → OnOk r (o2 ≡ o1 ++ (to_be_bytes w32 (n - 4) ++ field_bytes shard letter)) → OnOk r (o2 ≡ o0 ++ frame shard letter)
printed_frame (Ok a) o0 o1 o2 n shard letter e f g =
    g ∙ ap (λ (t : List ℕ). t ++ (to_be_bytes w32 (n - 4) ++ field_bytes shard letter)) e ∙ ap (λ (m : ℕ). o0 ++ (to_be_bytes w32 m ++ field_bytes shard letter)) (ap (λ (k : ℕ). k - 4) f ∙ told_length shard letter)
printed_frame (Err d) o0 o1 o2 n shard letter e f g = tt
