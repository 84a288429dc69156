-- How the reads of a connection add up.
use Rattle.std.proofs.Common.{◌≡◌, ◌<◌, ℕ, ◌+◌, List, [], ◌∷◌, ◌++◌, length, take, Option, Some, None, Ok, Err, refl, sym, ap, subst, ◌∙◌, arith, append-nil, append_assoc, length-append, drop}
use Rattle.std.proofs.lemmas.List.Elements.{All-nil, All-append, All-from_recursion}
use Rattle.std.proofs.Math.Seq.{take-append_seam}
use Rattle.hk_peer.specs.Cut.{Cutting, fed, filled, with_room, written}
use Rattle.hk_outside.specs.Records.{RecordsRead}
use Rattle.hk_outside.proofs.Records.{one_more}
use Rattle.hk_peer.specs.declared.ends.PeerEnd.{PeerEnd}
use Rattle.hk_peer.specs.Counted.{GivesMore, HasGiven, AreRead, IsCount, end_mark}

pub gives_none : (given : Option (List (List ℕ))) → GivesMore given given []
gives_none None = tt
gives_none (Some before) = ap Some (sym (append-nil before))

pub gives_more : (a b c : Option (List (List ℕ))) (xs ys : List (List ℕ)) → GivesMore a b xs → GivesMore b c ys → GivesMore a c (xs ++ ys)
gives_more None b c xs ys h k = tt
gives_more (Some before) b c xs ys h k = subst (λ (m : Option (List (List ℕ))). GivesMore m c ys) h k ∙ ap Some (append_assoc before xs ys)

-- a read that gives some bytes, or none, or fails
pub gives_read : (E : Type 0) (a b : Option (List (List ℕ))) (n : ℕ) (room : List ℕ) → RecordsRead {E = E} a b (Ok n) room → GivesMore a b (take n room ∷ [])
gives_read E None b n room h = tt
gives_read E (Some before) b n room h = h

pub gives_fault : (E : Type 0) (a b : Option (List (List ℕ))) (e : E) (room : List ℕ) → RecordsRead {E = E} a b (Err e) room → GivesMore a b []
gives_fault E None b e room h = tt
gives_fault E (Some before) b e room h = h ∙ ap Some (sym (append-nil before))

abbrev pub GaveSome : List ℕ → Type 0
GaveSome piece = 0 < length piece

pub given_none : (given : Option (List (List ℕ))) → HasGiven given given [] 0
given_none given = record { pieces = []; joined = refl; filled = All-nil _; many = refl; grown = gives_none given }

abbrev pub given_more : (a b c : Option (List (List ℕ))) (bytes piece : List ℕ) (reads : ℕ) → HasGiven a b bytes reads → GivesMore b c (piece ∷ []) → 0 < length piece → HasGiven a c (bytes ++ piece) (reads + 1)
given_more a b c bytes piece reads h k some = record {
  pieces = h.pieces ++ piece ∷ [];
  joined = one_more h.pieces piece ∙ ap (λ (all : List ℕ). all ++ piece) h.joined;
  filled = All-append GaveSome h.pieces (piece ∷ []) h.filled (All-from_recursion GaveSome (piece ∷ []) (some, tt));
  many = grind (arith, length-append, h.many);
  grown = gives_more a b c h.pieces (piece ∷ []) h.grown k;
}

-- the reads of a call that ended so, where the last of them gave some bytes
abbrev pub read_now : (ended : PeerEnd) (a b : Option (List (List ℕ))) (bytes : List ℕ) (reads : ℕ) → HasGiven a b bytes reads → end_mark ended ≡ [] → IsCount ended reads → AreRead ended a b bytes
read_now ended a b bytes reads h none count = record {
  pieces = h.pieces;
  joined = h.joined;
  filled = h.filled;
  grown = rw (none, append-nil h.pieces) h.grown;
  count = rw h.many count;
}

-- where the last of them failed, or gave nothing
abbrev pub read_on : (ended : PeerEnd) (a b c : Option (List (List ℕ))) (bytes : List ℕ) (reads : ℕ) → HasGiven a b bytes reads → GivesMore b c (end_mark ended) → IsCount ended reads → AreRead ended a c bytes
read_on ended a b c bytes reads h k count = record {
  pieces = h.pieces;
  joined = h.joined;
  filled = h.filled;
  grown = gives_more a b c h.pieces (end_mark ended) h.grown k;
  count = rw h.many count;
}

-- what a cutter is once the room that it lent was filled
came_to : (old : Cutting) (room lent : List ℕ) (count : ℕ) → length lent ≡ length room → filled (written (with_room old room) lent) count ≡ record (fed old (take count lent)) { room = drop count (take (length room) (lent ++ drop (length lent) room)) }
came_to old room lent count e =
    let front : take (length room) (lent ++ drop (length lent) room) ≡ lent = rw (sym e) (take-append_seam lent (drop (length lent) room)) in
    ap (λ (piece : List ℕ). record (fed old piece) { room = drop count (take (length room) (lent ++ drop (length lent) room)) }) (ap (λ (held : List ℕ). take count held) front)

pub came : (old made now : Cutting) (lent : List ℕ) (count : ℕ) → made ≡ with_room old made.room → length lent ≡ length made.room → now ≡ filled (written made lent) count → now ≡ record (fed old (take count lent)) { room = now.room }
came old made now lent count same e fill =
    let all = fill ∙ ap (λ (c : Cutting). filled (written c lent) count) same ∙ came_to old made.room lent count e in
    all ∙ ap (λ (room : List ℕ). record (fed old (take count lent)) { room = room }) (sym (ap (λ (c : Cutting). c.room) all))
