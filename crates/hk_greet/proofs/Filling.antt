-- What one read of a connection brings, and what one write takes.
use Rattle.std.proofs.Common.{◌≡◌, ℕ, ◌+◌, List, [], ◌++◌, length, take, drop, Option, Some, None, Ok, Err, sym, ap, subst, ◌∙◌, append_assoc}
use Rattle.std.proofs.Math.Seq.{take-append_seam}
use Rattle.std.proofs.lemmas.List.{take-append-drop}
use Rattle.std.specs.Io.KnownBytes.{Consumes, Keeps, prepend_known}
use Rattle.hk_buffer.specs.Held.{Held, filled, with_room, written}
use Rattle.hk_outside.specs.Records.{RecordsRead, Gave, GaveAll}
use Rattle.hk_outside.proofs.Records.{gave_same, gave_more, gave_all}
use Rattle.hk_greet.proofs.Passing.{gave_none}

-- a buffer whose room was lent and filled
pub came : (old made now : Held) (lent : List ℕ) (count : ℕ) → made ≡ with_room old made.room → length lent ≡ length made.room → now ≡ filled (written made lent) count → now.unread ≡ old.unread ++ take count lent
came old made now lent count same e fill =
    let front : take (length made.room) (lent ++ drop (length lent) made.room) ≡ lent = rw (sym e) (take-append_seam lent (drop (length lent) made.room)) in
    ap (λ (h : Held). h.unread) fill ∙ ap (λ (x : List ℕ). made.unread ++ take count x) front ∙ ap (λ (h : Held). h.unread ++ take count lent) same

pub keeps_none : (left left' : Option (List ℕ)) → Keeps left left' → Consumes left left' []
keeps_none None left' h = tt
keeps_none (Some bytes) None h = absurd h
keeps_none (Some bytes) (Some others) h = sym h

module _ (E : Type 0) (given given' : Option (List (List ℕ))) (room : List ℕ) where
  pub gave_fault : (e : E) → RecordsRead {E = E} given given' (Err e) room → Gave given given' []
  gave_fault e read = gave_same E given given given' [] room e (gave_none given) read

  pub gave_read : (n : ℕ) → RecordsRead {E = E} given given' (Ok n) room → Gave given given' (take n room)
  gave_read n read = gave_more E given given given' [] room n (gave_none given) read

  pub gave_end : (n : ℕ) → n ≡ 0 → RecordsRead {E = E} given given' (Ok n) room → GaveAll given given' []
  gave_end n e read = gave_all E given given given' [] room (gave_none given) (subst (λ (m : ℕ). RecordsRead {E = E} given given' (Ok m) room) e read)

-- the front of what is unread is given
pub given_first : (unread unread' room : List ℕ) (count : ℕ) (left : Option (List ℕ)) → take count room ≡ take count unread → unread' ≡ drop count unread → Consumes (prepend_known unread left) (prepend_known unread' left) (take count room)
given_first unread unread' room count None same rest = tt
given_first unread unread' room count (Some bytes) same rest =
    sym (ap (λ (x : List ℕ). x ++ bytes) (take-append-drop count unread)) ∙ append_assoc (take count unread) (drop count unread) bytes ∙ ap (λ (x : List ℕ). x ++ (drop count unread ++ bytes)) (sym same) ∙ ap (λ (x : List ℕ). take count room ++ (x ++ bytes)) (sym rest)
