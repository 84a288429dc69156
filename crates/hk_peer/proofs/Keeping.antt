-- What a cutter keeps of its bytes.
use Rattle.std.proofs.Common.{◌≡◌, ℕ, List, [], ◌++◌, length, take, drop, Option, Some, None, Result, Ok, Err, ap, subst, ◌∙◌, sym, append-nil}
use Rattle.std.specs.Prelude.{IfSome, OnOk, OnErr}
use Rattle.std.proofs.lemmas.List.{take-append-drop}
use Rattle.hk_buffer.specs.Held.{Held}
use Rattle.hk_buffer.specs.Held as held
use Rattle.hk_base.specs.declared.letter.Letter.{Letter}
use Rattle.hk_frame.specs.declared.fault.FrameFault.{FrameFault}
use Rattle.hk_frame.specs.Frames.{frame}
use Rattle.hk_frame.specs.Sendable.{IsSendable}
use Rattle.hk_peer.specs.Cut.{Cutting, IsBad, IsWanted}
use Rattle.hk_peer.proofs.Waiting.{bad_stays, wanted_more}

-- whatever came of a feed, nothing is gone
pub came : {A E : Type 0} (r : Result A E) (old new : Held) (piece : List ℕ) → OnOk r (new ≡ held.fed old piece) → OnErr r (new ≡ held.with_room old []) → (more : List ℕ) × (new.unread ≡ old.unread ++ more)
came (Ok x) old new piece ok err = (piece, ap (λ (h : Held). h.unread) ok)
came (Err e) old new piece ok err = ([], ap (λ (h : Held). h.unread) err ∙ sym (append-nil old.unread))

abbrev IsKept : Option FrameFault → List ℕ → Type 0
IsKept fault bytes = IfSome fault (λ f. IsBad f bytes)

pub fault_more : (fault : Option FrameFault) (bytes piece : List ℕ) → IsKept fault bytes → IsKept fault (bytes ++ piece)
fault_more None bytes piece h = tt
fault_more (Some fault) bytes piece h = bad_stays fault bytes piece h

pub wanted_all : (wanted : ℕ) (bytes piece all : List ℕ) → all ≡ bytes ++ piece → IsWanted wanted bytes → IsWanted wanted all
wanted_all wanted bytes piece all e w = subst (IsWanted wanted) (sym e) (wanted_more wanted bytes piece w)

pub fault_all : (fault : Option FrameFault) (bytes piece all : List ℕ) → all ≡ bytes ++ piece → IsKept fault bytes → IsKept fault all
fault_all fault bytes piece all e h = subst (IsKept fault) (sym e) (fault_more fault bytes piece h)

pub no_fault : (fault : Option FrameFault) (bytes : List ℕ) → fault ≡ None → IsKept fault bytes
no_fault fault bytes e = rw e tt

abbrev left_of : Cutting → List ℕ → Cutting
left_of c unread = record c { unread = unread }

-- what a frame that was read leaves
pub gave : (c c' : Cutting) (bytes : List ℕ) (shard : ℕ) (letter : Letter) (n : ℕ) → bytes ≡ c.unread → IsSendable shard letter × (take n bytes ≡ frame shard letter) × (n ≡ length (frame shard letter)) → c' ≡ record c { unread = drop n c.unread }
    → IsSendable shard letter × (c.unread ≡ frame shard letter ++ c'.unread) × (c' ≡ record c { unread = c'.unread })
gave c c' bytes shard letter n same read e =
    let front : take n c.unread ≡ frame shard letter = subst (λ (b : List ℕ). take n b ≡ frame shard letter) same read.1 in
    let left : drop n c.unread ≡ c'.unread = sym (ap (λ (x : Cutting). x.unread) e) in (
      read.0,
      sym (take-append-drop n c.unread) ∙ ap (λ (x : List ℕ). x ++ drop n c.unread) front ∙ ap (λ (x : List ℕ). frame shard letter ++ x) left,
      e ∙ ap (λ (x : List ℕ). left_of c x) left,
    )
