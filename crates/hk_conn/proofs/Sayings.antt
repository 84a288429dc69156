-- What bytes say, by the line or block at their front.
use Rattle.std.proofs.Common.{◌≡◌, ◌≢◌, ℕ, zero, suc, ◌+◌, ◌-◌, ◌<◌, ◌≤◌, List, [], ◌∷◌, length, take, drop, Bool, true, false, Some, None, refl, ◌∙◌, sym, arith, nat_le}
use Rattle.std.specs.Prelude.{if◌then◌else◌, codes, Result, Ok, Err}
use Rattle.std.proofs.lemmas.List.{drop-drop}
use Rattle.std.proofs.lemmas.Bool.Decides.{nat_tests}
use Rattle.hk_lines.specs.Cut.{line_end}
use Rattle.hk_request.specs.Reading.{head_of}
use Rattle.hk_request.specs.Words.{is_text}
use Rattle.hk_request.specs.Blocks.{end_of, update_of, IsFinished}
use Rattle.hk_request.proofs.Single.{text_same}
use Rattle.hk_request.specs.declared.request.BlockFault.{BlockFault}
use Rattle.hk_request.specs.declared.request.BlockFault.TheVariants as block_fault
use Rattle.hk_request.specs.declared.request.Request.{Request}
use Rattle.hk_request.specs.declared.request.StoreHead.{StoreHead}
use Rattle.hk_request.specs.declared.request.Head.{Head}
use Rattle.hk_request.specs.declared.request.Head.TheVariants.{Whole, Store}
use Rattle.hk_request.specs.declared.request.RequestFault.{RequestFault}
use Rattle.hk_conn.specs.declared.said.Said.{Said}
use Rattle.hk_conn.specs.declared.said.Said.TheVariants.{Asked, Refused, BadEnd, LongLine}
use Rattle.hk_conn.specs.Said.{is_last, said_whole, said_block, store_at, line_at, first_of, said_behind, said_in}
use Rattle.hk_conn.specs.Turns.{after_line, said_after}

pub behind_drop : (k : ℕ) (bs : List ℕ) → said_behind k bs ≡ said_in (drop k bs)
unfolding said_behind
behind_drop zero bs = refl
behind_drop (suc k) [] = refl
behind_drop (suc k) (b ∷ bs) = behind_drop k bs

pub nothing_said : (bytes : List ℕ) → first_of bytes ≡ None → said_in bytes ≡ []
unfolding said_behind
nothing_said [] h = refl
nothing_said (b ∷ bs) h = rw h refl

nothing_first : first_of [] ≡ None
unfolding first_of
nothing_first = refl

pub first_said : (bytes : List ℕ) (said : Said) (j : ℕ) → first_of bytes ≡ Some (record { said = said; took = suc j }) → said_in bytes ≡ said ∷ (if is_last said then [] else said_in (drop (suc j) bytes))
unfolding said_behind
first_said [] said j h = absurd (let e : None ≡ Some (record { said = said; took = suc j }) = sym nothing_first ∙ h in cc)
first_said (b ∷ bs) said j h = let e : suc j - 1 ≡ j = omega arith in rw (h, e, behind_drop j bs) refl

pub last_block : (h : StoreHead) (block : List ℕ) → is_last (said_block h block) ≡ false
unfolding said_block
last_block h block = at (is_text (end_of h block) (codes "\r\n"))
  where
    at : (t : Bool) → is_last (if t then Asked (update_of h block) else BadEnd h.noreply) ≡ false
    at true = refl
    at false = refl

-- what finishing a head says of its block
pub block_finished : (r : Request) (h : StoreHead) (block : List ℕ) → IsFinished (Ok r) h block → Asked r ≡ said_block h block
unfolding said_block
block_finished r h block f = rw (f.0, f.1) refl

pub block_refused : (e : BlockFault) (h : StoreHead) (block : List ℕ) → e ≡ block_fault.BadEnd → IsFinished (Err e) h block → BadEnd h.noreply ≡ said_block h block
unfolding said_block
block_refused e h block is f = at (is_text (end_of h block) (codes "\r\n")) (λ t. text_same (end_of h block) (codes "\r\n") t) (rw is at f)
  where
    at : (t : Bool) → (t ≡ true → end_of h block ≡ codes "\r\n") → (end_of h block ≢ codes "\r\n") → BadEnd h.noreply ≡ (if t then Asked (update_of h block) else BadEnd h.noreply)
    at true same other = absurd (other (same refl))
    at false same other = refl

-- a line at the front
pub line_said : (bytes : List ℕ) (n : ℕ) → line_end (take 65538 bytes) ≡ Some n → said_in bytes ≡ after_line (head_of (take n bytes)) (drop (n + 2) bytes)
unfolding first_of
line_said bytes n h = at (head_of (take n bytes)) refl
  where
    first : (line : Result Head RequestFault) → head_of (take n bytes) ≡ line → first_of bytes ≡ line_at line (n + 2) (drop (n + 2) bytes)
    first line e = rw (h, e) refl

    block : (hd : StoreHead) (t : Bool) → nat_le (hd.bytes + 2) (length (drop (n + 2) bytes)) ≡ t → first_of bytes ≡ store_at hd (n + 2) (drop (n + 2) bytes) → said_in bytes ≡ said_after (Some hd) (drop (n + 2) bytes)
    block hd true e f =
        let g : first_of bytes ≡ Some (record { said = said_block hd (take (hd.bytes + 2) (drop (n + 2) bytes)); took = suc (n + 1 + (hd.bytes + 2)) }) = f ∙ (let k : n + 2 + (hd.bytes + 2) ≡ suc (n + 1 + (hd.bytes + 2)) = omega arith in rw (e, k) refl) in
        let d : drop (suc (n + 1 + (hd.bytes + 2))) bytes ≡ drop (0 + (hd.bytes + 2)) (drop (n + 2) bytes) = (let k : suc (n + 1 + (hd.bytes + 2)) ≡ n + 2 + (0 + (hd.bytes + 2)) = omega arith in rw k (sym (drop-drop (0 + (hd.bytes + 2)) (n + 2) bytes))) in
        first_said bytes _ (n + 1 + (hd.bytes + 2)) g ∙ rw (last_block hd (take (hd.bytes + 2) (drop (n + 2) bytes)), e, d) refl
    block hd false e f = nothing_said bytes (f ∙ rw e refl) ∙ rw e refl

    at : (line : Result Head RequestFault) → head_of (take n bytes) ≡ line → said_in bytes ≡ after_line (head_of (take n bytes)) (drop (n + 2) bytes)
    at (Err f) e =
        let g : first_of bytes ≡ Some (record { said = Refused f.cause; took = suc (n + 1 + f.skip) }) = first (Err f) e ∙ (let k : n + 2 + f.skip ≡ suc (n + 1 + f.skip) = omega arith in rw k refl) in
        let d : drop (suc (n + 1 + f.skip)) bytes ≡ drop f.skip (drop (n + 2) bytes) = (let k : suc (n + 1 + f.skip) ≡ n + 2 + f.skip = omega arith in rw k (sym (drop-drop f.skip (n + 2) bytes))) in
        rw e (first_said bytes _ (n + 1 + f.skip) g ∙ rw d refl)
    at (Ok (Whole r)) e =
        let g : first_of bytes ≡ Some (record { said = said_whole r; took = suc (n + 1) }) = first (Ok (Whole r)) e ∙ (let k : n + 2 ≡ suc (n + 1) = omega arith in rw k refl) in
        let k : n + 2 ≡ suc (n + 1) = omega arith in
        rw (e, k) (first_said bytes _ (n + 1) g)
    at (Ok (Store hd)) e = rw e (block hd _ refl (first (Ok (Store hd)) e))

-- a line that is too long
pub long_said : (bytes : List ℕ) → line_end (take 65538 bytes) ≡ None → 65538 ≤ length bytes → said_in bytes ≡ LongLine ∷ []
unfolding first_of
long_said bytes h le = first_said bytes LongLine 0 first
  where
    first : first_of bytes ≡ Some (record { said = LongLine; took = 1 })
    first = let t : nat_le 65538 (length bytes) ≡ true = grind (arith, nat_tests, le) in rw (h, t) refl

-- no whole line
pub short_said : (bytes : List ℕ) → line_end (take 65538 bytes) ≡ None → length bytes < 65538 → said_in bytes ≡ []
unfolding first_of
short_said bytes h lt = nothing_said bytes first
  where
    first : first_of bytes ≡ None
    first = let t : nat_le 65538 (length bytes) ≡ false = grind (arith, nat_tests, lt) in rw (h, t) refl
