-- The turns of the reader.
use Rattle.std.proofs.Common.{◌≡◌, ℕ, zero, suc, ◌+◌, ◌-◌, ◌<◌, ◌≤◌, List, [], ◌∷◌, ◌++◌, length, take, drop, Bool, true, false, Option, Some, None, refl, ap, ◌∙◌, sym, arith, nat_le, append-nil, length-append, length-drop, length-take}
use Rattle.std.specs.Prelude.{Result, Ok, Err, IfOk}
use Rattle.std.proofs.lemmas.List.{drop-drop, drop-append-le, take-append-le}
use Rattle.std.proofs.lemmas.Bool.Decides.{nat_tests}
use Rattle.hk_lines.specs.Cut.{Cutting, line_end, stepped, line_step, block_step, giving, skipped}
use Rattle.hk_lines.specs.declared.due.Due.TheVariants as due
use Rattle.hk_lines.specs.declared.step.Step.TheVariants.{Line, Block, Need, TooLong}
use Rattle.hk_lines.proofs.Feeds.{end_within}
use Rattle.hk_lines.proofs.Joined.{window_stays, drop_both}
use Rattle.hk_request.specs.Reading.{head_of, FailsHead}
use Rattle.hk_request.specs.declared.request.RequestCause.{RequestCause}
use Rattle.hk_request.specs.declared.request.RequestCause.TheVariants as cause
use Rattle.hk_request.specs.declared.request.StoreHead.{StoreHead}
use Rattle.hk_request.specs.declared.request.RequestFault.{RequestFault}
use Rattle.hk_request.specs.declared.request.Head.{Head}
use Rattle.hk_conn.specs.declared.said.Said.{Said}
use Rattle.hk_conn.specs.declared.said.Said.TheVariants.{Refused, LongLine}
use Rattle.hk_conn.specs.declared.said.ReaderStep.{ReaderStep}
use Rattle.hk_conn.specs.declared.said.ReaderStep.TheVariants as turn
use Rattle.hk_conn.specs.Said.{said_block, said_in}
use Rattle.hk_conn.specs.Turns.{said_after, IsReader, bytes_with, IsLess, Turns, after_line, LineTurns}
use Rattle.hk_conn.proofs.Sayings.{line_said, long_said, short_said, last_block}

step_line : (c : Cutting) → IsReader c None → stepped c ≡ line_step c (line_end (take 65538 c.unread))
unfolding stepped
step_line c r = rw (r.due, r.limit) refl

step_block : (c : Cutting) (h : StoreHead) → IsReader c (Some h) → stepped c ≡ block_step c h.bytes
unfolding stepped
step_block c h r = rw r.due refl

window_within : (l : ℕ) (u : List ℕ) (n : ℕ) → n + 2 ≤ length (take l u) → n + 2 ≤ length u
window_within l u n h = grind (arith, h, length-take)

drop_nothing : (n : ℕ) → drop {A = ℕ} n [] ≡ []
drop_nothing zero = refl
drop_nothing (suc n) = refl

pub line_facts : (c : Cutting) → IsReader c None → (stepped c).step ≡ Line → (n : ℕ) × (line_end (take 65538 c.unread) ≡ Some n) × (n + 2 ≤ length c.unread) × ((stepped c).rest ≡ giving c n (n + 2))
line_facts c r s = at (line_end (take 65538 c.unread)) refl (nat_le (c.limit + 2) (length c.unread)) refl
  where
    at : (o : Option ℕ) → line_end (take 65538 c.unread) ≡ o → (b : Bool) → nat_le (c.limit + 2) (length c.unread) ≡ b → (n : ℕ) × (line_end (take 65538 c.unread) ≡ Some n) × (n + 2 ≤ length c.unread) × ((stepped c).rest ≡ giving c n (n + 2))
    at (Some n) e b f =
        let within : n + 2 ≤ length (take 65538 c.unread) = end_within _ n e in
        (n, e, window_within 65538 c.unread n within, rw (step_line c r, e) refl)
    at None e true f = absurd (let g : (line_step c None).step ≡ Line = rw (step_line c r, e) at s in let k : TooLong ≡ Line = rw f at g in cc)
    at None e false f = absurd (let g : (line_step c None).step ≡ Line = rw (step_line c r, e) at s in let k : Need ≡ Line = rw f at g in cc)

pub long_facts : (c : Cutting) → IsReader c None → (stepped c).step ≡ TooLong → (line_end (take 65538 c.unread) ≡ None) × (65538 ≤ length c.unread) × ((stepped c).rest ≡ record c { due = due.Nothing; given = [] })
long_facts c r s = at (line_end (take 65538 c.unread)) refl (nat_le (c.limit + 2) (length c.unread)) refl
  where
    at : (o : Option ℕ) → line_end (take 65538 c.unread) ≡ o → (b : Bool) → nat_le (c.limit + 2) (length c.unread) ≡ b → (line_end (take 65538 c.unread) ≡ None) × (65538 ≤ length c.unread) × ((stepped c).rest ≡ record c { due = due.Nothing; given = [] })
    at (Some n) e b f = absurd (let g : Line ≡ TooLong = rw (step_line c r, e) at s in cc)
    at None e true f =
        let k : nat_le 65538 (length c.unread) ≡ true = rw r.limit at f in
        (e, grind (arith, nat_tests, k), rw (step_line c r, e, f) refl)
    at None e false f = absurd (let g : (line_step c None).step ≡ TooLong = rw (step_line c r, e) at s in let k : Need ≡ TooLong = rw f at g in cc)

pub need_facts : (c : Cutting) → IsReader c None → (stepped c).step ≡ Need → (line_end (take 65538 c.unread) ≡ None) × (length c.unread < 65538) × ((stepped c).rest ≡ record c { given = [] })
need_facts c r s = at (line_end (take 65538 c.unread)) refl (nat_le (c.limit + 2) (length c.unread)) refl
  where
    at : (o : Option ℕ) → line_end (take 65538 c.unread) ≡ o → (b : Bool) → nat_le (c.limit + 2) (length c.unread) ≡ b → (line_end (take 65538 c.unread) ≡ None) × (length c.unread < 65538) × ((stepped c).rest ≡ record c { given = [] })
    at (Some n) e b f = absurd (let g : Line ≡ Need = rw (step_line c r, e) at s in cc)
    at None e false f =
        let k : nat_le 65538 (length c.unread) ≡ false = rw r.limit at f in
        (e, grind (arith, nat_tests, k), rw (step_line c r, e, f) refl)
    at None e true f = absurd (let g : (line_step c None).step ≡ Need = rw (step_line c r, e) at s in let k : TooLong ≡ Need = rw f at g in cc)

pub no_block : (c : Cutting) → IsReader c None → (stepped c).step ≡ Block → ⊥
no_block c r s = at (line_end (take 65538 c.unread)) refl (nat_le (c.limit + 2) (length c.unread)) refl
  where
    at : (o : Option ℕ) → line_end (take 65538 c.unread) ≡ o → (b : Bool) → nat_le (c.limit + 2) (length c.unread) ≡ b → ⊥
    at (Some n) e b f = let g : Line ≡ Block = rw (step_line c r, e) at s in cc
    at None e false f = let g : (line_step c None).step ≡ Block = rw (step_line c r, e) at s in let k : Need ≡ Block = rw f at g in cc
    at None e true f = let g : (line_step c None).step ≡ Block = rw (step_line c r, e) at s in let k : TooLong ≡ Block = rw f at g in cc

less_any : (t : ReaderStep) (n m : ℕ) → n < m → IsLess t n m
less_any (turn.Says s) n m h = λ e. h
less_any turn.Head n m h = h
less_any turn.Need n m h = tt

pub reader_given : (c : Cutting) (n gone : ℕ) → IsReader c None → (0 < c.dropping → drop gone c.unread ≡ []) → IsReader (giving c n gone) None
reader_given c n gone r h = record { limit = r.limit; due = refl; small = tt; its_tag = tt; free = h }

-- a line was given
pub line_reader : (c c1 : Cutting) → IsReader c None → (stepped c).step ≡ Line → c1 ≡ (stepped c).rest → (0 < c1.dropping → c1.unread ≡ []) → IsReader c1 None × (c1.dropping ≡ 0)
line_reader c c1 r s e free =
    let f = line_facts c r s in
    let same : c1 ≡ giving c f.0 (f.0 + 2) = e ∙ f.3 in
    let zero_dropping : c.dropping ≡ 0 = none c.dropping c.unread f.0 f.2 r.free in
    (record { limit = ap (λ x. x.limit) same ∙ r.limit; due = ap (λ x. x.due) same; small = tt; its_tag = tt; free = free }, ap (λ x. x.dropping) same ∙ zero_dropping)
  where
    none : (d : ℕ) (u : List ℕ) → (n : ℕ) → n + 2 ≤ length u → (0 < d → u ≡ []) → d ≡ 0
    none zero u n h f = refl
    none (suc d) u n h f = absurd (let e : u ≡ [] = f (omega arith) in let k : n + 2 ≤ length {A = ℕ} [] = rw e at h in omega (arith, k))

pub line_turns : (t : ReaderStep) (c c1 c' : Cutting) (p' : Option StoreHead) → IsReader c None → (stepped c).step ≡ Line → c1 ≡ (stepped c).rest → LineTurns t (head_of c1.given) c1 p' c' → Turns t None c p' c'
line_turns t c c1 c' p' r s e lt =
    let f = line_facts c r s in
    let same : c1 ≡ giving c f.0 (f.0 + 2) = e ∙ f.3 in
    record {
      next = λ more. said (f.0) more (f.1) (f.2) ∙ (rw same at (lt.next more));
      need = λ h. absurd (lt.some h);
      less = less_any t _ _ (fewer f.0 f.2 same lt.less);
    }
  where
    said : (n : ℕ) (more : List ℕ) → line_end (take 65538 c.unread) ≡ Some n → n + 2 ≤ length c.unread → said_in (bytes_with c more) ≡ after_line (head_of (take n c.unread)) (bytes_with (giving c n (n + 2)) more)
    said n more h le =
        let whole : line_end (take 65538 (bytes_with c more)) ≡ Some n = window_stays 65538 c.unread (drop c.dropping more) n h in
        let front : take n (bytes_with c more) ≡ take n c.unread = take-append-le n c.unread (drop c.dropping more) (omega (arith, le)) in
        let rest : drop (n + 2) (bytes_with c more) ≡ bytes_with (giving c n (n + 2)) more = drop-append-le (n + 2) c.unread (drop c.dropping more) le in
        line_said (bytes_with c more) n whole ∙ ap (λ x. after_line (head_of x) (drop (n + 2) (bytes_with c more))) front ∙ ap (λ x. after_line (head_of (take n c.unread)) x) rest

    fewer : (n : ℕ) → n + 2 ≤ length c.unread → c1 ≡ giving c n (n + 2) → length c'.unread ≤ length c1.unread → length c'.unread < length c.unread
    fewer n le same h =
        let k : length c1.unread ≡ length (drop (n + 2) c.unread) = ap (λ x. length x.unread) same in
        grind (arith, le, h, k, length-drop)

-- a line that is too long
pub long_turns : (c c1 : Cutting) → IsReader c None → (stepped c).step ≡ TooLong → c1 ≡ (stepped c).rest → Turns (turn.Says LongLine) None c None c1
long_turns c c1 r s e =
    let f = long_facts c r s in
    let same : c1 ≡ record c { due = due.Nothing; given = [] } = e ∙ f.2 in
    rw same (record { next = λ more. said more f.0 f.1; need = λ h. absurd (cc); less = λ h. absurd (cc) })
  where
    said : (more : List ℕ) → line_end (take 65538 c.unread) ≡ None → 65538 ≤ length c.unread → said_in (bytes_with c more) ≡ LongLine ∷ []
    said more h le =
        let same : take 65538 (bytes_with c more) ≡ take 65538 c.unread = take-append-le 65538 c.unread (drop c.dropping more) le in
        long_said (bytes_with c more) (ap line_end same ∙ h) (grind (arith, le, length-append))

-- no whole line
pub need_turns : (c c1 : Cutting) → IsReader c None → (stepped c).step ≡ Need → c1 ≡ (stepped c).rest → IsReader c1 None × Turns turn.Need None c None c1
need_turns c c1 r s e =
    let f = need_facts c r s in
    let same : c1 ≡ record c { given = [] } = e ∙ f.2 in
    rw same (record { limit = r.limit; due = r.due; small = r.small; its_tag = r.its_tag; free = r.free }, record { next = λ more. refl; need = λ h. said f.0 f.1; less = tt })
  where
    said : line_end (take 65538 c.unread) ≡ None → length c.unread < 65538 → said_in (c.unread ++ drop c.dropping []) ≡ []
    said h lt = let same : c.unread ++ drop c.dropping [] ≡ c.unread = rw (drop_nothing c.dropping) (append-nil c.unread) in rw same (short_said c.unread h lt)

-- bytes that are skipped
pub skip_turns : (c c1 : Cutting) (f : RequestFault) → c1 ≡ skipped c f.skip → LineTurns (turn.Says (Refused f.cause)) (Err f) c None c1
skip_turns c c1 f e = rw e (record { next = λ more. ap (λ x. Refused f.cause ∷ said_in x) (gone more); some = λ h. cc; less = grind (arith, length-drop) })
  where
    gone : (more : List ℕ) → drop f.skip (bytes_with c more) ≡ bytes_with (skipped c f.skip) more
    gone more = sym (drop_both f.skip c.unread (drop c.dropping more)) ∙ ap (λ x. drop f.skip c.unread ++ x) (drop-drop (f.skip - length c.unread) c.dropping more)

pub skip_turns_at : (c c1 : Cutting) (f : RequestFault) (line : Result Head RequestFault) (p : Option StoreHead) → line ≡ Err f → p ≡ None → c1 ≡ skipped c f.skip → LineTurns (turn.Says (Refused f.cause)) line c p c1
skip_turns_at c c1 f line p l n e = rw (l, n) (skip_turns c c1 f e)

pub block_facts : (c : Cutting) (h : StoreHead) → IsReader c (Some h) → (stepped c).step ≡ Block → (h.bytes + 2 ≤ length c.unread) × ((stepped c).rest ≡ giving c (h.bytes + 2) (h.bytes + 2))
block_facts c h r s = at (nat_le (h.bytes + 2) (length c.unread)) refl
  where
    at : (b : Bool) → nat_le (h.bytes + 2) (length c.unread) ≡ b → (h.bytes + 2 ≤ length c.unread) × ((stepped c).rest ≡ giving c (h.bytes + 2) (h.bytes + 2))
    at true f = (grind (arith, nat_tests, f), rw (step_block c h r, f) refl)
    at false f = absurd (let g : Need ≡ Block = rw (step_block c h r, f) at s in cc)

pub wait_facts : (c : Cutting) (h : StoreHead) → IsReader c (Some h) → ((stepped c).step ≡ Block → ⊥) → (nat_le (h.bytes + 2) (length c.unread) ≡ false) × ((stepped c).rest ≡ record c { given = [] })
wait_facts c h r s = at (nat_le (h.bytes + 2) (length c.unread)) refl
  where
    at : (b : Bool) → nat_le (h.bytes + 2) (length c.unread) ≡ b → (nat_le (h.bytes + 2) (length c.unread) ≡ false) × ((stepped c).rest ≡ record c { given = [] })
    at false f = (f, rw (step_block c h r, f) refl)
    at true f = absurd (s (rw (step_block c h r, f) refl))

pub block_given : (c c1 : Cutting) (h : StoreHead) → IsReader c (Some h) → (stepped c).step ≡ Block → c1 ≡ (stepped c).rest → length c1.given ≡ h.bytes + 2
block_given c c1 h r s e = let f = block_facts c h r s in let same : c1 ≡ giving c (h.bytes + 2) (h.bytes + 2) = e ∙ f.1 in rw same (grind (arith, f.0, length-take))

pub block_turns : (c c1 : Cutting) (h : StoreHead) (s : Said) → IsReader c (Some h) → (stepped c).step ≡ Block → c1 ≡ (stepped c).rest → (0 < c1.dropping → c1.unread ≡ []) → s ≡ said_block h c1.given → IsReader c1 None × Turns (turn.Says s) (Some h) c None c1
block_turns c c1 h s r st e free q =
    let f = block_facts c h r st in
    let same : c1 ≡ giving c (h.bytes + 2) (h.bytes + 2) = e ∙ f.1 in
    let given : c1.given ≡ take (h.bytes + 2) c.unread = ap (λ x. x.given) same in (
      record { limit = ap (λ x. x.limit) same ∙ r.limit; due = ap (λ x. x.due) same; small = tt; its_tag = tt; free = free },
      record {
        next = λ more. said more f.0 ∙ rw (q, given, last_block h (take (h.bytes + 2) c.unread), same) refl;
        need = λ h. absurd (cc);
        less = λ h. grind (arith, f.0, length-drop, fewer same);
      },
    )
  where
    fewer : c1 ≡ giving c (h.bytes + 2) (h.bytes + 2) → length c1.unread ≡ length (drop (h.bytes + 2) c.unread)
    fewer same = ap (λ x. length x.unread) same

    said : (more : List ℕ) → h.bytes + 2 ≤ length c.unread → said_after (Some h) (bytes_with c more) ≡ said_block h (take (h.bytes + 2) c.unread) ∷ said_in (bytes_with (giving c (h.bytes + 2) (h.bytes + 2)) more)
    said more le =
        let longer : nat_le (h.bytes + 2) (length (bytes_with c more)) ≡ true = grind (arith, nat_tests, le, length-append) in
        let front : take (h.bytes + 2) (bytes_with c more) ≡ take (h.bytes + 2) c.unread = take-append-le (h.bytes + 2) c.unread (drop c.dropping more) le in
        let none : 0 + (h.bytes + 2) ≡ h.bytes + 2 = omega arith in
        let rest : drop (h.bytes + 2) (bytes_with c more) ≡ bytes_with (giving c (h.bytes + 2) (h.bytes + 2)) more = drop-append-le (h.bytes + 2) c.unread (drop c.dropping more) le in
        rw (longer, front, none, rest) refl

pub wait_turns : (c c1 : Cutting) (h : StoreHead) → IsReader c (Some h) → ((stepped c).step ≡ Block → ⊥) → c1 ≡ (stepped c).rest → IsReader c1 (Some h) × Turns turn.Need (Some h) c (Some h) c1
wait_turns c c1 h r s e =
    let f = wait_facts c h r s in
    let same : c1 ≡ record c { given = [] } = e ∙ f.1 in
    rw same (record { limit = r.limit; due = r.due; small = r.small; its_tag = r.its_tag; free = r.free }, record { next = λ more. refl; need = λ h. said f.0; less = tt })
  where
    said : nat_le (h.bytes + 2) (length c.unread) ≡ false → said_after (Some h) (c.unread ++ drop c.dropping []) ≡ []
    said f = let same : c.unread ++ drop c.dropping [] ≡ c.unread = rw (drop_nothing c.dropping) (append-nil c.unread) in rw (same, f) refl

-- a fault that is no want of memory is the line's
pub fails_other : (e : RequestCause) (f : RequestFault) (read : Result Head RequestFault) → (e ≡ cause.Memory → ⊥) → FailsHead e f read → read ≡ Err f
fails_other cause.Memory f read n h = absurd (n refl)
fails_other cause.Unknown f read n h = h
fails_other cause.BadKey f read n h = h
fails_other (cause.BadNumber w) f read n h = h
fails_other cause.WrongCount f read n h = h
fails_other (cause.TooLarge b) f read n h = h
fails_other cause.Expiry f read n h = h

pub if_ok : {T E : Type 0} (r : Result T E) (P Q : T → Type 0) → ((t : T) → P t → Q t) → IfOk r P → IfOk r Q
if_ok (Ok t) P Q f h = f t h
if_ok (Err e) P Q f h = tt
