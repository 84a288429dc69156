-- That frames are read exactly, and that none begins another.
use Rattle.std.proofs.Common.{◌≡◌, ℕ, ◌+◌, ◌^◌, ◌<◌, ◌≤◌, Bool, true, false, cond, ltb, List, [], ◌++◌, length, take, drop, Result, Ok, Err, refl, sym, ap, ◌∙◌, arith, append_assoc}
use Rattle.std.specs.Int.{w32, to_be_bytes, from_be_bytes}
use Rattle.std.proofs.lemmas.Bool.{ltb-false, le-ltb}
use Rattle.std.proofs.lemmas.List.{append-nil, take_at, length-append, length-take, length-drop, nil_from_length, take-append-drop}
use Rattle.hk_base.specs.declared.letter.Letter.{Letter}
use Rattle.hk_frame.specs.declared.fault.Stop.{Stop}
use Rattle.hk_frame.specs.declared.fault.FrameFault.{FrameFault}
use Rattle.hk_frame.specs.declared.fault.FrameFault.TheVariants.{Memory, Short, BadKind, BadLength, BadField}
use Rattle.hk_frame.specs.declared.length.TheConstants.{MIN_LENGTH, MAX_LENGTH}
use Rattle.hk_frame.specs.Frames.{field_bytes, frame}
use Rattle.hk_base.specs.Lengths.{frame_length}
use Rattle.hk_frame.specs.Sendable.{IsSendable}
use Rattle.hk_frame.specs.Reading.{fields_at}
use Rattle.hk_frame.specs.Told.{told_of, frame_with, frame_at, IsFault}
use Rattle.hk_frame.proofs.Exact.{IsBytes, IsBytes-take, IsBytes-drop, wide32}
use Rattle.hk_frame.proofs.Sizes.{frame_sized}
use Rattle.hk_frame.proofs.Bodies.{fields_take, fields_again}

abbrev Found : Type 0
Found = (ℕ × Letter) × ℕ

refused : (b : Bool) (e : FrameFault) (y : Result Found FrameFault) (z : Found) → cond b (Err e) y ≡ Ok z → (b ≡ false) × (y ≡ Ok z)
refused true e y z h = absurd cc
refused false e y z h = (refl, h)

abbrev found : Found → Result Found FrameFault
found z = Ok z

found_is : (x y : Found) → found x ≡ found y → x ≡ y
found_is x y e = cc

told_ok : (len : ℕ) (r : Result (ℕ × Letter) Stop) (z : Found) → told_of len r ≡ Ok z → (r ≡ Ok z.0) × (4 + len ≡ z.1)
told_ok len (Ok x) z e =
    let p = found_is (x, 4 + len) z e in
    (ap (λ (y : Found). Ok y.0) p, ap (λ (y : Found). y.1) p)
told_ok len (Err stop) z e = absurd cc

record IsWhole (len : ℕ) (bytes : List ℕ) (z : Found) : Type 0 where
  low : MIN_LENGTH ≤ len
  high : len ≤ MAX_LENGTH
  long : 4 + len ≤ length bytes
  read : fields_at (take len (drop 4 bytes)) ≡ Ok z.0
  is : 4 + len ≡ z.1

with_take : (len : ℕ) (bytes : List ℕ) (z : Found) → frame_with len bytes ≡ Ok z → IsWhole len bytes z
with_take len bytes z h =
    let a = refused (ltb len MIN_LENGTH) (BadLength len) _ z h in
    let b = refused (ltb MAX_LENGTH len) (BadLength len) _ z a.1 in
    let c = refused (ltb (length bytes) (4 + len)) (Short (4 + len)) _ z b.1 in
    let d = told_ok len (fields_at (take len (drop 4 bytes))) z c.1 in
    record { low = ltb-false _ _ a.0; high = ltb-false _ _ b.0; long = ltb-false _ _ c.0; read = d.0; is = d.1 }

-- a front of two parts
take_both : (i j : ℕ) (bytes : List ℕ) → i + j ≤ length bytes → take (i + j) bytes ≡ take i bytes ++ take j (drop i bytes)
take_both i j bytes le =
    let parts : bytes ≡ (take i bytes ++ take j (drop i bytes)) ++ drop j (drop i bytes) = sym (append_assoc (take i bytes) (take j (drop i bytes)) (drop j (drop i bytes)) ∙ ap (λ (x : List ℕ). take i bytes ++ x) (take-append-drop j (drop i bytes)) ∙ take-append-drop i bytes) in
    let len : length (take i bytes ++ take j (drop i bytes)) ≡ i + j = omega (arith, length-append (take i bytes) (take j (drop i bytes)), length-take i bytes, length-take j (drop i bytes), length-drop i bytes) in
    ap (take (i + j)) parts ∙ take_at (take i bytes ++ take j (drop i bytes)) (drop j (drop i bytes)) (i + j) len

pub frame_take : (bytes : List ℕ) (z : Found) → IsBytes bytes → frame_at bytes ≡ Ok z → IsSendable z.0.0 z.0.1 × (take z.1 bytes ≡ frame z.0.0 z.0.1) × (z.1 ≡ length (frame z.0.0 z.0.1))
frame_take bytes z fits h =
    let g = refused (ltb (length bytes) 4) (Short 4) _ z h in
    let len : ℕ = from_be_bytes w32 (take 4 bytes) in
    let w = with_take (from_be_bytes w32 (take 4 bytes)) bytes z g.1 in
    whole (from_be_bytes w32 (take 4 bytes)) refl w
  where
    front_fits : (len : ℕ) → IsBytes (take len (drop 4 bytes))
    front_fits len = IsBytes-take len (drop 4 bytes) (IsBytes-drop 4 bytes fits)

    whole : (len : ℕ) → len ≡ from_be_bytes w32 (take 4 bytes) → IsWhole len bytes z → IsSendable z.0.0 z.0.1 × (take z.1 bytes ≡ frame z.0.0 z.0.1) × (z.1 ≡ length (frame z.0.0 z.0.1))
    whole len e w =
        let t = fields_take (take len (drop 4 bytes)) z.0 (front_fits len) w.read in
        let head : to_be_bytes w32 len ≡ take 4 bytes = ap (to_be_bytes w32) e ∙ wide32.back (take 4 bytes) (omega (arith, length-take 4 bytes, w.long)) (IsBytes-take 4 bytes fits) in
        let size : len ≡ length (field_bytes z.0.0 z.0.1) = omega (arith, length-take len (drop 4 bytes), length-drop 4 bytes, w.long, ap length t.0) in
        let is : take z.1 bytes ≡ frame z.0.0 z.0.1 = ap (λ (n : ℕ). take n bytes) (sym w.is) ∙ take_both 4 len bytes w.long ∙ ap (λ (x : List ℕ). x ++ take len (drop 4 bytes)) (sym head) ∙ ap (λ (x : List ℕ). to_be_bytes w32 len ++ x) t.0 ∙ ap (λ (n : ℕ). to_be_bytes w32 n ++ field_bytes z.0.0 z.0.1) size in
        let long : length (frame z.0.0 z.0.1) ≡ 4 + length (field_bytes z.0.0 z.0.1) = omega arith in
        let all : z.1 ≡ length (frame z.0.0 z.0.1) = omega (arith, w.is, size, long) in
        (record { low = t.1.0; value = t.1.1.0; range = t.1.1.1; fits = omega (arith, frame_sized z.0.0 z.0.1, all, w.is, w.high) }, is, all)

with_again : (len : ℕ) (bytes : List ℕ) (q : ℕ × Letter) → MIN_LENGTH ≤ len → len ≤ MAX_LENGTH → 4 + len ≤ length bytes → fields_at (take len (drop 4 bytes)) ≡ Ok q → frame_with len bytes ≡ Ok (q, 4 + len)
with_again len bytes q low high long read = rw (le-ltb _ _ low, le-ltb _ _ high, le-ltb _ _ long, read) refl

pub frame_again : (shard : ℕ) (letter : Letter) (rest : List ℕ) → IsSendable shard letter → frame_at (frame shard letter ++ rest) ≡ Ok ((shard, letter), length (frame shard letter))
frame_again shard letter rest s =
    ap frame_at (append_assoc (to_be_bytes w32 (length (field_bytes shard letter))) (field_bytes shard letter) rest) ∙ at (length (field_bytes shard letter)) (field_bytes shard letter ++ rest) (omega (arith, sized, s.fits)) low' high'
    (omega (arith, length-append (field_bytes shard letter) rest)) (ap fields_at (take_at (field_bytes shard letter) rest (length (field_bytes shard letter)) refl) ∙ fields_again (shard, letter) (s.low, (s.value, s.range))) ∙ ap (λ (n : ℕ). found ((shard, letter), n)) whole
  where
    whole : 4 + length (field_bytes shard letter) ≡ length (frame shard letter)
    whole = omega arith

    sized : 4 + length (field_bytes shard letter) ≡ frame_length letter
    sized = omega (arith, frame_sized shard letter)

    high' : length (field_bytes shard letter) ≤ MAX_LENGTH
    high' = omega (arith, sized, s.fits)

    low' : MIN_LENGTH ≤ length (field_bytes shard letter)
    low' = omega (arith, sized)

    at : (len : ℕ) (more : List ℕ) → len < 2 ^ 32 → MIN_LENGTH ≤ len → len ≤ MAX_LENGTH → len ≤ length more → fields_at (take len more) ≡ Ok (shard, letter) → frame_at (to_be_bytes w32 len ++ more) ≡ Ok ((shard, letter), 4 + len)
    at len more small low high long read =
        let back : from_be_bytes w32 (take 4 (to_be_bytes w32 len ++ more)) ≡ len = wide32.again len small in
        let enough : ltb (length (to_be_bytes w32 len ++ more)) 4 ≡ false = le-ltb _ _ (omega arith) in
        let w : frame_with len (to_be_bytes w32 len ++ more) ≡ Ok ((shard, letter), 4 + len) = with_again len (to_be_bytes w32 len ++ more) (shard, letter) low high (omega (arith, long)) read in
        rw (enough, back) w

same_read : (bytes : List ℕ) (x y : Found) → frame_at bytes ≡ Ok x → frame_at bytes ≡ Ok y → x ≡ y
same_read bytes x y e f = found_is x y (sym e ∙ f)

pub none_begins : (shard : ℕ) (letter : Letter) (other_shard : ℕ) (other : Letter) (more : List ℕ) → IsSendable shard letter → IsSendable other_shard other → frame shard letter ++ more ≡ frame other_shard other
    → (shard ≡ other_shard) × (letter ≡ other) × (more ≡ [])
none_begins shard letter other_shard other more s t e =
    let one = frame_again shard letter more s in
    let two : frame_at (frame other_shard other) ≡ Ok ((other_shard, other), length (frame other_shard other)) = ap frame_at (sym (append-nil (frame other_shard other))) ∙ frame_again other_shard other [] t in
    let p = same_read (frame shard letter ++ more) ((shard, letter), length (frame shard letter)) ((other_shard, other), length (frame other_shard other)) one (ap frame_at e ∙ two) in
    let lengths : length (frame shard letter) ≡ length (frame other_shard other) = ap (λ (z : Found). z.1) p in
    (ap (λ (z : Found). z.0.0) p, ap (λ (z : Found). z.0.1) p, nil_from_length more (omega (arith, lengths, ap length e, length-append (frame shard letter) more)))

pub one_letter : (shard : ℕ) (letter : Letter) (other_shard : ℕ) (other : Letter) → IsSendable shard letter → IsSendable other_shard other → frame shard letter ≡ frame other_shard other → (shard ≡ other_shard) × (letter ≡ other)
one_letter shard letter other_shard other s t e =
    let p = none_begins shard letter other_shard other [] s t (append-nil (frame shard letter) ∙ e) in
    (p.0, p.1)

-- ---- what reading told

pub read_as : (bytes : List ℕ) (z : Found) (shard : ℕ) (letter : Letter) (rest : List ℕ) → frame_at bytes ≡ Ok z → IsSendable shard letter → bytes ≡ frame shard letter ++ rest → (z.0.0 ≡ shard) × (z.0.1 ≡ letter) × (z.1 ≡ length (frame shard letter))
read_as bytes z shard letter rest h s e =
    let p = same_read bytes z ((shard, letter), length (frame shard letter)) h (ap frame_at e ∙ frame_again shard letter rest s) in
    (ap (λ (y : Found). y.0.0) p, ap (λ (y : Found). y.0.1) p, ap (λ (y : Found). y.1) p)

no_fault : (fault : FrameFault) (read : Result Found FrameFault) (z : Found) → IsFault fault read → read ≡ Ok z → fault ≡ Memory
no_fault Memory read z f e = refl
no_fault (Short wanted) read z f e = absurd cc
no_fault (BadKind kind) read z f e = absurd cc
no_fault (BadLength len) read z f e = absurd cc
no_fault (BadField at') read z f e = absurd cc

pub only_memory : (fault : FrameFault) (bytes : List ℕ) (shard : ℕ) (letter : Letter) (rest : List ℕ) → IsFault fault (frame_at bytes) → IsSendable shard letter → bytes ≡ frame shard letter ++ rest → fault ≡ Memory
only_memory fault bytes shard letter rest f s e = no_fault fault (frame_at bytes) ((shard, letter), length (frame shard letter)) f (ap frame_at e ∙ frame_again shard letter rest s)
