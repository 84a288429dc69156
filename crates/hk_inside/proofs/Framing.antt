-- What is known of a message in its frame.
use Rattle.std.proofs.Common.{true≢false, ◌≡◌, ℕ, ◌+◌, ◌^◌, ◌≤◌, ◌<◌, Bool, true, false, cond, ltb, inl, inr, List, [], ◌++◌, length, take, drop, Result, Ok, Err, refl, sym, ap, subst, ◌∙◌, arith}
use Rattle.std.specs.Prelude.{◌≢◌}
use Rattle.std.specs.Int.{w32, to_be_bytes, from_be_bytes}
use Rattle.std.proofs.lemmas.Bool.{cases_lt, lt-ltb, le-ltb, ltb-true, ltb-false}
use Rattle.std.proofs.lemmas.List.{append-nil, take_at, take-append-le, length-append, length-take, length-drop, take-take, take-append-drop, nil_from_length}
use Rattle.hk_fields.specs.declared.fault.FieldFault.{FieldFault}
use Rattle.hk_fields.specs.declared.fault.FieldFault.TheVariants as fields
use Rattle.hk_fields.specs.Fields.{Fails}
use Rattle.hk_fields.proofs.Exact.{IsBytes, IsBytes-take, IsBytes-drop, wide32, ok_is}
use Rattle.hk_inside.specs.declared.fault.MessageFault.{MessageFault}
use Rattle.hk_inside.specs.declared.fault.MessageFault.TheVariants.{Memory, Short, Malformed}
use Rattle.hk_inside.specs.declared.frames.TheConstants.{MAX_LEN}
use Rattle.hk_inside.specs.Messages.{framed}
use Rattle.hk_inside.specs.Told.{fault_of, end_with, frame_end, IsRead, IsReadAs}
use Rattle.hk_inside.specs.Laws.{IsShortOf}
use Rattle.hk_inside.proofs.Messages.{IsBody}

-- ---- where a frame ends

abbrev told : List ℕ → ℕ
told bytes = from_be_bytes w32 (take 4 bytes)

record IsWhole (len : ℕ) (bytes : List ℕ) (n : ℕ) : Type 0 where
  low : 1 ≤ len
  high : len ≤ MAX_LEN
  long : 4 + len ≤ length bytes
  is : n ≡ 4 + len

abbrev ended : ℕ → Result ℕ MessageFault
ended n = Ok n

same_end : (m n : ℕ) → ended m ≡ ended n → m ≡ n
same_end m n e = cc

whole_with : (len : ℕ) (bytes : List ℕ) (n : ℕ) → end_with len bytes ≡ Ok n → IsWhole len bytes n
whole_with len bytes n h = at (ltb len 1) (ltb MAX_LEN len) (ltb (length bytes) (4 + len)) refl refl refl h
  where
    at : (a b c : Bool) → ltb len 1 ≡ a → ltb MAX_LEN len ≡ b → ltb (length bytes) (4 + len) ≡ c → cond a (Err Malformed) (cond b (Err Malformed) (cond c (Err (Short (4 + len))) (Ok (4 + len)))) ≡ Ok n → IsWhole len bytes n
    at true b c i j k h = absurd cc
    at false true c i j k h = absurd cc
    at false false true i j k h = absurd cc
    at false false false i j k h = record { low = ltb-false len 1 i; high = ltb-false MAX_LEN len j; long = ltb-false (length bytes) (4 + len) k; is = sym (same_end (4 + len) n h) }

whole : (bytes : List ℕ) (n : ℕ) → frame_end bytes ≡ Ok n → IsWhole (told bytes) bytes n
whole bytes n h = at (ltb (length bytes) 4) h
  where
    at : (b : Bool) → cond b (Err (Short 4)) (end_with (told bytes) bytes) ≡ Ok n → IsWhole (told bytes) bytes n
    at true h = absurd cc
    at false h = whole_with (told bytes) bytes n h

end_is : (bytes : List ℕ) → 1 ≤ told bytes → told bytes ≤ MAX_LEN → 4 + told bytes ≤ length bytes → frame_end bytes ≡ Ok (4 + told bytes)
end_is bytes low high long =
    let a : ltb (length bytes) 4 ≡ false = le-ltb _ _ (omega (arith, long)) in
    rw (a, le-ltb _ _ low, le-ltb _ _ high, le-ltb _ _ long) refl

short_is : (bytes : List ℕ) → 4 ≤ length bytes → 1 ≤ told bytes → told bytes ≤ MAX_LEN → length bytes < 4 + told bytes → frame_end bytes ≡ Err (Short (4 + told bytes))
short_is bytes enough low high short = rw (le-ltb _ _ enough, le-ltb _ _ low, le-ltb _ _ high, lt-ltb _ _ short) refl

few_bytes : (bytes : List ℕ) → length bytes < 4 → frame_end bytes ≡ Err (Short 4)
few_bytes bytes few = rw (lt-ltb _ _ few) refl

-- a length that is malformed
bad_with : (len : ℕ) (bytes : List ℕ) → end_with len bytes ≡ Err Malformed → 1 ≤ len → len ≤ MAX_LEN → true ≡ false
bad_with len bytes h low high = at (ltb len 1) (ltb MAX_LEN len) (ltb (length bytes) (4 + len)) refl refl h
  where
    at : (a b c : Bool) → ltb len 1 ≡ a → ltb MAX_LEN len ≡ b → cond a (Err Malformed) (cond b (Err Malformed) (cond c (Err (Short (4 + len))) (Ok (4 + len)))) ≡ Err Malformed → true ≡ false
    at true b c i j h = absurd (omega (arith, low, ltb-true len 1 i))
    at false true c i j h = absurd (omega (arith, high, ltb-true MAX_LEN len j))
    at false false true i j h = absurd cc
    at false false false i j h = absurd cc

bad : (bytes : List ℕ) → frame_end bytes ≡ Err Malformed → 4 ≤ length bytes × (end_with (told bytes) bytes ≡ Err Malformed)
bad bytes h = at (ltb (length bytes) 4) refl h
  where
    at : (b : Bool) → ltb (length bytes) 4 ≡ b → cond b (Err (Short 4)) (end_with (told bytes) bytes) ≡ Err Malformed → 4 ≤ length bytes × (end_with (told bytes) bytes ≡ Err Malformed)
    at true i h = absurd cc
    at false i h = (ltb-false (length bytes) 4 i, h)

-- ---- the front of a frame

told_front : (message more bytes : List ℕ) → 4 ≤ length bytes → length message ≤ MAX_LEN → (after : List ℕ) → bytes ++ after ≡ framed message ++ more → told bytes ≡ length message
told_front message more bytes enough short after e =
    let front : take 4 bytes ≡ to_be_bytes w32 (length message) = sym (take-append-le 4 bytes after enough) ∙ ap (take 4) e in
    let lt : length message < 2 ^ 32 = omega (arith, short) in
    ap (from_be_bytes w32) front ∙ wide32.again (length message) lt

framed_size : (message : List ℕ) → length (framed message) ≡ 4 + length message
framed_size message = omega arith

inside_front : (message more bytes : List ℕ) → 4 + length message ≤ length bytes → (after : List ℕ) → bytes ++ after ≡ framed message ++ more → take (4 + length message) bytes ≡ framed message
inside_front message more bytes long after e = sym (take-append-le (4 + length message) bytes after long) ∙ ap (take (4 + length message)) e ∙ take_at (framed message) more (4 + length message) (framed_size message)

-- ---- a kind of messages

module _ {A : Type 0} (text : A → List ℕ) (Fits : A → Type 0) (read : List ℕ → Result A FieldFault) (e : IsBody text Fits read) (some : (a : A) → 1 ≤ length (text a)) where
  abbrev framed_text : A → List ℕ
  framed_text a = framed (text a)

  abbrev pub IsMessage : A → Type 0
  IsMessage a = Fits a × (length (text a) ≤ MAX_LEN)

  abbrev pub NoMessage : List ℕ → Type 0
  NoMessage bytes = (a : A) (more rest : List ℕ) → IsMessage a → bytes ++ more ≢ framed (text a) ++ rest

  -- what was read is in the bytes
  pub read_is : (bytes : List ℕ) (n : ℕ) (a : A) → IsBytes bytes → frame_end bytes ≡ Ok n → read (drop 4 (take n bytes)) ≡ Ok a → IsMessage a × (take n bytes ≡ framed (text a)) × (n ≡ length (framed (text a)))
  read_is bytes n a fits h r =
      let w = whole bytes n h in
      let t = e.takes (drop 4 (take n bytes)) a (IsBytes-drop 4 (take n bytes) (IsBytes-take n bytes fits)) r in
      let size : length (text a) ≡ told bytes = omega (arith, ap length t.0, length-drop 4 (take n bytes), length-take n bytes, w.is, w.long) in
      let head : take 4 (take n bytes) ≡ to_be_bytes w32 (length (text a)) = front n w.is ∙ sym (wide32.back (take 4 bytes) (omega (arith, length-take 4 bytes, w.long)) (IsBytes-take 4 bytes fits)) ∙ ap (to_be_bytes w32) (sym size) in
      let all : take n bytes ≡ framed (text a) = sym (take-append-drop 4 (take n bytes)) ∙ ap (λ (z : List ℕ). z ++ drop 4 (take n bytes)) head ∙ ap (λ (z : List ℕ). to_be_bytes w32 (length (text a)) ++ z) t.0 in
      ((t.1, omega (arith, size, w.high)), all, omega (arith, w.is, size))
    where
      front : (m : ℕ) → m ≡ 4 + told bytes → take 4 (take m bytes) ≡ take 4 bytes
      front m is = ap (λ (k : ℕ). take 4 (take k bytes)) is ∙ take-take 4 (4 + told bytes) bytes (omega arith)

  -- a message whose frame begins the bytes is read
  pub read_again : (bytes : List ℕ) (b : A) (after rest : List ℕ) → IsMessage b → length (framed (text b)) ≤ length bytes → bytes ++ after ≡ framed (text b) ++ rest → (frame_end bytes ≡ Ok (length (framed (text b)))) × (read (drop 4 (take (length (framed (text b))) bytes)) ≡ Ok b)
  read_again bytes b after rest f long h =
      let size : told bytes ≡ length (text b) = told_front (text b) rest bytes (omega (arith, long)) f.1 after h in
      let end' : frame_end bytes ≡ Ok (4 + told bytes) = end_is bytes (omega (arith, size, some b)) (omega (arith, size, f.1)) (omega (arith, size, long)) in
      let inner : take (4 + length (text b)) bytes ≡ framed (text b) = inside_front (text b) rest bytes (omega (arith, long)) after h in
      let len : 4 + length (text b) ≡ length (framed (text b)) = sym (framed_size (text b)) in
      (end' ∙ ap (λ (k : ℕ). ended (4 + k)) size ∙ ap ended len, ap (λ (k : ℕ). read (drop 4 (take k bytes))) (sym len) ∙ ap (λ (z : List ℕ). read (drop 4 z)) inner ∙ e.again b f.0)

  long_enough : (bytes : List ℕ) (b : A) (n : ℕ) (after rest : List ℕ) → IsMessage b → frame_end bytes ≡ Ok n → bytes ++ after ≡ framed (text b) ++ rest → length (framed (text b)) ≤ length bytes
  long_enough bytes b n after rest f h g =
      let w = whole bytes n h in
      let size : told bytes ≡ length (text b) = told_front (text b) rest bytes (omega (arith, w.long)) f.1 after g in
      omega (arith, w.long, size)

  abbrev given : A → Result A FieldFault
  given a = Ok a

  same_given : (a b : A) → given a ≡ given b → a ≡ b
  same_given a b h = ok_is a b h

  pub read_as : (bytes : List ℕ) (n : ℕ) (a b : A) (rest : List ℕ) → frame_end bytes ≡ Ok n → read (drop 4 (take n bytes)) ≡ Ok a → IsMessage b → bytes ≡ framed (text b) ++ rest → (a ≡ b) × (n ≡ length (framed (text b)))
  read_as bytes n a b rest h r f g =
      let g' : bytes ++ [] ≡ framed (text b) ++ rest = append-nil bytes ∙ g in
      let t = read_again bytes b [] rest f (long_enough bytes b n [] rest f h g') g' in
      let is : n ≡ length (framed (text b)) = same_end n (length (framed (text b))) (sym h ∙ t.0) in
      (same_given a b (sym r ∙ ap (λ (k : ℕ). read (drop 4 (take k bytes))) is ∙ t.1), is)

  pub no_end : (bytes : List ℕ) → frame_end bytes ≡ Err Malformed → NoMessage bytes
  no_end bytes h = λ a more rest f g.
      (let w = bad bytes h in
      let size : told bytes ≡ length (text a) = told_front (text a) rest bytes w.0 f.1 more g in
      absurd (true≢false (bad_with (told bytes) bytes w.1 (omega (arith, size, some a)) (omega (arith, size, f.1)))))

  differ : (a : A) → given a ≡ Err fields.Malformed → true ≡ false
  differ a h = absurd cc

  pub no_body : (bytes : List ℕ) (n : ℕ) → frame_end bytes ≡ Ok n → read (drop 4 (take n bytes)) ≡ Err fields.Malformed → NoMessage bytes
  no_body bytes n h r = λ a more rest f g.
      (let t = read_again bytes a more rest f (long_enough bytes a n more rest f h g) g in
      let is : n ≡ length (framed (text a)) = same_end n (length (framed (text a))) (sym h ∙ t.0) in
      absurd (true≢false (differ a (sym (ap (λ (k : ℕ). read (drop 4 (take k bytes))) is ∙ t.1) ∙ r))))

  -- where no message begins the bytes, none was to be read
  pub none_was : (bytes : List ℕ) (b : A) (rest : List ℕ) → NoMessage bytes → IsMessage b → bytes ≡ framed (text b) ++ rest → true ≡ false
  none_was bytes b rest none f g = absurd (none b [] rest f (append-nil bytes ∙ g))

  -- nor where bytes are wanting
  pub not_short : (bytes : List ℕ) (wanted : ℕ) (b : A) (rest : List ℕ) → frame_end bytes ≡ Err (Short wanted) → IsMessage b → bytes ≡ framed (text b) ++ rest → true ≡ false
  not_short bytes wanted b rest h f g =
      let long : length (framed (text b)) ≤ length bytes = omega (arith, ap length g, length-append (framed (text b)) rest) in
      let t = read_again bytes b [] rest f long (append-nil bytes ∙ g) in
      clash (length (framed (text b))) (sym t.0 ∙ h)
    where
      clash : (n : ℕ) → ended n ≡ Err (Short wanted) → true ≡ false
      clash n h = absurd cc

  -- ---- laws

  pub none_begins : (a b : A) (more : List ℕ) → IsMessage a → IsMessage b → framed (text a) ++ more ≡ framed (text b) → (a ≡ b) × (more ≡ [])
  none_begins a b more f g h =
      let long : length (framed (text a)) ≤ length (framed (text b)) = omega (arith, ap length h, length-append (framed (text a)) more) in
      let one = read_again (framed (text b)) a [] more f long (append-nil (framed (text b)) ∙ sym h) in
      let two = read_as (framed (text b)) (length (framed (text a))) a b [] one.0 one.1 g (sym (append-nil (framed (text b)))) in
      (two.0, nil_from_length more (omega (arith, two.1, ap length h, length-append (framed (text a)) more)))

  cut_size : (a : A) (n : ℕ) → n < length (framed (text a)) → length (take n (framed (text a))) ≡ n
  cut_size a n lt = omega (arith, length-take n (framed (text a)), lt)

  cut_told : (a : A) (n : ℕ) → IsMessage a → n < length (framed (text a)) → 4 ≤ n → told (take n (framed (text a))) ≡ length (text a)
  cut_told a n f lt enough =
      told_front (text a) [] (take n (framed (text a))) (omega (arith, enough, cut_size a n lt)) f.1 (drop n (framed (text a))) (take-append-drop n (framed (text a)) ∙ sym (append-nil (framed (text a))))

  pub fronts_are_short : (a : A) (n : ℕ) → IsMessage a → n < length (framed (text a)) → IsShortOf (length (framed (text a))) (frame_end (take n (framed (text a))))
  fronts_are_short a n f lt =
      elim (cases_lt n 4) [
        | inl few ↦ subst (IsShortOf (length (framed (text a)))) (sym (front_short few)) (omega arith)
        | inr enough ↦ subst (IsShortOf (length (framed (text a)))) (sym (rest_short enough)) (omega (arith, cut_told a n f lt enough))
      ]
    where
      front_short : n < 4 → frame_end (take n (framed (text a))) ≡ Err (Short 4)
      front_short few = few_bytes (take n (framed (text a))) (omega (arith, few, cut_size a n lt))

      rest_short : 4 ≤ n → frame_end (take n (framed (text a))) ≡ Err (Short (4 + told (take n (framed (text a)))))
      rest_short enough =
          let size = cut_size a n lt in
          let is = cut_told a n f lt enough in
          short_is (take n (framed (text a))) (omega (arith, enough, size)) (omega (arith, is, some a)) (omega (arith, is, f.1)) (omega (arith, is, size, lt))

-- ---- what reading tells

module _ {A : Type 0} (text : A → List ℕ) (Fits : A → Type 0) (read : List ℕ → Result A FieldFault) (e : IsBody text Fits read) (some : (a : A) → 1 ≤ length (text a))
    (Is : A → Type 0) (there : (a : A) → Is a → Fits a × (length (text a) ≤ MAX_LEN)) (here : (a : A) → Fits a × (length (text a) ≤ MAX_LEN) → Is a) where
  abbrev frame_of : A → List ℕ
  frame_of a = framed (text a)

  pub end_error : (bytes : List ℕ) (fault : MessageFault) → frame_end bytes ≡ Err fault → IsRead {A = A} frame_of Is (Err fault) bytes
  end_error bytes Memory h = tt
  end_error bytes (Short wanted) h = h
  end_error bytes Malformed h = λ a more rest f. no_end text Fits read e some bytes h a more rest (there a f)

  pub body_error : (bytes : List ℕ) (n : ℕ) (fault : FieldFault) → frame_end bytes ≡ Ok n → Fails fault (read (drop 4 (take n bytes))) → IsRead {A = A} frame_of Is (Err (fault_of fault)) bytes
  body_error bytes n fields.Memory h r = tt
  body_error bytes n fields.Malformed h r = λ a more rest f. no_body text Fits read e some bytes n h r a more rest (there a f)

  pub found : (bytes : List ℕ) (n : ℕ) (a : A) → IsBytes bytes → frame_end bytes ≡ Ok n → read (drop 4 (take n bytes)) ≡ Ok a → IsRead frame_of Is (Ok (a, n)) bytes
  found bytes n a fits h r =
      let t = read_is text Fits read e some bytes n a fits h r in
      (here a t.0, t.1, t.2)

  pub found_as : (bytes : List ℕ) (n : ℕ) (a b : A) (rest : List ℕ) → frame_end bytes ≡ Ok n → read (drop 4 (take n bytes)) ≡ Ok a → Is b → bytes ≡ frame_of b ++ rest → IsReadAs frame_of (Ok (a, n)) b
  found_as bytes n a b rest h r f g = read_as text Fits read e some bytes n a b rest h r (there b f) g

  pub error_as : (bytes : List ℕ) (fault : MessageFault) → IsRead {A = A} frame_of Is (Err fault) bytes → (b : A) (rest : List ℕ) → Is b → bytes ≡ frame_of b ++ rest → IsReadAs frame_of (Err fault) b
  error_as bytes Memory h b rest f g = refl
  error_as bytes (Short wanted) h b rest f g = absurd (true≢false (not_short text Fits read e some bytes wanted b rest h (there b f) g))
  error_as bytes Malformed h b rest f g = absurd (true≢false (absurd (h b [] rest f (append-nil bytes ∙ g))))
