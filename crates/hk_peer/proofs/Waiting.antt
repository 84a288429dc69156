-- What more bytes change of what is read of some bytes: nothing, but where they end within a frame.
use Rattle.std.proofs.Common.{◌≡◌, ℕ, ◌+◌, ◌<◌, ◌≤◌, Bool, true, false, cond, ltb, List, [], ◌++◌, length, take, drop, Result, Ok, Err, refl, sym, ap, subst, ◌∙◌, arith, length-append, append_assoc, append-nil, inl, inr}
use Rattle.std.specs.Prelude.{⊤, ◌⊎◌}
use Rattle.std.specs.Int.{w32, from_be_bytes}
use Rattle.std.proofs.lemmas.Bool.{ltb-false, le-ltb, lt-ltb}
use Rattle.std.proofs.lemmas.List.{drop-append-le, take-append-le, length-drop}
use Rattle.hk_base.specs.declared.letter.Letter.{Letter}
use Rattle.hk_frame.specs.declared.fault.Stop.{Stop}
use Rattle.hk_frame.specs.declared.fault.Stop.TheVariants as stops
use Rattle.hk_frame.specs.declared.fault.FrameFault.{FrameFault}
use Rattle.hk_frame.specs.declared.fault.FrameFault.TheVariants.{Memory, Short, BadKind, BadLength, BadField}
use Rattle.hk_frame.specs.declared.length.TheConstants.{MIN_LENGTH, MAX_LENGTH}
use Rattle.hk_frame.specs.Reading.{fields_at}
use Rattle.hk_frame.specs.Told.{told_of, frame_with, frame_at}
use Rattle.hk_peer.specs.Cut.{IsPart, IsLasting, IsBad, IsWanted}

abbrev Read : Type 0
Read = Result ((ℕ × Letter) × ℕ) FrameFault

-- it is not that the bytes end within a frame
abbrev Lasts : Read → Type 0
Lasts (Ok x) = ⊤
Lasts (Err (Short wanted)) = ⊥
Lasts (Err fault) = ⊤

abbrev short : ℕ → Read
short wanted = Err (Short wanted)

-- ---- what is there stays

not_short : (b : Bool) (wanted : ℕ) (y r : Read) → cond b (short wanted) y ≡ r → Lasts r → (b ≡ false) × (y ≡ r)
not_short true wanted y r h l = absurd (subst Lasts (sym h) l)
not_short false wanted y r h l = (refl, h)

under : (b : Bool) (x y z r : Read) → (y ≡ r → Lasts r → z ≡ r) → cond b x y ≡ r → Lasts r → cond b x z ≡ r
under true x y z r f h l = h
under false x y z r f h l = f h l

front_stays : (n : ℕ) (bytes more : List ℕ) → n ≤ length bytes → take n (bytes ++ more) ≡ take n bytes
front_stays n bytes more le = take-append-le n bytes more le

inside_stays : (len : ℕ) (bytes more : List ℕ) → 4 + len ≤ length bytes → take len (drop 4 (bytes ++ more)) ≡ take len (drop 4 bytes)
inside_stays len bytes more le =
    let behind : drop 4 (bytes ++ more) ≡ drop 4 bytes ++ more = drop-append-le 4 bytes more (omega (arith, le)) in
    ap (take len) behind ∙ front_stays len (drop 4 bytes) more (grind (arith, le, length-drop))

longer : (n : ℕ) (bytes more : List ℕ) → n ≤ length bytes → ltb (length (bytes ++ more)) n ≡ false
longer n bytes more le = le-ltb _ _ (omega (arith, le, length-append bytes more))

whole_stays : (len : ℕ) (bytes more : List ℕ) (r : Read) → frame_with len bytes ≡ r → Lasts r → frame_with len (bytes ++ more) ≡ r
whole_stays len bytes more r = under (ltb len MIN_LENGTH) _ _ _ r (under (ltb MAX_LENGTH len) _ _ _ r inside)
  where
    inside : cond (ltb (length bytes) (4 + len)) (short (4 + len)) (told_of len (fields_at (take len (drop 4 bytes)))) ≡ r → Lasts r → cond (ltb (length (bytes ++ more)) (4 + len)) (short (4 + len)) (told_of len (fields_at (take len (drop 4 (bytes ++ more))))) ≡ r
    inside h l =
        let parts = not_short (ltb (length bytes) (4 + len)) (4 + len) _ r h l in
        let le : 4 + len ≤ length bytes = ltb-false _ _ parts.0 in
        rw (longer (4 + len) bytes more le, inside_stays len bytes more le) parts.1

pub settled : (bytes more : List ℕ) (r : Read) → frame_at bytes ≡ r → Lasts r → frame_at (bytes ++ more) ≡ r
settled bytes more r h l =
    let parts = not_short (ltb (length bytes) 4) 4 _ r h l in
    let le : 4 ≤ length bytes = ltb-false _ _ parts.0 in
    rw (longer 4 bytes more le, front_stays 4 bytes more le) (whole_stays (from_be_bytes w32 (take 4 bytes)) bytes more r parts.1 l)

lasting : (fault : FrameFault) → IsLasting fault → Lasts (Err fault)
lasting Memory l = tt
lasting (Short wanted) l = l
lasting (BadKind kind) l = tt
lasting (BadLength len) l = tt
lasting (BadField at) l = tt

pub bad_stays : (fault : FrameFault) (bytes more : List ℕ) → IsBad fault bytes → IsBad fault (bytes ++ more)
bad_stays fault bytes more bad = (bad.0, settled bytes more (Err fault) bad.1 (lasting fault bad.0))

-- a fault that was told is one that lasts, unless more memory or more bytes are needed
pub lasts : (fault : FrameFault) → (fault ≡ Memory → ⊥) → ((wanted : ℕ) → fault ≡ Short wanted → ⊥) → IsLasting fault
lasts Memory m s = absurd (m refl)
lasts (Short wanted) m s = absurd (s wanted refl)
lasts (BadKind kind) m s = tt
lasts (BadLength len) m s = tt
lasts (BadField at) m s = tt

-- ---- how many bytes are wanted

short_is : (n m : ℕ) → short n ≡ short m → n ≡ m
short_is n m e = cc

-- of two tests that one read ends within a frame, the one that did
parted : (b : Bool) (n m : ℕ) (y : Read) → cond b (short n) y ≡ short m → ((b ≡ true) × (n ≡ m)) ⊎ ((b ≡ false) × (y ≡ short m))
parted true n m y h = inl (refl, short_is n m h)
parted false n m y h = inr (refl, h)

in_range : (b : Bool) (len m : ℕ) (y : Read) → cond b (Err (BadLength len)) y ≡ short m → (b ≡ false) × (y ≡ short m)
in_range true len m y h = absurd cc
in_range false len m y h = (refl, h)

told_no_short : (len m : ℕ) (r : Result (ℕ × Letter) Stop) → told_of len r ≡ short m → ⊥
told_no_short len m (Ok x) h = cc
told_no_short len m (Err stops.Memory) h = cc
told_no_short len m (Err (stops.Kind kind)) h = cc
told_no_short len m (Err stops.Length) h = cc
told_no_short len m (Err (stops.Field left)) h = cc

still_short : (b : Bool) (n : ℕ) (y : Read) → b ≡ true → cond b (short n) y ≡ short n
still_short true n y h = refl
still_short false n y h = absurd cc

pub first_wanted : (bytes : List ℕ) → IsWanted 4 bytes
first_wanted bytes more lt = (4, still_short (ltb (length (bytes ++ more)) 4) 4 _ (lt-ltb (length (bytes ++ more)) 4 lt))

whole_wanted : (len wanted : ℕ) (bytes more : List ℕ) → frame_with len bytes ≡ short wanted → length (bytes ++ more) < wanted → frame_with len (bytes ++ more) ≡ short wanted
whole_wanted len wanted bytes more h lt =
    let low = in_range (ltb len MIN_LENGTH) len wanted _ h in
    let high = in_range (ltb MAX_LENGTH len) len wanted _ low.1 in
    elim (parted (ltb (length bytes) (4 + len)) (4 + len) wanted _ high.1) [
      | inl is ↦ rw (low.0, high.0, ← is.1) (still_short (ltb (length (bytes ++ more)) (4 + len)) (4 + len) _ (lt-ltb (length (bytes ++ more)) (4 + len) (omega (arith, is.1, lt))))
      | inr is ↦ absurd (told_no_short len wanted _ is.1)
    ]

pub wanted_is : (wanted : ℕ) (bytes : List ℕ) → frame_at bytes ≡ short wanted → IsWanted wanted bytes
wanted_is wanted bytes h more lt =
    elim (parted (ltb (length bytes) 4) 4 wanted _ h) [
      | inl is ↦ (4, still_short (ltb (length (bytes ++ more)) 4) 4 _ (lt-ltb (length (bytes ++ more)) 4 (omega (arith, is.1, lt))))
      | inr is ↦
          let le : 4 ≤ length bytes = ltb-false _ _ is.0 in
          (wanted, rw (longer 4 bytes more le, front_stays 4 bytes more le) (whole_wanted (from_be_bytes w32 (take 4 bytes)) wanted bytes more is.1 lt))
    ]

pub wanted_more : (wanted : ℕ) (bytes piece : List ℕ) → IsWanted wanted bytes → IsWanted wanted (bytes ++ piece)
wanted_more wanted bytes piece w more lt = subst IsPart (sym (append_assoc bytes piece more)) (w (piece ++ more) (subst (λ (all : List ℕ). length all < wanted) (append_assoc bytes piece more) lt))

pub wanted_now : (wanted : ℕ) (bytes : List ℕ) → IsWanted wanted bytes → length bytes < wanted → IsPart bytes
wanted_now wanted bytes w lt = subst IsPart (append-nil bytes) (w [] (subst (λ (all : List ℕ). length all < wanted) (sym (append-nil bytes)) lt))

pub nothing_is_part : IsPart []
nothing_is_part = (4, refl)
