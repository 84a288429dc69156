-- How bytes are cut into frames.
use Rattle.std.proofs.Common.{◌≡◌, ℕ, Bool, true, false, cond, List, [], ◌∷◌, ◌++◌, length, Result, Ok, Err, refl, sym, ap, subst, ◌∙◌, append_assoc}
use Rattle.std.proofs.lemmas.List.{append_cancel_left}
use Rattle.std.proofs.lemmas.List.Elements.{filter-append}
use mathlib.Core.HLevel.{is_prop→PathP}
use mathlib.Core.List.{IsPrefix}
use Rattle.hk_base.specs.declared.letter.Letter.{Letter}
use Rattle.hk_frame.specs.declared.fault.FrameFault.{FrameFault}
use Rattle.hk_frame.specs.declared.fault.FrameFault.TheVariants.{Short}
use Rattle.hk_frame.specs.Told.{frame_at}
use Rattle.hk_frame.proofs.Whole.{frame_again}
use Rattle.hk_link.specs.declared.parcel.Parcel.{Parcel}
use Rattle.hk_link.specs.declared.rule.Known.{Known}
use Rattle.hk_link.specs.Ends.{End, IsPut, IsSameLink}
use Rattle.hk_link.specs.Parcels.{IsParcel, IsParcel-prop}
use Rattle.hk_peer.specs.declared.course.Course.{Course}
use Rattle.hk_peer.specs.Parcels.{frame_of, HasFrame, AreFrames, NoFrame, is_on, ArePut, Passes}
use Rattle.hk_peer.specs.Cut.{IsPart, IsBad}

abbrev Read : Type 0
Read = Result ((ℕ × Letter) × ℕ) FrameFault

found_is : (x y : (ℕ × Letter) × ℕ) → ◌≡◌ {A = Read} (Ok x) (Ok y) → x ≡ y
found_is x y e = cc

no_error : (x : (ℕ × Letter) × ℕ) (fault : FrameFault) → ◌≡◌ {A = Read} (Ok x) (Err fault) → ⊥
no_error x fault e = cc

abbrev found : Parcel → (ℕ × Letter) × ℕ
found p = ((p.shard, p.letter), length (frame_of p))

-- a parcel whose frame begins the bytes is read
read_of : (p : Parcel) (bytes behind : List ℕ) → HasFrame p → bytes ≡ frame_of p ++ behind → frame_at bytes ≡ Ok (found p)
read_of p bytes behind h e = ap frame_at e ∙ frame_again p.shard p.letter behind h

no_frame : (fault : FrameFault) (bytes : List ℕ) → frame_at bytes ≡ Err fault → NoFrame bytes
no_frame fault bytes e p behind h is = no_error (found p) fault (sym (read_of p bytes behind h is) ∙ e)

pub no_frame_in_part : (bytes : List ℕ) → IsPart bytes → NoFrame bytes
no_frame_in_part bytes part = no_frame (Short part.0) bytes part.1

pub no_frame_in_bad : (fault : FrameFault) (bytes : List ℕ) → IsBad fault bytes → NoFrame bytes
no_frame_in_bad fault bytes bad = no_frame fault bytes bad.1

-- ---- one way

same_parcel : (p q : Parcel) → p.shard ≡ q.shard → p.letter ≡ q.letter → p ≡ q
same_parcel p q s l = λ i. record { shard = s i; letter = l i; ranged = is_prop→PathP (λ j. IsParcel (s j) (l j)) (λ j. IsParcel-prop (s j) (l j)) p.ranged q.ranged i }

first_is : (bytes b c : List ℕ) (p q : Parcel) → HasFrame p → HasFrame q → bytes ≡ frame_of p ++ b → bytes ≡ frame_of q ++ c → (p ≡ q) × (b ≡ c)
first_is bytes b c p q h k e f =
    let same = found_is (found p) (found q) (sym (read_of p bytes b h e) ∙ read_of q bytes c k f) in
    let one : p ≡ q = same_parcel p q (ap (λ (x : (ℕ × Letter) × ℕ). x.0.0) same) (ap (λ (x : (ℕ × Letter) × ℕ). x.0.1) same) in
    (one, append_cancel_left (frame_of q) b c (ap (λ (x : Parcel). frame_of x ++ b) (sym one) ∙ sym e ∙ f))

prefix_more : (p q : Parcel) (ps qs : List Parcel) → p ≡ q → IsPrefix ps qs → IsPrefix (p ∷ ps) (q ∷ qs)
prefix_more p q ps qs e f = (f.0, ap (λ (x : Parcel). x ∷ ps ++ f.0) e ∙ ap (λ (xs : List Parcel). q ∷ xs) f.1)

pub goes_on : (bytes : List ℕ) (parcels others : List Parcel) (rest left : List ℕ) → AreFrames bytes parcels rest → AreFrames bytes others left → NoFrame left → IsPrefix parcels others
goes_on bytes [] others rest left f g none = (others, refl)
goes_on bytes (p ∷ ps) [] rest left f g none = absurd (none p f.0 f.1 (sym g ∙ f.2))
goes_on bytes (p ∷ ps) (q ∷ qs) rest left f g none =
    let same = first_is bytes f.0 g.0 p q f.1 g.1 f.2 g.2 in
    prefix_more p q ps qs same.0 (goes_on f.0 ps qs rest left f.3 (subst (λ (x : List ℕ). AreFrames x qs left) (sym same.1) g.3) none)

cons_both : (p q : Parcel) (ps qs : List Parcel) → p ≡ q → ps ≡ qs → p ∷ ps ≡ q ∷ qs
cons_both p q ps qs e f = ap (λ (x : Parcel). x ∷ ps) e ∙ ap (λ (xs : List Parcel). q ∷ xs) f

pub same : (bytes : List ℕ) (parcels others : List Parcel) (rest left : List ℕ) → AreFrames bytes parcels rest → AreFrames bytes others left → NoFrame rest → NoFrame left → (parcels ≡ others) × (rest ≡ left)
same bytes [] [] rest left f g no_rest no_left = (refl, sym f ∙ g)
same bytes [] (q ∷ qs) rest left f g no_rest no_left = absurd (no_rest q g.0 g.1 (sym f ∙ g.2))
same bytes (p ∷ ps) [] rest left f g no_rest no_left = absurd (no_left p f.0 f.1 (sym g ∙ f.2))
same bytes (p ∷ ps) (q ∷ qs) rest left f g no_rest no_left =
    let first = first_is bytes f.0 g.0 p q f.1 g.1 f.2 g.2 in
    let behind = same f.0 ps qs rest left f.3 (subst (λ (x : List ℕ). AreFrames x qs left) (sym first.1) g.3) no_rest no_left in
    (cons_both p q ps qs first.0 behind.0, behind.1)

-- ---- one behind the other

pub frames_more : (bytes more rest : List ℕ) (parcels : List Parcel) → AreFrames bytes parcels rest → AreFrames (bytes ++ more) parcels (rest ++ more)
frames_more bytes more rest [] f = ap (λ (x : List ℕ). x ++ more) f
frames_more bytes more rest (p ∷ ps) f = (f.0 ++ more, f.1, ap (λ (x : List ℕ). x ++ more) f.2 ∙ append_assoc (frame_of p) f.0 more, frames_more f.0 more rest ps f.3)

frames_both : (bytes middle rest : List ℕ) (ps qs : List Parcel) → AreFrames bytes ps middle → AreFrames middle qs rest → AreFrames bytes (ps ++ qs) rest
frames_both bytes middle rest [] qs f g = subst (λ (x : List ℕ). AreFrames x qs rest) (sym f) g
frames_both bytes middle rest (p ∷ ps) qs f g = (f.0, f.1, f.2, frames_both f.0 middle rest ps qs f.3 g)

puts_both : (a b c : Known) (ps qs : List Parcel) → ArePut a ps b → ArePut b qs c → ArePut a (ps ++ qs) c
puts_both a b c [] qs f g = subst (λ (k : Known). ArePut k qs c) f g
puts_both a b c (p ∷ ps) qs f g = (f.0, f.1, puts_both f.0 b c ps qs f.2 g)

pub passes_none : (course : Course) (bytes : List ℕ) (known : Known) → Passes course bytes bytes known known
passes_none course bytes known = record { parcels = []; frames = refl; put = refl }

-- a piece comes
pub passes_more : (course : Course) (bytes more rest : List ℕ) (a b : Known) → Passes course bytes rest a b → Passes course (bytes ++ more) (rest ++ more) a b
passes_more course bytes more rest a b f = record { parcels = f.parcels; frames = frames_more bytes more rest f.parcels f.frames; put = f.put }

pub passes_on : (course : Course) (bytes middle rest : List ℕ) (a b c : Known) → Passes course bytes middle a b → Passes course middle rest b c → Passes course bytes rest a c
passes_on course bytes middle rest a b c f g = record {
  parcels = f.parcels ++ g.parcels;
  frames = frames_both bytes middle rest f.parcels g.parcels f.frames g.frames;
  put = rw (filter-append (λ p. is_on course p) f.parcels g.parcels) (puts_both a b c _ _ f.put g.put);
}

put_if : (test : Bool) (p : Parcel) (a b : Known) → (test ≡ true → IsPut a p b) → (test ≡ false → b ≡ a) → ArePut a (cond test (p ∷ []) []) b
put_if true p a b put lost = (b, put refl, refl)
put_if false p a b put lost = lost refl

-- the next parcel
pub passes_one : (course : Course) (p : Parcel) (bytes rest : List ℕ) (a b : Known) → HasFrame p → bytes ≡ frame_of p ++ rest → (is_on course p ≡ true → IsPut a p b) → (is_on course p ≡ false → b ≡ a) → Passes course bytes rest a b
passes_one course p bytes rest a b h e put lost = record { parcels = p ∷ []; frames = (rest, h, e, refl); put = put_if (is_on course p) p a b put lost }

pub same_link : (a b c : End) → IsSameLink a b → IsSameLink b c → IsSameLink a c
same_link a b c h k = (h.0 ∙ k.0, h.1 ∙ k.1)
