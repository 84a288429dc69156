-- That bytes are one list of records only, and what stands behind them.
use Rattle.std.proofs.Common.{true≢false, ◌≡◌, ℕ, true, false, List, [], ◌∷◌, ◌++◌, length, take, drop, refl, sym, ap, subst, ◌∙◌, append_assoc, append-nil}
use Rattle.std.proofs.lemmas.List.{append_cancel_left, take-append-drop}
use Rattle.hk_log.specs.declared.checks.TheConstants.{HEADER}
use Rattle.hk_log.specs.declared.entry.Entry.{Entry}
use Rattle.hk_log.specs.Records.{check_of, framed, body_bytes, IsRecord, AreRecords, text_behind, last_check}
use Rattle.hk_log.specs.Logs.{told_length, stands, Stand, IsForeign}
use Rattle.hk_log.proofs.Bodies.{no_cons, fronts}
use Rattle.hk_log.proofs.Framing.{IsBody, stands_framed, told_framed, body_framed}

-- no record begins the bytes behind a check
abbrev pub NoRecord : List ℕ → List ℕ → Type 0
NoRecord before x = (r : List Entry) (rest : List ℕ) → IsRecord r → x ≡ framed before (body_bytes r) ++ rest → true ≡ false

pub body_of : (r : List Entry) → IsRecord r → IsBody (body_bytes r)
body_of r f = record { some = f.some; short = f.short }

pub not_standing : (before x : List ℕ) → stands before x ≡ false → NoRecord before x
not_standing before x h = λ r rest f e. sym (ap (stands before) e ∙ stands_framed before (body_bytes r) rest (body_of r f)) ∙ h

pub foreign_none : (before x : List ℕ) → IsForeign before x → NoRecord before x
foreign_none before x g = λ r rest f e.
    (let told : told_length x ≡ length (body_bytes r) = ap told_length e ∙ told_framed before (body_bytes r) rest (body_of r f) in
    let body : take (told_length x) (drop 4 x) ≡ body_bytes r = ap (λ (n : ℕ). take n (drop 4 x)) told ∙ ap (λ (y : List ℕ). take (length (body_bytes r)) (drop 4 y)) e ∙ body_framed before (body_bytes r) rest in
    absurd (g.foreign r f body))

same_frame : (before a b u v : List ℕ) → IsBody a → IsBody b → framed before a ++ u ≡ framed before b ++ v → (a ≡ b) × (u ≡ v)
same_frame before a b u v f g e =
    let n : length a ≡ length b = sym (told_framed before a u f) ∙ ap told_length e ∙ told_framed before b v g in
    let s : a ≡ b = sym (body_framed before a u) ∙ ap (λ (y : List ℕ). take (length a) (drop 4 y)) e ∙ ap (λ (m : ℕ). take m (drop 4 (framed before b ++ v))) n ∙ body_framed before b v in
    (s, append_cancel_left (framed before b) u v (ap (λ (y : List ℕ). framed before y ++ u) (sym s) ∙ e))

nothing_behind : (others : List Entry) → [] ≡ body_bytes others → others ≡ []
nothing_behind [] e = refl
nothing_behind (x ∷ others) e = absurd (true≢false (no_cons x others [] (append-nil (body_bytes (x ∷ others)) ∙ sym e)))

same_record : (r s : List Entry) → IsRecord r → IsRecord s → body_bytes r ≡ body_bytes s → r ≡ s
same_record r s f g e =
    let on = fronts r s [] f.each g.each (append-nil (body_bytes r) ∙ e) in
    sym (on.is ∙ ap (λ (z : List Entry). r ++ z) (nothing_behind on.others on.text) ∙ append-nil r)

pub same_front : (before : List ℕ) (rs ss : List (List Entry)) (x y : List ℕ) → AreRecords rs → AreRecords ss → NoRecord (last_check before rs) x → NoRecord (last_check before ss) y → text_behind before rs ++ x ≡ text_behind before ss ++ y → (rs ≡ ss) × (x ≡ y)
same_front before [] [] x y f g n m e = (refl, e)
same_front before [] (s ∷ ss) x y f g n m e = absurd (true≢false (n s (text_behind (check_of before (body_bytes s)) ss ++ y) g.0 (e ∙ append_assoc (framed before (body_bytes s)) (text_behind (check_of before (body_bytes s)) ss) y)))
same_front before (r ∷ rs) [] x y f g n m e = absurd (true≢false (m r (text_behind (check_of before (body_bytes r)) rs ++ x) f.0 (sym e ∙ append_assoc (framed before (body_bytes r)) (text_behind (check_of before (body_bytes r)) rs) x)))
same_front before (r ∷ rs) (s ∷ ss) x y f g n m e =
    let one = same_frame before (body_bytes r) (body_bytes s) (text_behind (check_of before (body_bytes r)) rs ++ x) (text_behind (check_of before (body_bytes s)) ss ++ y) (body_of r f.0) (body_of s g.0) (sym (append_assoc (framed before (body_bytes r)) (text_behind (check_of before (body_bytes r)) rs) x) ∙ e ∙ append_assoc (framed before (body_bytes s)) (text_behind (check_of before (body_bytes s)) ss) y) in
    let same : r ≡ s = same_record r s f.0 g.0 one.0 in
    let there : text_behind (check_of before (body_bytes r)) rs ++ x ≡ text_behind (check_of before (body_bytes r)) ss ++ y = one.1 ∙ ap (λ (z : List Entry). text_behind (check_of before (body_bytes z)) ss ++ y) (sym same) in
    let last : NoRecord (last_check (check_of before (body_bytes r)) ss) y = subst (λ (z : List Entry). NoRecord (last_check (check_of before (body_bytes z)) ss) y) (sym same) m in
    let more = same_front (check_of before (body_bytes r)) rs ss x y f.1 g.1 n last there in
    (ap (λ (z : List Entry). z ∷ rs) same ∙ ap (λ (zs : List (List Entry)). s ∷ zs) more.0, more.1)

-- where records stand up to a place of a log, and none stands there
pub same_log : (file : List ℕ) (records : List (List Entry)) (rest : List ℕ) (found : List (List Entry)) (place : ℕ) → file ≡ HEADER ++ (text_behind HEADER records ++ rest) → AreRecords records → NoRecord (last_check HEADER records) rest
    → Stand found place file → NoRecord (last_check HEADER found) (drop place file) → (found ≡ records) × (drop place file ≡ rest)
same_log file records rest found place e f n s m =
    let parts : HEADER ++ (text_behind HEADER found ++ drop place file) ≡ file = sym (append_assoc HEADER (text_behind HEADER found) (drop place file)) ∙ ap (λ (x : List ℕ). x ++ drop place file) (sym s.text) ∙ take-append-drop place file in
    same_front HEADER found records (drop place file) rest s.are f m n (append_cancel_left HEADER (text_behind HEADER found ++ drop place file) (text_behind HEADER records ++ rest) (parts ∙ e))
