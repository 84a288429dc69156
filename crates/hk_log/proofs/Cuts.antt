-- That a log that was cut is read as a front of its records.
use Rattle.std.proofs.Common.{true≢false, ◌≡◌, ℕ, zero, suc, ◌+◌, ◌-◌, ◌<◌, ◌≤◌, Bool, true, false, cond, ltb, List, [], ◌∷◌, ◌++◌, length, take, drop, Ok, Err, refl, sym, ap, subst, ◌∙◌, append_assoc, append-nil, arith, inl, inr}
use Rattle.std.specs.Prelude.{bytes_eq, not}
use Rattle.std.specs.Int.{w32, from_be_bytes}
use Rattle.std.proofs.lemmas.Bool.{cases_lt, ltb-false, le-ltb, lt-ltb}
use Rattle.std.proofs.lemmas.List.{take_all, take_at, take-take, take-append-le, length-append, length-take, length-take-le}
use Rattle.std.proofs.lemmas.Slice.Eq.{bytes_eq-Decides}
use Rattle.hk_log.specs.declared.checks.TheConstants.{HEADER, MAX_BODY_LEN}
use Rattle.hk_log.specs.declared.entry.Entry.{Entry}
use Rattle.hk_log.specs.declared.fault.LogFault.TheVariants.{Damaged}
use Rattle.hk_log.specs.declared.scan.Log.{Log}
use Rattle.hk_log.specs.Records.{check_of, framed, body_bytes, IsRecord, AreRecords, text_behind, last_check, log_text}
use Rattle.hk_log.specs.Logs.{told_length, stands, holds_record, is_blank, ends_early, is_cut_short, is_torn, has_no_header, IsRead, IsDamage, IsLogRead}
use Rattle.hk_log.specs.Laws.{IsFront}
use Rattle.hk_log.proofs.Framing.{IsBody, length_framed, told_framed, passes}
use Rattle.hk_log.proofs.Standing.{log_more}
use Rattle.hk_log.proofs.Fronts.{NoRecord, body_of, not_standing, foreign_none, same_log}

-- a part of a record, or nothing where there is none
abbrev pub IsPart : List ℕ → List (List Entry) → List ℕ → Type 0
IsPart check [] rest = rest ≡ []
IsPart check (r ∷ more) rest = IsRecord r × (length rest < length (framed check (body_bytes r))) × (rest ≡ take (length rest) (framed check (body_bytes r)))

pub record Cut (before : List ℕ) (records : List (List Entry)) (k : ℕ) : Type 0 where
  pub front : List (List Entry)
  pub others : List (List Entry)
  pub rest : List ℕ
  pub are : AreRecords front
  pub is : records ≡ front ++ others
  pub text : take k (text_behind before records) ≡ text_behind before front ++ rest
  pub part : IsPart (last_check before front) others rest
  pub place : (next : List Entry) (more : List (List Entry)) → others ≡ next ∷ more → k ≡ length (text_behind before front) + length rest

pub take_past : (p q : List ℕ) (m : ℕ) → take (length p + m) (p ++ q) ≡ p ++ take m q
take_past [] q m =
    let e : length {A = ℕ} [] + m ≡ m = omega arith in
    ap (λ (n : ℕ). take n q) e
take_past (x ∷ p) q m =
    let e : length (x ∷ p) + m ≡ suc (length p + m) = omega arith in
    ap (λ (n : ℕ). take n (x ∷ (p ++ q))) e ∙ ap (λ (z : List ℕ). x ∷ z) (take_past p q m)

here : (before : List ℕ) (r : List Entry) (records : List (List Entry)) (k : ℕ) → AreRecords (r ∷ records) → k < length (framed before (body_bytes r)) → Cut before (r ∷ records) k
here before r records k a lt =
    let frame = framed before (body_bytes r) in
    let len : length (take k (framed before (body_bytes r))) ≡ k = length-take-le k (framed before (body_bytes r)) (omega (arith, lt)) in
    record {
      front = [];
      others = r ∷ records;
      rest = take k (framed before (body_bytes r));
      are = tt;
      is = refl;
      text = take-append-le k (framed before (body_bytes r)) (text_behind (check_of before (body_bytes r)) records) (omega (arith, lt));
      part = (a.0, omega (arith, len, lt), ap (λ (n : ℕ). take n (framed before (body_bytes r))) (sym len));
      place = λ next more e. omega (arith, len);
    }

there : (before : List ℕ) (r : List Entry) (records : List (List Entry)) (k : ℕ) → AreRecords (r ∷ records) → length (framed before (body_bytes r)) ≤ k → Cut (check_of before (body_bytes r)) records (k - length (framed before (body_bytes r))) → Cut before (r ∷ records) k
there before r records k a le c =
    let check = check_of before (body_bytes r) in
    let sum : k ≡ length (framed before (body_bytes r)) + (k - length (framed before (body_bytes r))) = omega (arith, le) in
    record {
      front = r ∷ c.front;
      others = c.others;
      rest = c.rest;
      are = (a.0, c.are);
      is = ap (λ (xs : List (List Entry)). r ∷ xs) c.is;
      text = ap (λ (n : ℕ). take n (text_behind before (r ∷ records))) sum ∙ take_past (framed before (body_bytes r)) (text_behind (check_of before (body_bytes r)) records) (k - length (framed before (body_bytes r))) ∙ ap (λ (x : List ℕ). framed before (body_bytes r) ++ x) c.text ∙ sym (append_assoc (framed before (body_bytes r)) (text_behind (check_of before (body_bytes r)) c.front) c.rest);
      part = c.part;
      place = λ next more e. omega (arith, sum, c.place next more e, length-append (framed before (body_bytes r)) (text_behind (check_of before (body_bytes r)) c.front));
    }

pub cut : (before : List ℕ) (records : List (List Entry)) (k : ℕ) → AreRecords records → Cut before records k
cut before [] k a = record { front = []; others = []; rest = []; are = tt; is = refl; text = take_all k [] (omega arith); part = refl; place = λ next more e. absurd cc }
cut before (r ∷ records) k a =
    elim (cases_lt k (length (framed before (body_bytes r)))) [
      | inl lt ↦ here before r records k a lt
      | inr le ↦ there before r records k a le (cut (check_of before (body_bytes r)) records (k - length (framed before (body_bytes r))) a.1)
    ]

-- ---- a part is cut short, and is no record

either_true : (b x : Bool) → x ≡ true → cond b true x ≡ true
either_true true x e = refl
either_true false x e = e

pub short_of : (rest : List ℕ) (len : ℕ) → told_length rest ≡ len → 1 ≤ len → len ≤ MAX_BODY_LEN → length rest < 12 + len → is_cut_short rest ≡ true
unfolding is_cut_short
short_of rest len told some short lt =
    let a : ltb len 1 ≡ false = le-ltb _ _ some in
    let b : ltb MAX_BODY_LEN len ≡ false = le-ltb _ _ short in
    let c : ltb (length rest) (12 + len) ≡ true = lt-ltb _ _ lt in
    let early : ends_early (told_length rest) rest ≡ true = ap (λ (n : ℕ). ends_early n rest) told ∙ rw (a, b, c) refl in
    either_true (ltb (length rest) 4) _ (either_true (is_blank (drop 3 rest)) _ early)

tiny : (rest : List ℕ) → length rest < 4 → is_cut_short rest ≡ true
unfolding is_cut_short
tiny rest lt =
    let a : ltb (length rest) 4 ≡ true = lt-ltb _ _ lt in
    rw a refl

told_part : (check body rest : List ℕ) → IsBody body → 4 ≤ length rest → rest ≡ take (length rest) (framed check body) → told_length rest ≡ length body
told_part check body rest b le e =
    ap told_length e ∙ heads ∙ ap told_length (sym (append-nil (framed check body))) ∙ told_framed check body [] b
  where
    heads : told_length (take (length rest) (framed check body)) ≡ told_length (framed check body)
    heads = ap (λ (x : List ℕ). from_be_bytes w32 x) (take-take 4 (length rest) (framed check body) le)

pub part_short : (check : List ℕ) (others : List (List Entry)) (rest : List ℕ) → IsPart check others rest → is_cut_short rest ≡ true
part_short check [] rest p = tiny rest (omega (arith, ap length p))
part_short check (r ∷ more) rest p =
    elim (cases_lt (length rest) 4) [
      | inl lt ↦ tiny rest lt
      | inr le ↦ short_of rest (length (body_bytes r)) (told_part check (body_bytes r) rest (body_of r p.0) le p.2) p.0.some p.0.short (omega (arith, p.1, length_framed check (body_bytes r)))
    ]

stands_long : (before bytes : List ℕ) → stands before bytes ≡ true → (13 ≤ length bytes) × (12 + told_length bytes ≤ length bytes)
unfolding stands
stands_long before bytes h =
    let a = passes (ltb (length bytes) 13) _ h in
    let b = passes (ltb (told_length bytes) 1) _ a.1 in
    let c = passes (ltb MAX_BODY_LEN (told_length bytes)) _ b.1 in
    let d = passes (ltb (length bytes) (12 + told_length bytes)) _ c.1 in
    (ltb-false _ _ a.0, ltb-false _ _ d.0)

pub is_false : (b : Bool) → (b ≡ true → true ≡ false) → b ≡ false
is_false true h = h refl
is_false false h = refl

pub part_not_right : (check : List ℕ) (others : List (List Entry)) (rest : List ℕ) → IsPart check others rest → stands check rest ≡ false
part_not_right check [] rest p = is_false (stands check rest) (λ h. absurd (omega (arith, ap length p, (stands_long check rest h).0)))
part_not_right check (r ∷ more) rest p =
    is_false (stands check rest) (λ h.
    (let long = stands_long check rest h in
    let told : told_length rest ≡ length (body_bytes r) = told_part check (body_bytes r) rest (body_of r p.0) (omega (arith, long.0)) p.2 in
    absurd (omega (arith, long.1, told, p.1, length_framed check (body_bytes r)))))

pub torn_or_held : (place : ℕ) (file : List ℕ) → is_torn place file ≡ false → is_cut_short (drop place file) ≡ true → holds_record (drop (place - 7) file) ≡ true
torn_or_held place file t s = flip (holds_record (drop (place - 7) file)) (sym (ap (λ (b : Bool). cond b (not (holds_record (drop (place - 7) file))) false) s) ∙ t)
  where
    flip : (b : Bool) → not b ≡ false → b ≡ true
    flip true e = refl
    flip false e = absurd (true≢false e)

-- ---- headers

pub has_header : (x : List ℕ) → has_no_header (HEADER ++ x) ≡ false
unfolding has_no_header
has_header x =
    let a : ltb (length (HEADER ++ x)) 8 ≡ false = le-ltb _ _ (omega (arith, length-append HEADER x)) in
    rw a refl

front_of_header : (n : ℕ) → n < 8 → has_no_header (take n HEADER) ≡ true
unfolding has_no_header
front_of_header zero lt = refl
front_of_header (suc zero) lt = refl
front_of_header (suc (suc zero)) lt = refl
front_of_header (suc (suc (suc zero))) lt = refl
front_of_header (suc (suc (suc (suc zero)))) lt = refl
front_of_header (suc (suc (suc (suc (suc zero))))) lt = refl
front_of_header (suc (suc (suc (suc (suc (suc zero)))))) lt = refl
front_of_header (suc (suc (suc (suc (suc (suc (suc zero))))))) lt = refl
front_of_header (suc (suc (suc (suc (suc (suc (suc (suc n)))))))) lt = absurd (omega (arith, lt))

pub same_header : (x : List ℕ) → bytes_eq HEADER (take 8 (HEADER ++ x)) ≡ true
same_header x = (bytes_eq-Decides HEADER (take 8 (HEADER ++ x))).1 (sym (take_at HEADER x 8 refl))

early : (records : List (List Entry)) (n : ℕ) → n < 8 → take n (log_text records) ≡ take n HEADER
early records n lt = take-append-le n HEADER (text_behind HEADER records) (omega (arith, lt))

later : (records : List (List Entry)) (n : ℕ) → 8 ≤ n → AreRecords records → (c : Cut HEADER records (n - 8)) → take n (log_text records) ≡ HEADER ++ (text_behind HEADER c.front ++ c.rest)
later records n le a c =
    let sum : n ≡ length HEADER + (n - 8) = omega (arith, le) in
    ap (λ (m : ℕ). take m (log_text records)) sum ∙ take_past HEADER (text_behind HEADER records) (n - 8) ∙ ap (λ (x : List ℕ). HEADER ++ x) c.text

-- ---- what is read

long_log : (records : List (List Entry)) → 8 ≤ length (log_text records)
long_log records = omega (arith, length-append HEADER (text_behind HEADER records))

pub no_record_read : (log : Log) (file : List ℕ) → IsRead log file → NoRecord (last_check HEADER log.records) (drop log.len file)
no_record_read log file r = not_standing (last_check HEADER log.records) (drop log.len file) (ap (λ (c : List ℕ). stands c (drop log.len file)) (sym r.check) ∙ r.ends)

pub no_record_damage : (at' : ℕ) (file : List ℕ) (d : IsDamage at' file) → NoRecord (last_check HEADER d.records) (drop at' file)
no_record_damage at' file d =
    elim d.damage [
      | inl f ↦ foreign_none (last_check HEADER d.records) (drop at' file) f
      | inr n ↦ not_standing (last_check HEADER d.records) (drop at' file) n.0
    ]

early_front : (records : List (List Entry)) (n : ℕ) (log : Log) → n < 8 → IsLogRead (Ok log) (take n (log_text records)) → IsFront log records n
early_front records n log lt h =
    elim h [
      | inl none ↦ record { others = records; front = ap (λ (xs : List (List Entry)). xs ++ records) (sym none.records); whole = λ next more e. omega (arith, lt, long_log (log.records ++ next ∷ [])) }
      | inr some ↦ absurd (true≢false (sym (ap has_no_header (early records n lt) ∙ front_of_header n lt) ∙ some.0))
    ]

later_front : (records : List (List Entry)) (n : ℕ) (log : Log) → 8 ≤ n → AreRecords records → IsLogRead (Ok log) (take n (log_text records)) → IsFront log records n
later_front records n log le a h =
    elim h [
      | inl none ↦ absurd (true≢false (sym none.no_header ∙ ap has_no_header (later records n le a (cut HEADER records (n - 8) a)) ∙ has_header _))
      | inr some ↦ fronted (cut HEADER records (n - 8) a) some.1
    ]
  where
    fronted : (c : Cut HEADER records (n - 8)) → IsRead log (take n (log_text records)) → IsFront log records n
    fronted c r =
        let same = same_log (take n (log_text records)) c.front c.rest log.records log.len (later records n le a c) c.are (not_standing (last_check HEADER c.front) c.rest (part_not_right (last_check HEADER c.front) c.others c.rest c.part)) r.stand (no_record_read log (take n (log_text records)) r) in
        record {
          others = c.others;
          front = c.is ∙ ap (λ (xs : List (List Entry)). xs ++ c.others) (sym same.0);
          whole = λ next more e. whole c (sym same.0) next more e;
        }
      where
        whole : (c : Cut HEADER records (n - 8)) → c.front ≡ log.records → (next : List Entry) (more : List (List Entry)) → c.others ≡ next ∷ more → n < length (log_text (log.records ++ next ∷ []))
        whole c same next more e =
            let part : IsPart (last_check HEADER c.front) (next ∷ more) c.rest = subst (λ (xs : List (List Entry)). IsPart (last_check HEADER c.front) xs c.rest) e c.part in
            let size : length (log_text (c.front ++ next ∷ [])) ≡ 8 + length (text_behind HEADER c.front) + length (framed (last_check HEADER c.front) (body_bytes next)) = ap length (log_more c.front next) ∙ omega (arith, length-append (log_text c.front) (framed (last_check HEADER c.front) (body_bytes next)), length-append HEADER (text_behind HEADER c.front)) in
            subst (λ (xs : List (List Entry)). n < length (log_text (xs ++ next ∷ []))) same (omega (arith, le, size, c.place next more e, part.1))

pub cut_logs_are_fronts : (records : List (List Entry)) (n : ℕ) (log : Log) → AreRecords records → IsLogRead (Ok log) (take n (log_text records)) → IsFront log records n
cut_logs_are_fronts records n log a h = elim (cases_lt n 8) [ inl lt ↦ early_front records n log lt h | inr le ↦ later_front records n log le a h ]

early_none : (records : List (List Entry)) (n at' : ℕ) → n < 8 → IsLogRead (Err (Damaged at')) (take n (log_text records)) → true ≡ false
early_none records n at' lt h =
    elim h [
      | inl other ↦ sym (ap has_no_header (early records n lt) ∙ front_of_header n lt) ∙ other.some_header
      | inr d ↦ absurd (omega (arith, lt, long_log d.records, ap length d.stand.text, length-take at' (take n (log_text records)), length-take n (log_text records)))
    ]

later_held : (records : List (List Entry)) (n at' : ℕ) → 8 ≤ n → AreRecords records → IsLogRead (Err (Damaged at')) (take n (log_text records)) → holds_record (drop (at' - 7) (take n (log_text records))) ≡ true
later_held records n at' le a h =
    elim h [
      | inl other ↦ absurd (true≢false (headed (cut HEADER records (n - 8) a) other.other))
      | inr d ↦ held (cut HEADER records (n - 8) a) d
    ]
  where
    headed : (c : Cut HEADER records (n - 8)) → bytes_eq HEADER (take 8 (take n (log_text records))) ≡ false → true ≡ false
    headed c e = sym (ap (λ (x : List ℕ). bytes_eq HEADER (take 8 x)) (later records n le a c) ∙ same_header (text_behind HEADER c.front ++ c.rest)) ∙ e

    held : (c : Cut HEADER records (n - 8)) → IsDamage at' (take n (log_text records)) → holds_record (drop (at' - 7) (take n (log_text records))) ≡ true
    held c d =
        let part = part_not_right (last_check HEADER c.front) c.others c.rest c.part in
        let same = same_log (take n (log_text records)) c.front c.rest d.records at' (later records n le a c) c.are (not_standing (last_check HEADER c.front) c.rest part) d.stand (no_record_damage at' (take n (log_text records)) d) in
        let none : stands (last_check HEADER d.records) (drop at' (take n (log_text records))) ≡ false = ap (λ (xs : List (List Entry)). stands (last_check HEADER xs) (drop at' (take n (log_text records)))) same.0 ∙ ap (stands (last_check HEADER c.front)) same.1 ∙ part in
        elim d.damage [
          | inl f ↦ absurd (true≢false (sym f.stands ∙ none))
          | inr t ↦ torn_or_held at' (take n (log_text records)) t.1 (ap is_cut_short same.1 ∙ part_short (last_check HEADER c.front) c.others c.rest c.part)
        ]

pub cuts_are_no_damage : (records : List (List Entry)) (n at' : ℕ) → AreRecords records → IsLogRead (Err (Damaged at')) (take n (log_text records)) → holds_record (drop (at' - 7) (take n (log_text records))) ≡ true
cuts_are_no_damage records n at' a h = elim (cases_lt n 8) [ inl lt ↦ absurd (true≢false (early_none records n at' lt h)) | inr le ↦ later_held records n at' le a h ]
