-- That a changed byte of a record in front of a whole one is told.
use Rattle.std.proofs.Common.{true≢false, ◌≡◌, ℕ, ◌+◌, ◌-◌, ◌<◌, ◌≤◌, Bool, true, false, cond, ltb, List, [], ◌∷◌, ◌++◌, length, take, drop, set, Result, Ok, Err, refl, sym, ap, ◌∙◌, append_assoc, append-nil, arith, inl, inr}
use Rattle.std.specs.Prelude.{bytes_eq, not, ◌&&◌, ◌==◌}
use Rattle.std.specs.Int.{w32, to_be_bytes, from_be_bytes}
use Rattle.std.proofs.lemmas.Bool.{cases_lt, le-ltb, eqb-true}
use Rattle.std.proofs.lemmas.List.{take_at, drop_at, take-append-drop, take-append-le, drop-append-le, drop-set-lt, take-set-le, length-set, length-append}
use Rattle.hk_log.specs.declared.checks.TheConstants.{HEADER, MAX_BODY_LEN}
use Rattle.hk_log.specs.declared.entry.Entry.{Entry}
use Rattle.hk_log.specs.declared.fault.LogFault.{LogFault}
use Rattle.hk_log.specs.declared.fault.LogFault.TheVariants.{Memory, Damaged}
use Rattle.hk_log.specs.declared.scan.Log.{Log}
use Rattle.hk_log.specs.Records.{check_of, framed, body_bytes, IsRecord, AreRecords, text_behind, last_check, log_text}
use Rattle.hk_log.specs.Logs.{told_length, stands, stands_behind, holds_record, is_blank, ends_early, is_cut_short, is_torn, has_no_header, IsRead, IsLogRead}
use Rattle.hk_log.specs.Laws.{IsDamagedAt, changed_text}
use Rattle.hk_log.proofs.Framing.{IsBody, length_check, length_framed, told_framed, stands_framed}
use Rattle.hk_log.proofs.Holding.{holds_at}
use Rattle.hk_log.proofs.Fronts.{body_of, not_standing, same_log}
use Rattle.hk_log.proofs.Cuts.{is_false, has_header, same_header, no_record_read, no_record_damage}

-- ---- zeros

and_true : (a b : Bool) → a && b ≡ true → (a ≡ true) × (b ≡ true)
and_true true b e = (refl, e)
and_true false b e = absurd cc

blank_behind : (a b : List ℕ) → is_blank (a ++ b) ≡ true → is_blank b ≡ true
blank_behind [] b e = e
blank_behind (x ∷ a) b e = blank_behind a b (and_true (x == 0) (is_blank (a ++ b)) e).1

blank_told : (x : List ℕ) → 4 ≤ length x → is_blank x ≡ true → told_length x ≡ 0
blank_told [] le e = absurd (omega (arith, le))
blank_told (a ∷ []) le e = absurd (omega (arith, le))
blank_told (a ∷ b ∷ []) le e = absurd (omega (arith, le))
blank_told (a ∷ b ∷ c ∷ []) le e = absurd (omega (arith, le))
blank_told (a ∷ b ∷ c ∷ d ∷ x) le e =
    let p = and_true (a == 0) (is_blank (b ∷ c ∷ d ∷ x)) e in
    let q = and_true (b == 0) (is_blank (c ∷ d ∷ x)) p.1 in
    let r = and_true (c == 0) (is_blank (d ∷ x)) q.1 in
    let s = and_true (d == 0) (is_blank x) r.1 in
    let ea : a ≡ 0 = eqb-true a 0 p.0 in
    let eb : b ≡ 0 = eqb-true b 0 q.0 in
    let ec : c ≡ 0 = eqb-true c 0 r.0 in
    let ed : d ≡ 0 = eqb-true d 0 s.0 in
    rw (ea, eb, ec, ed) refl

not_blank : (check body rest : List ℕ) → IsBody body → is_blank (framed check body ++ rest) ≡ false
not_blank check body rest b = is_false (is_blank (framed check body ++ rest)) (λ e.
    absurd (omega (arith, b.some, told_framed check body rest b, blank_told (framed check body ++ rest) (omega (arith, length-append (framed check body) rest, length_framed check body)) e)))

-- ---- the length is as it was: what stands there ends in front of the next record

skip : (b x : Bool) → b ≡ false → x ≡ false → cond b true x ≡ false
skip b x e f = rw (e, f) refl

length_stays : (check body next behind : List ℕ) (i byte : ℕ) → IsBody body → IsBody next → 4 + length body ≤ i → is_cut_short (set (framed check body) i byte ++ (framed (check_of check body) next ++ behind)) ≡ false
unfolding is_cut_short
length_stays check body next behind i byte b n le =
    let changed = set (framed check body) i byte in
    let tail = framed (check_of check body) next ++ behind in
    let size : length (set (framed check body) i byte) ≡ 12 + length body = length-set (framed check body) i byte ∙ length_framed check body in
    let blank : is_blank (framed (check_of check body) next ++ behind) ≡ false = not_blank (check_of check body) next behind n in
    let heads : take 4 (set (framed check body) i byte ++ (framed (check_of check body) next ++ behind)) ≡ take 4 (framed check body ++ []) = take-append-le 4 (set (framed check body) i byte) (framed (check_of check body) next ++ behind) (omega (arith, size)) ∙ take-set-le 4 (framed check body) i byte (omega (arith, le)) ∙ ap (take 4) (sym (append-nil (framed check body))) in
    let told : told_length (set (framed check body) i byte ++ (framed (check_of check body) next ++ behind)) ≡ length body = ap (from_be_bytes w32) heads ∙ told_framed check body [] b in
    let all : length (set (framed check body) i byte ++ (framed (check_of check body) next ++ behind)) ≡ 12 + length body + length (framed (check_of check body) next ++ behind) = omega (arith, size, length-append (set (framed check body) i byte) (framed (check_of check body) next ++ behind)) in
    let a : ltb (length (set (framed check body) i byte ++ (framed (check_of check body) next ++ behind))) 4 ≡ false = le-ltb _ _ (omega (arith, all)) in
    let front : drop 3 (set (framed check body) i byte ++ (framed (check_of check body) next ++ behind)) ≡ drop 3 (set (framed check body) i byte) ++ (framed (check_of check body) next ++ behind) = drop-append-le 3 (set (framed check body) i byte) (framed (check_of check body) next ++ behind) (omega (arith, size)) in
    let c : is_blank (drop 3 (set (framed check body) i byte ++ (framed (check_of check body) next ++ behind))) ≡ false = is_false _ (λ e. sym (blank_behind (drop 3 (set (framed check body) i byte)) (framed (check_of check body) next ++ behind) (ap is_blank (sym front) ∙ e)) ∙ blank) in
    let d : ltb (length body) 1 ≡ false = le-ltb _ _ b.some in
    let f : ltb MAX_BODY_LEN (length body) ≡ false = le-ltb _ _ b.short in
    let g : ltb (length (set (framed check body) i byte ++ (framed (check_of check body) next ++ behind))) (12 + length body) ≡ false = le-ltb _ _ (omega (arith, all)) in
    let h : is_blank (drop (12 + length body) (set (framed check body) i byte ++ (framed (check_of check body) next ++ behind))) ≡ false = ap is_blank (drop_at (set (framed check body) i byte) (framed (check_of check body) next ++ behind) (12 + length body) size) ∙ blank in
    let early : ends_early (length body) (set (framed check body) i byte ++ (framed (check_of check body) next ++ behind)) ≡ false = rw (d, f, g, h) refl in
    skip _ _ a (skip _ _ c (ap (λ (n : ℕ). ends_early n (set (framed check body) i byte ++ (framed (check_of check body) next ++ behind))) told ∙ early))

-- ---- the check is as it was: the next record stands behind it

check_stays : (log check body next behind : List ℕ) (i byte : ℕ) → 8 ≤ length log → IsBody next → i < 4 + length body → holds_record (drop (length log - 7) (log ++ (set (framed check body) i byte ++ (framed (check_of check body) next ++ behind)))) ≡ true
check_stays log check body next behind i byte low n lt =
    let own = check_of check body in
    let changed = set (framed check body) i byte in
    let tail = framed (check_of check body) next ++ behind in
    let last : drop (4 + length body) (set (framed check body) i byte) ≡ check_of check body = drop-set-lt (4 + length body) (framed check body) i byte lt ∙ ap (drop (4 + length body)) (sym (append_assoc (to_be_bytes w32 (length body)) body (check_of check body))) ∙ drop_at (to_be_bytes w32 (length body) ++ body) (check_of check body) (4 + length body) (omega (arith, length-append (to_be_bytes w32 (length body)) body)) in
    let split : set (framed check body) i byte ≡ take (4 + length body) (set (framed check body) i byte) ++ check_of check body = sym (take-append-drop (4 + length body) (set (framed check body) i byte)) ∙ ap (λ (x : List ℕ). take (4 + length body) (set (framed check body) i byte) ++ x) last in
    at (take (4 + length body) (set (framed check body) i byte)) (set (framed check body) i byte) split
  where
    behind_it : stands_behind (check_of check body ++ (framed (check_of check body) next ++ behind)) ≡ true
    behind_it =
        let size = length_check check body in
        let a : ltb (length (check_of check body ++ (framed (check_of check body) next ++ behind))) 8 ≡ false = le-ltb _ _ (omega (arith, size, length-append (check_of check body) (framed (check_of check body) next ++ behind))) in
        rw (a, take_at (check_of check body) (framed (check_of check body) next ++ behind) 8 size, drop_at (check_of check body) (framed (check_of check body) next ++ behind) 8 size) (stands_framed (check_of check body) next behind n)

    at : (front changed : List ℕ) → changed ≡ front ++ check_of check body → holds_record (drop (length log - 7) (log ++ (changed ++ (framed (check_of check body) next ++ behind)))) ≡ true
    at front changed e =
        let whole : log ++ (changed ++ (framed (check_of check body) next ++ behind)) ≡ (log ++ front) ++ (check_of check body ++ (framed (check_of check body) next ++ behind)) = ap (λ (x : List ℕ). log ++ (x ++ (framed (check_of check body) next ++ behind))) e ∙ ap (λ (x : List ℕ). log ++ x) (append_assoc front (check_of check body) (framed (check_of check body) next ++ behind)) ∙ sym (append_assoc log front (check_of check body ++ (framed (check_of check body) next ++ behind))) in
        let there : drop (length log - 7) (log ++ (changed ++ (framed (check_of check body) next ++ behind))) ≡ drop (length log - 7) (log ++ front) ++ (check_of check body ++ (framed (check_of check body) next ++ behind)) = ap (drop (length log - 7)) whole ∙ drop-append-le (length log - 7) (log ++ front) (check_of check body ++ (framed (check_of check body) next ++ behind)) (omega (arith, length-append log front)) in
        ap holds_record there ∙ holds_at (drop (length log - 7) (log ++ front)) (check_of check body ++ (framed (check_of check body) next ++ behind)) (omega (arith, length_check check body, length-append (check_of check body) (framed (check_of check body) next ++ behind))) behind_it

-- ---- so it is told

module _ (records : List (List Entry)) (r next : List Entry) (others : List (List Entry)) (i byte : ℕ) (are : AreRecords records) (f : IsRecord r) (g : IsRecord next) (wrong : stands (last_check HEADER records) (changed_text records r i byte (next ∷ others)) ≡ false) where
  abbrev there : List ℕ
  there = changed_text records r i byte (next ∷ others)

  abbrev file : List ℕ
  file = log_text records ++ changed_text records r i byte (next ∷ others)

  is_file : log_text records ++ changed_text records r i byte (next ∷ others) ≡ HEADER ++ (text_behind HEADER records ++ changed_text records r i byte (next ∷ others))
  is_file = append_assoc HEADER (text_behind HEADER records) (changed_text records r i byte (next ∷ others))

  long : 8 ≤ length (log_text records)
  long = omega (arith, length-append HEADER (text_behind HEADER records))

  not_torn : (place : ℕ) → place ≡ length (log_text records) → drop place file ≡ there → is_torn place file ≡ true → true ≡ false
  not_torn place e d t =
      elim (cases_lt i (4 + length (body_bytes r))) [
        | inl lt ↦ other_true (is_cut_short (drop place file)) (holds_record (drop (place - 7) file)) (ap (λ (n : ℕ). holds_record (drop (n - 7) file)) e ∙ check_stays (log_text records) (last_check HEADER records) (body_bytes r) (body_bytes next) (text_behind (check_of (check_of (last_check HEADER records) (body_bytes r)) (body_bytes next)) others) i byte long (body_of next g) lt) t
        | inr le ↦ other_false (is_cut_short (drop place file)) _ (ap is_cut_short d ∙ length_stays (last_check HEADER records) (body_bytes r) (body_bytes next) (text_behind (check_of (check_of (last_check HEADER records) (body_bytes r)) (body_bytes next)) others) i byte (body_of r f) (body_of next g) le) t
      ]
    where
      other_true : (s h : Bool) → h ≡ true → cond s (not h) false ≡ true → true ≡ false
      other_true true true e t = sym t
      other_true true false e t = sym e
      other_true false h e t = sym t

      other_false : (s h : Bool) → s ≡ false → cond s h false ≡ true → true ≡ false
      other_false true h e t = e
      other_false false h e t = sym t

  pub changes_are_told : (result : Result Log LogFault) → IsLogRead result (log_text records ++ changed_text records r i byte (next ∷ others)) → IsDamagedAt (length (log_text records)) result
  changes_are_told (Ok log) h =
      elim h [
        | inl none ↦ sym none.no_header ∙ ap has_no_header is_file ∙ has_header (text_behind HEADER records ++ there)
        | inr some ↦ read some.1
      ]
    where
      read : IsRead log file → true ≡ false
      read s =
          let same = same_log file records there log.records log.len is_file are (not_standing (last_check HEADER records) there wrong) s.stand (no_record_read log file s) in
          not_torn log.len (s.stand.ends ∙ ap (λ (xs : List (List Entry)). length (log_text xs)) same.0) same.1 s.torn
  changes_are_told (Err Memory) h = tt
  changes_are_told (Err (Damaged place)) h =
      elim h [
        | inl other ↦ absurd (true≢false (sym (ap (λ (x : List ℕ). bytes_eq HEADER (take 8 x)) is_file ∙ same_header (text_behind HEADER records ++ there)) ∙ other.other))
        | inr d ↦ d.stand.ends ∙ ap (λ (xs : List (List Entry)). length (log_text xs)) (same_log file records there d.records place is_file are (not_standing (last_check HEADER records) there wrong) d.stand (no_record_damage place file d)).0
      ]
