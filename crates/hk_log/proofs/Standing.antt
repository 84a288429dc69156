-- Records that stand up to a place of a file, one more each time.
use Rattle.std.proofs.Common.{◌≡◌, ℕ, ◌+◌, ◌≤◌, true, List, [], ◌∷◌, ◌++◌, length, take, drop, refl, sym, ap, ◌∙◌, append_assoc, append-nil, arith}
use Rattle.std.specs.Prelude.{bytes_eq, ◌≢◌}
use Rattle.std.proofs.lemmas.List.{take_at, take-append-drop, length-append, length-take, length-drop}
use Rattle.std.proofs.lemmas.Slice.Eq.{bytes_eq-Decides}
use Rattle.hk_fields.proofs.Exact.{IsBytes}
use Rattle.hk_log.specs.declared.checks.TheConstants.{HEADER}
use Rattle.hk_log.specs.declared.entry.Entry.{Entry}
use Rattle.hk_log.specs.declared.scan.NextRecord.{NextRecord}
use Rattle.hk_log.specs.Records.{check_of, framed, body_bytes, IsRecord, AreRecords, text_behind, last_check, log_text, starts_behind, record_starts}
use Rattle.hk_log.specs.Logs.{told_length, stands, Stand, IsForeign, IsNextRecord}
use Rattle.hk_log.proofs.Bodies.{Are}
use Rattle.hk_log.proofs.Framing.{length_framed, told_body, right}

pub records_snoc : (records : List (List Entry)) (r : List Entry) → AreRecords records → IsRecord r → AreRecords (records ++ r ∷ [])
records_snoc [] r a f = (f, tt)
records_snoc (x ∷ records) r a f = (a.0, records_snoc records r a.1 f)

text_more : (before : List ℕ) (records : List (List Entry)) (r : List Entry) → text_behind before (records ++ r ∷ []) ≡ text_behind before records ++ framed (last_check before records) (body_bytes r)
text_more before [] r = append-nil (framed before (body_bytes r))
text_more before (x ∷ records) r = ap (λ (t : List ℕ). framed before (body_bytes x) ++ t) (text_more (check_of before (body_bytes x)) records r) ∙ sym (append_assoc (framed before (body_bytes x)) (text_behind (check_of before (body_bytes x)) records) (framed (last_check (check_of before (body_bytes x)) records) (body_bytes r)))

pub check_more : (before : List ℕ) (records : List (List Entry)) (r : List Entry) → last_check before (records ++ r ∷ []) ≡ check_of (last_check before records) (body_bytes r)
check_more before [] r = refl
check_more before (x ∷ records) r = check_more (check_of before (body_bytes x)) records r

pub log_more : (records : List (List Entry)) (r : List Entry) → log_text (records ++ r ∷ []) ≡ log_text records ++ framed (last_check HEADER records) (body_bytes r)
log_more records r = ap (λ (t : List ℕ). HEADER ++ t) (text_more HEADER records r) ∙ sym (append_assoc HEADER (text_behind HEADER records) (framed (last_check HEADER records) (body_bytes r)))

starts_snoc : (place : ℕ) (before : List ℕ) (records : List (List Entry)) (r : List Entry) → starts_behind place before (records ++ r ∷ []) ≡ starts_behind place before records ++ (place + length (text_behind before records)) ∷ []
starts_snoc place before [] r =
    let e : place ≡ place + length {A = ℕ} [] = omega arith in
    ap (λ (n : ℕ). n ∷ []) e
starts_snoc place before (x ∷ records) r =
    let frame = framed before (body_bytes x) in
    let text = text_behind (check_of before (body_bytes x)) records in
    let e : (place + length frame) + length text ≡ place + length (frame ++ text) = omega (arith, length-append frame text) in
    ap (λ (t : List ℕ). place ∷ t) (starts_snoc (place + length frame) (check_of before (body_bytes x)) records r ∙ ap (λ (n : ℕ). starts_behind (place + length frame) (check_of before (body_bytes x)) records ++ n ∷ []) e)

-- one record more begins where those before it end
starts_more : (records : List (List Entry)) (r : List Entry) → record_starts (records ++ r ∷ []) ≡ record_starts records ++ length (log_text records) ∷ []
starts_more records r =
    let e : length HEADER + length (text_behind HEADER records) ≡ length (log_text records) = sym (length-append HEADER (text_behind HEADER records)) in
    starts_snoc (length HEADER) HEADER records r ∙ ap (λ (n : ℕ). record_starts records ++ n ∷ []) e

take_both : (i j : ℕ) (bytes : List ℕ) → i + j ≤ length bytes → take (i + j) bytes ≡ take i bytes ++ take j (drop i bytes)
take_both i j bytes le =
    let parts : bytes ≡ (take i bytes ++ take j (drop i bytes)) ++ drop j (drop i bytes) = sym (append_assoc (take i bytes) (take j (drop i bytes)) (drop j (drop i bytes)) ∙ ap (λ (x : List ℕ). take i bytes ++ x) (take-append-drop j (drop i bytes)) ∙ take-append-drop i bytes) in
    let len : length (take i bytes ++ take j (drop i bytes)) ≡ i + j = omega (arith, length-append (take i bytes) (take j (drop i bytes)), length-take i bytes, length-take j (drop i bytes), length-drop i bytes) in
    ap (take (i + j)) parts ∙ take_at (take i bytes ++ take j (drop i bytes)) (drop j (drop i bytes)) (i + j) len

-- what a loop over the records has come to
pub record Scanned (records : List (List Entry)) (begins : List ℕ) (check : List ℕ) (place : ℕ) (file : List ℕ) : Type 0 where
  pub stand : Stand records place file
  pub starts : begins ≡ record_starts records
  pub is : check ≡ last_check HEADER records
  pub low : 8 ≤ place
  pub high : place ≤ length file

pub first : (file : List ℕ) → 8 ≤ length file → bytes_eq HEADER (take 8 file) ≡ true → Scanned [] [] HEADER 8 file
first file long h = record {
  stand = record { are = tt; text = sym ((bytes_eq-Decides HEADER (take 8 file)).0 h) ∙ sym (append-nil HEADER); ends = refl };
  starts = refl;
  is = refl;
  low = omega arith;
  high = long;
}

-- one record more, and the file is not used up by less
pub more : (records : List (List Entry)) (begins : List ℕ) (check : List ℕ) (place : ℕ) (file : List ℕ) (next : NextRecord) → Scanned records begins check place file → IsNextRecord next check (drop place file)
    → Scanned (records ++ next.entries ∷ []) (begins ++ place ∷ []) next.check.0 (place + next.len) file × (1 ≤ next.len)
more records begins check place file next s n =
    let check' = last_check HEADER records in
    let frame = framed check (body_bytes next.entries) in
    let len : length (framed check (body_bytes next.entries)) ≡ next.len = sym n.len in
    let rest : drop place file ≡ framed check (body_bytes next.entries) ++ drop next.len (drop place file) = n.text in
    let long : place + next.len ≤ length file = omega (arith, ap length rest, length-append (framed check (body_bytes next.entries)) (drop next.len (drop place file)), len, length-drop place file, s.high) in
    let own : take next.len (drop place file) ≡ framed check (body_bytes next.entries) = ap (take next.len) rest ∙ take_at (framed check (body_bytes next.entries)) (drop next.len (drop place file)) next.len len in
    let text : take (place + next.len) file ≡ log_text (records ++ next.entries ∷ []) = take_both place next.len file long ∙ ap (λ (x : List ℕ). x ++ take next.len (drop place file)) s.stand.text ∙ ap (λ (x : List ℕ). log_text records ++ x) own ∙ ap (λ (x : List ℕ). log_text records ++ framed x (body_bytes next.entries)) s.is ∙ sym (log_more records next.entries) in (
      record {
        stand = record { are = records_snoc records next.entries s.stand.are n.is; text = text; ends = omega (arith, ap length text, length-take (place + next.len) file, long) };
        starts = ap (λ (xs : List ℕ). xs ++ place ∷ []) s.starts ∙ ap (λ (m : ℕ). record_starts records ++ m ∷ []) s.stand.ends ∙ sym (starts_more records next.entries);
        is = n.check ∙ ap (λ (x : List ℕ). check_of x (body_bytes next.entries)) s.is ∙ sym (check_more HEADER records next.entries);
        low = omega (arith, s.low);
        high = long;
      },
      omega (arith, len, length_framed check (body_bytes next.entries)),
    )

-- ---- one record

pub next_is : (before rest : List ℕ) (next : NextRecord) → IsBytes rest → stands before rest ≡ true → Are next.entries → told_body rest ≡ body_bytes next.entries → next.len ≡ 12 + told_length rest → next.check.0 ≡ check_of before (told_body rest) → IsNextRecord next before rest
next_is before rest next fits h are body len check =
    let r = right before rest fits h in
    record {
      is = record { each = are; some = omega (arith, ap length body, r.body.some); short = omega (arith, ap length body, r.body.short) };
      text = r.text ∙ ap (λ (x : List ℕ). framed before x ++ drop (12 + told_length rest) rest) body ∙ ap (λ (n : ℕ). framed before (body_bytes next.entries) ++ drop n rest) (sym len);
      len = omega (arith, len, r.len, ap length body, length_framed before (body_bytes next.entries));
      check = check ∙ ap (check_of before) body;
    }

pub foreign : (before rest : List ℕ) → stands before rest ≡ true → ((entries : List Entry) → Are entries → told_body rest ≢ body_bytes entries) → IsForeign before rest
foreign before rest h none = record { stands = h; foreign = λ r f. none r f.each }
