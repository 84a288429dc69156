-- That a body is read as the entries that have its bytes.
use Rattle.std.proofs.Common.{true≢false, true, false, ◌≡◌, ℕ, ◌<◌, ◌≤◌, List, [], ◌∷◌, ◌++◌, length, Result, Ok, Err, refl, sym, ap, ◌∙◌, append_assoc, arith}
use Rattle.std.specs.List.{AllByRecursion}
use Rattle.std.proofs.lemmas.List.{append-nil, length-append}
use Rattle.std.proofs.lemmas.List.Concat.{flat_map-cons}
use Rattle.hk_fields.specs.declared.fault.FieldFault.{FieldFault}
use Rattle.hk_fields.specs.declared.fault.FieldFault.TheVariants as faults
use Rattle.hk_fields.specs.Fields.{Fails}
use Rattle.hk_fields.proofs.Exact.{IsBytes, ok_is}
use Rattle.hk_log.specs.declared.entry.Entry.{Entry}
use Rattle.hk_log.specs.Entries.{entry_fields, entry_bytes, IsEntry}
use Rattle.hk_log.specs.Fields.{entry_at}
use Rattle.std.specs.Prelude.{All}
use Rattle.std.proofs.lemmas.List.Elements.{recursion_from_All}
use Rattle.hk_log.specs.declared.checks.TheConstants.{MAX_BODY_LEN}
use Rattle.hk_log.specs.Records.{body_bytes, IsRecord}
use Rattle.hk_log.specs.Reading.{IsBodyRead}
use Rattle.hk_log.proofs.Entries.{entry_exact}

abbrev pub Are : List Entry → Type 0
Are entries = AllByRecursion IsEntry entries

abbrev found : Entry × List ℕ → Result (Entry × List ℕ) FieldFault
found x = Ok x

cons_body : (e : Entry) (es : List Entry) (rest : List ℕ) → body_bytes (e ∷ es) ++ rest ≡ entry_bytes e ++ (body_bytes es ++ rest)
cons_body e es rest = ap (λ (t : List ℕ). t ++ rest) (flat_map-cons entry_bytes e es) ∙ append_assoc (entry_bytes e) (body_bytes es) rest

read_first : (e : Entry) (es : List Entry) (rest : List ℕ) → IsEntry e → entry_at (body_bytes (e ∷ es) ++ rest) ≡ Ok (e, body_bytes es ++ rest)
read_first e es rest f = ap entry_at (cons_body e es rest) ∙ entry_exact.again e (body_bytes es ++ rest) f

pub no_cons : (e : Entry) (es : List Entry) (rest : List ℕ) → body_bytes (e ∷ es) ++ rest ≡ [] → true ≡ false
no_cons e es rest h =
    let all : entry_bytes e ++ (body_bytes es ++ rest) ≡ [] = sym (cons_body e es rest) ∙ h in
    absurd cc

pub snoc : (es : List Entry) (e : Entry) → Are es → IsEntry e → Are (es ++ e ∷ [])
snoc [] e a f = (f, tt)
snoc (x ∷ es) e a f = (a.0, snoc es e a.1 f)

pub snoc_bytes : (es : List Entry) (e : Entry) (rest : List ℕ) → body_bytes es ++ (entry_bytes e ++ rest) ≡ body_bytes (es ++ e ∷ []) ++ rest
snoc_bytes [] e rest = sym (cons_body e [] rest)
snoc_bytes (x ∷ es) e rest = cons_body x es (entry_bytes e ++ rest) ∙ ap (λ (t : List ℕ). entry_bytes x ++ t) (snoc_bytes es e rest) ∙ sym (cons_body x (es ++ e ∷ []) rest)

-- entries that stand in front of entries
pub record GoesOn (xs ys : List Entry) (rest : List ℕ) : Type 0 where
  pub others : List Entry
  pub is : ys ≡ xs ++ others
  pub are : Are others
  pub text : rest ≡ body_bytes others

pub fronts : (xs ys : List Entry) (rest : List ℕ) → Are xs → Are ys → body_bytes xs ++ rest ≡ body_bytes ys → GoesOn xs ys rest
fronts [] ys rest a b e = record { others = ys; is = refl; are = b; text = e }
fronts (x ∷ xs) [] rest a b e = absurd (true≢false (no_cons x xs rest e))
fronts (x ∷ xs) (y ∷ ys) rest a b e =
    let here = read_first x xs rest a.0 in
    let there = read_first y ys [] b.0 in
    let same = ok_is (x, body_bytes xs ++ rest) (y, body_bytes ys ++ []) (sym here ∙ ap entry_at (e ∙ sym (append-nil (body_bytes (y ∷ ys)))) ∙ there) in
    let first : x ≡ y = ap (λ (p : Entry × List ℕ). p.0) same in
    let behind : body_bytes xs ++ rest ≡ body_bytes ys = ap (λ (p : Entry × List ℕ). p.1) same ∙ append-nil (body_bytes ys) in
    let r = fronts xs ys rest a.1 b.1 behind in
    record { others = r.others; is = ap (λ (z : Entry). z ∷ ys) (sym first) ∙ ap (λ (zs : List Entry). x ∷ zs) r.is; are = r.are; text = r.text }

-- ---- the loop

pub record SoFar (entries : List Entry) (body rest : List ℕ) : Type 0 where
  pub are : Are entries
  pub text : body ≡ body_bytes entries ++ rest
  pub bytes : IsBytes rest

pub goes_on : (entries : List Entry) (body rest : List ℕ) (e : Entry) (after : List ℕ) → SoFar entries body rest → entry_at rest ≡ Ok (e, after) → SoFar (entries ++ e ∷ []) body after × (length after < length rest)
goes_on entries body rest e after s h =
    let t = entry_exact.takes rest e after s.bytes h in (
      record { are = snoc entries e s.are t.1; text = s.text ∙ ap (λ (x : List ℕ). body_bytes entries ++ x) t.0.parts ∙ snoc_bytes entries e after; bytes = t.0.rest_fits },
      omega (arith, ap length t.0.parts, length-append (entry_fields e) after),
    )

differ : (x : Entry × List ℕ) → found x ≡ Err faults.Malformed → true ≡ false
differ x e = absurd cc

no_entry : (rest : List ℕ) (others : List Entry) → entry_at rest ≡ Err faults.Malformed → 1 ≤ length rest → Are others → rest ≡ body_bytes others → true ≡ false
no_entry rest [] h some a e = absurd (omega (arith, some, ap length e))
no_entry rest (x ∷ others) h some a e =
    let read : entry_at rest ≡ Ok (x, body_bytes others ++ []) = ap entry_at (e ∙ sym (append-nil (body_bytes (x ∷ others)))) ∙ read_first x others [] a.0 in
    differ (x, body_bytes others ++ []) (sym read ∙ h)

pub stops : (fault : FieldFault) (entries : List Entry) (body rest : List ℕ) → SoFar entries body rest → 1 ≤ length rest → Fails fault (entry_at rest) → IsBodyRead (Err fault) body
stops faults.Memory entries body rest s some h = tt
stops faults.Malformed entries body rest s some h = λ all are e.
    (let r = fronts entries all rest s.are are (sym s.text ∙ e) in
    absurd (true≢false (no_entry rest r.others h some r.are r.text)))

pub ends : (entries : List Entry) (body rest : List ℕ) → SoFar entries body rest → rest ≡ [] → Are entries × (body ≡ body_bytes entries)
ends entries body rest s e = (s.are, s.text ∙ ap (λ (x : List ℕ). body_bytes entries ++ x) e ∙ append-nil (body_bytes entries))

pub begins : (body : List ℕ) → IsBytes body → SoFar [] body body
begins body fits = record { are = tt; text = refl; bytes = fits }

-- entries that were printed are a record
pub record_is : (entries : List Entry) → 1 ≤ length entries → All IsEntry entries → length (body_bytes entries) ≤ MAX_BODY_LEN → IsRecord entries
record_is [] some are short = absurd (omega (arith, some))
record_is (e ∷ es) some are short = record { each = recursion_from_All IsEntry (e ∷ es) are; some = omega (arith, ap length (flat_map-cons entry_bytes e es), length-append (entry_fields e) (body_bytes es)); short = short }
