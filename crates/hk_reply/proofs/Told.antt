-- What reading a reply gives, by the texts of replies.
use Rattle.std.proofs.Common.{◌≡◌, ℕ, suc, ◌+◌, ◌-◌, ◌≤◌, List, [], ◌∷◌, ◌++◌, length, take, refl, ap, ◌∙◌, sym, arith, subst, append_assoc, append-nil, length-append}
use Rattle.std.specs.Prelude.{Ok, Err}
use Rattle.hk_reply.specs.declared.scan.Stop.{Stop}
use Rattle.hk_reply.specs.declared.scan.Stop.TheVariants.{Need, Bad}
use Rattle.hk_reply.specs.declared.read.ReplyFault.TheVariants as fault
use Rattle.hk_reply.specs.declared.reply.Reply.{Reply}
use Rattle.hk_reply.specs.Reading.{reply_at}
use Rattle.hk_reply.specs.Texts.{text_of}
use Rattle.hk_reply.specs.Replies.{IsPlain, IsText, IsFault}
use Rattle.hk_reply.specs.Stops.{Begins}
use Rattle.hk_reply.proofs.Exact.{ok_not_err}
use Rattle.hk_reply.proofs.Simple.{both_are, take_all}
use Rattle.hk_reply.proofs.Whole.{reply_read}

pub ok_within : (bytes rest : List ℕ) (r : Reply) → reply_at bytes ≡ Ok (r, rest) → length rest ≤ length bytes
ok_within bytes rest r h = let t = (reply_read.exact (suc (length bytes))).found bytes r rest (omega arith) h in let e = ap length t.2 in grind (arith, length-append, e)

pub bad_within : (bytes : List ℕ) (left : ℕ) → reply_at bytes ≡ Err (Bad left) → left ≤ length bytes
bad_within bytes left h = let st = (reply_read.exact (suc (length bytes))).bad bytes left (omega arith) h in let e = ap length st.is in let a = st.at in grind (arith, length-append, e, a)

taken : (n : ℕ) (bytes front back : List ℕ) → bytes ≡ front ++ back → n ≡ length front → take n bytes ≡ front
taken n bytes front back e h = rw (e, h) (take_all front back)

pub read_ok : (bytes rest : List ℕ) (r : Reply) → reply_at bytes ≡ Ok (r, rest) → (length bytes - length rest ≤ length bytes) × IsText r (take (length bytes - length rest) bytes)
read_ok bytes rest r h =
    let t = (reply_read.exact (suc (length bytes))).found bytes r rest (omega arith) h in
    let e = ap length t.2 in
    let n : length bytes - length rest ≡ length t.0 = grind (arith, length-append, e) in
    (omega arith, subst (λ z. IsText r z) (sym (taken (length bytes - length rest) bytes t.0 rest t.2 n)) t.1)

pub read_need : (bytes : List ℕ) → reply_at bytes ≡ Err Need → IsFault fault.Need bytes
read_need bytes h =
    let g = (reply_read.exact (suc (length bytes))).need bytes (omega arith) h in
    (g.0, g.1, (λ e. not_whole g.0 g.1 g.2 e), g.2)
  where
    not_whole : (r : Reply) (more : List ℕ) → IsText r (bytes ++ more) → more ≡ [] → ⊥
    not_whole r more q e =
        let w : IsText r bytes = subst (λ z. IsText r z) (append-nil bytes) (subst (λ z. IsText r (bytes ++ z)) e q) in
        let a : reply_at (bytes ++ []) ≡ Ok (r, []) = (reply_read.exact (suc (length (bytes ++ [])))).again r bytes [] (omega arith) w in
        ok_not_err (reply_at bytes) (r, []) Need (ap reply_at (sym (append-nil bytes)) ∙ a) h

pub read_bad : (bytes : List ℕ) (left : ℕ) → reply_at bytes ≡ Err (Bad left) → IsFault (fault.Bad (length bytes - left)) bytes
read_bad bytes left h =
    let st = (reply_read.exact (suc (length bytes))).bad bytes left (omega arith) h in
    let e = ap length st.is in
    let a = st.at in
    let n : length bytes - left ≡ length st.front = grind (arith, length-append, e, a) in
    let m : length bytes - left + 1 ≡ length (st.front ++ st.bad ∷ []) = grind (arith, length-append, n) in
    let f = taken (length bytes - left) bytes st.front (st.bad ∷ st.back) st.is n in
    let g = taken (length bytes - left + 1) bytes (st.front ++ st.bad ∷ []) st.back (st.is ∙ sym (append_assoc st.front (st.bad ∷ []) st.back)) m in
    (grind (arith, length-append, e, a), subst (λ z. Begins IsText z) (sym f) st.goes, (λ k. st.ends (subst (λ z. Begins IsText z) g k)))

pub read_as : (bytes rest : List ℕ) (r : Reply) → IsPlain r → bytes ≡ text_of r ++ rest → reply_at bytes ≡ Ok (r, rest)
read_as bytes rest r p e = ap reply_at e ∙ (reply_read.exact (suc (length (text_of r ++ rest)))).again r (text_of r) rest (omega arith) (p, refl)

-- the length that is told
pair_made : (a b : Reply) (m n : ℕ) → a ≡ b → m ≡ n → ◌≡◌ {A = Reply × ℕ} (a, m) (b, n)
pair_made a b m n p q = rw (p, q) refl

pub told_length : (bytes rest more : List ℕ) (r s : Reply) → reply_at bytes ≡ Ok (r, rest) → IsPlain s → bytes ≡ text_of s ++ more → ◌≡◌ {A = Reply × ℕ} (r, length bytes - length rest) (s, length (text_of s))
told_length bytes rest more r s h p e =
    let w = both_are (reply_at bytes) r s rest more h (read_as bytes more s p e) in
    let l = ap length w.1 in
    let k = ap length e in
    pair_made r s (length bytes - length rest) (length (text_of s)) w.0 (grind (arith, length-append, k, l))

pub not_stopped : (bytes more : List ℕ) (s : Reply) (stop : Stop) → reply_at bytes ≡ Err stop → IsPlain s → bytes ≡ text_of s ++ more → ⊥
not_stopped bytes more s stop h p e = ok_not_err (reply_at bytes) (s, more) stop (read_as bytes more s p e) h
