-- One record more, behind those that are sure.
use Rattle.std.proofs.Common.{◌≡◌, ℕ, List, [], ◌∷◌, ◌++◌, Result, Ok, Err, sym, ap, subst, ◌∙◌}
use Rattle.std.specs.Prelude.{OnOk}
use Rattle.hk_log.specs.declared.checks.Check.{Check}
use Rattle.hk_log.specs.declared.checks.TheConstants.{HEADER}
use Rattle.hk_log.specs.declared.entry.Entry.{Entry}
use Rattle.hk_log.specs.Records.{check_of, framed, body_bytes, IsRecord, log_text}
use Rattle.hk_log.proofs.Standing.{records_snoc, log_more, check_more}
use Rattle.hk_disk.specs.Writing.{IsSureLog}

module _ {F A E : Type 0} (holds is_sure : F → List ℕ → Type 0) (old new : F) (check new_check own : Check) (printed : List ℕ) (entries : List Entry) where
  pub sure_more : (r : Result A E) → (printed ≡ framed check.0 (body_bytes entries)) × (own.0 ≡ check_of check.0 (body_bytes entries)) × IsRecord entries
      → OnOk r (((bytes : List ℕ) → holds old bytes → holds new (bytes ++ printed) × is_sure new (bytes ++ printed)) × (new_check ≡ own))
      → OnOk r ((records : List (List Entry)) → IsSureLog holds is_sure old check.0 records → IsSureLog holds is_sure new new_check.0 (records ++ entries ∷ []))
  sure_more (Ok a) p w = λ records s.
      (let text : log_text records ++ printed ≡ log_text (records ++ entries ∷ []) = ap (λ (x : List ℕ). log_text records ++ x) (p.0 ∙ ap (λ (c : List ℕ). framed c (body_bytes entries)) s.last) ∙ sym (log_more records entries) in
      let both = w.0 (log_text records) s.held in
      record {
        are = records_snoc records entries s.are p.2;
        held = subst (holds new) text both.0;
        sure = subst (is_sure new) text both.1;
        last = ap (λ (c : Check). c.0) w.1 ∙ p.1 ∙ ap (λ (c : List ℕ). check_of c (body_bytes entries)) s.last ∙ sym (check_more HEADER records entries);
      })
  sure_more (Err e) p w = tt
