-- Tickets that rise from one to the next rise.
use Rattle.std.proofs.Common.{◌≡◌, ◌<◌, ℕ, zero, suc, List, [], ◌∷◌, Bool, true, false, ◌&&◌, Option, Some, None, refl, ap, ◌∙◌, arith, nat_lt, slice_get, if◌then◌else◌}
use Rattle.std.specs.List.{AllByRecursion, list_all}
use Rattle.std.proofs.lemmas.Bool.{ltb-true, false≢true}
use Rattle.hk_base.specs.declared.stamp.NodeId.{NodeId}
use Rattle.hk_journal.specs.declared.step_entry.JournalEntry.{JournalEntry}
use Rattle.hk_merge.specs.Merged.{JournalList, Rises, journal_or, journal_of}
use Rattle.hk_assemble.specs.Rising.{is_above, rises_above}

later : (low high : ℕ) → low < high → (entries : List JournalEntry) → AllByRecursion (λ (e : JournalEntry). high < e.ticket) entries → AllByRecursion (λ (e : JournalEntry). low < e.ticket) entries
later low high less [] all = tt
later low high less (e ∷ entries) all = (trans low high e.ticket less all.0, later low high less entries all.1)
  where
    trans : (a b n : ℕ) → a < b → b < n → a < n
    trans a b n p q = omega (arith, p, q)

rise_from : (ticket : ℕ) (entries : List JournalEntry) → rises_above (Some ticket) entries ≡ true → AllByRecursion (λ (e : JournalEntry). ticket < e.ticket) entries × Rises entries
rise_from ticket [] is = (tt, tt)
rise_from ticket (e ∷ entries) is = by_test (nat_lt ticket e.ticket) refl is (rise_from e.ticket entries)
  where
    by_test : (b : Bool) → nat_lt ticket e.ticket ≡ b → (if b then rises_above (Some e.ticket) entries else false) ≡ true →
        (rises_above (Some e.ticket) entries ≡ true → AllByRecursion (λ (x : JournalEntry). e.ticket < x.ticket) entries × Rises entries) →
        AllByRecursion (λ (x : JournalEntry). ticket < x.ticket) (e ∷ entries) × Rises (e ∷ entries)
    by_test true less more rest = ((ltb-true ticket e.ticket less, later ticket e.ticket (ltb-true ticket e.ticket less) entries (rest more).0), ((rest more).0, (rest more).1))
    by_test false less more rest = absurd (false≢true more)

rises_is : (entries : List JournalEntry) → rises_above None entries ≡ true → Rises entries
rises_is [] is = tt
rises_is (e ∷ entries) is = ((rise_from e.ticket entries is).0, (rise_from e.ticket entries is).1)

-- what is found in a list passes where all do
each_rises : (journals : JournalList) (n : ℕ) → list_all (rises_above None) journals ≡ true → Rises (journal_or (slice_get journals n))
each_rises [] n all = tt
each_rises (j ∷ journals) zero all = by_test (rises_above None j) refl all
  where
    by_test : (b : Bool) → rises_above None j ≡ b → b && list_all (rises_above None) journals ≡ true → Rises j
    by_test true is more = rises_is j is
    by_test false is more = absurd (false≢true more)
each_rises (j ∷ journals) (suc n) all = each_rises journals n (by_test (rises_above None j) all)
  where
    by_test : (b : Bool) → b && list_all (rises_above None) journals ≡ true → list_all (rises_above None) journals ≡ true
    by_test true more = more
    by_test false more = absurd (false≢true more)

pub journals_rise : (journals : JournalList) → list_all (rises_above None) journals ≡ true → (node : NodeId) → Rises (journal_of journals node)
journals_rise journals all node = each_rises journals node.0 all

-- ---- and what rises passes
rises_on : (last : Option ℕ) (entries : List JournalEntry) → AllByRecursion (λ (e : JournalEntry). is_above last e.ticket ≡ true) entries → Rises entries → rises_above last entries ≡ true
rises_on last [] above rises = refl
rises_on last (e ∷ entries) above rises =
    ap (λ (b : Bool). if b then rises_above (Some e.ticket) entries else false) above.0 ∙ rises_on (Some e.ticket) entries (tested e.ticket entries rises.0) rises.1
  where
    tested : (low : ℕ) (es : List JournalEntry) → AllByRecursion (λ (x : JournalEntry). low < x.ticket) es → AllByRecursion (λ (x : JournalEntry). is_above (Some low) x.ticket ≡ true) es
    tested low [] all = tt
    tested low (x ∷ es) all = (less_is low x.ticket all.0, tested low es all.1)
      where
        less_is : (a b : ℕ) → a < b → nat_lt a b ≡ true
        less_is a b less = grind arith

rises_first : (entries : List JournalEntry) → Rises entries → rises_above None entries ≡ true
rises_first entries rises = rises_on None entries (any entries) rises
  where
    any : (es : List JournalEntry) → AllByRecursion (λ (x : JournalEntry). is_above None x.ticket ≡ true) es
    any [] = tt
    any (x ∷ es) = (refl, any es)

all_pass : (journals : JournalList) → ((n : ℕ) → Rises (journal_or (slice_get journals n))) → list_all (rises_above None) journals ≡ true
all_pass [] rises = refl
all_pass (j ∷ journals) rises = ap (λ (b : Bool). b && list_all (rises_above None) journals) (rises_first j (rises 0)) ∙ all_pass journals (λ n. rises (suc n))

pub rising_journals : (journals : JournalList) → ((node : NodeId) → Rises (journal_of journals node)) → list_all (rises_above None) journals ≡ true
rising_journals journals rises = all_pass journals (λ n. rises (record { 0 = n }))
