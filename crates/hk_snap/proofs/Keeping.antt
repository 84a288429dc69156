-- Each step of a cell keeps its rule.
use Rattle.std.proofs.Common.{◌≡◌, ◌≢◌, ℕ, zero, suc, ◌+◌, nat_lt, if◌then◌else◌, List, [], ◌∷◌, ◌++◌, length, set, Option, Bool, true, false, true≢false, refl, sym, ap, ◌∙◌, subst, ⊎_elim}
use Rattle.std.specs.List.{AllByRecursion}
use mathlib.Core.Option.{some, some-ne-none, some-injective}
use mathlib.Core.List.{IsPrefix}
use lib.ListN.{get_elem?}
use Rattle.crossbeam_utils.specs.Register.{Turns, Forks, Merges}
use Rattle.atomic_table.proofs.Lists.{at_set, at_snoc}
use Rattle.hk_snap.specs.declared.rule.Publication.{Publication}
use Rattle.hk_snap.specs.declared.rule.Knowledge.{Knowledge}
use Rattle.hk_snap.specs.declared.snapshot.Snapshot.{Snapshot}
use Rattle.hk_seq.specs.Steps.{over}
use Rattle.hk_snap.specs.Snapshots.{last_shown, snapshot_of, IsNext, IsRising}
use Rattle.hk_snap.specs.Layout.{words_of, words_at, no_words}
use Rattle.hk_snap.specs.Rule.{reader, opening, joined, met, claimed, with_published, IsInRange, Fits, Kept, Adds, Loaded, Compared}
use Rattle.hk_snap.proofs.Prefixes.{prefix_self, prefix_more}
use Rattle.hk_snap.proofs.Shows.{last_of_more, rising_more, in_range_more}
use Rattle.hk_snap.proofs.Using.{stored}

off : false ≡ true → ⊥
off e = true≢false (sym e)

-- a knowledge put in one seat
fits_set : (seat : ℕ) (now : List Publication) (views : List Knowledge) (by : ℕ) (w : Knowledge) → ((j : ℕ) (u : Knowledge) → j ≢ by → get_elem? views j ≡ some u → Fits seat now j u) → Fits seat now by w → (j : ℕ) (u : Knowledge) → get_elem? (set views by w) j ≡ some u → Fits seat now j u
fits_set seat now views by w others mine j u e =
    ⊎_elim
    (λ (x : (j ≡ by) × (w ≡ u)). subst (λ (y : ℕ × Knowledge). Fits seat now y.0 y.1) (λ i. (sym x.0 i, x.1 i)) mine)
    (λ (x : (j ≢ by) × (get_elem? views j ≡ some u)). others j u x.0 x.1)
    (at_set views by j w u e)

pub begins : (words : List ℕ) → IsPrefix no_words words → Kept words (opening ∷ [])
begins words is = (0, [], is, tt, tt, one)
  where
    one : (by : ℕ) (v : Knowledge) → get_elem? (opening ∷ []) by ≡ some v → Fits 0 [] by v
    one zero v e = subst (Fits 0 [] 0) (some-injective _ _ e) (([], refl), ([], refl), (λ _. (refl, refl)))
    one (suc by) v e = absurd (some-ne-none v (sym e))

pub adds : (by : ℕ) (v : Knowledge) (p : Publication) (new : List ℕ) → v.publishes ≡ true → length new ≡ 166 → IsPrefix (words_of (snapshot_of p)) new → IsNext v.seen p → IsInRange p → Turns Kept by v (over 166 new) (Adds p)
adds by v p new publishes long is next range words views h at =
    let fits = h.5 in let all = fits by v at in let mine = all.2 publishes in
    let w : Knowledge = with_published v p in
    let log : List Publication = h.1 ++ p ∷ [] in
    let same : v.seen ++ p ∷ [] ≡ log = ap (λ (l : List Publication). l ++ p ∷ []) mine.1 in (
      w,
      (
        h.0,
        log,
        subst (λ (shown : Option Snapshot). IsPrefix (words_at shown) (over 166 new words)) (sym (last_of_more h.1 p)) (stored (snapshot_of p) new words long is),
        rising_more h.1 p h.3 (subst (λ l. IsNext l p) mine.1 next),
        in_range_more h.1 p h.4 range,
        fits_set h.0 log views by w
            (λ j u apart e. (prefix_more u.seen h.1 (p ∷ []) (fits j u e).0, prefix_more u.claim h.1 (p ∷ []) (fits j u e).1, (λ k. absurd (apart (((fits j u e).2 k).0 ∙ sym mine.0)))))
            (subst (IsPrefix (v.seen ++ p ∷ [])) same (prefix_self (v.seen ++ p ∷ [])), prefix_more v.claim h.1 (p ∷ []) all.1, (λ _. (mine.0, same))),
      ),
      (refl, (λ rising. rising_more v.seen p rising next)),
    )

pub loads : (by : ℕ) (v : Knowledge) → Turns Kept by v (λ x. x) Loaded
loads by v words views h at =
    let fits = h.5 in let mine = fits by v at in
    let w : Knowledge = record { publishes = v.publishes; seen = h.1; loads = v.loads + 1; claim = v.claim } in (
      w,
      (h.0, h.1, h.2, h.3, h.4, fits_set h.0 h.1 views by w (λ j u apart e. fits j u e) (prefix_self h.1, mine.1, (λ k. ((mine.2 k).0, refl)))),
      (refl, refl, mine.0, h.2, h.3, h.4, refl),
    )

pub compares : (by : ℕ) (v : Knowledge) → v.publishes ≡ true → Turns Kept by v (λ x. x) Compared
compares by v publishes words views h at =
    let fits = h.5 in let all = fits by v at in let mine = all.2 publishes in
    let w : Knowledge = record { publishes = v.publishes; seen = v.seen; loads = v.loads + 1; claim = [] } in (
      w,
      (h.0, h.1, h.2, h.3, h.4, fits_set h.0 h.1 views by w (λ j u apart e. fits j u e) (all.0, (h.1, refl), all.2)),
      (
        refl,
        subst (IsPrefix v.claim) (sym mine.1) all.1,
        subst (λ (l : List Publication). IsPrefix (words_at (last_shown l)) words) (sym mine.1) h.2,
        subst IsRising (sym mine.1) h.3,
        subst (AllByRecursion IsInRange) (sym mine.1) h.4,
      ),
    )

pub forks : (by : ℕ) (v left right : Knowledge) → ((seat : ℕ) (log : List Publication) → Fits seat log by v → Fits seat log by left) → ((seat : ℕ) (log : List Publication) (j : ℕ) → Fits seat log by v → Fits seat log j right) → Forks Kept by v left right
forks by v left right keeps gives words views h at = (
  h.0,
  h.1,
  h.2,
  h.3,
  h.4,
  λ j u e. ⊎_elim
      (λ was. fits_set h.0 h.1 views by left (λ i x apart e'. h.5 i x e') (keeps h.0 h.1 (h.5 by v at)) j u was)
      (λ (same : right ≡ u). subst (Fits h.0 h.1 j) same (gives h.0 h.1 j (h.5 by v at)))
      (at_snoc (set views by left) right u j e),
)

pub merges : (by : ℕ) (v : Knowledge) (other : ℕ) (w both spent : Knowledge) → ((seat : ℕ) (log : List Publication) → Fits seat log by v → Fits seat log other w → Fits seat log by both) → ((seat : ℕ) (log : List Publication) → Fits seat log other spent) → Merges Kept by v other w both spent
merges by v other w both spent keeps rests words views h at apart there =
    let fits = h.5 in let mine = fits by v at in
    let theirs = ⊎_elim (λ (t : (other ≡ by) × (both ≡ w)). absurd (apart t.0)) (λ (t : (other ≢ by) × (get_elem? views other ≡ some w)). fits other w t.1) (at_set views by other both w there) in
    (h.0, h.1, h.2, h.3, h.4, fits_set h.0 h.1 (set views by both) other spent (λ j u _ e. fits_set h.0 h.1 views by both (λ i y _ e'. fits i y e') (keeps h.0 h.1 mine theirs) j u e) (rests h.0 h.1))

reader_fits : (seat : ℕ) (log seen : List Publication) (n j : ℕ) → IsPrefix seen log → Fits seat log j (reader seen n)
reader_fits seat log seen n j p = (p, (log, refl), (λ k. absurd (off k)))

pub splits : (by : ℕ) (v : Knowledge) → Forks Kept by v v (reader v.seen 0)
splits by v = forks by v v (reader v.seen 0) (λ seat log f. f) (λ seat log j f. reader_fits seat log v.seen 0 j f.0)

-- all that a reader knows goes over
pub goes_over : (by : ℕ) (v : Knowledge) → v.publishes ≡ false → Forks Kept by v (reader [] 0) v
goes_over by v reads = forks by v (reader [] 0) v (λ seat log f. reader_fits seat log [] 0 by (log, refl)) (λ seat log j f. (f.0, f.1, (λ k. absurd (off (sym reads ∙ k)))))

longer_fits : (log xs ys : List Publication) (b : Bool) → IsPrefix xs log → IsPrefix ys log → IsPrefix (if b then ys else xs) log
longer_fits log xs ys true p q = q
longer_fits log xs ys false p q = p

pub joins : (by : ℕ) (v : Knowledge) (other : ℕ) (w : Knowledge) → v.publishes ≡ false → Merges Kept by v other w (joined v w) (reader [] 0)
joins by v other w reads = merges by v other w (joined v w) (reader [] 0)
    (λ seat log f g. (longer_fits log v.seen w.seen (nat_lt (length v.seen) (length w.seen)) f.0 g.0, f.1, (λ k. absurd (off (sym reads ∙ k)))))
    (λ seat log. reader_fits seat log [] 0 other (log, refl))

pub meets : (by : ℕ) (v : Knowledge) (other : ℕ) (w : Knowledge) → v.publishes ≡ false → Merges Kept by v other w (met v w) (reader [] 0)
meets by v other w reads = merges by v other w (met v w) (reader [] 0)
    (λ seat log f g. (g.0, f.1, (λ k. absurd (off (sym reads ∙ k)))))
    (λ seat log. reader_fits seat log [] 0 other (log, refl))

pub claims : (by : ℕ) (v : Knowledge) (other : ℕ) (w : Knowledge) → Merges Kept by v other w (claimed v w) (reader [] 0)
claims by v other w = merges by v other w (claimed v w) (reader [] 0) (λ seat log f g. (f.0, g.0, f.2)) (λ seat log. reader_fits seat log [] 0 other (log, refl))
