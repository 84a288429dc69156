-- The test of completeness decides it.
use Rattle.std.proofs.Common.{◌≡◌, ℕ, true, ◌&&◌, List, ◌∙◌, sym, refl, eqb}
use Rattle.std.specs.Prelude.{nat_le}
use Rattle.std.specs.List.{list_any}
use Rattle.std.proofs.lemmas.Bool.{eqb-true, eq-eqb, leb-true, le-leb, and_parts, and_from}
use Rattle.hk_register.specs.Machine.{Weaker, Mark, RegisterState}
use Rattle.hk_register.specs.Facts.{Covers, Complete}
use Rattle.hk_register.specs.Runs.{is_in}
use Rattle.hk_register.specs.Printed.{is_mark, all_cover, completes_by, is_complete}
use Rattle.hk_register.proofs.Tests.{in_is, is_in_from, any_in, in_any, all_in, in_all}

itself : (k : Mark) → Weaker k k
itself k = record { who = refl; epoch = refl; stamp = refl; exact = λ e. e; ready = λ e. e }

mark_is : (n e s : ℕ) (k : Mark) → is_mark n e s k ≡ true → (k.who ≡ n) × (k.epoch ≡ e) × (k.stamp ≡ s)
mark_is n e s k is =
    let a = and_parts (eqb k.who n) (eqb k.epoch e && eqb k.stamp s) is in
    let b = and_parts (eqb k.epoch e) (eqb k.stamp s) a.1 in
    (eqb-true k.who n a.0, eqb-true k.epoch e b.0, eqb-true k.stamp s b.1)

is_mark_from : (n e s : ℕ) (k : Mark) → k.who ≡ n → k.epoch ≡ e → k.stamp ≡ s → is_mark n e s k ≡ true
is_mark_from n e s k a b c =
    and_from (eqb k.who n) (eqb k.epoch e && eqb k.stamp s) (eq-eqb k.who n a) (and_from (eqb k.epoch e) (eqb k.stamp s) (eq-eqb k.epoch e b) (eq-eqb k.stamp s c))

module _ (V : ℕ → List ℕ) (st : RegisterState) (s : ℕ) where
  pub complete_is : is_complete V st s ≡ true → Complete V st s
  complete_is is =
      let t = any_in (completes_by V st.marks s) st.marks is in
      let k : Mark = t.0 in
      let a = and_parts (eqb k.stamp s) (k.ready && (nat_le 1 k.epoch && (is_in k.who (V k.epoch) && all_cover st.marks (V k.epoch) k.epoch s))) t.2 in
      let b = and_parts k.ready (nat_le 1 k.epoch && (is_in k.who (V k.epoch) && all_cover st.marks (V k.epoch) k.epoch s)) a.1 in
      let c = and_parts (nat_le 1 k.epoch) (is_in k.who (V k.epoch) && all_cover st.marks (V k.epoch) k.epoch s) b.1 in
      let d = and_parts (is_in k.who (V k.epoch)) (all_cover st.marks (V k.epoch) k.epoch s) c.1 in (
        k.epoch,
        record {
          some_epoch = leb-true 1 k.epoch c.0;
          all = λ n h.
              let j = any_in (is_mark n k.epoch s) st.marks (all_in (λ n. list_any (is_mark n k.epoch s) st.marks) (V k.epoch) d.1 n h) in
              let is = mark_is n k.epoch s j.0 j.2 in
              record { mark = j.0; marked = (j.0, itself j.0, j.1); who = is.0; epoch = is.1; stamp = is.2 };
          one = k.who;
          one_member = in_is k.who (V k.epoch) d.0;
          one_ready = record { mark = k; marked = (k, itself k, t.1); who = refl; epoch = refl; stamp = eqb-true k.stamp s a.0; ready = b.0 };
        },
      )

  pub is_complete_from : Complete V st s → is_complete V st s ≡ true
  is_complete_from (e, c) =
      let r = c.one_ready in
      let k : Mark = r.marked.0 in
      let w = r.marked.1 in
      let who : k.who ≡ c.one = sym w.who ∙ r.who in
      let epoch : k.epoch ≡ e = sym w.epoch ∙ r.epoch in
      let stamp : k.stamp ≡ s = sym w.stamp ∙ r.stamp in
      let covers : all_cover st.marks (V k.epoch) k.epoch s ≡ true = rw epoch (in_all (λ n. list_any (is_mark n e s) st.marks) (V e) (λ n h. covered n (c.all n h))) in
      let member : is_in k.who (V k.epoch) ≡ true = rw (who, epoch) (is_in_from c.one (V e) c.one_member) in
      let some : nat_le 1 k.epoch ≡ true = rw epoch (le-leb 1 e c.some_epoch) in
      in_any (completes_by V st.marks s) st.marks k r.marked.2
      (and_from (eqb k.stamp s) _ (eq-eqb k.stamp s stamp) (and_from k.ready _ (w.ready r.ready) (and_from (nat_le 1 k.epoch) _ some (and_from (is_in k.who (V k.epoch)) _ member covers))))
    where
      covered : (n : ℕ) → Covers st n e s → list_any (is_mark n e s) st.marks ≡ true
      covered n x =
          let j = x.marked in
          in_any (is_mark n e s) st.marks j.0 j.2 (is_mark_from n e s j.0 (sym j.1.who ∙ x.who) (sym j.1.epoch ∙ x.epoch) (sym j.1.stamp ∙ x.stamp))
