-- Calls and replies, in the items of their keys.
use Rattle.std.proofs.Common.{◌≡◌, ◌≢◌, ℕ, ◌+◌, ◌<◌, take, length, get_or, List, [], ◌∷◌, ◌++◌, append_assoc, append-nil, Bool, true, false, cond, not, eqb, find, Option, Some, None, is_some, refl, sym, ap, subst, ◌∙◌, ⊎_elim}
use Rattle.std.specs.List.{AllByRecursion}
use Rattle.std.specs.Map.{keys_of}
use Rattle.std.specs.List.Sorted.{IsStrictlySortedBy}
use Rattle.std.proofs.lemmas.Bool.{false≢true}
use Rattle.hk_base.specs.declared.call.Op.{Op}
use Rattle.hk_base.specs.declared.call.Reply.{Reply}
use Rattle.hk_history.specs.declared.event.Event.{Event as HistoryEvent}
use Rattle.hk_copy.specs.Batches.{key_cmp}
use Rattle.hk_world.specs.World.{numbered}
use Rattle.hk_effects.specs.Projection.{is_same_key}
use Rattle.hk_effects.proofs.Order.{cases_key, same_of, same_not}
use Rattle.hk_node.specs.declared.report.PriorRow.{PriorRow}
use Rattle.hk_world.specs.declared.shown.Acted.{Acted}
use Rattle.hk_safety.specs.declared.key_run.CallEffect.{CallEffect}
use Rattle.hk_safety.specs.Run.{with_key}
use Rattle.hk_safety.specs.Kept.{KeyState, Keys, first_key, find_key, key_at}
use Rattle.hk_safety.specs.Grown.{IsTaken, IsNamed, AreTold, with_lines, IsPrior, ArePrior, prior_tag, is_new_in, is_new}
use Rattle.hk_safety.specs.Shows.{reply_line, line_at, lines_at}
use Rattle.hk_safety.proofs.Puts.{turn, IsPutAt, put_there, put_stays, put_here, put_others, found_at, absent_at, not_there, key_kept}

-- ---- a call
taken_there : (m n : Keys) (key : List ℕ) (k l : KeyState) (turn : CallEffect) (op : Op) → key_at key m ≡ k → IsPutAt m n key l → IsTaken k l turn op →
    IsTaken (key_at key m) (key_at key n) turn op
taken_there m n key k l turn op was put taken = subst (λ (x : KeyState). IsTaken x (key_at key n) turn op) (sym was)
    (subst (λ (x : KeyState). IsTaken k x turn op) (sym (put_here m n key l put)) taken)

others_there : (m n : Keys) (key : List ℕ) (l : KeyState) → IsPutAt m n key l → (q : List ℕ) → is_same_key q key ≡ false → key_at q n ≡ key_at q m
others_there m n key l put q other = put_others m n key l put q (λ (e : q ≡ key). false≢true (sym other ∙ same_of q key e))

pub named_there : (m n : Keys) (key : List ℕ) (k l : KeyState) (turn : CallEffect) (op : Op) → IsStrictlySortedBy key_cmp (keys_of m) → find_key key m ≡ Some k →
    keys_of n ≡ keys_of m → IsPutAt m n key l → IsTaken k l turn op → IsNamed m n key turn op
named_there m n key k l turn op sorted found keys put taken = record {
  keys = keys ∙ sym (key_kept key m sorted (ap is_some found));
  there = put_there m n key l put;
  here = taken_there m n key k l turn op (found_at key m k found) put taken;
  others = others_there m n key l put;
}

pub named_first : (m n : Keys) (key : List ℕ) (l : KeyState) (turn : CallEffect) (op : Op) → find_key key m ≡ None → keys_of n ≡ with_key key (keys_of m) →
    IsPutAt m n key l → IsTaken first_key l turn op → IsNamed m n key turn op
named_first m n key l turn op none keys put taken = record {
  keys = keys;
  there = put_there m n key l put;
  here = taken_there m n key first_key l turn op (absent_at key m none) put taken;
  others = others_there m n key l put;
}

-- ---- replies
with_none : (k : KeyState) → k ≡ with_lines k []
with_none k = ap (λ (l : List HistoryEvent). record { items = l; stamps = k.stamps }) (sym (append-nil k.items))

with_more : (k : KeyState) (a b : List HistoryEvent) → with_lines (with_lines k a) b ≡ with_lines k (a ++ b)
with_more k a b = ap (λ (l : List HistoryEvent). record { items = l; stamps = k.stamps }) (append_assoc k.items a b)

line_other : (q key : List ℕ) (o : Option (List ℕ)) (r : Reply) → o ≡ Some key → q ≢ key → line_at q o r ++ [] ≡ []
line_other q key o r is ne = ap (λ (p : Option (List ℕ)). line_at q p r ++ []) is ∙ ap (λ (b : Bool). cond b (reply_line r ∷ []) [] ++ []) (same_not q key ne)

line_own : (key : List ℕ) (o : Option (List ℕ)) (r : Reply) → o ≡ Some key → line_at key o r ++ [] ≡ reply_line r ∷ []
line_own key o r is = ap (λ (p : Option (List ℕ)). line_at key p r ++ []) is ∙ ap (λ (b : Bool). cond b (reply_line r ∷ []) [] ++ []) (same_of key key refl)

untold : (k l : KeyState) (ls : List HistoryEvent) → l ≡ k → ls ≡ [] → l ≡ with_lines k ls
untold k l ls same none = same ∙ with_none k ∙ ap (with_lines k) (sym none)

pub told_there : (m n : Keys) (key : List ℕ) (k l : KeyState) (calls : List (List ℕ)) (r : Reply) → numbered r.call.0 calls ≡ Some key →
    find_key key m ≡ Some k → keys_of n ≡ keys_of m → IsPutAt m n key l → l ≡ with_lines k (reply_line r ∷ []) →
    AreTold m n (λ q. lines_at q calls (r ∷ []))
told_there m n key k l calls r named found keys put is = record {
  keys = keys;
  there = put_stays m n key l put (ap is_some found);
  each = λ q there. ⊎_elim
      (λ (e : q ≡ key).
      let at : key_at key n ≡ with_lines (key_at key m) (lines_at key calls (r ∷ [])) =
      put_here m n key l put ∙ is ∙ ap (λ (x : KeyState). with_lines x (reply_line r ∷ [])) (sym (found_at key m k found))
      ∙ ap (with_lines (key_at key m)) (sym (line_own key (numbered r.call.0 calls) r named)) in
      subst (λ (j : List ℕ). key_at j n ≡ with_lines (key_at j m) (lines_at j calls (r ∷ []))) (sym e) at)
      (λ (ne : q ≢ key). untold (key_at q m) (key_at q n) (lines_at q calls (r ∷ [])) (put_others m n key l put q ne)
      (line_other q key (numbered r.call.0 calls) r named ne)) (cases_key q key);
}

-- entries that are the same
pub told_nobody : (m n : Keys) (ls : List ℕ → List HistoryEvent) → n ≡ m → ((q : List ℕ) → is_some (find_key q m) ≡ true → ls q ≡ []) → AreTold m n ls
told_nobody m n ls same none = record {
  keys = ap keys_of same;
  there = λ q. ap (λ (keys : Keys). is_some (find_key q keys)) same;
  each = λ q there. untold (key_at q m) (key_at q n) (ls q) (ap (key_at q) same) (none q there);
}

pub no_lines : (calls : List (List ℕ)) (r : Reply) → numbered r.call.0 calls ≡ None → (q : List ℕ) → lines_at q calls (r ∷ []) ≡ []
no_lines calls r none q = ap (λ (o : Option (List ℕ)). line_at q o r ++ []) none

pub absent_lines : (m : Keys) (key : List ℕ) (calls : List (List ℕ)) (r : Reply) → numbered r.call.0 calls ≡ Some key → find_key key m ≡ None → (q : List ℕ) →
    is_some (find_key q m) ≡ true → lines_at q calls (r ∷ []) ≡ []
absent_lines m key calls r named none q there = line_other q key (numbered r.call.0 calls) r named
    (λ (e : q ≡ key). not_there (find_key key m) none (subst (λ (j : List ℕ). is_some (find_key j m) ≡ true) e there))

pub told_joined : (a b c : Keys) (f g h : List ℕ → List HistoryEvent) → ((q : List ℕ) → h q ≡ f q ++ g q) → AreTold a b f → AreTold b c g → AreTold a c h
told_joined a b c f g h both first second = record {
  keys = second.keys ∙ first.keys;
  there = λ q. second.there q ∙ first.there q;
  each = λ q there. second.each q (first.there q ∙ there) ∙ ap (λ (x : KeyState). with_lines x (g q)) (first.each q there)
      ∙ with_more (key_at q a) (f q) (g q) ∙ ap (with_lines (key_at q a)) (sym (both q));
}

pub lines_more : (calls : List (List ℕ)) (rs : List Reply) (r : Reply) (q : List ℕ) →
    lines_at q calls (rs ++ r ∷ []) ≡ lines_at q calls rs ++ lines_at q calls (r ∷ [])
lines_more calls [] r q = refl
lines_more calls (s ∷ rs) r q = ap (λ (l : List HistoryEvent). line_at q (numbered s.call.0 calls) s ++ l) (lines_more calls rs r q)
    ∙ sym (append_assoc (line_at q (numbered s.call.0 calls) s) (lines_at q calls rs) (lines_at q calls (r ∷ [])))

pub lines_turn : (calls : List (List ℕ)) (rs : List Reply) (i : ℕ) (r : Reply) → i < length rs → r ≡ get_or rs i r → (q : List ℕ) →
    lines_at q calls (take (i + 1) rs) ≡ lines_at q calls (take i rs) ++ lines_at q calls (r ∷ [])
lines_turn calls rs i r lt is q = ap (lines_at q calls) (turn rs i r lt is) ∙ lines_more calls (take i rs) r q

-- ---- whether a call's row was another one before
found_within : (p : PriorRow → Bool) (rows : List PriorRow) (f : PriorRow) → AllByRecursion IsPrior rows → find p rows ≡ Some f → IsPrior f
found_within p [] f all e = absurd (false≢true (ap is_some e))
found_within p (g ∷ rows) f all e = by_test (p g) e (found_within p rows f all.1)
  where
    by_test : (b : Bool) → cond b (Some g) (find p rows) ≡ Some f → (find p rows ≡ Some f → IsPrior f) → IsPrior f
    by_test true e more = let same : g ≡ f = cc in subst IsPrior same all.0
    by_test false e more = more e

prior_rows : (by : Option Acted) (r : Acted) → by ≡ Some r → ArePrior by → AllByRecursion IsPrior r.report.rows
prior_rows by r is all = subst ArePrior is all

module _ (by : Option Acted) (r : Acted) (rows : List PriorRow) (key : List ℕ) (is : by ≡ Some r) (same : rows ≡ r.report.rows) where
  pub prior_within : (f : PriorRow) → ArePrior by → Some f ≡ find (λ f. is_same_key key f.key) rows → IsPrior f
  prior_within f all e = found_within (λ f. is_same_key key f.key) r.report.rows f (prior_rows by r is all)
      (ap (find (λ f. is_same_key key f.key)) (sym same) ∙ sym e)

  found_in : (o : Option PriorRow) → o ≡ find (λ f. is_same_key key f.key) rows → (tag : ℕ) → is_new_in o tag ≡ is_new by key tag
  found_in o e tag = ap (λ (f : Option PriorRow). is_new_in f tag) (e ∙ ap (find (λ f. is_same_key key f.key)) same) ∙ ap (λ (b : Option Acted). is_new b key tag) (sym is)

  pub new_found : (f : PriorRow) (tag t : ℕ) → Some f ≡ find (λ f. is_same_key key f.key) rows → t ≡ prior_tag f.row → not (eqb tag t) ≡ is_new by key tag
  new_found f tag t e at = ap (λ (n : ℕ). not (eqb tag n)) at ∙ found_in (Some f) e tag

  pub new_none : (tag : ℕ) → None ≡ find (λ f. is_same_key key f.key) rows → false ≡ is_new by key tag
  new_none tag e = found_in None e tag
