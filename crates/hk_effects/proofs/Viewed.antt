-- What a node's rows tell of one key when all of them step as their node installs a view.
use Rattle.std.proofs.Common.{◌≡◌, ◌≢◌, ℕ, Bool, true, false, cond, List, [], ◌∷◌, ◌++◌, map, ◌∙◌, sym, refl, ap, subst, ⊎_elim, Option, Some, append-nil}
use Rattle.std.specs.List.{flat_map}
use Rattle.std.specs.Map.{keys_of}
use Rattle.hk_base.specs.declared.call.Reply.{Reply}
use Rattle.hk_base.specs.declared.letter.Letter.{Letter}
use Rattle.hk_key.specs.declared.row.Row.{Row}
use Rattle.hk_key.specs.Table.{Done, on_view}
use Rattle.hk_register.specs.Machine.{Message}
use Rattle.hk_node.specs.Rows.{Rows, row_at}
use Rattle.hk_node.specs.Node.{NodeState, members_of}
use Rattle.hk_node.specs.Sends.{sent}
use Rattle.hk_node.specs.Stepped.{told_of}
use Rattle.hk_node.specs.Steps.{viewed}
use Rattle.hk_effects.specs.Projection.{is_same_key, is_behind, letters_of, told_at}
use Rattle.hk_effects.proofs.Order.{cases_key, row_here, row_next}
use Rattle.hk_effects.proofs.Rising.{RisesBehind, not_down, bound_differs, not_behind_itself}
use Rattle.hk_effects.proofs.Sends.{silent_other}
use Rattle.hk_effects.proofs.Replies.{told_other}
use Rattle.hk_effects.proofs.Rests.{letters_append}

pub told_append : (key : List ℕ) (a b : List (List ℕ × Reply)) → told_at key (a ++ b) ≡ told_at key a ++ told_at key b
told_append key [] b = refl
told_append key (t ∷ a) b = by_test (is_same_key key t.0) (told_append key a b)
  where
    by_test : (same : Bool) → told_at key (a ++ b) ≡ told_at key a ++ told_at key b → cond same (t.1 ∷ told_at key (a ++ b)) (told_at key (a ++ b)) ≡ cond same (t.1 ∷ told_at key a) (told_at key a) ++ told_at key b
    by_test true more = ap (λ (rs : List Reply). t.1 ∷ rs) more
    by_test false more = more

module _ (y : NodeState) where
  -- the step of a row
  abbrev pub view_of_row : Row → Done
  view_of_row row = on_view y.id (members_of y) row

  -- what all rows send and tell
  abbrev pub viewed_letters : Rows → List Letter
  viewed_letters rows = flat_map (λ r. sent y r.0 (viewed y r).row (viewed y r).out.send) rows

  abbrev pub viewed_told : Rows → List (List ℕ × Reply)
  viewed_told rows = flat_map (λ r. told_of r.0 (viewed y r).out.reply) rows

  -- what one row sends and tells
  abbrev pub row_letters : List ℕ → Row → List Message
  row_letters key row = letters_of key (sent y key (view_of_row row).row (view_of_row row).out.send)

  abbrev pub row_told : List ℕ → Row → List Reply
  row_told key row = told_at key (told_of key (view_of_row row).out.reply)

  pub row-viewed : (key : List ℕ) (rows : Rows) → row_at key (map (λ r. (r.0, (viewed y r).row)) rows) ≡ (view_of_row (row_at key rows)).row
  row-viewed key [] = refl
  row-viewed key (r ∷ rows) =
      let later = map (λ (q : List ℕ × Row). (q.0, (viewed y q).row)) rows in
      ⊎_elim
      (λ (e : key ≡ r.0). row_here key (r.0, (viewed y r).row) later e ∙ ap (λ (w : Row). (view_of_row w).row) (sym (row_here key r rows e)))
      (λ (ne : key ≢ r.0). row_next key (r.0, (viewed y r).row) later ne ∙ (row-viewed key rows ∙ ap (λ (w : Row). (view_of_row w).row) (sym (row_next key r rows ne)))) (cases_key key r.0)

  -- rows behind a bound tell nothing of a key that is not
  silent_letters : (low : Option (List ℕ)) (key : List ℕ) (rows : Rows) → RisesBehind low (keys_of rows) → is_behind low key ≡ false → letters_of key (viewed_letters rows) ≡ []
  silent_letters low key [] rises out = refl
  silent_letters low key (r ∷ rows) rises out =
      let ne = bound_differs low r.0 key rises.0 out in
      letters_append key (sent y r.0 (viewed y r).row (viewed y r).out.send) (viewed_letters rows)
      ∙ (ap (λ (l : List Message). l ++ letters_of key (viewed_letters rows)) (silent_other key r.0 y (viewed y r).row (viewed y r).out.send ne) ∙ silent_letters (Some r.0) key rows rises.1 (not_down low r.0 key rises.0 out))

  silent_told : (low : Option (List ℕ)) (key : List ℕ) (rows : Rows) → RisesBehind low (keys_of rows) → is_behind low key ≡ false → told_at key (viewed_told rows) ≡ []
  silent_told low key [] rises out = refl
  silent_told low key (r ∷ rows) rises out =
      let ne = bound_differs low r.0 key rises.0 out in
      told_append key (told_of r.0 (viewed y r).out.reply) (viewed_told rows)
      ∙ (ap (λ (l : List Reply). l ++ told_at key (viewed_told rows)) (told_other key r.0 (viewed y r).out.reply ne) ∙ silent_told (Some r.0) key rows rises.1 (not_down low r.0 key rises.0 out))

  -- The letters of the key are those of its row.
  pub letters-viewed : (low : Option (List ℕ)) (key : List ℕ) (rows : Rows) → RisesBehind low (keys_of rows) → letters_of key (viewed_letters rows) ≡ row_letters key (row_at key rows)
  letters-viewed low key [] rises = refl
  letters-viewed low key (r ∷ rows) rises =
      let first = sent y r.0 (viewed y r).row (viewed y r).out.send in
      letters_append key first (viewed_letters rows)
      ∙ ⊎_elim
      (λ (e : key ≡ r.0).
      let out : is_behind (Some r.0) key ≡ false = subst (λ (k : List ℕ). is_behind (Some r.0) k ≡ false) (sym e) (not_behind_itself r.0) in
      ap (λ (l : List Message). letters_of key first ++ l) (silent_letters (Some r.0) key rows rises.1 out)
      ∙ (append-nil (letters_of key first) ∙ (ap (λ (k : List ℕ). letters_of key (sent y k (viewed y r).row (viewed y r).out.send)) (sym e) ∙ ap (row_letters key) (sym (row_here key r rows e)))))
      (λ (ne : key ≢ r.0).
      ap (λ (l : List Message). l ++ letters_of key (viewed_letters rows)) (silent_other key r.0 y (viewed y r).row (viewed y r).out.send ne)
      ∙ (letters-viewed (Some r.0) key rows rises.1 ∙ ap (row_letters key) (sym (row_next key r rows ne)))) (cases_key key r.0)

  -- and so are the replies
  pub told-viewed : (low : Option (List ℕ)) (key : List ℕ) (rows : Rows) → RisesBehind low (keys_of rows) → told_at key (viewed_told rows) ≡ row_told key (row_at key rows)
  told-viewed low key [] rises = refl
  told-viewed low key (r ∷ rows) rises =
      let first = told_of r.0 (viewed y r).out.reply in
      told_append key first (viewed_told rows)
      ∙ ⊎_elim
      (λ (e : key ≡ r.0).
      let out : is_behind (Some r.0) key ≡ false = subst (λ (k : List ℕ). is_behind (Some r.0) k ≡ false) (sym e) (not_behind_itself r.0) in
      ap (λ (l : List Reply). told_at key first ++ l) (silent_told (Some r.0) key rows rises.1 out)
      ∙ (append-nil (told_at key first) ∙ (ap (λ (k : List ℕ). told_at key (told_of k (viewed y r).out.reply)) (sym e) ∙ ap (row_told key) (sym (row_here key r rows e)))))
      (λ (ne : key ≢ r.0).
      ap (λ (l : List Reply). l ++ told_at key (viewed_told rows)) (told_other key r.0 (viewed y r).out.reply ne)
      ∙ (told-viewed (Some r.0) key rows rises.1 ∙ ap (row_told key) (sym (row_next key r rows ne)))) (cases_key key r.0)
