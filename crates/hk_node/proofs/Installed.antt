-- What a node that installs a view comes to.
use Rattle.std.proofs.Common.{◌≡◌, ℕ, List, [], ◌∷◌, ◌++◌, Bool, true, false, if◌then◌else◌, ◌&&◌, nat_lt, length, map, Option, Some, refl, sym, ap, ◌∙◌, subst}
use Rattle.std.specs.Option.{IsSome}
use Rattle.std.specs.List.{AllByRecursion, flat_map}
use Rattle.std.specs.List.Sorted.{IsStrictlySortedBy}
use Rattle.std.proofs.lemmas.Map.Made.{keys_of-map_values}
use Rattle.std.proofs.lemmas.List.Concat.{flat_map-cons}
use Rattle.hk_base.specs.declared.view.View.{View}
use Rattle.hk_base.specs.View.{IsView, is_member}
use Rattle.hk_copy.specs.Batches.{key_cmp}
use Rattle.hk_key.specs.declared.row.Row.{Row}
use Rattle.hk_key.specs.Table.{on_view}
use Rattle.hk_key.specs.Same.{is_same_row}
use Rattle.hk_key.proofs.Unchanged.{same_after_view}
use Rattle.hk_node.specs.declared.report.PriorRow.{PriorRow}
use Rattle.hk_node.specs.declared.report.Report.{Report}
use Rattle.hk_node.specs.declared.report.Undo.{Undo}
use Rattle.hk_node.specs.declared.out.NodeOut.{NodeOut}
use Rattle.hk_node.specs.Rows.{Rows, find_row}
use Rattle.hk_node.specs.Node.{NodeState, epoch_of}
use Rattle.hk_node.specs.Sends.{sent}
use Rattle.hk_node.specs.Stepped.{Stepped, idle}
use Rattle.hk_node.specs.Steps.{viewed, installed_in, installs}
use Rattle.hk_node.specs.Sound.{IsNode}
use Rattle.hk_node.specs.Viewed.{view_done, view_letters, view_told, view_new, view_old}
use Rattle.hk_node.specs.Report.{AreChanged, rows_report, rows_rolled_back, rolled_back}
use Rattle.hk_node.specs.Outs.{IsOutOf}
use Rattle.hk_node.proofs.Order.{Key, Rising}
use Rattle.hk_node.proofs.Reports.{reported}
use Rattle.hk_node.proofs.Keeps.{noted_kept}
use Rattle.hk_node.proofs.KeepsMore.{installs_kept}
use Rattle.hk_node.proofs.Sent.{sent_alike}
use Rattle.hk_node.proofs.Placing.{Entry, list_to, list_is, list_rises, list_there, stepped, priors, news_put, priors_put, priors_replaced}

same_pieces : {A B : Type 0} (f g : A → List B) → ((x : A) → f x ≡ g x) → (xs : List A) → flat_map f xs ≡ flat_map g xs
same_pieces f g h [] = refl
same_pieces f g h (x ∷ xs) = flat_map-cons f x xs ∙ ap (λ l. l ++ flat_map f xs) (h x) ∙ ap (λ l. g x ++ l) (same_pieces f g h xs) ∙ sym (flat_map-cons g x xs)

pub installs_not : (node : NodeState) (view : View) → (nat_lt (epoch_of node) view.epoch && is_member node.id view.members) ≡ false → installs node view ≡ idle node
installs_not node view e = ap (λ (b : Bool). if b then installed_in (record node { view = Some view }) view.epoch else idle node) e

pub beside_is : (v w : Option View) (a b : List ℕ) → v ≡ w → a ≡ b → Undo.View v a ≡ Undo.View w b
beside_is v w a b same alike = rw (same, alike) refl

module _ (node : NodeState) (view : View) where
  abbrev pub step : Entry → Row
  step r = (view_done node.id view r).row

  abbrev pub same : Entry → Bool
  same r = is_same_row r.1 (step r)

  pub told : (r : Entry) → same r ≡ true → step r ≡ r.1
  told r e = same_after_view node.id view.members r.1 e

  pub changed : (r : Entry) → same r ≡ false → is_same_row r.1 (step r) ≡ false
  changed r e = e

  fresh_is : (rows : Rows) → flat_map (view_new node.id view) rows ≡ list_to (λ r. r.1) step same rows
  fresh_is rows = list_is (λ r. r.1) step same rows

  prior_is : (rows : Rows) → flat_map (view_old node.id view) rows ≡ priors step same told changed rows
  prior_is rows = list_is step (λ r. r.1) same rows

  pub fresh_rises : (fresh : List PriorRow) (rows : Rows) → fresh ≡ flat_map (view_new node.id view) rows → IsStrictlySortedBy key_cmp (map (λ (r : Entry). r.0) rows) →
      IsStrictlySortedBy key_cmp (map (λ (f : PriorRow). f.key) fresh)
  fresh_rises fresh rows is rising = subst (λ (l : List PriorRow). IsStrictlySortedBy key_cmp (map (λ (f : PriorRow). f.key) l)) (sym (is ∙ fresh_is rows)) (list_rises (λ r. r.1) step same rows rising)

  pub fresh_there : (fresh : List PriorRow) (rows : Rows) → fresh ≡ flat_map (view_new node.id view) rows → IsStrictlySortedBy key_cmp (map (λ (r : Entry). r.0) rows) →
      AllByRecursion (λ (f : PriorRow). IsSome (find_row f.key rows)) fresh
  fresh_there fresh rows is rising = subst (λ (l : List PriorRow). AllByRecursion (λ (f : PriorRow). IsSome (find_row f.key rows)) l) (sym (is ∙ fresh_is rows)) (list_there (λ r. r.1) step same rows rising)

  -- with the view installed, whoever is a member of it
  pub install_changed : IsNode node → Rising (stepped step same told changed node.rows) × AreChanged (priors step same told changed node.rows) node.rows (stepped step same told changed node.rows)
  install_changed ok = (
    subst (λ (keys : List Key). IsStrictlySortedBy key_cmp keys) (sym (keys_of-map_values (λ row. (on_view node.id view.members row).row) node.rows)) ok.ordered,
    priors_replaced step same told changed node.rows ok.ordered,
  )

  -- with these ACTIVATEs
  module _ (ok : IsNode node) (is_view : IsView view) (later : (nat_lt (epoch_of node) view.epoch && is_member node.id view.members) ≡ true) (activated : List ℕ)
      (each : length activated ≡ node.managers) where
    abbrev noted : NodeState
    noted = record node { activated = activated }

    abbrev new : NodeState
    new = record node { view = Some view; activated = activated }

    installs_is : installs noted view ≡ installed_in new view.epoch
    installs_is = ap (λ (b : Bool). if b then installed_in new view.epoch else idle noted) later

    pub install_rows : (fresh : List PriorRow) (rows : Rows) → fresh ≡ flat_map (view_new node.id view) node.rows → rows ≡ rows_rolled_back fresh node.rows → rows ≡ stepped step same told changed node.rows
    install_rows fresh rows is put = put ∙ ap (λ (l : List PriorRow). rows_rolled_back l node.rows) (is ∙ fresh_is node.rows) ∙ news_put step same told changed node.rows ok.ordered

    pub install_node : (fresh : List PriorRow) (v : Option View) (acts : List ℕ) (rows : Rows) → fresh ≡ flat_map (view_new node.id view) node.rows → v ≡ Some view → acts ≡ activated →
        rows ≡ rows_rolled_back fresh node.rows → record node { view = v; activated = acts; rows = rows } ≡ (installs noted view).node
    install_node fresh v acts rows is seen same put =
        let all = install_rows fresh rows is put in
        ap (λ (o : Option View). record node { view = o; activated = acts; rows = rows }) seen
        ∙ ap (λ (a : List ℕ). record node { view = Some view; activated = a; rows = rows }) same ∙ ap (λ (l : Rows). record node { view = Some view; activated = activated; rows = l }) all
        ∙ sym (ap (λ (s : Stepped). s.node) installs_is)

    pub install_kept : (fresh : List PriorRow) (v : Option View) (acts : List ℕ) (rows : Rows) → fresh ≡ flat_map (view_new node.id view) node.rows → v ≡ Some view → acts ≡ activated →
        rows ≡ rows_rolled_back fresh node.rows → IsNode (record node { view = v; activated = acts; rows = rows })
    install_kept fresh v acts rows is seen same put = subst IsNode (sym (install_node fresh v acts rows is seen same put)) (installs_kept noted view is_view (noted_kept node activated each ok))

    letters_is : flat_map (view_letters node.id view) node.rows ≡ (installed_in new view.epoch).letters
    letters_is = same_pieces (view_letters node.id view) (λ r. sent new r.0 (viewed new r).row (viewed new r).out.send)
        (λ r. sent_alike node.id view new r.0 (viewed new r).row (viewed new r).out.send refl refl) node.rows

    undone_is : (f : List PriorRow) (b : Undo) → b ≡ Undo.View node.view node.activated → f ≡ priors step same told changed node.rows → rolled_back f b (installed_in new view.epoch).node ≡ node
    undone_is f b is rows = rw (is, rows) (ap (λ (l : Rows). record node { rows = l }) (priors_put step same told changed node.rows ok.ordered))

    pub install_out : (out : NodeOut) (prior : List PriorRow) → out.letters ≡ flat_map (view_letters node.id view) node.rows → out.replies ≡ map (λ t. t.1) (flat_map (view_told node.id view) node.rows) →
        out.installed ≡ Some view.epoch → out.undo ≡ Undo.View node.view node.activated → out.report ≡ rows_report node prior → prior ≡ flat_map (view_old node.id view) node.rows →
        IsOutOf out node (installs noted view)
    install_out out prior letters replies installed undo reports rows =
        let is : out.report ≡ rows_report node (priors step same told changed node.rows) = reports ∙ ap (rows_report node) (rows ∙ prior_is node.rows) in
        subst (λ (s : Stepped). IsOutOf out node s) (sym installs_is) (record {
          letters = letters ∙ letters_is;
          replies = replies;
          installed = installed;
          reported = is ∙ reported node (installed_in new view.epoch).node (priors step same told changed node.rows) refl (install_changed ok).0 (install_changed ok).1;
          changed = subst (λ (r : Report). AreChanged r.rows node.rows (stepped step same told changed node.rows)) (sym is) (install_changed ok).1;
          undone = undone_is out.report.rows out.undo undo (ap (λ (r : Report). r.rows) is);
        })
