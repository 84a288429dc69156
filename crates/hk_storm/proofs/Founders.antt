-- The founders of a storm, and the names of their cells.
use Rattle.std.proofs.Common.{◌≡◌, ℕ, ◌+◌, List, [], ◌∷◌, ◌++◌, length, map, slice_index_or, refl, sym, ap, subst, ◌∙◌, arith, append_assoc}
use Rattle.std.proofs.lemmas.List.{length-append}
use Rattle.hk_base.specs.declared.stamp.NodeId.{NodeId}
use Rattle.hk_locked.specs.Places.{NodeNames, node_names, no_node}
use Rattle.hk_worker.specs.Founding.{FoundedState, names_of, AreNamed}
use Rattle.hk_storm.specs.Founding.{AreFoundedFrom, AreFounded}

id_of : ℕ → NodeId
id_of n = record { 0 = n }

-- one founder more
founded_from : (n k : ℕ) (founded : List FoundedState) (f : FoundedState) → AreFoundedFrom n founded → k ≡ n + length founded → f.node ≡ record { 0 = k } → AreFoundedFrom n (founded ++ f ∷ [])
founded_from n k [] f all at node = (node ∙ ap (λ (m : ℕ). record { 0 = m }) (none at), tt)
  where
    none : k ≡ n + 0 → k ≡ n
    none e = omega (arith, e)
founded_from n k (g ∷ founded) f all at node = (all.0, founded_from (n + 1) k founded f all.1 (omega (arith, at)) node)

pub founded_more : (k m : ℕ) (founded more : List FoundedState) (f : FoundedState) → AreFounded founded → length founded ≡ k → m ≡ k → f.node ≡ record { 0 = m } → more ≡ founded ++ f ∷ [] → AreFounded more
founded_more k m founded more f all count same node is = subst AreFounded (sym is) (founded_from 0 m founded f all (omega (arith, count, same)) node)

-- the list of their names names them
at_front : (front : List NodeNames) (x : NodeNames) (back : List NodeNames) (n : ℕ) → n ≡ length front → slice_index_or (front ++ (x ∷ back)) n no_node ≡ x
at_front [] x back n is = ap (λ (m : ℕ). slice_index_or (x ∷ back) m no_node) is
at_front (y ∷ front) x back n is = ap (λ (m : ℕ). slice_index_or (y ∷ (front ++ (x ∷ back))) m no_node) is ∙ at_front front x back (length front) refl

one_longer : (front : List NodeNames) (x : NodeNames) (n : ℕ) → n ≡ length front → n + 1 ≡ length (front ++ x ∷ [])
one_longer [] x n is = omega (arith, is)
one_longer (y ∷ front) x n is = let more = one_longer front x (length front) refl in omega (arith, is, more)

named_from : (n : ℕ) (front : List NodeNames) (founded : List FoundedState) → n ≡ length front → AreFoundedFrom n founded → AreNamed (front ++ map names_of founded) founded
named_from n front [] count all = tt
named_from n front (f ∷ founded) count all = (
  ap (λ (id : NodeId). node_names (front ++ map names_of (f ∷ founded)) id) all.0 ∙ at_front front (names_of f) (map names_of founded) n count,
  subst (λ (l : List NodeNames). AreNamed l founded) (append_assoc front (names_of f ∷ []) (map names_of founded)) (named_from (n + 1) (front ++ names_of f ∷ []) founded (one_longer front (names_of f) n count) all.1),
)

pub names_are_named : (founded : List FoundedState) → AreFounded founded → AreNamed (map names_of founded) founded
names_are_named founded all = named_from 0 [] founded refl all

longer : (founded : List FoundedState) (f : FoundedState) (k : ℕ) → length founded ≡ k → length (founded ++ f ∷ []) ≡ k + 1
longer founded f k count =
    let more : length (founded ++ f ∷ []) ≡ length founded + 1 = length-append founded (f ∷ []) in
    omega (arith, more, count)

pub founders_more : (k : ℕ) (founded more : List FoundedState) (f : FoundedState) → AreFounded founded → length founded ≡ k → f.node ≡ record { 0 = k } → more ≡ founded ++ f ∷ []
    → AreFounded more × (length more ≡ k + 1)
founders_more k founded more f all count same is = (founded_more k k founded more f all count refl same is, ap length is ∙ longer founded f k count)
