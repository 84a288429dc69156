-- The names of the cells of one node, which stand at its number, or at each that it may get.
use Rattle.std.proofs.Common.{◌≡◌, ℕ, zero, suc, List, [], ◌∷◌, ◌++◌, length, replicate, refl, ap}
use Rattle.std.proofs.lemmas.List.{get_or_push, get_or-replicate}
use Rattle.hk_locked.specs.Places.{NodeNames, node_names, no_node}
use Rattle.hk_worker.specs.Founding.{FoundedState, names_of, AreForAny}

-- of so many nodes that are elsewhere
abbrev pub elsewhere : ℕ → List NodeNames
elsewhere zero = []
elsewhere (suc n) = no_node ∷ elsewhere n

elsewhere_length : (n : ℕ) → length (elsewhere n) ≡ n
elsewhere_length zero = refl
elsewhere_length (suc n) = ap suc (elsewhere_length n)

abbrev pub alone : FoundedState → List NodeNames
alone f = elsewhere f.node.0 ++ names_of f ∷ []

pub alone_named : (f : FoundedState) → node_names (alone f) f.node ≡ names_of f
alone_named f = get_or_push (elsewhere f.node.0) (names_of f) no_node f.node.0 (elsewhere_length f.node.0)

-- of a node that gets its number later
abbrev pub anywhere : NodeNames → List NodeNames
anywhere names = replicate 65536 names

pub anywhere_named : (names : NodeNames) → AreForAny (anywhere names) names
anywhere_named names node below = get_or-replicate 65536 node.0 names no_node below
