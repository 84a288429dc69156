-- The names of founders in the order of their numbers: each finds its own.
use Rattle.std.proofs.Common.{◌≡◌, ℕ, suc, ◌+◌, ◌++◌, ◌<◌, List, [], ◌∷◌, length, map, refl, sym, ap, subst, ◌∙◌, arith, slice_index_or}
use Rattle.std.specs.List.{AllByRecursion}
use Rattle.std.proofs.lemmas.List.{get_or_append_left, get_or_push, length_push}
use Rattle.hk_base.specs.declared.stamp.NodeId.{NodeId}
use Rattle.hk_locked.specs.Places.{NodeNames, node_names, no_node}
use Rattle.hk_worker.specs.Founding.{FoundedState, names_of, AreNamed}

-- among all of these each has its number, and its names stand there
abbrev pub ArePlaced : List FoundedState → List FoundedState → Type 0
ArePlaced all fs = AllByRecursion (λ f. (f.node.0 < length all) × (node_names (map names_of all) f.node ≡ names_of f)) fs

mapped_more : (xs : List FoundedState) (y : FoundedState) → map names_of (xs ++ y ∷ []) ≡ map names_of xs ++ names_of y ∷ []
mapped_more [] y = refl
mapped_more (x ∷ xs) y = ap (λ (l : List NodeNames). names_of x ∷ l) (mapped_more xs y)

mapped_length : (xs : List FoundedState) → length (map names_of xs) ≡ length xs
mapped_length [] = refl
mapped_length (x ∷ xs) = ap suc (mapped_length xs)

still_placed : (all : List FoundedState) (y : FoundedState) (fs : List FoundedState) → ArePlaced all fs → ArePlaced (all ++ y ∷ []) fs
still_placed all y [] placed = tt
still_placed all y (f ∷ fs) placed =
    let below = placed.0.0 in
    let long = length_push all y in
    let many = mapped_length all in (
      (
        omega (arith, below, long),
        ap (λ (l : List NodeNames). slice_index_or l f.node.0 no_node) (mapped_more all y)
            ∙ get_or_append_left (map names_of all) (names_of y ∷ []) no_node f.node.0 (omega (arith, below, many))
            ∙ placed.0.1,
      ),
      still_placed all y fs placed.1,
    )

push_all : (all fs : List FoundedState) (y : FoundedState) → ArePlaced all fs → ArePlaced all (y ∷ []) → ArePlaced all (fs ++ y ∷ [])
push_all all [] y placed last = last
push_all all (f ∷ fs) y placed last = (placed.0, push_all all fs y placed.1 last)

last_placed : (all : List FoundedState) (y : FoundedState) → y.node.0 ≡ length all → ArePlaced (all ++ y ∷ []) (y ∷ [])
last_placed all y is =
    let long = length_push all y in (
      (
        omega (arith, is, long),
        ap (λ (l : List NodeNames). slice_index_or l y.node.0 no_node) (mapped_more all y)
            ∙ get_or_push (map names_of all) (names_of y) no_node y.node.0 (mapped_length all ∙ sym is),
      ),
      tt,
    )

pub placed_more : (k : ℕ) (old new : List FoundedState) (y : FoundedState) → length old ≡ k → y.node ≡ record { 0 = k } → ArePlaced old old → new ≡ old ++ y ∷ [] → (length new ≡ k + 1) × ArePlaced new new
placed_more k old new y long is placed made =
    let at : y.node.0 ≡ length old = ap (λ (id : NodeId). id.0) is ∙ sym long in
    let more : ArePlaced (old ++ y ∷ []) (old ++ y ∷ []) = push_all (old ++ y ∷ []) old y (still_placed old y old placed) (last_placed old y at) in
    (ap (λ (l : List FoundedState). length l) made ∙ length_push old y ∙ ap (λ n. n + 1) long, subst (λ (l : List FoundedState). ArePlaced l l) (sym made) more)

pub are_named : (all fs : List FoundedState) → ArePlaced all fs → AreNamed (map names_of all) fs
are_named all [] placed = tt
are_named all (f ∷ fs) placed = (placed.0.1, are_named all fs placed.1)
