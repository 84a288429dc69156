-- STATUS, until a host tells which node a host has.
use Rattle.std.proofs.Common.{◌≡◌, ◌<◌, ℕ, ◌+◌, true, List, [], ◌∷◌, ◌++◌, length, Option, None, Some, is_none, Ok, Err, refl, sym, ap, subst, ◌∙◌}
use Rattle.std.specs.List.{list_all}
use Rattle.std.proofs.lemmas.List.{length-append}
use Rattle.hk_base.specs.declared.stamp.NodeId.{NodeId}
use Rattle.hk_inside.specs.declared.inquiry.Inquiry.TheVariants.{Status}
use Rattle.hk_init.specs.declared.fault.CommandFault.{CommandFault}
use Rattle.hk_init.specs.Deeds.{Outcome, Deed, Exchange, Does, exchanges}
use Rattle.hk_init.specs.Leaving.{later, last_told, why_not, node_told, lacks_node, untold, IsLookedUp}
use Rattle.hk_init.proofs.Deeds.{asks_more}
use Rattle.hk_init.proofs.Founding.{all_more}
use Rattle.hk_init.proofs.Rounds.{told_more}

-- none before this place told it
abbrev pub Untold : ℕ → List Outcome → ℕ → Option CommandFault → Option (List Deed) → Option (List Deed) → Type 0
Untold host outcomes place told before between = Does before between (exchanges Status outcomes) × (length outcomes ≡ place) ×
    (list_all (lacks_node host) outcomes ≡ true) × (told ≡ last_told (untold host) 0 outcomes)

-- the next host does
pub lookup_finds : (host count : ℕ) (outcomes : List Outcome) (place : ℕ) (told : Option CommandFault) (before between now : Option (List Deed)) (outcome : Outcome) (node : NodeId) →
    Untold host outcomes place told before between → place < count → Does between now (Exchange place Status outcome ∷ []) → Some node.0 ≡ node_told host outcome →
    (deeds : List Deed) × Does before now deeds × IsLookedUp host count deeds (Ok node)
lookup_finds host count outcomes place told before between now outcome node at below that is =
    let R : ℕ → Type 0 = λ p. p < count in (
      exchanges Status (outcomes ++ outcome ∷ []),
      asks_more Status outcomes outcome place before between now at.1 at.0 that,
      (outcomes, outcome, refl, subst R (sym at.1) below, at.2, sym is),
    )

-- nor does the next one
pub lookup_goes_on : (host : ℕ) (outcomes : List Outcome) (place : ℕ) (told : Option CommandFault) (before between now : Option (List Deed)) (outcome : Outcome) (a told' : Option CommandFault) →
    Untold host outcomes place told before between → Does between now (Exchange place Status outcome ∷ []) → None ≡ node_told host outcome →
    a ≡ untold host place outcome → told' ≡ later a told →
    (grown : List Outcome) × Untold host grown (place + 1) told' before now
lookup_goes_on host outcomes place told before between now outcome a told' at that is is_a is_told =
    let lacks : lacks_node host outcome ≡ true = ap (λ n. is_none n) (sym is) in (
      outcomes ++ outcome ∷ [],
      (
        asks_more Status outcomes outcome place before between now at.1 at.0 that,
        length-append outcomes (outcome ∷ []) ∙ ap (λ n. n + 1) at.1,
        all_more (lacks_node host) outcomes outcome at.2 lacks,
        told_more (untold host) outcomes outcome place told a told' at.1 at.3 is_a is_told,
      ),
    )

-- no host did
pub lookup_fails : (host count : ℕ) (outcomes : List Outcome) (place : ℕ) (told : Option CommandFault) (before now : Option (List Deed)) (fault : CommandFault) →
    Untold host outcomes place told before now → place ≡ count → fault ≡ why_not told →
    (deeds : List Deed) × Does before now deeds × IsLookedUp host count deeds (Err fault)
lookup_fails host count outcomes place told before now fault at all is =
    (exchanges Status outcomes, at.0, (outcomes, refl, at.1 ∙ all, at.2, is ∙ ap (λ t. why_not t) at.3))
