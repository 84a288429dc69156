-- What a step of a manager replaced, and the manager with the step undone.
use Rattle.std.specs.Prelude.{◌≡◌, ℕ, List, Option, IsSome, unwrap_or, Result, Ok, Err, ⊤}
use Rattle.std.specs.Ordering.{nat_cmp}
use Rattle.std.specs.BTreeMap.{is_at}
use Rattle.std.specs.Map.{lookup}
use Rattle.hk_lease.specs.Entries.{entry_rolled_back}
use Rattle.hk_lease.specs.Grants.{noted_for, until_rolled_back}
use Rattle.hk_manager.specs.declared.instance.Instance.{Instance}
use Rattle.hk_manager.specs.declared.out.Replaced.{Replaced}
use Rattle.hk_manager.specs.declared.out.Replaced.TheVariants as Replaced
use Rattle.hk_manager.specs.declared.out.ManagerOut.{ManagerOut}
use Rattle.hk_manager.specs.Manager.{ManagerState}

-- what is known of an instance, if anything is
abbrev pub known_of : ℕ → List (ℕ × Instance) → Option Instance
known_of epoch instances = lookup (is_at (nat_cmp epoch)) instances

-- what was known of it before is given back
abbrev pub instance_rolled_back : ℕ → Option Instance → List (ℕ × Instance) → List (ℕ × Instance)
instance_rolled_back epoch instance instances = entry_rolled_back (is_at (nat_cmp epoch)) instance instances

-- the manager with a step undone that replaced this
abbrev pub rolled_back : Replaced → ManagerState → ManagerState
rolled_back Replaced.Nothing m = m
rolled_back (Replaced.Clock clock) m = record m { clock = clock }
rolled_back (Replaced.Until node until) m = record m { untils = until_rolled_back m.untils node until }
rolled_back (Replaced.Instance epoch instance) m = record m { instances = instance_rolled_back epoch instance m.instances }
rolled_back (Replaced.Begun epoch instance proposal) m = record m { instances = instance_rolled_back epoch instance m.instances; proposal = proposal }
rolled_back (Replaced.Proposal proposal held) m = record m { proposal = proposal; held = unwrap_or held m.held }
rolled_back (Replaced.Held view) m = record m { held = view }

-- what took the place of an until, or of an instance, stands there
abbrev pub IsThere : Replaced → ManagerState → Type 0
IsThere Replaced.Nothing m = ⊤
IsThere (Replaced.Clock clock) m = ⊤
IsThere (Replaced.Until node until) m = IsSome (noted_for m.untils node)
IsThere (Replaced.Instance epoch instance) m = IsSome (known_of epoch m.instances)
IsThere (Replaced.Begun epoch instance proposal) m = IsSome (known_of epoch m.instances)
IsThere (Replaced.Proposal proposal held) m = ⊤
IsThere (Replaced.Held view) m = ⊤

-- A step that made `new` of `old` replaced this: with that given back the manager is as it was.
pub record HasReplaced (replaced : Replaced) (old new : ManagerState) : Type 0 where
  pub there : IsThere replaced new
  pub back : rolled_back replaced new ≡ old

-- so it is told of a step that was made
abbrev pub TellsReplaced : {Fault : Type 0} → Result ManagerOut Fault → (old new : ManagerState) → Type 0
TellsReplaced (Ok out) old new = HasReplaced out.replaced old new
TellsReplaced (Err fault) old new = ⊤
