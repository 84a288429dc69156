-- Who is dialled, and when.
use Rattle.std.specs.Prelude.{◌≡◌, ◌⊎◌, ℕ, true, List, Option, None, Some}
use Rattle.hk_base.specs.declared.letter.Actor.{Actor}
use Rattle.hk_hosts.specs.declared.address.Address.{Address}
use Rattle.hk_hosts.specs.Dialling.{DialsAt}
use Rattle.hk_shared_state.specs.declared.identity.Identity.{Identity}
use Rattle.hk_shared_state.specs.Standings.{IsReachedThen}
use Rattle.hk_channel.specs.declared.retry.Retry.{Retry}
use Rattle.hk_channel.specs.Retrying.{is_due, in_vain, after_all}

-- an actor was dialled once where it is reached, or nobody was
abbrev pub DialsOnce : Identity → Actor → Option (List Address) → Option (List Address) → Type 0
DialsOnce i to before after =
    (after ≡ before) ⊎ ((address : Address) × IsReachedThen i to (Some address) × DialsAt before after address)

-- nobody was tried
pub record Rests (retry retry' : Retry) (before after : Option (List Address)) : Type 0 where
  pub same : retry' ≡ retry
  pub none_dialled : after ≡ before

-- An actor was tried, not before it was due, and the retry is what this makes of it.
pub record IsTried (IsNow : ℕ → Type 0) (next : ℕ → Retry) (retry retry' : Retry) : Type 0 where
  pub now : ℕ
  pub is_now : IsNow now
  pub due : is_due retry now ≡ true
  pub then : retry' ≡ next now

-- Nobody is tried before it is due. Else from now on somebody was tried in vain.
abbrev pub Begins : {A : Type 0} → (ℕ → Type 0) → Option A → Retry → Retry → Type 0
Begins IsNow None retry retry' = (retry' ≡ retry) ⊎ IsTried IsNow (λ now. in_vain now retry) retry retry'
Begins IsNow (Some call) retry retry' = IsTried IsNow (λ now. in_vain now retry) retry retry'

-- Where there is a connection nobody is tried. Else nobody is, or the actor is in vain, or there is a connection then.
-- Who is dialled is the actor, and once, and only where it was tried.
module _ (i : Identity) (to : Actor) (IsNow : ℕ → Type 0) where
  abbrev pub Tries : (ℕ → Retry) → Retry → Retry → Option (List Address) → Option (List Address) → Type 0
  Tries next retry retry' before after = IsTried IsNow next retry retry' × DialsOnce i to before after

  abbrev pub Redials : {C : Type 0} → Option C → Option C → Retry → Retry → Option (List Address) → Option (List Address) → Type 0
  Redials (Some conn) conn' retry retry' before after = Rests retry retry' before after
  Redials None None retry retry' before after =
      Rests retry retry' before after ⊎ Tries (λ now. in_vain now retry) retry retry' before after
  Redials None (Some conn') retry retry' before after = Tries (λ now. after_all retry) retry retry' before after
