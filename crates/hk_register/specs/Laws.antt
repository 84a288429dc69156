-- The laws of one key. Each is about every state that some run comes to.
use Rattle.std.specs.Prelude.{◌≡◌, ℕ, Option, Some, None, List, ◌<◌, ◌≤◌}
use Rattle.hk_base.specs.declared.stamp.Kind.TheVariants.{Rmw}
use Rattle.hk_base.specs.declared.call.Answer.{Answer}
use Rattle.hk_base.specs.Range.{Leaves}
use Rattle.hk_register.specs.Machine.{In, Update, RegisterState}
use Rattle.hk_register.specs.Machine.Phase.{Valid}
use Rattle.hk_register.specs.Machine.Item.{Answered}
use Rattle.hk_register.specs.Facts.{Covers, SettledIn, Complete, Rests, PassesOver}
use Rattle.hk_register.specs.Effects.{Effect, Happens, Allowed}
use Rattle.hk_register.specs.Effects.Effect.{Begin, Serve}
use Rattle.hk_register.specs.Runs.{Reached}
use Rattle.hk_register.specs.Parts.{Parts}
use Rattle.hk_register.specs.Calls.{CallParts}

-- every part of the invariant holds
abbrev pub KeepsParts : Type 0
KeepsParts = (V : ℕ → List ℕ) (st : RegisterState) → Reached V st → Parts V st

abbrev pub KeepsCalls : Type 0
KeepsCalls = (V : ℕ → List ℕ) (st : RegisterState) → Reached V st → CallParts st

-- a Valid row is settled, or no update at all
abbrev pub ValidIsSettled : Type 0
ValidIsSettled = (V : ℕ → List ℕ) (st : RegisterState) → Reached V st → (n : ℕ) → (st.node n).phase ≡ Valid → Rests V st (st.node n).stamp

-- an answered update is complete
abbrev pub AnsweredIsComplete : Type 0
AnsweredIsComplete = (V : ℕ → List ℕ) (st : RegisterState) → Reached V st → (call s : ℕ) (a : Answer) → In st.history (Answered call s a) → Complete V st s

-- Of each update that some node covered: in each view up to then some member passes over what lies between the update
-- and its base.
abbrev pub MemberPassesOver : Type 0
MemberPassesOver =
    (V : ℕ → List ℕ) (st : RegisterState) → Reached V st → (u : Update) → In st.begun u → (n e f : ℕ) → Covers st n f u.stamp → 1 ≤ e → e ≤ f → PassesOver V st e u.base u.stamp

-- an update above a settled one, covered no earlier, has a base not below it
abbrev pub BaseNotBelow : Type 0
BaseNotBelow =
    (V : ℕ → List ℕ) (st : RegisterState) → Reached V st → (u : Update) → In st.begun u → (s e n f : ℕ) → SettledIn V st s e → Covers st n f u.stamp → e ≤ f →
    s < u.stamp → s ≤ u.base

-- of the read-modify-writes of one base one at most is complete
abbrev pub NotBothComplete : Type 0
NotBothComplete =
    (V : ℕ → List ℕ) (st : RegisterState) → Reached V st → (u v : Update) → In st.begun u → In st.begun v → u.kind ≡ Rmw → v.kind ≡ Rmw → u.base ≡ v.base →
    Complete V st u.stamp → Complete V st v.stamp → u ≡ v

-- between a complete read-modify-write and its base nothing is complete
abbrev pub NothingBetween : Type 0
NothingBetween =
    (V : ℕ → List ℕ) (st : RegisterState) → Reached V st → (r : Update) → In st.begun r → r.kind ≡ Rmw → Complete V st r.stamp →
    (u : Update) → In st.begun u → Complete V st u.stamp → r.base < u.stamp → u.stamp < r.stamp → ⊥

-- an update that leaves nothing is a read-modify-write
abbrev pub OnlyRmwLeavesNothing : Type 0
OnlyRmwLeavesNothing = (V : ℕ → List ℕ) (st : RegisterState) → Reached V st → (u : Update) → In st.begun u → Leaves u.kind u.content

-- the node at which an effect serves a call, if it does
abbrev pub served_at : Effect → Option ℕ
served_at (Begin n u) = Some n
served_at (Serve n call op answer) = Some n
served_at e = None

-- wherever a call is served, the row is not below anything complete
abbrev pub ServedIsFresh : Type 0
ServedIsFresh =
    (V : ℕ → List ℕ) (st : RegisterState) → Reached V st → (e : Effect) → Allowed V st e → (n : ℕ) → served_at e ≡ Some n →
    (s : ℕ) → Complete V st s → s ≤ (st.node n).stamp

-- one effect keeps both parts of the invariant, from wherever they hold
abbrev pub EffectKeepsParts : Type 0
EffectKeepsParts = (V : ℕ → List ℕ) (old new : RegisterState) (e : Effect) → Happens V old e new → Parts V old → Parts V new

abbrev pub EffectKeepsCalls : Type 0
EffectKeepsCalls = (V : ℕ → List ℕ) (old new : RegisterState) (e : Effect) → Happens V old e new → Parts V old → CallParts old → CallParts new
