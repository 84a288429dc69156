-- What stands on a connection for letters: what was said in its greeting, and behind that whole frames.
use Rattle.std.specs.Prelude.{◌≡◌, ◌⊎◌, ⊤, ℕ, Bool, true, false, List, Option, None, Some}
use Rattle.std.specs.Io.KnownBytes.{Appends}
use Rattle.hk_hello.specs.declared.hello.Hello.{Hello}
use Rattle.hk_greet.specs.Standing.{Standing}
use Rattle.hk_peer.specs.Sending.{IsFront}
use Rattle.hk_channel.specs.Greeted.{IsGreeted}

-- the frames were written and nothing else, or nothing was
abbrev pub IsWhole : List ℕ → Option (List ℕ) → Option (List ℕ) → Type 0
IsWhole frames held held' = Appends held held' frames ⊎ (held' ≡ held)

-- so it is of a connection that is kept; of another one a front may have been written
abbrev pub Sent : Bool → List ℕ → Option (List ℕ) → Option (List ℕ) → Type 0
Sent true frames held held' = IsWhole frames held held'
Sent false frames held held' = IsFront frames held held'

-- of a connection that was dialled, greeted and taken before that
pub record IsFirst (secret : List ℕ) (IsSaid : Hello → Type 0) (frames : List ℕ) (conn' : Standing) : Type 0 where
  pub conn : Standing
  pub greeted : IsGreeted secret IsSaid conn
  pub whole : IsWhole frames conn.held conn'.held

-- A connection that is kept, or one that is new, has these frames whole or nothing of them: so no front of a frame is
-- followed by another frame, and none stands before the acceptor's welcome.
abbrev pub HasWhole : List ℕ → (Hello → Type 0) → List ℕ → Option Standing → Option Standing → Type 0
HasWhole secret IsSaid frames before None = ⊤
HasWhole secret IsSaid frames (Some conn) (Some conn') = IsWhole frames conn.held conn'.held
HasWhole secret IsSaid frames None (Some conn') = IsFirst secret IsSaid frames conn'
