-- What the two ends of a greeting promise together.
use Rattle.std.specs.Prelude.{◌≡◌, false, None}
use Rattle.hk_hello.specs.declared.challenge.Challenge.{Challenge}
use Rattle.hk_hello.specs.declared.hello.Hello.{Hello}
use Rattle.hk_hello.specs.declared.answer.Answer.TheVariants as answer
use Rattle.hk_hello.specs.declared.judging.Ours.{Ours}
use Rattle.hk_hello.specs.declared.judging.LookedUp.{LookedUp}
use Rattle.hk_hello.specs.Judging.{has_other_terms, differ, lacks_actor}
use Rattle.hk_greet.specs.Greeting.{signed_by, right_welcome, answer_by, refusal_by}

-- A dialler is of the acceptor's group: name, hosts, lease and skew are the same, and no two foundings differ; who it
-- asks for is there, and its own number is bound, if it needs to be, and free.
pub record Belongs (ours : Ours) (hello : Hello) (looked : LookedUp) : Type 0 where
  pub group : hello.group ≡ ours.group
  pub hosts : hello.hosts.0 ≡ ours.hosts.0
  pub terms : has_other_terms ours hello ≡ false
  pub founding : differ hello.founding looked.founding ≡ false
  pub actor : lacks_actor looked hello ≡ false
  pub free : looked.is_taken ≡ false

-- If it knows the secret too it is taken, and the welcome that it gets is the one that shows it that the acceptor knows
-- the secret.
abbrev pub WhoBelongsIsWelcomed : Type 0
WhoBelongsIsWelcomed =
    (ours : Ours) (challenge : Challenge) (hello : Hello) (looked : LookedUp) → Belongs ours hello looked
    → (refusal_by ours challenge (signed_by ours.secret challenge hello) looked ≡ None)
    × (answer_by None ours.secret challenge (signed_by ours.secret challenge hello) ≡ answer.Welcome (record { 0 = right_welcome ours.secret challenge hello }))
