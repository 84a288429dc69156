-- That the two ends of a greeting meet.
use Rattle.std.proofs.Common.{◌≡◌, ℕ, Bool, false, List, [], ◌∷◌, None, refl, ap}
use Rattle.std.specs.Prelude.{not, bytes_eq}
use Rattle.std.proofs.lemmas.Slice.Eq.{bytes_eq-Decides}
use Rattle.hk_hello.specs.declared.challenge.Challenge.{Challenge}
use Rattle.hk_hello.specs.declared.hello.Hello.{Hello}
use Rattle.hk_hello.specs.declared.refusal.HelloRefusal.TheVariants.{AnotherSecret, AnotherGroup, OtherHosts, AnotherLeaseOrSkew, AnotherFounding, NoSuchActor, NumberTaken}
use Rattle.hk_hello.specs.declared.judging.Ours.{Ours}
use Rattle.hk_hello.specs.declared.judging.LookedUp.{LookedUp}
use Rattle.hk_hello.specs.Hellos.{proof_of}
use Rattle.hk_hello.specs.Judging.{first_row, refusal}
use Rattle.hk_greet.specs.Greeting.{signed_by, refusal_by}
use Rattle.hk_greet.specs.Laws.{Belongs, WhoBelongsIsWelcomed}

same_bytes : (a b : List ℕ) → a ≡ b → not (bytes_eq a b) ≡ false
same_bytes a b e = ap not ((bytes_eq-Decides a b).1 e)

no_row : (a b c d e f g : Bool) → a ≡ false → b ≡ false → c ≡ false → d ≡ false → e ≡ false → f ≡ false → g ≡ false → first_row ((a, AnotherSecret) ∷ (b, AnotherGroup) ∷ (c, OtherHosts) ∷ (d, AnotherLeaseOrSkew) ∷ (e, AnotherFounding) ∷ (f, NoSuchActor) ∷ (g, NumberTaken) ∷ []) ≡ None
no_row a b c d e f g ha hb hc hd he hf hg = rw (ha, hb, hc, hd, he, hf, hg) refl

none_refused : (ours : Ours) (challenge : Challenge) (hello : Hello) (looked : LookedUp) → Belongs ours hello looked → refusal_by ours challenge (signed_by ours.secret challenge hello) looked ≡ None
unfolding refusal
none_refused ours challenge hello looked b =
    no_row _ _ _ _ _ _ _ (same_bytes (proof_of ours.secret challenge hello) (proof_of ours.secret challenge hello) refl) (same_bytes hello.group ours.group b.group) (same_bytes hello.hosts.0 ours.hosts.0 b.hosts) b.terms b.founding b.actor b.free

pub meet : WhoBelongsIsWelcomed
meet ours challenge hello looked b = (none_refused ours challenge hello looked b, refl)
