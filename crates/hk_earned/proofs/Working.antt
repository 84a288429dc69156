-- The worked run is one.
use Rattle.std.proofs.Common.{◌≡◌, Bool, true, false, nat_le, nat_eq, ◌||◌, refl, sym, ◌∙◌, inl, inr, arith}
use Rattle.std.proofs.lemmas.Bool.{false≢true, leb-true, le-leb}
use Rattle.hk_base.specs.declared.stamp.NodeId.{NodeId}
use Rattle.hk_earned.specs.Machine.{IsRun, start, member}
use Rattle.hk_earned.specs.Earned.{NeverReturns}
use Rattle.hk_earned.specs.Worked.{of_three, events, WorkedRun}

runs : IsRun of_three (start of_three) events
runs = (
  refl,
  (
    refl,
    (
      (refl, inr (inl refl), refl),
      (
        (refl, inl refl, refl),
        (
          (refl, inr (inl refl)),
          (
            (refl, inl refl),
            (
              (refl, omega arith),
              (
                (refl, omega arith),
                ((omega arith, tt), ((refl, refl), ((refl, refl), ((refl, inr (inl refl), omega arith), ((refl, inl refl, omega arith), ((refl, omega arith), tt)))))),
              ),
            ),
          ),
        ),
      ),
    ),
  ),
)

-- by which of the two views each is
stays : NeverReturns of_three
stays e f g n low high = at (nat_le e 1) (nat_le f 1) (nat_le g 1) refl refl refl
  where
    both : NodeId → Bool
    both n = nat_eq 0 n.0 || (nat_eq 1 n.0 || false)

    one : NodeId → Bool
    one n = nat_eq 0 n.0 || false

    more : (t u : Bool) → (t || false) ≡ true → (t || (u || false)) ≡ true
    more true u h = refl
    more false u h = absurd (false≢true h)

    at : (t u v : Bool) → nat_le e 1 ≡ t → nat_le f 1 ≡ u → nat_le g 1 ≡ v → member of_three e n ≡ true → member of_three g n ≡ true → member of_three f n ≡ true
    at t true true p q r was is = rw q (rw r at is)
    at t true false p q r was is = rw q (more (nat_eq 0 n.0) (nat_eq 1 n.0) (rw r at is))
    at t false false p q r was is = rw q (rw r at is)
    at t false true p q r was is = let l = leb-true g 1 r in absurd (false≢true (sym q ∙ le-leb f 1 (omega (arith, l, high))))

pub worked_run : WorkedRun
worked_run = record {
  runs = runs;
  stays = stays;
  installed = inl refl;
  left_out = record { before = 1; first = omega arith; lower = omega arith; was = refl; out = refl; live = refl };
  granted = refl;
  by_majority = omega arith;
}
