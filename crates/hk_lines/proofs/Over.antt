-- That a line that is too long is the end.
use Rattle.std.proofs.Common.{◌≡◌, ℕ, ◌+◌, length, take, Bool, true, false, Option, Some, None, refl, nat_le}
use Rattle.hk_lines.specs.Cut.{Cutting, stepped, step_of, line_end, line_step, block_step, expecting}
use Rattle.hk_lines.specs.Pieces.{StaysOver, LongStays}
use Rattle.hk_lines.specs.declared.due.Due.{Due}
use Rattle.hk_lines.specs.declared.due.Due.TheVariants as due
use Rattle.hk_lines.specs.declared.step.Step.TheVariants.{Block, Need, TooLong}

line_left : (c : Cutting) (end : Option ℕ) (long : Bool) → nat_le (c.limit + 2) (length c.unread) ≡ long → (line_step c end).step ≡ TooLong → (line_step c end).rest.due ≡ due.Nothing
line_left c (Some n) long e told = absurd (cc)
line_left c None true e told = rw e refl
line_left c None false e told = absurd (let same : Need ≡ TooLong = rw e at told in cc)

block_left : (c : Cutting) (count : ℕ) (whole : Bool) → nat_le (count + 2) (length c.unread) ≡ whole → (block_step c count).step ≡ TooLong → (block_step c count).rest.due ≡ due.Nothing
block_left c count true e told = absurd (let same : Block ≡ TooLong = rw e at told in cc)
block_left c count false e told = absurd (let same : Need ≡ TooLong = rw e at told in cc)

left_by : (d : Due) (c : Cutting) → c.due ≡ d → (step_of d c).step ≡ TooLong → (step_of d c).rest.due ≡ due.Nothing
left_by due.Line c e told = line_left c (line_end (take (c.limit + 2) c.unread)) (nat_le (c.limit + 2) (length c.unread)) refl told
left_by (due.Block count) c e told = block_left c count (nat_le (count + 2) (length c.unread)) refl told
left_by due.Nothing c e told = e

left_over : (c : Cutting) → (stepped c).step ≡ TooLong → (stepped c).rest.due ≡ due.Nothing
unfolding stepped
left_over c told = left_by c.due c refl told

tells : (c : Cutting) → c.due ≡ due.Nothing → (stepped c).step ≡ TooLong
unfolding stepped
tells c over = rw over refl

expects_none : (count : ℕ) → StaysOver (λ c. expecting c count)
expects_none count c over = rw over refl

pub long_stays : LongStays
long_stays = record {
  left = left_over;
  told = tells;
  next = λ c over. left_over c (tells c over);
  feed = λ piece c over. over;
  make_room = λ room c over. over;
  write = λ bytes c over. over;
  fill = λ count c over. over;
  skip = λ count c over. over;
  expect_block = expects_none;
}
