use Rattle.std.proofs.Common.{rules, arith, ◌≡◌, ℕ, suc, ◌+◌, ◌-◌, ◌≤◌, length, sym, ◌≢◌, get_or}
use Rattle.hk_lines.proofs.Feeds.{turn_none, turn_found, turn_passed, searched_on}
use Rattle.hk_lines.proofs.cutter.line_end.Goals as goal
use Rattle.hk_lines.proofs.cutter.line_end.Goals.{else-feed-gt0-via-then-feed-gt0+else-rest-feed-eq13, else-feed-gt0-via-else-feed-gt0}

pub loop-feed-init : goal.loop-feed-init
loop-feed-init c =
    let at : c.saturating_sub-at.result ≡ c.args.searched - 1 = search rules in
    rw at (grind (arith, c.requires.there), searched_on c.args.searched c.args.bytes.now c.requires.none)

pub returns-in_default-clause-end : goal.returns-in_default-clause-end
returns-in_default-clause-end c = sym (turn_none c.args.bytes.now c.split_at.result.1.now c.loop-feed.at (search rules) c.loop-feed.invariant.1 (search rules))

pub returns-then-rest-feed-eq13-clause-end : goal.returns-then-rest-feed-eq13-clause-end
returns-then-rest-feed-eq13-clause-end c = sym (turn_found c.args.bytes.now c.split_at.result.1.now c.loop-feed.at c.in-Some.feed (search rules) c.loop-feed.invariant.1 c.in-Some.ensures c.if-feed-gt0.true c.if-rest-feed-eq13.true)

sub_one : (j k : ℕ) → suc j ≡ k → k - 1 ≡ j
sub_one j k e = omega arith

pub loop-feed-preserved : goal.loop-feed-preserved
loop-feed-preserved c =
    let first = c.in-Some.ensures in
    let within : c.loop-feed.at + (c.in-Some.feed + 1) ≤ length c.args.bytes.now = grind (arith, first.0.high, c.split_at.ensures.back_len, c.loop-feed.invariant.0) in
    let no_return : (j : ℕ) → suc j ≡ c.in-Some.feed → get_or c.split_at.result.1.now j 0 ≢ 13 =
    elim c.else-feed-gt0.branch [ else-feed-gt0-via-then-feed-gt0+else-rest-feed-eq13 w ↦ (λ j e z. w.if-rest-feed-eq13.false (rw (sub_one j c.in-Some.feed e) z)) | else-feed-gt0-via-else-feed-gt0 w ↦ (λ j e z. absurd (omega (arith, e, w.if-feed-gt0.false))) ] in
    (within, turn_passed c.args.bytes.now c.split_at.result.1.now c.loop-feed.at c.in-Some.feed (search rules) c.loop-feed.invariant.1 c.in-Some.ensures no_return)
