use Rattle.std.proofs.Common.{rules, ◌≡◌, ◌∙◌, min, inl, arith}
use Rattle.hk_base.specs.declared.time.TheConstants.{MAX_TIME}
use Rattle.hk_overseer.specs.Turns.{with_clocks}
use Rattle.hk_overseer.proofs.Turning.{told_by, fed}
use Rattle.hk_overseer.proofs.post.ManagerPost.turn.Goals as goal

pub returns-in-Some : goal.returns-in-Some
returns-in-Some g c =
    let cut : c.min.result ≡ min c.now.result MAX_TIME = search rules in
    record {
      now = c.min.result;
      within = omega (arith, cut);
      told = told_by (g.C.Clock.reading c.args.clock.now) c.now.result c.min.result c.now.ensures cut;
      made = inl (c.in-Some.parcel, fed _ (with_clocks c.min.result c.args.self.now) c.in-Some.parcel c.take.new.self c.feed.new.self (c.self.view_is ∙ c.tick.ensures) c.take.ensures.link c.in-Some.ensures.taken c.feed.ensures);
    }
