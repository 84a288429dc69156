use Rattle.hk_merge.proofs.Serving.{founders_serve, serving_stays, merged_are_accepted}
use Rattle.hk_merge.proofs.laws.serving_stays.Goals as goal

pub returns : goal.returns
returns c = record {
  founders = founders_serve;
  stays = serving_stays c.reads_stand.ensures.step;
  accepted = merged_are_accepted;
}
