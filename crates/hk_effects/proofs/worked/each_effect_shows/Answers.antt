use Rattle.std.proofs.Common.{refl}
use Rattle.hk_effects.proofs.Shown.{val_kept_shows, left_invalid_shows, countered_shows, replayed_shows}
use Rattle.hk_effects.proofs.ShownViews.{pending_installed_shows, left_alone_shows, view_begun_shows, joined_shows, copied_valid_shows, passed_shows}
use Rattle.hk_effects.proofs.worked.each_effect_shows.Goals as goal

pub returns-clause-kept : goal.returns-clause-kept
returns-clause-kept c = val_kept_shows

pub returns-clause-left_invalid : goal.returns-clause-left_invalid
returns-clause-left_invalid c = left_invalid_shows

pub returns-clause-countered : goal.returns-clause-countered
returns-clause-countered c = countered_shows

pub returns-clause-replayed : goal.returns-clause-replayed
returns-clause-replayed c = replayed_shows

pub returns-clause-pending : goal.returns-clause-pending
returns-clause-pending c = pending_installed_shows

pub returns-clause-alone : goal.returns-clause-alone
returns-clause-alone c = left_alone_shows

pub returns-clause-begun : goal.returns-clause-begun
returns-clause-begun c = view_begun_shows

pub returns-clause-joined : goal.returns-clause-joined
returns-clause-joined c = joined_shows

pub returns-clause-copied : goal.returns-clause-copied
returns-clause-copied c = copied_valid_shows

pub returns-clause-passed : goal.returns-clause-passed
returns-clause-passed c = passed_shows

pub returns-clause-each : goal.returns-clause-each
returns-clause-each c = refl
