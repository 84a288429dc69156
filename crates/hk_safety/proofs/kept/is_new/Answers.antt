use Rattle.hk_safety.proofs.Answering.{prior_within, new_found, new_none}
use Rattle.hk_safety.proofs.kept.is_new.Goals as goal

pub prior_tag-requires : goal.prior_tag-requires
prior_tag-requires c = prior_within c.args.acted.now c.in-Some.acted c.as_slice.result.now c.args.key.now c.in-Some.is c.as_slice.ensures c.in-Some-find_prior.prior.now
    c.requires c.in-Some-find_prior.ensures

pub returns-in-Some-find_prior : goal.returns-in-Some-find_prior
returns-in-Some-find_prior c = new_found c.args.acted.now c.in-Some.acted c.as_slice.result.now c.args.key.now c.in-Some.is c.as_slice.ensures
    c.in-Some-find_prior.prior.now c.args.tag c.prior_tag.result c.in-Some-find_prior.ensures c.prior_tag.ensures

pub returns-in-None : goal.returns-in-None
returns-in-None c = new_none c.args.acted.now c.in-Some.acted c.as_slice.result.now c.args.key.now c.in-Some.is c.as_slice.ensures c.args.tag c.in-None.ensures
