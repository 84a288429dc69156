use Rattle.std.proofs.Common.{false, true, refl, inl, inr, []}
use Rattle.hk_register.specs.Machine.{In}
use Rattle.hk_register.specs.Effects.{Effect}
use Rattle.hk_register.specs.Runs.{start}
use Rattle.hk_register.specs.Worked.{Possible, EachHappens, two, three, shrinking, growing, settled_rule, two_increments, aborted_in_effect, val_kept_in_trans, joiner}
use Rattle.hk_register.proofs.Grow.{each_in}
use Rattle.hk_register.proofs.Worked.{each_possible}
use Rattle.hk_register.proofs.Plays.{settled_rule_plays, two_increments_plays, aborted_in_effect_plays, val_kept_in_trans_plays, joiner_plays}
use Rattle.hk_register.proofs.each_effect_happens.Goals as goal

settled : (e : Effect) → In settled_rule e → Possible e
settled e h = each_in Possible settled_rule e (each_possible three (start three) settled_rule (record { run = []; runs = tt; at = refl }) settled_rule_plays) h

increments : (e : Effect) → In two_increments e → Possible e
increments e h = each_in Possible two_increments e (each_possible two (start two) two_increments (record { run = []; runs = tt; at = refl }) two_increments_plays) h

aborts : (e : Effect) → In aborted_in_effect e → Possible e
aborts e h = each_in Possible aborted_in_effect e (each_possible shrinking (start shrinking) aborted_in_effect (record { run = []; runs = tt; at = refl }) aborted_in_effect_plays) h

kept : (e : Effect) → In val_kept_in_trans e → Possible e
kept e h = each_in Possible val_kept_in_trans e (each_possible two (start two) val_kept_in_trans (record { run = []; runs = tt; at = refl }) val_kept_in_trans_plays) h

joins : (e : Effect) → In joiner e → Possible e
joins e h = each_in Possible joiner e (each_possible growing (start growing) joiner (record { run = []; runs = tt; at = refl }) joiner_plays) h

all : EachHappens
all = record {
  begin = (0, _, settled _ (inl refl));
  take_inv = (2, 0, 131072, _, _, _, settled _ (inr (inr (inr (inl refl)))));
  ack_inv = (1, 0, 131072, _, _, settled _ (inr (inr (inl refl))));
  counter_inv = (1, 0, 196608, _, _, increments _ (inr (inr (inr (inr (inr (inr (inr (inl refl)))))))));
  note_ack = (0, 1, 131073, _, _, settled _ (inr (inr (inr (inr (inl refl))))));
  settle = (0, _, increments _ (inr (inr (inr (inl refl)))));
  finish_valid = (0, _, kept _ (inr (inr (inr (inr (inr (inr (inr (inr (inl refl))))))))));
  finish_invalid = (0, _, settled _ (inr (inr (inr (inr (inr (inr (inl refl))))))));
  take_val = (1, 0, increments _ (inr (inr (inr (inr (inl refl))))));
  keep_val = (0, 1, kept _ (inr (inr (inr (inr (inr (inr (inl refl))))))));
  start_replay = (2, aborts _ (inr (inr (inr (inr (inr (inr (inr (inr (inr (inr (inr (inr (inl refl))))))))))))));
  resend = (0, _, joins _ (inr (inl refl)));
  install = (1, 2, joins _ (inr (inr (inr (inr (inl refl))))));
  install_pending = (0, 2, _, joins _ (inr (inr (inr (inl refl)))));
  give_row = (0, false, joins _ (inr (inr (inr (inr (inr (inl refl)))))));
  copy_row = (1, 0, 131072, _, _, false, joins _ (inr (inr (inr (inr (inr (inr (inl refl))))))));
  pass_row = (1, 0, 131072, _, _, true, joins _ (inr (inr (inr (inr (inr (inr (inr (inr (inr (inr (inr (inr (inl refl))))))))))))));
  copy_valid = (1, 0, 131072, _, _, joins _ (inr (inr (inr (inr (inr (inr (inr (inr (inr (inr (inr (inl refl)))))))))))));
  get_ready = (1, joins _ (inr (inr (inr (inr (inr (inr (inr (inr (inr (inr (inr (inr (inr (inl refl)))))))))))))));
  look = (1, 3, _, _, joins _ (inr (inr (inr (inr (inr (inr (inr (inr (inr (inr (inr (inr (inr (inr (inl refl))))))))))))))));
  refuse = (0, 2, _, _, joins _ (inr (inr (inl refl))));
  quiet = (0, joins _ (inr (inr (inr (inr (inr (inr (inr (inr (inr (inr (inr (inr (inr (inr (inr (inl refl)))))))))))))))));
}

pub returns : goal.returns
returns c = all
