use Rattle.std.proofs.Common.{[], ◌∷◌}
use Rattle.hk_worker.specs.Founding.{names_of}
use Rattle.hk_rows_turns.proofs.workers.what_waits_is_sent_again_at_the_second_call.Given as goal

-- node 0 alone is named
abbrev pub ghosts-sent_again : goal.ghosts-sent_again
ghosts-sent_again g a = record { places = names_of a.founded ∷ [] }
